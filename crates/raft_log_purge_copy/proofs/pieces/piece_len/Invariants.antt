use Rattle.std.proofs.Common.{◌≡◌, ◌+◌, drop, sum_by, take}
use Rattle.raft_log_purge_copy.specs.Entries.{max_piece}
use Rattle.raft_log_purge_copy.specs.Pieces.{fitting}
use Rattle.raft_log_purge_copy.proofs.pieces.piece_len.Given as goal

-- what the entries so far have and what is left make up the greatest size; and all of them fit
abbrev pub invariant-loop-i : goal.invariant-loop-i
invariant-loop-i l = record {
  sum : l.left + sum_by (λ e. e.entry_len) (take l.i l.entries) ≡ max_piece;
  fits : fitting max_piece l.entries ≡ l.i + fitting l.left (drop l.i l.entries);
}

use Rattle.std.proofs.Common.{◌≡◌, ℕ, take, Some}
use Rattle.raft_log_memtables.specs.Tables.{counts, replayed_of, IsAtRest}
use Rattle.raft_log_replay_context.specs.Noting.{is_listed, NotesAll}
use Rattle.raft_log_replay_context.proofs.settle.note_each.Given as goal

-- the files are noted of the groups so far
abbrev pub invariant-loop-group : goal.invariant-loop-group
invariant-loop-group l = record {
  notes : NotesAll (Some l.files) (λ g. is_listed g (take l.group-index l.groups)) (replayed_of l.fn.tables) (replayed_of l.tables);
  counts : (g : ℕ) → counts l.tables g ≡ counts l.fn.tables g;
  rest : IsAtRest l.fn.tables → IsAtRest l.tables;
}

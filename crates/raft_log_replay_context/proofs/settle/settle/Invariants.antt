use Rattle.std.proofs.Common.{◌≡◌, ◌++◌, ℕ, None}
use Rattle.std.specs.Vec.Iter.{into_iter_items}
use Rattle.raft_log_memtables.specs.Tables.{IsAtRest}
use Rattle.raft_log_replay_context.specs.Noting.{files_after, is_listed, parts_mention, ReadsParts}
use Rattle.raft_log_replay_context.proofs.settle.settle.Given as goal

-- the tables took the records so far
abbrev pub invariant-loop-part : goal.invariant-loop-part
invariant-loop-part l = record {
  all : l.yielded ++ into_iter_items l.part-iterator ≡ l.fn.parts.items;
  taken : ReadsParts l.yielded l.fn.tables l.tables;
  files : l.files ≡ files_after None l.yielded;
  rest : IsAtRest l.fn.tables → IsAtRest l.tables;
  groups : (g : ℕ) → is_listed g l.groups.items ≡ parts_mention g l.yielded;
}

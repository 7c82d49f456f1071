use Rattle.std.proofs.Common.{ap, ◌∙◌, ℕ, List, Some}
use Rattle.std.specs.Str.{bytes_eq}
use Rattle.std.specs.Map.{update}
use Rattle.std.specs.String.{string_bytes}
use Rattle.std.proofs.lemmas.Map.Text.{btree_map_updates_text}
use Rattle.raft_log_fs_state.specs.Storage.{node_at}
use Rattle.raft_log_fs_state.proofs.storage.Storage.name.Goals as goal
use Rattle.raft_log_fs_state.proofs.storage.Storage.name.Goals.{in-Ok, in-Err}

pub returns-clause-ok : goal.returns-clause-ok
returns-clause-ok c = elim c.match-insert.branch [
  | in-Ok w ↦ rw w.result-is (λ q.
      btree_map_updates_text (string_bytes c.in_ok-path.path) c.args.self.now.paths c.insert.new.self (Some c.args.node) w.in-Ok.ensures.updates q
      ∙ ap (λ (path : List ℕ). update bytes_eq (node_at c.args.self.now) path (Some c.args.node) q) c.in_ok-path.ensures.ok)
  | in-Err w ↦ rw w.result-is tt
]

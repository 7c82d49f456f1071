use Rattle.std.proofs.Common.{ap, ◌∙◌, ℕ, List, Some}
use Rattle.std.specs.Str.{bytes_eq}
use Rattle.std.specs.Map.{update}
use Rattle.std.specs.String.{string_bytes}
use Rattle.std.proofs.lemmas.Map.Text.{btree_map_updates_text}
use std.Path.{fun_ext}
use Rattle.raft_log_fs_traced.specs.Space.{spaces_of}
use Rattle.raft_log_fs_traced.proofs.directory.DirectoryFileSystem.set_space.Goals as goal
use Rattle.raft_log_fs_traced.proofs.directory.DirectoryFileSystem.set_space.Goals.{in-Ok, in-Err}

pub returns-clause-ok : goal.returns-clause-ok
returns-clause-ok g c = elim c.match-insert.branch [
  | in-Ok w ↦ rw w.result-is (fun_ext (λ q.
      btree_map_updates_text (string_bytes c.in_ok-directory.directory) c.args.self.now.spaces c.insert.new.self (Some c.args.bytes) w.in-Ok.ensures.updates q
      ∙ ap (λ (path : List ℕ). update bytes_eq (spaces_of g.D.Device c.args.self.now) path (Some c.args.bytes) q) c.in_ok-directory.ensures.ok))
  | in-Err w ↦ rw w.result-is tt
]

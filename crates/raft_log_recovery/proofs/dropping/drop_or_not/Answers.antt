use Rattle.std.proofs.Common.{ℕ, List, subst, ◌∙◌}
use Rattle.raft_log_fs.specs.Exits.{FailsToDelete}
use Rattle.raft_log_recovery.specs.Dropping.DropsOrNot.{refused}
use Rattle.raft_log_recovery.proofs.dropping.drop_or_not.Goals as goal

pub returns-clause-ok : goal.returns-clause-ok
returns-clause-ok g c =
    let D = g.F.FileSystem.disk in
    refused c.in-Err.kind (subst (λ (p : List ℕ). FailsToDelete p c.in-Err.kind (D c.args.file_system.now) (D c.delete.new.self)) (c.as_str.ensures.value ∙ c.in_ok-path.ensures.ok) c.in-Err.ensures.err)

use Rattle.std.proofs.Common.{rules, ap, sym, ◌∙◌, ◌≡◌, ℕ, Bool, Option, Some}
use Rattle.raft_log_fs.specs.Calls.{with_marks, marked}
use Rattle.raft_log_fs_memory.specs.Memory.{disk_of, is_denied}
use Rattle.raft_log_fs_memory.proofs.Denied.{marks_more}
use Rattle.raft_log_fs_memory.proofs.memory.MemoryFileSystem.deny_read.Goals as goal

pub returns-in_ok-push-clause-ok : goal.returns-in_ok-push-clause-ok
returns-in_ok-push-clause-ok c =
    let old = c.args.self.now in
    let named : (disk_of old).names c.args.name.now ≡ Some c.in-Some.file = search rules in
    ap (λ (marks : ℕ → ℕ → Bool). with_marks marks (disk_of old))
    (ap is_denied c.in_ok-push.ensures.items ∙ (marks_more old.denied.items c.in-Some.file c.args.place
    ∙ ap (λ (o : Option ℕ). marked o c.args.place (is_denied old.denied.items)) (sym named)))

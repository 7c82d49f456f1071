use Rattle.std.proofs.Common.{arith, ap, ◌≡◌, ◌∙◌, ◌-◌, ℕ, min}
use Rattle.raft_log_fs_state.specs.Storage.{contents_of}
use Rattle.raft_log_fs_state.specs.Steps.{size_of}
use Rattle.raft_log_fs_state.proofs.Whole.{noted_growth}
use Rattle.raft_log_fs_state.proofs.storage.Storage.fail_to_grow.Goals as goal

pub returns-in-Ok-clause-ok : goal.returns-in-Ok-clause-ok
returns-in-Ok-clause-ok c =
    let made = c.min-made.result in
    let size = c.args.size in
    let is : made ≡ min (size_of ((contents_of c.args.self.now).files c.args.id)) size = c.min-made.ensures ∙ ap (λ (n : ℕ). min n size) c.size.ensures in
    noted_growth c.args.self.now _ c.args.id made (size - made) size is (omega (arith, is)) c.in-Ok.ensures.ok

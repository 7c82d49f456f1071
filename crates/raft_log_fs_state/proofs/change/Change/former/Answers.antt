use Rattle.std.proofs.Common.{subst, ℕ}
use Rattle.std.specs.Prelude.{IfOk}
use Rattle.raft_log_fs_state.specs.Changes.{change_of}
use Rattle.raft_log_fs_state.specs.Former.{Keeps}
use Rattle.raft_log_fs_state.proofs.Restoring.{kept_restores}
use Rattle.raft_log_fs_state.proofs.change.Change.former.Goals as goal

pub returns : goal.returns
returns c =
    let content = c.args.content.now in
    let front = c.front-front.result.now in
    let span = c.replaced-start.result in
    kept_restores (change_of c.args.self.now c.args.bytes.now) content front span c.of.result c.front-front.ensures.all c.replaced-start.ensures
    (subst (λ (n : ℕ). IfOk c.of.result (Keeps n front span.0 span.1)) c.len-size.ensures.all c.of.ensures)

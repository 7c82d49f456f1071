use Rattle.std.proofs.Common.{arith, ap, ◌≡◌, ◌∙◌, ℕ}
use Rattle.std.specs.Prelude.{max}
use Rattle.raft_log_fs.specs.Disk.{grown}
use Rattle.raft_log_fs_state.proofs.Behind.{grown_further}
use Rattle.raft_log_fs_state.proofs.content.Content.fill.Goals as goal

pub returns-clause-ok : goal.returns-clause-ok
returns-clause-ok c =
    let old = c.self.inside in
    let more = c.args.size in
    let items : c.grow_to.new.bytes.items ≡ grown more old.front.items = c.in_ok-grow_to.ensures in
    let size : c.max-self-inside.result ≡ max old.size more = omega (arith, c.max-self-inside.ensures) in
    ap (λ (n : ℕ). grown n c.grow_to.new.bytes.items) size
    ∙ (ap (grown (max old.size more)) items
    ∙ (grown_further more old.size old.front.items ∙ ap (grown more) c.self.view_is))

use Rattle.std.proofs.Common.{arith, ap, ◌≡◌, ◌∙◌, ◌++◌, ◌-◌, ℕ, List, length, take, drop}
use Rattle.std.specs.Prelude.{min}
use Rattle.raft_log_fs.specs.Disk.{zeros}
use Rattle.raft_log_fs_state.proofs.Zeros.{filled}
use Rattle.raft_log_fs_state.proofs.content.Content.copy_out.Goals as goal

pub returns-then-copied-count-clause-bytes : goal.returns-then-copied-count-clause-bytes
returns-then-copied-count-clause-bytes c =
    let front = c.self.inside.front.items in
    let size = c.self.inside.size in
    let offset = c.args.offset in
    let room = c.args.room.now in
    let first = c.copy_out-copied.new.room in
    let copied = c.copy_out-copied.result in
    let count = c.min-count.result in
    let is_copied : copied ≡ min (length room) (length front - offset) =
    c.copy_out-copied.ensures.number ∙ ap (λ (xs : List ℕ). min (length room) (length xs - offset)) c.deref.ensures.value in
    let is_count : count ≡ min (length room) (size - offset) = omega (arith, c.min-count.ensures, c.saturating_sub.ensures) in
    let is : first ≡ take copied (drop offset front) ++ drop copied room =
    c.copy_out-copied.ensures.bytes ∙ ap (λ (xs : List ℕ). take copied (drop offset xs) ++ drop copied room) c.deref.ensures.value in
    let gap : c.fill.new.self ≡ zeros (length (take (count - copied) (drop copied first))) = c.fill.ensures.after (λ y same. same) in
    filled front room first c.fill.new.self size offset copied count (omega (arith, c.self.invariant.0, c.self.inside.front.ok)) is_copied is_count
    c.if-copied-count.true is gap
    ∙ ap (λ (xs : List ℕ). take count (drop offset xs) ++ drop count room) c.self.view_is

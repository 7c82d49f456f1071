use Rattle.std.proofs.Common.{◌≡◌, ◌==◌, ℕ, true, get_or, refl, ap, subst, ◌∙◌, if◌then◌else◌, arith}
use Rattle.raft_log_purge_policy.specs.Behind.{round_behind}
use Rattle.raft_log_purge_policy.specs.Picking.{count_of}
use Rattle.raft_log_purge_policy.proofs.Listing.{asked_more}
use Rattle.raft_log_purge_policy.proofs.rounds.Rounds.behind.Goals as goal

pub loop-group-preserved : goal.loop-group-preserved
loop-group-preserved c =
    let xs = c.args.asked.now in
    let i = c.loop-group.group-index in
    let x = get_or xs i 0 in
    let old = count_of c.loop-group.next in
    let new = count_of c.note.new.self in
    let before = count_of c.args.self.now in
    let is : c.round_behind.result ≡ round_behind true (before x) = c.round_behind.ensures ∙ ap (round_behind true) c.count_of.ensures in
    asked_more xs i 0 x (omega (arith, c.loop-group-test.true)) refl old new before c.loop-group.invariant (subst (λ (n : ℕ). (g : ℕ) → new g ≡ (if x == g then n else old g)) is c.in_ok-note.ensures)

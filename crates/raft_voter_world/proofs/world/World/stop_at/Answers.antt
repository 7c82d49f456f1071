use Rattle.std.proofs.Common.{◌≡◌, ◌==◌, true, false, refl, arith}
use Rattle.std.proofs.lemmas.Grind.{common_steps}
use Rattle.raft_voter_world.proofs.Moving.{ok_weaker, stop_none, stop_one}
use Rattle.raft_voter_world.proofs.world.World.stop_at.Goals as goal

pub returns-then-calls-eq0 : goal.returns-then-calls-eq0
returns-then-calls-eq0 g c =
    let e : (c.args.calls == 0) ≡ true = grind (arith, common_steps) in
    ok_weaker c.fallen.result _ _ (λ new f. stop_none _ _ _ c.args.place c.args.calls c.args.left c.args.self new e f) (c.fallen.ensures c.args.place)

pub returns : goal.returns
returns g c =
    let e : (c.args.calls == 0) ≡ false = grind (arith, common_steps) in
    ok_weaker c.fallen-2.result _ _ (λ new f. stop_one _ _ _ c.args.place c.args.calls c.args.left c.args.self _ new e c.in_ok-arm.ensures refl refl f) (c.fallen-2.ensures c.args.place)

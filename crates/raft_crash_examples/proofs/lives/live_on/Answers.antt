use Rattle.std.proofs.Common.{refl, subst, sym}
use Rattle.std.proofs.lemmas.List.{drop_all}
use Rattle.raft_crash_examples.specs.Lives.{LivesOn}
use Rattle.raft_crash_examples.proofs.Said.{first_left}
use Rattle.raft_crash_examples.proofs.lives.live_on.Goals as goal

pub loop-life-preserved : goal.loop-life-preserved
loop-life-preserved g c new on =
    let i = c.loop-life.life-index in
    let lives = c.args.lives.now in
    let x = c.life-item.result in
    c.loop-life.invariant new (subst (λ l. LivesOn g.F.FileSystem.disk g.F.FileSystem.tells_space l c.loop-life.current new) (sym (first_left lives i x x c.loop-life-test.true c.life-item.is))
    (c.in_ok-left.left, c.in_ok-left.ensures.ok, on))

pub returns : goal.returns
returns g c =
    let i = c.loop-life.life-index in
    let lives = c.args.lives.now in
    record {
      ok = c.loop-life.invariant c.loop-life.current (subst (λ l. LivesOn g.F.FileSystem.disk g.F.FileSystem.tells_space l c.loop-life.current c.loop-life.current) (sym (drop_all i lives c.loop-life-test.false)) refl);
    }

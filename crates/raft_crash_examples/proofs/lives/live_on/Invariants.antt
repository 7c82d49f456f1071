use Rattle.std.proofs.Common.{drop}
use Rattle.raft_crash_examples.specs.Lives.{LivesOn}
use Rattle.raft_crash_examples.proofs.lives.live_on.Given as goal

-- from here on the lives that are left are lived
abbrev pub invariant-loop-life : goal.invariant-loop-life
invariant-loop-life g l = (new : g.row.F.Denot) → LivesOn g.F.FileSystem.disk g.F.FileSystem.tells_space (drop l.life-index l.lives) l.current new
    → LivesOn g.F.FileSystem.disk g.F.FileSystem.tells_space l.lives l.fn.files new

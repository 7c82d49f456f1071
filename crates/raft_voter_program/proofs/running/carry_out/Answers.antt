use Rattle.raft_voter_program.proofs.Carried.{loads_for}
use Rattle.raft_voter_program.proofs.running.carry_out.Goals as goal

pub returns-in-Load-clause-ok : goal.returns-in-Load-clause-ok
returns-in-Load-clause-ok g c = loads_for _ _ _ _ _ _ _ _ _ c.load.result c.in-Load.is c.load.ensures.ok

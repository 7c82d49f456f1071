use Rattle.std.proofs.Common.{ap, refl}
use Rattle.raft_voter_outline.specs.Kept.{outlines_in}
use Rattle.raft_voter_log.proofs.Standing.{armed_stays, armed_stopped, arms_as, same_stays}
use Rattle.raft_voter_log.proofs.voters.LogVotersVoterStorage.arm.Goals as goal

pub returns-in-Ok-clause-arms : goal.returns-in-Ok-clause-arms
returns-in-Ok-clause-arms g c =
    arms_as c.args.fault.now c.fault_of.result c.args.self.now.store.engine.pipes.pipes.pipes.file_system c.arm.new.self.engine.pipes.pipes.pipes.file_system _ _ c.fault_of.ensures c.in-Ok.ensures.ok c.in-Ok.ensures.armed

pub returns-in-Ok-clause-stays : goal.returns-in-Ok-clause-stays
returns-in-Ok-clause-stays g c =
    armed_stays _ _ _ c.args.fault.now c.fault_of.result c.args.self.now (record c.args.self.now { store = c.arm.new.self }) refl c.fault_of.ensures c.in-Ok.ensures.ok (ap outlines_in c.arm.ensures.outlines)

pub returns-in-Ok-clause-stopped : goal.returns-in-Ok-clause-stopped
returns-in-Ok-clause-stopped g c = armed_stopped c.args.fault.now c.fault_of.result _ _ c.fault_of.ensures c.in-Ok.ensures.ok

pub returns-clause-stays : goal.returns-clause-stays
returns-clause-stays g c =
    same_stays _ _ _ c.args.self.now (record c.args.self.now { store = c.arm.new.self }) refl c.in-Err.ensures.err (ap outlines_in c.arm.ensures.outlines)

use Rattle.raft_voter_program.proofs.Left.{ends}
use Rattle.raft_voter_program.proofs.over_store.run_bytes.Goals as goal

pub returns-in-Ok-clause-ok : goal.returns-in-Ok-clause-ok
returns-in-Ok-clause-ok g c =
    ends g.S.RoundService.service g.S.VoterStorage.upkeep g.F.VoterDisk.disk g.C.StoreSetup.setup c.in-Ok.ended.files c.args.bytes.now _ _ c.in-Ok.ended.status c.in-Ok.ensures.ok

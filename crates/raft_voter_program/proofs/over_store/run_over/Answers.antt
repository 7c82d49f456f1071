use Rattle.raft_voter_program.proofs.Left.{ends_known}
use Rattle.raft_voter_program.proofs.over_store.run_over.Goals as goal

pub returns-in-Ok-clause-ok : goal.returns-in-Ok-clause-ok
returns-in-Ok-clause-ok g c =
    ends_known g.S.RoundService.service g.S.VoterStorage.upkeep g.F.VoterDisk.disk g.C.StoreSetup.setup c.in-Ok.ended.files (g.I.Read.remaining c.args.reader.now) _ _ c.in-Ok.ended.status
    c.in-Ok.ensures.ok

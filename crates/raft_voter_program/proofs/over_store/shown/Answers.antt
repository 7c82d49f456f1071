use Rattle.raft_voter_program.proofs.Verdicts.{run_written}
use Rattle.raft_voter_program.proofs.over_store.shown.Goals as goal

pub returns : goal.returns
returns g c =
    run_written g.S.RoundService.service g.S.VoterStorage.upkeep g.F.VoterDisk.disk g.C.StoreSetup.setup c.args.session c.in-Ok.files c.in_ok-report.report _ _ c.in-Ok.ensures.makes
    c.in-Ok.ensures.empty c.in_ok-report.ensures (rw c.as_slice.ensures at c.in_ok-text.ensures)

use Rattle.raft_voter_shared.proofs.Seeing.{is_seen}
use Rattle.raft_voter_shared.proofs.desk.Desk.is_failed.Goals as goal

pub returns : goal.returns
returns g c =
    let desk = c.args.self.now in
    is_seen g.S.RoundService.service g.L.Opening.served desk.store desk.journal.history desk.failure desk.legal desk.last desk.alive desk.serves desk.left _ c.is_failed.ensures

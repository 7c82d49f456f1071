use Rattle.std.proofs.Common.{◌≡◌, length, rules}
use Rattle.raft_voter_timeline.proofs.Drawn.{run_drawn}
use Rattle.raft_voter_timeline.proofs.drawing.draw_run.Goals as goal

pub returns : goal.returns
returns g c =
    let long : c.len-count.result ≡ length c.args.events.items = search rules in
    run_drawn g.S.RoundService.service g.S.VoterStorage.upkeep g.F.VoterDisk.disk c.args.files c.args.events.items c.in_ok-report.report _ _ c.picture_of.result c.in_ok-report.ensures c.in_ok-titles.ensures
    c.as_slice-2.ensures _ long _ c.as_slice.ensures _ _ c.as_str.ensures.value c.in_ok-heading.ensures c.picture_of.ensures

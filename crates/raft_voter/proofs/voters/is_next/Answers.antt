use Rattle.std.proofs.Common.{◌≡◌, Some, rules, slice_get}
use Rattle.raft_voter.proofs.Places.{head_among}
use Rattle.raft_voter.proofs.voters.is_next.Goals as goal

pub returns-in-Some : goal.returns-in-Some
returns-in-Some c =
    let first : slice_get c.args.ahead.now 0 ≡ Some c.in-Some.next.now = search rules in
    head_among c.args.ahead.now c.args.place c.requires.0 c.in-Some.next.now c.requires.1 first

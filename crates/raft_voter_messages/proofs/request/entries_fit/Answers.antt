use Rattle.std.proofs.Common.{◌≡◌, true, arith, rules}
use Rattle.std.specs.List.{list_all}
use Rattle.raft_voter_messages.specs.Ranges.{entry_fits}
use Rattle.raft_voter_messages.proofs.Sizes.{total_bytes-le-entry_fits}
use Rattle.raft_voter_messages.proofs.request.entries_fit.Goals as goal

pub total_bytes-requires : goal.total_bytes-requires
total_bytes-requires c =
    let each : list_all entry_fits c.args.entries.now ≡ true = search rules in
    omega (arith, total_bytes-le-entry_fits c.args.entries.now each)

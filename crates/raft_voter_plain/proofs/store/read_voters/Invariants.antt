use Rattle.std.proofs.Common.{◌≤◌, length}
use Rattle.raft_voter_plain.specs.Records.{world_in}
use Rattle.raft_voter_plain.proofs.Damage.{AreLeft}
use Rattle.raft_voter_plain.proofs.Worlds.{IsReadTo}
use Rattle.raft_voter_plain.proofs.store.read_voters.Given as goal

abbrev pub invariant-loop-left : goal.invariant-loop-left
invariant-loop-left l = IsReadTo l.bytes (world_in l.voters) l.left × AreLeft l.bytes l.left × (length l.left ≤ length l.bytes)

abbrev pub decreases-loop-left : goal.decreases-loop-left
decreases-loop-left l = length l.left

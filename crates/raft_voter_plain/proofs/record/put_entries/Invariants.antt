use Rattle.std.proofs.Common.{◌≡◌, ◌+◌, ◌++◌, drop}
use Rattle.std.specs.List.{flat_map}
use Rattle.raft_voter.specs.Rules.{numbered}
use Rattle.raft_voter_plain.specs.Records.{stored_entry}
use Rattle.raft_voter_plain.proofs.record.put_entries.Given as goal

abbrev pub invariant-loop-term : goal.invariant-loop-term
invariant-loop-term l =
    (l.index ≡ l.first + l.term-index) × (l.bytes.items ++ flat_map stored_entry (numbered l.index (drop l.term-index l.log)) ≡ l.initial.bytes.items ++ flat_map stored_entry (numbered l.first l.log))

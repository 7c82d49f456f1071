use Rattle.std.proofs.Common.{append_assoc}
use Rattle.raft_voter_plain.specs.Records.{voter_record, voter_bytes}
use Rattle.raft_voter_plain.proofs.record.voter_record.Goals as goal

pub returns-clause-bytes : goal.returns-clause-bytes
unfolding voter_record voter_bytes
returns-clause-bytes c =
    rw (
      c.in_ok-put_entries.ensures,
      c.in_ok-put_number-2.ensures,
      c.in_ok-append_state.ensures.ok,
      c.in_ok-put_number.ensures,
      c.new-bytes.ensures.items,
      c.state-state.ensures,
      c.log-log.ensures.entries,
    ) (simp append_assoc)

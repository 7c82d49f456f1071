use Rattle.raft_voter_records.proofs.BoundLemmas.{memory_only}
use Rattle.raft_voter_records.proofs.change.add_write.Goals as goal

pub returns-in-Entries-clause-errors : goal.returns-in-Entries-clause-errors
returns-in-Entries-clause-errors c =
    memory_only c.add_entries_from.result c.args.batch.now c.args.outline.now.voter c.args.request.now c.args.change.now c.in-Entries.skipped c.in-Entries.index c.new-entries.result.first c.new-entries.result.entries.now c.brought.result.now
    c.requires.decided c.state-last.ensures.own c.in-Entries.is c.requires.fresh c.new-entries.ensures.first c.new-entries.ensures.entries c.brought.ensures c.add_entries_from.ensures.errors

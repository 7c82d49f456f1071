use Rattle.raft_log_record_items.proofs.Entries.{run_of}
use Rattle.raft_log_record_items.proofs.entry_indexes.split_counted_entries.Goals as goal

pub new-requires-2 : goal.new-requires-2
new-requires-2 c = run_of c.in_ok-first.first c.args.count _ c.in_ok-entries.ensures.run.0 c.in_ok-entries.ensures.run.1 c.in_ok-first.ensures.fits

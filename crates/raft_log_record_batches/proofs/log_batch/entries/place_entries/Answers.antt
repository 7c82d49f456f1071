use Rattle.std.proofs.Common.{subst, sym, arith, List}
use Rattle.raft_log_record_items.specs.declared.entry.EntryIndex.{EntryIndex}
use Rattle.raft_log_record_items.specs.Run.{IsRun}
use Rattle.raft_log_record_batches.proofs.Entries.{laid_is_run}
use Rattle.raft_log_record_batches.proofs.log_batch.entries.place_entries.Goals as goal

pub new-requires : goal.new-requires
new-requires c =
    subst (λ (l : List EntryIndex). IsRun l) (sym c.in_ok-laid.ensures) (laid_is_run c.args.offset c.args.indexes.now c.args.entries.now c.requires.run c.requires.same (omega (arith, c.requires.fits)))

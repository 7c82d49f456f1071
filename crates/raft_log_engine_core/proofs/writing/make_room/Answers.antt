use Rattle.std.proofs.Common.{ap, ◌∙◌}
use Rattle.raft_log_record_batches.specs.Batch.{Batch}
use Rattle.raft_log_memtables.specs.Tables.{shown_of}
use Rattle.raft_log_engine_core.proofs.Put.{unfit_of}
use Rattle.raft_log_engine_core.proofs.writing.make_room.Goals as goal

pub returns-in-Err-clause-errors : goal.returns-in-Err-clause-errors
returns-in-Err-clause-errors c =
    unfit_of c.args.batch.now (shown_of c.args.tables.now) c.items.result.now c.in-Err.error (c.items.ensures ∙ ap (λ (b : Batch). b.items) c.populate.ensures.kept) c.in-Err.ensures.errors

use Rattle.std.proofs.Common.{refl}
use Rattle.raft_log_engine.specs.raft_log_engine_core.specs.Reads.{shows_of}
use Rattle.raft_voter_store.specs.Reading.FailsToReadEntries.{unread}
use Rattle.raft_voter_store.proofs.Taking.{fetches_raw, not_fetched, reads_some, unfetched_stays}
use Rattle.raft_voter_store.proofs.store.LogVoterStore.entries.Goals as goal

pub returns-in-Ok-read_entries-clause-ok : goal.returns-in-Ok-read_entries-clause-ok
returns-in-Ok-read_entries-clause-ok g c =
    reads_some c.args.group c.args.low c.args.high c.in-Ok.field-0 c.args.max_size (shows_of g.P.PipeLog.shown c.args.self.now.engine) (shows_of g.P.PipeLog.shown c.fetch_entries_to.new.self)
    c.new-messages.result.items c.fetch_entries_to.new.vec.items c.as_slice.result.now c.in-Ok-read_entries.entries c.new-messages.ensures.items c.as_slice.ensures.value c.in-Ok.ensures.ok c.in-Ok-read_entries.ensures

pub returns-in-Ok-clause-err : goal.returns-in-Ok-clause-err
returns-in-Ok-clause-err g c =
    unread refl c.fetch_entries_to.new.vec.items
    (fetches_raw c.args.group c.args.low c.args.high c.in-Ok.field-0 c.args.max_size (shows_of g.P.PipeLog.shown c.args.self.now.engine) (shows_of g.P.PipeLog.shown c.fetch_entries_to.new.self)
    c.new-messages.result.items c.fetch_entries_to.new.vec.items c.new-messages.ensures.items c.in-Ok.ensures.ok)

pub returns-clause-err : goal.returns-clause-err
returns-clause-err g c =
    not_fetched c.args.group c.args.low c.args.high c.args.max_size (shows_of g.P.PipeLog.shown c.args.self.now.engine) (shows_of g.P.PipeLog.shown c.fetch_entries_to.new.self) c.in-Err.error c.in-Err.ensures.err

pub returns-clause-stays : goal.returns-clause-stays
returns-clause-stays g c =
    unfetched_stays c.args.group c.args.low c.args.high (shows_of g.P.PipeLog.shown c.args.self.now.engine) (shows_of g.P.PipeLog.shown c.fetch_entries_to.new.self) c.in-Err.error c.in-Err.ensures.err

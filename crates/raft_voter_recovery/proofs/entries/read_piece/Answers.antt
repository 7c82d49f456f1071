use Rattle.std.proofs.lemmas.Result.{IfErr-weaker, IfOk-weaker}
use Rattle.raft_log_engine_core.specs.Reads.{shows_of}
use Rattle.raft_voter_durability_laws.proofs.Public.{engines_are_counted}
use Rattle.raft_voter_recovery.proofs.Pieces.{piece_read, piece_unread}
use Rattle.raft_voter_recovery.proofs.Refusing.{raw_total, reading_of, unfetched_for, unfetched_stays}
use Rattle.raft_voter_recovery.proofs.entries.read_piece.Goals as goal

pub returns-in-Ok-clause-ok : goal.returns-in-Ok-clause-ok
returns-in-Ok-clause-ok g c =
    IfOk-weaker c.read_all.result _ _ (λ entries read. piece_read (shows_of g.P.PipeLog.shown c.args.engine.now) (shows_of g.P.PipeLog.shown c.fetch_entries_to.new.self) c.args.group c.args.from c.args.end c.in-Ok.field-0 _
    c.new-messages.result.items c.fetch_entries_to.new.vec.items c.as_slice.result.now c.new-messages.ensures.items c.as_slice.ensures.value c.in-Ok.ensures.ok entries.items
    (engines_are_counted (g.P.PipeLog.shown c.args.engine.now.pipes) c.args.engine.now.tables c.args.engine.now.cache) c.requires.some c.requires.placed read) c.read_all.ensures.ok

pub returns-in-Ok-clause-err : goal.returns-in-Ok-clause-err
returns-in-Ok-clause-err g c =
    IfErr-weaker c.read_all.result _ _ (λ cause none. piece_unread (shows_of g.P.PipeLog.shown c.args.engine.now) (shows_of g.P.PipeLog.shown c.fetch_entries_to.new.self) c.args.group c.args.from c.args.end c.in-Ok.field-0 _
    c.new-messages.result.items c.fetch_entries_to.new.vec.items c.as_slice.result.now c.new-messages.ensures.items c.as_slice.ensures.value c.in-Ok.ensures.ok cause none) c.read_all.ensures.err

pub returns-clause-err : goal.returns-clause-err
returns-clause-err g c =
    unfetched_for reading_of raw_total c.args.group c.args.from c.args.end c.in-Err.refusal c.from_refusal.result (shows_of g.P.PipeLog.shown c.args.engine.now) (shows_of g.P.PipeLog.shown c.fetch_entries_to.new.self) c.from_refusal.ensures c.requires.placed
    c.in-Err.ensures.err

pub returns-clause-stays : goal.returns-clause-stays
returns-clause-stays g c =
    unfetched_stays reading_of raw_total c.args.group c.args.from c.args.end c.in-Err.refusal (shows_of g.P.PipeLog.shown c.args.engine.now) (shows_of g.P.PipeLog.shown c.fetch_entries_to.new.self) c.in-Err.ensures.err

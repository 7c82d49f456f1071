use Rattle.std.proofs.Common.{◌≡◌, ◌+◌, ◌-◌, ◌≤◌, All, false, length, vec_capacity, vec_len}
use Rattle.raft_log_engine.specs.raft_log_engine_core.specs.Reads.{shows_of}
use Rattle.raft_voter_outline.specs.Kept.{outlines_in}
use Rattle.raft_voter_store.specs.Refusals.{AppendsRefusals}
use Rattle.raft_voter_store.specs.Rounds.{Passes}
use Rattle.raft_voter_store.specs.Silence.{AsksForNone, IfVotersStay, ReadsAlone}
use Rattle.raft_voter_store.proofs.store.LogVoterStore.take_all.Given as goal

-- The round so far, and room for the other replies. If it changes no voter, it only read. With room for all refusals,
-- those so far are noted, and there is room for the others.
abbrev pub invariant-loop-group : goal.invariant-loop-group
invariant-loop-group g l =
    Passes l.requests l.replies.items l.wrote (shows_of g.P.PipeLog.shown l.initial.self.engine) (shows_of g.P.PipeLog.shown l.self.engine)
    (outlines_in l.initial.self.outlines) (outlines_in l.self.outlines)
    × (length l.replies.items ≡ l.group-index)
    × (vec_len l.replies + (length l.requests - l.group-index) ≤ vec_capacity l.replies)
    × IfVotersStay (outlines_in l.initial.self.outlines) l.requests (l.wrote ≡ false)
    × IfVotersStay (outlines_in l.initial.self.outlines) l.requests (ReadsAlone (shows_of g.P.PipeLog.shown l.initial.self.engine) (shows_of g.P.PipeLog.shown l.self.engine) l.initial.self.outlines l.self.outlines)
    × (All AsksForNone l.requests → IfVotersStay (outlines_in l.initial.self.outlines) l.requests (l.self ≡ l.initial.self))
    × (vec_len l.initial.refusals + length l.requests ≤ vec_capacity l.initial.refusals
    → AppendsRefusals l.requests l.replies.items l.initial.refusals.items l.refusals.items (shows_of g.P.PipeLog.shown l.initial.self.engine) (shows_of g.P.PipeLog.shown l.self.engine) (outlines_in l.initial.self.outlines)
    × (vec_len l.refusals + (length l.requests - l.group-index) ≤ vec_capacity l.refusals))

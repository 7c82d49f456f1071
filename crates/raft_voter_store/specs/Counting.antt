-- What a store counts. A count that has reached 2^64 - 1 stays there.
use Rattle.std.specs.Prelude.{◌≡◌, ◌+◌, ◌-◌, ◌^◌, min, ℕ, Bool, true, false, if◌then◌else◌, List, length, Result, Ok, Err}
use Rattle.raft_log_engine.specs.raft_log_engine_laws.specs.EngineState.{EngineState}
use Rattle.raft_log_engine.specs.raft_log_engine_laws.specs.Syncing.{SyncsAppend}
use Rattle.raft_log_purge_steps.specs.declared.step.PurgeStep.{PurgeStep}
use Rattle.raft_voter_messages.specs.declared.reply.Reply.{Reply}
use Rattle.raft_voter_messages.specs.declared.request.Request.{Request}
use Rattle.raft_voter_outline.specs.State.{State}
use Rattle.raft_voter.specs.declared.service.Cause.{Cause}
use Rattle.raft_voter.specs.declared.service.Cause.TheVariants.{FileSystem}
use Rattle.raft_voter_store.specs.Rounds.{Passes}
use Rattle.raft_voter_store.specs.declared.counters.WorkCounters.{WorkCounters}

-- a count to which `more` was added
abbrev pub counted : ℕ → ℕ → ℕ
counted count more = min (count + more) (2 ^ 64 - 1)

-- nothing was counted yet
abbrev pub no_work : WorkCounters
no_work = record { rounds = 0; requests = 0; syncs = 0; purges = 0 }

-- the counters with one more sync
abbrev pub with_sync : WorkCounters → WorkCounters
with_sync c = record c { syncs = counted c.syncs 1 }

-- the counters with one more purge
abbrev pub with_purge : WorkCounters → WorkCounters
with_purge c = record c { purges = counted c.purges 1 }

-- the counters after a step of a purge: with one more purge, unless `more` says that the purge has more steps to do
abbrev pub with_step : WorkCounters → Bool → WorkCounters
with_step c more = if more then c else with_purge c

-- the counters with one more round of `count` requests, and with one more sync if the round made one (`synced`)
abbrev pub with_round : WorkCounters → ℕ → Bool → WorkCounters
with_round c count synced = record c {
  rounds = counted c.rounds 1;
  requests = counted c.requests count;
  syncs = if synced then counted c.syncs 1 else c.syncs;
}

-- the counters after a call of `sync`; the sync counts if it succeeds
abbrev pub after_sync : {X E : Type 0} → Result X E → WorkCounters → WorkCounters
after_sync (Ok x) c = with_sync c
after_sync (Err e) c = c

-- the counters after a purge; the purge counts if it succeeds
abbrev pub after_purge : {X E : Type 0} → Result X E → WorkCounters → WorkCounters
after_purge (Ok x) c = with_purge c
after_purge (Err e) c = c

-- the counters after a step of a purge; if the step succeeds and leaves nothing to do, the purge counts
abbrev pub after_step : {E : Type 0} → Result PurgeStep E → WorkCounters → WorkCounters
after_step (Ok step) c = with_step c step.more
after_step (Err e) c = c

-- The counters after a round of `count` requests that was cut off for this cause. For `FileSystem` the round counts,
-- without a sync. For every other cause no request was served, and the round doesn't count.
abbrev pub after_fault : Cause → WorkCounters → ℕ → WorkCounters
after_fault FileSystem c count = with_round c count false
after_fault cause c count = c

-- what follows the last request of a round: one sync if the round wrote a record (`true`), otherwise nothing
abbrev pub EndsRound : Bool → EngineState → EngineState → Type 0
EndsRound true s t = SyncsAppend s t
EndsRound false s t = t ≡ s

-- The round `qs` got the replies `told`, and was counted, with one sync if it made one. The engine's state was `s`
-- before the round, `mid` after its last request, and `t` at its end. `wrote` is false only if no record was written.
pub record CountsRound (qs : List (ℕ × Request)) (told : List Reply) (s t : EngineState) (os us : ℕ → State)
    (old new : WorkCounters) : Type 0 where
  pub wrote : Bool
  pub mid : EngineState
  pub served : Passes qs told wrote s mid os us
  pub ends : EndsRound wrote mid t
  pub count : new ≡ with_round old (length qs) wrote

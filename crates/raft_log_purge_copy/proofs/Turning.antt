-- A queue goes on in its next file, and loses those before that aren't in use.
use Rattle.std.proofs.Common.{◌≡◌, ℕ, false, List, [], inl, inr, refl, sym, subst}
use Rattle.std.specs.Prelude.{Result, Ok, Err, IfErr, IfOk}
use Rattle.raft_log_model_laws.specs.Groups.{taken}
use Rattle.raft_log_fs.specs.Causes.{IsLater}
use Rattle.raft_log_record_base.specs.declared.errors.Error.{Error}
use Rattle.raft_log_record_base.specs.declared.errors.Error.TheVariants as errors
use Rattle.raft_log_record_base.specs.declared.pipe_log.LogQueue.{LogQueue}
use Rattle.raft_log_record_base.specs.declared.pipe_log.LogQueue.TheVariants.{Append, Rewrite}
use Rattle.raft_log_machine_laws.specs.Whereabouts.{OwesNothing}
use Rattle.raft_log_machine_laws.specs.Calls.Which.{InAppend}
use Rattle.raft_log_memtable_index.specs.Shown.{Shown, whereabouts}
use Rattle.raft_log_memtables.specs.declared.mem_tables.MemTables.{MemTables}
use Rattle.raft_log_dual_pipes.specs.Pipes.{LogPipes, LogRecordValue, is_failed, which_of}
use Rattle.raft_log_dual_pipes.specs.Calls.{FailsToRotateQueue, FailsToSyncQueue, RotatesQueue, SyncsQueue, TellsFailure}
use Rattle.raft_log_dual_pipes.specs.Numbers.{EndsNumbers}
use Rattle.raft_log_engine_laws.specs.EngineState.{LogDirectories, LogMap, EngineState}
use Rattle.raft_log_engine_laws.specs.Holding.{Represents}
use Rattle.raft_log_engine_laws.proofs.Public.{holds_runs, rewrite_rotates, settled_held, settled_rotates, synced_all, turn_refused, unsynced_left}
use Rattle.raft_log_engine_laws.specs.Settled.{HoldsSettled}
use Rattle.raft_log_engine_laws.specs.Quiet.{TurnLeavesHeld}
use Rattle.raft_log_purge_copy.specs.Parts.{PartIsRefused, Remains}
use Rattle.raft_log_purge_copy.specs.Marks.{CarriesMarks}
use Rattle.raft_log_purge_copy.specs.Files.{FailsToLoseFiles, LosesFiles, MayLoseFiles, RemainsSettled}
use Rattle.raft_log_purge_copy.specs.Stale.{FailsToPurgeAll, FailsToTurn, PurgesAllStale, TurnsAndLoses, written_file}
use Rattle.raft_log_purge_copy.proofs.PartExits.{later_on, tells_err}
use Rattle.raft_log_purge_copy.proofs.Spanned.{limited_reason}
use Rattle.raft_log_purge_copy.proofs.Reasons.{file_reason_after, purge_reason_after, reason_after, reason_of_files, sync_reason, turn_reason}

-- One queue.

settled_turns : (queue : LogQueue) (home : LogDirectories) (e t : EngineState) (m : LogMap) → HoldsSettled home e m → t.tables ≡ e.tables → t.cache ≡ e.cache → RotatesQueue (which_of queue) e.pipes t.pipes → HoldsSettled home t m
settled_turns Append home e t m h tables cache call = settled_rotates home e t m h (record { tables = tables; cache = inl cache }) call
settled_turns Rewrite home e t m h tables cache call = rewrite_rotates home e t m (settled_held home e m h) (record { tables = tables; cache = inl cache }) call

pub turns_and_loses : (queue : LogQueue) (m : MemTables) (count last : ℕ) (s t : EngineState) (mid : LogPipes) → last ≡ written_file queue mid → RotatesQueue (which_of queue) s.pipes mid → IsLater s.pipes.disk mid.disk
    → is_failed mid ≡ false → LosesFiles queue last m count (record s { pipes = mid }) t → TurnsAndLoses queue m count s t
turns_and_loses queue m count last s t mid is turns later lives loses = record {
  turned = mid;
  turns = turns;
  alive = loses.alive lives;
  loses = subst (λ (n : ℕ). LosesFiles queue n m count (record s { pipes = mid }) t) is loses;
  later = later_on s.pipes.disk mid.disk t.pipes.disk later loses.later;
  keeps = λ home log h owes. loses.keeps home log (settled_turns queue home s (record s { pipes = mid }) log h refl refl turns) owes;
}

turn_remains : (home : LogDirectories) (m : LogMap) (t : EngineState) (error : Error) → TurnLeavesHeld home m [] t error → Remains home m t error
turn_remains home m t errors.Memory h = h
turn_remains home m t errors.NumberRange h = h
turn_remains home m t errors.Failed h = h
turn_remains home m t _ h = absurd h

pub not_turned : {A : Type 0} (queue : LogQueue) (error : Error) (s : EngineState) (mid : LogPipes) → TellsFailure {A = A} (Err error) mid → IsLater s.pipes.disk mid.disk → FailsToRotateQueue (which_of queue) error s.pipes mid
    → EndsNumbers (which_of queue) error s.pipes → FailsToTurn queue error s (record s { pipes = mid })
not_turned {A} queue error s mid tells later call ends = record {
  tells = λ lived. tells_err {A = A} error mid tells;
  later = later;
  remains = λ home log h owes.
      turn_remains home log (record s { pipes = mid }) error
      (turn_refused (which_of queue) home s (record s { pipes = mid }) log [] error (settled_held home s log h) (record { tables = refl; cache = inl refl }) call);
  cause = λ home log h. turn_reason (which_of queue) home error s (record s { pipes = mid }) h.state h.runs call ends;
}

lost_remains : (home : LogDirectories) (m : LogMap) (t : EngineState) (error : Error) → RemainsSettled home m t error → Remains home m t error
lost_remains home m t errors.Failed h = h
lost_remains home m t _ h = settled_held home t m h

pub turned_not_lost : (queue : LogQueue) (last : ℕ) (error : Error) (s t : EngineState) (mid : LogPipes) → last ≡ written_file queue mid → is_failed mid ≡ false → RotatesQueue (which_of queue) s.pipes mid → IsLater s.pipes.disk mid.disk
    → FailsToLoseFiles queue last error (record s { pipes = mid }) t → FailsToTurn queue error s t
turned_not_lost queue last error s t mid is alive turns later fails = record {
  tells = λ lived. fails.tells alive;
  later = later_on s.pipes.disk mid.disk t.pipes.disk later fails.later;
  remains = λ home log h owes.
      lost_remains home log t error (fails.remains home log (settled_turns queue home s (record s { pipes = mid }) log h refl refl turns) owes);
  cause = λ home log h.
      (let there = settled_turns queue home s (record s { pipes = mid }) log h refl refl turns in
      file_reason_after error s (record s { pipes = mid }) t later (limited_reason queue last home error (record s { pipes = mid }) t there.state there.runs is (fails.cause home log there)));
}

pub turned : (queue : LogQueue) (m : MemTables) (last : ℕ) (s t : EngineState) (mid : LogPipes) → last ≡ written_file queue mid → RotatesQueue (which_of queue) s.pipes mid → IsLater s.pipes.disk mid.disk → is_failed mid ≡ false → (r : Result ℕ Error)
    → IfOk r (λ count. LosesFiles queue last m count (record s { pipes = mid }) t) → IfOk r (λ count. TurnsAndLoses queue m count s t)
turned queue m last s t mid is turns later lives (Ok count) loses = turns_and_loses queue m count last s t mid is turns later lives loses
turned queue m last s t mid is turns later lives (Err e) loses = tt

pub unturned : (queue : LogQueue) (last : ℕ) (s t : EngineState) (mid : LogPipes) → last ≡ written_file queue mid → is_failed mid ≡ false → RotatesQueue (which_of queue) s.pipes mid → IsLater s.pipes.disk mid.disk → (r : Result ℕ Error)
    → IfErr r (λ error. FailsToLoseFiles queue last error (record s { pipes = mid }) t) → IfErr r (λ error. FailsToTurn queue error s t)
unturned queue last s t mid is alive turns later (Ok count) fails = tt
unturned queue last s t mid is alive turns later (Err e) fails = turned_not_lost queue last e s t mid is alive turns later fails

-- Both.

-- marks that are carried are owed no more
none_owed : (s t : EngineState) → CarriesMarks s t → MayLoseFiles InAppend t.tables
none_owed s t carries = subst (λ (v : ℕ → Shown). (g : ℕ) → OwesNothing (whereabouts (v g))) (sym carries.tables) (λ g. (refl, refl, λ k. refl))

module _ (s : EngineState) (synced : LogPipes) (syncs : SyncsQueue InAppend s.pipes synced) (later : IsLater s.pipes.disk synced.disk) where
  abbrev behind : EngineState
  behind = record s { pipes = synced }

  held_behind : (home : LogDirectories) (log : LogMap) (pending : List LogRecordValue) → Represents home s log pending → Represents home behind (taken log pending) []
  held_behind home log pending h = synced_all home s behind log pending h refl (inl refl) syncs

  -- the marks were refused
  pub marks_refused_then : (error : Error) (t : EngineState) → is_failed synced ≡ false → PartIsRefused error behind t → FailsToPurgeAll error s t
  marks_refused_then error t alive refused = record {
    tells = λ lived. refused.tells alive;
    later = later_on s.pipes.disk synced.disk t.pipes.disk later refused.later;
    remains = λ home log pending h. inl (refused.remains home (taken log pending) (held_behind home log pending h));
    cause = λ home log pending h. purge_reason_after home (taken log pending) error s behind t later (λ long. long) (refused.cause home (taken log pending) (held_behind home log pending h));
  }

  module _ (carried : EngineState) (carries : CarriesMarks behind carried) where
    to_carried : IsLater s.pipes.disk carried.pipes.disk
    to_carried = later_on s.pipes.disk synced.disk carried.pipes.disk later carries.later

    settled_there : (home : LogDirectories) (log : LogMap) (pending : List LogRecordValue) → Represents home s log pending → HoldsSettled home carried (taken log pending)
    settled_there home log pending h = carries.settles home (taken log pending) (held_behind home log pending h)

    pub rewrite_refused_then : (error : Error) (t : EngineState) → FailsToTurn Rewrite error carried t → FailsToPurgeAll error s t
    rewrite_refused_then error t fails = record {
      tells = λ lived. fails.tells carries.alive;
      later = later_on s.pipes.disk carried.pipes.disk t.pipes.disk to_carried fails.later;
      remains = λ home log pending h. inl (fails.remains home (taken log pending) (settled_there home log pending h) tt);
      cause = λ home log pending h.
          inl (reason_after home (taken log pending) error s carried t to_carried (reason_of_files home (taken log pending) error carried t (fails.cause home (taken log pending) (settled_there home log pending h))));
    }

    module _ (m : MemTables) (lost : ℕ) (mid : EngineState) (rewrite : TurnsAndLoses Rewrite m lost carried mid) (tables : mid.tables ≡ carried.tables) where
      settled_mid : (home : LogDirectories) (log : LogMap) (pending : List LogRecordValue) → Represents home s log pending → HoldsSettled home mid (taken log pending)
      settled_mid home log pending h = rewrite.keeps home (taken log pending) (settled_there home log pending h) tt

      none_mid : MayLoseFiles InAppend mid.tables
      none_mid = subst (λ (v : ℕ → Shown). (g : ℕ) → OwesNothing (whereabouts (v g))) (sym tables) (none_owed behind carried carries)

      to_mid : IsLater s.pipes.disk mid.pipes.disk
      to_mid = later_on s.pipes.disk carried.pipes.disk mid.pipes.disk to_carried rewrite.later

      pub append_refused_then : (error : Error) (t : EngineState) → FailsToTurn Append error mid t → FailsToPurgeAll error s t
      append_refused_then error t fails = record {
        tells = λ lived. fails.tells rewrite.alive;
        later = later_on s.pipes.disk mid.pipes.disk t.pipes.disk to_mid fails.later;
        remains = λ home log pending h. inl (fails.remains home (taken log pending) (settled_mid home log pending h) none_mid);
        cause = λ home log pending h.
            inl (reason_after home (taken log pending) error s mid t to_mid (reason_of_files home (taken log pending) error mid t (fails.cause home (taken log pending) (settled_mid home log pending h))));
      }

      pub all_purged : (gone : ℕ) (t : EngineState) → TurnsAndLoses Append m gone mid t → PurgesAllStale m s t
      all_purged gone t append = record {
        synced = synced;
        syncs = syncs;
        carried = carried;
        carries = carries;
        rewritten = mid;
        from_rewrite = lost;
        rewrite = rewrite;
        from_append = gone;
        append = append;
        alive = append.alive;
        later = later_on s.pipes.disk mid.pipes.disk t.pipes.disk to_mid append.later;
        settles = λ home log pending h. append.keeps home (taken log pending) (settled_mid home log pending h) none_mid;
      }

-- Append's sync failed
pub unsynced : {A : Type 0} (error : Error) (s : EngineState) (w : LogPipes) → error ≡ errors.Failed → TellsFailure {A = A} (Err error) w → IsLater s.pipes.disk w.disk → FailsToSyncQueue InAppend s.pipes w
    → FailsToPurgeAll error s (record s { pipes = w })
unsynced {A} error s w is tells later call = record {
  tells = λ lived. tells_err {A = A} error w tells;
  later = later;
  remains = λ home log pending h. inr (is, (unsynced_left home s.pipes w log pending (holds_runs home s log pending h) call).1);
  cause = λ home log pending h. inl (sync_reason InAppend home (taken log pending) error s (record s { pipes = w }) h.state h.runs is call);
}

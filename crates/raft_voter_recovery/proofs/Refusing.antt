-- What is told of a read that an engine refused is why it was.
use Rattle.std.proofs.Common.{◌≡◌, ◌⊎◌, ℕ, ◌+◌, ◌<◌, ◌≤◌, true, List, [], length, Option, Some, Err, refl, sym, subst, inl, inr, arith}
use Rattle.raft_log_model_laws.specs.Groups.{taken}
use Rattle.raft_log_record_base.specs.declared.errors.Error.{Error}
use Rattle.raft_log_record_base.specs.declared.errors.Error.TheVariants as errors
use Rattle.raft_log_record_items.specs.Message.{Parses}
use Rattle.raft_log_record_items.specs.declared.raw_message.RawMessage.{RawMessage}
use Rattle.raft_log_memtable_index.specs.Shown.{Shown}
use Rattle.raft_voter_durability_laws.specs.raft_log_engine_laws.specs.raft_log_memtable.specs.Reads.{AreIn, FetchRefused}
use Rattle.raft_voter_durability_laws.specs.raft_log_engine_laws.specs.raft_log_block_cache.specs.Blocks.{IsFileUnread}
use Rattle.raft_voter_durability_laws.specs.raft_log_engine_laws.specs.raft_log_dual_pipes.specs.Pipes.{LogRecordValue}
use Rattle.raft_voter_durability_laws.specs.raft_log_engine_laws.specs.EngineState.{LogDirectories, LogMap, EngineState}
use Rattle.raft_voter_durability_laws.specs.raft_log_engine_laws.specs.Holding.{Represents}
use Rattle.raft_voter_durability_laws.specs.raft_log_engine_laws.specs.Fetching.{FailsToFetch, HadFailed, IsOneUntold, StaysButBlock}
use Rattle.raft_log_engine_core.specs.Reads.{IsFailed, IsUncopied}
use Rattle.raft_voter_durability_laws.specs.Requests.{WereUnread}
use Rattle.raft_voter_recovery.specs.declared.unread.Unread.{Unread}
use Rattle.raft_voter_recovery.specs.Reading.{IsRefused, IsUnreadFor, cause_of}
use Rattle.raft_voter_recovery.proofs.Telling.{stays_at_first}

-- an error is told by itself, unless it is want of memory
refused_for : (error : Error) (s : EngineState) → ((error ≡ errors.Memory → ⊥) → IsRefused error s) → IsUnreadFor (cause_of error) s
refused_for errors.Memory s why = tt
refused_for (errors.Message text) s why = why (λ e. let no : ⊥ = cc in no)
refused_for errors.Hole s why = why (λ e. let no : ⊥ = cc in no)
refused_for errors.Full s why = why (λ e. let no : ⊥ = cc in no)
refused_for (errors.InvalidArgument text) s why = why (λ e. let no : ⊥ = cc in no)
refused_for (errors.Corruption text) s why = why (λ e. let no : ⊥ = cc in no)
refused_for (errors.Io kind) s why = why (λ e. let no : ⊥ = cc in no)
refused_for (errors.Codec fault) s why = why (λ e. let no : ⊥ = cc in no)
refused_for (errors.TryAgain text) s why = why (λ e. let no : ⊥ = cc in no)
refused_for errors.EntryCompacted s why = why (λ e. let no : ⊥ = cc in no)
refused_for errors.EntryNotFound s why = why (λ e. let no : ⊥ = cc in no)
refused_for (errors.Other fault) s why = why (λ e. let no : ⊥ = cc in no)
refused_for errors.Failed s why = why (λ e. let no : ⊥ = cc in no)
refused_for errors.NumberRange s why = why (λ e. let no : ⊥ = cc in no)

told_for : (error : Error) (cause : Unread) (s : EngineState) → cause ≡ cause_of error → ((error ≡ errors.Memory → ⊥) → IsRefused error s) → IsUnreadFor cause s
told_for error cause s is why = subst (λ (c : Unread). IsUnreadFor c s) (sym is) (refused_for error s why)

-- of an engine that has failed
pub failed_for : (error : Error) (cause : Unread) (s : EngineState) → cause ≡ cause_of error → IsFailed s error → IsUnreadFor cause s
failed_for error cause s is failed = told_for error cause s is (λ other. inl failed)

-- of what is copied
pub uncopied_for : (error : Error) (cause : Unread) (s : EngineState) → cause ≡ cause_of error → IsUncopied s error → IsUnreadFor cause s
uncopied_for error cause s is (inl failed) = failed_for error cause s is failed
uncopied_for error cause s is (inr memory) = told_for error cause s is (λ other. absurd (other memory.0))

-- Entries.

-- the raw message of bytes
abbrev pub reading_of : List ℕ → Option RawMessage
reading_of source = Some (record { bytes = source })

module _ {M : Type 0} (reading : List ℕ → Option M) (total : (bytes : List ℕ) → (message : M) × (reading bytes ≡ Some message)) where
  -- any bytes are a message, so one isn't told for want of memory alone
  parsed : (error : Error) (bytes : List ℕ) → Parses {M = M} (Err error) (reading bytes) → error ≡ errors.Memory
  parsed error bytes h = by_error error (subst (λ (o : Option M). Parses {M = M} (Err error) o) (total bytes).1 h)
    where
      by_error : (e : Error) → Parses {M = M} (Err e) (Some (total bytes).0) → e ≡ errors.Memory
      by_error errors.Memory h = refl
      by_error (errors.Message text) h = cc
      by_error errors.Hole h = absurd h
      by_error errors.Full h = absurd h
      by_error (errors.InvalidArgument text) h = absurd h
      by_error (errors.Corruption text) h = absurd h
      by_error (errors.Io kind) h = absurd h
      by_error (errors.Codec fault) h = absurd h
      by_error (errors.TryAgain text) h = absurd h
      by_error errors.EntryCompacted h = absurd h
      by_error errors.EntryNotFound h = absurd h
      by_error (errors.Other fault) h = absurd h
      by_error errors.Failed h = absurd h
      by_error errors.NumberRange h = absurd h

  one_unread : (g from to : ℕ) (error : Error) (s : EngineState) (m : LogMap) → (error ≡ errors.Memory → ⊥) → IsOneUntold reading g from to s m error → WereUnread g from to s error
  one_unread g from to error s m other (inl memory) = absurd (other memory)
  one_unread g from to error s m other (inr one) = record {
    index = one.0;
    entry = one.3.entry;
    block = one.3.block;
    asked = (one.1, one.2);
    stands = one.3.stands;
    placed = one.3.placed;
    why = by_why one.3.why;
  }
    where
      by_why : IsFileUnread s.pipes one.3.block error ⊎ Parses {M = M} (Err error) (reading one.3.bytes) → IsFileUnread s.pipes one.3.block error
      by_why (inl file) = file
      by_why (inr none) = absurd (other (parsed error one.3.bytes none))

-- a table that has all entries refuses them for want of memory alone
only_memory : (v : Shown) (from to : ℕ) (error : Error) → AreIn v from to → FetchRefused v from to error → error ≡ errors.Memory
only_memory v from to error inside refused = by_case refused.1
  where
    ends : (v.first ≤ from) × (to ≤ v.first + length v.places)
    ends = inside refused.0

    by_case : ((error ≡ errors.EntryNotFound) × (length v.places ≡ 0))
        ⊎ (((error ≡ errors.EntryCompacted) × (0 < length v.places) × (from < v.first))
        ⊎ (((error ≡ errors.EntryNotFound) × (v.first ≤ from) × (v.first + length v.places < to))
        ⊎ ((error ≡ errors.Memory) × (v.first ≤ from) × (to ≤ v.first + length v.places))))
        → error ≡ errors.Memory
    by_case (inl one) = absurd (omega (arith, one.1, ends.0, ends.1, refused.0))
    by_case (inr (inl two)) = absurd (omega (arith, two.2, ends.0))
    by_case (inr (inr (inl three))) = absurd (omega (arith, three.2, ends.1))
    by_case (inr (inr (inr four))) = four.0

module _ {M : Type 0} (reading : List ℕ → Option M) (total : (bytes : List ℕ) → (message : M) × (reading bytes ≡ Some message)) where
  -- entries that the tables have weren't fetched
  pub unfetched_for : (g from to : ℕ) (error : Error) (cause : Unread) (s t : EngineState) → cause ≡ cause_of error → AreIn (s.tables g) from to
      → HadFailed s t error ⊎ FailsToFetch reading g from to s t error → IsUnreadFor cause s
  unfetched_for g from to error cause s t is inside (inl had) = failed_for error cause s is (had.0, had.1)
  unfetched_for g from to error cause s t is inside (inr f) = told_for error cause s is (λ other. by_why other f.why)
    where
      by_why : (error ≡ errors.Memory → ⊥) → ((s.counts g ≡ true) × FetchRefused (s.tables g) from to error)
          ⊎ ((home : LogDirectories) (m : LogMap) (pending : List LogRecordValue) → Represents home s m pending → IsOneUntold reading g from to s (taken m pending) error)
          → IsRefused error s
      by_why other (inl refused) = absurd (other (only_memory (s.tables g) from to error inside refused.1))
      by_why other (inr untold) = inr (g, from, to, λ home m h. one_unread reading total g from to error s m other (untold home m [] h))

  -- whichever way it was refused, the engine stays
  pub unfetched_stays : (g from to : ℕ) (error : Error) (s t : EngineState) → HadFailed s t error ⊎ FailsToFetch reading g from to s t error → StaysButBlock s t
  unfetched_stays g from to error s t (inl had) = subst (λ (e : EngineState). StaysButBlock s e) (sym had.2) (stays_at_first s)
  unfetched_stays g from to error s t (inr f) = f.stays

-- any bytes are a raw message
pub raw_total : (bytes : List ℕ) → (message : RawMessage) × (reading_of bytes ≡ Some message)
raw_total bytes = (record { bytes = bytes }, refl)

-- A batch that is tried twice: at the second try all batches before it are in the map.
use Rattle.std.proofs.Common.{◌≡◌, ◌⊎◌, ℕ, false, List, [], ◌∷◌, ◌++◌, inl, inr, refl, sym, ap, subst, ◌∙◌, append_assoc}
use Rattle.std.proofs.lemmas.List.{append-nil}
use Rattle.raft_log_model_laws.specs.Groups.{taken}
use Rattle.raft_log_fs.specs.Causes.{IsLater}
use Rattle.raft_log_fs.proofs.Public.{fails_after}
use Rattle.raft_log_record_base.specs.declared.errors.Error.{Error}
use Rattle.raft_log_record_base.specs.declared.errors.Error.TheVariants as errors
use Rattle.raft_log_record_base.specs.declared.pipe_log.FileBlockHandle.{FileBlockHandle}
use Rattle.raft_log_record_batches.specs.Batch.{Batch}
use Rattle.raft_log_block_cache.specs.Signing.{signed_for}
use Rattle.raft_log_machine_laws.specs.Calls.Which.{InAppend}
use Rattle.raft_log_machine_laws.proofs.Public.{taken_twice}
use Rattle.raft_log_block_cache.specs.raft_log_memtables.specs.Batch.{all_shown}
use Rattle.raft_log_block_cache.specs.raft_log_dual_pipes.specs.Pipes.{LogPipes, LogRecordValue}
use Rattle.raft_log_block_cache.specs.raft_log_dual_pipes.specs.Calls.{FailsToAppendTo}
use Rattle.raft_log_block_cache.specs.raft_log_dual_pipes.specs.Numbers.{HasLastNumber}
use Rattle.raft_log_block_cache.specs.declared.block_cache.BlockCache.{BlockCache}
use Rattle.raft_log_engine_laws.specs.EngineState.{LogDirectories, KeepsOrForgets, LogMap, EngineState, said_of, sense}
use Rattle.raft_log_engine_laws.specs.Holding.{EndsAt, Represents, RunsAs, RunsEnding}
use Rattle.raft_log_engine_laws.specs.Trying.{RefusesAt, TriesInVain, WritesAt}
use Rattle.raft_log_block_cache.specs.raft_log_file_pipe.specs.Appending.{SaysTryAgain}
use Rattle.raft_log_engine_laws.specs.Writing.{Leaves, items_at}
use Rattle.raft_log_engine_laws.specs.Laws.{MayBeWritten}
use Rattle.raft_log_engine_laws.proofs.Calling.{log_written, says_batch, written}
use Rattle.raft_log_engine_laws.proofs.Refusing.{left_behind, refused_leaves}

-- what ends behind synced batches ends behind all
ends_behind : (home : LogDirectories) (t : EngineState) (m : LogMap) (pending more : List LogRecordValue) → EndsAt home t (taken m pending) more → EndsAt home t m (pending ++ more)
ends_behind home t m pending more e = record {
  done = pending ++ e.done;
  rest = e.rest;
  splits = append_assoc pending e.done e.rest ∙ ap (λ (l : List LogRecordValue). pending ++ l) e.splits;
  holds = subst (λ k. Represents home t k e.rest) (taken_twice m pending e.done) e.holds;
}

runs_behind : (home : LogDirectories) (w : LogPipes) (m : LogMap) (pending more : List LogRecordValue) → RunsEnding home w (taken m pending) more → RunsEnding home w m (pending ++ more)
runs_behind home w m pending more e = record {
  done = pending ++ e.done;
  rest = e.rest;
  splits = append_assoc pending e.done e.rest ∙ ap (λ (l : List LogRecordValue). pending ++ l) e.splits;
  runs = subst (λ k. RunsAs home w k e.rest) (taken_twice m pending e.done) e.runs;
}

none_behind : (m : LogMap) (pending : List LogRecordValue) → taken (taken m pending) [] ≡ taken m pending
none_behind m pending = taken_twice m pending [] ∙ ap (taken m) (append-nil pending)

-- what a second try leaves
leaves_behind : (home : LogDirectories) (b : Batch) (m : LogMap) (pending : List LogRecordValue) (s mid t : EngineState) (error : Error) → IsLater s.pipes.disk mid.pipes.disk → Leaves home b (taken m pending) [] mid t error → Leaves home b m pending s t error
leaves_behind home b m pending s mid t (errors.Io kind) later (cause, h) = (fails_after s.pipes.disk mid.pipes.disk t.pipes.disk later cause, subst (λ k. Represents home t k []) (none_behind m pending) h)
leaves_behind home b m pending s mid t (errors.TryAgain text) later (cause, h) = (fails_after s.pipes.disk mid.pipes.disk t.pipes.disk later cause, subst (λ k. Represents home t k []) (none_behind m pending) h)
leaves_behind home b m pending s mid t errors.NumberRange later h = subst (EndsAt home t m) (append-nil pending) (ends_behind home t m pending [] h)
leaves_behind home b m pending s mid t errors.Memory later h = subst (EndsAt home t m) (append-nil pending) (ends_behind home t m pending [] h)
leaves_behind home b m pending s mid t errors.Failed later (cause, inl without) =
    (fails_after s.pipes.disk mid.pipes.disk t.pipes.disk later cause, inl (left_behind home t.pipes.disk m pending [] pending (append-nil pending) without))
leaves_behind home b m pending s mid t errors.Failed later (cause, inr with_it) =
    (fails_after s.pipes.disk mid.pipes.disk t.pipes.disk later cause, inr (left_behind home t.pipes.disk m pending (said_of b ∷ []) (pending ++ said_of b ∷ []) refl with_it))
leaves_behind home b m pending s mid t _ later h = h

-- where there was no space, all batches before are in the map
vain_leaves : (home : LogDirectories) (b : Batch) (m : LogMap) (pending : List LogRecordValue) (s t : EngineState) (error : Error) → SaysTryAgain error → Leaves home b m pending s t error → Represents home t (taken m pending) []
vain_leaves home b m pending s t (errors.TryAgain text) none h = h.1
vain_leaves home b m pending s t _ none h = absurd none

-- the engine between the two tries
abbrev between : EngineState → LogPipes → BlockCache → EngineState
between s mid cache = record { tables = s.tables; counts = s.counts; pipes = mid; cache = cache }

module _ (home : LogDirectories) (s t : EngineState) (b : Batch) (m : LogMap) (pending : List LogRecordValue) (h : Represents home s m pending) (ready : MayBeWritten s b) (kept : KeepsOrForgets s t) where
  ready_between : (mid : LogPipes) → MayBeWritten (between s mid t.cache) b
  ready_between mid = record { some = ready.some; marked = ready.marked; follows = ready.follows; says = ready.says; laid = ready.laid }

  held_between : (mid : LogPipes) → TriesInVain (signed_for b) s.pipes mid → Represents home (between s mid t.cache) (taken m pending) []
  held_between mid (error, none, later, call) =
      vain_leaves home b m pending s (between s mid t.cache) error none
      (refused_leaves home s (between s mid t.cache) b m pending error h ready refl kept call)

  pub tried_written : (block : FileBlockHandle) → t.tables ≡ all_shown block.id.seq s.tables (items_at block b) → WritesAt (signed_for b) block s.pipes t.pipes
      → EndsAt home t m (pending ++ said_of b ∷ [])
  tried_written block tables (inl call) = written home s t.pipes b block m pending h ready call t refl tables kept
  tried_written block tables (inr (mid, vain, call)) =
      ends_behind home t m pending (said_of b ∷ [])
      (written home (between s mid t.cache) t.pipes b block (taken m pending) [] (held_between mid vain) (ready_between mid) call t refl tables (inl refl))

  pub tried_log : (block : FileBlockHandle) → WritesAt (signed_for b) block s.pipes t.pipes → RunsEnding home t.pipes m (pending ++ said_of b ∷ [])
  tried_log block (inl call) = log_written home s t.pipes b block m pending h ready call
  tried_log block (inr (mid, vain, call)) =
      runs_behind home t.pipes m pending (said_of b ∷ [])
      (log_written home (between s mid t.cache) t.pipes b block (taken m pending) [] (held_between mid vain) (ready_between mid) call)

  pub tried_leaves : (error : Error) → t.tables ≡ s.tables → RefusesAt (signed_for b) error s.pipes t.pipes → Leaves home b m pending s t error
  tried_leaves error same (inl (other, call)) = refused_leaves home s t b m pending error h ready same kept call.0
  tried_leaves error same (inr (mid, vain, later, call)) =
      leaves_behind home b m pending s (between s mid t.cache) t error vain.2
      (refused_leaves home (between s mid t.cache) t b (taken m pending) [] error (held_between mid vain) (ready_between mid) same (inl refl) call.0)

  pub tried_range : (error : Error) → error ≡ errors.NumberRange → RefusesAt (signed_for b) error s.pipes t.pipes → HasLastNumber InAppend t.pipes
  tried_range error is (inl (other, call)) = (call.1 is (sense home) h.state (said_of b) h.runs (says_batch home s b ready)).0
  tried_range error is (inr (mid, vain, later, call)) =
      let held = held_between mid vain in
      (call.1 is (sense home) held.state (said_of b) held.runs (says_batch home (between s mid t.cache) b (ready_between mid))).0

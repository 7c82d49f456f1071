-- Of a batch that was written, whether the write succeeded or failed, all is there after a crash, or nothing.
use Rattle.std.proofs.Common.{◌≡◌, ◌⊎◌, ℕ, true, Bool, List, [], ◌∷◌, ◌++◌, Option, None, inl, inr, refl, sym, ap, subst, ◌∙◌}
use Rattle.std.specs.Prelude.{Err, Ok, Result, is_ok}
use Rattle.std.proofs.lemmas.Bool.{false≢true}
use Rattle.raft_log_machine_laws.specs.Fresh.{nothing_stands}
use Rattle.raft_log_engine.specs.raft_log_model_laws.specs.Groups.{taken}
use Rattle.raft_log_engine.specs.raft_log_model_laws.specs.Item.{items_of}
use Rattle.raft_log_engine.specs.raft_log_record_base.specs.declared.errors.Error.{Error}
use Rattle.raft_log_engine.specs.raft_log_record_base.specs.declared.errors.Error.TheVariants as errors
use Rattle.raft_log_engine.specs.raft_log_record_batches.specs.Batch.{Batch, empty_batch}
use Rattle.raft_log_engine.specs.raft_log_fs.specs.Disk.{Disk}
use Rattle.raft_log_engine.specs.raft_log_fs.specs.Image.{IsImage}
use Rattle.raft_log_engine.specs.raft_log_file_settings.specs.declared.config.Config.{Config}
use Rattle.raft_log_engine.specs.raft_log_dual_pipes.specs.Pipes.{LogRecordValue}
use Rattle.raft_log_engine.specs.raft_log_engine_core.specs.ModelCalls.{FollowsModel, ModelWrites}
use Rattle.raft_log_engine.specs.raft_log_engine_laws.specs.EngineState.{LogMap, EngineState, said_of}
use Rattle.raft_log_engine.specs.raft_log_engine_laws.specs.Reading.{StandsUnder}
use Rattle.raft_log_recovery_laws.specs.ByCalls.{home_of}
use Rattle.raft_log_world.specs.Model.{ModelLog, RunsOn}
use Rattle.raft_log_world.specs.Model.ModelLog.{failed, running}
use Rattle.raft_log_world_engine.specs.Instance.{CrashSparesEngine, Rests}
use Rattle.raft_crash_examples.specs.declared.changing.KeyChange.{KeyChange}
use Rattle.raft_crash_examples.specs.Batches.{AreBoth, IsNeither, LoadsBoth, MayHave, ReadsBoth, TriesBoth, TriesToWrite, WritesBothOrNeither, said_by_both}
use Rattle.raft_crash_examples.specs.Changing.{AddsChange}
use Rattle.raft_crash_examples.specs.Following.{HasLog, LivesFollowTheModel}
use Rattle.raft_crash_examples.specs.Keys.{value_behind}
use Rattle.raft_crash_examples.specs.Opening.{Opens}
use Rattle.raft_crash_examples.proofs.Kept.{none_or_all}
use Rattle.raft_crash_examples.proofs.Lived.{nothing_yet}
use Rattle.raft_crash_examples.proofs.Said.{both_said, some_of}
use Rattle.raft_crash_examples.proofs.Steps.{crashed_as, none_lost, opened}
use Rattle.raft_crash_examples.proofs.Steps.IsReady.{at_rest}
use Rattle.raft_crash_examples.proofs.Valued.{behind, one_value}

-- What a write leaves.

no_tail : (ys zs : List LogRecordValue) → ys ++ zs ≡ [] → (ys ≡ []) × (zs ≡ [])
no_tail [] zs is = (refl, is)
no_tail (y ∷ ys) zs is = (let never : ⊥ = cc in absurd never)

still_runs : (m : LogMap) (next : ModelLog) → RunsOn m [] next → next ≡ running m []
still_runs m next on =
    let none = no_tail on.done on.rest on.splits in
    on.is ∙ ap (λ (l : List LogRecordValue). running (taken m l) on.rest) none.0 ∙ ap (λ (l : List LogRecordValue). running m l) none.1

may_have : (r : Result ℕ Error) (m : LogMap) (b : Batch) (one other : KeyChange) (next : ModelLog) → said_of b ≡ said_by_both one other → ModelWrites b true r m [] next → MayHave (is_ok r) m (said_by_both one other) next
may_have (Ok len) m b one other next says (inl wrote) =
    let is = wrote ∙ ap (λ (x : LogRecordValue). running (taken m (x ∷ [])) []) says in
    record { either = inr (inl is); has = λ was. is }
may_have (Ok len) m b one other next says (inr nothing) = absurd (some_of _ _ (subst (λ (x : LogRecordValue). items_of x ≡ []) says nothing.0))
may_have (Err errors.Failed) m b one other next says (inl is) = record { either = inl (inr is); has = λ was. absurd (false≢true was) }
may_have (Err errors.Failed) m b one other next says (inr is) = record { either = inr (inr (is ∙ ap (λ (x : LogRecordValue). failed m (x ∷ [])) says)); has = λ was. absurd (false≢true was) }
may_have (Err _) m b one other next says on = record { either = inl (inl (still_runs m next on)); has = λ was. absurd (false≢true was) }

-- the batch was written, or the write failed
pub tries_both : (one other : KeyChange) (answered : Bool) (s t : EngineState) (none half b : Batch) (r : Result ℕ Error) → none ≡ empty_batch 0 0 → AddsChange one none half → AddsChange other half b → answered ≡ is_ok r
    → FollowsModel (ModelWrites b true) r s t → TriesBoth one other answered s t
tries_both one other answered s t none half b r empty first second told follows home m h =
    let (next, does, is) = follows.runs home m [] h in
    let had = may_have r m b one other next (both_said one none half empty first other b second) does in
    record { log = next; is = is; has = subst (λ (a : Bool). MayHave a m (said_by_both one other) next) (sym told) had }

-- Both keys were read.
pub loads_both : {F : Type 0} (disk : F → Disk) (tells : F → List ℕ → ℕ → Type 0) (config : Config) (one other : KeyChange) (old : F) (e : EngineState) (first second : Option (List ℕ))
    → Opens disk tells config old e → ReadsBoth e one other first second → LoadsBoth disk tells config one other old first second
loads_both disk tells config one other old e first second opens reads = record { opened = e; opens = opens; done = reads }

-- After a crash.

module _ {F : Type 0} (disk : F → Disk) (tells : F → List ℕ → ℕ → Type 0) (laws : LivesFollowTheModel disk tells) (config : Config) (one other : KeyChange) (again : Config) (old left : F) (answered : Bool) (engine : EngineState)
    (first second : Option (List ℕ)) (tries : TriesToWrite disk tells config one other old answered engine) (crashes : IsImage engine.pipes.disk (disk left)) (loads : LoadsBoth disk tells again one other left first second) where
  abbrev both : LogMap
  both = taken nothing_stands (said_by_both one other ∷ [])

  -- what was read, if the files have these contents
  reads : home_of again ≡ home_of config → (m now : LogMap) → Rests config (disk left) now → now ≡ m → StandsUnder m one.group one.key.items first × StandsUnder m other.group other.key.items second
  reads same m now at is =
      let h = opened disk tells laws config again left m loads.opened same (at_rest (subst (λ (n : LogMap). Rests config (disk left) n) is at)) loads.opens in
      (loads.done.0.exact (home_of config) m [] h, loads.done.1.exact (home_of config) m [] h)

  are_both : home_of again ≡ home_of config → (now : LogMap) → Rests config (disk left) now → now ≡ both → AreBoth one other first second
  are_both same now at is =
      let (here, there) = reads same both now at is in (
        one_value both one.group one.key.items first (value_behind one.group one.key.items (one ∷ other ∷ []) None) here (behind (one ∷ other ∷ []) nothing_stands one.group one.key.items None refl),
        one_value both other.group other.key.items second (value_behind other.group other.key.items (one ∷ other ∷ []) None) there (behind (one ∷ other ∷ []) nothing_stands other.group other.key.items None refl),
      )

  is_neither : home_of again ≡ home_of config → (now : LogMap) → Rests config (disk left) now → now ≡ nothing_stands → IsNeither first second
  is_neither same now at is =
      let (here, there) = reads same nothing_stands now at is in (
        one_value nothing_stands one.group one.key.items first None here refl,
        one_value nothing_stands other.group other.key.items second None there refl,
      )

  module _ (same : home_of again ≡ home_of config) (may : HasLog (home_of config) engine (MayHave answered nothing_stands (said_by_both one other))) (chance : CrashSparesEngine (home_of config) engine may.log may.is (disk left)) where
    -- the log had both, durably
    had_both : may.log ≡ running both [] → AreBoth one other first second
    had_both is =
        let (now, loses, at) = crashed_as disk tells laws config engine left crashes both [] may.log (inl is) may.is chance in
        are_both same now at (none_lost both now loses)

    either : AreBoth one other first second ⊎ IsNeither first second
    either = elim may.has.either [
      | inl without ↦
          let (now, loses, at) = crashed_as disk tells laws config engine left crashes nothing_stands [] may.log without may.is chance in
          inr (is_neither same now at (none_lost nothing_stands now loses))
      | inr (inl is) ↦ inl (had_both is)
      | inr (inr is) ↦
          let (now, loses, at) = crashed_as disk tells laws config engine left crashes nothing_stands (said_by_both one other ∷ []) may.log (inr is) may.is chance in
          elim (none_or_all nothing_stands now (said_by_both one other) loses) [
            | inl none ↦ inr (is_neither same now at none)
            | inr all ↦ inl (are_both same now at all)
          ]
    ]

  pub writes_both_or_neither : WritesBothOrNeither disk tells config one other again old answered first second
  writes_both_or_neither = record {
    engine = engine;
    tries = tries;
    left = left;
    crashes = crashes;
    loads = loads;
    atomic = λ bare same.
        let had = opened disk tells laws config config old nothing_stands tries.opened refl (nothing_yet config (disk old) bare) tries.opens in
        let may = tries.done (home_of config) nothing_stands had in
        (may, λ chance. (either same may chance, λ was. had_both same may chance (may.has.has was)));
  }

-- What was put without a sync is read after a crash, or isn't, and stays so.
use Rattle.std.proofs.Common.{◌≡◌, ◌⊎◌, ℕ, zero, suc, List, [], ◌∷◌, ◌++◌, map, take, Option, Some, None, inl, inr, refl, ap, subst, ◌∙◌}
use Rattle.std.proofs.Math.Seq.{take-nil}
use Rattle.raft_log_machine_laws.specs.Fresh.{nothing_stands}
use Rattle.raft_log_engine.specs.raft_log_model_laws.specs.Groups.{taken}
use Rattle.raft_log_engine.specs.raft_log_fs.specs.Disk.{Disk}
use Rattle.raft_log_engine.specs.raft_log_fs.specs.Image.{IsImage}
use Rattle.raft_log_engine.specs.raft_log_file_settings.specs.declared.config.Config.{Config}
use Rattle.raft_log_engine.specs.raft_log_dual_pipes.specs.Pipes.{LogRecordValue}
use Rattle.raft_log_engine.specs.raft_log_engine_core.specs.ModelCalls.{IsEngineLog}
use Rattle.raft_log_engine.specs.raft_log_engine_laws.specs.EngineState.{LogMap, EngineState}
use Rattle.raft_log_engine.specs.raft_log_engine_laws.specs.Reading.{StandsUnder}
use Rattle.raft_log_recovery_laws.specs.Bare.{IsBare}
use Rattle.raft_log_recovery_laws.specs.ByCalls.{home_of}
use Rattle.raft_log_recovery_laws.specs.Running.{LeavesNoChance}
use Rattle.raft_log_world.specs.Model.{LosesSome}
use Rattle.raft_log_world.specs.Model.ModelLog.{running}
use Rattle.raft_crash_examples.specs.declared.ending.Ending.{Ending}
use Rattle.raft_crash_examples.specs.declared.lives.Life.{Life}
use Rattle.raft_crash_examples.specs.Changing.{said_by}
use Rattle.raft_crash_examples.specs.Ending.{EndsWithoutChance}
use Rattle.raft_crash_examples.specs.Following.{LivesFollowTheModel}
use Rattle.raft_crash_examples.specs.Keys.{value_behind}
use Rattle.raft_crash_examples.specs.Lives.{AllLiveIn, LivesOn, LivesWithoutChance, changes_of}
use Rattle.raft_crash_examples.specs.Saving.{Loads, put_of}
use Rattle.raft_crash_examples.specs.Unsynced.{LoadsAndEnds, PutsUnsynced, StaysAsRead}
use Rattle.raft_crash_examples.proofs.Lived.{lived, nothing_yet}
use Rattle.raft_crash_examples.proofs.Said.{stands}
use Rattle.raft_crash_examples.proofs.Steps.{crashed_as, ended, none_lost, opened, told}
use Rattle.raft_crash_examples.proofs.Steps.IsReady.{at_rest}
use Rattle.raft_crash_examples.proofs.Valued.{behind, one_value}

-- a crash of one pending batch keeps none of it, or all
pub none_or_all : (m now : LogMap) (x : LogRecordValue) → LosesSome m (x ∷ []) now → (now ≡ m) ⊎ (now ≡ taken m (x ∷ []))
none_or_all m now x loses = by loses.0 loses.2
  where
    by : (k : ℕ) → now ≡ taken m (take k (x ∷ [])) → (now ≡ m) ⊎ (now ≡ taken m (x ∷ []))
    by zero is = inl is
    by (suc k) is = inr (is ∙ ap (λ (l : List LogRecordValue). taken m (x ∷ l)) (take-nil k))

-- so does one of a batch that may be durable
with_or_without : (m now : LogMap) (x : LogRecordValue) (done rest : List LogRecordValue) → done ++ rest ≡ x ∷ [] → LosesSome (taken m done) rest now → (now ≡ m) ⊎ (now ≡ taken m (x ∷ []))
with_or_without m now x [] rest is loses = none_or_all m now x (subst (λ (l : List LogRecordValue). LosesSome m l now) is loses)
with_or_without m now x (y ∷ []) [] is loses =
    inr (none_lost (taken m (y ∷ [])) now loses ∙ ap (λ (l : List LogRecordValue). taken m l) is)
with_or_without m now x (y ∷ []) (z ∷ rest) is loses = (let never : ⊥ = cc in absurd never)
with_or_without m now x (y ∷ z ∷ done) rest is loses = (let never : ⊥ = cc in absurd never)

module _ {F C : Type 0} (disk : F → Disk) (tells : F → List ℕ → ℕ → Type 0) (laws : LivesFollowTheModel disk tells) (config : Config) (g : ℕ) (k v : List ℕ)
    (look : Config) (ending : Ending C) (lives : List (Life C)) (last : Config) (old left seen behind_all : F) (engine : EngineState) (first later : Option (List ℕ)) (puts : PutsUnsynced disk tells config g k v old engine)
    (crashes : IsImage engine.pipes.disk (disk left)) (reads : LoadsAndEnds disk tells look g k ending left first seen) (on : LivesOn disk tells lives seen behind_all) (again : Loads disk tells last g k behind_all later) where
  put_or_not : (m : LogMap) → (m ≡ nothing_stands) ⊎ (m ≡ taken nothing_stands (put_of g k v ∷ [])) → StandsUnder m g k first → (first ≡ None) ⊎ (first ≡ Some v)
  put_or_not m (inl is) here = inl (one_value nothing_stands g k first None (subst (λ (n : LogMap). StandsUnder n g k first) is here) refl)
  put_or_not m (inr is) here = inr (one_value (taken nothing_stands (put_of g k v ∷ [])) g k first (Some v) (subst (λ (n : LogMap). StandsUnder n g k first) is here) (stands nothing_stands g k v))

  stays : IsBare config (disk old) → home_of look ≡ home_of config → AllLiveIn (home_of config) lives → home_of last ≡ home_of config → LeavesNoChance (home_of config) engine.pipes (disk left)
      → EndsWithoutChance (home_of config) ending reads.engine (disk seen) reads.ends → LivesWithoutChance disk tells (home_of config) lives seen behind_all on
      → ((first ≡ None) ⊎ (first ≡ Some v)) × (later ≡ value_behind g k (changes_of lives) first)
  stays bare looks named lasts chance spared all_spared =
      let had = opened disk tells laws config config old nothing_stands puts.opened refl (nothing_yet config (disk old) bare) puts.opens in
      let (next, put, is) = puts.done (home_of config) nothing_stands had in
      let n : LogMap = taken nothing_stands put.done in
      let (m, loses, at) = crashed_as disk tells laws config engine left crashes n put.rest (running n put.rest) (inl refl) (subst (IsEngineLog (home_of config) engine) put.is is) chance in
      let seen_as = opened disk tells laws config look left m reads.engine looks (at_rest at) reads.opens in
      let here = reads.told.exact (home_of config) m [] seen_as in
      let next_ready = ended disk tells laws config ending reads.engine m seen seen_as reads.ends spared in
      let ready = lived disk tells laws config lives seen behind_all m on named all_spared next_ready in
      let all : LogMap = taken m (map said_by (changes_of lives)) in (
        put_or_not m (with_or_without nothing_stands m (put_of g k v) put.done put.rest put.splits loses) here,
        one_value all g k later (value_behind g k (changes_of lives) first) (told disk tells laws config last behind_all all g k later lasts ready again) (behind (changes_of lives) m g k first here),
      )

  pub stays_as_read : StaysAsRead disk tells config g k v look ending lives last old first later
  stays_as_read = record {
    engine = engine;
    puts = puts;
    left = left;
    crashes = crashes;
    seen = seen;
    reads = reads;
    behind = behind_all;
    on = on;
    again = again;
    stays = stays;
  }

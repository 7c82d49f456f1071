-- What is read from a log after its lives.
use Rattle.std.proofs.Common.{◌≡◌, ◌∙◌, ℕ, List, [], ◌∷◌, ◌++◌, map, Option, None, refl, sym, ap, subst}
use Rattle.std.proofs.lemmas.List.{map-append}
use Rattle.std.specs.Prelude.{Some}
use Rattle.raft_log_machine_laws.specs.Fresh.{nothing_stands}
use Rattle.raft_log_machine_laws.proofs.Public.{taken_twice}
use Rattle.raft_log_engine.specs.raft_log_model_laws.specs.Groups.{taken}
use Rattle.raft_log_engine.specs.raft_log_fs.specs.Disk.{Disk, empty_disk}
use Rattle.raft_log_engine.specs.raft_log_file_settings.specs.declared.config.Config.{Config}
use Rattle.raft_log_engine.specs.raft_log_engine_laws.specs.EngineState.{LogMap, EngineState}
use Rattle.raft_log_recovery_laws.specs.Bare.{IsBare}
use Rattle.raft_log_recovery_laws.specs.ByCalls.{home_of}
use Rattle.raft_log_world_engine.specs.Instance.Rests.{bare}
use Rattle.raft_log_engine.specs.raft_log_fs.specs.Image.{IsImage}
use Rattle.raft_log_engine.specs.raft_log_engine_laws.specs.Reading.{ReadsValue}
use Rattle.raft_crash_examples.specs.declared.changing.KeyChange.{KeyChange}
use Rattle.raft_crash_examples.specs.declared.lives.Life.{Life}
use Rattle.raft_crash_examples.specs.Changing.{said_by}
use Rattle.raft_crash_examples.specs.Crashing.{SavedValuesAreLoaded, SavesAcrossACrash}
use Rattle.raft_crash_examples.specs.Ending.{Ends}
use Rattle.raft_crash_examples.specs.Following.{LivesFollowTheModel}
use Rattle.raft_crash_examples.specs.Keys.{value_behind}
use Rattle.raft_crash_examples.specs.Lives.{AllLiveIn, LivesOn, LivesOnce, LivesWithoutChance, OpensAndChanges, ReadsTheFold, changes_of}
use Rattle.raft_crash_examples.specs.Opening.{Opens}
use Rattle.raft_crash_examples.specs.Reopening.{ChangesAndCloses, ReadsAllChanges}
use Rattle.raft_crash_examples.specs.Saving.{Loads, Saves, put_of}
use Rattle.raft_crash_examples.proofs.Said.{durable, stands}
use Rattle.raft_crash_examples.proofs.Steps.{IsReady, changed, ended, told, crashed, opened, closed_well}
use Rattle.raft_crash_examples.proofs.Steps.IsReady.{at_rest}
use Rattle.raft_crash_examples.proofs.Valued.{behind, one_value}

-- a log was opened, and read
pub loads_of : {F : Type 0} (disk : F → Disk) (tells : F → List ℕ → ℕ → Type 0) (config : Config) (g : ℕ) (k : List ℕ) (old : F) (e : EngineState) (found : Option (List ℕ)) → Opens disk tells config old e → ReadsValue e g k found → Loads disk tells config g k old found
loads_of disk tells config g k old e found opens reads = record { opened = e; opens = opens; done = reads }

-- where there is no log yet
pub nothing_yet : (config : Config) (d : Disk) → IsBare config d → IsReady config d nothing_stands
nothing_yet config d is = at_rest (bare is refl)

-- one life, with a copy of its settings
pub lives_once : {F C : Type 0} (disk : F → Disk) (tells : F → List ℕ → ℕ → Type 0) (life : Life C) (config : Config) (old new : F) (engine : EngineState) (cs : List KeyChange) → cs ≡ life.changes.items → home_of config ≡ home_of life.config
    → OpensAndChanges disk tells config cs old engine → Ends life.ending engine (disk new) → LivesOnce disk tells life old new
lives_once disk tells life config old new engine cs same names changes ends = record {
  config = config;
  names = names;
  engine = engine;
  changes = subst (λ (l : List KeyChange). OpensAndChanges disk tells config l old engine) same changes;
  ends = ends;
}

-- changes after changes
twice : (m : LogMap) (xs ys : List KeyChange) → taken (taken m (map said_by xs)) (map said_by ys) ≡ taken m (map said_by (xs ++ ys))
twice m xs ys = taken_twice m (map said_by xs) (map said_by ys) ∙ ap (λ l. taken m l) (sym (map-append said_by xs ys))

-- a key reads as the changes say that the log has taken
pub reads : {F : Type 0} (disk : F → Disk) (tells : F → List ℕ → ℕ → Type 0) → LivesFollowTheModel disk tells → (config settings : Config) (cs : List KeyChange) (g : ℕ) (k : List ℕ) (left : F) (found : Option (List ℕ)) → home_of settings ≡ home_of config
    → IsReady config (disk left) (taken nothing_stands (map said_by cs)) → Loads disk tells settings g k left found → found ≡ value_behind g k cs None
reads disk tells laws config settings cs g k left found named ready loads =
    let m : LogMap = taken nothing_stands (map said_by cs) in
    one_value m g k found (value_behind g k cs None) (told disk tells laws config settings left m g k found named ready loads) (behind cs nothing_stands g k None refl)

-- Lives of any number.

module _ {F C : Type 0} (disk : F → Disk) (tells : F → List ℕ → ℕ → Type 0) (laws : LivesFollowTheModel disk tells) (config : Config) where
  pub lived : (lives : List (Life C)) (old new : F) (m : LogMap) (on : LivesOn disk tells lives old new) → AllLiveIn (home_of config) lives → LivesWithoutChance disk tells (home_of config) lives old new on → IsReady config (disk old) m
      → IsReady config (disk new) (taken m (map said_by (changes_of lives)))
  lived [] old new m on named chance ready = subst (λ (f : F). IsReady config (disk f) m) (sym on) ready
  lived (life ∷ lives) old new m on named chance ready =
      let once = on.1 in
      let n : LogMap = taken m (map said_by life.changes.items) in
      let h = changed disk tells laws config once.config old m life.changes.items once.engine (once.names ∙ named.0) ready once.changes in
      let next = ended disk tells laws config life.ending once.engine n on.0 h once.ends chance.0 in
      subst (λ (x : LogMap). IsReady config (disk new) x) (twice m life.changes.items (changes_of lives)) (lived lives on.0 new n on.2 named.1 chance.1 next)

  pub reads_the_fold : (lives : List (Life C)) (g : ℕ) (k : List ℕ) (old left : F) (found : Option (List ℕ)) → LivesOn disk tells lives old left → Loads disk tells config g k left found → ReadsTheFold disk tells lives config g k old found
  reads_the_fold lives g k old left found on loads = record {
    left = left;
    on = on;
    loads = loads;
    folded = λ b named chance. reads disk tells laws config config (changes_of lives) g k left found refl (lived lives old left nothing_stands on named chance (nothing_yet config (disk old) b)) loads;
  }

-- A value that is saved, before a crash.

pub saved_values_are_loaded : {F : Type 0} (disk : F → Disk) (tells : F → List ℕ → ℕ → Type 0) → LivesFollowTheModel disk tells → SavedValuesAreLoaded disk tells
saved_values_are_loaded disk tells laws config again g k v old left engine found none saves is named chance loads =
    let m : LogMap = taken nothing_stands (put_of g k v ∷ []) in
    let had = opened disk tells laws config config old nothing_stands saves.opened refl (nothing_yet config (disk old) none) saves.opens in
    let ready = crashed disk tells laws config engine left is m (durable (put_of g k v) saves.opened engine saves.done (home_of config) nothing_stands had) chance in
    one_value m g k found (Some v) (told disk tells laws config again left m g k found named ready loads) (stands nothing_stands g k v)

-- an empty file system has no log
bare_at_first : (config : Config) (d : Disk) → d ≡ empty_disk → IsBare config d
bare_at_first config d empty = subst (IsBare config) (sym empty) (record {
  numbered = λ queue n path at. (refl, refl);
  reserved = λ n path at. refl;
  unnamed = λ path among. refl;
})

pub saves_across : {F : Type 0} (disk : F → Disk) (tells : F → List ℕ → ℕ → Type 0) → LivesFollowTheModel disk tells → (config again : Config) (g : ℕ) (k v : List ℕ) (nothing left : F) (engine : EngineState) (found : Option (List ℕ)) → disk nothing ≡ empty_disk
    → Saves disk tells config g k v nothing engine → IsImage engine.pipes.disk (disk left) → Loads disk tells again g k left found → SavesAcrossACrash disk tells config again g k v found
saves_across disk tells laws config again g k v nothing left engine found empty saves is loads = record {
  nothing = nothing;
  empty = empty;
  engine = engine;
  saves = saves;
  left = left;
  crashes = is;
  loads = loads;
  kept = λ named chance. saved_values_are_loaded disk tells laws config again g k v nothing left engine found (bare_at_first config (disk nothing) empty) saves is named chance loads;
}

-- Two lives that end with closes that succeed.

module _ {F : Type 0} (disk : F → Disk) (tells : F → List ℕ → ℕ → Type 0) (laws : LivesFollowTheModel disk tells) where
  closed_with : (config settings : Config) (changes : List KeyChange) (old left : F) (m : LogMap) → home_of settings ≡ home_of config → IsReady config (disk old) m → ChangesAndCloses disk tells settings changes old left
      → IsReady config (disk left) (taken m (map said_by changes))
  closed_with config settings changes old left m named ready c =
      let n : LogMap = taken m (map said_by changes) in
      closed_well disk tells laws config c.engine n (disk left) c.sound (changed disk tells laws config settings old m changes c.engine named ready c.changed) c.closes

  pub reads_all_changes : (first second last : Config) (before after : List KeyChange) (g : ℕ) (k : List ℕ) (old left again : F) (found : Option (List ℕ)) → ChangesAndCloses disk tells first before old left → ChangesAndCloses disk tells second after left again
      → Loads disk tells last g k again found → ReadsAllChanges disk first second last before after g k old found
  reads_all_changes first second last before after g k old left again found one two loads none same others =
      let half = closed_with first first before old left nothing_stands refl (nothing_yet first (disk old) none) one in
      let all = closed_with first second after left again (taken nothing_stands (map said_by before)) same half two in
      reads disk tells laws first last (before ++ after) g k again found others (subst (λ (m : LogMap). IsReady first (disk again) m) (twice nothing_stands before after) all) loads

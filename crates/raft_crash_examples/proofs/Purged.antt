-- A purge keeps the map, whether it succeeds or fails.
use Rattle.std.proofs.Common.{◌≡◌, ℕ, List, [], Option, None, inl, inr, refl, sym, subst}
use Rattle.std.specs.Prelude.{Err, Ok, Result}
use Rattle.raft_log_machine_laws.specs.Fresh.{nothing_stands}
use Rattle.raft_log_engine.specs.raft_log_record_base.specs.declared.errors.Error.{Error}
use Rattle.raft_log_engine.specs.raft_log_record_base.specs.declared.errors.Error.TheVariants as errors
use Rattle.raft_log_engine.specs.raft_log_fs.specs.Disk.{Disk}
use Rattle.raft_log_engine.specs.raft_log_fs.specs.Image.{IsImage}
use Rattle.raft_log_engine.specs.raft_log_file_settings.specs.declared.config.Config.{Config}
use Rattle.raft_log_engine.specs.raft_log_engine_core.specs.ModelCalls.{FollowsModel, IsEngineLog, ModelPurges}
use Rattle.raft_log_engine.specs.raft_log_engine_laws.specs.EngineState.{LogMap, EngineState}
use Rattle.raft_log_recovery_laws.specs.Bare.{IsBare}
use Rattle.raft_log_recovery_laws.specs.ByCalls.{home_of}
use Rattle.raft_log_world.specs.Model.{ModelLog}
use Rattle.raft_log_world.specs.Model.ModelLog.{failed, running}
use Rattle.raft_log_world_engine.specs.Instance.{CrashSparesEngine}
use Rattle.raft_crash_examples.specs.declared.changing.KeyChange.{KeyChange}
use Rattle.raft_crash_examples.specs.Following.{HasLog, IsOpenWith, LivesFollowTheModel}
use Rattle.raft_crash_examples.specs.Keys.{value_behind}
use Rattle.raft_crash_examples.specs.Lives.{OpensAndChanges}
use Rattle.raft_crash_examples.specs.Purging.{KeepsTheMap, ReadsBehindPurges, map_of}
use Rattle.raft_crash_examples.specs.Saving.{Loads}
use Rattle.raft_crash_examples.proofs.Lived.{nothing_yet, reads}
use Rattle.raft_crash_examples.proofs.Steps.{changed, crashed_whole}

-- which log the engine has after a purge
left_with : {A : Type 0} (r : Result A Error) (m : LogMap) (next : ModelLog) → ModelPurges r m [] next → IsOpenWith m [] next
left_with (Ok done) m next is = inl is
left_with (Err errors.Failed) m next (inl is) = inr is
left_with (Err errors.Failed) m next (inr is) = inr is
left_with (Err _) m next is = inl is

pub purged : {A : Type 0} (r : Result A Error) (s t : EngineState) → FollowsModel ModelPurges r s t → KeepsTheMap s t
purged r s t follows home m h = elim h.has [
  | inl runs ↦
      let (next, does, is) = follows.runs home m [] (subst (IsEngineLog home s) runs h.is) in
      record { log = next; is = is; has = left_with r m next does }
  | inr had_failed ↦
      let was : IsEngineLog home s (failed m []) = subst (IsEngineLog home s) had_failed h.is in
      record { log = failed m []; is = subst (λ (e : EngineState). IsEngineLog home e (failed m [])) (sym (follows.fails was.0).1) was; has = inr refl }
]

module _ {F : Type 0} (disk : F → Disk) (tells : F → List ℕ → ℕ → Type 0) (laws : LivesFollowTheModel disk tells) (config : Config) (changes : List KeyChange) (again : Config) (g : ℕ) (k : List ℕ)
    (old left : F) (now engine : EngineState) (found : Option (List ℕ)) (opens : OpensAndChanges disk tells config changes old now) (purges : KeepsTheMap now engine) (crashes : IsImage engine.pipes.disk (disk left))
    (loads : Loads disk tells again g k left found) where
  kept : IsBare config (disk old) → home_of again ≡ home_of config
      → (has : HasLog (home_of config) engine (IsOpenWith (map_of changes) [])) × (CrashSparesEngine (home_of config) engine has.log has.is (disk left) → found ≡ value_behind g k changes None)
  kept bare same =
      let m : LogMap = map_of changes in
      let holds = changed disk tells laws config config old nothing_stands changes now refl (nothing_yet config (disk old) bare) opens in
      let h = purges (home_of config) m (record { log = running m []; is = holds; has = inl refl }) in (
        h,
        λ chance.
            reads disk tells laws config again changes g k left found same (crashed_whole disk tells laws config engine left crashes m h.log h.has h.is chance) loads,
      )

  pub reads_behind_purges : ReadsBehindPurges disk tells config changes again g k old found
  reads_behind_purges = record {
    changed = now;
    opens = opens;
    engine = engine;
    purges = purges;
    left = left;
    crashes = crashes;
    loads = loads;
    kept = kept;
  }

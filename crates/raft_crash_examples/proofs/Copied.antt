-- A key reads the same from a log and from a copy of it.
use Rattle.std.proofs.Common.{◌≡◌, ℕ, List, [], ◌∷◌, map, Option, refl, subst, sym}
use Rattle.std.specs.Global.{Global}
use Rattle.std.specs.String.{string_bytes}
use Rattle.std.specs.declared.string.String.{String}
use Rattle.raft_log_machine_laws.specs.Fresh.{nothing_stands}
use Rattle.raft_log_engine.specs.raft_log_model_laws.specs.Groups.{taken}
use Rattle.raft_log_engine.specs.raft_log_fs.specs.Disk.{Disk}
use Rattle.raft_log_engine.specs.raft_log_file_settings.specs.Settings.{settings_of}
use Rattle.raft_log_engine.specs.raft_log_file_settings.specs.declared.config.Config.{Config}
use Rattle.raft_log_engine.specs.raft_log_offline.specs.Forks.{Forks}
use Rattle.raft_log_engine.specs.raft_log_engine_laws.specs.EngineState.{LogMap}
use Rattle.raft_log_recovery_laws.specs.ForkResting.{HoldsNoDirectory, NamesOnly}
use Rattle.raft_log_world.specs.declared.event.Answer.TheVariants.{Done}
use Rattle.raft_log_world.specs.declared.event.Event.TheVariants.{Fork}
use Rattle.raft_log_world.specs.Model.ModelLog.{resting, left}
use Rattle.raft_log_world_engine.specs.AnyFiles.{CopiesFollowTheModel, FollowsFiles}
use Rattle.raft_log_world_engine.specs.Instance.{IsFilesLog}
use Rattle.raft_crash_examples.specs.Changing.{said_by}
use Rattle.raft_crash_examples.specs.Copies.{CopiesReadAlike, LoadsCopy}
use Rattle.raft_crash_examples.specs.Following.{LivesFollowTheModel}
use Rattle.raft_crash_examples.specs.Lives.{changes_of}
use Rattle.raft_crash_examples.specs.Saving.{Loads}
use Rattle.raft_crash_examples.proofs.Lived.{lived, nothing_yet}
use Rattle.raft_crash_examples.proofs.Steps.{IsReady, none_lost, told}
use Rattle.raft_crash_examples.proofs.Steps.IsReady.{at_rest, left_so}
use Rattle.raft_crash_examples.proofs.Valued.{one_value}

-- a log was copied, and the copy was read
pub loads_copy : {F : Type 0} (disk : F → Disk) (tells : F → List ℕ → ℕ → Type 0) (config : Config) (target : List ℕ) (to : Config) (g : ℕ) (k : List ℕ) (old after : F) (copied : List (List ℕ)) (found : Option (List ℕ))
    → Forks (settings_of config) target copied (disk old) (disk after) → Loads disk tells to g k after found → LoadsCopy disk tells config target to g k old found
loads_copy disk tells config target to g k old after copied found forks loads = record { after = after; copied = copied; forks = forks; loads = loads }

-- what a copy has
copied_to : (config to : Config) (d new : Disk) (target : String Global) (m : LogMap) → IsReady config d m → FollowsFiles {C = Unit {0}} config d (Fork target) Done (IsFilesLog to new) → IsReady to new m
copied_to config to d new target m (at_rest known) follows =
    let (next, answer, at) = follows (resting m) known tt in
    at_rest (subst (IsFilesLog to new) answer at)
copied_to config to d new target m (left_so known spared) follows =
    let (next, answer, at) = follows (left m []) known spared in
    at_rest (subst (λ (n : LogMap). IsFilesLog to new (resting n)) (none_lost m answer.0 answer.1) (subst (IsFilesLog to new) answer.2 at))

same_head : {X : Type 0} (x y : X) (xs ys : List X) → x ∷ xs ≡ y ∷ ys → x ≡ y
same_head x y xs ys same = cc

module _ {F : Type 0} (disk : F → Disk) (tells : F → List ℕ → ℕ → Type 0) (laws : LivesFollowTheModel disk tells) (copies : CopiesFollowTheModel (Unit {0}) disk) where
  -- a copy of files that are ready; its settings have the target's name
  copied_ready : (config to : Config) (target : List ℕ) (paths : List (List ℕ)) (old new : F) (m : LogMap) → NamesOnly to target → HoldsNoDirectory target (disk old) → Forks (settings_of config) target paths (disk old) (disk new)
      → IsReady config (disk old) m → IsReady to (disk new) m
  copied_ready config to target paths old new m only apart forks ready =
      let name : string_bytes to.dir ≡ target = same_head _ _ _ _ only in
      let follows = (copies config to.dir old new).done to paths (subst (λ (t : List ℕ). NamesOnly to t) (sym name) only) (subst (λ (t : List ℕ). HoldsNoDirectory t (disk old)) (sym name) apart)
      (subst (λ (t : List ℕ). Forks (settings_of config) t paths (disk old) (disk new)) (sym name) forks) in
      copied_to config to (disk old) (disk new) to.dir m ready follows

  pub copies_read_alike : {C : Type 0} → CopiesReadAlike disk tells C
  copies_read_alike lives config old new bare named on chance here to target same names apart g k found copied loads copy =
      let m : LogMap = taken nothing_stands (map said_by (changes_of lives)) in
      let ready = lived disk tells laws config lives old new nothing_stands on named chance (nothing_yet config (disk old) bare) in
      let other = copied_ready config to target copy.copied new copy.after m names apart copy.forks ready in
      one_value m g k copied found (told disk tells laws to to copy.after m g k copied refl other copy.loads) (told disk tells laws config here new m g k found same ready loads)

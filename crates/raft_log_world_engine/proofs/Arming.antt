-- A fault is armed: the log is the same.
use Rattle.std.proofs.Common.{◌≡◌, ◌⊎◌, ◌∙◌, Bool, true, false, inl, inr, refl, sym, ap, subst}
use Rattle.std.specs.Prelude.{Err, Ok, OnErr, OnOk, Result}
use Rattle.std.specs.declared.io.ErrorKind.{ErrorKind}
use Rattle.raft_log_engine.specs.raft_log_record_base.specs.declared.errors.Error.{Error}
use Rattle.raft_log_engine.specs.raft_log_fs.specs.Disk.{Disk as OnDisk}
use Rattle.raft_log_engine.specs.raft_log_fs.specs.Exits.{Arms, denied_by}
use Rattle.raft_log_engine.specs.raft_log_fs.specs.declared.handle.Fault.{Fault as DiskFault}
use Rattle.raft_log_engine.specs.raft_log_file_settings.specs.declared.config.Config.{Config}
use Rattle.raft_log_engine.specs.raft_log_engine_core.specs.ModelCalls.{IsEngineLog}
use Rattle.raft_log_engine.specs.raft_log_engine_core.specs.Whole.{ArmsEngine}
use Rattle.raft_log_engine.specs.raft_log_engine_laws.specs.EngineState.{LogDirectories, EngineState, said_of}
use Rattle.raft_log_world.specs.declared.event.Answer.{Answer}
use Rattle.raft_log_world.specs.declared.event.Answer.TheVariants.{Done, Refused}
use Rattle.raft_log_world.specs.declared.event.Event.TheVariants.{Arm}
use Rattle.raft_log_world.specs.declared.event.Fault.{Fault}
use Rattle.raft_log_world.specs.declared.event.Fault.TheVariants.{Refuse, Stop}
use Rattle.raft_log_world.specs.Model.{Answers, ModelLog, is_open}
use Rattle.raft_log_world.specs.Model.ModelLog.{resting, left, running, failed}
use Rattle.raft_log_world_engine.specs.Faults.{fault_of, told_of}
use Rattle.raft_log_world_engine.specs.Instance.{IsFilesLog}

unmarked : (fault : Fault) (d : OnDisk) → denied_by (fault_of fault) d ≡ d
unmarked (Refuse call part) d = refl
unmarked (Stop call true) d = refl
unmarked (Stop call false) d = refl

same_disk : (fault : Fault) (d e : OnDisk) → Arms (fault_of fault) d e → e ≡ d
same_disk fault d e arms = elim arms.marks [
  | inl same ↦ same
  | inr marked ↦ marked ∙ unmarked fault d
]

pub same_files : (fault : Fault) (f : DiskFault) (d e : OnDisk) → f ≡ fault_of fault → Arms f d e → e ≡ d
same_files fault f d e is arms = same_disk fault d e (subst (λ (x : DiskFault). Arms x d e) is arms)

pub same_engine : (fault : Fault) (f : DiskFault) (s t : EngineState) → f ≡ fault_of fault → ArmsEngine f s t → t ≡ s
same_engine fault f s t is arms =
    let disk : t.pipes.disk ≡ s.pipes.disk = same_files fault f s.pipes.disk t.pipes.disk is arms.pipes.disk in
    let pipes : t.pipes ≡ s.pipes = arms.pipes.others ∙ ap (λ d. record s.pipes { disk = d }) disk in
    arms.others ∙ ap (λ v. record s { pipes = v }) pipes

-- the model gives both answers, and stays the same
either : (C : Type 0) (fault : Fault) (answer : Answer) (log : ModelLog) → (answer ≡ Done) ⊎ (answer ≡ Refused) → Answers {C = C} said_of log (Arm fault) answer log
either C fault answer log (inl is) = subst (λ (a : Answer). Answers {C = C} said_of log (Arm fault) a log) (sym is) (done log)
  where
    done : (l : ModelLog) → Answers {C = C} said_of l (Arm fault) Done l
    done (resting m) = refl
    done (left m pending) = refl
    done (running m pending) = refl
    done (failed m pending) = refl
either C fault answer log (inr is) = subst (λ (a : Answer). Answers {C = C} said_of log (Arm fault) a log) (sym is) (refused log)
  where
    refused : (l : ModelLog) → Answers {C = C} said_of l (Arm fault) Refused l
    refused (resting m) = refl
    refused (left m pending) = refl
    refused (running m pending) = refl
    refused (failed m pending) = refl

pub armed_files : (C : Type 0) (config : Config) (d e : OnDisk) (fault : Fault) (answer : Answer) → (answer ≡ Done) ⊎ (answer ≡ Refused) → e ≡ d → (log : ModelLog) (known : (is_open log ≡ false) × IsFilesLog config d log) → Unit {0}
    → (next : ModelLog) × Answers {C = C} said_of log (Arm fault) answer next × ((is_open next ≡ false) × IsFilesLog config e next)
armed_files C config d e fault answer told same log known asks =
    (log, either C fault answer log told, (known.0, subst (λ (x : OnDisk). IsFilesLog config x log) (sym same) known.1))

pub armed_engine : (C : Type 0) (home : LogDirectories) (s t : EngineState) (fault : Fault) (answer : Answer) → (answer ≡ Done) ⊎ (answer ≡ Refused) → t ≡ s → (log : ModelLog) (known : (is_open log ≡ true) × IsEngineLog home s log) → Unit {0}
    → (next : ModelLog) × Answers {C = C} said_of log (Arm fault) answer next × ((is_open next ≡ true) × IsEngineLog home t next)
armed_engine C home s t fault answer told same log known asks =
    (log, either C fault answer log told, (known.0, subst (λ (x : EngineState). IsEngineLog home x log) (sym same) known.1))

-- whatever an arming returned
pub files_after : (fault : Fault) (f : DiskFault) (d e : OnDisk) (r : Result (Unit {0}) ErrorKind) → f ≡ fault_of fault → OnOk r (Arms f d e) → OnErr r (e ≡ d) → e ≡ d
files_after fault f d e (Ok x) is armed refused = same_files fault f d e is armed
files_after fault f d e (Err x) is armed refused = refused

pub engine_after : (fault : Fault) (f : DiskFault) (s t : EngineState) (r : Result (Unit {0}) Error) → f ≡ fault_of fault → OnOk r (ArmsEngine f s t) → OnErr r (t ≡ s) → t ≡ s
engine_after fault f s t (Ok x) is armed refused = same_engine fault f s t is armed
engine_after fault f s t (Err x) is armed refused = refused

pub either_told : (done : Bool) (answer : Answer) → answer ≡ told_of done → (answer ≡ Done) ⊎ (answer ≡ Refused)
either_told true answer is = inl is
either_told false answer is = inr is

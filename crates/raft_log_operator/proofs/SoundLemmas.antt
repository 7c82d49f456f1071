-- What follows where nothing wrong was found.
use Rattle.std.specs.Prelude.{Contains}
use Rattle.std.specs.Option.{option_and_then}
use Rattle.std.proofs.Common.{◌≡◌, ◌↔◌, ℕ, Option, Some, None, List, [], ◌∷◌, refl, sym, ap, ◌∙◌, arith}
use Rattle.raft_log_record_base.specs.declared.pipe_log.LogQueue.{LogQueue}
use Rattle.raft_log_record_base.specs.declared.pipe_log.LogQueue.TheVariants as queues
use Rattle.raft_log_fs.specs.Disk.{Disk}
use Rattle.raft_log_replay.specs.Machines.{Batch}
use Rattle.raft_log_offline.specs.Findings.{Lists, told_by}
use Rattle.raft_log_offline.specs.Kept.{KeepsRuns, kept}
use Rattle.raft_log_offline.specs.Runs.{HasNoHole, Run, finding, runs_of}
use Rattle.raft_log_offline.specs.declared.checker.ConsistencyChecker.{ConsistencyChecker}
use Rattle.raft_log_operator.specs.Sound.{AreNone, HasCleanFiles, HasIntactFiles, HaveNoHole, InspectsLog, IsIntactLog}
use Rattle.raft_log_operator.specs.declared.inspection.LogFaults.{LogFaults}
use Rattle.raft_log_command_line.specs.declared.place.Place.{Place}

told_kept : (runs : List Run) → option_and_then (λ k. k.hole_after) (kept runs) ≡ finding runs
told_kept [] = refl
told_kept (run ∷ runs) = refl

none_told : (o : Option ℕ) → ((end : ℕ) → o ≡ Some end → ⊥) → o ≡ None
none_told None never = refl
none_told (Some end) never = absurd (never end refl)

in_none : {X : Type 0} (x : X) → Contains [] x → ⊥
in_none x (k, lt, is) = omega (arith, lt)

-- where a checker tells no finding, no group has a hole
pub no_hole : (queue : LogQueue) (batches : List Batch) (checker : ConsistencyChecker) → KeepsRuns queue batches checker → Lists (told_by checker) []
    → ((runs : List Run) → (finding runs ≡ None) ↔ HasNoHole runs) → HaveNoHole batches
no_hole queue batches checker keeps lists law group =
    let told : told_by checker group ≡ finding (runs_of group batches) = ap (option_and_then (λ k. k.hole_after)) (keeps group) ∙ told_kept (runs_of group batches) in
    (law (runs_of group batches)).0 (sym told ∙ none_told (told_by checker group) (λ end is. in_none (group, end) ((lists.exact group end).1 is)))

pub intact_files : (place : Place) (d : Disk) (faults : LogFaults) → InspectsLog place d faults → HasCleanFiles faults → HasIntactFiles place d
intact_files place d faults log clean queues.Append = (log.append.batches, log.append.intact clean.0)
intact_files place d faults log clean queues.Rewrite = (log.rewrite.batches, log.rewrite.intact clean.1)

pub intact_log : (place : Place) (d : Disk) (faults : LogFaults) → InspectsLog place d faults → AreNone faults → IsIntactLog place d
intact_log place d faults log none queues.Append = (log.append.batches, log.append.intact none.0.0, log.append.whole none.1)
intact_log place d faults log none queues.Rewrite = (log.rewrite.batches, log.rewrite.intact none.0.1, log.rewrite.whole none.2)

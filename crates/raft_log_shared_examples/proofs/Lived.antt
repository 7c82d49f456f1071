-- What the two lives of a log leave and find.
use Rattle.std.proofs.Common.{◌≡◌, ◌∙◌, ℕ, List, refl, sym, subst}
use Rattle.std.specs.Prelude.{◌↔◌, Bool, true, false, None, Result, Ok, Err, IfOk, IsTrue}
use Rattle.std.proofs.Math.Logic.{∥∥₁_map}
use Rattle.std.proofs.lemmas.Bool.{false≢true}
use Rattle.raft_log_machine_laws.specs.Fresh.{nothing_stands}
use Rattle.raft_log_record_base.specs.declared.errors.Error.{Error}
use Rattle.raft_log_record_base.specs.declared.errors.Error.TheVariants as errors
use Rattle.raft_log_record_batches.specs.Batch.{Batch}
use Rattle.raft_log_fs.specs.Disk.{Disk}
use Rattle.raft_log_fs.specs.Image.{IsSound}
use Rattle.raft_log_file_settings.specs.declared.config.Config.{Config}
use Rattle.raft_log_engine.specs.raft_log_memtables.specs.declared.mem_tables.MemTables.{MemTables}
use Rattle.raft_log_engine.specs.raft_log_block_cache.specs.declared.block_cache.BlockCache.{BlockCache}
use Rattle.raft_log_engine.specs.raft_log_dual_pipes.specs.ClosingCalls.{ClosesAs}
use Rattle.raft_log_engine.specs.raft_log_dual_pipes.specs.Pipes.{LogPipes}
use Rattle.raft_log_engine.specs.raft_log_engine_core.specs.ModelCalls.{IsEngineLog}
use Rattle.raft_log_engine.specs.raft_log_engine_laws.specs.EngineState.{EngineState, has_failed, shows}
use Rattle.raft_log_engine.specs.raft_log_open.specs.Opening.{OpensDirectory}
use Rattle.raft_log_recovery_laws.specs.Bare.{IsBare}
use Rattle.raft_log_recovery_laws.specs.ByCalls.{home_of}
use Rattle.raft_log_recovery_laws.specs.Closed.{ClosedFilesMeetThePremise, ClosesProperly, SuccessfulClosesAreProper}
use Rattle.raft_log_world.specs.Model.{ModelLog}
use Rattle.raft_log_world.specs.Model.ModelLog.{resting, left, running, failed}
use Rattle.raft_log_world.specs.Questions.{contents_of}
use Rattle.raft_log_world_engine.specs.AnyFiles.{OpensFollowTheModel}
use Rattle.raft_log_world_engine.specs.Instance.Rests.{bare, rests}
use Rattle.raft_log_shared_examples.specs.declared.lives.Left.{Left}
use Rattle.raft_log_shared_examples.specs.Lives.{ClosesLogs, FindsBoth, LeavesBoth, OpensResting, empty_log}
use Rattle.raft_log_shared_examples.specs.Sharing.{KeepsBoth, SharesAndWrites}

-- an open of a log at rest is one of the model log
pub opens_resting : {F : Type 0} (disk : F → Disk) (tells : F → List ℕ → ℕ → Type 0)
    → OpensFollowTheModel (Unit {0}) disk tells → (config : Config) (old : F)
    (v : LogPipes) (tables : MemTables) (cache : BlockCache) → cache.place ≡ None
    → OpensDirectory disk tells config old v tables → OpensResting config (disk old) (shows v tables cache)
opens_resting disk tells law config old v tables cache none opens named same m known =
    let (next, answer, at) = (law named config same old).done 0 v tables cache none opens (resting m) known tt in
    subst (λ (log : ModelLog). IsEngineLog (home_of named) (shows v tables cache) log) answer at

-- an engine whose close succeeds hadn't failed
alive : (gone : Bool) (result : Result (Unit {0}) Error) (answer : Unit {0}) → result ≡ Ok answer
    → (IsTrue gone → result ≡ Err errors.Failed) → gone ≡ false
alive true result answer is told =
    let never : result ≡ Err errors.Failed = told refl in
    let clash : ⊥ = cc in absurd clash
alive false result answer is told = refl

-- an engine that ran and was closed properly leaves each of its logs at rest
at_rest : ClosedFilesMeetThePremise → (s : EngineState) (d : Disk) → IsSound s.pipes.disk → has_failed s ≡ false
    → ClosesProperly s.pipes d → ClosesLogs s d
at_rest premise s d sound runs closed config (running m pending) at =
    rests (premise (home_of config) s m pending d sound at closed).rests
at_rest premise s d sound runs closed config (failed m pending) at = absurd (false≢true (sym runs ∙ at.0))
at_rest premise s d sound runs closed config (resting m) at = absurd at
at_rest premise s d sound runs closed config (left m pending) at = absurd at

pub closes_logs : SuccessfulClosesAreProper → ClosedFilesMeetThePremise → (s : EngineState)
    (result : Result (Unit {0}) Error) (answer : Unit {0}) (d : Disk) → result ≡ Ok answer → IsSound s.pipes.disk
    → (IsTrue (has_failed s) ↔ (result ≡ Err errors.Failed)) → (has_failed s ≡ false → ClosesAs s.pipes result d)
    → ClosesLogs s d
closes_logs proper premise s result answer d is sound fails closes =
    let runs = alive (has_failed s) result answer is (λ gone. fails.0 gone) in
    at_rest premise s d sound runs
    (proper s.pipes d (subst (λ (r : Result (Unit {0}) Error). ClosesAs s.pipes r d) is (closes runs)))

-- the log that keeps both batches becomes another one
becomes : {one other : Batch × Result ℕ Error} {log : ModelLog} (P Q : ModelLog → Type 0)
    → ((last : ModelLog) → P last → Q last) → KeepsBoth one other log P → KeepsBoth one other log Q
becomes P Q on k = record {
  history = k.history;
  last = k.last;
  explained = k.explained;
  of_one = k.of_one;
  of_other = k.of_other;
  is_last = on k.last k.is_last;
}

-- the first life, in directories without a log
left_both : (config : Config) (d new : Disk) (opened shared : EngineState) (one other : Batch × Result ℕ Error)
    → OpensResting config d opened → SharesAndWrites one other opened shared → ClosesLogs shared new
    → IsBare config d → LeavesBoth config one other new
left_both config d new opened shared one other opens writes closes none =
    ∥∥₁_map (writes (home_of config) empty_log (opens config refl nothing_stands (bare none refl)))
    (becomes (λ last. IsEngineLog (home_of config) shared last) _ (λ last at. closes config last at))

pub life_left : {F E : Type 0} (disk : F → Disk) (config : Config) (d : Disk) (opened shared : EngineState)
    (one other : Batch) (first second : Result ℕ Error) (closed : Result (Left F) E) → OpensResting config d opened
    → SharesAndWrites (one, first) (other, second) opened shared
    → IfOk closed (λ left. ClosesLogs shared (disk left.files)) → IfOk closed (λ left. left.first ≡ first)
    → IfOk closed (λ left. left.second ≡ second) → IfOk closed (λ left. IsBare config d
    → LeavesBoth config (one, left.first) (other, left.second) (disk left.files))
life_left disk config d opened shared one other first second (Ok l) opens writes closes same also = λ none.
    subst (λ (r : Result ℕ Error). LeavesBoth config (one, r) (other, l.second) (disk l.files)) (sym same)
    (subst (λ (r : Result ℕ Error). LeavesBoth config (one, first) (other, r) (disk l.files)) (sym also)
    (left_both config d (disk l.files) opened shared (one, first) (other, second) opens writes closes none))
life_left disk config d opened shared one other first second (Err error) opens writes closes same also = tt

-- the second life
pub found_both : (config again : Config) (d : Disk) (e : EngineState) (one other : Batch × Result ℕ Error)
    → LeavesBoth config one other d → OpensResting again d e → home_of again ≡ home_of config
    → FindsBoth (home_of config) one other e
found_both config again d e one other leaves opens same =
    ∥∥₁_map leaves (becomes _ _ (λ last at. opens config same (contents_of last) at))

-- A quiet run, moment by moment: what is asked at each is met.
use Rattle.std.proofs.Common.{◌≡◌, ◌∙◌, List, [], ◌∷◌, map, refl, sym, subst}
use Rattle.std.proofs.lemmas.Bool.{false≢true}
use Rattle.raft_log_engine.specs.raft_log_fs.specs.Disk.{Disk as OnDisk}
use Rattle.raft_log_engine.specs.raft_log_fs.specs.Image.{IsImage, IsSound}
use Rattle.raft_log_engine.specs.raft_log_model_laws.specs.Groups.{taken}
use Rattle.raft_log_engine.specs.raft_log_engine_laws.specs.EngineState.{LogDirectories, said_of}
use Rattle.raft_log_engine.specs.raft_log_engine_laws.specs.Holding.{IsRecoverableAs, Represents}
use Rattle.raft_log_record_batches.specs.Batch.{Batch}
use Rattle.raft_log_recovery_laws.specs.ByCalls.{home_of}
use Rattle.raft_log_recovery_laws.specs.Closed.{ClosedFilesMeetThePremise, ClosesProperly}
use Rattle.raft_log_recovery_laws.specs.InPlace.{StandsWithoutChance}
use Rattle.raft_log_recovery_laws.specs.Left.{IsCrashOf}
use Rattle.raft_log_world.specs.declared.event.Answer.{Answer}
use Rattle.raft_log_world.specs.declared.event.Answer.TheVariants.{Done, Idle}
use Rattle.raft_log_world.specs.declared.event.Event.{Event}
use Rattle.raft_log_world.specs.declared.event.Event.TheVariants.{Arm, Close, Crash, Fork, Open as OpenEvent, Serve}
use Rattle.raft_log_world.specs.declared.storage.Storage.{Storage}
use Rattle.raft_log_world.specs.declared.storage.Storage.TheVariants.{Closed, Open}
use Rattle.raft_log_world.specs.Explained.{Explains}
use Rattle.raft_log_world.specs.Logs.{Asks, Stands}
use Rattle.raft_log_world.specs.Model.{Answers, BatchRecord, ModelLog}
use Rattle.raft_log_world.specs.Model.ModelLog.{resting, left, running, failed}
use Rattle.raft_log_world.specs.Reads.{Contents}
use Rattle.raft_log_world.specs.Run.{FollowAll, Moment, behind}
use Rattle.raft_log_world_engine.specs.Instance.{IsLog, Parts, engine_log}
use Rattle.raft_voter_log.specs.Chance.{LossesLeaveNoChance}
use Rattle.raft_log_run_laws.specs.Quiet.{AllQuiet, IsQuiet, QuietRunsAskNothing}

module _ {S G : Type 0} (p : Parts S G) where
  -- what is asked of this log, if a close left it: by an open or a copy of the files, and by a crash of them
  abbrev Spared : (at : Storage S G) (log : ModelLog) → IsLog p at log → Type 0
  Spared (Closed files) (left m pending) is = StandsWithoutChance (home_of (p.settings files)) is.1.lies.state (p.disk files)
      × ((image : OnDisk) → IsImage (p.disk files) image → IsCrashOf (home_of (p.settings files)) is.1.lies.state (p.disk files) image)
  Spared at log is = Unit {0}

  abbrev IsReady : Storage S G → ModelLog → Type 0
  IsReady at log = (is : IsLog p at log) × Spared at log is

  -- a proper close leaves a log of which nothing is asked
  closed_ready : ClosedFilesMeetThePremise → (e : S) (files : G) (m : Contents) (pending : List BatchRecord) → Represents (home_of (p.config e)) (p.shows e) m pending → IsSound (p.shows e).pipes.disk → ClosesProperly (p.shows e).pipes (p.disk files) → home_of (p.settings files) ≡ home_of (p.config e)
      → IsReady (Closed files) (left (taken m pending) [])
  closed_ready closed e files m pending h sound proper named =
      let asks = (closed (home_of (p.config e)) (p.shows e) m pending (p.disk files) sound h proper).asks in
      subst (λ (home : LogDirectories). (is : IsRecoverableAs home (p.disk files) (taken m pending) []) × (StandsWithoutChance home is.1.lies.state (p.disk files) × ((image : OnDisk) → IsImage (p.disk files) image → IsCrashOf home is.1.lies.state (p.disk files) image)))
      (sym named) (asks.left, (asks.stands, asks.spared))

  -- a log at rest asks nothing
  rested : (files : G) (m : Contents) (next : ModelLog) → next ≡ resting m → IsLog p (Closed files) next → IsReady (Closed files) next
  rested files m next same is = subst (λ (n : ModelLog). IsLog p (Closed files) n → IsReady (Closed files) n) (sym same) (λ at. (at, tt)) is

module _ {S G C : Type 0} (p : Parts S G) (losses : LossesLeaveNoChance) (closed : ClosedFilesMeetThePremise) where
  -- what a quiet moment asks is met
  asked : (at : Storage S G) (log : ModelLog) (is : IsLog p at log) → Spared p at log is → (event : Event Batch C) (answer : Answer) (now : Storage S G) → IsQuiet p at event answer now → Asks (engine_log p) at log is event now
  asked (Open e) log is spared (Serve call) answer (Open now) quiet = tt
  asked (Open e) log is spared (Arm fault) answer (Open now) quiet = tt
  asked (Open e) log is spared Close Done (Closed now) quiet = tt
  asked (Open e) (running m pending) is spared (Crash what) Done (Closed now) quiet = losses (home_of (p.config e)) (p.shows e) m pending is (p.disk now) quiet.1
  asked (Open e) (failed m pending) is spared (Crash what) Done (Closed now) quiet = absurd (false≢true (sym quiet.0 ∙ is.0))
  asked (Open e) (resting m) is spared (Crash what) Done (Closed now) quiet = absurd is
  asked (Open e) (left m pending) is spared (Crash what) Done (Closed now) quiet = absurd is
  asked (Closed files) (resting m) is spared (OpenEvent workers) Done (Open now) quiet = tt
  asked (Closed files) (left m pending) is spared (OpenEvent workers) Done (Open now) quiet = spared.0
  asked (Closed files) (running m pending) is spared (OpenEvent workers) Done (Open now) quiet = absurd is
  asked (Closed files) (failed m pending) is spared (OpenEvent workers) Done (Open now) quiet = absurd is
  asked (Closed files) (resting m) is spared (Fork target) Done (Closed now) quiet = (quiet, tt)
  asked (Closed files) (left m pending) is spared (Fork target) Done (Closed now) quiet = (quiet, spared.0)
  asked (Closed files) (running m pending) is spared (Fork target) Done (Closed now) quiet = absurd is
  asked (Closed files) (failed m pending) is spared (Fork target) Done (Closed now) quiet = absurd is
  asked (Closed files) (resting m) is spared (Crash what) Done (Closed now) quiet = tt
  asked (Closed files) (left m pending) is spared (Crash what) Done (Closed now) quiet = spared.1 (p.disk now) quiet
  asked (Closed files) (running m pending) is spared (Crash what) Done (Closed now) quiet = absurd is
  asked (Closed files) (failed m pending) is spared (Crash what) Done (Closed now) quiet = absurd is
  asked (Closed files) log is spared (Serve call) Idle now quiet = tt
  asked (Closed files) log is spared Close Idle now quiet = tt
  asked _ _ is spared _ _ _ quiet = absurd quiet

  -- what is left after a quiet moment asks nothing either
  ready : (at : Storage S G) (log : ModelLog) (is : IsLog p at log) → Spared p at log is → (event : Event Batch C) (answer : Answer) (now : Storage S G) → IsQuiet p at event answer now → (next : ModelLog) → Answers said_of log event answer next → IsLog p now next → IsReady p now next
  ready (Open e) log is spared (Serve call) answer (Open now) quiet next answers still = (still, tt)
  ready (Open e) log is spared (Arm fault) answer (Open now) quiet next answers still = (still, tt)
  ready (Open e) (running m pending) is spared Close Done (Closed now) quiet next answers still =
      subst (IsReady p (Closed now)) (sym answers) (closed_ready p closed e now m pending is quiet.0 quiet.1 quiet.2)
  ready (Open e) (failed m pending) is spared Close Done (Closed now) quiet next answers still = absurd answers
  ready (Open e) (resting m) is spared Close Done (Closed now) quiet next answers still = absurd is
  ready (Open e) (left m pending) is spared Close Done (Closed now) quiet next answers still = absurd is
  ready (Open e) (running m pending) is spared (Crash what) Done (Closed now) quiet next answers still = rested p now answers.0 next answers.2 still
  ready (Open e) (failed m pending) is spared (Crash what) Done (Closed now) quiet next answers still = rested p now answers.0 next answers.2 still
  ready (Open e) (resting m) is spared (Crash what) Done (Closed now) quiet next answers still = absurd is
  ready (Open e) (left m pending) is spared (Crash what) Done (Closed now) quiet next answers still = absurd is
  ready (Closed files) log is spared (OpenEvent workers) Done (Open now) quiet next answers still = (still, tt)
  ready (Closed files) (resting m) is spared (Fork target) Done (Closed now) quiet next answers still = rested p now m next answers still
  ready (Closed files) (left m pending) is spared (Fork target) Done (Closed now) quiet next answers still = rested p now answers.0 next answers.2 still
  ready (Closed files) (running m pending) is spared (Fork target) Done (Closed now) quiet next answers still = absurd is
  ready (Closed files) (failed m pending) is spared (Fork target) Done (Closed now) quiet next answers still = absurd is
  ready (Closed files) (resting m) is spared (Crash what) Done (Closed now) quiet next answers still = rested p now m next answers still
  ready (Closed files) (left m pending) is spared (Crash what) Done (Closed now) quiet next answers still = rested p now answers.0 next answers.2 still
  ready (Closed files) (running m pending) is spared (Crash what) Done (Closed now) quiet next answers still = absurd is
  ready (Closed files) (failed m pending) is spared (Crash what) Done (Closed now) quiet next answers still = absurd is
  ready (Closed files) (resting m) is spared (Serve call) Idle now quiet next answers still =
      subst (λ (n : Storage S G). IsReady p n next) (sym quiet) (subst (IsReady p (Closed files)) (sym answers.1) (is, spared))
  ready (Closed files) (left m pending) is spared (Serve call) Idle now quiet next answers still =
      subst (λ (n : Storage S G). IsReady p n next) (sym quiet) (subst (IsReady p (Closed files)) (sym answers.1) (is, spared))
  ready (Closed files) (running m pending) is spared (Serve call) Idle now quiet next answers still = absurd is
  ready (Closed files) (failed m pending) is spared (Serve call) Idle now quiet next answers still = absurd is
  ready (Closed files) (resting m) is spared Close Idle now quiet next answers still =
      subst (λ (n : Storage S G). IsReady p n next) (sym quiet) (subst (IsReady p (Closed files)) (sym answers.1) (is, spared))
  ready (Closed files) (left m pending) is spared Close Idle now quiet next answers still =
      subst (λ (n : Storage S G). IsReady p n next) (sym quiet) (subst (IsReady p (Closed files)) (sym answers.1) (is, spared))
  ready (Closed files) (running m pending) is spared Close Idle now quiet next answers still = absurd is
  ready (Closed files) (failed m pending) is spared Close Idle now quiet next answers still = absurd is
  ready _ _ is spared _ _ _ quiet next answers still = absurd quiet

  -- the model goes on through all moments
  walked : (at : Storage S G) (ms : List (Moment S G Batch C)) (log : ModelLog) → Stands {C = C} (engine_log p) at log → IsReady p at log → FollowAll (engine_log p) at ms → AllQuiet p at ms
      → (last : ModelLog) × Explains said_of log (map (λ m. m.event) ms) (map (λ m. m.answer) ms) last × Stands {C = C} (engine_log p) (behind at ms) last
  walked at [] log known is follow quiet = (log, refl, known)
  walked at (m ∷ ms) log known is follow quiet =
      let (next, answers, still) = follow.0 log (known.0, is.0) (asked at log is.0 is.1 m.event m.answer m.now quiet.0) in
      let then_ready = ready at log is.0 is.1 m.event m.answer m.now quiet.0 next answers still.1 in
      let (last, explains, ended) = walked m.now ms next still then_ready follow.1 quiet.1 in
      (last, (next, answers, explains), ended)

  pub quiet_runs_ask_nothing : QuietRunsAskNothing C p
  quiet_runs_ask_nothing files events report run m rests quiet =
      let (last, explains, ended) = walked (Closed files) run.moments (resting m) (refl, rests) (rests, tt) run.explained quiet in (
        last,
        subst (λ (es : List (Event Batch C)). Explains said_of (resting m) es report.answers.items last) run.played
            (subst (λ (answers : List Answer). Explains said_of (resting m) (map (λ x. x.event) run.moments) answers last) run.told explains),
        subst (λ (at : Storage S G). Stands {C = C} (engine_log p) at last) run.ended ended,
      )

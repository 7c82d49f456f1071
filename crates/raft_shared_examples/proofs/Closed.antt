-- A store that was shared and settled is closed well.
use Rattle.std.proofs.Common.{◌≡◌, ℕ, Bool, true, false, List, Option, IfOk, refl, sym, ap, subst}
use Rattle.std.specs.Prelude.{IsTrue, Result, Ok, Err, ◌↔◌}
use Rattle.raft_log_record_base.specs.declared.errors.Error.{Error}
use Rattle.raft_log_record_base.specs.declared.errors.Error.TheVariants as errors
use Rattle.raft_log_fs.specs.Disk.{Disk}
use Rattle.raft_log_fs.specs.Image.{IsSound}
use Rattle.raft_log_file_settings.specs.declared.config.Config.{Config}
use Rattle.raft_log_engine.specs.raft_log_dual_pipes.specs.ClosingCalls.{ClosesAs}
use Rattle.raft_log_engine.specs.raft_log_engine_laws.specs.EngineState.{EngineState, has_failed}
use Rattle.raft_log_recovery_laws.specs.ByCalls.{home_of}
use Rattle.raft_log_recovery_laws.specs.Closed.{SuccessfulClosesAreProper}
use Rattle.raft_voter_outline.specs.Kept.{outlines_in}
use Rattle.raft_voter_messages.specs.declared.request.Request.{Request}
use Rattle.raft_voter_messages.specs.declared.round.Round.{Round}
use Rattle.raft_voter.specs.Service.{IsOpenAt}
use Rattle.raft_voter_rounds.specs.Journal.{IsLegal, reached}
use Rattle.raft_voter_shared_log.specs.LogOpenings.{log_service}
use Rattle.raft_voter_shared_log.specs.Opening.{OpensStore}
use Rattle.raft_voter_shared_log.specs.declared.store.LogStore.{LogStore}
use Rattle.raft_shared_examples.specs.Lives.{LivesShared}
use Rattle.raft_shared_examples.specs.Seats.{AreServed}
use Rattle.raft_shared_examples.specs.Sharing.{ClosesWell, IsSettledFrom, SharesAndCloses}
use Rattle.raft_shared_examples.specs.declared.lives.Shared.{Shared}

-- an engine whose close succeeds hadn't failed
alive : (failed : Bool) (result : Result (Unit {0}) Error) (answer : Unit {0}) → result ≡ Ok answer → (IsTrue failed → result ≡ Err errors.Failed) → failed ≡ false
alive true result answer is told = (let never : result ≡ Err errors.Failed = told refl in let no : ⊥ = cc in absurd no)
alive false result answer is told = refl

-- a close that succeeds is proper
pub closes_well : SuccessfulClosesAreProper → (s : EngineState) (result : Result (Unit {0}) Error) (answer : Unit {0}) (d : Disk) → result ≡ Ok answer → (IsTrue (has_failed s) ↔ (result ≡ Err errors.Failed))
    → (has_failed s ≡ false → ClosesAs s.pipes result d) → ClosesWell s d
closes_well proper s result answer d is fails closes =
    let runs = alive (has_failed s) result answer is (λ failed. fails.0 failed) in
    (runs, proper s.pipes d (subst (λ (r : Result (Unit {0}) Error). ClosesAs s.pipes r d) is (closes runs)))

module _ {F : Type 0} (disk : F → Disk) (shows : LogStore F → EngineState) (old settled : LogStore F) (journal : List Round) (shared : Shared F) where
  pub shares : IsSettledFrom (log_service shows) old settled journal → IsSound (shows settled).pipes.disk → ClosesWell (shows settled) (disk shared.files) → shared.config ≡ settled.config → shared.journal.items ≡ journal
      → SharesAndCloses disk shows old shared
  shares from sound closes config same = record {
    legal = λ W at. subst (λ (rounds : List Round). IsLegal W rounds) (sym same) (from.legal W at);
    settled = settled;
    serves = λ W at. subst (λ (rounds : List Round). ∥ IsOpenAt (log_service shows) settled (reached W rounds) ∥₁) (sym same) (from.serves W at closes.0);
    named = ap home_of config;
    sound = sound;
    closes = closes.1;
  }

-- a store that was opened, shared and settled, and whose close succeeds, lived its life
pub lives_shared : {F E : Type 0} (disk : F → Disk) (tells : F → List ℕ → ℕ → Type 0) (shows : LogStore F → EngineState) (config : Config) (files : F) (opened settled : LogStore F) (journal : List Round) (closed : Result (Shared F) E) → opened.config ≡ config
    → OpensStore disk tells config files (shows opened) (outlines_in opened.store.outlines) → IsSettledFrom (log_service shows) opened settled journal → IsSound (shows settled).pipes.disk → IfOk closed (λ shared. ClosesWell (shows settled) (disk shared.files))
    → IfOk closed (λ shared. shared.config ≡ settled.config) → IfOk closed (λ shared. shared.journal.items ≡ journal) → IfOk closed (λ shared. LivesShared disk tells shows config files shared)
lives_shared disk tells shows config files opened settled journal (Ok shared) same opens from sound closes named rounds = record {
  store = opened;
  config_is = same;
  opens = opens;
  shares = shares disk shows opened settled journal shared from sound closes named rounds;
}
lives_shared disk tells shows config files opened settled journal (Err error) same opens from sound closes named rounds = tt

-- what is left after the close has the records of both rounds
pub rounds_left : {F E : Type 0} (journal : List Round) (one other : List (ℕ × Request)) (first second : Option ℕ) (closed : Result (Shared F) E) → AreServed journal one first other second → IfOk closed (λ shared. shared.journal.items ≡ journal)
    → IfOk closed (λ shared. (shared.first ≡ first) × (shared.second ≡ second)) → IfOk closed (λ shared. AreServed shared.journal.items one shared.first other shared.second)
rounds_left journal one other first second (Ok shared) served same places =
    subst (λ (rounds : List Round). AreServed rounds one shared.first other shared.second) (sym same)
    (subst (λ (place : Option ℕ). AreServed journal one place other shared.second) (sym places.0)
    (subst (λ (place : Option ℕ). AreServed journal one first other place) (sym places.1) served))
rounds_left journal one other first second (Err error) served same places = tt

-- A store whose log was closed properly leaves nothing to chance.
use Rattle.std.proofs.Common.{◌≡◌, ◌⊎◌, ℕ, List, [], inl, inr, refl, sym, subst, ◌∙◌}
use Rattle.std.proofs.Math.Seq.{take-nil}
use Rattle.std.proofs.lemmas.Bool.{false≢true}
use Rattle.raft_log_model_laws.specs.Groups.{taken}
use Rattle.raft_log_fs.specs.Disk.{Disk}
use Rattle.raft_log_fs.specs.Image.{IsImage, IsSound}
use Rattle.raft_log_file_settings.specs.declared.config.Config.{Config}
use Rattle.raft_voter_durability_laws.specs.raft_log_engine_laws.specs.raft_log_dual_pipes.specs.OnDisk.{IsDurableAs}
use Rattle.raft_voter_durability_laws.specs.raft_log_engine_laws.specs.raft_log_dual_pipes.specs.Pipes.{LogRecordValue}
use Rattle.raft_voter_durability_laws.specs.raft_log_engine_laws.specs.EngineState.{EngineState, LogDirectories, LogMap, log_in, sense}
use Rattle.raft_log_recovery_laws.specs.Bare.{IsBare}
use Rattle.raft_log_recovery_laws.specs.ByCalls.{home_of}
use Rattle.raft_log_recovery_laws.specs.Closed.{AsksNothing}
use Rattle.raft_log_recovery_laws.specs.ForkLeaving.{EndsFork, LeavesSource}
use Rattle.raft_log_recovery_laws.proofs.Public.{closed_sound, closes_in_order, forks_leave_the_source, resting_logs_ask_nothing, rests_then, undisturbed_closes_are_proper}
use Rattle.raft_voter.specs.Rounds.{World, fresh_world}
use Rattle.raft_voter.specs.Service.{CutRound, MayFollow, uncut}
use Rattle.raft_voter_records.specs.Voters.{Means}
use Rattle.raft_voter_durability_laws.specs.Standing.{IsLeftAmong}
use Rattle.raft_voter_store.specs.Service.{LeavesAt}
use Rattle.raft_voter_store.specs.Service.LeavesAt.{left as is_left, running}
use Rattle.raft_voter_log.specs.ClosedRuns.{ClosesUndisturbed}
use Rattle.raft_voter_log.specs.ClosedStores.{AskNothing, ClosedStoresAreFound, ClosedStoresMeetThePremise, RestingVotersAskNothing}
use Rattle.raft_voter_log.specs.Instance.{AreSame, ClosesByCalls}
use Rattle.raft_voter_log.specs.Leaving.FilesLeave.{bare, left, rests}
use Rattle.raft_voter_log.proofs.Crashes.{bare_image}
use Rattle.raft_voter_log.proofs.Finding.{resting_voters_are_found}
use Rattle.raft_voter_log.proofs.Homes.{bare_for, one_home, some_append, some_rewrite}
use Rattle.raft_voter_log.proofs.OpenLemmas.{follows_none}
use Rattle.raft_voter_log.proofs.Resting.{IsPlainly}

-- A log at rest.

module _ (config : Config) (d : Disk) (cut : CutRound) (m : LogMap) (W : World) (sound : IsSound d) (at : IsDurableAs (log_in (home_of config)) d m) (means : Means m W) (follows : MayFollow cut W) where
  asks : AsksNothing (home_of config) d m
  asks = resting_logs_ask_nothing (home_of config) (some_append config) (some_rewrite config) d m sound at

  abbrev l : IsLeftAmong (home_of config) d (MayFollow cut)
  l = record {
    map = m;
    pending = [];
    left = asks.left;
    among = λ k within. (W, follows, subst (λ (rs : List LogRecordValue). Means (taken m rs) W) (sym (take-nil k)) means);
  }

  resting_asks : AskNothing config d cut
  resting_asks = (left l, λ read. record { stands = λ same. asks.stands; crashed = λ is. asks.spared read is })

pub resting_voters_ask_nothing : RestingVotersAskNothing
resting_voters_ask_nothing config d cut m W sound at means follows = resting_asks config d cut m W sound at means follows

pub closed_stores_meet_the_premise : ClosedStoresMeetThePremise
closed_stores_meet_the_premise config s W d sound keeps c = closed_asks (rests_then (home_of config) s keeps.map [] d d sound keeps.holds c (inl refl))
  where
    closed_asks : IsDurableAs (log_in (home_of config)) d keeps.map → AskNothing config d (uncut W)
    closed_asks at = resting_asks config d (uncut W) keeps.map W (closed_sound (sense (home_of config)) s.pipes keeps.holds.state d sound keeps.holds.runs c) at keeps.means (follows_none (uncut W) W refl)

pub closed_stores_are_found : {F : Type 0} (disk : F → Disk) (tells : F → List ℕ → ℕ → Type 0) → ClosedStoresAreFound disk tells
closed_stores_are_found disk tells home s W d old sound sound_old keeps c either config named =
    resting_voters_are_found disk tells config old keeps.map W sound_old
    (subst (λ (h : LogDirectories). IsDurableAs (log_in h) (disk old) keeps.map) (sym named) (rests_then home s keeps.map [] d (disk old) sound keeps.holds c either)) keeps.means

-- In a run the files have no log, or one at rest.

pub record RestsWith (config : Config) (d : Disk) (cut : CutRound) : Type 0 where
  pub map : LogMap
  pub world : World
  pub at : IsDurableAs (log_in (home_of config)) d map
  pub means : Means map world
  pub follows : MayFollow cut world

abbrev pub AreAtRest : Config → Disk → CutRound → Type 0
AreAtRest config d cut = (IsBare config d × (cut ≡ uncut fresh_world)) ⊎ RestsWith config d cut

-- then they ask nothing
pub resting_files_ask : (config : Config) (d : Disk) (cut : CutRound) → IsSound d → AreAtRest config d cut → AskNothing config d cut
resting_files_ask config d cut sound (inl none) = (bare none.0 none.1, λ read. tt)
resting_files_ask config d cut sound (inr is) = resting_asks config d cut is.map is.world sound is.at is.means is.follows

-- by other settings of the same directories
pub at_rest_for : (c e : Config) (d : Disk) (cut : CutRound) → AreSame e c → AreAtRest c d cut → AreAtRest e d cut
at_rest_for c e d cut same (inl none) = inl (bare_for c e d (sym (one_home e c same)) none.0, none.1)
at_rest_for c e d cut same (inr is) = inr (record {
  map = is.map;
  world = is.world;
  at = subst (λ (h : LogDirectories). IsDurableAs (log_in h) d is.map) (sym (one_home e c same)) is.at;
  means = is.means;
  follows = is.follows;
})

-- on a disk that stays as it is
pub at_rest_still : (config : Config) (d e : Disk) (cut : CutRound) → e ≡ d → AreAtRest config d cut → AreAtRest config e cut
at_rest_still config d e cut same rest = subst (λ (x : Disk). AreAtRest config x cut) (sym same) rest

-- after a crash of a running store that only lost writes
pub at_rest_plainly : (config : Config) (d : Disk) (cut : CutRound) → IsPlainly config d cut → AreAtRest config d cut
at_rest_plainly config d cut (bare b none, plain) = inl (b, none)
at_rest_plainly config d cut (rests before image m at W means follows, plain) = inr (record { map = m; world = W; at = at; means = means; follows = follows })
at_rest_plainly config d cut (left l, plain) = absurd plain

-- after a crash of such files
pub at_rest_crashed : (config : Config) (d image : Disk) (cut : CutRound) → IsSound d → IsImage d image → AreAtRest config d cut → AreAtRest config image cut
at_rest_crashed config d image cut sound is (inl none) = inl (bare_image config d image is none.0, none.1)
at_rest_crashed config d image cut sound is (inr r) =
    let asks : AsksNothing (home_of config) d r.map = resting_logs_ask_nothing (home_of config) (some_append config) (some_rewrite config) d r.map sound r.at in
    inr (record { map = r.map; world = r.world; at = asks.rests image is; means = r.means; follows = r.follows })

-- after a copy of them
pub at_rest_copied : (config : Config) (target : List ℕ) (old new : Disk) (cut : CutRound) → IsSound old → EndsFork config target old new → AreAtRest config old cut → AreAtRest config new cut
at_rest_copied config target old new cut sound ends rest =
    let keeps : LeavesSource config old new = forks_leave_the_source config target old new sound ends in
    elim rest [
      | inl none ↦ inl (keeps.bare none.0, none.1)
      | inr r ↦ inr (record { map = r.map; world = r.world; at = (keeps.rests r.map r.at).0; means = r.means; follows = r.follows })
    ]

-- after a close in which no file call fails
pub at_rest_closed : (config : Config) (s : EngineState) (cut : CutRound) (d : Disk) → IsSound s.pipes.disk → ClosesUndisturbed s d → ClosesByCalls s d → LeavesAt (home_of config) s cut → AreAtRest config d cut
at_rest_closed config s cut d sound undisturbed calls (running W none keeps) =
    let (result, closes) = calls undisturbed.runs in
    let proper = undisturbed_closes_are_proper (sense (home_of config)) s.pipes keeps.holds.state d sound keeps.holds.runs (closes_in_order s.pipes result d closes) undisturbed.calm in
    inr (record {
      map = keeps.map;
      world = W;
      at = rests_then (home_of config) s keeps.map [] d d sound keeps.holds proper (inl refl);
      means = keeps.means;
      follows = follows_none cut W none;
    })
at_rest_closed config s cut d sound undisturbed calls (is_left failed l) = absurd (false≢true (sym undisturbed.runs ∙ failed))

-- Openings of a log join.
use Rattle.std.proofs.Common.{◌≡◌, ◌∙◌, ◌⊎◌, inl, inr, ℕ, List, [], ◌∷◌, take, subst, sym}
use Rattle.std.proofs.Math.Logic.{∥∥₁_map}
use Rattle.std.proofs.Math.Seq.{take-nil}
use Rattle.std.proofs.lemmas.Bool.{false≢true}
use Rattle.raft_log_model_laws.specs.Groups.{taken}
use Rattle.raft_log_fs.specs.Disk.{Disk}
use Rattle.raft_log_fs.specs.Image.{IsImage, IsSound}
use Rattle.raft_voter_durability_laws.specs.raft_log_engine_laws.specs.raft_log_dual_pipes.specs.OnDisk.{IsDurableAs}
use Rattle.raft_voter_durability_laws.specs.raft_log_engine_laws.specs.raft_log_dual_pipes.specs.Pipes.{LogRecordValue}
use Rattle.raft_log_file_settings.specs.declared.config.Config.{Config}
use Rattle.raft_voter_durability_laws.specs.raft_log_engine_laws.specs.EngineState.{LogDirectories, EngineState, log_in}
use Rattle.raft_log_recovery_laws.specs.ByCalls.{home_of}
use Rattle.raft_log_recovery_laws.specs.Left.{IsCrashOf}
use Rattle.raft_log_recovery_laws.proofs.Public.{crashed_engines_open, crashed_logs_rest}
use Rattle.raft_voter.specs.Rounds.{World, fresh_world}
use Rattle.raft_voter.specs.Service.{CutRound, IsOpenAt, MayFollow}
use Rattle.raft_voter_outline.specs.Kept.{outlines_in}
use Rattle.raft_voter_durability_laws.specs.Standing.{IsLeftAmong, Keeps}
use Rattle.raft_voter_log.specs.Opens.{ServesFound}
use Rattle.raft_voter_log.proofs.Public.{bare_for, closed_stores_are_found, crashed_voters_are_found, first_opens_are_fresh, follows_none, left_voters_are_found, one_home, opened_lives, some_append, some_rewrite}
use Rattle.raft_voter_store.specs.Service.{LeavesAt}
use Rattle.raft_voter_store.specs.Service.LeavesAt.{left as is_left, running}
use Rattle.raft_voter_store.proofs.Public.{open_in}
use Rattle.raft_voter_log.specs.Leaving.{SparesStore}
use Rattle.raft_voter_shared_log.specs.declared.store.LogStore.{LogStore}
use Rattle.raft_voter_shared_log.specs.GoingOn.{GoesOnBehindACrash, GoesOnInPlace}
use Rattle.raft_voter_shared_log.specs.Joining.{AreJoined, BeginsFresh, ContinuesFrom, IsFollowedBy, behind}
use Rattle.raft_voter_shared_log.specs.LogOpenings.{AreLogOpenings, BeginsBare, ComesNext, IsLeftNext, IsShared, LogOpeningsAreExplained, LogSharing, ReadsClosed, RestsMeaning, SettledStoresMean, home_behind, log_service, stores_of}
use Rattle.raft_voter_shared_log.specs.Opening.{OpensStore}
use Rattle.raft_voter_shared_log.proofs.GoingOn.{closed_is_left}
use Rattle.raft_voter_shared_log.proofs.Joining.{joined_openings_are_explained}

module _ {F : Type 0} (disk : F → Disk) (tells : F → List ℕ → ℕ → Type 0) (shows : LogStore F → EngineState) where
  -- a store that was opened of files serves what any open of them by its settings finds
  serves : (store : LogStore F) (found : F) (W : World) → (opens : OpensStore disk tells store.config found (shows store) (outlines_in store.store.outlines)) → ServesFound disk tells opens.0 found W
      → IsOpenAt (log_service shows) store W
  serves store found W opens finds =
      let (keeps, are) = finds (shows store) (outlines_in store.store.outlines) opens.2 in
      open_in (λ (s : LogStore F). home_of s.config) shows (λ (s : LogStore F). outlines_in s.store.outlines) store W
      (opened_lives disk tells opens.0 found (shows store) (outlines_in store.store.outlines) opens.2)
      (subst (λ (h : LogDirectories). Keeps h (shows store) W) (one_home opens.0 store.config opens.1) keeps) are

  finds : (x next : LogSharing F) → IsShared disk tells shows next → (home : LogDirectories) → home_of next.shared.opened.config ≡ home → (cut : CutRound) → (left : IsLeftAmong home (disk x.closed) (MayFollow cut))
      → GoesOnBehindACrash disk tells home (disk x.closed) cut left → GoesOnInPlace disk tells home x.closed cut left → IsSound (disk next.found) → IsLeftNext disk home cut x.closed next.found left
      → (X : World) × MayFollow cut X × IsOpenAt (log_service shows) next.shared.opened X
  finds x next is home named cut left crashed stands sound (inl crash) =
      let (W, follows, law) = crashed next.found sound crash in (
        W,
        follows,
        serves next.shared.opened next.found W is.opens (law is.opens.0 (one_home is.opens.0 next.shared.opened.config is.opens.1 ∙ named)).answered,
      )
  finds x next is home named cut left crashed stands sound (inr (same, chance)) =
      let (W, follows, law) = stands (subst (λ (f : F). IsSound (disk f)) same sound) chance in (
        W,
        follows,
        serves next.shared.opened next.found W is.opens
            (subst (λ (f : F). ServesFound disk tells is.opens.0 f W) (sym same) (law is.opens.0 (one_home is.opens.0 next.shared.opened.config is.opens.1 ∙ named)).answered),
      )

  -- behind a proper close of a store that runs
  finds_closed : (x next : LogSharing F) → IsShared disk tells shows next → home_of next.shared.opened.config ≡ home_behind x → IsSound (disk next.found) → ReadsClosed disk shows x next
      → (cut : CutRound) → LeavesAt (home_behind x) (shows x.shared.settled) cut → (X : World) × MayFollow cut X × IsOpenAt (log_service shows) next.shared.opened X
  finds_closed x next is named sound reads cut (running W none keeps) =
      let law = closed_stores_are_found disk tells (home_behind x) (shows x.shared.settled) W (disk x.closed) next.found reads.sound sound keeps reads.closes reads.found in (
        W,
        follows_none cut W none,
        serves next.shared.opened next.found W is.opens (law is.opens.0 (one_home is.opens.0 next.shared.opened.config is.opens.1 ∙ named)).answered,
      )
  finds_closed x next is named sound reads cut (is_left failed l) = absurd (false≢true (sym reads.runs ∙ failed))

  goes_on : (x next : LogSharing F) → IsShared disk tells shows x → IsShared disk tells shows next → ComesNext disk shows x next → ContinuesFrom (log_service shows) x.shared next.shared.opened
  goes_on x next is then comes W at =
      let cut = behind W x.shared.session in
      elim comes.reads [
        | inl closed ↦ ∥∥₁_map (is.settles.left W at) (λ known. finds_closed x next then comes.named comes.sound closed cut known)
        | inr left ↦
            ∥∥₁_map (left W at) (λ known.
            finds x next then (home_behind x) comes.named cut known.0
            (λ old sound crash. crashed_voters_are_found disk tells (home_behind x) (some_append x.shared.settled.config) (some_rewrite x.shared.settled.config) (disk x.closed) cut known.0 old sound crash)
            (λ sound chance. left_voters_are_found disk tells (home_behind x) (some_append x.shared.settled.config) (some_rewrite x.shared.settled.config) x.closed cut known.0 sound chance)
            comes.sound known.1)
      ]

  begins : (xs : List (LogSharing F)) → BeginsBare disk xs → AreLogOpenings disk tells shows xs → BeginsFresh (log_service shows) (stores_of xs)
  begins [] bare are = tt
  begins (x ∷ xs) bare are =
      let opens = are.0.opens in
      ∣ serves x.shared.opened x.found fresh_world opens
      (first_opens_are_fresh disk tells opens.0 x.found bare.0 (bare_for x.shared.opened.config opens.0 (disk x.found) (sym (one_home opens.0 x.shared.opened.config opens.1)) bare.1)).answered ∣₁

  followed : (x : LogSharing F) (xs : List (LogSharing F)) → AreLogOpenings disk tells shows (x ∷ xs) → IsFollowedBy (log_service shows) x.shared (stores_of xs)
  followed x [] are = are.1
  followed x (y ∷ ys) are = (goes_on x y are.0 are.2.0 are.1.0, are.1.1)

  joined : (xs : List (LogSharing F)) → AreLogOpenings disk tells shows xs → AreJoined (log_service shows) (stores_of xs)
  joined [] are = tt
  joined (x ∷ xs) are = (are.0.settles, followed x xs are, joined xs are.2)

  pub log_openings_are_explained : LogOpeningsAreExplained disk tells shows
  log_openings_are_explained xs bare are = joined_openings_are_explained (log_service shows) (stores_of xs) (begins xs bare are) (joined xs are)

-- What a crash leaves of a log that was left, and under a store.

left_means : (config : Config) (d : Disk) (cut : CutRound) (l : IsLeftAmong (home_of config) d (MayFollow cut)) (image : Disk) → IsCrashOf (home_of config) l.left.1.lies.state d image → RestsMeaning (home_of config) image (MayFollow cut)
left_means config d cut l image crash =
    let (k, within, at) = crashed_logs_rest (home_of config) (some_append config) (some_rewrite config) d image l.map l.pending l.left crash in
    let (X, follows, means) = l.among k within in
    (X, follows, taken l.map (take k l.pending), at, means)

image_means : (config : Config) (s : EngineState) (cut : CutRound) (known : LeavesAt (home_of config) s cut) (image : Disk) → IsSound image → IsImage s.pipes.disk image → SparesStore (home_of config) s cut known image
    → RestsMeaning (home_of config) image (MayFollow cut)
image_means config s cut (running W none keeps) image sound is chance =
    let home = home_of config in
    let (k, within, at, opens) = crashed_engines_open (λ (d : Disk). d) (λ d directory free. Unit {0}) home s keeps.map [] keeps.holds image sound is chance in
    let still : IsDurableAs (log_in home) image keeps.map = subst (λ (l : List LogRecordValue). IsDurableAs (log_in home) image (taken keeps.map l)) (take-nil k) at in
    (W, follows_none cut W none, keeps.map, still, keeps.means)
image_means config s cut (is_left failed l) image sound is chance = left_means config s.pipes.disk cut l image chance

pub settled_stores_mean : {F : Type 0} (shows : LogStore F → EngineState) → SettledStoresMean shows
settled_stores_mean shows x W settles at =
    let config = x.settled.config in
    let cut = behind W x.session in (
      ∥∥₁_map (settles.left W at) (λ known. (known, image_means config (shows x.settled) cut known)),
      λ d closes. ∥∥₁_map (settles.left W at) (λ known. let left = closed_is_left (home_of config) (shows x.settled) d cut known closes in (left, left_means config d cut left)),
    )

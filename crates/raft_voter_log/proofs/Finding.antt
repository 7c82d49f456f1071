-- Opens find the voters that the log tells.
use Rattle.std.proofs.Common.{◌≡◌, ◌⊎◌, ◌<◌, ◌≤◌, ℕ, false, List, [], length, take, None, refl, sym, subst, inl, inr, ap, ◌∙◌}
use Rattle.std.proofs.Math.Seq.{take-nil}
use Rattle.raft_log_fs.specs.Disk.{Disk}
use Rattle.raft_log_fs.specs.Image.{IsSound}
use Rattle.raft_log_record_base.specs.declared.errors.Error.{Error}
use Rattle.raft_log_record_base.specs.declared.errors.Error.TheVariants as errors
use Rattle.raft_log_model_laws.specs.Groups.{taken}
use Rattle.raft_log_machine_laws.specs.Fresh.{nothing_stands}
use Rattle.raft_log_file_settings.specs.declared.config.Config.{Config}
use Rattle.raft_voter_durability_laws.specs.raft_log_engine_laws.specs.raft_log_memtables.specs.declared.mem_tables.MemTables.{MemTables}
use Rattle.raft_voter_durability_laws.specs.raft_log_engine_laws.specs.raft_log_dual_pipes.specs.Pipes.{LogPipes, LogRecordValue}
use Rattle.raft_voter_durability_laws.specs.raft_log_engine_laws.specs.Holding.{Represents, IsRecoverableAs}
use Rattle.raft_voter_durability_laws.specs.raft_log_engine_laws.specs.EngineState.{LogDirectories, LogMap, EngineState, has_failed}
use Rattle.raft_voter_durability_laws.specs.raft_log_engine_laws.proofs.Public.{closed_engines_are_left}
use Rattle.raft_log_recovery_laws.specs.raft_log_open.specs.Opening.{FailsToOpenDirectory, OpensDirectory}
use Rattle.raft_log_recovery_laws.specs.Bare.{IsBare, OpensFirst}
use Rattle.raft_log_recovery_laws.specs.ByCalls.{ForAllNaming, home_of}
use Rattle.raft_log_recovery_laws.specs.Directory.{OpensAs}
use Rattle.raft_log_recovery_laws.specs.InPlace.{IsLeftEither, OpensStanding}
use Rattle.raft_log_recovery_laws.specs.Opened.{HoldsFresh}
use Rattle.raft_log_recovery_laws.proofs.Public.{bare_directories_open, crashed_directories_open, crashed_engines_open, resting_directories_open, standing_directories_open}
use Rattle.raft_voter_outline.specs.State.{State}
use Rattle.raft_voter.specs.Rounds.{World, fresh_world}
use Rattle.raft_voter.specs.Service.{CutRound, MayFollow}
use Rattle.raft_voter_records.specs.Voters.{Means}
use Rattle.raft_voter_records.proofs.Public.{empty_maps_are_fresh, one_world}
use Rattle.raft_voter_durability_laws.specs.Standing.{AreOutlines, IsLeftAmong, IsLeftWith, Keeps}
use Rattle.raft_voter_durability_laws.proofs.Public.{left_alone}
use Rattle.raft_voter_recovery.specs.Reading.{cause_of}
use Rattle.raft_voter_recovery.specs.declared.unread.Unread.{Unread}
use Rattle.raft_voter_recovery.specs.declared.unread.Unread.TheVariants as causes
use Rattle.raft_voter_store.specs.Opening.{ClosesUnread, FailsToOpenVoters, OpensEngine, OpensVoters}
use Rattle.raft_voter_store.specs.Opening.FailsToOpenVoters.{unopened, unread}
use Rattle.raft_voter_log.specs.Opens.{BeginsVoters, FindsNoForeign, FindsVoters, ServesFound}
use Rattle.raft_voter_log.specs.Laws.{CrashedStoresAreFound, CrashedVotersAreFound, FirstOpensAreFresh, LeftVotersAreFound, RestingVotersAreFound}

-- an engine of which a map is true hasn't failed
alive : (home : LogDirectories) (s : EngineState) (m : LogMap) → Represents home s m [] → has_failed s ≡ false
alive home s m h =
    let one : s.pipes.append.failed ≡ false = h.runs.append.alive in
    let other : s.pipes.rewrite.failed ≡ false = h.runs.rewrite.alive in
    rw (one, other) refl

no_engine : (group : ℕ) (error : Error) → causes.Foreign group ≡ cause_of error → ⊥
no_engine group errors.Memory is = cc
no_engine group (errors.Message text) is = cc
no_engine group errors.Hole is = cc
no_engine group errors.Full is = cc
no_engine group (errors.InvalidArgument text) is = cc
no_engine group (errors.Corruption text) is = cc
no_engine group (errors.Io kind) is = cc
no_engine group (errors.Codec fault) is = cc
no_engine group (errors.TryAgain text) is = cc
no_engine group errors.EntryCompacted is = cc
no_engine group errors.EntryNotFound is = cc
no_engine group (errors.Other fault) is = cc
no_engine group errors.Failed is = cc
no_engine group errors.NumberRange is = cc

-- Over directories whose log an open's engine holds as one map, which means these voters.
module _ {F : Type 0} (disk : F → Disk) (tells : F → List ℕ → ℕ → Type 0) (config : Config) (old : F) (m : LogMap) (W : World) (means : Means m W)
    (fresh : (v : LogPipes) (tables : MemTables) → OpensDirectory disk tells config old v tables → HoldsFresh (home_of config) v tables m) where
  opened : (s : EngineState) → OpensEngine disk tells config old s → Represents (home_of config) s m []
  opened s o = subst (λ (x : EngineState). Represents (home_of config) x m []) (sym o.is) (fresh o.pipes o.tables o.opens o.cache o.none)

  served : ServesFound disk tells config old W
  served t os o =
      let h = opened o.engine o.opens in
      let (V, told, are) = o.reads (home_of config) m h in (
        record { map = m; holds = o.stays.holds (home_of config) m [] h; means = means },
        subst (λ (X : World). AreOutlines os X) (one_world m V W told means) are,
      )

  -- where the voters weren't read
  closed : (cause : Unread) (back : F) → ClosesUnread disk tells config cause old back → IsRecoverableAs (home_of config) (disk back) m []
  closed cause back c =
      let h = c.stays.holds (home_of config) m [] (opened c.engine c.opens) in
      closed_engines_are_left (home_of config) c.after m [] (disk back) h (c.closes (alive (home_of config) c.after m h))

  own : FindsNoForeign disk tells config old
  own group back (unopened error is fails) = no_engine group error is
  own group back (unread c) = c.unread (home_of config) m (opened c.engine c.opens) (W group) (means group)

  -- refused, the log is left as one of which this is said, or as the map
  refused : (P : World → Type 0) → P W → ((error : Error) (back : F) → FailsToOpenDirectory disk tells config error old back → IsLeftAmong (home_of config) (disk back) P)
      → (cause : Unread) (back : F) → FailsToOpenVoters disk tells config cause old back → IsLeftAmong (home_of config) (disk back) P
  refused P passes left cause back (unopened error is fails) = left error back fails
  refused P passes left cause back (unread c) = left_alone (home_of config) (disk back) m P W (closed cause back c) passes means

  -- and so it is where an open is answered as this map
  finds : OpensAs disk tells config old m → FindsVoters disk tells config old W (λ X. X ≡ W)
  finds opens = record {
    answered = served;
    refused = refused (λ X. X ≡ W) refl (λ error back fails. left_alone (home_of config) (disk back) m (λ X. X ≡ W) W (opens.refused error back fails) refl means);
    own = own;
  }

pub found_as : {F : Type 0} (disk : F → Disk) (tells : F → List ℕ → ℕ → Type 0) (config : Config) (old : F) (m : LogMap) (W : World) → Means m W → OpensAs disk tells config old m
    → FindsVoters disk tells config old W (λ X. X ≡ W)
found_as disk tells config old m W means opens = finds disk tells config old m W means opens.answered opens

pub resting_voters_are_found : {F : Type 0} (disk : F → Disk) (tells : F → List ℕ → ℕ → Type 0) → RestingVotersAreFound disk tells
resting_voters_are_found disk tells config old m W sound rests means =
    found_as disk tells config old m W means (resting_directories_open disk tells config old m sound rests)

pub crashed_stores_are_found : {F : Type 0} (disk : F → Disk) (tells : F → List ℕ → ℕ → Type 0) → CrashedStoresAreFound disk tells
crashed_stores_are_found disk tells home e W keeps old sound is chance config named =
    let (k, within, rests, opens) = crashed_engines_open disk tells home e keeps.map [] keeps.holds old sound is chance in
    let same : take k [] ≡ [] = take-nil k in
    let now : OpensAs disk tells config old keeps.map = subst (λ (l : List LogRecordValue). OpensAs disk tells config old (taken keeps.map l)) same (opens config named) in
    found_as disk tells config old keeps.map W keeps.means now

pub crashed_voters_are_found : {F : Type 0} (disk : F → Disk) (tells : F → List ℕ → ℕ → Type 0) → CrashedVotersAreFound disk tells
crashed_voters_are_found disk tells home some other d cut left old sound crash =
    let (k, within, rests, opens) = crashed_directories_open disk tells home some other d old left.map left.pending sound left.left crash in
    let (X, passes, means) = left.among k within in (
      X,
      passes,
      λ config named. found_as disk tells config old (taken left.map (take k left.pending)) X means (opens config named),
    )

-- in place: refused, the log is left as it was, or as what is found
either_left : (home : LogDirectories) (d new : Disk) (P : World → Type 0) (left : IsLeftAmong home d P) (now : LogMap) (X : World) → P X → Means now X → IsLeftEither home new left.map left.pending now
    → IsLeftAmong home new P
either_left home d new P left now X passes means (inl was) = record { map = left.map; pending = left.pending; left = was; among = left.among }
either_left home d new P left now X passes means (inr found) = left_alone home new now P X found passes means

module _ {F : Type 0} (disk : F → Disk) (tells : F → List ℕ → ℕ → Type 0) (config : Config) (old : F) (home : LogDirectories) (named : home_of config ≡ home) (cut : CutRound) (left : IsLeftAmong home (disk old) (MayFollow cut)) (now : LogMap) (X : World)
    (passes : MayFollow cut X) (means : Means now X) (opens : OpensStanding disk tells config old left.map left.pending now) where
  standing_left : (error : Error) (back : F) → FailsToOpenDirectory disk tells config error old back → IsLeftAmong (home_of config) (disk back) (MayFollow cut)
  standing_left error back fails =
      let either : IsLeftEither home (disk back) left.map left.pending now = subst (λ (h : LogDirectories). IsLeftEither h (disk back) left.map left.pending now) named (opens.refused error back fails) in
      subst (λ (h : LogDirectories). IsLeftAmong h (disk back) (MayFollow cut)) (sym named) (either_left home (disk old) (disk back) (MayFollow cut) left now X passes means either)

  pub standing_found : FindsVoters disk tells config old X (MayFollow cut)
  standing_found = record {
    answered = served disk tells config old now X means opens.answered;
    refused = refused disk tells config old now X means opens.answered (MayFollow cut) passes standing_left;
    own = own disk tells config old now X means opens.answered;
  }

pub left_voters_are_found : {F : Type 0} (disk : F → Disk) (tells : F → List ℕ → ℕ → Type 0) → LeftVotersAreFound disk tells
left_voters_are_found disk tells home some other old cut left sound chance =
    let (k, within, rests, opens) = standing_directories_open disk tells home some other old left.map left.pending sound left.left chance in
    let (X, passes, means) = left.among k within in (
      X,
      passes,
      λ config named. standing_found disk tells config old home named cut left (taken left.map (take k left.pending)) X passes means (opens config named),
    )

-- nothing stands, and so all voters are fresh
none_stand : Means nothing_stands fresh_world
none_stand = empty_maps_are_fresh nothing_stands (λ g s. refl)

module _ {F : Type 0} (disk : F → Disk) (tells : F → List ℕ → ℕ → Type 0) (config : Config) (old : F) (first : OpensFirst disk tells config old) where
  first_left : (d : Disk) → IsBare config d ⊎ IsRecoverableAs (home_of config) d nothing_stands [] → IsBare config d ⊎ IsLeftWith (home_of config) d fresh_world
  first_left d (inl still) = inl still
  first_left d (inr left) = inr (left_alone (home_of config) d nothing_stands (λ X. X ≡ fresh_world) fresh_world left refl none_stand)

  first_refused : (cause : Unread) (back : F) → FailsToOpenVoters disk tells config cause old back → IsBare config (disk back) ⊎ IsLeftWith (home_of config) (disk back) fresh_world
  first_refused cause back (unopened error is fails) = first_left (disk back) (first.refused error back fails)
  first_refused cause back (unread c) = first_left (disk back) (inr (closed disk tells config old nothing_stands fresh_world none_stand first.answered cause back c))

pub first_opens_are_fresh : {F : Type 0} (disk : F → Disk) (tells : F → List ℕ → ℕ → Type 0) → FirstOpensAreFresh disk tells
first_opens_are_fresh disk tells config old sound bare =
    let first = bare_directories_open disk tells config old sound bare in
    record {
      answered = served disk tells config old nothing_stands fresh_world none_stand first.answered;
      refused = first_refused disk tells config old first;
      own = own disk tells config old nothing_stands fresh_world none_stand first.answered;
    }

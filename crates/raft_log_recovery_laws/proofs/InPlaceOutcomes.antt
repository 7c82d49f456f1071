-- A log is opened in place, or that is refused.
use Rattle.std.proofs.Common.{ℕ, List, take, sym, subst}
use Rattle.raft_log_model_laws.specs.Groups.{taken}
use Rattle.raft_log_fs.specs.Disk.{Disk}
use Rattle.raft_log_fs.specs.Image.{as_it_stands, IsSound}
use Rattle.raft_log_file_settings.specs.declared.config.Config.{Config}
use Rattle.raft_log_dual_pipes.specs.OnDisk.{IsDurableAs}
use Rattle.raft_log_dual_pipes.specs.Pipes.{LogRecordValue}
use Rattle.raft_log_engine_laws.specs.EngineState.{log_in, LogDirectories, LogMap}
use Rattle.raft_log_engine_laws.specs.Holding.{IsRecoverableAs}
use Rattle.raft_log_recovery_laws.specs.ByCalls.{home_of}
use Rattle.raft_log_recovery_laws.specs.InPlace.{OpensStandingByCalls, StandingDirectoriesOpen, StandingLogsOpenByCalls, StandsWithoutChance}
use Rattle.raft_log_recovery_laws.specs.Padding.{FindsNoPadding, StandingLogsHaveNoPadding}
use Rattle.raft_log_recovery_laws.proofs.Directory.{call_by_call, not_opened}
use Rattle.raft_log_recovery_laws.proofs.InPlace.{answered_in_place, synced_in_place}
use Rattle.raft_log_recovery_laws.proofs.Left.{crashed_logs_rest}
use Rattle.raft_log_recovery_laws.proofs.Unpadded.{standing_plain}
use Rattle.raft_log_recovery_laws.proofs.Refusing.{refused_in_place}

-- so it is of the map as which it rests once all that stands is kept
OpensThere : {S : Type 0} → (S → Disk) → (S → List ℕ → ℕ → Type 0) → Config → Disk → LogMap → List LogRecordValue → LogMap → LogDirectories → Type 0
OpensThere disk tells config d m pending now home = (left : IsRecoverableAs home d m pending) → StandsWithoutChance home left.1.lies.state d → IsDurableAs (log_in home) (as_it_stands d) now → OpensStandingByCalls disk tells config d m pending now

opens_there : {S : Type 0} (disk : S → Disk) (tells : S → List ℕ → ℕ → Type 0) (config : Config) (d : Disk) (m : LogMap) (pending : List LogRecordValue) (now : LogMap) → IsSound d → OpensThere disk tells config d m pending now (home_of config)
unfolding OpensThere
opens_there disk tells config d m pending now sound left chance rests = record {
  answered = answered_in_place config d m pending sound left now rests disk tells;
  synced = synced_in_place config d m pending sound left now rests disk tells;
  refused = refused_in_place config d m pending sound left chance now rests disk tells;
}

pub standing_logs_open_by_calls : {S : Type 0} (disk : S → Disk) (tells : S → List ℕ → ℕ → Type 0) → StandingLogsOpenByCalls disk tells
unfolding OpensThere
standing_logs_open_by_calls disk tells home one other d m pending sound left chance =
    let (k, within, rests) = crashed_logs_rest home one other d (as_it_stands d) m pending left chance in
    let now : LogMap = taken m (take k pending) in (
      k,
      within,
      rests,
      λ config named. subst (OpensThere disk tells config d m pending now) named (opens_there disk tells config d m pending now sound) left chance rests,
    )

pub standing_directories_open : {S : Type 0} (disk : S → Disk) (tells : S → List ℕ → ℕ → Type 0) → StandingDirectoriesOpen disk tells
standing_directories_open disk tells home one other old m pending sound left chance =
    let (k, within, rests, outcome) = standing_logs_open_by_calls disk tells home one other (disk old) m pending sound left chance in (
      k,
      within,
      rests,
      λ config named.
          let now : LogMap = taken m (take k pending) in
          let here : IsRecoverableAs (home_of config) (disk old) m pending = subst (λ (h : LogDirectories). IsRecoverableAs h (disk old) m pending) (sym named) left in
          let all : IsDurableAs (log_in (home_of config)) (as_it_stands (disk old)) now = subst (λ (h : LogDirectories). IsDurableAs (log_in h) (as_it_stands (disk old)) now) (sym named) rests in
          let plain : FindsNoPadding config (disk old) = standing_plain config (disk old) m pending sound here now all in
          record {
            answered = λ v tables o. (outcome config named).answered v tables (call_by_call disk tells config old plain v tables o);
            refused = λ error new why. (outcome config named).refused (disk new) (not_opened disk tells config old plain error new why);
          },
    )

pub standing_logs_have_no_padding : StandingLogsHaveNoPadding
standing_logs_have_no_padding home one other d m pending sound left chance config named =
    let (k, within, rests) = crashed_logs_rest home one other d (as_it_stands d) m pending left chance in
    let now : LogMap = taken m (take k pending) in
    standing_plain config d m pending sound (subst (λ (h : LogDirectories). IsRecoverableAs h d m pending) (sym named) left) now (subst (λ (h : LogDirectories). IsDurableAs (log_in h) (as_it_stands d) now) (sym named) rests)

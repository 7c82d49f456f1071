-- Settings that name the same directories.
use Rattle.std.proofs.Common.{◌≡◌, ◌<◌, ℕ, List, length, ap, arith, subst, sym}
use Rattle.std.specs.Prelude.{Contains}
use Rattle.raft_log_fs.specs.Disk.{Disk}
use Rattle.raft_log_record_base.specs.declared.pipe_log.LogQueue.TheVariants.{Append}
use Rattle.raft_log_file_format.specs.Name.{suffix_of}
use Rattle.raft_log_file_settings.specs.Settings.{Settings, directories_of}
use Rattle.raft_log_file_settings.specs.declared.config.Config.{Config}
use Rattle.raft_voter_durability_laws.specs.raft_log_engine_laws.specs.raft_log_active_file.specs.Paths.{IsPathWith, reserved_suffix_of}
use Rattle.raft_voter_durability_laws.specs.raft_log_engine_laws.specs.EngineState.{LogDirectories, log_in}
use Rattle.raft_voter_durability_laws.specs.raft_log_engine_laws.specs.raft_log_dual_pipes.specs.OnDisk.{IsDurableAs}
use Rattle.raft_log_recovery_laws.specs.raft_log_recovery.specs.Directories.{paths_of}
use Rattle.raft_log_recovery_laws.specs.Bare.{IsBare}
use Rattle.raft_log_recovery_laws.specs.ByCalls.{home_of}
use Rattle.raft_voter.specs.Service.{CutRound, MayFollow}
use Rattle.raft_voter_durability_laws.specs.Standing.{IsLeftAmong}
use Rattle.raft_voter_log.specs.Instance.{AreSame}
use Rattle.raft_voter_log.specs.Leaving.{FilesLeave}
use Rattle.raft_voter_log.specs.Leaving.FilesLeave.{bare, left, rests}

-- settings that say the same name the same directories
pub one_home : (c e : Config) → AreSame c e → home_of c ≡ home_of e
one_home c e same = ap (λ (s : Settings). record { append = directories_of s; rewrite = directories_of s }) same

pub some_append : (config : Config) → 0 < length (home_of config).append
some_append config = omega arith

pub some_rewrite : (config : Config) → 0 < length (home_of config).rewrite
some_rewrite config = omega arith

pub bare_for : (c e : Config) (d : Disk) → home_of c ≡ home_of e → IsBare c d → IsBare e d
bare_for c e d same b = record {
  numbered = λ queue n path at. b.numbered queue n path (subst (λ (ps : List (List ℕ)). IsPathWith (suffix_of queue) ps n path) back at);
  reserved = λ n path at. b.reserved n path (subst (λ (ps : List (List ℕ)). IsPathWith (reserved_suffix_of Append) ps n path) back at);
  unnamed = λ path at. b.unnamed path (subst (λ (ps : List (List ℕ)). Contains ps path) back at);
}
  where
    back : paths_of e ≡ paths_of c
    back = ap (λ (h : LogDirectories). h.append) (sym same)

-- what stands in files stands in them whichever of the settings names them
pub leave_for : (c e : Config) (d : Disk) (cut : CutRound) → home_of c ≡ home_of e → FilesLeave c d cut → FilesLeave e d cut
leave_for c e d cut same (bare b none) = bare (bare_for c e d same b) none
leave_for c e d cut same (rests before image m is W means follows) = rests before image m (subst (λ (h : LogDirectories). IsDurableAs (log_in h) d m) same is) W means follows
leave_for c e d cut same (left l) = left (subst (λ (h : LogDirectories). IsLeftAmong h d (MayFollow cut)) same l)

-- Copies of logs hold their sources' voters.
use Rattle.std.proofs.Common.{◌≡◌, ℕ, List, take}
use Rattle.raft_log_fs.specs.Disk.{Disk}
use Rattle.raft_log_model_laws.specs.Groups.{taken}
use Rattle.raft_voter_durability_laws.specs.raft_log_engine_laws.specs.EngineState.{LogMap}
use Rattle.raft_log_record_base.specs.declared.errors.Error.{Error}
use Rattle.raft_log_file_settings.specs.Settings.{Settings, directories_of, settings_of}
use Rattle.raft_log_file_settings.specs.declared.config.Config.{Config}
use Rattle.raft_log_offline.specs.Forks.{FailsToFork, Forks, LiesInOne}
use Rattle.raft_log_offline.specs.Forks.FailsToFork.{refused, homeless, cut_short}
use Rattle.raft_log_recovery_laws.specs.ForkLeaving.{EndsFork}
use Rattle.raft_log_recovery_laws.specs.ForkLeaving.EndsFork.{answered}
use Rattle.raft_log_recovery_laws.specs.ForkLeaving.EndsFork.{refused as unforked}
use Rattle.raft_log_recovery_laws.proofs.Public.{forks_leave_the_source, forks_open_as_their_source, left_logs_show_alike}
use Rattle.raft_voter_log.specs.Forking.{ForkedVotersAreFound, ForksLeaveVoters, LeftVotersAreCopied, OwnDirectoriesGetNoCopy}
use Rattle.raft_voter_log.proofs.Finding.{found_as, standing_found}

pub forked_voters_are_found : {F : Type 0} (disk : F → Disk) (tells : F → List ℕ → ℕ → Type 0) → ForkedVotersAreFound disk tells
forked_voters_are_found disk tells config to target copied old now m W sound sound_now only clear rests means forks =
    let alike = forks_open_as_their_source disk tells config to target copied old now m sound sound_now only clear rests forks in
    record {
      fork = found_as disk tells to now m W means alike.fork;
      source = found_as disk tells config now m W means alike.source;
      before = found_as disk tells config old m W means alike.before;
    }

pub left_voters_are_copied : {F : Type 0} (disk : F → Disk) (tells : F → List ℕ → ℕ → Type 0) → LeftVotersAreCopied disk tells
left_voters_are_copied disk tells home some other old cut left sound chance =
    let (k, within, rests, alike) = left_logs_show_alike disk tells home some other old left.map left.pending sound left.left chance in
    let (W, passes, means) = left.among k within in
    let now : LogMap = taken left.map (take k left.pending) in (
      W,
      passes,
      λ config named. standing_found disk tells config old home named cut left now W passes means (alike.opens config named),
      λ config named to target copied after sound_after only clear forks.
          found_as disk tells to after now W means (alike.forks config named to target copied after sound_after only clear forks).opens,
    )

pub forks_leave_voters : ForksLeaveVoters
forks_leave_voters config target old new sound ends =
    let stays = forks_leave_the_source config target old new sound ends in
    record {
      left = λ cut was. record { map = was.map; pending = was.pending; left = stays.left was.map was.pending was.left; among = was.among };
      alone = λ W was. record { map = was.map; pending = was.pending; left = stays.left was.map was.pending was.left; among = was.among };
      rests = λ m rested. (stays.rests m rested).0;
      bare = stays.bare;
    }

-- a refused copy into one of the log's own directories changed nothing
nothing_within : (s : Settings) (target : List ℕ) (error : Error) (old new : Disk) → FailsToFork s target error old new → LiesInOne (directories_of s) target → new ≡ old
nothing_within s target error old new (refused why same) within = same
nothing_within s target error old new (homeless allowed fails) within = absurd (allowed.0.outside within)
nothing_within s target error old new (cut_short allowed files sources fails) within = absurd (allowed.0.outside within)

-- and none is answered
nothing_changes : (config : Config) (target : List ℕ) (old new : Disk) → LiesInOne (directories_of (settings_of config)) target → EndsFork config target old new → new ≡ old
nothing_changes config target old new within (answered copied forks) = absurd (forks.allowed.0.outside within)
nothing_changes config target old new within (unforked error fails) = nothing_within (settings_of config) target error old new fails within

pub own_directories_get_no_copy : OwnDirectoriesGetNoCopy
own_directories_get_no_copy config target old new within ends =
    (λ copied forks. forks.allowed.0.outside within, nothing_changes config target old new within ends)

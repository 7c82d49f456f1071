-- The file system over the directories of settings, after their limits were set.
use Rattle.std.proofs.Common.{◌≡◌, ◌∙◌, ℕ, List, None, Option, ap, subst, sym}
use std.Path.{fun_ext}
use Rattle.raft_log_fs_traced.specs.Directory.{calls_of, disk_of}
use Rattle.raft_log_fs_traced.specs.Space.{spaces_of}
use Rattle.raft_log_fs_traced.specs.declared.device.Device as device
use Rattle.raft_log_fs_traced.specs.declared.directory.DirectoryFileSystem.{DirectoryFileSystem}
use Rattle.raft_log_fs_os.specs.Loading.{StandsAsFound, StartsFresh}
use Rattle.raft_log_engine.specs.raft_log_file_settings.specs.declared.config.Config.{Config}
use Rattle.raft_log_engine.specs.raft_log_file_settings.specs.Settings.{settings_of}
use Rattle.raft_log_engine_os.specs.Opening.{IsOpenedAs, limited}

-- setting the limits leaves a file system that was opened, with these limits
pub limits_set : {D : Type 0} (g : device.Ghosts D) (config : Config) (old new : DirectoryFileSystem D g)
    → StartsFresh (disk_of g old) → ((directory : List ℕ) → spaces_of g old directory ≡ None)
    → StandsAsFound (calls_of g old) → disk_of g new ≡ disk_of g old → calls_of g new ≡ calls_of g old
    → spaces_of g new ≡ limited (settings_of config) (spaces_of g old) → IsOpenedAs g config new
limits_set g config old new fresh unset found same calls limits = record {
  fresh = subst StartsFresh (sym same) fresh;
  found = subst StandsAsFound (sym calls) found;
  limits = limits ∙ ap (limited (settings_of config)) (fun_ext unset);
}

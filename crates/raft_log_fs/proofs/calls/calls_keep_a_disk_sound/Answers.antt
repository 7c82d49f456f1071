use Rattle.raft_log_fs.proofs.SoundLaws.{sound_with_change, sound_flushed, sound_with_file, sound_created, sound_deleted, sound_renamed, sound_with_directory, sound_counted, sound_at_stop}
use Rattle.raft_log_fs.specs.Calls.{with_change, flushed}
use Rattle.raft_log_fs.proofs.calls.calls_keep_a_disk_sound.Goals as goal

pub returns : goal.returns
returns c = record {
  change = λ d id file change content sound is part short.
      sound_with_file d id file (with_change change content file) sound is (sound_with_change file change content (sound.files id file is) part short);
  sync = λ d id file sound is. sound_with_file d id file (flushed file) sound is (sound_flushed file (sound.files id file is));
  create = sound_created;
  delete = sound_deleted;
  rename = sound_renamed;
  directory = sound_with_directory;
  failure = sound_counted;
  stop = sound_at_stop;
}

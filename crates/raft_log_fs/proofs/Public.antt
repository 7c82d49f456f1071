-- The lemmas that other crates may import. `tools/names` fails on an import of any other module of these proofs.
pub use Rattle.raft_log_fs.proofs.CauseLaws.{fails_after, fails_change, fails_still, fails_whole, later_change, later_rename, later_same, later_sync, later_then}
pub use Rattle.raft_log_fs.proofs.ChangeLaws.{changed_in_part, left_changed, overwritten_at_end, overwritten_some, overwritten_torn, part_may, unchanged_in_part, MayBecome}
pub use Rattle.raft_log_fs.proofs.ImageLaws.{absent_holds_no_name, disk_ext, image_is_sound, left_at_rest, named_is_used, only_at_rest, rest_sound, some_file, stands_is_image, synced_file_has_one_image}
pub use Rattle.raft_log_fs.proofs.KeptLaws.{calm_either, kept_change, kept_create, kept_delete, kept_directory, kept_rename, kept_sync, IsCalm}
pub use Rattle.raft_log_fs.proofs.NamesLaws.{creation_leaves, deletion_leaves, renaming_leaves}
pub use Rattle.raft_log_fs.proofs.PathLaws.{no_path, path_directory, slash_in}
pub use Rattle.raft_log_fs.proofs.Props.{Change-set, File-set, IsSound-prop}
pub use Rattle.raft_log_fs.proofs.Sharing.{kinds_sync}
pub use Rattle.raft_log_fs.proofs.SoundLaws.{sound_after_change, sound_at_stop, sound_counted, sound_created, sound_deleted, sound_flushed, sound_renamed, sound_with_change, sound_with_directory, sound_with_file}
pub use Rattle.raft_log_fs.proofs.TouchingLaws.{has_calm, has_changed, has_done, has_synced, has_weaker, names_create, names_file, names_rename, names_same, names_then, other_names_stay, same_file, touches_change, touches_same, touches_sync, touches_then}
pub use Rattle.raft_log_fs.proofs.Updates.{file_apart, file_here, name_apart, name_case, name_here}

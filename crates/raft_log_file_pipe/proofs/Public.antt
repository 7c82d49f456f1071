-- The lemmas that other crates may import. `tools/names` fails on an import of any other module of these proofs.
pub use Rattle.raft_log_file_pipe.proofs.Lists.{kept_all, kept_is_own, path_numbered, path_reserved, span_end, span_moved}
pub use Rattle.raft_log_file_pipe.proofs.SettingAside.{finished_is_settled, pipe_below, pipe_below_first, stays_left_by}
pub use Rattle.raft_log_file_pipe.proofs.Turning.{pipe_same}

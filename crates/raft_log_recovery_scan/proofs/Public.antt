-- The lemmas that other crates may import. `tools/names` fails on an import of any other module of these proofs.
pub use Rattle.raft_log_recovery_scan.proofs.DirectoryLemmas.{has_more, has_none}
pub use Rattle.raft_log_recovery_scan.proofs.FoundLemmas.{are_files_in, built_plain, limit_small, name_plain, named_built, sign_one}
pub use Rattle.raft_log_recovery_scan.proofs.ScanLemmas.{fails_to_find, fails_to_open, kept_found, kept_lie}
pub use Rattle.raft_log_recovery_scan.proofs.Steps.{at_map, so_far, zip_map, zip_more, zip_push}

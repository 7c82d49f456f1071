-- The lemmas that other crates may import. `tools/names` fails on an import of any other module of these proofs.
pub use Rattle.raft_log_file_format.proofs.Headers.{header_length, is_header, written_header}
pub use Rattle.raft_log_file_format.proofs.Names.{one_number, one_queue, signs_apart, text_signed, text_unsigned, written_text}

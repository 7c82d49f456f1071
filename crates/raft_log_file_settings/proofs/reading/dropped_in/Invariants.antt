use Rattle.std.proofs.Common.{◌≡◌, ◌++◌}
use Rattle.toml.specs.View.{table_view}
use Rattle.raft_log_file_settings.specs.Reading.{dropped_keys, texts_of}
use Rattle.raft_log_file_settings.proofs.Keys.{dropped_of}
use Rattle.raft_log_file_settings.proofs.reading.dropped_in.Given as goal

-- the dropped ones so far, and those that are left
abbrev pub invariant-loop-key : goal.invariant-loop-key
invariant-loop-key l = texts_of l.dropped ++ dropped_of l.key-iterator ≡ dropped_keys (table_view l.table)

-- The header of a file that was read is the one that its format is written with.
use Rattle.std.proofs.Common.{◌≡◌, List, ℕ, sym, ap, subst, ◌∙◌}
use Rattle.raft_log_file_format.specs.Header.{header_bytes}
use Rattle.raft_log_file_format.specs.declared.header.LogFileFormat.{LogFileFormat}
use Rattle.raft_log_file_writer.specs.LogFormat.{HasHeader}
use Rattle.raft_log_engine_laws.specs.raft_log_active_file.specs.QueueFiles.{log_format}
use Rattle.raft_log_recovery_read.specs.Reading.ReadsBytes.{headless, headed, torn}
use Rattle.raft_log_recovery_laws.specs.FileReading.{HeaderIsWritten}

pub header_is_written : HeaderIsWritten
header_is_written directories last id content read end (headless fault bad tells none no_end first) aligned is = absurd cc
header_is_written directories last id content read end (torn log_file start stop fault same begins reads bad tells no_end first) aligned is = absurd cc
header_is_written directories last id content read end (headed log_file start stop fault same begins reads whole tells is_end format) aligned is =
    let written : begins.header ≡ header_bytes read.format = begins.written ∙ ap header_bytes (sym format) in
    subst (λ (h : List ℕ). HasHeader (log_format id.queue directories) h content) written
    (record { is = (log_file.format, begins.says, ap (λ (f : LogFileFormat). f.alignment) (sym format) ∙ aligned); rest = begins.rest; splits = begins.splits })

-- How reading a file fails at a foreign record.
use Rattle.std.specs.Prelude.{ℕ, List}
use Rattle.raft_log_record_base.specs.declared.errors.Error.{Error}
use Rattle.raft_log_record_base.specs.declared.pipe_log.FileId.{FileId}
use Rattle.raft_log_file_reader.specs.Foreign.{HasForeignRecord}
use Rattle.raft_log_file_reader.specs.declared.open_file.OpenFile.{OpenFile}
use Rattle.raft_log_recovery_read.specs.Foreign.{TellsForeign}

-- the next record after `offset` is foreign, and the error names file `id`, the record's offset and its compression
-- type
pub record RefusesForeign (id : FileId) (file : OpenFile) (content : List ℕ) (offset : ℕ) (error : Error)
    : Type 0 where
  pub at : ℕ
  pub compression : ℕ
  pub foreign : HasForeignRecord file content offset at compression
  pub told : TellsForeign id at compression error

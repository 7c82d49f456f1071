-- What a record is signed for.
use Rattle.std.proofs.Common.{◌≡◌, ◌∙◌}
use Rattle.raft_log_record_base.specs.declared.pipe_log.FileId.{FileId}
use Rattle.raft_log_record_base.specs.declared.pipe_log.LogQueue.{LogQueue}
use Rattle.raft_log_record_base.specs.declared.pipe_log.LogFileContext.{LogFileContext}
use Rattle.raft_log_file_pipe.specs.Appending.{context_of}
use Rattle.raft_log_file_pipe.specs.declared.pipe_files.PipeFiles.{PipeFiles}

pub id_is : (queue : LogQueue) (files : PipeFiles) (id : FileId) → id.queue ≡ queue → id.seq ≡ files.active.seq → id ≡ record { queue = queue; seq = files.active.seq }
id_is queue files id in_queue number = λ i. record { queue = in_queue i; seq = number i }

pub context_is : (queue : LogQueue) (files : PipeFiles) (id : FileId) (context : LogFileContext) → id.queue ≡ queue → id.seq ≡ files.active.seq → context.id ≡ id → context.version ≡ files.active.format.version → context ≡ context_of queue files
context_is queue files id context in_queue number of version = (let ids = of ∙ id_is queue files id in_queue number in λ i. record { id = ids i; version = version i })

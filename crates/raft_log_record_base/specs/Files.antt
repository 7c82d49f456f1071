-- The order of the log files of both queues, and the signatures of their records.
use Rattle.std.specs.Prelude.{◌≡◌, ◌↔◌, ℕ, ◌%◌, ◌^◌, Bool, true, false, Option, Some, None}
use Rattle.std.specs.declared.cmp.Ordering.{Ordering}
use Rattle.std.specs.declared.cmp.Ordering.TheVariants.{Equal, Greater}
use Rattle.std.specs.Ordering.{nat_cmp, on, then_cmp, flip_args}
use Rattle.raft_log_record_base.specs.declared.pipe_log.LogQueue.{LogQueue}
use Rattle.raft_log_record_base.specs.declared.pipe_log.LogQueue.TheVariants.{Append, Rewrite}
use Rattle.raft_log_record_base.specs.declared.pipe_log.FileId.{FileId}
use Rattle.raft_log_record_base.specs.declared.pipe_log.Version.{Version}
use Rattle.raft_log_record_base.specs.declared.pipe_log.Version.TheVariants.{V1, V2}
use Rattle.raft_log_record_base.specs.declared.pipe_log.LogFileContext.{LogFileContext}
use Rattle.raft_log_record_base.specs.declared.pipe_log.FileBlockHandle.{FileBlockHandle}

-- the number of a queue: 0 for Append, 1 for Rewrite
abbrev pub queue_number : LogQueue → ℕ
queue_number Append = 0
queue_number Rewrite = 1

-- The order of files. All files of Append come after all files of Rewrite. Within a queue, the file number decides.
abbrev pub file_cmp : FileId → FileId → Ordering
file_cmp = then_cmp (flip_args (on (λ f. queue_number f.queue) nat_cmp)) (on (λ f. f.seq) nat_cmp)

-- any file of Append is greater than any file of Rewrite
abbrev pub AppendAboveRewrite : Type 0
AppendAboveRewrite = (a b : FileId) → a.queue ≡ Append → b.queue ≡ Rewrite → file_cmp a b ≡ Greater

-- files of one queue are ordered by their numbers
abbrev pub NumberedInQueue : Type 0
NumberedInQueue = (a b : FileId) → a.queue ≡ b.queue → file_cmp a b ≡ nat_cmp a.seq b.seq

-- two file ids compare as `Equal` if and only if they are equal
abbrev pub OrderAgreesWithEquality : Type 0
OrderAgreesWithEquality = (a b : FileId) → (file_cmp a b ≡ Equal) ↔ (a ≡ b)

-- the number of a format version
abbrev pub version_number : Version → ℕ
version_number V1 = 1
version_number V2 = 2

-- The signature of the records in a file of this format version and with this file number. In V2 it is the low 32 bits
-- of the file number. V1 has no signature. The writer xors the signature into the checksum of each record's footer.
abbrev pub signature : Version → ℕ → Option ℕ
signature V1 number = None
signature V2 number = Some (number % 2 ^ 32)

-- the signature of records in this file
abbrev pub signature_of : LogFileContext → Option ℕ
signature_of context = signature context.version context.id.seq

-- whether records in a file of this format version have a signature: only in V2
abbrev pub is_signed : Version → Bool
is_signed V1 = false
is_signed V2 = true

-- the location with file 0 of Append, offset 0 and length 0; it is used if there is no block
abbrev pub no_block : FileBlockHandle
no_block = record { id = record { queue = Append; seq = 0 }; offset = 0; len = 0 }

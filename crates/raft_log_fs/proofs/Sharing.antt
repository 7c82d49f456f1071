-- The kinds that were told and receipts have no bytes, so they may go to other threads, and be lent to them.
use denote.Param.Send.{IsSend, IsSync, owning_send, part_keyless, sendable}
use Rattle.raft_log_fs.specs.contracts.kinds.Kinds as Kinds
use Rattle.raft_log_fs.specs.contracts.receipt.Receipt as Receipt

pub kinds_send : IsSend Kinds.the_row
kinds_send = owning_send Kinds.the_type (search sendable, tt) (λ d. tt) (λ k x w. tt)

pub kinds_sync : IsSync Kinds.the_row
kinds_sync = record { shared = λ d b o κ q. part_keyless Kinds.the_row kinds_send q d b o }

pub receipt_send : IsSend Receipt.the_row
receipt_send = owning_send Receipt.the_type (search sendable, tt) (λ d. tt) (λ k x w. tt)

pub receipt_sync : IsSync Receipt.the_row
receipt_sync = record { shared = λ d b o κ q. part_keyless Receipt.the_row receipt_send q d b o }

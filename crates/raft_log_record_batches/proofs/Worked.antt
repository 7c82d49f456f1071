-- Two records that are worked out byte by byte.
use Rattle.std.proofs.Common.{refl}
use Rattle.raft_log_record_base.specs.Number.{u32_le_bytes, var_bytes_within, var_u64_bytes}
use Rattle.raft_log_record_items.specs.Writing.{command_bytes, content_bytes, entries_bytes, item_bytes, items_bytes}
use Rattle.raft_log_record_frames.specs.Record.{block_bytes}
use Rattle.raft_log_record_batches.specs.Laws.{WorkedRecords}

pub worked_records : WorkedRecords
unfolding block_bytes items_bytes item_bytes content_bytes command_bytes entries_bytes var_u64_bytes var_bytes_within u32_le_bytes
worked_records = record { clean = (refl, refl); two = (refl, refl) }

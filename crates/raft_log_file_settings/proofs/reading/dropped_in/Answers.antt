use Rattle.std.proofs.Common.{map, string_bytes, ap, ◌∙◌}
use Rattle.raft_log_file_settings.proofs.Keys.{none_dropped}
use Rattle.raft_log_file_settings.proofs.reading.dropped_in.Goals as goal

pub loop-key-init : goal.loop-key-init
loop-key-init c =
    none_dropped (map string_bytes c.new-dropped.result.items) c.into_iter-key-iterator.result c.args.table.now.entries
    (ap (map string_bytes) c.new-dropped.ensures.items) (c.into_iter-key-iterator.ensures.into_iter_gives ∙ c.keys-key-items.ensures.rest)

use Rattle.std.proofs.Common.{sym, ◌∙◌, ap, None}
use Rattle.std.specs.Option.{option_map}
use Rattle.std.proofs.lemmas.List.{get_or_default}
use Rattle.raft_log_fs_state.specs.Held.{held}
use Rattle.raft_log_fs_state.proofs.remains.left_files.Goals as goal

pub left_bytes-requires-clause-short : goal.left_bytes-requires-clause-short
left_bytes-requires-clause-short c =
    c.requires.short c.loop-slot.slot-index (held c.in-Some.stored)
    (ap (option_map held) (get_or_default c.args.files.now c.loop-slot.slot-index None c.slot-item.result c.loop-slot-test.true ∙ (sym c.slot-item.is ∙ c.in-Some.is)))

use Rattle.std.proofs.Common.{ap, ◌∙◌, arith}
use Rattle.raft_log_record_frames.specs.declared.marking.Marking.{Marking}
use Rattle.raft_log_record_frames.specs.Marking.{joined_marking}
use Rattle.raft_log_record_frames.proofs.Meanings.{marking_more}
use Rattle.raft_log_record_frames.proofs.marking.Marking.parse_all.Goals as goal

pub loop-item-preserved : goal.loop-item-preserved
loop-item-preserved c =
    c.join-marking.ensures ∙ ap (λ (m : Marking). joined_marking c.loop-item.marking m) c.parse.ensures
    ∙ marking_more c.args.items.now c.loop-item.item-index _ c.item-item.result c.loop-item.marking (omega arith) c.item-item.is c.loop-item.invariant

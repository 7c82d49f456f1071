use Rattle.std.proofs.Common.{List, ℕ, subst, ◌∙◌}
use Rattle.raft_log_record_items.specs.Items.{put_item}
use Rattle.raft_log_record_frames.specs.Marking.{mark_key, mark_item}
use Rattle.raft_log_record_batches.specs.AtomicGroup.{AtomicGroup}
use Rattle.raft_log_record_batches.specs.Batch.{with_item, Becomes}
use Rattle.raft_log_record_frames.specs.Meaning.{BecomesPart}
use Rattle.raft_log_record_batches.proofs.AtomicGroups.{became_part}
use Rattle.raft_log_record_batches.proofs.atomic_group.AtomicGroupBuilder.mark.Goals as goal

pub returns-clause-part : goal.returns-clause-part
returns-clause-part c =
    let id = c.self.inside.id in
    let status = c.args.status in
    let became : Becomes (with_item c.args.batch.now (mark_item id status)) c.put_mark.new.self =
    subst (λ (value : List ℕ). Becomes (with_item c.args.batch.now (put_item 0 mark_key value)) c.put_mark.new.self) (c.as_slice.ensures.value ∙ c.in_ok-value.ensures.value) c.in_ok-put_mark.ensures.ok in
    subst (λ (g : AtomicGroup). BecomesPart c.args.batch.now.items c.put_mark.new.self.items g.id status) c.self.view_is
    (became_part c.args.batch.now c.put_mark.new.self id status c.in_ok-value.ensures.spelled c.requires.unmarked became)

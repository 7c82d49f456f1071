use Rattle.std.proofs.Common.{◌≡◌, Option, ap, sym, subst, refl, ◌∙◌, false, option_map}
use Rattle.raft_log_record_base.specs.declared.pipe_log.LogQueue.TheVariants.{Rewrite}
use Rattle.raft_log_record_frames.specs.Marking.{marking_of_items}
use Rattle.raft_log_replay_context.specs.Records.{in_file, said_in, taken_as}
use Rattle.raft_log_replay_context.specs.declared.context.MemTableRecoverContext.{MemTableRecoverContext}
use Rattle.raft_log_replay_context.specs.Context.{ContextReadsOne}
use Rattle.raft_log_replay_context.proofs.Contexts.{reads_plain}
use Rattle.raft_log_replay_context.proofs.Outcomes.{if_err_from, on_ok_from}
use Rattle.raft_log_replay_context.specs.Records.{record_read, ReadRecord}
use Rattle.raft_log_replay_context.proofs.Refusals.{broken_unread, memory_unread, stops_unread}
use Rattle.raft_log_replay_context.proofs.context.MemTableRecoverContext.replay_rewrite.Goals as goal

told_reads : (o p : Option ReadRecord) (old new : MemTableRecoverContext) → o ≡ p → ContextReadsOne Rewrite o old new → ContextReadsOne Rewrite p old new
told_reads o p old new same reads = subst (λ q. ContextReadsOne Rewrite q old new) same reads

pub returns-in-Unmarked-clause-ok : goal.returns-in-Unmarked-clause-ok
returns-in-Unmarked-clause-ok c =
    let items = c.args.items.items in
    let marking = ap marking_of_items (sym c.as_slice.ensures.value) ∙ sym c.parse_all.ensures ∙ c.in-Unmarked.is in
    let told = ap (λ m. option_map (in_file c.args.file) (taken_as m (said_in false c.args.file items))) marking in
    on_ok_from c.replay_rewrite_writes.result c.replay_rewrite_writes.ensures.ok (λ reads.
    told_reads _ _ c.args.self.now _ (sym told) (reads_plain Rewrite c.args.file c.args.self.now _ items reads refl))

pub returns-in-Part-clause-ok : goal.returns-in-Part-clause-ok
returns-in-Part-clause-ok c =
    let items = c.args.items.items in
    let marking = ap marking_of_items (sym c.as_slice.ensures.value) ∙ sym c.parse_all.ensures ∙ c.in-Part.is in
    let told = ap (λ m. option_map (in_file c.args.file) (taken_as m (said_in false c.args.file items))) marking in
    on_ok_from c.replay_part.result c.replay_part.ensures.ok (λ reads. subst (λ o. ContextReadsOne Rewrite o c.args.self.now c.replay_part.new.self) (sym told) reads)

pub returns-in-Unmarked-clause-errors : goal.returns-in-Unmarked-clause-errors
returns-in-Unmarked-clause-errors c =
    if_err_from c.replay_rewrite_writes.result c.replay_rewrite_writes.ensures.err (λ e stops. stops_unread (record_read Rewrite c.args.file c.args.items.items) _ _ _ _ e stops)

pub returns-in-Part-clause-errors : goal.returns-in-Part-clause-errors
returns-in-Part-clause-errors c =
    if_err_from c.replay_part.result c.replay_part.ensures.errors (λ e is. memory_unread (record_read Rewrite c.args.file c.args.items.items) e is)

pub returns-in-Broken-clause-errors : goal.returns-in-Broken-clause-errors
returns-in-Broken-clause-errors c =
    let items = c.args.items.items in
    let marking = ap marking_of_items (sym c.as_slice.ensures.value) ∙ sym c.parse_all.ensures ∙ c.in-Broken.is in
    let told = ap (λ m. option_map (in_file c.args.file) (taken_as m (said_in false c.args.file items))) marking in
    broken_unread (record_read Rewrite c.args.file items) c.broken.result told c.broken.ensures

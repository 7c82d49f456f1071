use Rattle.std.proofs.Common.{◌≡◌, ◌+◌, ◌∙◌, List, [], ◌∷◌, ◌++◌, take, ap, sym, subst, arith}
use Rattle.std.proofs.lemmas.List.{take_more}
use Rattle.raft_log_fs_state.specs.declared.remainder.Remainder.{Remainder}
use Rattle.raft_log_record_batches.specs.Batch.{Batch}
use Rattle.raft_log_world.specs.declared.event.Event.{Event}
use Rattle.raft_log_judge.specs.declared.change.Change.{Change}
use Rattle.raftlog.specs.Same.{SameEvents}
use Rattle.raftlog.proofs.Sequences.{one_more_same}
use Rattle.raftlog.proofs.events.engine_events.Goals as goal

pub loop-event-preserved : goal.loop-event-preserved
loop-event-preserved c =
    let events = c.args.events.now in
    let i = c.loop-event.event-index in
    let event : Event (List Change) Remainder = c.event-item.result in
    let more : take (i + 1) events ≡ take i events ++ event ∷ [] =
    take_more events i event (omega arith) ∙ ap (λ (e : Event (List Change) Remainder). take i events ++ e ∷ []) (sym c.event-item.is) in
    let one = one_more_same (take i events) c.loop-event.copies.items event c.in_ok-engine_event.field-0 c.loop-event.invariant c.in_ok-engine_event.ensures in
    subst (λ (played : List (Event Batch Remainder)). SameEvents (take (i + 1) events) played) (sym c.in_ok-push_back.ensures.items)
    (subst (λ (known : List (Event (List Change) Remainder)). SameEvents known (c.loop-event.copies.items ++ c.in_ok-engine_event.field-0 ∷ [])) (sym more) one)

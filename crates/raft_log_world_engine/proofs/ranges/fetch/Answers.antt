use Rattle.std.proofs.Common.{◌≡◌, ℕ, List, [], Option, map, rules, subst}
use Rattle.std.specs.Prelude.{Ok}
use Rattle.raft_log_engine.specs.raft_log_engine_core.specs.ModelCalls.{FetchesMessages, FollowsModel, ModelReads}
use Rattle.raft_log_engine.specs.raft_log_engine_core.specs.Reads.{shows_of}
use Rattle.raft_log_engine.specs.raft_log_record_items.specs.declared.raw_message.RawMessage.{RawMessage}
use Rattle.raft_log_world.specs.declared.event.Call.TheVariants.{Fetch}
use Rattle.raft_log_world_engine.specs.Calls.{HasCopied}
use Rattle.raft_log_world_engine.proofs.Calling.{as_asked, reading}
use Rattle.raft_log_world_engine.proofs.Reading.{fetch_served, not_fetched}
use Rattle.raft_log_world_engine.proofs.ranges.fetch.Goals as goal

pub returns-in-Ok : goal.returns-in-Ok
returns-in-Ok g c =
    let s = shows_of g.P.PipeLog.shown c.args.engine.now in
    let t = shows_of g.P.PipeLog.shown c.fetch_entries_to.new.self in
    let new = c.fetch_entries_to.new.vec.items in
    let none : c.new-messages.result.items ≡ [] = search rules in
    let follows = λ (max : Option ℕ) (old : List RawMessage). FollowsModel (ModelReads (FetchesMessages reading c.args.group c.args.begin c.args.end max old new)) (Ok c.in-Ok.field-0) s t in
    let limited : follows c.args.max c.new-messages.result.items = subst (λ (max : Option ℕ). follows max c.new-messages.result.items) c.in_memory.ensures c.in-Ok.ensures.model in
    fetch_served s t c.args.group c.args.begin c.args.end c.args.max new c.in-Ok.field-0 c.told_entries.result
    (subst (λ (ms : List RawMessage). HasCopied (map (λ (m : RawMessage). m.bytes) ms) c.told_entries.result) c.as_slice.ensures.value c.told_entries.ensures)
    (subst (λ (old : List RawMessage). follows c.args.max old) none limited)

pub returns : goal.returns
returns g c =
    let s = shows_of g.P.PipeLog.shown c.args.engine.now in
    let t = shows_of g.P.PipeLog.shown c.fetch_entries_to.new.self in
    let is = FetchesMessages reading c.args.group c.args.begin c.args.end c.in_memory.result c.new-messages.result.items c.fetch_entries_to.new.vec.items in
    as_asked s t (Fetch c.args.group c.args.begin c.args.end c.args.max) c.failure.result c.is_failed.result c.failure.ensures c.is_failed.ensures (not_fetched s t c.args.group c.args.begin c.args.end c.args.max is _ c.in-Err.ensures.model)

use Rattle.std.proofs.Common.{◌≡◌, ◌+◌, ◌-◌, ◌≤◌, ap, arith, drop, length, map, min, sym, take, ◌∙◌}
use Rattle.raft_log_extents.specs.Blocks.{pieces}
use Rattle.raft_log_extents.specs.Entries.{PlaceList, place_of, run_of}
use Rattle.raft_log_extents.proofs.Public.{pieces_within}
use Rattle.raft_log_memtable.specs.Moves.{gated, rewritten_by}
use Rattle.raft_log_memtable.specs.Table.{shown}
use Rattle.raft_log_memtable.specs.contracts.mem_table.MemTable.{the_view}
use Rattle.raft_log_memtable.proofs.Rewriting.{shows_rewrite}
use Rattle.raft_log_memtable.proofs.mem_table.MemTable.rewrite.Goals as goal
use Rattle.raft_log_memtable.proofs.mem_table.MemTable.rewrite.Goals.{in-Some-gate, in-None}

pub returns-clause-shows : goal.returns-clause-shows
returns-clause-shows c =
    let kept = c.split_at.result.1.now in
    let behind = take (length kept - c.min-there.result) (drop c.self.inside.rewritten c.self.inside.places.items) in
    let more : c.match-gate.more ≡ gated c.args.gate behind = elim c.match-gate.branch [
      | in-Some-gate w ↦ w.more-is ∙ w.count_up_to-more.ensures.count ∙ ap (λ g. gated g behind) (sym w.in-Some-gate.is)
      | in-None w ↦ w.more-is ∙ ap (λ g. gated g behind) (sym w.in-None.is)
    ] in
    let fits : c.min-there.result + c.match-gate.more ≤ length kept = elim c.match-gate.branch [
      | in-Some-gate w ↦ (let within = w.count_up_to-more.ensures.within.0 in omega (arith, within, w.more-is, c.min-there.ensures))
      | in-None w ↦ omega (arith, w.more-is, c.min-there.ensures)
    ] in
    ap (λ (ps : PlaceList). record (shown (the_view c.self.inside)) { places = ps.items; rewritten = c.max-self-inside.result }) c.forget_moves-2.ensures
    ∙ shows_rewrite c.args.gate (shown (the_view c.self.inside)) c.args.entries.now c.in-Some.front.now c.saturating_sub-position.result c.min-gone.result c.min-there.result c.match-gate.more
    kept c.split_at-2.result.0.now c.replace.new.self.items c.max-self-inside.result (c.in-Some.ensures.item.3.0) (c.in-Some.ensures.item.1) c.saturating_sub-position.ensures
    c.if-position-self.false (c.min-gone.ensures ∙ ap (λ n. min n (length c.args.entries.now)) c.saturating_sub.ensures) c.split_at.ensures.back c.min-there.ensures more fits
    c.split_at-2.ensures.front c.replace.ensures.items c.max-self-inside.ensures
    ∙ ap (λ t. rewritten_by c.args.gate (shown t) (run_of c.args.entries.now)) c.self.view_is

pub returns-clause-runs : goal.returns-clause-runs
returns-clause-runs c =
    let few = pieces_within c.args.entries.now c.min-gone.result (c.min-there.result + c.match-gate.more) in
    let parts : pieces (map place_of c.split_at-2.result.0.now)
    ≡ pieces (map place_of (take (c.min-there.result + c.match-gate.more) (drop c.min-gone.result c.args.entries.now))) =
    ap (λ l. pieces (map place_of l)) (c.split_at-2.ensures.front ∙ ap (take (c.min-there.result + c.match-gate.more)) c.split_at.ensures.back) in
    let were = ap (λ t. t.places.runs) c.self.view_is in
    let kept = ap (λ p. p.runs) c.forget_moves-2.ensures in
    let more = c.replace.ensures.runs in
    omega (arith, few, parts, were, kept, more)

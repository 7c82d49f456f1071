use Rattle.std.proofs.Common.{List, map, ap, arith, ◌∙◌}
use Rattle.std.specs.Global.{Vec}
use Rattle.raft_log_record_items.specs.declared.entry.EntryIndex.{EntryIndex}
use Rattle.raft_log_model_laws.specs.Holes.{Window}
use Rattle.raft_log_extents.specs.Counts.{passing}
use Rattle.raft_log_extents.specs.Entries.{place_of}
use Rattle.raft_log_purge_copy.proofs.Nexts.{next_found, next_none}
use Rattle.raft_log_purge_copy.proofs.entries.next_entries.Goals as goal
use Rattle.raft_log_purge_copy.proofs.entries.next_entries.Goals.{in-Some+in_ok-fetch_entries_to, in_default}

pub returns-clause-ok : goal.returns-clause-ok
returns-clause-ok c = elim c.match-known_table.branch [
  | in-Some+in_ok-fetch_entries_to w ↦ (
      let ends = w.span-ends.ensures.ends in
      let count = w.rewritten_count.ensures in
      let from = ap (λ (x : Window). x.first) ends in
      next_found c.args.tables.now c.args.group c.args.gate _ _ w.count_up_to-count.result w.in-Some.table.now c.new-entries.result.items w.fetch_entries_to.new.entries.items c.match-known_table.entries.items w.in-Some.ensures
      w.span-ends.ensures.orderly (omega (arith, from, count)) (ap (λ (x : Window). x.end) ends) c.new-entries.ensures.items w.in_ok-fetch_entries_to.ensures.ok.0
      (w.count_up_to-count.ensures ∙ ap (λ (l : List EntryIndex). passing c.args.gate (map place_of l)) w.as_slice.ensures.value) (ap (λ (x : Vec EntryIndex). x.items) w.entries-is ∙ w.truncate.ensures.items))
  | in_default w ↦
      next_none c.args.tables.now c.args.group c.args.gate c.match-known_table.entries.items w.in_default.ensures (ap (λ (x : Vec EntryIndex). x.items) w.entries-is ∙ c.new-entries.ensures.items)
]

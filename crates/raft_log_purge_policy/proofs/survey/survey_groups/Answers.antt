use Rattle.std.proofs.Common.{◌≡◌, ◌++◌, ℕ, List, [], ◌∷◌, Some, if◌then◌else◌, refl, subst, ◌∙◌}
use Rattle.std.proofs.lemmas.Map.Keys.{IsDistinct-from_sorted}
use Rattle.std.specs.BTreeMap.{keys}
use Rattle.std.specs.Ordering.{nat_cmp}
use Rattle.raft_log_memtable.specs.Reads.{StandIn}
use Rattle.raft_log_memtable.specs.Table.{Raw, shown}
use Rattle.raft_log_memtables.proofs.Public.{once_each}
use Rattle.raft_log_purge_policy.specs.Picking.{answers_in, asks_in, count_of, rewrites_in}
use Rattle.raft_log_purge_policy.proofs.Surveying.{all_surveyed, surveyed_more, surveyed_none}
use Rattle.raft_log_purge_policy.proofs.survey.survey_groups.Goals as goal

pub loop-group-init : goal.loop-group-init
loop-group-init c =
    let m = c.args.tables.now in
    let once = once_each m.groups.entries (IsDistinct-from_sorted nat_cmp (keys m.groups) c.iter-group-items.ensures.ordered) in
    surveyed_none c.args.watermarks.now (count_of c.args.rounds.now) c.args.restated m c.into_iter-group-iterator.result c.new-picked.result c.new-marks.result.items
    (c.into_iter-group-iterator.ensures.into_iter_gives ∙ c.iter-group-items.ensures.rest) once c.new-picked.ensures.asked c.new-picked.ensures.rewritten c.new-picked.ensures.answered c.new-marks.ensures.items

pub loop-group-preserved : goal.loop-group-preserved
loop-group-preserved c =
    let marks = c.args.watermarks.now in
    let counts = count_of c.args.rounds.now in
    let g = c.in-Some.group.now in
    let old = c.loop-group.picked in
    let new = c.pick.new.picked in
    let e = c.in_ok-pick.ensures in
    let same = c.table-table.ensures in
    surveyed_more marks counts c.args.restated c.args.tables.now c.loop-group.group-iterator c.next.new.self old new c.loop-group.marks.items c.add_owed.new.items.items c.loop-group.standing c.standing_count.result
    c.saturating_add-standing.result (g, c.in-Some.held.now) c.in-Some.ensures.steps
    (subst (λ (t : Raw). new.asked.items ≡ old.asked.items ++ (if asks_in marks (Some t) then g ∷ [] else [])) same e.asked)
    (subst (λ (t : Raw). new.rewritten.items ≡ old.rewritten.items ++ (if rewrites_in marks (counts g) (Some t) then g ∷ [] else [])) same e.rewritten)
    (subst (λ (t : Raw). new.answered.items ≡ old.answered.items ++ (if answers_in (Some marks) c.args.restated (Some t) then g ∷ [] else [])) same e.answered)
    c.in_ok-add_owed.ensures (subst (λ (t : Raw). StandIn (shown t) c.standing_count.result) same c.standing_count.ensures) c.saturating_add-standing.ensures c.loop-group.invariant

pub returns : goal.returns
returns c =
    let m = c.args.tables.now in
    let sorted = c.iter-group-items.ensures.ordered in
    all_surveyed c.args.watermarks.now (count_of c.args.rounds.now) c.args.restated m c.loop-group.group-iterator
    (record { watermarks = c.args.watermarks.now; picked = c.loop-group.picked; marks = c.loop-group.marks; standing = c.loop-group.standing }) c.in-None.ensures.steps.0
    (once_each m.groups.entries (IsDistinct-from_sorted nat_cmp (keys m.groups) sorted)) sorted refl c.loop-group.invariant

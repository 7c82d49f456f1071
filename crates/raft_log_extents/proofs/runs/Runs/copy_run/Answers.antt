use Rattle.std.proofs.Common.{◌+◌, ◌-◌, ◌++◌, ◌∙◌, ap, arith, drop}
use Rattle.raft_log_extents.specs.Entries.{entries_of}
use Rattle.raft_log_extents.specs.Words.{whole_places}
use Rattle.raft_log_extents.proofs.RunParts.{span_le, span_part}
use Rattle.raft_log_extents.proofs.RunTurns.{counts_take}
use Rattle.raft_log_extents.proofs.RunCopies.{all_starts, alone_are, end_is, even_are, offsets_fit, starts_at, starts_fit, uneven_are}
use Rattle.raft_log_extents.proofs.runs.Runs.copy_run.Goals as goal

pub total-requires : goal.total-requires
total-requires c =
    let r = c.args.self.now in
    let ok = r.runs.ok.0 in
    let end = end_is r.front r.base r.len c.args.at r.runs.items r.starts.items c.index-run.result.now r.sound (omega (arith, ok, c.requires.there)) c.index-run.ensures in
    let all = counts_take r.runs.items (c.args.at + 1) in
    omega (arith, end, all, r.sound.count, r.sound.fits)

pub overflow_sub-total : goal.overflow_sub-total
overflow_sub-total c =
    let r = c.args.self.now in
    let ok = r.runs.ok.0 in
    let end = end_is r.front r.base r.len c.args.at r.runs.items r.starts.items c.index-run.result.now r.sound (omega (arith, ok, c.requires.there)) c.index-run.ensures in
    omega (arith, end, c.requires.within, c.total.ensures)

pub span-requires : goal.span-requires
span-requires c =
    let r = c.args.self.now in
    let run = c.index-run.result.now in
    let ok = r.runs.ok.0 in
    let end = end_is r.front r.base r.len c.args.at r.runs.items r.starts.items run r.sound (omega (arith, ok, c.requires.there)) c.index-run.ensures in
    let all = all_starts r.front r.base r.len c.args.at r.runs.items r.starts.items run r.sound (omega (arith, ok, c.requires.there)) c.index-run.ensures in
    let few = span_le run c.args.within (omega (arith, end, c.requires.within)) in
    omega (arith, few, all, r.sound.starts_fit)

pub overflow_add-from : goal.overflow_add-from
overflow_add-from c =
    let r = c.args.self.now in
    let run = c.index-run.result.now in
    let ok = r.runs.ok.0 in
    let end = end_is r.front r.base r.len c.args.at r.runs.items r.starts.items run r.sound (omega (arith, ok, c.requires.there)) c.index-run.ensures in
    let all = all_starts r.front r.base r.len c.args.at r.runs.items r.starts.items run r.sound (omega (arith, ok, c.requires.there)) c.index-run.ensures in
    let few = span_le run c.args.within (omega (arith, end, c.requires.within)) in
    omega (arith, few, all, r.sound.starts_fit, c.span.ensures)

pub copy_alone-requires-clause-there : goal.copy_alone-requires-clause-there
copy_alone-requires-clause-there c =
    let r = c.args.self.now in
    let run = c.index-run.result.now in
    let ok = r.runs.ok.0 in
    let end = end_is r.front r.base r.len c.args.at r.runs.items r.starts.items run r.sound (omega (arith, ok, c.requires.there)) c.index-run.ensures in
    let all = all_starts r.front r.base r.len c.args.at r.runs.items r.starts.items run r.sound (omega (arith, ok, c.requires.there)) c.index-run.ensures in
    let part = span_part run c.args.within c.min-count.result c.if-run-within.true (omega (arith, end, c.requires.within, c.total.ensures, c.min-count.ensures)) in
    (omega (arith, end, c.requires.within, c.requires.some, c.total.ensures, c.min-count.ensures), omega (arith, part, all, c.span.ensures))

pub returns-then-run-within-clause-count : goal.returns-then-run-within-clause-count
returns-then-run-within-clause-count c = (c.copy_alone.ensures.count.0, omega (arith, c.copy_alone.ensures.count.1, c.min-count.ensures))

pub returns-then-run-within-clause-end : goal.returns-then-run-within-clause-end
returns-then-run-within-clause-end c =
    let r = c.args.self.now in
    let ok = r.runs.ok.0 in
    let end = end_is r.front r.base r.len c.args.at r.runs.items r.starts.items c.index-run.result.now r.sound (omega (arith, ok, c.requires.there)) c.index-run.ensures in
    omega (arith, end, c.requires.within, c.total.ensures, c.min-count.ensures, c.copy_alone.ensures.count.1)

pub returns-then-run-within-clause-items : goal.returns-then-run-within-clause-items
returns-then-run-within-clause-items c =
    let r = c.args.self.now in
    let ok = r.runs.ok.0 in
    let run = c.index-run.result.now in
    let n = c.copy_alone.result in
    let end = end_is r.front r.base r.len c.args.at r.runs.items r.starts.items run r.sound (omega (arith, ok, c.requires.there)) c.index-run.ensures in
    c.copy_alone.ensures.items
    ∙ ap (λ l. c.args.entries.now.items ++ entries_of c.args.queue c.args.index l)
    (ap (λ m. whole_places n (drop (run.at - r.base + m) r.starts.items)) c.span.ensures
    ∙ alone_are r.front r.base r.len c.args.at r.runs.items r.starts.items run r.sound (omega (arith, ok, c.requires.there)) c.index-run.ensures
    c.args.within n c.if-run-within.true (omega (arith, end, c.requires.within, c.total.ensures, c.min-count.ensures, c.copy_alone.ensures.count.1)))

pub push_even-requires-clause-within : goal.push_even-requires-clause-within
push_even-requires-clause-within c = omega (arith, c.if-run-within.false, c.min-count-2.ensures)

pub push_even-requires-clause-fits : goal.push_even-requires-clause-fits
push_even-requires-clause-fits c =
    let r = c.args.self.now in
    let ok = r.runs.ok.0 in
    offsets_fit r.front r.base r.len c.args.at r.runs.items r.starts.items c.index-run.result.now r.sound (omega (arith, ok, c.requires.there)) c.index-run.ensures c.if-run.true

pub overflow_sub-from : goal.overflow_sub-from
overflow_sub-from c =
    let r = c.args.self.now in
    let ok = r.runs.ok.0 in
    let at = starts_at r.front r.base r.len c.args.at r.runs.items r.starts.items c.index-run.result.now r.sound (omega (arith, ok, c.requires.there)) c.index-run.ensures in
    omega (arith, at)

pub push_uneven-requires-clause-within : goal.push_uneven-requires-clause-within
push_uneven-requires-clause-within c = omega (arith, c.if-run-within.false, c.min-count-2.ensures)

pub push_uneven-requires-clause-some : goal.push_uneven-requires-clause-some
push_uneven-requires-clause-some c = omega (arith, c.if-run-within.false, c.requires.some, c.min-count-2.ensures)

pub push_uneven-requires-clause-there : goal.push_uneven-requires-clause-there
push_uneven-requires-clause-there c =
    let r = c.args.self.now in
    let ok = r.runs.ok.0 in
    starts_fit r.front r.base r.len c.args.at r.runs.items r.starts.items c.index-run.result.now r.sound (omega (arith, ok, c.requires.there)) c.index-run.ensures c.if-run.false

pub returns-then-run-clause-count : goal.returns-then-run-clause-count
returns-then-run-clause-count c = (omega (arith, c.if-run-within.false, c.requires.some, c.min-count-2.ensures), omega (arith, c.min-count-2.ensures))

pub returns-then-run-clause-end : goal.returns-then-run-clause-end
returns-then-run-clause-end c =
    let r = c.args.self.now in
    let ok = r.runs.ok.0 in
    let end = end_is r.front r.base r.len c.args.at r.runs.items r.starts.items c.index-run.result.now r.sound (omega (arith, ok, c.requires.there)) c.index-run.ensures in
    omega (arith, end, c.if-run-within.false, c.min-count-2.ensures)

pub returns-then-run-clause-items : goal.returns-then-run-clause-items
returns-then-run-clause-items c =
    let r = c.args.self.now in
    let ok = r.runs.ok.0 in
    let run = c.index-run.result.now in
    c.push_even.ensures.items
    ∙ ap (λ l. c.args.entries.now.items ++ entries_of c.args.queue c.args.index l)
    (even_are r.front r.base r.len c.args.at r.runs.items r.starts.items run r.sound (omega (arith, ok, c.requires.there)) c.index-run.ensures
    c.args.within c.min-count-2.result c.if-run.true (omega (arith, c.if-run-within.false, c.min-count-2.ensures)))

pub returns-else-run-clause-count : goal.returns-else-run-clause-count
returns-else-run-clause-count c = (omega (arith, c.if-run-within.false, c.requires.some, c.min-count-2.ensures), omega (arith, c.min-count-2.ensures))

pub returns-else-run-clause-end : goal.returns-else-run-clause-end
returns-else-run-clause-end c =
    let r = c.args.self.now in
    let ok = r.runs.ok.0 in
    let end = end_is r.front r.base r.len c.args.at r.runs.items r.starts.items c.index-run.result.now r.sound (omega (arith, ok, c.requires.there)) c.index-run.ensures in
    omega (arith, end, c.if-run-within.false, c.min-count-2.ensures)

pub returns-else-run-clause-items : goal.returns-else-run-clause-items
returns-else-run-clause-items c =
    let r = c.args.self.now in
    let ok = r.runs.ok.0 in
    let run = c.index-run.result.now in
    c.push_uneven.ensures.items
    ∙ ap (λ l. c.args.entries.now.items ++ entries_of c.args.queue c.args.index l)
    (uneven_are r.front r.base r.len c.args.at r.runs.items r.starts.items run r.sound (omega (arith, ok, c.requires.there)) c.index-run.ensures
    c.args.within c.min-count-2.result c.if-run.false (omega (arith, c.if-run-within.false, c.min-count-2.ensures)))

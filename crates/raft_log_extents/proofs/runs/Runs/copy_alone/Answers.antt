use Rattle.std.proofs.Common.{◌+◌, ◌/◌, ◌≤◌, ◌++◌, ◌∙◌, ap, arith, drop, length, length-drop}
use Rattle.std.proofs.Math.Nat.{mod-add-div'}
use Rattle.raft_log_extents.specs.Entries.{entries_of}
use Rattle.raft_log_extents.specs.Words.{whole_places}
use Rattle.raft_log_extents.proofs.WholePlaces.{whole-take}
use Rattle.raft_log_extents.proofs.runs.Runs.copy_alone.Goals as goal

pub returns-clause-items : goal.returns-clause-items
returns-clause-items c =
    let words = c.starts_from-words.result.now in
    let starts = c.args.self.now.starts.items in
    let all = mod-add-div' (length words) 8 in
    let fits : c.args.from + length words ≤ length starts = omega (arith, c.requires.there.1, c.starts_from-words.ensures.count.1) in
    let long = length-drop c.args.from starts in
    c.push_whole.ensures.items
    ∙ ap (λ l. c.args.entries.now.items ++ entries_of c.args.queue c.args.index l)
    (ap (whole_places (length words / 8)) c.starts_from-words.ensures.items
    ∙ whole-take (length words / 8) (length words) (drop c.args.from starts) (omega (arith, all)) (omega (arith, fits, long)))

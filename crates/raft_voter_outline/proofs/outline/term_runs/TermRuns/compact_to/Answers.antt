use Rattle.std.proofs.Common.{◌≡◌, ◌≤◌, ◌<◌, ◌^◌, ◌+◌, arith, drop, length, None}
use Rattle.std.proofs.lemmas.Grind.{common_steps}
use Rattle.raft_voter_outline.specs.Runs.{runs_below, unrolled}
use Rattle.raft_voter_outline.proofs.Apart.{apart-drop}
use Rattle.raft_voter_outline.proofs.Unrolling.{drop_unrolled, end-unrolled, end_small}
use Rattle.raft_voter_outline.proofs.outline.term_runs.TermRuns.compact_to.Goals as goal

pub overflow_add-index : goal.overflow_add-index
overflow_add-index c =
    let rs = c.self.inside.runs.items in
    let b = c.self.inside.base in
    let within : c.args.index ≤ b + length (unrolled b rs) = rw (← c.self.view_is) at c.requires.within in
    omega (arith, within, end-unrolled rs b c.self.invariant.rise, end_small rs b c.self.invariant.rise)

pub invariant_of-self : goal.invariant_of-self
invariant_of-self c =
    let rs = c.self.inside.runs.items in
    let b = c.self.inside.base in
    let left : c.drop_front.new.list.items ≡ drop (runs_below (c.args.index + 1) rs) rs = grind (arith, common_steps) in
    let above : b ≤ c.args.index = rw (← c.self.view_is) at c.requires.above in
    let within : c.args.index ≤ b + length (unrolled b rs) = rw (← c.self.view_is) at c.requires.within in
    let small : c.args.index < 2 ^ 63 = omega (arith, within, end-unrolled rs b c.self.invariant.rise, end_small rs b c.self.invariant.rise) in
    rw left (record {
      rise = (drop_unrolled rs b c.args.index c.self.invariant.rise above small).1;
      apart = apart-drop (runs_below (c.args.index + 1) rs) rs None c.self.invariant.apart;
    })

pub returns-clause-log : goal.returns-clause-log
returns-clause-log c =
    let rs = c.self.inside.runs.items in
    let b = c.self.inside.base in
    let left : c.drop_front.new.list.items ≡ drop (runs_below (c.args.index + 1) rs) rs = grind (arith, common_steps) in
    let above : b ≤ c.args.index = rw (← c.self.view_is) at c.requires.above in
    let within : c.args.index ≤ b + length (unrolled b rs) = rw (← c.self.view_is) at c.requires.within in
    let small : c.args.index < 2 ^ 63 = omega (arith, within, end-unrolled rs b c.self.invariant.rise, end_small rs b c.self.invariant.rise) in
    rw (left, ← c.self.view_is) (drop_unrolled rs b c.args.index c.self.invariant.rise above small).0

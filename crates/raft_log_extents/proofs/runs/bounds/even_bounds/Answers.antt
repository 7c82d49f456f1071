use Rattle.std.proofs.Common.{◌≡◌, ◌+◌, ◌-◌, ◌*◌, true, [], ap, arith, drop, length, take, ◌∙◌}
use Rattle.std.proofs.Math.Nat.{add-mul}
use Rattle.raft_log_extents.specs.Blocks.{rising}
use Rattle.raft_log_extents.specs.Runs.{block, laid}
use Rattle.raft_log_extents.proofs.Rising.{length_rising}
use Rattle.raft_log_extents.proofs.RunBounds.{even_between}
use Rattle.raft_log_extents.proofs.runs.bounds.even_bounds.Goals as goal

pub returns-clause-places : goal.returns-clause-places
returns-clause-places c =
    let run = c.args.run.now in
    let first = run.start + c.args.within * run.size in
    let long = length_rising first run.size (c.args.count + 1) in
    let same : c.args.count ≡ length (rising first run.size (c.args.count + 1)) - 1 = omega (arith, long) in
    even_between (block run) run.size run.start run.count c.args.within c.args.count (omega (arith, c.requires.within))
    ∙ ap (λ n. take n (drop c.args.within (laid true run []))) same

pub returns-clause-len : goal.returns-clause-len
returns-clause-len c = length_rising (c.args.run.now.start + c.args.within * c.args.run.now.size) c.args.run.now.size (c.args.count + 1)

pub returns-clause-short : goal.returns-clause-short
returns-clause-short c j less =
    let all = add-mul c.args.within j c.args.run.now.size in
    let low = c.requires.fits (c.args.within + j) (omega (arith, c.requires.within, less)) in
    omega (arith, all, low)

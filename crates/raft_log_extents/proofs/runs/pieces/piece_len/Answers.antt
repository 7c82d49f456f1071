use Rattle.std.proofs.Common.{◌≡◌, ◌+◌, arith, drop, length, map, rules, true, ap, ◌∙◌}
use Rattle.raft_log_record_items.specs.Run.{unplaced_entry}
use Rattle.raft_log_extents.specs.Blocks.{pieces}
use Rattle.raft_log_extents.specs.Entries.{place_of}
use Rattle.raft_log_extents.proofs.EntryPieces.{no_more_pieces, step_one, step_pieces}
use Rattle.raft_log_extents.proofs.runs.pieces.piece_len.Goals as goal

pub loop-i-preserved : goal.loop-i-preserved
loop-i-preserved c =
    let es = c.args.entries.now in
    let follows : c.lies_behind.result ≡ true = search rules in (
      step_one es c.loop-i.i _ c.lies_behind.result c.loop-i.invariant.2 c.loop-i-test.true c.lies_behind.ensures follows c.loop-i.invariant.0,
      λ d. step_pieces es c.loop-i.i _ c.lies_behind.result c.loop-i.invariant.2 c.loop-i-test.true c.lies_behind.ensures d (pieces (map place_of es)) follows c.loop-i.invariant.1,
      omega arith,
    )

pub returns-clause-rest : goal.returns-clause-rest
returns-clause-rest c =
    let es = c.args.entries.now in
    let all = no_more_pieces es c.loop-i.i _ (pieces (map place_of es)) c.loop-i-test.false (c.loop-i.invariant.1 (unplaced_entry 0 0)) in
    all ∙ ap (λ n. 1 + pieces (map place_of (drop n es))) (let end = c.loop-i.auto.i-end in let same : c.loop-i.i ≡ length es = omega (arith, end, c.loop-i-test.false) in same)

use Rattle.std.proofs.Common.{◌≡◌, ◌==◌, ◌∙◌, true, refl, arith}
use Rattle.std.proofs.lemmas.Bool.Decides.{nat_tests}
use Rattle.raft_log_record_batches.proofs.EntriesFrom.{length-indexes_from, no_run_from, run_from}
use Rattle.raft_log_record_batches.proofs.log_batch.from_index.check_last.Goals as goal

pub returns-then-count-first-clause-run : goal.returns-then-count-first-clause-run
returns-then-count-first-clause-run c = run_from c.args.first c.args.count (omega (arith, c.if-count-first.true, c.ranges.first.fits))

pub returns-clause-errors : goal.returns-clause-errors
returns-clause-errors c =
    let size = length-indexes_from c.args.first c.args.count in
    let own : (c.args.count == c.args.count) ≡ true = grind (arith, nat_tests) in (
      no_run_from c.args.first c.args.count c.args.count (omega (arith, c.if-count-first.false)) (omega (arith, c.if-count-first.false, c.ranges.first.fits)),
      c.in_ok-format.ensures.ok ∙ rw (size, own) refl,
    )

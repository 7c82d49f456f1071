use Rattle.std.proofs.Common.{rules, of_calls, nat_lt, sym, arith}
use Rattle.std.proofs.lemmas.Fn.{always_returns_same}
use Rattle.std.proofs.lemmas.List.Sums.{prefix_len_is}
use Rattle.raft_voter_outline.specs.declared.outline.run.Run.{Run}
use Rattle.raft_voter_outline.proofs.Unrolling.{found_below, no_run}
use Rattle.raft_voter_outline.proofs.outline.term_runs.runs_below.Goals as goal

pub returns-clause-value : goal.returns-clause-value
returns-clause-value c =
    let rs = c.args.runs.now in
    let i = c.args.index in
    let point = c.partition_point.ensures.partitioned (λ r. nat_lt r.last i) (always_returns_same _ _ _ (λ a r f k. search (rules, of_calls)))
    (found_below rs c.requires.0 i c.requires.1) in
    sym (prefix_len_is (λ (r : Run). nat_lt r.last i) rs c.partition_point.result no_run c.partition_point.ensures.bound
    (λ k l. point.0 k no_run (omega arith) l) (λ l. point.1 c.partition_point.result no_run (omega arith) l))

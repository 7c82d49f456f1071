use Rattle.raft_voter_program.proofs.Fronts.{on_err, refusal_within}
use Rattle.raft_voter_program.proofs.over_store.program_over.Goals as goal

pub returns-in_err-write_whole-clause-err : goal.returns-in_err-write_whole-clause-err
returns-in_err-write_whole-clause-err g c =
    on_err c.from_residual.result _
    (refusal_within _ (g.I.Read.remaining c.args.reader.now) _ _ c.args.has_arguments c.if-has_arguments.true c.in_err-write_whole.ensures.err)

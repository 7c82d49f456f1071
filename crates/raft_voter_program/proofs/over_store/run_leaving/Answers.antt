use Rattle.std.specs.IoError.{error_kind}
use Rattle.raft_voter_program.proofs.Fronts.{early_of_front, ends_of_front}
use Rattle.raft_voter_program.proofs.over_store.run_leaving.Goals as goal

pub returns-clause-ok : goal.returns-clause-ok
returns-clause-ok g c =
    ends_of_front c.run_bytes_leaving.result _ (g.I.Read.remaining c.args.reader.now) _ _ c.in_ok-front.front.items c.as_slice.result.now c.in_ok-front.ensures.ok c.as_slice.ensures.value
    c.run_bytes_leaving.ensures.ok

pub returns-clause-err : goal.returns-clause-err
returns-clause-err g c =
    early_of_front c.run_bytes_leaving.result error_kind _ (g.I.Read.remaining c.args.reader.now) _ _ c.in_ok-front.front.items c.as_slice.result.now c.in_ok-front.ensures.ok c.as_slice.ensures.value
    c.run_bytes_leaving.ensures.err

use Rattle.std.proofs.Common.{ℕ, List, subst}
use Rattle.std.proofs.lemmas.Result.{IfErr-weaker, IfOk-weaker}
use Rattle.raft_log_engine_core.specs.Reads.{shows_of}
use Rattle.raft_voter_recovery.specs.Groups.{ForeignPairs, PairsTell}
use Rattle.raft_voter_recovery.proofs.Keys.{keys_foreign, keys_read}
use Rattle.raft_voter_recovery.proofs.heads.read_key.Goals as goal

pub returns-in-Ok-clause-ok : goal.returns-in-Ok-clause-ok
returns-in-Ok-clause-ok g c =
    IfOk-weaker c.state_in.result _ _ (λ state tells. keys_read (shows_of g.P.PipeLog.shown c.args.engine.now) c.args.group c.in-Ok.pairs.items state c.in-Ok.ensures.ok
    (subst (λ (es : List (List ℕ × List ℕ)). PairsTell state es) c.as_slice.ensures.value tells)) c.state_in.ensures.ok

pub returns-in-Ok-clause-err : goal.returns-in-Ok-clause-err
returns-in-Ok-clause-err g c =
    IfErr-weaker c.state_in.result _ _ (λ cause foreign. keys_foreign (shows_of g.P.PipeLog.shown c.args.engine.now) c.args.group c.in-Ok.pairs.items cause c.in-Ok.ensures.ok
    (subst (λ (es : List (List ℕ × List ℕ)). ForeignPairs c.args.group es cause) c.as_slice.ensures.value foreign)) c.state_in.ensures.err

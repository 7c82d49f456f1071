use Rattle.std.proofs.Common.{List, sym, subst}
use Rattle.raft_log_engine_core.specs.Reads.{shows_of}
use Rattle.raft_log_shared.specs.declared.served.Served.{Served}
use Rattle.raft_log_shared.specs.Calls.{AllLead}
use Rattle.raft_log_shared.proofs.Leading.{none_lead}
use Rattle.raft_log_shared.proofs.noted_engine.NotedEngine.new.Goals as goal

pub invariant_of-result : goal.invariant_of-result
invariant_of-result g c =
    let e = shows_of g.P.PipeLog.shown c.args.engine in
    record { leads = subst (λ (h : List Served). AllLead g.L.Opening.began h e) (sym c.requires.empty) (none_lead g.L.Opening.began e c.requires.began) }

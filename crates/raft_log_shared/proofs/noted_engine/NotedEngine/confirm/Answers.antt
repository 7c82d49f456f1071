use Rattle.std.proofs.Common.{List, sym, subst}
use Rattle.raft_log_engine_core.specs.Reads.{shows_of}
use Rattle.raft_log_shared.specs.declared.served.Served.{Served}
use Rattle.raft_log_shared.specs.Calls.{AllLead}
use Rattle.raft_log_shared.proofs.Leading.{all_explained}
use Rattle.raft_log_shared.proofs.noted_engine.NotedEngine.confirm.Goals as goal

pub invariant_of-self : goal.invariant_of-self
invariant_of-self g c =
    let old = c.args.self.now in
    record { leads = subst (λ (h : List Served). AllLead g.L.Opening.began h (shows_of g.P.PipeLog.shown old.engine)) (sym c.find_all.ensures.same.1) old.leads }

pub returns-clause-found : goal.returns-clause-found
returns-clause-found g c =
    let old = c.args.self.now in
    record {
      history = old.keeper;
      explained = all_explained g.L.Opening.began old.keeper (shows_of g.P.PipeLog.shown old.engine) old.leads;
      found = c.find_all.ensures.found;
    }

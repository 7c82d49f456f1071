use Rattle.raft_log_engine_core.specs.ModelCalls.{FetchesMessages}
use Rattle.raft_log_engine_core.specs.Reads.{shows_of}
use Rattle.raft_log_shared.proofs.Leading.{read_leads, read_ok}
use Rattle.raft_log_shared.proofs.noted_engine.NotedEngine.fetch_entries_to.Goals as goal

pub invariant_of-self : goal.invariant_of-self
invariant_of-self g c =
    let a = c.args in
    let old = a.self.now in
    let fetched = c.fetch_entries_to in
    let is = FetchesMessages g.M.Entry.Message.reading a.raft_group_id a.begin a.end a.max_size a.vec.now.items fetched.new.vec.items in
    record {
      leads = read_leads g.L.Opening.began is (shows_of g.P.PipeLog.shown old.engine) (shows_of g.P.PipeLog.shown fetched.new.self)
          fetched.result old.keeper fetched.ensures.model old.leads;
    }

pub returns-clause-ok : goal.returns-clause-ok
returns-clause-ok g c =
    let a = c.args in
    let old = a.self.now in
    let fetched = c.fetch_entries_to in
    let is = FetchesMessages g.M.Entry.Message.reading a.raft_group_id a.begin a.end a.max_size a.vec.now.items fetched.new.vec.items in
    read_ok g.L.Opening.began is (shows_of g.P.PipeLog.shown old.engine) (shows_of g.P.PipeLog.shown fetched.new.self)
    fetched.result old.keeper fetched.ensures.model old.leads

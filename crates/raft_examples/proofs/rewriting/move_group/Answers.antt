use Rattle.raft_log_engine_core.specs.raft_log_engine_laws.specs.EngineState.{shows}
use Rattle.raft_examples.proofs.rewriting.move_group.Goals as goal

pub returns : goal.returns
returns g c =
    let shown = g.P.PipeLog.shown in
    record {
      ok = record {
        synced = shown c.sync.new.self;
        syncs = c.in_ok-sync.ensures.ok;
        carried = shows (shown c.rewrite_marks.new.pipes) c.rewrite_marks.new.tables c.args.cache.now;
        carries = c.in_ok-rewrite_marks.ensures.ok c.args.cache.now;
        rewritten = shows (shown c.rewrite_group.new.pipes) c.rewrite_group.new.tables c.rewrite_group.new.cache;
        rewrites = c.in_ok-rewrite_group.ensures.ok;
        ends = c.in_ok-sync-2.ensures.ok;
      };
    }

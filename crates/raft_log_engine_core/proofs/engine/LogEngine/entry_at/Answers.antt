use Rattle.std.proofs.Common.{sym, ap, ◌∙◌}
use Rattle.raft_log_memtable_index.specs.Shown.{Shown}
use Rattle.raft_log_memtable.specs.Reads.{entry_at}
use Rattle.raft_log_engine_core.proofs.Entries.{none_at}
use Rattle.raft_log_engine_core.proofs.Tables.{none_shown, raw_shown}
use Rattle.raft_log_engine_core.proofs.engine.LogEngine.entry_at.Goals as goal

pub returns-in-Some : goal.returns-in-Some
returns-in-Some g c = c.get_entry.ensures ∙ ap (λ (v : Shown). entry_at v c.args.index) (sym (raw_shown c.args.self.now.tables c.args.raft_group_id _ c.in-Some.ensures))

pub returns-in-None : goal.returns-in-None
returns-in-None g c =
    sym (ap (λ (v : Shown). entry_at v c.args.index) (none_shown c.args.self.now.tables c.args.raft_group_id c.in-None.ensures) ∙ none_at c.args.index)

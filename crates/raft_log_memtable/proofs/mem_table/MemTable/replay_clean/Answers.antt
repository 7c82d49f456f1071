use Rattle.std.proofs.Common.{ap, ◌∙◌}
use Rattle.raft_log_model_laws.specs.Item.Item.{Clean}
use Rattle.raft_log_memtable_index.specs.Replayed.{replayed}
use Rattle.raft_log_memtable_index.specs.Shown.{with_clean}
use Rattle.raft_log_memtable.specs.Table.{replay_of, shown}
use Rattle.raft_log_memtable.specs.contracts.mem_table.MemTable.{the_view}
use Rattle.raft_log_memtable.proofs.Reread.{replays}
use Rattle.raft_log_memtable.proofs.mem_table.MemTable.replay_clean.Goals as goal

pub returns-clause-read : goal.returns-clause-read
returns-clause-read c = λ q n.
    replays (replay_of c.take_back.new.self) (replayed q n (replay_of c.args.self.now) Clean)
    (c.take_back.ensures.shows ∙ c.clean.ensures.shows
    ∙ ap (λ ks. record (with_clean (shown (the_view c.self.inside))) { deleted = ks.deleted }) c.clear.ensures
    ∙ ap (λ t. with_clean (shown t)) c.self.view_is)
    (c.take_back.ensures.bounds.0 ∙ c.clean.ensures.bounds.0 ∙ ap (λ t. t.low) c.self.view_is)
    (c.take_back.ensures.bounds.1 ∙ c.clean.ensures.bounds.1 ∙ ap (λ t. t.high) c.self.view_is)

pub returns-clause-keys : goal.returns-clause-keys
returns-clause-keys c =
    ap (λ q. q.has) c.take_back.ensures.room ∙ ap (λ q. q.has) c.clean.ensures.room ∙ ap (λ ks. ks.has) c.clear.ensures
    ∙ ap (λ t. (shown t).deleted) c.self.view_is

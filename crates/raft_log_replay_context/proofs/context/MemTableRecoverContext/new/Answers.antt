use Rattle.std.proofs.Common.{sym, ap, subst, [], Some}
use Rattle.raft_log_machine_laws.proofs.Public.{no_word}
use Rattle.raft_log_memtable_index.specs.Replayed.{IsReplayed}
use Rattle.raft_log_memtable_index.proofs.Public.{read_nothing}
use Rattle.raft_log_memtable.specs.Replays.{in_append}
use Rattle.raft_log_replay_context.specs.Noting.{IsNotedTo}
use Rattle.raft_log_replay_context.proofs.context.MemTableRecoverContext.new.Goals as goal

pub returns-clause-read : goal.returns-clause-read
returns-clause-read c = λ queue. record {
  plain = λ q. tt;
  fit = λ q. tt;
  tables = λ tidy g healthy. subst (λ z. IsReplayed (in_append queue) [] z) (sym (c.new.ensures.replay g)) (read_nothing (in_append queue));
  counting = λ tidy g healthy. c.new.ensures.counts g;
  notes = λ q lie tidy g healthy s d stands. no_word (Some d) stands;
  ends = λ q n upto g. subst (λ z. IsNotedTo n z.table.noted) (sym (c.new.ensures.replay g)) tt;
  none = λ q g. ap (λ z. z.table.noted) (c.new.ensures.replay g);
  pieces = c.new-2.ensures;
}

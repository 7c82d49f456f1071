use Rattle.raft_log_memtable.proofs.Leasts.{front_is_least, least_in_append, least_in_rewrite, noted_by_least, nothing_in_rewrite}
use Rattle.raft_log_memtable.proofs.laws.least_file_in_use.Goals as goal

pub returns : goal.returns
returns c = record {
  append = least_in_append;
  rewrite = λ t n o. least_in_rewrite t n o.parts;
  nothing = λ t o. nothing_in_rewrite t o.parts;
  front = front_is_least;
  noted = λ t new o. noted_by_least t new o.parts;
}

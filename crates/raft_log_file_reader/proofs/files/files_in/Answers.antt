use Rattle.std.proofs.Common.{rules}
use Rattle.std.proofs.lemmas.List.Sorted.{answers_always}
use Rattle.raft_log_file_reader.proofs.files.files_in.Goals as goal

pub returns-in_ok-sort_by_key-in-Ok-clause-ok : goal.returns-in_ok-sort_by_key-in-Ok-clause-ok
returns-in_ok-sort_by_key-in-Ok-clause-ok g c = record {
  names = _;
  listing = c.in-Ok.ensures.ok;
  found = c.in_ok-files-in-Ok.files.items;
  finds = rw (c.as_slice.ensures.value) at c.in_ok-files-in-Ok.ensures.ok;
  same = c.in_ok-sort_by_key-in-Ok.ensures.permutation;
  ordered = c.in_ok-sort_by_key-in-Ok.ensures.sorted (λ file. file.id) (answers_always _ _ _ (λ f a r q k. search rules));
}

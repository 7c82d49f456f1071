use Rattle.raft_log_purge_copy.proofs.Public.{keys_found, keys_none}
use Rattle.raft_log_purge_steps.proofs.weights.appended_keys.Goals as goal
use Rattle.raft_log_purge_steps.proofs.weights.appended_keys.Goals.{in-Some+in_ok-fetch_kvs_before, in_default}

pub returns : goal.returns
returns c = elim c.match-known_table.branch [
  | in-Some+in_ok-fetch_kvs_before w ↦
      rw w.pairs-is (keys_found c.args.tables.now c.args.group c.args.gate w.in-Some.table.now c.new-pairs.result.items w.fetch_kvs_before.new.pairs.items w.in-Some.ensures c.new-pairs.ensures.items w.in_ok-fetch_kvs_before.ensures.ok)
  | in_default w ↦
      rw w.pairs-is (keys_none c.args.tables.now c.args.group c.args.gate c.new-pairs.result.items w.in_default.ensures c.new-pairs.ensures.items)
]

use Rattle.std.proofs.Common.{None}
use Rattle.std.proofs.lemmas.Map.Text.{btree_map_updates_text}
use Rattle.raft_log_fs_state.proofs.storage.Storage.unname.Goals as goal

pub returns-clause-nodes : goal.returns-clause-nodes
returns-clause-nodes c = λ q. btree_map_updates_text c.args.path.now c.args.self.now.paths c.remove.new.self None c.remove.ensures.updates q

use Rattle.std.proofs.Common.{if◌then◌else◌, true, ap, refl, ◌∙◌}
use Rattle.std.proofs.lemmas.Result.{on_ok_weaker}
use Rattle.std.proofs.lemmas.Slice.Eq.{bytes_eq-Decides}
use Rattle.raft_log_memtable_index.specs.Keys.{keys_of}
use Rattle.raft_log_memtable.proofs.mem_table.MemTable.prepare_key.Goals as goal

pub returns-clause-has : goal.returns-clause-has
returns-clause-has c =
    on_ok_weaker c.make_room.result
    (λ e. ap (λ q. q.has c.args.key.now) e
    ∙ ap (λ b. if b then true else (keys_of c.self.inside.keys).has c.args.key.now) ((bytes_eq-Decides c.args.key.now c.args.key.now).1 refl)) c.make_room.ensures.ok

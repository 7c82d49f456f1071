use Rattle.std.proofs.Common.{ap, sym, ◌∙◌}
use Rattle.raft_log_memtable_index.specs.Keys.{held_in, slot_at, shown_value}
use Rattle.raft_log_memtable_index.proofs.ByteKeys.{found}
use Rattle.raft_log_memtable_index.proofs.key_map.KeyMap.get.Goals as goal

pub returns-in-Some : goal.returns-in-Some
returns-in-Some c =
    ap shown_value c.as_ref.ensures.value
    ∙ ap held_in (c.in-Some.ensures.value ∙ sym (found (λ v. v.items) c.args.key.now c.self.inside.slots.entries) ∙ ap (λ m. slot_at m c.args.key.now) c.self.view_is)

pub returns-in-None : goal.returns-in-None
returns-in-None c =
    ap held_in (c.in-None.ensures.value ∙ sym (found (λ v. v.items) c.args.key.now c.self.inside.slots.entries) ∙ ap (λ m. slot_at m c.args.key.now) c.self.view_is)

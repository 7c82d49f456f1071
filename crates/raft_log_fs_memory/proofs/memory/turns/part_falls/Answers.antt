use Rattle.std.proofs.Common.{rules, ap, arith, ◌≡◌, ◌∙◌, ℕ, map, length, nat_lt}
use Rattle.std.specs.List.{filter}
use Rattle.std.proofs.lemmas.Fn.{filter_same}
use Rattle.std.proofs.lemmas.List.{length-map}
use Rattle.raft_log_fs_memory.specs.Turns.{part_later}
use Rattle.raft_log_fs_memory.proofs.CountDown.{written_back}
use Rattle.raft_log_fs_memory.proofs.memory.turns.part_falls.Goals as goal

pub returns-clause-later : goal.returns-clause-later
returns-clause-later c =
    let items = c.retain.new.self.items in
    let kept : items ≡ filter (λ (part : ℕ × ℕ). nat_lt 1 part.0) c.args.parts.now.items = filter_same _ _ _ (λ x b f' k. search rules) _ _ c.retain.ensures.filtered in
    let new : c.count_down_parts.new.parts ≡ map part_later items = c.count_down_parts.ensures ∙ ap (map part_later) c.deref_mut.ensures.value in
    let size : length c.count_down_parts.new.parts ≡ length items = ap length new ∙ length-map items part_later in
    written_back c.retain.new.self.len c.count_down_parts.new.parts items size (omega (arith, c.retain.new.self.ok)) ∙ (new ∙ ap (map part_later) kept)

use Rattle.std.proofs.Common.{rules, ap, arith, ◌≡◌, ◌-◌, ◌∙◌, map, length, nat_lt}
use Rattle.std.specs.List.{filter}
use Rattle.std.proofs.lemmas.Fn.{filter_same}
use Rattle.std.proofs.lemmas.List.{length-map}
use Rattle.raft_log_fs_memory.proofs.CountDown.{written_back}
use Rattle.raft_log_fs_memory.proofs.memory.turns.refusal_falls.Goals as goal

pub returns-clause-later : goal.returns-clause-later
returns-clause-later c =
    let items = c.retain.new.self.items in
    let kept : items ≡ filter (λ n. nat_lt 1 n) c.args.refusals.now.items = filter_same _ _ _ (λ x b f' k. search rules) _ _ c.retain.ensures.filtered in
    let new : c.count_down.new.refusals ≡ map (λ n. n - 1) items = c.count_down.ensures ∙ ap (map (λ n. n - 1)) c.deref_mut.ensures.value in
    let size : length c.count_down.new.refusals ≡ length items = ap length new ∙ length-map items (λ n. n - 1) in
    written_back c.retain.new.self.len c.count_down.new.refusals items size (omega (arith, c.retain.new.self.ok)) ∙ (new ∙ ap (map (λ n. n - 1)) kept)

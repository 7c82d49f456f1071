use Rattle.std.proofs.Common.{◌≡◌, ◌<◌, ℕ, ◌∷◌, ◌++◌, List, length, map, sym, ap, subst, ◌∙◌, arith}
use Rattle.std.specs.List.{All}
use Rattle.std.specs.Prelude.{option_to_list}
use Rattle.std.proofs.lemmas.List.{map_push}
use Rattle.std.proofs.lemmas.List.Elements.{All-head, All-rest, All-same}
use Rattle.raft_log_shared.specs.declared.served.Served.{Served}
use Rattle.raft_log_shared.proofs.Ending.{one_more}
use Rattle.raft_log_shared.proofs.desk.answer_synced.Goals as goal

pub answer-requires : goal.answer-requires
answer-requires g c =
    let part = c.in-Some.part in
    let rest = c.pop_front.new.self.items in
    let popped : part ∷ rest ≡ c.loop-part.parts.items = sym (c.pop_front.ensures.items ∙ ap (λ r. option_to_list r ++ rest) c.in-Some.is) in
    All-head (λ part. part.claim.0 < c.loop-part.sync.claim.0) part rest
    (All-same (λ part. part.claim.0 < c.loop-part.sync.claim.0) (part ∷ rest) c.loop-part.parts.items popped c.loop-part.invariant.before)

pub loop-part-preserved : goal.loop-part-preserved
loop-part-preserved g c =
    let before = c.loop-part in
    let so_far = before.invariant in
    let part = c.in-Some.part in
    let rest = c.pop_front.new.self.items in
    let popped : before.parts.items ≡ part ∷ rest = c.pop_front.ensures.items ∙ ap (λ r. option_to_list r ++ rest) c.in-Some.is in
    let done = c.answer.result in
    record {
      whose = one_more (map (λ done. done.ask) before.done.items) (map (λ done. done.ask) c.push_reserved.new.self.items) done.ask part.ask
          (map (λ part. part.ask) rest) _
          (ap (λ ds. map (λ done. done.ask) ds) c.push_reserved.ensures.items ∙ map_push (λ done. done.ask) before.done.items done)
          c.answer.ensures.ask
          (sym (ap (λ ps. map (λ done. done.ask) before.done.items ++ map (λ part. part.ask) ps) popped) ∙ so_far.whose);
      before = subst (λ (claim : ℕ × List Served). All (λ part. part.claim.0 < claim.0) rest) (sym c.answer.ensures.same)
          (All-rest (λ part. part.claim.0 < before.sync.claim.0) part rest before.parts.items popped so_far.before);
      room = omega (arith, so_far.room, ap length popped, c.push_reserved.ensures.len, c.push_reserved.ensures.capacity);
    }

use Rattle.std.proofs.Common.{◌≡◌, false, ◌∷◌, ◌++◌, length, map, sym, ap, ◌∙◌, arith}
use Rattle.std.specs.Prelude.{option_to_list}
use Rattle.std.proofs.lemmas.List.{map_push}
use Rattle.std.proofs.lemmas.List.Elements.{All-head, All-rest, All-same}
use Rattle.raft_log_shared.specs.Receipts.{waits}
use Rattle.raft_log_shared.proofs.Ending.{one_more}
use Rattle.raft_log_shared.proofs.desk.answer_unsynced.Goals as goal

pub unsynced-requires : goal.unsynced-requires
unsynced-requires g c =
    let part = c.in-Some.part in
    let rest = c.pop_front.new.self.items in
    let popped : part ∷ rest ≡ c.loop-part.parts.items = sym (c.pop_front.ensures.items ∙ ap (λ r. option_to_list r ++ rest) c.in-Some.is) in
    All-head (λ part. waits part.sync part.result ≡ false) part rest
    (All-same (λ part. waits part.sync part.result ≡ false) (part ∷ rest) c.loop-part.parts.items popped c.loop-part.invariant.none)

pub loop-part-preserved : goal.loop-part-preserved
loop-part-preserved g c =
    let before = c.loop-part in
    let so_far = before.invariant in
    let part = c.in-Some.part in
    let rest = c.pop_front.new.self.items in
    let popped : before.parts.items ≡ part ∷ rest = c.pop_front.ensures.items ∙ ap (λ r. option_to_list r ++ rest) c.in-Some.is in
    let answer = c.unsynced.result in
    record {
      whose = one_more (map (λ done. done.ask) before.done.items) (map (λ done. done.ask) c.push_reserved.new.self.items) answer.ask part.ask
          (map (λ part. part.ask) rest) _
          (ap (λ ds. map (λ done. done.ask) ds) c.push_reserved.ensures.items ∙ map_push (λ done. done.ask) before.done.items answer)
          c.unsynced.ensures
          (sym (ap (λ ps. map (λ done. done.ask) before.done.items ++ map (λ part. part.ask) ps) popped) ∙ so_far.whose);
      none = All-rest (λ part. waits part.sync part.result ≡ false) part rest before.parts.items popped so_far.none;
      room = omega (arith, so_far.room, ap length popped, c.push_reserved.ensures.len, c.push_reserved.ensures.capacity);
    }

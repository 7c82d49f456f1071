use Rattle.std.proofs.Common.{◌≡◌, ◌+◌, ◌-◌, ◌∷◌, ◌++◌, take, refl, ap, sym, ◌∙◌, arith}
use Rattle.std.specs.Prelude.{option_to_list}
use Rattle.raft_voter_rounds.proofs.Noted.{dropped_first, one_more, taken_first}
use Rattle.raft_voter_rounds.proofs.draft.front.Goals as goal

pub loop-preserved : goal.loop-preserved
loop-preserved g c =
    let before = c.loop in
    let so_far = before.invariant in
    let rest = c.pop_front.new.self.items in
    let popped : before.queue.items ≡ c.in-Some.item ∷ rest = c.pop_front.ensures.items ∙ ap (λ r. option_to_list r ++ rest) c.in-Some.is in
    record {
      front = one_more before.front.items c.push_reserved.new.self.items c.in-Some.item c.in-Some.item (take (c.args.count - (before.counter + 1)) rest) _
          c.push_reserved.ensures.items refl
          (ap (λ l. before.front.items ++ l) (sym (taken_first c.args.count before.counter before.queue.items rest c.in-Some.item popped c.loop-test.true)) ∙ so_far.front);
      rest = sym (dropped_first c.args.count before.counter before.queue.items rest c.in-Some.item popped c.loop-test.true) ∙ so_far.rest;
      room = omega (arith, so_far.room, c.push_reserved.ensures.len, c.push_reserved.ensures.capacity, c.loop-test.true);
    }

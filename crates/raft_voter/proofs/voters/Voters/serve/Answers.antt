use Rattle.std.proofs.Common.{◌≡◌, ◌+◌, ◌∷◌, ◌∙◌, ap, refl, true, false, arith, drop, length, length-drop}
use Rattle.std.proofs.lemmas.Grind.{common_steps}
use Rattle.std.proofs.lemmas.List.{drop_more, drop-drop}
use Rattle.raft_voter.specs.Rounds.{is_among}
use Rattle.raft_voter.specs.Voters.{world_of}
use Rattle.raft_voter.proofs.Places.{first_among, replies_past, replies_past_refused, rising_after, rising_on, stopped_at, taken_past, taken_past_refused}
use Rattle.raft_voter.proofs.Owning.{on_err}
use Rattle.raft_voter.proofs.voters.Voters.serve.Goals as goal

pub loop-place-preserved-then-is_next : goal.loop-place-preserved-then-is_next
loop-place-preserved-then-is_next c =
    let i = c.loop-place.place in
    let qs = c.args.requests.now in
    let ps = drop c.loop-place.passed c.args.refused.now in
    let q = c.index-requests-place.result in
    let high = c.loop-place.invariant.ahead.0 in
    let rise = c.loop-place.invariant.ahead.1 in
    let here : is_among ps i ≡ true = grind (arith, common_steps) in
    let more : drop i qs ≡ q ∷ drop (i + 1) qs = grind (arith, drop_more qs i q) in
    let behind : drop 1 ps ≡ drop (c.loop-place.passed + 1) c.args.refused.now =
    drop-drop 1 c.loop-place.passed c.args.refused.now in
    record {
      passed = omega (arith, ap length (first_among ps i high rise here), length-drop c.loop-place.passed c.args.refused.now);
      ahead = (high, rw (← behind) (rising_after ps i high rise here));
      room = omega (arith, c.push_reserved.ensures.len, c.push_reserved.ensures.capacity, c.loop-place.invariant.room, c.loop-place-test.true);
      replies =
          rw (← behind) (rw c.push_reserved.ensures.items (replies_past_refused qs i q ps high (world_of c.loop-place.self) c.loop-place.replies.items _
          more rise here c.loop-place.invariant.replies));
      world = λ cut past. rw (← behind) (rw (taken_past_refused qs i cut q ps high more rise here) (c.loop-place.invariant.world cut (omega (arith, past))));
    }

pub loop-place-preserved : goal.loop-place-preserved
loop-place-preserved c =
    let i = c.loop-place.place in
    let qs = c.args.requests.now in
    let ps = drop c.loop-place.passed c.args.refused.now in
    let q = c.index-requests-place.result in
    let high = c.loop-place.invariant.ahead.0 in
    let rise = c.loop-place.invariant.ahead.1 in
    let apart : is_among ps i ≡ false = grind (arith, common_steps) in
    let more : drop i qs ≡ q ∷ drop (i + 1) qs = grind (arith, drop_more qs i q) in
    record {
      passed = c.loop-place.invariant.passed;
      ahead = (high, rising_on ps i high rise apart);
      room = omega (arith, c.push_reserved-in-loop-place.ensures.len, c.push_reserved-in-loop-place.ensures.capacity, c.loop-place.invariant.room, c.loop-place-test.true);
      replies =
          rw (c.push_reserved-in-loop-place.ensures.items, c.in_ok-reply.ensures.replies, c.in_ok-reply.ensures.changes) (replies_past qs i q ps (world_of c.loop-place.self) c.loop-place.replies.items _ more apart
          c.loop-place.invariant.replies);
      world = λ cut past.
          rw c.in_ok-reply.ensures.changes (taken_past qs i cut q ps (world_of c.loop-place.self) more apart (omega (arith, past))
          ∙ c.loop-place.invariant.world cut (omega (arith, past)));
    }

pub returns-in_err-replies-clause-err : goal.returns-in_err-replies-clause-err
returns-in_err-replies-clause-err c =
    let W = world_of c.args.self.now in
    let qs = c.args.requests.now in
    let refused = c.args.refused.now in
    on_err c.from_residual.result (stopped_at W W qs qs refused refused 0 (omega arith) refl)

pub returns-in_err-reply-clause-err : goal.returns-in_err-reply-clause-err
returns-in_err-reply-clause-err c =
    let i = c.loop-place.place in
    on_err c.from_residual-in_err-reply.result (rw c.in_err-reply.ensures.err (stopped_at (world_of c.args.self.now) (world_of c.loop-place.self) c.args.requests.now
    (drop i c.args.requests.now) c.args.refused.now (drop c.loop-place.passed c.args.refused.now) i (omega (arith, c.loop-place-test.true))
    (c.loop-place.invariant.world i (omega arith))))

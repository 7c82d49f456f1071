use Rattle.std.proofs.Common.{◌∙◌, ◌++◌, ◌∷◌, List, [], length, ap, sym, subst, arith}
use Rattle.std.proofs.lemmas.Slice.Zip.{all_zipped_more}
use Rattle.std.specs.List.{AllZip}
use Rattle.raft_voter_messages.specs.declared.reply.Reply.{Reply}
use Rattle.raft_voter_rounds.specs.Handing.{HandsOut}
use Rattle.raft_voter_rounds.proofs.records.hand_out.Goals as goal

pub loop-reply-init : goal.loop-reply-init
loop-reply-init c =
    let all = ap length c.into_iter-reply-iterator.ensures.into_iter_gives.0 in
    record {
      handed = subst (λ (l : List Reply). AllZip HandsOut [] l) (sym c.requires.empty.0) tt;
      same = c.requires.empty.0 ∙ sym c.requires.empty.1;
      room = omega (arith, all, ap length c.requires.empty.0, c.args.noted.ok, c.args.told.ok, c.requires.room);
      more = omega (arith, all, ap length c.requires.empty.1, c.args.handed.ok, c.args.told.ok, c.requires.room);
    }

pub push_reserved-requires : goal.push_reserved-requires
push_reserved-requires c = omega (arith, c.loop-reply.invariant.room, ap length c.in-Some.ensures.steps.0)

pub push_reserved-requires-in-loop-reply : goal.push_reserved-requires-in-loop-reply
push_reserved-requires-in-loop-reply c = omega (arith, c.loop-reply.invariant.more, ap length c.in-Some.ensures.steps.0)

pub loop-reply-preserved : goal.loop-reply-preserved
loop-reply-preserved c =
    let so_far = c.loop-reply.invariant in
    let both = c.twice-reply in
    let fewer = ap length c.in-Some.ensures.steps.0 in
    let told = λ (r : Reply). c.loop-reply.noted.items ++ r ∷ [] in
    record {
      handed = subst (λ (l : List Reply). AllZip HandsOut (c.loop-reply.yielded ++ c.in-Some.reply ∷ []) l) (sym c.push_reserved.ensures.items)
          (all_zipped_more HandsOut c.loop-reply.yielded c.loop-reply.noted.items c.in-Some.reply both.result.0 so_far.handed both.ensures.handed);
      same = c.push_reserved.ensures.items ∙ ap told both.ensures.same ∙ ap (λ (l : List Reply). l ++ both.result.1 ∷ []) so_far.same
          ∙ sym c.push_reserved-in-loop-reply.ensures.items;
      room = omega (arith, so_far.room, fewer, c.push_reserved.ensures.len, c.push_reserved.ensures.capacity);
      more = omega (arith, so_far.more, fewer, c.push_reserved-in-loop-reply.ensures.len, c.push_reserved-in-loop-reply.ensures.capacity);
    }

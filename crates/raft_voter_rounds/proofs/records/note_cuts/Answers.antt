use Rattle.std.proofs.Common.{◌≡◌, ℕ, ◌+◌, true, [], ◌∷◌, ◌++◌, length, length-append, map, take, drop, sym, ap, subst, ◌∙◌, arith}
use Rattle.std.specs.Prelude.{Err, option_to_list, sum_by}
use Rattle.std.proofs.lemmas.List.{map_push}
use Rattle.std.proofs.lemmas.List.Elements.{All-rest}
use Rattle.std.proofs.lemmas.List.Sums.{sum_by-cons}
use Rattle.raft_voter_rounds.specs.declared.receipt.SharedFault.TheVariants as faults
use Rattle.raft_voter_rounds.specs.Noting.{cut_off, may_cut, places_within}
use Rattle.raft_voter_rounds.proofs.Within.{few_within}
use Rattle.raft_voter_rounds.proofs.Noted.{cut_is_told, cut_noted, one_more}
use Rattle.raft_voter_rounds.proofs.records.note_cuts.Goals as goal

pub cut_off-round-requires-clause-few : goal.cut_off-round-requires-clause-few
cut_off-round-requires-clause-few g c =
    few_within c.loop-part.start c.split-draft.result.0.count 0 (length c.args.asked.items) c.args.refused.now c.requires.rising

pub cut_off-requires-clause-within : goal.cut_off-requires-clause-within
cut_off-requires-clause-within g c =
    let popped = c.pop_front.ensures.items ∙ ap (λ r. option_to_list r ++ c.pop_front.new.self.items) c.in-Some.is in
    omega (arith, c.loop-part.invariant.more, c.loop-part.invariant.counted, ap length popped)

pub note-claim-requires-clause-room : goal.note-claim-requires-clause-room
note-claim-requires-clause-room g c =
    let popped = c.pop_front.ensures.items ∙ ap (λ r. option_to_list r ++ c.pop_front.new.self.items) c.in-Some.is in
    omega (arith, c.loop-part.invariant.records, ap length popped)

pub note-claim-requires-clause-count : goal.note-claim-requires-clause-count
note-claim-requires-clause-count g c =
    let popped = c.pop_front.ensures.items ∙ ap (λ r. option_to_list r ++ c.pop_front.new.self.items) c.in-Some.is in
    omega (arith, c.loop-part.invariant.more, ap length popped)

pub loop-part-preserved : goal.loop-part-preserved
loop-part-preserved g c =
    let before = c.loop-part in
    let so_far = before.invariant in
    let part = c.in-Some.part in
    let rest = c.pop_front.new.self.items in
    let n : ℕ = part.ticket.count in
    let many : c.split-draft.result.0.count ≡ n = c.split-draft.ensures.count in
    let popped : before.left.items ≡ part ∷ rest = c.pop_front.ensures.items ∙ ap (λ r. option_to_list r ++ rest) c.in-Some.is in
    let counts : map (λ part. part.ticket.count) before.left.items ≡ n ∷ map (λ part. part.ticket.count) rest =
    ap (λ ps. map (λ part. part.ticket.count) ps) popped in
    let js = before.journal.history in
    let js' = c.note-claim.new.self.history in
    let here : c.len-place.result ≡ length js = c.len-place.ensures in
    let next : length js' ≡ length js + 1 = omega (arith, ap length c.note-claim.ensures.noted, length-append js (c.cut_off-round.result ∷ [])) in
    let cut = c.cut_off-round.ensures in
    let told = c.cut_off.ensures in
    let told' = c.push_reserved.new.self.items in
    let answer = c.cut_off.result in
    record {
      counted = omega (arith, next, so_far.counted, told.total);
      journal = cut_noted n _ _ counts js js' c.cut_off-round.result before.start before.asked.items _ c.args.refused.now _
          c.note-claim.ensures.noted
          (subst (λ (m : ℕ). c.cut_off-round.result ≡ cut_off (take m before.asked.items) (places_within before.start m c.args.refused.now)) many cut.round)
          (subst (λ (m : ℕ). c.cut_off-round.new.asked.items ≡ drop m before.asked.items) many cut.asked) so_far.journal;
      answers = cut_is_told n _ _ counts (map (λ done. done.answer) before.told.items) (map (λ done. done.answer) told') answer.answer
          (length js) (length js') c.args.cause _
          (ap (λ ds. map (λ done. done.answer) ds) c.push_reserved.ensures.items ∙ map_push (λ done. done.answer) before.told.items answer)
          (told.answer ∙ ap (λ (p : ℕ). Err (faults.Cut p c.args.cause)) here) next so_far.answers;
      whose = one_more (map (λ done. done.ticket) before.told.items) (map (λ done. done.ticket) told') answer.ticket part.ticket
          (map (λ part. part.ticket) rest) _
          (ap (λ ds. map (λ done. done.ticket) ds) c.push_reserved.ensures.items ∙ map_push (λ done. done.ticket) before.told.items answer)
          (told.ticket ∙ c.split-draft.ensures.ticket) (sym (ap (λ ps. map (λ done. done.ticket) before.told.items ++ map (λ part. part.ticket) ps) popped) ∙ so_far.whose);
      causes = All-rest (λ part. may_cut c.args.cause part.ticket.count ≡ true) part rest before.left.items popped so_far.causes;
      all = let is = sum_by-cons (λ part. part.ticket.count) part rest in
          omega (arith, so_far.all, is, ap (λ ps. sum_by (λ part. part.ticket.count) ps) popped);
      records = omega (arith, so_far.records, ap length popped, c.note-claim.ensures.len, c.note-claim.ensures.capacity);
      more = omega (arith, so_far.more, ap length popped, next);
      room = omega (arith, so_far.room, ap length popped, c.push_reserved.ensures.len, c.push_reserved.ensures.capacity);
    }

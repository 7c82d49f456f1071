use Rattle.std.proofs.Common.{◌≡◌, ◌≤◌, ℕ, ◌+◌, List, [], ◌∷◌, ◌++◌, length, length-append, map, take, drop, sym, ap, ◌∙◌, arith}
use Rattle.std.specs.Prelude.{Ok, option_to_list}
use Rattle.std.specs.List.{flat_map}
use Rattle.raft_voter_messages.specs.declared.reply.Reply.{Reply}
use Rattle.raft_voter_messages.specs.declared.request.Request.{Request}
use Rattle.std.proofs.lemmas.List.{map_push}
use Rattle.std.proofs.lemmas.List.Concat.{flat_map-cons}
use Rattle.std.proofs.lemmas.List.Elements.{All-rest}
use Rattle.raft_voter_rounds.specs.Noting.{answered}
use Rattle.raft_voter_rounds.proofs.Noted.{answer_noted, answer_told, first_of_all, one_more}
use Rattle.raft_voter_rounds.proofs.records.note_answers.Goals as goal

pub note-claim-requires-clause-room : goal.note-claim-requires-clause-room
note-claim-requires-clause-room g c =
    let popped = c.pop_front.ensures.items ∙ ap (λ r. option_to_list r ++ c.pop_front.new.self.items) c.in-Some.is in
    omega (arith, c.loop-part.invariant.records, ap length popped)

pub note-claim-requires-clause-count : goal.note-claim-requires-clause-count
note-claim-requires-clause-count g c =
    let popped = c.pop_front.ensures.items ∙ ap (λ r. option_to_list r ++ c.pop_front.new.self.items) c.in-Some.is in
    omega (arith, c.loop-part.invariant.more, ap length popped)

pub answered-requires-clause-within : goal.answered-requires-clause-within
answered-requires-clause-within g c =
    let popped = c.pop_front.ensures.items ∙ ap (λ r. option_to_list r ++ c.pop_front.new.self.items) c.in-Some.is in
    omega (arith, c.loop-part.invariant.more, c.loop-part.invariant.counted, ap length popped)

-- the record that was added is of the caller's requests and replies
pub answered-requires-clause-proves : goal.answered-requires-clause-proves
answered-requires-clause-proves g c =
    let before = c.loop-part in
    let part = c.in-Some.part in
    let rest = c.pop_front.new.self.items in
    let popped : before.parts.items ≡ part ∷ rest = c.pop_front.ensures.items ∙ ap (λ r. option_to_list r ++ rest) c.in-Some.is in
    let n : ℕ = c.split-draft.result.0.count in
    let own : part.requests ++ flat_map (λ part. part.requests) rest ≡ before.asked.items =
    sym (flat_map-cons (λ part. part.requests) part rest) ∙ sym (ap (λ ps. flat_map (λ part. part.requests) ps) popped) ∙ before.invariant.each in
    let asked : take n before.asked.items ≡ c.split-draft.result.1.requests =
    (first_of_all n part.requests (flat_map (λ part. part.requests) rest) before.asked.items (part.asked ∙ sym c.split-draft.ensures.count) own).0
    ∙ sym c.split-draft.ensures.requests in
    let told : take n before.noted.items ≡ c.answered-round.result.1 =
    ap (take n) before.invariant.same ∙ sym c.answered-round.ensures.replies in
    c.note-claim.ensures.claim
    ∙ ap (λ (k : ℕ). (k, c.answered-round.result.0 ∷ [])) (sym c.len-place.ensures)
    ∙ ap (λ r. (c.len-place.result, r ∷ []))
    (c.answered-round.ensures.round ∙ ap (λ (qs : List (ℕ × Request)). answered qs (take n before.noted.items)) asked
    ∙ ap (λ (rs : List Reply). answered c.split-draft.result.1.requests rs) told)

pub loop-part-preserved : goal.loop-part-preserved
loop-part-preserved g c =
    let before = c.loop-part in
    let so_far = before.invariant in
    let part = c.in-Some.part in
    let rest = c.pop_front.new.self.items in
    let n : ℕ = c.split-draft.result.0.count in
    let popped : before.parts.items ≡ part ∷ rest = c.pop_front.ensures.items ∙ ap (λ r. option_to_list r ++ rest) c.in-Some.is in
    let counts : map (λ part. part.ticket.count) before.parts.items ≡ n ∷ map (λ part. part.ticket.count) rest =
    ap (λ ps. map (λ part. part.ticket.count) ps) popped
    ∙ ap (λ (m : ℕ). m ∷ map (λ part. part.ticket.count) rest) (sym c.split-draft.ensures.count) in
    let own : part.requests ++ flat_map (λ part. part.requests) rest ≡ before.asked.items =
    sym (flat_map-cons (λ part. part.requests) part rest) ∙ sym (ap (λ ps. flat_map (λ part. part.requests) ps) popped) ∙ so_far.each in
    let js = before.journal.history in
    let js' = c.note-claim.new.self.history in
    let here : c.len-place.result ≡ length js = c.len-place.ensures in
    let record_ = c.answered-round.result.0 in
    let next : length js' ≡ length js + 1 = omega (arith, ap length c.note-claim.ensures.noted, length-append js (record_ ∷ [])) in
    let replies = c.answered-round.ensures in
    let told = c.answered.ensures in
    let done' = c.push_reserved.new.self.items in
    let answer = c.answered.result in
    record {
      counted = omega (arith, next, so_far.counted, told.total);
      journal = answer_noted n _ _ counts js js' record_ before.asked.items _ before.noted.items _ _
          c.note-claim.ensures.noted replies.round replies.asked replies.noted so_far.journal;
      answers = answer_told n _ _ counts (map (λ done. done.answer) before.done.items) (map (λ done. done.answer) done') answer.answer
          (length js) (length js') before.noted.items _ _
          (ap (λ ds. map (λ done. done.answer) ds) c.push_reserved.ensures.items ∙ map_push (λ done. done.answer) before.done.items answer)
          (told.answer ∙ ap (λ (p : ℕ). Ok (record { place = p; replies = c.answered-round.result.1 })) here
          ∙ ap (λ (l : List Reply). Ok (record { place = length js; replies = l })) (replies.replies ∙ ap (take n) (sym so_far.same)))
          next replies.noted so_far.answers;
      whose = one_more (map (λ done. done.ticket) before.done.items) (map (λ done. done.ticket) done') answer.ticket part.ticket
          (map (λ part. part.ticket) rest) _
          (ap (λ ds. map (λ done. done.ticket) ds) c.push_reserved.ensures.items ∙ map_push (λ done. done.ticket) before.done.items answer)
          (told.ticket ∙ c.split-draft.ensures.ticket)
          (sym (ap (λ ps. map (λ done. done.ticket) before.done.items ++ map (λ part. part.ticket) ps) popped) ∙ so_far.whose);
      same = replies.noted ∙ ap (drop n) so_far.same ∙ sym replies.handed;
      each = sym (replies.asked
          ∙ (first_of_all n part.requests (flat_map (λ part. part.requests) rest) before.asked.items (part.asked ∙ sym c.split-draft.ensures.count) own).1);
      short = All-rest (λ part. part.ticket.count ≤ 4096) part rest before.parts.items popped so_far.short;
      records = omega (arith, so_far.records, ap length popped, c.note-claim.ensures.len, c.note-claim.ensures.capacity);
      more = omega (arith, so_far.more, ap length popped, next);
      room = omega (arith, so_far.room, ap length popped, c.push_reserved.ensures.len, c.push_reserved.ensures.capacity);
    }

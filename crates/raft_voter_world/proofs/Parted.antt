-- Rounds behind one another are those of independent voters, if each is.
use Rattle.std.proofs.Common.{◌≡◌, ℕ, ◌≤◌, List, [], ◌∷◌, length, map, refl, sym, ap, subst, arith}
use Rattle.raft_voter_messages.specs.declared.reply.Reply.{Reply}
use Rattle.raft_voter_messages.specs.declared.request.Request.{Request}
use Rattle.raft_voter_messages.specs.declared.round.Round.{Round}
use Rattle.raft_voter.specs.Rounds.{ExplainsFrom, World, after, after_round, after_rounds, cuts_after, fresh_world, is_among, place_reached, replies_from, taken_from}
use Rattle.raft_voter.specs.Service.{IsOpenAt, Service, out_of_range, refused_from}
use Rattle.raft_voter_world.specs.Alike.{refused_in}
use Rattle.raft_voter_world.specs.Stores.{Disk, Upkeep}
use Rattle.raft_voter_world.specs.Independent.{AreIndependent, AreWhole, RoundsAreIndependent, RunsAreIndependent, WholeRoundsAreIndependent, asked_in, asked_of, handed_out, replies_alone, replies_in, requests_in, told_to, voter_alone}
use Rattle.raft_voter_world.proofs.InTurn.{turns}
use Rattle.raft_voter_world.proofs.Alone.{goes_alone, replies_alone-append, voter_alone-append}

-- one round: what it told, and what it made of the voters
record IsOne (W : World) (requests : List (ℕ × Request)) (replies : List Reply) (X : World) : Type 0 where
  pub told : (g : ℕ) → told_to g requests replies ≡ replies_alone (W g) (asked_of g requests)
  pub became : (g : ℕ) → X g ≡ voter_alone (W g) (asked_of g requests)

none_follow : (W : World) → AreIndependent W [] [] W
none_follow W = record { replies = λ g. refl; voters = λ g. refl }

follow : (W X Y : World) (requests : List (ℕ × Request)) (replies : List Reply) (rounds : List (List (ℕ × Request))) (told : List (List Reply))
    → IsOne W requests replies X → AreIndependent X rounds told Y → AreIndependent W (requests ∷ rounds) (replies ∷ told) Y
follow W X Y requests replies rounds told one rest = record {
  replies = λ g.
      let first = one.told g in
      let others = rest.replies g in
      let from = one.became g in
      rw (first, others, from) (sym (replies_alone-append (W g) (asked_of g requests) (asked_in g rounds)));
  voters = λ g.
      let others = rest.voters g in
      let from = one.became g in
      rw (others, from) (sym (voter_alone-append (W g) (asked_of g requests) (asked_in g rounds)));
}

-- a round of which just these were refused
one_of : (W X : World) (requests : List (ℕ × Request)) (replies : List Reply) (refused : List ℕ) → refused ≡ out_of_range 0 requests
    → replies ≡ replies_from 0 refused W requests → X ≡ after W (taken_from 0 (length requests) refused requests) → IsOne W requests replies X
one_of W X requests replies refused none told became =
    let agree : (j : ℕ) → 0 ≤ j → is_among refused j ≡ is_among (out_of_range 0 requests) j = λ j h. ap (λ (ps : List ℕ). is_among ps j) none in
    let both = turns 0 (length requests) refused W requests agree (omega arith) in
    record {
      told = λ g. rw (told, both.0) (goes_alone W requests g).0;
      became = λ g. rw (became, both.1) (goes_alone W requests g).1;
    }

-- Stores.

first_of : (xs ys : List ℕ) (xss yss : List (List ℕ)) → (xs ∷ xss) ≡ (ys ∷ yss) → (xs ≡ ys) × (xss ≡ yss)
first_of xs ys xss yss e = (cc, cc)

pub rounds_are_independent : {S : Type 0} (v : Service S) → RoundsAreIndependent v
rounds_are_independent v W [] [] old new at answers none = (W, subst (λ s. IsOpenAt v s W) (sym answers) at, none_follow W)
rounds_are_independent v W [] (replies ∷ told) old new at answers none = absurd answers
rounds_are_independent v W (requests ∷ rounds) [] old new at answers none = absurd answers
rounds_are_independent v W (requests ∷ rounds) (replies ∷ told) old new at answers none =
    let (X, is, now) = answers.1 W at in
    let both = first_of (refused_from 0 replies) (out_of_range 0 requests) (refused_in told) (map (out_of_range 0) rounds) none in
    let one = one_of W X requests replies (refused_from 0 replies) both.0 is.told is.taken in
    let (Y, then, rest) = rounds_are_independent v X rounds told answers.0 new now answers.2 both.1 in
    (Y, then, follow W X Y requests replies rounds told one rest)

-- Transcripts.

explained : (W : World) (rounds : List Round) (cuts : List ℕ) → ExplainsFrom W rounds cuts → AreWhole rounds
    → AreIndependent W (requests_in rounds) (replies_in rounds) (after_rounds W rounds cuts)
explained W [] cuts e whole = none_follow W
explained W (r ∷ rounds) cuts e whole =
    let outcome = whole.0.answered in
    let told : whole.0.replies ≡ replies_from 0 r.refused W r.requests = rw outcome at e.0.1 in
    let reached : place_reached r.outcome (length r.requests) cuts ≡ length r.requests = rw outcome refl in
    let became : after_round W r cuts ≡ after W (taken_from 0 (length r.requests) r.refused r.requests) =
    ap (λ (n : ℕ). after W (taken_from 0 n r.refused r.requests)) reached in
    let handed : handed_out r.outcome ≡ replies_from 0 r.refused W r.requests = rw outcome told in
    let one = one_of W (after_round W r cuts) r.requests (handed_out r.outcome) r.refused whole.0.refused handed became in
    let rest = explained (after_round W r cuts) rounds (cuts_after r.outcome cuts) e.1 whole.1 in
    follow W (after_round W r cuts) (after_rounds W (r ∷ rounds) cuts) r.requests (handed_out r.outcome) (requests_in rounds) (replies_in rounds) one rest

pub whole_rounds_are_independent : WholeRoundsAreIndependent
whole_rounds_are_independent W X rounds cuts leads whole =
    subst (λ (Y : World). AreIndependent W (requests_in rounds) (replies_in rounds) Y) leads.reached (explained W rounds cuts leads.explained whole)

pub runs_are_independent : {S F : Type 0} (v : Service S) (u : Upkeep S) (d : Disk S F) → RunsAreIndependent v u d
runs_are_independent v u d files events report run serve none whole =
    explained fresh_world report.transcript.rounds report.cuts (run.explained serve none) whole

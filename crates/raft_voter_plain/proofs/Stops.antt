-- Rounds that aren't answered.
use Rattle.std.proofs.Common.{◌≡◌, ℕ, suc, zero, ◌+◌, ◌<◌, ◌≤◌, ◌∙◌, nat_lt, true, false, ⊎_elim, List, [], ◌∷◌, ◌++◌, get_or, length, take, Result, Ok, Err, OnErr, refl, sym, ap, subst, arith}
use Rattle.std.proofs.lemmas.List.{take_more}
use Rattle.raft_voter_messages.specs.declared.reply.Reply.{Reply}
use Rattle.raft_voter_messages.specs.declared.request.Request.{Request}
use Rattle.raft_voter.specs.Rounds.{TakesFirst, World, after, after_one, fresh_world, taken_from}
use Rattle.std.proofs.lemmas.Bool.Decides.{nat_tests}
use Rattle.raft_voter_plain.specs.declared.store.PlainVoters.{PlainVoters}
use Rattle.raft_voter_plain.specs.Content.{whole}
use Rattle.raft_voter_plain.specs.Records.{LeadTo, StandsFor}
use Rattle.raft_voter.specs.Service.{TookSome}
use Rattle.raft_voter_plain.specs.Store.{AnswersNone, FileStandsBehind, IsAmidst, OneIsRefused, Stopped, plain_voters, world_of}
use Rattle.raft_voter_plain.proofs.Worlds.{behind, held_in_range, joins, no_records}

pub on_err : {T E : Type 0} (r : Result T E) (P : Type 0) → P → OnErr r P
on_err (Ok v) P h = tt
on_err (Err e) P h = h

after-append : (W : World) (xs ys : List (ℕ × Request)) → after W (xs ++ ys) ≡ after (after W xs) ys
after-append W [] ys = refl
after-append W (x ∷ xs) ys = after-append (after_one W x) xs ys

-- one more request is taken
pub took_more : (W X Y : World) (asked : List (ℕ × Request)) (i : ℕ) (d q : ℕ × Request) → i < length asked → get_or asked i d ≡ q
    → X ≡ after W (take i asked) → Y ≡ after_one X q → Y ≡ after W (take (i + 1) asked)
took_more W X Y asked i d q few here before took =
    let more : take (i + 1) asked ≡ take i asked ++ q ∷ [] = take_more asked i d few ∙ ap (λ r. take i asked ++ r ∷ []) here in
    took ∙ ap (λ (Z : World). after_one Z q) before ∙ sym (ap (after W) more ∙ after-append W (take i asked) (q ∷ []))

-- a request isn't answered
pub refused_here : (old now next : PlainVoters) (asked left : List (ℕ × Request)) (told : List Reply) (i : ℕ) (d q : ℕ × Request) → i < length asked → get_or asked i d ≡ q
    → world_of now ≡ after (world_of old) (take i asked) → IsAmidst old asked left told now → OneIsRefused now q next → AnswersNone old asked next
refused_here old now next asked left told i d q few here before so_far stopped = record {
  taken = ⊎_elim (λ same. record { count = i; few = omega arith; taken = same ∙ before })
      (λ took. record { count = i + 1; few = omega arith; taken = took_more (world_of old) (world_of now) (world_of next) asked i d q few here before took }) stopped.taken;
  synced = stopped.synced ∙ so_far.synced;
  written = λ range leads.
      let P : List ℕ → Type 0 = λ bytes. LeadTo (world_of old) bytes (world_of now) in
      record {
        world = world_of now;
        taken = record { count = i; few = omega arith; taken = before };
        written = subst P (sym stopped.unsynced) ((so_far.written range).1 (world_of old) leads);
      };
}

-- nothing is taken
pub none_taken : (W : World) (asked : List (ℕ × Request)) → Stopped W asked W
none_taken W asked = record { count = 0; few = omega arith; taken = refl }

none_below : (qs : List (ℕ × Request)) (place cut : ℕ) → cut ≤ place → taken_from place cut [] qs ≡ []
none_below [] place cut low = refl
none_below (q ∷ qs) place cut low = let out : nat_lt place cut ≡ false = grind (arith, nat_tests) in rw out (none_below qs (place + 1) cut (omega arith))

-- the first requests are those below a place
first_taken : (qs : List (ℕ × Request)) (place n : ℕ) → n ≤ length qs → taken_from place (place + n) [] qs ≡ take n qs
first_taken [] place n few = let none : n ≡ 0 = omega arith in rw none refl
first_taken (q ∷ qs) place zero few = let out : nat_lt place (place + 0) ≡ false = grind (arith, nat_tests) in rw out (none_below qs (place + 1) (place + 0) (omega arith))
first_taken (q ∷ qs) place (suc n) few =
    let within : nat_lt place (place + suc n) ≡ true = grind (arith, nat_tests) in
    let more : taken_from (place + 1) (place + suc n) [] qs ≡ take n qs = let e : place + 1 + n ≡ place + suc n = omega arith in rw (← e) (first_taken qs (place + 1) n (omega arith)) in
    rw within (ap (λ xs. q ∷ xs) more)

-- some of the first requests were taken: those below a place
pub took_front : (W X : World) (asked : List (ℕ × Request)) → Stopped W asked X → TakesFirst W asked [] X
took_front W X asked s =
    let up : 0 + s.count ≡ s.count = omega arith in
    let P : ℕ → Type 0 = λ n. taken_from 0 n [] asked ≡ take s.count asked in
    let first = subst P up (first_taken asked 0 s.count s.few) in
    record { place = s.count; within = s.few; reached = s.taken ∙ ap (after W) (sym first) }

pub took_nothing : (W : World) (asked : List (ℕ × Request)) → TakesFirst W asked [] W
took_nothing W asked = took_front W W asked (none_taken W asked)

-- the file in memory couldn't grow: what was synced is as before, and after it the file has what a prefix of the
-- requests made of the voters
pub took_some : (old new : PlainVoters) (asked : List (ℕ × Request)) → new.failed ≡ true → AnswersNone old asked new → TookSome plain_voters [] asked old new
took_some old new asked failed s = record {
  rising = refl;
  may_refuse = rw failed refl;
  fails = λ W at. (at.alive, failed);
  left = λ W at.
      let stored = at.serves.1 in
      let P : List ℕ → Type 0 = λ bytes. LeadTo (world_of old) bytes (world_of old) in
      let Q : List ℕ → Type 0 = λ bytes. StandsFor bytes (world_of old) in
      let R : World → Type 0 = λ V. FileStandsBehind new.file (record { before = V; requests = asked; refused = [] }) in
      let wrote = s.written (held_in_range old.file.synced (world_of old) stored.synced) (subst P (sym stored.settled) (no_records (world_of old))) in
      let first : StandsFor new.file.synced (world_of old) = subst Q (sym s.synced) stored.synced in
      let all : StandsFor (whole new.file) wrote.world = joins fresh_world (world_of old) wrote.world new.file.synced new.file.unsynced first wrote.written in
      subst R at.serves.0 (record {
        synced = behind new.file.synced (world_of old) _ first (took_nothing (world_of old) asked);
        read = behind (whole new.file) wrote.world _ all (took_front (world_of old) wrote.world asked wrote.taken);
      });
}

-- Where a read is refused in place of its reply, the others are answered as they were.
use Rattle.std.proofs.Common.{◌≡◌, ◌⊎◌, ℕ, ◌+◌, ◌<◌, ◌≤◌, Bool, true, false, List, [], ◌∷◌, length, take, refl, sym, ◌∙◌, ap, inl, inr, arith, subst}
use Rattle.std.proofs.Math.Path.{fun_ext}
use Rattle.std.proofs.Math.Seq.{take-length}
use Rattle.std.proofs.lemmas.Bool.Decides.{nat_tests}
use Rattle.std.specs.List.{AllZip}
use Rattle.raft_voter_messages.specs.declared.reply.Reply.{Reply}
use Rattle.raft_voter_messages.specs.declared.reply.Reply.TheVariants.{Refused}
use Rattle.raft_voter_messages.specs.declared.request.Request.{Request}
use Rattle.raft_voter_messages.specs.declared.request.Request.TheVariants.{Vote, Append, Compact, Install, Read, Status, Retire}
use Rattle.raft_voter.specs.State.{State}
use Rattle.raft_voter.specs.Rules.{next, reply}
use Rattle.raft_voter.specs.Rounds.{World, after, after_one, are_rising, is_among, put, replies_from, taken_from}
use Rattle.raft_voter.specs.Service.{Answers, AnswersRound, Service, is_refused, refused_from}
use Rattle.raft_voter.proofs.Public.{among_before, replies_behind, taken_behind}
use Rattle.raft_voter_rounds.specs.Handing.{HandsOut, is_read}

-- A read changes nothing.

read_keeps : (v : State) (q : Request) → is_read (reply v q) ≡ true → next v q ≡ v
read_keeps v (Vote term candidate index last) is = grind (arith)
read_keeps v (Append term prev prev_term commit entries) is = grind (arith)
read_keeps v (Compact index) is = grind (arith)
read_keeps v (Install term index entry_term) is = grind (arith)
read_keeps v (Read from to) is = grind (arith)
read_keeps v Status is = grind (arith)
read_keeps v Retire is = grind (arith)

put_same : (W : World) (g : ℕ) (v : State) → v ≡ W g → put W g v ≡ W
put_same W g v same = fun_ext (λ k. grind (arith, nat_tests))

-- Refused places rise.

pub rising_lower : (ps : List ℕ) (k high : ℕ) → are_rising (k + 1) high ps ≡ true → are_rising k high ps ≡ true
rising_lower [] k high rise = refl
rising_lower (p ∷ ps) k high rise = grind (arith, nat_tests)

pub refused_rise : (k high : ℕ) (rs : List Reply) → k + length rs ≤ high → are_rising k high (refused_from k rs) ≡ true
refused_rise k high [] within = refl
refused_rise k high (r ∷ rs) within =
    grind (arith, nat_tests, refused_rise (k + 1) high rs, rising_lower (refused_from (k + 1) rs) k high)

-- One place.

-- a place that was refused
pub refused_told : (k : ℕ) (ps : List ℕ) (W : World) (q : ℕ × Request) (qs : List (ℕ × Request))
    → replies_from k (k ∷ ps) W (q ∷ qs) ≡ Refused ∷ replies_from (k + 1) ps W qs
refused_told k ps W q qs =
    let here : is_among (k ∷ ps) k ≡ true = grind (arith, nat_tests) in
    rw here (ap (λ (l : List Reply). Refused ∷ l) (replies_behind qs k (k + 1) ps W (omega arith)))

pub refused_taken : (k cut : ℕ) (ps : List ℕ) (q : ℕ × Request) (qs : List (ℕ × Request))
    → taken_from k cut (k ∷ ps) (q ∷ qs) ≡ taken_from (k + 1) cut ps qs
refused_taken k cut ps q qs =
    let here : is_among (k ∷ ps) k ≡ true = grind (arith, nat_tests) in
    let behind = taken_behind qs k (k + 1) cut ps (omega arith) in
    grind (arith, nat_tests)

-- one that wasn't
pub told_there : (k high : ℕ) (ps : List ℕ) (W : World) (q : ℕ × Request) (qs : List (ℕ × Request)) → are_rising (k + 1) high ps ≡ true
    → replies_from k ps W (q ∷ qs) ≡ reply (W q.0) q.1 ∷ replies_from (k + 1) ps (after_one W q) qs
told_there k high ps W q qs rise = rw (among_before ps k (k + 1) high rise (omega arith)) refl

pub taken_there : (k cut high : ℕ) (ps : List ℕ) (q : ℕ × Request) (qs : List (ℕ × Request)) → are_rising (k + 1) high ps ≡ true → k < cut
    → taken_from k cut ps (q ∷ qs) ≡ q ∷ taken_from (k + 1) cut ps qs
taken_there k cut high ps q qs rise below =
    let apart = among_before ps k (k + 1) high rise (omega arith) in
    grind (arith, nat_tests)

abbrev head_of : Reply → List Reply → Reply
head_of r [] = r
head_of r (s ∷ rs) = s

abbrev tail_of : List Reply → List Reply
tail_of [] = []
tail_of (r ∷ rs) = rs

-- What is handed out is told with its own refused places, and what was taken of a round is the same.
record Alike (k : ℕ) (qs : List (ℕ × Request)) (told handed : List Reply) (W : World) : Type 0 where
  is_told : handed ≡ replies_from k (refused_from k handed) W qs
  taken : (cut : ℕ) → k + length qs ≤ cut
      → after W (taken_from k cut (refused_from k handed) qs) ≡ after W (taken_from k cut (refused_from k told) qs)

-- where a place was refused
alike_refused : (k : ℕ) (q : ℕ × Request) (qs : List (ℕ × Request)) (ts hs : List Reply) (W : World)
    → Alike (k + 1) qs ts hs W → Alike k (q ∷ qs) (Refused ∷ ts) (Refused ∷ hs) W
alike_refused k q qs ts hs W rest = record {
  is_told = ap (λ (l : List Reply). Refused ∷ l) rest.is_told ∙ sym (refused_told k (refused_from (k + 1) hs) W q qs);
  taken = λ cut within.
      ap (after W) (refused_taken k cut (refused_from (k + 1) hs) q qs)
      ∙ rest.taken cut (omega (arith, within))
      ∙ sym (ap (after W) (refused_taken k cut (refused_from (k + 1) ts) q qs));
}

-- a reply that isn't Refused adds no place
pub unrefused : (k : ℕ) (t : Reply) (ts : List Reply) → is_refused t ≡ false → refused_from k (t ∷ ts) ≡ refused_from (k + 1) ts
unrefused k t ts lives = grind (arith)

-- where it was told, and is handed out
alike_told : (k : ℕ) (q : ℕ × Request) (qs : List (ℕ × Request)) (t : Reply) (ts hs : List Reply) (W : World)
    → is_refused t ≡ false → t ≡ reply (W q.0) q.1 → Alike (k + 1) qs ts hs (after_one W q) → Alike k (q ∷ qs) (t ∷ ts) (t ∷ hs) W
alike_told k q qs t ts hs W lives is rest =
    let rise = λ (l : List Reply). refused_rise (k + 1) (k + 1 + length l) l (omega arith) in
    record {
      is_told = ap (λ (r : Reply). r ∷ hs) is ∙ ap (λ (l : List Reply). reply (W q.0) q.1 ∷ l) rest.is_told
          ∙ sym (told_there k (k + 1 + length hs) (refused_from (k + 1) hs) W q qs (rise hs))
          ∙ ap (λ (ps : List ℕ). replies_from k ps W (q ∷ qs)) (sym (unrefused k t hs lives));
      taken = λ cut within.
          ap (λ (ps : List ℕ). after W (taken_from k cut ps (q ∷ qs))) (unrefused k t hs lives)
          ∙ ap (after W) (taken_there k cut (k + 1 + length hs) (refused_from (k + 1) hs) q qs (rise hs) (omega (arith, within)))
          ∙ rest.taken cut (omega (arith, within))
          ∙ sym (ap (after W) (taken_there k cut (k + 1 + length ts) (refused_from (k + 1) ts) q qs (rise ts) (omega (arith, within))))
          ∙ sym (ap (λ (ps : List ℕ). after W (taken_from k cut ps (q ∷ qs))) (unrefused k t ts lives));
    }

-- where entries were read, and the place is refused
alike_lost : (k : ℕ) (q : ℕ × Request) (qs : List (ℕ × Request)) (t : Reply) (ts hs : List Reply) (W : World)
    → is_refused t ≡ false → after_one W q ≡ W → Alike (k + 1) qs ts hs W → Alike k (q ∷ qs) (t ∷ ts) (Refused ∷ hs) W
alike_lost k q qs t ts hs W lives same rest =
    let rise = refused_rise (k + 1) (k + 1 + length ts) ts (omega arith) in
    record {
      is_told = ap (λ (l : List Reply). Refused ∷ l) rest.is_told ∙ sym (refused_told k (refused_from (k + 1) hs) W q qs);
      taken = λ cut within.
          ap (after W) (refused_taken k cut (refused_from (k + 1) hs) q qs)
          ∙ rest.taken cut (omega (arith, within))
          ∙ sym (ap (λ (V : World). after V (taken_from (k + 1) cut (refused_from (k + 1) ts) qs)) same)
          ∙ sym (ap (after W) (taken_there k cut (k + 1 + length ts) (refused_from (k + 1) ts) q qs rise (omega (arith, within))))
          ∙ sym (ap (λ (ps : List ℕ). after W (taken_from k cut ps (q ∷ qs))) (unrefused k t ts lives));
    }

is_same : (t : Reply) → is_refused t ≡ true → t ≡ Refused
is_same t is = grind (arith)

pub either_way : (b : Bool) → (b ≡ true) ⊎ (b ≡ false)
either_way true = inl refl
either_way false = inr refl

pub refused_adds : (k : ℕ) (t : Reply) (ts : List Reply) → is_refused t ≡ true → refused_from k (t ∷ ts) ≡ k ∷ refused_from (k + 1) ts
refused_adds k t ts was = grind (arith)

handed_refused : (t h : Reply) → is_refused t ≡ true → HandsOut t h → h ≡ Refused
handed_refused t h was (inl same) = same ∙ is_same t was
handed_refused t h was (inr lost) = lost.1

-- one place, where the others are alike from any voters
module _ (k : ℕ) (q : ℕ × Request) (qs : List (ℕ × Request)) (t h : Reply) (ts hs : List Reply) (W : World)
    (is : t ∷ ts ≡ replies_from k (refused_from k (t ∷ ts)) W (q ∷ qs))
    (rest : (V : World) → ts ≡ replies_from (k + 1) (refused_from (k + 1) ts) V qs → Alike (k + 1) qs ts hs V) where
  where_refused : is_refused t ≡ true → h ≡ Refused → Alike k (q ∷ qs) (t ∷ ts) (h ∷ hs) W
  where_refused was out =
      let told : t ∷ ts ≡ Refused ∷ replies_from (k + 1) (refused_from (k + 1) ts) W qs =
      is ∙ ap (λ (ps : List ℕ). replies_from k ps W (q ∷ qs)) (refused_adds k t ts was) ∙ refused_told k (refused_from (k + 1) ts) W q qs in
      subst (λ (r : Reply). Alike k (q ∷ qs) (t ∷ ts) (r ∷ hs) W) (sym out)
      (subst (λ (r : Reply). Alike k (q ∷ qs) (r ∷ ts) (Refused ∷ hs) W) (sym (is_same t was))
      (alike_refused k q qs ts hs W (rest W (ap tail_of told))))

  there : is_refused t ≡ false → t ∷ ts ≡ reply (W q.0) q.1 ∷ replies_from (k + 1) (refused_from (k + 1) ts) (after_one W q) qs
  there lives =
      is ∙ ap (λ (ps : List ℕ). replies_from k ps W (q ∷ qs)) (unrefused k t ts lives)
      ∙ told_there k (k + 1 + length ts) (refused_from (k + 1) ts) W q qs (refused_rise (k + 1) (k + 1 + length ts) ts (omega arith))

  where_told : is_refused t ≡ false → HandsOut t h → Alike k (q ∷ qs) (t ∷ ts) (h ∷ hs) W
  where_told lives (inl same) =
      subst (λ (r : Reply). Alike k (q ∷ qs) (t ∷ ts) (r ∷ hs) W) (sym same)
      (alike_told k q qs t ts hs W lives (ap (head_of t) (there lives)) (rest (after_one W q) (ap tail_of (there lives))))
  where_told lives (inr (read, lost)) =
      let same : after_one W q ≡ W = put_same W q.0 (next (W q.0) q.1)
      (read_keeps (W q.0) q.1 (subst (λ (r : Reply). is_read r ≡ true) (ap (head_of t) (there lives)) read)) in
      subst (λ (r : Reply). Alike k (q ∷ qs) (t ∷ ts) (r ∷ hs) W) (sym lost)
      (alike_lost k q qs t ts hs W lives same
      (rest W (subst (λ (V : World). ts ≡ replies_from (k + 1) (refused_from (k + 1) ts) V qs) same (ap tail_of (there lives)))))

  at_place : (is_refused t ≡ true) ⊎ (is_refused t ≡ false) → HandsOut t h → Alike k (q ∷ qs) (t ∷ ts) (h ∷ hs) W
  at_place (inl was) out = where_refused was (handed_refused t h was out)
  at_place (inr lives) out = where_told lives out

-- Several.

pub length-told : (place : ℕ) (refused : List ℕ) (W : World) (qs : List (ℕ × Request)) → length (replies_from place refused W qs) ≡ length qs
length-told place refused W [] = refl
length-told place refused W (q ∷ qs) =
    grind (arith, nat_tests, length-told (place + 1) refused W qs, length-told (place + 1) refused (after_one W q) qs)

abbrev no_replies : List Reply
no_replies = []

alike : (k : ℕ) (qs : List (ℕ × Request)) (told handed : List Reply) (W : World) → told ≡ replies_from k (refused_from k told) W qs
    → AllZip HandsOut told handed → Alike k qs told handed W
alike k [] [] [] W is zip = record { is_told = refl; taken = λ cut within. refl }
alike k [] [] (h ∷ hs) W is zip = absurd zip
alike k [] (t ∷ ts) handed W is zip = absurd (cc)
alike k (q ∷ qs) [] handed W is zip =
    let none : length no_replies ≡ length (q ∷ qs) = ap length is ∙ length-told k (refused_from k no_replies) W (q ∷ qs) in
    absurd (omega (arith, none))
alike k (q ∷ qs) (t ∷ ts) [] W is zip = absurd zip
alike k (q ∷ qs) (t ∷ ts) (h ∷ hs) W is zip =
    at_place k q qs t h ts hs W is (λ V told. alike (k + 1) qs ts hs V told zip.1) (either_way (is_refused t)) zip.0

-- what is handed out answers the round
handed_answer : (W X : World) (requests : List (ℕ × Request)) (told handed : List Reply) → Answers W requests told X
    → AllZip HandsOut told handed → Answers W requests handed X
handed_answer W X requests told handed a zip =
    let same = alike 0 requests told handed W a.told zip in
    let long : length handed ≡ length requests = ap length same.is_told ∙ length-told 0 (refused_from 0 handed) W requests in
    record {
      rising = refused_rise 0 (length requests) handed (omega (arith, long));
      told = same.is_told;
      taken = a.taken ∙ sym (same.taken (length requests) (omega arith));
    }

pub handed_round : {S : Type 0} (v : Service S) (requests : List (ℕ × Request)) (told handed : List Reply) (old new : S)
    → AnswersRound v requests told old new → AllZip HandsOut (take (length requests) told) handed
    → AnswersRound v requests handed old new
handed_round v requests told handed old new answers zip W opened =
    let x = answers W opened in
    let many : length requests ≡ length told =
    sym (length-told 0 (refused_from 0 told) W requests) ∙ sym (ap length x.1.told) in
    let all : take (length requests) told ≡ told = ap (λ n. take n told) many ∙ take-length told in
    (x.0, handed_answer W x.0 requests told handed x.1 (subst (λ (l : List Reply). AllZip HandsOut l handed) all zip), x.2)

-- Rounds that were served together as one round were served one after another: each has its own replies.
use Rattle.std.proofs.Common.{◌≡◌, ◌≤◌, ℕ, suc, ◌+◌, true, false, List, [], ◌∷◌, ◌++◌, length, take, drop, sum, refl, sym, ap, subst, ◌∙◌, inl, inr, arith, length-take, length-drop}
use Rattle.std.specs.Prelude.{if◌then◌else◌}
use Rattle.std.proofs.Math.Seq.{take-append_seam}
use Rattle.std.proofs.lemmas.List.{append_cancel_left, nil_from_length, take-append-drop}
use Rattle.std.proofs.lemmas.List.Sums.{sum_by-cons}
use Rattle.raft_voter_messages.specs.declared.reply.Reply.{Reply}
use Rattle.raft_voter_messages.specs.declared.reply.Reply.TheVariants.{Refused}
use Rattle.raft_voter_messages.specs.declared.request.Request.{Request}
use Rattle.raft_voter_messages.specs.declared.round.Round.{Round}
use Rattle.raft_voter.specs.Rules.{reply}
use Rattle.raft_voter.specs.Rounds.{World, after, after_one, replies_from, taken_from}
use Rattle.raft_voter.specs.Service.{Answers, is_refused, refused_from}
use Rattle.raft_voter_rounds.specs.Journal.{IsLegal, behind_outcome, reached}
use Rattle.raft_voter_rounds.specs.Noting.{answered, answered_each}
use Rattle.raft_voter_shared.proofs.Handing.{either_way, length-told, refused_adds, refused_rise, refused_taken, refused_told, taken_there, told_there, unrefused}
use Rattle.raft_voter_shared.proofs.Journals.{answered_reaches, answered_says, legal_first}

-- The same without places.

-- the requests that voters took, which are those whose reply isn't Refused
abbrev taken_by : List Reply → List (ℕ × Request) → List (ℕ × Request)
taken_by [] qs = qs
taken_by (t ∷ ts) [] = []
taken_by (t ∷ ts) (q ∷ qs) = if is_refused t then taken_by ts qs else q ∷ taken_by ts qs

-- their replies
abbrev told_by : List Reply → World → List (ℕ × Request) → List Reply
told_by [] W [] = []
told_by [] W (q ∷ qs) = reply (W q.0) q.1 ∷ told_by [] (after_one W q) qs
told_by (t ∷ ts) W [] = []
told_by (t ∷ ts) W (q ∷ qs) =
    if is_refused t then Refused ∷ told_by ts W qs else reply (W q.0) q.1 ∷ told_by ts (after_one W q) qs

taken_refused : (t : Reply) (ts : List Reply) (q : ℕ × Request) (qs : List (ℕ × Request)) → is_refused t ≡ true
    → taken_by (t ∷ ts) (q ∷ qs) ≡ taken_by ts qs
taken_refused t ts q qs was = rw was refl

taken_more : (t : Reply) (ts : List Reply) (q : ℕ × Request) (qs : List (ℕ × Request)) → is_refused t ≡ false
    → taken_by (t ∷ ts) (q ∷ qs) ≡ q ∷ taken_by ts qs
taken_more t ts q qs lives = rw lives refl

told_refused : (t : Reply) (ts : List Reply) (W : World) (q : ℕ × Request) (qs : List (ℕ × Request)) → is_refused t ≡ true
    → told_by (t ∷ ts) W (q ∷ qs) ≡ Refused ∷ told_by ts W qs
told_refused t ts W q qs was = rw was refl

told_more : (t : Reply) (ts : List Reply) (W : World) (q : ℕ × Request) (qs : List (ℕ × Request)) → is_refused t ≡ false
    → told_by (t ∷ ts) W (q ∷ qs) ≡ reply (W q.0) q.1 ∷ told_by ts (after_one W q) qs
told_more t ts W q qs lives = rw lives refl

told_same : (k : ℕ) (ts : List Reply) (W : World) (qs : List (ℕ × Request))
    → replies_from k (refused_from k ts) W qs ≡ told_by ts W qs
told_same k [] W [] = refl
told_same k [] W (q ∷ qs) = ap (λ (l : List Reply). reply (W q.0) q.1 ∷ l) (told_same (k + 1) [] (after_one W q) qs)
told_same k (t ∷ ts) W [] = refl
told_same k (t ∷ ts) W (q ∷ qs) = elim (either_way (is_refused t)) [
  | inl was ↦
      ap (λ (ps : List ℕ). replies_from k ps W (q ∷ qs)) (refused_adds k t ts was)
      ∙ refused_told k (refused_from (k + 1) ts) W q qs
      ∙ ap (λ (l : List Reply). Refused ∷ l) (told_same (k + 1) ts W qs)
      ∙ sym (told_refused t ts W q qs was)
  | inr lives ↦
      ap (λ (ps : List ℕ). replies_from k ps W (q ∷ qs)) (unrefused k t ts lives)
      ∙ told_there k (k + 1 + length ts) (refused_from (k + 1) ts) W q qs (refused_rise (k + 1) (k + 1 + length ts) ts (omega arith))
      ∙ ap (λ (l : List Reply). reply (W q.0) q.1 ∷ l) (told_same (k + 1) ts (after_one W q) qs)
      ∙ sym (told_more t ts W q qs lives)
]

taken_all : (k cut : ℕ) (qs : List (ℕ × Request)) → k + length qs ≤ cut → taken_from k cut [] qs ≡ qs
taken_all k cut [] within = refl
taken_all k cut (q ∷ qs) within =
    taken_there k cut k [] q qs refl (omega (arith, within))
    ∙ ap (λ (l : List (ℕ × Request)). q ∷ l) (taken_all (k + 1) cut qs (omega (arith, within)))

taken_same : (k cut : ℕ) (ts : List Reply) (qs : List (ℕ × Request)) → k + length qs ≤ cut
    → taken_from k cut (refused_from k ts) qs ≡ taken_by ts qs
taken_same k cut [] qs within = taken_all k cut qs within
taken_same k cut (t ∷ ts) [] within = refl
taken_same k cut (t ∷ ts) (q ∷ qs) within = elim (either_way (is_refused t)) [
  | inl was ↦
      ap (λ (ps : List ℕ). taken_from k cut ps (q ∷ qs)) (refused_adds k t ts was)
      ∙ refused_taken k cut (refused_from (k + 1) ts) q qs
      ∙ taken_same (k + 1) cut ts qs (omega (arith, within))
      ∙ sym (taken_refused t ts q qs was)
  | inr lives ↦
      ap (λ (ps : List ℕ). taken_from k cut ps (q ∷ qs)) (unrefused k t ts lives)
      ∙ taken_there k cut (k + 1 + length ts) (refused_from (k + 1) ts) q qs (refused_rise (k + 1) (k + 1 + length ts) ts (omega arith)) (omega (arith, within))
      ∙ ap (λ (l : List (ℕ × Request)). q ∷ l) (taken_same (k + 1) cut ts qs (omega (arith, within)))
      ∙ sym (taken_more t ts q qs lives)
]

-- Two rounds as one.

taken_both : (ts us : List Reply) (qs ps : List (ℕ × Request)) → length ts ≡ length qs
    → taken_by (ts ++ us) (qs ++ ps) ≡ taken_by ts qs ++ taken_by us ps
taken_both [] us [] ps long = refl
taken_both [] us (q ∷ qs) ps long = absurd (omega (arith, long))
taken_both (t ∷ ts) us [] ps long = absurd (omega (arith, long))
taken_both (t ∷ ts) us (q ∷ qs) ps long =
    let rest = taken_both ts us qs ps (omega (arith, long)) in
    elim (either_way (is_refused t)) [
      | inl was ↦
          taken_refused t (ts ++ us) q (qs ++ ps) was ∙ rest
          ∙ ap (λ (l : List (ℕ × Request)). l ++ taken_by us ps) (sym (taken_refused t ts q qs was))
      | inr lives ↦
          taken_more t (ts ++ us) q (qs ++ ps) lives ∙ ap (λ (l : List (ℕ × Request)). q ∷ l) rest
          ∙ ap (λ (l : List (ℕ × Request)). l ++ taken_by us ps) (sym (taken_more t ts q qs lives))
    ]

told_both : (ts us : List Reply) (W : World) (qs ps : List (ℕ × Request)) → length ts ≡ length qs
    → told_by (ts ++ us) W (qs ++ ps) ≡ told_by ts W qs ++ told_by us (after W (taken_by ts qs)) ps
told_both [] us W [] ps long = refl
told_both [] us W (q ∷ qs) ps long = absurd (omega (arith, long))
told_both (t ∷ ts) us W [] ps long = absurd (omega (arith, long))
told_both (t ∷ ts) us W (q ∷ qs) ps long = elim (either_way (is_refused t)) [
  | inl was ↦
      told_refused t (ts ++ us) W q (qs ++ ps) was
      ∙ ap (λ (l : List Reply). Refused ∷ l) (told_both ts us W qs ps (omega (arith, long)))
      ∙ ap (λ (l : List Reply). l ++ told_by us (after W (taken_by ts qs)) ps) (sym (told_refused t ts W q qs was))
      ∙ ap (λ (l : List (ℕ × Request)). told_by (t ∷ ts) W (q ∷ qs) ++ told_by us (after W l) ps) (sym (taken_refused t ts q qs was))
  | inr lives ↦
      told_more t (ts ++ us) W q (qs ++ ps) lives
      ∙ ap (λ (l : List Reply). reply (W q.0) q.1 ∷ l) (told_both ts us (after_one W q) qs ps (omega (arith, long)))
      ∙ ap (λ (l : List Reply). l ++ told_by us (after (after_one W q) (taken_by ts qs)) ps) (sym (told_more t ts W q qs lives))
      ∙ ap (λ (l : List (ℕ × Request)). told_by (t ∷ ts) W (q ∷ qs) ++ told_by us (after W l) ps) (sym (taken_more t ts q qs lives))
]

pub after-append : (W : World) (qs ps : List (ℕ × Request)) → after W (qs ++ ps) ≡ after (after W qs) ps
after-append W [] ps = refl
after-append W (q ∷ qs) ps = after-append (after_one W q) qs ps

length-told_by : (ts : List Reply) (W : World) (qs : List (ℕ × Request)) → length (told_by ts W qs) ≡ length qs
length-told_by ts W qs = ap length (sym (told_same 0 ts W qs)) ∙ length-told 0 (refused_from 0 ts) W qs

answers_long : (W X : World) (qs : List (ℕ × Request)) (ts : List Reply) → Answers W qs ts X → length ts ≡ length qs
answers_long W X qs ts a = ap length a.told ∙ length-told 0 (refused_from 0 ts) W qs

answers_by : (W : World) (qs : List (ℕ × Request)) (ts : List Reply) → ts ≡ told_by ts W qs → Answers W qs ts (after W (taken_by ts qs))
answers_by W qs ts told = record {
  rising = refused_rise 0 (length qs) ts (let long = ap length told in omega (arith, long, length-told_by ts W qs));
  told = told ∙ sym (told_same 0 ts W qs);
  taken = ap (after W) (sym (taken_same 0 (length qs) ts qs (omega arith)));
}

-- what answers two rounds as one answers the first, and then the second
answers_split : (W X : World) (qs ps : List (ℕ × Request)) (ts us : List Reply) → length ts ≡ length qs
    → Answers W (qs ++ ps) (ts ++ us) X
    → Answers W qs ts (after W (taken_by ts qs)) × Answers (after W (taken_by ts qs)) ps us X
answers_split W X qs ps ts us long a =
    let Y : World = after W (taken_by ts qs) in
    let all : ts ++ us ≡ told_by ts W qs ++ told_by us Y ps = a.told ∙ told_same 0 (ts ++ us) W (qs ++ ps) ∙ told_both ts us W qs ps long in
    let many : length (told_by ts W qs) ≡ length ts = length-told_by ts W qs ∙ sym long in
    let first : ts ≡ told_by ts W qs =
    sym (take-append_seam ts us) ∙ ap (take (length ts)) all ∙ ap (λ (n : ℕ). take n (told_by ts W qs ++ told_by us Y ps)) (sym many)
    ∙ take-append_seam (told_by ts W qs) (told_by us Y ps) in
    let rest : us ≡ told_by us Y ps =
    append_cancel_left ts us (told_by us Y ps) (all ∙ ap (λ (l : List Reply). l ++ told_by us Y ps) (sym first)) in
    let world : X ≡ after Y (taken_by us ps) =
    a.taken ∙ ap (after W) (taken_same 0 (length (qs ++ ps)) (ts ++ us) (qs ++ ps) (omega arith))
    ∙ ap (after W) (taken_both ts us qs ps long) ∙ after-append W (taken_by ts qs) (taken_by us ps) in (
      answers_by W qs ts first,
      subst (λ (V : World). Answers Y ps us V) (sym world) (answers_by Y ps us rest),
    )

-- Several rounds as one.

pub length-answered_each : (counts : List ℕ) (qs : List (ℕ × Request)) (ts : List Reply) → length (answered_each counts qs ts) ≡ length counts
length-answered_each [] qs ts = refl
length-answered_each (n ∷ counts) qs ts = ap suc (length-answered_each counts (drop n qs) (drop n ts))

-- The records of rounds that were answered as one make a legal history, which leads to the voters behind all of them.
pub each_is_legal : (counts : List ℕ) (W X : World) (qs : List (ℕ × Request)) (ts : List Reply) → sum counts ≡ length qs
    → Answers W qs ts X → IsLegal W (answered_each counts qs ts) × (reached W (answered_each counts qs ts) ≡ X)
each_is_legal [] W X qs ts all a =
    let none : qs ≡ [] = nil_from_length qs (sym all) in (
      refl,
      sym (a.taken ∙ ap (λ (l : List (ℕ × Request)). after W (taken_from 0 (length qs) (refused_from 0 ts) l)) none),
    )
each_is_legal (n ∷ counts) W X qs ts all a =
    let sum_is = sum_by-cons (λ (m : ℕ). m) n counts in
    let long = answers_long W X qs ts a in
    let equal : length (take n ts) ≡ length (take n qs) = omega (arith, length-take n ts, length-take n qs, long) in
    let whole = subst (λ (l : List Reply). Answers W (take n qs ++ drop n qs) l X) (sym (take-append-drop n ts))
    (subst (λ (l : List (ℕ × Request)). Answers W l ts X) (sym (take-append-drop n qs)) a) in
    let parts = answers_split W X (take n qs) (drop n qs) (take n ts) (drop n ts) equal whole in
    let Y : World = after W (taken_by (take n ts) (take n qs)) in
    let r : Round = answered (take n qs) (take n ts) in
    let here : Y ≡ behind_outcome r.outcome W r = answered_reaches W Y (take n qs) (take n ts) parts.0 in
    let left : sum counts ≡ length (drop n qs) = omega (arith, sum_is, all, length-drop n qs) in
    let rest = each_is_legal counts Y X (drop n qs) (drop n ts) left parts.1 in
    let later : List Round = answered_each counts (drop n qs) (drop n ts) in
    let moved = subst (λ (V : World). IsLegal V later × (reached V later ≡ X)) here rest in (
      legal_first W r later (answered_says W Y (take n qs) (take n ts) parts.0) moved.0,
      moved.1,
    )

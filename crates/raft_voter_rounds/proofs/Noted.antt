-- One record and one answer more, of rounds that were served together.
use Rattle.std.proofs.Common.{◌≡◌, ◌<◌, ℕ, suc, ◌+◌, ◌-◌, List, [], ◌∷◌, ◌++◌, length, take, drop, sym, ap, ◌∙◌, arith}
use Rattle.std.specs.Prelude.{Result, Ok, Err}
use Rattle.std.proofs.Math.Seq.{drop-append_seam, take-append_seam}
use Rattle.std.specs.List.{flat_map}
use Rattle.std.proofs.lemmas.Grind.{flat_map-append}
use Rattle.std.proofs.lemmas.List.{append_assoc, append-nil}
use Rattle.std.proofs.lemmas.List.Concat.{flat_map-cons}
use Rattle.raft_voter_messages.specs.declared.reply.Reply.{Reply}
use Rattle.raft_voter_messages.specs.declared.request.Request.{Request}
use Rattle.raft_voter_messages.specs.declared.round.Round.{Round}
use Rattle.raft_voter.specs.declared.service.Cause.{Cause}
use Rattle.raft_voter_rounds.specs.declared.done.Told.{Told}
use Rattle.raft_voter_rounds.specs.declared.receipt.SharedFault.{SharedFault}
use Rattle.raft_voter_rounds.specs.declared.receipt.SharedFault.TheVariants as faults
use Rattle.raft_voter_rounds.specs.Noting.{answered, answered_each, cut_each, cut_off, cut_told, places_within, told_each}

-- one of those to come was added
pub one_more : {A : Type 0} (xs xs' : List A) (x y : A) (later all : List A) → xs' ≡ xs ++ x ∷ [] → x ≡ y
    → xs ++ (y ∷ later) ≡ all → xs' ++ later ≡ all
one_more xs xs' x y later all pushed is so_far =
    ap (λ l. l ++ later) pushed ∙ append_assoc xs (x ∷ []) later ∙ ap (λ z. xs ++ (z ∷ later)) is ∙ so_far

module _ (n : ℕ) (counts counts' : List ℕ) (popped : counts ≡ n ∷ counts') where
  pub answer_noted : (js js' : List Round) (r : Round) (qs qs' : List (ℕ × Request)) (ts ts' : List Reply) (all : List Round)
      → js' ≡ js ++ r ∷ [] → r ≡ answered (take n qs) (take n ts) → qs' ≡ drop n qs → ts' ≡ drop n ts
      → js ++ answered_each counts qs ts ≡ all → js' ++ answered_each counts' qs' ts' ≡ all
  answer_noted js js' r qs qs' ts ts' all pushed is asked noted so_far =
      ap (λ (l : List (ℕ × Request)). js' ++ answered_each counts' l ts') asked
      ∙ ap (λ (l : List Reply). js' ++ answered_each counts' (drop n qs) l) noted
      ∙ one_more js js' r (answered (take n qs) (take n ts)) (answered_each counts' (drop n qs) (drop n ts)) all pushed is
      (ap (λ (l : List ℕ). js ++ answered_each l qs ts) (sym popped) ∙ so_far)

  pub answer_told : (ds bs : List (Result Told SharedFault)) (a : Result Told SharedFault) (place place' : ℕ) (ts ts' : List Reply)
      (all : List (Result Told SharedFault)) → bs ≡ ds ++ a ∷ [] → a ≡ Ok (record { place = place; replies = take n ts })
      → place' ≡ place + 1 → ts' ≡ drop n ts → ds ++ told_each place counts ts ≡ all → bs ++ told_each place' counts' ts' ≡ all
  answer_told ds bs a place place' ts ts' all pushed is next noted so_far =
      ap (λ (p : ℕ). bs ++ told_each p counts' ts') next
      ∙ ap (λ (l : List Reply). bs ++ told_each (place + 1) counts' l) noted
      ∙ one_more ds bs a (Ok (record { place = place; replies = take n ts })) (told_each (place + 1) counts' (drop n ts)) all pushed is
      (ap (λ (l : List ℕ). ds ++ told_each place l ts) (sym popped) ∙ so_far)

  pub cut_noted : (js js' : List Round) (r : Round) (start : ℕ) (qs qs' : List (ℕ × Request)) (ps : List ℕ) (all : List Round)
      → js' ≡ js ++ r ∷ [] → r ≡ cut_off (take n qs) (places_within start n ps) → qs' ≡ drop n qs
      → js ++ cut_each start counts qs ps ≡ all → js' ++ cut_each (start + n) counts' qs' ps ≡ all
  cut_noted js js' r start qs qs' ps all pushed is asked so_far =
      ap (λ (l : List (ℕ × Request)). js' ++ cut_each (start + n) counts' l ps) asked
      ∙ one_more js js' r (cut_off (take n qs) (places_within start n ps)) (cut_each (start + n) counts' (drop n qs) ps) all pushed is
      (ap (λ (l : List ℕ). js ++ cut_each start l qs ps) (sym popped) ∙ so_far)

  pub cut_is_told : (ds bs : List (Result Told SharedFault)) (a : Result Told SharedFault) (place place' : ℕ) (cause : Cause)
      (all : List (Result Told SharedFault)) → bs ≡ ds ++ a ∷ [] → a ≡ Err (faults.Cut place cause) → place' ≡ place + 1
      → ds ++ cut_told place cause counts ≡ all → bs ++ cut_told place' cause counts' ≡ all
  cut_is_told ds bs a place place' cause all pushed is next so_far =
      ap (λ (p : ℕ). bs ++ cut_told p cause counts') next
      ∙ one_more ds bs a (Err (faults.Cut place cause)) (cut_told (place + 1) cause counts') all pushed is
      (ap (λ (l : List ℕ). ds ++ cut_told place cause l) (sym popped) ∙ so_far)

-- one more list at the end of those that were joined
pub each_more : {A B : Type 0} (f : A → List B) (xs xs' : List A) (x : A) (ys ys' own : List B) → xs' ≡ xs ++ x ∷ []
    → flat_map f xs ≡ ys → f x ≡ own → ys' ≡ ys ++ own → flat_map f xs' ≡ ys'
each_more f xs xs' x ys ys' own pushed each is more =
    ap (flat_map f) pushed ∙ flat_map-append f xs (x ∷ []) ∙ ap (λ l. l ++ flat_map f (x ∷ [])) each
    ∙ ap (λ l. ys ++ l) (flat_map-cons f x [] ∙ append-nil (f x) ∙ is) ∙ sym more

-- the first of those to come
pub first_of_all : {A : Type 0} (n : ℕ) (own later all : List A) → length own ≡ n → own ++ later ≡ all
    → (take n all ≡ own) × (drop n all ≡ later)
first_of_all n own later all long is = (
  ap (λ (m : ℕ). take m all) (sym long) ∙ ap (take (length own)) (sym is) ∙ take-append_seam own later,
  ap (λ (m : ℕ). drop m all) (sym long) ∙ ap (drop (length own)) (sym is) ∙ drop-append_seam own later,
)

-- The first of a queue.

pub taken_first : {A : Type 0} (n k : ℕ) (q q' : List A) (x : A) → q ≡ x ∷ q' → k < n → take (n - k) q ≡ x ∷ take (n - (k + 1)) q'
taken_first n k q q' x is below =
    let more : n - k ≡ suc (n - (k + 1)) = omega (arith, below) in
    ap (take (n - k)) is ∙ ap (λ (m : ℕ). take m (x ∷ q')) more

pub dropped_first : {A : Type 0} (n k : ℕ) (q q' : List A) (x : A) → q ≡ x ∷ q' → k < n → drop (n - k) q ≡ drop (n - (k + 1)) q'
dropped_first n k q q' x is below =
    let more : n - k ≡ suc (n - (k + 1)) = omega (arith, below) in
    ap (drop (n - k)) is ∙ ap (λ (m : ℕ). drop m (x ∷ q')) more

-- What counts of an end of tidy records is an end of what counts of all, group by group.
use Rattle.std.proofs.Common.{◌≡◌, ℕ, ◌⊎◌, List, [], ◌∷◌, ◌++◌, true, false, Option, Some, None, unwrap_or, ◌==◌, MatchBool, if◌then◌else◌, refl, sym, ap, ap₂, subst₂, ◌∙◌, inl, inr, append_assoc}
use Rattle.std.specs.Bool.{⊤}
use Rattle.raft_log_model_laws.specs.Item.{Item, Tagged, Record}
use Rattle.raft_log_model_laws.specs.Item.Record.{Plain, Part}
use Rattle.raft_log_model_laws.specs.Item.Mark.{Begin, Middle, End}
use Rattle.raft_log_model_laws.specs.Groups.{of_group, Open, none_open, set_open, onto, counts, opens, settle, rewritten}
use Rattle.raft_log_model_laws.specs.Tidy.{Apart, Undisturbed, Tidy}
use Rattle.raft_log_model_laws.proofs.Cases.{at_bool, if_true, if_false, eq_true, eq_false, from_eq_true, from_eq_false, neither}
use Rattle.raft_log_model_laws.proofs.Records.{of_group_append}

-- the same groups are open
abbrev pub Alike : {E V : Type 0} → Open E V → Open E V → Type 0
Alike o p = (k : ℕ) → o k ≡ p k

pub alike_set : {E V : Type 0} (o p : Open E V) (n : ℕ) (v w : Option (List (Tagged E V))) → Alike o p → v ≡ w → Alike (set_open o n v) (set_open p n w)
alike_set o p n v w same e k = ap₂ (λ a b. if n == k then a else b) e (same k)

pub alike_counts : {E V : Type 0} (o p : Open E V) (r : Record E V) → Alike o p → counts o r ≡ counts p r
alike_counts o p (Plain ys) same = refl
alike_counts o p (Part (Begin k) ys) same = refl
alike_counts o p (Part (Middle k) ys) same = refl
alike_counts o p (Part (End k) ys) same = ap (λ a. unwrap_or (onto a ys) []) (same k)

pub alike_opens : {E V : Type 0} (o p : Open E V) (r : Record E V) → Alike o p → Alike (opens o r) (opens p r)
alike_opens o p (Plain ys) same = same
alike_opens o p (Part (Begin k) ys) same = alike_set o p k _ _ same refl
alike_opens o p (Part (Middle k) ys) same = alike_set o p k _ _ same (ap (λ a. onto a ys) (same k))
alike_opens o p (Part (End k) ys) same = alike_set o p k _ _ same refl

pub alike_settle : {E V : Type 0} (o p : Open E V) (rs : List (Record E V)) → Alike o p → settle o rs ≡ settle p rs
alike_settle o p [] same = refl
alike_settle o p (r ∷ rs) same = ap₂ (λ a b. a ++ b) (alike_counts o p r same) (alike_settle (opens o r) (opens p r) rs (alike_opens o p r same))

-- where nothing is open, closing a group changes nothing
pub alike_none : {E V : Type 0} (n : ℕ) → Alike (set_open (none_open {E = E} {V = V}) n None) none_open
alike_none n k = neither (n == k)

-- the states differ in group n alone: there p has xs and o nothing
pub record Differ {E V : Type 0} (n : ℕ) (xs : List (Tagged E V)) (o p : Open E V) : Type 0 where
  pub without : o n ≡ None
  pub with_it : p n ≡ Some xs
  pub others : (k : ℕ) → (k == n) ≡ false → p k ≡ o k

same_number : (n : ℕ) → (n == n) ≡ true
same_number n = eq_true n n refl

pub set_same : {E V : Type 0} (o : Open E V) (n : ℕ) (v : Option (List (Tagged E V))) → set_open o n v n ≡ v
set_same o n v = if_true (n == n) v (o n) (same_number n)

pub set_other : {E V : Type 0} (o : Open E V) (n k : ℕ) (v : Option (List (Tagged E V))) → (n == k) ≡ false → set_open o n v k ≡ o k
set_other o n k v h = if_false (n == k) v (o k) h

-- setting another number leaves the difference as it was
differ_set : {E V : Type 0} (n : ℕ) (xs : List (Tagged E V)) (o p : Open E V) (k : ℕ) (v w : Option (List (Tagged E V)))
    → Differ n xs o p → (k == n) ≡ false → w ≡ v → Differ n xs (set_open o k v) (set_open p k w)
differ_set n xs o p k v w d other e = record {
  without = set_other o k n v other ∙ d.without;
  with_it = set_other p k n w other ∙ d.with_it;
  others = λ j h. ap₂ (λ a b. if k == j then a else b) e (d.others j h);
}

-- setting the number itself to the same ends the difference
differ_ends : {E V : Type 0} (n k : ℕ) (xs : List (Tagged E V)) (o p : Open E V) (v : Option (List (Tagged E V)))
    → Differ n xs o p → k ≡ n → Alike (set_open p k v) (set_open o k v)
differ_ends n k xs o p v d e j =
    at_bool (k == j) (λ b. (if b then v else p j) ≡ (if b then v else o j)) (λ _. refl)
    (λ h. d.others j (eq_false j n (λ q. from_eq_false k j h (e ∙ sym q))))

-- what group n, which has xs, brings where it ends
abbrev pub brought : {E V : Type 0} → ℕ → List (Tagged E V) → List (Record E V) → List (Tagged E V)
brought n xs [] = []
brought n xs (Plain ys ∷ rs) = brought n xs rs
brought n xs (Part (Begin k) ys ∷ rs) = if k == n then [] else brought n xs rs
brought n xs (Part (Middle k) ys ∷ rs) = if k == n then brought n (xs ++ ys) rs else brought n xs rs
brought n xs (Part (End k) ys ∷ rs) = if k == n then xs ++ ys else brought n xs rs

move_front : {A : Type 0} (a b c : List A) → (a ≡ []) ⊎ (b ≡ []) → b ++ (a ++ c) ≡ a ++ (b ++ c)
move_front a b c (inl e) = rw e refl
move_front a b c (inr e) = rw e refl

-- group n goes on with ys
differ_more : {E V : Type 0} (n k : ℕ) (xs ys : List (Tagged E V)) (o p : Open E V)
    → Differ n xs o p → k ≡ n → Differ n (xs ++ ys) o (set_open p k (onto (p k) ys))
differ_more n k xs ys o p d e = record {
  without = d.without;
  with_it = if_true (k == n) _ _ (eq_true k n e) ∙ (ap (λ j. onto (p j) ys) e ∙ ap (λ a. onto a ys) d.with_it);
  others = λ j h. if_false (k == j) _ _ (eq_false k j (λ q. from_eq_false j n h (sym q ∙ e))) ∙ d.others j h;
}

-- more for a group that hasn't begun changes nothing
pub alike_more : {E V : Type 0} (o : Open E V) (k : ℕ) (ys : List (Tagged E V)) → o k ≡ None → Alike (set_open o k (onto (o k) ys)) o
alike_more o k ys e j =
    at_bool (k == j) (λ b. (if b then onto (o k) ys else o j) ≡ o j)
    (λ h. ap (λ a. onto a ys) e ∙ (sym e ∙ ap o (from_eq_true k j h))) (λ _. refl)

-- one list more of what counts: the same said at both sides
regroup : {E V : Type 0} (g : ℕ) (said zs rest others : List (Tagged E V)) (first : List (Item E V))
    → of_group g ((said ++ zs) ++ rest) ≡ first ++ of_group g ((said ++ zs) ++ others)
    → of_group g (said ++ (zs ++ rest)) ≡ first ++ of_group g (said ++ (zs ++ others))
regroup g said zs rest others first h =
    subst₂ (λ a b. of_group g a ≡ first ++ of_group g b) (append_assoc said zs rest) (append_assoc said zs others) h

-- a group that ends: what it brings goes before what counted since its begin
comes_first : {E V : Type 0} (g : ℕ) (said zs rest : List (Tagged E V)) → Apart zs said
    → of_group g (said ++ (zs ++ rest)) ≡ of_group g zs ++ of_group g (said ++ rest)
comes_first g said zs rest apart =
    of_group_append g said (zs ++ rest)
    ∙ (ap (λ a. of_group g said ++ a) (of_group_append g zs rest)
    ∙ (move_front (of_group g zs) (of_group g said) (of_group g rest) (apart g)
    ∙ ap (λ a. of_group g zs ++ a) (sym (of_group_append g said rest))))

goes_on : {E V : Type 0} (g n k : ℕ) (xs ys said : List (Tagged E V)) (o p : Open E V) (rs : List (Record E V))
    → Differ n xs o p → k ≡ n
    → of_group g (said ++ settle (set_open p k (onto (p k) ys)) rs) ≡ of_group g (brought n (xs ++ ys) rs) ++ of_group g (said ++ settle o rs)
    → of_group g (said ++ settle (set_open p k (onto (p k) ys)) rs)
    ≡ of_group g (brought n (xs ++ ys) rs) ++ of_group g (said ++ settle (set_open o k (onto (o k) ys)) rs)
goes_on g n k xs ys said o p rs d e h =
    h ∙ ap (λ a. of_group g (brought n (xs ++ ys) rs) ++ of_group g (said ++ a))
    (sym (alike_settle _ _ rs (alike_more o k ys (ap o e ∙ d.without))))

ends_here : {E V : Type 0} (g n k : ℕ) (xs ys said : List (Tagged E V)) (o p : Open E V) (rs : List (Record E V))
    → Differ n xs o p → k ≡ n → Apart (xs ++ ys) said
    → of_group g (said ++ settle p (Part (End k) ys ∷ rs)) ≡ of_group g (xs ++ ys) ++ of_group g (said ++ settle o (Part (End k) ys ∷ rs))
ends_here g n k xs ys said o p rs d e apart =
    ap₂ (λ a b. of_group g (said ++ (unwrap_or (onto a ys) [] ++ b))) (ap p e ∙ d.with_it) (alike_settle _ _ rs (differ_ends n k xs o p None d e))
    ∙ (comes_first g said (xs ++ ys) (settle (opens o (Part (End k) ys)) rs) apart
    ∙ ap (λ a. of_group g (xs ++ ys) ++ of_group g (said ++ (unwrap_or (onto a ys) [] ++ settle (opens o (Part (End k) ys)) rs))) (sym (ap o e ∙ d.without)))

ends_elsewhere : {E V : Type 0} (g n k : ℕ) (xs ys said : List (Tagged E V)) (o p : Open E V) (rs : List (Record E V))
    → Differ n xs o p → (k == n) ≡ false
    → of_group g ((said ++ counts o (Part (End k) ys)) ++ settle (opens p (Part (End k) ys)) rs)
    ≡ of_group g (brought n xs rs) ++ of_group g ((said ++ counts o (Part (End k) ys)) ++ settle (opens o (Part (End k) ys)) rs)
    → of_group g (said ++ settle p (Part (End k) ys ∷ rs))
    ≡ of_group g (brought n xs rs) ++ of_group g (said ++ settle o (Part (End k) ys ∷ rs))
ends_elsewhere g n k xs ys said o p rs d e h =
    ap (λ a. of_group g (said ++ (unwrap_or (onto a ys) [] ++ settle (opens p (Part (End k) ys)) rs))) (d.others k e)
    ∙ regroup g said (counts o (Part (End k) ys)) (settle (opens p (Part (End k) ys)) rs) (settle (opens o (Part (End k) ys)) rs) (of_group g (brought n xs rs)) h

-- where group n is open with xs, what it brings comes before all that counts without it
pub along : {E V : Type 0} (g n : ℕ) (xs said : List (Tagged E V)) (o p : Open E V) (rs : List (Record E V))
    → Differ n xs o p → Undisturbed n xs said o rs
    → of_group g (said ++ settle p rs) ≡ of_group g (brought n xs rs) ++ of_group g (said ++ settle o rs)
along g n xs said o p [] d u = refl
along g n xs said o p (Plain ys ∷ rs) d u =
    regroup g said ys (settle p rs) (settle o rs) (of_group g (brought n xs rs)) (along g n xs (said ++ ys) o p rs d u)
along g n xs said o p (Part (Begin k) ys ∷ rs) d u =
    at_bool (k == n)
    (λ b. MatchBool b ⊤ (Undisturbed n xs said (opens o (Part (Begin k) ys)) rs)
    → of_group g (said ++ settle (opens p (Part (Begin k) ys)) rs)
    ≡ of_group g (if b then [] else brought n xs rs) ++ of_group g (said ++ settle (opens o (Part (Begin k) ys)) rs))
    (λ e _. ap (λ zs. of_group g (said ++ zs)) (alike_settle _ _ rs (differ_ends n k xs o p _ d (from_eq_true k n e))))
    (λ e v. along g n xs said (opens o (Part (Begin k) ys)) (opens p (Part (Begin k) ys)) rs (differ_set n xs o p k _ _ d e refl) v)
    u
along g n xs said o p (Part (Middle k) ys ∷ rs) d u =
    at_bool (k == n)
    (λ b. MatchBool b (Undisturbed n (xs ++ ys) said o rs) (Undisturbed n xs said (opens o (Part (Middle k) ys)) rs)
    → of_group g (said ++ settle (opens p (Part (Middle k) ys)) rs)
    ≡ of_group g (if b then brought n (xs ++ ys) rs else brought n xs rs) ++ of_group g (said ++ settle (opens o (Part (Middle k) ys)) rs))
    (λ e v. goes_on g n k xs ys said o p rs d (from_eq_true k n e) (along g n (xs ++ ys) said o (set_open p k (onto (p k) ys)) rs (differ_more n k xs ys o p d (from_eq_true k n e)) v))
    (λ e v. along g n xs said (opens o (Part (Middle k) ys)) (opens p (Part (Middle k) ys)) rs (differ_set n xs o p k _ _ d e (ap (λ a. onto a ys) (d.others k e))) v)
    u
along g n xs said o p (Part (End k) ys ∷ rs) d u =
    at_bool (k == n)
    (λ b. MatchBool b (Apart (xs ++ ys) said) (Undisturbed n xs (said ++ counts o (Part (End k) ys)) (opens o (Part (End k) ys)) rs)
    → of_group g (said ++ settle p (Part (End k) ys ∷ rs))
    ≡ of_group g (if b then xs ++ ys else brought n xs rs) ++ of_group g (said ++ settle o (Part (End k) ys ∷ rs)))
    (λ e v. ends_here g n k xs ys said o p rs d (from_eq_true k n e) v)
    (λ e v. ends_elsewhere g n k xs ys said o p rs d e (along g n xs (said ++ counts o (Part (End k) ys)) (opens o (Part (End k) ys)) (opens p (Part (End k) ys)) rs (differ_set n xs o p k _ _ d e refl) v))
    u

differ_begins : {E V : Type 0} (n : ℕ) (xs : List (Tagged E V)) → Differ n xs none_open (set_open none_open n (Some xs))
differ_begins n xs = record {
  without = refl;
  with_it = set_same none_open n (Some xs);
  others = λ k h. if_false (n == k) _ _ (eq_false n k (λ e. from_eq_false k n h (sym e)));
}

plain_suffix : {E V : Type 0} (g : ℕ) (xs : List (Tagged E V)) (all back : List (Record E V))
    → (c : List (Item E V)) × (c ++ rewritten g back ≡ rewritten g all)
    → (c : List (Item E V)) × (c ++ rewritten g back ≡ of_group g (xs ++ settle none_open all))
plain_suffix g xs all back (c, e) = (
  of_group g xs ++ c,
  append_assoc (of_group g xs) c (rewritten g back) ∙ (ap (λ a. of_group g xs ++ a) e ∙ sym (of_group_append g xs (settle none_open all))),
)

begin_suffix : {E V : Type 0} (g n : ℕ) (xs : List (Tagged E V)) (all back : List (Record E V))
    → of_group g (settle (set_open none_open n (Some xs)) all) ≡ of_group g (brought n xs all) ++ rewritten g all
    → (c : List (Item E V)) × (c ++ rewritten g back ≡ rewritten g all)
    → (c : List (Item E V)) × (c ++ rewritten g back ≡ of_group g (settle (set_open none_open n (Some xs)) all))
begin_suffix g n xs all back h (c, e) = (
  of_group g (brought n xs all) ++ c,
  append_assoc (of_group g (brought n xs all)) c (rewritten g back) ∙ (ap (λ a. of_group g (brought n xs all) ++ a) e ∙ sym h),
)

closed_suffix : {E V : Type 0} (g n : ℕ) (all back : List (Record E V))
    → (c : List (Item E V)) × (c ++ rewritten g back ≡ rewritten g all)
    → (c : List (Item E V)) × (c ++ rewritten g back ≡ of_group g (settle (set_open none_open n None) all))
closed_suffix g n all back (c, e) = (c, e ∙ ap (of_group g) (sym (alike_settle _ _ all (alike_none n))))

-- an end of tidy records says the end of what all of them say
pub suffix : {E V : Type 0} (g : ℕ) (cut back : List (Record E V)) → Tidy (cut ++ back)
    → (c : List (Item E V)) × (c ++ rewritten g back ≡ rewritten g (cut ++ back))
suffix g [] back t = ([], refl)
suffix g (Plain xs ∷ cut) back t = plain_suffix g xs (cut ++ back) back (suffix g cut back t)
suffix g (Part (Begin n) xs ∷ cut) back t =
    begin_suffix g n xs (cut ++ back) back (along g n xs [] none_open (set_open none_open n (Some xs)) (cut ++ back) (differ_begins n xs) t.0) (suffix g cut back t.1)
suffix g (Part (Middle n) xs ∷ cut) back t = closed_suffix g n (cut ++ back) back (suffix g cut back t)
suffix g (Part (End n) xs ∷ cut) back t = closed_suffix g n (cut ++ back) back (suffix g cut back t)

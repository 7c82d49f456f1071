-- Tidy records stay tidy: any beginning, any end, one more record that ends no group, a whole group.
use Rattle.std.proofs.Common.{◌≡◌, ℕ, List, [], ◌∷◌, ◌++◌, Bool, true, false, Some, unwrap_or, ◌==◌, MatchBool, refl, sym, ap, subst, ◌∙◌, inr, append_assoc, append-nil}
use Rattle.std.specs.Bool.{⊤}
use Rattle.raft_log_model_laws.specs.Item.{Tagged, Record}
use Rattle.raft_log_model_laws.specs.Item.Record.{Plain, Part}
use Rattle.raft_log_model_laws.specs.Item.Mark.{Begin, Middle, End}
use Rattle.raft_log_model_laws.specs.Groups.{Open, none_open, onto, counts, opens, settle, opened, settled}
use Rattle.raft_log_model_laws.specs.Tidy.{EndsNone, Apart, Undisturbed, Tidy, middles, whole_group, joined, group_items}
use Rattle.raft_log_model_laws.proofs.Cases.{at_bool, eq_true}
use Rattle.raft_log_model_laws.proofs.Records.{settle_append}
use Rattle.raft_log_model_laws.proofs.Suffix.{set_same}

-- a case on a test, kept as a choice of types
pub choose : (b : Bool) (P Q P' Q' : Type 0) → (P → P') → (Q → Q') → MatchBool b P Q → MatchBool b P' Q'
choose true P Q P' Q' f g h = f h
choose false P Q P' Q' f g h = g h

-- a group that is not disturbed in all records is not disturbed in their beginning
undisturbed_front : {E V : Type 0} (n : ℕ) (xs said : List (Tagged E V)) (o : Open E V) (front back : List (Record E V))
    → Undisturbed n xs said o (front ++ back) → Undisturbed n xs said o front
undisturbed_front n xs said o [] back u = tt
undisturbed_front n xs said o (Plain ys ∷ rs) back u = undisturbed_front n xs (said ++ ys) o rs back u
undisturbed_front n xs said o (Part (Begin k) ys ∷ rs) back u =
    choose (k == n) _ _ _ _ (λ h. h) (undisturbed_front n xs said (opens o (Part (Begin k) ys)) rs back) u
undisturbed_front n xs said o (Part (Middle k) ys ∷ rs) back u =
    choose (k == n) _ _ _ _ (undisturbed_front n (xs ++ ys) said o rs back) (undisturbed_front n xs said (opens o (Part (Middle k) ys)) rs back) u
undisturbed_front n xs said o (Part (End k) ys ∷ rs) back u =
    choose (k == n) _ _ _ _ (λ h. h)
    (undisturbed_front n xs (said ++ counts o (Part (End k) ys)) (opens o (Part (End k) ys)) rs back) u

pub tidy_front : {E V : Type 0} (front back : List (Record E V)) → Tidy (front ++ back) → Tidy front
tidy_front [] back t = tt
tidy_front (Plain xs ∷ rs) back t = tidy_front rs back t
tidy_front (Part (Begin n) xs ∷ rs) back t = (undisturbed_front n xs [] none_open rs back t.0, tidy_front rs back t.1)
tidy_front (Part (Middle n) xs ∷ rs) back t = tidy_front rs back t
tidy_front (Part (End n) xs ∷ rs) back t = tidy_front rs back t

pub tidy_back : {E V : Type 0} (front back : List (Record E V)) → Tidy (front ++ back) → Tidy back
tidy_back [] back t = t
tidy_back (Plain xs ∷ rs) back t = tidy_back rs back t
tidy_back (Part (Begin n) xs ∷ rs) back t = tidy_back rs back t.1
tidy_back (Part (Middle n) xs ∷ rs) back t = tidy_back rs back t
tidy_back (Part (End n) xs ∷ rs) back t = tidy_back rs back t

-- records without an end disturb nothing by themselves
undisturbed_alone : {E V : Type 0} (n : ℕ) (xs said : List (Tagged E V)) (o : Open E V) (more : List (Record E V))
    → EndsNone more → Undisturbed n xs said o more
undisturbed_alone n xs said o [] q = tt
undisturbed_alone n xs said o (Plain ys ∷ rs) q = undisturbed_alone n xs (said ++ ys) o rs q
undisturbed_alone n xs said o (Part (Begin k) ys ∷ rs) q =
    at_bool (k == n) (λ b. MatchBool b ⊤ (Undisturbed n xs said (opens o (Part (Begin k) ys)) rs)) (λ _. tt) (λ _. undisturbed_alone n xs said (opens o (Part (Begin k) ys)) rs q)
undisturbed_alone n xs said o (Part (Middle k) ys ∷ rs) q =
    at_bool (k == n) (λ b. MatchBool b (Undisturbed n (xs ++ ys) said o rs) (Undisturbed n xs said (opens o (Part (Middle k) ys)) rs))
    (λ _. undisturbed_alone n (xs ++ ys) said o rs q) (λ _. undisturbed_alone n xs said (opens o (Part (Middle k) ys)) rs q)
undisturbed_alone n xs said o (Part (End k) ys ∷ rs) q = absurd q

-- records that disturb no group, whatever is open before them
abbrev pub DisturbsNone : {E V : Type 0} → List (Record E V) → Type 0
DisturbsNone {E} {V} more = (n : ℕ) (xs said : List (Tagged E V)) (o : Open E V) → Undisturbed n xs said o more

undisturbed_more : {E V : Type 0} (n : ℕ) (xs said : List (Tagged E V)) (o : Open E V) (rs more : List (Record E V))
    → DisturbsNone more → Undisturbed n xs said o rs → Undisturbed n xs said o (rs ++ more)
undisturbed_more n xs said o [] more q u = q n xs said o
undisturbed_more n xs said o (Plain ys ∷ rs) more q u = undisturbed_more n xs (said ++ ys) o rs more q u
undisturbed_more n xs said o (Part (Begin k) ys ∷ rs) more q u =
    choose (k == n) _ _ _ _ (λ h. h) (undisturbed_more n xs said (opens o (Part (Begin k) ys)) rs more q) u
undisturbed_more n xs said o (Part (Middle k) ys ∷ rs) more q u =
    choose (k == n) _ _ _ _ (undisturbed_more n (xs ++ ys) said o rs more q) (undisturbed_more n xs said (opens o (Part (Middle k) ys)) rs more q) u
undisturbed_more n xs said o (Part (End k) ys ∷ rs) more q u =
    choose (k == n) _ _ _ _ (λ h. h)
    (undisturbed_more n xs (said ++ counts o (Part (End k) ys)) (opens o (Part (End k) ys)) rs more q) u

tidy_append : {E V : Type 0} (rs more : List (Record E V)) → DisturbsNone more → Tidy more → Tidy rs → Tidy (rs ++ more)
tidy_append [] more q alone t = alone
tidy_append (Plain xs ∷ rs) more q alone t = tidy_append rs more q alone t
tidy_append (Part (Begin n) xs ∷ rs) more q alone t = (undisturbed_more n xs [] none_open rs more q t.0, tidy_append rs more q alone t.1)
tidy_append (Part (Middle n) xs ∷ rs) more q alone t = tidy_append rs more q alone t
tidy_append (Part (End n) xs ∷ rs) more q alone t = tidy_append rs more q alone t

tidy_alone : {E V : Type 0} (more : List (Record E V)) → EndsNone more → Tidy more
tidy_alone [] q = tt
tidy_alone (Plain xs ∷ rs) q = tidy_alone rs q
tidy_alone (Part (Begin n) xs ∷ rs) q = (undisturbed_alone n xs [] none_open rs q, tidy_alone rs q)
tidy_alone (Part (Middle n) xs ∷ rs) q = tidy_alone rs q
tidy_alone (Part (End n) xs ∷ rs) q = absurd q

-- records that end no group may come after tidy records
pub tidy_more : {E V : Type 0} (rs more : List (Record E V)) → EndsNone more → Tidy rs → Tidy (rs ++ more)
tidy_more rs more q t = tidy_append rs more (λ n xs said o. undisturbed_alone n xs said o more q) (tidy_alone more q) t

-- the rest of a group whose number is another
undisturbed_by_rest : {E V : Type 0} (m n : ℕ) (xs said : List (Tagged E V)) (o : Open E V) (between : List (List (Tagged E V))) (last : List (Tagged E V))
    → (n == m) ≡ false → Undisturbed m xs said o (middles n between ++ (Part (End n) last ∷ []))
undisturbed_by_rest m n xs said o [] last h =
    subst (λ b. MatchBool b (Apart (xs ++ last) said) ⊤) (sym h) tt
undisturbed_by_rest m n xs said o (ys ∷ yss) last h =
    subst (λ b. MatchBool b (Undisturbed m (xs ++ ys) said o (middles n yss ++ (Part (End n) last ∷ [])))
    (Undisturbed m xs said (opens o (Part (Middle n) ys)) (middles n yss ++ (Part (End n) last ∷ [])))) (sym h)
    (undisturbed_by_rest m n xs said (opens o (Part (Middle n) ys)) yss last h)

undisturbed_by_group : {E V : Type 0} (n : ℕ) (first : List (Tagged E V)) (between : List (List (Tagged E V))) (last : List (Tagged E V))
    → DisturbsNone (whole_group n first between last)
undisturbed_by_group n first between last m xs said o =
    at_bool (n == m) (λ b. MatchBool b ⊤ (Undisturbed m xs said (opens o (Part (Begin n) first)) (middles n between ++ (Part (End n) last ∷ []))))
    (λ _. tt) (λ h. undisturbed_by_rest m n xs said (opens o (Part (Begin n) first)) between last h)

-- nothing counts between the begin and the end of a group that is written without a break
undisturbed_itself : {E V : Type 0} (n : ℕ) (xs : List (Tagged E V)) (o : Open E V) (between : List (List (Tagged E V))) (last : List (Tagged E V))
    → Undisturbed n xs [] o (middles n between ++ (Part (End n) last ∷ []))
undisturbed_itself n xs o [] last =
    subst (λ b. MatchBool b (Apart (xs ++ last) []) ⊤) (sym (eq_true n n refl)) (λ g. inr refl)
undisturbed_itself n xs o (ys ∷ yss) last =
    subst (λ b. MatchBool b (Undisturbed n (xs ++ ys) [] o (middles n yss ++ (Part (End n) last ∷ [])))
    (Undisturbed n xs [] (opens o (Part (Middle n) ys)) (middles n yss ++ (Part (End n) last ∷ [])))) (sym (eq_true n n refl))
    (undisturbed_itself n (xs ++ ys) o yss last)

tidy_rest : {E V : Type 0} (n : ℕ) (between : List (List (Tagged E V))) (last : List (Tagged E V))
    → Tidy (middles n between ++ (Part (End n) last ∷ []))
tidy_rest n [] last = tt
tidy_rest n (ys ∷ yss) last = tidy_rest n yss last

-- a whole group may come after tidy records, whatever its number: it cuts short what was open under it
pub tidy_whole : {E V : Type 0} (rs : List (Record E V)) (n : ℕ) (first : List (Tagged E V)) (between : List (List (Tagged E V))) (last : List (Tagged E V))
    → Tidy rs → Tidy (rs ++ whole_group n first between last)
tidy_whole rs n first between last t =
    tidy_append rs (whole_group n first between last) (undisturbed_by_group n first between last)
    (undisturbed_itself n first none_open between last, tidy_rest n between last) t

-- what a group whose records stand without a break brings at its end
rest_counts : {E V : Type 0} (n : ℕ) (xs : List (Tagged E V)) (o : Open E V) (between : List (List (Tagged E V))) (last : List (Tagged E V))
    → o n ≡ Some xs → settle o (middles n between ++ (Part (End n) last ∷ [])) ≡ xs ++ (joined between ++ last)
rest_counts n xs o [] last h = append-nil _ ∙ ap (λ a. unwrap_or (onto a last) []) h
rest_counts n xs o (ys ∷ yss) last h =
    rest_counts n (xs ++ ys) (opens o (Part (Middle n) ys)) yss last (set_same o n (onto (o n) ys) ∙ ap (λ a. onto a ys) h)
    ∙ (append_assoc xs ys (joined yss ++ last) ∙ ap (λ a. xs ++ a) (sym (append_assoc ys (joined yss) last)))

-- from whatever start, a whole group brings all its items
pub group_counts : {E V : Type 0} (o : Open E V) (n : ℕ) (first : List (Tagged E V)) (between : List (List (Tagged E V))) (last : List (Tagged E V))
    → settle o (whole_group n first between last) ≡ group_items first between last
group_counts o n first between last = rest_counts n first (opens o (Part (Begin n) first)) between last (set_same o n (Some first))

begun_counts_none : {E V : Type 0} (o : Open E V) (n : ℕ) (between : List (List (Tagged E V))) → settle o (middles n between) ≡ []
begun_counts_none o n [] = refl
begun_counts_none o n (xs ∷ xss) = begun_counts_none (opens o (Part (Middle n) xs)) n xss

-- until its end an atomic group changes nothing
pub part_counts : {E V : Type 0} (rs : List (Record E V)) (n : ℕ) (first : List (Tagged E V)) (between : List (List (Tagged E V)))
    → settled (rs ++ (Part (Begin n) first ∷ middles n between)) ≡ settled rs
part_counts rs n first between =
    settle_append none_open rs (Part (Begin n) first ∷ middles n between)
    ∙ (ap (λ a. settled rs ++ a) (begun_counts_none (opens (opened none_open rs) (Part (Begin n) first)) n between) ∙ append-nil (settled rs))

-- at its end all of it counts, after all that counted before
pub whole_counts : {E V : Type 0} (rs : List (Record E V)) (n : ℕ) (first : List (Tagged E V)) (between : List (List (Tagged E V))) (last : List (Tagged E V))
    → settled (rs ++ whole_group n first between last) ≡ settled rs ++ group_items first between last
whole_counts rs n first between last =
    settle_append none_open rs (whole_group n first between last)
    ∙ ap (λ a. settled rs ++ a) (group_counts (opened none_open rs) n first between last)

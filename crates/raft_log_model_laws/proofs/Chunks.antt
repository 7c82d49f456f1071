-- Tidy records may be cut anywhere: what the groups bring that the cut goes through comes between the two parts.
use Rattle.std.proofs.Common.{◌≡◌, ℕ, ◌⊎◌, ◌==◌, List, [], ◌∷◌, ◌++◌, Bool, true, false, Option, Some, None, if◌then◌else◌, refl, sym, ap, ap₂, subst, ◌∙◌, inl, inr, append_assoc, append-nil}
use Rattle.std.specs.Bool.{⊤}
use Rattle.std.specs.Option.{option_or}
use Rattle.raft_log_model_laws.specs.Item.{Tagged, Record}
use Rattle.raft_log_model_laws.specs.Item.Record.{Plain, Part}
use Rattle.raft_log_model_laws.specs.Item.Mark.{Begin, Middle, End}
use Rattle.raft_log_model_laws.specs.Groups.{of_group, Open, none_open, set_open, onto, counts, opens, settle, opened, settled, rewritten}
use Rattle.raft_log_model_laws.specs.Tidy.{Apart, Undisturbed, Tidy}
use Rattle.raft_log_model_laws.specs.Fragments.{Head, head, then_head, Unfinished, without, more, next_unfinished, unfinished_after, unfinished, finish, go_on, completed, carried_on, Segment, segment, merge, IsSameSegment, Bracketing, all_of, merge_all}
use Rattle.raft_log_model_laws.specs.Fragments.Head.{GoesOn, Ends, BeginsAnew}
use Rattle.raft_log_model_laws.specs.Fragments.Bracketing.{One, Both}
use Rattle.raft_log_model_laws.proofs.Cases.{at_bool, if_true, if_false, eq_true, eq_false, from_eq_true, from_eq_false, neither}
use Rattle.raft_log_model_laws.proofs.Words.{option_or_none}
use Rattle.raft_log_model_laws.proofs.Records.{of_group_append, settle_append}
use Rattle.std.proofs.lemmas.Bool.Decides.{when_true, when_false}
use Rattle.raft_log_model_laws.proofs.Suffix.{alike_more, Alike, alike_counts, alike_opens, alike_settle, Differ, brought, along}
use Rattle.raft_log_model_laws.proofs.TidyLaws.{choose, tidy_front, tidy_back}
use Rattle.raft_log_model_laws.proofs.Heads.{head_start, head_append}
use Rattle.raft_log_model_laws.proofs.LeftOpen.{number_test, unfinished_append}

-- the groups of an ordered list, by their numbers
abbrev pub open_in : {E V : Type 0} → List (Unfinished E V) → Open E V
open_in [] k = None
open_in (u ∷ us) k = if u.number == k then Some u.items else open_in us k

if_twice : {A : Type 0} (b : Bool) (x y z : A) → (if b then x else z) ≡ (if b then x else (if b then y else z))
if_twice true x y z = refl
if_twice false x y z = refl

if_swap : {A : Type 0} (a b : Bool) (x y z : A) → (a ≡ true → b ≡ false) → (if a then x else (if b then y else z)) ≡ (if b then y else (if a then x else z))
if_swap true true x y z h = let e : true ≡ false = h refl in cc
if_swap true false x y z h = refl
if_swap false b x y z h = refl

-- two numbers that are not the same are not both a third
apart_from : (m n k : ℕ) → (m == n) ≡ false → (m == k) ≡ true → (n == k) ≡ false
apart_from m n k h e = eq_false n k (λ q. from_eq_false m n h (from_eq_true m k e ∙ sym q))

open_without : {E V : Type 0} (n : ℕ) (us : List (Unfinished E V)) (k : ℕ) → open_in (without n us) k ≡ set_open (open_in us) n None k
open_without n [] k = sym (neither (n == k))
open_without n (u ∷ us) k =
    at_bool (u.number == n)
    (λ b. open_in (if b then without n us else u ∷ without n us) k ≡ (if n == k then None else (if u.number == k then Some u.items else open_in us k)))
    (λ e. open_without n us k ∙ (if_twice (n == k) None (Some u.items) (open_in us k)
    ∙ ap (λ m. if n == k then None else (if m == k then Some u.items else open_in us k)) (sym (from_eq_true u.number n e))))
    (λ e. ap (λ a. if u.number == k then Some u.items else a) (open_without n us k)
    ∙ if_swap (u.number == k) (n == k) (Some u.items) None (open_in us k) (apart_from u.number n k e))

open_append : {E V : Type 0} (us ps : List (Unfinished E V)) (k : ℕ) → open_in (us ++ ps) k ≡ option_or (open_in us k) (open_in ps k)
open_append [] ps k = refl
open_append (u ∷ us) ps k =
    at_bool (u.number == k) (λ b. (if b then Some u.items else open_in (us ++ ps) k) ≡ option_or (if b then Some u.items else open_in us k) (open_in ps k))
    (λ _. refl) (λ _. open_append us ps k)

or_if : {A : Type 0} (b : Bool) (x : A) (o : Option A) → option_or (if b then None else o) (if b then Some x else None) ≡ (if b then Some x else o)
or_if true x o = refl
or_if false x o = option_or_none o

open_more : {E V : Type 0} (n : ℕ) (ys : List (Tagged E V)) (us : List (Unfinished E V)) (k : ℕ)
    → open_in (more n ys us) k ≡ set_open (open_in us) n (onto (open_in us n) ys) k
open_more n ys [] k = sym (neither (n == k))
open_more n ys (u ∷ us) k =
    at_bool (u.number == n)
    (λ b. (if u.number == k then Some (if b then u.items ++ ys else u.items) else open_in (more n ys us) k)
    ≡ (if n == k then onto (if b then Some u.items else open_in us n) ys else (if u.number == k then Some u.items else open_in us k)))
    (λ e. ap₂ (λ m a. if m == k then Some (u.items ++ ys) else a) (from_eq_true u.number n e) (open_more n ys us k)
    ∙ (sym (if_twice (n == k) (Some (u.items ++ ys)) (onto (open_in us n) ys) (open_in us k))
    ∙ (if_twice (n == k) (Some (u.items ++ ys)) (Some u.items) (open_in us k)
    ∙ ap (λ m. if n == k then Some (u.items ++ ys) else (if m == k then Some u.items else open_in us k)) (sym (from_eq_true u.number n e)))))
    (λ e. ap (λ a. if u.number == k then Some u.items else a) (open_more n ys us k)
    ∙ if_swap (u.number == k) (n == k) (Some u.items) (onto (open_in us n) ys) (open_in us k) (apart_from u.number n k e))

-- the ordered list has what is open
open_next : {E V : Type 0} (us : List (Unfinished E V)) (r : Record E V) → Alike (open_in (next_unfinished us r)) (opens (open_in us) r)
open_next us (Plain xs) k = refl
open_next us (Part (Begin n) xs) k =
    open_append (without n us) (record { number = n; items = xs } ∷ []) k
    ∙ (ap (λ a. option_or a (if n == k then Some xs else None)) (open_without n us k) ∙ or_if (n == k) xs (open_in us k))
open_next us (Part (Middle n) xs) k = open_more n xs us k
open_next us (Part (End n) xs) k = open_without n us k

alike_opened : {E V : Type 0} (o p : Open E V) (rs : List (Record E V)) → Alike o p → Alike (opened o rs) (opened p rs)
alike_opened o p [] same = same
alike_opened o p (r ∷ rs) same = alike_opened (opens o r) (opens p r) rs (alike_opens o p r same)

pub open_after : {E V : Type 0} (us : List (Unfinished E V)) (rs : List (Record E V)) → Alike (open_in (unfinished_after us rs)) (opened (open_in us) rs)
open_after us [] k = refl
open_after us (r ∷ rs) k = open_after (next_unfinished us r) rs k ∙ alike_opened _ _ rs (open_next us r) k

-- what is undisturbed hangs on what is open alone, and asks less where less was said
undisturbed_alike : {E V : Type 0} (n : ℕ) (xs said : List (Tagged E V)) (o p : Open E V) (rs : List (Record E V))
    → Alike o p → Undisturbed n xs said o rs → Undisturbed n xs said p rs
undisturbed_alike n xs said o p [] same u = tt
undisturbed_alike n xs said o p (Plain ys ∷ rs) same u = undisturbed_alike n xs (said ++ ys) o p rs same u
undisturbed_alike n xs said o p (Part (Begin k) ys ∷ rs) same u =
    choose (k == n) _ _ _ _ (λ h. h) (undisturbed_alike n xs said _ _ rs (alike_opens o p (Part (Begin k) ys) same)) u
undisturbed_alike n xs said o p (Part (Middle k) ys ∷ rs) same u =
    choose (k == n) _ _ _ _ (undisturbed_alike n (xs ++ ys) said o p rs same) (undisturbed_alike n xs said _ _ rs (alike_opens o p (Part (Middle k) ys) same)) u
undisturbed_alike n xs said o p (Part (End k) ys ∷ rs) same u =
    choose (k == n) _ _ _ _ (λ h. h)
    (λ h. undisturbed_alike n xs (said ++ counts p (Part (End k) ys)) _ _ rs (alike_opens o p (Part (End k) ys) same)
    (subst (λ a. Undisturbed n xs (said ++ a) (opens o (Part (End k) ys)) rs) (alike_counts o p (Part (End k) ys) same) h)) u

no_second : {A : Type 0} (xs ys : List A) → xs ++ ys ≡ [] → ys ≡ []
no_second [] ys h = h
no_second (x ∷ xs) ys h = cc

less_said : {E V : Type 0} (g : ℕ) (xs first said : List (Tagged E V))
    → (of_group g xs ≡ []) ⊎ (of_group g (first ++ said) ≡ []) → (of_group g xs ≡ []) ⊎ (of_group g said ≡ [])
less_said g xs first said (inl e) = inl e
less_said g xs first said (inr e) = inr (no_second (of_group g first) (of_group g said) (sym (of_group_append g first said) ∙ e))

apart_less : {E V : Type 0} (xs first said : List (Tagged E V)) → Apart xs (first ++ said) → Apart xs said
apart_less xs first said h g = less_said g xs first said (h g)

undisturbed_less : {E V : Type 0} (n : ℕ) (xs first said : List (Tagged E V)) (o : Open E V) (rs : List (Record E V))
    → Undisturbed n xs (first ++ said) o rs → Undisturbed n xs said o rs
undisturbed_less n xs first said o [] u = tt
undisturbed_less n xs first said o (Plain ys ∷ rs) u =
    undisturbed_less n xs first (said ++ ys) o rs (subst (λ a. Undisturbed n xs a o rs) (append_assoc first said ys) u)
undisturbed_less n xs first said o (Part (Begin k) ys ∷ rs) u =
    choose (k == n) _ _ _ _ (λ h. h) (undisturbed_less n xs first said (opens o (Part (Begin k) ys)) rs) u
undisturbed_less n xs first said o (Part (Middle k) ys ∷ rs) u =
    choose (k == n) _ _ _ _ (undisturbed_less n (xs ++ ys) first said o rs) (undisturbed_less n xs first said (opens o (Part (Middle k) ys)) rs) u
undisturbed_less n xs first said o (Part (End k) ys ∷ rs) u =
    choose (k == n) _ _ _ _ (apart_less (xs ++ ys) first said)
    (λ h. undisturbed_less n xs first (said ++ counts o (Part (End k) ys)) (opens o (Part (End k) ys)) rs
    (subst (λ a. Undisturbed n xs a (opens o (Part (End k) ys)) rs) (append_assoc first said (counts o (Part (End k) ys))) h)) u

undisturbed_bare : {E V : Type 0} (n : ℕ) (xs said : List (Tagged E V)) (o : Open E V) (rs : List (Record E V))
    → Undisturbed n xs said o rs → Undisturbed n xs [] o rs
undisturbed_bare n xs said o rs u = undisturbed_less n xs said [] o rs (subst (λ a. Undisturbed n xs a o rs) (sym (append-nil said)) u)

-- each group of the list is undisturbed by the records and by the groups that began after it
abbrev pub IsQuiet : {E V : Type 0} → List (Unfinished E V) → List (Record E V) → Type 0
IsQuiet [] rs = ⊤
IsQuiet (u ∷ us) rs = (open_in us u.number ≡ None) × Undisturbed u.number u.items [] (open_in us) rs × IsQuiet us rs

-- what a group brings, told by its head
abbrev ended : {E V : Type 0} → Head E V → List (Tagged E V)
ended (GoesOn xs) = []
ended (Ends xs) = xs
ended BeginsAnew = []

ended_if : {E V : Type 0} (b : Bool) (x y : List (Tagged E V)) (h k : Head E V) → x ≡ ended h → y ≡ ended k → (if b then x else y) ≡ ended (if b then h else k)
ended_if true x y h k e d = e
ended_if false x y h k e d = d

brought_head : {E V : Type 0} (n : ℕ) (xs : List (Tagged E V)) (rs : List (Record E V)) → brought n xs rs ≡ ended (head n xs rs)
brought_head n xs [] = refl
brought_head n xs (Plain ys ∷ rs) = brought_head n xs rs
brought_head n xs (Part (Begin k) ys ∷ rs) = ended_if (k == n) _ _ _ _ refl (brought_head n xs rs)
brought_head n xs (Part (Middle k) ys ∷ rs) = ended_if (k == n) _ _ _ _ (brought_head n (xs ++ ys) rs) (brought_head n xs rs)
brought_head n xs (Part (End k) ys ∷ rs) = ended_if (k == n) _ _ _ _ refl (brought_head n xs rs)

ended_finish : {E V : Type 0} (xs : List (Tagged E V)) (h : Head E V) → ended (then_head (GoesOn xs) h) ≡ finish xs h
ended_finish xs (GoesOn ys) = refl
ended_finish xs (Ends ys) = refl
ended_finish xs BeginsAnew = refl

brings : {E V : Type 0} (n : ℕ) (xs : List (Tagged E V)) (rs : List (Record E V)) → brought n xs rs ≡ finish xs (head n [] rs)
brings n xs rs = brought_head n xs rs ∙ (ap ended (head_start n xs rs) ∙ ended_finish xs (head n [] rs))

differ_first : {E V : Type 0} (u : Unfinished E V) (us : List (Unfinished E V)) → open_in us u.number ≡ None
    → Differ u.number u.items (open_in us) (open_in (u ∷ us))
differ_first u us h = record {
  without = h;
  with_it = if_true (u.number == u.number) _ _ (eq_true u.number u.number refl);
  others = λ k far. if_false (u.number == k) _ _ (number_test u.number k ∙ far);
}

-- what counts after these groups were open: first what they bring, then what counts without them
pub quiet_counts : {E V : Type 0} (g : ℕ) (us : List (Unfinished E V)) (rs : List (Record E V)) → IsQuiet us rs
    → of_group g (settle (open_in us) rs) ≡ of_group g (completed us (λ n. head n [] rs)) ++ rewritten g rs
quiet_counts g [] rs q = ap (of_group g) (alike_settle (open_in []) none_open rs (λ k. refl))
quiet_counts g (u ∷ us) rs q =
    along g u.number u.items [] (open_in us) (open_in (u ∷ us)) rs (differ_first u us q.0) q.1
    ∙ (ap₂ (λ a b. of_group g a ++ b) (brings u.number u.items rs) (quiet_counts g us rs q.2)
    ∙ (sym (append_assoc (of_group g (finish u.items (head u.number [] rs))) (of_group g (completed us (λ n. head n [] rs))) (rewritten g rs))
    ∙ ap (λ a. a ++ rewritten g rs) (sym (of_group_append g (finish u.items (head u.number [] rs)) (completed us (λ n. head n [] rs))))))

quiet_plain : {E V : Type 0} (zs : List (Tagged E V)) (rs : List (Record E V)) (us : List (Unfinished E V)) → IsQuiet us (Plain zs ∷ rs) → IsQuiet us rs
quiet_plain zs rs [] q = tt
quiet_plain zs rs (u ∷ us) q = (q.0, undisturbed_bare u.number u.items zs (open_in us) rs q.1, quiet_plain zs rs us q.2)

-- a record that begins or ends group k: k goes out of the list, and ps comes after it
module _ {E V : Type 0} (k : ℕ) (r : Record E V) (rs : List (Record E V)) (ps : List (Unfinished E V))
    (pass : (n : ℕ) (xs : List (Tagged E V)) (o : Open E V) → (k == n) ≡ false → Undisturbed n xs [] o (r ∷ rs) → Undisturbed n xs [] (opens o r) rs)
    (same : (us : List (Unfinished E V)) → Alike (open_in (without k us ++ ps)) (opens (open_in us) r))
    (others : (o : Open E V) (n : ℕ) → (k == n) ≡ false → opens o r n ≡ o n)
    (last : IsQuiet ps rs) where
  quiet_out : (us : List (Unfinished E V)) → IsQuiet us (r ∷ rs) → IsQuiet (without k us ++ ps) rs
  quiet_out [] q = last
  quiet_out (u ∷ us) q =
      at_bool (u.number == k) (λ b. IsQuiet ((if b then without k us else u ∷ without k us) ++ ps) rs)
      (λ _. quiet_out us q.2)
      (λ e. let far : (k == u.number) ≡ false = number_test k u.number ∙ e in (
        same us u.number ∙ (others (open_in us) u.number far ∙ q.0),
        undisturbed_alike u.number u.items [] _ _ rs (λ j. sym (same us j)) (pass u.number u.items (open_in us) far q.1),
        quiet_out us q.2,
      ))

others_begin : {E V : Type 0} (k : ℕ) (v : Option (List (Tagged E V))) (o : Open E V) (n : ℕ) → (k == n) ≡ false → set_open o k v n ≡ o n
others_begin k v o n far = if_false (k == n) v (o n) far

quiet_begin : {E V : Type 0} (k : ℕ) (zs : List (Tagged E V)) (rs : List (Record E V)) (us : List (Unfinished E V))
    → Undisturbed k zs [] none_open rs → IsQuiet us (Part (Begin k) zs ∷ rs) → IsQuiet (next_unfinished us (Part (Begin k) zs)) rs
quiet_begin k zs rs us new q =
    quiet_out k (Part (Begin k) zs) rs (record { number = k; items = zs } ∷ [])
    (λ n xs o far u. when_false ⊤ (Undisturbed n xs [] (opens o (Part (Begin k) zs)) rs) far u)
    (λ vs. open_next vs (Part (Begin k) zs))
    (others_begin k (Some zs))
    (refl, undisturbed_alike k zs [] none_open (open_in []) rs (λ j. refl) new, tt)
    us q

quiet_end : {E V : Type 0} (k : ℕ) (zs : List (Tagged E V)) (rs : List (Record E V)) (us : List (Unfinished E V))
    → IsQuiet us (Part (End k) zs ∷ rs) → IsQuiet (next_unfinished us (Part (End k) zs)) rs
quiet_end k zs rs us q =
    subst (λ a. IsQuiet a rs) (append-nil (without k us))
    (quiet_out k (Part (End k) zs) rs []
    (λ n xs o far u. undisturbed_bare n xs (counts o (Part (End k) zs)) (opens o (Part (End k) zs)) rs
    (when_false (Apart (xs ++ zs) []) (Undisturbed n xs (counts o (Part (End k) zs)) (opens o (Part (End k) zs)) rs) far u))
    (λ vs j. ap (λ a. open_in a j) (append-nil (without k vs)) ∙ open_next vs (Part (End k) zs) j)
    (others_begin k None)
    tt us q)

-- more for a group that isn't in the list changes nothing of what is open
more_of_none : {E V : Type 0} (k n : ℕ) (zs : List (Tagged E V)) (us : List (Unfinished E V)) → open_in us n ≡ None → open_in (more k zs us) n ≡ None
more_of_none k n zs us h =
    open_more k zs us n
    ∙ at_bool (k == n) (λ b. (if b then onto (open_in us k) zs else open_in us n) ≡ None)
    (λ e. ap (λ j. onto (open_in us j) zs) (from_eq_true k n e) ∙ ap (λ a. onto a zs) h) (λ _. h)

quiet_middle : {E V : Type 0} (k : ℕ) (zs : List (Tagged E V)) (rs : List (Record E V)) (us : List (Unfinished E V))
    → IsQuiet us (Part (Middle k) zs ∷ rs) → IsQuiet (more k zs us) rs
quiet_middle k zs rs [] q = tt
quiet_middle k zs rs (u ∷ us) q = (
  more_of_none k u.number zs us q.0,
  at_bool (u.number == k) (λ b. Undisturbed u.number (if b then u.items ++ zs else u.items) [] (open_in (more k zs us)) rs)
      (λ e. undisturbed_alike u.number (u.items ++ zs) [] (open_in us) (open_in (more k zs us)) rs
      (λ j. sym (open_more k zs us j ∙ alike_more (open_in us) k zs (ap (open_in us) (sym (from_eq_true u.number k e)) ∙ q.0) j))
      (when_true (Undisturbed u.number (u.items ++ zs) [] (open_in us) rs) (Undisturbed u.number u.items [] (opens (open_in us) (Part (Middle k) zs)) rs)
      (number_test k u.number ∙ e) q.1))
      (λ e. undisturbed_alike u.number u.items [] (opens (open_in us) (Part (Middle k) zs)) (open_in (more k zs us)) rs
      (λ j. sym (open_more k zs us j))
      (when_false (Undisturbed u.number (u.items ++ zs) [] (open_in us) rs) (Undisturbed u.number u.items [] (opens (open_in us) (Part (Middle k) zs)) rs)
      (number_test k u.number ∙ e) q.1)),
  quiet_middle k zs rs us q.2,
)

quiet_after : {E V : Type 0} (us : List (Unfinished E V)) (xs ys : List (Record E V))
    → IsQuiet us (xs ++ ys) → Tidy (xs ++ ys) → IsQuiet (unfinished_after us xs) ys
quiet_after us [] ys q t = q
quiet_after us (Plain zs ∷ xs) ys q t = quiet_after us xs ys (quiet_plain zs (xs ++ ys) us q) t
quiet_after us (Part (Begin k) zs ∷ xs) ys q t =
    quiet_after (next_unfinished us (Part (Begin k) zs)) xs ys (quiet_begin k zs (xs ++ ys) us t.0 q) t.1
quiet_after us (Part (Middle k) zs ∷ xs) ys q t = quiet_after (more k zs us) xs ys (quiet_middle k zs (xs ++ ys) us q) t
quiet_after us (Part (End k) zs ∷ xs) ys q t = quiet_after (without k us) xs ys (quiet_end k zs (xs ++ ys) us q) t

-- tidy records may be cut anywhere
pub cut_anywhere : {E V : Type 0} (g : ℕ) (xs ys : List (Record E V)) → Tidy (xs ++ ys)
    → rewritten g (xs ++ ys) ≡ rewritten g xs ++ (of_group g (completed (unfinished xs) (λ n. head n [] ys)) ++ rewritten g ys)
cut_anywhere g xs ys t =
    ap (of_group g) (settle_append none_open xs ys)
    ∙ (of_group_append g (settled xs) (settle (opened none_open xs) ys)
    ∙ ap (λ a. rewritten g xs ++ a)
    (ap (of_group g) (sym (alike_settle _ _ ys (λ k. open_after [] xs k ∙ alike_opened (open_in []) none_open xs (λ j. refl) k)))
    ∙ quiet_counts g (unfinished xs) ys (quiet_after [] xs ys tt t)))

same_completed : {E V : Type 0} (us : List (Unfinished E V)) (h k : ℕ → Head E V) → ((n : ℕ) → h n ≡ k n) → completed us h ≡ completed us k
same_completed [] h k same = refl
same_completed (u ∷ us) h k same = ap₂ (λ a b. finish u.items a ++ b) (same u.number) (same_completed us h k same)

same_carried : {E V : Type 0} (us : List (Unfinished E V)) (h k : ℕ → Head E V) → ((n : ℕ) → h n ≡ k n) → carried_on us h ≡ carried_on us k
same_carried [] h k same = refl
same_carried (u ∷ us) h k same = ap₂ (λ a b. go_on u.number u.items a ++ b) (same u.number) (same_carried us h k same)

-- merging hangs on what its parts say alone
pub merge_same : {E V : Type 0} (a b c d : Segment E V) → IsSameSegment a c → IsSameSegment b d → IsSameSegment (merge a b) (merge c d)
merge_same a b c d p q = record {
  counted = λ g.
      of_group_append g a.counted (completed a.left_open b.heads ++ b.counted)
      ∙ (ap₂ (λ x y. x ++ y) (p.counted g)
      (of_group_append g (completed a.left_open b.heads) b.counted
      ∙ (ap₂ (λ x y. of_group g x ++ y)
      (ap (λ us. completed us b.heads) p.left_open ∙ same_completed c.left_open b.heads d.heads q.heads) (q.counted g)
      ∙ sym (of_group_append g (completed c.left_open d.heads) d.counted)))
      ∙ sym (of_group_append g c.counted (completed c.left_open d.heads ++ d.counted)));
  heads = λ n. ap₂ then_head (p.heads n) (q.heads n);
  left_open = ap₂ (λ x y. x ++ y) (ap (λ us. carried_on us b.heads) p.left_open ∙ same_carried c.left_open b.heads d.heads q.heads) q.left_open;
}

-- two segments of tidy records, merged, are the segment of all of them
pub merge_two : {E V : Type 0} (xs ys : List (Record E V)) → Tidy (xs ++ ys) → IsSameSegment (merge (segment xs) (segment ys)) (segment (xs ++ ys))
merge_two xs ys t = record {
  counted = λ g.
      of_group_append g (settled xs) (completed (unfinished xs) (λ n. head n [] ys) ++ settled ys)
      ∙ (ap (λ a. rewritten g xs ++ a) (of_group_append g (completed (unfinished xs) (λ n. head n [] ys)) (settled ys))
      ∙ sym (cut_anywhere g xs ys t));
  heads = λ n. sym (head_append n [] xs ys);
  left_open = sym (unfinished_append xs ys);
}

same_then : {E V : Type 0} (a b c : Segment E V) → IsSameSegment a b → IsSameSegment b c → IsSameSegment a c
same_then a b c p q = record {
  counted = λ g. p.counted g ∙ q.counted g;
  heads = λ n. p.heads n ∙ q.heads n;
  left_open = p.left_open ∙ q.left_open;
}

-- consecutive segments of tidy records, merged in any bracketing, are the segment of all of them
pub any_bracketing : {E V : Type 0} (t : Bracketing (Record E V)) → Tidy (all_of t) → IsSameSegment (merge_all t) (segment (all_of t))
any_bracketing (One rs) h = record { counted = λ g. refl; heads = λ n. refl; left_open = refl }
any_bracketing (Both s t) h =
    same_then (merge (merge_all s) (merge_all t)) (merge (segment (all_of s)) (segment (all_of t))) (segment (all_of s ++ all_of t))
    (merge_same (merge_all s) (merge_all t) (segment (all_of s)) (segment (all_of t))
    (any_bracketing s (tidy_front (all_of s) (all_of t) h)) (any_bracketing t (tidy_back (all_of s) (all_of t) h)))
    (merge_two (all_of s) (all_of t) h)

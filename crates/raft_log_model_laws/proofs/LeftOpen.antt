-- The groups that a segment leaves unfinished, where segments are joined.
use Rattle.std.proofs.Common.{◌≡◌, ℕ, ◌==◌, List, [], ◌∷◌, ◌++◌, Bool, true, false, if◌then◌else◌, refl, sym, ap, ap₂, ◌∙◌, append_assoc, append-nil, arith}
use Rattle.std.proofs.lemmas.Bool.Decides.{nat_tests}
use Rattle.raft_log_model_laws.specs.Item.{Tagged, Record}
use Rattle.raft_log_model_laws.specs.Item.Record.{Plain, Part}
use Rattle.raft_log_model_laws.specs.Item.Mark.{Begin, Middle, End}
use Rattle.raft_log_model_laws.specs.Fragments.{Head, head, then_head, Unfinished, without, more, next_unfinished, unfinished_after, unfinished, go_on, carried_on}
use Rattle.raft_log_model_laws.specs.Fragments.Head.{GoesOn, Ends, BeginsAnew}
use Rattle.raft_log_model_laws.proofs.Cases.{at_bool}
use Rattle.raft_log_model_laws.proofs.Heads.{head_start}

pub number_test : (n k : ℕ) → (n == k) ≡ (k == n)
number_test n k = grind (arith, nat_tests)

if_append : {A : Type 0} (b : Bool) (x : A) (xs ys : List A) → (if b then xs ++ ys else x ∷ (xs ++ ys)) ≡ (if b then xs else x ∷ xs) ++ ys
if_append true x xs ys = refl
if_append false x xs ys = refl

pub without_append : {E V : Type 0} (n : ℕ) (us ps : List (Unfinished E V)) → without n (us ++ ps) ≡ without n us ++ without n ps
without_append n [] ps = refl
without_append n (u ∷ us) ps =
    ap (λ a. if u.number == n then a else u ∷ a) (without_append n us ps) ∙ if_append (u.number == n) u (without n us) (without n ps)

pub more_append : {E V : Type 0} (n : ℕ) (ys : List (Tagged E V)) (us ps : List (Unfinished E V)) → more n ys (us ++ ps) ≡ more n ys us ++ more n ys ps
more_append n ys [] ps = refl
more_append n ys (u ∷ us) ps =
    ap (λ a. record { number = u.number; items = if u.number == n then u.items ++ ys else u.items } ∷ a) (more_append n ys us ps)

-- a group that is taken out isn't carried on, where its number begins anew or ends
carried_without : {E V : Type 0} (n : ℕ) (h : Head E V) (heads : ℕ → Head E V) (us : List (Unfinished E V))
    → ((k : ℕ) (xs : List (Tagged E V)) → go_on k xs h ≡ [])
    → carried_on (without n us) heads ≡ carried_on us (λ k. if n == k then h else heads k)
carried_without n h heads [] none = refl
carried_without n h heads (u ∷ us) none =
    at_bool (u.number == n)
    (λ b. carried_on (if b then without n us else u ∷ without n us) heads
    ≡ go_on u.number u.items (if b then h else heads u.number) ++ carried_on us (λ k. if n == k then h else heads k))
    (λ _. carried_without n h heads us none ∙ sym (ap (λ a. a ++ carried_on us (λ k. if n == k then h else heads k)) (none u.number u.items)))
    (λ _. ap (λ a. go_on u.number u.items (heads u.number) ++ a) (carried_without n h heads us none))
    ∙ ap (λ b. go_on u.number u.items (if b then h else heads u.number) ++ carried_on us (λ k. if n == k then h else heads k)) (number_test u.number n)

go_on_more : {E V : Type 0} (k : ℕ) (xs ys : List (Tagged E V)) (h : Head E V) → go_on k (xs ++ ys) h ≡ go_on k xs (then_head (GoesOn ys) h)
go_on_more k xs ys (GoesOn zs) = ap (λ a. record { number = k; items = a } ∷ []) (append_assoc xs ys zs)
go_on_more k xs ys (Ends zs) = refl
go_on_more k xs ys BeginsAnew = refl

carried_more : {E V : Type 0} (n : ℕ) (ys : List (Tagged E V)) (rs : List (Record E V)) (us : List (Unfinished E V))
    → carried_on (more n ys us) (λ k. head k [] rs) ≡ carried_on us (λ k. if n == k then head k ys rs else head k [] rs)
carried_more n ys rs [] = refl
carried_more n ys rs (u ∷ us) =
    at_bool (u.number == n)
    (λ b. go_on u.number (if b then u.items ++ ys else u.items) (head u.number [] rs) ++ carried_on (more n ys us) (λ k. head k [] rs)
    ≡ go_on u.number u.items (if b then head u.number ys rs else head u.number [] rs) ++ carried_on us (λ k. if n == k then head k ys rs else head k [] rs))
    (λ _. ap₂ (λ a b. a ++ b)
    (go_on_more u.number u.items ys (head u.number [] rs) ∙ ap (go_on u.number u.items) (sym (head_start u.number ys rs)))
    (carried_more n ys rs us))
    (λ _. ap (λ a. go_on u.number u.items (head u.number [] rs) ++ a) (carried_more n ys rs us))
    ∙ ap (λ b. go_on u.number u.items (if b then head u.number ys rs else head u.number [] rs) ++ carried_on us (λ k. if n == k then head k ys rs else head k [] rs))
    (number_test u.number n)

carried_all : {E V : Type 0} (us ps : List (Unfinished E V)) → us ++ ps ≡ carried_on us (λ n. GoesOn []) ++ ps
carried_all [] ps = refl
carried_all (u ∷ us) ps = ap₂ (λ a b. a ∷ b) (ap (λ a. record { number = u.number; items = a }) (sym (append-nil u.items))) (carried_all us ps)

-- of the groups that are open before a segment, those that it carries on stand before those that it begins
pub unfinished_join : {E V : Type 0} (us ps : List (Unfinished E V)) (rs : List (Record E V))
    → unfinished_after (us ++ ps) rs ≡ carried_on us (λ n. head n [] rs) ++ unfinished_after ps rs
unfinished_join us ps [] = carried_all us ps
unfinished_join us ps (Plain xs ∷ rs) = unfinished_join us ps rs
unfinished_join us ps (Part (Begin n) xs ∷ rs) =
    ap (λ a. unfinished_after (a ++ (record { number = n; items = xs } ∷ [])) rs) (without_append n us ps)
    ∙ (ap (λ a. unfinished_after a rs) (append_assoc (without n us) (without n ps) (record { number = n; items = xs } ∷ []))
    ∙ (unfinished_join (without n us) (without n ps ++ (record { number = n; items = xs } ∷ [])) rs
    ∙ ap (λ a. a ++ unfinished_after (without n ps ++ (record { number = n; items = xs } ∷ [])) rs)
    (carried_without n BeginsAnew (λ k. head k [] rs) us (λ k ys. refl))))
unfinished_join us ps (Part (Middle n) xs ∷ rs) =
    ap (λ a. unfinished_after a rs) (more_append n xs us ps)
    ∙ (unfinished_join (more n xs us) (more n xs ps) rs
    ∙ ap (λ a. a ++ unfinished_after (more n xs ps) rs) (carried_more n xs rs us))
unfinished_join us ps (Part (End n) xs ∷ rs) =
    ap (λ a. unfinished_after a rs) (without_append n us ps)
    ∙ (unfinished_join (without n us) (without n ps) rs
    ∙ ap (λ a. a ++ unfinished_after (without n ps) rs) (carried_without n (Ends xs) (λ k. head k [] rs) us (λ k ys. refl)))

unfinished_after_append : {E V : Type 0} (us : List (Unfinished E V)) (xs ys : List (Record E V))
    → unfinished_after us (xs ++ ys) ≡ unfinished_after (unfinished_after us xs) ys
unfinished_after_append us [] ys = refl
unfinished_after_append us (x ∷ xs) ys = unfinished_after_append (next_unfinished us x) xs ys

pub unfinished_append : {E V : Type 0} (xs ys : List (Record E V))
    → unfinished (xs ++ ys) ≡ carried_on (unfinished xs) (λ n. head n [] ys) ++ unfinished ys
unfinished_append xs ys =
    unfinished_after_append [] xs ys
    ∙ (ap (λ a. unfinished_after a ys) (sym (append-nil (unfinished xs))) ∙ unfinished_join (unfinished xs) [] ys)

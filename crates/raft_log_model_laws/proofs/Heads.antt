-- The pieces of atomic groups at a segment's borders, where segments are joined.
use Rattle.std.proofs.Common.{◌≡◌, ℕ, ◌==◌, List, [], ◌∷◌, ◌++◌, Bool, true, false, if◌then◌else◌, refl, sym, ap, ◌∙◌, append_assoc, append-nil}
use Rattle.raft_log_model_laws.specs.Item.{Tagged, Record}
use Rattle.raft_log_model_laws.specs.Item.Record.{Plain, Part}
use Rattle.raft_log_model_laws.specs.Item.Mark.{Begin, Middle, End}
use Rattle.raft_log_model_laws.specs.Fragments.{head, then_head}
use Rattle.raft_log_model_laws.specs.Fragments.Head.{GoesOn, Ends}

-- a case on a test inside a head
if_same : {A B : Type 0} (f : A → B) (b : Bool) (x y : A) (u v : B) → f x ≡ u → f y ≡ v → f (if b then x else y) ≡ (if b then u else v)
if_same f true x y u v e d = e
if_same f false x y u v e d = d

-- what a group has so far goes before what its head has
pub head_from : {E V : Type 0} (n : ℕ) (xs ys : List (Tagged E V)) (rs : List (Record E V)) → then_head (GoesOn xs) (head n ys rs) ≡ head n (xs ++ ys) rs
head_from n xs ys [] = refl
head_from n xs ys (Plain zs ∷ rs) = head_from n xs ys rs
head_from n xs ys (Part (Begin k) zs ∷ rs) = if_same (then_head (GoesOn xs)) (k == n) _ _ _ _ refl (head_from n xs ys rs)
head_from n xs ys (Part (Middle k) zs ∷ rs) =
    if_same (then_head (GoesOn xs)) (k == n) _ _ _ _ (head_from n xs (ys ++ zs) rs ∙ ap (λ a. head n a rs) (sym (append_assoc xs ys zs))) (head_from n xs ys rs)
head_from n xs ys (Part (End k) zs ∷ rs) = if_same (then_head (GoesOn xs)) (k == n) _ _ _ _ (ap Ends (sym (append_assoc xs ys zs))) (head_from n xs ys rs)

pub head_start : {E V : Type 0} (n : ℕ) (xs : List (Tagged E V)) (rs : List (Record E V)) → head n xs rs ≡ then_head (GoesOn xs) (head n [] rs)
head_start n xs rs = sym (head_from n xs [] rs ∙ ap (λ a. head n a rs) (append-nil xs))

pub head_append : {E V : Type 0} (n : ℕ) (zs : List (Tagged E V)) (xs ys : List (Record E V)) → head n zs (xs ++ ys) ≡ then_head (head n zs xs) (head n [] ys)
head_append n zs [] ys = head_start n zs ys
head_append n zs (Plain ws ∷ xs) ys = head_append n zs xs ys
head_append n zs (Part (Begin k) ws ∷ xs) ys = sym (if_same (λ h. then_head h (head n [] ys)) (k == n) _ _ _ _ refl (sym (head_append n zs xs ys)))
head_append n zs (Part (Middle k) ws ∷ xs) ys =
    sym (if_same (λ h. then_head h (head n [] ys)) (k == n) _ _ _ _ (sym (head_append n (zs ++ ws) xs ys)) (sym (head_append n zs xs ys)))
head_append n zs (Part (End k) ws ∷ xs) ys = sym (if_same (λ h. then_head h (head n [] ys)) (k == n) _ _ _ _ refl (sym (head_append n zs xs ys)))

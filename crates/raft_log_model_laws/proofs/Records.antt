-- What records say, where lists of records are joined.
use Rattle.std.proofs.Common.{◌≡◌, ℕ, List, [], ◌∷◌, ◌++◌, Bool, true, false, ◌==◌, if◌then◌else◌, refl, sym, ap, ◌∙◌, append_assoc}
use Rattle.raft_log_model_laws.specs.Item.{Tagged, Record, items_of}
use Rattle.raft_log_model_laws.specs.Groups.{of_group, contents, Open, counts, opens, settle, opened, appended}

same_or_not : {A : Type 0} (b : Bool) (x : A) (xs ys : List A) → (if b then x ∷ (xs ++ ys) else (xs ++ ys)) ≡ (if b then x ∷ xs else xs) ++ ys
same_or_not true x xs ys = refl
same_or_not false x xs ys = refl

pub of_group_append : {E V : Type 0} (g : ℕ) (xs ys : List (Tagged E V)) → of_group g (xs ++ ys) ≡ of_group g xs ++ of_group g ys
of_group_append g [] ys = refl
of_group_append g (x ∷ xs) ys =
    ap (λ zs. if x.group == g then x.item ∷ zs else zs) (of_group_append g xs ys)
    ∙ same_or_not (x.group == g) x.item (of_group g xs) (of_group g ys)

pub contents_append : {E V : Type 0} (xs ys : List (Record E V)) → contents (xs ++ ys) ≡ contents xs ++ contents ys
contents_append [] ys = refl
contents_append (r ∷ rs) ys =
    ap (λ zs. items_of r ++ zs) (contents_append rs ys) ∙ sym (append_assoc (items_of r) (contents rs) (contents ys))

pub appended_append : {E V : Type 0} (g : ℕ) (xs ys : List (Record E V)) → appended g (xs ++ ys) ≡ appended g xs ++ appended g ys
appended_append g xs ys = ap (of_group g) (contents_append xs ys) ∙ of_group_append g (contents xs) (contents ys)

pub settle_append : {E V : Type 0} (o : Open E V) (xs ys : List (Record E V))
    → settle o (xs ++ ys) ≡ settle o xs ++ settle (opened o xs) ys
settle_append o [] ys = refl
settle_append o (r ∷ rs) ys =
    ap (λ zs. counts o r ++ zs) (settle_append (opens o r) rs ys)
    ∙ sym (append_assoc (counts o r) (settle (opens o r) rs) (settle (opened (opens o r) rs) ys))

pub opened_append : {E V : Type 0} (o : Open E V) (xs ys : List (Record E V)) → opened o (xs ++ ys) ≡ opened (opened o xs) ys
opened_append o [] ys = refl
opened_append o (r ∷ rs) ys = opened_append (opens o r) rs ys

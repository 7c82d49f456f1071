-- Marks on places that can't be read.
use Rattle.std.specs.Prelude.{◌≡◌, ℕ, ◌+◌, ◌<◌, ◌≤◌, Bool, true, false, cond, suc, Some, List, [], ◌∷◌, ◌++◌, length}
use Rattle.std.proofs.Common.{refl, sym, ◌∙◌, ap, inl, inr, nat_eq, get_or, drop, add-one}
use Rattle.std.proofs.Math.Seq.{drop-cons}
use Rattle.std.proofs.lemmas.Bool.{cases_eq, eq-eqb}
use Rattle.std.proofs.lemmas.List.{drop_all}
use std.Path.{fun_ext}
use Rattle.raft_log_fs.specs.Calls.{marked}
use Rattle.raft_log_fs_memory.specs.Memory.{is_denied}
use Rattle.raft_log_fs_state.proofs.Public.{miss}

swap : (a b m n x : Bool) → cond m (cond n true (cond a (cond b true x) x)) (cond a (cond b true x) x) ≡ cond a (cond b true (cond m (cond n true x) x)) (cond m (cond n true x) x)
swap false b m n x = refl
swap true false m n x = refl
swap true true false n x = refl
swap true true true false x = refl
swap true true true true x = refl

mark_more : (marks : List (ℕ × ℕ)) (file place id at : ℕ) → is_denied (marks ++ (file, place) ∷ []) id at ≡ marked (Some file) place (is_denied marks) id at
mark_more [] file place id at = refl
mark_more (mark ∷ marks) file place id at =
    ap (λ (x : Bool). cond (nat_eq mark.0 id) (cond (nat_eq mark.1 at) true x) x) (mark_more marks file place id at)
    ∙ swap (nat_eq file id) (nat_eq place at) (nat_eq mark.0 id) (nat_eq mark.1 at) (is_denied marks id at)

-- one mark more
pub marks_more : (marks : List (ℕ × ℕ)) (file place : ℕ) → is_denied (marks ++ (file, place) ∷ []) ≡ marked (Some file) place (is_denied marks)
marks_more marks file place = fun_ext (λ id. fun_ext (λ at. mark_more marks file place id at))

-- from a place of the list on
pub denied_here : (marks : List (ℕ × ℕ)) (i id : ℕ) → i < length marks → (get_or marks i (0, 0)).0 ≡ id → is_denied (drop i marks) id (get_or marks i (0, 0)).1 ≡ true
denied_here marks i id lt is =
    let m = get_or marks i (0, 0) in
    let rest = is_denied (drop (suc i) marks) id m.1 in
    ap (λ (ms : List (ℕ × ℕ)). is_denied ms id m.1) (drop-cons marks i (0, 0) lt)
    ∙ (ap (λ (b : Bool). cond b (cond (nat_eq m.1 m.1) true rest) rest) (eq-eqb m.0 id is)
    ∙ ap (λ (b : Bool). cond b true rest) (eq-eqb m.1 m.1 refl))

apart_mark : (file place id at : ℕ) (rest : Bool) → (file ≡ id → place ≡ at → ⊥) → cond (nat_eq file id) (cond (nat_eq place at) true rest) rest ≡ rest
apart_mark file place id at rest apart = elim (cases_eq file id) [
  | inl same ↦ ap (λ (b : Bool). cond b (cond (nat_eq place at) true rest) rest) (eq-eqb file id same) ∙ ap (λ (b : Bool). cond b true rest) (miss place at (apart same))
  | inr differs ↦ ap (λ (b : Bool). cond b (cond (nat_eq place at) true rest) rest) (miss file id differs)
]

pub denied_past : (marks : List (ℕ × ℕ)) (i id at : ℕ) → i < length marks → ((get_or marks i (0, 0)).0 ≡ id → (get_or marks i (0, 0)).1 ≡ at → ⊥)
    → is_denied (drop i marks) id at ≡ is_denied (drop (i + 1) marks) id at
denied_past marks i id at lt apart =
    let m = get_or marks i (0, 0) in
    let rest = is_denied (drop (suc i) marks) id at in
    ap (λ (ms : List (ℕ × ℕ)). is_denied ms id at) (drop-cons marks i (0, 0) lt)
    ∙ (apart_mark m.0 m.1 id at rest apart ∙ ap (λ (j : ℕ). is_denied (drop j marks) id at) (sym (add-one i)))

pub denied_none : (marks : List (ℕ × ℕ)) (i id at : ℕ) → length marks ≤ i → is_denied (drop i marks) id at ≡ false
denied_none marks i id at past = ap (λ (ms : List (ℕ × ℕ)). is_denied ms id at) (drop_all i marks past)

-- One element more of a list that is changed in place.
use Rattle.std.proofs.Common.{◌≡◌, ℕ, suc, ◌+◌, ◌<◌, ◌≤◌, List, [], ◌∷◌, ◌++◌, length, take, drop, map, get_or, sym, ap, ◌∙◌, append_assoc, add-one, arith}
use Rattle.std.specs.Prelude.{Bool, cond, Some, None}
use Rattle.std.proofs.lemmas.Bool.{eq-eqb}
use Rattle.std.proofs.Math.ListN.{set}
use Rattle.std.proofs.Math.Seq.{drop-cons, set-append_seam, get_or-append_seam}
use Rattle.raft_log_fs_memory.specs.Turns.{front_of}
use Rattle.raft_log_fs_state.proofs.Public.{miss}
use Rattle.std.proofs.lemmas.List.{take_more, take_all, drop_all, append-nil, map-append, length-take-le, length-map}

inner_get : {X : Type 0} (d : X) (front old : List X) (i : ℕ) → length front ≡ i → i < length old → get_or (front ++ drop i old) i d ≡ get_or old i d
inner_get {X} d front old i len lt =
    ap (λ (l : List X). get_or (front ++ l) i d) (drop-cons old i d lt) ∙ ap (λ (j : ℕ). get_or (front ++ get_or old i d ∷ drop (suc i) old) j d) (sym len)
    ∙ get_or-append_seam front (get_or old i d) (drop (suc i) old) d

inner_set : {X : Type 0} (d : X) (front old : List X) (i : ℕ) (x : X) → length front ≡ i → i < length old → set (front ++ drop i old) i x ≡ (front ++ x ∷ []) ++ drop (i + 1) old
inner_set {X} d front old i x len lt =
    let cut : set (front ++ drop i old) i x ≡ front ++ x ∷ drop (suc i) old =
    ap (λ (l : List X). set (front ++ l) i x) (drop-cons old i d lt) ∙ ap (λ (j : ℕ). set (front ++ get_or old i d ∷ drop (suc i) old) j x) (sym len)
    ∙ set-append_seam front (get_or old i d) (drop (suc i) old) x in
    cut ∙ ap (λ (j : ℕ). front ++ x ∷ drop j old) (sym (add-one i)) ∙ sym (append_assoc front (x ∷ []) (drop (i + 1) old))

pub mapped_step : {X : Type 0} (d : X) (f : X → X) (old xs : List X) (i : ℕ) → i < length old → xs ≡ map f (take i old) ++ drop i old
    → set xs i (f (get_or xs i d)) ≡ map f (take (i + 1) old) ++ drop (i + 1) old
mapped_step {X} d f old xs i lt is =
    let front : List X = map f (take i old) in
    let x : X = get_or old i d in
    let len : length front ≡ i = length-map (take i old) f ∙ length-take-le i old (omega arith) in
    let here : get_or xs i d ≡ x = ap (λ (l : List X). get_or l i d) is ∙ inner_get d front old i len lt in
    let more : map f (take (i + 1) old) ≡ front ++ f x ∷ [] = ap (λ (l : List X). map f l) (take_more old i d lt) ∙ map-append f (take i old) (x ∷ []) in
    ap (λ (y : X). set xs i (f y)) here
    ∙ ap (λ (l : List X). set l i (f x)) is
    ∙ inner_set d front old i (f x) len lt
    ∙ ap (λ (l : List X). l ++ drop (i + 1) old) (sym more)

-- a vector's slice, written back whole
pub written_back : {X : Type 0} (len : ℕ) (new items : List X) → length new ≡ length items → length items ≤ len → take len (new ++ drop (length new) items) ≡ new
written_back {X} len new items same fits =
    let past : drop (length new) items ≡ [] = drop_all (length new) items (omega (arith, same)) in
    ap (λ (l : List X). take len (new ++ l)) past ∙ (ap (take len) (append-nil new) ∙ take_all len new (omega (arith, same, fits)))

-- the front that is written at the next call, from a place on
pub front_here : (parts : List (ℕ × ℕ)) (i : ℕ) → i < length parts → (get_or parts i (0, 0)).0 ≡ 1 → front_of (drop i parts) ≡ Some (get_or parts i (0, 0)).1
front_here parts i lt is =
    ap front_of (drop-cons parts i (0, 0) lt)
    ∙ ap (λ (b : Bool). cond b (Some (get_or parts i (0, 0)).1) (front_of (drop (suc i) parts))) (eq-eqb (get_or parts i (0, 0)).0 1 is)

pub front_past : (parts : List (ℕ × ℕ)) (i : ℕ) → i < length parts → ((get_or parts i (0, 0)).0 ≡ 1 → ⊥) → front_of (drop i parts) ≡ front_of (drop (i + 1) parts)
front_past parts i lt apart =
    ap front_of (drop-cons parts i (0, 0) lt)
    ∙ (ap (λ (b : Bool). cond b (Some (get_or parts i (0, 0)).1) (front_of (drop (suc i) parts))) (miss (get_or parts i (0, 0)).0 1 apart)
    ∙ ap (λ (j : ℕ). front_of (drop j parts)) (sym (add-one i)))

pub front_none : (parts : List (ℕ × ℕ)) (i : ℕ) → length parts ≤ i → front_of (drop i parts) ≡ None
front_none parts i past = ap front_of (drop_all i parts past)

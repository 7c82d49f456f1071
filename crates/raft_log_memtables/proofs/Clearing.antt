-- What is done to each table by itself is done to what shows of each group, and a table that isn't needed goes.
use Rattle.std.proofs.Common.{◌≡◌, ℕ, Bool, true, false, List, [], ◌∷◌, Option, Some, None, cond, is_some, refl, sym, subst}
use Rattle.std.specs.Map.Calls.{RetainsPairs}
use Rattle.raft_log_memtables.specs.declared.group_table.GroupTable.{GroupTable}
use Rattle.raft_log_memtables.proofs.Ready.{by_group, same_or_apart}
use Rattle.raft_log_memtables.proofs.Segments.{AllOnce, found, found_first, found_later}

module _ (K D : GroupTable → GroupTable → Type 0) where
  -- what is left of a table: another one, and of both the first holds; or none, and of what it came to the
  -- second
  abbrev pub IsLeftOf : Option GroupTable → Option GroupTable → Type 0
  IsLeftOf None None = Unit {0}
  IsLeftOf None (Some u) = ⊥
  IsLeftOf (Some t) None = (u : GroupTable) × D t u
  IsLeftOf (Some t) (Some u) = K t u

  gone : (o p : Option GroupTable) → IsLeftOf o p → o ≡ None → p ≡ None
  gone None None h e = refl
  gone None (Some u) h e = absurd h
  gone (Some t) p h e = absurd (let clash : Some t ≡ None = e in let never : ⊥ = cc in never)

  -- what holds of what is told of both tables holds of what is told of the group
  pub told_left : {A : Type 0} (at : Option GroupTable → A) (change : A → A) → change (at None) ≡ at None
      → ((t u : GroupTable) → K t u → at (Some u) ≡ change (at (Some t))) → ((t u : GroupTable) → D t u → at None ≡ change (at (Some t)))
      → (o p : Option GroupTable) → IsLeftOf o p → at p ≡ change (at o)
  told_left at change none some lost None None h = sym none
  told_left at change none some lost None (Some u) h = absurd h
  told_left at change none some lost (Some t) None h = lost t h.0 h.1
  told_left at change none some lost (Some t) (Some u) h = some t u h

  -- and what holds of each table that is left
  pub each_left : (P : Option GroupTable → Type 0) → ((t u : GroupTable) → K t u → P (Some u)) → (o p : Option GroupTable) → IsLeftOf o p → is_some p ≡ true → P p
  each_left P some None None h e = absurd (let clash : false ≡ true = e in let never : ⊥ = cc in never)
  each_left P some None (Some u) h e = absurd h
  each_left P some (Some t) None h e = absurd (let clash : false ≡ true = e in let never : ⊥ = cc in never)
  each_left P some (Some t) (Some u) h e = some t u h

  module _ {F : Type 0} (T : F → ℕ → GroupTable → Bool → GroupTable → F → Type 0) where
    -- each group's table is what the calls made of it, which answer whether it stays
    pub left_tables : ((f : F) (k : ℕ) (v : GroupTable) (b : Bool) (w : GroupTable) (f' : F) → T f k v b w f' → (b ≡ true → K v w) × (b ≡ false → D v w))
        → (f : F) (es kept : List (ℕ × GroupTable)) → AllOnce es → RetainsPairs T f es kept → (g : ℕ) → IsLeftOf (found es g) (found kept g)
    left_tables each f [] kept once r g = subst (λ l. IsLeftOf None (found l g)) (sym r) tt
    left_tables each f (e ∷ es) kept once r g =
        let told = each f e.0 e.1 r.0 r.1 r.2 r.4 in
        subst (λ l. IsLeftOf (found (e ∷ es) g) (found l g)) (sym r.6) (by_answer (left_tables each r.2 es r.3 once.1 r.5) r.0 told.0 told.1)
      where
        by_answer : ((k : ℕ) → IsLeftOf (found es k) (found r.3 k)) → (b : Bool) → (b ≡ true → K e.1 r.1) → (b ≡ false → D e.1 r.1) → IsLeftOf (found (e ∷ es) g) (found (cond b ((e.0, r.1) ∷ r.3) r.3) g)
        by_answer rest true kept lost =
            by_group e.0 g (same_or_apart e.0 g)
            (λ t is. subst (λ (k : ℕ). IsLeftOf (found (e ∷ es) k) (found ((e.0, r.1) ∷ r.3) k)) is
            (subst (λ o. IsLeftOf o (found ((e.0, r.1) ∷ r.3) e.0)) (sym (found_first e es))
            (subst (λ o. IsLeftOf (Some e.1) o) (sym (found_first (e.0, r.1) r.3)) (kept refl))))
            (λ apart. subst (λ o. IsLeftOf o (found ((e.0, r.1) ∷ r.3) g)) (sym (found_later e es g apart))
            (subst (λ o. IsLeftOf (found es g) o) (sym (found_later (e.0, r.1) r.3 g apart)) (rest g)))
        by_answer rest false kept lost =
            by_group e.0 g (same_or_apart e.0 g)
            (λ t is. subst (λ (k : ℕ). IsLeftOf (found (e ∷ es) k) (found r.3 k)) is
            (subst (λ o. IsLeftOf o (found r.3 e.0)) (sym (found_first e es))
            (subst (λ o. IsLeftOf (Some e.1) o) (sym (gone (found es e.0) (found r.3 e.0) (rest e.0) once.0)) (r.1, lost refl))))
            (λ apart. subst (λ o. IsLeftOf o (found r.3 g)) (sym (found_later e es g apart)) (rest g))

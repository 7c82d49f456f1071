-- What bounds leave out lies not within, so that what is walked between them lists the same.
use Rattle.std.proofs.Common.{◌≡◌, ℕ, Bool, true, false, not, ◌&&◌, List, [], ◌∷◌, Option, Some, None, cond, if◌then◌else◌, IfSome, refl, sym, ap, ◌∙◌}
use Rattle.std.specs.BTreeMap.Range.{entries_between, is_from_start, is_past_end, range_contains, IsLeBy, IsLtBy}
use Rattle.std.specs.Cmp.Lexicographic.{slice_cmp, nat_list_cmp_total}
use Rattle.std.specs.Ordering.{is_gt, is_le, is_lt, nat_cmp, ordering_reverse}
use Rattle.std.specs.declared.cmp.Ordering.{Ordering}
use Rattle.std.specs.declared.cmp.Ordering.TheVariants.{Less, Equal, Greater}
use Rattle.std.specs.Range.Bound.{IsForward}
use Rattle.std.specs.declared.ops.Bound.{Bound}
use Rattle.raft_log_model_laws.proofs.Public.{at_bool}
use Rattle.raft_log_memtable_index.specs.declared.key_map.KeySlot.{KeySlot}
use Rattle.raft_log_memtable_index.specs.Bounds.{below_bound, by_bytes_cmp, from_bound, later_end, IsBoundAround}
use Rattle.raft_log_memtable_index.specs.Bridge.{bytes_held}
use Rattle.raft_log_memtable_index.specs.Keys.{shown_value}
use Rattle.raft_log_memtable_index.specs.Listing.{is_below, is_from}
use Rattle.raft_log_memtable_index.proofs.ByteKeys.{by_bytes}
use Rattle.raft_log_memtable_index.proofs.Listing.{listed, with_found, within_in}

clash : {P : Type 0} → true ≡ false → P
clash h = absurd (let never : ⊥ = cc in never)

turned_about : (r : Ordering) → is_lt (ordering_reverse r) ≡ not (is_le r)
turned_about Less = refl
turned_about Equal = refl
turned_about Greater = refl

-- a key isn't from a start on and below an earlier end
none_between : (s e k : List ℕ) → is_gt (slice_cmp nat_cmp s e) ≡ true → (is_le (slice_cmp nat_cmp s k) && is_lt (slice_cmp nat_cmp k e)) ≡ false
none_between s e k back = by_cases (slice_cmp nat_cmp s k) refl (slice_cmp nat_cmp k e) refl
  where
    ahead : slice_cmp nat_cmp s e ≡ Less → {P : Type 0} → P
    ahead h = clash (sym back ∙ ap is_gt h)

    by_cases : (a : Ordering) → slice_cmp nat_cmp s k ≡ a → (b : Ordering) → slice_cmp nat_cmp k e ≡ b → (is_le a && is_lt b) ≡ false
    by_cases Less p Less q = ahead (nat_list_cmp_total.trans s k e p q)
    by_cases Less p Equal q = refl
    by_cases Less p Greater q = refl
    by_cases Equal p Less q = ahead (nat_list_cmp_total.congr s k e p ∙ q)
    by_cases Equal p Equal q = refl
    by_cases Equal p Greater q = refl
    by_cases Greater p b q = refl

and_false : (a b : Bool) → b ≡ false → (a && b) ≡ false
and_false true b h = h
and_false false b h = refl

-- what is not below the later end is not within
below_later : (start end : Option (List ℕ)) (k : List ℕ) → is_below (later_end start end) k ≡ false → (is_from start k && is_below end k) ≡ false
below_later None end k h = h
below_later (Some s) None k h = clash h
below_later (Some s) (Some e) k h =
    at_bool (is_gt (slice_cmp nat_cmp s e))
    (λ b. is_gt (slice_cmp nat_cmp s e) ≡ b → is_below (if b then Some s else Some e) k ≡ false → (is_from (Some s) k && is_below (Some e) k) ≡ false)
    (λ _ back _. none_between s e k back)
    (λ _ _ out. and_false (is_from (Some s) k) (is_below (Some e) k) out)
    refl h

same_not_past : (s : List ℕ) → is_gt (slice_cmp nat_cmp s s) ≡ false
same_not_past s = by_case (slice_cmp nat_cmp s s) refl
  where
    by_case : (r : Ordering) → slice_cmp nat_cmp s s ≡ r → is_gt (slice_cmp nat_cmp s s) ≡ false
    by_case Less h = ap is_gt h
    by_case Equal h = ap is_gt h
    by_case Greater h = absurd (let turn : Greater ≡ Less = sym h ∙ nat_list_cmp_total.antisymm s s ∙ ap ordering_reverse h in let never : ⊥ = cc in never)

-- the later end isn't below the start
later_forward : (s end l : List ℕ) → later_end (Some s) (Some end) ≡ Some l → is_gt (slice_cmp nat_cmp s l) ≡ false
later_forward s end l h =
    at_bool (is_gt (slice_cmp nat_cmp s end))
    (λ b. is_gt (slice_cmp nat_cmp s end) ≡ b → (if b then Some s else Some end) ≡ Some l → is_gt (slice_cmp nat_cmp s l) ≡ false)
    (λ _ back is. ap (λ x. is_gt (slice_cmp nat_cmp s x)) (sym (same_some s l is)) ∙ same_not_past s)
    (λ _ ahead is. ap (λ x. is_gt (slice_cmp nat_cmp s x)) (sym (same_some end l is)) ∙ ahead)
    refl h
  where
    same_some : (x y : List ℕ) → ◌≡◌ {A = Option (List ℕ)} (Some x) (Some y) → x ≡ y
    same_some x y e = cc

module _ {K : Type 0} (items : K → List ℕ) where
  out_of_start : (start : Option (List ℕ)) (a : Option K) → IfSome a (λ v. start ≡ Some (items v)) → (k : K)
      → is_from_start (by_bytes_cmp items) (from_bound a) k ≡ false → is_from start (items k) ≡ false
  out_of_start start None h k e = clash e
  out_of_start start (Some v) h k e = ap (λ s. is_from s (items k)) h ∙ e

  out_of_end : (end : Option (List ℕ)) (b : Option K) → IfSome b (λ v. end ≡ Some (items v)) → (k : K)
      → not (is_past_end (by_bytes_cmp items) (below_bound b) k) ≡ false → is_below end (items k) ≡ false
  out_of_end end None h k e = clash e
  out_of_end end (Some v) h k e =
      ap (λ s. is_below s (items k)) h ∙ ap is_lt (nat_list_cmp_total.antisymm (items k) (items v)) ∙ turned_about (slice_cmp nat_cmp (items v) (items k)) ∙ e

  either_out : (a b c d : Bool) → (a ≡ false → (c && d) ≡ false) → (b ≡ false → (c && d) ≡ false) → (a && b) ≡ false → (c && d) ≡ false
  either_out false b c d f g h = f refl
  either_out true b c d f g h = g h

  not_from : (start end : Option (List ℕ)) (k : List ℕ) → is_from start k ≡ false → (is_from start k && is_below end k) ≡ false
  not_from start end k h = ap (λ b. b && is_below end k) h

  bounds_forward : (start end : Option (List ℕ)) (a b : Option K) → IfSome a (λ v. start ≡ Some (items v)) → IfSome b (λ v. later_end start end ≡ Some (items v))
      → IsForward (IsLeBy (by_bytes_cmp items)) (IsLtBy (by_bytes_cmp items)) (from_bound a) (below_bound b)
  bounds_forward start end None b h g = tt
  bounds_forward start end (Some v) None h g = tt
  bounds_forward start end (Some v) (Some w) h g = ends end (ap (λ s. later_end s end) (sym h) ∙ g)
    where
      ends : (e : Option (List ℕ)) → later_end (Some (items v)) e ≡ Some (items w) → is_gt (slice_cmp nat_cmp (items v) (items w)) ≡ false
      ends None is = absurd (let never : ⊥ = cc in never)
      ends (Some e) is = later_forward (items v) e (items w) is

  -- copies of the ends, as far as there is memory for them, bound all that lies within
  pub bounds_around : (start end : Option (List ℕ)) (a b : Option K) → IfSome a (λ v. start ≡ Some (items v)) → IfSome b (λ v. later_end start end ≡ Some (items v))
      → IsBoundAround items start end (from_bound a, below_bound b)
  bounds_around start end a b h g = record {
    forward = bounds_forward start end a b h g;
    around = λ k e. either_out (is_from_start (by_bytes_cmp items) (from_bound a) k) (not (is_past_end (by_bytes_cmp items) (below_bound b) k))
        (is_from start (items k)) (is_below end (items k))
        (λ out. not_from start end (items k) (out_of_start start a h k out))
        (λ out. below_later start end (items k) (out_of_end (later_end start end) b g k out)) e;
  }

  -- what lies between the bounds lists all that lies within
  pub listed_between : (start end : Option (List ℕ)) (b : Bound K × Bound K) → IsBoundAround items start end b → (es : List (K × KeySlot))
      → listed (within_in start end) (by_bytes items (entries_between (by_bytes_cmp items) b.0 b.1 es)) ≡ listed (within_in start end) (by_bytes items es)
  listed_between start end b h [] = refl
  listed_between start end b h (e ∷ es) =
      at_bool (range_contains (by_bytes_cmp items) b.0 b.1 e.0)
      (λ t. range_contains (by_bytes_cmp items) b.0 b.1 e.0 ≡ t
      → listed (within_in start end) (by_bytes items (cond t (e ∷ entries_between (by_bytes_cmp items) b.0 b.1 es) (entries_between (by_bytes_cmp items) b.0 b.1 es)))
      ≡ listed (within_in start end) (by_bytes items (e ∷ es)))
      (λ _ _. ap (with_found (items e.0) (within_in start end (items e.0) e.1)) (listed_between start end b h es))
      (λ _ out. listed_between start end b h es
      ∙ ap (λ o. with_found (items e.0) o (listed (within_in start end) (by_bytes items es)))
      (sym (ap (λ t. if t then bytes_held (shown_value e.1.held) else None) (h.around e.0 out))))
      refl

  pub walked_between : (start end : Option (List ℕ)) (b : Bound K × Bound K) → IsBoundAround items start end b → (es rest : List (K × KeySlot)) (now : List (List ℕ × KeySlot))
      → by_bytes items es ≡ now → rest ≡ entries_between (by_bytes_cmp items) b.0 b.1 es → listed (within_in start end) (by_bytes items rest) ≡ listed (within_in start end) now
  walked_between start end b h es rest now is between =
      ap (λ l. listed (within_in start end) (by_bytes items l)) between ∙ listed_between start end b h es ∙ ap (listed (within_in start end)) is

-- Tables in which nothing stands.
use Rattle.std.proofs.Common.{◌≡◌, ℕ, zero, suc, ◌-◌, ◌&&◌, ◌||◌, not, Bool, true, false, if◌then◌else◌, List, [], ◌∷◌, length, take, drop, Option, Some, None, bytes_eq, nat_lt, refl, sym, ap, subst, ◌∙◌, arith}
use Rattle.std.specs.BTreeMap.{get}
use Rattle.std.specs.Option.{option_or}
use Rattle.std.specs.Ordering.{nat_cmp}
use Rattle.raft_log_model_laws.proofs.Public.{if_false, if_true, lt_false}
use Rattle.raft_log_extents.specs.declared.place.Place.{Place}
use Rattle.raft_log_memtable_index.specs.Shown.{KeyValue, Shown}
use Rattle.raft_log_memtable_index.specs.Bridge.{unmarked}
use Rattle.raft_log_memtable_index.specs.Replayed.{joined, left, merged, nothing_replayed, with_entries, with_newer, Replayed}
use Rattle.raft_log_memtable.specs.Moves.{key_rewritten, rewritten_to}
use Rattle.raft_log_memtables.specs.Bare.{HasNothing}
use Rattle.raft_log_memtables.specs.Tables.{counts, counts_in, shown_in, shown_of}
use Rattle.raft_log_memtables.specs.declared.group_table.GroupTable.{GroupTable}
use Rattle.raft_log_memtables.specs.declared.mem_tables.MemTables.{MemTables}

never : {P : Type 0} → true ≡ false → P
never h = let no : ⊥ = cc in absurd no

-- a group that doesn't count
pub uncounted_bare : (m : MemTables) (g : ℕ) → counts m g ≡ false → HasNothing (shown_of m g)
uncounted_bare m g h = at_table (get nat_cmp m.groups g) h
  where
    at_table : (o : Option GroupTable) → counts_in o ≡ false → HasNothing (shown_in o)
    at_table None h = record { entries = refl; values = λ k. refl }
    at_table (Some t) h = t.bare h

no_drop : (n : ℕ) (ps : List Place) → length ps ≡ 0 → length (drop n ps) ≡ 0
no_drop zero ps h = h
no_drop (suc n) [] h = refl
no_drop (suc n) (p ∷ ps) h = absurd (omega (arith, h))

no_take : (n : ℕ) (ps : List Place) → length ps ≡ 0 → length (take n ps) ≡ 0
no_take zero ps h = refl
no_take (suc n) [] h = refl
no_take (suc n) (p ∷ ps) h = absurd (omega (arith, h))

no_left : (v : Shown) (low : ℕ) (high : Option ℕ) → length v.places ≡ 0 → length (left v low high).places ≡ 0
no_left v low None h = no_drop (low - v.first) v.places h
no_left v low (Some i) h = no_take _ (drop (low - v.first) v.places) (no_drop (low - v.first) v.places h)

-- what comes behind nothing, or over it, and has nothing itself
newer_bare : (v : Shown) (z : Replayed) → HasNothing v → HasNothing z.table → HasNothing (with_newer v z)
newer_bare v z a b = record {
  entries = ap (λ (w : Shown). length w.places) none_over ∙ no_left v z.low z.high a.entries;
  values = λ k. ap (λ o. option_or o (if z.table.deleted k then None else v.held k)) (b.values k) ∙ either (z.table.deleted k) (v.held k) (a.values k);
}
  where
    either : (t : Bool) (o : Option KeyValue) → o ≡ None → (if t then None else o) ≡ None
    either true o h = refl
    either false o h = h

    none_over : with_entries v z ≡ left v z.low z.high
    none_over = if_false (nat_lt 0 (length z.table.places)) _ (left v z.low z.high) (lt_false 0 (length z.table.places) (let none = b.entries in omega (arith, none)))

neither : (c b d : Bool) → (c || (b && not d)) ≡ false → d ≡ false → (c ≡ false) × (b ≡ false)
neither true b d h e = never h
neither false true true h e = never e
neither false true false h e = never h
neither false false d h e = (refl, refl)

later_not : (c e : Bool) → (c || e) ≡ false → c ≡ false
later_not true e h = h
later_not false e h = refl

-- where neither segment leaves the group counting
pub joined_bare : (a z : Replayed) (b c : Bool) → (b ≡ false → HasNothing a.table) → (c ≡ false → HasNothing z.table) → (c || (b && not z.table.cleaned)) ≡ false
    → HasNothing (joined a z).table
joined_bare a z b c h k counted = at_clean z.table.cleaned refl
  where
    at_clean : (d : Bool) → z.table.cleaned ≡ d → HasNothing (joined a z).table
    at_clean true t = subst (λ w. HasNothing w.table) (sym (if_true z.table.cleaned z _ t)) (k (later_not c (b && not z.table.cleaned) counted))
    at_clean false t =
        let both = neither c b z.table.cleaned counted t in
        subst (λ w. HasNothing w.table) (sym (if_false z.table.cleaned z _ t)) (newer_bare a.table z (h both.1) (k both.0))

pub merged_bare : (v : Shown) (z : Replayed) (b c : Bool) → (b ≡ false → HasNothing v) → (c ≡ false → HasNothing z.table) → (c || (b && not z.table.cleaned)) ≡ false → HasNothing (merged v z)
merged_bare v z b c h k counted = at_clean z.table.cleaned refl
  where
    without_marks : HasNothing v → HasNothing (unmarked v)
    without_marks bare = record { entries = bare.entries; values = bare.values }

    at_clean : (d : Bool) → z.table.cleaned ≡ d → HasNothing (merged v z)
    at_clean true t = subst HasNothing (sym (if_true z.table.cleaned z.table (with_newer (unmarked v) z) t)) (k (later_not c (b && not z.table.cleaned) counted))
    at_clean false t =
        let both = neither c b z.table.cleaned counted t in
        subst HasNothing (sym (if_false z.table.cleaned z.table (with_newer (unmarked v) z) t)) (newer_bare (unmarked v) z (without_marks (h both.1)) (k both.0))

pub alone_bare : (z : Replayed) → HasNothing z.table → HasNothing (joined nothing_replayed z).table
alone_bare z h = joined_bare nothing_replayed z false false (λ _. record { entries = refl; values = λ k. refl }) (λ _. h) refl

-- a key that was written to Rewrite
pub keyed_bare : (gate : Option ℕ) (n : ℕ) (v : Shown) (j : List ℕ) → HasNothing v → HasNothing (key_rewritten gate v j n)
keyed_bare gate n v j h = record { entries = h.entries; values = λ k. at_key k (bytes_eq j k) }
  where
    at_key : (k : List ℕ) (t : Bool) → (if t then rewritten_to gate n (v.held j) else v.held k) ≡ None
    at_key k true = ap (rewritten_to gate n) (h.values j)
    at_key k false = h.values k

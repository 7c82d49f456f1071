-- The marks that are owed are steps of the whereabouts.
use Rattle.std.proofs.Common.{◌≡◌, ℕ, ◌+◌, ◌<◌, ◌⊎◌, Bool, true, false, List, [], ◌∷◌, ◌++◌, Option, if◌then◌else◌, nat_lt, refl, sym, ap, subst, inl, inr, arith}
use Rattle.std.proofs.Math.Path.{fun_ext}
use Rattle.raft_log_model_laws.specs.Item.{Item}
use Rattle.raft_log_model_laws.specs.Item.Item.{Clean, Compact}
use Rattle.raft_log_model_laws.specs.Meaning.{Slot, Content}
use Rattle.raft_log_model_laws.proofs.Public.{from_lt_false, from_lt_true}
use Rattle.raft_log_machine_laws.specs.Whereabouts.{Whereabouts, top, CarriesAll, with_key}
use Rattle.raft_log_memtable_index.specs.Shown.{Shown, whereabouts}
use Rattle.raft_log_memtable_index.specs.Bridge.{dels, compact_owed, marks, AllOwed, without, unmarked}

module _ {E : Type 0} (m : Slot → Option (Content E (List ℕ))) where
  -- the Dels
  dels_carry : (t : Whereabouts) (ks : List (List ℕ)) (u : Whereabouts) → AllOwed t.deleted ks → u ≡ record t { deleted = without t.deleted ks }
      → CarriesAll m t (dels ks) u
  dels_carry t [] u h e = e
  dels_carry t (k ∷ ks) u h e =
      (record t { deleted = with_key t.deleted k false }, (inl h.0, refl), dels_carry (record t { deleted = with_key t.deleted k false }) ks u h.1 e)

  -- a mark, then others
  compact_carries : (t : Whereabouts) (owed : Bool) (c : ℕ) (xs : List (Item E (List ℕ))) (u : Whereabouts) → t.compacted ≡ owed
      → ((t.first < t.split) × (c ≡ t.first)) ⊎ ((t.first ≡ t.split) × (c ≡ top)) → CarriesAll m (record t { compacted = false }) xs u
      → CarriesAll m t ((if owed then Compact c ∷ [] else []) ++ xs) u
  compact_carries t true c xs u is which h = (record t { compacted = false }, (which, refl), h)
  compact_carries t false c xs u is which h = subst (λ w. CarriesAll m w xs u) (ap (λ b. record t { compacted = b }) (sym is)) h

  clean_carries : (t : Whereabouts) (owed : Bool) (xs : List (Item E (List ℕ))) (u : Whereabouts) → t.cleaned ≡ owed
      → CarriesAll m (record t { cleaned = false }) xs u → CarriesAll m t ((if owed then Clean ∷ [] else []) ++ xs) u
  clean_carries t true xs u is h = (record t { cleaned = false }, (inl is, refl), h)
  clean_carries t false xs u is h = subst (λ w. CarriesAll m w xs u) (ap (λ b. record t { cleaned = b }) (sym is)) h

  which_index : (v : Shown) → (b : Bool) → nat_lt 0 v.rewritten ≡ b
      → ((v.first < v.first + v.rewritten) × ((if b then v.first else top) ≡ v.first)) ⊎ ((v.first ≡ v.first + v.rewritten) × ((if b then v.first else top) ≡ top))
  which_index v true e = inl (let some = from_lt_true 0 v.rewritten e in omega arith, refl)
  which_index v false e = inr (let none = from_lt_false 0 v.rewritten e in omega arith, refl)

  -- all of them
  pub marks_carry : (v : Shown) (ks : List (List ℕ)) → AllOwed v.deleted ks → ((k : List ℕ) → without v.deleted ks k ≡ false)
      → CarriesAll m (whereabouts v) (marks v ks) (whereabouts (unmarked v))
  marks_carry v ks owed none =
      clean_carries (whereabouts v) v.cleaned (compact_owed v ++ dels ks) (whereabouts (unmarked v)) refl
      (compact_carries (record (whereabouts v) { cleaned = false }) v.compacted (if nat_lt 0 v.rewritten then v.first else top) (dels ks) (whereabouts (unmarked v)) refl
      (which_index v (nat_lt 0 v.rewritten) refl)
      (dels_carry (record (whereabouts v) { cleaned = false; compacted = false }) ks (whereabouts (unmarked v)) owed
      (ap (λ d. record (whereabouts v) { cleaned = false; compacted = false; deleted = d }) (sym (fun_ext none)))))

-- What is told of a group's keys.
use Rattle.std.proofs.Common.{◌≡◌, ◌&&◌, ◌++◌, ℕ, Bool, true, false, List, [], Option, None, refl, sym, ap, subst, ◌∙◌, if◌then◌else◌}
use Rattle.std.specs.List.Sorted.{IsStrictlySortedBy}
use Rattle.raft_log_memtable_index.specs.Listing.{AddsAll, ListsAll, Visits, in_direction, is_below, is_from, values_within}
use Rattle.raft_log_memtable_index.specs.Bridge.{bytes_held}
use Rattle.raft_log_memtable_index.specs.Shown.{Shown, nothing_shown}
use Rattle.raft_log_purge.specs.raft_log_engine_laws.specs.EngineState.{EngineState}
use Rattle.raft_log_purge.specs.raft_log_engine_laws.specs.Reading.{ReadsKeys}
use Rattle.raft_log_purge.specs.raft_log_engine_laws.proofs.Public.{tables_tell}
use Rattle.raft_log_engine_core.specs.Reads.{ScansKeys}

-- of a group of which nothing shows there are no keys
none_within : (start end : Option (List ℕ)) (k : List ℕ) → ◌≡◌ {A = Option (List ℕ)} None (values_within start end nothing_shown k)
none_within start end k = by (is_from start k) (is_below end k)
  where
    by : (a b : Bool) → ◌≡◌ {A = Option (List ℕ)} None (if a && b then bytes_held None else None)
    by true true = refl
    by true false = refl
    by false b = refl

none_keys : (start end : Option (List ℕ)) → ListsAll (values_within start end nothing_shown) []
unfolding IsStrictlySortedBy
none_keys start end = record { rising = tt; exact = λ k. none_within start end k }

-- keys that were added to none are the map's
pub keys_added : (e : EngineState) (g : ℕ) (start end : Option (List ℕ)) (v : Shown) (old new : List (List ℕ × List ℕ)) → e.tables g ≡ v → old ≡ [] → AddsAll (values_within start end v) old new
    → ReadsKeys e g start end new
keys_added e g start end v old new same none (es, listed, adds) =
    let is : new ≡ es = adds ∙ ap (λ (l : List (List ℕ × List ℕ)). l ++ es) none in
    subst (ReadsKeys e g start end) (sym is) (tables_tell.keys e g start end es (subst (λ (u : Shown). ListsAll (values_within start end u) es) (sym same) listed))

pub none_added : (e : EngineState) (g : ℕ) (start end : Option (List ℕ)) (new : List (List ℕ × List ℕ)) → e.tables g ≡ nothing_shown → new ≡ [] → ReadsKeys e g start end new
none_added e g start end new same none = keys_added e g start end nothing_shown [] new same refl ([], none_keys start end, none)

module _ {F : Type 0} (called : F → List ℕ → List ℕ → Bool → F → Type 0) (f : F) (e : EngineState) (g : ℕ) (start end : Option (List ℕ)) (backwards : Bool) where
  -- what the group's table calls back with is the map's
  pub scanned : (v : Shown) → e.tables g ≡ v → ((es : List (List ℕ × List ℕ)) × ListsAll (values_within start end v) es × Visits called f (in_direction backwards es))
      → ScansKeys called f e g start end backwards
  scanned v same (es, listed, calls) =
      (es, tables_tell.keys e g start end es (subst (λ (u : Shown). ListsAll (values_within start end u) es) (sym same) listed), calls)

  pub none_scanned : e.tables g ≡ nothing_shown → ScansKeys called f e g start end backwards
  none_scanned same = scanned nothing_shown same ([], none_keys start end, quiet backwards)
    where
      quiet : (b : Bool) → Visits called f (in_direction b [])
      quiet true = tt
      quiet false = tt

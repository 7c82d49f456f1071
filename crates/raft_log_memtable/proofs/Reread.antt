-- A table that takes what is read again, and a later table over it.
use Rattle.std.proofs.Common.{◌≡◌, ℕ, ◌+◌, ◌-◌, ◌≤◌, min, Bool, true, false, ◌&&◌, ◌||◌, List, [], ◌∷◌, ◌++◌, length, take, Option, Some, None, if◌then◌else◌, nat_lt, refl, ap, ap₂, ◌∙◌, arith, append-nil}
use Rattle.std.specs.Option.{option_or}
use Rattle.raft_log_model_laws.specs.Item.{Item}
use Rattle.raft_log_model_laws.specs.Item.Item.{Run, Clean, Compact, Put, Del}
use Rattle.raft_log_model_laws.specs.Holes.{is_past}
use Rattle.raft_log_model_laws.proofs.Public.{at_bool, from_lt_false}
use Rattle.raft_log_record_items.specs.declared.entry.EntryIndex.{EntryIndex}
use Rattle.raft_log_extents.specs.declared.place.Place.{Place}
use Rattle.raft_log_extents.specs.Entries.{run_of}
use Rattle.raft_log_memtable_index.specs.Shown.{Shown, span, stepped}
use Rattle.raft_log_memtable_index.specs.Replayed.{Replayed, both_noted, left, low_with, replay_step, run_over, with_newer}
use Rattle.raft_log_memtable.specs.Replays.{under}

-- an item of Append that is read is one that is taken
pub append_step : (n : ℕ) (v : Shown) (x : Item Place (List ℕ)) → stepped n v x ≡ replay_step true n v x
append_step n v (Run f []) = refl
append_step n v (Run f (p ∷ ps)) = refl
append_step n v Clean = refl
append_step n v (Compact c) = refl
append_step n v (Put k w) = refl
append_step n v (Del k) = refl

pub same_low : (es : List EntryIndex) (low : ℕ) → low ≡ low_with (run_of es) low
same_low [] low = refl
same_low (e ∷ es) low = refl

-- with the keys and marks of both
abbrev pub keyed : Shown → Shown → Replayed → Shown
keyed u v z = record u {
  held = λ k. option_or (z.table.held k) (if z.table.deleted k then None else v.held k);
  deleted = λ k. z.table.deleted k || v.deleted k;
  cleaned = v.cleaned;
  compacted = z.table.compacted || v.compacted;
  noted = both_noted v.noted z.table.noted;
}

-- a table with the Compact and the noted files of a later one
abbrev pub noted_too : Shown → Replayed → Shown
noted_too v z = record v { compacted = z.table.compacted || v.compacted; noted = both_noted v.noted z.table.noted }

-- its places behind, its keys over those there
abbrev pub final : Shown → Replayed → Shown
final g z = record g {
  places = g.places ++ z.table.places;
  rewritten = g.rewritten + z.table.rewritten;
  held = λ k. option_or (z.table.held k) (if z.table.deleted k then None else g.held k);
  deleted = λ k. z.table.deleted k || g.deleted k;
}

no_places : (ps : List Place) → length ps ≤ 0 → ps ≡ []
no_places [] h = refl
no_places (p ∷ ps) h = absurd (omega arith)

-- over what is left of a table
over_kept : (k : Shown) (z : Replayed) → z.table.rewritten ≤ length z.table.places
    → final (if nat_lt 0 (length z.table.places) then under (noted_too k z) z.table.first else noted_too k z) z
    ≡ keyed (if nat_lt 0 (length z.table.places) then run_over k z.table.first z.table.places z.table.rewritten else k)
    k z
over_kept k z within =
    at_bool (nat_lt 0 (length z.table.places))
    (λ b. nat_lt 0 (length z.table.places) ≡ b
    → final (if b then under (noted_too k z) z.table.first else noted_too k z) z
    ≡ keyed (if b then run_over k z.table.first z.table.places z.table.rewritten else k) k z)
    (λ _ _. run_case (is_past (span k) z.table.first))
    (λ _ none. let empty = no_places z.table.places (from_lt_false 0 (length z.table.places) none) in
    let no_count : z.table.rewritten ≡ 0 = (let few = from_lt_false 0 (length z.table.places) none in omega arith) in
    ap₂ (λ ps n. record (keyed k k z) { places = ps; rewritten = n })
    (ap (λ ps. k.places ++ ps) empty ∙ append-nil k.places) (let same : k.rewritten + z.table.rewritten ≡ k.rewritten = omega arith in same))
    refl
  where
    run_case : (past : Bool)
        → final (if past then record (noted_too k z) { first = z.table.first; places = []; rewritten = 0 }
        else record (noted_too k z) {
          first = if nat_lt k.first z.table.first && nat_lt 0 (length k.places) then k.first else z.table.first;
          places = take (z.table.first - k.first) k.places;
          rewritten = min k.rewritten (z.table.first - k.first);
        }) z
        ≡ keyed (if past then record k { first = z.table.first; places = z.table.places; rewritten = z.table.rewritten }
        else record k {
          first = if nat_lt k.first z.table.first && nat_lt 0 (length k.places) then k.first else z.table.first;
          places = take (z.table.first - k.first) k.places ++ z.table.places;
          rewritten = min k.rewritten (z.table.first - k.first) + z.table.rewritten;
        }) k z
    run_case true =
        ap (λ n. record (keyed k k z) { first = z.table.first; places = z.table.places; rewritten = n })
        (let same : 0 + z.table.rewritten ≡ z.table.rewritten = omega arith in same)
    run_case false = refl

-- so a later table comes over one
newer_by : (v : Shown) (z : Replayed) (low : ℕ) (high : Option ℕ) → z.table.rewritten ≤ length z.table.places
    → final (if nat_lt 0 (length z.table.places) then under (left (noted_too v z) low high) z.table.first else left (noted_too v z) low high) z
    ≡ keyed (if nat_lt 0 (length z.table.places) then run_over (left v low high) z.table.first z.table.places z.table.rewritten else left v low high) v z
newer_by v z low None within = over_kept (left v low None) z within
newer_by v z low (Some h) within = over_kept (left v low (Some h)) z within

pub newer_shows : (v n g : Shown) (z : Replayed) → n ≡ left (noted_too v z) z.low z.high
    → g ≡ (if nat_lt 0 (length z.table.places) then under n z.table.first else n) → z.table.rewritten ≤ length z.table.places → final g z ≡ with_newer v z
newer_shows v n g z e h within =
    ap (λ u. final u z) (h ∙ ap (λ u. if nat_lt 0 (length z.table.places) then under u z.table.first else u) e)
    ∙ newer_by v z z.low z.high within

pub replays : (a b : Replayed) → a.table ≡ b.table → a.low ≡ b.low → a.high ≡ b.high → a ≡ b
replays a b t l h = ap₂ (λ x y. record { table = x; low = y; high = a.high }) t l ∙ ap (λ x. record { table = b.table; low = b.low; high = x }) h

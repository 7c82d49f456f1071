-- What was read, behind nothing, and with nothing behind it.
use Rattle.std.proofs.Common.{◌≡◌, ℕ, zero, suc, ◌-◌, ◌≤◌, max, Bool, true, false, ◌&&◌, List, [], ◌∷◌, ◌++◌, length, take, drop, Option, Some, None, if◌then◌else◌, nat_lt, refl, sym, ap, ap₂, ◌∙◌, arith}
use Rattle.std.proofs.Math.Path.{fun_ext}
use Rattle.raft_log_model_laws.specs.Holes.{is_past}
use Rattle.raft_log_model_laws.specs.Summary.{lesser}
use Rattle.raft_log_model_laws.proofs.Public.{at_bool, from_lt_false}
use Rattle.raft_log_extents.specs.declared.place.Place.{Place}
use Rattle.raft_log_memtable_index.specs.Shown.{nothing_shown, span}
use Rattle.raft_log_memtable_index.specs.Replayed.{Replayed, joined, left, nothing_replayed, run_over, with_entries, with_newer, LeavesHole}
use Rattle.raft_log_memtable_index.proofs.Public.{nothing_left, or_false, same_held, same_note, shows}
use Rattle.raft_log_memtable.specs.Replays.{begin_alone}
use Rattle.raft_log_memtable.proofs.Reread.{replays}

-- nothing behind it changes nothing
pub joined_last : (a : Replayed) → joined a nothing_replayed ≡ a
joined_last a =
    replays (joined a nothing_replayed) a
    (shows (with_newer a.table nothing_replayed) a.table (omega arith) (ap (λ n. drop n a.table.places) (let none : 0 - a.table.first ≡ 0 = omega arith in none))
    (omega arith) refl refl refl refl (same_note a.table.noted)) (omega arith) refl

no_places : (ps : List Place) → length ps ≤ 0 → ps ≡ []
no_places [] h = refl
no_places (p ∷ ps) h = absurd (omega arith)

never_past : (b : Bool) → (b && false) ≡ false
never_past true = refl
never_past false = refl

-- a run over nothing
run_alone : (f : ℕ) (ps : List Place) (count : ℕ) → run_over nothing_shown f ps count ≡ record nothing_shown { first = f; places = ps; rewritten = count }
run_alone f ps count =
    shows (run_over nothing_shown f ps count) (record nothing_shown { first = f; places = ps; rewritten = count })
    (ap (λ (b : Bool). if b then 0 else f) (never_past (nat_lt 0 f))) (ap (λ (l : List Place). l ++ ps) (none_taken (f - 0))) (omega arith) refl refl refl refl refl
  where
    none_taken : (n : ℕ) → ◌≡◌ {A = List Place} (take n []) []
    none_taken zero = refl
    none_taken (suc n) = refl

entries_alone : (z : Replayed) → z.table.rewritten ≤ length z.table.places
    → with_entries nothing_shown z ≡ record nothing_shown { first = if nat_lt 0 (length z.table.places) then z.table.first else 0; places = z.table.places; rewritten = z.table.rewritten }
entries_alone z within =
    at_bool (nat_lt 0 (length z.table.places))
    (λ b. nat_lt 0 (length z.table.places) ≡ b
    → (if b then run_over (left nothing_shown z.low z.high) z.table.first z.table.places z.table.rewritten else left nothing_shown z.low z.high)
    ≡ record nothing_shown { first = if b then z.table.first else 0; places = z.table.places; rewritten = z.table.rewritten })
    (λ _ _. ap (λ u. run_over u z.table.first z.table.places z.table.rewritten) (nothing_left 0 z.low z.high) ∙ run_alone z.table.first z.table.places z.table.rewritten)
    (λ _ none. let few = from_lt_false 0 (length z.table.places) none in
    nothing_left 0 z.low z.high
    ∙ ap₂ (λ ps n. record nothing_shown { places = ps; rewritten = n }) (sym (no_places z.table.places few)) (let zero : 0 ≡ z.table.rewritten = omega arith in zero))
    refl

lesser_none : (high : Option ℕ) → lesser high None ≡ high
lesser_none None = refl
lesser_none (Some h) = refl

-- behind nothing it stays, but that without entries it begins at 0
pub joined_first : (z : Replayed) → z.table.rewritten ≤ length z.table.places
    → record z { table = record z.table { first = begin_alone z.table } } ≡ joined nothing_replayed z
joined_first z within =
    at_bool z.table.cleaned
    (λ b. z.table.cleaned ≡ b
    → record z { table = record z.table { first = if b then z.table.first else (if nat_lt 0 (length z.table.places) then z.table.first else 0) } }
    ≡ (if b then z else record { table = with_newer nothing_shown z; low = max z.low 0; high = lesser z.high None }))
    (λ _ _. refl)
    (λ _ clean. let same = entries_alone z within in
    sym (replays (record { table = with_newer nothing_shown z; low = max z.low 0; high = lesser z.high None })
    (record z { table = record z.table { first = if nat_lt 0 (length z.table.places) then z.table.first else 0 } })
    (shows (with_newer nothing_shown z) (record z.table { first = if nat_lt 0 (length z.table.places) then z.table.first else 0 })
    (ap (λ u. u.first) same) (ap (λ u. u.places) same) (ap (λ u. u.rewritten) same)
    (fun_ext (λ k. same_held (z.table.held k) (z.table.deleted k))) (fun_ext (λ k. sym (or_false (z.table.deleted k)))) (sym clean)
    (sym (or_false z.table.compacted)) refl) (omega arith) (lesser_none z.high)))
    refl

-- and it leaves no hole there
pub nothing_fits : (z : Replayed) → LeavesHole nothing_shown z → ⊥
nothing_fits z h =
    let past : is_past (span (left nothing_shown z.low z.high)) z.table.first ≡ true = h.3 in
    let clash : false ≡ true = sym (ap (λ v. is_past (span v) z.table.first) (nothing_left 0 z.low z.high)) ∙ past in
    let never : ⊥ = cc in never

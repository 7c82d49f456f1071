-- A group that stands in one queue alone: its table is the merged one.
use Rattle.std.proofs.Common.{◌≡◌, ℕ, zero, suc, ◌+◌, ◌-◌, ◌<◌, ◌≤◌, min, Bool, true, false, ◌&&◌, List, [], ◌∷◌, ◌++◌, map, length, take, drop, Option, Some, None, if◌then◌else◌, nat_lt, refl, sym, ap, ap₂, subst, ◌∙◌, inl, inr, arith}
use Rattle.std.specs.Option.{option_or}
use Rattle.std.proofs.lemmas.Bool.{cases_lt}
use Rattle.std.proofs.Math.Path.{fun_ext}
use Rattle.raft_log_model_laws.specs.Item.{Item}
use Rattle.raft_log_model_laws.specs.Meaning.{Slot, holds}
use Rattle.raft_log_model_laws.specs.Meaning.Slot.{Index, Key}
use Rattle.raft_log_model_laws.specs.Meaning.Content.{Entry}
use Rattle.raft_log_model_laws.specs.Holes.{is_past, IsSolid}
use Rattle.raft_log_model_laws.specs.Table.{content}
use Rattle.raft_log_model_laws.specs.Summary.{word}
use Rattle.raft_log_model_laws.proofs.Public.{at_bool, content_above, content_below, from_lt_false, if_false, le_true, lt_false, none_some, stands_in, table_holds}
use Rattle.raft_log_machine_laws.specs.Recovery.{IsRecovered}
use Rattle.raft_log_machine_laws.specs.Whereabouts.{top}
use Rattle.raft_log_extents.specs.declared.place.Place.{Place}
use Rattle.raft_log_memtable_index.specs.declared.group_files.GroupFiles.{GroupFiles}
use Rattle.raft_log_memtable_index.specs.Shown.{KeyValue, Shown, nothing_shown, span, whereabouts}
use Rattle.raft_log_memtable_index.specs.Bridge.{IsMeant, Located, unmarked}
use Rattle.raft_log_memtable_index.specs.Replayed.{IsReplayed, Replayed, AllStandsIn, both_noted, left, merged, nothing_replayed, run_over, standing, summary_of, told, with_entries, with_newer}
use Rattle.raft_log_memtable_index.proofs.Replays.{or_false, read_nothing, run_kept}
use Rattle.raft_log_memtable_index.proofs.Merging.{meant, merged_means, merged_recovers}

-- what stands by one queue alone is one run
pub solid_alone : (q : Bool) (xs : List (Item Located KeyValue)) (z : Replayed) → IsReplayed q xs z → IsSolid (λ i. holds (Index i) xs)
solid_alone q xs z h i j k a b low high from to =
    let same : (i : ℕ) → content (standing z.table) (Index i) ≡ holds (Index i) xs = λ i. table_holds (summary_of z) xs (Index i) h.summary in
    let first = elim (cases_lt i (standing z.table).first) as (λ _. (standing z.table).first ≤ i)
    [ inl under ↦ absurd (none_some (holds (Index i) xs) a (sym (same i) ∙ content_below (standing z.table) i under) from) | inr ok ↦ ok ] in
    let last = elim (cases_lt k ((standing z.table).first + length (standing z.table).entries)) as (λ _. k < (standing z.table).first + length (standing z.table).entries)
    [ inl ok ↦ ok | inr over ↦ absurd (none_some (holds (Index k) xs) b (sym (same k) ∙ content_above (standing z.table) k over) to) ] in
    let it = stands_in (standing z.table) j (omega arith) (omega arith) in
    (Entry it.0, sym (same j) ∙ it.1)

-- what shows is the same where each part is
pub shows : (u w : Shown) → u.first ≡ w.first → u.places ≡ w.places → u.rewritten ≡ w.rewritten → u.held ≡ w.held → u.deleted ≡ w.deleted → u.cleaned ≡ w.cleaned
    → u.compacted ≡ w.compacted → u.noted ≡ w.noted → u ≡ w
shows u w a b c d e f g h =
    ap₂ (λ x y. record u { first = x; places = y }) a b ∙ ap₂ (λ x y. record u { first = w.first; places = w.places; rewritten = x; held = y }) c d
    ∙ ap₂ (λ x y. record u { first = w.first; places = w.places; rewritten = w.rewritten; held = w.held; deleted = x; cleaned = y }) e f
    ∙ ap₂ (λ x y. record w { compacted = x; noted = y }) g h

-- Rewrite alone
pub same_note : (n : Option GroupFiles) → both_noted n None ≡ n
same_note None = refl
same_note (Some files) = refl

pub rewrite_alone : (v : Shown) → merged v nothing_replayed ≡ unmarked v
rewrite_alone v =
    shows (merged v nothing_replayed) (unmarked v) (omega arith) (ap (λ n. drop n v.places) (let none : 0 - v.first ≡ 0 = omega arith in none)) (omega arith)
    refl refl refl refl (same_note v.noted)

-- Append alone
abbrev pub empty_at : ℕ → Shown
empty_at n = record nothing_shown { first = n }

drop_none : (n : ℕ) → ◌≡◌ {A = List Place} (drop n []) []
drop_none zero = refl
drop_none (suc n) = refl

take_none : (n : ℕ) → ◌≡◌ {A = List Place} (take n []) []
take_none zero = refl
take_none (suc n) = refl

nothing_above : (n low : ℕ) → left (empty_at n) low None ≡ empty_at n
nothing_above n low = shows (left (empty_at n) low None) (empty_at n) (omega arith) (drop_none (low - n)) (omega arith) refl refl refl refl refl

-- of nothing nothing is left
pub nothing_left : (n low : ℕ) (high : Option ℕ) → left (empty_at n) low high ≡ empty_at n
nothing_left n low None = nothing_above n low
nothing_left n low (Some h) =
    ap (λ (t : Shown). record t { places = take (h - t.first) t.places; rewritten = min t.rewritten (h - t.first) }) (nothing_above n low)
    ∙ shows _ (empty_at n) refl (take_none (h - n)) (omega arith) refl refl refl refl refl

over_nothing : (n : ℕ) (ps : List Place) (count : ℕ) → run_over (empty_at n) n ps count ≡ record (empty_at n) { places = ps; rewritten = count }
over_nothing n ps count =
    let free : is_past (span (empty_at n)) n ≡ false = ap (λ b. b && nat_lt (n + 0) n) (lt_false n (n + 0) (omega arith)) in
    run_kept (empty_at n) n ps count free
    ∙ shows _ (record (empty_at n) { places = ps; rewritten = count })
    (if_false (nat_lt n n && nat_lt 0 0) n n (ap (λ b. b && nat_lt 0 0) (lt_false n n (omega arith))))
    (ap (λ l. l ++ ps) (take_none (n - n))) (omega arith) refl refl refl refl refl

pub same_held : (o : Option KeyValue) (d : Bool) → option_or o (if d then None else None) ≡ o
same_held None true = refl
same_held None false = refl
same_held (Some h) d = refl

no_places : (ps : List Place) → length ps ≤ 0 → [] ≡ ps
no_places [] h = refl
no_places (p ∷ ps) h = absurd (omega arith)

entries_alone : (z : Replayed) → AllStandsIn true z.table → with_entries (empty_at z.table.first) z
    ≡ record (empty_at z.table.first) { places = z.table.places; rewritten = z.table.rewritten }
entries_alone z t =
    at_bool (nat_lt 0 (length z.table.places))
    (λ b. nat_lt 0 (length z.table.places) ≡ b
    → (if b then run_over (left (empty_at z.table.first) z.low z.high) z.table.first z.table.places z.table.rewritten else left (empty_at z.table.first) z.low z.high)
    ≡ record (empty_at z.table.first) { places = z.table.places; rewritten = z.table.rewritten })
    (λ _ _. ap (λ u. run_over u z.table.first z.table.places z.table.rewritten) (nothing_left z.table.first z.low z.high)
    ∙ over_nothing z.table.first z.table.places z.table.rewritten)
    (λ _ none. nothing_left z.table.first z.low z.high
    ∙ ap₂ (λ ps n. record (empty_at z.table.first) { places = ps; rewritten = n })
    (no_places z.table.places (from_false none)) (let zero' = t.entries in omega arith))
    refl
  where
    from_false : nat_lt 0 (length z.table.places) ≡ false → length z.table.places ≤ 0
    from_false h = from_lt_false 0 (length z.table.places) h

pub append_alone : (z : Replayed) → AllStandsIn true z.table → merged (empty_at z.table.first) z ≡ z.table
append_alone z t =
    at_bool z.table.cleaned (λ b. z.table.cleaned ≡ b → (if b then z.table else with_newer (unmarked (empty_at z.table.first)) z) ≡ z.table)
    (λ _ _. refl)
    (λ _ clean. let same = entries_alone z t in
    shows (with_newer (unmarked (empty_at z.table.first)) z) z.table (ap (λ u. u.first) same) (ap (λ u. u.places) same) (ap (λ u. u.rewritten) same)
    (fun_ext (λ k. same_held (z.table.held k) (z.table.deleted k))) (fun_ext (λ k. sym (or_false (z.table.deleted k)))) (sym clean)
    (sym (or_false z.table.compacted)) refl)
    refl

silent : (n : ℕ) (s : Slot) → word (summary_of (record { table = empty_at n; low = 0; high = None })) s ≡ None
silent n (Index i) = ap (λ b. if b && true then None else Some (content (standing (empty_at n)) (Index i))) (le_true 0 i (omega arith))
silent n (Key k) = refl

empty_read : (n : ℕ) → n ≤ top → IsReplayed false [] (record { table = empty_at n; low = 0; high = None })
empty_read n h = let none = read_nothing false in record {
  summary = record { sound = λ some. absurd (omega arith); says = silent n };
  marks = record { cleaned = none.marks.cleaned; compacted = none.marks.compacted; deleted = none.marks.deleted; was_deleted = none.marks.was_deleted };
  queue = record { entries = none.queue.entries; values = none.queue.values };
  orderly = record { parts = omega arith; end = omega arith };
}

-- the laws
module _ {E : Type 0} (at : Located → E) where
  pub rewrite_means : (rewrite : List (Item Located KeyValue)) (r : Replayed) → IsReplayed false rewrite r → IsMeant at (unmarked r.table) (meant at rewrite [])
  rewrite_means rewrite r h =
      subst (λ v. IsMeant at v (meant at rewrite [])) (rewrite_alone r.table)
      (merged_means at rewrite [] r nothing_replayed h (read_nothing true) (solid_alone false rewrite r h))

  pub rewrite_recovers : (rewrite : List (Item Located KeyValue)) (r : Replayed) → IsReplayed false rewrite r
      → IsRecovered (meant at rewrite []) [] (whereabouts (unmarked r.table))
  rewrite_recovers rewrite r h =
      subst (λ v. IsRecovered (meant at rewrite []) [] (whereabouts v)) (rewrite_alone r.table)
      (merged_recovers at rewrite [] r nothing_replayed h (read_nothing true) (solid_alone false rewrite r h))

  pub append_means : (append : List (Item Located KeyValue)) (z : Replayed) → IsReplayed true append z → IsMeant at z.table (meant at [] append)
  append_means append z h =
      subst (λ v. IsMeant at v (meant at [] append)) (append_alone z h.queue)
      (merged_means at [] append (record { table = empty_at z.table.first; low = 0; high = None }) z
      (empty_read z.table.first (let end = h.orderly.end in omega arith)) h (solid_alone true append z h))

  pub append_recovers : (append : List (Item Located KeyValue)) (z : Replayed) → IsReplayed true append z
      → IsRecovered (meant at [] append) (map (told at) append) (whereabouts z.table)
  append_recovers append z h =
      subst (λ v. IsRecovered (meant at [] append) (map (told at) append) (whereabouts v)) (append_alone z h.queue)
      (merged_recovers at [] append (record { table = empty_at z.table.first; low = 0; high = None }) z
      (empty_read z.table.first (let end = h.orderly.end in omega arith)) h (solid_alone true append z h))

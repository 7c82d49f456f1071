-- What adds no marks to those that are owed.
use Rattle.std.proofs.Common.{◌≡◌, ℕ, ◌==◌, ◌-◌, Bool, true, false, nat_lt, length, take, drop, if◌then◌else◌, List, [], ◌∷◌, Option, Some, None, option_map, refl, sym, ap, subst, ◌∙◌}
use Rattle.std.proofs.lemmas.Bool.{false≢true}
use Rattle.std.specs.BTreeMap.{get}
use Rattle.std.specs.Ordering.{nat_cmp}
use Rattle.raft_log_model_laws.specs.Item.{Item, Tagged}
use Rattle.raft_log_model_laws.specs.Item.Item.{Run, Clean, Compact, Put, Del}
use Rattle.raft_log_model_laws.specs.Groups.{of_group}
use Rattle.raft_log_model_laws.proofs.Public.{at_bool, from_eq_true}
use Rattle.raft_log_extents.specs.declared.place.Place.{Place}
use Rattle.raft_log_memtable_index.specs.declared.group_files.GroupFiles.{GroupFiles}
use Rattle.raft_log_memtable_index.specs.Replayed.{Replayed}
use Rattle.raft_log_memtable_index.specs.Shown.{Shown}
use Rattle.raft_log_memtable_index.specs.Bridge.{unmarked}
use Rattle.raft_log_engine_laws.specs.raft_log_memtable.specs.Moves.{movable, rewritten_at}
use Rattle.raft_log_memtables.specs.declared.group_table.GroupTable.{GroupTable}
use Rattle.raft_log_memtables.specs.declared.mem_tables.MemTables.{MemTables}
use Rattle.raft_log_memtables.specs.Joining.{noted_in}
use Rattle.raft_log_memtables.specs.Rewriting.{TakesRewritten, all_rewritten, rewritten_item}
use Rattle.raft_log_memtables.specs.Tables.{ShowsSame, raw_of, replayed_of, shown_in, shown_of}
use Rattle.raft_log_engine_laws.specs.EngineState.{EngineState}
use Rattle.raft_log_engine_laws.proofs.Public.{shows_read}
use Rattle.raft_log_purge_copy.specs.Groups.{RewritesPart}
use Rattle.raft_log_purge_copy.specs.Owed.{AddsNoMarks, OweNoMore, OwesNoMore}

-- One group.

item_adds : (gate : Option ℕ) (n : ℕ) (u v : Shown) (x : Item Place (List ℕ)) → OwesNoMore u v → OwesNoMore u (rewritten_item gate n v x)
item_adds gate n u v (Run f ps) h =
    let there : Shown = rewritten_at v (f - v.first) (take (movable v gate (f - v.first) (length (drop (v.first - f) ps))) (drop (v.first - f) ps)) in
    at_bool (nat_lt v.rewritten (f - v.first)) (λ b. OwesNoMore u (if b then v else there)) (λ _. h) (λ _. record { cleaned = h.cleaned; compacted = h.compacted; deleted = h.deleted })
item_adds gate n u v (Put k w) h = record { cleaned = h.cleaned; compacted = h.compacted; deleted = h.deleted }
item_adds gate n u v Clean h = h
item_adds gate n u v (Compact c) h = h
item_adds gate n u v (Del k) h = h

items_add : (gate : Option ℕ) (n : ℕ) (u v : Shown) (xs : List (Item Place (List ℕ))) → OwesNoMore u v → OwesNoMore u (all_rewritten gate n v xs)
items_add gate n u v [] h = h
items_add gate n u v (x ∷ xs) h = items_add gate n u (rewritten_item gate n v x) xs (item_adds gate n u v x h)

note_adds : (files : GroupFiles) (u : Shown) (o : Option GroupTable) (z : Replayed) → z ≡ noted_in files (option_map (λ t. t.table) o) → OwesNoMore u (shown_in o) → OwesNoMore u z.table
note_adds files u None z is h = subst (λ (y : Replayed). OwesNoMore u y.table) (sym is) h
note_adds files u (Some t) z is h = subst (λ (y : Replayed). OwesNoMore u y.table) (sym is) (record { cleaned = h.cleaned; compacted = h.compacted; deleted = h.deleted })

-- All groups.

pub same_adds : (old new : MemTables) → ShowsSame old new → AddsNoMarks old new
same_adds old new same v h g = subst (OwesNoMore (v g)) (sym (same.shown g)) (h g)

pub unmarked_adds : (old new : MemTables) → ((g : ℕ) → shown_of new g ≡ unmarked (shown_of old g)) → AddsNoMarks old new
unmarked_adds old new none v h g =
    subst (OwesNoMore (v g)) (sym (none g)) (record { cleaned = λ is. absurd (false≢true is); compacted = λ is. absurd (false≢true is); deleted = λ k is. absurd (false≢true is) })

pub taken_adds : (gate : Option ℕ) (n : ℕ) (old new : MemTables) (xs : List (Tagged Place (List ℕ))) → TakesRewritten gate n old new xs → AddsNoMarks old new
taken_adds gate n old new xs takes v h g = subst (OwesNoMore (v g)) (sym (takes.shows g)) (items_add gate n (v g) (shown_of old g) (of_group g xs) (h g))

pub noted_adds : (old new : MemTables) (group : ℕ) (files : GroupFiles) → replayed_of new group ≡ noted_in files (raw_of old group) → ((g : ℕ) → (group == g) ≡ false → replayed_of new g ≡ replayed_of old g) → AddsNoMarks old new
noted_adds old new group files noted others v h g =
    at_bool (group == g) (λ b. (group == g) ≡ b → OwesNoMore (v g) (shown_of new g))
    (λ _ is.
    subst (λ (k : ℕ). OwesNoMore (v k) (shown_of new k)) (from_eq_true group g is)
    (subst (OwesNoMore (v group)) (shows_read (get nat_cmp new.groups group)) (note_adds files (v group) (get nat_cmp old.groups group) (replayed_of new group) noted (h group))))
    (λ _ is. subst (OwesNoMore (v g)) (sym (sym (shows_read (get nat_cmp new.groups g)) ∙ ap (λ (z : Replayed). z.table) (others g is) ∙ shows_read (get nat_cmp old.groups g))) (h g)) refl

-- a part of a group that was rewritten
pub part_adds : (test : ℕ → Bool) (gate : ℕ) (s t : EngineState) → RewritesPart test gate s t → (v : ℕ → Shown) → OweNoMore v s.tables → OweNoMore v t.tables
part_adds test gate s t part v h g =
    let p = part.parts g in
    let before = h g in
    record {
      cleaned = λ is. before.cleaned (sym p.cleaned ∙ is);
      compacted = λ is. before.compacted (sym p.compacted ∙ is);
      deleted = λ k is. before.deleted k (sym (ap (λ (f : List ℕ → Bool). f k) p.deleted) ∙ is);
    }

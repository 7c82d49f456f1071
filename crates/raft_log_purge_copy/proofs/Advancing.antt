-- What shows once a run that was copied lies in Rewrite.
use Rattle.std.proofs.Common.{◌≡◌, ℕ, ◌+◌, ◌≤◌, ◌==◌, List, [], ◌∷◌, length, drop, map, Some, ap, refl, ◌∙◌, arith}
use Rattle.std.proofs.lemmas.List.{length-map}
use Rattle.raft_log_model_laws.specs.Item.{Item}
use Rattle.raft_log_model_laws.specs.Item.Item.{Run}
use Rattle.raft_log_model_laws.specs.Groups.{of_group}
use Rattle.raft_log_model_laws.proofs.Public.{eq_true, if_false, if_true}
use Rattle.raft_log_record_items.specs.declared.entry.EntryIndex.{EntryIndex}
use Rattle.raft_log_record_items.specs.declared.item.LogItemContent.TheVariants as contents
use Rattle.raft_log_record_items.specs.Items.{item_of}
use Rattle.raft_log_record_items.specs.Placed.{written_entry}
use Rattle.raft_log_record_batches.specs.Batch.{Batch, block_place}
use Rattle.raft_log_extents.specs.declared.place.Place.{Place}
use Rattle.raft_log_extents.specs.Counts.{passing}
use Rattle.raft_log_extents.specs.Entries.{place_of}
use Rattle.raft_log_memtable_index.specs.Shown.{Shown}
use Rattle.raft_log_memtable_index.specs.Bridge.{moved_run}
use Rattle.raft_log_memtables.specs.Rewriting.{all_rewritten}
use Rattle.raft_log_memtables.proofs.Public.{run_moves}
use Rattle.raft_log_engine_laws.specs.EngineState.{EngineState}
use Rattle.raft_log_engine_laws.specs.Writing.{items_at}
use Rattle.raft_log_purge_copy.specs.Copies.{MovesCopies}
use Rattle.raft_log_purge_copy.specs.Moving.{Advances}
use Rattle.raft_log_purge_copy.proofs.OneRun.{items_there, run_places}

-- what shows of each group
shows_then : (gate : ℕ) (s t : EngineState) (b : Batch) (moved : MovesCopies (Some gate) b s t) (h : ℕ) (xs : List (Item Place (List ℕ))) → of_group h (items_at moved.block b) ≡ xs
    → t.tables h ≡ all_rewritten (Some gate) moved.block.id.seq (s.tables h) xs
shows_then gate s t b moved h xs is = ap (λ (f : ℕ → Shown). f h) moved.tables ∙ ap (all_rewritten (Some gate) moved.block.id.seq (s.tables h)) is

pub moved_on : (g gate : ℕ) (s t : EngineState) (b : Batch) (e : EntryIndex) (es : List EntryIndex) → b.items ≡ item_of g (contents.EntryIndexes (e ∷ es)) ∷ [] → e.index ≡ (s.tables g).first + (s.tables g).rewritten
    → length (e ∷ es) ≤ passing gate (drop (s.tables g).rewritten (s.tables g).places) → MovesCopies (Some gate) b s t → Advances g (length (e ∷ es)) s.tables t.tables
moved_on g gate s t b e es is first fits moved =
    let ps = run_places b e es moved.block in
    let v = s.tables g in
    let long = length-map (map (written_entry (block_place moved.block b.entries)) (e ∷ es)) place_of ∙ length-map (e ∷ es) (written_entry (block_place moved.block b.entries)) in
    let there = items_there g b e es is moved.block in record {
      others = λ h apart.
          shows_then gate s t b moved h []
          (ap (of_group h) there ∙ if_false (g == h) (Run e.index ps ∷ []) [] apart);
      places = ps;
      many = long;
      moved =
          shows_then gate s t b moved g (Run e.index ps ∷ []) (ap (of_group g) there ∙ if_true (g == g) (Run e.index ps ∷ []) [] (eq_true g g refl))
          ∙ run_moves (Some gate) v e.index ps (omega (arith, first)) (omega (arith, first)) (omega (arith, first)) (omega (arith, first, fits, long))
          ∙ ap (λ (f : ℕ). moved_run v f ps) first;
    }

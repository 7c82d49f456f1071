-- A batch goes on with the view, wherever it is written.
use Rattle.std.proofs.Common.{◌≡◌, ℕ, List, [], ◌∷◌, ◌++◌, take, drop, Option, Some, None, refl, sym, ap, ◌∙◌}
use Rattle.std.specs.Prelude.{option_map, unwrap_or}
use Rattle.raft_log_model_laws.specs.Item.{Record, Tagged, items_of}
use Rattle.raft_log_model_laws.specs.Item.Record.{Plain, Part}
use Rattle.raft_log_model_laws.specs.Groups.{Map, taken}
use Rattle.raft_log_model_laws.specs.Renamed.{renamed_content}
use Rattle.raft_log_model_laws.specs.Table.{content}
use Rattle.raft_log_record_base.specs.declared.pipe_log.LogQueue.TheVariants.{Append}
use Rattle.raft_log_record_base.specs.declared.pipe_log.FileBlockHandle.{FileBlockHandle}
use Rattle.raft_log_record_items.specs.declared.entry.EntryIndex.{EntryIndex}
use Rattle.raft_log_record_items.specs.Writing.{plain_item}
use Rattle.raft_log_record_items.specs.Placed.{placed}
use Rattle.raft_log_record_frames.specs.Record.{block_bytes}
use Rattle.raft_log_record_frames.specs.declared.marking.Marking.{Marking}
use Rattle.raft_log_record_frames.specs.declared.marking.Marking.TheVariants as markings
use Rattle.raft_log_record_frames.specs.Marking.{marking_of_items}
use Rattle.raft_log_record_frames.specs.Meaning.{marked, part_of, record_of, tagged_items}
use Rattle.raft_log_record_batches.specs.Batch.{Batch, block_place}
use Rattle.raft_log_record_batches.specs.Places.{entry_bytes}
use Rattle.raft_log_record_batches.proofs.Public.{read_means_what_was_added}
use Rattle.raft_log_block_cache.specs.Signing.{record_said}
use Rattle.raft_log_machine_laws.specs.Log.{View}
use Rattle.raft_log_machine_laws.specs.Tables.{GrowsTo}
use Rattle.raft_log_extents.specs.declared.place.Place.{Place}
use Rattle.raft_log_memtable_index.specs.Shown.{Shown, IsOrderly}
use Rattle.raft_log_memtable_index.specs.Bridge.{Located, table_of}
use Rattle.raft_log_block_cache.specs.raft_log_memtables.specs.Batch.{MayFollowAll, all_shown, all_written}
use Rattle.raft_log_block_cache.specs.raft_log_memtables.specs.Views.{LieIn, view_of}
use Rattle.raft_log_block_cache.specs.raft_log_memtables.proofs.Public.{view_grows, written_in}
use Rattle.raft_log_engine_laws.specs.EngineState.{IsLaidOut, IsWellMarked, LogMap, said_by, said_of}
use Rattle.raft_log_record_base.specs.Files.{no_block}
use Rattle.raft_log_engine_laws.specs.Writing.{items_at}
use Rattle.raft_log_engine_laws.proofs.Renaming.{places_follow, places_say}
use Rattle.raft_log_block_cache.specs.raft_log_dual_pipes.specs.Pipes.{LogRecordValue}

-- what the tables show goes on with the view's map, whatever that is: only where things stand matters
pub grows_by : {E : Type 0} (at : Located → E) (n : ℕ) (v : ℕ → Shown) (m : Map E (List ℕ)) (xs : List (Tagged Place (List ℕ))) (y : Record E (List ℕ)) → ((g : ℕ) → IsOrderly (v g))
    → MayFollowAll v xs → LieIn n xs → items_of y ≡ all_written at xs → GrowsTo y n (view_of v m) (view_of (all_shown n v xs) (taken m (y ∷ [])))
grows_by {E = E} at n v m xs y orderly follows lie is =
    let read : Map E (List ℕ) = λ g s. option_map (renamed_content at) (content (table_of (v g)) s) in
    let grows = (view_grows at n v read xs y (record { orderly = orderly; meant = λ g s. refl }) follows lie is).grows in record {
      whereabouts = grows.whereabouts;
      map = refl;
      noted = grows.noted;
      noted_in_rewrite = grows.noted_in_rewrite;
    }

items_marked : (marking : Marking) (xs : List (Tagged (List ℕ) (List ℕ))) → (marking ≡ markings.Broken → ⊥) → items_of (unwrap_or (marked marking xs) (Plain [])) ≡ xs
items_marked markings.Unmarked xs some = refl
items_marked (markings.Part id status) xs some = refl
items_marked markings.Broken xs some = absurd (some refl)

marked_says : (marking : Marking) (xs : List (Tagged (List ℕ) (List ℕ))) → (marking ≡ markings.Broken → ⊥) → (y : LogRecordValue) × (marked marking xs ≡ Some y)
marked_says markings.Unmarked xs some = (Plain xs, refl)
marked_says (markings.Part id status) xs some = (Part (part_of id status) xs, refl)
marked_says markings.Broken xs some = absurd (some refl)

-- the items of what a batch says
pub items_said : (b : Batch) → IsWellMarked b → items_of (said_of b) ≡ tagged_items (entry_bytes b.entries) b.items
items_said b some = items_marked (marking_of_items b.items) (tagged_items (entry_bytes b.entries) b.items) some

-- what is read of its record is what it says
pub read_is_said : (b : Batch) → IsWellMarked b → IsLaidOut b → said_by (record_said b) ≡ said_of b
read_is_said b some laid =
    let (said, is) = marked_says (marking_of_items b.items) (tagged_items (entry_bytes b.entries) b.items) some in
    let read = read_means_what_was_added b.items b.entries no_block laid.laid laid.adds in
    let else_said : LogRecordValue = Plain (tagged_items (entry_bytes (block_bytes (record_said b).entries)) (placed no_block (record_said b).items)) in
    ap (λ (o : Option LogRecordValue). unwrap_or o else_said) (read ∙ is) ∙ sym (ap (λ (o : Option LogRecordValue). unwrap_or o (Plain [])) is)

-- the view goes on by the batch, in whichever file it was written
pub batch_grows : (b : Batch) (block : FileBlockHandle) (v : ℕ → Shown) (m : LogMap) → ((g : ℕ) → IsOrderly (v g)) → IsWellMarked b → MayFollowAll v (tagged_items (λ e. e) b.items)
    → GrowsTo (said_of b) block.id.seq (view_of v m) (view_of (all_shown block.id.seq v (items_at block b)) (taken m (said_of b ∷ [])))
batch_grows b block v m orderly some follows =
    let place : FileBlockHandle = block_place block b.entries in
    let at : Located → List ℕ = λ l. take l.place.entry_len (drop l.place.entry_offset b.entries) in
    grows_by at block.id.seq v m (items_at block b) (said_of b) orderly (places_follow place v b.items follows) (written_in place b.items)
    (items_said b some ∙ sym (places_say at (entry_bytes b.entries) place b.items (λ e. refl)))

-- the place of a record in a file, where nothing else is known of it
abbrev pub in_file : ℕ → FileBlockHandle
in_file n = record { id = record { queue = Append; seq = n }; offset = 0; len = 0 }

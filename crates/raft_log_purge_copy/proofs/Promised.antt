-- Room that was promised for entries to move is used, or taken back.
use Rattle.std.proofs.Common.{◌≡◌, ◌+◌, ◌-◌, ℕ, Bool, true, false, Option, List, if◌then◌else◌, refl, sym, ap, subst, ◌∙◌, arith}
use Rattle.raft_log_model_laws.proofs.Public.{at_bool, of_group_renamed}
use Rattle.raft_log_model_laws.specs.Groups.{of_group}
use Rattle.raft_log_model_laws.specs.Item.{Tagged}
use Rattle.raft_log_record_base.specs.declared.pipe_log.FileBlockHandle.{FileBlockHandle}
use Rattle.raft_log_record_items.specs.declared.entry.EntryIndex.{EntryIndex}
use Rattle.raft_log_record_items.specs.declared.item.LogItem.{LogItem}
use Rattle.raft_log_record_items.specs.Placed.{written, written_entry}
use Rattle.raft_log_record_frames.specs.Meaning.{tagged_items}
use Rattle.raft_log_extents.specs.Entries.{place_of}
use Rattle.raft_log_engine_laws.specs.raft_log_memtable.specs.Room.{Promise, needs, without_moves}
use Rattle.raft_log_engine_laws.specs.raft_log_memtable.proofs.Public.{needs_renamed}
use Rattle.raft_log_memtables.specs.declared.mem_tables.MemTables.{MemTables}
use Rattle.raft_log_memtables.specs.Tables.{has_table, promise_of}
use Rattle.raft_log_memtables.specs.Batch.{IsTakenBack, mentions}
use Rattle.raft_log_memtables.specs.Rewriting.{PromisesMoves, TakesRewritten, entries_of, moving}
use Rattle.raft_log_memtables.proofs.Public.{items_renamed, none_said, written_items}
use Rattle.raft_log_purge_copy.specs.Promised.{PromisesNoMoves}

-- it doesn't matter what stands for an entry
pub entries_for : {F : Type 0} (f : EntryIndex → F) (g : ℕ) (xs : List LogItem) → entries_of g (tagged_items f xs) ≡ entries_of g (tagged_items {E = EntryIndex} (λ e. e) xs)
entries_for {F = F} f g xs =
    ap (λ (l : List (Tagged F (List ℕ))). entries_of g l) (sym (items_renamed f xs)) ∙ ap needs (of_group_renamed f g (tagged_items (λ e. e) xs)) ∙ needs_renamed f (of_group g (tagged_items (λ e. e) xs))

-- it was taken back at once
pub room_forgotten : (old new : MemTables) (items : List LogItem) → IsTakenBack old new items → PromisesNoMoves old → PromisesNoMoves new
room_forgotten old new items back none g =
    at_bool (mentions g items) (λ b. mentions g items ≡ b → (promise_of new g).moves ≡ 0) (λ _ is. (back.forgotten g is).1) (λ _ is. ap (λ (q : Promise). q.moves) (back.others g is) ∙ none g) refl

-- how much is promised, where nothing was
pub moves_promised : (b : Bool) (q : Promise) (n : ℕ) → q.moves ≡ 0 → (moving b q n).moves - n ≡ 0
moves_promised true q n none = omega (arith, none)
moves_promised false q n none = omega (arith, none)

pub moves_of_none : (b : Bool) (q : Promise) (n : ℕ) → q.moves ≡ 0 → n ≡ 0 → (moving b q n).moves ≡ 0
moves_of_none true q n none zero_is = omega (arith, none, zero_is)
moves_of_none false q n none zero_is = none

module _ (before mid new : MemTables) (xs items : List LogItem) (none : PromisesNoMoves before) (promises : PromisesMoves before mid (tagged_items {E = EntryIndex} (λ e. e) xs)) where
  -- it was taken back
  pub room_taken_back : items ≡ xs → ((g : ℕ) → mentions g items ≡ true → (promise_of new g).moves ≡ 0) → ((g : ℕ) → mentions g items ≡ false → promise_of new g ≡ promise_of mid g) → PromisesNoMoves new
  room_taken_back is moves others g =
      at_bool (mentions g items) (λ b. mentions g items ≡ b → (promise_of new g).moves ≡ 0) (λ _ h. moves g h)
      (λ _ h.
      let unsaid : entries_of g (tagged_items {E = EntryIndex} (λ e. e) xs) ≡ 0 = ap needs (none_said (λ (e : EntryIndex). e) g xs (sym (ap (mentions g) is) ∙ h)) in
      ap (λ (q : Promise). q.moves) (others g h ∙ promises.moves g) ∙ moves_of_none (has_table before g) (promise_of before g) (entries_of g (tagged_items {E = EntryIndex} (λ e. e) xs)) (none g) unsaid) refl

  -- it was used
  pub room_used : (gate : Option ℕ) (n : ℕ) (handle : FileBlockHandle) → items ≡ written handle xs → TakesRewritten gate n mid new (tagged_items place_of items) → PromisesNoMoves new
  room_used gate n handle is takes g =
      let there : entries_of g (tagged_items place_of items) ≡ entries_of g (tagged_items {E = EntryIndex} (λ e. e) xs) =
      ap (λ (l : List LogItem). entries_of g (tagged_items place_of l)) is ∙ entries_for place_of g (written handle xs) ∙ ap (entries_of g) (written_items handle xs) ∙ entries_for (written_entry handle) g xs in
      ap (λ (q : Promise). q.moves) (takes.promise g ∙ ap (λ (k : ℕ). without_moves (promise_of mid g) k) there ∙ ap (λ (q : Promise). without_moves q (entries_of g (tagged_items {E = EntryIndex} (λ e. e) xs))) (promises.moves g))
      ∙ moves_promised (has_table before g) (promise_of before g) (entries_of g (tagged_items {E = EntryIndex} (λ e. e) xs)) (none g)

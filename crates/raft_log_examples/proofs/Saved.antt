-- A key that is put in a log has its value there.
use Rattle.std.proofs.Common.{◌≡◌, ◌==◌, ℕ, Bool, true, false, List, [], ◌∷◌, ◌++◌, Option, Some, None, inl, inr, refl, sym, ap, ◌∙◌, arith, if◌then◌else◌}
use Rattle.std.specs.Global.{Vec}
use Rattle.std.specs.Prelude.{IsTrue, OnOk, Ok, Result, option_map, unwrap_or}
use Rattle.std.proofs.Common.{subst}
use Rattle.std.proofs.lemmas.Bool.{false≢true}
use Rattle.raft_log_world.specs.Model.{Adds, ModelLog}
use Rattle.raft_log_world.specs.Reads.{bytes_of}
use Rattle.raft_log_engine.specs.raft_log_engine_core.specs.ModelCalls.{FollowsModel, IsEngineLog, IsValueOf, ModelReads, ModelWrites}
use Rattle.raft_log_engine.specs.raft_log_model_laws.specs.Groups.{taken}
use Rattle.raft_log_engine.specs.raft_log_model_laws.specs.Item.{items_of}
use Rattle.raft_log_engine.specs.raft_log_model_laws.specs.Item.Record.{Plain}
use Rattle.raft_log_engine.specs.raft_log_model_laws.specs.Item.Item.{Put}
use Rattle.raft_log_engine.specs.raft_log_model_laws.specs.Meaning.{Content, says}
use Rattle.raft_log_engine.specs.raft_log_model_laws.specs.Meaning.Slot.{Key}
use Rattle.raft_log_engine.specs.raft_log_model_laws.specs.Meaning.Content.{Value}
use Rattle.raft_log_engine.specs.raft_log_model_laws.proofs.Public.{put_sets}
use Rattle.raft_log_engine.specs.raft_log_record_base.specs.declared.errors.Error.{Error}
use Rattle.raft_log_engine.specs.raft_log_record_items.specs.declared.entry.EntryIndex.{EntryIndex}
use Rattle.raft_log_engine.specs.raft_log_record_items.specs.Items.{put_item}
use Rattle.raft_log_engine.specs.raft_log_record_frames.specs.Key.{is_internal}
use Rattle.raft_log_engine.specs.raft_log_record_frames.specs.Meaning.{marked, record_of, tagged, tagged_items, unless_mark}
use Rattle.raft_log_engine.specs.raft_log_record_frames.specs.declared.marking.Marking.{Marking}
use Rattle.raft_log_engine.specs.raft_log_record_frames.proofs.Public.{keeps_mark, no_mark_key}
use Rattle.raft_log_engine.specs.raft_log_fs.specs.Disk.{Disk}
use Rattle.raft_log_engine.specs.raft_log_record_batches.specs.Batch.{Batch, Puts, empty_batch}
use Rattle.raft_log_engine.specs.raft_log_record_batches.specs.Places.{entry_bytes}
use Rattle.raft_log_engine.specs.raft_log_file_settings.specs.declared.config.Config.{Config}
use Rattle.raft_log_engine.specs.raft_log_memtables.specs.declared.mem_tables.MemTables.{MemTables}
use Rattle.raft_log_engine.specs.raft_log_block_cache.specs.declared.block_cache.BlockCache.{BlockCache}
use Rattle.raft_log_engine.specs.raft_log_dual_pipes.specs.Pipes.{LogPipes, LogRecordValue, is_failed}
use Rattle.raft_log_engine.specs.raft_log_dual_pipes.specs.ClosingCalls.{ClosesSettled}
use Rattle.raft_log_engine.specs.raft_log_engine_laws.specs.EngineState.{LogDirectories, LogMap, EngineState, said_of, shows}
use Rattle.raft_log_engine.specs.raft_log_engine_laws.specs.Holding.{Represents}
use Rattle.raft_log_engine.specs.raft_log_engine_laws.specs.Reading.{ReadsValue}
use Rattle.raft_log_engine.specs.raft_log_engine_laws.specs.Writing.{Writes, WritesBytes}
use Rattle.raft_log_engine.specs.raft_log_open.specs.Opening.{OpensDirectory}
use Rattle.raft_log_examples.specs.Saving.{SavesInLog}

-- a key that a batch took isn't the log's own
pub users_key : (k : List ℕ) → (IsTrue (is_internal k) → false ≡ true) → is_internal k ≡ false
users_key k internal = by (is_internal k) internal
  where
    by : (b : Bool) → (IsTrue b → false ≡ true) → b ≡ false
    by true h = absurd (false≢true (h refl))
    by false h = refl

-- what a batch says that puts it
put_said : (entry : EntryIndex → List ℕ) (g : ℕ) (k v : List ℕ) → is_internal k ≡ false
    → ◌≡◌ {A = LogRecordValue} (unwrap_or (record_of entry (put_item g k v ∷ [])) (Plain [])) (Plain (record { group = g; item = Put k v } ∷ []))
put_said entry g k v own =
    ap (λ (m : Marking). unwrap_or (marked m (tagged_items entry (put_item g k v ∷ []))) (Plain [])) (keeps_mark [] (put_item g k v) own)
    ∙ ap (λ (b : Bool). Plain (unless_mark b (tagged entry (put_item g k v)) [])) (no_mark_key (put_item g k v) own)

same_number : (n : ℕ) → (n == n) ≡ true
same_number n = grind (arith)

-- the value stands there then
stands : (m : LogMap) (g : ℕ) (k v : List ℕ) → taken m (Plain (record { group = g; item = Put k v } ∷ []) ∷ []) g (Key k) ≡ Some (Value v)
stands m g k v =
    ap (λ (b : Bool). unwrap_or (says (Key k) (if b then Put k v ∷ [] else [])) (m g (Key k))) (same_number g)
    ∙ ap (λ (w : Option (Option (Content (List ℕ) (List ℕ)))). unwrap_or w (m g (Key k))) (put_sets k k v refl)

value_in : Option (Content (List ℕ) (List ℕ)) → List ℕ
value_in (Some (Value v)) = v
value_in _ = []

is_value : (v : List ℕ) (found : Option (List ℕ)) → ◌≡◌ {A = Option (Content (List ℕ) (List ℕ))} (Some (Value v)) (option_map Value found) → found ≡ Some v
unfolding value_in
is_value v (Some w) same = ap Some (sym (ap value_in same))
is_value v None same = absurd (let clash : Some (Value v) ≡ None = same in let never : ⊥ = cc in never)

-- a record with items that was written durably is in the contents
added : (home : LogDirectories) (t : EngineState) (m : LogMap) (r : LogRecordValue) (log : ModelLog) → (items_of r ≡ [] → ⊥) → Adds true m [] r log → IsEngineLog home t log → Represents home t (taken m (r ∷ [])) []
added home t m r log some (inl now) at = subst (IsEngineLog home t) now at
added home t m r log some (inr none) at = absurd (some none.0)

-- In the words of the model, what is read after the write is the value.
pub saved_value : (b : Batch) (g : ℕ) (k v : List ℕ) (len : ℕ) (s t : EngineState) (value : Option (Vec ℕ)) → is_internal k ≡ false → b.items ≡ put_item g k v ∷ []
    → FollowsModel (ModelWrites b true) (Ok len) s t → FollowsModel (ModelReads (IsValueOf g k)) (Ok value) t t → (home : LogDirectories) (m : LogMap) → Represents home s m [] → bytes_of value ≡ Some v
saved_value b g k v len s t value own items writes reads home m h =
    let says_it : said_of b ≡ Plain (record { group = g; item = Put k v } ∷ []) =
    ap (λ l. unwrap_or (record_of (entry_bytes b.entries) l) (Plain [])) items ∙ put_said (entry_bytes b.entries) g k v own in
    let some : items_of (said_of b) ≡ [] → ⊥ = λ none. (let clash : items_of {V = List ℕ} (Plain (record { group = g; item = Put k v } ∷ [])) ≡ [] = sym (ap items_of says_it) ∙ none in let never : ⊥ = cc in never) in
    let (log, adds, at) = writes.runs home m [] h in
    let (same, told, there) = reads.runs home (taken m (said_of b ∷ [])) [] (added home t m (said_of b) log some adds at) in
    is_value v (bytes_of value) (sym (stands m g k v) ∙ ap (λ (r : LogRecordValue). taken m (r ∷ []) g (Key k)) (sym says_it) ∙ told.0)

-- a batch that was put into when it was empty
pub only_put : (old new : Batch) (g : ℕ) (k v : List ℕ) → old ≡ empty_batch 0 0 → Puts old new g k v → new.items ≡ put_item g k v ∷ []
only_put old new g k v empty puts =
    ap (λ (b : Batch). b.items) puts.0 ∙ ap (λ (b : Batch). b.items ++ put_item g k v ∷ []) empty

some_items : (b : Batch) (g : ℕ) (k v : List ℕ) → b.items ≡ put_item g k v ∷ [] → b.items ≡ [] → ⊥
some_items b g k v some none = let clash : put_item g k v ∷ [] ≡ [] = sym some ∙ none in let never : ⊥ = cc in never

-- what holds of a call that succeeded
pub of_ok : (came : Result (Unit {0}) Error) (v : Unit {0}) (P : Type 0) → came ≡ Ok v → OnOk came P → P
of_ok came v P is holds = subst (λ (r : Result (Unit {0}) Error). OnOk r P) is holds

-- opened, written, read, closed
module _ {F : Type 0} (disk : F → Disk) (tells : F → List ℕ → ℕ → Type 0) (config : Config) (g : ℕ) (k v : List ℕ) (old new : F) (value : Option (Vec ℕ)) where
  pub saves_in_log : (pipes : LogPipes) (tables : MemTables) (cache : BlockCache) (b : Batch) (len : ℕ) (t : EngineState) → OpensDirectory disk tells config old pipes tables → is_internal k ≡ false → b.items ≡ put_item g k v ∷ []
      → WritesBytes b true len (shows pipes tables cache) t → FollowsModel (ModelWrites b true) (Ok len) (shows pipes tables cache) t → ReadsValue t g k (bytes_of value) → FollowsModel (ModelReads (IsValueOf g k)) (Ok value) t t
      → ClosesSettled t.pipes (disk new) → SavesInLog disk tells config g k v old new (bytes_of value)
  saves_in_log pipes tables cache b len t opens own items wrote writes reads told closes = elim wrote [
    | inl none ↦ absurd (some_items b g k v items none.0)
    | inr some ↦ record {
      pipes = pipes;
      tables = tables;
      cache = cache;
      opens = opens;
      batch = b;
      says = items;
      written = t;
      writes = some.1;
      reads = reads;
      closes = closes;
      same = saved_value b g k v len (shows pipes tables cache) t value own items writes told;
    }
  ]

-- What a batch of changes says, and what its write makes of the log.
use Rattle.std.proofs.Common.{◌≡◌, ◌==◌, ℕ, Bool, true, false, List, [], ◌∷◌, ◌++◌, ◌+◌, ◌<◌, length, get_or, drop, map, Option, Some, None, inl, inr, refl, sym, ap, subst, ◌∙◌, arith, if◌then◌else◌}
use Rattle.std.specs.Prelude.{IsTrue, Ok, unwrap_or}
use Rattle.std.specs.Global.{Vec}
use Rattle.std.proofs.lemmas.Bool.{false≢true, false_from_ne_true}
use Rattle.std.proofs.lemmas.List.{drop_more}
use Rattle.raft_log_machine_laws.proofs.Public.{taken_twice}
use Rattle.raft_log_engine.specs.raft_log_model_laws.specs.Groups.{taken}
use Rattle.raft_log_engine.specs.raft_log_model_laws.specs.Item.{items_of}
use Rattle.raft_log_engine.specs.raft_log_model_laws.specs.Item.Item.{Put}
use Rattle.raft_log_engine.specs.raft_log_model_laws.specs.Item.Record.{Plain}
use Rattle.raft_log_engine.specs.raft_log_model_laws.specs.Meaning.{Content, says}
use Rattle.raft_log_engine.specs.raft_log_model_laws.specs.Meaning.Slot.{Key}
use Rattle.raft_log_engine.specs.raft_log_model_laws.proofs.Public.{put_sets}
use Rattle.raft_log_engine.specs.raft_log_record_items.specs.declared.entry.EntryIndex.{EntryIndex}
use Rattle.raft_log_engine.specs.raft_log_record_items.specs.declared.item.LogItem.{LogItem}
use Rattle.raft_log_engine.specs.raft_log_record_items.specs.Items.{put_item}
use Rattle.raft_log_engine.specs.raft_log_record_frames.specs.Key.{is_internal}
use Rattle.raft_log_engine.specs.raft_log_record_frames.specs.Meaning.{IsUsers, marked, record_of, tagged, tagged_items, unless_mark}
use Rattle.raft_log_engine.specs.raft_log_record_frames.specs.declared.marking.Marking.{Marking}
use Rattle.raft_log_engine.specs.raft_log_record_frames.proofs.Public.{keeps_mark, no_mark_key}
use Rattle.raft_log_engine.specs.raft_log_record_batches.specs.Batch.{Batch, Puts, empty_batch}
use Rattle.raft_log_engine.specs.raft_log_record_batches.specs.Places.{entry_bytes}
use Rattle.raft_log_engine.specs.raft_log_dual_pipes.specs.Pipes.{LogRecordValue}
use Rattle.raft_log_engine.specs.raft_log_engine_core.specs.ModelCalls.{FollowsModel, IsEngineLog, ModelWrites}
use Rattle.raft_log_engine.specs.raft_log_engine_laws.specs.EngineState.{LogDirectories, LogMap, EngineState, said_of}
use Rattle.raft_log_engine.specs.raft_log_engine_laws.specs.Holding.{Represents}
use Rattle.raft_log_engine.specs.raft_log_engine_laws.specs.Reading.{StandsUnder}
use Rattle.raft_log_world.specs.Model.{HasWritten}
use Rattle.raft_crash_examples.specs.declared.changing.KeyChange.{KeyChange}
use Rattle.raft_crash_examples.specs.Batches.{said_by_both}
use Rattle.raft_crash_examples.specs.Changing.{AddsChange, ChangesKey, ChangesKeys, WritesRecord, item_of, said_by, word_of}
use Rattle.raft_crash_examples.specs.Saving.{put_of}

-- What batches of one and of two items say.

one_said : (entry : EntryIndex → List ℕ) (x : LogItem) → IsUsers x.content → ◌≡◌ {A = LogRecordValue} (unwrap_or (record_of entry (x ∷ [])) (Plain [])) (Plain (tagged entry x ∷ []))
one_said entry x own =
    ap (λ (m : Marking). unwrap_or (marked m (tagged_items entry (x ∷ []))) (Plain [])) (keeps_mark [] x own)
    ∙ ap (λ (b : Bool). Plain (unless_mark b (tagged entry x) [])) (no_mark_key x own)

two_said : (entry : EntryIndex → List ℕ) (x y : LogItem) → IsUsers x.content → IsUsers y.content → ◌≡◌ {A = LogRecordValue} (unwrap_or (record_of entry (x ∷ y ∷ [])) (Plain [])) (Plain (tagged entry x ∷ tagged entry y ∷ []))
two_said entry x y one other =
    ap (λ (m : Marking). unwrap_or (marked m (tagged_items entry (x ∷ y ∷ []))) (Plain [])) (keeps_mark (x ∷ []) y other ∙ keeps_mark [] x one)
    ∙ (ap (λ (b : Bool). Plain (unless_mark b (tagged entry x) (tagged_items entry (y ∷ [])))) (no_mark_key x one)
    ∙ ap (λ (b : Bool). Plain (tagged entry x ∷ unless_mark b (tagged entry y) [])) (no_mark_key y other))

said_items : (b : Batch) (xs : List LogItem) → b.items ≡ xs → said_of b ≡ unwrap_or (record_of (entry_bytes b.entries) xs) (Plain [])
said_items b xs is = ap (λ (l : List LogItem). unwrap_or (record_of (entry_bytes b.entries) l) (Plain [])) is

-- A batch that puts a key.

pub users_key : (k : List ℕ) → (IsTrue (is_internal k) → false ≡ true) → is_internal k ≡ false
users_key k internal = false_from_ne_true (is_internal k) (λ is. false≢true (internal is))

pub put_said : (old b : Batch) (g : ℕ) (k v : List ℕ) → old ≡ empty_batch 0 0 → Puts old b g k v → is_internal k ≡ false → said_of b ≡ put_of g k v
put_said old b g k v empty puts own =
    said_items b (put_item g k v ∷ []) (ap (λ (x : Batch). x.items) puts.0 ∙ ap (λ (x : Batch). x.items ++ put_item g k v ∷ []) empty)
    ∙ one_said (entry_bytes b.entries) (put_item g k v) own

same_number : (n : ℕ) → (n == n) ≡ true
same_number n = grind (arith)

-- the key has the value then
pub stands : (m : LogMap) (g : ℕ) (k v : List ℕ) → StandsUnder (taken m (put_of g k v ∷ [])) g k (Some v)
stands m g k v =
    ap (λ (b : Bool). unwrap_or (says (Key k) (if b then Put k v ∷ [] else [])) (m g (Key k))) (same_number g)
    ∙ ap (λ (w : Option (Option (Content (List ℕ) (List ℕ)))). unwrap_or w (m g (Key k))) (put_sets k k v refl)

-- A batch of one change, and one of two.

users_item : (g : ℕ) (k : List ℕ) (value : Option (Vec ℕ)) → is_internal k ≡ false → IsUsers (item_of g k value).content
users_item g k None own = own
users_item g k (Some v) own = own

item_said : (entry : EntryIndex → List ℕ) (g : ℕ) (k : List ℕ) (value : Option (Vec ℕ)) → tagged entry (item_of g k value) ≡ record { group = g; item = word_of k value }
item_said entry g k None = refl
item_said entry g k (Some v) = refl

module _ (one : KeyChange) (none half : Batch) (empty : none ≡ empty_batch 0 0) (first : AddsChange one none half) where
  abbrev item : LogItem
  item = item_of one.group one.key.items one.value

  users : IsUsers item.content
  users = users_item one.group one.key.items one.value first.users

  only : half.items ≡ item ∷ []
  only = first.adds ∙ ap (λ (b : Batch). b.items ++ item ∷ []) empty

  pub change_said : said_of half ≡ said_by one
  change_said =
      let entry = entry_bytes half.entries in
      said_items half (item ∷ []) only ∙ (one_said entry item users ∙ ap (λ t. Plain (t ∷ [])) (item_said entry one.group one.key.items one.value))

  pub both_said : (other : KeyChange) (b : Batch) → AddsChange other half b → said_of b ≡ said_by_both one other
  both_said other b second =
      let entry = entry_bytes b.entries in
      let next = item_of other.group other.key.items other.value in
      said_items b (item ∷ next ∷ []) (second.adds ∙ ap (λ (l : List LogItem). l ++ next ∷ []) only)
      ∙ (two_said entry item next users (users_item other.group other.key.items other.value second.users)
      ∙ (ap (λ t. Plain (t ∷ tagged entry next ∷ [])) (item_said entry one.group one.key.items one.value)
      ∙ ap (λ t. Plain (record { group = one.group; item = word_of one.key.items one.value } ∷ t ∷ [])) (item_said entry other.group other.key.items other.value)))

-- the first of what is left of a list, and what is left then
pub first_left : {X : Type 0} (xs : List X) (i : ℕ) (d x : X) → i < length xs → x ≡ get_or xs i d → drop i xs ≡ x ∷ drop (i + 1) xs
first_left {X} xs i d x lt is = drop_more xs i d lt ∙ ap (λ (y : X). y ∷ drop (i + 1) xs) (sym is)

-- Writes.

pub some_of : {X : Type 0} (x : X) (xs : List X) → x ∷ xs ≡ [] → ⊥
some_of x xs none = cc

-- a batch was written as this record, which changes something
pub writes_record : (b : Batch) (sync : Bool) (len : ℕ) (x : LogRecordValue) (s t : EngineState) → said_of b ≡ x → (items_of x ≡ [] → ⊥) → FollowsModel (ModelWrites b sync) (Ok len) s t → WritesRecord x sync s t
writes_record b sync len x s t says some follows home m h =
    let (next, adds, is) = follows.runs home m [] h in (
      next,
      elim adds [
        | inl wrote ↦ subst (λ (r : LogRecordValue). HasWritten sync m (r ∷ []) next) says wrote
        | inr nothing ↦ absurd (some (subst (λ (r : LogRecordValue). items_of r ≡ []) says nothing.0))
      ],
      is,
    )

-- with a sync it is durable
pub durable : (x : LogRecordValue) (s t : EngineState) → WritesRecord x true s t → (home : LogDirectories) (m : LogMap) → Represents home s m [] → Represents home t (taken m (x ∷ [])) []
durable x s t wrote home m h =
    let (next, is, at) = wrote home m h in
    subst (IsEngineLog home t) is at

-- one change, and then others
pub changes_more : (c : KeyChange) (cs : List KeyChange) (s u t : EngineState) → ChangesKey c s u → ChangesKeys cs u t → ChangesKeys (c ∷ cs) s t
changes_more c cs s u t one others home m h =
    subst (λ (n : LogMap). Represents home t n []) (taken_twice m (said_by c ∷ []) (map said_by cs)) (others home (taken m (said_by c ∷ [])) (durable (said_by c) s u one home m h))

-- The keys of a group in its table: their values, and the Dels that the table owes. A key may have a slot (`KeySlot`),
-- which is memory for a value and a Del.
use Rattle.std.specs.Prelude.{◌≡◌, ℕ, Bool, true, false, ◌||◌, List, [], ◌∷◌, Option, Some, None, if◌then◌else◌, is_some, bytes_eq}
use Rattle.std.specs.Option.{option_or}
use Rattle.std.specs.Map.{lookup}
use Rattle.raft_log_machine_laws.specs.Whereabouts.{with_key}
use Rattle.raft_log_memtable_index.specs.Shown.{KeyValue, with_held}
use Rattle.raft_log_memtable_index.specs.Bridge.{rewritten_value}
use Rattle.raft_log_memtable_index.specs.declared.key_map.HeldValue.{HeldValue}
use Rattle.raft_log_memtable_index.specs.declared.key_map.KeySlot.{KeySlot}

-- What a table knows of each key: its value, if any, and whether its Del is owed.
pub record Keys : Type 0 where
  pub values : List ℕ → Option KeyValue
  pub deleted : List ℕ → Bool
  -- the keys with a slot: changing their value needs no allocation
  pub has : List ℕ → Bool

-- the value of a slot, in the form that contracts use
abbrev pub value_of : HeldValue → KeyValue
value_of h = record { bytes = h.bytes; appended = h.appended; file = h.file }

-- the value of a slot, if it has one, in the form that contracts use
abbrev pub shown_value : Option HeldValue → Option KeyValue
shown_value None = None
shown_value (Some h) = Some (value_of h)

-- the value in file number `file` of Rewrite
abbrev pub rewritten_held : ℕ → HeldValue → HeldValue
rewritten_held file h = record { bytes = h.bytes; appended = false; file = file }

-- the value of a key with this slot, or with none
abbrev pub held_in : Option KeySlot → Option KeyValue
held_in None = None
held_in (Some slot) = shown_value slot.held

-- whether the Del of a key with this slot is owed
abbrev pub deleted_in : Option KeySlot → Bool
deleted_in None = false
deleted_in (Some slot) = slot.deleted

-- the slot of key `k`, if it has one
abbrev pub slot_at : List (List ℕ × KeySlot) → List ℕ → Option KeySlot
slot_at slots k = lookup (bytes_eq k) slots

-- the keys that these slots represent
abbrev pub keys_of : List (List ℕ × KeySlot) → Keys
keys_of slots = record {
  values = λ k. held_in (slot_at slots k);
  deleted = λ k. deleted_in (slot_at slots k);
  has = λ k. is_some (slot_at slots k);
}

-- no key has a value or a slot, and no Del is owed
abbrev pub no_keys : Keys
no_keys = record { values = λ k. None; deleted = λ k. false; has = λ k. false }

-- the keys after `k` got a slot
abbrev pub with_room : Keys → List ℕ → Keys
with_room ks k = record ks { has = with_key ks.has k true }

-- the keys after `k` got this value, or lost its value
abbrev pub with_value : Keys → List ℕ → Option KeyValue → Keys
with_value ks k value = record ks { values = with_held ks.values k value }

-- the keys after the value of `k`, if it has one, was moved to file number `file` of Rewrite
abbrev pub with_rewritten : Keys → List ℕ → ℕ → Keys
with_rewritten ks k file = with_value ks k (rewritten_value file (ks.values k))

-- the keys after `k` lost its value, and its Del became owed
abbrev pub with_mark : Keys → List ℕ → Keys
with_mark ks k = record ks { values = with_held ks.values k None; deleted = with_key ks.deleted k true }

-- the keys without any value
abbrev pub emptied : Keys → Keys
emptied ks = record ks { values = λ k. None }

-- the keys without any value, where only the keys whose Del is owed keep a slot
abbrev pub cleared_keys : Keys → Keys
cleared_keys ks = record ks { values = λ k. None; has = ks.deleted }

-- no key has a value
abbrev pub HasNoValue : Keys → Type 0
HasNoValue ks = ks.values ≡ (λ k. None)

-- a key has a slot if and only if its Del is owed
abbrev pub HasMarksAlone : Keys → Type 0
HasMarksAlone ks = ks.has ≡ ks.deleted

-- If `valued` is false, no key has a value. If `spare` is false, a key has a slot only if its Del is owed.
abbrev pub MaySkip : Bool → Bool → Keys → Type 0
MaySkip valued spare ks = (valued ≡ false → HasNoValue ks) × (spare ≡ false → HasMarksAlone ks)

-- the keys after all owed Dels were written
abbrev pub unmarked_keys : Keys → Keys
unmarked_keys ks = record ks { deleted = λ k. false }

-- the keys after all owed Dels were written, where only keys with values keep a slot
abbrev pub settled_keys : Keys → Keys
settled_keys ks = record ks { deleted = λ k. false; has = λ k. is_some (ks.values k) }

-- the keys after a later segment's value of `k` was applied, if there is one
abbrev pub with_later : Keys → List ℕ → Option HeldValue → Keys
with_later ks k None = ks
with_later ks k (Some h) = with_value ks k (Some (value_of h))

-- the keys after a later segment's slot of `k` was applied: first its Del, if owed, then its value, if any
abbrev pub with_slot : Keys → List ℕ → KeySlot → Keys
with_slot ks k slot = with_later (if slot.deleted then with_mark ks k else ks) k slot.held

-- the keys after these slots of a later segment were applied, one after another
abbrev pub with_slots : Keys → List (List ℕ × KeySlot) → Keys
with_slots ks [] = ks
with_slots ks (e ∷ es) = with_slots (with_slot ks e.0 e.1) es

-- The keys of a segment, joined with those of a later segment. A key has its later value if there is one. Otherwise it
-- keeps its earlier value, unless the later segment owes its Del. A Del that either segment owes stays owed. The slots
-- are those of the earlier segment.
abbrev pub joined_keys : Keys → Keys → Keys
joined_keys ks later = record {
  values = λ k. option_or (later.values k) (if later.deleted k then None else ks.values k);
  deleted = λ k. later.deleted k || ks.deleted k;
  has = ks.has;
}

-- each key with a slot in `later` has a slot in `ks` too
abbrev pub HasKeyRoomFor : Keys → Keys → Type 0
HasKeyRoomFor ks later = (k : List ℕ) → later.has k ≡ true → ks.has k ≡ true

-- `has`, which says which keys have a slot, is true for each key in this list
abbrev pub KeysHaveRoom : (List ℕ → Bool) → List (List ℕ × KeySlot) → Type 0
KeysHaveRoom has [] = Unit {0}
KeysHaveRoom has (e ∷ es) = (has e.0 ≡ true) × KeysHaveRoom has es

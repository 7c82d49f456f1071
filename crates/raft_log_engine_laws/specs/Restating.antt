-- What a purge writes to restate a group, that is, to write what the group has in Rewrite once more, at Rewrite's end.
-- It writes the entries from some index on, and keys with their values. Each record gets a piece of the entries.
use Rattle.std.specs.Prelude.{◌≡◌, ℕ, ◌+◌, ◌≤◌, false, List, [], ◌∷◌, ◌++◌, length, Option, Some}
use Rattle.raft_log_model_laws.specs.Item.{Item}
use Rattle.raft_log_model_laws.specs.Item.Item.{Put, Run}
use Rattle.raft_log_model_laws.specs.Meaning.{Content, Slot}
use Rattle.raft_log_model_laws.specs.Groups.{of_group}
use Rattle.raft_log_machine_laws.specs.Whereabouts.{RunStands}
use Rattle.raft_log_record_batches.specs.Batch.{Batch}
use Rattle.raft_log_memtable_index.specs.Shown.{KeyValue, Shown}
use Rattle.raft_log_block_cache.specs.Stored.{Each}
use Rattle.raft_log_engine_laws.specs.EngineState.{LogMap}
use Rattle.raft_log_engine_laws.specs.Parts.{said_items}
use Rattle.raft_log_engine_laws.specs.Whole.{HasWhole}

-- the items of group `g` in the batches, in order, with the bytes of each entry
abbrev pub said_of_group : ℕ → List Batch → List (Item (List ℕ) (List ℕ))
said_of_group g [] = []
said_of_group g (b ∷ bs) = of_group g (said_items b) ++ said_of_group g bs

-- entries from index `f` on, as one run for each piece
abbrev pub runs_in : ℕ → List (List (List ℕ)) → List (Item (List ℕ) (List ℕ))
runs_in f [] = []
runs_in f (es ∷ more) = Run f es ∷ runs_in (f + length es) more

-- the bytes of the entries of all pieces, in order
abbrev pub entries_of_pieces : List (List (List ℕ)) → List (List ℕ)
entries_of_pieces [] = []
entries_of_pieces (es ∷ more) = es ++ entries_of_pieces more

-- a key and its value
pub record KeyBytes : Type 0 where
  pub key : List ℕ
  pub value : List ℕ

-- for each key, an item that puts its value
abbrev pub puts : List KeyBytes → List (Item (List ℕ) (List ℕ))
puts [] = []
puts (k ∷ ks) = Put k.key k.value ∷ puts ks

-- the table shows this value of the key, in Rewrite
pub record HoldsRewritten (v : Shown) (k : KeyBytes) : Type 0 where
  pub held : KeyValue
  pub is : v.held k.key ≡ Some held
  pub bytes : held.bytes ≡ k.value
  pub rewritten : held.appended ≡ false

-- The batches have only these items of group `g`:
-- - its entries from some index on, up to the last one that is in Rewrite, with their bytes in the contents `m`
-- - keys whose values are in Rewrite, with the values that the table shows
pub record RestatesGroup (g : ℕ) (bs : List Batch) (v : Shown) (m : Slot → Option (Content (List ℕ) (List ℕ)))
    : Type 0 where
  pub first : ℕ
  pub pieces : List (List (List ℕ))
  pub keys : List KeyBytes
  pub said : said_of_group g bs ≡ runs_in first pieces ++ puts keys
  pub from : v.first ≤ first
  pub to : first + length (entries_of_pieces pieces) ≡ v.first + v.rewritten
  pub entries : RunStands m first (entries_of_pieces pieces)
  pub held : Each (HoldsRewritten v) keys

-- If the batches restate each group as `RestatesGroup` says, they are copies that may move together, whatever the gate.
abbrev pub RestatedGroupsAreWhole : Type 0
RestatedGroupsAreWhole = (gate : Option ℕ) (bs : List Batch) (v : ℕ → Shown) (m : LogMap)
    → ((g : ℕ) → RestatesGroup g bs (v g) (m g)) → HasWhole gate bs v m

-- Examples of wrong rules for a purge. In each, a directory holds its map until the rule is applied. Entries and values
-- are numbers.
use Rattle.std.specs.Prelude.{ℕ, true, List, [], ◌∷◌}
use Rattle.raft_log_model_laws.specs.Item.{Item, Tagged, Record}
use Rattle.raft_log_model_laws.specs.Item.Item.{Run, Clean, Compact, Put}
use Rattle.raft_log_model_laws.specs.Item.Record.{Plain, Part}
use Rattle.raft_log_model_laws.specs.Item.Mark.{Begin, End}
use Rattle.raft_log_model_laws.specs.Groups.{directory_meaning}
use Rattle.raft_log_machine_laws.specs.Queue.{Queue, Store, raised, with_append, with_rewrite}
use Rattle.raft_log_machine_laws.specs.Survival.{HoldsMap}
use Rattle.raft_log_machine_laws.specs.Machine.{Machine}
use Rattle.raft_log_machine_laws.specs.Fresh.{nowhere}

-- these items, each marked as one of raft group `g`
abbrev pub tagged : ℕ → List (Item ℕ ℕ) → List (Tagged ℕ ℕ)
tagged g [] = []
tagged g (x ∷ xs) = record { group = g; item = x } ∷ tagged g xs

-- a queue with these records, all synced and in its live range
abbrev pub lone : List (Record ℕ ℕ) → Queue ℕ ℕ
lone rs = record { gone = []; live = rs; pending = [] }

-- a directory with these records of its queues, all synced and in the live ranges
abbrev pub lone_store : List (Record ℕ ℕ) → List (Record ℕ ℕ) → Store ℕ ℕ
lone_store rewrite append = record { rewrite = lone rewrite; append = lone append }

-- The directory with the records `rewrite` in Rewrite and `all` in Append holds its map. After the records `out` left
-- Append's live range and `stay` stayed, it doesn't.
abbrev pub LosesByAppend : (rewrite out stay all : List (Record ℕ ℕ)) → Type 0
LosesByAppend rewrite out stay all =
    HoldsMap (lone_store rewrite all) (directory_meaning rewrite all)
    × (HoldsMap (with_append (lone_store rewrite all) (raised (lone all) out stay))
    (directory_meaning rewrite all) → ⊥)

-- The directory with the records `all` in Rewrite and `append` in Append holds its map. After the records `out` left
-- Rewrite's live range and `stay` stayed, it doesn't.
abbrev pub LosesByRewrite : (append out stay all : List (Record ℕ ℕ)) → Type 0
LosesByRewrite append out stay all =
    HoldsMap (lone_store all append) (directory_meaning all append)
    × (HoldsMap (with_rewrite (lone_store all append) (raised (lone all) out stay))
    (directory_meaning all append) → ⊥)

-- entries 1 to 4 of group 1
abbrev pub first_run : Record ℕ ℕ
first_run = Plain (tagged 1 (Run 1 (11 ∷ 12 ∷ 13 ∷ 14 ∷ []) ∷ []))

-- a Compact that deletes the entries of group 1 below 3
abbrev pub compact_3 : Record ℕ ℕ
compact_3 = Plain (tagged 1 (Compact 3 ∷ []))

-- a Compact that deletes the entries of group 1 below 4
abbrev pub compact_4 : Record ℕ ℕ
compact_4 = Plain (tagged 1 (Compact 4 ∷ []))

-- A new entry 3 of group 1 replaces all entries from index 3 on. Then a Compact deletes entry 3 and all below it.
abbrev pub all_compacted : Record ℕ ℕ
all_compacted = Plain (tagged 1 (Run 3 (23 ∷ []) ∷ Compact 4 ∷ []))

-- a Put of a key of group 1
abbrev pub one_key : Record ℕ ℕ
one_key = Plain (tagged 1 (Put (5 ∷ []) 50 ∷ []))

-- a Clean of group 1
abbrev pub removal : Record ℕ ℕ
removal = Plain (tagged 1 (Clean ∷ []))

-- a Put of a key of group 2
abbrev pub other_key : Record ℕ ℕ
other_key = Plain (tagged 2 (Put (7 ∷ []) 70 ∷ []))

-- the first of an atomic group's two records, with entries 1 and 2
abbrev pub group_begin : Record ℕ ℕ
group_begin = Part (Begin 1) (tagged 1 (Run 1 (11 ∷ 12 ∷ []) ∷ []))

-- the second of this atomic group's two records, with entries 3 and 4
abbrev pub group_end : Record ℕ ℕ
group_end = Part (End 1) (tagged 1 (Run 3 (13 ∷ 14 ∷ []) ∷ []))

-- one batch: a Clean of group 1 and a Put of a key of group 2
abbrev pub both : Record ℕ ℕ
both = Plain (record { group = 1; item = Clean } ∷ record { group = 2; item = Put (7 ∷ []) 70 } ∷ [])

-- a directory in which the batch `both` is pending in Append, and Rewrite has these records
abbrev pub unsynced_both : List (Record ℕ ℕ) → Store ℕ ℕ
unsynced_both rewrite = record {
  rewrite = lone rewrite;
  append = record { gone = []; live = []; pending = both ∷ [] };
}

-- an engine that failed on a directory with these records
abbrev pub failed_on : List (Record ℕ ℕ) → List (Record ℕ ℕ) → Machine ℕ ℕ
failed_on rewrite append = record {
  store = lone_store rewrite append;
  map = directory_meaning rewrite append;
  whereabouts = λ g. nowhere;
  failed = true;
}

-- entry 1 of group 1
abbrev pub entry_1 : Record ℕ ℕ
entry_1 = Plain (tagged 1 (Run 1 (11 ∷ []) ∷ []))

-- entry 3 of group 1
abbrev pub entry_3 : Record ℕ ℕ
entry_3 = Plain (tagged 1 (Run 3 (13 ∷ []) ∷ []))

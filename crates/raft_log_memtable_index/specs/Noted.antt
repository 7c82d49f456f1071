-- In which files a memtable's entries and values are. To recover an entry or value that is in a file of Rewrite, an
-- earlier file may have to be kept too. The reason is that an atomic group may have records in several files.
use Rattle.std.specs.Prelude.{◌≡◌, ℕ, ◌+◌, ◌-◌, ◌<◌, ◌≤◌, ◌⊎◌, min, max, false, List, [], ◌∷◌, length, Option, Some, None, if◌then◌else◌, nat_le, slice_get}
use Rattle.raft_log_model_laws.specs.Item.{Item}
use Rattle.raft_log_model_laws.specs.Item.Item.{Run}
use Rattle.raft_log_model_laws.specs.Meaning.{Slot, says}
use Rattle.raft_log_model_laws.specs.Meaning.Slot.{Index, Key}
use Rattle.raft_log_machine_laws.specs.Survival.{IsSpoken}
use Rattle.raft_log_machine_laws.specs.Notes.{IsAppended, IsInRewrite}
use Rattle.raft_log_extents.specs.declared.place.Place.{Place}
use Rattle.raft_log_memtable_index.specs.declared.group_files.GroupFiles.{GroupFiles}
use Rattle.raft_log_memtable_index.specs.Shown.{KeyValue, Shown, whereabouts}
use Rattle.raft_log_memtable_index.specs.Bridge.{Move}
use Rattle.raft_log_memtable_index.specs.Bridge.Move.{MoveRun, MoveKey}

-- the file number of a place, or 0 if there is no place
abbrev pub place_file : Option Place → ℕ
place_file None = 0
place_file (Some p) = p.file

-- the file number of a value, or 0 if there is no value
abbrev pub held_file : Option KeyValue → ℕ
held_file None = 0
held_file (Some h) = h.file

-- the file number of the entry or value in slot `s`, if there is one; otherwise this number means nothing
abbrev pub file_at : Shown → Slot → ℕ
file_at v (Index i) = place_file (slice_get v.places (i - v.first))
file_at v (Key k) = held_file (v.held k)

-- The first file that must be kept so that what is in file `n` of Rewrite can be recovered. `files` are the first and
-- the last file of the noted atomic groups. If the last one is `n` or later, the result is the first one or `n`,
-- whichever is lower. Otherwise the result is `n`.
abbrev pub start_of : ℕ → Option GroupFiles → ℕ
start_of n None = n
start_of n (Some files) = if nat_le n files.to then min files.from n else n

-- the first file of Rewrite that must be kept so that what is in slot `s` can be recovered
abbrev pub noted_at : Shown → Slot → ℕ
noted_at v s = start_of (file_at v s) v.noted

-- no entry or value in Rewrite is in a file below `least`
abbrev pub IsLeastInRewrite : Shown → ℕ → Type 0
IsLeastInRewrite v least =
    ((i : ℕ) → v.first ≤ i → i < v.first + v.rewritten → least ≤ file_at v (Index i))
    × ((k : List ℕ) (h : KeyValue) → v.held k ≡ Some h → h.appended ≡ false → least ≤ h.file)

-- The files to note after the end of an atomic group whose records are in the files `new`. Below file `least` the table
-- has nothing in Rewrite. The files noted before stay noted, unless the last of them is below `least`.
abbrev pub noting : ℕ → Option GroupFiles → GroupFiles → GroupFiles
noting least None new = new
noting least (Some old) new =
    if nat_le least old.to then record { from = min old.from new.from; to = max old.to new.to } else new

-- the table after it noted the files `new` of an atomic group
abbrev pub with_note : Shown → ℕ → GroupFiles → Shown
with_note v least new = record v { noted = Some (noting least v.noted new) }

-- every place is in file `n`
abbrev pub AllIn : ℕ → List Place → Type 0
AllIn n [] = Unit {0}
AllIn n (p ∷ ps) = (p.file ≡ n) × AllIn n ps

-- every entry of these items is in file `n`
abbrev pub AreInFile : ℕ → List (Item Place (List ℕ)) → Type 0
AreInFile n [] = Unit {0}
AreInFile n (Run f ps ∷ xs) = AllIn n ps × AreInFile n xs
AreInFile n (x ∷ xs) = AreInFile n xs

-- every place is in a file up to number `n`
abbrev pub AllUpTo : ℕ → List Place → Type 0
AllUpTo n [] = Unit {0}
AllUpTo n (p ∷ ps) = (p.file ≤ n) × AllUpTo n ps

-- each of these moves is to a file whose number is at most `n`
abbrev pub AreUpTo : ℕ → List Move → Type 0
AreUpTo n [] = Unit {0}
AreUpTo n (MoveRun f ps ∷ xs) = AllUpTo n ps × AreUpTo n xs
AreUpTo n (MoveKey k file ∷ xs) = (file ≤ n) × AreUpTo n xs

-- every copy of entries is in file `n`
abbrev pub MovesIn : ℕ → List Move → Type 0
MovesIn n [] = Unit {0}
MovesIn n (MoveRun f ps ∷ xs) = AllIn n ps × MovesIn n xs
MovesIn n (MoveKey k file ∷ xs) = MovesIn n xs

-- In each queue, the file number never falls from one entry to the next. The file numbers in Append are at most `a`,
-- those in Rewrite at most `r`.
pub record FilesRise (a r : ℕ) (v : Shown) : Type 0 where
  pub appended : (i j : ℕ) → v.first + v.rewritten ≤ i → i ≤ j → j < v.first + length v.places
      → file_at v (Index i) ≤ file_at v (Index j)
  pub rewritten : (i j : ℕ) → v.first ≤ i → i ≤ j → j < v.first + v.rewritten
      → file_at v (Index i) ≤ file_at v (Index j)
  pub in_append : (i : ℕ) → v.first + v.rewritten ≤ i → i < v.first + length v.places
      → file_at v (Index i) ≤ a
  pub in_rewrite : (i : ℕ) → v.first ≤ i → i < v.first + v.rewritten → file_at v (Index i) ≤ r

-- Items from file `n` changed the table `v` into `u`. Each slot that is now in Append has one of two origins. It was in
-- Append before, in the same file, or it is in file `n` and an item touches it.
abbrev pub AppendedGrow : {E : Type 0} → List (Item E (List ℕ)) → ℕ → Shown → Shown → Type 0
AppendedGrow xs n v u =
    (s : Slot) → IsAppended (whereabouts u) s
    → (IsAppended (whereabouts v) s × (file_at u s ≡ file_at v s))
    ⊎ ((file_at u s ≡ n) × IsSpoken (says s xs))

-- each slot that the table `u` has in Append, the table `v` has in Append too, in the same file
abbrev pub AppendedShrink : Shown → Shown → Type 0
AppendedShrink v u =
    (s : Slot) → IsAppended (whereabouts u) s → IsAppended (whereabouts v) s × (file_at u s ≡ file_at v s)

-- for each slot that the table `u` has in Rewrite, the first file that must be kept is not later in `u` than in `v`
abbrev pub RewrittenStay : Shown → Shown → Type 0
RewrittenStay v u = (s : Slot) → IsInRewrite (whereabouts u) s → noted_at u s ≤ noted_at v s

-- The items `xs`, which are in Rewrite, changed the table `v` into `u`. Each slot that is now in Rewrite has one of two
-- origins. Either it was in Rewrite before, and its first file to keep is not later now. Or its first file to keep is
-- at most `n`, and an item touches it.
abbrev pub RewrittenCarry : {E : Type 0} → List (Item E (List ℕ)) → ℕ → Shown → Shown → Type 0
RewrittenCarry xs n v u =
    (s : Slot) → IsInRewrite (whereabouts u) s
    → (IsInRewrite (whereabouts v) s × (noted_at u s ≤ noted_at v s))
    ⊎ ((noted_at u s ≤ n) × IsSpoken (says s xs))

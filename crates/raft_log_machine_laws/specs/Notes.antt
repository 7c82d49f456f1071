-- For each slot, an engine notes the number of a file of the queue that stores the slot's content. For an empty slot
-- the number means nothing. In Append, a record of the noted file touches the slot. In Rewrite, if only the files from
-- the noted one on are read, some item that touches the slot still takes effect. The queue's live range may begin at
-- the lowest noted file, or before that file.
use Rattle.std.specs.Prelude.{◌≡◌, ℕ, ◌<◌, ◌≤◌, ◌⊎◌, true, false, List, [], ◌∷◌, ◌++◌, None}
use Rattle.raft_log_model_laws.specs.Item.{Record, Tagged, items_of}
use Rattle.raft_log_model_laws.specs.Meaning.{Slot, says}
use Rattle.raft_log_model_laws.specs.Meaning.Slot.{Index, Key}
use Rattle.raft_log_model_laws.specs.Groups.{Map, of_group, rewritten}
use Rattle.raft_log_machine_laws.specs.Unbroken.{begun}
use Rattle.raft_log_machine_laws.specs.Survival.{IsSpoken}
use Rattle.raft_log_machine_laws.specs.Whereabouts.{Whereabouts}
use Rattle.raft_log_machine_laws.specs.Files.{LogFile, FileQueue, records_of, span}

-- for each slot of each raft group, the number of the file that is noted for it
abbrev pub Notes : Type 0
Notes = ℕ → Slot → ℕ

-- `y` is an element of the list
abbrev pub IsAmong : {A : Type 0} → List A → A → Type 0
IsAmong [] y = ⊥
IsAmong (x ∷ xs) y = (y ≡ x) ⊎ IsAmong xs y

-- one of these files has the number `n` and has the record `y`
abbrev pub RecordLiesIn : {E V : Type 0} → ℕ → Record E V → List (LogFile E V) → Type 0
RecordLiesIn n y [] = ⊥
RecordLiesIn n y (f ∷ fs) = ((f.number ≡ n) × IsAmong f.records y) ⊎ RecordLiesIn n y fs

-- in the live range, a record of file `n` touches slot `s` of raft group `g`
abbrev pub SpeaksIn : {E V : Type 0} → FileQueue E V → ℕ → ℕ → Slot → Type 0
SpeaksIn {E} {V} q g n s =
    (y : Record E V) × RecordLiesIn n y (span q q.pending) × IsSpoken (says s (of_group g (items_of y)))

-- by these whereabouts, what is in the slot is stored in Append
abbrev pub IsAppended : Whereabouts → Slot → Type 0
IsAppended t (Index i) = (t.split ≤ i) × (i < t.end)
IsAppended t (Key k) = t.appended k ≡ true

-- for each slot whose content is stored in Append, a record of the noted file touches the slot
abbrev pub AreNoted : {E V : Type 0} → (ℕ → Whereabouts) → Notes → FileQueue E V → Type 0
AreNoted whereabouts notes q = (g : ℕ) (s : Slot) → IsAppended (whereabouts g) s → SpeaksIn q g (notes g s) s

-- each slot whose content is stored in Append has a noted file of number `n` or higher
abbrev pub AppendStandsFrom : ℕ → (ℕ → Whereabouts) → Notes → Type 0
AppendStandsFrom n whereabouts notes = (g : ℕ) (s : Slot) → IsAppended (whereabouts g) s → n ≤ notes g s

-- each of these files has the number `n` or a higher one
abbrev pub AllFrom : {E V : Type 0} → ℕ → List (LogFile E V) → Type 0
AllFrom n [] = Unit {0}
AllFrom n (f ∷ fs) = (n ≤ f.number) × AllFrom n fs

-- each of these files has a lower number than `n`
abbrev pub AllBelow : {E V : Type 0} → ℕ → List (LogFile E V) → Type 0
AllBelow n [] = Unit {0}
AllBelow n (f ∷ fs) = (f.number < n) × AllBelow n fs

-- The files `back` are a suffix of the live range, and all have the number `n` or a higher one. If only they are read,
-- an item touches slot `s` of raft group `g`. The item is in a plain record of these files, or in an atomic group that
-- is whole in them.
pub record SpeaksFrom {E V : Type 0} (q : FileQueue E V) (g n : ℕ) (s : Slot) : Type 0 where
  pub front : List (LogFile E V)
  pub back : List (LogFile E V)
  pub splits : front ++ back ≡ span q q.pending
  pub from : AllFrom n back
  pub spoken : IsSpoken (says s (rewritten g (records_of back)))

-- by these whereabouts, what is in the slot is stored in Rewrite
abbrev pub IsInRewrite : Whereabouts → Slot → Type 0
IsInRewrite t (Index i) = (t.first ≤ i) × (i < t.split)
IsInRewrite t (Key k) = t.appended k ≡ false

-- The noted files of Rewrite are right for each slot whose content is stored in Rewrite: the slot is empty, or an item
-- touches it even if only files from the noted one on are read (`SpeaksFrom`).
abbrev pub AreNotedInRewrite : {E V : Type 0} → Map E V → (ℕ → Whereabouts) → Notes → FileQueue E V → Type 0
AreNotedInRewrite m whereabouts notes q =
    (g : ℕ) (s : Slot) → IsInRewrite (whereabouts g) s → (m g s ≡ None) ⊎ SpeaksFrom q g (notes g s) s

-- each slot that isn't empty, and whose content is stored in Rewrite, has a noted file of number `n` or higher
abbrev pub RewriteStandsFrom : {E V : Type 0} → ℕ → Map E V → (ℕ → Whereabouts) → Notes → Type 0
RewriteStandsFrom n m whereabouts notes =
    (g : ℕ) (s : Slot) → IsInRewrite (whereabouts g) s → (m g s ≡ None) ⊎ (n ≤ notes g s)

-- The live range ends with the records of atomic group `n`, which has no end yet. All these records are in files from
-- number `from` on. The group's begin has the items `first`, and its middles have the items `more`.
pub record GoesOnFrom {E V : Type 0} (q : FileQueue E V) (from n : ℕ) (first : List (Tagged E V))
    (more : List (List (Tagged E V))) : Type 0 where
  pub front : List (LogFile E V)
  pub back : List (LogFile E V)
  pub splits : front ++ back ≡ span q q.pending
  pub high : AllFrom from back
  pub before : List (Record E V)
  pub ends : records_of back ≡ before ++ begun n first more

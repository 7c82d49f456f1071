-- How an engine's view changes with each record, from `old` to `new`. The engine's tables ensure this before the record
-- is written.
use Rattle.std.specs.Prelude.{◌≡◌, ℕ, ◌≤◌, ◌⊎◌, List, [], ◌∷◌, ◌++◌}
use Rattle.raft_log_model_laws.specs.Item.{Item, Tagged, Record, items_of}
use Rattle.raft_log_model_laws.specs.Meaning.{Slot, says}
use Rattle.raft_log_model_laws.specs.Groups.{of_group, taken}
use Rattle.raft_log_machine_laws.specs.Survival.{IsSpoken}
use Rattle.raft_log_machine_laws.specs.Unbroken.{joined}
use Rattle.raft_log_machine_laws.specs.Whereabouts.{GrowsBy, CarriesAll}
use Rattle.raft_log_machine_laws.specs.Machine.{AllFit, IsJoined}
use Rattle.raft_log_machine_laws.specs.Notes.{IsAppended, IsInRewrite}
use Rattle.raft_log_machine_laws.specs.Log.{View}

-- Record `y` was appended to file `n` of Append. For each slot whose content is then stored in Append, one of two
-- things is true. Its content was stored in Append before, and the noted file is the same. Or the record touches the
-- slot, and file `n` is noted.
abbrev pub NotesGrow : {E V : Type 0} → Record E V → ℕ → View E V → View E V → Type 0
NotesGrow y n old new =
    (g : ℕ) (s : Slot) → IsAppended (new.whereabouts g) s
    → (IsAppended (old.whereabouts g) s × (new.noted g s ≡ old.noted g s))
    ⊎ ((new.noted g s ≡ n) × IsSpoken (says s (of_group g (items_of y))))

-- each slot whose content is stored in Rewrite has the same noted file as before, or an earlier one
abbrev pub NotesStay : {E V : Type 0} → View E V → View E V → Type 0
NotesStay old new =
    (g : ℕ) (s : Slot) → IsInRewrite (new.whereabouts g) s
    → new.noted_in_rewrite g s ≤ old.noted_in_rewrite g s

-- how the view changes from `old` to `new` when batch `y` is appended to file `n` of Append
pub record GrowsTo {E V : Type 0} (y : Record E V) (n : ℕ) (old new : View E V) : Type 0 where
  pub whereabouts : (g : ℕ) → GrowsBy (old.whereabouts g) (of_group g (items_of y)) (new.whereabouts g)
  pub map : new.map ≡ taken old.map (y ∷ [])
  pub noted : NotesGrow y n old new
  pub noted_in_rewrite : NotesStay old new

-- The items `xs` start to count in file `n` of Rewrite. For each slot whose content is then stored in Rewrite, one of
-- two things is true. Its content was stored in Rewrite before, and its noted file is now the same or an earlier one.
-- Or the items touch the slot, and its noted file is `n` or an earlier one.
abbrev pub NotesCarry : {E V : Type 0} → List (Tagged E V) → ℕ → View E V → View E V → Type 0
NotesCarry xs n old new =
    (g : ℕ) (s : Slot) → IsInRewrite (new.whereabouts g) s
    → (IsInRewrite (old.whereabouts g) s × (new.noted_in_rewrite g s ≤ old.noted_in_rewrite g s))
    ⊎ ((new.noted_in_rewrite g s ≤ n) × IsSpoken (says s (of_group g xs)))

-- each slot whose content is stored in Append was stored there before, with the same noted file
abbrev pub NotesShrink : {E V : Type 0} → View E V → View E V → Type 0
NotesShrink old new =
    (g : ℕ) (s : Slot) → IsAppended (new.whereabouts g) s
    → IsAppended (old.whereabouts g) s × (new.noted g s ≡ old.noted g s)

-- How the view changes from `old` to `new` when a plain record with the items `xs` is appended to file `n` of Rewrite.
-- These are tombstones, copies out of Append, or copies of what Rewrite has.
pub record CarriesTo {E V : Type 0} (xs : List (Tagged E V)) (n : ℕ) (old new : View E V) : Type 0 where
  pub fit : AllFit xs
  pub whereabouts : (g : ℕ) → CarriesAll (old.map g) (old.whereabouts g) (of_group g xs) (new.whereabouts g)
  pub map : new.map ≡ old.map
  pub noted : NotesShrink old new
  pub noted_in_rewrite : NotesCarry xs n old new

-- How the view changes from `old` to `new` when an atomic group of Rewrite ends with the items `xs`. The group began in
-- file `n`, with the items `first`, and its middles have the items `more`. Several runs of the group may count as one
-- run (`IsJoined`).
pub record EndsGroupTo {E V : Type 0} (first : List (Tagged E V)) (more : List (List (Tagged E V)))
    (xs : List (Tagged E V)) (n : ℕ) (old new : View E V) : Type 0 where
  pub fit : AllFit xs
  pub whereabouts : (g : ℕ)
      → (items : List (Item E V)) × IsJoined (of_group g (joined first more ++ xs)) items
      × CarriesAll (old.map g) (old.whereabouts g) items (new.whereabouts g)
  pub map : new.map ≡ old.map
  pub noted : NotesShrink old new
  pub noted_in_rewrite : NotesCarry (joined first more ++ xs) n old new

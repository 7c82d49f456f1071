-- Scans that parse the value of each key of a group as a message, in the order of the keys.
use Rattle.std.specs.Prelude.{◌≡◌, ◌⊎◌, ℕ, Bool, true, List, [], ◌∷◌, Option, None, Some}
use Rattle.std.specs.Borrow.{Bor}
use Rattle.std.specs.Fn.{Called, Mut}
use Rattle.raft_log_record_base.specs.declared.errors.Error.{Error}
use Rattle.raft_log_record_base.specs.declared.errors.Error.TheVariants as errors
use Rattle.raft_log_memtable_index.specs.Listing.{in_direction}
use Rattle.raft_log_purge.specs.raft_log_engine_laws.specs.Reading.{ReadsKeys}
use Rattle.raft_log_purge.specs.raft_log_engine_laws.specs.EngineState.{EngineState}

-- the error says that some bytes don't parse as a message
abbrev pub IsNoMessage : Error → Type 0
IsNoMessage (errors.Message text) = Unit {0}
IsNoMessage _ = ⊥

-- the callback `f` was called with a reference to `key` and with `message`; it returned `more`, and is `next`
-- afterwards
pub record CalledAtKey {F M : Type 0} (g : Mut F (Bor (List ℕ) × (M × Unit {0})) Bool) (f : F) (key : List ℕ)
    (message : M) (more : Bool) (next : F) : Type 0 where
  pub shown : Bor (List ℕ)
  pub shows : shown.now ≡ key
  pub called : Called g f (shown, (message, tt)) more next

-- `reading` parses a value as a message. For each pair whose value parses, in order, the callback is called with the
-- key and the message, until it returns false. Pairs with other values are skipped.
abbrev pub VisitsMessages : {F M : Type 0} → (List ℕ → Option M) → (F → List ℕ → M → Bool → F → Type 0) → F
    → List (List ℕ × List ℕ) → Type 0
VisitsMessages reading called f [] = Unit {0}
VisitsMessages {F} {M} reading called f (e ∷ es) =
    ((reading e.1 ≡ None) × VisitsMessages reading called f es)
    ⊎ ((message : M) × (reading e.1 ≡ Some message) × (more : Bool) × (next : F)
    × called f e.0 message more next × (more ≡ true → VisitsMessages reading called next es))

-- A scan covers the keys of group `g` in the requested range. The callback is called with each key whose value parses
-- as a message, and with this message. The calls are in ascending order of the keys, or in descending order if
-- `backwards`. They end when the callback returns false.
abbrev pub ScansMessages : {F M : Type 0} → (List ℕ → Option M) → (F → List ℕ → M → Bool → F → Type 0) → F
    → EngineState → ℕ → Option (List ℕ) → Option (List ℕ) → Bool → Type 0
ScansMessages reading called callback s g start end backwards = (es : List (List ℕ × List ℕ))
    × ReadsKeys s g start end es × VisitsMessages reading called callback (in_direction backwards es)

-- The history of an engine: the records of the calls that it served, in order. It exists in proofs alone. A keeper
-- knows the whole history; a claim says that some records are in it. Each is a pass of a cell of the standard library:
-- a value without bytes. The view of a pass says what the pass knows of the history.
use Rattle.std.specs.Prelude.{◌≡◌, ℕ, List, [], ◌++◌, length, true, false}
use mathlib.Core.Option.{some}
use lib.ListN.{get_elem?}
use Rattle.atomic_table.specs.Seated.{TableId}
use Rattle.raft_log_shared.specs.declared.served.Served.{Served}
use Rattle.raft_log_shared.specs.declared.rule.View.{View}

-- a placeholder for the name of a history
abbrev pub no_table : TableId
no_table = record { words = 0; slots = 0; views_name = 0; atom = 0; block = 0; offset = 0; slot_names = [] }

-- from place `first` on, the history has the records `part`
pub record HasPart (all : List Served) (first : ℕ) (part : List Served) : Type 0 where
  pub before : List Served
  pub later : List Served
  pub is : all ≡ before ++ (part ++ later)
  pub at : length before ≡ first

-- the view of the pass that knows the whole history
abbrev pub knows : List Served → View
knows all = record { keeps = true; all = all; claims = false; first = 0; part = [] }

-- the view of a pass that claims these records from place `first` on
abbrev pub claims_part : ℕ → List Served → View
claims_part first part = record { keeps = false; all = []; claims = true; first = first; part = part }

-- the view of a pass that was used up
abbrev pub spent : View
spent = record { keeps = false; all = []; claims = false; first = 0; part = [] }

-- The view `v`, of the pass at position `by`, is true of the history `log`. Only the pass at position `seat` may know
-- the whole history, and what it knows is `log`. If the view has a claim, the claim is true.
abbrev pub IsTrue : ℕ → List Served → ℕ → View → Type 0
IsTrue seat log by v =
    (v.keeps ≡ true → (by ≡ seat) × (v.all ≡ log)) × (v.claims ≡ true → HasPart log v.first v.part)

-- there is one history of which all these views are true
abbrev pub IsOneHistory : List ℕ → List View → Type 0
IsOneHistory words views =
    (seat : ℕ) × (log : List Served) × ((by : ℕ) (v : View) → get_elem? views by ≡ some v → IsTrue seat log by v)

-- The pass with the view `v` knows the history. The records `part` were added at the end of this history. The view of
-- the pass is `w` after that.
abbrev pub Notes : List Served → View → List ℕ → List ℕ → View → Type 0
Notes part v before after w = w ≡ knows (v.all ++ part)

-- The pass that knows the history still knows it. Its view was `v` before and is `w` now. If `v` had a claim, the claim
-- is true.
abbrev pub Finds : View → List ℕ → List ℕ → View → Type 0
Finds v before after w = (w ≡ knows v.all) × (v.claims ≡ true → HasPart v.all v.first v.part)

-- the view `v`, but with the claim of the view `w`
abbrev pub with_claim : View → View → View
with_claim v w = record { keeps = v.keeps; all = v.all; claims = w.claims; first = w.first; part = w.part }

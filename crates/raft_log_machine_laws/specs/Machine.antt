-- The engine as a state machine: the records of both queues, the whereabouts of each raft group, and the events that
-- may happen.
use Rattle.std.specs.Prelude.{◌≡◌, ℕ, ◌+◌, ◌≤◌, Bool, true, false, List, [], ◌∷◌, ◌++◌, length}
use Rattle.raft_log_model_laws.specs.Item.{Item, Tagged, Record, items_of}
use Rattle.raft_log_model_laws.specs.Item.Item.{Run}
use Rattle.raft_log_model_laws.specs.Item.Record.{Plain, Part}
use Rattle.raft_log_model_laws.specs.Item.Mark.{Begin, Middle, End}
use Rattle.raft_log_model_laws.specs.Meaning.{Slot, says}
use Rattle.raft_log_model_laws.specs.Groups.{of_group, appended, rewritten, Map, taken}
use Rattle.raft_log_model_laws.specs.Holes.{Window, NoHole}
use Rattle.raft_log_machine_laws.specs.Unbroken.{IsUnbroken, begun, joined}
use Rattle.raft_log_machine_laws.specs.Queue.{Queue, Store, all_records, takes, synced, raised, left, reread, with_append, with_rewrite}
use Rattle.raft_log_machine_laws.specs.Survival.{HoldsMap}
use Rattle.raft_log_machine_laws.specs.Whereabouts.{Whereabouts, top, GrowsBy, CarriesAll, OwesNothing, HasAppended, HasRewritten}
use Rattle.raft_log_machine_laws.specs.Truth.{SaysOfSlot, AreCorrect}
use Rattle.raft_log_machine_laws.specs.Recovery.{IsRecovered}

-- if the item is a run, the index after its last entry is at most 2^64 - 1
abbrev pub Fits : {E V : Type 0} → Item E V → Type 0
Fits (Run f es) = f + length es ≤ top
Fits _ = Unit {0}

-- for each run of these items, the index after its last entry is at most 2^64 - 1
abbrev pub AllFit : {E V : Type 0} → List (Tagged E V) → Type 0
AllFit [] = Unit {0}
AllFit (x ∷ xs) = Fits x.item × AllFit xs

-- for each run of these records, the index after its last entry is at most 2^64 - 1
abbrev pub RecordsFit : {E V : Type 0} → List (Record E V) → Type 0
RecordsFit [] = Unit {0}
RecordsFit (r ∷ rs) = AllFit (items_of r) × RecordsFit rs

-- an engine and the records of its directory
pub record Machine (E V : Type 0) : Type 0 where
  pub store : Store E V
  -- the map of Append's synced batches
  pub map : Map E V
  -- where each entry and value of a raft group is stored, those of pending batches included
  pub whereabouts : ℕ → Whereabouts
  -- the engine has failed: the whereabouts may be wrong until the directory is opened again
  pub failed : Bool

-- what may happen to an engine and its directory
pub data Event (E V : Type 0) : Type 0 where
  -- a batch is appended to Append
  Take : Record E V → Event E V
  -- all pending records of a queue are synced: by a sync, by a rotation, or by the sync after a failed write was
  -- truncated
  SyncAppend : Event E V
  SyncRewrite : Event E V
  -- a plain record is appended to Rewrite: tombstones, copies of Append's entries and keys, or copies of what Rewrite
  -- has
  WritePlain : List (Tagged E V) → Event E V
  -- a part of the atomic group of this number is appended to Rewrite
  WriteBegin : ℕ → List (Tagged E V) → Event E V
  WriteMiddle : ℕ → List (Tagged E V) → Event E V
  WriteEnd : ℕ → List (Tagged E V) → Event E V
  -- the records `out` leave a queue's live range at its beginning, and the records `stay` stay
  RaiseAppend : (out stay : List (Record E V)) → Event E V
  RaiseRewrite : (out stay : List (Record E V)) → Event E V
  -- the oldest of a queue's records below the live range, `lost`, are lost; `rest` are the others below it
  LoseAppend : (lost rest : List (Record E V)) → Event E V
  LoseRewrite : (lost rest : List (Record E V)) → Event E V
  -- the engine fails
  Fail : Event E V
  -- A crash or a close, and then an open. Of the pending records, the prefixes `r_kept` of Rewrite and `a_kept` of
  -- Append are kept. Of the records below the live ranges, the suffixes `r_back` and `a_back` are read.
  Reopen : (r_kept r_lost r_cut r_back a_kept a_lost a_cut a_back : List (Record E V)) → Event E V

-- Queue `q` ends with the records of atomic group `n`, which has no end yet: its begin with the items `first`, and its
-- middles, whose items are the lists of `more`.
abbrev pub GoesOnWith : {E V : Type 0} → Queue E V → ℕ → List (Tagged E V) → List (List (Tagged E V)) → Type 0
GoesOnWith {E} {V} q n first more =
    (front : List (Record E V)) × (q.live ++ q.pending ≡ front ++ begun n first more)

-- The items `items` may replace `parts`. Both lists do the same to each slot, and `parts` leave no hole if `items`
-- leave none. So one run may replace several runs, each of which starts at the end of the one before.
pub record IsJoined {E V : Type 0} (parts items : List (Item E V)) : Type 0 where
  pub same_words : (s : Slot) → says s parts ≡ says s items
  pub no_more_holes : (w : Window) → NoHole w items → NoHole w parts

-- This event may happen to machine `w`, and changes it into `v`. Its conditions on a raft group are about the group's
-- whereabouts. While batches are pending in Append, Rewrite takes no plain record and no end of an atomic group.
abbrev pub Step : {E V : Type 0} → Event E V → Machine E V → Machine E V → Type 0
Step (Take y) w v =
    (w.failed ≡ false)
    × ((next : ℕ → Whereabouts) × ((g : ℕ) → GrowsBy (w.whereabouts g) (of_group g (items_of y)) (next g))
    × (v ≡ record w { store = with_append w.store (takes w.store.append y); whereabouts = next }))
Step SyncAppend w v =
    (w.failed ≡ false)
    × (v ≡ record w {
      store = with_append w.store (synced w.store.append);
      map = taken w.map w.store.append.pending;
    })
Step SyncRewrite w v =
    (w.failed ≡ false) × (v ≡ record w { store = with_rewrite w.store (synced w.store.rewrite) })
Step (WritePlain xs) w v =
    (w.failed ≡ false) × (w.store.append.pending ≡ []) × AllFit xs
    × ((next : ℕ → Whereabouts)
    × ((g : ℕ) → CarriesAll (w.map g) (w.whereabouts g) (of_group g xs) (next g))
    × (v ≡ record w { store = with_rewrite w.store (takes w.store.rewrite (Plain xs)); whereabouts = next }))
Step (WriteBegin n xs) w v =
    (w.failed ≡ false) × AllFit xs
    × (v ≡ record w { store = with_rewrite w.store (takes w.store.rewrite (Part (Begin n) xs)) })
Step {E} {V} (WriteMiddle n xs) w v =
    (w.failed ≡ false) × AllFit xs
    × ((first : List (Tagged E V)) × (more : List (List (Tagged E V)))
    × GoesOnWith w.store.rewrite n first more
    × (v ≡ record w { store = with_rewrite w.store (takes w.store.rewrite (Part (Middle n) xs)) }))
Step {E} {V} (WriteEnd n xs) w v =
    (w.failed ≡ false) × (w.store.append.pending ≡ []) × AllFit xs
    × ((first : List (Tagged E V)) × (more : List (List (Tagged E V)))
    × GoesOnWith w.store.rewrite n first more
    × ((next : ℕ → Whereabouts)
    × ((g : ℕ) → (items : List (Item E V)) × IsJoined (of_group g (joined first more ++ xs)) items
    × CarriesAll (w.map g) (w.whereabouts g) items (next g))
    × (v ≡ record w {
      store = with_rewrite w.store (takes w.store.rewrite (Part (End n) xs));
      whereabouts = next;
    })))
Step (RaiseAppend out stay) w v =
    (w.failed ≡ false) × (w.store.append.pending ≡ []) × (w.store.rewrite.pending ≡ [])
    × (out ++ stay ≡ w.store.append.live)
    × ((g : ℕ) → OwesNothing (w.whereabouts g)) × ((g : ℕ) → HasAppended (w.whereabouts g) (appended g stay))
    × (v ≡ record w { store = with_append w.store (raised w.store.append out stay) })
Step (RaiseRewrite out stay) w v =
    (w.failed ≡ false) × (w.store.append.pending ≡ []) × (w.store.rewrite.pending ≡ [])
    × (out ++ stay ≡ w.store.rewrite.live)
    × ((g : ℕ) → HasRewritten (w.map g) (w.whereabouts g) (rewritten g stay))
    × (v ≡ record w { store = with_rewrite w.store (raised w.store.rewrite out stay) })
Step (LoseAppend lost rest) w v =
    (lost ++ rest ≡ w.store.append.gone)
    × (v ≡ record w { store = with_append w.store (left w.store.append rest) })
Step (LoseRewrite lost rest) w v =
    (lost ++ rest ≡ w.store.rewrite.gone)
    × (v ≡ record w { store = with_rewrite w.store (left w.store.rewrite rest) })
Step Fail w v = v ≡ record w { failed = true }
Step (Reopen r_kept r_lost r_cut r_back a_kept a_lost a_cut a_back) w v =
    (r_kept ++ r_lost ≡ w.store.rewrite.pending) × (r_cut ++ r_back ≡ w.store.rewrite.gone)
    × (a_kept ++ a_lost ≡ w.store.append.pending) × (a_cut ++ a_back ≡ w.store.append.gone)
    × ((next : ℕ → Whereabouts)
    × ((g : ℕ)
    → IsRecovered (taken w.map a_kept g) (appended g (a_back ++ (w.store.append.live ++ a_kept))) (next g))
    × (v ≡ record {
      store = record {
        rewrite = reread w.store.rewrite r_cut r_back r_kept;
        append = reread w.store.append a_cut a_back a_kept;
      };
      map = taken w.map a_kept;
      whereabouts = next;
      failed = false;
    }))

-- these events, one after another, change machine `w` into `v`
abbrev pub Steps : {E V : Type 0} → Machine E V → List (Event E V) → Machine E V → Type 0
Steps w [] v = v ≡ w
Steps {E} {V} w (e ∷ es) v = (next : Machine E V) × Step e w next × Steps next es v

-- What records do to each slot of raft group `g`. Three lists count, each with the pending records: all records of
-- Rewrite that a recovery may read, the records of Rewrite's live range, and the records of Append's live range.
abbrev pub said_of : {E V : Type 0} → ℕ → Store E V → SaysOfSlot E V
said_of g q = record {
  lowest = λ s. says s (rewritten g (all_records q.rewrite));
  rewrite = λ s. says s (rewritten g (q.rewrite.live ++ q.rewrite.pending));
  append = λ s. says s (appended g (q.append.live ++ q.append.pending));
}

-- The invariant of the machine. The queues hold its map. No other record comes between those of an atomic group of
-- Rewrite. No run in Rewrite ends above 2^64 - 1. Unless the engine has failed, the whereabouts agree with the records.
pub record IsKept {E V : Type 0} (w : Machine E V) : Type 0 where
  pub holds : HoldsMap w.store w.map
  pub unbroken : IsUnbroken (all_records w.store.rewrite)
  pub fits : RecordsFit (all_records w.store.rewrite)
  pub whereabouts : w.failed ≡ false → (g : ℕ)
      → AreCorrect (said_of g w.store) (taken w.map w.store.append.pending g) (w.whereabouts g)

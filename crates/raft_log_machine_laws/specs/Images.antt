-- In each image that a crash may leave, each raft group's entries are one run. Also here: what a crash may keep, and
-- what the recovery after it may read.
use Rattle.std.specs.Prelude.{◌≡◌, ℕ, ◌<◌, ◌≤◌, List, ◌++◌, Option, Some, None}
use Rattle.raft_log_model_laws.specs.Item.{Record}
use Rattle.raft_log_model_laws.specs.Meaning.{Slot, Content}
use Rattle.raft_log_model_laws.specs.Meaning.Slot.{Index}
use Rattle.raft_log_model_laws.specs.Groups.{taken}
use Rattle.raft_log_machine_laws.specs.Whereabouts.{top}
use Rattle.raft_log_machine_laws.specs.Queue.{Store, reread}
use Rattle.raft_log_machine_laws.specs.Machine.{Machine, Event}
use Rattle.raft_log_machine_laws.specs.Machine.Event.{Reopen}

-- The entries of the raft group are one run. Each index from `first` to below `end` has an entry, and no other index
-- has one. All indexes with an entry are below 2^64 - 1.
pub record IsOneRun {E V : Type 0} (m : Slot → Option (Content E V)) : Type 0 where
  pub first : ℕ
  pub end : ℕ
  pub in_range : end ≤ top
  pub below : (i : ℕ) → i < first → m (Index i) ≡ None
  pub above : (i : ℕ) → end ≤ i → m (Index i) ≡ None
  pub solid : (i : ℕ) → first ≤ i → i < end → (entry : Content E V) × (m (Index i) ≡ Some entry)

-- the entries of each raft group are one run after every prefix of the pending batches
pub record HasRuns {E V : Type 0} (w : Machine E V) : Type 0 where
  pub runs : (g : ℕ) (kept lost : List (Record E V)) → kept ++ lost ≡ w.store.append.pending
      → IsOneRun (taken w.map kept g)

-- A crash and a recovery of directory `q`. The image kept `r_kept` and `a_kept`, prefixes of the pending records of
-- Rewrite and Append. Of the records below the live ranges, the recovery reads the suffixes `r_back` and `a_back`.
pub record Recovery {E V : Type 0} (q : Store E V) : Type 0 where
  pub r_kept : List (Record E V)
  pub r_lost : List (Record E V)
  pub r_cut : List (Record E V)
  pub r_back : List (Record E V)
  pub a_kept : List (Record E V)
  pub a_lost : List (Record E V)
  pub a_cut : List (Record E V)
  pub a_back : List (Record E V)
  pub r_image : r_kept ++ r_lost ≡ q.rewrite.pending
  pub r_start : r_cut ++ r_back ≡ q.rewrite.gone
  pub a_image : a_kept ++ a_lost ≡ q.append.pending
  pub a_start : a_cut ++ a_back ≡ q.append.gone

-- the records of Rewrite that the recovery reads
abbrev pub rewrite_read : {E V : Type 0} → (q : Store E V) → Recovery q → List (Record E V)
rewrite_read q r = r.r_back ++ (q.rewrite.live ++ r.r_kept)

-- the records of Append that the recovery reads
abbrev pub append_read : {E V : Type 0} → (q : Store E V) → Recovery q → List (Record E V)
append_read q r = r.a_back ++ (q.append.live ++ r.a_kept)

-- the event of this crash and this recovery
abbrev pub reopening : {E V : Type 0} → (q : Store E V) → Recovery q → Event E V
reopening q r = Reopen r.r_kept r.r_lost r.r_cut r.r_back r.a_kept r.a_lost r.a_cut r.a_back

-- the directory after the recovery synced what it read
abbrev pub reopened : {E V : Type 0} → (q : Store E V) → Recovery q → Store E V
reopened q r = record {
  rewrite = reread q.rewrite r.r_cut r.r_back r.r_kept;
  append = reread q.append r.a_cut r.a_back r.a_kept;
}

-- What a recovery needs in order to read the files. No run leaves a hole, and no other record comes between those of an
-- atomic group.
use Rattle.std.specs.Prelude.{◌≡◌, ℕ, ◌≤◌, ◌⊎◌, false, List, ◌++◌}
use Rattle.raft_log_model_laws.specs.Item.{Record}
use Rattle.raft_log_model_laws.specs.Groups.{appended, rewritten}
use Rattle.raft_log_model_laws.specs.Holes.{Window, nothing, window, NoHole}
use Rattle.raft_log_machine_laws.specs.Unbroken.{IsUnbroken}
use Rattle.raft_log_machine_laws.specs.Queue.{Store, all_records}
use Rattle.raft_log_machine_laws.specs.Whereabouts.{Whereabouts}
use Rattle.raft_log_machine_laws.specs.Machine.{Machine}

-- Reading both queues succeeds from every record at which a recovery may start, whatever prefix of the pending records
-- a crash kept. No run leaves a hole, and no other record comes between those of an atomic group.
pub record ReadsThrough {E V : Type 0} (q : Store E V) : Type 0 where
  pub append : (g : ℕ) (kept lost cut back : List (Record E V)) → kept ++ lost ≡ q.append.pending
      → cut ++ back ≡ q.append.gone
      → NoHole nothing (appended g (back ++ (q.append.live ++ kept)))
  pub rewrite : (g : ℕ) (kept lost cut back : List (Record E V)) → kept ++ lost ≡ q.rewrite.pending
      → cut ++ back ≡ q.rewrite.gone
      → NoHole nothing (rewritten g (back ++ (q.rewrite.live ++ kept)))
  pub groups : (kept lost cut back : List (Record E V)) → kept ++ lost ≡ q.rewrite.pending
      → cut ++ back ≡ q.rewrite.gone
      → IsUnbroken (back ++ (q.rewrite.live ++ kept))

-- current run `w` is empty, or it ends where the raft group's entries end and starts no lower than they do
abbrev pub IsTopOf : Window → Whereabouts → Type 0
IsTopOf w t = (w.end ≤ w.first) ⊎ ((w.end ≡ t.end) × (t.first ≤ w.first))

-- The invariant that makes reading succeed. No run of Append's or of Rewrite's records leaves a hole. Unless the
-- engine has failed, Append's current run is empty or the upper part of the group's entries.
pub record IsReplayable {E V : Type 0} (w : Machine E V) : Type 0 where
  pub append_whole : (g : ℕ) → NoHole nothing (appended g (all_records w.store.append))
  pub rewrite_whole : (g : ℕ) → NoHole nothing (rewritten g (all_records w.store.rewrite))
  pub top_part : w.failed ≡ false → (g : ℕ)
      → IsTopOf (window nothing (appended g (all_records w.store.append))) (w.whereabouts g)

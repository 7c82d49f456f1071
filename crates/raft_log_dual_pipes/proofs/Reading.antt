-- Where the records of both queues are held, their numbered files allow each image.
use Rattle.std.proofs.Common.{ℕ, ◌≤◌, List, [], ◌∷◌, map, sym, subst, inl, inr, arith}
use Rattle.raft_log_model_laws.specs.Item.{Record}
use Rattle.raft_log_machine_laws.specs.Files.{LogFile, FileQueue, IsRead}
use Rattle.raft_log_fs.specs.Disk.{Disk}
use Rattle.raft_log_fs.specs.Image.{IsSound}
use Rattle.raft_log_file_writer.specs.LogQueue.{LogFiles, Found, ReadsFrom}
use Rattle.raft_log_active_file.specs.Bridge.{logged, IsFileQueue, ReadsAsFiles}
use Rattle.raft_log_active_file.proofs.Public.{reads_as_numbered}
use Rattle.raft_log_dual_pipes.specs.Queues.{QueueLayout, IsQueueLayout, TwoQueues}
use Rattle.raft_log_dual_pipes.specs.State.{HoldsQueue}
use Rattle.raft_log_dual_pipes.specs.Crash.{IsReadAs, MayRead, HeldIsAllowed}

module _ {R E V : Type 0} (says : R → Record E V) (layout : QueueLayout R) (told : IsQueueLayout layout) where
  pub held_reads : (q : LogFiles R) (low first : ℕ) (d : Disk) (files : FileQueue E V) → IsSound d → HoldsQueue layout q d → IsFileQueue says layout.format q low first d files → ReadsAsFiles says layout.format q low first d files
  held_reads q low first d files sound held all = elim held [
    | inl left ↦ reads_as_numbered says layout.format layout.own told.lawful.format told.told d q left.path left.id left.N d sound (inl left.stands) low first files all
    | inr left ↦ reads_as_numbered says layout.format layout.own told.lawful.format told.told d q left.path left.id left.N d sound (inr left.stands) low first files all
  ]

  -- what is found is read as the numbered files allow
  found_reads : (low first : ℕ) (files : FileQueue E V) (kept : List (Record E V)) (d : Disk) (s : ℕ) (read : List (LogFile E V)) (found : List (Found R)) → IsRead low files kept s (map (logged says) found) → IsReadAs says s found read → IsRead low files kept s read
  found_reads low first files kept d s read [] is read_as = (let some = is.some in absurd (omega (arith, some)))
  found_reads low first files kept d s read (f ∷ fs) is read_as = subst (IsRead low files kept s) (sym read_as) is

  pub may_reads : (low first : ℕ) (files : FileQueue E V) (kept : List (Record E V)) (image : Disk) → ((s : ℕ) → s ≤ first → (found : List (Found R)) → ReadsFrom layout.format image s found → IsRead low files kept s (map (logged says) found))
      → (s : ℕ) (read : List (LogFile E V)) → MayRead says layout.format first image s read → IsRead low files kept s read
  may_reads low first files kept image reads s read (under, found, from, read_as) = found_reads low first files kept image s read found (reads s under found from) read_as

pub held_is_allowed : {R E V : Type 0} (log : TwoQueues R E V) → HeldIsAllowed log
held_is_allowed log two s f sound held ties image left =
    let (r_kept, r_lost, r_all, r_reads) = held_reads log.says log.rewrite two.rewrite s.rewrite.files f.rewrite_from s.rewrite.first s.disk f.rewrite sound held.rewrite ties.rewrite image.disk left.disk left.rewrite in
    let (a_kept, a_lost, a_all, a_reads) = held_reads log.says log.append two.append s.append.files f.append_from s.append.first s.disk f.append sound held.append ties.append image.disk left.disk left.append in
    record {
      rewrite_kept = r_kept;
      rewrite_lost = r_lost;
      append_kept = a_kept;
      append_lost = a_lost;
      rewrite_image = r_all;
      append_image = a_all;
      rewrite_read = may_reads log.says log.rewrite two.rewrite f.rewrite_from image.rewrite.first f.rewrite r_kept image.disk (λ t under. r_reads t (omega (arith, under, left.rewrite_first)));
      append_read = may_reads log.says log.append two.append f.append_from image.append.first f.append a_kept image.disk (λ t under. a_reads t (omega (arith, under, left.append_first)));
    }

-- The numbered files of a queue through quiet events, one after the other.
use Rattle.std.proofs.Common.{◌≡◌, ℕ, List, [], ◌∷◌, ◌++◌, refl, sym, ◌∙◌, ap, subst}
use Rattle.std.proofs.lemmas.List.{append-nil}
use Rattle.raft_log_model_laws.specs.Item.{Record}
use Rattle.raft_log_machine_laws.specs.Files.{FileQueue, FileEvent, numbered_from}
use Rattle.raft_log_machine_laws.specs.Files.FileEvent.{Sync, Rotate}
use Rattle.raft_log_fs.specs.Disk.{Disk}
use Rattle.raft_log_file_writer.specs.LawsChains.{Written}
use Rattle.raft_log_file_writer.specs.LogFormat.{Format}
use Rattle.raft_log_file_writer.specs.LogQueue.{LogFiles, rotated}
use Rattle.raft_log_active_file.specs.Queue.{with_room, settled, synced, with_more}
use Rattle.raft_log_active_file.specs.Bridge.{said, filed, IsFileQueue, GapsStay}
use Rattle.raft_log_active_file.proofs.Public.{takes_numbered_steps}
use Rattle.raft_log_machine_laws.specs.Moves.{Moves, settled_files, grown}
use Rattle.raft_log_dual_pipes.specs.Quiet.{QuietTo}

module _ {E V : Type 0} where
  pub moves_then : (n : ℕ) (q : FileQueue E V) (es : List (FileEvent E V)) (k : ℕ) (p : FileQueue E V) (ds : List (FileEvent E V)) (j : ℕ) (r : FileQueue E V) → Moves n q es k p → Moves k p ds j r → Moves n q (es ++ ds) j r
  moves_then n q [] k p ds j r (k_is, p_is) more = subst (λ i. Moves i q ds j r) k_is (subst (λ x. Moves k x ds j r) p_is more)
  moves_then n q (e ∷ es) k p ds j r (next, quiet, step, rest) more = (next, quiet, step, moves_then (numbered_from n e) next es k p ds j r rest more)

module _ {R E V : Type 0} (says : R → Record E V) (F : Format R) (first : ℕ) where
  -- what isn't said of records, and of which files are there, doesn't matter
  pub files_same : (q p : LogFiles R) (low : ℕ) (d : Disk) (f : FileQueue E V) → p.older ≡ q.older → p.last ≡ q.last → p.durable ≡ q.durable → p.pending ≡ q.pending → IsFileQueue says F q low first d f → IsFileQueue says F p low first d f
  files_same q p low d f older last durable pending all = record {
    back = all.back;
    forth = all.forth;
    below = all.below;
    above = all.above ∙ sym last;
    gone = all.gone ∙ ap (λ h. filed says h low all.back) (sym older);
    full = all.full ∙ ap (λ h. filed says h first all.forth) (sym older);
    last = all.last ∙ sym last;
    synced = all.synced ∙ ap (said says) (sym durable);
    pending = all.pending ∙ ap (said says) (sym pending);
    behind = all.behind;
    gap = all.gap;
  }

  pub quiet_then : (q p r : LogFiles R) (old mid new : Disk) → QuietTo says F first q old p mid → QuietTo says F first p mid r new → QuietTo says F first q old r new
  quiet_then q p r old mid new one two from f all =
      let (a, is) = one from f all in
      let (b, then_is) = two a.from a.queue is in (
        record { events = a.events ++ b.events; from = b.from; queue = b.queue; moves = moves_then from f a.events a.from a.queue b.events b.from b.queue a.moves b.moves },
        then_is,
      )

  -- nothing happens
  pub quiet_same : (q p : LogFiles R) (old new : Disk) → p.older ≡ q.older → p.last ≡ q.last → p.durable ≡ q.durable → p.pending ≡ q.pending → GapsStay F q old new → QuietTo says F first q old p new
  quiet_same q p old new older last durable pending gaps from f all = (
    record { events = []; from = from; queue = f; moves = (refl, refl) },
    files_same q p from new f older last durable pending ((takes_numbered_steps says F q from first old f all).elsewhere new gaps),
  )

  -- the queue goes on in the next file
  pub quiet_rotates : (q : LogFiles R) (header stale : List ℕ) (room : ℕ) (old new : Disk) → GapsStay F q old new → QuietTo says F first q old (with_room room (rotated header stale q)) new
  quiet_rotates q header stale room old new gaps from f all =
      let moved = (takes_numbered_steps says F q from first old f all).elsewhere new gaps in
      let (next, step, is) = (takes_numbered_steps says F q from first new f moved).rotates header stale in (
        record { events = Rotate ∷ []; from = from; queue = next; moves = (next, tt, step, (refl, refl)) },
        files_same (rotated header stale q) (with_room room (rotated header stale q)) from new next refl refl refl refl is,
      )

  -- all of it is synced
  pub quiet_settles : (q : LogFiles R) (old new : Disk) → GapsStay F q old new → QuietTo says F first q old (settled q) new
  quiet_settles q old new gaps from f all =
      let moved = (takes_numbered_steps says F q from first old f all).elsewhere new gaps in
      let (next, step, is) = (takes_numbered_steps says F q from first new f moved).syncs in (
        record { events = Sync ∷ []; from = from; queue = next; moves = (next, tt, step, (refl, refl)) },
        files_same (synced q) (settled q) from new next refl refl refl refl is,
      )

  -- the last file takes a record
  pub takes_one : (q : LogFiles R) (w : Written R) (y : Record E V) (low : ℕ) (d : Disk) (f : FileQueue E V) → says w.value ≡ y → IsFileQueue says F q low first d f → IsFileQueue says F (with_more (w ∷ []) q) low first d (grown f y)
  takes_one q w y low d f is_said all =
      let (next, step, grows) = (takes_numbered_steps says F q low first d f all).grows (w ∷ []) in
      subst (λ (r : Record E V). IsFileQueue says F (with_more (w ∷ []) q) low first d (grown f r)) is_said (subst (IsFileQueue says F (with_more (w ∷ []) q) low first d) step grows)

  -- where nothing is pending, a sync changes nothing
  pub still_settled : (q : LogFiles R) (low : ℕ) (d : Disk) (f : FileQueue E V) → q.pending ≡ [] → IsFileQueue says F q low first d f → IsFileQueue says F q low first d (settled_files f)
  still_settled q low d f none all = record {
    back = all.back;
    forth = all.forth;
    below = all.below;
    above = all.above;
    gone = all.gone;
    full = all.full;
    last = all.last;
    synced = ap (λ rs. f.synced ++ rs) (all.pending ∙ ap (said says) none) ∙ append-nil f.synced ∙ all.synced;
    pending = ap (said says) (sym none);
    behind = all.behind;
    gap = all.gap;
  }

  -- and nothing of the numbered files is pending either
  pub none_pending : (q : LogFiles R) (low : ℕ) (d : Disk) (f : FileQueue E V) → q.pending ≡ [] → IsFileQueue says F q low first d f → f.pending ≡ []
  none_pending q low d f none all = all.pending ∙ ap (said says) none

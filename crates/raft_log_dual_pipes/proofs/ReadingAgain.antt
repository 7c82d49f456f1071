-- The numbered files of a log that is found again, and what is said of it then.
use Rattle.std.proofs.Common.{◌≡◌, ℕ, ◌≤◌, false, Option, List, [], ◌++◌, length, take, refl, sym, ◌∙◌, ap, ap₂, subst, arith}
use Rattle.std.proofs.lemmas.List.{append-nil, take_all}
use Rattle.raft_log_model_laws.specs.Item.{Record}
use Rattle.raft_log_model_laws.specs.Groups.{Map, taken}
use Rattle.raft_log_machine_laws.specs.Whereabouts.{Whereabouts}
use Rattle.raft_log_machine_laws.specs.Files.{FileQueue, records_of}
use Rattle.raft_log_machine_laws.specs.Files.FileEvent.{Read}
use Rattle.raft_log_machine_laws.specs.Machine.Event.{Reopen}
use Rattle.raft_log_machine_laws.proofs.Public.{file_step_numbers, kept_first, opens, read_queue, sound_step}
use Rattle.raft_log_fs.specs.Disk.{Disk}
use Rattle.raft_log_file_writer.specs.LawsChains.{Written}
use Rattle.raft_log_file_writer.specs.KeepsSynced.{kept_records}
use Rattle.raft_log_file_writer.specs.LogFormat.{Format}
use Rattle.raft_log_file_writer.specs.LogQueue.{LogFiles, recent}
use Rattle.raft_log_fs.specs.Touching.{TouchesOnlyNames}
use Rattle.raft_log_active_file.specs.Bridge.{IsFileQueue, GapsStay}
use Rattle.raft_log_active_file.proofs.Public.{takes_numbered_steps}
use Rattle.raft_log_file_pipe.specs.declared.pipe_files.PipeFiles.{PipeFiles}
use Rattle.raft_log_machine_laws.specs.Model.{Files, Model, IsModelSound, machine_of, running}
use Rattle.raft_log_machine_laws.specs.Log.{IsLog}
use Rattle.raft_log_machine_laws.specs.Calls.{Which, ReadAgain, read_files, from_at, queue_at, put}
use Rattle.raft_log_machine_laws.specs.Calls.Which.{InAppend, InRewrite}
use Rattle.raft_log_dual_pipes.specs.Queues.{TwoQueues, AreTwoQueues, layout_at}
use Rattle.raft_log_dual_pipes.specs.State.{Spanned, LogOnDisk, spanned_at, Ties}
use Rattle.raft_log_dual_pipes.specs.OpenOrClosed.{OpenPipes, with_open, IsOpenOrClosed}
use Rattle.raft_log_dual_pipes.specs.Reopening.{ReadsAgain, ReadsBothAgain, found_log, FoundLogIsALog}
use Rattle.raft_log_dual_pipes.proofs.Lifts.{tie_at}
use Rattle.raft_log_dual_pipes.proofs.ClosedQueues.{ties_leave}

-- One queue.

module _ {R E V : Type 0} (says : R → Record E V) (F : Format R) where
  pub read_one : (q p : LogFiles R) (low first to count : ℕ) (old new : Disk) (f : FileQueue E V) → GapsStay F q old new → low ≤ to → to ≤ first → p.older ≡ q.older → p.last ≡ q.last
      → p.durable ≡ kept_records q.durable q.pending count → p.pending ≡ [] → IsFileQueue says F q low first old f → (r : ReadAgain f) × IsFileQueue says F p low to new (read_files f r)
  read_one q p low first to count old new f gaps from under older last durable pending all =
      let moved = (takes_numbered_steps says F q low first old f all).elsewhere new gaps in
      let (below, again, kept, lost, parts, (next, step, is)) = (takes_numbered_steps says F q low first new f moved).reads_again to count p from under older last durable pending in (
        record { below = below; again = again; kept = kept; lost = lost; gone = step.0; image = parts },
        subst (IsFileQueue says F p low to new) step.1 is,
      )

-- all records of the last file are kept
pub all_records : {R : Type 0} (q : LogFiles R) → recent q ≡ kept_records q.durable q.pending (length q.pending)
all_records {R} q = ap (λ (ws : List (Written R)). q.durable ++ ws) (sym (take_all (length q.pending) q.pending (omega arith)))

-- none of the pending ones is there
pub no_records : {R : Type 0} (q : LogFiles R) → q.durable ≡ kept_records q.durable q.pending 0
no_records q = sym (append-nil q.durable)

module _ {R E V : Type 0} (log : TwoQueues R E V) (two : AreTwoQueues log) where
  -- a call on one queue found it again so, its span beginning with that number
  pub read_on : (which : Which) (o : OpenPipes) (was : Option PipeFiles) (s : LogOnDisk R) (p : LogFiles R) (to count : ℕ) (new : Disk) → IsOpenOrClosed log (with_open which o was) s → TouchesOnlyNames (layout_at which log).own s.disk new
      → GapsStay (layout_at which log).format (spanned_at which s).files s.disk new
      → ((low : ℕ) (f : FileQueue E V) → IsFileQueue log.says (layout_at which log).format (spanned_at which s).files low (spanned_at which s).first s.disk f → low ≤ to)
      → to ≤ (spanned_at which s).first → p.older ≡ (spanned_at which s).files.older → p.last ≡ (spanned_at which s).files.last
      → p.durable ≡ kept_records (spanned_at which s).files.durable (spanned_at which s).files.pending count → p.pending ≡ [] → ReadsAgain (Ties log) which s (found_log which s to p new)
  read_on which o was s p to count new is only gaps from under older last durable pending f ties =
      let q = spanned_at which s in
      let all = tie_at log two which s f ties in
      let (r, next) = read_one log.says (layout_at which log).format q.files p (from_at which f) q.first to count s.disk new (queue_at which f) gaps (from (from_at which f) (queue_at which f) all) under older last durable pending all in
      (r, ties_leave log two which o was s (record { first = to; files = p }) new f (from_at which f) (read_files (queue_at which f) r) is only ties next)

-- Both queues.

module _ {E V : Type 0} (d : Model E V) (k : IsModelSound d) (r : ReadAgain d.files.rewrite) (a : ReadAgain d.files.append) where
  abbrev read_again : Files E V
  read_again = record d.files { rewrite = read_files d.files.rewrite r; append = read_files d.files.append a }

  -- what was read is a log, wherever its things stand
  read_sound : (whereabouts : ℕ → Whereabouts) × IsModelSound (running read_again (taken d.map a.kept) whereabouts)
  read_sound =
      let (rewrite_is, rewrite_start) = read_queue d.files.rewrite r.below r.again r.kept r.gone in
      let (append_is, append_start) = read_queue d.files.append a.below a.again a.kept a.gone in
      let reopen = opens (machine_of d) k.kept k.replay k.runs r.kept r.lost (records_of r.below) (records_of r.again) a.kept a.lost (records_of a.below) (records_of a.again) r.image rewrite_start a.image append_start in (
        reopen.1.4.0,
        sound_step (Reopen r.kept r.lost (records_of r.below) (records_of r.again) a.kept a.lost (records_of a.below) (records_of a.again)) d (running read_again (taken d.map a.kept) reopen.1.4.0) (
          r.image,
          rewrite_start,
          a.image,
          append_start,
          (
            reopen.1.4.0,
            reopen.1.4.1,
            ap₂ (λ x y. record { store = record { rewrite = x; append = y }; map = taken d.map a.kept; whereabouts = reopen.1.4.0; failed = false }) rewrite_is append_is,
          ),
        ) k
            (file_step_numbers (Read r.below r.again r.kept) d.files.rewrite_from d.files.rewrite (read_files d.files.rewrite r) (r.gone, refl) k.rewrite_numbers)
            (file_step_numbers (Read a.below a.again a.kept) d.files.append_from d.files.append (read_files d.files.append a) (a.gone, refl) k.append_numbers),
      )

module _ {R E V : Type 0} (log : TwoQueues R E V) where
  found_log_of : (s t : LogOnDisk R) (m : Map E V) (pending : List (Record E V)) → ReadsBothAgain (Ties log) s t → IsLog (Ties log s) m pending → (n : ℕ) × (n ≤ length pending) × IsLog (Ties log t) (taken m (take n pending)) []
  found_log_of s t m pending reads h =
      let (r, a, next) = reads h.files h.there in
      let d : Model E V = record { files = h.files; map = m; whereabouts = h.whereabouts; failed = h.failed } in
      let (whereabouts, sound) = read_sound d h.sound r a in
      let (within, is) = kept_first a.kept a.lost pending (a.image ∙ h.ends) in (
        length a.kept,
        within,
        subst (λ (l : List (Record E V)). IsLog (Ties log t) (taken m l) []) (sym is) (record {
          files = read_again d h.sound r a;
          whereabouts = whereabouts;
          failed = false;
          sound = sound;
          ends = refl;
          there = next;
        }),
      )

  -- a queue of which nothing is unsynced
  still_one : (F : Format R) (q : Spanned R) (low : ℕ) (d : Disk) (f : FileQueue E V) → q.files.pending ≡ [] → IsFileQueue log.says F q.files low q.first d f → (r : ReadAgain f) × IsFileQueue log.says F q.files low q.first d (read_files f r)
  still_one F q low d f none all =
      let below = all.below in
      read_one log.says F q.files q.files low q.first q.first 0 d d f (λ m less absent. absent) (omega (arith, below)) (omega arith) refl refl (no_records q.files) none all

  still : (which : Which) (s : LogOnDisk R) → (spanned_at which s).files.pending ≡ [] → ReadsAgain (Ties log) which s s
  still InAppend s none f ties =
      let (a, next) = still_one log.append.format s.append f.append_from s.disk f.append none ties.append in
      (a, record { append = next; rewrite = ties.rewrite })
  still InRewrite s none f ties =
      let (r, next) = still_one log.rewrite.format s.rewrite f.rewrite_from s.disk f.rewrite none ties.rewrite in
      (r, record { append = ties.append; rewrite = next })

  append_then : (s mid t : LogOnDisk R) → ReadsAgain (Ties log) InAppend s mid → ReadsAgain (Ties log) InRewrite mid t → ReadsBothAgain (Ties log) s t
  append_then s mid t one other f ties =
      let (a, next) = one f ties in
      let (r, then) = other (put InAppend f f.append_from (read_files f.append a)) next in
      (r, a, then)

  rewrite_then : (s mid t : LogOnDisk R) → ReadsAgain (Ties log) InRewrite s mid → ReadsAgain (Ties log) InAppend mid t → ReadsBothAgain (Ties log) s t
  rewrite_then s mid t one other f ties =
      let (r, next) = one f ties in
      let (a, then) = other (put InRewrite f f.rewrite_from (read_files f.rewrite r)) next in
      (r, a, then)

  pub found_log_is_a_log : FoundLogIsALog log
  found_log_is_a_log = record {
    append_first = append_then;
    rewrite_first = rewrite_then;
    still = still;
    log_of = found_log_of;
    replays = λ s t v reads made f ties. (let (r, a, next) = reads f ties in (r, a, next, made f r a ties next));
  }

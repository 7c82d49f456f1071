-- The queues of a log, each of which stands for itself: what a call on one leaves of the other, and what their
-- numbered files allow.
use Rattle.std.proofs.Common.{◌≡◌, ℕ, ◌<◌, zero, suc, Option, Some, None, List, [], ◌∷◌, ◌++◌, length, refl, sym, ◌∙◌, ap, subst, inl, inr, arith}
use Rattle.std.proofs.lemmas.List.{append_assoc}
use Rattle.raft_log_model_laws.specs.Item.{Record}
use Rattle.raft_log_model_laws.specs.Groups.{Map}
use Rattle.raft_log_machine_laws.specs.Files.{LogFile, FileQueue, IsRead}
use Rattle.raft_log_fs.specs.Disk.{Disk}
use Rattle.raft_log_fs.specs.Image.{IsImage, IsSound}
use Rattle.raft_log_file_writer.specs.LogQueue.{Past, NoChanceInLast}
use Rattle.raft_log_fs.specs.Touching.{TouchesOnlyNames}
use Rattle.raft_log_fs.proofs.Public.{names_same}
use Rattle.raft_log_active_file.specs.Queue.{with_room}
use Rattle.raft_log_active_file.specs.Beginning.{fresh_queue}
use Rattle.raft_log_active_file.specs.Bridge.{filed, IsFileQueue, GapsStay}
use Rattle.raft_log_active_file.proofs.Public.{place_moved, takes_numbered_steps}
use Rattle.raft_log_file_pipe.specs.declared.pipe_files.PipeFiles.{PipeFiles}
use Rattle.raft_log_machine_laws.specs.Model.{Files}
use Rattle.raft_log_machine_laws.specs.DirectoryImages.{empty_file}
use Rattle.raft_log_machine_laws.specs.Calls.{Which, put}
use Rattle.raft_log_machine_laws.specs.Calls.Which.{InAppend, InRewrite}
use Rattle.raft_log_machine_laws.specs.Log.{IsLog, IsLogOf}
use Rattle.raft_log_machine_laws.proofs.Public.{fewer}
use Rattle.raft_log_dual_pipes.specs.Queues.{QueueLayout, IsQueueLayout, TwoQueues, AreTwoQueues, layout_at}
use Rattle.raft_log_dual_pipes.specs.State.{Spanned, LogOnDisk, spanned_at, with_spanned, RunsQueue, HasSpan, Ties}
use Rattle.raft_log_dual_pipes.specs.Crash.{MayRead, readings_of, AllowsIn}
use Rattle.raft_log_dual_pipes.specs.OpenOrClosed.{IsUnbegun, LiesQueue, RunsOrLies, OpenPipes, with_open, IsOpenOrClosed, LyingLogIsALog, LyingLogsAreLogs}
use Rattle.raft_log_dual_pipes.proofs.Aside.{name_stays, runs_stay, holds_stay}
use Rattle.raft_log_dual_pipes.proofs.Gaps.{pipe_left}
use Rattle.raft_log_dual_pipes.proofs.Spans.{runs_span, there_moved}
use Rattle.raft_log_dual_pipes.proofs.Reading.{held_reads, may_reads}
use Rattle.raft_log_dual_pipes.proofs.Wholes.{no_file_is_read}

module _ {R : Type 0} (layout : QueueLayout R) (told : IsQueueLayout layout) where
  -- One queue.

  -- while its pipe runs, its files lie there
  pub lies : (o : Option PipeFiles) (q : Spanned R) (d : Disk) → RunsOrLies layout o q d → LiesQueue layout q d
  lies (Some files) q d runs = inl (inl (pipe_left layout told d files q.files d runs.pipe), runs_span layout told files q d runs)
  lies None q d there = there

  unbegun_bound : (q : Spanned R) (d : Disk) → IsUnbegun layout q d → q.files.last < layout.format.limit
  unbegun_bound q d unbegun =
      let (older, header, room, is) = unbegun.is in
      let one : q.files.last ≡ 1 = ap (λ (x : Spanned R). x.files.last) is in
      let limit = told.lawful.limit in
      omega (arith, one, limit)

  bound_of : (q : Spanned R) (d : Disk) → LiesQueue layout q d → q.files.last < layout.format.limit
  bound_of q d there = elim there [
    | inl held ↦ elim held.0 [ inl left ↦ left.stands.bound | inr stopped ↦ stopped.stands.bound ]
    | inr unbegun ↦ unbegun_bound q d unbegun
  ]

  -- each of its span is there
  pub lies_span : (q : Spanned R) (d : Disk) → LiesQueue layout q d → HasSpan layout.format q d
  lies_span q d there = elim there [
    | inl held ↦ held.1
    | inr unbegun ↦
        λ m from less.
        (let (older, header, room, is) = unbegun.is in
        let one : q.files.last ≡ 1 = ap (λ (x : Spanned R). x.files.last) is in
        let first : q.first ≡ 1 = ap (λ (x : Spanned R). x.first) is in
        absurd (omega (arith, one, first, from, less)))
  ]

  module _ (theirs : List ℕ → Type 0) (old new : Disk) (apart : (path : List ℕ) → layout.own path → theirs path → ⊥) (only : TouchesOnlyNames theirs old new) where
    pub unbegun_stays : (q : Spanned R) → IsUnbegun layout q old → IsUnbegun layout q new
    unbegun_stays q unbegun = record {
      fresh = record {
        none = λ m less path at. name_stays layout told theirs old new apart only m path less at ∙ unbegun.fresh.none m less path at;
        places = λ m path less at. place_moved path old new only.directories (unbegun.fresh.places m path less at);
        others = names_same layout.own new;
      };
      is = unbegun.is;
    }

    -- a call on other paths leaves it as it stands
    pub stays : (o : Option PipeFiles) (q : Spanned R) → RunsOrLies layout o q old → RunsOrLies layout o q new
    stays (Some files) q runs = runs_stay layout told theirs old new apart only files q runs
    stays None q there = elim there [
      | inl held ↦
          (let bound = bound_of q old (inl held) in
          inl (holds_stay layout told theirs old new apart only q.files held.0, there_moved layout q.first q.files.last old new (omega (arith, bound)) (λ m path from less at. name_stays layout told theirs old new apart only m path less at) held.1))
      | inr unbegun ↦ inr (unbegun_stays q unbegun)
    ]

    -- and fills no gap
    pub gaps_stay_aside : (o : Option PipeFiles) (q : Spanned R) → RunsOrLies layout o q old → GapsStay layout.format q.files old new
    gaps_stay_aside o q is m less none path at =
        let bound = bound_of q old (lies o q old is) in
        name_stays layout told theirs old new apart only m path (omega (arith, less, bound)) at ∙ none path at

-- What is read of an image.

module _ {R E V : Type 0} (says : R → Record E V) (layout : QueueLayout R) (told : IsQueueLayout layout) where
  -- of a queue that has no file its empty file 1 is read
  begun_reads : (older : ℕ → Past R) (header : List ℕ) (room low : ℕ) (d : Disk) (f : FileQueue E V) → IsFileQueue says layout.format (with_room room (fresh_queue older header)) low 1 d f → IsRead low f [] 1 (empty_file ∷ [])
  begun_reads older header room low d f all =
      let below = all.below in
      let above = all.above in
      let none : all.forth ≡ 0 = omega (arith, above) in
      let full : f.full ≡ [] = all.full ∙ ap (λ k. filed says older 1 k) none in
      let last : f.last ≡ 1 = all.last in
      let synced : f.synced ≡ [] = all.synced in
      let tail : empty_file ∷ [] ≡ f.full ++ record { number = f.last; records = f.synced ++ [] } ∷ [] = sym (λ i. full i ++ record { number = last i; records = synced i ++ [] } ∷ []) in
      record {
        low = (let many : length f.gone ≡ all.back = ap length all.gone ∙ length_filed older low all.back in omega (arith, below, many));
        skipped = f.behind ++ f.gone;
        rest = append_assoc f.behind f.gone (empty_file ∷ []) ∙ ap (λ (fs : List (LogFile E V)). f.behind ++ (f.gone ++ fs)) tail;
        numbered = (refl, tt);
        some = omega arith;
      }
    where
      length_filed : (h : ℕ → Past R) (s k : ℕ) → length (filed says h s k) ≡ k
      length_filed h s zero = refl
      length_filed h s (suc k) = ap suc (length_filed h (suc s) k)

  unbegun_reads : (q : Spanned R) (low : ℕ) (d image : Disk) (f : FileQueue E V) → IsUnbegun layout q d → IsImage d image → IsFileQueue says layout.format q.files low q.first d f
      → (f.pending ≡ []) × ((s : ℕ) (read : List (LogFile E V)) → MayRead says layout.format q.first image s read → IsRead low f [] s read)
  unbegun_reads q low d image f unbegun is all =
      let (older, header, room, q_is) = unbegun.is in
      let begun : IsFileQueue says layout.format (with_room room (fresh_queue older header)) low 1 d f = subst (λ (x : Spanned R). IsFileQueue says layout.format x.files low x.first d f) q_is all in (
        begun.pending,
        λ s read may.
            (let (s_is, read_is) = no_file_is_read says layout.format q.first d image unbegun.fresh.none is s read may in
            subst (IsRead low f [] s) (sym read_is) (subst (λ (n : ℕ). IsRead low f [] n (empty_file ∷ [])) (sym s_is) (begun_reads older header room low d f begun))),
      )

  -- of an image the numbered files are read, with some beginning of what is pending
  pub lying_reads : (q : Spanned R) (low : ℕ) (d image : Disk) (f : FileQueue E V) → IsSound d → LiesQueue layout q d → IsImage d image → NoChanceInLast layout.format q.files d image → IsFileQueue says layout.format q.files low q.first d f
      → (kept lost : List (Record E V)) × (kept ++ lost ≡ f.pending) × ((s : ℕ) (read : List (LogFile E V)) → MayRead says layout.format q.first image s read → IsRead low f kept s read)
  lying_reads q low d image f sound there is chance all = elim there [
    | inl held ↦
        (let (kept, lost, parts, reads) = held_reads says layout told q.files low q.first d f sound held.0 all image is chance in
        (kept, lost, parts, may_reads says layout told low q.first f kept image reads))
    | inr unbegun ↦ (let (none, reads) = unbegun_reads q low d image f unbegun is all in ([], [], sym none, reads))
  ]

-- Both queues.

module _ {R E V : Type 0} (log : TwoQueues R E V) (two : AreTwoQueues log) where
  pub runs_at : (which : Which) (o : OpenPipes) (files : PipeFiles) (s : LogOnDisk R) → IsOpenOrClosed log (with_open which o (Some files)) s → RunsQueue (layout_at which log) files (spanned_at which s) s.disk
  runs_at InAppend o files s is = is.append
  runs_at InRewrite o files s is = is.rewrite

  pub lies_at : (which : Which) (o : OpenPipes) (s : LogOnDisk R) → IsOpenOrClosed log (with_open which o None) s → LiesQueue (layout_at which log) (spanned_at which s) s.disk
  lies_at InAppend o s is = is.append
  lies_at InRewrite o s is = is.rewrite

  pub back : (path : List ℕ) → log.rewrite.own path → log.append.own path → ⊥
  back path mine theirs = two.apart path theirs mine

  -- a call on one queue leaves it so, and the other as it stood
  pub leaves : (which : Which) (o : OpenPipes) (was now : Option PipeFiles) (s : LogOnDisk R) (q : Spanned R) (new : Disk) → IsOpenOrClosed log (with_open which o was) s → TouchesOnlyNames (layout_at which log).own s.disk new
      → RunsOrLies (layout_at which log) now q new → IsOpenOrClosed log (with_open which o now) (with_spanned which s q new)
  leaves InAppend o was now s q new is only next = record { append = next; rewrite = stays log.rewrite two.rewrite log.append.own s.disk new back only o.rewrite s.rewrite is.rewrite }
  leaves InRewrite o was now s q new is only next = record { append = stays log.append two.append log.rewrite.own s.disk new two.apart only o.append s.append is.append; rewrite = next }

  -- and the numbered files of the other
  pub ties_leave : (which : Which) (o : OpenPipes) (was : Option PipeFiles) (s : LogOnDisk R) (q : Spanned R) (new : Disk) (f : Files E V) (from : ℕ) (next : FileQueue E V) → IsOpenOrClosed log (with_open which o was) s
      → TouchesOnlyNames (layout_at which log).own s.disk new → Ties log s f → IsFileQueue log.says (layout_at which log).format q.files from q.first new next → Ties log (with_spanned which s q new) (put which f from next)
  ties_leave InAppend o was s q new f from next is only ties then = record {
    append = then;
    rewrite = (takes_numbered_steps log.says log.rewrite.format s.rewrite.files f.rewrite_from s.rewrite.first s.disk f.rewrite ties.rewrite).elsewhere new
        (gaps_stay_aside log.rewrite two.rewrite log.append.own s.disk new back only o.rewrite s.rewrite is.rewrite);
  }
  ties_leave InRewrite o was s q new f from next is only ties then = record {
    append = (takes_numbered_steps log.says log.append.format s.append.files f.append_from s.append.first s.disk f.append ties.append).elsewhere new
        (gaps_stay_aside log.append two.append log.rewrite.own s.disk new two.apart only o.append s.append is.append);
    rewrite = then;
  }

  allowed : (o : OpenPipes) (s : LogOnDisk R) (f : Files E V) → IsSound s.disk → IsOpenOrClosed log o s → Ties log s f → AllowsIn log s f
  allowed o s f sound is ties image left =
      let (r_kept, r_lost, r_all, r_reads) = lying_reads log.says log.rewrite two.rewrite s.rewrite f.rewrite_from s.disk image.disk f.rewrite sound (lies log.rewrite two.rewrite o.rewrite s.rewrite s.disk is.rewrite) left.disk left.rewrite ties.rewrite in
      let (a_kept, a_lost, a_all, a_reads) = lying_reads log.says log.append two.append s.append f.append_from s.disk image.disk f.append sound (lies log.append two.append o.append s.append s.disk is.append) left.disk left.append ties.append in
      record {
        rewrite_kept = r_kept;
        rewrite_lost = r_lost;
        append_kept = a_kept;
        append_lost = a_lost;
        rewrite_image = r_all;
        append_image = a_all;
        rewrite_read = λ t read may. r_reads t read (subst (λ (n : ℕ). MayRead log.says log.rewrite.format n image.disk t read) left.rewrite_first may);
        append_read = λ t read may. a_reads t read (subst (λ (n : ℕ). MayRead log.says log.append.format n image.disk t read) left.append_first may);
      }

  pub log_of : (o : OpenPipes) (s : LogOnDisk R) (m : Map E V) (pending : List (Record E V)) → IsSound s.disk → IsOpenOrClosed log o s → IsLog (Ties log s) m pending → IsLogOf (readings_of log) s m pending
  log_of o s m pending sound is holds = fewer (Ties log s) (AllowsIn log s) m pending (λ f ties. allowed o s f sound is ties) holds

  pub lying_log_is_a_log : LyingLogIsALog log
  lying_log_is_a_log = record {
    allowed = allowed;
    log_of = log_of;
    running = λ p s run. record { append = run.append; rewrite = run.rewrite };
    dropped = λ o s is. record {
      append = lies log.append two.append o.append s.append s.disk is.append;
      rewrite = lies log.rewrite two.rewrite o.rewrite s.rewrite s.disk is.rewrite;
    };
    held = λ s held append rewrite. record { append = inl (held.append, append); rewrite = inl (held.rewrite, rewrite) };
  }

pub lying_logs_are_logs : {R E V : Type 0} (log : TwoQueues R E V) → LyingLogsAreLogs log
lying_logs_are_logs log two = lying_log_is_a_log log two

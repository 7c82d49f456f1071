-- Each call of a pipe that runs, seen from both queues, whatever stands of the other.
use Rattle.std.proofs.Common.{◌≡◌, ◌⊎◌, ℕ, ◌≤◌, Option, Some, None, List, [], ◌∷◌, refl, ◌∙◌, subst, inl, inr, arith}
use Rattle.raft_log_model_laws.specs.Item.{Record}
use Rattle.raft_log_machine_laws.specs.Files.{FileQueue}
use Rattle.raft_log_fs.specs.Disk.{Disk}
use Rattle.raft_log_file_writer.specs.LogQueue.{LogFiles, rotated}
use Rattle.raft_log_fs.specs.Touching.{TouchesOnlyNames}
use Rattle.raft_log_record_base.specs.declared.errors.Error.{Error}
use Rattle.raft_log_record_base.specs.declared.errors.Error.TheVariants as errors
use Rattle.raft_log_file_format.specs.Header.{header_bytes}
use Rattle.raft_log_active_file.specs.Queue.{with_more, with_room, synced}
use Rattle.raft_log_active_file.specs.Bridge.{IsFileQueue, GapsStay}
use Rattle.raft_log_active_file.proofs.Public.{takes_numbered_steps}
use Rattle.raft_log_active_file.specs.Rotation.{StandsWithRecords}
use Rattle.raft_log_record_base.specs.declared.pipe_log.LogQueue.{LogQueue}
use Rattle.raft_log_record_base.specs.declared.pipe_log.FileBlockHandle.{FileBlockHandle}
use Rattle.raft_log_record_base.specs.declared.pipe_log.LogFileContext.{LogFileContext}
use Rattle.raft_log_file_pipe.specs.Appending.{AppendsAt}
use Rattle.raft_log_file_pipe.specs.declared.new_files.NewFiles.{NewFiles}
use Rattle.raft_log_file_pipe.specs.Exits.{SameFiles, RotationLeaves}
use Rattle.raft_log_file_pipe.specs.Files.{IsSpan}
use Rattle.raft_log_file_pipe.specs.Purging.{PurgeLeaves}
use Rattle.raft_log_file_pipe.specs.declared.pipe_files.PipeFiles.{PipeFiles}
use Rattle.raft_log_file_pipe.proofs.Public.{pipe_same}
use Rattle.raft_log_machine_laws.specs.Model.{Files}
use Rattle.raft_log_machine_laws.specs.Moves.{grown, settled_files, raised_files}
use Rattle.raft_log_machine_laws.specs.Calls.Which.{InAppend, InRewrite}
use Rattle.raft_log_machine_laws.specs.Calls.{Which, Appends, CutsBack, LeavesOut, Raises, from_at, queue_at, put}
use Rattle.raft_log_dual_pipes.specs.Queues.{QueueLayout, IsQueueLayout, TwoQueues, AreTwoQueues, layout_at, SaysRecord}
use Rattle.raft_log_dual_pipes.specs.State.{Spanned, LogOnDisk, spanned_at, with_spanned, RunsQueue, AreThere, HasSpan, Ties}
use Rattle.raft_log_dual_pipes.specs.Steps.{next_log}
use Rattle.raft_log_dual_pipes.specs.Syncing.{raised_log}
use Rattle.raft_log_dual_pipes.specs.Turning.{HasTaken, IsCutBack, in_span}
use Rattle.raft_log_dual_pipes.specs.OpenOrClosed.{OpenPipes, with_open, IsOpenOrClosed, LeavesQueue}
use Rattle.raft_log_dual_pipes.specs.PerQueue.{AppendsBeside, LeavesRefused, FailsToAppendBeside, SyncsBeside, LeavesUnrotated, RotatesBeside, LeavesUnpurged, PurgesBeside, QuietCallsBeside}
use Rattle.raft_log_dual_pipes.proofs.Lifts.{told_at, tie_at}
use Rattle.raft_log_dual_pipes.proofs.Numbers.{quiet_rotates, none_pending, still_settled}
use Rattle.raft_log_dual_pipes.proofs.OneQueue.{On, append_one}
use Rattle.raft_log_dual_pipes.proofs.Refused.{RunsCutBack, RunsLeftOut, RefusedOne, refused_one, rotation_left}
use Rattle.raft_log_dual_pipes.proofs.AppendStep.{runs_from, pipe_rebased}
use Rattle.raft_log_dual_pipes.proofs.RefusedStep.{left_rebased}
use Rattle.raft_log_dual_pipes.proofs.OtherSteps.{sync_gaps, unsynced_gaps, sync_one, raise_one, raised_in_span, put_same}
use Rattle.raft_log_dual_pipes.proofs.ClosedQueues.{runs_at, leaves, ties_leave}
use Rattle.raft_log_dual_pipes.proofs.Spans.{span_is_there}

module _ {R E V : Type 0} (log : TwoQueues R E V) (two : AreTwoQueues log) (which : Which) (o : OpenPipes) (before : PipeFiles) (s : LogOnDisk R) (is : IsOpenOrClosed log (with_open which o (Some before)) s) where
  abbrev layout : QueueLayout R
  layout = layout_at which log

  abbrev q : Spanned R
  q = spanned_at which s

  told : IsQueueLayout layout
  told = told_at log two which

  runs : RunsQueue layout before q s.disk
  runs = runs_at log two which o before s is

  -- the pipe runs on with other files of its queue
  runs_on : (after : PipeFiles) (files : LogFiles R) (new : Disk) → after.first_seq ≡ before.first_seq → On layout s.disk after files new → IsOpenOrClosed log (with_open which o (Some after)) (next_log which s files new)
  runs_on after files new first pipe =
      let only : TouchesOnlyNames layout.own s.disk new = pipe.active.stands.others in
      leaves log two which o (Some before) (Some after) s (in_span q files) new is only (runs_from layout s.disk before after q files new runs first pipe)

  -- it has failed, and its files lie there
  pub left_there : (next : Spanned R) (new : Disk) → StandsWithRecords layout.format layout.own s.disk next.files new → HasSpan layout.format next new → IsOpenOrClosed log (with_open which o None) (with_spanned which s next new)
  left_there next new left there = leaves log two which o (Some before) None s next new is left.stands.others (inl (inl (left_rebased layout s.disk next.files new left), there))

  -- each number of the span has its file, which the pipe lists
  pub listed_there : (files : PipeFiles) (first : ℕ) (next : LogFiles R) (new : Disk) → files.first_seq ≡ first → StandsWithRecords layout.format layout.own s.disk next new → IsSpan layout.paths new.names files.first_seq files.earlier.items next.last
      → HasSpan layout.format (record { first = first; files = next }) new
  listed_there files first next new begins left span =
      let bound = left.stands.bound in
      subst (λ (n : ℕ). AreThere layout.format n next.last new) begins (span_is_there layout told files.first_seq next.last files.earlier.items new (omega (arith, bound)) span)

  -- its numbered files are taken along
  pub tied : (next : Spanned R) (new : Disk) (f : Files E V) (from : ℕ) (g : FileQueue E V) → TouchesOnlyNames layout.own s.disk new → Ties log s f → IsFileQueue log.says layout.format next.files from next.first new g
      → Ties log (with_spanned which s next new) (put which f from g)
  tied next new f from g only ties then = ties_leave log two which o (Some before) s next new f from g is only ties then

  -- A record that is written.
  appended : (begin : NewFiles) (queue : LogQueue) (signed : LogFileContext → List ℕ) (y : Record E V) → SaysRecord log.says layout queue signed y → (after : PipeFiles) (block : FileBlockHandle) (new : Disk)
      → AppendsAt layout.format layout.own layout.paths begin queue signed before after block s.disk new → after.first_seq ≡ before.first_seq
      → LeavesQueue log which o (Some after) s new (HasTaken (header_bytes begin.format) before.recycled.items s.disk q.files) (Appends (Ties log) which y block.id.seq)
  appended begin queue signed y says after block new call first =
      let (mid, turned, room, w, pipe, last, takes) = append_one log.says layout told q.first s.disk begin queue signed y before after block q.files s.disk new says call runs.pipe in
      let files = with_more (w ∷ []) (with_room room mid) in
      let only : TouchesOnlyNames layout.own s.disk new = pipe.active.stands.others in (
        files,
        (mid, turned, room, w, refl),
        runs_on after files new first pipe,
        λ f ties.
            (let (a, at, next) = takes (from_at which f) (queue_at which f) (tie_at log two which s f ties) in
            (a, at, tied (in_span q files) new f a.from (grown a.queue y) only ties next)),
      )

  -- A refused record.
  cut_back : (header : List ℕ) (after : PipeFiles) (new : Disk) → after.first_seq ≡ before.first_seq → RunsCutBack log.says layout q.first s.disk header before after q.files s.disk new
      → LeavesQueue log which o (Some after) s new (IsCutBack header before.recycled.items s.disk q.files) (CutsBack (Ties log) which)
  cut_back header after new first (files, cut, none, pipe, quiet) =
      let only : TouchesOnlyNames layout.own s.disk new = pipe.active.stands.others in (
        files,
        cut,
        runs_on after files new first pipe,
        λ f ties.
            (let (a, next) = quiet (from_at which f) (queue_at which f) (tie_at log two which s f ties) in
            (a, tied (in_span q files) new f a.from (settled_files a.queue) only ties (still_settled log.says layout.format q.first files a.from new a.queue none next))),
      )

  left_out : (header : List ℕ) (after : PipeFiles) (new : Disk) → after.first_seq ≡ before.first_seq → RunsLeftOut log.says layout q.first s.disk header before after q.files s.disk new
      → LeavesQueue log which o (Some after) s new (λ files. (files ≡ q.files) ⊎ IsCutBack header before.recycled.items s.disk q.files files) (LeavesOut (Ties log) which)
  left_out header after new first (files, cut, pipe, quiet) =
      let only : TouchesOnlyNames layout.own s.disk new = pipe.active.stands.others in (
        files,
        cut,
        runs_on after files new first pipe,
        λ f ties. (let (a, next) = quiet (from_at which f) (queue_at which f) (tie_at log two which s f ties) in (a, tied (in_span q files) new f a.from a.queue only ties next)),
      )

  refused : (header : List ℕ) (y : Record E V) (after : PipeFiles) (error : Error) (new : Disk) → after.first_seq ≡ before.first_seq → RefusedOne log.says layout q.first s.disk header y before after q.files error s.disk new
      → LeavesRefused log which o before s header y after error new
  refused header y after (errors.Io kind) new first left = cut_back header after new first left
  refused header y after (errors.TryAgain text) new first left = cut_back header after new first left
  refused header y after errors.Memory new first left = left_out header after new first left
  refused header y after errors.NumberRange new first left = left_out header after new first left
  refused header y after errors.Failed new first (files, goes, left, may, there) = (
    files,
    goes,
    left_there (in_span q files) new left (subst (λ (n : ℕ). AreThere layout.format n files.last new) runs.first there),
    λ f ties.
        (let (a, either) = may (from_at which f) (queue_at which f) (tie_at log two which s f ties) in (
          a,
          elim either [
            | inl next ↦ inl (tied (in_span q files) new f a.from a.queue left.stands.others ties next)
            | inr next ↦ inr (tied (in_span q files) new f a.from (grown a.queue y) left.stands.others ties next)
          ],
        )),
  )
  refused header y after _ new first left = absurd left

  -- Syncs.
  synced_so : SyncsBeside log which o before s
  synced_so = record {
    answered = λ new syncs.
        (let (pipe, call) = syncs s.disk q.files runs.pipe in
        let only : TouchesOnlyNames layout.own s.disk new = pipe.active.stands.others in
        let gaps = sync_gaps log.says layout told q.first s.disk before q.files s.disk new syncs runs.pipe in (
          synced q.files,
          refl,
          runs_on before (synced q.files) new refl pipe,
          λ f ties.
              tied (in_span q (synced q.files)) new f (from_at which f) (settled_files (queue_at which f)) only ties
              (sync_one log.says layout told q.first s.disk q.files s.disk new gaps (from_at which f) (queue_at which f) (tie_at log two which s f ties)),
        ));
    refused = λ new fails.
        (let (cause, left, span, call) = fails s.disk q.files runs.pipe in
        let gaps = unsynced_gaps log.says layout told q.first s.disk before q.files s.disk new fails runs.pipe in (
          q.files,
          refl,
          left_there (in_span q q.files) new left (listed_there before q.first q.files new runs.first left span),
          λ f ties.
              put_same log which f (Ties log (next_log which s q.files new))
              (tied (in_span q q.files) new f (from_at which f) (queue_at which f) left.stands.others ties
              ((takes_numbered_steps log.says layout.format q.files (from_at which f) q.first s.disk (queue_at which f) (tie_at log two which s f ties)).elsewhere new gaps)),
        ));
  }

  -- nothing was done
  same_log : (w : Which) (now : Option PipeFiles) → IsOpenOrClosed log (with_open w o now) (with_spanned w s (spanned_at w s) s.disk) → IsOpenOrClosed log (with_open w o now) s
  same_log InAppend now there = there
  same_log InRewrite now there = there

  nothing_done : (after : PipeFiles) (new : Disk) → SameFiles before after → new ≡ s.disk → (new ≡ s.disk) × IsOpenOrClosed log (with_open which o (Some after)) s
  nothing_done after new same disk =
      let pipe = pipe_same layout.format layout.own layout.paths s.disk before after q.files s.disk same runs.pipe in
      (disk, same_log which (Some after) (leaves log two which o (Some before) (Some after) s q s.disk is pipe.active.stands.others (record { first = same.first ∙ runs.first; pipe = pipe })))

  -- Rotations.
  not_rotated : (header : List ℕ) (after : PipeFiles) (error : Error) (new : Disk) → RotationLeaves layout.format layout.own layout.paths header before after error s.disk new → LeavesUnrotated log which o before s header after error new
  not_rotated header after errors.Memory new (same, disk) = nothing_done after new same disk
  not_rotated header after errors.NumberRange new (out, same, disk) = nothing_done after new same disk
  not_rotated header after errors.Failed new fails =
      let (files, goes, left, quiet, there) = rotation_left log.says layout told q.first s.disk header before after q.files errors.Failed s.disk new fails runs.pipe in (
        files,
        goes,
        left_there (in_span q files) new left (subst (λ (n : ℕ). AreThere layout.format n files.last new) runs.first there),
        λ f ties. (let (a, next) = quiet (from_at which f) (queue_at which f) (tie_at log two which s f ties) in (a, tied (in_span q files) new f a.from a.queue left.stands.others ties next)),
      )
  not_rotated header after _ new fails = absurd fails

  rotated_so : RotatesBeside log which o before s
  rotated_so = record {
    answered = λ header format after new rotates turned.
        (let (room, stale, holds, pipe, gaps, calls) = rotates s.disk q.files runs.pipe in
        let files = with_room room (rotated header stale q.files) in
        let only : TouchesOnlyNames layout.own s.disk new = pipe.active.stands.others in
        let quiet = quiet_rotates log.says layout.format q.first q.files header stale room s.disk new gaps in (
          files,
          (room, stale, holds, refl),
          runs_on after files new turned.first pipe,
          λ f ties.
              (let (a, next) = quiet (from_at which f) (queue_at which f) (tie_at log two which s f ties) in
              (a, none_pending log.says layout.format q.first files a.from new a.queue refl next, tied (in_span q files) new f a.from a.queue only ties next)),
        ));
    refused = not_rotated;
  }

  -- Purges.
  raises : (seq : ℕ) (new : Disk) → TouchesOnlyNames layout.own s.disk new → GapsStay layout.format q.files s.disk new → q.first ≤ seq → seq ≤ q.files.last → Raises (Ties log) (Ties log) which seq s (raised_log which s seq new)
  raises seq new only gaps above under f ties =
      let (out, stay, parts, below, next) = raise_one log.says layout told q.first s.disk q.files seq s.disk new gaps above under (from_at which f) (queue_at which f) (tie_at log two which s f ties) in (
        out,
        stay,
        parts,
        below,
        (
          record { events = []; from = from_at which f; queue = raised_files (queue_at which f) out stay; moves = (refl, refl) },
          tied (record { first = seq; files = q.files }) new f (from_at which f) (raised_files (queue_at which f) out stay) only ties next,
        ),
      )

  not_purged : (capacity seq : ℕ) (after : PipeFiles) (error : Error) (new : Disk) → PurgeLeaves layout.format layout.own layout.paths capacity seq before after error s.disk new → LeavesUnpurged log which o s seq after error new
  not_purged capacity seq after errors.Memory new (same, disk) = nothing_done after new same disk
  not_purged capacity seq after (errors.Other fault) new (out, same, disk) = nothing_done after new same disk
  not_purged capacity seq after errors.NumberRange new (far, same, disk) = nothing_done after new same disk
  not_purged capacity seq after errors.Failed new (raised, fails) =
      let (cause, left, gaps, span, first, calls) = fails s.disk q.files runs.pipe in
      let (above, under) = raised_in_span log.says layout told q.first s.disk capacity seq before after q.files s.disk.names new.names raised runs.first runs.pipe.span span in
      (left_there (record { first = seq; files = q.files }) new left (listed_there after seq q.files new raised.first left span), raises seq new left.stands.others gaps above under)
  not_purged capacity seq after _ new fails = absurd fails

  purged_so : PurgesBeside log which o before s
  purged_so = record {
    answered = λ capacity seq after new purges raised.
        (let (pipe, gaps, names, calls) = purges s.disk q.files runs.pipe in
        let only : TouchesOnlyNames layout.own s.disk new = pipe.active.stands.others in
        let (above, under) = raised_in_span log.says layout told q.first s.disk capacity seq before after q.files s.disk.names new.names raised runs.first runs.pipe.span pipe.span in
        let next : Spanned R = record { first = seq; files = q.files } in (
          leaves log two which o (Some before) (Some after) s next new is only (record { first = raised.first; pipe = pipe_rebased layout s.disk after q.files new pipe }),
          raises seq new only gaps above under,
        ));
    refused = not_purged;
  }

pub appends_beside : {R E V : Type 0} (log : TwoQueues R E V) → AppendsBeside log
appends_beside log two which o before s is begin queue signed y says after block new call first = appended log two which o before s is begin queue signed y says after block new call first

pub fails_to_append_beside : {R E V : Type 0} (log : TwoQueues R E V) → FailsToAppendBeside log
fails_to_append_beside log two which o before s is begin queue signed y says after error new call first =
    let q = spanned_at which s in
    refused log two which o before s is (header_bytes begin.format) y after error new first
    (refused_one log.says (layout_at which log) (told_at log two which) q.first s.disk begin queue signed y before after q.files error s.disk new says call (runs_at log two which o before s is).pipe)

pub quiet_calls_beside : {R E V : Type 0} (log : TwoQueues R E V) → QuietCallsBeside log
quiet_calls_beside log two which o files s is = (synced_so log two which o files s is, rotated_so log two which o files s is, purged_so log two which o files s is)

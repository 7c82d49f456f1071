-- Calls of a pipe that were refused, told by the numbered files of its queue.
use Rattle.std.proofs.Common.{◌≡◌, ◌⊎◌, ℕ, suc, List, [], ◌∷◌, ◌++◌, refl, sym, ◌∙◌, ap, subst, inl, inr, arith}
use Rattle.raft_log_model_laws.specs.Item.{Record}
use Rattle.raft_log_machine_laws.specs.Files.{FileQueue}
use Rattle.raft_log_fs.specs.Disk.{Disk}
use Rattle.raft_log_fs.specs.Causes.{Fails}
use Rattle.raft_log_file_writer.specs.LawsChains.{Written}
use Rattle.raft_log_fs.proofs.Public.{fails_after, fails_still}
use Rattle.raft_log_file_writer.specs.LogQueue.{LogFiles, rotated}
use Rattle.raft_log_record_base.specs.declared.errors.Error.{Error}
use Rattle.raft_log_record_base.specs.declared.errors.Error.TheVariants as errors
use Rattle.raft_log_record_base.specs.declared.pipe_log.LogQueue.{LogQueue}
use Rattle.raft_log_record_base.specs.declared.pipe_log.LogFileContext.{LogFileContext}
use Rattle.raft_log_file_format.specs.Header.{header_bytes}
use Rattle.raft_log_active_file.specs.Queue.{with_more, with_room, settled}
use Rattle.raft_log_active_file.specs.Bridge.{IsFileQueue, GapsStay}
use Rattle.raft_log_active_file.specs.Rotation.{StandsWithRecords}
use Rattle.raft_log_active_file.specs.declared.last_file.WriteFault.{WriteFault}
use Rattle.raft_log_active_file.specs.declared.last_file.WriteFault.TheVariants as faults
use Rattle.raft_log_file_pipe.specs.Exits.{RotationLeaves, FailsToAdd}
use Rattle.raft_log_file_pipe.specs.Appending.{context_of, TurnsFirst, TurnsElsewhere, Tells, AppendFails}
use Rattle.raft_log_file_pipe.specs.Appending.TurnsFirst.{stays as stays_case, turns as turns_case}
use Rattle.raft_log_file_pipe.specs.Appending.TurnsElsewhere.{elsewhere, nowhere}
use Rattle.raft_log_file_pipe.specs.Appending.AppendFails.{not_turned, not_written}
use Rattle.raft_log_file_pipe.specs.declared.pipe_files.PipeFiles.{PipeFiles}
use Rattle.raft_log_file_pipe.specs.declared.new_files.NewFiles.{NewFiles}
use Rattle.raft_log_file_pipe.proofs.Public.{pipe_same}
use Rattle.raft_log_machine_laws.specs.Moves.{Moved, grown}
use Rattle.raft_log_dual_pipes.specs.Queues.{QueueLayout, IsQueueLayout, SaysRecord}
use Rattle.raft_log_dual_pipes.specs.State.{AreThere}
use Rattle.raft_log_dual_pipes.specs.Turning.{IsOrGoesOn, HasTaken, IsCutBack}
use Rattle.raft_log_dual_pipes.specs.Quiet.{QuietTo}
use Rattle.raft_log_dual_pipes.specs.Steps.{TellsOfCall}
use Rattle.raft_log_dual_pipes.proofs.Gaps.{with_past, past_there, gaps_stay, pipe_left}
use Rattle.raft_log_dual_pipes.proofs.Numbers.{quiet_then, quiet_same, quiet_rotates, quiet_settles, takes_one}
use Rattle.raft_log_dual_pipes.proofs.Spans.{span_is_there, there_within}
use Rattle.raft_log_dual_pipes.proofs.OneQueue.{On, no_gap_is_filled, turn_one, framed_one}

-- whichever numbered files the queue's were, behind quiet events they are the other's, or these with a record more
abbrev pub MayTake : {R E V : Type 0} → (R → Record E V) → QueueLayout R → ℕ → LogFiles R → Disk → Record E V → LogFiles R → Disk → Type 0
MayTake {R} {E} {V} says layout first q old y r new =
    (from : ℕ) (f : FileQueue E V) → IsFileQueue says layout.format q from first old f
    → (a : Moved from f) × (IsFileQueue says layout.format r a.from first new a.queue ⊎ IsFileQueue says layout.format r a.from first new (grown a.queue y))

-- what a refused rotation leaves
abbrev pub RotationLeft : {R E V : Type 0} → (R → Record E V) → QueueLayout R → ℕ → Disk → List ℕ → PipeFiles → PipeFiles → LogFiles R → Error → Disk → Disk → Type 0
RotationLeft says layout first base header before after q errors.Memory old new = On layout base after q new × QuietTo says layout.format first q old q new
RotationLeft says layout first base header before after q errors.NumberRange old new = On layout base after q new × QuietTo says layout.format first q old q new
RotationLeft {R} says layout first base header before after q errors.Failed old new =
    (r : LogFiles R) × IsOrGoesOn header before.recycled.items old q r × StandsWithRecords layout.format layout.own base r new × QuietTo says layout.format first q old r new × AreThere layout.format before.first_seq r.last new
RotationLeft says layout first base header before after q _ old new = ⊥

-- what a refused record leaves, the pipe running on
abbrev pub RunsCutBack : {R E V : Type 0} → (R → Record E V) → QueueLayout R → ℕ → Disk → List ℕ → PipeFiles → PipeFiles → LogFiles R → Disk → Disk → Type 0
RunsCutBack {R} says layout first base header before after q old new =
    (r : LogFiles R) × IsCutBack header before.recycled.items old q r × (r.pending ≡ []) × On layout base after r new × QuietTo says layout.format first q old r new

-- or nothing was begun
abbrev pub RunsLeftOut : {R E V : Type 0} → (R → Record E V) → QueueLayout R → ℕ → Disk → List ℕ → PipeFiles → PipeFiles → LogFiles R → Disk → Disk → Type 0
RunsLeftOut {R} says layout first base header before after q old new =
    (r : LogFiles R) × ((r ≡ q) ⊎ IsCutBack header before.recycled.items old q r) × On layout base after r new × QuietTo says layout.format first q old r new

-- by its error
abbrev pub RefusedOne : {R E V : Type 0} → (R → Record E V) → QueueLayout R → ℕ → Disk → List ℕ → Record E V → PipeFiles → PipeFiles → LogFiles R → Error → Disk → Disk → Type 0
RefusedOne says layout first base header y before after q (errors.Io kind) old new = RunsCutBack says layout first base header before after q old new
RefusedOne says layout first base header y before after q (errors.TryAgain text) old new = RunsCutBack says layout first base header before after q old new
RefusedOne says layout first base header y before after q errors.Memory old new = RunsLeftOut says layout first base header before after q old new
RefusedOne says layout first base header y before after q errors.NumberRange old new = RunsLeftOut says layout first base header before after q old new
RefusedOne {R} says layout first base header y before after q errors.Failed old new =
    (r : LogFiles R) × (IsOrGoesOn header before.recycled.items old q r ⊎ (IsCutBack header before.recycled.items old q r ⊎ HasTaken header before.recycled.items old q r))
    × StandsWithRecords layout.format layout.own base r new × MayTake says layout first q old y r new × AreThere layout.format before.first_seq r.last new
RefusedOne says layout first base header y before after q _ old new = ⊥

module _ {R E V : Type 0} (says : R → Record E V) (layout : QueueLayout R) (told : IsQueueLayout layout) (first : ℕ) (base : Disk) where
  quiet_none : (q : LogFiles R) (old new : Disk) → new ≡ old → QuietTo says layout.format first q old q new
  quiet_none q old new is = quiet_same says layout.format first q q old new refl refl refl refl (no_gap_is_filled says layout told first base q old new is)

  pub rotation_left : (header : List ℕ) (before after : PipeFiles) (q : LogFiles R) (error : Error) (old new : Disk) → RotationLeaves layout.format layout.own layout.paths header before after error old new → On layout base before q old
      → RotationLeft says layout first base header before after q error old new
  rotation_left header before after q errors.Memory old new (same, new_is) is = (
    subst (On layout base after q) (sym new_is) (pipe_same layout.format layout.own layout.paths base before after q old same is),
    quiet_none q old new new_is,
  )
  rotation_left header before after q errors.NumberRange old new (out, same, new_is) is = (
    subst (On layout base after q) (sym new_is) (pipe_same layout.format layout.own layout.paths base before after q old same is),
    quiet_none q old new new_is,
  )
  rotation_left header before after q errors.Failed old new fails is =
      let (stale, holds, stays, span, calls) = fails base q is in
      let bound = is.active.stands.bound in
      let there = span_is_there layout told before.first_seq (suc q.last) (before.earlier.items ++ before.active ∷ []) new (omega (arith, bound)) span in
      let (cause, turned, gaps) = stays in elim turned [
        | inl left ↦ (q, inl refl, left, quiet_same says layout.format first q q old new refl refl refl refl gaps, there_within layout before.first_seq before.first_seq q.last (suc q.last) new (omega arith) (omega arith) there)
        | inr next ↦
            (let (room, left) = next in
            (with_room room (rotated header stale q), inr (room, stale, holds, refl), left, quiet_rotates says layout.format first q header stale room old new gaps, there))
      ]
  rotation_left header before after q _ old new fails is = absurd fails

  -- A refused write fills no gap.
  fails_gaps : (bytes : List ℕ) (fault : WriteFault) (before after : PipeFiles) (q : LogFiles R) (w : Written R) (old new : Disk) → layout.format.IsFrame q.last q.header w.bytes w.value → w.bytes ≡ bytes
      → FailsToAdd layout.format layout.own layout.paths bytes fault before after old new → On layout base before q old → GapsStay layout.format q old new
  fails_gaps bytes (faults.CutBack kind) before after q w old new frame same fails is = gaps_stay layout told base before q old new is (λ m xs less other.
      (let (cause, pipe) = fails base (with_past m xs q) w frame same other in
      (settled (with_past m xs q), past_there m xs q, less, pipe_left layout told base after (settled (with_past m xs q)) new pipe)))
  fails_gaps bytes (faults.Failed kind) before after q w old new frame same fails is = gaps_stay layout told base before q old new is (λ m xs less other.
      (let (cause, (room, left, span)) = fails base (with_past m xs q) w frame same other in
      (with_more (w ∷ []) (with_room room (with_past m xs q)), past_there m xs q, less, left)))

  -- nothing is to be taken
  may_stay : (q : LogFiles R) (y : Record E V) (r : LogFiles R) (old new : Disk) → QuietTo says layout.format first q old r new → MayTake says layout first q old y r new
  may_stay q y r old new quiet from f all = (let (a, is) = quiet from f all in (a, inl is))

  may_grow : (q : LogFiles R) (y : Record E V) (p : LogFiles R) (w : Written R) (old new : Disk) → says w.value ≡ y → QuietTo says layout.format first q old p new → MayTake says layout first q old y (with_more (w ∷ []) p) new
  may_grow q y p w old new is_said quiet from f all = (let (a, is) = quiet from f all in (a, inr (takes_one says layout.format first p w y a.from new a.queue is_said is)))

  -- what is told of a refused write, once it is cut off and synced
  cut_back_tells : (begin : NewFiles) (y : Record E V) (before cut after : PipeFiles) (q p : LogFiles R) (error : Error) (old short new : Disk) → cut.first_seq ≡ before.first_seq → IsOrGoesOn (header_bytes begin.format) before.recycled.items old q p → On layout base cut (settled p) short
      → QuietTo says layout.format first q old (settled p) short → TurnsElsewhere layout.format layout.own layout.paths begin cut after error short new → RefusedOne says layout first base (header_bytes begin.format) y before after q error old new
  cut_back_tells begin y before cut after q p (errors.TryAgain text) old short new first_is turned is quiet (elsewhere rotates turns tells) =
      let (room, stale, holds, pipe, gaps, calls) = rotates base (settled p) is in
      let r = with_room room (rotated (header_bytes begin.format) stale (settled p)) in (
        r,
        (p, turned, cut.recycled.items, short, inr (room, stale, holds, refl)),
        refl,
        pipe,
        quiet_then says layout.format first q (settled p) r old short new quiet (quiet_rotates says layout.format first (settled p) (header_bytes begin.format) stale room short new gaps),
      )
  cut_back_tells begin y before cut after q p error old short new first_is turned is quiet (elsewhere rotates turns tells) = absurd tells
  cut_back_tells begin y before cut after q p errors.Memory old short new first_is turned is quiet (nowhere leaves) =
      let (pipe, none) = rotation_left (header_bytes begin.format) cut after (settled p) errors.Memory short new leaves is in
      (settled p, inr (p, turned, cut.recycled.items, short, inl refl), pipe, quiet_then says layout.format first q (settled p) (settled p) old short new quiet none)
  cut_back_tells begin y before cut after q p errors.NumberRange old short new first_is turned is quiet (nowhere leaves) =
      let (pipe, none) = rotation_left (header_bytes begin.format) cut after (settled p) errors.NumberRange short new leaves is in
      (settled p, inr (p, turned, cut.recycled.items, short, inl refl), pipe, quiet_then says layout.format first q (settled p) (settled p) old short new quiet none)
  cut_back_tells begin y before cut after q p errors.Failed old short new first_is turned is quiet (nowhere leaves) =
      let (r, goes, left, more, there) = rotation_left (header_bytes begin.format) cut after (settled p) errors.Failed short new leaves is in (
        r,
        inr (inl (p, turned, cut.recycled.items, short, goes)),
        left,
        may_stay q y r old new (quiet_then says layout.format first q (settled p) r old short new quiet more),
        subst (λ (n : ℕ). AreThere layout.format n r.last new) first_is there,
      )
  cut_back_tells begin y before cut after q p error old short new first_is turned is quiet (nowhere leaves) = absurd leaves

  turning_left : (header : List ℕ) (y : Record E V) (before after : PipeFiles) (q : LogFiles R) (error : Error) (old new : Disk) → RotationLeft says layout first base header before after q error old new
      → RefusedOne says layout first base header y before after q error old new
  turning_left header y before after q errors.Memory old new (pipe, quiet) = (q, inl refl, pipe, quiet)
  turning_left header y before after q errors.NumberRange old new (pipe, quiet) = (q, inl refl, pipe, quiet)
  turning_left header y before after q errors.Failed old new (r, goes, left, quiet, there) = (r, inl goes, left, may_stay q y r old new quiet, there)
  turning_left header y before after q _ old new left = absurd left

  -- a write was refused
  write_refused : (begin : NewFiles) (y : Record E V) (bytes : List ℕ) (fault : WriteFault) (before middle cut after : PipeFiles) (q p : LogFiles R) (w : Written R) (error : Error) (old between short new : Disk) → cut.first_seq ≡ before.first_seq → says w.value ≡ y
      → layout.format.IsFrame p.last p.header w.bytes w.value → w.bytes ≡ bytes → IsOrGoesOn (header_bytes begin.format) before.recycled.items old q p → On layout base middle p between → QuietTo says layout.format first q old p between
      → FailsToAdd layout.format layout.own layout.paths bytes fault middle cut between short → Tells layout.format layout.own layout.paths begin fault cut after error short new
      → RefusedOne says layout first base (header_bytes begin.format) y before after q error old new
  write_refused begin y bytes (faults.CutBack kind) before middle cut after q p w error old between short new first_is said frame same turned mid quiet fails tells =
      let (cause, pipe) = fails base p w frame same mid in
      let gaps = fails_gaps bytes (faults.CutBack kind) middle cut p w between short frame same fails mid in
      let whole = quiet_then says layout.format first q p (settled p) old between short quiet (quiet_settles says layout.format first p between short gaps) in
      elim tells [
        | inl full ↦ cut_back_tells begin y before cut after q p error old short new first_is turned pipe whole full.1
        | inr told ↦
            (let (error_is, after_is, new_is) = told in
            subst (λ (e : Error). RefusedOne says layout first base (header_bytes begin.format) y before after q e old new) (sym error_is) (
              settled p,
              (p, turned, cut.recycled.items, short, inl refl),
              refl,
              subst (λ (f : PipeFiles). On layout base f (settled p) new) (sym after_is) (subst (On layout base cut (settled p)) (sym new_is) pipe),
              subst (QuietTo says layout.format first q old (settled p)) (sym new_is) whole,
            ))
      ]
  write_refused begin y bytes (faults.Failed kind) before middle cut after q p w error old between short new first_is said frame same turned mid quiet fails tells =
      let (cause, (room, left, span)) = fails base p w frame same mid in
      let bound = left.stands.bound in
      let there = span_is_there layout told cut.first_seq p.last cut.earlier.items short (omega (arith, bound)) span in
      let gaps = fails_gaps bytes (faults.Failed kind) middle cut p w between short frame same fails mid in
      let whole = quiet_then says layout.format first q p (with_room room p) old between short quiet (quiet_same says layout.format first p (with_room room p) between short refl refl refl refl gaps) in
      let (error_is, after_is, new_is) = tells in
      subst (λ (e : Error). RefusedOne says layout first base (header_bytes begin.format) y before after q e old new) (sym error_is) (
        with_more (w ∷ []) (with_room room p),
        inr (inr (p, turned, room, w, refl)),
        subst (StandsWithRecords layout.format layout.own base (with_more (w ∷ []) (with_room room p))) (sym new_is) left,
        subst (MayTake says layout first q old y (with_more (w ∷ []) (with_room room p))) (sym new_is) (may_grow q y (with_room room p) w old short said whole),
        subst (λ (n : ℕ). AreThere layout.format n p.last new) first_is (subst (AreThere layout.format cut.first_seq p.last) (sym new_is) there),
      )

  -- the span of the pipe begins where it began
  turned_first : (begin : NewFiles) (before middle : PipeFiles) (old between : Disk) → TurnsFirst layout.format layout.own layout.paths begin before middle old between → middle.first_seq ≡ before.first_seq
  turned_first begin before middle old between (stays_case short same is) = ap (λ (f : PipeFiles). f.first_seq) same
  turned_first begin before middle old between (turns_case long rotates turned) = turned.first

  -- a record was refused
  pub refused_one : (begin : NewFiles) (queue : LogQueue) (signed : LogFileContext → List ℕ) (y : Record E V) (before after : PipeFiles) (q : LogFiles R) (error : Error) (old new : Disk) → SaysRecord says layout queue signed y
      → AppendFails layout.format layout.own layout.paths begin queue signed before after error old new → On layout base before q old → RefusedOne says layout first base (header_bytes begin.format) y before after q error old new
  refused_one begin queue signed y before after q error old new record_is (not_turned long leaves) is =
      turning_left (header_bytes begin.format) y before after q error old new (rotation_left (header_bytes begin.format) before after q error old new leaves is)
  refused_one begin queue signed y before after q error old new record_is (not_written middle cut between short fault turning earlier fails lists makes tells later) is =
      let (p, turned, mid, quiet) = turn_one says layout told first base begin before middle q old between turning is in
      let w : Written R = record { bytes = signed (context_of queue middle); value = record_is.value } in
      write_refused begin y (signed (context_of queue middle)) fault before middle cut after q p w error old between short new (lists.first ∙ turned_first begin before middle old between turning) record_is.said (framed_one says layout told first base queue signed y middle p between record_is mid) refl turned mid quiet fails tells

  -- behind such an error a file call has failed
  pub rotation_failed : (header : List ℕ) (before after : PipeFiles) (q : LogFiles R) (error : Error) (old new : Disk) → RotationLeaves layout.format layout.own layout.paths header before after error old new → On layout base before q old → TellsOfCall error → Fails old new
  rotation_failed header before after q errors.Memory old new leaves is of_call = absurd of_call
  rotation_failed header before after q errors.NumberRange old new leaves is of_call = absurd of_call
  rotation_failed header before after q errors.Failed old new fails is of_call = (let (stale, holds, stays, span, calls) = fails base q is in stays.0)
  rotation_failed header before after q _ old new leaves is of_call = absurd leaves

  pub append_failed : (begin : NewFiles) (queue : LogQueue) (signed : LogFileContext → List ℕ) (y : Record E V) (before after : PipeFiles) (q : LogFiles R) (error : Error) (old new : Disk) → SaysRecord says layout queue signed y
      → AppendFails layout.format layout.own layout.paths begin queue signed before after error old new → On layout base before q old → TellsOfCall error → Fails old new
  append_failed begin queue signed y before after q error old new record_is (not_turned long leaves) is of_call = rotation_failed (header_bytes begin.format) before after q error old new leaves is of_call
  append_failed begin queue signed y before after q error old new record_is (not_written middle cut between short fault turning earlier fails lists makes tells later) is of_call =
      let (p, turned, mid, quiet) = turn_one says layout told first base begin before middle q old between turning is in
      let w : Written R = record { bytes = signed (context_of queue middle); value = record_is.value } in
      let (cause, left) = fails base p w (framed_one says layout told first base queue signed y middle p between record_is mid) refl mid in
      fails_still old short new (fails_after old between short earlier cause) later

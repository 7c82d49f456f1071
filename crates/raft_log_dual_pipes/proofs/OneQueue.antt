-- The calls of a pipe that write records and go on in the next file, told by the numbered files of its queue.
use Rattle.std.proofs.Common.{◌≡◌, ℕ, ◌<◌, List, [], ◌∷◌, refl, sym, ◌∙◌, ap, subst, inl, inr, arith}
use Rattle.std.proofs.lemmas.List.{append_assoc}
use Rattle.raft_log_model_laws.specs.Item.{Record}
use Rattle.raft_log_machine_laws.specs.Files.{FileQueue}
use Rattle.raft_log_fs.specs.Disk.{Disk}
use Rattle.raft_log_file_writer.specs.LawsChains.{Written}
use Rattle.raft_log_file_writer.specs.LogQueue.{LogFiles, recent, rotated}
use Rattle.raft_log_record_base.specs.declared.pipe_log.LogQueue.{LogQueue}
use Rattle.raft_log_record_base.specs.declared.pipe_log.FileId.{FileId}
use Rattle.raft_log_record_base.specs.declared.pipe_log.FileBlockHandle.{FileBlockHandle}
use Rattle.raft_log_record_base.specs.declared.pipe_log.LogFileContext.{LogFileContext}
use Rattle.raft_log_file_format.specs.Header.{header_bytes}
use Rattle.raft_log_active_file.specs.Queue.{with_more, with_room}
use Rattle.raft_log_active_file.specs.Bridge.{IsFileQueue, GapsStay}
use Rattle.raft_log_file_pipe.specs.Files.{IsPipe}
use Rattle.raft_log_file_pipe.specs.Exits.{Adds}
use Rattle.raft_log_file_pipe.specs.Appending.{context_of, TurnsFirst, AppendsAt}
use Rattle.raft_log_file_pipe.specs.Appending.TurnsFirst.{stays, turns}
use Rattle.raft_log_file_pipe.specs.declared.pipe_files.PipeFiles.{PipeFiles}
use Rattle.raft_log_file_pipe.specs.declared.new_files.NewFiles.{NewFiles}
use Rattle.raft_log_machine_laws.specs.Moves.{Moved, grown}
use Rattle.raft_log_dual_pipes.specs.Queues.{QueueLayout, IsQueueLayout, SaysRecord}
use Rattle.raft_log_dual_pipes.specs.Turning.{HasLast, IsOrGoesOn}
use Rattle.raft_log_dual_pipes.specs.Quiet.{QuietTo}
use Rattle.raft_log_dual_pipes.proofs.Gaps.{with_past, past_there, gaps_stay, pipe_left}
use Rattle.raft_log_dual_pipes.proofs.Numbers.{quiet_then, quiet_same, quiet_rotates, takes_one}

-- the pipe's files are the queue's on the disk
abbrev pub On : {R : Type 0} → QueueLayout R → Disk → PipeFiles → LogFiles R → Disk → Type 0
On layout base files q d = IsPipe layout.format layout.own layout.paths base files q d

-- whichever numbered files the queue's were, they took the record, behind quiet events, in file n
abbrev pub TakesIn : {R E V : Type 0} → (R → Record E V) → QueueLayout R → ℕ → LogFiles R → Disk → Record E V → ℕ → LogFiles R → Disk → Type 0
TakesIn {R} {E} {V} says layout first q old y n r new =
    (from : ℕ) (f : FileQueue E V) → IsFileQueue says layout.format q from first old f → (a : Moved from f) × (a.queue.last ≡ n) × IsFileQueue says layout.format r a.from first new (grown a.queue y)

module _ {R E V : Type 0} (says : R → Record E V) (layout : QueueLayout R) (told : IsQueueLayout layout) (first : ℕ) (base : Disk) where
  pub no_gap_is_filled : (q : LogFiles R) (old new : Disk) → new ≡ old → GapsStay layout.format q old new
  no_gap_is_filled q old new is = subst (GapsStay layout.format q old) (sym is) (λ m less none. none)

  -- before a record is written
  pub turn_one : (begin : NewFiles) (before middle : PipeFiles) (q : LogFiles R) (old new : Disk) → TurnsFirst layout.format layout.own layout.paths begin before middle old new → On layout base before q old
      → (p : LogFiles R) × IsOrGoesOn (header_bytes begin.format) before.recycled.items old q p × On layout base middle p new × QuietTo says layout.format first q old p new
  turn_one begin before middle q old new (stays short after_is new_is) is = (
    q,
    inl refl,
    subst (λ f. On layout base f q new) (sym after_is) (subst (On layout base before q) (sym new_is) is),
    quiet_same says layout.format first q q old new refl refl refl refl (no_gap_is_filled q old new new_is),
  )
  turn_one begin before middle q old new (turns long rotates turned) is =
      let (room, stale, holds, pipe, gaps, calls) = rotates base q is in (
        with_room room (rotated (header_bytes begin.format) stale q),
        inr (room, stale, holds, refl),
        pipe,
        quiet_rotates says layout.format first q (header_bytes begin.format) stale room old new gaps,
      )

  -- a record that is signed for the last file is one of it
  pub framed_one : (queue : LogQueue) (signed : LogFileContext → List ℕ) (y : Record E V) (files : PipeFiles) (q : LogFiles R) (d : Disk) → (is : SaysRecord says layout queue signed y) → On layout base files q d
      → layout.format.IsFrame q.last q.header (signed (context_of queue files)) is.value
  framed_one queue signed y files q d is pipe =
      let bound = pipe.active.stands.bound in
      let less : files.active.seq < layout.format.limit = (let number = pipe.number in omega (arith, bound, number)) in
      subst (λ n. layout.format.IsFrame n q.header (signed (context_of queue files)) is.value) pipe.number
      (subst (λ h. layout.format.IsFrame files.active.seq h (signed (context_of queue files)) is.value) (sym pipe.header)
      (is.framed files.active.seq files.active.format less (subst layout.format.IsHeader pipe.header pipe.active.stands.headed)))

  -- A write fills no gap.
  adds_gaps : (bytes : List ℕ) (at : ℕ) (before after : PipeFiles) (q : LogFiles R) (w : Written R) (old new : Disk) → layout.format.IsFrame q.last q.header w.bytes w.value → w.bytes ≡ bytes
      → Adds layout.format layout.own layout.paths bytes at before after old new → On layout base before q old → GapsStay layout.format q old new
  adds_gaps bytes at before after q w old new frame same adds is = gaps_stay layout told base before q old new is (λ m xs less other.
      (let (at_is, (room, pipe)) = adds base (with_past m xs q) w frame same other in
      (with_more (w ∷ []) (with_room room (with_past m xs q)), past_there m xs q, less, pipe_left layout told base after (with_more (w ∷ []) (with_room room (with_past m xs q))) new pipe)))

  -- one number by three names
  in_file : (a b c d : ℕ) → a ≡ b → c ≡ b → d ≡ c → a ≡ d
  in_file a b c d one two three = one ∙ sym two ∙ sym three

  -- a record is written
  pub append_one : (begin : NewFiles) (queue : LogQueue) (signed : LogFileContext → List ℕ) (y : Record E V) (before after : PipeFiles) (block : FileBlockHandle) (q : LogFiles R) (old new : Disk) → (record_says : SaysRecord says layout queue signed y)
      → AppendsAt layout.format layout.own layout.paths begin queue signed before after block old new → On layout base before q old
      → (p : LogFiles R) × IsOrGoesOn (header_bytes begin.format) before.recycled.items old q p × (room : ℕ) × (w : Written R) × On layout base after (with_more (w ∷ []) (with_room room p)) new
      × HasLast signed record_says.value block (with_more (w ∷ []) (with_room room p))
      × TakesIn says layout first q old y block.id.seq (with_more (w ∷ []) (with_room room p)) new
  append_one begin queue signed y before after block q old new record_is call is =
      let (p, turned, mid, quiet) = turn_one begin before call.middle q old call.between call.first is in
      let w : Written R = record { bytes = signed (context_of queue call.middle); value = record_is.value } in
      let frame = framed_one queue signed y call.middle p call.between record_is mid in
      let (at_is, (room, pipe)) = call.adds base p w frame refl mid in
      let gaps = adds_gaps (signed (context_of queue call.middle)) block.offset call.middle after p w call.between new frame refl call.adds mid in
      let whole = quiet_then says layout.format first q p (with_room room p) old call.between new quiet (quiet_same says layout.format first p (with_room room p) call.between new refl refl refl refl gaps) in (
        p,
        turned,
        room,
        w,
        pipe,
        record {
          context = context_of queue call.middle;
          front = recent p;
          last = w;
          records = sym (append_assoc p.durable p.pending (w ∷ []));
          value = refl;
          bytes = refl;
          number = ap (λ (i : FileId). i.seq) call.id ∙ mid.number;
          offset = at_is;
          len = call.len;
        },
        λ from f all.
            (let (a, is_then) = whole from f all in (
              a,
              in_file a.queue.last p.last call.middle.active.seq block.id.seq is_then.last mid.number (ap (λ (i : FileId). i.seq) call.id),
              takes_one says layout.format first (with_room room p) w y a.from new a.queue record_is.said is_then,
            )),
      )

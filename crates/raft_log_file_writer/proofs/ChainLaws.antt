-- A chain of records through the calls of the writer of its file.
use Rattle.std.specs.Prelude.{◌≡◌, ℕ, ◌+◌, ◌≤◌, Bool, List, [], ◌∷◌, ◌++◌, length, take, drop, Ok, Err}
use Rattle.std.specs.declared.io.ErrorKind.{ErrorKind}
use Rattle.std.proofs.Common.{refl, sym, ◌∙◌, ap, subst, arith, length-append, length-drop}
use Rattle.std.proofs.lemmas.List.{append-nil, append_assoc, drop-append-le, drop_all, take_all, take_at, length-take}
use Rattle.std.proofs.lemmas.Bool.{false≢true}
use Rattle.raft_log_fs.specs.Disk.{Wrote, ShortenedTo, File, Disk, at_rest, zeros, overwritten}
use Rattle.raft_log_fs.specs.Calls.{with_change, after_change, flushed}
use Rattle.raft_log_fs.specs.Arguments.{WrongWriter, WrongHandle}
use Rattle.raft_log_fs.specs.Exits.{Syncs, FailsToSync}
use Rattle.raft_log_file_writer.specs.LawsChains.{Written, IsSelfDelimiting, AreFrames, BeginsWith, spelled}
use Rattle.raft_log_file_writer.specs.KeepsSynced.{HoldsChain, HoldsAtLeast, StandsBehind, kept_records}
use Rattle.raft_log_file_writer.specs.Shortening.{CanShorten, IsShortened}
use Rattle.raft_log_fs.specs.Touching.{HasFile}
use Rattle.raft_log_fs.specs.declared.handle.Handle.{Handle}
use Rattle.raft_log_fs.specs.declared.handle.Permission.TheVariants.{ReadWrite}
use Rattle.raft_log_file_writer.proofs.LawsChainLaws.{spelled-append, frames_front}
use Rattle.raft_log_file_writer.proofs.KeepsSyncedLaws.{left_keeps_part, holds_grown, holds_written, holds_more, holds_read, holds_synced, holds_at_least, all_at_least, holds_used_again, holds_in_front}
use Rattle.raft_log_file_writer.proofs.ShorteningLaws.{reads_whole, can_shorten_kept, kept_shortened, is_shortened, shortened_kept, shortened_synced}
use Rattle.raft_log_fs.proofs.Public.{has_changed, has_done, has_synced, same_file}
use Rattle.raft_log_file_writer.specs.declared.writer.LogFileWriter.{LogFileWriter}
use Rattle.raft_log_file_writer.specs.Writer.{MakesRoom, reach, FailsToWriteAt, WritesNext, FailsToWriteNext, CutsBehind, ends_there, is_cut, Closes, FailsToClose, not_cut, not_synced, TakesUp, goes_on, begins, FailsToTakeUp, not_measured, not_begun}
use Rattle.raft_log_file_writer.specs.Chains.{DurableIsLeft, HasStaleFrom, IsAtEnd, IsReady, WriterKeepsChain, HoldsNothing, RestHoldsNothing, GetsHeader, WriterBeginsChain}
use Rattle.raft_log_file_writer.proofs.Fronts.{IsFront}
use Rattle.raft_log_file_writer.proofs.StaleLaws.{ready_room, stale_wrote}
use Rattle.raft_log_file_writer.proofs.WriterLaws.{room_keeps, front_next, front_at, sync_written, next_written, refused_kept, cut_handle, close_written}

pub durable_is_left : DurableIsLeft
durable_is_left bytes left file is stays =
    let n = length bytes in
    let long : n ≤ length file.synced = omega (arith, ap length is.front, length-take n file.synced) in
    left_keeps_part 0 n file left (omega (arith, long)) (λ place from below. is.spared place (omega (arith, below))) stays ∙ is.front

module _ {R : Type 0} (IsFrame : List ℕ → R → Type 0) (start : ℕ) (stale : List ℕ) (durable pending : List (Written R)) where
  -- the chain goes on through an allocation
  chain_room : (handle : Handle) (capacity end target : ℕ) (old new : Disk) → MakesRoom handle capacity end target old new → HasFile handle.file (HoldsChain IsFrame start stale durable pending) old
      → HasFile handle.file (HoldsChain IsFrame start stale durable pending) new
  chain_room handle capacity end target old new room has =
      let P = HoldsChain IsFrame start stale durable pending in
      room_keeps handle capacity end target old new P P (λ file holds. holds) (λ file content far holds part. holds_grown IsFrame start stale durable pending _ content file holds) room has

  -- and with a record that is written at its end, whatever lands of it
  module _ (w : Written R) (framed : IsFrame w.bytes w.value) (handle : Handle) (at capacity target : ℕ) (old new : Disk) (end : at ≡ start + length (spelled (durable ++ pending))) where
    chain_wrote : (file : File) (content : List ℕ) → HoldsChain IsFrame start stale durable pending file → HoldsChain IsFrame start stale durable (pending ++ w ∷ []) (with_change (Wrote at w.bytes) content file)
    chain_wrote file content holds = subst (λ (n : ℕ). HoldsChain IsFrame start stale durable (pending ++ w ∷ []) (with_change (Wrote n w.bytes) content file)) (sym end)
        (holds_written IsFrame start stale durable pending w content file framed holds)

    chain_refused : (error : ErrorKind) → FailsToWriteAt handle at capacity w.bytes target error old new → HasFile handle.file (HoldsChain IsFrame start stale durable pending) old
        → HasFile handle.file (HoldsChain IsFrame start stale durable (pending ++ w ∷ [])) new
    chain_refused error calls has =
        let P = HoldsChain IsFrame start stale durable pending in
        let Q = HoldsChain IsFrame start stale durable (pending ++ w ∷ []) in
        let roomy = chain_room handle capacity (at + length w.bytes) target old calls.between calls.room has in
        has_changed {T = Unit {0}} P Q (WrongWriter handle calls.between) (Err error) handle.file (Wrote at w.bytes) roomy
        (λ file holds. holds_more IsFrame start stale durable pending (w ∷ []) file (framed, tt) holds) (λ file content holds part. chain_wrote file content holds) tt calls.fails

  -- where the offset is
  end_of_chain : (more : List (Written R)) (writer : LogFileWriter) (d : Disk) → (is : IsAtEnd IsFrame start stale durable pending more writer d) → writer.written ≡ start + length (spelled (durable ++ pending))
  end_of_chain more writer d is = omega (arith, is.written.offset, is.starts, ap length is.chain, length-drop start is.bytes)

  chain_of : (writer : LogFileWriter) (d : Disk) → IsAtEnd IsFrame start stale durable pending [] writer d → HasFile writer.handle.file (HoldsChain IsFrame start stale durable pending) d
  chain_of writer d is = subst (λ (vs : List (Written R)). HasFile writer.handle.file (HoldsChain IsFrame start stale durable vs) d) (append-nil pending) is.holds

  module _ (before : LogFileWriter) where
    -- a file that is to be synced: its chain, its bytes, and the stale ones behind them
    record CanSync (bytes : List ℕ) (file : File) : Type 0 where
      chain : HoldsChain IsFrame start stale durable pending file
      behind : List ℕ
      content : file.content ≡ bytes ++ behind
      stale_behind : HasStaleFrom before.written stale file

  module _ (before after : LogFileWriter) (old new : Disk) where
    -- the file, with what is known of it twice
    ready_file : (is : IsReady IsFrame start stale durable pending before old) → HasFile before.handle.file (λ file. HoldsChain IsFrame start stale durable pending file × HasStaleFrom before.written stale file) old
    ready_file is =
        let chain = chain_of before old is.0 in
        let same = same_file old before.handle.file is.1.file chain.file is.1.is chain.is in
        record { file = chain.file; is = chain.is; has = (chain.has, subst (HasStaleFrom before.written stale) same is.1.has) }

    record_written : (w : Written R) (target : ℕ) → IsFrame w.bytes w.value → IsReady IsFrame start stale durable pending before old → WritesNext before after w.bytes target old new
        → (count : ℕ) × IsReady IsFrame start (stale ++ zeros count) durable (pending ++ w ∷ []) after new
    record_written w target framed ready next =
        let is = ready.0 in
        let all = durable ++ pending in
        let at = before.written in
        let end = end_of_chain [] before old is in
        let calls = next.calls in
        let roomy = ready_room IsFrame start stale durable pending at before.handle before.capacity (at + length w.bytes) target old calls.between calls.room (ready_file ready) in
        let count = roomy.0 in
        let later : List ℕ = stale ++ zeros count in
        let Q : File → Type 0 = λ file. HoldsChain IsFrame start later durable (pending ++ w ∷ []) file × HasStaleFrom (at + length w.bytes) later file in
        let has = has_done before.handle.file (λ file. HoldsChain IsFrame start later durable pending file × HasStaleFrom at later file) Q (after_change (Wrote at w.bytes)) calls.between new roomy.1 calls.writes
        (λ file both. (
          subst (λ (n : ℕ). HoldsChain IsFrame start later durable (pending ++ w ∷ []) (with_change (Wrote n w.bytes) (overwritten at w.bytes file.content) file)) (sym end)
              (holds_written IsFrame start later durable pending w (overwritten at w.bytes file.content) file framed both.0),
          stale_wrote at at w.bytes later file (omega arith) both.1,
        )) in
        let here = subst (λ (h : Handle). HasFile h.file Q new) (sym next.moved.handle_is) has in (
          count,
          (
            record {
              bytes = is.bytes ++ w.bytes;
              written = next_written before after w.bytes target old new next is.bytes is.written;
              starts = omega (arith, is.starts, length-append is.bytes w.bytes);
              chain = drop-append-le start is.bytes w.bytes is.starts ∙ ap (λ (b : List ℕ). b ++ w.bytes) is.chain ∙ ap (λ (b : List ℕ). spelled all ++ b) (sym (append-nil w.bytes)) ∙ sym (spelled-append all (w ∷ []))
                  ∙ ap spelled (append_assoc durable pending (w ∷ []));
              holds = record { file = here.file; is = here.is; has = subst (λ (vs : List (Written R)). HoldsChain IsFrame start later durable vs here.file) (sym (append-nil (pending ++ w ∷ []))) here.has.0 };
            },
            record { file = here.file; is = here.is; has = subst (λ (n : ℕ). HasStaleFrom n later here.file) (sym next.moved.written_is) here.has.1 },
          ),
        )

    record_refused : (w : Written R) (target : ℕ) (error : ErrorKind) → IsFrame w.bytes w.value → IsReady IsFrame start stale durable pending before old
        → FailsToWriteNext before after w.bytes target error old new → IsAtEnd IsFrame start stale durable pending (w ∷ []) after new
    record_refused w target error framed ready fails =
        let is = ready.0 in
        let has = chain_refused w framed before.handle before.written before.capacity target old new (end_of_chain [] before old is) error fails.calls (chain_of before old is) in
        record {
          bytes = is.bytes;
          written = (refused_kept before after w.bytes target old new error fails is.bytes is.written).0;
          starts = is.starts;
          chain = is.chain;
          holds = subst (λ (h : Handle). HasFile h.file (HoldsChain IsFrame start stale durable (pending ++ w ∷ [])) new) (sym fails.stays.handle_is) has;
        }

    file_closed : IsSelfDelimiting IsFrame → (more : List (Written R)) → IsAtEnd IsFrame start stale durable pending more before old → Closes before after old new
        → IsReady IsFrame start [] (durable ++ pending) [] after new
    file_closed free more is closes =
        let all = durable ++ pending in
        let none = append-nil all in
        let same = cut_handle before after old closes.between closes.cuts in
        let syncs = subst (λ (h : Handle). Syncs h closes.between new) (sym same) closes.syncs in
        let closed = close_written before after old closes.between new closes.cuts {T = Unit {0}} (Ok tt) syncs is.bytes is.written in
        let frames = frames_front IsFrame all more (subst (AreFrames IsFrame) (sym (append_assoc durable pending more)) is.holds.has.frames) in (
          record {
            bytes = is.bytes;
            written = closed.0;
            starts = is.starts;
            chain = is.chain ∙ ap spelled (sym none);
            holds = record { file = at_rest is.bytes; is = closed.1; has = holds_read IsFrame start free [] all is.bytes (reads_whole IsFrame start [] free all is.bytes frames is.chain) };
          },
          record {
            file = at_rest is.bytes;
            is = closed.1;
            has = record { stands = λ place behind below. absurd (omega (arith, behind, below, closed.0.offset)); covers = omega arith };
          },
        )

    -- what a sync finds
    to_sync : (ready : IsReady IsFrame start stale durable pending before old) → HasFile before.handle.file (CanSync before ready.0.bytes) old
    to_sync ready =
        let is = ready.0 in
        let both = ready_file ready in
        let same = same_file old before.handle.file is.written.file both.file is.written.is both.is in
        record {
          file = both.file;
          is = both.is;
          has = record { chain = both.has.0; behind = is.written.behind; content = ap (λ (f : File). f.content) (sym same) ∙ is.written.content; stale_behind = both.has.1 };
        }

    synced_chain : IsSelfDelimiting IsFrame → (ready : IsReady IsFrame start stale durable pending before old) (file : File) → CanSync before ready.0.bytes file → HoldsChain IsFrame start stale (durable ++ pending) [] (flushed file)
    synced_chain free ready file can =
        let is = ready.0 in
        let all = durable ++ pending in
        let begun : BeginsWith IsFrame start all file.content = record {
          rest = can.behind;
          splits = ap (λ (b : List ℕ). drop start b) can.content ∙ drop-append-le start is.bytes can.behind is.starts ∙ ap (λ (b : List ℕ). b ++ can.behind) is.chain;
          frames = can.chain.frames;
        } in
        holds_synced IsFrame start free stale all file.content begun (subst (λ (n : ℕ). StandsBehind n stale file.content) (end_of_chain [] before old is) can.stale_behind.stands)

    file_synced : IsSelfDelimiting IsFrame → IsReady IsFrame start stale durable pending before old → Syncs before.handle old new → IsReady IsFrame start stale (durable ++ pending) [] before new
    file_synced free ready syncs =
        let is = ready.0 in
        let all = durable ++ pending in
        let none = append-nil all in
        let after_sync = sync_written before old new syncs is.bytes is.written in
        let Q : File → Type 0 = λ file. HoldsChain IsFrame start stale all [] file × HasStaleFrom before.written stale file in
        let has = has_done before.handle.file (CanSync before is.bytes) Q flushed old new (to_sync ready) syncs (λ file can. (synced_chain free ready file can, record { stands = can.stale_behind.stands; covers = can.stale_behind.covers })) in (
          record {
            bytes = is.bytes;
            written = after_sync.0;
            starts = is.starts;
            chain = is.chain ∙ ap spelled (sym none);
            holds = record { file = has.file; is = has.is; has = has.has.0 };
          },
          record { file = has.file; is = has.is; has = has.has.1 },
        )

    file_not_synced : IsSelfDelimiting IsFrame → (error : ErrorKind) → IsReady IsFrame start stale durable pending before old → FailsToSync before.handle error old new
        → HasFile before.handle.file (HoldsAtLeast IsFrame start stale durable pending) new
    file_not_synced free error ready fails =
        has_synced {T = Unit {0}} (CanSync before ready.0.bytes) (HoldsAtLeast IsFrame start stale durable pending) (WrongHandle before.handle old) (Err error) before.handle.file (to_sync ready)
        (λ file can. holds_at_least IsFrame start stale durable pending file can.chain) (λ file can. all_at_least IsFrame start stale durable pending (flushed file) (synced_chain free ready file can)) tt fails

    -- The file can be cut at the writer's offset.
    can_cut : (more : List (Written R)) → IsAtEnd IsFrame start stale durable pending more before old
        → HasFile before.handle.file (λ file. CanShorten IsFrame start stale before.written (length pending) durable (pending ++ more) file × (before.capacity ≤ before.written → drop start file.content ≡ spelled (durable ++ pending))) old
    can_cut more is =
        let kept : kept_records durable (pending ++ more) (length pending) ≡ durable ++ pending = ap (λ (vs : List (Written R)). durable ++ vs) (take_at pending more (length pending) refl) in
        let same = same_file old before.handle.file is.written.file is.holds.file is.written.is is.holds.is in
        let content : is.holds.file.content ≡ is.bytes ++ is.written.behind = ap (λ (f : File). f.content) (sym same) ∙ is.written.content in
        let front : take before.written is.holds.file.content ≡ is.bytes = ap (λ (b : List ℕ). take before.written b) content ∙ take_at is.bytes is.written.behind before.written (sym is.written.offset) in
        record {
          file = is.holds.file;
          is = is.holds.is;
          has = (
            record {
              holds = is.holds.has;
              within = omega (arith, length-append pending more);
              front = ap (λ (b : List ℕ). drop start b) front ∙ is.chain ∙ ap spelled (sym kept);
              end = end_of_chain more before old is ∙ ap (λ (vs : List (Written R)). start + length (spelled vs)) (sym kept);
            },
            λ near. (let whole = take_all before.written is.holds.file.content (omega (arith, near, is.written.end, ap (λ (f : File). length f.content) same)) in ap (λ (b : List ℕ). drop start b) (sym whole ∙ front) ∙ is.chain),
          );
        }

    file_not_closed : IsSelfDelimiting IsFrame → (more : List (Written R)) (error : ErrorKind) → IsAtEnd IsFrame start stale durable pending more before old → FailsToClose before after error old new
        → HasFile before.handle.file (HoldsAtLeast IsFrame start stale durable (pending ++ more)) new
    file_not_closed free more error is (not_cut fails) =
        let can = can_cut more is in
        has_changed {T = Unit {0}} (CanShorten IsFrame start stale before.written (length pending) durable (pending ++ more)) (HoldsAtLeast IsFrame start stale durable (pending ++ more)) (WrongWriter before.handle old) (Err error)
        before.handle.file (ShortenedTo before.written) (record { file = can.file; is = can.is; has = can.has.0 }) (can_shorten_kept IsFrame start stale before.written (length pending) durable (pending ++ more))
        (λ file content can part. kept_shortened IsFrame start stale before.written (length pending) durable (pending ++ more) file content can) tt fails.fails
    file_not_closed free more error is (not_synced between cuts fails) =
        let P = IsShortened IsFrame start stale (length pending) durable (pending ++ more) in
        has_synced {T = Unit {0}} P (HoldsAtLeast IsFrame start stale durable (pending ++ more)) (WrongHandle before.handle between) (Err error) before.handle.file (cut_file between cuts)
        (shortened_kept IsFrame start stale (length pending) durable (pending ++ more)) (shortened_synced IsFrame start stale free (length pending) durable (pending ++ more)) tt fails
      where
        kept : kept_records durable (pending ++ more) (length pending) ≡ durable ++ pending
        kept = ap (λ (vs : List (Written R)). durable ++ vs) (take_at pending more (length pending) refl)

        cut_file : (between : Disk) → CutsBehind before after old between → HasFile before.handle.file (IsShortened IsFrame start stale (length pending) durable (pending ++ more)) between
        cut_file between (ends_there near same unchanged) =
            let can = can_cut more is in
            subst (HasFile before.handle.file (IsShortened IsFrame start stale (length pending) durable (pending ++ more))) (sym unchanged)
            (record { file = can.file; is = can.is; has = record { holds = can.has.0.holds; all = can.has.1 near ∙ ap spelled (sym kept) } })
        cut_file between (is_cut far shortens at) =
            let can = can_cut more is in
            has_done before.handle.file (CanShorten IsFrame start stale before.written (length pending) durable (pending ++ more)) (IsShortened IsFrame start stale (length pending) durable (pending ++ more)) (after_change (ShortenedTo before.written)) old between
            (record { file = can.file; is = can.is; has = can.has.0 }) shortens (is_shortened IsFrame start stale before.written (length pending) durable (pending ++ more))

pub writer_keeps_chain : {R : Type 0} (IsFrame : List ℕ → R → Type 0) → WriterKeepsChain IsFrame
writer_keeps_chain IsFrame free start stale durable pending before after old new = record {
  written = λ w target framed is next. record_written IsFrame start stale durable pending before after old new w target framed is next;
  synced = λ ready syncs. file_synced IsFrame start stale durable pending before after old new free ready syncs;
  not_synced = λ error ready fails. file_not_synced IsFrame start stale durable pending before after old new free error ready fails;
  refused = λ w target error framed is fails. record_refused IsFrame start stale durable pending before after old new w target error framed is fails;
  closed = λ more is closes. file_closed IsFrame start stale durable pending before after old new free more is closes;
  not_closed = λ more error is fails. file_not_closed IsFrame start stale durable pending before after old new free more error is fails;
}

-- A file without records that gets a header.
module _ {R : Type 0} (IsFrame : List ℕ → R → Type 0) (handle : Handle) (header stale : List ℕ) (reset : Bool) (old new : Disk) (has : HasFile handle.file (HoldsNothing IsFrame (length header) stale) old)
    (needs : GetsHeader handle header reset old) where
  header_in_front : (later : List ℕ) (bytes : List ℕ) (file : File) → HoldsChain IsFrame (length header) later [] [] file → HoldsChain IsFrame (length header) later [] [] (with_change (Wrote 0 header) bytes file)
  header_in_front later bytes file holds = holds_in_front IsFrame (length header) later [] [] 0 header bytes file (omega arith) holds

  header_begun : (writer : LogFileWriter) → handle.permission ≡ ReadWrite → TakesUp handle header reset writer old new → (count : ℕ) × IsReady IsFrame (length header) (stale ++ zeros count) [] [] writer new
  header_begun writer permitted (goes_on file there enough same at) = absurd (false≢true (sym enough ∙ needs file there))
  header_begun writer permitted (begins file there need calls at) =
      let n = length header in
      let both : HasFile handle.file (λ f. HoldsChain IsFrame (length header) stale [] [] f × HasStaleFrom 0 stale f) old = record { file = has.file; is = has.is; has = (has.has.chain, has.has.only) } in
      let roomy = ready_room IsFrame n stale [] [] 0 handle (length file.content) (0 + n) 0 old calls.between calls.room both in
      let later : List ℕ = stale ++ zeros roomy.0 in
      let Q : File → Type 0 = λ f. HoldsChain IsFrame n later [] [] f × HasStaleFrom (0 + n) later f in
      let wrote = has_done handle.file (λ f. HoldsChain IsFrame n later [] [] f × HasStaleFrom 0 later f) Q (after_change (Wrote 0 header)) calls.between new roomy.1 calls.writes
      (λ f both. (header_in_front later _ f both.0, stale_wrote 0 0 header later f (omega arith) both.1)) in
      let here = subst (λ (h : Handle). HasFile h.file Q new) (sym at.handle_is) wrote in
      let start : HasFile handle.file (IsFront [] (length file.content)) old = record { file = file; is = there; has = record { behind = file.content; content = refl; ends = omega arith } } in
      let front = front_next handle 0 (length file.content) header 0 old new [] refl calls start in
      let whole : 0 + n ≡ n = omega arith in
      let reached = subst (λ (k : ℕ). HasFile handle.file (IsFront header (reach (length file.content) k 0)) new) whole front in (
        roomy.0,
        (
          record {
            bytes = header;
            written = front_at writer handle n (reach (length file.content) n 0) header new at permitted refl reached;
            starts = omega arith;
            chain = drop_all n header (omega arith);
            holds = record { file = here.file; is = here.is; has = here.has.0 };
          },
          record { file = here.file; is = here.is; has = subst (λ (k : ℕ). HasStaleFrom k later here.file) (whole ∙ sym at.written_is) here.has.1 },
        ),
      )

  no_records : HasFile handle.file (HoldsChain IsFrame (length header) stale [] []) old
  no_records = record { file = has.file; is = has.is; has = has.has.chain }

  header_refused : (error : ErrorKind) → FailsToTakeUp handle header reset error old new → HasFile handle.file (HoldsChain IsFrame (length header) stale [] []) new
  header_refused error (not_measured why same) = subst (HasFile handle.file (HoldsChain IsFrame (length header) stale [] [])) (sym same) no_records
  header_refused error (not_begun file there need calls) =
      let P = HoldsChain IsFrame (length header) stale [] [] in
      let roomy = chain_room IsFrame (length header) stale [] [] handle (length file.content) (0 + length header) 0 old calls.between calls.room no_records in
      has_changed {T = Unit {0}} P P (WrongWriter handle calls.between) (Err error) handle.file (Wrote 0 header) roomy (λ f holds. holds) (λ f bytes holds part. header_in_front stale bytes f holds) tt calls.fails

pub writer_begins_chain : {R : Type 0} (IsFrame : List ℕ → R → Type 0) → WriterBeginsChain IsFrame
writer_begins_chain IsFrame handle header stale reset old new has needs = record {
  begun = λ writer permitted takes. header_begun IsFrame handle header stale reset old new has needs writer permitted takes;
  refused = λ error fails. header_refused IsFrame handle header stale reset old new has needs error fails;
}

pub rest_holds_nothing : {R : Type 0} (IsFrame : List ℕ → R → Type 0) → RestHoldsNothing IsFrame
rest_holds_nothing IsFrame start content = record {
  chain = holds_used_again IsFrame start content;
  only = record { stands = λ place behind below. (below, refl); covers = omega arith };
}

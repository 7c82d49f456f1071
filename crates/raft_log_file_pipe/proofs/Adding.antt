-- A record that is written to the last file of a pipe: all other files are where they were.
use Rattle.std.specs.Prelude.{Result, Ok, Err}
use Rattle.std.specs.Result.{IfErr, OnOk, OnErr}
use Rattle.std.specs.declared.io.ErrorKind.{ErrorKind}
use Rattle.std.proofs.Common.{◌≡◌, ℕ, Some, List, [], ◌∷◌, refl, sym, ◌∙◌, ap, subst, arith}
use Rattle.raft_log_fs.specs.Disk.{Disk}
use Rattle.raft_log_fs.specs.Exits.{FailsToSync, Syncs}
use Rattle.raft_log_fs.specs.Image.{IsSound}
use Rattle.raft_log_file_writer.specs.LogFormat.{Format}
use Rattle.raft_log_file_writer.specs.LogQueue.{LogFiles}
use Rattle.raft_log_fs.specs.Touching.{TouchesOnly}
use Rattle.raft_log_file_format.specs.Header.{header_bytes}
use Rattle.raft_log_active_file.specs.Queue.{with_more, with_room, settled, synced}
use Rattle.raft_log_active_file.specs.Standing.{Names}
use Rattle.raft_log_active_file.specs.Layout.{FilePaths, IsLayout, path_of}
use Rattle.raft_log_active_file.specs.Exits.{IsOpen, AppendsRecord, FailsToAppend, SyncsAll, FailsToSyncAll}
use Rattle.raft_log_active_file.specs.declared.last_file.WriteFault.{WriteFault}
use Rattle.raft_log_active_file.specs.declared.last_file.WriteFault.TheVariants.{CutBack, Failed}
use Rattle.raft_log_file_pipe.specs.declared.pipe_files.PipeFiles.{PipeFiles}
use Rattle.raft_log_file_pipe.specs.Files.{Listed, IsSpan, AllKept, IsPipe}
use Rattle.raft_log_file_pipe.specs.Exits.{Adds, FailsToAdd, SyncsPipe, FailsToSyncPipe}
use Rattle.raft_log_file_pipe.proofs.Lists.{span_end, span_moved, kept_all, kept_is_no_number}

module _ {R : Type 0} (F : Format R) (own : List ℕ → Type 0) (paths : FilePaths) (lawful : IsLayout F own paths) where
  -- a pipe through a call on its last file alone
  pub pipe_touched : (base old new : Disk) (before after : PipeFiles) (q next : LogFiles R) → IsSound old → IsPipe F own paths base before q old → TouchesOnly before.writer.handle.file old new
      → IsOpen F own base after.writer next (path_of paths before.active) old.names new → next.last ≡ q.last → next.header ≡ q.header
      → after.first_seq ≡ before.first_seq → after.earlier.items ≡ before.earlier.items → after.active ≡ before.active → after.recycled.items ≡ before.recycled.items → IsPipe F own paths base after next new
  pipe_touched base old new before after q next sound is only stands last header first earlier active recycled =
      let at_path = is.active.stands.named in
      let at_last = stands.stands.named in
      let writer : after.writer.handle.file ≡ before.writer.handle.file = cc (at_path, at_last) in
      let ends = span_end paths old.names before.first_seq q.last before.earlier.items is.span in
      let bound = is.active.stands.bound in
      let names : new.names ≡ old.names = only.names in
      let span : IsSpan paths new.names before.first_seq before.earlier.items q.last = span_moved paths old.names new.names before.first_seq q.last before.earlier.items (λ directory n from less. ap (λ (N : Names). N (paths.numbered directory n)) names) is.span in
      record {
        active = subst (λ (f : Listed). IsOpen F own base after.writer next (path_of paths f) new.names new) (sym active) (subst (λ (N : Names). IsOpen F own base after.writer next (path_of paths before.active) N new) (sym names) stands);
        number = ap (λ (f : Listed). f.seq) active ∙ is.number ∙ sym last;
        listed = ap (λ (f : Listed). f.reserved) active ∙ is.listed;
        header = header ∙ is.header ∙ ap (λ (f : Listed). header_bytes f.format) (sym active);
        handle = ap (λ (f : Listed). f.handle.file) active ∙ is.handle ∙ sym writer;
        span = subst (λ (n : ℕ). IsSpan paths new.names n after.earlier.items next.last) (sym first) (subst (λ (fs : List Listed). IsSpan paths new.names before.first_seq fs next.last) (sym earlier) (subst (IsSpan paths new.names before.first_seq before.earlier.items) (sym last) span));
        kept = subst (λ (n : ℕ). AllKept F paths n new after.recycled.items) (sym first) (subst (AllKept F paths before.first_seq new) (sym recycled) (kept_all F paths before.first_seq before.first_seq old new before.recycled.items (λ g was.
            (let mine : g.handle.file ≡ before.writer.handle.file → ⊥ = λ same.
            kept_is_no_number F own paths lawful before.first_seq old g q.last was (omega (arith, ends)) (omega (arith, bound))
            (subst (F.IsPath q.last) (sound.one_name (path_of paths before.active) (path_of paths g) before.writer.handle.file is.active.stands.named (was.named ∙ ap Some same)) is.active.stands.at) in
            record {
              named = ap (λ (N : Names). N (path_of paths g)) names ∙ was.named;
              below = was.below;
              small = was.small;
              usable = record { file = was.usable.file; is = only.others g.handle.file mine ∙ was.usable.is; has = was.usable.has };
            })) is.kept));
      }

  pub adds : (old new : Disk) (before after : PipeFiles) (bytes : List ℕ) (at : ℕ) → IsSound old → at ≡ before.writer.written → AppendsRecord F own bytes before.writer after.writer old new → TouchesOnly before.writer.handle.file old new
      → after.first_seq ≡ before.first_seq → after.earlier.items ≡ before.earlier.items → after.active ≡ before.active → after.recycled.items ≡ before.recycled.items
      → Adds F own paths bytes at before after old new
  adds old new before after bytes at sound place appends only first earlier active recycled base q w framed spelled is =
      let (room, stands) = appends base q w (path_of paths before.active) old.names framed spelled is.active in
      (place ∙ is.active.written, (room, pipe_touched base old new before after q (with_more (w ∷ []) (with_room room q)) sound is only stands refl refl first earlier active recycled))

  pub fails_to_add : (old new : Disk) (before after : PipeFiles) (bytes : List ℕ) (fault : WriteFault) → IsSound old → FailsToAppend F own bytes fault before.writer after.writer old new → TouchesOnly before.writer.handle.file old new
      → after.first_seq ≡ before.first_seq → after.earlier.items ≡ before.earlier.items → after.active ≡ before.active → after.recycled.items ≡ before.recycled.items
      → FailsToAdd F own paths bytes fault before after old new
  fails_to_add old new before after bytes (CutBack kind) sound fails only first earlier active recycled base q w framed spelled is =
      let (cause, stands) = fails base q w (path_of paths before.active) old.names framed spelled is.active in
      (cause, pipe_touched base old new before after q (settled q) sound is only stands refl refl first earlier active recycled)
  fails_to_add old new before after bytes (Failed kind) sound fails only first earlier active recycled base q w framed spelled is =
      let (cause, (room, held)) = fails base q w (path_of paths before.active) old.names framed spelled is.active in
      let span : IsSpan paths new.names before.first_seq before.earlier.items q.last = subst (λ (N : Names). IsSpan paths N before.first_seq before.earlier.items q.last) (sym only.names) is.span in (
        cause,
        (
          room,
          record { path = path_of paths before.active; id = before.writer.handle.file; N = old.names; stands = held },
          subst (λ (n : ℕ). IsSpan paths new.names n after.earlier.items q.last) (sym first) (subst (λ (fs : List Listed). IsSpan paths new.names before.first_seq fs q.last) (sym earlier) span),
        ),
      )

  pub syncs_either : (result : Result (Unit {0}) ErrorKind) (old new : Disk) (files : PipeFiles) → IsSound old → OnOk result (SyncsAll F own files.writer old new) → TouchesOnly files.writer.handle.file old new → OnOk result (Syncs files.writer.handle old new)
      → OnOk result (SyncsPipe F own paths files old new)
  syncs_either (Ok v) old new files sound syncs only call = λ base q is.
      (pipe_touched base old new files files q (synced q) sound is only (syncs base q (path_of paths files.active) old.names is.active) refl refl refl refl refl refl, call)
  syncs_either (Err e) old new files sound syncs only call = tt

  pub fails_either : (result : Result (Unit {0}) ErrorKind) (old new : Disk) (files : PipeFiles) → OnErr result (FailsToSyncAll F own files.writer old new) → TouchesOnly files.writer.handle.file old new → IfErr result (λ e. FailsToSync files.writer.handle e old new)
      → OnErr result (FailsToSyncPipe F own paths files old new)
  fails_either (Ok v) old new files fails only call = tt
  fails_either (Err e) old new files fails only call = λ base q is.
      (let (cause, held) = fails base q (path_of paths files.active) old.names is.active in (
        cause,
        record { path = path_of paths files.active; id = files.writer.handle.file; N = old.names; stands = held },
        subst (λ (N : Names). IsSpan paths N files.first_seq files.earlier.items q.last) (sym only.names) is.span,
        (e, call),
      ))

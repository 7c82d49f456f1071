use Rattle.std.proofs.Common.{◌≡◌, ℕ, List, ◌++◌, length, refl, sym, ap, subst, ◌∙◌}
use Rattle.std.proofs.lemmas.Result.{err_from_is_err_and}
use Rattle.raft_log_fs.specs.declared.handle.Handle.{Handle}
use Rattle.raft_log_file_format.specs.Header.{header_bytes}
use Rattle.raft_log_file_reader.specs.Opening.{SaysFormat}
use Rattle.raft_log_file_reader.specs.Reader.{end_of}
use Rattle.raft_log_file_reader.specs.Source.{bytes_in, bytes_of}
use Rattle.raft_log_file_reader.specs.declared.open_file.OpenFile.{OpenFile}
use Rattle.raft_log_recovery_read.proofs.Public.{file_unread}
use Rattle.raft_log_open.specs.Content.{AreJoined, plain_format}
use Rattle.raft_log_open.proofs.Joining.{plain_is, unopened}
use Rattle.raft_log_open.proofs.content.without_padding.Goals as goal

pub returns-in_err-format-clause-err : goal.returns-in_err-format-clause-err
returns-in_err-format-clause-err g c =
    let d = g.F.FileSystem.disk c.args.file_system.now in
    let file = c.args.file in
    let gave = err_from_is_err_and c.from_residual.result c.from_residual.ensures.1 in
    rw (gave.1, gave.2) (λ reads honest padded. unopened file.is_last file.id file.handle d c.in_err-format.field-0.0 padded (c.in_err-format.ensures.err reads))

pub returns-in_err-join_records-clause-err : goal.returns-in_err-join_records-clause-err
returns-in_err-join_records-clause-err g c =
    let d = g.F.FileSystem.disk c.args.file_system.now in
    let opens = c.in_ok-format.ensures.ok in
    let file : OpenFile = record { id = c.args.file.id; source = opens.source; format = c.in_ok-format.format } in
    let gave = err_from_is_err_and c.from_residual-in_err-join_records.result c.from_residual-in_err-join_records.ensures.1 in
    rw (gave.1, gave.2) (λ reads honest padded.
    file_unread opens.source c.args.file.handle d c.in_err-join_records.field-0.0 opens.reads_by opens.size (c.in_err-join_records.ensures.err file opens.opened reads))

pub returns-clause-ok : goal.returns-clause-ok
returns-clause-ok g c = λ reads honest.
    let d = g.F.FileSystem.disk c.args.file_system.now in
    let opens = c.in_ok-format.ensures.ok in
    let format = c.in_ok-format.format in
    let file : OpenFile = record { id = c.args.file.id; source = opens.source; format = format } in
    let content = bytes_in (d.files c.args.file.handle.file) in
    let start = end_of c.open.new.self in
    let all : c.as_slice.result.now ≡ content = c.as_slice.ensures.value ∙ c.in_ok-bytes.ensures.ok honest in
    let own : c.as_slice.result.now ≡ bytes_of opens.source d = all ∙ ap (λ (h : Handle). bytes_in (d.files h.file)) (sym opens.reads_by) in
    let joins = c.in_ok-join_records.ensures.ok file opens.opened reads own in
    let plain = plain_is c.new.result format c.new.ensures.version c.new.ensures.alignment in
    let header : c.encode.new.out.items ≡ header_bytes (plain_format format) =
    c.in_ok-encode.ensures.ok.1 ∙ ap (λ (l : List ℕ). l ++ header_bytes c.new.result) c.new-new.ensures.items ∙ ap header_bytes plain in
    record {
      file = file;
      is = refl;
      start = start;
      says = subst (λ (h : Handle). SaysFormat (bytes_in (d.files h.file)) format start) opens.reads_by (opens.header (c.in_ok-join_records.ensures.receipts.falls reads));
      bytes = joins.bytes;
      are = subst (λ (l : List ℕ). AreJoined file l start joins.bytes) all joins.are;
      made = joins.more ∙ ap (λ (l : List ℕ). l ++ joins.bytes) header;
    }

pub join_records-requires-clause-open : goal.join_records-requires-clause-open
join_records-requires-clause-open g c =
    let d = g.F.FileSystem.disk c.args.file_system.now in
    let opens = c.in_ok-format.ensures.ok in
    let size = ap length c.as_slice.ensures.value ∙ c.in_ok-bytes.ensures.size ∙ ap (λ (h : Handle). length (bytes_in (d.files h.file))) (sym opens.reads_by) ∙ sym opens.size in
    record { file = record { id = c.args.file.id; source = opens.source; format = c.in_ok-format.format }; opened = opens.opened; size = size }

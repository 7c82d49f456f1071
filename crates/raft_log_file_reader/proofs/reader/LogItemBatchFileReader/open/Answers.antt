use Rattle.std.proofs.Common.{◌≡◌, length, Some, refl, subst, sym, ap, ◌∙◌, arith}
use Rattle.raft_log_fs.specs.declared.receipt.Receipt.{Receipt}
use Rattle.raft_log_file_reader.specs.Source.{bytes_of}
use Rattle.raft_log_file_reader.specs.Reader.{IsReadingFile}
use Rattle.raft_log_file_reader.specs.declared.source.Source.{Source}
use Rattle.raft_log_file_reader.specs.declared.open_file.OpenFile.{OpenFile}
use Rattle.raft_log_file_reader.specs.declared.reader.LogItemBatchFileReader.{LogItemBatchFileReader}
use Rattle.raft_log_file_reader.proofs.Parts.{nothing_held}
use Rattle.raft_log_file_reader.proofs.Opened.{size_told}
use Rattle.raft_log_file_reader.proofs.reader.LogItemBatchFileReader.open.Goals as goal

pub returns-in-Ok-clause-ok : goal.returns-in-Ok-clause-ok
returns-in-Ok-clause-ok g c =
    let d = g.F.FileSystem.disk c.args.file_system.now in
    let source : Source = record { handle = c.args.handle; size = c.in_ok-size.size } in
    record {
      source = source;
      reads_by = refl;
      size = size_told c.args.handle.file d c.in_ok-size.size c.in_ok-size.ensures.ok;
      opened = refl;
      header = λ honest. c.in-Ok.ensures.ok (ap (λ (r : Receipt). r.honest) (sym c.begin.ensures.receipt) ∙ honest);
    }

pub returns-in-Ok-clause-reading : goal.returns-in-Ok-clause-reading
returns-in-Ok-clause-reading g c = λ x is.
    let d = g.F.FileSystem.disk c.args.file_system.now in
    let source : Source = record { handle = c.args.handle; size = c.in_ok-size.size } in
    let file : OpenFile = record { id = c.args.id; source = source; format = c.in-Ok.format } in
    let new : LogItemBatchFileReader = record { window = c.begin.new.self; file = Some file; valid_offset = c.in-Ok.end; last_block = c.reset.new.self.last_block } in
    let size = size_told c.args.handle.file d c.in_ok-size.size c.in_ok-size.ensures.ok in
    let same : file ≡ x = cc in
    subst (λ (f : OpenFile). IsReadingFile d new f) same (record {
      holds = record {
        size = size;
        inside = omega (arith, c.begin.ensures.start, ap length c.begin.ensures.bytes);
        part = λ honest. rw (c.begin.ensures.bytes, c.begin.ensures.start) (nothing_held 0 (bytes_of source d) (omega arith));
      };
      within = c.in-Ok.ensures.inside;
    })

pub returns-in-Ok-clause-receipts : goal.returns-in-Ok-clause-receipts
returns-in-Ok-clause-receipts g c = λ truth. ap (λ (r : Receipt). r.honest) c.begin.ensures.receipt ∙ c.in-Ok.ensures.receipts.stays truth c.reset.ensures.honest

pub returns-in-Err-clause-receipts : goal.returns-in-Err-clause-receipts
returns-in-Err-clause-receipts g c = λ truth. c.in-Err.ensures.receipts.stays truth c.reset.ensures.honest

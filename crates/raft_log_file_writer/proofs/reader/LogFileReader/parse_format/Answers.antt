use Rattle.raft_log_file_writer.proofs.ReaderLaws.{filled, begins_with_header, gives_format, format_refused}
use Rattle.raft_log_file_writer.proofs.reader.LogFileReader.parse_format.Goals as goal

pub returns-clause-ok : goal.returns-clause-ok
returns-clause-ok g c =
    let d = g.F.FileSystem.disk c.args.file_system.now in
    begins_with_header c.args.self.now.handle d _ _ c.read_to.new.receipts.honest (λ honest.
    let fills = c.in_ok-count.ensures.ok honest in
    record { file = fills.file; is = fills.is; front = filled 0 c.in_ok-count.count _ c.read_to.new.room fills.file.content fills.number fills.bytes })
    c.decode.result c.decode.ensures.decodes

pub returns-clause-exact : goal.returns-clause-exact
returns-clause-exact g c =
    let d = g.F.FileSystem.disk c.args.file_system.now in
    gives_format c.args.self.now.handle d _ _ c.read_to.new.receipts.honest (λ honest.
    let fills = c.in_ok-count.ensures.ok honest in
    record { file = fills.file; is = fills.is; front = filled 0 c.in_ok-count.count _ c.read_to.new.room fills.file.content fills.number fills.bytes })
    c.decode.result c.decode.ensures.exact

pub returns-clause-err : goal.returns-clause-err
returns-clause-err g c =
    let d = g.F.FileSystem.disk c.args.file_system.now in
    format_refused c.args.self.now.handle d _ _ c.read_to.new.receipts.honest (λ honest.
    let fills = c.in_ok-count.ensures.ok honest in
    record { file = fills.file; is = fills.is; front = filled 0 c.in_ok-count.count _ c.read_to.new.room fills.file.content fills.number fills.bytes })
    c.decode.result c.decode.ensures.exact

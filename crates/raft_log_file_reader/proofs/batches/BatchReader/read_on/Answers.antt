use Rattle.raft_log_file_reader.proofs.OpenFiles.{read_batch, read_end, read_refused}
use Rattle.raft_log_file_reader.proofs.batches.BatchReader.read_on.Goals as goal

pub returns-in-Ok-Some-clause-ok : goal.returns-in-Ok-Some-clause-ok
returns-in-Ok-Some-clause-ok g c =
    let d = g.F.FileSystem.disk c.args.file_system.now in
    let honest = c.in-Ok-Some.ensures.receipts.stays g.met.F.FileSystem.truthful c.requires.honest in
    read_batch d c.args.self.now.reader c.next.new.self c.in-Ok-Some.batch.items c.in-Ok-Some.ensures.file c.in-Ok-Some.ensures.reading
    (λ file is. rw c.in-Ok-Some.field-0-is at (c.in-Ok-Some.ensures.ok file is honest))
    (λ none. let told = (c.in-Ok-Some.ensures.closed none).0 in absurd cc)

pub returns-in-Ok-None-clause-ok : goal.returns-in-Ok-None-clause-ok
returns-in-Ok-None-clause-ok g c =
    let d = g.F.FileSystem.disk c.args.file_system.now in
    let honest = c.in-Ok-None.ensures.receipts.stays g.met.F.FileSystem.truthful c.requires.honest in
    read_end d c.args.self.now.reader c.reset.new.self
    (λ file is. let found = rw c.in-Ok-None.field-0-is at (c.in-Ok-None.ensures.ok file is honest) in found.0)
    c.reset.ensures.closed

pub returns-in-Err-clause-err : goal.returns-in-Err-clause-err
returns-in-Err-clause-err g c =
    let d = g.F.FileSystem.disk c.args.file_system.now in
    let honest = c.in-Err.ensures.receipts.stays g.met.F.FileSystem.truthful c.requires.honest in
    read_refused d c.in-Err.error c.args.self.now.reader c.reset-in-Err.new.self (λ file is. c.in-Err.ensures.err file is honest)
    (λ none. let told = (c.in-Err.ensures.closed none).0 in absurd cc)
    c.reset-in-Err.ensures.closed

pub returns-in-Ok-Some-clause-reading : goal.returns-in-Ok-Some-clause-reading
returns-in-Ok-Some-clause-reading g c = record { reading = c.in-Ok-Some.ensures.reading; honest = c.in-Ok-Some.ensures.receipts.stays g.met.F.FileSystem.truthful c.requires.honest }

pub returns-in-Ok-None-clause-reading : goal.returns-in-Ok-None-clause-reading
returns-in-Ok-None-clause-reading g c = record { reading = c.reset.ensures.reading (g.F.FileSystem.disk c.args.file_system.now); honest = c.reset.ensures.honest }

pub returns-in-Err-clause-reading : goal.returns-in-Err-clause-reading
returns-in-Err-clause-reading g c = record { reading = c.reset-in-Err.ensures.reading (g.F.FileSystem.disk c.args.file_system.now); honest = c.reset-in-Err.ensures.honest }

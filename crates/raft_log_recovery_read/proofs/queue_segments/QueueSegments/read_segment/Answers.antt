use Rattle.std.proofs.Common.{Bool, IsTrue, subst}
use Rattle.raft_log_file_reader.specs.Reader.{honest_of}
use Rattle.raft_log_recovery_read.specs.Tolerance.{FailsToReadFound, ReadsFound}
use Rattle.raft_log_recovery_read.specs.Segments.{id_of, IsSegment, RefusesFile}
use Rattle.raft_log_recovery_read.specs.Handed.{WasHanded}
use Rattle.raft_log_recovery_read.specs.Reading.{FileReading}
use Rattle.raft_log_recovery_read.proofs.ResultLemmas.{err_then, ok_then}
use Rattle.raft_log_recovery_read.proofs.queue_segments.QueueSegments.read_segment.Goals as goal

pub returns-clause-ok : goal.returns-clause-ok
returns-clause-ok g c =
    let me = c.args.self.now in
    let d = g.F.FileSystem.disk me.file_system.now in
    let file = c.file_at-file.result in
    let id = id_of me.queue file in
    let takes = g.M.ReplayMachine.reads me.queue in
    let declines = g.M.ReplayMachine.declines me.queue in
    let old = c.args.machine.now in
    let new = c.read_found.new.machine in
    let honest = c.read_found.ensures.receipts g.met.F.FileSystem.truthful in
    ok_then c.read_found.result (λ found. IsTrue (honest_of c.read_found.new.reader) → (read : FileReading) × ReadsFound me.mode c.is_at_end.result id file.handle d read × WasHanded takes declines id old new read found)
    (IsSegment me.mode me.queue me.files.now d c.args.index takes declines old new) c.read_found.ensures.ok
    (λ found told. let is = told honest in record {
      file = file;
      read = is.0;
      reads = record {
        inside = c.requires;
        is = c.file_at-file.ensures;
        reads = subst (λ (b : Bool). ReadsFound me.mode b id file.handle d is.0) c.is_at_end.ensures is.1;
      };
      handed = is.2;
    })

pub returns-clause-err : goal.returns-clause-err
returns-clause-err g c =
    let me = c.args.self.now in
    let d = g.F.FileSystem.disk me.file_system.now in
    let file = c.file_at-file.result in
    let id = id_of me.queue file in
    let honest = c.read_found.ensures.receipts g.met.F.FileSystem.truthful in
    err_then c.read_found.result (λ error. IsTrue (honest_of c.read_found.new.reader) → FailsToReadFound me.mode c.is_at_end.result id file.handle d error) (RefusesFile me.mode me.queue me.files.now d c.args.index) c.read_found.ensures.err
    (λ error refused. record {
      file = file;
      inside = c.requires;
      is = c.file_at-file.ensures;
      refused = subst (λ (b : Bool). FailsToReadFound me.mode b id file.handle d error) c.is_at_end.ensures (refused honest);
    })

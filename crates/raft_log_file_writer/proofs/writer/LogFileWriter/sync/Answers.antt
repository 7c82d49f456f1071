use Rattle.std.proofs.lemmas.Result.{on_ok_weaker}
use Rattle.raft_log_fs.specs.Arguments.{WrongHandle}
use Rattle.raft_log_file_writer.proofs.WriterLaws.{sync_written, sync_durable, unsynced}
use Rattle.raft_log_file_writer.proofs.writer.LogFileWriter.sync.Goals as goal

pub returns-clause-synced : goal.returns-clause-synced
returns-clause-synced g c =
    let D = g.F.FileSystem.disk in
    on_ok_weaker c.sync.result (λ syncs. sync_written c.args.self.now (D c.args.file_system.now) (D c.sync.new.self) syncs) c.sync.ensures.ok

pub returns-clause-kept : goal.returns-clause-kept
returns-clause-kept g c =
    let D = g.F.FileSystem.disk in
    unsynced c.args.self.now (D c.args.file_system.now) (D c.sync.new.self) c.sync.result c.sync.ensures.err

pub returns-clause-durable : goal.returns-clause-durable
returns-clause-durable g c =
    let D = g.F.FileSystem.disk in
    sync_durable c.args.self.now (D c.args.file_system.now) (D c.sync.new.self) (WrongHandle c.args.self.now.handle (D c.args.file_system.now)) c.sync.result (g.met.F.FileSystem.sound c.args.file_system.now) c.sync.ensures.ok c.sync.ensures.err

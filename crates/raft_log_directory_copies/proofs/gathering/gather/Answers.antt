use Rattle.raft_log_directory_copies.proofs.Reading.{read_next}
use Rattle.raft_log_directory_copies.proofs.gathering.gather.Goals as goal

pub loop-name-preserved : goal.loop-name-preserved
loop-name-preserved g c =
    let D = g.F.FileSystem.disk in
    read_next c.loop-name.files.items c.push.new.self.items c.in_ok-file.file c.as_slice-name-items.result.now c.loop-name.name-index c.name-item.result c.as_str.result.now c.args.directory.now
    (D c.args.file_system.now) c.loop-name-test.true c.name-item.is c.as_str.ensures.value c.in_ok-file.ensures.name c.in_ok-file.ensures.bytes c.in_ok-push.ensures.items c.loop-name.invariant

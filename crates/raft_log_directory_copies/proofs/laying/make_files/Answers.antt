use Rattle.std.proofs.Common.{◌≡◌, ◌∙◌, ap}
use Rattle.raft_log_directory_copies.specs.Copies.{name_of, path_in}
use Rattle.raft_log_directory_copies.proofs.Making.{holds_next}
use Rattle.raft_log_directory_copies.proofs.laying.make_files.Goals as goal

pub loop-file-preserved : goal.loop-file-preserved
loop-file-preserved g c =
    let D = g.F.FileSystem.disk in
    let path : c.as_str-in-loop-file.result.now ≡ path_in c.args.directory.now (name_of c.file-item.result) =
    c.as_str-in-loop-file.ensures.value ∙ (c.in_ok-path.ensures ∙ ap (path_in c.args.directory.now) c.as_str.ensures.value) in (
      holds_next c.args.directory.now c.args.files.now c.loop-file.file-index c.file-item.result c.as_str-in-loop-file.result.now c.as_slice.result.now (D c.loop-file.file_system)
          (D c.make_file-made.new.file_system) c.loop-file-test.true c.file-item.is path c.as_slice.ensures.value c.loop-file.invariant.0 c.in_default.ensures.ok,
      c.in_default.ensures.runs,
    )

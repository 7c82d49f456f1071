use Rattle.std.proofs.Common.{◌∙◌, refl, false}
use Rattle.raft_log_file_format.specs.Header.{header_bytes}
use Rattle.raft_log_file_pipe.specs.declared.pipe_files.PipeFiles.{PipeFiles}
use Rattle.raft_log_file_pipe.proofs.TakingUp.{begins, fails_to_begin, refused_by}
use Rattle.raft_log_file_pipe.specs.Files.{Listed}
use Rattle.raft_log_file_pipe.proofs.Doing.{begins_by}
use Rattle.raft_log_file_pipe.proofs.opening.begin.Goals as goal

pub returns-in-Ok-clause-ok : goal.returns-in-Ok-clause-ok
returns-in-Ok-clause-ok g c =
    let D = g.F.FileSystem.disk in
    let layout = c.args.layout.now in
    let files : PipeFiles = record {
      first_seq = 1;
      earlier = c.new.result;
      active = record { seq = 1; handle = c.in-Ok.handle; format = c.args.new_files.now.format; path_id = c.in_ok-choose_directory.field-0; reserved = false };
      writer = c.in-Ok.writer;
      recycled = c.args.recycled;
    } in
    begins (g.G.PipeFormat.format layout) (g.G.PipeFormat.own layout) (g.G.PipeFormat.file_paths layout) (g.met.G.PipeFormat.lawful layout) c.args.recycled.items c.args.new_files.now.format c.in_ok-choose_directory.field-0
    c.header.result.now c.deref.result.now c.in-Ok.handle files (D c.args.file_system.now) (D c.begin_queue.new.file_system) c.header.ensures.unaligned c.header.ensures.bytes (c.deref.ensures ∙ c.in_ok-path.ensures.ok)
    refl c.new.ensures.items refl refl c.in-Ok.ensures.ok c.in-Ok.ensures.files c.in-Ok.ensures.calls

pub returns-in-Err-clause-err : goal.returns-in-Err-clause-err
returns-in-Err-clause-err g c =
    let D = g.F.FileSystem.disk in
    let layout = c.args.layout.now in
    let path_is = c.deref.ensures ∙ c.in_ok-path.ensures.ok in (
      (c.in_ok-choose_directory.field-0, refused_by c.in-Err.kind c.header.result.now (header_bytes c.args.new_files.now.format) c.deref.result.now _ (D c.args.file_system.now) (D c.begin_queue.new.file_system) c.header.ensures.bytes path_is c.in-Err.ensures.refusal),
      fails_to_begin (g.G.PipeFormat.format layout) (g.G.PipeFormat.own layout) (g.G.PipeFormat.file_paths layout) (g.met.G.PipeFormat.lawful layout) c.args.recycled.items c.args.new_files.now.format c.in_ok-choose_directory.field-0
          c.header.result.now c.deref.result.now (D c.args.file_system.now) (D c.begin_queue.new.file_system) c.header.ensures.unaligned c.header.ensures.bytes path_is c.in-Err.ensures.err,
    )

pub returns-in-Ok-clause-calls : goal.returns-in-Ok-clause-calls
returns-in-Ok-clause-calls g c =
    let D = g.F.FileSystem.disk in
    let first : Listed = record { seq = 1; handle = c.in-Ok.handle; format = c.args.new_files.now.format; path_id = c.in_ok-choose_directory.field-0; reserved = false } in
    let files : PipeFiles = record { first_seq = 1; earlier = c.new.result; active = first; writer = c.in-Ok.writer; recycled = c.args.recycled } in (
      refl,
      begins_by (g.G.PipeFormat.file_paths c.args.layout.now) files first c.deref.result.now c.header.result.now (header_bytes c.args.new_files.now.format) (D c.args.file_system.now) (D c.begin_queue.new.file_system) refl
          (c.deref.ensures ∙ c.in_ok-path.ensures.ok) c.header.ensures.bytes c.in-Ok.ensures.calls,
    )

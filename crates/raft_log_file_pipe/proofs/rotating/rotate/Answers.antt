use Rattle.std.proofs.Common.{refl}
use Rattle.raft_log_file_format.specs.Header.{header_bytes}
use Rattle.raft_log_file_pipe.specs.declared.pipe_files.PipeFiles.{PipeFiles}
use Rattle.raft_log_file_pipe.specs.Exits.{SameFiles}
use Rattle.raft_log_file_pipe.proofs.Turning.{leaves_either}
use Rattle.raft_log_file_pipe.proofs.Doing.{fails_either, turns_either}
use Rattle.raft_log_file_pipe.proofs.rotating.rotate.Goals as goal

pub returns-in-Some-copied-clause-err : goal.returns-in-Some-copied-clause-err
returns-in-Some-copied-clause-err g c =
    let D = g.F.FileSystem.disk in
    let like : PipeFiles = record c.args.files.now { earlier = c.reserve.new.self } in
    let same : SameFiles c.args.files.now like = record { first = refl; earlier = c.reserve.ensures.items; active = refl; writer = refl; recycled = refl } in
    leaves_either (g.G.PipeFormat.format c.args.layout.now) (g.G.PipeFormat.own c.args.layout.now) (g.G.PipeFormat.file_paths c.args.layout.now) c.rotate_into_recycled.result (header_bytes c.args.new_files.now.format) c.args.files.now like c.rotate_into_recycled.new.files
    (D c.args.file_system.now) (D c.rotate_into_recycled.new.file_system) same c.rotate_into_recycled.ensures.err

pub returns-in-None-clause-err : goal.returns-in-None-clause-err
returns-in-None-clause-err g c =
    let D = g.F.FileSystem.disk in
    let like : PipeFiles = record c.args.files.now { earlier = c.reserve.new.self } in
    let same : SameFiles c.args.files.now like = record { first = refl; earlier = c.reserve.ensures.items; active = refl; writer = refl; recycled = refl } in
    leaves_either (g.G.PipeFormat.format c.args.layout.now) (g.G.PipeFormat.own c.args.layout.now) (g.G.PipeFormat.file_paths c.args.layout.now) c.rotate_into_new.result (header_bytes c.args.new_files.now.format) c.args.files.now like c.rotate_into_new.new.files
    (D c.args.file_system.now) (D c.rotate_into_new.new.file_system) same c.rotate_into_new.ensures.err

pub returns-in-Some-copied-clause-calls : goal.returns-in-Some-copied-clause-calls
returns-in-Some-copied-clause-calls g c =
    let D = g.F.FileSystem.disk in
    let like : PipeFiles = record c.args.files.now { earlier = c.reserve.new.self } in
    let same : SameFiles c.args.files.now like = record { first = refl; earlier = c.reserve.ensures.items; active = refl; writer = refl; recycled = refl } in
    turns_either c.rotate_into_recycled.result (g.G.PipeFormat.file_paths c.args.layout.now) c.args.new_files.now.format c.args.files.now like c.rotate_into_recycled.new.files (D c.args.file_system.now) (D c.rotate_into_recycled.new.file_system) same c.rotate_into_recycled.ensures.calls

pub returns-in-Some-copied-clause-refusal : goal.returns-in-Some-copied-clause-refusal
returns-in-Some-copied-clause-refusal g c =
    let D = g.F.FileSystem.disk in
    let like : PipeFiles = record c.args.files.now { earlier = c.reserve.new.self } in
    let same : SameFiles c.args.files.now like = record { first = refl; earlier = c.reserve.ensures.items; active = refl; writer = refl; recycled = refl } in
    fails_either c.rotate_into_recycled.result (g.G.PipeFormat.file_paths c.args.layout.now) c.args.new_files.now.format c.args.files.now like c.rotate_into_recycled.new.files (D c.args.file_system.now) (D c.rotate_into_recycled.new.file_system) same c.rotate_into_recycled.ensures.refusal

pub returns-in-None-clause-calls : goal.returns-in-None-clause-calls
returns-in-None-clause-calls g c =
    let D = g.F.FileSystem.disk in
    let like : PipeFiles = record c.args.files.now { earlier = c.reserve.new.self } in
    let same : SameFiles c.args.files.now like = record { first = refl; earlier = c.reserve.ensures.items; active = refl; writer = refl; recycled = refl } in
    turns_either c.rotate_into_new.result (g.G.PipeFormat.file_paths c.args.layout.now) c.args.new_files.now.format c.args.files.now like c.rotate_into_new.new.files (D c.args.file_system.now) (D c.rotate_into_new.new.file_system) same c.rotate_into_new.ensures.calls

pub returns-in-None-clause-refusal : goal.returns-in-None-clause-refusal
returns-in-None-clause-refusal g c =
    let D = g.F.FileSystem.disk in
    let like : PipeFiles = record c.args.files.now { earlier = c.reserve.new.self } in
    let same : SameFiles c.args.files.now like = record { first = refl; earlier = c.reserve.ensures.items; active = refl; writer = refl; recycled = refl } in
    fails_either c.rotate_into_new.result (g.G.PipeFormat.file_paths c.args.layout.now) c.args.new_files.now.format c.args.files.now like c.rotate_into_new.new.files (D c.args.file_system.now) (D c.rotate_into_new.new.file_system) same c.rotate_into_new.ensures.refusal

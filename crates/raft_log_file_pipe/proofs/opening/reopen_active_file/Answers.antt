use Rattle.std.proofs.Common.{◌≡◌, ◌∙◌, ap, refl}
use Rattle.raft_log_file_format.specs.Header.{header_bytes}
use Rattle.raft_log_file_pipe.specs.declared.pipe_files.PipeFiles.{PipeFiles}
use Rattle.raft_log_file_pipe.specs.Opening.{IsListedAs, taken_up, first_number}
use Rattle.raft_log_file_pipe.specs.Files.{Listed}
use Rattle.raft_log_file_pipe.proofs.TakingUp.{takes_up_as, fails_to_take_up_as}
use Rattle.raft_log_file_pipe.proofs.Doing.{reopens_by}
use Rattle.raft_log_file_pipe.proofs.opening.reopen_active_file.Goals as goal

pub returns-in-Ok-clause-ok : goal.returns-in-Ok-clause-ok
returns-in-Ok-clause-ok g c =
    let D = g.F.FileSystem.disk in
    let layout = c.args.layout.now in
    let active = c.take_last-active.result in
    let files : PipeFiles = record { first_seq = c.first_seq.result; earlier = c.args.earlier; active = active; writer = c.in-Ok.writer; recycled = c.args.recycled } in
    let is = c.take_last-active.ensures in
    let listed : IsListedAs c.args.earlier.items (taken_up c.args.end c.args.last) c.args.recycled.items files =
    record { first = c.first_seq.ensures ∙ ap (λ (f : Listed). first_number c.args.earlier.items f) is; before = refl; active = is; spares = refl } in
    let spelled : c.deref.result.now ≡ header_bytes active.format = c.deref.ensures.value ∙ c.in_ok-header.ensures.ok.1 in
    takes_up_as (g.G.PipeFormat.format layout) (g.G.PipeFormat.own layout) (g.G.PipeFormat.file_paths layout) (g.met.G.PipeFormat.lawful layout) c.args.earlier.items c.args.last active c.args.end c.args.recycled.items c.deref.result.now files
    (D c.args.file_system.now) (D c.reopen_file.new.file_system) (g.met.F.FileSystem.sound c.args.file_system.now) is c.in_ok-header.ensures.ok.0 spelled listed c.in-Ok.ensures.ok c.in-Ok.ensures.others c.in-Ok.ensures.calls

pub returns-in-Err-clause-err : goal.returns-in-Err-clause-err
returns-in-Err-clause-err g c =
    let D = g.F.FileSystem.disk in
    let layout = c.args.layout.now in
    let active = c.take_last-active.result in
    let spelled : c.deref.result.now ≡ header_bytes active.format = c.deref.ensures.value ∙ c.in_ok-header.ensures.ok.1 in
    fails_to_take_up_as (g.G.PipeFormat.format layout) (g.G.PipeFormat.own layout) (g.G.PipeFormat.file_paths layout) (g.met.G.PipeFormat.lawful layout) c.args.earlier.items c.args.last active c.args.end c.args.recycled.items c.deref.result.now
    c.in-Err.kind (D c.args.file_system.now) (D c.reopen_file.new.file_system) c.take_last-active.ensures c.in_ok-header.ensures.ok.0 spelled c.in-Err.ensures.err c.in-Err.ensures.others c.in-Err.ensures.refusal

pub returns-in-Ok-clause-calls : goal.returns-in-Ok-clause-calls
returns-in-Ok-clause-calls g c =
    let D = g.F.FileSystem.disk in
    let spelled : c.deref.result.now ≡ header_bytes c.take_last-active.result.format = c.deref.ensures.value ∙ c.in_ok-header.ensures.ok.1 in
    reopens_by c.args.end c.args.last c.take_last-active.result c.deref.result.now c.in-Ok.writer (D c.args.file_system.now) (D c.reopen_file.new.file_system) c.take_last-active.ensures spelled c.in-Ok.ensures.calls

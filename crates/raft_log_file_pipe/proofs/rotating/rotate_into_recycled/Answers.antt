use Rattle.std.proofs.Common.{rules, ◌∙◌, refl, sym, subst, false}
use Rattle.std.proofs.lemmas.Result.{err_from_is_err_and}
use Rattle.raft_log_file_format.specs.Header.{header_bytes}
use Rattle.raft_log_fs.specs.Calls.{Renames}
use Rattle.raft_log_file_writer.specs.declared.writer.LogFileWriter.{LogFileWriter}
use Rattle.raft_log_active_file.specs.Rotation.{RotatesBy, RotatesOver}
use Rattle.raft_log_file_pipe.specs.Files.{Listed}
use Rattle.raft_log_file_pipe.specs.Exits.{RotationLeaves}
use Rattle.raft_log_file_pipe.proofs.Turning.{IsNext, IsTurnedTo, closed_leaves, over_refused, over_done}
use Rattle.raft_log_file_pipe.specs.Doing.{FailsToTurnBy}
use Rattle.raft_log_file_pipe.proofs.Doing.{closed_not, over_not, turns_over, unnamed_not}
use Rattle.raft_log_file_pipe.proofs.rotating.rotate_into_recycled.Goals as goal

pub returns-in_err-handle-clause-err : goal.returns-in_err-handle-clause-err
returns-in_err-handle-clause-err g c =
    let d = g.F.FileSystem.disk c.args.file_system.now in
    let p = err_from_is_err_and c.from_residual-in_err-handle.result c.from_residual-in_err-handle.ensures.1 in
    let left : RotationLeaves (g.G.PipeFormat.format c.args.layout.now) (g.G.PipeFormat.own c.args.layout.now) (g.G.PipeFormat.file_paths c.args.layout.now) (header_bytes c.args.new_files.now.format) c.args.files.now c.args.files.now c.in_err-handle.field-0.0 d d =
    closed_leaves (g.G.PipeFormat.format c.args.layout.now) (g.G.PipeFormat.own c.args.layout.now) (g.G.PipeFormat.file_paths c.args.layout.now) (g.met.G.PipeFormat.lawful c.args.layout.now) d c.args.files.now c.args.kept c.deref.result.now
    (header_bytes c.args.new_files.now.format) c.in_err-handle.field-0.0 (c.deref.ensures ∙ c.in_ok-from.ensures.ok) c.requires.oldest c.in_err-handle.ensures.err in
    rw (p.1, p.2) left

pub returns-in-Err-clause-err : goal.returns-in-Err-clause-err
returns-in-Err-clause-err g c =
    let D = g.F.FileSystem.disk in
    let next : Listed = record { seq = c.args.seq; handle = c.args.kept.handle; format = c.args.new_files.now.format; path_id = c.place_beside.result; reserved = false } in
    let is_next : IsNext next (header_bytes c.args.new_files.now.format) c.args.files.now = record { number = c.requires.number; listed = refl; small = c.in_ok-to.ensures.named; header_is = refl; unaligned = c.header-header.ensures.unaligned } in
    over_refused (g.G.PipeFormat.format c.args.layout.now) (g.G.PipeFormat.own c.args.layout.now) (g.G.PipeFormat.file_paths c.args.layout.now) (g.met.G.PipeFormat.lawful c.args.layout.now) (D c.args.file_system.now) (D c.rotate_over.new.file_system)
    c.args.files.now c.args.kept next c.deref-2.result.now c.deref-3.result.now (header_bytes c.args.new_files.now.format) c.header-header.result.now c.in_ok-handle.handle c.in-Err.kind (c.deref-2.ensures ∙ c.in_ok-from.ensures.ok) (c.deref-3.ensures ∙ c.in_ok-to.ensures.ok)
    c.header-header.ensures.bytes c.requires.oldest (search rules) is_next c.place_beside.ensures c.in-Err.ensures.err c.in-Err.ensures.refusal

pub returns-clause-ok : goal.returns-clause-ok
returns-clause-ok g c =
    let D = g.F.FileSystem.disk in
    let next : Listed = record { seq = c.args.seq; handle = c.in_ok-handle.handle; format = c.args.new_files.now.format; path_id = c.place_beside.result; reserved = false } in
    let is_next : IsNext next (header_bytes c.args.new_files.now.format) c.args.files.now = record { number = c.requires.number; listed = refl; small = c.in_ok-to.ensures.named; header_is = refl; unaligned = c.header-header.ensures.unaligned } in
    let turns : IsTurnedTo next c.args.files.now c.turn_to.new.self = record { first = c.turn_to.ensures.first; earlier = c.turn_to.ensures.earlier; active = c.turn_to.ensures.active; recycled = search rules } in
    over_done (g.G.PipeFormat.format c.args.layout.now) (g.G.PipeFormat.own c.args.layout.now) (g.G.PipeFormat.file_paths c.args.layout.now) (g.met.G.PipeFormat.lawful c.args.layout.now) (D c.args.file_system.now) (D c.rotate_over.new.file_system)
    c.args.files.now c.turn_to.new.self c.args.kept next c.deref-2.result.now c.deref-3.result.now (header_bytes c.args.new_files.now.format) c.header-header.result.now c.in_ok-handle.handle (g.met.F.FileSystem.sound c.args.file_system.now)
    (g.met.F.FileSystem.sound c.rotate_over.new.file_system) (c.deref-2.ensures ∙ c.in_ok-from.ensures.ok) (c.deref-3.ensures ∙ c.in_ok-to.ensures.ok) c.header-header.ensures.bytes c.requires.oldest (search rules) is_next refl turns
    (subst (λ (w : LogFileWriter). RotatesOver (g.G.PipeFormat.format c.args.layout.now) (g.G.PipeFormat.own c.args.layout.now) c.header-header.result.now c.in_ok-handle.handle c.deref-2.result.now c.deref-3.result.now c.args.files.now.writer w
    (D c.args.file_system.now) (D c.rotate_over.new.file_system)) (sym c.turn_to.ensures.writer) c.in_default.ensures.ok) c.in_default.ensures.files
    (subst (λ (w : LogFileWriter). RotatesBy c.args.files.now.writer c.header-header.result.now (λ named. Renames c.deref-2.result.now c.deref-3.result.now) c.in_ok-handle.handle w (D c.args.file_system.now) (D c.rotate_over.new.file_system))
    (sym c.turn_to.ensures.writer) c.in_default.ensures.calls)

pub returns-in_err-from-clause-refusal : goal.returns-in_err-from-clause-refusal
returns-in_err-from-clause-refusal g c =
    let d = g.F.FileSystem.disk c.args.file_system.now in
    let p = err_from_is_err_and c.from_residual-in_err-from.result c.from_residual-in_err-from.ensures.1 in
    let left : FailsToTurnBy (g.G.PipeFormat.file_paths c.args.layout.now) c.args.new_files.now.format c.args.files.now c.args.files.now c.in_err-from.field-0.0 d d =
    unnamed_not (g.G.PipeFormat.file_paths c.args.layout.now) d c.args.files.now c.args.kept c.args.new_files.now.format c.in_err-from.field-0.0 c.requires.oldest c.in_err-from.ensures.err in
    rw (p.1, p.2) left

pub returns-in_err-handle-clause-refusal : goal.returns-in_err-handle-clause-refusal
returns-in_err-handle-clause-refusal g c =
    let d = g.F.FileSystem.disk c.args.file_system.now in
    let p = err_from_is_err_and c.from_residual-in_err-handle.result c.from_residual-in_err-handle.ensures.1 in
    let left : FailsToTurnBy (g.G.PipeFormat.file_paths c.args.layout.now) c.args.new_files.now.format c.args.files.now c.args.files.now c.in_err-handle.field-0.0 d d =
    closed_not (g.G.PipeFormat.file_paths c.args.layout.now) d c.args.files.now c.args.kept c.deref.result.now c.args.new_files.now.format c.in_err-handle.field-0.0 (c.deref.ensures ∙ c.in_ok-from.ensures.ok) c.requires.oldest c.in_err-handle.ensures.err in
    rw (p.1, p.2) left

pub returns-in-Err-clause-refusal : goal.returns-in-Err-clause-refusal
returns-in-Err-clause-refusal g c =
    let D = g.F.FileSystem.disk in
    let next : Listed = record { seq = c.args.seq; handle = c.args.kept.handle; format = c.args.new_files.now.format; path_id = c.place_beside.result; reserved = false } in (
      record { first = refl; earlier = refl; active = refl; recycled = refl },
      over_not (g.G.PipeFormat.file_paths c.args.layout.now) (D c.args.file_system.now) (D c.rotate_over.new.file_system) c.args.files.now c.args.kept next c.deref-2.result.now c.deref-3.result.now c.header-header.result.now c.args.new_files.now.format
          c.in-Err.kind (c.deref-2.ensures ∙ c.in_ok-from.ensures.ok) (c.deref-3.ensures ∙ c.in_ok-to.ensures.ok) c.header-header.ensures.bytes c.requires.oldest c.requires.number refl c.place_beside.ensures c.in-Err.ensures.refusal,
    )

pub returns-clause-calls : goal.returns-clause-calls
returns-clause-calls g c =
    let D = g.F.FileSystem.disk in
    let next : Listed = record { seq = c.args.seq; handle = c.in_ok-handle.handle; format = c.args.new_files.now.format; path_id = c.place_beside.result; reserved = false } in
    let turns : IsTurnedTo next c.args.files.now c.turn_to.new.self = record { first = c.turn_to.ensures.first; earlier = c.turn_to.ensures.earlier; active = c.turn_to.ensures.active; recycled = search rules } in
    turns_over (g.G.PipeFormat.file_paths c.args.layout.now) (D c.args.file_system.now) (D c.rotate_over.new.file_system) c.args.files.now c.turn_to.new.self c.args.kept next c.deref-2.result.now c.deref-3.result.now c.header-header.result.now
    c.args.new_files.now.format c.in_ok-handle.handle (c.deref-2.ensures ∙ c.in_ok-from.ensures.ok) (c.deref-3.ensures ∙ c.in_ok-to.ensures.ok) c.header-header.ensures.bytes c.requires.oldest (search rules) c.requires.number refl refl refl turns
    (subst (λ (w : LogFileWriter). RotatesBy c.args.files.now.writer c.header-header.result.now (λ named. Renames c.deref-2.result.now c.deref-3.result.now) c.in_ok-handle.handle w (D c.args.file_system.now) (D c.rotate_over.new.file_system))
    (sym c.turn_to.ensures.writer) c.in_default.ensures.calls)

use Rattle.std.proofs.Common.{rules, ℕ, List, ◌∙◌, refl, sym, subst, false}
use Rattle.raft_log_fs.specs.Calls.{Creates}
use Rattle.raft_log_file_writer.specs.declared.writer.LogFileWriter.{LogFileWriter}
use Rattle.raft_log_active_file.specs.Rotation.{RotatesBy, RotatesToNew}
use Rattle.raft_log_file_format.specs.Header.{header_bytes}
use Rattle.raft_log_file_pipe.specs.Files.{Listed}
use Rattle.raft_log_file_pipe.specs.Placing.{IsChosen, TellsAfterCut, TellsFreed, directory_at}
use Rattle.raft_log_file_pipe.proofs.Turning.{IsNext, IsTurnedTo, new_refused, new_done}
use Rattle.raft_log_file_pipe.proofs.Doing.{new_not, turns_new}
use Rattle.raft_log_file_pipe.proofs.rotating.rotate_into_new.Goals as goal

pub returns-clause-err : goal.returns-clause-err
returns-clause-err g c =
    let D = g.F.FileSystem.disk in
    let next : Listed = record { seq = c.args.seq; handle = c.args.files.now.active.handle; format = c.args.new_files.now.format; path_id = c.in_ok-path_id.path_id; reserved = false } in
    let is_next : IsNext next (header_bytes c.args.new_files.now.format) c.args.files.now = record { number = c.requires.number; listed = refl; small = c.in_ok-path.ensures.named; header_is = refl; unaligned = c.header-header.ensures.unaligned } in
    new_refused (g.G.PipeFormat.format c.args.layout.now) (g.G.PipeFormat.own c.args.layout.now) (g.G.PipeFormat.file_paths c.args.layout.now) (g.met.G.PipeFormat.lawful c.args.layout.now) (D c.args.file_system.now) (D c.rotate_to_new.new.file_system)
    c.args.files.now next c.deref.result.now (header_bytes c.args.new_files.now.format) c.header-header.result.now c.in-Err.kind (c.deref.ensures ∙ c.in_ok-path.ensures.ok) c.header-header.ensures.bytes c.requires.none is_next c.in-Err.ensures.err
    c.in-Err.ensures.refusal

pub returns-in-Ok-clause-ok : goal.returns-in-Ok-clause-ok
returns-in-Ok-clause-ok g c =
    let D = g.F.FileSystem.disk in
    let next : Listed = record { seq = c.args.seq; handle = c.in-Ok.handle; format = c.args.new_files.now.format; path_id = c.in_ok-path_id.path_id; reserved = false } in
    let is_next : IsNext next (header_bytes c.args.new_files.now.format) c.args.files.now = record { number = c.requires.number; listed = refl; small = c.in_ok-path.ensures.named; header_is = refl; unaligned = c.header-header.ensures.unaligned } in
    let turns : IsTurnedTo next c.args.files.now c.turn_to.new.self = record { first = c.turn_to.ensures.first; earlier = c.turn_to.ensures.earlier; active = c.turn_to.ensures.active; recycled = search rules } in
    new_done (g.G.PipeFormat.format c.args.layout.now) (g.G.PipeFormat.own c.args.layout.now) (g.G.PipeFormat.file_paths c.args.layout.now) (g.met.G.PipeFormat.lawful c.args.layout.now) (D c.args.file_system.now) (D c.rotate_to_new.new.file_system)
    c.args.files.now c.turn_to.new.self next c.deref.result.now (header_bytes c.args.new_files.now.format) c.header-header.result.now c.in-Ok.handle (g.met.F.FileSystem.sound c.args.file_system.now)
    (g.met.F.FileSystem.sound c.rotate_to_new.new.file_system) (c.deref.ensures ∙ c.in_ok-path.ensures.ok) c.header-header.ensures.bytes c.requires.none is_next refl turns
    (subst (λ (w : LogFileWriter). RotatesToNew (g.G.PipeFormat.format c.args.layout.now) (g.G.PipeFormat.own c.args.layout.now) c.header-header.result.now c.deref.result.now c.args.files.now.writer w c.in-Ok.handle
    (D c.args.file_system.now) (D c.rotate_to_new.new.file_system)) (sym c.turn_to.ensures.writer) c.in-Ok.ensures.ok) c.in-Ok.ensures.files
    (subst (λ (w : LogFileWriter). RotatesBy c.args.files.now.writer c.header-header.result.now (λ made. Creates c.deref.result.now made.file) c.in-Ok.handle w (D c.args.file_system.now) (D c.rotate_to_new.new.file_system))
    (sym c.turn_to.ensures.writer) c.in-Ok.ensures.calls)

pub returns-in-Ok-clause-placed : goal.returns-in-Ok-clause-placed
returns-in-Ok-clause-placed g c =
    let tells = g.F.FileSystem.tells_space c.args.file_system.now in
    let d = g.F.FileSystem.disk c.args.file_system.now in
    let directories = (g.G.PipeFormat.file_paths c.args.layout.now).directories in
    let size = c.args.new_files.now.target_size in
    let files = c.args.files.now in
    let freed = c.freed_by_cut-freed.result in
    let here : IsChosen (TellsFreed tells (directory_at directories files.active.path_id) freed.bytes) d size directories c.in_ok-path_id.path_id =
    subst (λ (own : List ℕ). IsChosen (TellsFreed tells own freed.bytes) d size directories c.in_ok-path_id.path_id) c.freed_by_cut-freed.ensures.directory c.in_ok-path_id.ensures.ok in
    let chosen : IsChosen (TellsAfterCut tells d directories files) d size directories c.in_ok-path_id.path_id =
    subst (λ (n : ℕ). IsChosen (TellsFreed tells (directory_at directories files.active.path_id) n) d size directories c.in_ok-path_id.path_id) c.freed_by_cut-freed.ensures.bytes here in
    subst (λ (f : Listed). IsChosen (TellsAfterCut tells d directories files) d size directories f.path_id) (sym c.turn_to.ensures.active) chosen

pub returns-clause-refusal : goal.returns-clause-refusal
returns-clause-refusal g c =
    let D = g.F.FileSystem.disk in
    let next : Listed = record { seq = c.args.seq; handle = c.args.files.now.active.handle; format = c.args.new_files.now.format; path_id = c.in_ok-path_id.path_id; reserved = false } in (
      record { first = refl; earlier = refl; active = refl; recycled = refl },
      new_not (g.G.PipeFormat.file_paths c.args.layout.now) (D c.args.file_system.now) (D c.rotate_to_new.new.file_system) c.args.files.now next c.deref.result.now c.header-header.result.now c.args.new_files.now.format c.in-Err.kind
          (c.deref.ensures ∙ c.in_ok-path.ensures.ok) c.header-header.ensures.bytes c.requires.none c.requires.number refl c.in-Err.ensures.refusal,
    )

pub returns-in-Ok-clause-calls : goal.returns-in-Ok-clause-calls
returns-in-Ok-clause-calls g c =
    let D = g.F.FileSystem.disk in
    let next : Listed = record { seq = c.args.seq; handle = c.in-Ok.handle; format = c.args.new_files.now.format; path_id = c.in_ok-path_id.path_id; reserved = false } in
    let turns : IsTurnedTo next c.args.files.now c.turn_to.new.self = record { first = c.turn_to.ensures.first; earlier = c.turn_to.ensures.earlier; active = c.turn_to.ensures.active; recycled = search rules } in
    turns_new (g.G.PipeFormat.file_paths c.args.layout.now) (D c.args.file_system.now) (D c.rotate_to_new.new.file_system) c.args.files.now c.turn_to.new.self next c.deref.result.now c.header-header.result.now c.args.new_files.now.format c.in-Ok.handle
    (c.deref.ensures ∙ c.in_ok-path.ensures.ok) c.header-header.ensures.bytes c.requires.none c.requires.number refl refl refl turns
    (subst (λ (w : LogFileWriter). RotatesBy c.args.files.now.writer c.header-header.result.now (λ made. Creates c.deref.result.now made.file) c.in-Ok.handle w (D c.args.file_system.now) (D c.rotate_to_new.new.file_system))
    (sym c.turn_to.ensures.writer) c.in-Ok.ensures.calls)

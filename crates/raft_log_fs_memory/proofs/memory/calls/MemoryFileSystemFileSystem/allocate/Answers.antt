use Rattle.std.proofs.Common.{◌∙◌, ◌+◌}
use Rattle.std.proofs.lemmas.Result.{err_from_is_err_and}
use Rattle.raft_log_fs.specs.Disk.{GrewTo}
use Rattle.raft_log_fs.specs.Calls.{after_change}
use Rattle.raft_log_fs.specs.Arguments.{WrongWriter}
use Rattle.raft_log_fs_state.specs.Storage.{contents_of}
use Rattle.raft_log_fs_memory.specs.Memory.{disk_of}
use Rattle.raft_log_fs_memory.proofs.Turns.{over, refused, any_refusal, change_order, change_cause, call_turn}
use Rattle.raft_log_fs_memory.proofs.Calls.{refused_piece, made_or_not, change_ok, change_err, right_writer, no_writer}
use Rattle.raft_log_fs_memory.proofs.Space.{room_told, space_had, space_found}
use Rattle.raft_log_fs_memory.proofs.memory.calls.MemoryFileSystemFileSystem.allocate.Goals as goal

pub returns-in_err-check_writer-clause-cause : goal.returns-in_err-check_writer-clause-cause
returns-in_err-check_writer-clause-cause c =
    let same = err_from_is_err_and c.from_residual.result c.from_residual.ensures.1 in
    rw (same.1, same.2) (no_writer c.args.handle (GrewTo (c.args.offset + c.args.size)) _ c.args.self.now c.in_err-check_writer.ensures.err)

pub returns-in_err-stops-clause-err : goal.returns-in_err-stops-clause-err
returns-in_err-stops-clause-err c =
    let old = disk_of c.args.self.now in
    let checked = c.in_ok-check_writer.ensures.ok in
    let same = err_from_is_err_and c.from_residual-in_err-stops.result c.from_residual-in_err-stops.ensures.1 in
    rw (same.1, same.2) (refused_piece old (disk_of c.begin_change.new.self) checked.0 (right_writer c.args.handle old checked.1 checked.2)
    (refused c.in_err-stops.ensures.err))

pub returns-in_err-stops-clause-cause : goal.returns-in_err-stops-clause-cause
returns-in_err-stops-clause-cause c =
    let checked = c.in_ok-check_writer.ensures.ok in
    let same = err_from_is_err_and c.from_residual-in_err-stops.result c.from_residual-in_err-stops.ensures.1 in
    rw (same.1, same.2) (any_refusal
    (record { runs = checked.0; right = right_writer c.args.handle (disk_of c.args.self.now) checked.1 checked.2; next = c.begin_change.ensures.next })
    c.begin_change.ensures.storage c.in_err-stops.ensures.err)

pub returns-clause-ok : goal.returns-clause-ok
returns-clause-ok c =
    let old = disk_of c.args.self.now in
    let checked = c.in_ok-check_writer.ensures.ok in
    change_ok c.args.handle.file (after_change (GrewTo (c.args.offset + c.args.size))) c.grow-done.result c.in_ok-stops.stops old (over c.begin_change.new.self (contents_of c.grow-done.new.self)) (disk_of c.end_change.new.self) c.end_change.result
    (made_or_not c.args.handle.file (GrewTo (c.args.offset + c.args.size)) c.grow-done.result c.begin_change.new.self c.grow-done.new.self old c.in_ok-stops.ensures.ok c.grow-done.ensures.ok c.grow-done.ensures.err checked.0 checked.1)
    c.end_change.ensures.ok

pub returns-clause-err : goal.returns-clause-err
returns-clause-err c =
    let old = disk_of c.args.self.now in
    let checked = c.in_ok-check_writer.ensures.ok in
    change_err c.args.handle.file (GrewTo (c.args.offset + c.args.size)) (WrongWriter c.args.handle old) c.grow-done.result c.in_ok-stops.stops old (over c.begin_change.new.self (contents_of c.grow-done.new.self)) (disk_of c.end_change.new.self) c.end_change.result
    checked.0 (right_writer c.args.handle old checked.1 checked.2)
    (made_or_not c.args.handle.file (GrewTo (c.args.offset + c.args.size)) c.grow-done.result c.begin_change.new.self c.grow-done.new.self old c.in_ok-stops.ensures.ok c.grow-done.ensures.ok c.grow-done.ensures.err checked.0 checked.1)
    c.end_change.ensures.err

pub returns-clause-order : goal.returns-clause-order
returns-clause-order c =
    change_order c.args.handle.file (GrewTo (c.args.offset + c.args.size)) c.grow-done.result c.in_ok-stops.stops (over c.begin_change.new.self (contents_of c.grow-done.new.self)) c.args.self.now c.begin_change.new.self c.end_change.new.self c.grow-done.new.self c.end_change.result
    c.begin_change.ensures.storage c.grow-done.ensures.ok c.end_change.ensures.storage c.end_change.ensures.ok

pub returns-clause-turn : goal.returns-clause-turn
returns-clause-turn c =
    call_turn c.end_change.result c.in_ok-stops.stops c.grow-done.result (over c.begin_change.new.self (contents_of c.grow-done.new.self)) c.args.self.now c.end_change.new.self (c.end_change.ensures.same ∙ c.begin_change.ensures.next)
    c.in_ok-stops.ensures.spared c.end_change.ensures.ok

pub returns-clause-cause : goal.returns-clause-cause
returns-clause-cause c =
    let old = disk_of c.args.self.now in
    let checked = c.in_ok-check_writer.ensures.ok in
    change_cause c.args.handle.file (GrewTo (c.args.offset + c.args.size)) c.grow-done.result c.in_ok-stops.stops (over c.begin_change.new.self (contents_of c.grow-done.new.self)) c.args.self.now c.begin_change.new.self c.end_change.new.self
    c.grow-done.new.self c.end_change.result
    (record { runs = checked.0; right = right_writer c.args.handle old checked.1 checked.2; next = c.end_change.ensures.same ∙ c.begin_change.ensures.next })
    c.in_ok-stops.ensures.stops c.in_ok-stops.ensures.spared
    (made_or_not c.args.handle.file (GrewTo (c.args.offset + c.args.size)) c.grow-done.result c.begin_change.new.self c.grow-done.new.self old c.in_ok-stops.ensures.ok c.grow-done.ensures.ok c.grow-done.ensures.err checked.0 checked.1)
    c.begin_change.ensures.storage c.grow-done.ensures.ok c.grow-done.ensures.err c.end_change.ensures.storage
    (space_had c.grow-done.result c.free_for-free.result c.args.handle.file (GrewTo (c.args.offset + c.args.size)) c.args.self.now c.begin_change.new.self c.free_for-free.ensures c.begin_change.ensures.storage c.grow-done.ensures.fits)
    (room_told c.grow-done.result c.free_for-free.result c.args.handle.file (GrewTo (c.args.offset + c.args.size)) c.args.self.now c.begin_change.new.self c.free_for-free.ensures c.begin_change.ensures.storage c.grow-done.ensures.errors)
    c.end_change.ensures.err

pub returns-clause-space : goal.returns-clause-space
returns-clause-space c =
    space_found c.end_change.result c.grow-done.result c.in_ok-stops.stops c.args.handle.file (GrewTo (c.args.offset + c.args.size)) c.args.self.now
    (over c.begin_change.new.self (contents_of c.grow-done.new.self)) (disk_of c.end_change.new.self)
    (space_had c.grow-done.result c.free_for-free.result c.args.handle.file (GrewTo (c.args.offset + c.args.size)) c.args.self.now c.begin_change.new.self c.free_for-free.ensures c.begin_change.ensures.storage c.grow-done.ensures.fits)
    c.end_change.ensures.ok

use Rattle.std.proofs.Common.{rules, ◌∙◌, ◌≡◌, ℕ, Option, None, subst}
use Rattle.std.specs.Option.{IfSome}
use Rattle.raft_log_fs_memory.specs.Turns.{armed, PartFalls}
use Rattle.std.proofs.lemmas.Result.{err_from_is_err_and}
use Rattle.raft_log_fs.specs.Disk.{Wrote}
use Rattle.raft_log_fs.specs.Calls.{after_change}
use Rattle.raft_log_fs.specs.Arguments.{WrongWriter}
use Rattle.raft_log_fs_state.specs.Storage.{contents_of}
use Rattle.raft_log_fs_memory.specs.Memory.{disk_of}
use Rattle.raft_log_fs_memory.proofs.Turns.{over, counted_or_stop, other_stops, refusal, part_cause, change_order, change_cause, call_turn}
use Rattle.raft_log_fs_memory.proofs.Calls.{refused_piece, front_or_not, part_err, made_or_not, change_ok, change_err, right_writer, no_writer}
use Rattle.raft_log_fs_memory.proofs.Space.{room_told, space_had, space_found}
use Rattle.raft_log_fs_memory.proofs.memory.calls.MemoryFileSystemFileSystem.write_at.Goals as goal

pub returns-in_err-check_writer-clause-cause : goal.returns-in_err-check_writer-clause-cause
returns-in_err-check_writer-clause-cause c =
    let same = err_from_is_err_and c.from_residual.result c.from_residual.ensures.1 in
    rw (same.1, same.2) (no_writer c.args.handle (Wrote c.args.offset c.args.bytes.now) _ c.args.self.now c.in_err-check_writer.ensures.err)

pub returns-in_err-stops-clause-err : goal.returns-in_err-stops-clause-err
returns-in_err-stops-clause-err c =
    let old = disk_of c.args.self.now in
    let checked = c.in_ok-check_writer.ensures.ok in
    let same = err_from_is_err_and c.from_residual-in_err-stops.result c.from_residual-in_err-stops.ensures.1 in
    rw (same.1, same.2) (refused_piece old (disk_of c.begin_write.new.self) checked.0 (right_writer c.args.handle old checked.1 checked.2)
    (counted_or_stop old (disk_of c.begin_write.new.self) c.in_err-stops.ensures.err.left (λ full. other_stops _ c.in_err-stops.ensures.err.kind)))

pub returns-in_err-stops-clause-cause : goal.returns-in_err-stops-clause-cause
returns-in_err-stops-clause-cause c =
    let checked = c.in_ok-check_writer.ensures.ok in
    let same = err_from_is_err_and c.from_residual-in_err-stops.result c.from_residual-in_err-stops.ensures.1 in
    rw (same.1, same.2) (refusal
    (record { runs = checked.0; right = right_writer c.args.handle (disk_of c.args.self.now) checked.1 checked.2; next = c.begin_write.ensures.next })
    c.begin_write.ensures.storage c.in_err-stops.ensures.err)

pub returns-clause-ok : goal.returns-clause-ok
returns-clause-ok c =
    let old = disk_of c.args.self.now in
    let checked = c.in_ok-check_writer.ensures.ok in
    change_ok c.args.handle.file (after_change (Wrote c.args.offset c.args.bytes.now)) c.write-done.result c.in_ok-stops.stops old (over c.begin_write.new.self (contents_of c.write-done.new.self)) (disk_of c.end_change.new.self) c.end_change.result
    (made_or_not c.args.handle.file (Wrote c.args.offset c.args.bytes.now) c.write-done.result c.begin_write.new.self c.write-done.new.self old c.in_ok-stops.ensures.ok c.write-done.ensures.ok c.write-done.ensures.err checked.0 checked.1)
    c.end_change.ensures.ok

pub returns-clause-err : goal.returns-clause-err
returns-clause-err c =
    let old = disk_of c.args.self.now in
    let checked = c.in_ok-check_writer.ensures.ok in
    change_err c.args.handle.file (Wrote c.args.offset c.args.bytes.now) (WrongWriter c.args.handle old) c.write-done.result c.in_ok-stops.stops old (over c.begin_write.new.self (contents_of c.write-done.new.self)) (disk_of c.end_change.new.self) c.end_change.result
    checked.0 (right_writer c.args.handle old checked.1 checked.2)
    (made_or_not c.args.handle.file (Wrote c.args.offset c.args.bytes.now) c.write-done.result c.begin_write.new.self c.write-done.new.self old c.in_ok-stops.ensures.ok c.write-done.ensures.ok c.write-done.ensures.err checked.0 checked.1)
    c.end_change.ensures.err

pub returns-clause-order : goal.returns-clause-order
returns-clause-order c =
    change_order c.args.handle.file (Wrote c.args.offset c.args.bytes.now) c.write-done.result c.in_ok-stops.stops (over c.begin_write.new.self (contents_of c.write-done.new.self)) c.args.self.now c.begin_write.new.self c.end_change.new.self c.write-done.new.self c.end_change.result
    c.begin_write.ensures.storage c.write-done.ensures.ok c.end_change.ensures.storage c.end_change.ensures.ok

pub returns-clause-turn : goal.returns-clause-turn
returns-clause-turn c =
    let none : c.in_ok-stops.front ≡ None = search rules in
    call_turn c.end_change.result c.in_ok-stops.stops c.write-done.result (over c.begin_write.new.self (contents_of c.write-done.new.self)) c.args.self.now c.end_change.new.self (c.end_change.ensures.same ∙ c.begin_write.ensures.next)
    (λ runs. c.in_ok-stops.ensures.spared runs none) c.end_change.ensures.ok

pub returns-clause-cause : goal.returns-clause-cause
returns-clause-cause c =
    let none : c.in_ok-stops.front ≡ None = search rules in
    let old = disk_of c.args.self.now in
    let checked = c.in_ok-check_writer.ensures.ok in
    change_cause c.args.handle.file (Wrote c.args.offset c.args.bytes.now) c.write-done.result c.in_ok-stops.stops (over c.begin_write.new.self (contents_of c.write-done.new.self)) c.args.self.now c.begin_write.new.self c.end_change.new.self
    c.write-done.new.self c.end_change.result
    (record { runs = checked.0; right = right_writer c.args.handle old checked.1 checked.2; next = c.end_change.ensures.same ∙ c.begin_write.ensures.next })
    c.in_ok-stops.ensures.stops (λ runs. c.in_ok-stops.ensures.spared runs none)
    (made_or_not c.args.handle.file (Wrote c.args.offset c.args.bytes.now) c.write-done.result c.begin_write.new.self c.write-done.new.self old c.in_ok-stops.ensures.ok c.write-done.ensures.ok c.write-done.ensures.err checked.0 checked.1)
    c.begin_write.ensures.storage c.write-done.ensures.ok c.write-done.ensures.err c.end_change.ensures.storage
    (space_had c.write-done.result c.free_for-free.result c.args.handle.file (Wrote c.args.offset c.args.bytes.now) c.args.self.now c.begin_write.new.self c.free_for-free.ensures c.begin_write.ensures.storage c.write-done.ensures.fits)
    (room_told c.write-done.result c.free_for-free.result c.args.handle.file (Wrote c.args.offset c.args.bytes.now) c.args.self.now c.begin_write.new.self c.free_for-free.ensures c.begin_write.ensures.storage c.write-done.ensures.errors)
    c.end_change.ensures.err

pub returns-in-Some-clause-err : goal.returns-in-Some-clause-err
returns-in-Some-clause-err c =
    let old = disk_of c.args.self.now in
    let checked = c.in_ok-check_writer.ensures.ok in
    part_err c.args.handle.file c.args.offset c.args.bytes.now c.in-Some.count c.write_front-done.result old (over c.begin_write.new.self (contents_of c.write_front-done.new.self)) (disk_of c.fail_in_part.new.self)
    checked.0 (right_writer c.args.handle old checked.1 checked.2)
    (front_or_not c.args.handle.file c.args.offset c.args.bytes.now c.in-Some.count c.write_front-done.result c.begin_write.new.self c.write_front-done.new.self old c.in_ok-stops.ensures.ok c.write_front-done.ensures.ok c.write_front-done.ensures.err checked.1)
    c.fail_in_part.ensures.kind c.fail_in_part.ensures.failed

pub returns-in-Some-clause-cause : goal.returns-in-Some-clause-cause
returns-in-Some-clause-cause c =
    let old = disk_of c.args.self.now in
    let checked = c.in_ok-check_writer.ensures.ok in
    let falls : PartFalls c.in-Some.count (armed c.args.self.now) =
    subst (λ (o : Option ℕ). IfSome o (λ count. PartFalls count (armed c.args.self.now))) c.in-Some.is c.in_ok-stops.ensures.front in
    part_cause c.args.handle.file c.args.offset c.args.bytes.now c.in-Some.count c.write_front-done.result c.args.self.now c.begin_write.new.self c.fail_in_part.new.self c.write_front-done.new.self
    (record { runs = checked.0; right = right_writer c.args.handle old checked.1 checked.2; next = c.fail_in_part.ensures.same ∙ c.begin_write.ensures.next })
    falls c.fail_in_part.ensures.kind
    (front_or_not c.args.handle.file c.args.offset c.args.bytes.now c.in-Some.count c.write_front-done.result c.begin_write.new.self c.write_front-done.new.self old c.in_ok-stops.ensures.ok c.write_front-done.ensures.ok c.write_front-done.ensures.err checked.1)
    c.begin_write.ensures.storage c.write_front-done.ensures.ok c.write_front-done.ensures.err
    (space_had c.write_front-done.result c.free_for-free.result c.args.handle.file (Wrote c.args.offset c.args.bytes.now) c.args.self.now c.begin_write.new.self c.free_for-free.ensures c.begin_write.ensures.storage c.write_front-done.ensures.fits)
    (room_told c.write_front-done.result c.free_for-free.result c.args.handle.file (Wrote c.args.offset c.args.bytes.now) c.args.self.now c.begin_write.new.self c.free_for-free.ensures c.begin_write.ensures.storage c.write_front-done.ensures.errors)
    c.fail_in_part.ensures.storage c.fail_in_part.ensures.failed

pub returns-clause-space : goal.returns-clause-space
returns-clause-space c =
    space_found c.end_change.result c.write-done.result c.in_ok-stops.stops c.args.handle.file (Wrote c.args.offset c.args.bytes.now) c.args.self.now
    (over c.begin_write.new.self (contents_of c.write-done.new.self)) (disk_of c.end_change.new.self)
    (space_had c.write-done.result c.free_for-free.result c.args.handle.file (Wrote c.args.offset c.args.bytes.now) c.args.self.now c.begin_write.new.self c.free_for-free.ensures c.begin_write.ensures.storage c.write-done.ensures.fits)
    c.end_change.ensures.ok

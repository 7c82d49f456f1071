use Rattle.std.proofs.Common.{◌∙◌, ◌≡◌, inl}
use Rattle.std.proofs.lemmas.Result.{err_from_is_err_and, IfErr-weaker}
use Rattle.std.specs.declared.io.ErrorKind.TheVariants.{OutOfMemory}
use Rattle.raft_log_fs.specs.Disk.{ShortenedTo}
use Rattle.raft_log_fs.specs.Calls.{after_change}
use Rattle.raft_log_fs.specs.Arguments.{WrongWriter}
use Rattle.raft_log_fs_state.specs.Storage.{contents_of}
use Rattle.raft_log_fs_memory.specs.Turns.{NoRoomFor}
use Rattle.raft_log_fs_memory.specs.Memory.{disk_of}
use Rattle.raft_log_fs_memory.proofs.Turns.{over, refused, any_refusal, change_order, change_cause, call_turn}
use Rattle.raft_log_fs_memory.proofs.Calls.{refused_piece, made_or_not, change_ok, change_err, right_writer, no_writer}
use Rattle.raft_log_fs_memory.proofs.Space.{space_to_shorten}
use Rattle.raft_log_fs_memory.proofs.memory.calls.MemoryFileSystemFileSystem.truncate.Goals as goal

pub returns-in_err-check_writer-clause-cause : goal.returns-in_err-check_writer-clause-cause
returns-in_err-check_writer-clause-cause c =
    let same = err_from_is_err_and c.from_residual.result c.from_residual.ensures.1 in
    rw (same.1, same.2) (no_writer c.args.handle (ShortenedTo c.args.size) _ c.args.self.now c.in_err-check_writer.ensures.err)

pub returns-in_err-stops-clause-err : goal.returns-in_err-stops-clause-err
returns-in_err-stops-clause-err c =
    let old = disk_of c.args.self.now in
    let checked = c.in_ok-check_writer.ensures.ok in
    let same = err_from_is_err_and c.from_residual-in_err-stops.result c.from_residual-in_err-stops.ensures.1 in
    rw (same.1, same.2) (refused_piece old (disk_of c.begin_change.new.self) checked.0 (right_writer c.args.handle old checked.1 checked.2)
    (refused c.in_err-stops.ensures.err))

pub returns-in_err-stops-clause-cause : goal.returns-in_err-stops-clause-cause
returns-in_err-stops-clause-cause c =
    let checked = c.in_ok-check_writer.ensures.ok in
    let same = err_from_is_err_and c.from_residual-in_err-stops.result c.from_residual-in_err-stops.ensures.1 in
    rw (same.1, same.2) (any_refusal
    (record { runs = checked.0; right = right_writer c.args.handle (disk_of c.args.self.now) checked.1 checked.2; next = c.begin_change.ensures.next })
    c.begin_change.ensures.storage c.in_err-stops.ensures.err)

pub returns-clause-ok : goal.returns-clause-ok
returns-clause-ok c =
    let old = disk_of c.args.self.now in
    let checked = c.in_ok-check_writer.ensures.ok in
    change_ok c.args.handle.file (after_change (ShortenedTo c.args.size)) c.shorten-done.result c.in_ok-stops.stops old (over c.begin_change.new.self (contents_of c.shorten-done.new.self)) (disk_of c.end_change.new.self) c.end_change.result
    (made_or_not c.args.handle.file (ShortenedTo c.args.size) c.shorten-done.result c.begin_change.new.self c.shorten-done.new.self old c.in_ok-stops.ensures.ok c.shorten-done.ensures.ok c.shorten-done.ensures.err checked.0 checked.1)
    c.end_change.ensures.ok

pub returns-clause-err : goal.returns-clause-err
returns-clause-err c =
    let old = disk_of c.args.self.now in
    let checked = c.in_ok-check_writer.ensures.ok in
    change_err c.args.handle.file (ShortenedTo c.args.size) (WrongWriter c.args.handle old) c.shorten-done.result c.in_ok-stops.stops old (over c.begin_change.new.self (contents_of c.shorten-done.new.self)) (disk_of c.end_change.new.self) c.end_change.result
    checked.0 (right_writer c.args.handle old checked.1 checked.2)
    (made_or_not c.args.handle.file (ShortenedTo c.args.size) c.shorten-done.result c.begin_change.new.self c.shorten-done.new.self old c.in_ok-stops.ensures.ok c.shorten-done.ensures.ok c.shorten-done.ensures.err checked.0 checked.1)
    c.end_change.ensures.err

pub returns-clause-order : goal.returns-clause-order
returns-clause-order c =
    change_order c.args.handle.file (ShortenedTo c.args.size) c.shorten-done.result c.in_ok-stops.stops (over c.begin_change.new.self (contents_of c.shorten-done.new.self)) c.args.self.now c.begin_change.new.self c.end_change.new.self c.shorten-done.new.self c.end_change.result
    c.begin_change.ensures.storage c.shorten-done.ensures.ok c.end_change.ensures.storage c.end_change.ensures.ok

pub returns-clause-turn : goal.returns-clause-turn
returns-clause-turn c =
    call_turn c.end_change.result c.in_ok-stops.stops c.shorten-done.result (over c.begin_change.new.self (contents_of c.shorten-done.new.self)) c.args.self.now c.end_change.new.self (c.end_change.ensures.same ∙ c.begin_change.ensures.next)
    c.in_ok-stops.ensures.spared c.end_change.ensures.ok

pub returns-clause-cause : goal.returns-clause-cause
returns-clause-cause c =
    let old = disk_of c.args.self.now in
    let checked = c.in_ok-check_writer.ensures.ok in
    change_cause c.args.handle.file (ShortenedTo c.args.size) c.shorten-done.result c.in_ok-stops.stops (over c.begin_change.new.self (contents_of c.shorten-done.new.self)) c.args.self.now c.begin_change.new.self c.end_change.new.self
    c.shorten-done.new.self c.end_change.result
    (record { runs = checked.0; right = right_writer c.args.handle old checked.1 checked.2; next = c.end_change.ensures.same ∙ c.begin_change.ensures.next })
    c.in_ok-stops.ensures.stops c.in_ok-stops.ensures.spared
    (made_or_not c.args.handle.file (ShortenedTo c.args.size) c.shorten-done.result c.begin_change.new.self c.shorten-done.new.self old c.in_ok-stops.ensures.ok c.shorten-done.ensures.ok c.shorten-done.ensures.err checked.0 checked.1)
    c.begin_change.ensures.storage c.shorten-done.ensures.ok c.shorten-done.ensures.err c.end_change.ensures.storage
    (space_to_shorten c.shorten-done.result c.args.handle.file c.args.size c.args.self.now)
    (IfErr-weaker c.shorten-done.result (λ e. e ≡ OutOfMemory) (NoRoomFor c.args.handle.file (ShortenedTo c.args.size) c.args.self.now) (λ e short. inl short) c.shorten-done.ensures.errors) c.end_change.ensures.err

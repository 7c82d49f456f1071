use Rattle.std.proofs.Common.{refl, ap, ◌≡◌, ◌∙◌}
use Rattle.std.specs.Result.{MatchResult}
use Rattle.std.proofs.lemmas.Result.{err_from_is_err_and}
use Rattle.raft_log_fs.specs.Calls.{flushed}
use Rattle.raft_log_fs.specs.Arguments.{WrongHandle}
use Rattle.raft_log_fs_state.specs.Order.{without_file}
use Rattle.raft_log_fs_state.specs.Steps.{IsSame, SyncsFile}
use Rattle.raft_log_fs_state.specs.declared.storage.Storage.{Storage}
use Rattle.raft_log_fs_state.specs.Storage.{contents_of, unsynced_of}
use Rattle.raft_log_fs_memory.specs.Memory.{disk_of, kept}
use Rattle.raft_log_fs_memory.specs.Answers.{SyncsAll, order_without}
use Rattle.raft_log_fs_state.proofs.Public.{err_then, ok_then}
use Rattle.raft_log_fs_memory.proofs.Turns.{over, fallen, fell, call_turn, call_order, call_cause}
use Rattle.raft_log_fs_memory.proofs.Calls.{refused_whole, call_ok, call_err, changed_or_not, right_handle}
use Rattle.raft_log_fs_memory.proofs.memory.calls.MemoryFileSystemFileSystem.sync.Goals as goal

pub returns-in_err-stops-clause-err : goal.returns-in_err-stops-clause-err
returns-in_err-stops-clause-err c =
    let old = disk_of c.args.self.now in
    let same = err_from_is_err_and c.from_residual-in_err-stops.result c.from_residual-in_err-stops.ensures.1 in
    rw (same.1, same.2) (refused_whole old old (disk_of c.begin.new.self) c.in_ok-check_handle.ensures.ok.0 (right_handle c.args.handle old c.in_ok-check_handle.ensures.ok.1) refl (fallen c.in_err-stops.ensures.err))

pub returns-in_err-stops-clause-cause : goal.returns-in_err-stops-clause-cause
returns-in_err-stops-clause-cause c =
    let old = disk_of c.args.self.now in
    let same = err_from_is_err_and c.from_residual-in_err-stops.result c.from_residual-in_err-stops.ensures.1 in
    rw (same.1, same.2) (fell (SyncsAll c.args.handle.file old) (order_without c.args.handle.file (kept c.args.self.now)) (record { runs = c.in_ok-check_handle.ensures.ok.0; right = right_handle c.args.handle old c.in_ok-check_handle.ensures.ok.1; next = c.begin.ensures.next }) c.begin.ensures.storage c.in_err-stops.ensures.err)

pub returns-clause-ok : goal.returns-clause-ok
returns-clause-ok c =
    let old = disk_of c.args.self.now in
    let after = c.flush-done.new.self in
    let mid = over c.begin.new.self (contents_of after) in
    let made : MatchResult c.flush-done.result (λ v. (SyncsAll c.args.handle.file old) mid) (λ e. mid ≡ old) =
    changed_or_not c.args.handle.file flushed c.flush-done.result c.begin.new.self after old c.in_ok-stops.ensures.ok
    (ok_then c.flush-done.result (λ (s : SyncsFile c.args.handle.file c.begin.new.self.storage after). s.contents) c.flush-done.ensures.ok)
    (err_then c.flush-done.result (λ (s : IsSame c.begin.new.self.storage after). s.contents) c.flush-done.ensures.err)
    c.in_ok-check_handle.ensures.ok.0 c.in_ok-check_handle.ensures.ok.1 in
    call_ok (SyncsAll c.args.handle.file old) c.flush-done.result c.in_ok-stops.stops old mid (disk_of c.end.new.self) c.end.result made c.end.ensures.ok

pub returns-clause-err : goal.returns-clause-err
returns-clause-err c =
    let old = disk_of c.args.self.now in
    let after = c.flush-done.new.self in
    let mid = over c.begin.new.self (contents_of after) in
    let made : MatchResult c.flush-done.result (λ v. (SyncsAll c.args.handle.file old) mid) (λ e. mid ≡ old) =
    changed_or_not c.args.handle.file flushed c.flush-done.result c.begin.new.self after old c.in_ok-stops.ensures.ok
    (ok_then c.flush-done.result (λ (s : SyncsFile c.args.handle.file c.begin.new.self.storage after). s.contents) c.flush-done.ensures.ok)
    (err_then c.flush-done.result (λ (s : IsSame c.begin.new.self.storage after). s.contents) c.flush-done.ensures.err)
    c.in_ok-check_handle.ensures.ok.0 c.in_ok-check_handle.ensures.ok.1 in
    call_err (SyncsAll c.args.handle.file old) (WrongHandle c.args.handle old) c.flush-done.result c.in_ok-stops.stops old mid (disk_of c.end.new.self) c.end.result
    c.in_ok-check_handle.ensures.ok.0 (right_handle c.args.handle old c.in_ok-check_handle.ensures.ok.1) made c.end.ensures.err

pub returns-clause-order : goal.returns-clause-order
returns-clause-order c =
    let old = disk_of c.args.self.now in
    let after = c.flush-done.new.self in
    let mid = over c.begin.new.self (contents_of after) in
    let made : MatchResult c.flush-done.result (λ v. (SyncsAll c.args.handle.file old) mid) (λ e. mid ≡ old) =
    changed_or_not c.args.handle.file flushed c.flush-done.result c.begin.new.self after old c.in_ok-stops.ensures.ok
    (ok_then c.flush-done.result (λ (s : SyncsFile c.args.handle.file c.begin.new.self.storage after). s.contents) c.flush-done.ensures.ok)
    (err_then c.flush-done.result (λ (s : IsSame c.begin.new.self.storage after). s.contents) c.flush-done.ensures.err)
    c.in_ok-check_handle.ensures.ok.0 c.in_ok-check_handle.ensures.ok.1 in
    call_order (order_without c.args.handle.file (kept c.args.self.now)) c.flush-done.result c.in_ok-stops.stops mid c.end.new.self after c.end.result (ok_then c.flush-done.result (λ (s : SyncsFile c.args.handle.file c.begin.new.self.storage after). s.order ∙ ap (λ (s : Storage). without_file c.args.handle.file (unsynced_of s)) c.begin.ensures.storage) c.flush-done.ensures.ok) c.end.ensures.storage c.end.ensures.ok

pub returns-clause-turn : goal.returns-clause-turn
returns-clause-turn c =
    call_turn c.end.result c.in_ok-stops.stops c.flush-done.result (over c.begin.new.self (contents_of c.flush-done.new.self)) c.args.self.now c.end.new.self (c.end.ensures.same ∙ c.begin.ensures.next)
    c.in_ok-stops.ensures.spared c.end.ensures.ok

pub returns-clause-cause : goal.returns-clause-cause
returns-clause-cause c =
    let old = disk_of c.args.self.now in
    let after = c.flush-done.new.self in
    let mid = over c.begin.new.self (contents_of after) in
    let made : MatchResult c.flush-done.result (λ v. (SyncsAll c.args.handle.file old) mid) (λ e. mid ≡ old) =
    changed_or_not c.args.handle.file flushed c.flush-done.result c.begin.new.self after old c.in_ok-stops.ensures.ok
    (ok_then c.flush-done.result (λ (s : SyncsFile c.args.handle.file c.begin.new.self.storage after). s.contents) c.flush-done.ensures.ok)
    (err_then c.flush-done.result (λ (s : IsSame c.begin.new.self.storage after). s.contents) c.flush-done.ensures.err)
    c.in_ok-check_handle.ensures.ok.0 c.in_ok-check_handle.ensures.ok.1 in
    call_cause (SyncsAll c.args.handle.file old) (order_without c.args.handle.file (kept c.args.self.now)) c.flush-done.result c.in_ok-stops.stops mid c.args.self.now c.begin.new.self c.end.new.self after c.end.result
    (record { runs = c.in_ok-check_handle.ensures.ok.0; right = right_handle c.args.handle old c.in_ok-check_handle.ensures.ok.1; next = c.end.ensures.same ∙ c.begin.ensures.next }) c.in_ok-stops.ensures.stops c.in_ok-stops.ensures.spared made
    c.begin.ensures.storage (ok_then c.flush-done.result (λ (s : SyncsFile c.args.handle.file c.begin.new.self.storage after). s.order ∙ ap (λ (s : Storage). without_file c.args.handle.file (unsynced_of s)) c.begin.ensures.storage) c.flush-done.ensures.ok) c.flush-done.ensures.err c.end.ensures.storage c.end.ensures.err

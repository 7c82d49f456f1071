use Rattle.std.proofs.Common.{rules, refl, sym, ap, subst, ◌≡◌, ◌∙◌, None, ℕ, Ok, Err}
use Rattle.std.specs.Result.{MatchResult}
use Rattle.std.proofs.lemmas.Result.{err_from_is_err_and}
use Rattle.raft_log_fs.specs.Disk.{HasDirectory}
use Rattle.raft_log_fs.specs.Calls.{Creates, created}
use Rattle.raft_log_fs.specs.Arguments.{WrongCreate}
use Rattle.raft_log_fs_state.specs.Steps.{IsSame, AddsName}
use Rattle.raft_log_fs_state.specs.Storage.{contents_of, unsynced_of, node_at, file_named, is_directory}
use Rattle.raft_log_fs_memory.specs.Memory.{disk_of, kept}
use Rattle.raft_log_fs_memory.specs.Answers.{CreatesNext, order_of}
use Rattle.raft_log_fs_state.proofs.Public.{err_then, ok_then}
use Rattle.raft_log_fs_memory.proofs.Turns.{over, fallen, fell, call_turn, call_order, call_cause}
use Rattle.raft_log_fs_memory.proofs.Calls.{refused_whole, call_ok, call_err, done_or_not, right_create}
use Rattle.raft_log_fs_memory.proofs.memory.calls.MemoryFileSystemFileSystem.create.Goals as goal

pub returns-in_err-stops-clause-err : goal.returns-in_err-stops-clause-err
returns-in_err-stops-clause-err c =
    let old = disk_of c.args.self.now in
    let free : node_at c.args.self.now.storage c.args.path.now ≡ None = search rules in
    let home : HasDirectory c.args.path.now old = search rules in
    let same = err_from_is_err_and c.from_residual-in_err-stops.result c.from_residual-in_err-stops.ensures.1 in
    rw (same.1, same.2) (refused_whole old old (disk_of c.begin.new.self) c.in_ok-check_runs.ensures.ok (right_create c.args.path.now old (ap file_named free) (ap is_directory free) home) refl (fallen c.in_err-stops.ensures.err))

pub returns-in_err-stops-clause-cause : goal.returns-in_err-stops-clause-cause
returns-in_err-stops-clause-cause c =
    let old = disk_of c.args.self.now in
    let free : node_at c.args.self.now.storage c.args.path.now ≡ None = search rules in
    let home : HasDirectory c.args.path.now old = search rules in
    let same = err_from_is_err_and c.from_residual-in_err-stops.result c.from_residual-in_err-stops.ensures.1 in
    rw (same.1, same.2) (fell (CreatesNext c.args.path.now old) (order_of (kept c.args.self.now)) (record { runs = c.in_ok-check_runs.ensures.ok; right = right_create c.args.path.now old (ap file_named free) (ap is_directory free) home; next = c.begin.ensures.next }) c.begin.ensures.storage c.in_err-stops.ensures.err)

pub returns-in_err-end-clause-err : goal.returns-in_err-end-clause-err
returns-in_err-end-clause-err c =
    let old = disk_of c.args.self.now in
    let free : node_at c.args.self.now.storage c.args.path.now ≡ None = search rules in
    let home : HasDirectory c.args.path.now old = search rules in
    let after = c.add_file-done.new.self in
    let mid = over c.begin.new.self (contents_of after) in
    let made : MatchResult c.add_file-done.result (λ v. (CreatesNext c.args.path.now old) mid) (λ e. mid ≡ old) =
    done_or_not (CreatesNext c.args.path.now old) (created c.args.path.now) c.add_file-done.result c.begin.new.self after old c.in_ok-stops.ensures.ok
    (λ now is. record { runs = c.in_ok-check_runs.ensures.ok; free = ap file_named free; apart = ap is_directory free; home = home; number = refl; done = is ∙ ap (created c.args.path.now) c.in_ok-stops.ensures.ok })
    (ok_then c.add_file-done.result (λ (s : AddsName (created c.args.path.now) c.begin.new.self.storage after). s.contents) c.add_file-done.ensures.ok)
    (err_then c.add_file-done.result (λ (s : IsSame c.begin.new.self.storage after). s.contents) c.add_file-done.ensures.err) in
    let same = err_from_is_err_and c.from_residual-in_err-end.result c.from_residual-in_err-end.ensures.1 in
    rw (same.1, same.2) (call_err {T = Unit {0}} (CreatesNext c.args.path.now old) (WrongCreate c.args.path.now old) c.add_file-done.result c.in_ok-stops.stops old mid (disk_of c.end.new.self) (Err _)
    c.in_ok-check_runs.ensures.ok (right_create c.args.path.now old (ap file_named free) (ap is_directory free) home) made c.in_err-end.ensures.err)

pub returns-in_err-end-clause-cause : goal.returns-in_err-end-clause-cause
returns-in_err-end-clause-cause c =
    let old = disk_of c.args.self.now in
    let free : node_at c.args.self.now.storage c.args.path.now ≡ None = search rules in
    let home : HasDirectory c.args.path.now old = search rules in
    let after = c.add_file-done.new.self in
    let mid = over c.begin.new.self (contents_of after) in
    let made : MatchResult c.add_file-done.result (λ v. (CreatesNext c.args.path.now old) mid) (λ e. mid ≡ old) =
    done_or_not (CreatesNext c.args.path.now old) (created c.args.path.now) c.add_file-done.result c.begin.new.self after old c.in_ok-stops.ensures.ok
    (λ now is. record { runs = c.in_ok-check_runs.ensures.ok; free = ap file_named free; apart = ap is_directory free; home = home; number = refl; done = is ∙ ap (created c.args.path.now) c.in_ok-stops.ensures.ok })
    (ok_then c.add_file-done.result (λ (s : AddsName (created c.args.path.now) c.begin.new.self.storage after). s.contents) c.add_file-done.ensures.ok)
    (err_then c.add_file-done.result (λ (s : IsSame c.begin.new.self.storage after). s.contents) c.add_file-done.ensures.err) in
    let same = err_from_is_err_and c.from_residual-in_err-end.result c.from_residual-in_err-end.ensures.1 in
    rw (same.1, same.2) (call_cause {T = Unit {0}} (CreatesNext c.args.path.now old) (order_of (kept c.args.self.now)) c.add_file-done.result c.in_ok-stops.stops mid c.args.self.now c.begin.new.self c.end.new.self after (Err _)
    (record { runs = c.in_ok-check_runs.ensures.ok; right = right_create c.args.path.now old (ap file_named free) (ap is_directory free) home; next = c.end.ensures.same ∙ c.begin.ensures.next }) c.in_ok-stops.ensures.stops c.in_ok-stops.ensures.spared made
    c.begin.ensures.storage (ok_then c.add_file-done.result (λ (s : AddsName (created c.args.path.now) c.begin.new.self.storage after). s.order ∙ ap unsynced_of c.begin.ensures.storage) c.add_file-done.ensures.ok) c.add_file-done.ensures.err c.end.ensures.storage c.in_err-end.ensures.err)

pub returns-clause-ok : goal.returns-clause-ok
returns-clause-ok c =
    let old = disk_of c.args.self.now in
    let free : node_at c.args.self.now.storage c.args.path.now ≡ None = search rules in
    let home : HasDirectory c.args.path.now old = search rules in
    let after = c.add_file-done.new.self in
    let mid = over c.begin.new.self (contents_of after) in
    let made : MatchResult c.add_file-done.result (λ v. (CreatesNext c.args.path.now old) mid) (λ e. mid ≡ old) =
    done_or_not (CreatesNext c.args.path.now old) (created c.args.path.now) c.add_file-done.result c.begin.new.self after old c.in_ok-stops.ensures.ok
    (λ now is. record { runs = c.in_ok-check_runs.ensures.ok; free = ap file_named free; apart = ap is_directory free; home = home; number = refl; done = is ∙ ap (created c.args.path.now) c.in_ok-stops.ensures.ok })
    (ok_then c.add_file-done.result (λ (s : AddsName (created c.args.path.now) c.begin.new.self.storage after). s.contents) c.add_file-done.ensures.ok)
    (err_then c.add_file-done.result (λ (s : IsSame c.begin.new.self.storage after). s.contents) c.add_file-done.ensures.err) in
    let number : c.len-file.result ≡ old.unused = search rules in
    subst (λ (id : ℕ). Creates c.args.path.now id old (disk_of c.end.new.self)) (sym number)
    (call_ok {T = Unit {0}} (CreatesNext c.args.path.now old) c.add_file-done.result c.in_ok-stops.stops old mid (disk_of c.end.new.self) (Ok tt) made c.in_ok-end.ensures.ok)

pub returns-clause-order : goal.returns-clause-order
returns-clause-order c =
    let old = disk_of c.args.self.now in
    let free : node_at c.args.self.now.storage c.args.path.now ≡ None = search rules in
    let home : HasDirectory c.args.path.now old = search rules in
    let after = c.add_file-done.new.self in
    let mid = over c.begin.new.self (contents_of after) in
    let made : MatchResult c.add_file-done.result (λ v. (CreatesNext c.args.path.now old) mid) (λ e. mid ≡ old) =
    done_or_not (CreatesNext c.args.path.now old) (created c.args.path.now) c.add_file-done.result c.begin.new.self after old c.in_ok-stops.ensures.ok
    (λ now is. record { runs = c.in_ok-check_runs.ensures.ok; free = ap file_named free; apart = ap is_directory free; home = home; number = refl; done = is ∙ ap (created c.args.path.now) c.in_ok-stops.ensures.ok })
    (ok_then c.add_file-done.result (λ (s : AddsName (created c.args.path.now) c.begin.new.self.storage after). s.contents) c.add_file-done.ensures.ok)
    (err_then c.add_file-done.result (λ (s : IsSame c.begin.new.self.storage after). s.contents) c.add_file-done.ensures.err) in
    call_order {T = Unit {0}} (order_of (kept c.args.self.now)) c.add_file-done.result c.in_ok-stops.stops mid c.end.new.self after (Ok tt) (ok_then c.add_file-done.result (λ (s : AddsName (created c.args.path.now) c.begin.new.self.storage after). s.order ∙ ap unsynced_of c.begin.ensures.storage) c.add_file-done.ensures.ok) c.end.ensures.storage c.in_ok-end.ensures.ok

pub returns-clause-turn : goal.returns-clause-turn
returns-clause-turn c =
    call_turn {T = Unit {0}} (Ok tt) c.in_ok-stops.stops c.add_file-done.result (over c.begin.new.self (contents_of c.add_file-done.new.self)) c.args.self.now c.end.new.self (c.end.ensures.same ∙ c.begin.ensures.next)
    c.in_ok-stops.ensures.spared c.in_ok-end.ensures.ok

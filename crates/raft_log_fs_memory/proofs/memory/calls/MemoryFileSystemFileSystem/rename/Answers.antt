use Rattle.std.proofs.Common.{rules, refl, sym, ap, ◌≡◌, ◌∙◌, Some, false, ℕ, Option}
use Rattle.std.specs.Result.{MatchResult}
use Rattle.std.proofs.lemmas.Result.{err_from_is_err_and}
use Rattle.raft_log_fs.specs.Disk.{HasDirectory}
use Rattle.raft_log_fs.specs.Calls.{Renames, renamed}
use Rattle.raft_log_fs.specs.Arguments.{WrongRename}
use Rattle.raft_log_fs_state.specs.Steps.{IsSame, MovesName, without_replaced}
use Rattle.raft_log_fs_state.specs.declared.storage.Node.TheVariants as node
use Rattle.raft_log_fs_state.specs.declared.storage.Storage.{Storage}
use Rattle.raft_log_fs_state.specs.Storage.{contents_of, unsynced_of, node_at, file_named, is_directory}
use Rattle.raft_log_fs_memory.specs.Memory.{disk_of, unsynced, kept, with_moved}
use Rattle.raft_log_fs_memory.specs.Answers.{order_without_replaced}
use Rattle.raft_log_fs_state.proofs.Public.{err_then, ok_then}
use Rattle.raft_log_fs_memory.proofs.Turns.{over, fallen, fell, call_turn, call_order, call_cause}
use Rattle.raft_log_fs_memory.proofs.Calls.{refused_whole, call_ok, call_err, done_or_not, right_rename}
use Rattle.raft_log_fs_memory.proofs.memory.calls.MemoryFileSystemFileSystem.rename.Goals as goal

pub returns-in_err-stops-clause-err : goal.returns-in_err-stops-clause-err
returns-in_err-stops-clause-err c =
    let old = disk_of c.args.self.now in
    let is : node_at c.args.self.now.storage c.args.from.now ≡ Some (node.File c.in-Some-File.id) = search rules in
    let apart : is_directory (node_at c.args.self.now.storage c.args.to.now) ≡ false = search rules in
    let home : HasDirectory c.args.to.now old = search rules in
    let same = err_from_is_err_and c.from_residual-in_err-stops.result c.from_residual-in_err-stops.ensures.1 in
    rw (same.1, same.2) (refused_whole old old (disk_of c.begin.new.self) c.in_ok-check_runs.ensures.ok (right_rename c.args.from.now c.args.to.now old c.in-Some-File.id (ap file_named is) apart home) refl (fallen c.in_err-stops.ensures.err))

pub returns-in_err-stops-clause-cause : goal.returns-in_err-stops-clause-cause
returns-in_err-stops-clause-cause c =
    let old = disk_of c.args.self.now in
    let is : node_at c.args.self.now.storage c.args.from.now ≡ Some (node.File c.in-Some-File.id) = search rules in
    let apart : is_directory (node_at c.args.self.now.storage c.args.to.now) ≡ false = search rules in
    let home : HasDirectory c.args.to.now old = search rules in
    let same = err_from_is_err_and c.from_residual-in_err-stops.result c.from_residual-in_err-stops.ensures.1 in
    rw (same.1, same.2) (fell (Renames c.args.from.now c.args.to.now old) (order_without_replaced c.args.from.now c.args.to.now (kept c.args.self.now)) (record { runs = c.in_ok-check_runs.ensures.ok; right = right_rename c.args.from.now c.args.to.now old c.in-Some-File.id (ap file_named is) apart home; next = c.begin.ensures.next }) c.begin.ensures.storage c.in_err-stops.ensures.err)

pub returns-clause-ok : goal.returns-clause-ok
returns-clause-ok c =
    let old = disk_of c.args.self.now in
    let is : node_at c.args.self.now.storage c.args.from.now ≡ Some (node.File c.in-Some-File.id) = search rules in
    let apart : is_directory (node_at c.args.self.now.storage c.args.to.now) ≡ false = search rules in
    let home : HasDirectory c.args.to.now old = search rules in
    let after = c.rename_file-done.new.self in
    let mid = over c.begin.new.self (contents_of after) in
    let made : MatchResult c.rename_file-done.result (λ v. (Renames c.args.from.now c.args.to.now old) mid) (λ e. mid ≡ old) =
    done_or_not (Renames c.args.from.now c.args.to.now old) (renamed c.args.from.now c.args.to.now c.in-Some-File.id) c.rename_file-done.result c.begin.new.self after old c.in_ok-stops.ensures.ok
    (λ now same. record { runs = c.in_ok-check_runs.ensures.ok; id = c.in-Some-File.id; is = ap file_named is; apart = apart; home = home; done = same ∙ ap (renamed c.args.from.now c.args.to.now c.in-Some-File.id) c.in_ok-stops.ensures.ok })
    (ok_then c.rename_file-done.result (λ (s : MovesName c.args.from.now c.args.to.now c.in-Some-File.id c.begin.new.self.storage after). s.contents) c.rename_file-done.ensures.ok)
    (err_then c.rename_file-done.result (λ (s : IsSame c.begin.new.self.storage after). s.contents) c.rename_file-done.ensures.err) in
    call_ok (Renames c.args.from.now c.args.to.now old) c.rename_file-done.result c.in_ok-stops.stops old mid (disk_of c.end.new.self) c.end.result made c.end.ensures.ok

pub returns-clause-err : goal.returns-clause-err
returns-clause-err c =
    let old = disk_of c.args.self.now in
    let is : node_at c.args.self.now.storage c.args.from.now ≡ Some (node.File c.in-Some-File.id) = search rules in
    let apart : is_directory (node_at c.args.self.now.storage c.args.to.now) ≡ false = search rules in
    let home : HasDirectory c.args.to.now old = search rules in
    let after = c.rename_file-done.new.self in
    let mid = over c.begin.new.self (contents_of after) in
    let made : MatchResult c.rename_file-done.result (λ v. (Renames c.args.from.now c.args.to.now old) mid) (λ e. mid ≡ old) =
    done_or_not (Renames c.args.from.now c.args.to.now old) (renamed c.args.from.now c.args.to.now c.in-Some-File.id) c.rename_file-done.result c.begin.new.self after old c.in_ok-stops.ensures.ok
    (λ now same. record { runs = c.in_ok-check_runs.ensures.ok; id = c.in-Some-File.id; is = ap file_named is; apart = apart; home = home; done = same ∙ ap (renamed c.args.from.now c.args.to.now c.in-Some-File.id) c.in_ok-stops.ensures.ok })
    (ok_then c.rename_file-done.result (λ (s : MovesName c.args.from.now c.args.to.now c.in-Some-File.id c.begin.new.self.storage after). s.contents) c.rename_file-done.ensures.ok)
    (err_then c.rename_file-done.result (λ (s : IsSame c.begin.new.self.storage after). s.contents) c.rename_file-done.ensures.err) in
    call_err (Renames c.args.from.now c.args.to.now old) (WrongRename c.args.from.now c.args.to.now old) c.rename_file-done.result c.in_ok-stops.stops old mid (disk_of c.end.new.self) c.end.result
    c.in_ok-check_runs.ensures.ok (right_rename c.args.from.now c.args.to.now old c.in-Some-File.id (ap file_named is) apart home) made c.end.ensures.err

pub returns-clause-order : goal.returns-clause-order
returns-clause-order c =
    let old = disk_of c.args.self.now in
    let is : node_at c.args.self.now.storage c.args.from.now ≡ Some (node.File c.in-Some-File.id) = search rules in
    let apart : is_directory (node_at c.args.self.now.storage c.args.to.now) ≡ false = search rules in
    let home : HasDirectory c.args.to.now old = search rules in
    let after = c.rename_file-done.new.self in
    let mid = over c.begin.new.self (contents_of after) in
    let made : MatchResult c.rename_file-done.result (λ v. (Renames c.args.from.now c.args.to.now old) mid) (λ e. mid ≡ old) =
    done_or_not (Renames c.args.from.now c.args.to.now old) (renamed c.args.from.now c.args.to.now c.in-Some-File.id) c.rename_file-done.result c.begin.new.self after old c.in_ok-stops.ensures.ok
    (λ now same. record { runs = c.in_ok-check_runs.ensures.ok; id = c.in-Some-File.id; is = ap file_named is; apart = apart; home = home; done = same ∙ ap (renamed c.args.from.now c.args.to.now c.in-Some-File.id) c.in_ok-stops.ensures.ok })
    (ok_then c.rename_file-done.result (λ (s : MovesName c.args.from.now c.args.to.now c.in-Some-File.id c.begin.new.self.storage after). s.contents) c.rename_file-done.ensures.ok)
    (err_then c.rename_file-done.result (λ (s : IsSame c.begin.new.self.storage after). s.contents) c.rename_file-done.ensures.err) in
    call_order (order_without_replaced c.args.from.now c.args.to.now (kept c.args.self.now)) c.rename_file-done.result c.in_ok-stops.stops mid c.end.new.self after c.end.result (ok_then c.rename_file-done.result (λ (s : MovesName c.args.from.now c.args.to.now c.in-Some-File.id c.begin.new.self.storage after). s.order
    ∙ (ap (λ (s : Storage). without_replaced c.in-Some-File.id (file_named (node_at s c.args.to.now)) (unsynced_of s)) c.begin.ensures.storage
    ∙ ap (λ (o : Option ℕ). with_moved o (file_named (node_at c.args.self.now.storage c.args.to.now)) (unsynced c.args.self.now)) (sym (ap file_named is)))) c.rename_file-done.ensures.ok) c.end.ensures.storage c.end.ensures.ok

pub returns-clause-turn : goal.returns-clause-turn
returns-clause-turn c =
    call_turn c.end.result c.in_ok-stops.stops c.rename_file-done.result (over c.begin.new.self (contents_of c.rename_file-done.new.self)) c.args.self.now c.end.new.self (c.end.ensures.same ∙ c.begin.ensures.next)
    c.in_ok-stops.ensures.spared c.end.ensures.ok

pub returns-clause-cause : goal.returns-clause-cause
returns-clause-cause c =
    let old = disk_of c.args.self.now in
    let is : node_at c.args.self.now.storage c.args.from.now ≡ Some (node.File c.in-Some-File.id) = search rules in
    let apart : is_directory (node_at c.args.self.now.storage c.args.to.now) ≡ false = search rules in
    let home : HasDirectory c.args.to.now old = search rules in
    let after = c.rename_file-done.new.self in
    let mid = over c.begin.new.self (contents_of after) in
    let made : MatchResult c.rename_file-done.result (λ v. (Renames c.args.from.now c.args.to.now old) mid) (λ e. mid ≡ old) =
    done_or_not (Renames c.args.from.now c.args.to.now old) (renamed c.args.from.now c.args.to.now c.in-Some-File.id) c.rename_file-done.result c.begin.new.self after old c.in_ok-stops.ensures.ok
    (λ now same. record { runs = c.in_ok-check_runs.ensures.ok; id = c.in-Some-File.id; is = ap file_named is; apart = apart; home = home; done = same ∙ ap (renamed c.args.from.now c.args.to.now c.in-Some-File.id) c.in_ok-stops.ensures.ok })
    (ok_then c.rename_file-done.result (λ (s : MovesName c.args.from.now c.args.to.now c.in-Some-File.id c.begin.new.self.storage after). s.contents) c.rename_file-done.ensures.ok)
    (err_then c.rename_file-done.result (λ (s : IsSame c.begin.new.self.storage after). s.contents) c.rename_file-done.ensures.err) in
    call_cause (Renames c.args.from.now c.args.to.now old) (order_without_replaced c.args.from.now c.args.to.now (kept c.args.self.now)) c.rename_file-done.result c.in_ok-stops.stops mid c.args.self.now c.begin.new.self c.end.new.self after c.end.result
    (record { runs = c.in_ok-check_runs.ensures.ok; right = right_rename c.args.from.now c.args.to.now old c.in-Some-File.id (ap file_named is) apart home; next = c.end.ensures.same ∙ c.begin.ensures.next }) c.in_ok-stops.ensures.stops c.in_ok-stops.ensures.spared made
    c.begin.ensures.storage (ok_then c.rename_file-done.result (λ (s : MovesName c.args.from.now c.args.to.now c.in-Some-File.id c.begin.new.self.storage after). s.order
    ∙ (ap (λ (s : Storage). without_replaced c.in-Some-File.id (file_named (node_at s c.args.to.now)) (unsynced_of s)) c.begin.ensures.storage
    ∙ ap (λ (o : Option ℕ). with_moved o (file_named (node_at c.args.self.now.storage c.args.to.now)) (unsynced c.args.self.now)) (sym (ap file_named is)))) c.rename_file-done.ensures.ok) c.rename_file-done.ensures.err c.end.ensures.storage c.end.ensures.err

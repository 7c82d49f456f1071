use Rattle.std.proofs.Common.{rules, refl, sym, ap, ◌≡◌, ◌∙◌, Some, ℕ, Option, Ok, Result}
use Rattle.std.specs.declared.alloc.AllocError.{AllocError}
use Rattle.std.proofs.lemmas.Result.{err_from_is_err_and}
use Rattle.raft_log_fs.specs.Calls.{Deletes, deleted}
use Rattle.raft_log_fs.specs.Arguments.{WrongName}
use Rattle.raft_log_fs_state.specs.declared.storage.Node.TheVariants as node
use Rattle.raft_log_fs_state.specs.declared.storage.Storage.{Storage}
use Rattle.raft_log_fs_state.specs.Storage.{contents_of, unsynced_of, node_at, file_named}
use Rattle.raft_log_fs_memory.specs.Memory.{disk_of, unsynced, kept, without_named}
use Rattle.raft_log_fs_memory.specs.Answers.{order_without_named}
use Rattle.raft_log_fs_memory.proofs.Turns.{over, fallen, fell, call_turn, call_order, call_cause}
use Rattle.raft_log_fs_memory.proofs.Calls.{refused_whole, call_ok, call_err, right_name}
use Rattle.raft_log_fs_memory.proofs.memory.calls.MemoryFileSystemFileSystem.delete.Goals as goal

pub returns-in_err-stops-clause-err : goal.returns-in_err-stops-clause-err
returns-in_err-stops-clause-err c =
    let old = disk_of c.args.self.now in
    let is : node_at c.args.self.now.storage c.args.path.now ≡ Some (node.File c.in-Some-File.id) = search rules in
    let same = err_from_is_err_and c.from_residual-in_err-stops.result c.from_residual-in_err-stops.ensures.1 in
    rw (same.1, same.2) (refused_whole old old (disk_of c.begin.new.self) c.in_ok-check_runs.ensures.ok (right_name c.args.path.now old c.in-Some-File.id (ap file_named is)) refl (fallen c.in_err-stops.ensures.err))

pub returns-in_err-stops-clause-cause : goal.returns-in_err-stops-clause-cause
returns-in_err-stops-clause-cause c =
    let old = disk_of c.args.self.now in
    let is : node_at c.args.self.now.storage c.args.path.now ≡ Some (node.File c.in-Some-File.id) = search rules in
    let same = err_from_is_err_and c.from_residual-in_err-stops.result c.from_residual-in_err-stops.ensures.1 in
    rw (same.1, same.2) (fell (Deletes c.args.path.now old) (order_without_named c.args.path.now (kept c.args.self.now)) (record { runs = c.in_ok-check_runs.ensures.ok; right = right_name c.args.path.now old c.in-Some-File.id (ap file_named is); next = c.begin.ensures.next }) c.begin.ensures.storage c.in_err-stops.ensures.err)

pub returns-clause-ok : goal.returns-clause-ok
returns-clause-ok c =
    let old = disk_of c.args.self.now in
    let is : node_at c.args.self.now.storage c.args.path.now ≡ Some (node.File c.in-Some-File.id) = search rules in
    let after = c.remove_file.new.self in
    let done : Result (Unit {0}) AllocError = Ok tt in
    let mid = over c.begin.new.self (contents_of after) in
    let made : Deletes c.args.path.now old mid =
    record { runs = c.in_ok-check_runs.ensures.ok; id = c.in-Some-File.id; is = ap file_named is; done = ap (over c.begin.new.self) c.remove_file.ensures.ok.contents ∙ ap (deleted c.args.path.now c.in-Some-File.id) c.in_ok-stops.ensures.ok } in
    call_ok (Deletes c.args.path.now old) done c.in_ok-stops.stops old mid (disk_of c.end.new.self) c.end.result made c.end.ensures.ok

pub returns-clause-err : goal.returns-clause-err
returns-clause-err c =
    let old = disk_of c.args.self.now in
    let is : node_at c.args.self.now.storage c.args.path.now ≡ Some (node.File c.in-Some-File.id) = search rules in
    let after = c.remove_file.new.self in
    let done : Result (Unit {0}) AllocError = Ok tt in
    let mid = over c.begin.new.self (contents_of after) in
    let made : Deletes c.args.path.now old mid =
    record { runs = c.in_ok-check_runs.ensures.ok; id = c.in-Some-File.id; is = ap file_named is; done = ap (over c.begin.new.self) c.remove_file.ensures.ok.contents ∙ ap (deleted c.args.path.now c.in-Some-File.id) c.in_ok-stops.ensures.ok } in
    call_err (Deletes c.args.path.now old) (WrongName c.args.path.now old) done c.in_ok-stops.stops old mid (disk_of c.end.new.self) c.end.result
    c.in_ok-check_runs.ensures.ok (right_name c.args.path.now old c.in-Some-File.id (ap file_named is)) made c.end.ensures.err

pub returns-clause-order : goal.returns-clause-order
returns-clause-order c =
    let old = disk_of c.args.self.now in
    let is : node_at c.args.self.now.storage c.args.path.now ≡ Some (node.File c.in-Some-File.id) = search rules in
    let after = c.remove_file.new.self in
    let done : Result (Unit {0}) AllocError = Ok tt in
    let mid = over c.begin.new.self (contents_of after) in
    let made : Deletes c.args.path.now old mid =
    record { runs = c.in_ok-check_runs.ensures.ok; id = c.in-Some-File.id; is = ap file_named is; done = ap (over c.begin.new.self) c.remove_file.ensures.ok.contents ∙ ap (deleted c.args.path.now c.in-Some-File.id) c.in_ok-stops.ensures.ok } in
    call_order (order_without_named c.args.path.now (kept c.args.self.now)) done c.in_ok-stops.stops mid c.end.new.self after c.end.result (c.remove_file.ensures.ok.order
    ∙ (ap (λ (s : Storage). without_named (Some c.in-Some-File.id) (unsynced_of s)) c.begin.ensures.storage
    ∙ ap (λ (o : Option ℕ). without_named o (unsynced c.args.self.now)) (sym (ap file_named is)))) c.end.ensures.storage c.end.ensures.ok

pub returns-clause-turn : goal.returns-clause-turn
returns-clause-turn c =
    let done : Result (Unit {0}) AllocError = Ok tt in
    call_turn c.end.result c.in_ok-stops.stops done (over c.begin.new.self (contents_of c.remove_file.new.self)) c.args.self.now c.end.new.self (c.end.ensures.same ∙ c.begin.ensures.next)
    c.in_ok-stops.ensures.spared c.end.ensures.ok

pub returns-clause-cause : goal.returns-clause-cause
returns-clause-cause c =
    let old = disk_of c.args.self.now in
    let is : node_at c.args.self.now.storage c.args.path.now ≡ Some (node.File c.in-Some-File.id) = search rules in
    let after = c.remove_file.new.self in
    let done : Result (Unit {0}) AllocError = Ok tt in
    let mid = over c.begin.new.self (contents_of after) in
    let made : Deletes c.args.path.now old mid =
    record { runs = c.in_ok-check_runs.ensures.ok; id = c.in-Some-File.id; is = ap file_named is; done = ap (over c.begin.new.self) c.remove_file.ensures.ok.contents ∙ ap (deleted c.args.path.now c.in-Some-File.id) c.in_ok-stops.ensures.ok } in
    call_cause (Deletes c.args.path.now old) (order_without_named c.args.path.now (kept c.args.self.now)) done c.in_ok-stops.stops mid c.args.self.now c.begin.new.self c.end.new.self after c.end.result
    (record { runs = c.in_ok-check_runs.ensures.ok; right = right_name c.args.path.now old c.in-Some-File.id (ap file_named is); next = c.end.ensures.same ∙ c.begin.ensures.next }) c.in_ok-stops.ensures.stops c.in_ok-stops.ensures.spared made
    c.begin.ensures.storage (c.remove_file.ensures.ok.order
    ∙ (ap (λ (s : Storage). without_named (Some c.in-Some-File.id) (unsynced_of s)) c.begin.ensures.storage
    ∙ ap (λ (o : Option ℕ). without_named o (unsynced c.args.self.now)) (sym (ap file_named is)))) tt c.end.ensures.storage c.end.ensures.err

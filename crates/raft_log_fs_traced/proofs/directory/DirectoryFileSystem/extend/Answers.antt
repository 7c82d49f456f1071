use Rattle.std.proofs.Common.{arith, inr, refl, sym, ◌∙◌, ap, subst, ◌≡◌, ◌<◌, false, Ok, Err}
use Rattle.std.specs.Result.{OnErr}
use Rattle.std.specs.Prelude.{Result}
use Rattle.std.specs.declared.io.ErrorKind.{ErrorKind}
use Rattle.std.specs.declared.io.ErrorKind.TheVariants.{StorageFull}
use Rattle.std.proofs.lemmas.Result.{err_from_is_err_and}
use Rattle.raft_log_fs.specs.Disk.{Wrote, Disk, file_limit}
use Rattle.raft_log_fs.specs.Image.{end_of}
use Rattle.raft_log_fs.specs.Calls.{IsRight, Changes, SomeOf, none, after_change}
use Rattle.raft_log_fs.specs.Arguments.{WrongWriter}
use Rattle.raft_log_fs_state.specs.Storage.{contents_of}
use Rattle.raft_log_fs_state.proofs.Public.{ok_then}
use Rattle.raft_log_fs_memory.proofs.Public.{right_writer}
use Rattle.raft_log_fs_traced.specs.declared.device.Attempt.{Attempt}
use Rattle.raft_log_fs_traced.specs.declared.device.Attempt.TheVariants as attempt
use Rattle.raft_log_fs_traced.specs.Device.{Changed, attempted, noted, MayBeMade}
use Rattle.raft_log_fs_traced.specs.Directory.{calls_of, disk_of, with_failures}
use Rattle.raft_log_fs_traced.specs.Following.{shown}
use Rattle.raft_log_fs_traced.proofs.Made.{told_err, told_ok, told_then, failed_once}
use Rattle.raft_log_fs_traced.proofs.Attempts.{still_there, ok_at, made_whole, made_front, ended_follows, ended_sound, ended_err, ended_ok, halted_sound, halted_err, went_on, never_follows, undone_fails}
use Rattle.raft_log_fs_traced.proofs.Lacking.{busy, counts_lack, each_error, lacks_memory, made_undone, maybe_undone, none_undone, still_notes}
use Rattle.raft_log_fs_traced.proofs.directory.DirectoryFileSystem.extend.Goals as goal

pub returns-in-Err-clause-err : goal.returns-in-Err-clause-err
returns-in-Err-clause-err g c =
    let system = c.args.self.now in
    let old = contents_of system.storage in
    let file = c.args.handle.file in
    let change = Wrote c.args.offset c.args.bytes.now in
    failed_once (SomeOf file change) (Changes file (after_change change)) (WrongWriter c.args.handle) c.fail.result system.failures system.kinds.told old (disk_of g.D.Device system) (disk_of g.D.Device c.fail.new.self) c.requires.file.runs.same refl
    (right_writer c.args.handle (with_failures system.failures system.kinds.told old) c.requires.file.there c.requires.writes) (λ k. none refl) c.fail.ensures.once

pub write-written-requires-clause-there : goal.write-written-requires-clause-there
write-written-requires-clause-there g c = still_there c.args.self.now.storage c.make_room.new.self c.args.handle.file c.make_room.ensures.same.contents c.requires.file.there

pub write_front-noted-requires-clause-there : goal.write_front-noted-requires-clause-there
write_front-noted-requires-clause-there g c = still_there c.args.self.now.storage c.make_room.new.self c.args.handle.file c.make_room.ensures.same.contents c.requires.file.there

pub invariant_of-self-in-Ok-Made : goal.invariant_of-self-in-Ok-Made
invariant_of-self-in-Ok-Made g c =
    let system = c.args.self.now in
    let file = c.args.handle.file in
    let change = Wrote c.args.offset c.args.bytes.now in
    let trace = g.D.Device.trace system.device in
    let later = g.D.Device.trace c.extend.new.self in
    let same = c.make_room.ensures.same.contents in
    let there = c.requires.file.there in
    let at = system.follows c.requires.file.runs.running in
    let short : end_of change < file_limit = (let size = c.in_default.ensures.ok in omega (arith, size)) in
    let right = right_writer c.args.handle (with_failures system.failures system.kinds.told (contents_of system.storage)) there c.requires.writes in
    let ended : later ≡ noted (attempted file change attempt.Made) trace = ok_at c.extend.result c.in-Ok-Made.field-0 attempt.Made (λ a. later ≡ noted (attempted file change a) trace) c.in-Ok-Made.is c.in-Ok-Made.field-0-is c.extend.ensures.ok in
    let did = made_whole file change c.make_room.new.self c.write-written.new.self c.write-written.result c.write-written.ensures.ok in
    record {
      whole = c.write-written.ensures.whole;
      follows = ended_follows file change system.storage c.make_room.new.self c.write-written.new.self same there trace later at attempt.Made ended c.write-written.result c.stopping.new.stopped did c.stopping.ensures.err;
      sound = ended_sound file change system.storage c.make_room.new.self c.write-written.new.self same there trace later at attempt.Made ended system.whole.sound short;
    }

pub invariant_of-self-in-Ok-Undone : goal.invariant_of-self-in-Ok-Undone
invariant_of-self-in-Ok-Undone g c =
    let system = c.args.self.now in
    let file = c.args.handle.file in
    let change = Wrote c.args.offset c.args.bytes.now in
    let trace = g.D.Device.trace system.device in
    let later = g.D.Device.trace c.extend.new.self in
    let same = c.make_room.ensures.same.contents in
    let there = c.requires.file.there in
    let at = system.follows c.requires.file.runs.running in
    let short : end_of change < file_limit = (let size = c.in_default.ensures.ok in omega (arith, size)) in
    let right = right_writer c.args.handle (with_failures system.failures system.kinds.told (contents_of system.storage)) there c.requires.writes in
    let tried : Attempt = attempt.Undone in
    let ended : later ≡ noted (attempted file change tried) trace = ok_at c.extend.result c.in-Ok-Undone.field-0 tried (λ a. later ≡ noted (attempted file change a) trace) c.in-Ok-Undone.is c.in-Ok-Undone.field-0-is c.extend.ensures.ok in
    let did = made_front file c.args.offset c.args.bytes.now c.make_room.new.self c.write_front-noted.new.self c.write_front-noted.result c.write_front-noted.ensures.ok in
    record {
      whole = c.write_front-noted.ensures.whole;
      follows = ended_follows file change system.storage c.make_room.new.self c.write_front-noted.new.self same there trace later at tried ended c.write_front-noted.result c.stopping-in-Ok-Undone.new.stopped did c.stopping-in-Ok-Undone.ensures.err;
      sound = ended_sound file change system.storage c.make_room.new.self c.write_front-noted.new.self same there trace later at tried ended system.whole.sound short;
    }

pub returns-in_err-stopping-in-Ok-Undone-clause-err : goal.returns-in_err-stopping-in-Ok-Undone-clause-err
returns-in_err-stopping-in-Ok-Undone-clause-err g c =
    let system = c.args.self.now in
    let file = c.args.handle.file in
    let change = Wrote c.args.offset c.args.bytes.now in
    let trace = g.D.Device.trace system.device in
    let later = g.D.Device.trace c.extend.new.self in
    let same = c.make_room.ensures.same.contents in
    let there = c.requires.file.there in
    let at = system.follows c.requires.file.runs.running in
    let short : end_of change < file_limit = (let size = c.in_default.ensures.ok in omega (arith, size)) in
    let right = right_writer c.args.handle (with_failures system.failures system.kinds.told (contents_of system.storage)) there c.requires.writes in
    let tried : Attempt = attempt.Undone in
    let ended : later ≡ noted (attempted file change tried) trace = ok_at c.extend.result c.in-Ok-Undone.field-0 tried (λ a. later ≡ noted (attempted file change a) trace) c.in-Ok-Undone.is c.in-Ok-Undone.field-0-is c.extend.ensures.ok in
    let did = made_front file c.args.offset c.args.bytes.now c.make_room.new.self c.write_front-noted.new.self c.write_front-noted.result c.write_front-noted.ensures.ok in
    let residual = err_from_is_err_and c.from_residual.result c.from_residual.ensures.1 in
    rw (residual.1, residual.2) (told_then c.write_front-noted.result c.stopping-in-Ok-Undone.result _ _ c.stopping-in-Ok-Undone.ensures.told c.in_err-stopping-in-Ok-Undone.was
    (ended_err file change system.storage c.make_room.new.self c.write_front-noted.new.self same there trace later at tried ended (WrongWriter c.args.handle) c.write_front-noted.result system.failures system.kinds.told (disk_of g.D.Device system) c.stopping-in-Ok-Undone.new.stopped c.requires.file.runs.same
    right c.stopping-in-Ok-Undone.ensures.err))

pub invariant_of-self-in-Err-extend : goal.invariant_of-self-in-Err-extend
invariant_of-self-in-Err-extend g c =
    let system = c.args.self.now in
    let file = c.args.handle.file in
    let change = Wrote c.args.offset c.args.bytes.now in
    let trace = g.D.Device.trace system.device in
    let later = g.D.Device.trace c.extend.new.self in
    let same = c.make_room.ensures.same.contents in
    let there = c.requires.file.there in
    let at = system.follows c.requires.file.runs.running in
    let short : end_of change < file_limit = (let size = c.in_default.ensures.ok in omega (arith, size)) in
    let right = right_writer c.args.handle (with_failures system.failures system.kinds.told (contents_of system.storage)) there c.requires.writes in
    let maybe : MayBeMade (Changed file change) trace later = subst (λ (r : Result Attempt ErrorKind). OnErr r (MayBeMade (Changed file change) trace later)) c.in-Err-extend.is c.extend.ensures.err in
    record {
      whole = c.make_room.ensures.whole;
      follows = never_follows c.stopping-in-Err-extend.new.stopped c.make_room.new.self later c.stopping-in-Err-extend.ensures.err;
      sound = halted_sound file change system.storage there trace later at maybe system.whole.sound short;
    }

pub returns-in-Ok-Made-clause-err : goal.returns-in-Ok-Made-clause-err
returns-in-Ok-Made-clause-err g c =
    let system = c.args.self.now in
    let file = c.args.handle.file in
    let change = Wrote c.args.offset c.args.bytes.now in
    let trace = g.D.Device.trace system.device in
    let later = g.D.Device.trace c.extend.new.self in
    let same = c.make_room.ensures.same.contents in
    let there = c.requires.file.there in
    let at = system.follows c.requires.file.runs.running in
    let short : end_of change < file_limit = (let size = c.in_default.ensures.ok in omega (arith, size)) in
    let right = right_writer c.args.handle (with_failures system.failures system.kinds.told (contents_of system.storage)) there c.requires.writes in
    let ended : later ≡ noted (attempted file change attempt.Made) trace = ok_at c.extend.result c.in-Ok-Made.field-0 attempt.Made (λ a. later ≡ noted (attempted file change a) trace) c.in-Ok-Made.is c.in-Ok-Made.field-0-is c.extend.ensures.ok in
    let did = made_whole file change c.make_room.new.self c.write-written.new.self c.write-written.result c.write-written.ensures.ok in
    told_err c.stopping.result c.write-written.result _ c.stopping.ensures.told
    (ended_err file change system.storage c.make_room.new.self c.write-written.new.self same there trace later at attempt.Made ended (WrongWriter c.args.handle) c.write-written.result system.failures system.kinds.told (disk_of g.D.Device system) c.stopping.new.stopped c.requires.file.runs.same
    right c.stopping.ensures.err)

pub returns-in-Ok-Made-clause-ok : goal.returns-in-Ok-Made-clause-ok
returns-in-Ok-Made-clause-ok g c =
    let system = c.args.self.now in
    let file = c.args.handle.file in
    let change = Wrote c.args.offset c.args.bytes.now in
    let trace = g.D.Device.trace system.device in
    let later = g.D.Device.trace c.extend.new.self in
    let same = c.make_room.ensures.same.contents in
    let there = c.requires.file.there in
    let at = system.follows c.requires.file.runs.running in
    let short : end_of change < file_limit = (let size = c.in_default.ensures.ok in omega (arith, size)) in
    let right = right_writer c.args.handle (with_failures system.failures system.kinds.told (contents_of system.storage)) there c.requires.writes in
    let ended : later ≡ noted (attempted file change attempt.Made) trace = ok_at c.extend.result c.in-Ok-Made.field-0 attempt.Made (λ a. later ≡ noted (attempted file change a) trace) c.in-Ok-Made.is c.in-Ok-Made.field-0-is c.extend.ensures.ok in
    let did = made_whole file change c.make_room.new.self c.write-written.new.self c.write-written.result c.write-written.ensures.ok in
    told_ok c.stopping.result c.write-written.result _ c.stopping.ensures.told
    (ended_ok file change system.storage c.make_room.new.self c.write-written.new.self same there trace later at attempt.Made ended c.write-written.result system.failures system.kinds.told (disk_of g.D.Device system) c.stopping.new.stopped c.requires.file.runs.same
    (ok_then c.write-written.result (λ stays. stays ∙ c.requires.file.runs.running) c.stopping.ensures.ok))

pub returns-in_ok-stopping-in-Ok-Undone-clause-err : goal.returns-in_ok-stopping-in-Ok-Undone-clause-err
returns-in_ok-stopping-in-Ok-Undone-clause-err g c =
    let system = c.args.self.now in
    let file = c.args.handle.file in
    let change = Wrote c.args.offset c.args.bytes.now in
    let trace = g.D.Device.trace system.device in
    let later = g.D.Device.trace c.extend.new.self in
    let same = c.make_room.ensures.same.contents in
    let there = c.requires.file.there in
    let at = system.follows c.requires.file.runs.running in
    let short : end_of change < file_limit = (let size = c.in_default.ensures.ok in omega (arith, size)) in
    let right = right_writer c.args.handle (with_failures system.failures system.kinds.told (contents_of system.storage)) there c.requires.writes in
    let tried : Attempt = attempt.Undone in
    let ended : later ≡ noted (attempted file change tried) trace = ok_at c.extend.result c.in-Ok-Undone.field-0 tried (λ a. later ≡ noted (attempted file change a) trace) c.in-Ok-Undone.is c.in-Ok-Undone.field-0-is c.extend.ensures.ok in
    let did = made_front file c.args.offset c.args.bytes.now c.make_room.new.self c.write_front-noted.new.self c.write_front-noted.result c.write_front-noted.ensures.ok in
    let runs_on : c.stopping-in-Ok-Undone.new.stopped ≡ false = went_on c.write_front-noted.result c.stopping-in-Ok-Undone.result c.in_ok-stopping-in-Ok-Undone.field-0 _ c.in_ok-stopping-in-Ok-Undone.was c.stopping-in-Ok-Undone.ensures.told c.stopping-in-Ok-Undone.ensures.ok ∙ c.requires.file.runs.running in
    let mid = shown later c.stopping-in-Ok-Undone.new.stopped system.failures system.kinds.told in
    undone_fails file change (disk_of g.D.Device system) mid (disk_of g.D.Device c.count_lack.new.self) StorageFull c.count_lack.result (WrongWriter c.args.handle)
    (ap (λ (d : Disk). d.stopped) c.requires.file.runs.same) (subst (λ (d : Disk). IsRight (WrongWriter c.args.handle d)) (sym c.requires.file.runs.same) right)
    (ended_ok file change system.storage c.make_room.new.self c.write_front-noted.new.self same there trace later at tried ended (Ok tt) system.failures system.kinds.told (disk_of g.D.Device system) c.stopping-in-Ok-Undone.new.stopped c.requires.file.runs.same runs_on)
    c.count_lack.ensures.once

pub returns-in-Err-extend-clause-err : goal.returns-in-Err-extend-clause-err
returns-in-Err-extend-clause-err g c =
    let system = c.args.self.now in
    let file = c.args.handle.file in
    let change = Wrote c.args.offset c.args.bytes.now in
    let trace = g.D.Device.trace system.device in
    let later = g.D.Device.trace c.extend.new.self in
    let same = c.make_room.ensures.same.contents in
    let there = c.requires.file.there in
    let at = system.follows c.requires.file.runs.running in
    let short : end_of change < file_limit = (let size = c.in_default.ensures.ok in omega (arith, size)) in
    let right = right_writer c.args.handle (with_failures system.failures system.kinds.told (contents_of system.storage)) there c.requires.writes in
    let maybe : MayBeMade (Changed file change) trace later = subst (λ (r : Result Attempt ErrorKind). OnErr r (MayBeMade (Changed file change) trace later)) c.in-Err-extend.is c.extend.ensures.err in
    told_err c.stopping-in-Err-extend.result (Err c.in-Err-extend.kind) _ c.stopping-in-Err-extend.ensures.told
    (halted_err file change system.storage there trace later at maybe (WrongWriter c.args.handle) system.failures system.kinds.told (disk_of g.D.Device system) c.stopping-in-Err-extend.new.stopped c.requires.file.runs.same right c.stopping-in-Err-extend.ensures.err)

pub returns-in-Err-clause-undone : goal.returns-in-Err-clause-undone
returns-in-Err-clause-undone g c =
    let system = c.args.self.now in
    let file = c.args.handle.file in
    let change = Wrote c.args.offset c.args.bytes.now in
    let trace = g.D.Device.trace system.device in
    λ undone. absurd (none_undone file change trace (calls_of g.D.Device c.fail.new.self) c.fail.ensures.calls undone)

pub returns-in-Ok-Made-clause-undone : goal.returns-in-Ok-Made-clause-undone
returns-in-Ok-Made-clause-undone g c =
    let system = c.args.self.now in
    let file = c.args.handle.file in
    let change = Wrote c.args.offset c.args.bytes.now in
    let trace = g.D.Device.trace system.device in
    let later = g.D.Device.trace c.extend.new.self in
    let ended : later ≡ noted (attempted file change attempt.Made) trace = ok_at c.extend.result c.in-Ok-Made.field-0 attempt.Made (λ a. later ≡ noted (attempted file change a) trace) c.in-Ok-Made.is c.in-Ok-Made.field-0-is c.extend.ensures.ok in
    each_error c.stopping.result _ (λ e undone. absurd (made_undone file change trace later change ended undone))

pub returns-in-Err-extend-clause-undone : goal.returns-in-Err-extend-clause-undone
returns-in-Err-extend-clause-undone g c =
    let system = c.args.self.now in
    let file = c.args.handle.file in
    let change = Wrote c.args.offset c.args.bytes.now in
    let trace = g.D.Device.trace system.device in
    let later = g.D.Device.trace c.extend.new.self in
    let maybe : MayBeMade (Changed file change) trace later = subst (λ (r : Result Attempt ErrorKind). OnErr r (MayBeMade (Changed file change) trace later)) c.in-Err-extend.is c.extend.ensures.err in
    each_error c.stopping-in-Err-extend.result _ (λ e undone. absurd (maybe_undone file change trace later change maybe undone))

pub returns-in_err-stopping-in-Ok-Undone-clause-undone : goal.returns-in_err-stopping-in-Ok-Undone-clause-undone
returns-in_err-stopping-in-Ok-Undone-clause-undone g c =
    let system = c.args.self.now in
    let file = c.args.handle.file in
    let change = Wrote c.args.offset c.args.bytes.now in
    let trace = g.D.Device.trace system.device in
    let memory = lacks_memory c.write_front-noted.result file c.args.offset c.args.bytes.now (contents_of c.make_room.new.self) (let size = c.in_default.ensures.ok in omega (arith, size)) c.write_front-noted.ensures.errors in
    let residual = err_from_is_err_and c.from_residual.result c.from_residual.ensures.1 in
    rw (residual.1, residual.2) (λ undone. inr (inr (busy c.write_front-noted.result c.stopping-in-Ok-Undone.result _ c.stopping-in-Ok-Undone.ensures.told c.in_err-stopping-in-Ok-Undone.was memory)))

pub returns-in_ok-stopping-in-Ok-Undone-clause-undone : goal.returns-in_ok-stopping-in-Ok-Undone-clause-undone
returns-in_ok-stopping-in-Ok-Undone-clause-undone g c =
    let system = c.args.self.now in
    let file = c.args.handle.file in
    let later = g.D.Device.trace c.extend.new.self in
    let mid = shown later c.stopping-in-Ok-Undone.new.stopped system.failures system.kinds.told in
    let runs_on : c.stopping-in-Ok-Undone.new.stopped ≡ false = went_on c.write_front-noted.result c.stopping-in-Ok-Undone.result c.in_ok-stopping-in-Ok-Undone.field-0 _ c.in_ok-stopping-in-Ok-Undone.was c.stopping-in-Ok-Undone.ensures.told c.stopping-in-Ok-Undone.ensures.ok ∙ c.requires.file.runs.running in
    λ undone. counts_lack g.D.Device file system c.count_lack.new.self mid c.count_lack.result runs_on refl refl
    (still_notes g.D.Device file system _ c.count_lack.new.self c.count_lack.new.self refl refl refl c.count_lack.ensures.full)
    c.count_lack.ensures.once

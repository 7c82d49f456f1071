use Rattle.std.proofs.Common.{arith, inr, refl, sym, ◌∙◌, ap, subst, ◌≡◌, ◌<◌, ◌+◌, ℕ, false, [], Ok, Err}
use Rattle.std.specs.Result.{OnOk, OnErr}
use Rattle.std.specs.Prelude.{Result}
use Rattle.std.specs.declared.io.ErrorKind.{ErrorKind}
use Rattle.std.specs.declared.io.ErrorKind.TheVariants.{StorageFull}
use Rattle.std.proofs.lemmas.Result.{err_from_is_err_and}
use Rattle.raft_log_fs.specs.Disk.{GrewTo, Disk, file_limit}
use Rattle.raft_log_fs.specs.Image.{end_of}
use Rattle.raft_log_fs.specs.Calls.{IsRight, Changes, SomeOf, none, after_change}
use Rattle.raft_log_fs.specs.Arguments.{WrongWriter}
use Rattle.raft_log_fs_state.specs.Storage.{contents_of}
use Rattle.raft_log_fs_state.specs.Steps.{Makes}
use Rattle.raft_log_fs_state.proofs.Public.{ok_then}
use Rattle.raft_log_fs_memory.proofs.Public.{right_writer}
use Rattle.raft_log_fs_traced.specs.declared.device.Attempt.{Attempt}
use Rattle.raft_log_fs_traced.specs.declared.device.Attempt.TheVariants as attempt
use Rattle.raft_log_fs_traced.specs.Device.{Changed, attempted, noted, MayBeMade}
use Rattle.raft_log_fs_traced.specs.Directory.{calls_of, disk_of, with_failures}
use Rattle.raft_log_fs_traced.specs.Following.{shown}
use Rattle.raft_log_fs_traced.proofs.Made.{told_err, told_ok, told_then, failed_once}
use Rattle.raft_log_fs_traced.proofs.Attempts.{still_there, ok_at, made_whole, noted_growth_of, ended_follows, ended_sound, ended_err, ended_ok, halted_sound, halted_err, went_on, never_follows, undone_fails}
use Rattle.raft_log_fs_traced.proofs.Lacking.{busy, counts_lack, each_error, made_undone, maybe_undone, none_undone, still_notes}
use Rattle.raft_log_fs_traced.proofs.directory.DirectoryFileSystem.grow.Goals as goal

pub returns-in-Err-clause-err : goal.returns-in-Err-clause-err
returns-in-Err-clause-err g c =
    let system = c.args.self.now in
    let old = contents_of system.storage in
    let file = c.args.handle.file in
    let change = GrewTo c.args.size in
    failed_once (SomeOf file change) (Changes file (after_change change)) (WrongWriter c.args.handle) c.fail.result system.failures system.kinds.told old (disk_of g.D.Device system) (disk_of g.D.Device c.fail.new.self) c.requires.file.runs.same refl
    (right_writer c.args.handle (with_failures system.failures system.kinds.told old) c.requires.file.there c.requires.writes) (λ k. none refl) c.fail.ensures.once

pub grow-grown-requires-clause-there : goal.grow-grown-requires-clause-there
grow-grown-requires-clause-there g c = still_there c.args.self.now.storage c.make_room.new.self c.args.handle.file c.make_room.ensures.same.contents c.requires.file.there

pub fail_to_grow-noted-requires-clause-there : goal.fail_to_grow-noted-requires-clause-there
fail_to_grow-noted-requires-clause-there g c = still_there c.args.self.now.storage c.make_room.new.self c.args.handle.file c.make_room.ensures.same.contents c.requires.file.there

pub invariant_of-self-in-Ok-Made : goal.invariant_of-self-in-Ok-Made
invariant_of-self-in-Ok-Made g c =
    let system = c.args.self.now in
    let file = c.args.handle.file in
    let change = GrewTo c.args.size in
    let trace = g.D.Device.trace system.device in
    let later = g.D.Device.trace c.grow.new.self in
    let same = c.make_room.ensures.same.contents in
    let there = c.requires.file.there in
    let at = system.follows c.requires.file.runs.running in
    let short : end_of change < file_limit = c.in_default.ensures.ok in
    let right = right_writer c.args.handle (with_failures system.failures system.kinds.told (contents_of system.storage)) there c.requires.writes in
    let ended : later ≡ noted (attempted file change attempt.Made) trace = ok_at c.grow.result c.in-Ok-Made.field-0 attempt.Made (λ a. later ≡ noted (attempted file change a) trace) c.in-Ok-Made.is c.in-Ok-Made.field-0-is c.grow.ensures.ok in
    let did = made_whole file change c.make_room.new.self c.grow-grown.new.self c.grow-grown.result (let whole : 0 + c.args.size ≡ c.args.size = omega arith in subst (λ (n : ℕ). OnOk c.grow-grown.result (Makes file (GrewTo n) [] c.make_room.new.self c.grow-grown.new.self)) whole c.grow-grown.ensures.ok) in
    record {
      whole = c.grow-grown.ensures.whole;
      follows = ended_follows file change system.storage c.make_room.new.self c.grow-grown.new.self same there trace later at attempt.Made ended c.grow-grown.result c.stopping.new.stopped did c.stopping.ensures.err;
      sound = ended_sound file change system.storage c.make_room.new.self c.grow-grown.new.self same there trace later at attempt.Made ended system.whole.sound short;
    }

pub invariant_of-self-in-Ok-Undone : goal.invariant_of-self-in-Ok-Undone
invariant_of-self-in-Ok-Undone g c =
    let system = c.args.self.now in
    let file = c.args.handle.file in
    let change = GrewTo c.args.size in
    let trace = g.D.Device.trace system.device in
    let later = g.D.Device.trace c.grow.new.self in
    let same = c.make_room.ensures.same.contents in
    let there = c.requires.file.there in
    let at = system.follows c.requires.file.runs.running in
    let short : end_of change < file_limit = c.in_default.ensures.ok in
    let right = right_writer c.args.handle (with_failures system.failures system.kinds.told (contents_of system.storage)) there c.requires.writes in
    let tried : Attempt = attempt.Undone in
    let ended : later ≡ noted (attempted file change tried) trace = ok_at c.grow.result c.in-Ok-Undone.field-0 tried (λ a. later ≡ noted (attempted file change a) trace) c.in-Ok-Undone.is c.in-Ok-Undone.field-0-is c.grow.ensures.ok in
    let did = noted_growth_of file c.args.size c.make_room.new.self c.fail_to_grow-noted.new.self c.fail_to_grow-noted.result c.fail_to_grow-noted.ensures.ok in
    record {
      whole = c.fail_to_grow-noted.ensures.whole;
      follows = ended_follows file change system.storage c.make_room.new.self c.fail_to_grow-noted.new.self same there trace later at tried ended c.fail_to_grow-noted.result c.stopping-in-Ok-Undone.new.stopped did c.stopping-in-Ok-Undone.ensures.err;
      sound = ended_sound file change system.storage c.make_room.new.self c.fail_to_grow-noted.new.self same there trace later at tried ended system.whole.sound short;
    }

pub returns-in_err-stopping-in-Ok-Undone-clause-err : goal.returns-in_err-stopping-in-Ok-Undone-clause-err
returns-in_err-stopping-in-Ok-Undone-clause-err g c =
    let system = c.args.self.now in
    let file = c.args.handle.file in
    let change = GrewTo c.args.size in
    let trace = g.D.Device.trace system.device in
    let later = g.D.Device.trace c.grow.new.self in
    let same = c.make_room.ensures.same.contents in
    let there = c.requires.file.there in
    let at = system.follows c.requires.file.runs.running in
    let short : end_of change < file_limit = c.in_default.ensures.ok in
    let right = right_writer c.args.handle (with_failures system.failures system.kinds.told (contents_of system.storage)) there c.requires.writes in
    let tried : Attempt = attempt.Undone in
    let ended : later ≡ noted (attempted file change tried) trace = ok_at c.grow.result c.in-Ok-Undone.field-0 tried (λ a. later ≡ noted (attempted file change a) trace) c.in-Ok-Undone.is c.in-Ok-Undone.field-0-is c.grow.ensures.ok in
    let did = noted_growth_of file c.args.size c.make_room.new.self c.fail_to_grow-noted.new.self c.fail_to_grow-noted.result c.fail_to_grow-noted.ensures.ok in
    let residual = err_from_is_err_and c.from_residual.result c.from_residual.ensures.1 in
    rw (residual.1, residual.2) (told_then c.fail_to_grow-noted.result c.stopping-in-Ok-Undone.result _ _ c.stopping-in-Ok-Undone.ensures.told c.in_err-stopping-in-Ok-Undone.was
    (ended_err file change system.storage c.make_room.new.self c.fail_to_grow-noted.new.self same there trace later at tried ended (WrongWriter c.args.handle) c.fail_to_grow-noted.result system.failures system.kinds.told (disk_of g.D.Device system) c.stopping-in-Ok-Undone.new.stopped c.requires.file.runs.same
    right c.stopping-in-Ok-Undone.ensures.err))

pub invariant_of-self-in-Err-grow : goal.invariant_of-self-in-Err-grow
invariant_of-self-in-Err-grow g c =
    let system = c.args.self.now in
    let file = c.args.handle.file in
    let change = GrewTo c.args.size in
    let trace = g.D.Device.trace system.device in
    let later = g.D.Device.trace c.grow.new.self in
    let same = c.make_room.ensures.same.contents in
    let there = c.requires.file.there in
    let at = system.follows c.requires.file.runs.running in
    let short : end_of change < file_limit = c.in_default.ensures.ok in
    let right = right_writer c.args.handle (with_failures system.failures system.kinds.told (contents_of system.storage)) there c.requires.writes in
    let maybe : MayBeMade (Changed file change) trace later = subst (λ (r : Result Attempt ErrorKind). OnErr r (MayBeMade (Changed file change) trace later)) c.in-Err-grow.is c.grow.ensures.err in
    record {
      whole = c.make_room.ensures.whole;
      follows = never_follows c.stopping-in-Err-grow.new.stopped c.make_room.new.self later c.stopping-in-Err-grow.ensures.err;
      sound = halted_sound file change system.storage there trace later at maybe system.whole.sound short;
    }

pub returns-in-Ok-Made-clause-err : goal.returns-in-Ok-Made-clause-err
returns-in-Ok-Made-clause-err g c =
    let system = c.args.self.now in
    let file = c.args.handle.file in
    let change = GrewTo c.args.size in
    let trace = g.D.Device.trace system.device in
    let later = g.D.Device.trace c.grow.new.self in
    let same = c.make_room.ensures.same.contents in
    let there = c.requires.file.there in
    let at = system.follows c.requires.file.runs.running in
    let short : end_of change < file_limit = c.in_default.ensures.ok in
    let right = right_writer c.args.handle (with_failures system.failures system.kinds.told (contents_of system.storage)) there c.requires.writes in
    let ended : later ≡ noted (attempted file change attempt.Made) trace = ok_at c.grow.result c.in-Ok-Made.field-0 attempt.Made (λ a. later ≡ noted (attempted file change a) trace) c.in-Ok-Made.is c.in-Ok-Made.field-0-is c.grow.ensures.ok in
    let did = made_whole file change c.make_room.new.self c.grow-grown.new.self c.grow-grown.result (let whole : 0 + c.args.size ≡ c.args.size = omega arith in subst (λ (n : ℕ). OnOk c.grow-grown.result (Makes file (GrewTo n) [] c.make_room.new.self c.grow-grown.new.self)) whole c.grow-grown.ensures.ok) in
    told_err c.stopping.result c.grow-grown.result _ c.stopping.ensures.told
    (ended_err file change system.storage c.make_room.new.self c.grow-grown.new.self same there trace later at attempt.Made ended (WrongWriter c.args.handle) c.grow-grown.result system.failures system.kinds.told (disk_of g.D.Device system) c.stopping.new.stopped c.requires.file.runs.same
    right c.stopping.ensures.err)

pub returns-in-Ok-Made-clause-ok : goal.returns-in-Ok-Made-clause-ok
returns-in-Ok-Made-clause-ok g c =
    let system = c.args.self.now in
    let file = c.args.handle.file in
    let change = GrewTo c.args.size in
    let trace = g.D.Device.trace system.device in
    let later = g.D.Device.trace c.grow.new.self in
    let same = c.make_room.ensures.same.contents in
    let there = c.requires.file.there in
    let at = system.follows c.requires.file.runs.running in
    let short : end_of change < file_limit = c.in_default.ensures.ok in
    let right = right_writer c.args.handle (with_failures system.failures system.kinds.told (contents_of system.storage)) there c.requires.writes in
    let ended : later ≡ noted (attempted file change attempt.Made) trace = ok_at c.grow.result c.in-Ok-Made.field-0 attempt.Made (λ a. later ≡ noted (attempted file change a) trace) c.in-Ok-Made.is c.in-Ok-Made.field-0-is c.grow.ensures.ok in
    let did = made_whole file change c.make_room.new.self c.grow-grown.new.self c.grow-grown.result (let whole : 0 + c.args.size ≡ c.args.size = omega arith in subst (λ (n : ℕ). OnOk c.grow-grown.result (Makes file (GrewTo n) [] c.make_room.new.self c.grow-grown.new.self)) whole c.grow-grown.ensures.ok) in
    told_ok c.stopping.result c.grow-grown.result _ c.stopping.ensures.told
    (ended_ok file change system.storage c.make_room.new.self c.grow-grown.new.self same there trace later at attempt.Made ended c.grow-grown.result system.failures system.kinds.told (disk_of g.D.Device system) c.stopping.new.stopped c.requires.file.runs.same
    (ok_then c.grow-grown.result (λ stays. stays ∙ c.requires.file.runs.running) c.stopping.ensures.ok))

pub returns-in_ok-stopping-in-Ok-Undone-clause-err : goal.returns-in_ok-stopping-in-Ok-Undone-clause-err
returns-in_ok-stopping-in-Ok-Undone-clause-err g c =
    let system = c.args.self.now in
    let file = c.args.handle.file in
    let change = GrewTo c.args.size in
    let trace = g.D.Device.trace system.device in
    let later = g.D.Device.trace c.grow.new.self in
    let same = c.make_room.ensures.same.contents in
    let there = c.requires.file.there in
    let at = system.follows c.requires.file.runs.running in
    let short : end_of change < file_limit = c.in_default.ensures.ok in
    let right = right_writer c.args.handle (with_failures system.failures system.kinds.told (contents_of system.storage)) there c.requires.writes in
    let tried : Attempt = attempt.Undone in
    let ended : later ≡ noted (attempted file change tried) trace = ok_at c.grow.result c.in-Ok-Undone.field-0 tried (λ a. later ≡ noted (attempted file change a) trace) c.in-Ok-Undone.is c.in-Ok-Undone.field-0-is c.grow.ensures.ok in
    let did = noted_growth_of file c.args.size c.make_room.new.self c.fail_to_grow-noted.new.self c.fail_to_grow-noted.result c.fail_to_grow-noted.ensures.ok in
    let runs_on : c.stopping-in-Ok-Undone.new.stopped ≡ false = went_on c.fail_to_grow-noted.result c.stopping-in-Ok-Undone.result c.in_ok-stopping-in-Ok-Undone.field-0 _ c.in_ok-stopping-in-Ok-Undone.was c.stopping-in-Ok-Undone.ensures.told c.stopping-in-Ok-Undone.ensures.ok ∙ c.requires.file.runs.running in
    let mid = shown later c.stopping-in-Ok-Undone.new.stopped system.failures system.kinds.told in
    undone_fails file change (disk_of g.D.Device system) mid (disk_of g.D.Device c.count_lack.new.self) StorageFull c.count_lack.result (WrongWriter c.args.handle)
    (ap (λ (d : Disk). d.stopped) c.requires.file.runs.same) (subst (λ (d : Disk). IsRight (WrongWriter c.args.handle d)) (sym c.requires.file.runs.same) right)
    (ended_ok file change system.storage c.make_room.new.self c.fail_to_grow-noted.new.self same there trace later at tried ended (Ok tt) system.failures system.kinds.told (disk_of g.D.Device system) c.stopping-in-Ok-Undone.new.stopped c.requires.file.runs.same runs_on)
    c.count_lack.ensures.once

pub returns-in-Err-grow-clause-err : goal.returns-in-Err-grow-clause-err
returns-in-Err-grow-clause-err g c =
    let system = c.args.self.now in
    let file = c.args.handle.file in
    let change = GrewTo c.args.size in
    let trace = g.D.Device.trace system.device in
    let later = g.D.Device.trace c.grow.new.self in
    let same = c.make_room.ensures.same.contents in
    let there = c.requires.file.there in
    let at = system.follows c.requires.file.runs.running in
    let short : end_of change < file_limit = c.in_default.ensures.ok in
    let right = right_writer c.args.handle (with_failures system.failures system.kinds.told (contents_of system.storage)) there c.requires.writes in
    let maybe : MayBeMade (Changed file change) trace later = subst (λ (r : Result Attempt ErrorKind). OnErr r (MayBeMade (Changed file change) trace later)) c.in-Err-grow.is c.grow.ensures.err in
    told_err c.stopping-in-Err-grow.result (Err c.in-Err-grow.kind) _ c.stopping-in-Err-grow.ensures.told
    (halted_err file change system.storage there trace later at maybe (WrongWriter c.args.handle) system.failures system.kinds.told (disk_of g.D.Device system) c.stopping-in-Err-grow.new.stopped c.requires.file.runs.same right c.stopping-in-Err-grow.ensures.err)

pub returns-in-Err-clause-undone : goal.returns-in-Err-clause-undone
returns-in-Err-clause-undone g c =
    let system = c.args.self.now in
    let file = c.args.handle.file in
    let change = GrewTo c.args.size in
    let trace = g.D.Device.trace system.device in
    λ undone. absurd (none_undone file change trace (calls_of g.D.Device c.fail.new.self) c.fail.ensures.calls undone)

pub returns-in-Ok-Made-clause-undone : goal.returns-in-Ok-Made-clause-undone
returns-in-Ok-Made-clause-undone g c =
    let system = c.args.self.now in
    let file = c.args.handle.file in
    let change = GrewTo c.args.size in
    let trace = g.D.Device.trace system.device in
    let later = g.D.Device.trace c.grow.new.self in
    let ended : later ≡ noted (attempted file change attempt.Made) trace = ok_at c.grow.result c.in-Ok-Made.field-0 attempt.Made (λ a. later ≡ noted (attempted file change a) trace) c.in-Ok-Made.is c.in-Ok-Made.field-0-is c.grow.ensures.ok in
    each_error c.stopping.result _ (λ e undone. absurd (made_undone file change trace later change ended undone))

pub returns-in-Err-grow-clause-undone : goal.returns-in-Err-grow-clause-undone
returns-in-Err-grow-clause-undone g c =
    let system = c.args.self.now in
    let file = c.args.handle.file in
    let change = GrewTo c.args.size in
    let trace = g.D.Device.trace system.device in
    let later = g.D.Device.trace c.grow.new.self in
    let maybe : MayBeMade (Changed file change) trace later = subst (λ (r : Result Attempt ErrorKind). OnErr r (MayBeMade (Changed file change) trace later)) c.in-Err-grow.is c.grow.ensures.err in
    each_error c.stopping-in-Err-grow.result _ (λ e undone. absurd (maybe_undone file change trace later change maybe undone))

pub returns-in_err-stopping-in-Ok-Undone-clause-undone : goal.returns-in_err-stopping-in-Ok-Undone-clause-undone
returns-in_err-stopping-in-Ok-Undone-clause-undone g c =
    let system = c.args.self.now in
    let file = c.args.handle.file in
    let change = GrewTo c.args.size in
    let trace = g.D.Device.trace system.device in
    let memory = c.fail_to_grow-noted.ensures.errors in
    let residual = err_from_is_err_and c.from_residual.result c.from_residual.ensures.1 in
    rw (residual.1, residual.2) (λ undone. inr (inr (busy c.fail_to_grow-noted.result c.stopping-in-Ok-Undone.result _ c.stopping-in-Ok-Undone.ensures.told c.in_err-stopping-in-Ok-Undone.was memory)))

pub returns-in_ok-stopping-in-Ok-Undone-clause-undone : goal.returns-in_ok-stopping-in-Ok-Undone-clause-undone
returns-in_ok-stopping-in-Ok-Undone-clause-undone g c =
    let system = c.args.self.now in
    let file = c.args.handle.file in
    let later = g.D.Device.trace c.grow.new.self in
    let mid = shown later c.stopping-in-Ok-Undone.new.stopped system.failures system.kinds.told in
    let runs_on : c.stopping-in-Ok-Undone.new.stopped ≡ false = went_on c.fail_to_grow-noted.result c.stopping-in-Ok-Undone.result c.in_ok-stopping-in-Ok-Undone.field-0 _ c.in_ok-stopping-in-Ok-Undone.was c.stopping-in-Ok-Undone.ensures.told c.stopping-in-Ok-Undone.ensures.ok ∙ c.requires.file.runs.running in
    λ undone. counts_lack g.D.Device file system c.count_lack.new.self mid c.count_lack.result runs_on refl refl
    (still_notes g.D.Device file system _ c.count_lack.new.self c.count_lack.new.self refl refl refl c.count_lack.ensures.full)
    c.count_lack.ensures.once

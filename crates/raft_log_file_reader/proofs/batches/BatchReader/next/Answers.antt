use Rattle.std.proofs.Common.{ap}
use Rattle.std.proofs.lemmas.Result.{err_from_is_err_and}
use Rattle.std.specs.Vec.Iter.{into_iter_items}
use Rattle.raft_log_file_reader.proofs.Steps.{came_to_next, refused_next, came_to_batch}
use Rattle.raft_log_file_reader.proofs.batches.BatchReader.next.Goals as goal

pub returns-in-Some-clause-ok : goal.returns-in-Some-clause-ok
returns-in-Some-clause-ok g c =
    let d = g.F.FileSystem.disk c.args.file_system.now in
    let reads = rw c.in-Some.is at c.in_ok-batch.ensures.ok in
    came_to_batch d _ c.args.self.now c.loop-batch.self c.read_on.new.self c.loop-batch.invariant (ap into_iter_items c.in_ok-batch.ensures.files) reads.goes_on

pub returns-in_err-open_next-clause-err : goal.returns-in_err-open_next-clause-err
returns-in_err-open_next-clause-err g c =
    let d = g.F.FileSystem.disk c.args.file_system.now in
    let e = c.in_err-open_next.field-0.0 in
    let ended = rw c.in_default.is at c.in_ok-batch.ensures.ok in
    let p = err_from_is_err_and c.from_residual-in_err-open_next.result c.from_residual-in_err-open_next.ensures.1 in
    rw (p.1, p.2) (refused_next d e c.args.self.now c.loop-batch.self c.read_on.new.self c.open_next.new.self c.loop-batch.invariant
    (ap into_iter_items c.in_ok-batch.ensures.files) ended c.in_err-open_next.ensures.err)

pub loop-batch-preserved : goal.loop-batch-preserved
loop-batch-preserved g c =
    let d = g.F.FileSystem.disk c.args.file_system.now in
    let ended = rw c.in_default.is at c.in_ok-batch.ensures.ok in
    let next = rw c.if-not-branch.false at c.in_ok-open_next.ensures.ok in
    came_to_next d c.args.self.now c.loop-batch.self c.read_on.new.self c.open_next.new.self c.loop-batch.invariant
    (ap into_iter_items c.in_ok-batch.ensures.files) ended next c.in_ok-open_next.ensures.reading

use Rattle.std.proofs.Common.{◌<◌, ◌∙◌, length, subst, ap, arith, map, Result, Bool}
use Rattle.std.specs.Result.{IfOk}
use Rattle.std.specs.String.{string_bytes}
use Rattle.std.proofs.lemmas.List.{take_all}
use Rattle.raft_log_record_base.specs.declared.errors.Error.{Error}
use Rattle.raft_log_file_pipe.specs.Placing.{AllLackRoom, LacksRoom, TellsRoom}
use Rattle.raft_log_file_pipe.proofs.Placing.{lacks_more}
use Rattle.raft_log_file_pipe.proofs.new_files.is_full.Goals as goal

pub loop-path_id-preserved : goal.loop-path_id-preserved
loop-path_id-preserved g c =
    let tells = g.F.FileSystem.tells_space c.args.file_system.now in
    let d = g.F.FileSystem.disk c.args.file_system.now in
    let inside : c.loop-path_id.path_id < length c.paths-paths.result.now = omega (arith, c.loop-path_id-test.true) in
    let told : TellsRoom tells d 1 c.deref.result.now c.in-Ok-false.field-0 = subst (λ (r : Result Bool Error). IfOk r (TellsRoom tells d 1 c.deref.result.now)) c.in-Ok-false.is c.has_room.ensures.ok in
    let lacks : LacksRoom tells d 1 c.deref.result.now = subst (TellsRoom tells d 1 c.deref.result.now) c.in-Ok-false.field-0-test told in
    lacks_more tells d 1 c.paths-paths.result.now c.loop-path_id.path_id c.index-paths-path_id.result inside c.index-paths-path_id.is c.loop-path_id.invariant
    (subst (LacksRoom tells d 1) c.deref.ensures lacks)

pub returns : goal.returns
returns g c said =
    let tells = g.F.FileSystem.tells_space c.args.file_system.now in
    let d = g.F.FileSystem.disk c.args.file_system.now in
    subst (AllLackRoom tells d 1)
    (ap (map string_bytes) (take_all c.loop-path_id.path_id c.paths-paths.result.now (omega (arith, c.loop-path_id-test.false))) ∙ c.paths-paths.ensures)
    c.loop-path_id.invariant

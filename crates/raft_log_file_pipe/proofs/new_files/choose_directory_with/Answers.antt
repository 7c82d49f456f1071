use Rattle.std.proofs.Common.{◌≡◌, ◌<◌, ◌-◌, ℕ, List, cond, true, false, length, subst, ◌∙◌, ap, arith}
use Rattle.std.specs.Str.{bytes_eq}
use Rattle.std.specs.String.{string_bytes}
use Rattle.raft_log_file_pipe.specs.Placing.{HasSpace, LacksRoom, TellsFreed, TellsRoom}
use Rattle.raft_log_file_pipe.proofs.Placing.{has_first, has_rest, lacks_more, lacks_rest}
use Rattle.raft_log_file_pipe.proofs.new_files.choose_directory_with.Goals as goal

pub returns-then-branch-clause-ok : goal.returns-then-branch-clause-ok
returns-then-branch-clause-ok g c =
    let tells = g.F.FileSystem.tells_space c.args.file_system.now in
    let own = c.args.freed.now.directory.now in
    let freed = c.args.freed.now.bytes in
    let d = g.F.FileSystem.disk c.args.file_system.now in
    let x = string_bytes c.index-paths-path_id.result in
    let inside : c.loop-path_id.path_id < length c.paths-paths.result.now = omega (arith, c.loop-path_id-test.true) in
    let rest_is : c.rest.result ≡ c.args.size - cond (bytes_eq x own) freed 0 = c.rest.ensures ∙ ap (λ (y : List ℕ). c.args.size - cond (bytes_eq y own) freed 0) c.deref-in-loop-path_id.ensures in
    let said : TellsRoom tells d c.rest.result x true = subst (λ (y : List ℕ). TellsRoom tells d c.rest.result y true) c.deref.ensures (subst (TellsRoom tells d c.rest.result c.deref.result.now) c.if-branch.true c.in_ok-has_room.ensures.ok) in
    has_first (TellsFreed tells own freed) d c.args.size c.paths-paths.result.now c.loop-path_id.path_id c.index-paths-path_id.result (g.G.PipeFormat.file_paths c.args.layout.now).directories c.paths-paths.ensures inside c.index-paths-path_id.is
    c.loop-path_id.invariant (has_rest tells own freed c.args.size x (subst (λ (n : ℕ). HasSpace tells n x) rest_is said))

pub loop-path_id-preserved : goal.loop-path_id-preserved
loop-path_id-preserved g c =
    let tells = g.F.FileSystem.tells_space c.args.file_system.now in
    let own = c.args.freed.now.directory.now in
    let freed = c.args.freed.now.bytes in
    let d = g.F.FileSystem.disk c.args.file_system.now in
    let x = string_bytes c.index-paths-path_id.result in
    let inside : c.loop-path_id.path_id < length c.paths-paths.result.now = omega (arith, c.loop-path_id-test.true) in
    let rest_is : c.rest.result ≡ c.args.size - cond (bytes_eq x own) freed 0 = c.rest.ensures ∙ ap (λ (y : List ℕ). c.args.size - cond (bytes_eq y own) freed 0) c.deref-in-loop-path_id.ensures in
    let said : TellsRoom tells d c.rest.result x false = subst (λ (y : List ℕ). TellsRoom tells d c.rest.result y false) c.deref.ensures (subst (TellsRoom tells d c.rest.result c.deref.result.now) c.if-branch.false c.in_ok-has_room.ensures.ok) in
    lacks_more (TellsFreed tells own freed) d c.args.size c.paths-paths.result.now c.loop-path_id.path_id c.index-paths-path_id.result inside c.index-paths-path_id.is c.loop-path_id.invariant
    (lacks_rest tells own freed c.args.size x d (subst (λ (n : ℕ). LacksRoom tells d n x) rest_is said))

use Rattle.std.proofs.Common.{◌≡◌, ◌+◌, ◌||◌, ℕ, Bool, List, sym, subst, ◌∙◌, arith}
use Rattle.std.proofs.lemmas.Result.{err_from_is_err_and}
use Rattle.raft_log_active_file.specs.declared.format.File.{File}
use Rattle.raft_log_recovery.specs.Making.{FailsToMake, Makes}
use Rattle.raft_log_recovery.proofs.Made.{HasMade, fewer_made, made_without_memory, made_more, made_none, made_short, no_memory}
use Rattle.raft_log_recovery.proofs.making.make_files.Goals as goal

pub loop-at-init : goal.loop-at-init
loop-at-init g c = made_none (g.F.FileSystem.disk) (g.F.FileSystem.tells_space) (g.G.PipeFormat.file_paths c.args.layout.now) c.args.bytes.now c.args.size c.args.first c.args.files.now.items c.args.file_system.now

pub returns-in_err-file-clause-err : goal.returns-in_err-file-clause-err
returns-in_err-file-clause-err g c =
    let D = g.F.FileSystem.disk in
    let T = g.F.FileSystem.tells_space in
    let paths = g.G.PipeFormat.file_paths c.args.layout.now in
    let old = c.args.file_system.now in
    let now = c.loop-at.file_system in
    let new = c.make_file.new.file_system in
    let e = c.in_err-file.field-0.0 in
    let gave = err_from_is_err_and c.from_residual.result c.from_residual.ensures.1 in
    let less = fewer_made e c.loop-at.at c.args.count (omega arith) in
    rw (gave.1, gave.2) (made_short D T paths c.args.bytes.now c.args.size c.args.first c.loop-at.at c.args.count c.args.files.now.items c.loop-at.files.items c.loop-at.full old now e new less c.loop-at.invariant
    (subst (λ (n : ℕ). FailsToMake D T paths c.args.size n e now new) c.saturating_add-seq.ensures c.in_err-file.ensures.err))

pub returns-in_err-push-clause-err : goal.returns-in_err-push-clause-err
returns-in_err-push-clause-err g c =
    let D = g.F.FileSystem.disk in
    let T = g.F.FileSystem.tells_space in
    let paths = g.G.PipeFormat.file_paths c.args.layout.now in
    let old = c.args.file_system.now in
    let now = c.loop-at.file_system in
    let new = c.make_file.new.file_system in
    let file = c.in_ok-file.file in
    let gave = err_from_is_err_and c.from_residual-in_err-push.result c.from_residual-in_err-push.ensures.1 in
    let less = made_without_memory _ (c.loop-at.at + 1) c.args.count gave.2 (omega arith) in
    let makes : Makes D T paths c.args.bytes.now c.args.size _ file c.in_ok-file.no_space now new = subst (λ (n : ℕ). Makes D T paths c.args.bytes.now c.args.size n file c.in_ok-file.no_space now new) c.saturating_add-seq.ensures c.in_ok-file.ensures.ok in
    rw gave.1 (made_short D T paths c.args.bytes.now c.args.size c.args.first (c.loop-at.at + 1) c.args.count c.args.files.now.items _ _ old new _ new less
    (made_more D T paths c.args.bytes.now c.args.size c.args.first c.loop-at.at c.args.files.now.items c.loop-at.files.items c.loop-at.full old now file c.in_ok-file.no_space new c.loop-at.invariant makes)
    (no_memory D T paths _ _ _ new gave.2))

pub loop-at-preserved : goal.loop-at-preserved
loop-at-preserved g c =
    let D = g.F.FileSystem.disk in
    let T = g.F.FileSystem.tells_space in
    let paths = g.G.PipeFormat.file_paths c.args.layout.now in
    let old = c.args.file_system.now in
    let now = c.loop-at.file_system in
    let new = c.make_file.new.file_system in
    let file = c.in_ok-file.file in
    let more = made_more D T paths c.args.bytes.now c.args.size c.args.first c.loop-at.at c.args.files.now.items c.loop-at.files.items c.loop-at.full old now file c.in_ok-file.no_space new c.loop-at.invariant
    (subst (λ (n : ℕ). Makes D T paths c.args.bytes.now c.args.size n file c.in_ok-file.no_space now new) c.saturating_add-seq.ensures c.in_ok-file.ensures.ok) in
    subst (λ (full : Bool). HasMade D T paths c.args.bytes.now c.args.size c.args.first (c.loop-at.at + 1) c.args.files.now.items c.push.new.self.items full old new) (sym c.either-full.ensures)
    (subst (λ (l : List File). HasMade D T paths c.args.bytes.now c.args.size c.args.first (c.loop-at.at + 1) c.args.files.now.items l (c.loop-at.full || c.in_ok-file.no_space) old new) (sym c.in_ok-push.ensures.items) more)

pub returns-clause-ok : goal.returns-clause-ok
returns-clause-ok g c =
    let has = c.loop-at.invariant in
    let all : c.loop-at.at ≡ c.args.count = omega arith in
    (has.made, has.behind, has.long ∙ all, has.makes)

use Rattle.std.specs.String.{string_bytes}
use Rattle.std.proofs.Common.{◌≡◌, ℕ, ◌+◌, ◌<◌, suc, List, [], ◌∷◌, ◌++◌, length, map, take, drop, sym, ◌∙◌, ap, arith}
use Rattle.std.proofs.lemmas.List.{append-nil}
use Rattle.std.proofs.lemmas.Result.{err_from_is_err_and}
use Rattle.raft_log_active_file.specs.Layout.{path_of}
use Rattle.raft_log_file_pipe.specs.Files.{Listed}
use Rattle.raft_log_file_pipe.specs.Purging.{staying, going}
use Rattle.raft_log_file_pipe.proofs.Raising.{item_here, none_left, part_fails}
use Rattle.raft_log_file_pipe.proofs.purging.part_files.Goals as goal

pub returns-in_err-left-clause-err : goal.returns-in_err-left-clause-err
returns-in_err-left-clause-err g c =
    let inside : c.loop-i.i < length c.args.files.now.items = omega (arith, c.loop-i-test.true, c.requires) in
    let p = err_from_is_err_and c.from_residual.result c.from_residual.ensures.1 in
    rw (p.1, p.2) (part_fails c.args.files.now.items c.index.result.now c.loop-i.i c.in_err-left.field-0.0 inside c.index.ensures c.in_err-left.ensures.err)

pub loop-i-preserved : goal.loop-i-preserved
loop-i-preserved g c =
    let all : List Listed = take c.args.count c.args.files.now.items in
    let up : suc c.loop-i.i ≡ c.loop-i.i + 1 = omega arith in
    let here : drop c.loop-i.i all ≡ c.index.result.now ∷ drop (c.loop-i.i + 1) all = item_here c.args.files.now.items c.args.count c.loop-i.i c.index.result.now c.loop-i-test.true c.requires c.index.ensures ∙ ap (λ (n : ℕ). c.index.result.now ∷ drop n all) up in (
      c.loop-i.invariant.0 ∙ ap (λ (fs : List Listed). c.loop-i.parted.kept.items ++ staying c.loop-i.left fs) here ∙ c.in_ok-left.ensures.kept (drop (c.loop-i.i + 1) all),
      c.loop-i.invariant.1 ∙ ap (λ (fs : List Listed). map string_bytes c.loop-i.parted.gone.items ++ map (path_of (g.G.PipeFormat.file_paths c.args.layout.now)) (going c.loop-i.left fs)) here ∙ c.in_ok-left.ensures.gone (drop (c.loop-i.i + 1) all),
    )

pub returns-clause-gone : goal.returns-clause-gone
returns-clause-gone g c =
    let all : List Listed = take c.args.count c.args.files.now.items in
    let none : drop c.loop-i.i all ≡ [] = none_left c.args.files.now.items c.args.count c.loop-i.i (omega (arith, c.loop-i-test.false)) in
    sym (c.loop-i.invariant.1 ∙ ap (λ (fs : List Listed). map string_bytes c.loop-i.parted.gone.items ++ map (path_of (g.G.PipeFormat.file_paths c.args.layout.now)) (going c.loop-i.left fs)) none ∙ append-nil (map string_bytes c.loop-i.parted.gone.items))

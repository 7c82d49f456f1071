use Rattle.std.proofs.Common.{◌≡◌, ◌<◌, ◌+◌, List, length, get_or, set, sym, ◌∙◌, subst, arith}
use Rattle.raft_log_active_file.specs.declared.format.File.{File}
use Rattle.raft_log_recovery.proofs.Formats.{no_ending, no_file, so_far, so_far_all, so_far_more}
use Rattle.raft_log_recovery.proofs.finishing.set_formats.Goals as goal

pub loop-index-preserved : goal.loop-index-preserved
loop-index-preserved c =
    let i = c.loop-index.index in
    let endings = c.args.endings.now in
    let files = c.args.files.now in
    let told : i < length endings = omega arith in
    let there : i < length files = omega (arith, c.requires) in
    subst (λ (l : List File). set l i (record (get_or l i no_file) { format = (get_or endings i no_ending).format }) ≡ so_far (i + 1) endings files) (sym c.loop-index.invariant)
    (so_far_more i endings files no_ending no_file told there)

pub returns : goal.returns
returns c =
    let all : c.loop-index.index ≡ length c.args.endings.now = omega arith in
    c.loop-index.invariant ∙ so_far_all c.loop-index.index c.args.endings.now c.args.files.now all

use Rattle.std.proofs.Common.{rules, List, subst}
use Rattle.std.specs.Prelude.{IfErr}
use Rattle.std.proofs.lemmas.Result.{IfErr-weaker}
use Rattle.raft_log_active_file.specs.declared.format.File.{File}
use Rattle.raft_log_recovery.specs.Cutting.{CutsEach, FailsToCutEach}
use Rattle.raft_log_recovery.specs.ForReading.FailsToCutBoth.{rewrite}
use Rattle.raft_log_recovery.specs.Recovering.{append_files, rewrite_files}
use Rattle.raft_log_recovery.proofs.builder.DualPipesBuilder.cut_both.Goals as goal

pub returns-clause-err : goal.returns-clause-err
returns-clause-err g c =
    let D = g.F.FileSystem.disk in
    let b = c.args.self.now in
    let between = D c.cut_files.new.file_system in
    let cuts : CutsEach (append_files b) c.args.append.now (D c.args.file_system.now) between = search rules in
    let fails : IfErr c.cut_files-2.result (λ kind. FailsToCutEach (rewrite_files b) c.args.rewrite.now kind between (D c.cut_files-2.new.file_system)) =
    subst (λ (fs : List File). IfErr c.cut_files-2.result (λ kind. FailsToCutEach fs c.args.rewrite.now kind between (D c.cut_files-2.new.file_system))) c.deref-2.ensures.value c.cut_files-2.ensures.err in
    IfErr-weaker c.cut_files-2.result _ _ (λ kind why. rewrite between cuts why) fails

use Rattle.std.proofs.Common.{rules, length, refl, sym, ap, subst, arith}
use Rattle.std.proofs.lemmas.Result.{err_from_is_err_and}
use Rattle.raft_log_recovery.specs.ForReading.{FailsToCutBoth}
use Rattle.raft_log_recovery.specs.Unaligned.{AreUnaligned}
use Rattle.raft_log_recovery.specs.Recovering.FailsToRecoverLog.{aligned}
use Rattle.raft_log_recovery.proofs.ForReading.{not_cut, not_read, queues_fit, read_both}
use Rattle.raft_log_recovery.proofs.builder.DualPipesBuilder.recover_in_turn.Goals.{then-not-have_no_padding-via-then-not-have_no_padding, then-not-have_no_padding-via-else-not-have_no_padding+then-not-have_no_padding-2}
use Rattle.raft_log_recovery.proofs.builder.DualPipesBuilder.recover_in_turn.Goals as goal

pub returns-in_err-append-clause-err : goal.returns-in_err-append-clause-err
returns-in_err-append-clause-err g c =
    let gave = err_from_is_err_and c.from_residual.result c.from_residual.ensures.1 in
    rw (gave.1, gave.2) (not_read _ _ _ _ _ c.in_err-append.ensures.err)

pub cut_both-requires : goal.cut_both-requires
cut_both-requires g c =
    let fit = queues_fit _ c.args.self.now (g.F.FileSystem.disk c.args.file_system.now) c.in_ok-append.append.machine c.in_ok-append.rewrite.machine c.in_ok-append.append.endings.items
    c.in_ok-append.rewrite.endings.items c.in_ok-append.ensures.ok in
    (omega (arith, fit.0, ap length c.deref-2.ensures.value), omega (arith, fit.1, ap length c.deref-3.ensures.value))

pub returns-in_err-cut_both-clause-err : goal.returns-in_err-cut_both-clause-err
returns-in_err-cut_both-clause-err g c =
    let D = g.F.FileSystem.disk in
    let b = c.args.self.now in
    let es = c.in_ok-append.append.endings.items in
    let fs = c.in_ok-append.rewrite.endings.items in
    let m = c.in_ok-append.append.machine in
    let n = c.in_ok-append.rewrite.machine in
    let kind = c.in_err-cut_both.field-0.0 in
    let gave = err_from_is_err_and c.from_residual-in_err-cut_both.result c.from_residual-in_err-cut_both.ensures.1 in
    let one : AreUnaligned es = search rules in
    let other : AreUnaligned fs = search rules in
    let fails : FailsToCutBoth b es fs kind (D c.args.file_system.now) (D c.cut_both.new.file_system) = search rules in
    rw gave.1 (not_cut _ b (D c.args.file_system.now) _ _ m n es fs kind (D c.cut_both.new.file_system) (read_both _ b _ m n es fs c.in_ok-append.ensures.ok one other) gave.2 fails)

pub returns-then-not-have_no_padding-clause-err : goal.returns-then-not-have_no_padding-clause-err
returns-then-not-have_no_padding-clause-err g c =
    let es = c.in_ok-append.append.endings.items in
    let fs = c.in_ok-append.rewrite.endings.items in
    let m = c.in_ok-append.append.machine in
    let n = c.in_ok-append.rewrite.machine in
    let some : AreUnaligned es × AreUnaligned fs → ⊥ = λ all. elim c.then-not-have_no_padding.branch [
      | then-not-have_no_padding-via-then-not-have_no_padding w ↦
          (let yes = c.have_no_padding.ensures.1 (subst AreUnaligned (sym c.deref.ensures.value) all.0) in let no = w.if-not-have_no_padding.true in cc)
      | then-not-have_no_padding-via-else-not-have_no_padding+then-not-have_no_padding-2 w ↦
          (let yes = w.have_no_padding-else-not-have_no_padding.ensures.1 (subst AreUnaligned (sym w.deref-else-not-have_no_padding.ensures.value) all.1) in let no = w.if-not-have_no_padding-2.true in cc)
    ] in
    aligned m n es fs c.in_ok-append.ensures.ok.append_read c.in_ok-append.ensures.ok.rewrite_read refl some c.aligned.ensures

use Rattle.std.proofs.Common.{rules, ◌≡◌, ℕ, List, sym, subst, ◌∙◌}
use Rattle.std.specs.Prelude.{codes}
use Rattle.std.proofs.lemmas.Bool.{false≢true}
use Rattle.std.proofs.lemmas.Result.{err_from_is_err_and}
use Rattle.raft_log_file_settings.specs.Sanitized.{IsRefusedFor, HasNoFault}
use Rattle.raft_log_file_settings.specs.Settings.{Settings, settings_of, directories_of}
use Rattle.raft_log_file_settings.specs.declared.recovery_mode.RecoveryMode.TheVariants.{TolerateAnyCorruption}
use Rattle.raft_log_offline.specs.Forks.{HoldsLogFile, IsFree, LiesInOne, MayBeCopied, holds}
use Rattle.raft_log_offline.proofs.Permitting.{told, told_unsound}
use Rattle.raft_log_offline.proofs.permission.permit.Goals as goal

pub returns-then-branch-clause-err : goal.returns-then-branch-clause-err
returns-then-branch-clause-err g c =
    let d = g.F.FileSystem.disk c.args.file_system.now in
    let s = settings_of c.args.config.now in
    let target = c.args.target.now in
    let mode : s.recovery_mode ≡ TolerateAnyCorruption → ⊥ = search rules in
    let settings : MayBeCopied s = record { recycle = c.if-config.false; mode = mode } in
    let outside : LiesInOne (directories_of s) target → ⊥ =
    λ lies. false≢true (sym c.if-lies_in_one.false ∙ c.lies_in_one.ensures.1 (subst (λ (l : List (List ℕ)). LiesInOne l target) (sym c.requires) lies)) in
    told s target d (codes "the target holds log files") _ c.invalid-then-branch.ensures
    (λ text is. holds settings outside (c.in_ok-holds_log_file.ensures.ok.0 c.if-branch.true) is)

pub returns-in_err-sanitize-clause-err : goal.returns-in_err-sanitize-clause-err
returns-in_err-sanitize-clause-err g c =
    let gave = err_from_is_err_and c.from_residual-in_err-sanitize.result c.from_residual-in_err-sanitize.ensures.1 in
    let d = g.F.FileSystem.disk c.args.file_system.now in
    let s = settings_of c.args.config.now in
    let target = c.args.target.now in
    let mode : s.recovery_mode ≡ TolerateAnyCorruption → ⊥ = search rules in
    let settings : MayBeCopied s = record { recycle = c.if-config.false; mode = mode } in
    let outside : LiesInOne (directories_of s) target → ⊥ =
    λ lies. false≢true (sym c.if-lies_in_one.false ∙ c.lies_in_one.ensures.1 (subst (λ (l : List (List ℕ)). LiesInOne l target) (sym c.requires) lies)) in
    let empty : HoldsLogFile target d → ⊥ = λ has. false≢true (sym c.if-branch.false ∙ c.in_ok-holds_log_file.ensures.ok.1 has) in
    let free : IsFree s target d = record { settings = settings; outside = outside; empty = empty } in
    let same : settings_of c.in_ok-settings.settings ≡ s = c.in_ok-settings.ensures.ok in
    rw (gave.1, gave.2) (told_unsound s target d _ free (subst (λ (t : Settings). IsRefusedFor t c.in_err-sanitize.field-0.0) same c.in_err-sanitize.ensures.errors))

pub returns-clause-ok : goal.returns-clause-ok
returns-clause-ok g c =
    let d = g.F.FileSystem.disk c.args.file_system.now in
    let s = settings_of c.args.config.now in
    let target = c.args.target.now in
    let mode : s.recovery_mode ≡ TolerateAnyCorruption → ⊥ = search rules in
    let settings : MayBeCopied s = record { recycle = c.if-config.false; mode = mode } in
    let outside : LiesInOne (directories_of s) target → ⊥ =
    λ lies. false≢true (sym c.if-lies_in_one.false ∙ c.lies_in_one.ensures.1 (subst (λ (l : List (List ℕ)). LiesInOne l target) (sym c.requires) lies)) in
    let empty : HoldsLogFile target d → ⊥ = λ has. false≢true (sym c.if-branch.false ∙ c.in_ok-holds_log_file.ensures.ok.1 has) in
    let same : settings_of c.in_ok-settings.settings ≡ s = c.in_ok-settings.ensures.ok in
    (record { settings = settings; outside = outside; empty = empty }, subst HasNoFault same c.in_ok-sanitize.ensures.ok)

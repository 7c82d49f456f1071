use Rattle.std.specs.Prelude.{None, Option}
use Rattle.std.proofs.Common.{◌≡◌, ℕ, ◌+◌, ◌-◌, ◌^◌, suc, min, sym, ap, subst, ◌∙◌, arith}
use Rattle.raft_log_active_file.specs.declared.format.File.{File}
use Rattle.raft_log_recovery.specs.Readying.{number_behind}
use Rattle.raft_log_recovery.proofs.Last.{last_is}
use Rattle.raft_log_recovery.proofs.readying.next_number.Goals as goal

pub returns-in-Some : goal.returns-in-Some
returns-in-Some c =
    let last = last_is None c.args.files.now c.in-Some.file.now (sym c.in-Some.ensures.value) in
    let next : c.in-Some.file.now.seq + 1 ≡ suc c.in-Some.file.now.seq = omega arith in
    subst (λ (o : Option File). c.saturating_add.result ≡ number_behind o) (sym last) (c.saturating_add.ensures ∙ ap (λ (n : ℕ). min n (2 ^ 64 - 1)) next)

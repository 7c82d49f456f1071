use Rattle.std.proofs.Common.{ℕ, List, rules, refl, subst, ◌∙◌}
use Rattle.std.proofs.lemmas.Result.{err_from_is_err_and}
use Rattle.raft_log_fs.specs.Calls.{Creates}
use Rattle.raft_log_fs.specs.Exits.{FailsToCreate}
use Rattle.raft_log_recovery.proofs.making.make_file.Goals as goal

pub returns-in_err-file-clause-err : goal.returns-in_err-file-clause-err
returns-in_err-file-clause-err g c =
    let D = g.F.FileSystem.disk in
    let gave = err_from_is_err_and c.from_residual-in_err-file.result c.from_residual-in_err-file.ensures.1 in
    let kind = c.in_err-file.field-0.0 in
    let fails = subst (λ (p : List ℕ). FailsToCreate p kind (D c.args.file_system.now) (D c.create.new.self)) (c.as_str.ensures.value ∙ c.in_ok-path.ensures.ok) c.in_err-file.ensures.err in
    rw (gave.1, gave.2) (c.in_ok-path.ensures.named, (c.in_ok-choose_directory.field-0, c.in_ok-choose_directory.ensures.ok, fails))

pub returns-clause-ok : goal.returns-clause-ok
returns-clause-ok g c =
    let D = g.F.FileSystem.disk in
    record {
      number = refl;
      small = c.in_ok-path.ensures.named;
      reserved = refl;
      format = search rules;
      permitted = c.in_ok-file.ensures.permission;
      placed = c.in_ok-choose_directory.ensures.ok;
      created = D c.create.new.self;
      creates = subst (λ (p : List ℕ). Creates p c.in_ok-file.field-0.file (D c.args.file_system.now) (D c.create.new.self)) (c.as_str.ensures.value ∙ c.in_ok-path.ensures.ok) c.in_ok-file.ensures.ok;
      fills = c.fill_or_not-full.ensures;
    }

use Rattle.std.proofs.Common.{◌≡◌, ℕ, false, IsTrue, Option, Some, inr, inl, sym, subst, ◌∙◌}
use Rattle.std.proofs.lemmas.Result.{err_from_is_err_and}
use Rattle.raft_log_record_base.specs.declared.errors.Error.{Error}
use Rattle.raft_log_file_reader.specs.Reader.{honest_of}
use Rattle.raft_log_recovery_read.specs.Handed.{WasHanded}
use Rattle.raft_log_recovery_read.specs.Naming.{NamesDamage}
use Rattle.raft_log_recovery_read.specs.Reading.{FileReading}
use Rattle.raft_log_recovery_read.specs.Tolerance.{FailsToReadFound, IsTolerated, ReadsFound, tolerates}
use Rattle.raft_log_recovery_read.specs.declared.found_file.FoundFile.{FoundFile}
use Rattle.raft_log_recovery_read.proofs.ResultLemmas.{err_then, ok_then}
use Rattle.raft_log_recovery_read.proofs.tolerance.read_found.Goals as goal

pub returns-in_err-found-clause-err : goal.returns-in_err-found-clause-err
returns-in_err-found-clause-err g c =
    let gave = err_from_is_err_and c.from_residual.result c.from_residual.ensures.1 in
    rw (gave.1, gave.2) (λ honest. inl (c.in_err-found.ensures.err honest))

pub returns-clause-ok : goal.returns-clause-ok
returns-clause-ok g c =
    let file = c.args.file in
    let d = g.F.FileSystem.disk c.args.file_system.now in
    let Found : FoundFile → Type 0 = λ found. IsTrue (honest_of c.read_file.new.reader) → (reading : FileReading) × ReadsFound c.args.mode file.is_last file.id file.handle d reading
    × WasHanded (g.M.ReplayMachine.reads file.id.queue) (g.M.ReplayMachine.declines file.id.queue) file.id c.args.machine.now c.read_file.new.machine reading found in
    ok_then c.accept.result (λ same. (same ≡ c.in_ok-found.found) × IsTolerated c.args.mode file.is_last c.in_ok-found.found.fault) Found c.accept.ensures.ok
    (λ found same. subst Found (sym same.0) (λ honest.
    let (read, reads, handed) = c.in_ok-found.ensures.ok honest in
    (read, record { reads = reads; native = c.in_ok-found.ensures.native honest; tolerated = subst (λ (o : Option Error). IsTolerated c.args.mode file.is_last o) handed.fault same.1 }, handed)))

pub returns-clause-err : goal.returns-clause-err
returns-clause-err g c =
    let file = c.args.file in
    let found = c.in_ok-found.found in
    err_then c.accept.result
    (λ error. (fault : Error) × (found.fault ≡ Some fault) × NamesDamage file.id found.end fault error × (tolerates c.args.mode file.is_last ≡ false))
    (λ error. IsTrue (honest_of c.read_file.new.reader) → FailsToReadFound c.args.mode file.is_last file.id file.handle (g.F.FileSystem.disk c.args.file_system.now) error) c.accept.ensures.err
    (λ error told honest.
    let (read, reads, handed) = c.in_ok-found.ensures.ok honest in
    let (fault, is, names, strict) = told in
    inr (record {
      read = read;
      reads = reads;
      native = c.in_ok-found.ensures.native honest;
      fault = fault;
      is = sym handed.fault ∙ is;
      names = subst (λ (end : Option ℕ). NamesDamage file.id end fault error) handed.end names;
      strict = strict;
    }))

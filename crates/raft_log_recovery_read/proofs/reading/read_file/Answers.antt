use Rattle.std.proofs.Common.{◌∙◌, inl, [], Option, Some, None, refl, sym, subst}
use Rattle.std.proofs.lemmas.Result.{err_from_is_err_and}
use Rattle.raft_log_record_base.specs.Fault.Fault.{corrupt}
use Rattle.raft_log_record_base.specs.declared.errors.Error.{Error}
use Rattle.raft_log_fs.specs.declared.handle.Handle.{Handle}
use Rattle.raft_log_file_reader.specs.Source.{bytes_in, bytes_of}
use Rattle.raft_log_file_reader.specs.Reader.{end_of}
use Rattle.raft_log_file_reader.specs.declared.open_file.OpenFile.{OpenFile}
use Rattle.raft_log_file_format.specs.Header.{first_format}
use Rattle.raft_log_recovery_read.specs.Faults.{TellsFault}
use Rattle.raft_log_recovery_read.specs.Batches.{HasTaken, said}
use Rattle.raft_log_recovery_read.specs.Reading.{FailsToRead, FileReading, IsTornHeader, ReadsBytes, torn_header}
use Rattle.raft_log_recovery_read.specs.Reading.ReadsBytes.{headed, headless, torn}
use Rattle.raft_log_recovery_read.specs.Foreign.{StopsAtNoForeign}
use Rattle.raft_log_recovery_read.proofs.ForeignFiles.{headless_native, native_is, refused_as}
use Rattle.raft_log_recovery_read.proofs.FaultLemmas.{file_unread, header_damaged, header_unread}
use Rattle.raft_log_recovery_read.proofs.Handing.{takes_none}
use Rattle.raft_log_recovery_read.proofs.reading.read_file.Goals as goal

pub returns-else-has_torn_header-clause-ok : goal.returns-else-has_torn_header-clause-ok
returns-else-has_torn_header-clause-ok g c = λ honest.
    let kept_honest = c.in_ok-refuse_foreign-in-Ok.ensures.receipts.falls honest in
    let first = c.in_ok-behind-in-Ok.ensures.receipts.falls kept_honest in
    let d = g.F.FileSystem.disk c.args.file_system.now in
    let id = c.args.file.id in
    let last = c.args.file.is_last in
    let opens = c.in-Ok.ensures.ok in
    let file : OpenFile = record { id = id; source = opens.source; format = c.in-Ok.format } in
    let stands = c.in_ok-behind-in-Ok.ensures.ok file opens.opened kept_honest in
    let behind = c.in_ok-behind-in-Ok.behind in
    let read : FileReading = record { format = c.in-Ok.format; batches = stands.batches; end = Some behind.end; fault = behind.fault } in
    let whole : IsTornHeader last c.in-Ok.format stands.batches → ⊥ = λ is.
    (let yes = c.has_torn_header.ensures.1 (is.0, is.1, (stands.bare is.0).1 is.2) in
    let no = c.if-has_torn_header.false in cc) in (
      read,
      subst (λ (h : Handle). ReadsBytes last id (bytes_in (d.files h.file)) read) opens.reads_by
          (headed file (end_of c.open.new.self) behind.end stands.fault refl (opens.header first) stands.has whole stands.tells refl refl),
      record { format = refl; end = refl; fault = refl; taken = stands.taken },
    )

pub returns-then-has_torn_header-clause-ok : goal.returns-then-has_torn_header-clause-ok
returns-then-has_torn_header-clause-ok g c = λ honest.
    let kept_honest = c.in_ok-refuse_foreign-in-Ok.ensures.receipts.falls honest in
    let first = c.in_ok-behind-in-Ok.ensures.receipts.falls kept_honest in
    let d = g.F.FileSystem.disk c.args.file_system.now in
    let id = c.args.file.id in
    let last = c.args.file.is_last in
    let opens = c.in-Ok.ensures.ok in
    let file : OpenFile = record { id = id; source = opens.source; format = c.in-Ok.format } in
    let stands = c.in_ok-behind-in-Ok.ensures.ok file opens.opened kept_honest in
    let behind = c.in_ok-behind-in-Ok.behind in
    let told = c.has_torn_header.ensures.0 c.if-has_torn_header.true in
    let bad : IsTornHeader last c.in-Ok.format stands.batches = (told.0, told.1, (stands.bare told.0).0 told.2) in
    let read : FileReading = record { format = first_format; batches = stands.batches; end = None; fault = Some c.in_ok-fault-in-Ok.fault } in (
      read,
      subst (λ (h : Handle). ReadsBytes last id (bytes_in (d.files h.file)) read) opens.reads_by
          (torn file (end_of c.open.new.self) behind.end stands.fault refl (opens.header first) stands.has bad (corrupt torn_header, refl, c.in_ok-fault-in-Ok.ensures.ok) refl refl),
      record { format = c.without_header.ensures.format; end = c.without_header.ensures.end; fault = c.without_header.ensures.fault; taken = subst (λ (o : Option Error). HasTaken (g.M.ReplayMachine.reads id.queue) (g.M.ReplayMachine.declines id.queue) (said id stands.batches) c.args.machine.now c.read_behind.new.machine o) (sym c.without_header.ensures.declined) stands.taken },
    )

pub returns-in_ok-fault-in-Err-clause-ok : goal.returns-in_ok-fault-in-Err-clause-ok
returns-in_ok-fault-in-Err-clause-ok g c = λ honest.
    let d = g.F.FileSystem.disk c.args.file_system.now in
    let id = c.args.file.id in
    let same = c.in_ok-fault-in-Err.ensures.ok in
    let damaged = header_damaged c.args.file.handle d c.in-Err.error (c.in-Err.ensures.err honest) same.1 in
    let tells = subst (λ (e : Error). TellsFault e damaged.0) (sym same.0) damaged.1 in
    let read : FileReading = record { format = first_format; batches = []; end = None; fault = Some c.in_ok-fault-in-Err.fault } in (
      read,
      headless damaged.0 damaged.2 (damaged.0, refl, tells) refl refl refl,
      record {
        format = c.without_header-in-Err.ensures.format;
        end = c.without_header-in-Err.ensures.end;
        fault = c.without_header-in-Err.ensures.fault;
        taken = subst (λ (o : Option Error). HasTaken (g.M.ReplayMachine.reads id.queue) (g.M.ReplayMachine.declines id.queue) (said id []) c.args.machine.now c.args.machine.now o) (sym c.without_header-in-Err.ensures.declined)
            (takes_none (g.M.ReplayMachine.reads id.queue) c.args.machine.now);
      },
    )

pub returns-in_err-behind-in-Ok-clause-err : goal.returns-in_err-behind-in-Ok-clause-err
returns-in_err-behind-in-Ok-clause-err g c =
    let d = g.F.FileSystem.disk c.args.file_system.now in
    let opens = c.in-Ok.ensures.ok in
    let file : OpenFile = record { id = c.args.file.id; source = opens.source; format = c.in-Ok.format } in
    let e = c.in_err-behind-in-Ok.field-0.0 in
    let gave = err_from_is_err_and c.from_residual.result c.from_residual.ensures.1 in
    rw (gave.1, gave.2) (λ honest. inl (file_unread opens.source c.args.file.handle d e opens.reads_by opens.size (c.in_err-behind-in-Ok.ensures.err file opens.opened honest)))

pub returns-in_err-fault-in-Err-clause-err : goal.returns-in_err-fault-in-Err-clause-err
returns-in_err-fault-in-Err-clause-err g c =
    let d = g.F.FileSystem.disk c.args.file_system.now in
    let other = c.in_err-fault-in-Err.ensures.err in
    let gave = err_from_is_err_and c.from_residual-in_err-fault-in-Err.result c.from_residual-in_err-fault-in-Err.ensures.1 in
    rw (gave.1, gave.2) (λ honest.
    let unread = header_unread c.args.file.handle d c.in-Err.error (c.in-Err.ensures.err honest) other.1 in
    inl (subst (λ (e : Error). FailsToRead c.args.file.handle d e) (sym other.0) unread))

-- The reader is where the last good record ends.

pub refuse_foreign-requires-clause-inside : goal.refuse_foreign-requires-clause-inside
refuse_foreign-requires-clause-inside g c = c.in_ok-behind-in-Ok.ensures.kept.inside

pub returns-else-has_torn_header-clause-native : goal.returns-else-has_torn_header-clause-native
returns-else-has_torn_header-clause-native g c = λ honest.
    let kept_honest = c.in_ok-refuse_foreign-in-Ok.ensures.receipts.falls honest in
    let first = c.in_ok-behind-in-Ok.ensures.receipts.falls kept_honest in
    let d = g.F.FileSystem.disk c.args.file_system.now in
    let id = c.args.file.id in
    let last = c.args.file.is_last in
    let opens = c.in-Ok.ensures.ok in
    let file : OpenFile = record { id = id; source = opens.source; format = c.in-Ok.format } in
    let stands = c.in_ok-behind-in-Ok.ensures.ok file opens.opened kept_honest in
    let other = c.in_ok-refuse_foreign-in-Ok.ensures.ok file (c.in_ok-behind-in-Ok.ensures.kept.same ∙ opens.opened) honest in
    subst (λ (h : Handle). StopsAtNoForeign last id (bytes_in (d.files h.file))) opens.reads_by
    (native_is last id (bytes_of opens.source d) file (end_of c.open.new.self) c.in_ok-behind-in-Ok.behind.end stands.batches stands.fault refl (opens.header first) stands.has other)

pub returns-then-has_torn_header-clause-native : goal.returns-then-has_torn_header-clause-native
returns-then-has_torn_header-clause-native g c = λ honest.
    let kept_honest = c.in_ok-refuse_foreign-in-Ok.ensures.receipts.falls honest in
    let first = c.in_ok-behind-in-Ok.ensures.receipts.falls kept_honest in
    let d = g.F.FileSystem.disk c.args.file_system.now in
    let id = c.args.file.id in
    let last = c.args.file.is_last in
    let opens = c.in-Ok.ensures.ok in
    let file : OpenFile = record { id = id; source = opens.source; format = c.in-Ok.format } in
    let stands = c.in_ok-behind-in-Ok.ensures.ok file opens.opened kept_honest in
    let other = c.in_ok-refuse_foreign-in-Ok.ensures.ok file (c.in_ok-behind-in-Ok.ensures.kept.same ∙ opens.opened) honest in
    subst (λ (h : Handle). StopsAtNoForeign last id (bytes_in (d.files h.file))) opens.reads_by
    (native_is last id (bytes_of opens.source d) file (end_of c.open.new.self) c.in_ok-behind-in-Ok.behind.end stands.batches stands.fault refl (opens.header first) stands.has other)

pub returns-in_ok-fault-in-Err-clause-native : goal.returns-in_ok-fault-in-Err-clause-native
returns-in_ok-fault-in-Err-clause-native g c = λ honest.
    let d = g.F.FileSystem.disk c.args.file_system.now in
    let same = c.in_ok-fault-in-Err.ensures.ok in
    let damaged = header_damaged c.args.file.handle d c.in-Err.error (c.in-Err.ensures.err honest) same.1 in
    headless_native c.args.file.is_last c.args.file.id (bytes_in (d.files c.args.file.handle.file)) damaged.0 damaged.2

-- It isn't read, or a foreign record is told.

pub returns-in_err-refuse_foreign-in-Ok-clause-err : goal.returns-in_err-refuse_foreign-in-Ok-clause-err
returns-in_err-refuse_foreign-in-Ok-clause-err g c =
    let d = g.F.FileSystem.disk c.args.file_system.now in
    let id = c.args.file.id in
    let last = c.args.file.is_last in
    let opens = c.in-Ok.ensures.ok in
    let file : OpenFile = record { id = id; source = opens.source; format = c.in-Ok.format } in
    let e = c.in_err-refuse_foreign-in-Ok.field-0.0 in
    let gave = err_from_is_err_and c.from_residual-in_err-refuse_foreign-in-Ok.result c.from_residual-in_err-refuse_foreign-in-Ok.ensures.1 in
    rw (gave.1, gave.2) (λ honest.
    let kept_honest = c.in_err-refuse_foreign-in-Ok.ensures.receipts.falls honest in
    let first = c.in_ok-behind-in-Ok.ensures.receipts.falls kept_honest in
    let stands = c.in_ok-behind-in-Ok.ensures.ok file opens.opened kept_honest in
    let why = c.in_err-refuse_foreign-in-Ok.ensures.err file (c.in_ok-behind-in-Ok.ensures.kept.same ∙ opens.opened) honest in
    refused_as last id c.args.file.handle d file (end_of c.open.new.self) c.in_ok-behind-in-Ok.behind.end stands.batches stands.fault e refl opens.reads_by opens.size (opens.header first) stands.has why)

-- On a truthful file system all reads were honest.

pub returns-else-has_torn_header-clause-receipts : goal.returns-else-has_torn_header-clause-receipts
returns-else-has_torn_header-clause-receipts g c = λ truth.
    c.in_ok-refuse_foreign-in-Ok.ensures.receipts.stays truth (c.in_ok-behind-in-Ok.ensures.receipts.stays truth (c.in-Ok.ensures.receipts truth))

pub returns-then-has_torn_header-clause-receipts : goal.returns-then-has_torn_header-clause-receipts
returns-then-has_torn_header-clause-receipts g c = λ truth.
    c.in_ok-refuse_foreign-in-Ok.ensures.receipts.stays truth (c.in_ok-behind-in-Ok.ensures.receipts.stays truth (c.in-Ok.ensures.receipts truth))

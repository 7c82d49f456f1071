use Rattle.std.proofs.Common.{◌≡◌, ℕ, [], ◌∷◌, ◌++◌, Some, None, refl, sym, subst, ◌∙◌}
use Rattle.raft_log_file_reader.specs.Source.{bytes_of}
use Rattle.raft_log_file_reader.specs.Batches.{HasNoMore}
use Rattle.raft_log_file_reader.specs.Reader.{end_of}
use Rattle.raft_log_file_reader.specs.declared.open_file.OpenFile.{OpenFile}
use Rattle.raft_log_recovery_read.specs.Records.{HasRecords, IsRecordTorn}
use Rattle.raft_log_recovery_read.proofs.Handing.{takes_none}
use Rattle.raft_log_recovery_read.proofs.WorkLemmas.{end_inside, one_at_least, records_go_on}
use Rattle.raft_log_recovery_read.proofs.behind.read_last.Goals as goal

pub loop-declined-init : goal.loop-declined-init
loop-declined-init g c = (
  [],
  record { reading = c.requires.reading; same = refl; file = c.requires.open.0; opened = c.requires.open.1; has = λ honest. refl },
  (λ bare. refl, λ none. cc),
  takes_none (g.M.ReplayMachine.reads c.args.id.queue) c.args.machine.now,
  record { falls = λ honest. honest; stays = λ truth honest. honest },
)

pub loop-declined-preserved : goal.loop-declined-preserved
loop-declined-preserved g c =
    let (batches, work, bare, handed, receipts) = c.loop-declined.invariant in
    let content = bytes_of work.file.source (g.F.FileSystem.disk c.args.file_system.now) in
    let start = end_of c.args.reader.now in
    let end = end_of c.next_record.new.reader in
    let items = c.in-Batch.items in
    let taken = rw c.in-Batch.is at (c.in_ok-items.ensures.ok work.file work.opened) in (
      batches ++ items.items ∷ [],
      record {
        reading = c.next_record.ensures.reading;
        same = c.next_record.ensures.file ∙ work.same;
        file = work.file;
        opened = c.next_record.ensures.file ∙ work.opened;
        has = λ honest. records_go_on work.file content start (end_of c.loop-declined.reader) end batches items.items (work.has (c.in_ok-items.ensures.receipts.falls honest)) (taken.0 honest);
      },
      (λ is. (let never : ⊥ = cc in absurd never), λ none. absurd (one_at_least batches items.items none)),
      c.take-declined.ensures c.args.machine.now batches handed,
      record { falls = λ honest. receipts.falls (c.in_ok-items.ensures.receipts.falls honest); stays = λ truth honest. c.in_ok-items.ensures.receipts.stays truth (receipts.stays truth honest) },
    )

pub returns-in-End-clause-ok : goal.returns-in-End-clause-ok
returns-in-End-clause-ok g c = λ file opened honest.
    let d = g.F.FileSystem.disk c.args.file_system.now in
    let (batches, work, bare, handed, receipts) = c.loop-declined.invariant in
    let start = end_of c.args.reader.now in
    let was = work.opened in
    let kept = work.same in
    let same : work.file ≡ file = cc in
    let found = rw c.in-End.is at (c.in_ok-items.ensures.ok work.file work.opened) in
    let none = found honest in
    let has = work.has (c.in_ok-items.ensures.receipts.falls honest) in
    let there = subst (λ (n : ℕ). HasRecords work.file (bytes_of work.file.source d) start batches n × HasNoMore work.file (bytes_of work.file.source d) n) (sym c.valid_offset-end.ensures) (has, none) in
    record {
      batches = batches;
      fault = None;
      tells = refl;
      has = subst (λ (f : OpenFile). HasRecords f (bytes_of f.source d) start batches c.valid_offset-end.result × HasNoMore f (bytes_of f.source d) c.valid_offset-end.result) same there;
      bare = λ last. bare;
      taken = handed;
    }

pub returns-in-Fault-clause-ok : goal.returns-in-Fault-clause-ok
returns-in-Fault-clause-ok g c = λ file opened honest.
    let d = g.F.FileSystem.disk c.args.file_system.now in
    let (batches, work, bare, handed, receipts) = c.loop-declined.invariant in
    let start = end_of c.args.reader.now in
    let was = work.opened in
    let kept = work.same in
    let same : work.file ≡ file = cc in
    let told = rw c.in-Fault.is at (c.in_ok-items.ensures.ok work.file work.opened) in
    let found = told honest in
    let has = work.has (c.in_ok-items.ensures.receipts.falls honest) in
    let there = subst (λ (n : ℕ). HasRecords work.file (bytes_of work.file.source d) start batches n × IsRecordTorn work.file (bytes_of work.file.source d) n found.0) (sym c.valid_offset-end.ensures) (has, found.2) in
    record {
      batches = batches;
      fault = Some found.0;
      tells = (found.0, refl, found.1);
      has = subst (λ (f : OpenFile). HasRecords f (bytes_of f.source d) start batches c.valid_offset-end.result × IsRecordTorn f (bytes_of f.source d) c.valid_offset-end.result found.0) same there;
      bare = λ last. bare;
      taken = handed;
    }

pub returns-in-End-clause-kept : goal.returns-in-End-clause-kept
returns-in-End-clause-kept g c =
    let (batches, work, bare, handed, receipts) = c.loop-declined.invariant in
    record {
      reading = c.next_record.ensures.reading;
      same = c.next_record.ensures.file ∙ work.same;
      inside = end_inside (g.F.FileSystem.disk c.args.file_system.now) c.loop-declined.reader c.next_record.new.reader c.valid_offset-end.result work.reading c.next_record.ensures.file c.valid_offset-end.ensures;
    }

pub returns-in-Fault-clause-kept : goal.returns-in-Fault-clause-kept
returns-in-Fault-clause-kept g c =
    let (batches, work, bare, handed, receipts) = c.loop-declined.invariant in
    record {
      reading = c.next_record.ensures.reading;
      same = c.next_record.ensures.file ∙ work.same;
      inside = end_inside (g.F.FileSystem.disk c.args.file_system.now) c.loop-declined.reader c.next_record.new.reader c.valid_offset-end.result work.reading c.next_record.ensures.file c.valid_offset-end.ensures;
    }

pub returns-in-End-clause-receipts : goal.returns-in-End-clause-receipts
returns-in-End-clause-receipts g c =
    let (batches, work, bare, handed, receipts) = c.loop-declined.invariant in
    record { falls = λ honest. receipts.falls (c.in_ok-items.ensures.receipts.falls honest); stays = λ truth honest. c.in_ok-items.ensures.receipts.stays truth (receipts.stays truth honest) }

pub returns-in-Fault-clause-receipts : goal.returns-in-Fault-clause-receipts
returns-in-Fault-clause-receipts g c =
    let (batches, work, bare, handed, receipts) = c.loop-declined.invariant in
    record { falls = λ honest. receipts.falls (c.in_ok-items.ensures.receipts.falls honest); stays = λ truth honest. c.in_ok-items.ensures.receipts.stays truth (receipts.stays truth honest) }

pub returns-in_err-items-clause-receipts : goal.returns-in_err-items-clause-receipts
returns-in_err-items-clause-receipts g c =
    let (batches, work, bare, handed, receipts) = c.loop-declined.invariant in
    record { falls = λ honest. receipts.falls (c.in_err-items.ensures.receipts.falls honest); stays = λ truth honest. c.in_err-items.ensures.receipts.stays truth (receipts.stays truth honest) }

use Rattle.std.proofs.Common.{◌≡◌, ℕ, false, IfOk, IsTrue, [], Some, None, refl, sym, subst, ◌∙◌}
use Rattle.raft_log_record_base.specs.declared.pipe_log.FileBlockHandle.{FileBlockHandle}
use Rattle.raft_log_file_reader.specs.Source.{bytes_of}
use Rattle.raft_log_file_reader.specs.Batches.{HasBatch, HasBatches, HasBlock, HasNoMore, IsBroken}
use Rattle.raft_log_file_reader.specs.Reader.{IsInsideFile, end_of, honest_of}
use Rattle.raft_log_file_reader.specs.declared.open_file.OpenFile.{OpenFile}
use Rattle.raft_log_recovery_read.specs.Behind.{KeepsFile, StandsAtLast, WasReadBehind, with_noted}
use Rattle.raft_log_recovery_read.specs.declared.behind.LastRecord.{LastRecord}
use Rattle.raft_log_recovery_read.proofs.Handing.{takes_none}
use Rattle.raft_log_recovery_read.proofs.ResultLemmas.{ok_then, ok_under}
use Rattle.raft_log_recovery_read.proofs.WorkLemmas.{all_batches, end_inside, lies_still}
use Rattle.raft_log_recovery_read.proofs.behind.read_earlier.Goals as goal

pub loop-last-init : goal.loop-last-init
loop-last-init g c = (
  [],
  record { reading = c.requires.reading; same = refl; file = c.requires.open.0; opened = c.requires.open.1; has = λ honest. (refl, refl) },
  tt,
  takes_none (g.M.ReplayMachine.reads c.args.id.queue) c.args.machine.now,
  record { falls = λ honest. honest; stays = λ truth honest. honest },
)

pub loop-last-preserved : goal.loop-last-preserved
loop-last-preserved g c =
    let (before, work, inside, handed, receipts) = c.loop-last.invariant in
    let content = bytes_of work.file.source (g.F.FileSystem.disk c.args.file_system.now) in
    let start = end_of c.args.reader.now in
    let between = end_of c.loop-last.reader in
    let end = end_of c.next_batch.new.reader in
    let items = c.in-Batch.items in
    let taken = rw c.in-Batch.is at (c.in_ok-items.ensures.ok work.file work.opened) in
    let noted : LastRecord = record { start = c.valid_offset-end.result; block = c.last_block-block.result; items = items } in
    let stands : IsTrue (honest_of c.next_batch.new.reader) → StandsAtLast work.file content start (with_noted before c.loop-last.last) (Some noted) end = λ honest.
    (let all = all_batches work.file content start between before c.loop-last.last (work.has (c.in_ok-items.ensures.receipts.falls honest)) in
    let block = subst (λ (b : FileBlockHandle). HasBlock work.file content between b) (sym c.last_block-block.ensures) (taken.block honest) in
    subst (λ (n : ℕ). HasBatches work.file content start (with_noted before c.loop-last.last) n × HasBatch work.file content n items.items end × HasBlock work.file content n noted.block)
    (sym c.valid_offset-end.ensures) (all, taken.batch honest, block)) in (
      with_noted before c.loop-last.last,
      record {
        reading = c.next_batch.ensures.reading;
        same = c.next_batch.ensures.file ∙ work.same;
        file = work.file;
        opened = c.next_batch.ensures.file ∙ work.opened;
        has = stands;
      },
      (
        subst (λ (b : FileBlockHandle). IsInsideFile b c.next_batch.new.reader) (sym c.last_block-block.ensures) taken.inside,
        end_inside (g.F.FileSystem.disk c.args.file_system.now) c.loop-last.reader c.next_batch.new.reader c.valid_offset-end.result work.reading c.next_batch.ensures.file c.valid_offset-end.ensures,
      ),
      c.take_noted-declined.ensures c.args.machine.now before handed,
      record { falls = λ honest. receipts.falls (c.in_ok-items.ensures.receipts.falls honest); stays = λ truth honest. c.in_ok-items.ensures.receipts.stays truth (receipts.stays truth honest) },
    )

pub returns-in-End-clause-ok : goal.returns-in-End-clause-ok
returns-in-End-clause-ok g c = λ file opened.
    let d = g.F.FileSystem.disk c.args.file_system.now in
    let (before, work, inside, handed, receipts) = c.loop-last.invariant in
    let content = bytes_of work.file.source d in
    let start = end_of c.args.reader.now in
    let last = c.loop-last.last in
    let new = c.check_last.new.reader in
    let was = work.opened in
    let kept = work.same in
    let same : work.file ≡ file = cc in
    let told = rw c.in-End.is at (c.in_ok-items.ensures.ok work.file work.opened) in
    subst (λ (f : OpenFile). IfOk c.check_last.result (λ behind. IsTrue (honest_of new) → WasReadBehind false (g.M.ReplayMachine.reads c.args.id.queue) (g.M.ReplayMachine.declines c.args.id.queue) c.args.id c.args.machine.now c.check_last.new.machine d f start behind)) same
    (ok_under c.check_last.result (WasReadBehind false (g.M.ReplayMachine.reads c.args.id.queue) (g.M.ReplayMachine.declines c.args.id.queue) c.args.id c.args.machine.now c.check_last.new.machine d work.file start) (λ honest.
    let before_last = c.check_last.ensures.receipts.falls honest in
    let found = told before_last in
    let has = work.has (c.in_ok-items.ensures.receipts.falls before_last) in
    let there = subst (λ (n : ℕ). StandsAtLast work.file content start before last n × HasNoMore work.file content n) (sym c.valid_offset-end.ensures) (has, found.0) in
    c.check_last.ensures.ok work.file start None before c.args.machine.now (c.next_batch.ensures.file ∙ work.opened) there.0 there.1 refl handed))

pub returns-in-Fault-clause-ok : goal.returns-in-Fault-clause-ok
returns-in-Fault-clause-ok g c = λ file opened.
    let d = g.F.FileSystem.disk c.args.file_system.now in
    let (before, work, inside, handed, receipts) = c.loop-last.invariant in
    let content = bytes_of work.file.source d in
    let start = end_of c.args.reader.now in
    let last = c.loop-last.last in
    let new = c.check_last-in-Fault.new.reader in
    let was = work.opened in
    let kept = work.same in
    let same : work.file ≡ file = cc in
    let told = rw c.in-Fault.is at (c.in_ok-items.ensures.ok work.file work.opened) in
    subst (λ (f : OpenFile). IfOk c.check_last-in-Fault.result (λ behind. IsTrue (honest_of new) → WasReadBehind false (g.M.ReplayMachine.reads c.args.id.queue) (g.M.ReplayMachine.declines c.args.id.queue) c.args.id c.args.machine.now c.check_last-in-Fault.new.machine d f start behind)) same
    (ok_under c.check_last-in-Fault.result (WasReadBehind false (g.M.ReplayMachine.reads c.args.id.queue) (g.M.ReplayMachine.declines c.args.id.queue) c.args.id c.args.machine.now c.check_last-in-Fault.new.machine d work.file start) (λ honest.
    let before_last = c.check_last-in-Fault.ensures.receipts.falls honest in
    let found = told before_last in
    let has = work.has (c.in_ok-items.ensures.receipts.falls before_last) in
    let there = subst (λ (n : ℕ). StandsAtLast work.file content start before last n × IsBroken work.file content n found.0) (sym c.valid_offset-end.ensures) (has, found.2) in
    c.check_last-in-Fault.ensures.ok work.file start (Some found.0) before c.args.machine.now (c.next_batch.ensures.file ∙ work.opened) there.0 there.1 (found.0, refl, found.1) handed))

pub returns-in-End-clause-kept : goal.returns-in-End-clause-kept
returns-in-End-clause-kept g c =
    let d = g.F.FileSystem.disk c.args.file_system.now in
    let (before, work, inside, handed, receipts) = c.loop-last.invariant in
    ok_then c.check_last.result (λ behind. KeepsFile d c.next_batch.new.reader c.check_last.new.reader behind.end) (λ behind. KeepsFile d c.args.reader.now c.check_last.new.reader behind.end) c.check_last.ensures.kept
    (λ behind kept. record { reading = kept.reading; same = kept.same ∙ c.next_batch.ensures.file ∙ work.same; inside = kept.inside })

pub returns-in-Fault-clause-kept : goal.returns-in-Fault-clause-kept
returns-in-Fault-clause-kept g c =
    let d = g.F.FileSystem.disk c.args.file_system.now in
    let (before, work, inside, handed, receipts) = c.loop-last.invariant in
    ok_then c.check_last-in-Fault.result (λ behind. KeepsFile d c.next_batch.new.reader c.check_last-in-Fault.new.reader behind.end) (λ behind. KeepsFile d c.args.reader.now c.check_last-in-Fault.new.reader behind.end) c.check_last-in-Fault.ensures.kept
    (λ behind kept. record { reading = kept.reading; same = kept.same ∙ c.next_batch.ensures.file ∙ work.same; inside = kept.inside })

pub returns-in-End-clause-receipts : goal.returns-in-End-clause-receipts
returns-in-End-clause-receipts g c =
    let (before, work, inside, handed, receipts) = c.loop-last.invariant in
    record {
      falls = λ honest. receipts.falls (c.in_ok-items.ensures.receipts.falls (c.check_last.ensures.receipts.falls honest));
      stays = λ truth honest. c.check_last.ensures.receipts.stays truth (c.in_ok-items.ensures.receipts.stays truth (receipts.stays truth honest));
    }

pub returns-in-Fault-clause-receipts : goal.returns-in-Fault-clause-receipts
returns-in-Fault-clause-receipts g c =
    let (before, work, inside, handed, receipts) = c.loop-last.invariant in
    record {
      falls = λ honest. receipts.falls (c.in_ok-items.ensures.receipts.falls (c.check_last-in-Fault.ensures.receipts.falls honest));
      stays = λ truth honest. c.check_last-in-Fault.ensures.receipts.stays truth (c.in_ok-items.ensures.receipts.stays truth (receipts.stays truth honest));
    }

pub check_last-requires-clause-inside : goal.check_last-requires-clause-inside
check_last-requires-clause-inside g c =
    let (before, work, inside, handed, receipts) = c.loop-last.invariant in (
      lies_still c.loop-last.last c.loop-last.reader c.next_batch.new.reader c.next_batch.ensures.file inside,
      end_inside (g.F.FileSystem.disk c.args.file_system.now) c.loop-last.reader c.next_batch.new.reader c.valid_offset-end.result work.reading c.next_batch.ensures.file c.valid_offset-end.ensures,
    )

pub check_last-requires-in-Fault-clause-inside : goal.check_last-requires-in-Fault-clause-inside
check_last-requires-in-Fault-clause-inside g c =
    let (before, work, inside, handed, receipts) = c.loop-last.invariant in (
      lies_still c.loop-last.last c.loop-last.reader c.next_batch.new.reader c.next_batch.ensures.file inside,
      end_inside (g.F.FileSystem.disk c.args.file_system.now) c.loop-last.reader c.next_batch.new.reader c.valid_offset-end.result work.reading c.next_batch.ensures.file c.valid_offset-end.ensures,
    )

pub returns-in_err-items-clause-receipts : goal.returns-in_err-items-clause-receipts
returns-in_err-items-clause-receipts g c =
    let (before, work, inside, handed, receipts) = c.loop-last.invariant in
    record { falls = λ honest. receipts.falls (c.in_err-items.ensures.receipts.falls honest); stays = λ truth honest. c.in_err-items.ensures.receipts.stays truth (receipts.stays truth honest) }

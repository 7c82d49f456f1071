use Rattle.std.proofs.Common.{ℕ, ◌<◌, ◌∙◌, IsTrue, sym, subst}
use Rattle.raft_log_record_base.specs.declared.pipe_log.FileBlockHandle.{FileBlockHandle}
use Rattle.raft_log_file_reader.specs.Source.{bytes_of}
use Rattle.raft_log_file_reader.specs.Batches.{HasBlock}
use Rattle.raft_log_file_reader.specs.Reader.{end_of, honest_of}
use Rattle.raft_log_recovery_read.specs.Records.{HasRecord}
use Rattle.raft_log_recovery_read.proofs.BlockLemmas.{broken_is_torn}
use Rattle.raft_log_recovery_read.proofs.steps.next_record.Goals as goal

pub returns-in-Fault-clause-ok : goal.returns-in-Fault-clause-ok
returns-in-Fault-clause-ok g c = λ file opened honest.
    let content = bytes_of file.source (g.F.FileSystem.disk c.args.file_system.now) in
    let told = rw c.in-Fault.is at (c.in_ok-items.ensures.ok file opened) in
    let found = told honest in
    (found.0, found.1, broken_is_torn file content (end_of c.args.reader.now) found.0 found.2)

pub returns-in-None-clause-ok : goal.returns-in-None-clause-ok
returns-in-None-clause-ok g c = λ file opened.
    let content = bytes_of file.source (g.F.FileSystem.disk c.args.file_system.now) in
    let start = end_of c.args.reader.now in
    let taken = rw c.in-Batch.is at (c.in_ok-items.ensures.ok file opened) in
    let items = c.in-Batch.items.items in
    let record_there : IsTrue (honest_of c.check_block.new.reader) → HasRecord file content start items (end_of c.next_batch.new.reader) = λ honest.
    (let first = c.in_ok-check_block.ensures.receipts.falls honest in
    let block = subst (λ (b : FileBlockHandle). HasBlock file content start b) (sym c.last_block-block.ensures) (taken.block first) in
    let checks = rw c.in-None.is at (c.in_ok-check_block.ensures.ok file start (c.next_batch.ensures.file ∙ opened)) in
    record { batch = taken.batch first; whole = checks honest block }) in
    subst (λ (n : ℕ). (IsTrue (honest_of c.check_block.new.reader) → HasRecord file content start items n) × (start < n)) (sym c.check_block.ensures.same.end) (record_there, taken.further)

pub returns-in-Some-clause-ok : goal.returns-in-Some-clause-ok
returns-in-Some-clause-ok g c = λ file opened honest.
    let content = bytes_of file.source (g.F.FileSystem.disk c.args.file_system.now) in
    let start = end_of c.args.reader.now in
    let taken = rw c.in-Batch.is at (c.in_ok-items.ensures.ok file opened) in
    let block = subst (λ (b : FileBlockHandle). HasBlock file content start b) (sym c.last_block-block.ensures) (taken.block (c.in_ok-check_block.ensures.receipts.falls honest)) in
    let checks = rw c.in-Some.is at (c.in_ok-check_block.ensures.ok file start (c.next_batch.ensures.file ∙ opened)) in
    checks honest block

use Rattle.std.proofs.Common.{◌≡◌, ◌+◌, ◌≤◌, ◌-◌, List, Result, take, drop, subst, ap, sym, ◌∙◌, arith}
use Rattle.std.proofs.lemmas.Result.{err_from_is_err_and}
use Rattle.raft_log_record_base.specs.Fault.{Fault, FailsOrMemory}
use Rattle.raft_log_record_base.specs.Files.{signature_of}
use Rattle.raft_log_record_base.specs.declared.pipe_log.LogFileContext.{LogFileContext}
use Rattle.raft_log_record_items.specs.declared.item.LogItem.{LogItem}
use Rattle.raft_log_record_frames.specs.Record.{placed_footer_of}
use Rattle.raft_log_file_reader.specs.Source.{bytes_of}
use Rattle.raft_log_file_reader.specs.Batches.{extent_at, batch_at, block_at, context_of}
use Rattle.raft_log_file_reader.proofs.Extents.{has_extent, placed_at, context_is, batch_good, batch_fault, batch_broken, fails_as, fault_fails, cannot_fails, frame_extent}
use Rattle.raft_log_file_reader.proofs.FrameReadings.{frame_of_batch}
use Rattle.raft_log_file_reader.proofs.Weights.{footer_outweighs}
use Rattle.raft_log_file_reader.proofs.batch.read_batch.Goals as goal

pub returns-in_err-footer-clause-err : goal.returns-in_err-footer-clause-err
returns-in_err-footer-clause-err g c =
    let d = g.F.FileSystem.disk c.args.file_system.now in
    let file = c.args.file.now in
    let content = bytes_of file.source d in
    let e = c.in_err-footer.field-0.0 in
    let p = err_from_is_err_and c.from_residual.result c.from_residual.ensures.1 in
    rw (p.1, p.2) (λ honest. fails_as file.source d c.args.at e (extent_at (drop c.args.at content)) (batch_at (context_of file) c.args.at content)
    (batch_broken (context_of file) c.args.at content) (c.in_err-footer.ensures.err honest))

pub returns-in_err-peek-clause-err : goal.returns-in_err-peek-clause-err
returns-in_err-peek-clause-err g c =
    let d = g.F.FileSystem.disk c.args.file_system.now in
    let file = c.args.file.now in
    let e = c.in_err-peek.field-0.0 in
    let p = err_from_is_err_and c.from_residual-in_err-peek.result c.from_residual-in_err-peek.ensures.1 in
    let later : c.args.at ≤ c.args.at + c.in_ok-footer.footer = omega arith in
    rw (p.1, p.2) (λ honest. cannot_fails file.source d c.args.at (c.args.at + c.in_ok-footer.footer) e (batch_at (context_of file) c.args.at (bytes_of file.source d)) later (c.in_err-peek.ensures.err honest))

pub returns-in_err-batch-clause-err : goal.returns-in_err-batch-clause-err
returns-in_err-batch-clause-err g c =
    let d = g.F.FileSystem.disk c.args.file_system.now in
    let file = c.args.file.now in
    let content = bytes_of file.source d in
    let e = c.in_err-batch.field-0.0 in
    let footer = c.in_ok-footer.footer in
    let len = c.in_ok-footer.len in
    let context = context_is c.new-context.result file c.new-context.ensures.id c.new-context.ensures.version in
    let block = block_at (context_of file) c.args.at (footer - 16) in
    let p = err_from_is_err_and c.from_residual-in_err-batch.result c.from_residual-in_err-batch.ensures.1 in
    rw (p.1, p.2) (λ honest.
    let extent = has_extent (drop c.args.at content) footer len (c.in_ok-footer.ensures.ok (c.in_ok-peek.ensures.receipts.falls honest)) in
    let held = c.held-bytes.ensures.bytes content (c.in_ok-peek.ensures.part.part honest) in
    let named : placed_at (context_of file) c.args.at content footer len ≡ placed_footer_of (signature_of c.new-context.result) block c.held-bytes.result.now =
    ap (λ (k : LogFileContext). placed_footer_of (signature_of k) block (take (len - footer) (drop (c.args.at + footer) content))) (sym context)
    ∙ ap (placed_footer_of (signature_of c.new-context.result) block) (sym held) in
    let fails : FailsOrMemory e (placed_at (context_of file) c.args.at content footer len) = subst (λ (r : Result (List LogItem) Fault). FailsOrMemory e r) (sym named) c.in_err-batch.ensures.exact in
    fails_as file.source d c.args.at e (placed_at (context_of file) c.args.at content footer len) (batch_at (context_of file) c.args.at content)
    (batch_fault (context_of file) c.args.at content footer len extent) (fault_fails file.source d c.args.at e (placed_at (context_of file) c.args.at content footer len) fails))

pub returns-clause-ok : goal.returns-clause-ok
returns-clause-ok g c = λ honest.
    let d = g.F.FileSystem.disk c.args.file_system.now in
    let file = c.args.file.now in
    let content = bytes_of file.source d in
    let footer = c.in_ok-footer.footer in
    let len = c.in_ok-footer.len in
    let extent = has_extent (drop c.args.at content) footer len (c.in_ok-footer.ensures.ok (c.in_ok-peek.ensures.receipts.falls honest)) in
    let held = c.held-bytes.ensures.bytes content (c.in_ok-peek.ensures.part.part honest) in
    let context = context_is c.new-context.result file c.new-context.ensures.id c.new-context.ensures.version in
    let block = block_at (context_of file) c.args.at (footer - 16) in
    let named : placed_at (context_of file) c.args.at content footer len ≡ placed_footer_of (signature_of c.new-context.result) block c.held-bytes.result.now =
    ap (λ (k : LogFileContext). placed_footer_of (signature_of k) block (take (len - footer) (drop (c.args.at + footer) content))) (sym context)
    ∙ ap (placed_footer_of (signature_of c.new-context.result) block) (sym held) in
    let good = named ∙ c.in_ok-batch.ensures.exact in
    batch_good (context_of file) c.args.at content footer len c.in_ok-batch.batch.items extent good

pub returns-clause-block : goal.returns-clause-block
returns-clause-block g c = λ honest.
    let d = g.F.FileSystem.disk c.args.file_system.now in
    let file = c.args.file.now in
    let content = bytes_of file.source d in
    let footer = c.in_ok-footer.footer in
    let len = c.in_ok-footer.len in
    let extent = has_extent (drop c.args.at content) footer len (c.in_ok-footer.ensures.ok (c.in_ok-peek.ensures.receipts.falls honest)) in
    let frame = frame_of_batch (context_of file) c.args.at len content c.in_ok-batch.batch.items (returns-clause-ok g c honest) in
    let size = frame_extent (signature_of (context_of file)) (drop c.args.at content) footer len frame.0 extent frame.1 in
    record { front = frame.0; frame = frame.1; place = ap (block_at (context_of file) c.args.at) (sym size) }

pub returns-clause-weighs : goal.returns-clause-weighs
returns-clause-weighs g c = omega (arith, footer_outweighs _ _ _ _ c.in_ok-batch.ensures.found, c.held-bytes.ensures.len)

use Rattle.std.proofs.Common.{◌+◌, ◌-◌, ◌≤◌, ℕ, List, drop, subst, ap, ◌∙◌, arith}
use Rattle.std.proofs.lemmas.Bool.{iff_false}
use Rattle.std.proofs.lemmas.Result.{err_from_is_err_and}
use Rattle.raft_log_record_base.specs.Files.{signature_of}
use Rattle.raft_log_file_reader.specs.ForeignHeader.{SpellsHeader}
use Rattle.raft_log_file_reader.specs.Source.{bytes_of}
use Rattle.raft_log_file_reader.proofs.Extents.{context_is}
use Rattle.raft_log_file_reader.proofs.ForeignLemmas.{foreign_there, no_footer, no_header, no_room, spelled_whole}
use Rattle.raft_log_file_reader.proofs.Refusals.{cannot_read_earlier}
use Rattle.raft_log_file_reader.proofs.foreign.find_foreign.Goals as goal

pub overflow_sub-left : goal.overflow_sub-left
overflow_sub-left g c = c.in_ok-at.ensures.ok.inside

pub spelled_header-requires : goal.spelled_header-requires
spelled_header-requires g c = omega (arith, c.held.ensures.len)

pub returns-in_err-peek-clause-err : goal.returns-in_err-peek-clause-err
returns-in_err-peek-clause-err g c =
    let d = g.F.FileSystem.disk c.args.file_system.now in
    let file = c.args.file.now in
    let p = err_from_is_err_and c.from_residual-in_err-peek.result c.from_residual-in_err-peek.ensures.1 in
    rw (p.1, p.2) (λ honest. cannot_read_earlier file.source d c.args.offset c.in_ok-at.at c.in_err-peek.field-0.0 c.in_ok-at.ensures.ok.from (c.in_err-peek.ensures.err honest))

pub returns-in_err-peek-2-clause-err : goal.returns-in_err-peek-2-clause-err
returns-in_err-peek-2-clause-err g c =
    let d = g.F.FileSystem.disk c.args.file_system.now in
    let file = c.args.file.now in
    let later : c.args.offset ≤ c.in_ok-at.at + c.in-Ok.header.footer = omega (arith, c.in_ok-at.ensures.ok.from) in
    let p = err_from_is_err_and c.from_residual-in_err-peek-2.result c.from_residual-in_err-peek-2.ensures.1 in
    rw (p.1, p.2) (λ honest. cannot_read_earlier file.source d c.args.offset (c.in_ok-at.at + c.in-Ok.header.footer) c.in_err-peek-2.field-0.0 later (c.in_err-peek-2.ensures.err honest))

pub returns-then-left-lt-LOG_BATCH_HEADER_LEN-clause-ok : goal.returns-then-left-lt-LOG_BATCH_HEADER_LEN-clause-ok
returns-then-left-lt-LOG_BATCH_HEADER_LEN-clause-ok g c = λ honest.
    let d = g.F.FileSystem.disk c.args.file_system.now in
    let file = c.args.file.now in
    let content = bytes_of file.source d in
    no_room file content c.args.offset c.in_ok-at.at (file.source.size - c.in_ok-at.at) (c.in_ok-at.ensures.ok.goes_on honest) (ap (λ (n : ℕ). n - c.in_ok-at.at) c.requires.part.size) (omega arith)

pub returns-then-not-is_foreign-clause-ok : goal.returns-then-not-is_foreign-clause-ok
returns-then-not-is_foreign-clause-ok g c = λ honest.
    let d = g.F.FileSystem.disk c.args.file_system.now in
    let file = c.args.file.now in
    let content = bytes_of file.source d in
    let goes_on = c.in_ok-at.ensures.ok.goes_on (c.in_ok-peek.ensures.receipts.falls honest) in
    let held = c.held.ensures.bytes content (c.in_ok-peek.ensures.part.part honest) in
    let spelled = spelled_whole (drop c.in_ok-at.at content) c.in-Ok.header (subst (λ (l : List ℕ). SpellsHeader l c.in-Ok.header) held c.in-Ok.ensures.ok) in
    no_header file content c.args.offset c.in_ok-at.at (file.source.size - c.in_ok-at.at) goes_on (ap (λ (n : ℕ). n - c.in_ok-at.at) c.requires.part.size) c.in-Ok.header spelled
    (λ fits. iff_false c.is_foreign.ensures c.if-not-is_foreign.true fits)

pub returns-then-not-has_checksum-clause-ok : goal.returns-then-not-has_checksum-clause-ok
returns-then-not-has_checksum-clause-ok g c = λ honest.
    let d = g.F.FileSystem.disk c.args.file_system.now in
    let file = c.args.file.now in
    let content = bytes_of file.source d in
    let header = c.in-Ok.header in
    let before = c.in_ok-peek-2.ensures.receipts.falls honest in
    let goes_on = c.in_ok-at.ensures.ok.goes_on (c.in_ok-peek.ensures.receipts.falls before) in
    let held = c.held.ensures.bytes content (c.in_ok-peek.ensures.part.part before) in
    let spelled = spelled_whole (drop c.in_ok-at.at content) header (subst (λ (l : List ℕ). SpellsHeader l header) held c.in-Ok.ensures.ok) in
    let footer = c.held-bytes.ensures.bytes content (c.in_ok-peek-2.ensures.part.part honest) in
    let context = context_is c.new-context.result file c.new-context.ensures.id c.new-context.ensures.version in
    let signed = c.get_signature.ensures ∙ ap signature_of context in
    no_footer file content c.args.offset c.in_ok-at.at (file.source.size - c.in_ok-at.at) goes_on (ap (λ (n : ℕ). n - c.in_ok-at.at) c.requires.part.size) header spelled
    (λ right. iff_false c.has_checksum.ensures c.if-not-has_checksum.true (rw (signed, footer) right))

pub returns-clause-ok : goal.returns-clause-ok
returns-clause-ok g c = λ honest.
    let d = g.F.FileSystem.disk c.args.file_system.now in
    let file = c.args.file.now in
    let content = bytes_of file.source d in
    let header = c.in-Ok.header in
    let before = c.in_ok-peek-2.ensures.receipts.falls honest in
    let goes_on = c.in_ok-at.ensures.ok.goes_on (c.in_ok-peek.ensures.receipts.falls before) in
    let held = c.held.ensures.bytes content (c.in_ok-peek.ensures.part.part before) in
    let spelled = spelled_whole (drop c.in_ok-at.at content) header (subst (λ (l : List ℕ). SpellsHeader l header) held c.in-Ok.ensures.ok) in
    let footer = c.held-bytes.ensures.bytes content (c.in_ok-peek-2.ensures.part.part honest) in
    let context = context_is c.new-context.result file c.new-context.ensures.id c.new-context.ensures.version in
    let signed = c.get_signature.ensures ∙ ap signature_of context in
    let fits = c.is_foreign.ensures.0 c.if-not-is_foreign.false in
    let right = rw (signed, footer) at (c.has_checksum.ensures.0 c.if-not-has_checksum.false) in
    foreign_there file content c.args.offset c.in_ok-at.at (file.source.size - c.in_ok-at.at) goes_on (ap (λ (n : ℕ). n - c.in_ok-at.at) c.requires.part.size) header spelled fits right

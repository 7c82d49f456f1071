use Rattle.std.specs.String.{string_bytes}
use Rattle.std.proofs.Common.{◌≡◌, ◌<◌, ◌≤◌, ◌-◌, length, List, ℕ, Ok, take, drop, subst, ap, sym, ◌∙◌, arith, rules}
use Rattle.std.proofs.lemmas.List.{length-drop}
use Rattle.std.proofs.lemmas.Result.{err_from_is_err_and}
use Rattle.raft_log_record_base.specs.Fault.{FailsOrMemory}
use Rattle.raft_log_record_base.specs.Fault.Fault.{corrupt}
use Rattle.raft_log_record_frames.specs.Record.{header_at, header_too_short, past_input}
use Rattle.raft_log_file_reader.specs.Source.{bytes_of}
use Rattle.raft_log_file_reader.specs.Batches.{extent_at}
use Rattle.raft_log_file_reader.proofs.Headers.{Says, header_found, header_fails, failed}
use Rattle.raft_log_file_reader.proofs.Extents.{extent_short, extent_past, extent_good, extent_header, fails_as, fault_fails}
use Rattle.raft_log_file_reader.proofs.batch.read_extent.Goals as goal

pub returns-then-left-lt-LOG_BATCH_HEADER_LEN-clause-err :
    goal.returns-then-left-lt-LOG_BATCH_HEADER_LEN-clause-err
returns-then-left-lt-LOG_BATCH_HEADER_LEN-clause-err g c = λ honest.
    let content = bytes_of c.args.file.now.source (g.F.FileSystem.disk c.args.file_system.now) in
    let bytes = drop c.args.at content in
    let left : length bytes ≡ c.args.file.now.source.size - c.args.at = omega (arith, c.requires.part.size, length-drop c.args.at content) in
    let short : length bytes < 16 = omega (arith, left) in
    let text : string_bytes c.in_ok-format.field-0 ≡ header_too_short (c.args.file.now.source.size - c.args.at) = search rules in
    extent_short bytes short ∙ ap (λ n. failed {A = ℕ × ℕ} (corrupt (header_too_short n))) left ∙ ap (λ (t : List ℕ). failed {A = ℕ × ℕ} (corrupt t)) (sym text)

pub returns-in_err-footer-clause-err : goal.returns-in_err-footer-clause-err
returns-in_err-footer-clause-err g c =
    let d = g.F.FileSystem.disk c.args.file_system.now in
    let file = c.args.file.now in
    let content = bytes_of file.source d in
    let bytes = drop c.args.at content in
    let long : 16 ≤ length bytes = omega (arith, c.requires.part.size, length-drop c.args.at content) in
    let e = c.in_err-footer.field-0.0 in
    let p = err_from_is_err_and c.from_residual-in_err-footer.result c.from_residual-in_err-footer.ensures.1 in
    rw (p.1, p.2) (λ honest.
    let held = c.held-header.ensures.bytes content (c.in_ok-peek.ensures.part.part honest) in
    let fails : FailsOrMemory e (header_at (take 16 bytes)) = subst (λ (l : List ℕ). FailsOrMemory e (header_at l)) held c.in_err-footer.ensures.exact.0 in
    fails_as file.source d c.args.at e (header_at bytes) (extent_at bytes) (extent_header bytes) (fault_fails file.source d c.args.at e (header_at bytes) (header_fails bytes e long fails)))

pub returns-then-left-len-clause-err : goal.returns-then-left-len-clause-err
returns-then-left-len-clause-err g c = λ honest.
    let content = bytes_of c.args.file.now.source (g.F.FileSystem.disk c.args.file_system.now) in
    let bytes = drop c.args.at content in
    let left : length bytes ≡ c.args.file.now.source.size - c.args.at = omega (arith, c.requires.part.size, length-drop c.args.at content) in
    let long : 16 ≤ length bytes = omega (arith, left) in
    let held = c.held-header.ensures.bytes content (c.in_ok-peek.ensures.part.part honest) in
    let says : Says = (c.in_ok-footer.footer, c.in_ok-footer.field-0-1, c.in_ok-footer.len) in
    let header = header_found bytes c.decode_header.new.source.now says long (subst (λ (l : List ℕ). header_at l ≡ Ok (says, c.decode_header.new.source.now)) held c.in_ok-footer.ensures.exact) in
    let text : string_bytes c.in_ok-format-2.field-0 ≡ past_input c.in_ok-footer.len = search rules in
    extent_past bytes _ says header (omega (arith, left)) ∙ ap (λ (t : List ℕ). failed {A = ℕ × ℕ} (corrupt t)) (sym text)

pub returns-clause-ok : goal.returns-clause-ok
returns-clause-ok g c = λ honest.
    let content = bytes_of c.args.file.now.source (g.F.FileSystem.disk c.args.file_system.now) in
    let bytes = drop c.args.at content in
    let left : length bytes ≡ c.args.file.now.source.size - c.args.at = omega (arith, c.requires.part.size, length-drop c.args.at content) in
    let long : 16 ≤ length bytes = omega (arith, left) in
    let held = c.held-header.ensures.bytes content (c.in_ok-peek.ensures.part.part honest) in
    let says : Says = (c.in_ok-footer.footer, c.in_ok-footer.field-0-1, c.in_ok-footer.len) in
    let header = header_found bytes c.decode_header.new.source.now says long (subst (λ (l : List ℕ). header_at l ≡ Ok (says, c.decode_header.new.source.now)) held c.in_ok-footer.ensures.exact) in
    extent_good bytes _ says header (omega (arith, left))

use Rattle.std.proofs.Common.{◌≡◌, ◌+◌, ◌≤◌, List, ℕ, length, take, min, sym, ap, subst, ◌∙◌, arith}
use Rattle.std.proofs.lemmas.List.{length-append}
use Rattle.std.proofs.lemmas.Result.{err_from_is_err_and}
use Rattle.raft_log_record_base.specs.Fault.{FailsOrMemory}
use Rattle.raft_log_file_format.specs.Header.{header_at}
use Rattle.raft_log_record_frames.specs.Written.{AreBytes}
use Rattle.raft_log_file_reader.specs.Source.{bytes_of}
use Rattle.raft_log_file_reader.proofs.Parts.{nothing_held}
use Rattle.raft_log_file_reader.proofs.Opened.{front-is, front_unread, open_fault, header_begins}
use Rattle.raft_log_file_reader.proofs.header.read_format.Goals as goal

pub read_on-requires-clause-part : goal.read_on-requires-clause-part
read_on-requires-clause-part g c =
    let content = bytes_of c.args.source (g.F.FileSystem.disk c.args.file_system.now) in
    record {
      size = c.requires;
      inside = omega (arith, c.begin.ensures.start, ap length c.begin.ensures.bytes);
      part = λ honest. rw (c.begin.ensures.bytes, c.begin.ensures.start) (nothing_held 0 content (omega arith));
    }

pub returns-in_err-read_on-clause-err : goal.returns-in_err-read_on-clause-err
returns-in_err-read_on-clause-err g c =
    let d = g.F.FileSystem.disk c.args.file_system.now in
    let p = err_from_is_err_and c.from_residual.result c.from_residual.ensures.1 in
    let few : c.min-len.result ≤ 69 = omega (arith, c.min-len.ensures) in
    let nothing : length c.begin.new.self.bytes.items ≡ 0 = ap length c.begin.ensures.bytes in
    rw (p.1, p.2) (λ honest. front_unread c.args.source d (c.begin.new.self.start + length c.begin.new.self.bytes.items) c.min-len.result c.in_err-read_on.field-0.0 (omega (arith, few, nothing, c.begin.ensures.start)) (c.in_err-read_on.ensures.unread honest))

pub returns-in_err-format-clause-err : goal.returns-in_err-format-clause-err
returns-in_err-format-clause-err g c =
    let d = g.F.FileSystem.disk c.args.file_system.now in
    let content = bytes_of c.args.source d in
    let e = c.in_err-format.field-0.0 in
    let len : c.min-len.result ≡ min (length content) 69 = omega (arith, c.min-len.ensures, c.requires) in
    let p = err_from_is_err_and c.from_residual-in_err-format.result c.from_residual-in_err-format.ensures.1 in
    rw (p.1, p.2) (λ honest.
    let held = c.held-rest.ensures.bytes content (c.in_ok-read_on.ensures.part.part honest) in
    let fails : FailsOrMemory e (header_at (take 69 content)) = subst (λ (l : List ℕ). FailsOrMemory e (header_at l)) (held ∙ front-is content c.min-len.result len) c.in_err-format.ensures.exact.0 in
    open_fault c.args.source.handle d e fails)

pub returns-clause-ok : goal.returns-clause-ok
returns-clause-ok g c = λ honest.
    let d = g.F.FileSystem.disk c.args.file_system.now in
    let content = bytes_of c.args.source d in
    let held = c.held-rest.ensures.bytes content (c.in_ok-read_on.ensures.part.part honest) in
    let len : c.min-len.result ≤ length content = omega (arith, c.min-len.ensures, c.requires) in
    let found = c.in_ok-format.ensures.decodes.found in
    let are : AreBytes c.held-rest.result.now = c.are_bytes.ensures in
    header_begins content c.decode.new.source.now found.0 c.in_ok-format.format c.min-len.result len found.1 (subst AreBytes found.2 are) (sym held ∙ found.2)

pub overflow_sub-result : goal.overflow_sub-result
overflow_sub-result g c =
    let found = c.in_ok-format.ensures.decodes.found in
    omega (arith, ap length found.2, length-append found.0 c.decode.new.source.now, c.held-rest.ensures.len)

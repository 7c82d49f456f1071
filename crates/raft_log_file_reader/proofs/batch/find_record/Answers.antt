use Rattle.std.proofs.Common.{◌≡◌, ◌+◌, ◌<◌, ◌≤◌, length, List, ℕ, IsOk, take, drop, refl, subst, ap, sym, arith}
use Rattle.std.proofs.lemmas.Bool.{iff_false}
use Rattle.std.proofs.lemmas.List.{length-drop}
use Rattle.raft_log_record_frames.specs.Record.{header_at}
use Rattle.raft_log_file_format.specs.Padding.{IsZeroPadded}
use Rattle.raft_log_file_reader.specs.Source.{bytes_of}
use Rattle.raft_log_file_reader.specs.Batches.{padding_len}
use Rattle.raft_log_file_reader.specs.Batches.GoesOnAt.{behind_padding, at_once}
use Rattle.raft_log_file_reader.proofs.Headers.{header_good, header_bad, not_both}
use Rattle.raft_log_file_reader.proofs.batch.find_record.Goals as goal

pub returns-then-begins_header-clause-ok : goal.returns-then-begins_header-clause-ok
returns-then-begins_header-clause-ok g c =
    let content = bytes_of c.args.file.now.source (g.F.FileSystem.disk c.args.file_system.now) in
    let bytes = drop c.args.offset content in
    let long : 16 ≤ length bytes = omega (arith, c.requires.part.size, length-drop c.args.offset content) in
    record {
      from = omega arith;
      inside = c.requires.inside;
      goes_on = λ honest.
          let held = c.held.ensures.bytes content (c.in_ok-peek.ensures.part.part honest) in
          let good : IsOk (header_at (take 16 bytes)) = subst (λ (l : List ℕ). IsOk (header_at l)) held (c.begins_header.ensures.0 c.if-begins_header.true) in
          at_once (λ padding. not_both (header_at bytes) (header_good bytes long good) padding.broken) refl;
    }

pub returns-then-is_zero_padded-clause-ok : goal.returns-then-is_zero_padded-clause-ok
returns-then-is_zero_padded-clause-ok g c =
    let content = bytes_of c.args.file.now.source (g.F.FileSystem.disk c.args.file_system.now) in
    let bytes = drop c.args.offset content in
    let long : 16 ≤ length bytes = omega (arith, c.requires.part.size, length-drop c.args.offset content) in
    let padding = padding_len c.args.file.now.format.alignment c.args.offset in
    let n : c.padding_len-padding.result ≡ padding = c.padding_len-padding.ensures in
    let some : 0 < padding = omega (arith, n) in
    let inside : padding ≤ length bytes = omega (arith, n, c.requires.part.size, length-drop c.args.offset content) in
    record {
      from = omega arith;
      inside = omega arith;
      goes_on = λ honest.
          let held = c.held.ensures.bytes content (c.in_ok-peek.ensures.part.part (c.in_ok-peek-2.ensures.receipts.falls honest)) in
          let held_padding = c.held-2.ensures.bytes content (c.in_ok-peek-2.ensures.part.part honest) in
          let zeros : IsZeroPadded (take padding bytes) = subst (λ (m : ℕ). IsZeroPadded (take m bytes)) n (subst IsZeroPadded held_padding (c.is_zero_padded.ensures.0 c.if-is_zero_padded.true)) in
          behind_padding (record {
            some = some;
            room = long;
            inside = inside;
            broken = header_bad bytes long
                (λ good. iff_false c.begins_header.ensures c.if-begins_header.false (subst (λ (l : List ℕ). IsOk (header_at l)) (sym held) good));
            zeros = zeros;
          })
          (ap (λ m. c.args.offset + m) n);
    }

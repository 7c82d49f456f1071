use Rattle.std.proofs.Common.{inl, sym, ◌∙◌}
use Rattle.std.proofs.lemmas.Bool.{and_parts, and_from}
use Rattle.raft_log_file_reader.specs.Reader.{honest_of}
use Rattle.raft_log_open.proofs.content.unpadded.Goals as goal

pub returns-in-Ok-clause-ok : goal.returns-in-Ok-clause-ok
returns-in-Ok-clause-ok g c = λ honest.
    let parts = and_parts c.without_padding-made.new.receipts.honest (honest_of c.without_padding-made.new.reader) (sym c.note_reads.ensures ∙ honest) in
    record {
      padded = rw c.if-not-branch.false at (c.in_ok-is_padded.ensures.ok (c.in-Ok.ensures.receipts.falls parts.0));
      without = c.in-Ok.ensures.ok parts.1 parts.0;
    }

pub returns-clause-err : goal.returns-clause-err
returns-clause-err g c = λ honest.
    let parts = and_parts c.without_padding-made.new.receipts.honest (honest_of c.without_padding-made.new.reader) (sym c.note_reads.ensures ∙ honest) in
    let padded = rw c.if-not-branch.false at (c.in_ok-is_padded.ensures.ok (c.in-Err.ensures.receipts.falls parts.0)) in
    inl (c.in-Err.ensures.err parts.1 parts.0 padded)

pub returns-in-Ok-clause-receipts : goal.returns-in-Ok-clause-receipts
returns-in-Ok-clause-receipts g c =
    let first = c.in_ok-is_padded.ensures.receipts in
    let own = c.in-Ok.ensures.receipts in
    record {
      falls = λ honest. first.falls (own.falls (and_parts c.without_padding-made.new.receipts.honest (honest_of c.without_padding-made.new.reader) (sym c.note_reads.ensures ∙ honest)).0);
      stays = λ truth honest. c.note_reads.ensures ∙ and_from c.without_padding-made.new.receipts.honest (honest_of c.without_padding-made.new.reader) (own.stays truth (first.stays truth honest)) (c.in-Ok.ensures.reads truth);
    }

pub returns-clause-receipts : goal.returns-clause-receipts
returns-clause-receipts g c =
    let first = c.in_ok-is_padded.ensures.receipts in
    let own = c.in-Err.ensures.receipts in
    record {
      falls = λ honest. first.falls (own.falls (and_parts c.without_padding-made.new.receipts.honest (honest_of c.without_padding-made.new.reader) (sym c.note_reads.ensures ∙ honest)).0);
      stays = λ truth honest. c.note_reads.ensures ∙ and_from c.without_padding-made.new.receipts.honest (honest_of c.without_padding-made.new.reader) (own.stays truth (first.stays truth honest)) (c.in-Err.ensures.reads truth);
    }

use Rattle.std.proofs.Common.{sym, ◌∙◌}
use Rattle.std.proofs.lemmas.Bool.{and_parts, and_from}
use Rattle.raft_log_file_reader.specs.Reader.{honest_of}
use Rattle.raft_log_open.proofs.Joining.{judged}
use Rattle.raft_log_open.specs.PaddingReading.{content_of}
use Rattle.raft_log_open.proofs.content.is_padded.Goals as goal

pub returns-in-Ok-clause-ok : goal.returns-in-Ok-clause-ok
returns-in-Ok-clause-ok g c = λ honest.
    let d = g.F.FileSystem.disk c.args.file_system.now in
    let parts = and_parts c.args.receipts.now.honest (honest_of c.read_file-read.new.reader) (sym c.note_reads.ensures ∙ honest) in
    let (read, reads, handed) = c.in-Ok.ensures.ok parts.1 in
    judged c.args.file.is_last c.args.file.id (content_of c.args.file d) read c.in-Ok.found.format handed.format reads

pub returns-in-Err-clause-err : goal.returns-in-Err-clause-err
returns-in-Err-clause-err g c = λ honest.
    c.in-Err.ensures.err (and_parts c.args.receipts.now.honest (honest_of c.read_file-read.new.reader) (sym c.note_reads.ensures ∙ honest)).1

pub returns-in-Ok-clause-receipts : goal.returns-in-Ok-clause-receipts
returns-in-Ok-clause-receipts g c = record {
  falls = λ honest. (and_parts c.args.receipts.now.honest (honest_of c.read_file-read.new.reader) (sym c.note_reads.ensures ∙ honest)).0;
  stays = λ truth honest. c.note_reads.ensures ∙ and_from c.args.receipts.now.honest (honest_of c.read_file-read.new.reader) honest (c.in-Ok.ensures.receipts truth);
}

pub returns-in-Err-clause-receipts : goal.returns-in-Err-clause-receipts
returns-in-Err-clause-receipts g c = record {
  falls = λ honest. (and_parts c.args.receipts.now.honest (honest_of c.read_file-read.new.reader) (sym c.note_reads.ensures ∙ honest)).0;
  stays = λ truth honest. c.note_reads.ensures ∙ and_from c.args.receipts.now.honest (honest_of c.read_file-read.new.reader) honest (c.in-Err.ensures.receipts truth);
}

use Rattle.std.proofs.Common.{sym, ◌∙◌}
use Rattle.std.proofs.lemmas.Bool.{and_parts, and_from}
use Rattle.raft_log_file_writer.proofs.reader.LogFileReader.read_to.Goals as goal

pub returns-clause-ok : goal.returns-clause-ok
returns-clause-ok g c = λ honest.
    let both = and_parts c.args.receipts.now.honest c.in_ok-read.read.receipt.honest (sym c.note.ensures ∙ honest) in
    c.in_ok-read.ensures.ok.0 both.1

pub returns-clause-receipts : goal.returns-clause-receipts
returns-clause-receipts g c = record {
  falls = λ honest. (and_parts c.args.receipts.now.honest c.in_ok-read.read.receipt.honest (sym c.note.ensures ∙ honest)).0;
  stays = λ truth honest. c.note.ensures ∙ and_from c.args.receipts.now.honest c.in_ok-read.read.receipt.honest honest (c.in_ok-read.ensures.truth truth);
}

use Rattle.std.proofs.Common.{◌≡◌, ◌↔◌, ◌-◌, ◌≤◌, ℕ, List, IsTrue, length, min, take, drop, sym, ap, subst, ◌∙◌, arith}
use Rattle.std.proofs.lemmas.Bool.{and_parts, and_from}
use Rattle.std.proofs.lemmas.List.{length-drop}
use Rattle.raft_log_file_reader.specs.Source.{bytes_in}
use Rattle.raft_log_inspection.specs.Intact.{AreZeros}
use Rattle.raft_log_inspection.proofs.ZeroLemmas.{read_front}
use Rattle.raft_log_inspection.proofs.zeros.read_piece.Goals as goal

pub returns-clause-ok : goal.returns-clause-ok
returns-clause-ok g c = λ honest.
    let d = g.F.FileSystem.disk c.args.files.now in
    let at = c.args.at in
    let count = c.in_ok-read.read.count in
    let before = c.args.room.now in
    let after = c.read_at.new.room in
    let fills = c.in_ok-read.ensures.ok.0 (and_parts c.args.receipts.now.honest c.in_ok-read.read.receipt.honest (sym c.note.ensures ∙ honest)).1 in
    let bytes = fills.file.content in
    let content = bytes_in (d.files c.args.handle.file) in
    let same : content ≡ bytes = ap bytes_in fills.is in
    let number = fills.number in
    let rest = length-drop at bytes in
    let le : count ≤ length (drop at bytes) = omega (arith, number, rest) in
    let front : take count after ≡ take count (drop at content) =
    read_front (drop at bytes) before after count le fills.bytes ∙ ap (λ (l : List ℕ). take count (drop at l)) (sym same) in
    record {
      number = subst (λ (l : List ℕ). count ≡ min (length before) (length l - at)) (sym same) number;
      zeros = subst (λ (l : List ℕ). IsTrue c.are_zeros-has_zeros.result ↔ AreZeros l) front c.are_zeros-has_zeros.ensures;
    }

pub returns-clause-receipts : goal.returns-clause-receipts
returns-clause-receipts g c = record {
  falls = λ honest. (and_parts c.args.receipts.now.honest c.in_ok-read.read.receipt.honest (sym c.note.ensures ∙ honest)).0;
  stays = λ truth honest. c.note.ensures ∙ and_from c.args.receipts.now.honest c.in_ok-read.read.receipt.honest honest (c.in_ok-read.ensures.truth truth);
}

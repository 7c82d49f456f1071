use Rattle.std.proofs.Common.{◌≡◌, List, ℕ, length, take, drop, ap, sym, subst, ◌∙◌, arith}
use Rattle.std.proofs.Math.Nat.{min-eq_left}
use Rattle.std.proofs.lemmas.Bool.{and_parts, and_from}
use Rattle.raft_log_file_reader.specs.Source.{bytes_in}
use Rattle.raft_log_file_reader.proofs.Parts.{room_filled}
use Rattle.raft_log_file_reader.proofs.window.fill.Goals as goal

pub returns-else-read-wanted-clause-ok : goal.returns-else-read-wanted-clause-ok
returns-else-read-wanted-clause-ok g c = λ honest.
    let at = c.args.at in
    let before = c.args.room.now in
    let after = c.read_at.new.room in
    let fills = c.in-Ok.ensures.ok.0 (and_parts c.args.receipts.now.honest c.in-Ok.read.receipt.honest (sym c.note.ensures ∙ honest)).1 in
    let content = ap bytes_in fills.is in
    subst (λ (l : List ℕ). after ≡ take (length before) (drop at l)) (sym content)
    (room_filled at _ before after fills.file.content (omega (arith, c.requires.inside, c.requires.size, ap length content)) fills.number fills.bytes)

pub returns-then-read-wanted-clause-err : goal.returns-then-read-wanted-clause-err
returns-then-read-wanted-clause-err g c = λ honest.
    let before = c.args.room.now in
    let fills = c.in-Ok.ensures.ok.0 (and_parts c.args.receipts.now.honest c.in-Ok.read.receipt.honest (sym c.note.ensures ∙ honest)).1 in
    let content = ap bytes_in fills.is in
    let all : c.in-Ok.read.count ≡ length before = fills.number ∙ min-eq_left (omega (arith, c.requires.inside, c.requires.size, ap length content)) in
    absurd (omega (arith, all))

pub returns-then-read-wanted-clause-unread : goal.returns-then-read-wanted-clause-unread
returns-then-read-wanted-clause-unread g c = λ honest.
    let before = c.args.room.now in
    let fills = c.in-Ok.ensures.ok.0 (and_parts c.args.receipts.now.honest c.in-Ok.read.receipt.honest (sym c.note.ensures ∙ honest)).1 in
    let content = ap bytes_in fills.is in
    let all : c.in-Ok.read.count ≡ length before = fills.number ∙ min-eq_left (omega (arith, c.requires.inside, c.requires.size, ap length content)) in
    absurd (omega (arith, all))

pub returns-then-read-wanted-clause-receipts : goal.returns-then-read-wanted-clause-receipts
returns-then-read-wanted-clause-receipts g c = record {
  falls = λ honest. (and_parts c.args.receipts.now.honest c.in-Ok.read.receipt.honest (sym c.note.ensures ∙ honest)).0;
  stays = λ truth honest. c.note.ensures ∙ and_from c.args.receipts.now.honest c.in-Ok.read.receipt.honest honest (c.in-Ok.ensures.truth truth);
}

pub returns-else-read-wanted-clause-receipts : goal.returns-else-read-wanted-clause-receipts
returns-else-read-wanted-clause-receipts g c = record {
  falls = λ honest. (and_parts c.args.receipts.now.honest c.in-Ok.read.receipt.honest (sym c.note.ensures ∙ honest)).0;
  stays = λ truth honest. c.note.ensures ∙ and_from c.args.receipts.now.honest c.in-Ok.read.receipt.honest honest (c.in-Ok.ensures.truth truth);
}

pub returns-in-Err-clause-err : goal.returns-in-Err-clause-err
returns-in-Err-clause-err g c = λ honest.
    record { at = c.args.at; count = length c.args.room.now; behind = omega arith; inside = c.requires.inside; unread = c.in-Err.ensures.err }

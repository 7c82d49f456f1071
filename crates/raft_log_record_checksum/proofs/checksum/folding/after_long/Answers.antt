use Rattle.std.proofs.Common.{◌≡◌, ◌++◌, List, ℕ, sym, ap, ◌∙◌}
use Rattle.std.proofs.lemmas.List.{take-append-drop}
use Rattle.raft_log_record_checksum.specs.Checksum.{crc_after}
use Rattle.raft_log_record_checksum.proofs.Crc.{crc_after-append}
use Rattle.raft_log_record_checksum.proofs.checksum.folding.after_long.Goals as goal

pub returns-in-Some : goal.returns-in-Some
returns-in-Some c =
    let r : ℕ = c.args.register in
    let front : List ℕ = c.in-Some.front.now in
    let last : List ℕ = c.in-Some.last.now in
    let parts = c.in-Some.ensures.cases in
    let whole : front ++ last ≡ c.args.bytes.now = rw (parts.0, parts.1) (take-append-drop _ c.args.bytes.now) in
    c.after_last.ensures (crc_after r front) (c.fold.ensures r c.start-window.ensures) ∙ sym (crc_after-append r front last) ∙ ap (λ (l : List ℕ). crc_after r l) whole

use Rattle.std.proofs.Common.{◌≡◌, ℕ, List, [], ◌++◌, append_assoc, append-nil, ap, ◌∙◌, rules}
use Rattle.std.proofs.Output.{has_written_append, has_written_of_eq}
use Rattle.std.proofs.lemmas.List.{nil_from_length}
use Rattle.hex.specs.Hex.{encode_lower}
use Rattle.raft_voter_messages.proofs.ReplyTexts.{digits_in_parts, no_digits}
use Rattle.raft_voter_messages.proofs.display.write_hex.Goals as goal

pub loop-left-preserved : goal.loop-left-preserved
loop-left-preserved g c = λ plain.
    let so_far = c.loop-left.invariant plain in
    let chunk = c.split_at.result.0.now in (
      so_far.0 ++ encode_lower chunk,
      has_written_append _ _ _ _ _ _ so_far.1 (search rules),
      append_assoc so_far.0 (encode_lower chunk) (encode_lower c.split_at.result.1.now)
          ∙ ap (λ (t : List ℕ). so_far.0 ++ t) (digits_in_parts _ chunk _ _ c.split_at.ensures.front c.split_at.ensures.back)
          ∙ so_far.2,
    )

pub returns : goal.returns
returns g c = λ plain _.
    let so_far = c.loop-left.invariant plain in
    let none : c.loop-left.left.now ≡ [] = nil_from_length _ (search rules) in
    has_written_of_eq _ _ _ _ _ (rw (none, no_digits, append-nil) at so_far.2) so_far.1

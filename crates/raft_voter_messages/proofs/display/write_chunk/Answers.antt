use Rattle.std.proofs.lemmas.Str.{IsUtf8-from_ascii}
use Rattle.hex.specs.Hex.{encode_lower}
use Rattle.raft_voter_messages.proofs.ReplyTexts.{digits_ascii}
use Rattle.raft_voter_messages.proofs.display.write_chunk.Goals as goal

pub unreachable-requires-in_default-from_utf8 : goal.unreachable-requires-in_default-from_utf8
unreachable-requires-in_default-from_utf8 g c =
    let bytes = c.args.bytes.now in
    c.in_default-from_utf8.ensures.cases.0 (rw c.in-Ok.ensures.written (IsUtf8-from_ascii (encode_lower bytes) (digits_ascii bytes)))

use Rattle.std.proofs.Common.{arith}
use Rattle.raft_log_record_frames.proofs.Public.{word_leaves, word_there}
use Rattle.raft_log_file_reader.proofs.foreign.spelled_header.Goals as goal

pub returns-in_err-word : goal.returns-in_err-word
returns-in_err-word c = absurd (word_there c.args.bytes.now c.in_err-word.field-0.0 (omega (arith, c.requires)) c.in_err-word.ensures.exact.0)

pub returns-in_err-footer : goal.returns-in_err-footer
returns-in_err-footer c =
    absurd (word_there c.decode_u64.new.source.now c.in_err-footer.field-0.0 (word_leaves c.args.bytes.now c.in_ok-word.word _ c.requires c.in_ok-word.ensures.exact) c.in_err-footer.ensures.exact.0)

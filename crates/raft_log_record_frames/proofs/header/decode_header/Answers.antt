use Rattle.std.proofs.Common.{arith}
use Rattle.raft_log_record_frames.proofs.Words.{word_there, word_leaves}
use Rattle.raft_log_record_frames.proofs.header.decode_header.Goals as goal

pub returns-in_err-word : goal.returns-in_err-word
returns-in_err-word c = absurd (word_there c.args.source.now.now c.in_err-word.field-0.0 (omega arith) c.in_err-word.ensures.exact.0)

pub returns-in_err-offset : goal.returns-in_err-offset
returns-in_err-offset c =
    absurd (word_there c.decode_u64.new.source.now c.in_err-offset.field-0.0 (word_leaves c.args.source.now.now c.in_ok-word.word _ (omega arith) c.in_ok-word.ensures.exact) c.in_err-offset.ensures.exact.0)

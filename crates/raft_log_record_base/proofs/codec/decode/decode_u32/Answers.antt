use Rattle.std.proofs.Common.{Ok, Err}
use Rattle.std.specs.Int.{w32, byte_len, from_be_bytes}
use Rattle.std.proofs.lemmas.Result.{err_from_is_err_and}
use Rattle.raft_log_record_base.proofs.Fixed.{is_high_first}
use Rattle.raft_log_record_base.proofs.Answered.{needs_high, promised, front_ok, front_err}
use Rattle.raft_log_record_base.proofs.codec.decode.decode_u32.Goals as goal

pub returns : goal.returns
returns c =
    let read = front_ok (byte_len w32) (from_be_bytes w32) c.args.source.now.now c.in_ok-split_front.field-0 c.split_front.new.source.now c.in_ok-split_front.ensures in
    let t = promised (is_high_first w32) (needs_high w32) (Ok c.from_be_bytes.result) c.args.source.now.now c.split_front.new.source.now (rw c.from_be_bytes.ensures read) in
    record { decodes = t.decodes; short = t.short; exact = t.exact }

pub returns-in_err-split_front : goal.returns-in_err-split_front
returns-in_err-split_front c =
    let p = err_from_is_err_and c.from_residual.result c.from_residual.ensures.1 in
    let was = c.in_err-split_front.ensures in
    let read = front_err (byte_len w32) (from_be_bytes w32) c.args.source.now.now _ was.0 in
    let t = promised (is_high_first w32) (needs_high w32) (Err c.in_err-split_front.field-0.0) c.args.source.now.now c.split_front.new.source.now (read, was.1) in
    rw (p.1, p.2) (record { decodes = t.decodes; short = t.short; exact = t.exact })

use Rattle.std.proofs.Common.{Ok, Err, rules}
use Rattle.std.specs.Int.{w32, cast_signed, cast_unsigned}
use Rattle.std.proofs.lemmas.Result.{err_from_is_err_and}
use Rattle.raft_log_record_base.specs.Number.{low_first_at}
use Rattle.raft_log_record_base.proofs.Fixed.{is_i32_le}
use Rattle.raft_log_record_base.proofs.Answered.{needs_low, needs_mapped, promised, mapped_ok, mapped_err}
use Rattle.raft_log_record_base.proofs.codec.decode.decode_i32_le.Goals as goal

pub returns : goal.returns
returns c =
    let read = mapped_ok (low_first_at w32) (cast_signed w32) c.args.source.now.now c.in_ok-decode_u32_le.field-0 c.decode_u32_le.new.source.now c.in_ok-decode_u32_le.ensures.exact in
    let t = promised is_i32_le (needs_mapped (cast_signed w32) (needs_low w32)) (Ok (cast_signed w32 (cast_unsigned w32 c.cast_signed.result))) c.args.source.now.now c.decode_u32_le.new.source.now (search (rules, read)) in
    record { decodes = t.decodes; short = t.short; exact = t.exact }

pub returns-in_err-decode_u32_le : goal.returns-in_err-decode_u32_le
returns-in_err-decode_u32_le c =
    let p = err_from_is_err_and c.from_residual.result c.from_residual.ensures.1 in
    let was = c.in_err-decode_u32_le.ensures.exact in
    let read = mapped_err (low_first_at w32) (cast_signed w32) c.args.source.now.now _ was.0 in
    let t = promised is_i32_le (needs_mapped (cast_signed w32) (needs_low w32)) (Err c.in_err-decode_u32_le.field-0.0) c.args.source.now.now c.decode_u32_le.new.source.now (read, was.1) in
    rw (p.1, p.2) (record { decodes = t.decodes; short = t.short; exact = t.exact })

use Rattle.std.proofs.Common.{Ok, Err, rules}
use Rattle.std.specs.Int.{w64, cast_signed, cast_unsigned, bit_not}
use Rattle.std.proofs.lemmas.Result.{err_from_is_err_and}
use Rattle.raft_log_record_base.specs.Number.{u64_desc_at, above_least}
use Rattle.raft_log_record_base.proofs.Fixed.{is_i64_desc}
use Rattle.raft_log_record_base.proofs.Answered.{needs_high, needs_mapped, promised, mapped_ok, mapped_err}
use Rattle.raft_log_record_base.proofs.codec.decode.decode_i64_desc.Goals as goal

pub returns : goal.returns
returns c =
    let read = mapped_ok u64_desc_at above_least c.args.source.now.now c.in_ok-decode_u64_desc.field-0 c.decode_u64_desc.new.source.now c.in_ok-decode_u64_desc.ensures.exact in
    let t = promised is_i64_desc (needs_mapped above_least (needs_mapped (bit_not w64) (needs_high w64))) (Ok (cast_signed w64 (cast_unsigned w64 c.from_order.result))) c.args.source.now.now c.decode_u64_desc.new.source.now (search (rules, read)) in
    record { decodes = t.decodes; short = t.short; exact = t.exact }

pub returns-in_err-decode_u64_desc : goal.returns-in_err-decode_u64_desc
returns-in_err-decode_u64_desc c =
    let p = err_from_is_err_and c.from_residual.result c.from_residual.ensures.1 in
    let was = c.in_err-decode_u64_desc.ensures.exact in
    let read = mapped_err u64_desc_at above_least c.args.source.now.now _ was.0 in
    let t = promised is_i64_desc (needs_mapped above_least (needs_mapped (bit_not w64) (needs_high w64))) (Err c.in_err-decode_u64_desc.field-0.0) c.args.source.now.now c.decode_u64_desc.new.source.now (read, was.1) in
    rw (p.1, p.2) (record { decodes = t.decodes; short = t.short; exact = t.exact })

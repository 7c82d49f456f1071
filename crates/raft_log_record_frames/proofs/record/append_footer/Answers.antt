use Rattle.std.proofs.Common.{◌≡◌, ℕ, ◌-◌, List, ◌++◌, ◌<◌, ◌^◌, length, take, drop, sym, ap, subst, ◌∙◌, arith}
use Rattle.std.proofs.lemmas.List.{take_all, length-drop, drop_at}
use Rattle.raft_log_record_checksum.specs.Checksum.{crc32_of}
use Rattle.raft_log_record_items.specs.Writing.{items_bytes}
use Rattle.raft_log_record_frames.proofs.Written.{plain_footer}
use Rattle.raft_log_record_frames.proofs.record.append_footer.Goals as goal

pub returns-clause-footer : goal.returns-clause-footer
returns-clause-footer c =
    let old : List ℕ = c.args.buf.now.items in
    let bytes : List ℕ = items_bytes c.args.items.now in
    let start : length old ≡ c.len-start.result = sym (c.len-start.ensures ∙ c.args.buf.now.ok.0) in
    let all : c.deref.result.now ≡ old ++ bytes = c.deref.ensures.value ∙ c.in_ok-append_items.ensures.ok in
    let appended : drop c.len-start.result c.deref.result.now ≡ bytes = ap (λ (l : List ℕ). drop c.len-start.result l) all ∙ drop_at old bytes c.len-start.result start in
    let behind : List ℕ = drop c.len-start.result c.deref.result.now in
    let whole : take (length c.deref.result.now - c.len-start.result) behind ≡ behind = take_all (length c.deref.result.now - c.len-start.result) behind (omega (arith, length-drop c.len-start.result c.deref.result.now)) in
    let sum : c.crc32-checksum.result ≡ crc32_of bytes = c.crc32-checksum.ensures ∙ ap (λ (l : List ℕ). crc32_of l) (whole ∙ appended) in
    let fits : c.crc32-checksum.result < 2 ^ 32 = omega (arith, c.crc32-checksum.type_inv) in
    plain_footer c.args.items.now (subst (λ (n : ℕ). n < 2 ^ 32) sum fits) c.in_ok-append_items.ensures.spelled

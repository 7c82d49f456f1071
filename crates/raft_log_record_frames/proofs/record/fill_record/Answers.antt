use Rattle.std.proofs.Common.{◌≡◌, ℕ, List, ◌++◌, ◌≤◌, ◌^◌, length, take, drop, None, refl, inr, sym, ap, subst, ◌∙◌, arith}
use Rattle.std.proofs.lemmas.Result.{err_from_is_err_and}
use Rattle.std.proofs.lemmas.List.{take_at}
use Rattle.raft_log_record_items.specs.Writing.{KeepsFront}
use Rattle.raft_log_record_frames.specs.Record.{block_bytes, footer_bytes, header_bytes, record_len}
use Rattle.raft_log_record_frames.proofs.Made.{keeps_trans, keeps_append, block_keeps, record_made, made-length}
use Rattle.raft_log_record_frames.proofs.record.fill_record.Goals as goal

pub returns-in_err-checksum-clause-err : goal.returns-in_err-checksum-clause-err
returns-in_err-checksum-clause-err c =
    let old : List ℕ = c.args.buf.now.items in
    let new : List ℕ = c.append_footer.new.buf.items in
    let p = err_from_is_err_and c.from_residual-in_err-checksum.result c.from_residual-in_err-checksum.ensures.1 in
    rw p.1 (keeps_trans old (take 16 old ++ block_bytes (drop 16 old)) new (block_keeps old) (subst (λ (l : List ℕ). KeepsFront l new) c.in_ok-close_block.ensures.ok c.in_err-checksum.ensures.err))

pub returns-then-len-gt-MAX_RECORD_LEN-clause-err : goal.returns-then-len-gt-MAX_RECORD_LEN-clause-err
returns-then-len-gt-MAX_RECORD_LEN-clause-err c =
    let old : List ℕ = c.args.buf.now.items in
    let front : List ℕ = take 16 old ++ block_bytes (drop 16 old) in
    let footer : List ℕ = footer_bytes None c.args.items.now in
    let whole : c.append_footer.new.buf.items ≡ front ++ footer = c.in_ok-checksum.ensures.ok ∙ ap (λ (l : List ℕ). l ++ footer) c.in_ok-close_block.ensures.ok in
    keeps_trans old front c.append_footer.new.buf.items (block_keeps old) (subst (λ (l : List ℕ). KeepsFront front l) (sym whole) (keeps_append front footer))

pub returns-then-len-gt-MAX_RECORD_LEN-clause-errors : goal.returns-then-len-gt-MAX_RECORD_LEN-clause-errors
returns-then-len-gt-MAX_RECORD_LEN-clause-errors c =
    let old : List ℕ = c.args.buf.now.items in
    let footer : List ℕ = footer_bytes None c.args.items.now in
    let whole : c.append_footer.new.buf.items ≡ (take 16 old ++ block_bytes (drop 16 old)) ++ footer = c.in_ok-checksum.ensures.ok ∙ ap (λ (l : List ℕ). l ++ footer) c.in_ok-close_block.ensures.ok in
    let len : length c.append_footer.new.buf.items ≡ record_len c.args.items.now (drop 16 old) = made-length old c.args.items.now c.append_footer.new.buf.items c.requires whole in
    let long : 2 ^ 56 ≤ record_len c.args.items.now (drop 16 old) = omega (arith, len, c.append_footer.new.buf.ok.0, c.len-len.ensures, c.if-len-gt-MAX_RECORD_LEN.true) in
    inr (refl, long)

pub returns-clause-ok : goal.returns-clause-ok
returns-clause-ok c =
    let old : List ℕ = c.args.buf.now.items in
    let footer : List ℕ = footer_bytes None c.args.items.now in
    let front : List ℕ = take 16 old ++ block_bytes (drop 16 old) in
    let made : c.append_footer.new.buf.items ≡ front ++ footer = c.in_ok-checksum.ensures.ok ∙ ap (λ (l : List ℕ). l ++ footer) c.in_ok-close_block.ensures.ok in
    let len : c.len-len.result ≡ length (front ++ footer) = c.len-len.ensures ∙ c.append_footer.new.buf.ok.0 ∙ ap (λ (l : List ℕ). length l) made in
    let offset : c.len-offset.result ≡ length front = c.len-offset.ensures ∙ c.close_block.new.buf.ok.0 ∙ ap (λ (l : List ℕ). length l) c.in_ok-close_block.ensures.ok in
    let new : List ℕ = c.write_header.new.bytes in
    let written : new ≡ header_bytes c.len-len.result c.len-offset.result ++ drop 16 (front ++ footer) =
    c.write_header.ensures ∙ ap (λ (l : List ℕ). header_bytes c.len-len.result c.len-offset.result ++ drop 16 l) (c.as_mut_slice.ensures.value ∙ made) in
    let kept : length new ≡ c.append_footer.new.buf.len = c.write_header.auto.bytes ∙ c.as_mut_slice.ensures.len in
    record {
      bytes = take_at new (drop (length new) c.append_footer.new.buf.items) c.append_footer.new.buf.len kept ∙ record_made old c.args.items.now c.len-len.result c.len-offset.result new c.requires len offset written;
      sum = c.in_ok-checksum.ensures.sum;
      spelled = c.in_ok-checksum.ensures.spelled;
      signs = omega arith;
      short = omega (arith, made-length old c.args.items.now c.append_footer.new.buf.items c.requires made, c.append_footer.new.buf.ok.0, c.len-len.ensures, c.if-len-gt-MAX_RECORD_LEN.false);
    }

use Rattle.std.proofs.Common.{ℕ, List, Option, refl, sym, subst, ◌∙◌}
use Rattle.std.proofs.lemmas.Result.{err_from_is_err_and}
use Rattle.raft_log_record_base.specs.Fault.{Fault}
use Rattle.raft_log_record_base.specs.Files.{signature_of}
use Rattle.raft_log_record_base.proofs.Public.{fails_of_ok, ok_is}
use Rattle.raft_log_record_items.specs.declared.item.LogItem.{LogItem}
use Rattle.raft_log_record_items.specs.Placed.{placed}
use Rattle.raft_log_record_frames.specs.Record.{IsFooterOf, placed_footer_of}
use Rattle.raft_log_record_frames.proofs.Footers.{placed_footer_is_read}
use Rattle.raft_log_record_frames.specs.ItemBatch.{AllLieIn}
use Rattle.raft_log_record_frames.proofs.Placing.{all_lie_in, footer_room}
use Rattle.raft_log_record_frames.proofs.log_item_batch.LogItemBatch.decode.Goals as goal

pub returns-in_err-items-clause-only : goal.returns-in_err-items-clause-only
returns-in_err-items-clause-only c = λ items h.
    let signature : Option ℕ = c.get_signature.result in
    let footer : IsFooterOf signature c.args.entries.len c.args.bytes.now items = subst (λ (s : Option ℕ). IsFooterOf s c.args.entries.len c.args.bytes.now items) (sym c.get_signature.ensures) h in
    let reads = (placed_footer_is_read signature c.args.entries c.args.bytes.now (placed c.args.entries items)).1 (items, footer, refl) in
    let p = err_from_is_err_and c.from_residual.result c.from_residual.ensures.1 in
    rw (p.1, p.2) (fails_of_ok c.in_err-items.field-0.0 (placed_footer_of signature c.args.entries c.args.bytes.now) _ reads c.in_err-items.ensures.exact)

pub returns-clause-found : goal.returns-clause-found
returns-clause-found c =
    let signature : Option ℕ = c.get_signature.result in
    let read = (placed_footer_is_read signature c.args.entries c.args.bytes.now c.in_ok-items.items.items).0 c.in_ok-items.ensures.exact in
    let footer : IsFooterOf (signature_of c.args.context.now) c.args.entries.len c.args.bytes.now read.0 = subst (λ (s : Option ℕ). IsFooterOf s c.args.entries.len c.args.bytes.now read.0) c.get_signature.ensures read.1 in
    record { items = read.0; footer = footer.0; adds_up = footer.1; places = read.2 }

pub returns-clause-only : goal.returns-clause-only
returns-clause-only c = λ items h.
    let signature : Option ℕ = c.get_signature.result in
    let footer : IsFooterOf signature c.args.entries.len c.args.bytes.now items = subst (λ (s : Option ℕ). IsFooterOf s c.args.entries.len c.args.bytes.now items) (sym c.get_signature.ensures) h in
    let reads = (placed_footer_is_read signature c.args.entries c.args.bytes.now (placed c.args.entries items)).1 (items, footer, refl) in
    ok_is {E = Fault} c.in_ok-items.items.items (placed c.args.entries items) (sym c.in_ok-items.ensures.exact ∙ reads)

pub returns-clause-inside : goal.returns-clause-inside
returns-clause-inside c =
    let read = (placed_footer_is_read c.get_signature.result c.args.entries c.args.bytes.now c.in_ok-items.items.items).0 c.in_ok-items.ensures.exact in
    subst (λ (l : List LogItem). AllLieIn c.args.entries l) (sym read.2) (all_lie_in c.args.entries read.0 (footer_room read.0 c.args.entries.len read.1.1))

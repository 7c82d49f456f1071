use Rattle.std.proofs.Common.{◌≡◌, List, None, ap, subst, ◌∙◌}
use Rattle.raft_log_record_items.specs.declared.item.LogItem.{LogItem}
use Rattle.raft_log_record_frames.specs.Record.{footer_bytes}
use Rattle.raft_log_record_frames.specs.Made.{IsPlainFooter}
use Rattle.raft_log_record_frames.specs.ItemBatch.{ItemBatch}
use Rattle.raft_log_record_frames.proofs.ItemBatches.{footers_are_read, on_answer}
use Rattle.raft_log_record_frames.proofs.log_item_batch.LogItemBatch.encode.Goals as goal

pub returns-clause-read : goal.returns-clause-read
returns-clause-read c =
    let items : List LogItem = c.args.self.now.items in
    let same : c.as_slice.result.now ≡ items = c.as_slice.ensures.value ∙ ap (λ (b : ItemBatch). b.items) c.self.view_is in
    on_answer c.append_footer-appended.result c.map.result c.or_cut_back.result c.or_cut_back.ensures.value c.map.ensures.variant c.append_footer-appended.ensures.footer
    (λ footer. footers_are_read (footer_bytes None items) items (subst (λ (l : List LogItem). IsPlainFooter (footer_bytes None l) l) same footer))

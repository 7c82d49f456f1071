use Rattle.std.proofs.Common.{◌≡◌, true, false, ◌∙◌, rules, take}
use Rattle.std.proofs.lemmas.Result.{err_from_is_err_and}
use Rattle.raft_log_record_items.specs.declared.entry.EntryIndex.{EntryIndex}
use Rattle.raft_log_record_frames.specs.Marking.{has_mark_key}
use Rattle.raft_log_record_frames.specs.Meaning.{tagged}
use Rattle.raft_log_memtables.proofs.Items.{none_of_first, tagged_more, tagged_split}
use Rattle.raft_log_memtables.proofs.Promised.{promised_elsewhere, promised_more, still_promised_all, table_elsewhere}
use Rattle.raft_log_memtables.proofs.Ready.{still_ready, batch_refused, on_err_all, one_more_ready}
use Rattle.raft_log_memtables.proofs.mem_tables.MemTables.prepare_all.Goals as goal
use Rattle.raft_log_memtables.proofs.mem_tables.MemTables.prepare_all.Goals.{then-not-is_mark+in_ok-prepare_item, else-not-is_mark}

pub returns-in_err-prepare_item-clause-err : goal.returns-in_err-prepare_item-clause-err
returns-in_err-prepare_item-clause-err c =
    let first = take c.loop-item.item-index c.args.items.now in
    let so_far = c.loop-item.invariant.promises in
    on_err_all c.from_residual.result (λ g h.
    let apart = none_of_first g c.args.items.now c.loop-item.item-index h in (
      c.in_err-prepare_item.ensures.err g ∙ promised_elsewhere (λ e. e) c.args.self.now c.loop-item.self first so_far g apart,
      c.in_err-prepare_item.ensures.tables g ∙ table_elsewhere (λ e. e) c.args.self.now c.loop-item.self first so_far g apart,
    ))

pub returns-in_err-prepare_item-clause-errors : goal.returns-in_err-prepare_item-clause-errors
returns-in_err-prepare_item-clause-errors c =
    let gave = err_from_is_err_and c.from_residual.result c.from_residual.ensures.1 in
    let xs = c.args.items.now in
    let i = c.loop-item.item-index in
    let plain : has_mark_key c.item-item.result ≡ false = search rules in
    let whole = tagged_split {E = EntryIndex} (λ e. e) xs i _ c.item-item.result c.loop-item-test.true c.item-item.is plain in
    rw (gave.1, gave.2) (batch_refused c.args.self.now c.loop-item.self _ _ _ (tagged {E = EntryIndex} (λ e. e) c.item-item.result) _ c.loop-item.invariant.shows c.loop-item.invariant.ready whole
    c.in_err-prepare_item.ensures.errors)

pub loop-item-preserved : goal.loop-item-preserved
loop-item-preserved c =
    let xs = c.args.items.now in
    let i = c.loop-item.item-index in
    let so_far = c.loop-item.invariant in
    let x = c.item-item.result in
    elim c.if-not-is_mark.branch [
      | then-not-is_mark+in_ok-prepare_item w ↦
          let e = w.in_ok-prepare_item.ensures in
          let plain : false ≡ has_mark_key x = search rules in
          let said = tagged_more {E = EntryIndex} (λ e. e) xs i x x false c.loop-item-test.true c.item-item.is plain in
          rw (w.self-is, said) (record {
            shows = record { shown = λ g. e.shows.shown g ∙ so_far.shows.shown g; counts = λ g. e.shows.counts g ∙ so_far.shows.counts g };
            ready = one_more_ready c.loop-item.self w.prepare_item.new.self _ (tagged {E = EntryIndex} (λ e. e) x) so_far.ready e.shows e.ok;
            promises = promised_more c.args.self.now c.loop-item.self w.prepare_item.new.self _ (tagged {E = EntryIndex} (λ e. e) x) so_far.promises e.ok;
          })
      | else-not-is_mark w ↦
          let said = tagged_more {E = EntryIndex} (λ e. e) xs i x x true c.loop-item-test.true c.item-item.is w.if-not-is_mark.ensures in
          rw (w.self-is, said) (record {
            shows = so_far.shows;
            ready = still_ready c.loop-item.self _ so_far.ready;
            promises = still_promised_all c.args.self.now c.loop-item.self _ so_far.promises;
          })
    ]

use Rattle.std.proofs.Common.{◌<◌, arith, refl}
use Rattle.std.proofs.lemmas.Result.{err_from_is_err_and}
use Rattle.std.proofs.lemmas.List.{length-append}
use Rattle.raft_log_record_items.specs.Reading.{entry_len_at, entries_from_at}
use Rattle.raft_log_record_base.proofs.Public.{fails_through}
use Rattle.raft_log_record_items.proofs.Entries.{entries_go_on, entries_fail, entries_done, follows-push}
use Rattle.raft_log_record_items.proofs.entry_indexes.split_entries.Goals as goal

pub returns-in_err-entry_len-clause-read : goal.returns-in_err-entry_len-clause-read
returns-in_err-entry_len-clause-read c =
    let lt : c.loop-i.i < c.args.count = omega arith in
    let p = err_from_is_err_and c.from_residual-in_err-entry_len.result c.from_residual-in_err-entry_len.ensures.1 in
    rw (p.1, p.2) (
      fails_through c.in_err-entry_len.field-0.0 (entry_len_at c.loop-i.rest.now) (entries_from_at c.args.first c.args.count c.args.source.now.now)
          (λ f e. entries_fail c.args.first c.loop-i.entries.items c.args.count c.loop-i.i c.loop-i.rest.now f _ lt e c.loop-i.invariant.0)
          c.in_err-entry_len.ensures.0,
      refl,
    )

pub loop-i-preserved : goal.loop-i-preserved
loop-i-preserved c =
    let lt : c.loop-i.i < c.args.count = omega arith in
    let items = rw c.unplaced.ensures at c.in_ok-push.ensures.items in (
      rw items (entries_go_on c.args.first c.loop-i.entries.items c.args.count c.loop-i.i c.loop-i.rest.now _ _ _ lt c.in_ok-entry_len.ensures c.loop-i.invariant.0),
      rw items (follows-push c.args.first c.loop-i.entries.items _ c.loop-i.invariant.1 (omega (arith, c.loop-i.invariant.2)) (omega arith)),
      rw items (simp length-append (omega (arith, c.loop-i.invariant.2))),
    )

pub returns-clause-read : goal.returns-clause-read
returns-clause-read c = entries_done c.args.first c.loop-i.entries.items c.args.count c.loop-i.i c.loop-i.rest.now _ (omega arith) c.loop-i.invariant.0

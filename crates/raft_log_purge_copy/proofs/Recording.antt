-- Records that are written to Rewrite, or refused there.
use Rattle.std.proofs.Common.{◌≡◌, ◌+◌, ◌-◌, ◌^◌, ℕ, List, [], inl, inr, min, ap, arith, subst, ◌∙◌}
use Rattle.std.specs.Prelude.{Err, Ok, OnOk, Result}
use Rattle.std.proofs.lemmas.Bool.Decides.{nat_tests}
use Rattle.raft_log_fs.specs.Causes.{IsLater}
use Rattle.raft_log_record_base.specs.declared.errors.Error.{Error}
use Rattle.raft_log_record_base.specs.declared.pipe_log.FileBlockHandle.{FileBlockHandle}
use Rattle.raft_log_record_items.specs.declared.item.LogItem.{LogItem}
use Rattle.raft_log_record_items.specs.Placed.{written}
use Rattle.raft_log_record_batches.specs.Batch.{Batch, block_place, IsReadyForEach}
use Rattle.raft_log_block_cache.specs.Signing.{signed_for}
use Rattle.raft_log_machine_laws.specs.Calls.Which.{InRewrite}
use Rattle.raft_log_dual_pipes.specs.Pipes.{LogPipes}
use Rattle.raft_log_dual_pipes.specs.Calls.{AppendsTo, FailsToAppendTo, TellsFailure}
use Rattle.raft_log_dual_pipes.specs.Numbers.{EndsNumbersAt}
use Rattle.raft_log_dual_pipes.specs.PipeCalls.{PipeFailsToAppend}
use Rattle.raft_log_purge_copy.specs.Parts.{IsRecordMade}
use Rattle.raft_log_purge_copy.proofs.PartExits.{alive_ok, later_on, same_record, tells_err}
use Rattle.raft_log_purge_copy.specs.Syncing.{left_unsynced, CountsCopies, CountsRecord, MaySync, SyncsIfDue, TakesRecord, WritesOne}
use Rattle.raft_log_purge_copy.specs.Records.{FailsToWriteRecord, WritesToRewrite}

module _ (b made : Batch) (v mid w : LogPipes) (syncs : MaySync v mid) (is : IsRecordMade b made) (before : IsLater v.disk mid.disk) (later : IsLater mid.disk w.disk) where
  pub record_written : (block : FileBlockHandle) (items : List LogItem) → TellsFailure (Ok block) w → AppendsTo InRewrite (signed_for made) block mid w → items ≡ written (block_place block b.entries) b.items → WritesToRewrite b block items v w
  record_written block items tells call there = record {
    synced = mid;
    syncs = syncs;
    says = is.says;
    laid = is.laid;
    call = subst (λ s. AppendsTo InRewrite s block mid w) (same_record b made is) call;
    there = there;
    alive = alive_ok block w tells;
    later = later_on v.disk mid.disk w.disk before later;
  }

  pub record_refused : {A : Type 0} (error : Error) → TellsFailure {A = A} (Err error) w → FailsToAppendTo InRewrite (signed_for made) error mid w → EndsNumbersAt InRewrite (signed_for made) error mid w
      → PipeFailsToAppend InRewrite (signed_for made) error mid w → FailsToWriteRecord b error v w
  record_refused {A} error tells call ends told = record {
    why = inr (inr (record {
      synced = mid;
      syncs = syncs;
      says = is.says;
      laid = is.laid;
      call = subst (λ s. FailsToAppendTo InRewrite s error mid w) (same_record b made is) call;
      range = subst (λ s. EndsNumbersAt InRewrite s error mid w) (same_record b made is) ends;
      told = subst (λ s. PipeFailsToAppend InRewrite s error mid w) (same_record b made is) told;
      before = before;
    }));
    tells = λ lived. tells_err {A = A} error w tells;
    later = later_on v.disk mid.disk w.disk before later;
  }

-- what is left unsynced behind a sync that is made where it is due
left_is : (old now : ℕ) (v w : LogPipes) → SyncsIfDue old now v w → now ≡ left_unsynced old
left_is old now v w (inl p) = grind (arith, nat_tests, p.0, p.1)
left_is old now v w (inr p) = grind (arith, nat_tests, p.0, p.1)

-- a record that is written behind it counts
counts_record : (b : Batch) (old now new len : ℕ) (v w : LogPipes) → SyncsIfDue old now v w
    → IsReadyForEach len b.items b.entries → new ≡ min (now + len) (2 ^ 64 - 1) → CountsRecord b old new
counts_record b old now new len v w due ready is =
    (len, ready, is ∙ ap (λ n. min (n + len) (2 ^ 64 - 1)) (left_is old now v w due))

-- the record that was made of a batch is the batch's
pub takes_made : (b made : Batch) (v w : LogPipes) → IsRecordMade b made → (block : FileBlockHandle) → AppendsTo InRewrite (signed_for made) block v w → TakesRecord b v w
takes_made b made v w is block call = (block, subst (λ s. AppendsTo InRewrite s block v w) (same_record b made is) call)

-- a record was written, behind a sync where that is due
pub one_written : (b : Batch) (old now new len : ℕ) (v mid w : LogPipes) → SyncsIfDue old now v mid → IsReadyForEach len b.items b.entries → new ≡ min (now + len) (2 ^ 64 - 1) → TakesRecord b mid w → WritesOne b old new v w
one_written b old now new len v mid w due ready is took = record {
  synced = mid;
  syncs = subst (λ n. SyncsIfDue old n v mid) (left_is old now v mid due) due;
  took = took;
  counted = counts_record b old now new len v mid due ready is;
}

-- so were copies, where they were
pub copies_counted : {A E : Type 0} (b : Batch) (old now new : ℕ) (v mid w : LogPipes) (r : Result A E) → (b.items ≡ [] → ⊥) → SyncsIfDue old now v mid
    → OnOk r ((len : ℕ) × IsReadyForEach len b.items b.entries × (new ≡ min (now + len) (2 ^ 64 - 1))) → OnOk r (TakesRecord b mid w) → OnOk r (CountsCopies b old new v w)
copies_counted b old now new v mid w (Ok x) some due counts took = inr (some, one_written b old now new counts.0 v mid w due counts.1 counts.2 took)
copies_counted b old now new v mid w (Err e) some due counts took = tt

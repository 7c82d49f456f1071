-- A batch that was written and then synced is durable.
use Rattle.std.proofs.Common.{◌≡◌, ◌<◌, ℕ, Bool, true, false, List, [], ◌∷◌, ◌++◌, length, map, Option, None, Some, inl, inr, refl, sym, ap, subst, ◌∙◌, arith, append_assoc}
use Rattle.std.specs.Prelude.{Ok}
use Rattle.std.proofs.Math.Path.{fun_ext}
use Rattle.std.proofs.lemmas.Bool.{false≢true, ltb-true}
use Rattle.raft_log_model_laws.specs.Groups.{of_group, taken}
use Rattle.raft_log_model_laws.specs.Item.{items_of}
use Rattle.raft_log_model_laws.specs.Meaning.{Slot, after}
use Rattle.raft_log_engine_laws.specs.EngineState.{said_of}
use Rattle.raft_log_record_batches.specs.Batch.{Batch}
use Rattle.raft_log_world.specs.declared.event.Answer.{Answer}
use Rattle.raft_log_world.specs.declared.event.Answer.TheVariants.{Done, Found, At, Entries, Keys, Refused, Failed, Idle}
use Rattle.raft_log_world.specs.declared.event.Call.{Call}
use Rattle.raft_log_world.specs.declared.event.Call.TheVariants.{Write, Sync, Get, GetEntry, FirstIndex, LastIndex, Fetch, Scan, Compact, Purge}
use Rattle.raft_log_world.specs.declared.event.Event.TheVariants.{Serve}
use Rattle.raft_log_world.specs.Kept.{IsPart, KeepsDurable, durable, pending_in, written_in}
use Rattle.raft_log_world.specs.Model.{Adds, Answers, BatchRecord, FailsAt, HasWritten, ModelLog, RunsOn, compacts}
use Rattle.raft_log_world.specs.Model.ModelLog.{running, failed}
use Rattle.raft_log_world.specs.Questions.{BatchesAreWhole, contents_of}
use Rattle.raft_log_world.specs.Reads.{Contents}
use Rattle.raft_log_shared.specs.declared.served.Served.{Served}
use Rattle.raft_log_shared.specs.Calls.{IsExplained, events_of, synced, wrote}
use Rattle.raft_log_shared.specs.Durable.{IsDurable, SyncedWritesAreDurable, written_by}
use Rattle.raft_log_shared.specs.History.{HasPart}
use Rattle.raft_log_shared.specs.Receipts.{IsIn, IsStamped}

-- Parts of lists.

module _ {A : Type 0} where
  more_at : (xs ys : List A) (y : A) → IsPart xs ys → IsPart xs (y ∷ ys)
  more_at [] ys y p = tt
  more_at (x ∷ xs) ys y p = inr p

  after_all : (xs ys zs : List A) → IsPart ys zs → IsPart ys (xs ++ zs)
  after_all [] ys zs p = p
  after_all (x ∷ xs) ys zs p = more_at ys (xs ++ zs) x (after_all xs ys zs p)

  both : (ws bs cs ds : List A) → IsPart ws bs → IsPart cs ds → IsPart (ws ++ cs) (bs ++ ds)
  both [] bs cs ds p q = after_all bs cs ds q
  both (w ∷ ws) [] cs ds p q = absurd p
  both (w ∷ ws) (b ∷ bs) cs ds (inl p) q = inl (p.0, both ws bs cs ds p.1 q)
  both (w ∷ ws) (b ∷ bs) cs ds (inr p) q = inr (both (w ∷ ws) bs cs ds p q)

  front : (xs ys zs : List A) → IsPart (xs ++ ys) zs → IsPart xs zs
  front [] ys zs p = tt
  front (x ∷ xs) ys [] p = absurd p
  front (x ∷ xs) ys (z ∷ zs) (inl p) = inl (p.0, front xs ys zs p.1)
  front (x ∷ xs) ys (z ∷ zs) (inr p) = inr (front (x ∷ xs) ys zs p)

-- One call.

-- the contents after a call are those before, and then some of what it asked to write
record KeepsAll (log : ModelLog) (batches : List BatchRecord) (next : ModelLog) : Type 0 where
  pub added : List BatchRecord
  pub part : IsPart added batches
  pub contents : contents_of next ≡ taken (contents_of log) added

module _ (log : ModelLog) (batches : List BatchRecord) (next : ModelLog) where
  keeps_same : contents_of next ≡ contents_of log → KeepsAll log batches next
  keeps_same is = record { added = []; part = tt; contents = is }

keeps_one : (log : ModelLog) (batch : BatchRecord) (next : ModelLog) → contents_of next ≡ taken (contents_of log) (batch ∷ []) → KeepsAll log (batch ∷ []) next
keeps_one log batch next is = record { added = batch ∷ []; part = inl (refl, tt); contents = is }

-- taking two lists of records in turn is taking them as one list
module _ (in_turn : (m : Contents) (g : ℕ) (s : Slot) (xs ys : List BatchRecord) → taken m (xs ++ ys) g s ≡ taken (taken m xs) ys g s) where
  taken_twice : (m : Contents) (xs ys : List BatchRecord) → taken (taken m xs) ys ≡ taken m (xs ++ ys)
  taken_twice m xs ys = fun_ext (λ g. fun_ext (λ s. sym (in_turn m g s xs ys)))

  ran_on : (m : Contents) (batches : List BatchRecord) (next : ModelLog) → RunsOn m batches next → contents_of next ≡ taken m batches
  ran_on m batches next r = ap contents_of r.is ∙ taken_twice m r.done r.rest ∙ ap (λ (xs : List BatchRecord). taken m xs) r.splits

  has_written : (sync : Bool) (m : Contents) (batches : List BatchRecord) (next : ModelLog) → HasWritten sync m batches next → contents_of next ≡ taken m batches
  has_written true m batches next is = ap contents_of is
  has_written false m batches next r = ran_on m batches next r

  empty_taken : (m : Contents) (batch : BatchRecord) → items_of batch ≡ [] → taken m (batch ∷ []) ≡ m
  empty_taken m batch none = fun_ext (λ g. fun_ext (λ s. ap (λ xs. after (m g) (of_group g (xs ++ [])) s) none))

  module _ (m : Contents) (pending : List BatchRecord) (batch : BatchRecord) (next : ModelLog) where
    adds_one : (sync : Bool) → Adds sync m pending batch next → contents_of next ≡ taken (taken m pending) (batch ∷ [])
    adds_one sync (inl is) = has_written sync m (pending ++ batch ∷ []) next is ∙ sym (taken_twice m pending (batch ∷ []))
    adds_one sync (inr is) = has_written sync m pending next is.1 ∙ sym (empty_taken (taken m pending) batch is.0)

    failed_one : FailsAt m pending batch next → KeepsAll (running m pending) (batch ∷ []) next
    failed_one (inl is) = keeps_same (running m pending) (batch ∷ []) next (ap contents_of is)
    failed_one (inr is) = keeps_one (running m pending) batch next (ap contents_of is ∙ sym (taken_twice m pending (batch ∷ [])))

  -- what a call asks to write
  abbrev writes_of : Call Batch → List BatchRecord
  writes_of call = written_in {C = Unit {0}} said_of (Serve call ∷ [])

  module _ (m : Contents) (pending : List BatchRecord) (next : ModelLog) where
    still : (call : Call Batch) → next ≡ running m pending → KeepsAll (running m pending) (writes_of call) next
    still call is = keeps_same (running m pending) (writes_of call) next (ap contents_of is)

    served : (call : Call Batch) (answer : Answer) → Answers {C = Unit {0}} said_of (running m pending) (Serve call) answer next → KeepsAll (running m pending) (writes_of call) next
    served (Write batch sync) Done is = keeps_one (running m pending) (said_of batch) next (adds_one m pending (said_of batch) next sync is)
    served (Write batch sync) Refused is = keeps_same (running m pending) (said_of batch ∷ []) next (ran_on m pending next is)
    served (Write batch sync) Failed is = failed_one m pending (said_of batch) next is
    served Sync Done is = keeps_same (running m pending) [] next (ap contents_of is)
    served Sync Failed is = keeps_same (running m pending) [] next (ap contents_of is)
    served (Get group key) (Found value) is = still (Get group key) is.1
    served (Get group key) Refused is = still (Get group key) is
    served (GetEntry group index) (Found entry) is = still (GetEntry group index) is.1
    served (GetEntry group index) Refused is = still (GetEntry group index) is
    served (FirstIndex group) (At index) is = still (FirstIndex group) is.1
    served (LastIndex group) (At index) is = still (LastIndex group) is.1
    served (Fetch group begin end max) (Entries entries) is = still (Fetch group begin end max) is.1
    served (Fetch group begin end max) Refused is = still (Fetch group begin end max) is
    served (Scan group start end) (Keys pairs) is = still (Scan group start end) is.1
    served (Scan group start end) Refused is = still (Scan group start end) is
    served (Compact group index) Done (inl is) =
        keeps_one (running m pending) (compacts group index) next (ran_on m (pending ++ compacts group index ∷ []) next is ∙ sym (taken_twice m pending (compacts group index ∷ [])))
    served (Compact group index) Done (inr is) = still (Compact group index) is.1
    served (Compact group index) Refused is = keeps_same (running m pending) (compacts group index ∷ []) next (ran_on m pending next is)
    served (Compact group index) Failed is = failed_one m pending (compacts group index) next is
    served (Purge kind) Done is = keeps_same (running m pending) [] next (ap contents_of is)
    served (Purge kind) Refused is = keeps_same (running m pending) [] next (ap contents_of is)
    served (Purge kind) Failed (inl is) = keeps_same (running m pending) [] next (ap contents_of is)
    served (Purge kind) Failed (inr is) = keeps_same (running m pending) [] next (ap contents_of is)
    served call answer is = absurd is

  keeps_step : (log : ModelLog) (call : Call Batch) (answer : Answer) (next : ModelLog) → Answers {C = Unit {0}} said_of log (Serve call) answer next → KeepsAll log (writes_of call) next
  keeps_step (running m pending) call answer next is = served m pending next call answer is
  keeps_step (failed m pending) call Failed next is = keeps_same (failed m pending) (writes_of call) next (ap contents_of is)
  keeps_step log call Idle next is = keeps_same log (writes_of call) next (ap contents_of is.1)
  keeps_step log call answer next is = absurd is

  -- Several calls.

  written_first : (call : Call Batch) (rest : List Served) → written_in said_of (Serve call ∷ events_of rest) ≡ writes_of call ++ written_by rest
  written_first (Write batch sync) rest = refl
  written_first (Compact group index) rest = refl
  written_first call rest = refl

  written_both : (xs ys : List Served) → written_by (xs ++ ys) ≡ written_by xs ++ written_by ys
  written_both [] ys = refl
  written_both (x ∷ xs) ys =
      written_first x.call (xs ++ ys) ∙ ap (λ (l : List BatchRecord). writes_of x.call ++ l) (written_both xs ys)
      ∙ sym (append_assoc (writes_of x.call) (written_by xs) (written_by ys))
      ∙ ap (λ (l : List BatchRecord). l ++ written_by ys) (sym (written_first x.call xs))

  keeps_all : (xs : List Served) (log last : ModelLog) → IsExplained log xs last → KeepsAll log (written_by xs) last
  keeps_all [] log last is = keeps_same log [] last (ap contents_of is)
  keeps_all (x ∷ xs) log last is =
      let one = keeps_step log x.call x.answer is.0 is.1 in
      let rest = keeps_all xs is.0 last is.2 in
      record {
        added = one.added ++ rest.added;
        part = subst (λ (l : List BatchRecord). IsPart (one.added ++ rest.added) l) (sym (written_first x.call xs))
            (both one.added (writes_of x.call) rest.added (written_by xs) one.part rest.part);
        contents = rest.contents ∙ ap (λ (c : Contents). taken c rest.added) one.contents ∙ taken_twice (contents_of log) one.added rest.added;
      }

  -- the log between two parts of a history
  parted : (xs ys : List Served) (log last : ModelLog) → IsExplained log (xs ++ ys) last → (mid : ModelLog) × IsExplained log xs mid × IsExplained mid ys last
  parted [] ys log last is = (log, refl, is)
  parted (x ∷ xs) ys log last is =
      let (mid, first, rest) = parted xs ys is.0 last is.2 in
      (mid, (is.0, is.1, first), rest)

  -- of two places in a history, the second is after the first
  later_part : (xs ys zs ws : List Served) (x z : Served) → xs ++ (x ∷ ys) ≡ zs ++ (z ∷ ws) → length xs < length zs → (between : List Served) × (ys ≡ between ++ (z ∷ ws))
  later_part [] ys [] ws x z is less = absurd (omega (arith, less))
  later_part [] ys (y ∷ zs) ws x z is less = (zs, cc (is))
  later_part (a ∷ xs) ys [] ws x z is less = absurd (omega (arith, less))
  later_part (a ∷ xs) ys (b ∷ zs) ws x z is less = later_part xs ys zs ws x z (cc (is)) (omega (arith, less))

  -- The law.

  -- the records of a claim, or none
  abbrev records_in : Option (ℕ × List Served) → List Served
  records_in None = []
  records_in (Some claim) = claim.1

  written_done : (mid next : ModelLog) (batch : Batch) → Answers {C = Unit {0}} said_of mid (Serve (Write batch false)) Done next → contents_of next ≡ taken (contents_of mid) (said_of batch ∷ [])
  written_done (running m pending) next batch is = adds_one m pending (said_of batch) next false is
  written_done mid next batch is = absurd is

  synced_done : (mid next : ModelLog) → Answers {C = Unit {0}} said_of mid (Serve Sync) Done next → (durable next ≡ contents_of mid) × (pending_in next ≡ [])
  synced_done (running m pending) next is = (ap durable is, ap pending_in is)
  synced_done mid next is = absurd is

  module _ (whole : BatchesAreWhole Batch (Unit {0})) (kept : KeepsDurable Batch (Unit {0})) where
    -- a write, calls between, a sync and later calls
    durable_so : (log last : ModelLog) (old between new : List Served) (batch : Batch) → IsExplained log (old ++ (wrote batch Done ∷ (between ++ (synced Done ∷ new)))) last
        → (before later : List BatchRecord) × (durable last ≡ taken (durable log) (before ++ (said_of batch ∷ later))) × IsPart before (pending_in log ++ written_by old)
        × IsPart later (written_by (between ++ (synced Done ∷ new)))
    durable_so log last old between new batch is =
        let (mid, first, rest) = parted old (wrote batch Done ∷ (between ++ (synced Done ∷ new))) log last is in
        let (next, wrote_it, more) = rest in
        let (full, among, end) = parted between (synced Done ∷ new) next last more in
        let (clean, synced_it, tail) = end in
        let b = said_of batch in
        let begins = whole said_of log mid (events_of old) (map (λ s. s.answer) old) first in
        let some = keeps_all between next full among in
        let made = synced_done full clean synced_it in
        let grows = kept said_of clean last (events_of new) (map (λ s. s.answer) new) tail in
        let rest_part : IsPart (grows.done ++ pending_in last) (written_by new) =
        subst (λ (l : List BatchRecord). IsPart (grows.done ++ pending_in last) (l ++ written_by new)) made.1 grows.part in (
          begins.added,
          some.added ++ grows.done,
          grows.contents
              ∙ ap (λ (c : Contents). taken c grows.done) (made.0 ∙ some.contents)
              ∙ taken_twice (contents_of next) some.added grows.done
              ∙ ap (λ (c : Contents). taken c (some.added ++ grows.done)) (written_done mid next batch wrote_it ∙ ap (λ (c : Contents). taken c (b ∷ [])) begins.contents)
              ∙ taken_twice (taken (durable log) begins.added) (b ∷ []) (some.added ++ grows.done)
              ∙ taken_twice (durable log) begins.added (b ∷ (some.added ++ grows.done)),
          begins.part,
          subst (λ (l : List BatchRecord). IsPart (some.added ++ grows.done) l) (sym (written_both between (synced Done ∷ new)))
              (both some.added (written_by between) grows.done (written_by new) some.part (front grows.done (pending_in last) (written_by new) rest_part)),
        )

    at_places : (log last : ModelLog) (history : List Served) (place at : ℕ) (batch : Batch) → IsExplained log history last → HasPart history place (wrote batch Done ∷ []) → HasPart history at (synced Done ∷ [])
        → place < at → IsDurable log history place batch last
    at_places log last history place at batch is first second less =
        let (between, splits) = later_part first.before first.later second.before second.later (wrote batch Done) (synced Done) (sym first.is ∙ second.is) (omega (arith, less, first.at, second.at)) in
        let whole_is : history ≡ first.before ++ (wrote batch Done ∷ (between ++ (synced Done ∷ second.later))) =
        first.is ∙ ap (λ (l : List Served). first.before ++ (wrote batch Done ∷ l)) splits in
        let made = durable_so log last first.before between second.later batch (subst (λ (h : List Served). IsExplained log h last) whole_is is) in
        record {
          old = first.before;
          new = first.later;
          is = first.is;
          at = first.at;
          before = made.0;
          after = made.1;
          contents = made.2;
          earlier = made.3;
          later = subst (λ (l : List Served). IsPart made.1 (written_by l)) (sym splits) made.4;
        }

    -- the sync of a receipt
    with_sync : (log last : ModelLog) (history : List Served) (written : ℕ × List Served) (sync : Option (ℕ × List Served)) (batch : Batch) (len : ℕ) → IsExplained log history last
        → IsIn history (record { written = written; synced = sync }) → IsStamped batch true (Ok len) (record { written = written; synced = sync }) → IsDurable log history written.0 batch last
    with_sync log last history written None batch len is found stamped = absurd (false≢true stamped.due)
    with_sync log last history written (Some sync) batch len is found stamped =
        let record_is : sync.1 ≡ synced Done ∷ [] = ap records_in stamped.synced in
        at_places log last history written.0 sync.0 batch is
        (subst (λ (l : List Served). HasPart history written.0 l) stamped.written found.0)
        (subst (λ (l : List Served). HasPart history sync.0 l) record_is found.1)
        (ltb-true written.0 sync.0 stamped.later)

    pub synced_writes_are_durable : SyncedWritesAreDurable
    synced_writes_are_durable log last history stamp batch len is found stamped =
        with_sync log last history stamp.written stamp.synced batch len is found stamped

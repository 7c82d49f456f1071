-- What one event does to the durable contents of a log, and to its pending batches.
use Rattle.std.proofs.Common.{◌≡◌, Bool, true, false, List, [], ◌∷◌, ◌++◌, drop, take, inl, inr, append_assoc, append-nil, ap, refl, sym, subst, ◌∙◌}
use Rattle.std.proofs.lemmas.List.{take-append-drop}
use Rattle.std.proofs.Math.Path.{fun_ext}
use Rattle.raft_log_model_laws.specs.Groups.{taken}
use Rattle.raft_log_model_laws.proofs.Public.{taken_append}
use Rattle.raft_log_world.specs.declared.event.Answer.{Answer}
use Rattle.raft_log_world.specs.declared.event.Answer.TheVariants.{Done, Found, At, Entries, Keys, Refused, Failed, Idle}
use Rattle.raft_log_world.specs.declared.event.Call.{Call}
use Rattle.raft_log_world.specs.declared.event.Call.TheVariants.{Write, Sync, Get, GetEntry, FirstIndex, LastIndex, Fetch, Scan, Compact, Purge}
use Rattle.raft_log_world.specs.declared.event.Event.{Event}
use Rattle.raft_log_world.specs.declared.event.Event.TheVariants.{Open, Serve, Close, Fork, Crash, Arm}
use Rattle.raft_log_world.specs.Kept.{durable, pending_in, written_in}
use Rattle.raft_log_world.specs.Model.{Answers, BatchRecord, FailsAt, HasWritten, LosesSome, ModelLog, RunsOn, Serves, compacts}
use Rattle.raft_log_world.specs.Reads.{Contents}
use Rattle.raft_log_world.specs.Model.ModelLog.{resting, left, running, failed}

pub taken_twice : (m : Contents) (xs ys : List BatchRecord) → taken (taken m xs) ys ≡ taken m (xs ++ ys)
taken_twice m xs ys = fun_ext (λ g. fun_ext (λ s. sym (taken_append m g s xs ys)))

-- From `log` on, the first of these batches became durable, and the next ones are pending. The others are lost, or
-- weren't written.
pub record Steps (log : ModelLog) (batches : List BatchRecord) (next : ModelLog) : Type 0 where
  pub done : List BatchRecord
  pub lost : List BatchRecord
  pub contents : durable next ≡ taken (durable log) done
  pub splits : done ++ (pending_in next ++ lost) ≡ batches

-- the same, of one that is equal
of_equal : (log next other : ModelLog) (batches : List BatchRecord) → next ≡ other → Steps log batches other → Steps log batches next
of_equal log next other batches is s = subst (λ (x : ModelLog). Steps log batches x) (sym is) s

-- nothing became durable
kept : (log next : ModelLog) (lost batches : List BatchRecord) → durable next ≡ durable log → pending_in next ++ lost ≡ batches → Steps log batches next
kept log next lost batches is splits = record { done = []; lost = lost; contents = is; splits = splits }

-- all that isn't lost did
all_done : (log next : ModelLog) (done lost batches : List BatchRecord) → pending_in next ≡ [] → durable next ≡ taken (durable log) done → done ++ lost ≡ batches → Steps log batches next
all_done log next done lost batches none is splits = record {
  done = done;
  lost = lost;
  contents = is;
  splits = ap (λ (xs : List BatchRecord). done ++ (xs ++ lost)) none ∙ splits;
}

runs_on : (m : Contents) (pending batches lost all : List BatchRecord) (next : ModelLog) → RunsOn m batches next → batches ++ lost ≡ all → Steps (running m pending) all next
runs_on m pending batches lost all next r splits = of_equal (running m pending) next (running (taken m r.done) r.rest) all r.is (record {
  done = r.done;
  lost = lost;
  contents = refl;
  splits = sym (append_assoc r.done r.rest lost) ∙ ap (λ (xs : List BatchRecord). xs ++ lost) r.splits ∙ splits;
})

has_written : (sync : Bool) (m : Contents) (pending batches lost all : List BatchRecord) (next : ModelLog) → HasWritten sync m batches next → batches ++ lost ≡ all → Steps (running m pending) all next
has_written true m pending batches lost all next is splits =
    of_equal (running m pending) next (running (taken m batches) []) all is (all_done (running m pending) (running (taken m batches) []) batches lost all refl refl splits)
has_written false m pending batches lost all next r splits = runs_on m pending batches lost all next r splits

-- the last few pending batches are lost
some_lost : (log next : ModelLog) (now : Contents) → LosesSome (durable log) (pending_in log) now → durable next ≡ now → pending_in next ≡ [] → Steps log (pending_in log ++ []) next
some_lost log next now (count, few, is) same none =
    let pending = pending_in log in
    all_done log next (take count pending) (drop count pending) (pending ++ []) none (same ∙ is) (take-append-drop count pending ∙ sym (append-nil pending))

module _ (m : Contents) (pending : List BatchRecord) where
  synced : (next : ModelLog) → next ≡ running (taken m pending) [] → Steps (running m pending) (pending ++ []) next
  synced next is = of_equal (running m pending) next (running (taken m pending) []) (pending ++ []) is (all_done (running m pending) (running (taken m pending) []) pending [] (pending ++ []) refl refl refl)

  stays : (next : ModelLog) → next ≡ running m pending → Steps (running m pending) (pending ++ []) next
  stays next is = of_equal (running m pending) next (running m pending) (pending ++ []) is (kept (running m pending) (running m pending) [] (pending ++ []) refl refl)

  fell : (lost : List BatchRecord) (next : ModelLog) → next ≡ failed m pending → Steps (running m pending) (pending ++ lost) next
  fell lost next is = of_equal (running m pending) next (failed m pending) (pending ++ lost) is (kept (running m pending) (failed m pending) lost (pending ++ lost) refl refl)

  -- the engine failed while it wrote a batch
  fails_at : (batch : BatchRecord) (next : ModelLog) → FailsAt m pending batch next → Steps (running m pending) (pending ++ batch ∷ []) next
  fails_at batch next (inl is) = fell (batch ∷ []) next is
  fails_at batch next (inr is) =
      let all = pending ++ batch ∷ [] in
      of_equal (running m pending) next (failed m all) all is (kept (running m pending) (failed m all) [] all refl (append-nil all))

module _ {B : Type 0} (C : Type 0) (says : B → BatchRecord) (m : Contents) (pending : List BatchRecord) where
  served : (call : Call B) (answer : Answer) (next : ModelLog) → Serves says m pending call answer next → Steps (running m pending) (pending ++ written_in {C = C} says (Serve call ∷ [])) next
  served (Write batch sync) Done next (inl is) = (let all = pending ++ says batch ∷ [] in has_written sync m pending all [] all next is (append-nil all))
  served (Write batch sync) Done next (inr is) = has_written sync m pending pending (says batch ∷ []) (pending ++ says batch ∷ []) next is.1 refl
  served (Write batch sync) Refused next is = runs_on m pending pending (says batch ∷ []) (pending ++ says batch ∷ []) next is refl
  served (Write batch sync) Failed next is = fails_at m pending (says batch) next is
  served Sync Done next is = synced m pending next is
  served Sync Failed next is = fell m pending [] next is
  served (Get group key) (Found value) next is = stays m pending next is.1
  served (Get group key) Refused next is = stays m pending next is
  served (GetEntry group index) (Found value) next is = stays m pending next is.1
  served (GetEntry group index) Refused next is = stays m pending next is
  served (FirstIndex group) (At index) next is = stays m pending next is.1
  served (LastIndex group) (At index) next is = stays m pending next is.1
  served (Fetch group begin end max) (Entries entries) next is = stays m pending next is.1
  served (Fetch group begin end max) Refused next is = stays m pending next is
  served (Scan group start end) (Keys pairs) next is = stays m pending next is.1
  served (Scan group start end) Refused next is = stays m pending next is
  served (Compact group index) Done next (inl is) = (let all = pending ++ compacts group index ∷ [] in runs_on m pending all [] all next is (append-nil all))
  served (Compact group index) Done next (inr is) =
      of_equal (running m pending) next (running m pending) (pending ++ compacts group index ∷ []) is.1
      (kept (running m pending) (running m pending) (compacts group index ∷ []) (pending ++ compacts group index ∷ []) refl refl)
  served (Compact group index) Refused next is = runs_on m pending pending (compacts group index ∷ []) (pending ++ compacts group index ∷ []) next is refl
  served (Compact group index) Failed next is = fails_at m pending (compacts group index) next is
  served (Purge kind) Done next is = synced m pending next is
  served (Purge kind) Refused next is = synced m pending next is
  served (Purge kind) Failed next (inl is) = fell m pending [] next is
  served (Purge kind) Failed next (inr is) =
      of_equal (running m pending) next (failed (taken m pending) []) (pending ++ []) is (all_done (running m pending) (failed (taken m pending) []) pending [] (pending ++ []) refl refl refl)
  served call answer next is = absurd is

-- nothing happened, and nothing of what was to be written was
idle : (log next : ModelLog) (lost : List BatchRecord) → next ≡ log → Steps log (pending_in log ++ lost) next
idle log next lost is = of_equal log next log (pending_in log ++ lost) is (kept log log lost (pending_in log ++ lost) refl refl)

module _ {B C : Type 0} (says : B → BatchRecord) where
  pub stepped : (log : ModelLog) (event : Event B C) (answer : Answer) (next : ModelLog) → Answers says log event answer next → Steps log (pending_in log ++ written_in says (event ∷ [])) next
  stepped (resting m) (Open workers) Done next is = of_equal (resting m) next (running m []) [] is (kept (resting m) (running m []) [] [] refl refl)
  stepped (resting m) (Open workers) Refused next (inl is) = idle (resting m) next [] is
  stepped (resting m) (Open workers) Refused next (inr is) = of_equal (resting m) next (left m []) [] is (kept (resting m) (left m []) [] [] refl refl)
  stepped (left m pending) (Open workers) Done next is = some_lost (left m pending) next is.0 is.1 (ap durable is.2) (ap pending_in is.2)
  stepped (left m pending) (Open workers) Refused next (inl is) = idle (left m pending) next [] is
  stepped (left m pending) (Open workers) Refused next (inr is) = some_lost (left m pending) next is.0 is.1 (ap durable is.2) (ap pending_in is.2)
  stepped (running m pending) (Serve call) answer next is = served C says m pending call answer next is
  stepped (failed m pending) (Serve call) Failed next is = idle (failed m pending) next (written_in {C = C} says (Serve call ∷ [])) is
  stepped (running m pending) Close Done next is =
      of_equal (running m pending) next (left (taken m pending) []) (pending ++ []) is (all_done (running m pending) (left (taken m pending) []) pending [] (pending ++ []) refl refl refl)
  stepped (running m pending) Close Refused next is = of_equal (running m pending) next (left m pending) (pending ++ []) is (kept (running m pending) (left m pending) [] (pending ++ []) refl refl)
  stepped (failed m pending) Close Failed next is = of_equal (failed m pending) next (left m pending) (pending ++ []) is (kept (failed m pending) (left m pending) [] (pending ++ []) refl refl)
  stepped (resting m) (Fork target) Done next is = idle (resting m) next [] is
  stepped (resting m) (Fork target) Refused next is = idle (resting m) next [] is
  stepped (left m pending) (Fork target) Done next is = some_lost (left m pending) next is.0 is.1 (ap durable is.2) (ap pending_in is.2)
  stepped (left m pending) (Fork target) Refused next is = idle (left m pending) next [] is
  stepped (resting m) (Crash what) Done next is = idle (resting m) next [] is
  stepped (left m pending) (Crash what) Done next is = some_lost (left m pending) next is.0 is.1 (ap durable is.2) (ap pending_in is.2)
  stepped (running m pending) (Crash what) Done next is = some_lost (running m pending) next is.0 is.1 (ap durable is.2) (ap pending_in is.2)
  stepped (failed m pending) (Crash what) Done next is = some_lost (failed m pending) next is.0 is.1 (ap durable is.2) (ap pending_in is.2)
  stepped log (Arm fault) Done next is = idle log next [] is
  stepped log (Arm fault) Refused next is = idle log next [] is
  stepped log event Idle next is = idle log next (written_in says (event ∷ [])) is.1
  stepped log event answer next is = absurd is

  pub written_first : (event : Event B C) (events : List (Event B C)) → written_in says (event ∷ events) ≡ written_in says (event ∷ []) ++ written_in says events
  written_first (Serve (Write batch sync)) events = refl
  written_first (Serve (Compact group index)) events = refl
  written_first event events = refl

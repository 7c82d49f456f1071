-- The answers to the questions of a user.
use Rattle.std.proofs.Common.{◌≡◌, ◌≤◌, Bool, true, List, [], ◌∷◌, ◌++◌, length, take, inl, inr, append_assoc, append-nil, length-append, ap, refl, sym, subst, ◌∙◌, arith}
use Rattle.std.proofs.Math.Path.{fun_ext}
use Rattle.std.specs.Global.{Global}
use Rattle.std.specs.declared.string.String.{String}
use Rattle.raft_log_model_laws.specs.Groups.{of_group, taken}
use Rattle.raft_log_model_laws.specs.Item.{items_of}
use Rattle.raft_log_model_laws.specs.Meaning.{after}
use Rattle.raft_log_world.specs.declared.event.Answer.{Answer}
use Rattle.raft_log_world.specs.declared.event.Answer.TheVariants.{Done, Refused, Failed, Idle}
use Rattle.raft_log_world.specs.declared.event.Call.TheVariants.{Purge as PurgeCall, Sync, Write}
use Rattle.raft_log_world.specs.declared.event.Event.{Event}
use Rattle.raft_log_world.specs.declared.event.Event.TheVariants.{Close, Fork, Serve}
use Rattle.raft_log_world.specs.Explained.{Explains}
use Rattle.raft_log_world.specs.Kept.{GrowsBy, durable, pending_in, written_in}
use Rattle.raft_log_world.specs.Model.{Answers, BatchRecord, LosesSome, ModelLog, RunsOn}
use Rattle.raft_log_world.specs.Model.ModelLog.{resting, left, running, failed}
use Rattle.raft_log_world.specs.Questions.{BatchesAreWhole, Continues, CopiesHoldTheLog, FailedWritesLeaveNoTrace, IsCopy, PurgesKeepContents, SyncedBatchesAreKept, Syncs, contents_of}
use Rattle.raft_log_world.specs.Reads.{Contents}
use Rattle.raft_log_world.proofs.Keeping.{grows}
use Rattle.raft_log_world.proofs.Stepping.{Steps, stepped, taken_twice, written_first}

-- Batches are whole.

-- the contents, by what became durable and what is pending
of_both : (m : Contents) (done : List BatchRecord) (last : ModelLog) → durable last ≡ taken m done → contents_of last ≡ taken m (done ++ pending_in last)
of_both m done last is = ap (λ (d : Contents). taken d (pending_in last)) is ∙ taken_twice m done (pending_in last)

continues : (log last : ModelLog) (batches : List BatchRecord) → GrowsBy log batches last → Continues (durable log) batches last
continues log last batches g = record { added = g.done ++ pending_in last; part = g.part; contents = of_both (durable log) g.done last g.contents }

pub batches_are_whole : (B C : Type 0) → BatchesAreWhole B C
batches_are_whole B C says log last events answers is = continues log last (pending_in log ++ written_in says events) (grows {C = C} says events answers log last is)

-- Synced batches are kept.

-- a batch that changes nothing may be taken or not
empty_taken : (m : Contents) (batch : BatchRecord) → items_of batch ≡ [] → taken m (batch ∷ []) ≡ m
empty_taken m batch none = fun_ext (λ g. fun_ext (λ s. ap (λ xs. after (m g) (of_group g (xs ++ [])) s) none))

-- an event that makes all batches durable, and what is there after it
record AllSynced (log : ModelLog) (batches : List BatchRecord) (next : ModelLog) : Type 0 where
  pub none : pending_in next ≡ []
  pub contents : durable next ≡ taken (contents_of log) batches

of_running : (log next : ModelLog) (m : Contents) (batches : List BatchRecord) → next ≡ running m [] → m ≡ taken (contents_of log) batches → AllSynced log batches next
of_running log next m batches is same = record { none = ap pending_in is; contents = ap durable is ∙ same }

module _ {B C : Type 0} (says : B → BatchRecord) where
  all_synced : (log : ModelLog) (event : Event B C) (next : ModelLog) → Syncs event → Answers says log event Done next → AllSynced log (written_in says (event ∷ [])) next
  all_synced (running m pending) (Serve (Write batch true)) next asks (inl is) =
      of_running (running m pending) next (taken m (pending ++ says batch ∷ [])) (says batch ∷ []) is (sym (taken_twice m pending (says batch ∷ [])))
  all_synced (running m pending) (Serve (Write batch true)) next asks (inr is) =
      of_running (running m pending) next (taken m pending) (says batch ∷ []) is.1 (sym (empty_taken (taken m pending) (says batch) is.0))
  all_synced (running m pending) (Serve Sync) next asks is = of_running (running m pending) next (taken m pending) [] is refl
  all_synced (running m pending) (Serve (PurgeCall kind)) next asks is = of_running (running m pending) next (taken m pending) [] is refl
  all_synced (running m pending) Close next asks is = record { none = ap pending_in is; contents = ap durable is }
  all_synced (running m pending) (Serve call) next asks is = absurd asks
  all_synced log Close next asks is = absurd is
  all_synced log (Serve call) next asks is = absurd is
  all_synced log event next asks is = absurd asks

pub synced_batches_are_kept : (B C : Type 0) → SyncedBatchesAreKept B C
synced_batches_are_kept B C says log next last event events answers asks done more =
    let s = all_synced says log event next asks done in
    let later = written_in says events in
    let all = subst (λ (xs : List BatchRecord). Continues (durable next) (xs ++ later) last) s.none (batches_are_whole B C says next last events answers more) in
    subst (λ (m : Contents). Continues m later last) s.contents all

-- Failed writes leave no trace.

module _ (log mid last : ModelLog) (batches : List BatchRecord) where
  -- of the batches that one event left pending, others became durable later, or were lost
  then : Steps log batches mid → Steps mid (pending_in mid) last → Steps log batches last
  then g h =
      let left = pending_in last in
      let inner : h.done ++ (left ++ (h.lost ++ g.lost)) ≡ pending_in mid ++ g.lost =
      ap (λ (xs : List BatchRecord). h.done ++ xs) (sym (append_assoc left h.lost g.lost))
      ∙ sym (append_assoc h.done (left ++ h.lost) g.lost)
      ∙ ap (λ (xs : List BatchRecord). xs ++ g.lost) h.splits in
      record {
        done = g.done ++ h.done;
        lost = h.lost ++ g.lost;
        contents = h.contents ∙ ap (λ (m : Contents). taken m h.done) g.contents ∙ taken_twice (durable log) g.done h.done;
        splits = append_assoc g.done h.done (left ++ (h.lost ++ g.lost)) ∙ ap (λ (xs : List BatchRecord). g.done ++ xs) inner ∙ g.splits;
      }

-- none of two lists has an element
none_of : {A : Type 0} (xs ys : List A) → xs ++ ys ≡ [] → (xs ≡ []) × (ys ≡ [])
none_of [] ys none = (refl, none)
none_of (x ∷ xs) ys none = absurd (let never : ⊥ = cc in never)

module _ {B C : Type 0} (says : B → BatchRecord) where
  -- events that write nothing
  shortened : (events : List (Event B C)) (answers : List Answer) (log last : ModelLog) → Explains says log events answers last → written_in says events ≡ [] → Steps log (pending_in log) last
  shortened [] [] log last is none = subst (λ (x : ModelLog). Steps log (pending_in log) x) (sym is) (record { done = []; lost = []; contents = refl; splits = append-nil (pending_in log) })
  shortened (event ∷ events) (answer ∷ answers) log last (next, answers_it, rest) none =
      let (first, later) = none_of (written_in says (event ∷ [])) (written_in says events) (sym (written_first says event events) ∙ none) in
      let one = subst (λ (xs : List BatchRecord). Steps log xs next) (ap (λ (xs : List BatchRecord). pending_in log ++ xs) first ∙ append-nil (pending_in log)) (stepped says log event answer next answers_it) in
      then log next last (pending_in log) one (shortened events answers next last rest later)
  shortened [] (answer ∷ answers) log last is none = absurd is
  shortened (event ∷ events) [] log last is none = absurd is

take_front : {A : Type 0} (xs ys : List A) → take (length xs) (xs ++ ys) ≡ xs
take_front [] ys = refl
take_front (x ∷ xs) ys = ap (λ zs. x ∷ zs) (take_front xs ys)

front_le : {A : Type 0} (xs ys all : List A) → xs ++ ys ≡ all → length xs ≤ length all
front_le xs ys all is = let long = length-append xs ys in subst (λ zs. length xs ≤ length zs) is (omega (arith, long))

loses : (log last : ModelLog) (batches : List BatchRecord) → Steps log batches last → LosesSome (durable log) batches (contents_of last)
loses log last batches s =
    let front = s.done ++ pending_in last in
    let all : front ++ s.lost ≡ batches = append_assoc s.done (pending_in last) s.lost ∙ s.splits in (
      length front,
      front_le front s.lost batches all,
      of_both (durable log) s.done last s.contents
          ∙ ap (λ (xs : List BatchRecord). taken (durable log) xs) (sym (take_front front s.lost) ∙ ap (λ (xs : List BatchRecord). take (length front) xs) all),
    )

ran_on : (m : Contents) (batches : List BatchRecord) (next : ModelLog) → RunsOn m batches next → contents_of next ≡ taken m batches
ran_on m batches next r = ap contents_of r.is ∙ taken_twice m r.done r.rest ∙ ap (λ (xs : List BatchRecord). taken m xs) r.splits

refused_write : {B : Type 0} (C : Type 0) (says : B → BatchRecord) (log next : ModelLog) (batch : B) (sync : Bool) → Answers {C = C} says log (Serve (Write batch sync)) Refused next → contents_of next ≡ contents_of log
refused_write C says (running m pending) next batch sync is = ran_on m pending next is
refused_write C says log next batch sync is = absurd is

pub failed_writes_leave_no_trace : (B C : Type 0) → FailedWritesLeaveNoTrace B C
failed_writes_leave_no_trace B C says log next batch sync = record {
  refused = λ is. refused_write C says log next batch sync is;
  failed = λ is events answers last more none.
      let batches = pending_in log ++ says batch ∷ [] in
      loses log last batches (then log next last batches (stepped {C = C} says log (Serve (Write batch sync)) Failed next is) (shortened says events answers next last more none));
}

-- Purges keep the contents.

pub purges_keep_contents : (B C : Type 0) → PurgesKeepContents B C
purges_keep_contents B C says (running m pending) next kind Done is = ap contents_of is
purges_keep_contents B C says (running m pending) next kind Refused is = ap contents_of is
purges_keep_contents B C says (running m pending) next kind Failed (inl is) = ap contents_of is
purges_keep_contents B C says (running m pending) next kind Failed (inr is) = ap contents_of is
purges_keep_contents B C says (running m pending) next kind answer is = absurd is
purges_keep_contents B C says (failed m pending) next kind Failed is = ap contents_of is
purges_keep_contents B C says log next kind Idle is = ap contents_of is.1
purges_keep_contents B C says log next kind answer is = absurd is

-- Copies hold the log.

is_copy : (log next : ModelLog) (now : Contents) → next ≡ resting now → LosesSome (durable log) (pending_in log) now → IsCopy log next
is_copy log next now is loses = subst (λ (x : ModelLog). IsCopy log x) (sym is) (record { rests = refl; contents = loses })

module _ {B : Type 0} (C : Type 0) (says : B → BatchRecord) (target : String Global) where
  copied : (log next : ModelLog) → Answers {C = C} says log (Fork target) Done next → IsCopy log next
  copied (resting m) next is = is_copy (resting m) next m is (0, (let none : 0 ≤ 0 = omega arith in none), refl)
  copied (left m pending) next is = is_copy (left m pending) next is.0 is.2 is.1
  copied log next is = absurd is

  uncopied : (log next : ModelLog) → Answers {C = C} says log (Fork target) Refused next → next ≡ log
  uncopied (resting m) next is = is
  uncopied (left m pending) next is = is
  uncopied log next is = absurd is

pub copies_hold_the_log : (B C : Type 0) → CopiesHoldTheLog B C
copies_hold_the_log B C says log next target = (λ is. copied C says target log next is, λ is. uncopied C says target log next is)

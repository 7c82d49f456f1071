-- What a caller gets after a sync, and lists of requests.
use Rattle.std.proofs.Common.{◌≡◌, ◌⊎◌, ℕ, ◌+◌, ◌<◌, Bool, true, false, List, [], ◌∷◌, ◌++◌, map, inl, inr, refl, sym, ap, subst, ◌∙◌, arith, append_assoc}
use Rattle.std.specs.Prelude.{Err, Ok, Result, Some, IfErr, is_err, is_ok}
use Rattle.std.specs.List.{All, list_any}
use Rattle.std.proofs.lemmas.Bool.{false≢true, lt-ltb, or_parts}
use Rattle.std.proofs.lemmas.List.{map_push}
use Rattle.std.proofs.lemmas.List.Elements.{All-cons, All-nil, All-push, All-same, All-weaker}
use Rattle.raft_log_engine_laws.specs.EngineState.{EngineState}
use Rattle.raft_log_engine_laws.specs.Syncing.{NotSynced}
use Rattle.raft_log_engine_laws.specs.Writing.{IsEmptied, IsKeptUnlessFailed}
use Rattle.raft_log_record_base.specs.declared.errors.Error.{Error}
use Rattle.raft_log_record_base.specs.declared.errors.Error.TheVariants as errors
use Rattle.raft_log_record_batches.specs.Batch.{Batch}
use Rattle.raft_log_world.specs.declared.event.Answer.{Answer}
use Rattle.raft_log_world.specs.declared.event.Answer.TheVariants.{Done}
use Rattle.raft_log_world.specs.declared.event.Call.{Call}
use Rattle.raft_log_world.specs.declared.event.Call.TheVariants.{Sync, Write}
use Rattle.raft_log_shared.specs.declared.served.Served.{Served}
use Rattle.raft_log_shared.specs.Calls.{answer_of, synced, wrote}
use Rattle.raft_log_shared.specs.Receipts.{IsHome, IsStamped, Stamp, after_sync, is_due, sync_answer, waits}
use Rattle.raft_log_shared.specs.Requests.{AreServed, Wish, asked, claim_of, wish_of}

-- A caller that waits for a sync.

-- it asked for one, and its batch was written
pub waits_so : (sync : Bool) (r : Result ℕ Error) → waits sync r ≡ true → (sync ≡ true) × (is_ok r ≡ true)
waits_so true r w = (refl, w)
waits_so false r w = absurd (false≢true w)

pub done_if : (r : Result ℕ Error) → is_ok r ≡ true → answer_of r ≡ Done
done_if (Ok len) ok = refl
done_if (Err error) ok = absurd (false≢true ok)

emptied_kept : (old new : Batch) → IsEmptied old new → IsKeptUnlessFailed errors.Failed old new
emptied_kept old new (inl (none, same)) = inl (subst (λ (b : Batch). b ≡ record old { state = b.state; buffer = b.buffer }) (sym same) refl)
emptied_kept old new (inr is) = inr (refl, is)

-- the batch of a write that succeeded is what a failure may leave
pub home_failed : (old new : Batch) (r : Result ℕ Error) → is_ok r ≡ true → IsHome old new r → IsHome old new (Err errors.Failed)
home_failed old new (Ok len) ok h = record { emptied = tt; bounded = tt; kept = emptied_kept old new h.emptied; again = h.again }
home_failed old new (Err error) ok h = absurd (false≢true ok)

pub home_after : (old new : Batch) (failed : Bool) (r told : Result ℕ Error) → told ≡ after_sync failed r → is_ok r ≡ true → IsHome old new r → IsHome old new told
home_after old new failed r told is ok h = subst (λ (x : Result ℕ Error). IsHome old new x) (sym is) (by failed)
  where
    by : (b : Bool) → IsHome old new (after_sync b r)
    by true = home_failed old new r ok h
    by false = h

told_answer : (failed : Bool) (r : Result ℕ Error) → is_ok r ≡ true → answer_of (after_sync failed r) ≡ sync_answer failed
told_answer true r ok = refl
told_answer false r ok = done_if r ok

always_due : (told : Result ℕ Error) (claim : ℕ × List Served) → is_due true told (Some claim) ≡ true
always_due (Ok len) claim = refl
always_due (Err error) claim = refl

-- the receipt of a caller that waited for a sync
pub stamped_after : (batch : Batch) (sync failed : Bool) (r told : Result ℕ Error) (claim twin : ℕ × List Served) (stamp : Stamp) → told ≡ after_sync failed r
    → stamp ≡ record { written = claim; synced = Some twin } → claim.1 ≡ wrote batch (answer_of r) ∷ [] → is_ok r ≡ true → sync ≡ true
    → twin.1 ≡ synced (sync_answer failed) ∷ [] → claim.0 < twin.0 → IsStamped batch sync told stamp
stamped_after batch sync failed r told claim twin stamp is of_both wrote_it ok asked_it synced_it less =
    subst (λ (s : Stamp). IsStamped batch sync told s) (sym of_both) (record {
      written = wrote_it ∙ ap (λ (a : Answer). wrote batch a ∷ []) (done_if r ok);
      synced = ap (λ (l : List Served). Some (twin.0, l)) (synced_it ∙ ap (λ (a : Answer). synced a ∷ []) (sym (ap answer_of is ∙ told_answer failed r ok)));
      later = lt-ltb claim.0 twin.0 less;
      due = subst (λ (b : Bool). is_due b told (Some twin) ≡ true) (sym asked_it) (always_due told twin);
    })

-- a sync fails only with `Failed`
pub sync_answered : (r : Result (Unit {0}) Error) (s t : EngineState) → IfErr r (λ error. NotSynced error s t) → answer_of r ≡ sync_answer (is_err r)
sync_answered (Ok done) s t only = refl
sync_answered (Err error) s t only = ap (λ (e : Error). answer_of {A = Unit {0}} (Err e)) only.0

-- Lists.

-- one of those to come was added
pub one_more : {A : Type 0} (xs xs' : List A) (x y : A) (later all : List A) → xs' ≡ xs ++ x ∷ [] → x ≡ y
    → xs ++ (y ∷ later) ≡ all → xs' ++ later ≡ all
one_more xs xs' x y later all pushed is so_far =
    ap (λ l. l ++ later) pushed ∙ append_assoc xs (x ∷ []) later ∙ ap (λ z. xs ++ (z ∷ later)) is ∙ so_far

-- one more comes before the end, which is the next place now
pub before_more : {X : Type 0} (at : X → ℕ) (xs xs' : List X) (x : X) (n m : ℕ) → xs' ≡ xs ++ x ∷ [] → m ≡ n + 1 → at x ≡ n
    → All (λ p. at p < n) xs → All (λ p. at p < m) xs'
before_more at xs xs' x n m pushed more here all =
    All-same (λ p. at p < m) xs' (xs ++ x ∷ []) pushed
    (All-push (λ p. at p < m) xs x (All-weaker (λ p. at p < n) (λ p. at p < m) (λ p lt. omega (arith, lt, more)) xs all) (omega (arith, here, more)))

-- where none passes a test, each fails it
pub none_of : {X : Type 0} (test : X → Bool) (xs : List X) → list_any test xs ≡ false → All (λ x. test x ≡ false) xs
none_of test [] none = All-nil (λ x. test x ≡ false)
none_of test (x ∷ xs) none =
    let parts = or_parts (test x) (list_any test xs) none in
    All-cons (λ x. test x ≡ false) x xs parts.0 (none_of test xs parts.1)

-- the writes of requests, by the batches that asked for them
pub writes_are : {X : Type 0} (f : X → Wish) (xs : List X) → map (λ x. Write (f x).batch false) xs ≡ map (λ w. Write w.batch false) (map f xs)
writes_are f [] = refl
writes_are f (x ∷ xs) = ap (λ (calls : List (Call Batch)). Write (f x).batch false ∷ calls) (writes_are f xs)

-- what the leader did is what it wrote, and then perhaps a sync
pub are_served : (wishes : List Wish) (old mid new : List Served) → map (λ s. s.call) mid ≡ map (λ s. s.call) old ++ map (λ w. Write w.batch false) wishes
    → (new ≡ mid) ⊎ ((answer : Answer) × (new ≡ mid ++ synced answer ∷ [])) → AreServed wishes (map (λ s. s.call) old) (map (λ s. s.call) new)
are_served wishes old mid new wrote (inl same) = inl (ap (λ (l : List Served). map (λ s. s.call) l) same ∙ wrote)
are_served wishes old mid new wrote (inr (answer, is)) =
    inr (ap (λ (l : List Served). map (λ s. s.call) l) is ∙ map_push (λ s. s.call) mid (synced answer) ∙ ap (λ (l : List (Call Batch)). l ++ Sync ∷ []) wrote)

-- Requests.

-- the claim for a request, and what it is for
pub claims_so : (claim : ℕ × List Served) (n : ℕ) (batch : Batch) (sync : Bool) → claim ≡ (n, asked batch sync ∷ []) → claim ≡ claim_of (wish_of claim)
claims_so claim n batch sync is = subst (λ (c : ℕ × List Served). c ≡ claim_of (wish_of c)) (sym is) refl

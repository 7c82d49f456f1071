-- What the receipts of two writes prove of their batches.
use Rattle.std.proofs.Common.{◌≡◌, ℕ, List, [], ◌++◌, refl, sym, ap, subst}
use Rattle.std.specs.Prelude.{◌↔◌, true, Option, None, Some, Result, Ok, Err, IfOk, IfSome}
use Rattle.std.specs.Prelude.{get_or, option_map, option_to_list}
use Rattle.std.specs.List.{All}
use Rattle.std.proofs.Math.Logic.{∥∥₁_map}
use Rattle.std.proofs.lemmas.List.Elements.{All-cons, All-head, All-nil, All-tail}
use Rattle.raft_log_record_base.specs.declared.errors.Error.{Error}
use Rattle.raft_log_record_base.specs.declared.errors.Error.TheVariants as errors
use Rattle.raft_log_record_batches.specs.Batch.{Batch}
use Rattle.raft_log_engine.specs.raft_log_engine_laws.specs.EngineState.{EngineState, LogDirectories}
use Rattle.raft_log_engine.specs.raft_log_engine_core.specs.ModelCalls.{IsEngineLog}
use Rattle.raft_log_world.specs.Model.{ModelLog}
use Rattle.raft_log_shared.specs.declared.served.Served.{Served}
use Rattle.raft_log_shared.specs.Calls.{IsExplained, Leads}
use Rattle.raft_log_shared.specs.Durable.{SyncedWritesAreDurable}
use Rattle.raft_log_shared.specs.Receipts.{AreIn, ComesBack, IsIn, IsStamped, Stamp}
use Rattle.raft_log_shared_examples.specs.Sharing.{IsAnswered, IsConfirmed, IsKept, KeepsBoth, SharesAndWrites}

-- what a write at a shared engine returns
pub answered : {X : Type 0} (batch : Batch) (result : Result ℕ Error) (receipt : Option Stamp)
    → IfSome receipt (λ stamp. IsStamped batch true result stamp)
    → (receipt ≡ None → (result ≡ Err errors.Memory) × X) → IsAnswered batch result receipt
answered batch result None stamped none = (none refl).0
answered batch result (Some stamp) stamped none = stamped

-- a receipt that was lent as a slice, and came back as it was
pub came_back : (receipt : Option Stamp) (now : List Stamp) → now ≡ option_to_list receipt
    → option_map (get_or now 0) receipt ≡ receipt
came_back None now is = refl
came_back (Some stamp) now is = ap (λ (l : List Stamp). Some (get_or l 0 stamp)) is

module _ (law : SyncedWritesAreDurable) (log last : ModelLog) (history : List Served)
    (explained : IsExplained log history last) where
  -- a batch whose write returned `Ok` is durable, if the history has the records of its receipt
  kept : (batch : Batch) (result : Result ℕ Error) (receipt : Option Stamp)
      → All (λ stamp. IsIn history stamp) (option_to_list receipt) → IsAnswered batch result receipt
      → IsKept log history last (batch, result)
  kept batch (Ok len) (Some stamp) found stamped =
      let there = All-head (λ s. IsIn history s) stamp [] found in
      (stamp.written.0, law log last history stamp batch len explained there stamped)
  kept batch (Ok len) None found memory = let clash : ⊥ = cc in absurd clash
  kept batch (Err error) receipt found asked = tt

module _ (law : SyncedWritesAreDurable) (began : LogDirectories → ModelLog → Type 0) where
  -- a receipt that was confirmed shows this while other threads may write
  pub confirmed : (batch : Batch) (result : Result ℕ Error) (receipt : Option Stamp)
      → IsAnswered batch result receipt → AreIn began (option_to_list receipt) → IsConfirmed began (batch, result)
  confirmed batch result receipt asked are home log at = ∥∥₁_map (are.explained home log at)
      (λ l. (are.history, l.0, l.1, kept law log l.0 are.history l.1 batch result receipt are.found asked))

-- of two receipts, the first one and the second one
module _ (P : Stamp → Type 0) where
  of_first : (a b : Option Stamp) → All P (option_to_list a ++ option_to_list b) → All P (option_to_list a)
  of_first None b all = All-nil P
  of_first (Some stamp) b all = All-cons P stamp [] (All-head P stamp (option_to_list b) all) (All-nil P)

  of_second : (a b : Option Stamp) → All P (option_to_list a ++ option_to_list b) → All P (option_to_list b)
  of_second None b all = all
  of_second (Some stamp) b all = All-tail P stamp (option_to_list b) all

module _ (law : SyncedWritesAreDurable) (began : LogDirectories → ModelLog → Type 0) (s t : EngineState)
    (one other : Batch) (first second : Result ℕ Error) (a b : Option Stamp)
    (asked : IsAnswered one first a) (also : IsAnswered other second b)
    (back : ComesBack began t (option_to_list a ++ option_to_list b)) where
  keeps : (home : LogDirectories) (log : ModelLog) → Leads home log back.history t
      → KeepsBoth (one, first) (other, second) log (IsEngineLog home t)
  keeps home log l =
      let found = λ (stamp : Stamp). IsIn back.history stamp in
      record {
        history = back.history;
        last = l.0;
        explained = l.1;
        of_one = kept law log l.0 back.history l.1 one first a (of_first found a b back.found) asked;
        of_other = kept law log l.0 back.history l.1 other second b (of_second found a b back.found) also;
        is_last = l.2;
      }

  -- an opening with exactly the model logs that the engine had open
  both_kept : ((home : LogDirectories) (log : ModelLog) → began home log ↔ IsEngineLog home s log)
      → SharesAndWrites (one, first) (other, second) s t
  both_kept same home log at = ∥∥₁_map (back.leads home log ((same home log).1 at)) (keeps home log)

pub shares_and_writes : {S E : Type 0} → SyncedWritesAreDurable → (began : LogDirectories → ModelLog → Type 0)
    (state : S → EngineState) (first_of second_of : S → Result ℕ Error) (s : EngineState) (one other : Batch)
    (first second : Result ℕ Error) (a b : Option Stamp) → IsAnswered one first a → IsAnswered other second b
    → ((home : LogDirectories) (log : ModelLog) → began home log ↔ IsEngineLog home s log) → (ended : Result S E)
    → IfOk ended (λ x. ComesBack began (state x) (option_to_list a ++ option_to_list b))
    → IfOk ended (λ x. first_of x ≡ first) → IfOk ended (λ x. second_of x ≡ second)
    → IfOk ended (λ x. SharesAndWrites (one, first_of x) (other, second_of x) s (state x))
shares_and_writes law began state first_of second_of s one other first second a b asked also same (Ok x) back is are =
    subst (λ (r : Result ℕ Error). SharesAndWrites (one, r) (other, second_of x) s (state x)) (sym is)
    (subst (λ (r : Result ℕ Error). SharesAndWrites (one, first) (other, r) s (state x)) (sym are)
    (both_kept law began s (state x) one other first second a b asked also back same))
shares_and_writes law began state first_of second_of s one other first second a b asked also same (Err error) _ _ _ = tt

-- A machine is handed the batches of a file, one behind the other.
use Rattle.std.proofs.Common.{◌≡◌, ℕ, List, [], ◌∷◌, ◌++◌, ◌<◌, zero, suc, length, slice_index_or, refl, sym, ap, subst, ◌∙◌, append_assoc, arith}
use Rattle.std.proofs.lemmas.List.{append-nil}
use Rattle.raft_log_record_base.specs.declared.errors.Error.{Error}
use Rattle.raft_log_record_base.specs.declared.pipe_log.FileId.{FileId}
use Rattle.raft_log_record_items.specs.declared.item.LogItem.{LogItem}
use Rattle.raft_log_replay.specs.Machines.{Batch, batch_in}
use Rattle.raft_log_recovery_read.specs.Batches.{DeclinesSome, TakesBatches, said}

said_append : (id : FileId) (xs ys : List (List LogItem)) → said id (xs ++ ys) ≡ said id xs ++ said id ys
said_append id [] ys = refl
said_append id (x ∷ xs) ys = ap (λ (l : List Batch). batch_in id x ∷ l) (said_append id xs ys)

-- none are taken at first
pub takes_none : {M : Type 0} (R : List Batch → M → Type 0) (m : M) → TakesBatches R [] m m
takes_none R m before has = subst (λ (l : List Batch). R l m) (sym (append-nil before)) has

module _ {M : Type 0} (R : List Batch → M → Type 0) (D : List Batch → Error → Type 0) (id : FileId) (done : List (List LogItem)) (items : List LogItem) (old mid : M) where
  abbrev batch : Batch
  batch = batch_in id items

  -- one more is taken
  pub takes_more : (new : M) → TakesBatches R (said id done) old mid → ((before : List Batch) → R before mid → R (before ++ batch ∷ []) new) → TakesBatches R (said id (done ++ items ∷ [])) old new
  takes_more new takes one before has =
      let same : (before ++ said id done) ++ batch ∷ [] ≡ before ++ said id (done ++ items ∷ []) =
      append_assoc before (said id done) (batch ∷ []) ∙ ap (λ (l : List Batch). before ++ l) (sym (said_append id done (items ∷ []))) in
      subst (λ (l : List Batch). R l new) same (one (before ++ said id done) (takes before has))

  -- one is declined behind those that were taken
  pub declines_one : (e : Error) → TakesBatches R (said id done) old mid → ((before : List Batch) → R before mid → D (before ++ batch ∷ []) e) → DeclinesSome R D (said id (done ++ items ∷ [])) old e
  declines_one e takes refused = record {
    first = said id done ++ batch ∷ [];
    rest = [];
    split = said_append id done (items ∷ []) ∙ sym (append-nil (said id done ++ batch ∷ []));
    declined = λ before has. subst (λ (l : List Batch). D l e) (append_assoc before (said id done) (batch ∷ [])) (refused (before ++ said id done) (takes before has));
  }

  -- one that comes behind a declined one changes nothing
  pub declines_more : (e : Error) → DeclinesSome R D (said id done) old e → DeclinesSome R D (said id (done ++ items ∷ [])) old e
  declines_more e some = record {
    first = some.first;
    rest = some.rest ++ batch ∷ [];
    split = said_append id done (items ∷ []) ∙ ap (λ (l : List Batch). l ++ batch ∷ []) some.split ∙ append_assoc some.first some.rest (batch ∷ []);
    declined = some.declined;
  }

-- what stands in a place, whatever would stand there else
pub one_item : {X : Type 0} (xs : List X) (i : ℕ) (d e : X) → i < length xs → slice_index_or xs i d ≡ slice_index_or xs i e
one_item [] i d e less = absurd (omega (arith, less))
one_item (x ∷ xs) zero d e less = refl
one_item (x ∷ xs) (suc i) d e less = one_item xs i d e (omega (arith, less))

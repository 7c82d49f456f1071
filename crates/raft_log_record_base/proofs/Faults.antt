-- Refusals that are passed on, and decoders that give what a reader reads.
use Rattle.std.proofs.Common.{◌≡◌, ℕ, List, Result, Ok, Err, refl, sym, ap, ◌∙◌}
use Rattle.std.specs.Global.{Vec}
use Rattle.raft_log_record_base.specs.Grammar.{Reader, IsReader}
use Rattle.raft_log_record_base.proofs.Grammar.{ok_is}
use Rattle.raft_log_record_base.specs.declared.codec.error.Error.{Error as CodecError}
use Rattle.raft_log_record_base.specs.declared.errors.Error.{Error}
use Rattle.raft_log_record_base.specs.declared.errors.Error.TheVariants as errors
use Rattle.raft_log_record_base.specs.Fault.{Fault, FailsOrMemory, lifted, lifted_at, ReadsOrMemory, ReadsItemsOrMemory, DecodesOrMemory, DecodesItemsOrMemory}
use Rattle.raft_log_record_base.specs.Fault.Fault.{number}

-- where each fault of one reading is a fault of another, so is the refusal
pub fails_through : {X Y : Type 0} (e : Error) (r : Result X Fault) (s : Result Y Fault) → ((f : Fault) → r ≡ Err f → s ≡ Err f) → FailsOrMemory e r → FailsOrMemory e s
fails_through errors.Memory r s h p = tt
fails_through (errors.Codec c) r s h p = h (number c) p
fails_through (errors.Corruption text) r s h p = h _ p
fails_through _ r s h p = absurd p

-- a refusal of what is read is memory
pub fails_of_ok : {X : Type 0} (e : Error) (r : Result X Fault) (x : X) → r ≡ Ok x → FailsOrMemory e r → e ≡ errors.Memory
fails_of_ok errors.Memory r x h p = refl
fails_of_ok (errors.Codec c) r x h p = let k = sym h ∙ p in absurd cc
fails_of_ok (errors.Corruption text) r x h p = let k = sym h ∙ p in absurd cc
fails_of_ok _ r x h p = absurd p

pub decodes : {X : Type 0} (result : Result X Error) (old new : List ℕ) {read : Reader X Fault} {P : List ℕ → X → Type 0} → IsReader read P → ReadsOrMemory result old new (read old) → DecodesOrMemory P result old new
decodes {X = X} (Ok y) old new {read = read} h t = record {
  found = h.takes old (y, new) t;
  only = λ text rest x p e.
      let same = ok_is {E = Fault} (y, new) (x, rest) (sym t ∙ ap read e ∙ h.again text rest x p) in
      (ap (λ (q : X × List ℕ). q.0) same, ap (λ (q : X × List ℕ). q.1) same);
}
decodes {X = X} (Err d) old new {read = read} h t = record {
  found = t.1;
  only = λ text rest x p e. fails_of_ok d (read old) (x, rest) (ap read e ∙ h.again text rest x p) t.0;
}

pub decodes_items : {X : Type 0} (result : Result (Vec X) Error) (old new : List ℕ) {read : Reader (List X) Fault} {P : List ℕ → List X → Type 0} → IsReader read P → ReadsItemsOrMemory result old new (read old) → DecodesItemsOrMemory P result old new
decodes_items {X = X} (Ok ys) old new {read = read} h t = record {
  found = h.takes old (ys.items, new) t;
  only = λ text rest xs p e.
      let same = ok_is {E = Fault} (ys.items, new) (xs, rest) (sym t ∙ ap read e ∙ h.again text rest xs p) in
      (ap (λ (q : List X × List ℕ). q.0) same, ap (λ (q : List X × List ℕ). q.1) same);
}
decodes_items {X = X} (Err d) old new {read = read} h t = record {
  found = t.1;
  only = λ text rest xs p e. fails_of_ok d (read old) (xs, rest) (ap read e ∙ h.again text rest xs p) t.0;
}

lifted_ok : {X : Type 0} (r : Result X CodecError) (x : X) → lifted r ≡ Ok x → r ≡ Ok x
lifted_ok (Ok y) x e = cc
lifted_ok (Err d) x e = absurd cc

-- a reader of a number reads its grammar with its faults among those of a record too
pub is_lifted : {X : Type 0} {read : Reader X CodecError} {P : List ℕ → X → Type 0} → IsReader read P → IsReader (lifted_at read) P
is_lifted {X = X} {read = read} h = record {
  takes = λ bytes y e. h.takes bytes y (lifted_ok (read bytes) y e);
  again = λ text rest x p. ap (λ (r : Result (X × List ℕ) CodecError). lifted r) (h.again text rest x p);
}

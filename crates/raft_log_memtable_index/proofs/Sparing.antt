-- Keys without values, and keys of which only the marked ones have room: what leaves them so.
use Rattle.std.proofs.Common.{◌≡◌, ℕ, Bool, true, false, List, None, Option, refl, sym, ap, subst, ◌∙◌}
use Rattle.raft_log_memtable_index.specs.Bridge.{rewritten_value}
use Rattle.raft_log_memtable_index.specs.declared.key_map.KeySlot.{KeySlot}
use Rattle.raft_log_memtable_index.specs.Keys.{cleared_keys, emptied, keys_of, settled_keys, unmarked_keys, with_mark, with_rewritten, with_room, with_value, HasMarksAlone, HasNoValue, Keys, MaySkip}
use Rattle.raft_log_memtable_index.specs.Shown.{KeyValue}
use Rattle.raft_log_memtable_index.proofs.ByteKeys.{as_before}

never_true : {P : Type 0} → true ≡ false → P
never_true h = absurd (let never : ⊥ = cc in never)

module _ (ks : Keys) (k : List ℕ) where
  no_value_marked : HasNoValue ks → HasNoValue (with_mark ks k)
  no_value_marked h = as_before k None ks.values (sym (ap (λ f. f k) h)) ∙ h

  marks_alone_marked : ks.has k ≡ true → HasMarksAlone ks → HasMarksAlone (with_mark ks k)
  marks_alone_marked has h = h ∙ sym (as_before k true ks.deleted (sym has ∙ ap (λ f. f k) h))

  no_value_rewritten : (file : ℕ) → HasNoValue ks → HasNoValue (with_rewritten ks k file)
  no_value_rewritten file h =
      let none : ks.values k ≡ None = ap (λ f. f k) h in
      as_before k (rewritten_value file (ks.values k)) ks.values (ap (rewritten_value file) none ∙ sym none) ∙ h

module _ (v s : Bool) (slots now : List (List ℕ × KeySlot)) (is : slots ≡ now) (h : MaySkip v s (keys_of slots)) (new : Keys) where
  before : MaySkip v s (keys_of now)
  before = subst (λ l. MaySkip v s (keys_of l)) is h

  pub skips_marked : (k : List ℕ) → (keys_of now).has k ≡ true → new ≡ with_mark (keys_of now) k → MaySkip v s new
  skips_marked k has e = subst (MaySkip v s) (sym e) (λ n. no_value_marked (keys_of now) k (before.0 n), λ n. marks_alone_marked (keys_of now) k has (before.1 n))

  pub skips_put : (k : List ℕ) (value : Option KeyValue) → new ≡ with_value (keys_of now) k value → MaySkip true s new
  skips_put k value e = subst (MaySkip true s) (sym e) (λ n. never_true n, λ n. before.1 n)

  pub skips_rewritten : (k : List ℕ) (file : ℕ) → new ≡ with_rewritten (keys_of now) k file → MaySkip v s new
  skips_rewritten k file e = subst (MaySkip v s) (sym e) (λ n. no_value_rewritten (keys_of now) k file (before.0 n), λ n. before.1 n)

  pub skips_room : (k : List ℕ) → new ≡ with_room (keys_of now) k → MaySkip v true new
  skips_room k e = subst (MaySkip v true) (sym e) (λ n. before.0 n, λ n. never_true n)

  pub skips_emptied : new ≡ emptied (keys_of now) → MaySkip false s new
  skips_emptied e = subst (MaySkip false s) (sym e) (λ n. refl, λ n. before.1 n)

  pub skips_settled : new ≡ settled_keys (keys_of now) → MaySkip v true new
  skips_settled e = subst (MaySkip v true) (sym e) (λ n. before.0 n, λ n. never_true n)

  pub skips_unmarked : new ≡ unmarked_keys (keys_of now) → MaySkip v true new
  skips_unmarked e = subst (MaySkip v true) (sym e) (λ n. before.0 n, λ n. never_true n)

pub skips_cleared : (old new : Keys) → new ≡ cleared_keys old → MaySkip false false new
skips_cleared old new e = subst (MaySkip false false) (sym e) (λ n. refl, λ n. refl)

-- A file that a queue keeps for later gets another name of the queue's own, which is no number's.
use Rattle.std.specs.Map.{update}
use Rattle.std.specs.Str.{bytes_eq}
use Rattle.std.proofs.Common.{◌≡◌, ℕ, ◌<◌, ◌≤◌, Option, Some, None, List, refl, sym, ◌∙◌, ap, subst, inl, inr, arith}
use Rattle.raft_log_fs.specs.Disk.{File, Disk}
use Rattle.raft_log_fs.specs.Image.{IsSound}
use Rattle.raft_log_fs.specs.Calls.{renamed}
use Rattle.raft_log_file_writer.specs.LogFormat.{Format}
use Rattle.raft_log_file_writer.specs.LogQueue.{LogFiles}
use Rattle.raft_log_fs.proofs.Public.{name_apart, name_case, names_then, renaming_leaves}
use Rattle.raft_log_active_file.specs.Standing.{Names, Stands}
use Rattle.raft_log_active_file.specs.Bridge.{GapsStay}
use Rattle.raft_log_active_file.proofs.Standing.{place_moved}

module _ {R : Type 0} (F : Format R) (own : List ℕ → Type 0) (base : Disk) where
  pub stands_set_aside : (q : LogFiles R) (path from to : List ℕ) (id moved : ℕ) (P : File → Type 0) (N : Names) (old : Disk) → IsSound old → own from → own to → ((m : ℕ) → q.last ≤ m → m < F.limit → F.IsPath m from → ⊥)
      → ((m : ℕ) → m < F.limit → F.IsPath m to → ⊥) → N from ≡ Some moved → Stands F own base q path id P N old
      → Stands F own base q path id P (update bytes_eq (update bytes_eq N from None) to (Some moved)) (renamed from to moved old)
  stands_set_aside q path from to id moved P N old sound mine mine_too kept unnumbered named_from s =
      let leaves = renaming_leaves old from to moved in
      let left : Names = update bytes_eq N from None in
      let bound = s.bound in
      let other_than_to : (m : ℕ) (other : List ℕ) → m < F.limit → F.IsPath m other → other ≡ to → ⊥ = λ m other less is same. unnumbered m less (subst (F.IsPath m) same is) in
      let above : (m : ℕ) (other : List ℕ) → q.last ≤ m → m < F.limit → F.IsPath m other → other ≡ from → ⊥ = λ m other over less is same. kept m over less (subst (F.IsPath m) same is) in
      let unlost : (p : List ℕ) (j : ℕ) → (p ≡ to → ⊥) → old.names p ≡ Some j → old.names to ≡ Some j → ⊥ = λ p j apart there lost. apart (sound.one_name p to j there lost) in
      let before : (m : ℕ) (other : List ℕ) (j : ℕ) → m < F.limit → F.IsPath m other → update bytes_eq left to (Some moved) other ≡ Some j → N other ≡ Some j = λ m other j less is now.
      (let then_left : left other ≡ Some j = sym (name_apart left to (Some moved) other (other_than_to m other less is)) ∙ now in
      elim (name_case N from None other (Some j) then_left) [ inl (same, none) ↦ cc none | inr (apart, was) ↦ was ]) in
      record {
        names = ap (λ (f : Names). update bytes_eq (update bytes_eq f from None) to (Some moved)) s.names;
        bound = s.bound;
        at = s.at;
        named = name_apart left to (Some moved) path (other_than_to q.last path bound s.at) ∙ name_apart N from None path (above q.last path (omega arith) bound s.at) ∙ s.named;
        alone = λ other j is now. s.alone other j is (before q.last other j bound is now);
        none = λ m other over less is. name_apart left to (Some moved) other (other_than_to m other less is) ∙ name_apart N from None other (above m other (omega (arith, over)) less is) ∙ s.none m other over less is;
        headed = s.headed;
        places = λ m other less is. place_moved other old (renamed from to moved old) refl (s.places m other less is);
        file = record {
          file = s.file.file;
          is = leaves.files id (unlost path id (other_than_to q.last path bound s.at) (ap (λ (f : Names). f path) s.names ∙ s.named)) ∙ s.file.is;
          has = s.file.has;
        };
        older = λ m j other below is now.
            (let less : m < F.limit = omega (arith, below, bound) in
            let was_named = before m other j less is now in
            let was = s.older m j other below is was_named in
            record { file = was.file; is = leaves.files j (unlost other j (other_than_to m other less is) (ap (λ (f : Names). f other) s.names ∙ was_named)) ∙ was.is; has = was.has });
        single = λ m i j a b below at_a at_b is_a is_b.
            (let less : m < F.limit = omega (arith, below, bound) in
            s.single m i j a b below at_a at_b (before m a i less at_a is_a) (before m b j less at_b is_b));
        others = names_then own base old (renamed from to moved old) s.others (record {
          directories = refl;
          names = λ p theirs. leaves.names p (λ same. theirs (subst own (sym same) mine)) (λ same. theirs (subst own (sym same) mine_too));
          files = λ p j theirs is. leaves.files j (unlost p j (λ same. theirs (subst own (sym same) mine_too)) is);
        });
      }

  -- no gap is filled
  pub gaps_set_aside : (q : LogFiles R) (from to : List ℕ) (id : ℕ) (old : Disk) → q.last < F.limit → ((m : ℕ) → m < F.limit → F.IsPath m to → ⊥) → GapsStay F q old (renamed from to id old)
  gaps_set_aside q from to id old bound unnumbered m below none path at =
      let here : path ≡ to → ⊥ = λ same. unnumbered m (omega (arith, below, bound)) (subst (F.IsPath m) same at) in
      elim (name_case (update bytes_eq old.names from None) to (Some id) path ((renamed from to id old).names path) refl) [
        | inl (same, has) ↦ absurd (here same)
        | inr (apart, was) ↦ elim (name_case old.names from None path ((renamed from to id old).names path) was) [
          | inl (same, gone) ↦ sym gone
          | inr (also, there) ↦ sym there ∙ none path at
        ]
      ]

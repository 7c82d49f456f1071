-- What is written to Rewrite, told of the view.
use Rattle.std.proofs.Common.{◌≡◌, ◌⊎◌, ◌≤◌, ℕ, false, List, inl, refl, sym, subst, le_refl}
use Rattle.raft_log_model_laws.specs.Item.{Item, Tagged}
use Rattle.raft_log_model_laws.specs.Meaning.{Slot, says}
use Rattle.raft_log_model_laws.specs.Meaning.Slot.{Index, Key}
use Rattle.raft_log_model_laws.specs.Groups.{Map, of_group}
use Rattle.raft_log_machine_laws.specs.Survival.{IsSpoken}
use Rattle.raft_log_machine_laws.specs.Whereabouts.{CarriesAll}
use Rattle.raft_log_machine_laws.specs.Notes.{IsAppended, IsInRewrite}
use Rattle.raft_log_machine_laws.specs.Tables.{NotesCarry, NotesShrink}
use Rattle.raft_log_memtable_index.specs.Shown.{Shown, whereabouts}
use Rattle.raft_log_memtable_index.specs.Noted.{AreUpTo, file_at, noted_at}
use Rattle.raft_log_memtable_index.specs.Bridge.{AllOwed, CanAllMove, Located, Move, all_moved, items_of as copies_of, marks, unmarked, without}
use Rattle.raft_log_memtable_index.proofs.Public.{appended_shrink, marks_carry, moves_carry, moves_meant, moves_orderly, rewritten_carry}
use Rattle.raft_log_memtables.specs.Views.{AreMeant, ViewCarries, view_of}
use Rattle.raft_log_memtables.proofs.Fitting.{EachFits, groups_fit, marks_fit, moves_fit}

-- copies
module _ {E : Type 0} (at : Located → E) (n : ℕ) (v : ℕ → Shown) (m : Map E (List ℕ)) (moves : ℕ → List Move) (xs : List (Tagged E (List ℕ))) (are : AreMeant at v m) (can : (g : ℕ) → CanAllMove at (v g) (moves g)) (lie : (g : ℕ) → AreUpTo n (moves g)) (is : (g : ℕ) → of_group g xs ≡ copies_of at (v g) (moves g)) where
  copies_fit : (g : ℕ) → EachFits (of_group g xs)
  copies_fit g = subst (λ (l : List (Item E (List ℕ))). EachFits l) (sym (is g)) (moves_fit at (v g) (moves g) (are.orderly g) (can g))

  copies_carry : (g : ℕ) → CarriesAll (m g) (whereabouts (v g)) (of_group g xs) (whereabouts (all_moved (v g) (moves g)))
  copies_carry g =
      subst (λ (l : List (Item E (List ℕ))). CarriesAll (m g) (whereabouts (v g)) l (whereabouts (all_moved (v g) (moves g)))) (sym (is g))
      (moves_carry at (v g) (moves g) (m g) (are.orderly g) (can g) (are.meant g))

  copies_shrink : NotesShrink (view_of v m) (view_of (λ g. all_moved (v g) (moves g)) m)
  copies_shrink g s stands = appended_shrink at (v g) (moves g) (are.orderly g) (can g) s stands

  copies_noted : NotesCarry xs n (view_of v m) (view_of (λ g. all_moved (v g) (moves g)) m)
  copies_noted g s stands =
      subst (λ (l : List (Item E (List ℕ))). (IsInRewrite (whereabouts (v g)) s × (noted_at (all_moved (v g) (moves g)) s ≤ noted_at (v g) s)) ⊎ ((noted_at (all_moved (v g) (moves g)) s ≤ n) × IsSpoken (says s l))) (sym (is g))
      (rewritten_carry at (v g) (moves g) n (are.orderly g) (can g) (lie g) s stands)

  pub copies_on : ViewCarries at n v (λ g. all_moved (v g) (moves g)) m xs
  copies_on = record {
    carries = record { fit = groups_fit xs copies_fit; whereabouts = copies_carry; map = refl; noted = copies_shrink; noted_in_rewrite = copies_noted };
    meant = record {
      orderly = λ g. moves_orderly at (v g) (moves g) (are.orderly g) (can g);
      meant = λ g. moves_meant at (v g) (moves g) (m g) (are.orderly g) (can g) (are.meant g);
    };
  }

-- where no mark is owed any more, all stands where it stood
still_appended : (v : Shown) (s : Slot) → IsAppended (whereabouts (unmarked v)) s → IsAppended (whereabouts v) s × (file_at (unmarked v) s ≡ file_at v s)
still_appended v (Index i) stands = (stands, refl)
still_appended v (Key k) stands = (stands, refl)

still_rewritten : (v : Shown) (s : Slot) → IsInRewrite (whereabouts (unmarked v)) s → IsInRewrite (whereabouts v) s × (noted_at (unmarked v) s ≤ noted_at v s)
still_rewritten v (Index i) stands = (stands, le_refl (noted_at v (Index i)))
still_rewritten v (Key k) stands = (stands, le_refl (noted_at v (Key k)))

-- marks
module _ {E : Type 0} (at : Located → E) (n : ℕ) (v : ℕ → Shown) (m : Map E (List ℕ)) (keys : ℕ → List (List ℕ)) (xs : List (Tagged E (List ℕ))) (are : AreMeant at v m) (owed : (g : ℕ) → AllOwed (v g).deleted (keys g)) (all : (g : ℕ) (k : List ℕ) → without (v g).deleted (keys g) k ≡ false) (is : (g : ℕ) → of_group g xs ≡ marks (v g) (keys g)) where
  owed_fit : (g : ℕ) → EachFits (of_group g xs)
  owed_fit g = subst (λ (l : List (Item E (List ℕ))). EachFits l) (sym (is g)) (marks_fit E (v g) (keys g))

  owed_carry : (g : ℕ) → CarriesAll (m g) (whereabouts (v g)) (of_group g xs) (whereabouts (unmarked (v g)))
  owed_carry g =
      subst (λ (l : List (Item E (List ℕ))). CarriesAll (m g) (whereabouts (v g)) l (whereabouts (unmarked (v g)))) (sym (is g))
      (marks_carry (m g) (v g) (keys g) (owed g) (all g))

  owed_shrink : NotesShrink (view_of v m) (view_of (λ g. unmarked (v g)) m)
  owed_shrink g s stands = still_appended (v g) s stands

  owed_noted : NotesCarry xs n (view_of v m) (view_of (λ g. unmarked (v g)) m)
  owed_noted g s stands = inl (still_rewritten (v g) s stands)

  pub marks_on : ViewCarries at n v (λ g. unmarked (v g)) m xs
  marks_on = record {
    carries = record { fit = groups_fit xs owed_fit; whereabouts = owed_carry; map = refl; noted = owed_shrink; noted_in_rewrite = owed_noted };
    meant = record { orderly = λ g. record { parts = (are.orderly g).parts; end = (are.orderly g).end }; meant = are.meant };
  }

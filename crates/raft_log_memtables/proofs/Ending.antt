-- The end of an atomic group in Rewrite, told of the view.
use Rattle.std.proofs.Common.{◌≡◌, ◌⊎◌, ◌≤◌, ℕ, Bool, true, false, if◌then◌else◌, List, [], ◌++◌, inl, refl, sym, subst, le_refl, Option}
use Rattle.raft_log_model_laws.specs.Item.{Item, Tagged}
use Rattle.raft_log_model_laws.specs.Meaning.{Content, Slot, says}
use Rattle.raft_log_model_laws.specs.Meaning.Slot.{Index, Key}
use Rattle.raft_log_model_laws.specs.Groups.{Map, of_group}
use Rattle.raft_log_machine_laws.specs.Machine.{AllFit, IsJoined}
use Rattle.raft_log_machine_laws.specs.Survival.{IsSpoken}
use Rattle.raft_log_machine_laws.specs.Unbroken.{joined}
use Rattle.raft_log_machine_laws.specs.Whereabouts.{CarriesAll}
use Rattle.raft_log_machine_laws.specs.Notes.{IsAppended, IsInRewrite}
use Rattle.raft_log_memtable_index.specs.declared.group_files.GroupFiles.{GroupFiles}
use Rattle.raft_log_memtable_index.specs.Shown.{Shown, IsOrderly, whereabouts}
use Rattle.raft_log_memtable_index.specs.Noted.{file_at, noted_at, with_note}
use Rattle.raft_log_memtable_index.specs.Bridge.{IsMeant, Located, all_moved, items_of as copies_of}
use Rattle.raft_log_memtable_index.proofs.Public.{appended_shrink, group_carries, moves_carry, moves_meant, moves_orderly}
use Rattle.raft_log_memtables.specs.Views.{AreMeant, GroupEnd, MayEnd, ViewEnds, ended}

-- what the end of an atomic group makes of one group's table
record EndsIn {E : Type 0} (at : Located → E) (n : ℕ) (v u : Shown) (m : Slot → Option (Content E (List ℕ))) (items : List (Item E (List ℕ))) : Type 0 where
  carried : (xs : List (Item E (List ℕ))) × IsJoined items xs × CarriesAll m (whereabouts v) xs (whereabouts u)
  shrink : (s : Slot) → IsAppended (whereabouts u) s → IsAppended (whereabouts v) s × (file_at u s ≡ file_at v s)
  carry : (s : Slot) → IsInRewrite (whereabouts u) s → (IsInRewrite (whereabouts v) s × (noted_at u s ≤ noted_at v s)) ⊎ ((noted_at u s ≤ n) × IsSpoken (says s items))
  orderly : IsOrderly u
  meant : IsMeant at u m

-- a note moves nothing
noted_shrink : (v w : Shown) (least : ℕ) (files : GroupFiles) (s : Slot)
    → ((t : Slot) → IsAppended (whereabouts w) t → IsAppended (whereabouts v) t × (file_at w t ≡ file_at v t))
    → IsAppended (whereabouts (with_note w least files)) s → IsAppended (whereabouts v) s × (file_at (with_note w least files) s ≡ file_at v s)
noted_shrink v w least files (Index i) shrink stands = shrink (Index i) stands
noted_shrink v w least files (Key k) shrink stands = shrink (Key k) stands

module _ {E : Type 0} (at : Located → E) (e : GroupEnd) (v : ℕ → Shown) (m : Map E (List ℕ)) (items : List (Tagged E (List ℕ))) (are : AreMeant at v m) (may : MayEnd at e v items) where
  about_in : (g : ℕ) → e.about g ≡ true → EndsIn at e.files.from (v g) (with_note (all_moved (v g) (e.moves g)) (e.least g) e.files) (m g) (of_group g items)
  about_in g is =
      let one = may.about g is in
      let orderly = moves_orderly at (v g) (e.moves g) (are.orderly g) one.can in
      record {
        carried = (copies_of at (v g) (e.moves g), one.taken_as, moves_carry at (v g) (e.moves g) (m g) (are.orderly g) one.can (are.meant g));
        shrink = λ s stands. noted_shrink (v g) (all_moved (v g) (e.moves g)) (e.least g) e.files s (appended_shrink at (v g) (e.moves g) (are.orderly g) one.can) stands;
        carry = λ s stands.
            subst (λ (word : Option (Option (Content E (List ℕ)))). (IsInRewrite (whereabouts (v g)) s × (noted_at (with_note (all_moved (v g) (e.moves g)) (e.least g) e.files) s ≤ noted_at (v g) s)) ⊎ ((noted_at (with_note (all_moved (v g) (e.moves g)) (e.least g) e.files) s ≤ e.files.from) × IsSpoken word)) (sym (one.taken_as.same_words s))
            (group_carries at (v g) (e.moves g) (e.least g) e.files (are.orderly g) one.can one.lie one.least s stands);
        orderly = record { parts = orderly.parts; end = orderly.end };
        meant = moves_meant at (v g) (e.moves g) (m g) (are.orderly g) one.can (are.meant g);
      }

  other_in : (g : ℕ) → e.about g ≡ false → EndsIn at e.files.from (v g) (v g) (m g) (of_group g items)
  other_in g is = record {
    carried = ([], subst (λ (l : List (Item E (List ℕ))). IsJoined l []) (sym (may.others g is)) (record { same_words = λ s. refl; no_more_holes = λ w h. h }), refl);
    shrink = λ s stands. (stands, refl);
    carry = λ s stands. inl (stands, le_refl (noted_at (v g) s));
    orderly = are.orderly g;
    meant = are.meant g;
  }

  ends_when : (g : ℕ) (b : Bool) → e.about g ≡ b
      → EndsIn at e.files.from (v g) (if b then with_note (all_moved (v g) (e.moves g)) (e.least g) e.files else v g) (m g) (of_group g items)
  ends_when g true is = about_in g is
  ends_when g false is = other_in g is

  ends_in : (g : ℕ) → EndsIn at e.files.from (v g) (ended e v g) (m g) (of_group g items)
  ends_in g = ends_when g (e.about g) refl

pub group_ends : {E : Type 0} (at : Located → E) (e : GroupEnd) (v : ℕ → Shown) (m : Map E (List ℕ)) (first : List (Tagged E (List ℕ))) (more : List (List (Tagged E (List ℕ)))) (xs : List (Tagged E (List ℕ)))
    → AreMeant at v m → MayEnd at e v (joined first more ++ xs) → AllFit xs → ViewEnds at e.files.from v (ended e v) m first more xs
group_ends at e v m first more xs are may fit =
    let each = ends_in at e v m (joined first more ++ xs) are may in
    record {
      ends = record {
        fit = fit;
        whereabouts = λ g. (each g).carried;
        map = refl;
        noted = λ g s stands. (each g).shrink s stands;
        noted_in_rewrite = λ g s stands. (each g).carry s stands;
      };
      meant = record { orderly = λ g. (each g).orderly; meant = λ g. (each g).meant };
    }

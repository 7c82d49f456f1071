-- A batch in Append, told of the view.
use Rattle.std.proofs.Common.{◌≡◌, ◌⊎◌, ℕ, true, List, [], ◌∷◌, map, refl, ap, sym, subst, ◌∙◌}
use Rattle.std.proofs.lemmas.List.{append-nil}
use Rattle.raft_log_model_laws.specs.Item.{Item, Record, Tagged, items_of}
use Rattle.raft_log_model_laws.specs.Meaning.{after, says}
use Rattle.raft_log_model_laws.specs.Groups.{Map, of_group, taken}
use Rattle.raft_log_model_laws.proofs.Public.{of_group_renamed}
use Rattle.raft_log_machine_laws.specs.Survival.{IsSpoken}
use Rattle.raft_log_machine_laws.specs.Whereabouts.{GrowsBy}
use Rattle.raft_log_machine_laws.specs.Notes.{IsAppended}
use Rattle.raft_log_machine_laws.specs.Tables.{NotesGrow, NotesStay}
use Rattle.raft_log_extents.specs.declared.place.Place.{Place}
use Rattle.raft_log_memtable_index.specs.Shown.{Shown, whereabouts}
use Rattle.raft_log_memtable_index.specs.Noted.{file_at}
use Rattle.raft_log_memtable_index.specs.Bridge.{IsMeant, Located, in_queue, written}
use Rattle.raft_log_memtable_index.proofs.Public.{rewritten_stay, written_grow}
use Rattle.raft_log_memtables.specs.Batch.{MayFollowAll, all_shown, all_written}
use Rattle.raft_log_memtables.proofs.Applied.{all_grow, all_meant, all_orderly}
use Rattle.raft_log_memtables.specs.Views.{AreMeant, LieIn, ViewGrows, view_of}

module _ {E : Type 0} (at : Located → E) (n : ℕ) (v : ℕ → Shown) (m : Map E (List ℕ)) (xs : List (Tagged Place (List ℕ))) (y : Record E (List ℕ)) (are : AreMeant at v m) (follows : MayFollowAll v xs) (lie : LieIn n xs) (is : items_of y ≡ all_written at xs) where
  grows_in : (g : ℕ) → GrowsBy (whereabouts (v g)) (of_group g (items_of y)) (whereabouts (all_shown n v xs g))
  grows_in g =
      subst (λ (l : List (Tagged E (List ℕ))). GrowsBy (whereabouts (v g)) (of_group g l) (whereabouts (all_shown n v xs g))) (sym is)
      (all_grow at n v xs are.orderly follows g)

  -- what the record says of a group is what the group's items say
  said : (g : ℕ) → map (written at) (of_group g xs) ≡ of_group g (items_of y)
  said g = sym (of_group_renamed (λ p. at (in_queue true p)) g xs) ∙ sym (ap (of_group g) is)

  noted_in : NotesGrow y n (view_of v m) (view_of (all_shown n v xs) (taken m (y ∷ [])))
  noted_in g s stands =
      subst (λ (l : List (Item E (List ℕ))). (IsAppended (whereabouts (v g)) s × (file_at (all_shown n v xs g) s ≡ file_at (v g) s)) ⊎ ((file_at (all_shown n v xs g) s ≡ n) × IsSpoken (says s l))) (said g)
      (written_grow at n (v g) (of_group g xs) (are.orderly g) (follows g) (lie g) s stands)

  stay_in : NotesStay (view_of v m) (view_of (all_shown n v xs) (taken m (y ∷ [])))
  stay_in g s stands = rewritten_stay n (v g) (of_group g xs) (are.orderly g) (follows g) s stands

  means_in : (g : ℕ) → IsMeant at (all_shown n v xs g) (taken m (y ∷ []) g)
  means_in g =
      subst (λ (l : List (Tagged E (List ℕ))). IsMeant at (all_shown n v xs g) (after (m g) (of_group g l))) (sym (append-nil (items_of y) ∙ is))
      (all_meant at n v xs are.orderly follows m are.meant g)

  pub view_grows : ViewGrows at n v m xs y
  view_grows = record {
    grows = record { whereabouts = grows_in; map = refl; noted = noted_in; noted_in_rewrite = stay_in };
    meant = record { orderly = all_orderly n v xs are.orderly follows; meant = means_in };
  }

-- Groups that owe the marks that they owed.
use Rattle.std.proofs.Common.{◌≡◌, ℕ, Bool, if◌then◌else◌, nat_lt, List, [], ◌∷◌, ◌++◌, Option, Some, None, refl, sym, ap, ap₂, subst, ◌∙◌}
use Rattle.raft_log_model_laws.specs.Item.{Item}
use Rattle.raft_log_model_laws.specs.Item.Item.{Clean, Compact}
use Rattle.raft_log_model_laws.specs.Groups.{of_group}
use Rattle.raft_log_model_laws.proofs.Public.{at_bool}
use Rattle.raft_log_machine_laws.specs.Whereabouts.{top}
use Rattle.raft_log_record_items.specs.declared.entry.EntryIndex.{EntryIndex}
use Rattle.raft_log_record_frames.specs.Meaning.{tagged_items}
use Rattle.raft_log_memtable_index.specs.Shown.{Shown}
use Rattle.raft_log_memtable_index.specs.Bridge.{compact_owed, dels, marks}
use Rattle.raft_log_memtable_index.specs.Listing.{ListsMarked}
use Rattle.raft_log_engine_laws.specs.raft_log_memtable.specs.Moves.{owed_compact}
use Rattle.raft_log_memtables.specs.Owing.{AreOwedAt}
use Rattle.raft_log_purge_copy.specs.Lengths.{OwesTooMuch}
use Rattle.raft_log_purge_copy.specs.Owed.{OwesSame}

abbrev Items : Type 0
Items = List (Item EntryIndex (List ℕ))

abbrev compacts : Option ℕ → Items
compacts None = []
compacts (Some index) = Compact index ∷ []

compact_listed : (v : Shown) → ◌≡◌ {A = Items} (compact_owed v) (compacts (owed_compact v))
compact_listed v =
    let index : ℕ = if nat_lt 0 v.rewritten then v.first else top in
    at_bool v.compacted (λ b. ◌≡◌ {A = Items} (if b then Compact index ∷ [] else []) (compacts (if b then Some index else None))) (λ _. refl) (λ _. refl)

same_marks : (v w : Shown) → OwesSame v w → (ks : List (List ℕ)) → ◌≡◌ {A = Items} (marks w ks) (marks v ks)
same_marks v w same ks =
    ap₂ (λ (c : Bool) (compact : Items). (if c then Clean ∷ [] else []) ++ (compact ++ dels ks)) same.cleaned (compact_listed w ∙ ap compacts same.compact ∙ sym (compact_listed v))

owed_still : (v w : Shown) → OwesSame v w → (xs : Items) → AreOwedAt w xs → AreOwedAt v xs
owed_still v w same xs (ks, lists, is) = (ks, subst (λ (f : List ℕ → Bool). ListsMarked f ks) same.deleted lists, is ∙ same_marks v w same ks)

-- they owed too much if they owe too much
pub owed_too_much : (v w : ℕ → Shown) → ((g : ℕ) → OwesSame (v g) (w g)) → OwesTooMuch w → OwesTooMuch v
owed_too_much v w same (b, says, long) = (
  b,
  record {
    state = says.state;
    none = says.none;
    plain = says.plain;
    owed = λ g. owed_still (v g) (w g) (same g) (of_group g (tagged_items (λ e. e) b.items)) (says.owed g);
  },
  long,
)

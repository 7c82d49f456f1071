-- How each step changes the order of the changes of all files.
use Rattle.std.specs.Prelude.{◌≡◌, ℕ, ◌<◌, ◌≤◌, ◌⊎◌, Bool, cond, not, zero, suc, Option, Some, None, List, [], ◌∷◌, ◌++◌}
use Rattle.std.proofs.Common.{refl, sym, ◌∙◌, ap, subst, arith, inl, inr, map, nat_eq}
use Rattle.std.proofs.lemmas.List.{append-nil}
use Rattle.std.proofs.lemmas.List.Elements.{filter-append}
use Rattle.std.proofs.lemmas.Bool.{cases_eq, cases_lt, eq-eqb}
use Rattle.raft_log_fs.specs.Disk.{Change}
use Rattle.raft_log_fs_state.specs.Changes.{Made}
use Rattle.raft_log_fs_state.specs.Held.{Held, with_made}
use Rattle.raft_log_fs_state.specs.Order.{with_stamp, stamped, in_order, without_file, Rises, AreStamped}
use Rattle.raft_log_fs_state.proofs.RisingLaws.{at_stamp, miss, both, none_past, rises_more, rises_pushed}

-- a file's changes, named by its node number
abbrev pub tagged : ℕ → List Made → List (ℕ × Change)
tagged id ms = map (λ (m : Made). (id, m.change)) ms

pub stamped_same : (stamp count : ℕ) (old new : ℕ → Option Held) → ((q : ℕ) → with_stamp stamp q (new q) ≡ with_stamp stamp q (old q))
    → stamped stamp new count ≡ stamped stamp old count
stamped_same stamp zero old new same = refl
stamped_same stamp (suc n) old new same = both (stamped_same stamp n old new same) (same n)

pub order_same : (next count : ℕ) (old new : ℕ → Option Held) → ((stamp q : ℕ) → stamp < next → with_stamp stamp q (new q) ≡ with_stamp stamp q (old q))
    → in_order next new count ≡ in_order next old count
order_same zero count old new same = refl
order_same (suc stamp) count old new same =
    both (order_same stamp count old new (λ s q less. same s q (omega (arith, less)))) (stamped_same stamp count old new (λ q. same stamp q (omega arith)))

stamped_none : (stamp count : ℕ) (files : ℕ → Option Held) → ((q : ℕ) → q < count → with_stamp stamp q (files q) ≡ []) → stamped stamp files count ≡ []
stamped_none stamp zero files none = refl
stamped_none stamp (suc n) files none = both (stamped_none stamp n files (λ q less. none q (omega (arith, less)))) (none n (omega arith))

-- where one file alone has the stamp
pub stamped_one : (stamp count id : ℕ) (files : ℕ → Option Held) → id < count → ((q : ℕ) → (q ≡ id → ⊥) → with_stamp stamp q (files q) ≡ [])
    → stamped stamp files count ≡ with_stamp stamp id (files id)
stamped_one stamp zero id files below none = absurd (omega (arith, below))
stamped_one stamp (suc n) id files below none = elim (cases_eq n id) [
  | inl same ↦
      both (stamped_none stamp n files (λ q less. none q (λ is. omega (arith, is, same, less))))
      (ap (λ (i : ℕ). with_stamp stamp i (files i)) same)
  | inr apart ↦ both (stamped_one stamp n id files (omega (arith, below, apart)) none) (none n apart) ∙ append-nil (with_stamp stamp id (files id))
]

-- A change of one file.

pushed_before : (stamp next id : ℕ) (change : Change) (rest : List ℕ) (file : Held) → stamp < next → with_stamp stamp id (Some (with_made next change rest file)) ≡ with_stamp stamp id (Some file)
pushed_before stamp next id change rest file less =
    ap (tagged id) (filter-append (λ (m : Made). nat_eq m.stamp stamp) file.changes (record { stamp = next; change = change; rest = rest } ∷ [])
    ∙ (both {X = Made} {a = at_stamp stamp file.changes} refl (ap (λ (b : Bool). cond b ((let m : Made = record { stamp = next; change = change; rest = rest } in m) ∷ []) []) (miss next stamp (λ same. omega (arith, same, less))))
    ∙ append-nil (at_stamp stamp file.changes)))

pushed_at : (next id : ℕ) (change : Change) (rest : List ℕ) (file : Held) → Rises 0 next file.changes → with_stamp next id (Some (with_made next change rest file)) ≡ (id, change) ∷ []
pushed_at next id change rest file rise =
    ap (tagged id) (filter-append (λ (m : Made). nat_eq m.stamp next) file.changes (record { stamp = next; change = change; rest = rest } ∷ [])
    ∙ both (none_past 0 next next file.changes rise (omega arith)) (ap (λ (b : Bool). cond b ((let m : Made = record { stamp = next; change = change; rest = rest } in m) ∷ []) []) (eq-eqb next next refl)))

-- no change has a stamp that wasn't given yet
pub none_given : (next stamp id : ℕ) (files : ℕ → Option Held) → AreStamped next files → next ≤ stamp → with_stamp stamp id (files id) ≡ []
none_given next stamp id files are past = at (files id) refl
  where
    at : (o : Option Held) → files id ≡ o → with_stamp stamp id o ≡ []
    at None is = refl
    at (Some file) is = ap (tagged id) (none_past 0 next stamp file.changes (are.rise id file is) past)

pub order_pushed : (next count id : ℕ) (change : Change) (rest : List ℕ) (old new : ℕ → Option Held) (file : Held) → AreStamped next old → id < count → old id ≡ Some file
    → new id ≡ Some (with_made next change rest file) → ((q : ℕ) → (q ≡ id → ⊥) → new q ≡ old q)
    → in_order (suc next) new count ≡ in_order next old count ++ (id, change) ∷ []
order_pushed next count id change rest old new file are below is now others =
    both
    (order_same next count old new (λ stamp q less. elim (cases_eq q id) [
      | inl same ↦ subst (λ (i : ℕ). with_stamp stamp i (new i) ≡ with_stamp stamp i (old i)) (sym same)
          (ap (with_stamp stamp id) now ∙ (pushed_before stamp next id change rest file less ∙ ap (with_stamp stamp id) (sym is)))
      | inr apart ↦ ap (with_stamp stamp q) (others q apart)
    ]))
    (stamped_one next count id new below (λ q apart. ap (with_stamp next q) (others q apart) ∙ none_given next next q old are (omega arith))
    ∙ (ap (with_stamp next id) now ∙ pushed_at next id change rest file (are.rise id file is)))

-- which file has a stamp after the change
holder : (next id stamp a : ℕ) (change : Change) (rest : List ℕ) (old new : ℕ → Option Held) (file : Held) → old id ≡ Some file
    → new id ≡ Some (with_made next change rest file) → ((q : ℕ) → (q ≡ id → ⊥) → new q ≡ old q) → AreStamped next old
    → (with_stamp stamp a (new a) ≡ [] → ⊥) → ((stamp < next) × (with_stamp stamp a (old a) ≡ [] → ⊥)) ⊎ ((a ≡ id) × (next ≤ stamp))
holder next id stamp a change rest old new file is now others are has = elim (cases_eq a id) [
  | inl same ↦ elim (cases_lt stamp next) [
    | inl less ↦ inl (
      less,
      λ none. has (subst (λ (i : ℕ). with_stamp stamp i (new i) ≡ []) (sym same)
          (ap (with_stamp stamp id) now ∙ (pushed_before stamp next id change rest file less ∙ (ap (with_stamp stamp id) (sym is)
          ∙ subst (λ (i : ℕ). with_stamp stamp i (old i) ≡ []) same none)))),
    )
    | inr past ↦ inr (same, past)
  ]
  | inr apart ↦ elim (cases_lt stamp next) [
    | inl less ↦ inl (less, λ none. has (ap (with_stamp stamp a) (others a apart) ∙ none))
    | inr past ↦ absurd (has (ap (with_stamp stamp a) (others a apart) ∙ none_given next stamp a old are past))
  ]
]

pub stamped_pushed : (next id : ℕ) (change : Change) (rest : List ℕ) (old new : ℕ → Option Held) (file : Held) → AreStamped next old → old id ≡ Some file
    → new id ≡ Some (with_made next change rest file) → ((q : ℕ) → (q ≡ id → ⊥) → new q ≡ old q) → AreStamped (suc next) new
stamped_pushed next id change rest old new file are is now others = record {
  rise = λ q after at. elim (cases_eq q id) [
    | inl same ↦
        (let made : with_made next change rest file ≡ after = (let e : Some (with_made next change rest file) ≡ Some after = sym now ∙ (ap new (sym same) ∙ at) in cc) in
        subst (λ (h : Held). Rises 0 (suc next) h.changes) made (rises_pushed 0 next change rest file.changes (are.rise id file is) (omega arith)))
    | inr apart ↦ rises_more 0 next (suc next) after.changes (are.rise q after (sym (others q apart) ∙ at)) (omega arith)
  ];
  alone = λ a b stamp has_a has_b. elim (holder next id stamp a change rest old new file is now others are has_a) [
    | inl old_a ↦ elim (holder next id stamp b change rest old new file is now others are has_b) [
      | inl old_b ↦ are.alone a b stamp old_a.1 old_b.1
      | inr new_b ↦ absurd (omega (arith, old_a.0, new_b.1))
    ]
    | inr new_a ↦ elim (holder next id stamp b change rest old new file is now others are has_b) [
      | inl old_b ↦ absurd (omega (arith, old_b.0, new_a.1))
      | inr new_b ↦ new_a.0 ∙ sym new_b.0
    ]
  ];
}

-- A file whose changes are synced or gone.

others_stay : (id q : ℕ) → (q ≡ id → ⊥) → (ms : List Made) → without_file id (tagged q ms) ≡ tagged q ms
others_stay id q apart [] = refl
others_stay id q apart (m ∷ ms) =
    ap (λ (b : Bool). cond (not b) ((q, m.change) ∷ without_file id (tagged q ms)) (without_file id (tagged q ms))) (miss q id apart)
    ∙ ap (λ (xs : List (ℕ × Change)). (q, m.change) ∷ xs) (others_stay id q apart ms)

own_go : (id : ℕ) (ms : List Made) → without_file id (tagged id ms) ≡ []
own_go id [] = refl
own_go id (m ∷ ms) =
    ap (λ (b : Bool). cond (not b) ((id, m.change) ∷ without_file id (tagged id ms)) (without_file id (tagged id ms))) (eq-eqb id id refl) ∙ own_go id ms

dropped_at : (id stamp q : ℕ) (old new : ℕ → Option Held) → ((p : ℕ) → (p ≡ id → ⊥) → new p ≡ old p) → ((s : ℕ) → with_stamp s id (new id) ≡ [])
    → with_stamp stamp q (new q) ≡ without_file id (with_stamp stamp q (old q))
dropped_at id stamp q old new others gone = elim (cases_eq q id) [
  | inl same ↦ subst (λ (i : ℕ). with_stamp stamp i (new i) ≡ without_file id (with_stamp stamp i (old i))) (sym same) (gone stamp ∙ sym (all_go (old id)))
  | inr apart ↦ ap (with_stamp stamp q) (others q apart) ∙ sym (all_stay apart (old q))
]
  where
    all_go : (o : Option Held) → without_file id (with_stamp stamp id o) ≡ []
    all_go None = refl
    all_go (Some file) = own_go id (at_stamp stamp file.changes)

    all_stay : (q ≡ id → ⊥) → (o : Option Held) → without_file id (with_stamp stamp q o) ≡ with_stamp stamp q o
    all_stay apart None = refl
    all_stay apart (Some file) = others_stay id q apart (at_stamp stamp file.changes)

stamped_dropped : (id stamp count : ℕ) (old new : ℕ → Option Held) → ((p : ℕ) → (p ≡ id → ⊥) → new p ≡ old p) → ((s : ℕ) → with_stamp s id (new id) ≡ [])
    → stamped stamp new count ≡ without_file id (stamped stamp old count)
stamped_dropped id stamp zero old new others gone = refl
stamped_dropped id stamp (suc n) old new others gone =
    both (stamped_dropped id stamp n old new others gone) (dropped_at id stamp n old new others gone)
    ∙ sym (filter-append (λ (u : ℕ × Change). not (nat_eq u.0 id)) (stamped stamp old n) (with_stamp stamp n (old n)))

pub order_dropped : (next count id : ℕ) (old new : ℕ → Option Held) → ((p : ℕ) → (p ≡ id → ⊥) → new p ≡ old p) → ((s : ℕ) → with_stamp s id (new id) ≡ [])
    → in_order next new count ≡ without_file id (in_order next old count)
order_dropped zero count id old new others gone = refl
order_dropped (suc stamp) count id old new others gone =
    both (order_dropped stamp count id old new others gone) (stamped_dropped id stamp count old new others gone)
    ∙ sym (filter-append (λ (u : ℕ × Change). not (nat_eq u.0 id)) (in_order stamp old count) (stamped stamp old count))

-- where no file has a stamp that it didn't have
pub still_stamped : (next : ℕ) (old new : ℕ → Option Held) → AreStamped next old → ((id : ℕ) (file : Held) → new id ≡ Some file → Rises 0 next file.changes)
    → ((a stamp : ℕ) → with_stamp stamp a (old a) ≡ [] → with_stamp stamp a (new a) ≡ []) → AreStamped next new
still_stamped next old new are rise fewer = record {
  rise = rise;
  alone = λ a b stamp has_a has_b. are.alone a b stamp (λ none. has_a (fewer a stamp none)) (λ none. has_b (fewer b stamp none));
}

-- a new file, which has no changes
pub order_added : (next count : ℕ) (old new : ℕ → Option Held) → ((stamp q : ℕ) → with_stamp stamp q (new q) ≡ with_stamp stamp q (old q))
    → ((stamp : ℕ) → with_stamp stamp count (new count) ≡ []) → in_order next new (suc count) ≡ in_order next old count
order_added zero count old new same none = refl
order_added (suc stamp) count old new same none =
    both (order_added stamp count old new same none)
    (both (stamped_same stamp count old new (same stamp)) (none stamp) ∙ append-nil (stamped stamp old count))

-- The invariant of a group is kept where a queue's span begins later, and where gone files are lost.
use Rattle.std.proofs.Common.{◌≡◌, ℕ, ◌-◌, ◌≤◌, ◌⊎◌, if◌then◌else◌, nat_lt, List, [], ◌∷◌, Option, Some, None, option_map, slice_get, unwrap_or, refl, sym, ap, ◌∙◌, inl, inr, arith, le_refl}
use Rattle.std.proofs.lemmas.Bool.{cases_lt}
use Rattle.std.specs.Option.{option_or}
use Rattle.raft_log_model_laws.specs.Item.{Item}
use Rattle.raft_log_model_laws.specs.Item.Item.{Run, Clean, Compact, Put, Del}
use Rattle.raft_log_model_laws.specs.Meaning.{Slot, Content, write, says}
use Rattle.raft_log_model_laws.specs.Meaning.Slot.{Index, Key}
use Rattle.raft_log_model_laws.specs.Meaning.Content.{Entry}
use Rattle.raft_log_model_laws.proofs.Public.{at_bool, at_option, run_leaves, run_sets}
use Rattle.raft_log_machine_laws.specs.Survival.{IsSpoken}
use Rattle.raft_log_machine_laws.specs.Whereabouts.{Whereabouts, top, OwesNothing, HasAppended, HasRewritten}
use Rattle.raft_log_machine_laws.specs.Truth.{SaysOfSlot, AreCorrect, IsRightInRewrite, IsSettledKey}
use Rattle.raft_log_machine_laws.proofs.Starts.{spoken_newer}
use Rattle.raft_log_machine_laws.proofs.TruthGrows.{spoken_after}
use Rattle.raft_log_machine_laws.proofs.TruthCarries.{differ}

pub no_word : {C P : Type 0} (v : C) → None ≡ Some v → P
no_word v e = absurd (let clash : None ≡ Some v = e in let never : ⊥ = cc in never)

pub no_entry : {C P : Type 0} (c : C) → ◌≡◌ {A = Option (Option C)} (Some None) (Some (Some c)) → P
no_entry {C} c e = absurd (let clash : ◌≡◌ {A = Option (Option C)} (Some None) (Some (Some c)) = e in let never : ⊥ = cc in never)

module _ {E V : Type 0} where
  -- an item that puts an entry at an index speaks of all indexes above
  write_above : (x : Item E V) (j i : ℕ) (c : Content E V) → j ≤ i → write (Index j) x ≡ Some (Some c) → IsSpoken (write (Index i) x)
  write_above (Run f []) j i c le h = no_word (Some c) h
  write_above (Run f (e ∷ es)) j i c le h = elim (cases_lt j f) [
    | inl below ↦ no_word (Some c) (sym (run_leaves j f (e ∷ es) below) ∙ h)
    | inr at ↦ (option_map Entry (slice_get (e ∷ es) (i - f)), run_sets i f (e ∷ es) (omega arith) (omega arith))
  ]
  write_above Clean j i c le h = (None, refl)
  write_above (Compact d) j i c le h =
      at_bool (nat_lt j d) (λ b. (if b then Some None else None) ≡ Some (Some c) → IsSpoken (write {E = E} {V = V} (Index i) (Compact d)))
      (λ e k. no_entry c k) (λ e k. no_word (Some c) k) h
  write_above (Put l v) j i c le h = no_word (Some c) h
  write_above (Del l) j i c le h = no_word (Some c) h

  -- where an entry stands, the items speak of all indexes above
  pub speaks_above : (xs : List (Item E V)) (j i : ℕ) (c : Content E V) → j ≤ i → says (Index j) xs ≡ Some (Some c) → IsSpoken (says (Index i) xs)
  speaks_above [] j i c le h = no_word (Some c) h
  speaks_above (x ∷ xs) j i c le h =
      at_option (says (Index j) xs)
      (λ w. option_or w (write (Index j) x) ≡ Some (Some c) → IsSpoken (option_or (says (Index i) xs) (write (Index i) x)))
      (λ e k. spoken_after (says (Index i) xs) (write (Index i) x) (write_above x j i c le k))
      (λ w e k. spoken_newer (says (Index i) xs) (write (Index i) x) (option_or (says (Index i) xs) (write (Index i) x)) refl
      (speaks_above xs j i c le (e ∙ k)))
      h

-- a right word of more items, of which fewer say something else only where nothing stands
pub fewer_right : {C : Type 0} (all word older : Option (Option C)) (v : Option C) → all ≡ option_or word older → unwrap_or all None ≡ v
    → (word ≡ None → v ≡ None) → unwrap_or word None ≡ v
fewer_right all None older v e h f = sym (f refl)
fewer_right all (Some x) older v e h f = sym (ap (λ w. unwrap_or w None) e) ∙ h

pub says_none : {C : Type 0} (word older : Option (Option C)) → option_or word older ≡ None → word ≡ None
says_none None older e = refl
says_none (Some x) older e = no_word x (sym e)

module _ {E V : Type 0} (said : SaysOfSlot E V) (m : Slot → Option (Content E V)) (t : Whereabouts) (b : AreCorrect said m t) where
  -- Append's span begins at these items
  pub append_raised : (kept : List (Item E V)) → HasAppended t kept
      → AreCorrect (record { lowest = said.lowest; rewrite = said.rewrite; append = λ s. says s kept }) m t
  append_raised kept h = record {
    in_order = b.in_order;
    below = b.below;
    above = b.above;
    solid = b.solid;
    rewritten = b.rewritten;
    key_older = b.key_older;
    newer = λ i from some. let lowest = h.0 t.split (le_refl t.split) some in speaks_above kept t.split i lowest.0 from lowest.1;
    key_newer = h.1;
    after_clean = b.after_clean;
    after_delete = b.after_delete;
    index = b.index;
    key = b.key;
  }

  pub may_append : (kept : List (Item E V)) → HasAppended t kept → OwesNothing t
      → ((i : ℕ) → top ≤ i → (unwrap_or (said.lowest (Index i)) None ≡ None) × (unwrap_or (said.rewrite (Index i)) None ≡ None))
      → (s : Slot) → IsSpoken (says s kept) ⊎ IsRightInRewrite said m s
  may_append kept h owes past (Index i) = elim (cases_lt i top) [
    | inl high ↦ elim (b.index i high) [
      | inl right ↦ inr right
      | inr (inl c) ↦ differ (sym c ∙ owes.0)
      | inr (inr (inl c)) ↦ differ (sym c.0 ∙ owes.1)
      | inr (inr (inr a)) ↦ inl (let lowest = h.0 t.split (le_refl t.split) a.1 in speaks_above kept t.split i lowest.0 a.0 lowest.1)
    ]
    | inr high ↦ inr (let nothing : m (Index i) ≡ None = b.above i (omega arith) in ((past i high).0 ∙ sym nothing, (past i high).1 ∙ sym nothing))
  ]
  may_append kept h owes past (Key k) = elim (b.key k) [
    | inl right ↦ inr right
    | inr (inl c) ↦ differ (sym c ∙ owes.0)
    | inr (inr (inl d)) ↦ differ (sym d ∙ owes.2 k)
    | inr (inr (inr a)) ↦ inl (h.1 k a)
  ]

  -- Rewrite's span begins at these items, the others of it said `older`
  module _ (kept : List (Item E V)) (older : Slot → Option (Option (Content E V))) (all : (s : Slot) → said.rewrite s ≡ option_or (says s kept) (older s))
      (h : HasRewritten m t kept) where
    still_right : (s : Slot) → (says s kept ≡ None → m s ≡ None) → IsRightInRewrite said m s
        → IsRightInRewrite (record { lowest = said.lowest; rewrite = λ s. says s kept; append = said.append }) m s
    still_right s none right = (right.0, fewer_right (said.rewrite s) (says s kept) (older s) (m s) (all s) right.1 none)

    pub rewrite_raised : AreCorrect (record { lowest = said.lowest; rewrite = λ s. says s kept; append = said.append }) m t
    rewrite_raised = record {
      in_order = b.in_order;
      below = b.below;
      above = b.above;
      solid = b.solid;
      newer = b.newer;
      key_newer = b.key_newer;
      rewritten = h.0;
      key_older = h.1;
      after_clean = b.after_clean;
      after_delete = b.after_delete;
      index = λ i high. elim (b.index i high) [
        | inl right ↦ elim (cases_lt i t.first) [
          | inl before ↦ inl (still_right (Index i) (λ e. b.below i before) right)
          | inr from ↦ elim (cases_lt i t.split) [
            | inl within ↦ inl (still_right (Index i) (λ e. no_word (m (Index i)) (sym e ∙ h.0 i from within)) right)
            | inr above ↦ elim (cases_lt i t.end) [
              | inl appended ↦ inr (inr (inr (above, omega arith)))
              | inr past ↦ inl (still_right (Index i) (λ e. b.above i past) right)
            ]
          ]
        ]
        | inr others ↦ inr others
      ];
      key = λ k. elim (b.key k) [
        | inl right ↦ at_bool (t.appended k) (λ a. IsSettledKey (record { lowest = said.lowest; rewrite = λ s. says s kept; append = said.append }) m t k)
            (λ a. inr (inr (inr a)))
            (λ a. inl (still_right (Key k) (λ e. elim (h.1 k a) [ inl nothing ↦ nothing | inr says_it ↦ no_word (m (Key k)) (sym e ∙ says_it) ]) right))
        | inr others ↦ inr others
      ];
    }

    pub may_rewrite : (s : Slot) → IsSpoken (says s kept) ⊎ ((m s ≡ None) ⊎ IsSpoken (said.append s))
    may_rewrite (Index i) = elim (cases_lt i t.first) [
      | inl before ↦ inr (inl (b.below i before))
      | inr from ↦ elim (cases_lt i t.split) [
        | inl within ↦ inl (m (Index i), h.0 i from within)
        | inr above ↦ elim (cases_lt i t.end) [ inl appended ↦ inr (inr (b.newer i above (omega arith))) | inr past ↦ inr (inl (b.above i past)) ]
      ]
    ]
    may_rewrite (Key k) = at_bool (t.appended k) (λ a. IsSpoken (says (Key k) kept) ⊎ ((m (Key k) ≡ None) ⊎ IsSpoken (said.append (Key k))))
        (λ a. inr (inr (b.key_newer k a)))
        (λ a. elim (h.1 k a) [ inl nothing ↦ inr (inl nothing) | inr says_it ↦ inl (m (Key k), says_it) ])

  -- Rewrite's lowest start lies higher
  pub rewrite_left : (lowest lost between : Slot → Option (Option (Content E V))) → ((s : Slot) → said.lowest s ≡ option_or (lowest s) (lost s))
      → ((s : Slot) → lowest s ≡ option_or (said.rewrite s) (between s)) → AreCorrect (record { lowest = lowest; rewrite = said.rewrite; append = said.append }) m t
  rewrite_left lowest lost between all shorter = record {
    in_order = b.in_order;
    below = b.below;
    above = b.above;
    solid = b.solid;
    rewritten = b.rewritten;
    newer = b.newer;
    key_newer = b.key_newer;
    key_older = b.key_older;
    after_clean = b.after_clean;
    after_delete = b.after_delete;
    index = λ i high. elim (b.index i high) [ inl right ↦ inl (still (Index i) right) | inr others ↦ inr others ];
    key = λ k. elim (b.key k) [ inl right ↦ inl (still (Key k) right) | inr others ↦ inr others ];
  }
    where
      still : (s : Slot) → IsRightInRewrite said m s → IsRightInRewrite (record { lowest = lowest; rewrite = said.rewrite; append = said.append }) m s
      still s right = (
        fewer_right (said.lowest s) (lowest s) (lost s) (m s) (all s) right.0
            (λ e. sym right.1 ∙ ap (λ w. unwrap_or w None) (says_none (said.rewrite s) (between s) (sym (shorter s) ∙ e))),
        right.1,
      )

-- what both ends of the starts agree on, each start between gives
pub between_right : {C : Type 0} (all middle last cut front : Option (Option C)) (v : Option C) → all ≡ option_or middle cut → middle ≡ option_or last front
    → unwrap_or all None ≡ v → unwrap_or last None ≡ v → unwrap_or middle None ≡ v
between_right all middle last cut front v e f whole alone =
    fewer_right all middle cut v e whole (λ none. sym alone ∙ ap (λ w. unwrap_or w None) (says_none last front (sym f ∙ none)))

-- No item that the whereabouts allow leaves a hole in its queue.
use Rattle.std.proofs.Common.{◌≡◌, ℕ, ◌+◌, ◌-◌, ◌<◌, ◌≤◌, ◌⊎◌, min, max, false, ◌&&◌, if◌then◌else◌, nat_lt, nat_le, List, [], ◌∷◌, ◌++◌, length, Option, Some, None, unwrap_or, refl, sym, ap, ◌∙◌, subst, inl, inr, arith, le_refl}
use Rattle.std.proofs.lemmas.Bool.{cases_lt}
use Rattle.std.proofs.lemmas.Bool.Decides.{nat_tests}
use Rattle.std.specs.Option.{option_or}
use Rattle.raft_log_model_laws.specs.Item.{Item}
use Rattle.raft_log_model_laws.specs.Item.Item.{Run, Clean, Compact, Put, Del}
use Rattle.raft_log_model_laws.specs.Meaning.{Slot, Content, write, says, holds}
use Rattle.raft_log_model_laws.specs.Meaning.Slot.{Index}
use Rattle.raft_log_model_laws.specs.Meaning.Content.{Entry}
use Rattle.raft_log_model_laws.specs.Holes.{Window, nothing, next_window, window, FitsOn, NoHole}
use Rattle.raft_log_model_laws.proofs.Public.{no_hole_append, one_run_fits, window_append, Spans}
use Rattle.raft_log_machine_laws.specs.Whereabouts.{Whereabouts, top, AppendTakes, GrowsBy, Carries, CarriesAll}
use Rattle.raft_log_machine_laws.specs.Truth.{SaysOfSlot, AreCorrect}
use Rattle.raft_log_machine_laws.proofs.RecoveryLaws.{ends_alike, run_told}
use Rattle.raft_log_machine_laws.specs.Replay.{IsTopOf}
use Rattle.raft_log_machine_laws.proofs.Words.{says_append}
use Rattle.raft_log_machine_laws.proofs.TruthGrows.{append_said, stepped, grows}
use Rattle.raft_log_machine_laws.proofs.TruthCarries.{differ, rewrite_said, carries}
use Rattle.raft_log_machine_laws.proofs.TruthRaises.{no_word}

alone_fits : (wf we f tf te : ℕ) → tf ≤ te → (we ≤ wf) ⊎ ((we ≡ te) × (tf ≤ wf)) → (f ≤ tf) ⊎ (tf ≡ te) → (nat_lt wf we && nat_lt we f) ≡ false
alone_fits wf we f tf te le (inl h) a = grind (arith, nat_tests)
alone_fits wf we f tf te le (inr h) (inl a) = grind (arith, nat_tests)
alone_fits wf we f tf te le (inr h) (inr a) = grind (arith, nat_tests)

alone_top : (wf we f tf te : ℕ) → tf ≤ te → (we ≤ wf) ⊎ ((we ≡ te) × (tf ≤ wf)) → (f ≤ tf) ⊎ (tf ≡ te) → f ≤ (if nat_lt wf f && nat_le f we then wf else f)
alone_top wf we f tf te le (inl h) a = grind (arith, nat_tests)
alone_top wf we f tf te le (inr h) (inl a) = grind (arith, nat_tests)
alone_top wf we f tf te le (inr h) (inr a) = grind (arith, nat_tests)

on_fits : (wf we f tf te : ℕ) → (we ≤ wf) ⊎ ((we ≡ te) × (tf ≤ wf)) → f ≤ te → (nat_lt wf we && nat_lt we f) ≡ false
on_fits wf we f tf te (inl h) le = grind (arith, nat_tests)
on_fits wf we f tf te (inr h) le = grind (arith, nat_tests)

on_top : (wf we f tf te : ℕ) → (we ≤ wf) ⊎ ((we ≡ te) × (tf ≤ wf)) → tf < f → tf ≤ (if nat_lt wf f && nat_le f we then wf else f)
on_top wf we f tf te (inl h) lt = grind (arith, nat_tests)
on_top wf we f tf te (inr h) lt = grind (arith, nat_tests)

compact_top : (wf we c tf te : ℕ) → (we ≤ wf) ⊎ ((we ≡ te) × (tf ≤ wf)) → (we ≤ max wf c) ⊎ ((we ≡ te) × (max tf (min c te) ≤ max wf c))
compact_top wf we c tf te (inl h) = inl (omega arith)
compact_top wf we c tf te (inr h) = inr (h.0, omega (arith, h.1))

-- an item that Append takes leaves no hole, and what stands in Append stays the upper part of the group's entries
item_fits : {E V : Type 0} (w : Window) (t : Whereabouts) (x : Item E V) (u : Whereabouts) → t.first ≤ t.end → IsTopOf w t → AppendTakes t x u
    → FitsOn w x × IsTopOf (next_window w x) u
item_fits {E} {V} w t (Run f []) u le h g = (tt, subst (λ v. IsTopOf w v) (sym g) h)
item_fits {E} {V} w t (Run f (e ∷ es)) u le h g = elim g.1 [
  | inl alone ↦ (
    alone_fits w.first w.end f t.first t.end le h alone.0,
    subst (λ v. IsTopOf (next_window {E = E} {V = V} w (Run f (e ∷ es))) v) (sym alone.1) (inr (refl, alone_top w.first w.end f t.first t.end le h alone.0)),
  )
  | inr on ↦ (
    on_fits w.first w.end f t.first t.end h on.0.1,
    subst (λ v. IsTopOf (next_window {E = E} {V = V} w (Run f (e ∷ es))) v) (sym on.1) (inr (refl, on_top w.first w.end f t.first t.end h on.0.0)),
  )
]
item_fits {E} {V} w t Clean u le h g = (tt, inl (omega arith))
item_fits {E} {V} w t (Compact c) u le h g =
    (tt, subst (λ v. IsTopOf (next_window {E = E} {V = V} w (Compact c)) v) (sym g) (compact_top w.first w.end c t.first t.end h))
item_fits {E} {V} w t (Put k v) u le h g = (tt, subst (λ a. IsTopOf w a) (sym g) h)
item_fits {E} {V} w t (Del k) u le h g = (tt, subst (λ a. IsTopOf w a) (sym g.2) h)

pub items_fit : {E V : Type 0} (said : SaysOfSlot E V) (m : Slot → Option (Content E V)) (t : Whereabouts) (xs : List (Item E V)) (u : Whereabouts) (w : Window)
    → GrowsBy t xs u → AreCorrect said m t → IsTopOf w t → NoHole w xs × IsTopOf (window w xs) u
items_fit said m t [] u w g b h = (tt, subst (λ v. IsTopOf w v) (sym g) h)
items_fit said m t (x ∷ xs) u w g b h =
    let order : t.first ≤ t.end = (let parts = b.in_order in omega arith) in
    let step : FitsOn w x × IsTopOf (next_window w x) g.0 = item_fits w t x g.0 order h g.1 in
    let rest : NoHole (next_window w x) xs × IsTopOf (window (next_window w x) xs) u =
    items_fit (append_said said x) (stepped m x) g.0 xs u (next_window w x) g.2 (grows said m t b x g.0 g.1) step.1 in
    ((step.0, rest.0), rest.1)

not_past_empty : (wf we f : ℕ) → we ≤ wf → (nat_lt wf we && nat_lt we f) ≡ false
not_past_empty wf we f h = grind (arith, nat_tests)

not_past_within : (wf we f : ℕ) → f ≤ we → (nat_lt wf we && nat_lt we f) ≡ false
not_past_within wf we f h = grind (arith, nat_tests)

module _ {E V : Type 0} (said : SaysOfSlot E V) (m : Slot → Option (Content E V)) (t : Whereabouts) (b : AreCorrect said m t) (whole : List (Item E V))
    (all : (s : Slot) → said.lowest s ≡ says s whole) (no_hole : NoHole nothing whole) where
  spans : Spans (window nothing whole).first (window nothing whole).end (λ i. holds (Index i) whole)
  spans = one_run_fits whole no_hole

  -- where Rewrite is right about a standing index, its own run reaches past it
  reaches : (i : ℕ) (c : Content E V) → unwrap_or (said.lowest (Index i)) None ≡ m (Index i) → m (Index i) ≡ Some c → i < (window nothing whole).end
  reaches i c right stands = elim (cases_lt i (window nothing whole).end) [
    | inl h ↦ h
    | inr past ↦ no_word c (sym (spans.none_above i past) ∙ sym (ap (λ w. unwrap_or w None) (all (Index i))) ∙ right ∙ stands)
  ]

  starts_below : (i : ℕ) (e : E) → holds (Index i) whole ≡ Some (Entry e) → unwrap_or (said.lowest (Index i)) None ≡ m (Index i) → t.first ≤ i
  starts_below i e stands right = elim (cases_lt i t.first)
      [ inl before ↦ no_word (Entry e) (sym (b.below i before) ∙ sym right ∙ ap (λ w. unwrap_or w None) (all (Index i)) ∙ stands) | inr from ↦ from ]

  run_within : (f : ℕ) (es : List E) → 0 < length es → t.first ≤ f → f ≤ t.split → (t.split ≡ f + length es) ⊎ ((t.cleaned ≡ false) × (t.compacted ≡ false))
      → (window nothing whole).first < (window nothing whole).end → f ≤ (window nothing whole).end
  run_within f es some low within clear stands = elim (cases_lt t.first t.split) [
    | inl rewritten ↦ of_rewritten rewritten
    | inr none ↦ elim clear [ inl up ↦ absurd (omega arith) | inr shut ↦ of_none none shut.0 shut.1 ]
  ]
    where
      of_rewritten : t.first < t.split → f ≤ (window nothing whole).end
      of_rewritten rewritten =
          let i : ℕ = t.split - 1 in
          let it : (entry : Content E V) × (m (Index (t.split - 1)) ≡ Some entry) = b.solid (t.split - 1) (omega arith) (omega (arith, b.in_order)) in
          elim (b.index (t.split - 1) (omega (arith, b.in_order))) [
            | inl right ↦ (let below : t.split - 1 < (window nothing whole).end = reaches (t.split - 1) it.0 right.0 it.1 in omega arith)
            | inr (inl c) ↦ (let none : t.first ≡ t.split = (b.after_clean c).0 in absurd (omega arith))
            | inr (inr (inl c)) ↦ elim c.1 [ inl before ↦ absurd (omega arith) | inr none ↦ absurd (omega arith) ]
            | inr (inr (inr a)) ↦ absurd (omega arith)
          ]

      of_none : t.split ≤ t.first → t.cleaned ≡ false → t.compacted ≡ false → f ≤ (window nothing whole).end
      of_none none no_clean no_compact = elim (cases_lt (window nothing whole).first top) [
        | inl high ↦ elim (b.index (window nothing whole).first high) [
          | inl right ↦ (let it = spans.stands (window nothing whole).first (le_refl (window nothing whole).first) stands in
              let from : t.first ≤ (window nothing whole).first = starts_below (window nothing whole).first it.0 it.1 right.0 in omega arith)
          | inr (inl c) ↦ differ (sym c ∙ no_clean)
          | inr (inr (inl c)) ↦ differ (sym c.0 ∙ no_compact)
          | inr (inr (inr a)) ↦ omega arith
        ]
        | inr past ↦ omega (arith, b.in_order)
      ]

  written_fits : (x : Item E V) (u : Whereabouts) → Carries m t x u → FitsOn (window nothing whole) x
  written_fits (Run f []) u h = tt
  written_fits (Run f (e ∷ es)) u h = elim (cases_lt (window nothing whole).first (window nothing whole).end) [
    | inl stands ↦ not_past_within (window nothing whole).first (window nothing whole).end f (run_within f (e ∷ es) (omega arith) h.0 h.1 h.5 stands)
    | inr empty ↦ not_past_empty (window nothing whole).first (window nothing whole).end f empty
  ]
  written_fits Clean u h = tt
  written_fits (Compact c) u h = tt
  written_fits (Put k v) u h = tt
  written_fits (Del k) u h = tt

pub all_written_fit : {E V : Type 0} (said : SaysOfSlot E V) (m : Slot → Option (Content E V)) (t : Whereabouts) (whole xs : List (Item E V)) (u : Whereabouts) → AreCorrect said m t
    → ((s : Slot) → said.lowest s ≡ says s whole) → NoHole nothing whole → CarriesAll m t xs u → NoHole (window nothing whole) xs
all_written_fit said m t whole [] u b all no_hole c = tt
all_written_fit said m t whole (x ∷ xs) u b all no_hole c =
    let fits = written_fits said m t b whole all no_hole x c.0 c.1 in (
      fits,
      subst (λ w. NoHole w xs) (window_append nothing whole (x ∷ []))
          (all_written_fit (rewrite_said said x) m c.0 (whole ++ x ∷ []) xs u (carries said m t b x c.0 c.1)
          (λ s. ap (λ w. option_or (write s x) w) (all s) ∙ sym (says_append s whole (x ∷ [])))
          (no_hole_append nothing whole (x ∷ []) no_hole (fits, tt)) c.2),
    )

carries_ends : {E V : Type 0} (m : Slot → Option (Content E V)) (t : Whereabouts) (x : Item E V) (u : Whereabouts) → Carries m t x u → (u.first ≡ t.first) × (u.end ≡ t.end)
carries_ends m t (Run f []) u e = (ap (λ v. v.first) e, ap (λ v. v.end) e)
carries_ends m t (Run f (e ∷ es)) u h = (ap (λ v. v.first) h.6, ap (λ v. v.end) h.6)
carries_ends m t Clean u h = (ap (λ v. v.first) h.1, ap (λ v. v.end) h.1)
carries_ends m t (Compact c) u h = (ap (λ v. v.first) h.1, ap (λ v. v.end) h.1)
carries_ends m t (Put k v) u h = (ap (λ v. v.first) h.2, ap (λ v. v.end) h.2)
carries_ends m t (Del k) u h = (ap (λ v. v.first) h.1, ap (λ v. v.end) h.1)

-- carrying and copying move neither end of a group's entries
pub carries_all_ends : {E V : Type 0} (m : Slot → Option (Content E V)) (t : Whereabouts) (xs : List (Item E V)) (u : Whereabouts) → CarriesAll m t xs u → (u.first ≡ t.first) × (u.end ≡ t.end)
carries_all_ends m t [] u e = (ap (λ v. v.first) e, ap (λ v. v.end) e)
carries_all_ends m t (x ∷ xs) u h =
    let one = carries_ends m t x h.0 h.1 in let rest = carries_all_ends m h.0 xs u h.2 in (rest.0 ∙ one.0, rest.1 ∙ one.1)

-- the whereabouts of what was read: its entries end where Append's run does, if that isn't empty
pub recovered_top : {E V : Type 0} (said : SaysOfSlot E V) (m : Slot → Option (Content E V)) (t : Whereabouts) (xs : List (Item E V)) → AreCorrect said m t → NoHole nothing xs
    → ((s : Slot) (v : Option (Content E V)) → says s xs ≡ Some v → m s ≡ v) → IsTopOf (window nothing xs) t
recovered_top said m t xs b no_hole means = elim (cases_lt (window nothing xs).first (window nothing xs).end) [
  | inl some ↦ (let ends = ends_alike m xs (run_told said m t b) (window nothing xs) (one_run_fits xs no_hole) means some in inr (ends.1, ends.0))
  | inr none ↦ inl none
]

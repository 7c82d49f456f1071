-- What an open read leaves it no choice where things stand.
use Rattle.std.proofs.Common.{◌≡◌, ℕ, ◌<◌, ◌≤◌, ◌-◌, true, false, List, Option, Some, refl, sym, ◌∙◌, inl, inr, arith, le_refl}
use Rattle.std.proofs.lemmas.Bool.{cases_lt}
use Rattle.raft_log_model_laws.specs.Item.{Item}
use Rattle.raft_log_model_laws.specs.Meaning.{Slot, Content, says}
use Rattle.raft_log_model_laws.specs.Meaning.Slot.{Index, Key}
use Rattle.raft_log_model_laws.proofs.Public.{at_bool}
use Rattle.raft_log_machine_laws.specs.Whereabouts.{Whereabouts}
use Rattle.raft_log_machine_laws.specs.Recovery.{IsRecovered, StandAlike}
use Rattle.raft_log_machine_laws.proofs.TruthRaises.{no_word}

module _ {E V : Type 0} (m : Slot → Option (Content E V)) (append : List (Item E V)) (means : (s : Slot) (v : Option (Content E V)) → says s append ≡ Some v → m s ≡ v) where
  -- something stands at each index of the entries
  stands : (t : Whereabouts) → IsRecovered m append t → (i : ℕ) → t.first ≤ i → i < t.end → (c : Content E V) × (m (Index i) ≡ Some c)
  stands t r i from to = elim (cases_lt i t.split) [
    | inl older ↦ (r.rewritten i from older).1
    | inr newer ↦ (let it = r.newer i newer to in (it.0, means (Index i) (Some it.0) it.1))
  ]

  -- what stands is among the entries
  among : (t : Whereabouts) → IsRecovered m append t → (i : ℕ) (c : Content E V) → m (Index i) ≡ Some c → (t.first ≤ i) × (i < t.end)
  among t r i c e = (
    elim (cases_lt i t.first) [ inl before ↦ no_word c (sym (r.below i before) ∙ e) | inr from ↦ from ],
    elim (cases_lt i t.end) [ inl within ↦ within | inr past ↦ no_word c (sym (r.above i past) ∙ e) ],
  )

  -- where t has entries, u has them
  has : (t u : Whereabouts) → IsRecovered m append t → IsRecovered m append u → t.first < t.end → (u.first ≤ t.first) × (t.end ≤ u.end)
  has t u r q some =
      let low = stands t r t.first (le_refl t.first) some in
      let high = stands t r (t.end - 1) (omega arith) (omega arith) in
      ((among u q t.first low.0 low.1).0, (let last = (among u q (t.end - 1) high.0 high.1).1 in omega arith))

  -- where entries of t stand in Append, those of u do
  splits : (t u : Whereabouts) → IsRecovered m append t → IsRecovered m append u → t.first < t.end → u.first ≤ t.first → u.end ≡ t.end → u.split ≤ t.split
  splits t u r q some low same = elim (cases_lt t.split t.end) [
    | inr none ↦ (let order = q.in_order in omega arith)
    | inl newer ↦ elim (cases_lt t.split u.split) [
      | inr fine ↦ fine
      | inl later ↦ (let it = r.newer t.split (le_refl t.split) newer in let order = r.in_order in
          no_word (Some it.0) (sym (q.rewritten t.split (omega arith) later).0 ∙ it.1))
    ]
  ]

  clash : (t u : Whereabouts) → IsRecovered m append t → IsRecovered m append u → (k : List ℕ) → t.appended k ≡ true → u.appended k ≡ false → ⊥
  clash t u r q k yes_key no_key =
      let it = r.key_newer k yes_key in
      elim (q.key_older k no_key) [ inl none ↦ no_word it.0 (sym none ∙ means (Key k) (Some it.0) it.1) | inr quiet ↦ no_word (Some it.0) (sym quiet ∙ it.1) ]

  pub alike : (t u : Whereabouts) → IsRecovered m append t → IsRecovered m append u → StandAlike t u
  alike t u r q = record {
    entries = λ some.
        let out = has t u r q some in
        let back = has u t q r (let order = r.in_order in omega arith) in
        let end : u.end ≡ t.end = omega (arith, out.1, back.1) in
        let first : u.first ≡ t.first = omega (arith, out.0, back.0) in
        let one = splits t u r q some out.0 end in
        let other = splits u t q r (omega arith) back.0 (sym end) in
        (first, omega arith, end);
    no_entries = λ none. elim (cases_lt u.first u.end) [
      | inl some ↦ absurd (let low = stands u q u.first (le_refl u.first) some in let there = among t r u.first low.0 low.1 in omega (arith, there.0, there.1))
      | inr empty ↦ (let order = q.in_order in omega arith)
    ];
    appended = λ k. at_bool (t.appended k) (λ b. t.appended k ≡ b → u.appended k ≡ b)
        (λ e f. at_bool (u.appended k) (λ b. u.appended k ≡ b → b ≡ true) (λ a b. refl) (λ a b. absurd (clash t u r q k f b)) refl)
        (λ e f. at_bool (u.appended k) (λ b. u.appended k ≡ b → b ≡ false) (λ a b. absurd (clash u t q r k b f)) (λ a b. refl) refl)
        refl;
    cleaned = q.marks.cleaned ∙ sym r.marks.cleaned;
  }

use Rattle.std.proofs.Common.{◌≡◌, ◌∙◌, ◌==◌, ℕ, true, false, List, [], length, ap, refl, subst, sym, arith, Bor}
use Rattle.std.proofs.lemmas.List.{length-map}
use Rattle.std.specs.Vec.{vec_len}
use Rattle.raft_log_record_batches.specs.Entries.{slices_bytes}
use Rattle.raft_log_record_batches.specs.EntriesFrom.{AddsFrom}
use Rattle.raft_log_record_batches.specs.Places.{AddsBytes}
use Rattle.raftlog.proofs.Saying.{adds_entries}
use Rattle.raftlog.proofs.batches.add_entries.Goals as goal

pub returns : goal.returns
returns c =
    let old = c.args.batch.now in
    let new = c.add_entries_from.new.self in
    let entries = c.args.entries.now in
    let slices = c.in_ok-slices.slices.items in
    let same : slices_bytes c.as_slice.result.now ≡ entries = ap slices_bytes c.as_slice.ensures.value ∙ c.in_ok-slices.ensures in
    let full : (vec_len c.in_ok-slices.slices == 0) ≡ false = sym c.is_empty.ensures ∙ c.if-is_empty.false in
    let some : entries ≡ [] → ⊥ = λ none. (
    let zero : vec_len c.in_ok-slices.slices ≡ 0 = omega (
      arith,
      length-map slices (λ (s : Bor (List ℕ)). s.now),
      ap length (c.in_ok-slices.ensures ∙ none),
      ap length c.as_slice.ensures.value,
      c.as_slice.ensures.len,
    ) in
    let clash : true ≡ false = sym (ap (λ (n : ℕ). n == 0) zero) ∙ full in
    let never : ⊥ = cc in never) in
    adds_entries old new c.args.group c.args.first entries _ some refl
    (subst (λ (texts : List (List ℕ)). AddsFrom old new c.args.group c.args.first texts) same c.in_ok-add_entries_from.ensures.ok)
    (subst (λ (texts : List (List ℕ)). AddsBytes old new texts) same c.in_ok-add_entries_from.ensures.bytes)

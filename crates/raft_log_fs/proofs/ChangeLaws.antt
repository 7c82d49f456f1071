-- What a change of a file, carried out whole or in part, leaves of what a stop may leave.
use Rattle.std.specs.Prelude.{◌≡◌, ℕ, ◌+◌, ◌-◌, ◌<◌, ◌≤◌, List, [], ◌∷◌, ◌++◌, length, slice_index}
use Rattle.std.specs.List.{All}
use Rattle.std.proofs.Common.{refl, sym, ◌∙◌, ap, subst, arith, inl, inr, get_or, take, drop}
use Rattle.std.proofs.lemmas.List.{take_at, drop_all, get_or_append_left, get_or-append_right, get_or-take, get_or-drop, get_or_push, append-nil, length-append, length-take, length-take-le, length-drop, length-replicate}
use Rattle.std.proofs.lemmas.Bool.{cases_lt}
use Rattle.raft_log_fs.specs.Disk.{Change, Wrote, ShortenedTo, GrewTo, File, zeros, grown, spliced, overwritten, changed}
use Rattle.raft_log_fs.specs.Image.{Spares, end_of, IsLeft}
use Rattle.raft_log_fs.specs.Calls.{with_change, IsTorn, InPart}

-- what a change may leave of a content, whole or in part: the places that it spares stand
pub record MayBecome (change : Change) (old new : List ℕ) : Type 0 where
  pub kept : (place : ℕ) → place < length old → Spares place change → (place < length new) × (slice_index new place ≡ slice_index old place)
  pub within : (size : ℕ) → length old ≤ size → end_of change ≤ size → length new ≤ size

-- a refused change leaves no more than that
pub part_may : (change : Change) (old new : List ℕ) → InPart change old new → MayBecome change old new
part_may (Wrote at bytes) old new torn = record {
  kept = λ place below spared. (
    omega (arith, torn.longer),
    torn.outside place below (elim (cases_lt place at) [
      | inl before ↦ inl before
      | inr from ↦ elim (cases_lt place (at + length bytes)) [ inl inside ↦ absurd (spared (from, inside)) | inr behind ↦ inr behind ]
    ]),
  );
  within = torn.within;
}
part_may (ShortenedTo size) old new (inl same) = record {
  kept = λ place below spared. subst (λ (b : List ℕ). (place < length b) × (slice_index b place ≡ slice_index old place)) (sym same) (below, refl);
  within = λ most fits ends. subst (λ (b : List ℕ). length b ≤ most) (sym same) fits;
}
part_may (ShortenedTo size) old new (inr cut) = record {
  kept = λ place below spared.
      let inside : place < size = elim (cases_lt place size) [ inl less ↦ less | inr more ↦ absurd (spared more) ] in
      subst (λ (b : List ℕ). (place < length b) × (slice_index b place ≡ slice_index old place)) (sym cut)
      (omega (arith, length-take size old), get_or-take size old place 0 inside);
  within = λ most fits ends. subst (λ (b : List ℕ). length b ≤ most) (sym cut) (omega (arith, length-take size old));
}
part_may (GrewTo size) old new (count, fits_in, same) = record {
  kept = λ place below spared. subst (λ (b : List ℕ). (place < length b) × (slice_index b place ≡ slice_index old place)) (sym same)
      (omega (arith, length-append old (zeros count)), get_or_append_left old (zeros count) 0 place below);
  within = λ most fits ends. subst (λ (b : List ℕ). length b ≤ most) (sym same)
      (elim fits_in [
        | inl room ↦ omega (arith, length-append old (zeros count), length-replicate {A = ℕ} count 0, room)
        | inr none ↦ omega (arith, length-append old (zeros count), length-replicate {A = ℕ} count 0, none)
      ]);
}

length-grown : (size : ℕ) (old : List ℕ) → length (grown size old) ≡ length old + (size - length old)
length-grown size old = length-append old (zeros (size - length old)) ∙ ap (λ (n : ℕ). length old + n) (length-replicate {A = ℕ} (size - length old) 0)

spliced_torn : (at : ℕ) (bytes old : List ℕ) → IsTorn at bytes old (spliced at bytes old)
spliced_torn at bytes old =
    let room : List ℕ = grown (at + length bytes) old in
    let size : length room ≡ length old + (at + length bytes - length old) = length-grown (at + length bytes) old in
    let front : length (take at room) ≡ at = length-take-le at room (omega (arith, size)) in
    let whole : length (spliced at bytes old) ≡ at + (length bytes + (length room - (at + length bytes))) =
    length-append (take at room) (bytes ++ drop (at + length bytes) room)
    ∙ (ap (λ (n : ℕ). n + length (bytes ++ drop (at + length bytes) room)) front
    ∙ ap (λ (n : ℕ). at + n) (length-append bytes (drop (at + length bytes) room)
    ∙ ap (λ (n : ℕ). length bytes + n) (length-drop (at + length bytes) room))) in
    record {
      outside = λ place below apart.
          let in_room : get_or room place 0 ≡ get_or old place 0 = get_or_append_left old (zeros (at + length bytes - length old)) 0 place below in
          elim apart [
            | inl before ↦ get_or_append_left (take at room) (bytes ++ drop (at + length bytes) room) 0 place (omega (arith, front, before))
                ∙ (get_or-take at room place 0 before ∙ in_room)
            | inr behind ↦
                let reached : at + length bytes + (place - at - length bytes) ≡ place = omega (arith, behind) in
                get_or-append_right (take at room) (bytes ++ drop (at + length bytes) room) at place 0 front (omega (arith, behind))
                ∙ (get_or-append_right bytes (drop (at + length bytes) room) (length bytes) (place - at) 0 refl (omega (arith, behind))
                ∙ (get_or-drop (at + length bytes) room (place - at - length bytes) 0
                ∙ (ap (λ (n : ℕ). get_or room n 0) reached ∙ in_room)))
          ];
      longer = omega (arith, whole, size);
      within = λ most fits ends. omega (arith, whole, size);
    }

-- a write that was done whole is one that was done in part
pub overwritten_torn : (at : ℕ) (bytes old : List ℕ) → IsTorn at bytes old (overwritten at bytes old)
overwritten_torn at [] old = record { outside = λ place below apart. refl; longer = omega arith; within = λ size fits ends. fits }
overwritten_torn at (b ∷ bs) old = spliced_torn at (b ∷ bs) old

-- a write of some bytes
pub overwritten_some : (at : ℕ) (bytes old : List ℕ) → 0 < length bytes → overwritten at bytes old ≡ spliced at bytes old
overwritten_some at [] old some = absurd (omega arith)
overwritten_some at (b ∷ bs) old some = refl

-- a write at the end appends
pub overwritten_at_end : (bytes old : List ℕ) → overwritten (length old) bytes old ≡ old ++ bytes
overwritten_at_end [] old = sym (append-nil old)
overwritten_at_end (b ∷ bs) old =
    let bytes : List ℕ = b ∷ bs in
    let gap : List ℕ = zeros (length old + length bytes - length old) in
    let front : take (length old) (old ++ gap) ≡ old = take_at old gap (length old) refl in
    let behind : drop (length old + length bytes) (old ++ gap) ≡ [] =
    drop_all (length old + length bytes) (old ++ gap) (omega (arith, length-append old gap, length-replicate {A = ℕ} (length old + length bytes - length old) 0)) in
    ap (λ (xs : List ℕ). xs ++ (bytes ++ drop (length old + length bytes) (old ++ gap))) front
    ∙ ap (λ (xs : List ℕ). old ++ (bytes ++ xs)) behind
    ∙ ap (λ (xs : List ℕ). old ++ xs) (append-nil bytes)

-- any change done whole is one done in part
pub changed_in_part : (change : Change) (old : List ℕ) → InPart change old (changed change old)
changed_in_part (Wrote at bytes) old = overwritten_torn at bytes old
changed_in_part (ShortenedTo size) old = inr refl
changed_in_part (GrewTo size) old =
    (size - length old, elim (cases_lt (length old) size) [ inl less ↦ inl (omega arith) | inr enough ↦ inr (omega arith) ], refl)

-- a change that left nothing but what stood is one that was done in part
pub unchanged_in_part : (change : Change) (old : List ℕ) → InPart change old old
unchanged_in_part (Wrote at bytes) old = record { outside = λ place below apart. refl; longer = omega arith; within = λ size fits ends. fits }
unchanged_in_part (ShortenedTo size) old = inl refl
unchanged_in_part (GrewTo size) old = (0, inr refl, sym (append-nil old))

all_front : {X : Type 0} (P : X → Type 0) (xs : List X) (x : X) → All P (xs ++ x ∷ []) → All P xs
all_front P xs x all = λ k d below. subst P (get_or_append_left xs (x ∷ []) d k below) (all k d (omega (arith, length-append xs (x ∷ []))))

all_last : {X : Type 0} (P : X → Type 0) (xs : List X) (x : X) → All P (xs ++ x ∷ []) → P x
all_last P xs x all = subst P (get_or_push xs x x (length xs) refl) (all (length xs) x (omega (arith, length-append xs (x ∷ []))))

-- what may be left of a file, and then changed in part, may be left of the file with that change
pub left_changed : (file : File) (change : Change) (content old new : List ℕ) → IsLeft file old → MayBecome change old new → IsLeft (with_change change content file) new
left_changed file change content old new left may = record {
  kept = λ place below spared.
      let before = left.kept place below (all_front (Spares place) file.changes change spared) in
      let after = may.kept place before.0 (all_last (Spares place) file.changes change spared) in
      (after.0, after.1 ∙ before.1);
  within = λ size fits ends.
      may.within size (left.within size fits (all_front (λ p. end_of p ≤ size) file.changes change ends)) (all_last (λ p. end_of p ≤ size) file.changes change ends);
}

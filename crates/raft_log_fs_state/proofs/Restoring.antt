-- What a change replaced, put back behind it, makes the content before it.
use Rattle.std.specs.Prelude.{◌≡◌, ℕ, ◌+◌, ◌-◌, ◌<◌, ◌≤◌, ◌⊎◌, min, List, [], ◌∷◌, ◌++◌, length, Result, Ok, Err, IfOk}
use Rattle.std.proofs.Common.{refl, sym, ◌∙◌, ap, arith, inl, inr, get_or, take, drop}
use Rattle.std.proofs.lemmas.List.{ext_get_or, get_or_append_left, get_or-take, get_or-drop, take_all, take-append-drop, length-append, length-take, length-take-le, length-drop}
use Rattle.std.proofs.lemmas.Bool.{cases_lt}
use Rattle.raft_log_fs.specs.Disk.{Change, Wrote, ShortenedTo, GrewTo, zeros, grown, overwritten, changed}
use Rattle.raft_log_fs.proofs.Public.{overwritten_at_end, overwritten_torn}
use Rattle.raft_log_fs_state.specs.declared.former.Former.{Former}
use Rattle.raft_log_fs_state.specs.Former.{replaced, Keeps, Restores}
use Rattle.raft_log_fs_state.proofs.Growing.{length-grown}
use Rattle.raft_log_fs_state.proofs.Zeros.{overwritten_inside, front_changed}

overwritten_reaches : (at : ℕ) (bytes old : List ℕ) → 0 < length bytes → at + length bytes ≤ length (overwritten at bytes old)
overwritten_reaches at [] old some = absurd (omega (arith, some))
overwritten_reaches at (b ∷ bs) old some =
    let bytes : List ℕ = b ∷ bs in
    let room : List ℕ = grown (at + length bytes) old in
    let size = length-grown (at + length bytes) old in
    let front : length (take at room) ≡ at = length-take-le at room (omega (arith, size)) in
    omega (arith, length-append (take at room) (bytes ++ drop (at + length bytes) room), length-append bytes (drop (at + length bytes) room), front)

pub written_back : (at : ℕ) (bytes old : List ℕ) → take (length bytes) (drop at (overwritten at bytes old)) ≡ bytes
written_back at [] old = refl
written_back at (b ∷ bs) old =
    let bytes : List ℕ = b ∷ bs in
    let new : List ℕ = overwritten at bytes old in
    let some : 0 < length bytes = omega arith in
    let size : length (take (length bytes) (drop at new)) ≡ length bytes =
    length-take-le (length bytes) (drop at new) (omega (arith, length-drop at new, overwritten_reaches at bytes old some)) in
    ext_get_or 0 (take (length bytes) (drop at new)) bytes size (λ i less.
    (let below : i < length bytes = omega (arith, size, less) in
    get_or-take (length bytes) (drop at new) i 0 below ∙ (get_or-drop at new i 0 ∙ overwritten_inside at bytes old i below)))

-- where a content stands as it was but from `start` up to `end`, and is no shorter, the bytes that stood there make it
-- the old one
put_back : (start end : ℕ) (old after : List ℕ) → start ≤ end → end ≤ length old → length old ≤ length after
    → ((i : ℕ) → i < length old → (i < start) ⊎ (end ≤ i) → get_or after i 0 ≡ get_or old i 0)
    → overwritten start (take (end - start) (drop start old)) (take (length old) after) ≡ old
put_back start end old after ordered inside longer outside =
    let over : List ℕ = take (end - start) (drop start old) in
    let front : List ℕ = take (length old) after in
    let new : List ℕ = overwritten start over front in
    let count : length over ≡ end - start = length-take-le (end - start) (drop start old) (omega (arith, length-drop start old, inside)) in
    let size : length front ≡ length old = length-take-le (length old) after longer in
    let torn = overwritten_torn start over front in
    let fits : length new ≤ length old = torn.within (length old) (omega (arith, size)) (omega (arith, count, ordered, inside)) in
    let same : length new ≡ length old = omega (arith, fits, torn.longer, size) in
    let stays : (i : ℕ) → i < length old → (i < start) ⊎ (start + length over ≤ i) → (i < start) ⊎ (end ≤ i) → get_or new i 0 ≡ get_or old i 0 =
    λ i below apart out. torn.outside i (omega (arith, size, below)) apart ∙ (get_or-take (length old) after i 0 below ∙ outside i below out) in
    ext_get_or 0 new old same (λ i less.
    (let below : i < length old = omega (arith, same, less) in
    elim (cases_lt i start) [
      | inl before ↦ stays i below (inl before) (inl before)
      | inr from ↦ elim (cases_lt i end) [
        | inr behind ↦ stays i below (inr (omega (arith, count, ordered, behind))) (inr behind)
        | inl within ↦
            let moved : start + (i - start) ≡ i = omega (arith, from) in
            let within_over : i - start < length over = omega (arith, count, from, within) in
            let taken : i - start < end - start = omega (arith, from, within) in
            ap (λ (n : ℕ). get_or new n 0) (sym moved)
            ∙ (overwritten_inside start over front (i - start) within_over
            ∙ (get_or-take (end - start) (drop start old) (i - start) 0 taken
            ∙ (get_or-drop start old (i - start) 0 ∙ ap (λ (n : ℕ). get_or old n 0) moved)))
      ]
    ]))

-- a cut below the size, and one at it
cut : (left : ℕ) (old : List ℕ) → take (length old) (take left old) ≡ take (min (length old) left) old
cut left old =
    take_all (length old) (take left old) (omega (arith, length-take left old)) ∙ elim (cases_lt left (length old)) [
      | inl less ↦ ap (λ (n : ℕ). take n old) (omega (arith, less))
      | inr more ↦ take_all left old more ∙ sym (take_all (min (length old) left) old (omega (arith, more)))
    ]

-- what stood at the places that a change replaces, put over what it made
pub restores : (change : Change) (old : List ℕ)
    → overwritten (replaced change (length old)).0
    (take ((replaced change (length old)).1 - (replaced change (length old)).0) (drop (replaced change (length old)).0 old))
    (take (length old) (changed change old)) ≡ old
restores (Wrote at bytes) old =
    let torn = overwritten_torn at bytes old in
    put_back (min (length old) at) (min (length old) (at + length bytes)) old (overwritten at bytes old) (omega arith) (omega arith) torn.longer
    (λ i below out. torn.outside i below (elim out [ inl before ↦ inl (omega (arith, before)) | inr behind ↦ inr (omega (arith, behind, below)) ]))
restores (ShortenedTo left) old =
    let size : ℕ = length old in
    let start : ℕ = min size left in
    let front : List ℕ = take start old in
    let back : List ℕ = drop start old in
    let all : take (size - start) back ≡ back = take_all (size - start) back (omega (arith, length-drop start old)) in
    let count : length front ≡ start = length-take-le start old (omega arith) in
    ap (λ (xs : List ℕ). overwritten start xs (take size (take left old))) all
    ∙ (ap (λ (xs : List ℕ). overwritten start back xs) (cut left old)
    ∙ (ap (λ (n : ℕ). overwritten n back front) (sym count)
    ∙ (overwritten_at_end back front ∙ take-append-drop start old)))
restores (GrewTo size) old =
    let gap : List ℕ = zeros (size - length old) in
    put_back (length old) (length old) old (old ++ gap) (omega arith) (omega arith) (omega (arith, length-append old gap))
    (λ i below out. get_or_append_left old gap 0 i below)

-- what a change is about to replace in the front of a content, kept, is what restores the content
pub kept_restores : {E : Type 0} (change : Change) (content front : List ℕ) (span : ℕ × ℕ) (r : Result Former E) → content ≡ grown (length content) front
    → span ≡ replaced change (length front) → IfOk r (Keeps (length content) front span.0 span.1) → IfOk r (Restores change content)
kept_restores change content front span (Err e) all is keeps = tt
kept_restores change content front span (Ok former) all is keeps =
    let after : List ℕ = changed change content in
    let own : ℕ × ℕ = replaced change (length front) in
    let over : List ℕ = take (own.1 - own.0) (drop own.0 front) in
    let start : former.place ≡ own.0 = keeps.place ∙ ap (λ (s : ℕ × ℕ). s.0) is in
    let bytes : former.bytes.items ≡ over = keeps.kept ∙ ap (λ (s : ℕ × ℕ). take (s.1 - s.0) (drop s.0 front)) is in
    let left : take former.front after ≡ take (length front) (changed change front) =
    ap (λ (n : ℕ). take n after) keeps.front
    ∙ (ap (λ (xs : List ℕ). take (length front) (changed change xs)) all ∙ front_changed change (length content) front) in
    ap (λ (n : ℕ). grown n (overwritten former.place former.bytes.items (take former.front after))) keeps.size
    ∙ (ap (λ (n : ℕ). grown (length content) (overwritten n former.bytes.items (take former.front after))) start
    ∙ (ap (λ (xs : List ℕ). grown (length content) (overwritten own.0 xs (take former.front after))) bytes
    ∙ (ap (λ (xs : List ℕ). grown (length content) (overwritten own.0 over xs)) left
    ∙ (ap (grown (length content)) (restores change front) ∙ sym all))))

-- Zeros at the end of bytes: what stands at a place is the same with them and without, as it is 0 past the end too.
use Rattle.std.specs.Prelude.{◌≡◌, ℕ, ◌+◌, ◌-◌, ◌<◌, ◌≤◌, ◌⊎◌, min, max, List, [], ◌∷◌, ◌++◌, length}
use Rattle.std.specs.List.{All}
use Rattle.std.proofs.Common.{refl, sym, ◌∙◌, ap, arith, inl, inr, get_or, take, drop}
use Rattle.std.proofs.lemmas.List.{ext_get_or, get_or_append_left, get_or-append_right, get_or-take, get_or-drop, get_or-replicate, get_or_past, take_all, take_at, drop_at, append_assoc, length-append, length-take, length-take-le, length-drop, length-replicate}
use Rattle.std.proofs.lemmas.List.Elements.{All-get_or}
use Rattle.std.proofs.lemmas.Bool.{cases_lt}
use Rattle.raft_log_fs.specs.Disk.{Change, Wrote, ShortenedTo, GrewTo, zeros, grown, spliced, overwritten, changed}
use Rattle.raft_log_fs.proofs.Public.{overwritten_torn}
use Rattle.raft_log_fs_state.proofs.Growing.{length-grown, length-written}

pub get_or-grown : (size : ℕ) (old : List ℕ) (i : ℕ) → get_or (grown size old) i 0 ≡ get_or old i 0
get_or-grown size old i =
    let gap : ℕ = size - length old in
    elim (cases_lt i (length old)) [
      | inl below ↦ get_or_append_left old (zeros gap) 0 i below
      | inr past ↦ elim (cases_lt (i - length old) gap) [
        | inl inside ↦ get_or-append_right old (zeros gap) (length old) i 0 refl past
            ∙ (get_or-replicate gap (i - length old) 0 0 inside ∙ sym (get_or_past old i 0 past))
        | inr behind ↦ get_or_past (grown size old) i 0 (omega (arith, length-grown size old, past, behind)) ∙ sym (get_or_past old i 0 past)
      ]
    ]

pub grown_more : (more size : ℕ) (front : List ℕ) → size ≤ more → grown more front ≡ grown more (grown size front)
grown_more more size front less =
    ext_get_or 0 (grown more front) (grown more (grown size front))
    (omega (arith, length-grown more front, length-grown more (grown size front), length-grown size front, less))
    (λ i inside. get_or-grown more front i ∙ sym (get_or-grown more (grown size front) i ∙ get_or-grown size front i))

spliced_inside : (at : ℕ) (bytes old : List ℕ) (i : ℕ) → i < length bytes → get_or (spliced at bytes old) (at + i) 0 ≡ get_or bytes i 0
spliced_inside at bytes old i below =
    let room : List ℕ = grown (at + length bytes) old in
    let size = length-grown (at + length bytes) old in
    let front : length (take at room) ≡ at = length-take-le at room (omega (arith, size)) in
    let moved : at + i - at ≡ i = omega arith in
    get_or-append_right (take at room) (bytes ++ drop (at + length bytes) room) at (at + i) 0 front (omega arith)
    ∙ (ap (λ (n : ℕ). get_or (bytes ++ drop (at + length bytes) room) n 0) moved
    ∙ get_or_append_left bytes (drop (at + length bytes) room) 0 i below)

-- what a write put somewhere stands there
pub overwritten_inside : (at : ℕ) (bytes old : List ℕ) (i : ℕ) → i < length bytes → get_or (overwritten at bytes old) (at + i) 0 ≡ get_or bytes i 0
overwritten_inside at [] old i below = absurd (omega (arith, below))
overwritten_inside at (b ∷ bs) old i below = spliced_inside at (b ∷ bs) old i below

spliced_outside : (at : ℕ) (bytes old : List ℕ) (i : ℕ) → (i < at) ⊎ (at + length bytes ≤ i) → get_or (spliced at bytes old) i 0 ≡ get_or old i 0
spliced_outside at bytes old i out =
    let end : ℕ = at + length bytes in
    let room : List ℕ = grown end old in
    let back : List ℕ = drop end room in
    let front : length (take at room) ≡ at = length-take-le at room (omega (arith, length-grown end old)) in
    elim out [
      | inl before ↦ get_or_append_left (take at room) (bytes ++ back) 0 i (omega (arith, front, before)) ∙ (get_or-take at room i 0 before ∙ get_or-grown end old i)
      | inr behind ↦
          let reached : end + (i - at - length bytes) ≡ i = omega (arith, behind) in
          get_or-append_right (take at room) (bytes ++ back) at i 0 front (omega (arith, behind))
          ∙ (get_or-append_right bytes back (length bytes) (i - at) 0 refl (omega (arith, behind))
          ∙ (get_or-drop end room (i - at - length bytes) 0
          ∙ (ap (λ (n : ℕ). get_or room n 0) reached ∙ get_or-grown end old i)))
    ]

pub overwritten_outside : (at : ℕ) (bytes old : List ℕ) (i : ℕ) → (i < at) ⊎ (at + length bytes ≤ i) → get_or (overwritten at bytes old) i 0 ≡ get_or old i 0
overwritten_outside at [] old i out = refl
overwritten_outside at (b ∷ bs) old i out = spliced_outside at (b ∷ bs) old i out

-- what a write leaves at a place is told by what stood there
same_overwritten : (at : ℕ) (bytes old other : List ℕ) (i : ℕ) → get_or old i 0 ≡ get_or other i 0 → get_or (overwritten at bytes old) i 0 ≡ get_or (overwritten at bytes other) i 0
same_overwritten at bytes old other i same =
    let apart : (i < at) ⊎ (at + length bytes ≤ i) → get_or (overwritten at bytes old) i 0 ≡ get_or (overwritten at bytes other) i 0 =
    λ out. overwritten_outside at bytes old i out ∙ (same ∙ sym (overwritten_outside at bytes other i out)) in
    elim (cases_lt i at) [
      | inl before ↦ apart (inl before)
      | inr from ↦ elim (cases_lt i (at + length bytes)) [
        | inr behind ↦ apart (inr behind)
        | inl inside ↦
            let moved : at + (i - at) ≡ i = omega (arith, from) in
            let within : i - at < length bytes = omega (arith, from, inside) in
            ap (λ (n : ℕ). get_or (overwritten at bytes old) n 0) (sym moved)
            ∙ (overwritten_inside at bytes old (i - at) within
            ∙ (sym (overwritten_inside at bytes other (i - at) within) ∙ ap (λ (n : ℕ). get_or (overwritten at bytes other) n 0) moved))
      ]
    ]

-- a write over the zeros, or before them
overwritten-grown : (at : ℕ) (bytes : List ℕ) (size : ℕ) (front : List ℕ) → overwritten at bytes (grown size front) ≡ grown size (overwritten at bytes front)
overwritten-grown at [] size front = refl
overwritten-grown at (b ∷ bs) size front =
    let bytes : List ℕ = b ∷ bs in
    let some : 0 < length bytes = omega arith in
    let left : List ℕ = overwritten at bytes (grown size front) in
    let over : List ℕ = overwritten at bytes front in
    ext_get_or 0 left (grown size over)
    (omega (arith, length-written at bytes (grown size front) some, length-grown size front, length-grown size over, length-written at bytes front some))
    (λ i inside. same_overwritten at bytes (grown size front) front i (get_or-grown size front i) ∙ sym (get_or-grown size over i))

pub written_front : (at : ℕ) (bytes : List ℕ) (size count : ℕ) (front : List ℕ) → count ≡ length (overwritten at bytes front)
    → grown (max size count) (overwritten at bytes front) ≡ overwritten at bytes (grown size front)
written_front at bytes size count front is =
    let over : List ℕ = overwritten at bytes front in
    let same : max size count - length over ≡ size - length over = omega (arith, is) in
    ap (λ (n : ℕ). over ++ zeros n) same ∙ sym (overwritten-grown at bytes size front)

-- zeros that are written behind the front fill the bytes up with zeros
pub zeros_written : (at : ℕ) (bytes : List ℕ) (size : ℕ) (front : List ℕ) → length front ≤ at → 0 < length bytes → All (λ byte. byte ≡ 0) bytes
    → grown (at + length bytes) (grown size front) ≡ overwritten at bytes (grown size front)
zeros_written at bytes size front behind some none =
    let old : List ℕ = grown size front in
    let end : ℕ = at + length bytes in
    let left : List ℕ = overwritten at bytes old in
    let outside : (i : ℕ) → (i < at) ⊎ (end ≤ i) → get_or (grown end old) i 0 ≡ get_or left i 0 =
    λ i out. get_or-grown end old i ∙ sym (overwritten_outside at bytes old i out) in
    ext_get_or 0 (grown end old) left
    (omega (arith, length-written at bytes old some, length-grown end old))
    (λ i inside. elim (cases_lt i at) [
      | inl before ↦ outside i (inl before)
      | inr from ↦ elim (cases_lt i end) [
        | inr past ↦ outside i (inr past)
        | inl within ↦
            let moved : at + (i - at) ≡ i = omega (arith, from) in
            let below : i - at < length bytes = omega (arith, from, within) in
            get_or-grown end old i
            ∙ (get_or-grown size front i
            ∙ (get_or_past front i 0 (omega (arith, behind, from))
            ∙ (sym (All-get_or (λ (byte : ℕ). byte ≡ 0) bytes (i - at) 0 below none)
            ∙ (sym (overwritten_inside at bytes old (i - at) below) ∙ ap (λ (n : ℕ). get_or left n 0) moved))))
      ]
    ])

-- a front without the zeros behind it
take-grown : (n size : ℕ) (old : List ℕ) → n ≤ length old → take n (grown size old) ≡ take n old
take-grown n size old within =
    let whole : length (take n (grown size old)) ≡ n = length-take-le n (grown size old) (omega (arith, length-grown size old, within)) in
    ext_get_or 0 (take n (grown size old)) (take n old) (whole ∙ sym (length-take-le n old within)) (λ i less.
    (let inside : i < n = omega (arith, whole, less) in
    get_or-take n (grown size old) i 0 inside ∙ (get_or-grown size old i ∙ sym (get_or-take n old i 0 inside))))

take_twice : (n m : ℕ) (xs : List ℕ) → take n (take m xs) ≡ take (min n m) xs
take_twice n m xs = elim (cases_lt m n) [
  | inl less ↦ take_all n (take m xs) (omega (arith, length-take m xs, less)) ∙ ap (λ (k : ℕ). take k xs) (let same : m ≡ min n m = omega (arith, less) in same)
  | inr more ↦
      let same : n ≡ min n m = omega (arith, more) in
      let size : length (take n (take m xs)) ≡ length (take n xs) = omega (arith, length-take n (take m xs), length-take m xs, length-take n xs, more) in
      ext_get_or 0 (take n (take m xs)) (take n xs) size (λ i below.
      (let inside : i < n = omega (arith, below, length-take n (take m xs)) in
      get_or-take n (take m xs) i 0 inside ∙ (get_or-take m xs i 0 (omega (arith, inside, more)) ∙ sym (get_or-take n xs i 0 inside))))
      ∙ ap (λ (k : ℕ). take k xs) same
]

-- what a change leaves in front is told by what stood there
pub front_changed : (change : Change) (size : ℕ) (front : List ℕ) → take (length front) (changed change (grown size front)) ≡ take (length front) (changed change front)
front_changed (Wrote at bytes) size front =
    ap (take (length front)) (overwritten-grown at bytes size front)
    ∙ take-grown (length front) size (overwritten at bytes front) (overwritten_torn at bytes front).longer
front_changed (ShortenedTo left) size front =
    let n : ℕ = length front in
    take_twice n left (grown size front)
    ∙ (take-grown (min n left) size front (omega arith) ∙ sym (take_twice n left front))
front_changed (GrewTo more) size front =
    let n : ℕ = length front in
    take-grown n more (grown size front) (omega (arith, length-grown size front))
    ∙ (take-grown n size front (omega arith) ∙ sym (take-grown n more front (omega arith)))

-- Reads.

-- what is read from a place on is some of the front, and zeros
read_front : (front : List ℕ) (size offset copied count : ℕ) → length front ≤ size → copied ≤ length front - offset → copied ≤ count → count ≤ size - offset
    → (copied < count → copied ≡ length front - offset) → take count (drop offset (grown size front)) ≡ take copied (drop offset front) ++ zeros (count - copied)
read_front front size offset copied count within there fits full rest =
    let some : List ℕ = take copied (drop offset front) in
    let left : List ℕ = take count (drop offset (grown size front)) in
    let whole : length left ≡ count = length-take-le count (drop offset (grown size front)) (omega (arith, length-drop offset (grown size front), length-grown size front, within, full)) in
    let size_some : length some ≡ copied = length-take-le copied (drop offset front) (omega (arith, length-drop offset front, there)) in
    let right : length (some ++ zeros (count - copied)) ≡ count =
    omega (arith, length-append some (zeros (count - copied)), length-replicate {A = ℕ} (count - copied) 0, size_some, fits) in
    ext_get_or 0 left (some ++ zeros (count - copied)) (whole ∙ sym right) (λ i less.
    (let inside : i < count = omega (arith, whole, less) in
    get_or-take count (drop offset (grown size front)) i 0 inside
    ∙ (get_or-drop offset (grown size front) i 0
    ∙ (get_or-grown size front (offset + i)
    ∙ elim (cases_lt i copied) [
      | inl before ↦ sym (get_or_append_left some (zeros (count - copied)) 0 i (omega (arith, size_some, before)) ∙ (get_or-take copied (drop offset front) i 0 before ∙ get_or-drop offset front i 0))
      | inr from ↦
          let is : copied ≡ length front - offset = rest (omega (arith, from, inside)) in
          get_or_past front (offset + i) 0 (omega (arith, is, from))
          ∙ sym (get_or-append_right some (zeros (count - copied)) copied i 0 size_some from
          ∙ get_or-replicate (count - copied) (i - copied) 0 0 (omega (arith, from, inside)))
    ]))))

drop_twice : (n m : ℕ) (xs : List ℕ) → drop m (drop n xs) ≡ drop (n + m) xs
drop_twice n m xs =
    ext_get_or 0 (drop m (drop n xs)) (drop (n + m) xs) (omega (arith, length-drop m (drop n xs), length-drop n xs, length-drop (n + m) xs)) (λ i less.
    (let same : n + (m + i) ≡ n + m + i = omega arith in
    get_or-drop m (drop n xs) i 0 ∙ (get_or-drop n xs (m + i) 0 ∙ (ap (λ (k : ℕ). get_or xs k 0) same ∙ sym (get_or-drop (n + m) xs i 0)))))

-- room that has some of the front, and then zeros in the next places
pub filled : (front room first gap : List ℕ) (size offset copied count : ℕ) → length front ≤ size → copied ≡ min (length room) (length front - offset)
    → count ≡ min (length room) (size - offset) → copied < count → first ≡ take copied (drop offset front) ++ drop copied room
    → gap ≡ zeros (length (take (count - copied) (drop copied first)))
    → take copied first ++ (gap ++ drop (count - copied) (drop copied first)) ≡ take count (drop offset (grown size front)) ++ drop count room
filled front room first gap size offset copied count within is_copied is_count less is zeroed =
    let some : List ℕ = take copied (drop offset front) in
    let more : ℕ = count - copied in
    let back : List ℕ = drop more (drop copied first) in
    let size_some : length some ≡ copied = length-take-le copied (drop offset front) (omega (arith, length-drop offset front, is_copied)) in
    let stood : take copied first ≡ some = ap (take copied) is ∙ take_at some (drop copied room) copied size_some in
    let behind : drop copied first ≡ drop copied room = ap (drop copied) is ∙ drop_at some (drop copied room) copied size_some in
    let long : length (take more (drop copied first)) ≡ more =
    length-take-le more (drop copied first) (omega (arith, ap length behind, length-drop copied room, is_count)) in
    let whole : copied + more ≡ count = omega (arith, less) in
    let rest : back ≡ drop count room = ap (drop more) behind ∙ (drop_twice copied more room ∙ ap (λ (n : ℕ). drop n room) whole) in
    let read = read_front front size offset copied count within (omega (arith, is_copied)) (omega (arith, less)) (omega (arith, is_count)) (λ below. omega (arith, is_copied, is_count, below)) in
    ap (λ (xs : List ℕ). xs ++ (gap ++ back)) stood
    ∙ (ap (λ (xs : List ℕ). some ++ (xs ++ back)) (zeroed ∙ ap zeros long)
    ∙ (ap (λ (xs : List ℕ). some ++ (zeros more ++ xs)) rest
    ∙ (sym (append_assoc some (zeros more) (drop count room)) ∙ ap (λ (xs : List ℕ). xs ++ drop count room) (sym read))))

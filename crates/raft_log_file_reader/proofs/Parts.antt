-- Parts of a file's bytes: what is held of them, and what is read behind it.
use Rattle.std.proofs.Common.{◌≡◌, ℕ, ◌+◌, ◌-◌, ◌≤◌, List, [], ◌++◌, length, take, drop, min, refl, sym, ap, subst, ◌∙◌, arith, append_assoc, length-append, length-drop}
use Rattle.std.proofs.lemmas.List.{drop-append-le, take-append-le, take-append-drop, drop-drop, append-nil, length-take}
use Rattle.std.proofs.Math.Nat.{min-eq_left}
use Rattle.std.proofs.Math.Seq.{drop-append_seam, take-append_seam, drop-length}
use Rattle.raft_log_file_reader.specs.Window.{IsPart, Covers}

-- what is held behind the front of it
pub part-drop : (start : ℕ) (bytes content : List ℕ) (offset : ℕ) → IsPart start bytes content → start ≤ offset → offset ≤ start + length bytes
    → (rest : List ℕ) × (drop offset content ≡ drop (offset - start) bytes ++ rest)
part-drop start bytes content offset part from to =
    let k : start + (offset - start) ≡ offset = omega arith in
    let short : offset - start ≤ length bytes = omega arith in
    (part.rest, sym (drop-drop (offset - start) start content ∙ ap (λ n. drop n content) k) ∙ ap (drop (offset - start)) part.splits ∙ drop-append-le (offset - start) bytes part.rest short)

-- the bytes that are held from an offset on are the file's
pub part_held : (start : ℕ) (bytes content : List ℕ) (offset size : ℕ) → Covers start bytes offset size → IsPart start bytes content
    → take size (drop (offset - start) bytes) ≡ take size (drop offset content)
part_held start bytes content offset size covers part =
    let inside : offset ≤ start + length bytes = omega arith in
    let split = part-drop start bytes content offset part covers.from inside in
    let long : size ≤ length (drop (offset - start) bytes) = omega (arith, length-drop (offset - start) bytes) in
    sym (ap (take size) split.1 ∙ take-append-le size (drop (offset - start) bytes) split.0 long)

-- what is read behind it makes a greater part
pub part_more : (start : ℕ) (bytes content : List ℕ) (count : ℕ) → IsPart start bytes content
    → IsPart start (bytes ++ take count (drop (start + length bytes) content)) content
part_more start bytes content count part =
    let next : drop (start + length bytes) content ≡ part.rest = sym (drop-drop (length bytes) start content) ∙ ap (drop (length bytes)) part.splits ∙ drop-append_seam bytes part.rest in
    record {
      inside = part.inside;
      rest = drop count part.rest;
      splits = part.splits ∙ ap (λ (r : List ℕ). bytes ++ r) (sym (take-append-drop count part.rest)) ∙ sym (append_assoc bytes (take count part.rest) (drop count part.rest))
          ∙ ap (λ (r : List ℕ). (bytes ++ take count r) ++ drop count part.rest) (sym next);
    }

-- nothing is a part everywhere inside
pub nothing_held : (start : ℕ) (content : List ℕ) → start ≤ length content → IsPart start [] content
nothing_held start content inside = record { inside = inside; rest = drop start content; splits = refl }

-- a part ends within the content
pub part_end : (start : ℕ) (bytes content : List ℕ) → IsPart start bytes content → start + length bytes ≤ length content
part_end start bytes content part =
    let inside = part.inside in
    omega (arith, length-drop start content, ap length part.splits, length-append bytes part.rest)

-- what is held of a part behind its front is a part
pub part_behind : (start : ℕ) (bytes content : List ℕ) (offset : ℕ) → IsPart start bytes content → start ≤ offset → offset ≤ start + length bytes
    → IsPart offset (drop (offset - start) bytes) content
part_behind start bytes content offset part from to =
    let split = part-drop start bytes content offset part from to in
    record { inside = omega (arith, part_end start bytes content part); rest = split.0; splits = split.1 }

-- What is read into room behind what is held makes a greater part.
pub part_filled : (start : ℕ) (bytes room content : List ℕ) → IsPart start bytes content
    → IsPart start (take (length bytes) (bytes ++ room)
    ++ (take (length (take (length (bytes ++ room) - length bytes) (drop (length bytes) (bytes ++ room)))) (drop (start + length bytes) content)
    ++ drop (length (bytes ++ room) - length bytes) (drop (length bytes) (bytes ++ room)))) content
part_filled start bytes room content part =
    let n = length (bytes ++ room) - length bytes in
    let behind : drop (length bytes) (bytes ++ room) ≡ room = drop-append_seam bytes room in
    let all : n ≡ length room = omega (arith, length-append bytes room) in
    let none : drop n (drop (length bytes) (bytes ++ room)) ≡ [] = ap (drop n) behind ∙ ap (λ m. drop m room) all ∙ drop-length room in
    let count = length (take n (drop (length bytes) (bytes ++ room))) in
    let more = take count (drop (start + length bytes) content) in
    let joined : take (length bytes) (bytes ++ room) ++ (more ++ drop n (drop (length bytes) (bytes ++ room))) ≡ bytes ++ more =
    ap (λ (front : List ℕ). front ++ (more ++ drop n (drop (length bytes) (bytes ++ room)))) (take-append_seam bytes room)
    ∙ ap (λ (tail : List ℕ). bytes ++ (more ++ tail)) none ∙ ap (λ (l : List ℕ). bytes ++ l) (append-nil more) in
    subst (λ (l : List ℕ). IsPart start l content) (sym joined) (part_more start bytes content count part)

-- The same where what was made room for has names.
pub part_put : (start held : ℕ) (bytes room resized read content : List ℕ) → IsPart start bytes content → held ≡ length bytes → resized ≡ bytes ++ room
    → read ≡ take (length (take (length resized - held) (drop held resized))) (drop (start + held) content)
    → IsPart start (take held resized ++ (read ++ drop (length resized - held) (drop held resized))) content
part_put start held bytes room resized read content part is_held is_resized is_read =
    let whole = λ (h : ℕ) (l : List ℕ) (r : List ℕ). take h l ++ (r ++ drop (length l - h) (drop h l)) in
    let named : whole held resized read ≡ whole (length bytes) (bytes ++ room) (take (length (take (length (bytes ++ room) - length bytes) (drop (length bytes) (bytes ++ room)))) (drop (start + length bytes) content)) =
    rw (is_read, is_resized, is_held) refl in
    subst (λ (l : List ℕ). IsPart start l content) (sym named) (part_filled start bytes room content part)

-- what is put into room leaves the length
pub put-length : (held : ℕ) (resized read : List ℕ) → held ≤ length resized → length read ≡ length (take (length resized - held) (drop held resized))
    → length (take held resized ++ (read ++ drop (length resized - held) (drop held resized))) ≡ length resized
put-length held resized read inside same =
    let k = length resized - held in
    omega (
      arith,
      same,
      length-append (take held resized) (read ++ drop k (drop held resized)),
      length-append read (drop k (drop held resized)),
      length-drop k (drop held resized),
      length-drop held resized,
      length-take held resized,
      length-take k (drop held resized),
    )

-- room that is within the content, and that was read as far as that goes, was filled whole
pub room_filled : (at count : ℕ) (before after content : List ℕ) → at + length before ≤ length content → count ≡ min (length before) (length content - at)
    → after ≡ take count (drop at content) ++ drop count before → after ≡ take (length before) (drop at content)
room_filled at count before after content inside number bytes =
    let all : count ≡ length before = number ∙ min-eq_left (omega arith) in
    bytes ∙ ap (λ (n : ℕ). take n (drop at content) ++ drop n before) all ∙ ap (λ (l : List ℕ). take (length before) (drop at content) ++ l) (drop-length before)
    ∙ append-nil (take (length before) (drop at content))

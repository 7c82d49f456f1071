-- Changes taken back one by one, the last one first, and made again in their order.
use Rattle.std.specs.Prelude.{◌≡◌, ℕ, ◌+◌, ◌-◌, ◌<◌, ◌≤◌, List, [], ◌∷◌, ◌++◌, length}
use Rattle.std.specs.List.{All}
use Rattle.std.proofs.Common.{sym, ◌∙◌, ap, subst, arith, get_or, drop, reverse, Vec, Global}
use Rattle.std.proofs.lemmas.List.{map-append, reverse-append, same_from_push}
use Rattle.std.proofs.lemmas.List.Elements.{All-head, All-tail}
use Rattle.raft_log_fs.specs.Disk as disk
use Rattle.raft_log_fs.specs.Disk.{file_limit}
use Rattle.raft_log_fs.specs.Image.{end_of}
use Rattle.raft_log_fs_state.specs.declared.change.Stamped.{Stamped}
use Rattle.raft_log_fs_state.specs.declared.remainder.Remainder.{Remainder}
use Rattle.raft_log_fs_state.specs.Changes.{bytes_in, change_of, rest_of, with_rest}
use Rattle.raft_log_fs_state.specs.Former.{restored}
use Rattle.raft_log_fs_state.specs.Held.{before, written, all_written, made_in, items_of, changes_in}
use Rattle.raft_log_fs_state.specs.Left.{left_by}
use Rattle.raft_log_fs_state.specs.Stamps.{left_own}
use Rattle.raft_log_fs_state.proofs.Fronts.{front_short}
use Rattle.raft_log_fs_state.proofs.Items.{next_item}
use Rattle.raft_log_fs_state.proofs.RisingLaws.{both}

-- byte strings as lists, with one more behind them
items_more : (pieces : List (Vec ℕ Global)) (piece : Vec ℕ Global) → items_of (pieces ++ piece ∷ []) ≡ items_of pieces ++ piece.items ∷ []
items_more pieces piece = map-append (λ (v : Vec ℕ Global). v.items) pieces (piece ∷ [])

-- the bytes of a list's first change stand behind those of the others, where these stand the last one's first
last_first : (x : List ℕ) (xs : List (List ℕ)) → reverse (x ∷ xs) ≡ reverse xs ++ x ∷ []
last_first x xs = reverse-append (x ∷ []) xs

-- the changes from one before a place on
one_back : (us : List Stamped) (n : ℕ) (u : Stamped) → 0 < n → n ≤ length us → u ≡ get_or us (n - 1) u → drop (n - 1) us ≡ u ∷ drop n us
one_back us n u some fits is =
    let same : n - 1 + 1 ≡ n = omega (arith, some) in
    next_item us (n - 1) u (omega (arith, some, fits)) is ∙ ap (λ (k : ℕ). u ∷ drop k us) same

-- One change more is taken back: the content is the one before it, and its bytes are there.
pub content_back : (us : List Stamped) (n : ℕ) (u : Stamped) (start old new : List ℕ) → 0 < n → n ≤ length us → u ≡ get_or us (n - 1) u
    → old ≡ before (drop n us) start → new ≡ restored u.former old → new ≡ before (drop (n - 1) us) start
content_back us n u start old new some fits is stood back =
    back ∙ (ap (restored u.former) stood ∙ ap (λ (vs : List Stamped). before vs start) (sym (one_back us n u some fits is)))

pub pieces_back : (us : List Stamped) (n : ℕ) (u : Stamped) (start old : List ℕ) (pieces more : List (Vec ℕ Global)) (piece : Vec ℕ Global)
    → 0 < n → n ≤ length us → u ≡ get_or us (n - 1) u → old ≡ before (drop n us) start → piece.items ≡ bytes_in u.change u.length old
    → items_of pieces ≡ reverse (all_written (drop n us) start) → more ≡ pieces ++ piece ∷ [] → items_of more ≡ reverse (all_written (drop (n - 1) us) start)
pieces_back us n u start old pieces more piece some fits is stood wrote there pushed =
    let rest = drop n us in
    let mine : piece.items ≡ written u rest start = wrote ∙ ap (bytes_in u.change u.length) stood in
    ap items_of pushed
    ∙ (items_more pieces piece
    ∙ (both there (ap (λ (b : List ℕ). b ∷ []) mine)
    ∙ (sym (last_first (written u rest start) (all_written rest start))
    ∙ ap (λ (vs : List Stamped). reverse (all_written vs start)) (sym (one_back us n u some fits is)))))

-- The changes are made again.

-- the last byte string is that of the next change
pub next_piece : (us : List Stamped) (i : ℕ) (u : Stamped) (start : List ℕ) (pieces rest : List (Vec ℕ Global)) (piece : Vec ℕ Global) → i < length us → u ≡ get_or us i u
    → items_of pieces ≡ reverse (all_written (drop i us) start) → pieces ≡ rest ++ piece ∷ []
    → (items_of rest ≡ reverse (all_written (drop (i + 1) us) start)) × (piece.items ≡ written u (drop (i + 1) us) start)
next_piece us i u start pieces rest piece below is there popped =
    let later : List Stamped = drop (i + 1) us in
    same_from_push (items_of rest) (reverse (all_written later start)) piece.items (written u later start)
    (sym (items_more rest piece) ∙ (ap items_of (sym popped)
    ∙ (there ∙ (ap (λ (vs : List Stamped). reverse (all_written vs start)) (next_item us i u below is)
    ∙ last_first (written u later start) (all_written later start)))))

-- the next change, and those behind it, end below the limit
pub next_ends : (us : List Stamped) (i : ℕ) (u : Stamped) (start : List ℕ) → i < length us → u ≡ get_or us i u
    → All (λ c. end_of c < file_limit) (changes_in (made_in (drop i us) start))
    → (end_of (change_of u.change (written u (drop (i + 1) us) start)) < file_limit) × All (λ c. end_of c < file_limit) (changes_in (made_in (drop (i + 1) us) start))
next_ends us i u start below is ends =
    let later : List Stamped = drop (i + 1) us in
    let landed : disk.Change = change_of u.change (written u later start) in
    let asked : disk.Change = with_rest landed (rest_of u.change) in
    let P : disk.Change → Type 0 = λ c. end_of c < file_limit in
    let all = subst (λ (vs : List Stamped). All P (changes_in (made_in vs start))) (next_item us i u below is) ends in (
      front_short landed (rest_of u.change) (All-head P asked (changes_in (made_in later start)) all),
      All-tail P asked (changes_in (made_in later start)) all,
    )

-- what is left once the next change is made
pub next_left : (what : Remainder) (place : ℕ → ℕ) (us : List Stamped) (i : ℕ) (u : Stamped) (start old new : List ℕ) (at : ℕ) → i < length us → u ≡ get_or us i u → at ≡ place u.stamp
    → new ≡ left_by what at (change_of u.change (written u (drop (i + 1) us) start)) old
    → left_own what place (made_in (drop (i + 1) us) start) new ≡ left_own what place (made_in (drop i us) start) old
next_left what place us i u start old new at below is found made =
    let later : List Stamped = drop (i + 1) us in
    ap (left_own what place (made_in later start)) (made ∙ ap (λ (n : ℕ). left_by what n (change_of u.change (written u later start)) old) found)
    ∙ sym (ap (λ (vs : List Stamped). left_own what place (made_in vs start) old) (next_item us i u below is))

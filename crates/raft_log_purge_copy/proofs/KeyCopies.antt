-- Copies of a group's values: what they say, and what shows once the tables took them.
use Rattle.std.proofs.Common.{◌≡◌, ℕ, ◌==◌, ◌&&◌, ◌||◌, Bool, true, false, not, if◌then◌else◌, List, [], ◌∷◌, map, Option, Some, None, is_some, bytes_eq, nat_le, refl, sym, ap, subst, ◌∙◌, Less}
use Rattle.std.specs.List.{AllByRecursion}
use Rattle.std.specs.Map.{keys_of, lookup}
use Rattle.std.specs.Cmp.Lexicographic.{slice_cmp}
use Rattle.std.specs.Ordering.{is_eq, nat_cmp}
use Rattle.std.specs.List.Sorted.{IsStrictlySortedBy}
use Rattle.std.proofs.lemmas.Map.Keys.{sorted_head, sorted_tail}
use Rattle.std.proofs.lemmas.Map.Text.{is_eq-slice_cmp}
use Rattle.std.proofs.lemmas.Slice.Eq.{bytes_eq-Decides}
use Rattle.std.proofs.lemmas.Bool.{false≢true}
use std.Path.{fun_ext}
use Rattle.raft_log_model_laws.specs.Item.{Item, Tagged}
use Rattle.raft_log_model_laws.specs.Item.Item.{Put}
use Rattle.raft_log_model_laws.specs.Groups.{of_group}
use Rattle.raft_log_model_laws.proofs.Public.{at_bool, if_false, if_true}
use Rattle.raft_log_machine_laws.proofs.Public.{no_word}
use Rattle.raft_log_record_base.specs.declared.pipe_log.FileBlockHandle.{FileBlockHandle}
use Rattle.raft_log_record_items.specs.declared.item.LogItem.{LogItem}
use Rattle.raft_log_record_items.specs.Items.{put_item}
use Rattle.raft_log_record_items.specs.Placed.{written, written_item}
use Rattle.raft_log_record_frames.specs.Marking.{has_mark_key}
use Rattle.raft_log_record_frames.specs.Meaning.{tagged, tagged_items, unless_mark}
use Rattle.raft_log_extents.specs.declared.place.Place.{Place}
use Rattle.raft_log_extents.specs.Entries.{place_of}
use Rattle.raft_log_memtable_index.specs.Shown.{KeyValue, Shown, with_held}
use Rattle.raft_log_memtable_index.specs.Bridge.{Located}
use Rattle.raft_log_memtable_index.specs.Listing.{ListsAll, appended_values, asked_bytes, is_asked}
use Rattle.raft_log_engine_laws.specs.raft_log_memtable.specs.Moves.{key_rewritten, may_move, rewritten_to}
use Rattle.raft_log_memtables.specs.Rewriting.{AreCopies, all_rewritten}
use Rattle.raft_log_purge_copy.specs.Moving.{copied_value, with_copied_values}

-- What the copies say.

abbrev pub put_of_pair : List ℕ × List ℕ → Item Place (List ℕ)
put_of_pair e = Put e.0 e.1

abbrev pub tagged_pair : ℕ → List ℕ × List ℕ → Tagged Place (List ℕ)
tagged_pair g e = record { group = g; item = Put e.0 e.1 }

abbrev pub AllCount : List LogItem → Type 0
AllCount [] = Unit {0}
AllCount (x ∷ xs) = (has_mark_key x ≡ false) × AllCount xs

still_counts : (g : ℕ) (k w : List ℕ) (block : FileBlockHandle) → has_mark_key (put_item g k w) ≡ false → has_mark_key (written_item block (put_item g k w)) ≡ false
unfolding has_mark_key
still_counts g k w block h = h

pub pairs_there : (g : ℕ) (block : FileBlockHandle) (es : List (List ℕ × List ℕ)) → AllCount (map (λ e. put_item g e.0 e.1) es)
    → tagged_items place_of (written block (map (λ e. put_item g e.0 e.1) es)) ≡ map (tagged_pair g) es
pairs_there g block [] all = refl
pairs_there g block (e ∷ es) all =
    ap
    (λ (b : Bool). unless_mark b (tagged place_of (written_item block (put_item g e.0 e.1))) (tagged_items place_of (written block (map (λ x. put_item g x.0 x.1) es))))
    (still_counts g e.0 e.1 block all.0)
    ∙ ap (λ (l : List (Tagged Place (List ℕ))). tagged_pair g e ∷ l) (pairs_there g block es all.1)

-- of each group
pub pairs_of_group : (g h : ℕ) (es : List (List ℕ × List ℕ)) (b : Bool) → (g == h) ≡ b → of_group h (map (tagged_pair g) es) ≡ (if b then map put_of_pair es else [])
pairs_of_group g h [] true is = refl
pairs_of_group g h [] false is = refl
pairs_of_group g h (e ∷ es) true is =
    if_true (g == h) (Put e.0 e.1 ∷ of_group h (map (tagged_pair g) es)) (of_group h (map (tagged_pair g) es)) is ∙ ap (λ (l : List (Item Place (List ℕ))). Put e.0 e.1 ∷ l) (pairs_of_group g h es true is)
pairs_of_group g h (e ∷ es) false is =
    if_false (g == h) (Put e.0 e.1 ∷ of_group h (map (tagged_pair g) es)) (of_group h (map (tagged_pair g) es)) is ∙ pairs_of_group g h es false is

-- What shows.

same_bytes : (j k : List ℕ) → bytes_eq j k ≡ true → j ≡ k
same_bytes j k h = (bytes_eq-Decides j k).0 h

other_way : (j k : List ℕ) → bytes_eq j k ≡ false → bytes_eq k j ≡ false
other_way j k h = at_bool (bytes_eq k j) (λ b. bytes_eq k j ≡ b → b ≡ false) (λ _ e. absurd (false≢true (sym h ∙ (bytes_eq-Decides j k).1 (sym (same_bytes k j e))))) (λ _ _. refl) refl

to_itself : (k : List ℕ) → bytes_eq k k ≡ true
to_itself k = (bytes_eq-Decides k k).1 refl

-- what moved stays where it is
moved_twice : (gate : Option ℕ) (n : ℕ) (o : Option KeyValue) → rewritten_to gate n (rewritten_to gate n o) ≡ rewritten_to gate n o
moved_twice gate n None = refl
moved_twice gate n (Some h) =
    at_bool (may_move gate h)
    (λ b. may_move gate h ≡ b → rewritten_to gate n (if b then Some (record { bytes = h.bytes; appended = false; file = n }) else Some h)
    ≡ (if b then Some (record { bytes = h.bytes; appended = false; file = n }) else Some h))
    (λ _ _. if_true (may_move gate (record { bytes = h.bytes; appended = false; file = n })) (Some (record { bytes = h.bytes; appended = false; file = n })) _ (rewritten_moves gate h.bytes))
    (λ _ is. if_false (may_move gate h) (Some (record { bytes = h.bytes; appended = false; file = n })) (Some h) is) refl
  where
    rewritten_moves : (g : Option ℕ) (bytes : List ℕ) → may_move g (record { bytes = bytes; appended = false; file = n }) ≡ true
    rewritten_moves None bytes = refl
    rewritten_moves (Some g) bytes = refl

-- the values after the keys were written
abbrev pub after : Option ℕ → ℕ → (List ℕ → Option KeyValue) → List (List ℕ × List ℕ) → List ℕ → Option KeyValue
after gate n held [] = held
after gate n held (e ∷ es) = after gate n (with_held held e.0 (rewritten_to gate n (held e.0))) es

pub shown_after : (gate : Option ℕ) (n : ℕ) (v : Shown) (es : List (List ℕ × List ℕ)) → all_rewritten gate n v (map put_of_pair es) ≡ record v { held = after gate n v.held es }
shown_after gate n v [] = refl
shown_after gate n v (e ∷ es) = shown_after gate n (key_rewritten gate v e.0 n) es

pub each_after : (gate : Option ℕ) (n : ℕ) (held : List ℕ → Option KeyValue) (es : List (List ℕ × List ℕ)) (k : List ℕ)
    → after gate n held es k ≡ (if is_some (lookup (bytes_eq k) es) then rewritten_to gate n (held k) else held k)
each_after gate n held [] k = refl
each_after gate n held (e ∷ es) k =
    each_after gate n (with_held held e.0 (rewritten_to gate n (held e.0))) es k
    ∙ at_bool (bytes_eq k e.0)
    (λ b. bytes_eq k e.0 ≡ b → (if is_some (lookup (bytes_eq k) es) then rewritten_to gate n (with_held held e.0 (rewritten_to gate n (held e.0)) k) else with_held held e.0 (rewritten_to gate n (held e.0)) k)
    ≡ (if is_some (if b then Some e.1 else lookup (bytes_eq k) es) then rewritten_to gate n (held k) else held k))
    (λ _ is.
    let same = same_bytes k e.0 is in
    let here : with_held held e.0 (rewritten_to gate n (held e.0)) k ≡ rewritten_to gate n (held k) =
    if_true (bytes_eq e.0 k) (rewritten_to gate n (held e.0)) (held k) (subst (λ (j : List ℕ). bytes_eq j k ≡ true) same (to_itself k)) ∙ ap (λ (j : List ℕ). rewritten_to gate n (held j)) (sym same) in
    ap (λ (o : Option KeyValue). if is_some (lookup (bytes_eq k) es) then rewritten_to gate n o else o) here ∙ either (is_some (lookup (bytes_eq k) es)) (held k))
    (λ _ is.
    ap (λ (o : Option KeyValue). if is_some (lookup (bytes_eq k) es) then rewritten_to gate n o else o) (if_false (bytes_eq e.0 k) (rewritten_to gate n (held e.0)) (held k) (other_way k e.0 is))) refl
  where
    either : (b : Bool) (o : Option KeyValue) → (if b then rewritten_to gate n (rewritten_to gate n o) else rewritten_to gate n o) ≡ rewritten_to gate n o
    either true o = moved_twice gate n o
    either false o = refl

-- a value that is asked for moves
asked_moves : (gate n : ℕ) (o : Option KeyValue) → (if is_some (asked_bytes (Some gate) o) then rewritten_to (Some gate) n o else o) ≡ copied_value gate n o
asked_moves gate n None = refl
asked_moves gate n (Some h) =
    at_bool (is_asked (Some gate) h)
    (λ b. is_asked (Some gate) h ≡ b → (if is_some (if b then Some h.bytes else None) then rewritten_to (Some gate) n (Some h) else Some h)
    ≡ (if b then Some (record { bytes = h.bytes; appended = false; file = n }) else Some h))
    (λ _ is. if_true (may_move (Some gate) h) (Some (record { bytes = h.bytes; appended = false; file = n })) (Some h) (may h.appended (nat_le h.file gate) is)) (λ _ _. refl) refl
  where
    may : (a b : Bool) → (a && b) ≡ true → (not a || b) ≡ true
    may true true is = refl
    may true false is = is
    may false b is = refl

-- once all values up to the gate were written
pub values_moved : (gate n : ℕ) (v : Shown) (es : List (List ℕ × List ℕ)) → ListsAll (appended_values gate v) es → all_rewritten (Some gate) n v (map put_of_pair es) ≡ with_copied_values gate n v
values_moved gate n v es lists =
    shown_after (Some gate) n v es
    ∙ ap (λ (f : List ℕ → Option KeyValue). record v { held = f })
    (fun_ext (λ k. each_after (Some gate) n v.held es k ∙ ap (λ (o : Option (List ℕ)). if is_some o then rewritten_to (Some gate) n (v.held k) else v.held k) (lists.exact k) ∙ asked_moves gate n (v.held k)))

-- where there are none, none moves
pub no_values : (gate n : ℕ) (v : Shown) → ListsAll (appended_values gate v) [] → with_copied_values gate n v ≡ v
no_values gate n v lists = sym (values_moved gate n v [] lists)

-- That they are copies.

none_of : (k : List ℕ) (es : List (List ℕ × List ℕ)) → AllByRecursion (λ y. slice_cmp nat_cmp k y ≡ Less) (keys_of es) → lookup (bytes_eq k) es ≡ None
none_of k [] all = refl
none_of k (e ∷ es) all = if_false (bytes_eq k e.0) (Some e.1) (lookup (bytes_eq k) es) (sym (is_eq-slice_cmp k e.0) ∙ ap is_eq all.0) ∙ none_of k es all.1

-- each pair is one that the function has
abbrev pub EachOf : (List ℕ → Option (List ℕ)) → List (List ℕ × List ℕ) → Type 0
EachOf f [] = Unit {0}
EachOf f (e ∷ es) = (f e.0 ≡ Some e.1) × EachOf f es

abbrev but : List ℕ → (List ℕ → Option (List ℕ)) → List ℕ → Option (List ℕ)
but j f k = if bytes_eq k j then None else f k

with_that : (j : List ℕ) (f : List ℕ → Option (List ℕ)) (es : List (List ℕ × List ℕ)) → EachOf (but j f) es → EachOf f es
with_that j f [] all = tt
with_that j f (e ∷ es) all =
    (at_bool (bytes_eq e.0 j) (λ b. (if b then None else f e.0) ≡ Some e.1 → f e.0 ≡ Some e.1) (λ _ h. no_word e.1 h) (λ _ h. h) all.0, with_that j f es all.1)

pub each_listed : (f : List ℕ → Option (List ℕ)) (es : List (List ℕ × List ℕ)) → IsStrictlySortedBy (slice_cmp nat_cmp) (keys_of es) → ((k : List ℕ) → lookup (bytes_eq k) es ≡ f k) → EachOf f es
each_listed f [] rising exact = tt
each_listed f (e ∷ es) rising exact = (
  sym (exact e.0) ∙ if_true (bytes_eq e.0 e.0) (Some e.1) (lookup (bytes_eq e.0) es) (to_itself e.0),
  with_that e.0 f es
      (each_listed (but e.0 f) es (sorted_tail (slice_cmp nat_cmp) e.0 (keys_of es) rising)
      (λ k. at_bool (bytes_eq k e.0) (λ b. bytes_eq k e.0 ≡ b → (if b then Some e.1 else lookup (bytes_eq k) es) ≡ f k → lookup (bytes_eq k) es ≡ (if b then None else f k))
      (λ _ is h. subst (λ (j : List ℕ). lookup (bytes_eq j) es ≡ None) (sym (same_bytes k e.0 is)) (none_of e.0 es (sorted_head (slice_cmp nat_cmp) e.0 (keys_of es) rising))) (λ _ is h. h) refl (exact k))),
)

-- the keys are held with these values, which may move
abbrev CanMoveAll : Option ℕ → (List ℕ → Option KeyValue) → List (List ℕ × List ℕ) → Type 0
CanMoveAll gate held [] = Unit {0}
CanMoveAll gate held (e ∷ es) = ((h : KeyValue) × (held e.0 ≡ Some h) × (e.1 ≡ h.bytes) × (may_move gate h ≡ true)) × CanMoveAll gate held es

asked_can : (gate : ℕ) (o : Option KeyValue) (w : List ℕ) → asked_bytes (Some gate) o ≡ Some w → (h : KeyValue) × (o ≡ Some h) × (w ≡ h.bytes) × (may_move (Some gate) h ≡ true)
asked_can gate None w h = no_word w h
asked_can gate (Some x) w h = (
  x,
  refl,
  at_bool (is_asked (Some gate) x) (λ b. (if b then Some x.bytes else None) ≡ Some w → w ≡ x.bytes) (λ _ e. let same : w ≡ x.bytes = cc in same) (λ _ e. no_word w e) h,
  may x.appended (nat_le x.file gate) (at_bool (is_asked (Some gate) x) (λ b. (if b then Some x.bytes else None) ≡ Some w → b ≡ true) (λ _ _. refl) (λ _ e. no_word w e) h),
)
  where
    may : (a b : Bool) → (a && b) ≡ true → (not a || b) ≡ true
    may true true is = refl
    may true false is = is
    may false b is = refl

all_can : (gate : ℕ) (v : Shown) (es : List (List ℕ × List ℕ)) → EachOf (appended_values gate v) es → CanMoveAll (Some gate) v.held es
all_can gate v [] all = tt
all_can gate v (e ∷ es) all = (asked_can gate (v.held e.0) e.1 all.0, all_can gate v es all.1)

moved_can : (gate : Option ℕ) (n : ℕ) (held : List ℕ → Option KeyValue) (j : List ℕ) (es : List (List ℕ × List ℕ)) → CanMoveAll gate held es → CanMoveAll gate (with_held held j (rewritten_to gate n (held j))) es
moved_can gate n held j [] all = tt
moved_can gate n held j (e ∷ es) ((h, is, bytes, may), rest) = (
  at_bool (bytes_eq j e.0)
      (λ b. bytes_eq j e.0 ≡ b → (x : KeyValue) × ((if b then rewritten_to gate n (held j) else held e.0) ≡ Some x) × (e.1 ≡ x.bytes) × (may_move gate x ≡ true))
      (λ _ same.
      let there : held j ≡ Some h = ap held (same_bytes j e.0 same) ∙ is in (
        record { bytes = h.bytes; appended = false; file = n },
        ap (rewritten_to gate n) there ∙ if_true (may_move gate h) (Some (record { bytes = h.bytes; appended = false; file = n })) (Some h) may,
        bytes,
        rewritten_moves gate h.bytes,
      ))
      (λ _ _. (h, is, bytes, may)) refl,
  moved_can gate n held j es rest,
)
  where
    rewritten_moves : (g : Option ℕ) (b : List ℕ) → may_move g (record { bytes = b; appended = false; file = n }) ≡ true
    rewritten_moves None b = refl
    rewritten_moves (Some g) b = refl

all_copies : {E : Type 0} (at : Located → E) (gate : Option ℕ) (n : ℕ) (v : Shown) (es : List (List ℕ × List ℕ)) → v.cleaned ≡ false → ((k : List ℕ) → v.deleted k ≡ false) → CanMoveAll gate v.held es
    → AreCopies at gate n v (map put_of_pair es)
all_copies at gate n v [] clean whole all = tt
all_copies at gate n v (e ∷ es) clean whole all = (
  (all.0.0, all.0.1, all.0.2, all.0.3, λ _. (clean, whole e.0)),
  all_copies at gate n (key_rewritten gate v e.0 n) es clean whole (moved_can gate n v.held e.0 es all.1),
)

pub values_are_copies : {E : Type 0} (at : Located → E) (gate n : ℕ) (v : Shown) (es : List (List ℕ × List ℕ)) → v.cleaned ≡ false → ((k : List ℕ) → v.deleted k ≡ false)
    → ListsAll (appended_values gate v) es → AreCopies at (Some gate) n v (map put_of_pair es)
values_are_copies at gate n v es clean whole lists = all_copies at (Some gate) n v es clean whole (all_can gate v es (each_listed (appended_values gate v) es lists.rising lists.exact))

-- The count of unsynced bytes is handed on from record to record, and each has one piece.
use Rattle.std.proofs.Common.{◌≡◌, ◌+◌, ◌-◌, ◌<◌, ◌≤◌, ℕ, zero, suc, max, Bool, List, [], ◌∷◌, ◌++◌, length, map, take, drop, nat_le, if◌then◌else◌, slice_index_or, sum_by, inl, inr, refl, sym, ap, subst, ◌∙◌, arith, append-nil}
use Rattle.std.specs.Prelude.{Err, Ok, OnOk, Result}
use Rattle.std.specs.List.{flat_map}
use Rattle.std.proofs.lemmas.List.{at_drop_more, length-take}
use Rattle.std.proofs.lemmas.List.Concat.{flat_map-append}
use Rattle.std.proofs.lemmas.List.Sums.{sum_by-cons}
use Rattle.raft_log_model_laws.proofs.Public.{at_bool, if_false, if_true, le_false, le_true}
use Rattle.raft_log_record_items.specs.declared.entry.EntryIndex.{EntryIndex}
use Rattle.raft_log_record_items.specs.declared.item.LogItem.{LogItem}
use Rattle.raft_log_record_items.specs.Items.{put_item}
use Rattle.raft_log_record_frames.specs.ItemBatch.{all_entries, content_entries}
use Rattle.raft_log_record_frames.specs.declared.status.AtomicGroupStatus.{AtomicGroupStatus}
use Rattle.raft_log_record_frames.specs.Marking.{mark_item}
use Rattle.raft_log_record_batches.specs.Batch.{Batch}
use Rattle.raft_log_record_batches.specs.Places.{bytes_in, bytes_of_each, entry_bytes}
use Rattle.raft_log_dual_pipes.specs.Pipes.{LogPipes}
use Rattle.raft_log_block_cache.specs.declared.block_cache.BlockCache.{BlockCache}
use Rattle.raft_log_purge_copy.specs.Entries.{max_piece}
use Rattle.raft_log_purge_copy.specs.Keys.{IsKeysBatch}
use Rattle.raft_log_purge_copy.specs.Lengths.{AreOnePiece, HasOnePiece}
use Rattle.raft_log_purge_copy.specs.Pieces.{BuildsPiece, MakeOnePiece, fitting, piece_count}
use Rattle.raft_log_purge_copy.specs.Syncing.{CountsCopies, HandsCountOn, WritesInTurn, WritesOne}
use Rattle.raft_log_purge_copy.proofs.Reading.{read_piece}

-- Records.

-- no record was written
pub none_handed : (n : ℕ) (v : LogPipes) → HandsCountOn n n v v
none_handed n v = ([], (refl, refl))

-- one was
pub one_handed : (b : Batch) (old new : ℕ) (v w : LogPipes) → HasOnePiece b → WritesOne b old new v w → HandsCountOn old new v w
one_handed b old new v w piece one = (b ∷ [], (piece, new, w, one, (refl, refl)))

-- that of copies was, if there are any
pub copies_handed : (b : Batch) (old new : ℕ) (v w : LogPipes) → HasOnePiece b → CountsCopies b old new v w → HandsCountOn old new v w
copies_handed b old new v w piece (inl p) = ([], (p.1, p.2))
copies_handed b old new v w piece (inr p) = one_handed b old new v w piece p.1

-- records, and then others behind them
in_turn : (bs cs : List Batch) (old mid new : ℕ) (v x w : LogPipes) → WritesInTurn bs old mid v x → WritesInTurn cs mid new x w → WritesInTurn (bs ++ cs) old new v w
in_turn [] cs old mid new v x w first behind =
    subst (λ (n : ℕ). WritesInTurn cs n new v w) first.0 (subst (λ (y : LogPipes). WritesInTurn cs mid new y w) first.1 behind)
in_turn (b ∷ bs) cs old mid new v x w first behind = (first.0, first.1, first.2, first.3, in_turn bs cs first.1 mid new first.2 x w first.4 behind)

pub handed_on : (old mid new : ℕ) (v x w : LogPipes) → HandsCountOn old mid v x → HandsCountOn mid new x w → HandsCountOn old new v w
handed_on old mid new v x w first behind = (first.0 ++ behind.0, in_turn first.0 behind.0 old mid new v x w first.1 behind.1)

-- the last of them was written, if it was
pub last_handed : {A E : Type 0} (b : Batch) (old mid new : ℕ) (v x w : LogPipes) (r : Result A E) → HasOnePiece b → HandsCountOn old mid v x → OnOk r (WritesOne b mid new x w) → OnOk r (HandsCountOn old new v w)
last_handed b old mid new v x w (Ok y) piece first behind = handed_on old mid new v x w first (one_handed b mid new x w piece behind)
last_handed b old mid new v x w (Err e) piece first behind = tt

pub one_handed_then : {A E : Type 0} (b : Batch) (old new : ℕ) (v w : LogPipes) (r : Result A E) → HasOnePiece b → OnOk r (WritesOne b old new v w) → OnOk r (HandsCountOn old new v w)
one_handed_then b old new v w (Ok y) piece one = one_handed b old new v w piece one
one_handed_then b old new v w (Err e) piece one = tt

-- Their entries.

-- items without entries add none
none_more : (items more : List LogItem) (block : List ℕ) → all_entries more ≡ [] → bytes_of_each (items ++ more) block ≡ bytes_of_each items block
none_more items more block none =
    ap (map (entry_bytes block)) (flat_map-append (λ (x : LogItem). content_entries x.content) items more ∙ ap (λ (l : List EntryIndex). all_entries items ++ l) none ∙ append-nil (all_entries items))

-- keys with their values have none
puts_have_none : (g : ℕ) (pairs : List (List ℕ × List ℕ)) → all_entries (map (λ e. put_item g e.0 e.1) pairs) ≡ []
puts_have_none g [] = refl
puts_have_none g (x ∷ xs) = puts_have_none g xs

pub keys_have_piece : (g : ℕ) (pairs : List (List ℕ × List ℕ)) (b : Batch) → IsKeysBatch g pairs b → HasOnePiece b
keys_have_piece g pairs b is =
    subst AreOnePiece (sym (ap (λ (l : List LogItem). bytes_of_each l b.entries) is.items ∙ ap (map (entry_bytes b.entries)) (puts_have_none g pairs))) (inl (let none : 0 ≤ 1 = omega arith in none))

-- entries that make one record, with keys behind them
pub built_has_piece : (g : ℕ) (es : List EntryIndex) (pairs : List (List ℕ × List ℕ)) (v : LogPipes) (old new : BlockCache) (b : Batch) → BuildsPiece g es pairs v old new b → MakeOnePiece es → HasOnePiece b
built_has_piece g es pairs v old new b built one =
    let puts : List LogItem = map (λ (e : List ℕ × List ℕ). put_item g e.0 e.1) pairs in
    let here : bytes_in b ≡ bytes_of_each (built.run.items ++ puts) built.run.entries =
    ap (λ (l : List LogItem). bytes_of_each l b.entries) built.keys.items ∙ ap (bytes_of_each (built.run.items ++ puts)) built.keys.entries in
    subst AreOnePiece (sym (here ∙ none_more built.run.items puts built.run.entries (puts_have_none g pairs) ∙ built.is.says)) (read_piece v es old new built.read one built.reads)

-- and with a mark
pub marked_has_piece : (b made : Batch) (number : ℕ) (status : AtomicGroupStatus) → made.items ≡ b.items ++ mark_item number status ∷ [] → made.entries ≡ b.entries → HasOnePiece b → HasOnePiece made
marked_has_piece b made number status items entries piece =
    let mark : List LogItem = mark_item number status ∷ [] in
    let here : bytes_in made ≡ bytes_of_each (b.items ++ mark) b.entries =
    ap (λ (l : List LogItem). bytes_of_each l made.entries) items ∙ ap (bytes_of_each (b.items ++ mark)) entries in
    subst AreOnePiece (sym (here ∙ none_more b.items mark b.entries refl)) piece

-- How many make one.

fits_sum : (left : ℕ) (es : List EntryIndex) → sum_by (λ e. e.entry_len) (take (fitting left es) es) ≤ left
fits_sum left [] = omega arith
fits_sum left (e ∷ es) =
    at_bool (nat_le e.entry_len left) (λ b. nat_le e.entry_len left ≡ b → sum_by (λ q. q.entry_len) (take (if b then suc (fitting (left - e.entry_len) es) else 0) (e ∷ es)) ≤ left)
    (λ _ is.
    let low : e.entry_len ≤ left = grind (arith, is) in
    let rest = fits_sum (left - e.entry_len) es in
    let sum = sum_by-cons (λ (q : EntryIndex). q.entry_len) e (take (fitting (left - e.entry_len) es) es) in omega (arith, low, rest, sum))
    (λ _ is. omega arith) refl

at_least_one : (n : ℕ) (e : EntryIndex) (es : List EntryIndex) → sum_by (λ e. e.entry_len) (take n (e ∷ es)) ≤ max_piece → MakeOnePiece (take (max 1 n) (e ∷ es))
at_least_one zero e es small = inl (let cut = length-take 1 (e ∷ es) in omega (arith, cut))
at_least_one (suc n) e es small = inr (subst (λ k. sum_by (λ (q : EntryIndex). q.entry_len) (take k (e ∷ es)) ≤ max_piece) (let same : suc n ≡ max 1 (suc n) = omega arith in same) small)

pub count_makes_piece : (es : List EntryIndex) → MakeOnePiece (take (piece_count es) es)
count_makes_piece [] = inl (omega arith)
count_makes_piece (e ∷ es) = at_least_one (fitting max_piece (e ∷ es)) e es (fits_sum max_piece (e ∷ es))

pub piece_of_count : (count : ℕ) (es : List EntryIndex) → count ≡ piece_count es → MakeOnePiece (take count es)
piece_of_count count es is = subst (λ n. MakeOnePiece (take n es)) (sym is) (count_makes_piece es)

-- one more fits
pub fits_more : (left i : ℕ) (es : List EntryIndex) (d : EntryIndex) → i < length es → (slice_index_or es i d).entry_len ≤ left → fitting left (drop i es) ≡ suc (fitting (left - (slice_index_or es i d).entry_len) (drop (i + 1) es))
fits_more left i es d less low =
    let e : EntryIndex = slice_index_or es i d in
    at_drop_more (fitting left) es i d less ∙ if_true (nat_le e.entry_len left) (suc (fitting (left - e.entry_len) (drop (i + 1) es))) 0 (le_true e.entry_len left low)

-- no more does
pub fits_no_more : (left i : ℕ) (es : List EntryIndex) (d : EntryIndex) → i < length es → left < (slice_index_or es i d).entry_len → fitting left (drop i es) ≡ 0
fits_no_more left i es d less high =
    let e : EntryIndex = slice_index_or es i d in
    at_drop_more (fitting left) es i d less ∙ if_false (nat_le e.entry_len left) (suc (fitting (left - e.entry_len) (drop (i + 1) es))) 0 (le_false e.entry_len left high)

pub count_of_part : (es : List EntryIndex) (i : ℕ) → i < length es → fitting max_piece es ≡ i → max 1 i ≡ piece_count es
count_of_part [] i less is = omega (arith, less)
count_of_part (e ∷ es) i less is = ap (max 1) (sym is)

pub count_of_whole : (es : List EntryIndex) (i : ℕ) → i ≡ length es → fitting max_piece es ≡ i → i ≡ piece_count es
count_of_whole [] i all is = all
count_of_whole (e ∷ es) i all is = (let some : max 1 i ≡ i = omega (arith, all) in sym some ∙ ap (max 1) (sym is))

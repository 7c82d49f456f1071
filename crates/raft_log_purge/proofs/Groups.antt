-- No record of what a modest group has is too long.
use Rattle.std.proofs.Common.{◌≡◌, ◌∙◌, ℕ, ◌+◌, ◌-◌, ◌≤◌, ◌^◌, List, [], ◌∷◌, ◌++◌, length, append-nil, map, inl, inr, refl, sym, ap, subst, arith}
use Rattle.std.proofs.lemmas.List.Sums.{sum_by-cons}
use Rattle.raft_log_record_base.specs.Number.{u64_bytes}
use Rattle.raft_log_record_items.specs.declared.item.LogItem.{LogItem}
use Rattle.raft_log_record_items.specs.Items.{put_item}
use Rattle.raft_log_record_frames.specs.Marking.{mark_key, mark_value}
use Rattle.raft_log_record_batches.specs.Batch.{max_entries_len}
use Rattle.raft_log_record_batches.specs.Entries.{bytes_len, entries_items, joined}
use Rattle.raft_log_record_batches.proofs.Public.{joined-length, no_record_is_longer, record_bound-append, record_bound-entries}
use Rattle.raft_log_record_batches.specs.Bounds.{key_value_len, record_bound}
use Rattle.raft_log_engine_laws.specs.EngineState.{LogMap}
use Rattle.raft_log_purge_copy.specs.Entries.{AreEntryBytes}
use Rattle.raft_log_purge_copy.specs.Lengths.{AreOnePiece, IsOneMark}
use Rattle.raft_log_purge.specs.Lengths.{AreModest, pairs_bound}
use Rattle.raft_log_purge.specs.Laws.{ModestLogsMakeRecords}

-- Entries.

-- those that stand one behind another end where the last may stand
entries_few : (m : LogMap) → AreModest m → (g i : ℕ) (bytes : List (List ℕ)) → AreEntryBytes m g i bytes → length bytes ≤ 2 ^ 52 - i
entries_few m modest g i [] run = omega arith
entries_few m modest g i (x ∷ xs) (here, rest) =
    let low = (modest.entries g i x here).0 in
    omega (arith, low, entries_few m modest g (i + 1) xs rest)

-- a single one has no more bytes than a batch may have
single_small : (m : LogMap) → AreModest m → (g i : ℕ) (bytes : List (List ℕ)) → AreEntryBytes m g i bytes → length bytes ≤ 1 → bytes_len bytes ≤ max_entries_len
single_small m modest g i [] run few = omega arith
single_small m modest g i (x ∷ []) (here, rest) few =
    omega (arith, (modest.entries g i x here).1, sum_by-cons (λ (t : List ℕ). length t) x [])
single_small m modest g i (x ∷ y ∷ ys) run few = absurd (omega (arith, few))

-- those of one record have no more
piece_small : (m : LogMap) → AreModest m → (g i : ℕ) (bytes : List (List ℕ)) → AreEntryBytes m g i bytes → AreOnePiece bytes → bytes_len bytes ≤ max_entries_len
piece_small m modest g i bytes run (inl few) = single_small m modest g i bytes run few
piece_small m modest g i bytes run (inr small) = omega (arith, small)

-- Keys and marks.

record_bound-puts : (g : ℕ) (pairs : List (List ℕ × List ℕ)) → record_bound (map (λ e. put_item g e.0 e.1) pairs) [] ≡ 34 + pairs_bound pairs
record_bound-puts g [] = omega arith
record_bound-puts g (e ∷ es) =
    let rest : List LogItem = map (λ (p : List ℕ × List ℕ). put_item g p.0 p.1) es in
    omega (
      arith,
      sum_by-cons (λ (x : LogItem). key_value_len x.content) (put_item g e.0 e.1) rest,
      sum_by-cons (λ (p : List ℕ × List ℕ). 32 + length p.0 + length p.1) e es,
      record_bound-puts g es,
    )

record_bound-mark : (mark : List LogItem) → IsOneMark mark → record_bound mark [] ≤ 78
unfolding mark_value u64_bytes
record_bound-mark mark (inl none) = subst (λ (xs : List LogItem). record_bound xs [] ≤ 78) (sym none) (omega arith)
record_bound-mark mark (inr (number, status, is)) =
    let nine : length (mark_value number status) ≡ 9 = refl in
    let three : length mark_key ≡ 3 = refl in
    let own = sum_by-cons (λ (x : LogItem). key_value_len x.content) (put_item 0 mark_key (mark_value number status)) [] in
    subst (λ (xs : List LogItem). record_bound xs [] ≤ 78) (sym is) (omega (arith, own, nine, three))

-- The record.

pub modest_logs_make_records : ModestLogsMakeRecords
modest_logs_make_records m modest (items, entries, of_map, long) =
    let run : List LogItem = entries_items of_map.group 0 of_map.made.indexes of_map.bytes in
    let puts : List LogItem = map (λ (e : List ℕ × List ℕ). put_item of_map.group e.0 e.1) of_map.pairs in
    let bytes : List ℕ = joined of_map.bytes in
    let small = piece_small m modest of_map.group of_map.first of_map.bytes of_map.run of_map.piece in
    let count = entries_few m modest of_map.group of_map.first of_map.bytes of_map.run in
    let whole : record_bound items entries ≡ record_bound ((run ++ puts) ++ of_map.mark) bytes =
    ap (λ (xs : List LogItem). record_bound xs entries) of_map.made.are ∙ ap (λ (l : List ℕ). record_bound ((run ++ puts) ++ of_map.mark) l) of_map.made.joins in
    let none = append-nil bytes in
    let two = record_bound-append run puts bytes [] in
    let three = record_bound-append (run ++ puts) of_map.mark (bytes ++ []) [] in
    let same : record_bound ((run ++ puts) ++ of_map.mark) ((bytes ++ []) ++ []) ≡ record_bound ((run ++ puts) ++ of_map.mark) bytes =
    ap (λ (l : List ℕ). record_bound ((run ++ puts) ++ of_map.mark) l) (append-nil (bytes ++ []) ∙ none) in
    let len : length entries ≡ bytes_len of_map.bytes = ap (λ (l : List ℕ). length l) of_map.made.joins ∙ joined-length of_map.bytes in
    elim long [
      | inl many ↦ omega (arith, many, len, small)
      | inr much ↦ omega (
        arith,
        much,
        no_record_is_longer items entries,
        whole,
        same,
        two,
        three,
        small,
        count,
        record_bound-entries of_map.group 0 of_map.made.indexes of_map.bytes,
        record_bound-puts of_map.group of_map.pairs,
        record_bound-mark of_map.mark of_map.one,
        modest.values of_map.group of_map.pairs of_map.values of_map.once,
      )
    ]

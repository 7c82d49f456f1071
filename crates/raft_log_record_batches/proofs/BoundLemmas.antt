-- What is added to a batch raises its bound, and below 2 ^ 56 the record is made.
use Rattle.std.proofs.Common.{◌≡◌, ℕ, suc, ◌+◌, ◌*◌, ◌≤◌, ◌++◌, ◌∙◌, List, [], ◌∷◌, length, length-append, inl, inr, refl, ap, subst, arith}
use Rattle.std.proofs.lemmas.List.Sums.{sum_by-append, sum_by-cons}
use Rattle.raft_log_record_base.specs.declared.errors.Error.{Error}
use Rattle.raft_log_record_base.specs.declared.errors.Error.TheVariants as errors
use Rattle.raft_log_record_items.specs.declared.entry.EntryIndex.{EntryIndex}
use Rattle.raft_log_record_items.specs.declared.item.LogItem.{LogItem}
use Rattle.raft_log_record_items.specs.declared.item.LogItemContent.{LogItemContent}
use Rattle.raft_log_record_items.specs.declared.item.LogItemContent.TheVariants as contents
use Rattle.raft_log_record_items.specs.Items.{del_item, put_item}
use Rattle.raft_log_record_items.specs.Placed.{content_len, laid_content, laid_out, laid_run}
use Rattle.raft_log_record_frames.specs.ItemBatch.{all_entries, command_item, content_entries}
use Rattle.raft_log_record_batches.specs.Batch.{Batch, Becomes, with_batch, with_item}
use Rattle.raft_log_record_batches.specs.Entries.{IsEntriesRefusal, bytes_len, entries_items, entries_of, joined, with_entries}
use Rattle.raft_log_record_batches.proofs.Entries.{joined-length}
use Rattle.raft_log_record_batches.specs.Bounds.{batch_bound, key_value_len, keys_values_len, record_bound}
use Rattle.raft_log_record_batches.specs.Laws.{AdditionsRaise, BoundedRecordsAreMade, EntriesThatFitAreNotFull}
use Rattle.raft_log_record_batches.proofs.Lengths.{no_record_is_longer}

-- the room of a batch doesn't count
batch_bound-becomes : (wanted new : Batch) → Becomes wanted new → batch_bound new ≡ batch_bound wanted
batch_bound-becomes wanted new becomes = ap (λ (b : Batch). batch_bound b) becomes.0

length-all_entries-append : (xs ys : List LogItem) → length (all_entries (xs ++ ys)) ≡ length (all_entries xs) + length (all_entries ys)
length-all_entries-append [] ys = omega arith
length-all_entries-append (x ∷ xs) ys =
    omega (arith, length-append (content_entries x.content) (all_entries (xs ++ ys)), length-append (content_entries x.content) (all_entries xs), length-all_entries-append xs ys)

pub record_bound-append : (xs ys : List LogItem) (a b : List ℕ) → record_bound (xs ++ ys) (a ++ b) + 34 ≡ record_bound xs a + record_bound ys b
record_bound-append xs ys a b =
    omega (arith, length-append xs ys, length-append a b, length-all_entries-append xs ys, sum_by-append (λ (x : LogItem). key_value_len x.content) xs ys)

-- one item more
record_bound-item : (xs : List LogItem) (x : LogItem) (a : List ℕ)
    → record_bound (xs ++ x ∷ []) a ≡ record_bound xs a + (32 + 10 * length (content_entries x.content) + key_value_len x.content)
record_bound-item xs x a =
    omega (
      arith,
      length-append xs (x ∷ []),
      length-all_entries-append xs (x ∷ []),
      length-append (content_entries x.content) [],
      sum_by-append (λ (y : LogItem). key_value_len y.content) xs (x ∷ []),
      sum_by-cons (λ (y : LogItem). key_value_len y.content) x [],
    )

batch_bound-item : (old new : Batch) (x : LogItem) → Becomes (with_item old x) new
    → batch_bound new ≡ batch_bound old + (32 + 10 * length (content_entries x.content) + key_value_len x.content)
batch_bound-item old new x becomes = batch_bound-becomes (with_item old x) new becomes ∙ record_bound-item old.items x old.entries

-- Entries.

length-laid_run : (offset : ℕ) (es : List EntryIndex) → length (laid_run offset es) ≡ length es
length-laid_run offset [] = refl
length-laid_run offset (e ∷ es) = ap (λ (n : ℕ). suc n) (length-laid_run (offset + e.entry_len) es)

length-entries_of : (indexes : List ℕ) (entries : List (List ℕ)) → length (entries_of indexes entries) ≤ length entries
length-entries_of [] entries = omega arith
length-entries_of (i ∷ is) [] = omega arith
length-entries_of (i ∷ is) (b ∷ bs) = omega (arith, length-entries_of is bs)

pub record_bound-entries : (g offset : ℕ) (indexes : List ℕ) (entries : List (List ℕ))
    → record_bound (entries_items g offset indexes entries) (joined entries) ≤ 66 + 10 * length entries + bytes_len entries
record_bound-entries g offset indexes [] = omega arith
record_bound-entries g offset indexes (x ∷ xs) =
    let run : List EntryIndex = laid_run offset (entries_of indexes (x ∷ xs)) in
    omega (arith, joined-length (x ∷ xs), length-append run [], length-laid_run offset (entries_of indexes (x ∷ xs)), length-entries_of indexes (x ∷ xs))

batch_bound-entries : (old new : Batch) (g : ℕ) (indexes : List ℕ) (entries : List (List ℕ)) → Becomes (with_entries old g indexes entries) new
    → batch_bound new ≤ batch_bound old + 32 + 10 * length entries + bytes_len entries
batch_bound-entries old new g indexes entries becomes =
    let items : List LogItem = entries_items g (length old.entries) indexes entries in
    omega (
      arith,
      batch_bound-becomes (with_entries old g indexes entries) new becomes,
      record_bound-append old.items items old.entries (joined entries),
      record_bound-entries g (length old.entries) indexes entries,
    )

-- Batches.

length-entries-laid_content : (offset : ℕ) (c : LogItemContent) → length (content_entries (laid_content offset c)) ≡ length (content_entries c)
length-entries-laid_content offset (contents.EntryIndexes es) = length-laid_run offset es
length-entries-laid_content offset (contents.Command c) = refl
length-entries-laid_content offset (contents.Kv kv) = refl

key_value_len-laid_content : (offset : ℕ) (c : LogItemContent) → key_value_len (laid_content offset c) ≡ key_value_len c
key_value_len-laid_content offset (contents.EntryIndexes es) = refl
key_value_len-laid_content offset (contents.Command c) = refl
key_value_len-laid_content offset (contents.Kv kv) = refl

length-laid_out : (offset : ℕ) (xs : List LogItem) → length (laid_out offset xs) ≡ length xs
length-laid_out offset [] = refl
length-laid_out offset (x ∷ xs) = ap (λ (n : ℕ). suc n) (length-laid_out (offset + content_len x.content) xs)

length-all_entries-laid_out : (offset : ℕ) (xs : List LogItem) → length (all_entries (laid_out offset xs)) ≡ length (all_entries xs)
length-all_entries-laid_out offset [] = refl
length-all_entries-laid_out offset (x ∷ xs) =
    omega (
      arith,
      length-append (content_entries (laid_content offset x.content)) (all_entries (laid_out (offset + content_len x.content) xs)),
      length-append (content_entries x.content) (all_entries xs),
      length-entries-laid_content offset x.content,
      length-all_entries-laid_out (offset + content_len x.content) xs,
    )

keys_values_len-laid_out : (offset : ℕ) (xs : List LogItem) → keys_values_len (laid_out offset xs) ≡ keys_values_len xs
keys_values_len-laid_out offset [] = refl
keys_values_len-laid_out offset (x ∷ xs) =
    let laid : LogItem = record x { content = laid_content offset x.content } in
    omega (
      arith,
      sum_by-cons (λ (y : LogItem). key_value_len y.content) laid (laid_out (offset + content_len x.content) xs),
      sum_by-cons (λ (y : LogItem). key_value_len y.content) x xs,
      key_value_len-laid_content offset x.content,
      keys_values_len-laid_out (offset + content_len x.content) xs,
    )

batch_bound-batch : (old new other : Batch) → Becomes (with_batch old other) new → batch_bound new + 34 ≡ batch_bound old + batch_bound other
batch_bound-batch old new other becomes =
    let offset : ℕ = length old.entries in
    omega (
      arith,
      batch_bound-becomes (with_batch old other) new becomes,
      record_bound-append old.items (laid_out offset other.items) old.entries other.entries,
      length-laid_out offset other.items,
      length-all_entries-laid_out offset other.items,
      keys_values_len-laid_out offset other.items,
    )

pub additions_raise : AdditionsRaise
additions_raise = record {
  nothing = λ capacity buffer. refl;
  entries = batch_bound-entries;
  command = λ old new g c h. omega (arith, batch_bound-item old new (command_item g c) h);
  put = λ old new g key value h. omega (arith, batch_bound-item old new (put_item g key value) h);
  deletion = λ old new g key h. omega (arith, batch_bound-item old new (del_item g key) h);
  batch = batch_bound-batch;
}

-- Refusals.

pub entries_that_fit_are_not_full : EntriesThatFitAreNotFull
entries_that_fit_are_not_full b indexes entries error fits refused full =
    let many : IsEntriesRefusal errors.Full (length b.entries) indexes entries =
    subst (λ (e : Error). IsEntriesRefusal e (length b.entries) indexes entries) full refused in
    omega (arith, fits, many.1)

pub bounded_records_are_made : BoundedRecordsAreMade
bounded_records_are_made b error few (inl memory) = memory
bounded_records_are_made b error few (inr full) = absurd (omega (arith, few, full.1, no_record_is_longer b.items b.entries))

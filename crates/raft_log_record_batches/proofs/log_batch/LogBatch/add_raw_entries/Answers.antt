use Rattle.std.specs.Borrow.{Bor}
use Rattle.std.proofs.Common.{vec_capacity, ◌≡◌, ◌≢◌, ℕ, ◌+◌, ◌≤◌, List, [], ◌∷◌, ◌++◌, length, take, drop, sym, ap, ◌∙◌, arith}
use Rattle.std.proofs.lemmas.Bool.{eqb-false, eqb-true}
use Rattle.std.proofs.lemmas.List.{length-map}
use Rattle.raft_log_record_items.specs.declared.entry.EntryIndex.{EntryIndex}
use Rattle.raft_log_record_items.specs.declared.item.LogItem.{LogItem}
use Rattle.raft_log_record_items.specs.declared.item.LogItemContent.TheVariants as contents
use Rattle.raft_log_record_batches.specs.Batch.{Batch, roomy, max_entries_len}
use Rattle.raft_log_record_batches.specs.Entries.{joined, slices_bytes, entries_item, bytes_len, with_entries}
use Rattle.raft_log_record_batches.proofs.Entries.{indexes_of}
use Rattle.raft_log_record_batches.proofs.Items.{pushed_items, more_room, with_none, entries_added, entries_seen}
use Rattle.raft_log_record_batches.proofs.Places.{view_laid, added_bytes}
use Rattle.raft_log_record_batches.proofs.log_batch.LogBatch.add_raw_entries.Goals as goal

pub returns-then-is_empty-clause-ok : goal.returns-then-is_empty-clause-ok
returns-then-is_empty-clause-ok c =
    let none : length c.args.entries.now ≡ 0 = eqb-true _ _ (sym c.is_empty.ensures ∙ c.if-is_empty.true) in
    (with_none c.args.self.now c.args.raft_group_id (indexes_of c.args.entry_indexes.now) (slices_bytes c.args.entries.now) (length-map c.args.entries.now (λ (s : Bor (List ℕ)). s.now) ∙ none), omega arith)

pub invariant_of-self-2 : goal.invariant_of-self-2
invariant_of-self-2 c =
    let given : List EntryIndex = c.args.entry_indexes.now in
    let indexes : List ℕ = indexes_of given in
    let entries : List (List ℕ) = slices_bytes c.args.entries.now in
    let len : ℕ = c.self.inside.entries_len in
    let added : ℕ = c.bytes_len-added.result in
    let filling = ap (λ (b : Batch). b.state) c.self.view_is ∙ c.requires in
    let same : length indexes ≡ length entries = length-map given (λ (e : EntryIndex). e.index) ∙ c.in_ok-check_run.ensures.ok ∙ sym (length-map c.args.entries.now (λ (s : Bor (List ℕ)). s.now)) in
    let count : bytes_len entries ≡ added = omega (arith, c.bytes_len-added.ensures, c.if-added-self.false, c.self.invariant.fits) in
    let fits : len + added ≤ max_entries_len = omega (arith, c.if-added-self.false, c.self.invariant.fits) in
    let bytes : c.append_entries.new.out.items ≡ roomy c.self.inside.buf.items ++ joined entries = c.in_ok-append_entries.ensures.ok ∙ ap (λ (l : List ℕ). l ++ joined entries) c.in_ok-make_room.ensures.ok in
    let item : c.new_entry_indexes.result ≡ entries_item c.args.raft_group_id len indexes entries =
    c.new_entry_indexes.ensures ∙ ap (λ (l : List EntryIndex). record { raft_group_id = c.args.raft_group_id; content = contents.EntryIndexes l }) c.in_ok-placed.ensures in
    let items : c.push_reserved.new.self.items ≡ c.self.inside.items.items ++ entries_item c.args.raft_group_id len indexes entries ∷ [] =
    pushed_items c.self.inside.items c.reserve.new.self c.push_reserved.new.self c.new_entry_indexes.result _ c.in_ok-reserve.ensures.ok.0 c.push_reserved.ensures item in
    rw items (entries_added c.self.inside.state (roomy c.self.inside.buf.items) c.append_entries.new.out.items len added c.self.inside.checksum c.args.raft_group_id c.self.inside.items.items indexes entries
    filling same count fits bytes c.self.invariant)

pub returns-clause-ok : goal.returns-clause-ok
returns-clause-ok c =
    let given : List EntryIndex = c.args.entry_indexes.now in
    let indexes : List ℕ = indexes_of given in
    let entries : List (List ℕ) = slices_bytes c.args.entries.now in
    let len : ℕ = c.self.inside.entries_len in
    let added : ℕ = c.bytes_len-added.result in
    let filling = ap (λ (b : Batch). b.state) c.self.view_is ∙ c.requires in
    let none : length c.args.entries.now ≢ 0 = eqb-false _ _ (sym c.is_empty.ensures ∙ c.if-is_empty.false) in
    let count : bytes_len entries ≡ added = omega (arith, c.bytes_len-added.ensures, c.if-added-self.false, c.self.invariant.fits) in
    let bytes : c.append_entries.new.out.items ≡ roomy c.self.inside.buf.items ++ joined entries = c.in_ok-append_entries.ensures.ok ∙ ap (λ (l : List ℕ). l ++ joined entries) c.in_ok-make_room.ensures.ok in
    let item : c.new_entry_indexes.result ≡ entries_item c.args.raft_group_id len indexes entries =
    c.new_entry_indexes.ensures ∙ ap (λ (l : List EntryIndex). record { raft_group_id = c.args.raft_group_id; content = contents.EntryIndexes l }) c.in_ok-placed.ensures in
    let items : c.push_reserved.new.self.items ≡ c.self.inside.items.items ++ entries_item c.args.raft_group_id len indexes entries ∷ [] =
    pushed_items c.self.inside.items c.reserve.new.self c.push_reserved.new.self c.new_entry_indexes.result _ c.in_ok-reserve.ensures.ok.0 c.push_reserved.ensures item in (
      ap (λ (l : List LogItem). record { state = c.self.inside.state; items = l; entries = take (len + added) (drop 16 (roomy c.append_entries.new.out.items)); capacity = c.push_reserved.new.self.capacity; buffer = vec_capacity c.append_entries.new.out }) items
          ∙ entries_seen c.self.inside.state (roomy c.self.inside.buf.items) c.append_entries.new.out.items len added c.self.inside.checksum c.args.raft_group_id c.self.inside.items.items indexes entries c.self.inside.items.capacity c.push_reserved.new.self.capacity (vec_capacity c.self.inside.buf) (vec_capacity c.append_entries.new.out)
          filling (omega (arith, none, length-map c.args.entries.now (λ (s : Bor (List ℕ)). s.now))) count bytes c.self.invariant
          ∙ ap (λ (b : Batch). record (with_entries b c.args.raft_group_id indexes entries) { capacity = c.push_reserved.new.self.capacity; buffer = vec_capacity c.append_entries.new.out }) c.self.view_is,
      more_room c.self.inside.items c.reserve.new.self c.push_reserved.new.self c.new_entry_indexes.result c.args.self.now.capacity (ap (λ (b : Batch). b.capacity) c.self.view_is) c.in_ok-reserve.ensures.ok.0 c.push_reserved.ensures,
    )

pub returns-then-is_empty-clause-bytes : goal.returns-then-is_empty-clause-bytes
returns-then-is_empty-clause-bytes c =
    let seen = view_laid c.self.inside.state (roomy c.self.inside.buf.items) c.self.inside.entries_len c.self.inside.checksum c.self.inside.items.capacity (vec_capacity c.self.inside.buf) c.self.inside.items.items c.args.self.now c.self.view_is c.self.invariant in
    let same = length-map c.args.entry_indexes.now (λ (e : EntryIndex). e.index) ∙ c.in_ok-check_run.ensures.ok ∙ sym (length-map c.args.entries.now (λ (s : Bor (List ℕ)). s.now)) in
    added_bytes c.args.self.now _ c.args.raft_group_id (indexes_of c.args.entry_indexes.now) (slices_bytes c.args.entries.now) seen.0 seen.1 same (returns-then-is_empty-clause-ok c)

pub returns-clause-bytes : goal.returns-clause-bytes
returns-clause-bytes c =
    let seen = view_laid c.self.inside.state (roomy c.self.inside.buf.items) c.self.inside.entries_len c.self.inside.checksum c.self.inside.items.capacity (vec_capacity c.self.inside.buf) c.self.inside.items.items c.args.self.now c.self.view_is c.self.invariant in
    let same = length-map c.args.entry_indexes.now (λ (e : EntryIndex). e.index) ∙ c.in_ok-check_run.ensures.ok ∙ sym (length-map c.args.entries.now (λ (s : Bor (List ℕ)). s.now)) in
    added_bytes c.args.self.now _ c.args.raft_group_id (indexes_of c.args.entry_indexes.now) (slices_bytes c.args.entries.now) seen.0 seen.1 same (returns-clause-ok c)

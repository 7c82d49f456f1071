use Rattle.std.proofs.Common.{vec_capacity, ◌≡◌, ℕ, ◌+◌, ◌-◌, ◌<◌, ◌≤◌, List, [], ◌∷◌, ◌++◌, length, take, drop, sym, ap, ◌∙◌, arith}
use Rattle.raft_log_record_items.specs.declared.entry.EntryIndex.{EntryIndex}
use Rattle.raft_log_record_items.specs.declared.item.LogItem.{LogItem}
use Rattle.raft_log_record_items.specs.declared.item.LogItemContent.TheVariants as contents
use Rattle.raft_log_record_batches.specs.Batch.{Batch, roomy, max_entries_len}
use Rattle.raft_log_record_batches.specs.Entries.{joined, entries_item, bytes_len, with_entries}
use Rattle.raft_log_record_batches.specs.EntriesFrom.{indexes_at}
use Rattle.raft_log_record_batches.proofs.EntriesFrom.{length-indexes_from, texts_len}
use Rattle.raft_log_record_batches.proofs.Items.{pushed_items, more_room, with_none, filling_size, entries_added, entries_seen}
use Rattle.raft_log_record_batches.proofs.Places.{view_laid, added_bytes}
use Rattle.raft_log_record_batches.proofs.log_batch.LogBatch.add_entries_from.Goals as goal

pub returns-then-count-eq0-clause-ok : goal.returns-then-count-eq0-clause-ok
returns-then-count-eq0-clause-ok g c =
    let none : length (g.E.EntryWriter.texts c.args.entries.now) ≡ 0 = omega (arith, c.len-count.ensures, c.if-count-eq0.true) in
    (with_none c.args.self.now c.args.raft_group_id (indexes_at c.args.first (g.E.EntryWriter.texts c.args.entries.now)) (g.E.EntryWriter.texts c.args.entries.now) none, omega arith)

pub invariant_of-self-2 : goal.invariant_of-self-2
invariant_of-self-2 g c =
    let indexes : List ℕ = indexes_at c.args.first (g.E.EntryWriter.texts c.args.entries.now) in
    let entries : List (List ℕ) = g.E.EntryWriter.texts c.args.entries.now in
    let len : ℕ = c.self.inside.entries_len in
    let added : ℕ = c.len.result - c.len-start.result in
    let filling = ap (λ (b : Batch). b.state) c.self.view_is ∙ c.requires in
    let size = filling_size c.self.inside.state (roomy c.self.inside.buf.items) len c.self.inside.checksum c.self.inside.items.items filling c.self.invariant in
    let bytes : c.append_run.new.out.items ≡ roomy c.self.inside.buf.items ++ joined entries = c.in_ok-placed.ensures.bytes ∙ ap (λ (l : List ℕ). l ++ joined entries) c.in_ok-make_room.ensures.ok in
    let grown = texts_len (roomy c.self.inside.buf.items) c.append_run.new.out.items entries bytes in
    let count : bytes_len entries ≡ added = omega (arith, grown, c.len.ensures, c.append_run.new.out.ok.0, c.len-start.ensures, c.make_room.new.buf.ok.0, ap (λ (l : List ℕ). length l) c.in_ok-make_room.ensures.ok) in
    let fits : len + added ≤ max_entries_len = omega (arith, count, size, c.in_ok-placed.ensures.room) in
    let item : c.new_entry_indexes.result ≡ entries_item c.args.raft_group_id len indexes entries =
    c.new_entry_indexes.ensures ∙ ap (λ (l : List EntryIndex). record { raft_group_id = c.args.raft_group_id; content = contents.EntryIndexes l }) c.in_ok-placed.ensures.placed in
    let items : c.push_reserved.new.self.items ≡ c.self.inside.items.items ++ entries_item c.args.raft_group_id len indexes entries ∷ [] =
    pushed_items c.self.inside.items c.reserve.new.self c.push_reserved.new.self c.new_entry_indexes.result _ c.in_ok-reserve.ensures.ok.0 c.push_reserved.ensures item in
    rw items (entries_added c.self.inside.state (roomy c.self.inside.buf.items) c.append_run.new.out.items len added c.self.inside.checksum c.args.raft_group_id c.self.inside.items.items indexes entries
    filling (length-indexes_from c.args.first (length (g.E.EntryWriter.texts c.args.entries.now))) count fits bytes c.self.invariant)

pub returns-clause-ok : goal.returns-clause-ok
returns-clause-ok g c =
    let indexes : List ℕ = indexes_at c.args.first (g.E.EntryWriter.texts c.args.entries.now) in
    let entries : List (List ℕ) = g.E.EntryWriter.texts c.args.entries.now in
    let len : ℕ = c.self.inside.entries_len in
    let added : ℕ = c.len.result - c.len-start.result in
    let filling = ap (λ (b : Batch). b.state) c.self.view_is ∙ c.requires in
    let bytes : c.append_run.new.out.items ≡ roomy c.self.inside.buf.items ++ joined entries = c.in_ok-placed.ensures.bytes ∙ ap (λ (l : List ℕ). l ++ joined entries) c.in_ok-make_room.ensures.ok in
    let grown = texts_len (roomy c.self.inside.buf.items) c.append_run.new.out.items entries bytes in
    let count : bytes_len entries ≡ added = omega (arith, grown, c.len.ensures, c.append_run.new.out.ok.0, c.len-start.ensures, c.make_room.new.buf.ok.0, ap (λ (l : List ℕ). length l) c.in_ok-make_room.ensures.ok) in
    let some : 0 < length entries = omega (arith, c.len-count.ensures, c.if-count-eq0.false) in
    let item : c.new_entry_indexes.result ≡ entries_item c.args.raft_group_id len indexes entries =
    c.new_entry_indexes.ensures ∙ ap (λ (l : List EntryIndex). record { raft_group_id = c.args.raft_group_id; content = contents.EntryIndexes l }) c.in_ok-placed.ensures.placed in
    let items : c.push_reserved.new.self.items ≡ c.self.inside.items.items ++ entries_item c.args.raft_group_id len indexes entries ∷ [] =
    pushed_items c.self.inside.items c.reserve.new.self c.push_reserved.new.self c.new_entry_indexes.result _ c.in_ok-reserve.ensures.ok.0 c.push_reserved.ensures item in (
      ap (λ (l : List LogItem). record { state = c.self.inside.state; items = l; entries = take (len + added) (drop 16 (roomy c.append_run.new.out.items)); capacity = c.push_reserved.new.self.capacity; buffer = vec_capacity c.append_run.new.out }) items
          ∙ entries_seen c.self.inside.state (roomy c.self.inside.buf.items) c.append_run.new.out.items len added c.self.inside.checksum c.args.raft_group_id c.self.inside.items.items indexes entries c.self.inside.items.capacity c.push_reserved.new.self.capacity (vec_capacity c.self.inside.buf) (vec_capacity c.append_run.new.out)
          filling some count bytes c.self.invariant
          ∙ ap (λ (b : Batch). record (with_entries b c.args.raft_group_id indexes entries) { capacity = c.push_reserved.new.self.capacity; buffer = vec_capacity c.append_run.new.out }) c.self.view_is,
      more_room c.self.inside.items c.reserve.new.self c.push_reserved.new.self c.new_entry_indexes.result c.args.self.now.capacity (ap (λ (b : Batch). b.capacity) c.self.view_is) c.in_ok-reserve.ensures.ok.0 c.push_reserved.ensures,
    )

pub returns-then-count-eq0-clause-bytes : goal.returns-then-count-eq0-clause-bytes
returns-then-count-eq0-clause-bytes g c =
    let indexes : List ℕ = indexes_at c.args.first (g.E.EntryWriter.texts c.args.entries.now) in
    let entries : List (List ℕ) = g.E.EntryWriter.texts c.args.entries.now in
    let seen = view_laid c.self.inside.state (roomy c.self.inside.buf.items) c.self.inside.entries_len c.self.inside.checksum c.self.inside.items.capacity (vec_capacity c.self.inside.buf) c.self.inside.items.items c.args.self.now c.self.view_is c.self.invariant in
    let same : length indexes ≡ length entries = length-indexes_from c.args.first (length entries) in
    added_bytes c.args.self.now _ c.args.raft_group_id indexes entries seen.0 seen.1 same (returns-then-count-eq0-clause-ok g c)

pub returns-clause-bytes : goal.returns-clause-bytes
returns-clause-bytes g c =
    let indexes : List ℕ = indexes_at c.args.first (g.E.EntryWriter.texts c.args.entries.now) in
    let entries : List (List ℕ) = g.E.EntryWriter.texts c.args.entries.now in
    let seen = view_laid c.self.inside.state (roomy c.self.inside.buf.items) c.self.inside.entries_len c.self.inside.checksum c.self.inside.items.capacity (vec_capacity c.self.inside.buf) c.self.inside.items.items c.args.self.now c.self.view_is c.self.invariant in
    added_bytes c.args.self.now _ c.args.raft_group_id indexes entries seen.0 seen.1 (length-indexes_from c.args.first (length (g.E.EntryWriter.texts c.args.entries.now))) (returns-clause-ok g c)

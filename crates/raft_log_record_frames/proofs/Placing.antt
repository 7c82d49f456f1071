-- Where the entries of items lie in their block.
use Rattle.std.proofs.Common.{◌≡◌, ℕ, suc, ◌+◌, ◌-◌, ◌≤◌, List, [], ◌∷◌, ◌++◌, length, map, inl, inr, refl, sym, ap, subst, ◌∙◌, arith}
use Rattle.std.specs.Prelude.{All}
use Rattle.std.proofs.lemmas.List.{map-append}
use Rattle.std.proofs.lemmas.List.Elements.{All-append, All-cons}
use Rattle.std.proofs.lemmas.List.Sums.{sum_by-cons}
use Rattle.raft_log_record_base.specs.declared.pipe_log.FileBlockHandle.{FileBlockHandle}
use Rattle.raft_log_record_items.specs.declared.entry.EntryIndex.{EntryIndex}
use Rattle.raft_log_record_items.specs.declared.item.LogItemContent.{LogItemContent}
use Rattle.raft_log_record_items.specs.declared.item.LogItemContent.TheVariants as contents
use Rattle.raft_log_record_items.specs.declared.item.LogItem.{LogItem}
use Rattle.raft_log_record_items.specs.Placed.{run_len, content_len, entries_len, laid_run, laid_content, laid_out, written_entry, written_content, written}
use Rattle.raft_log_record_frames.specs.Record.{AddsUp}
use Rattle.raft_log_record_frames.specs.ItemBatch.{content_entries, all_entries, IsEntryInBlock, AllLieIn}

pub run_len-cons : (e : EntryIndex) (es : List EntryIndex) → run_len (e ∷ es) ≡ e.entry_len + run_len es
run_len-cons e es = sum_by-cons (λ (x : EntryIndex). x.entry_len) e es

content-written : (handle : FileBlockHandle) (c : LogItemContent) → content_entries (written_content handle c) ≡ map (written_entry handle) (content_entries c)
content-written handle (contents.EntryIndexes es) = refl
content-written handle (contents.Command c) = refl
content-written handle (contents.Kv kv) = refl

pub all_entries-written : (handle : FileBlockHandle) (items : List LogItem) → all_entries (written handle items) ≡ map (written_entry handle) (all_entries items)
all_entries-written handle [] = refl
all_entries-written handle (x ∷ xs) =
    ap (λ (l : List EntryIndex). l ++ all_entries (written handle xs)) (content-written handle x.content)
    ∙ ap (λ (l : List EntryIndex). map (written_entry handle) (content_entries x.content) ++ l) (all_entries-written handle xs)
    ∙ sym (map-append (written_entry handle) (content_entries x.content) (all_entries xs))

-- ---- entries lie in their block

abbrev EndsBy : ℕ → EntryIndex → Type 0
EndsBy most e = e.entry_offset + e.entry_len ≤ most

run_ends : (offset most : ℕ) (es : List EntryIndex) → offset + run_len es ≤ most → All (EndsBy most) (laid_run offset es)
run_ends offset most [] h = λ k d lt. absurd (omega arith)
run_ends offset most (e ∷ es) h =
    let whole = run_len-cons e es in
    All-cons (EndsBy most) (record e { entry_offset = offset }) (laid_run (offset + e.entry_len) es) (omega (arith, whole)) (run_ends (offset + e.entry_len) most es (omega (arith, whole)))

content_ends : (offset most : ℕ) (c : LogItemContent) → offset + content_len c ≤ most → All (EndsBy most) (content_entries (laid_content offset c))
content_ends offset most (contents.EntryIndexes es) h = run_ends offset most es h
content_ends offset most (contents.Command c) h = λ k d lt. absurd (omega arith)
content_ends offset most (contents.Kv kv) h = λ k d lt. absurd (omega arith)

item_ends : (offset most : ℕ) (items : List LogItem) → offset + entries_len items ≤ most → All (EndsBy most) (all_entries (laid_out offset items))
item_ends offset most [] h = λ k d lt. absurd (omega arith)
item_ends offset most (x ∷ xs) h =
    let whole = sum_by-cons (λ (y : LogItem). content_len y.content) x xs in
    let next : ℕ = offset + content_len x.content in
    All-append (EndsBy most) (content_entries (laid_content offset x.content)) (all_entries (laid_out next xs))
    (content_ends offset most x.content (omega (arith, whole))) (item_ends next most xs (omega (arith, whole)))

all_placed : (handle : FileBlockHandle) (es : List EntryIndex) → All (EndsBy (handle.len - 4)) es → All (IsEntryInBlock handle) (map (written_entry handle) es)
all_placed handle [] h = λ k d lt. absurd (omega arith)
all_placed handle (e ∷ es) h =
    All-cons (IsEntryInBlock handle) (written_entry handle e) (map (written_entry handle) es) (refl, h 0 e (omega arith)) (all_placed handle es (λ k d lt. h (suc k) d (omega arith)))

pub all_lie_in : (handle : FileBlockHandle) (items : List LogItem) → entries_len items ≤ handle.len - 4 → AllLieIn handle (written handle (laid_out 0 items))
all_lie_in handle items h =
    subst (λ (l : List EntryIndex). All (IsEntryInBlock handle) l) (sym (all_entries-written handle (laid_out 0 items))) (all_placed handle (all_entries (laid_out 0 items)) (item_ends 0 (handle.len - 4) items (omega (arith, h))))

pub footer_room : (items : List LogItem) (len : ℕ) → AddsUp items len → entries_len items ≤ len - 4
footer_room items len h = elim h.1 [ inl p ↦ omega (arith, p.1) | inr q ↦ omega (arith, q) ]

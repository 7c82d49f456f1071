-- The last record of Append is that of a batch: what stands at the places of its entries are their bytes.
use Rattle.std.proofs.Common.{◌≡◌, ℕ, ◌+◌, ◌≤◌, Bool, cond, List, [], ◌∷◌, ◌++◌, length, take, refl, sym, ap, subst, ◌∙◌, arith}
use Rattle.std.specs.Prelude.{IsOk}
use Rattle.std.proofs.lemmas.List.{append-nil, append_assoc, length-append, take_at, drop_at}
use Rattle.std.proofs.lemmas.Bool.Decides.{Decides-eqb}
use Rattle.raft_log_file_writer.specs.LawsChains.{Written, spelled}
use Rattle.raft_log_file_writer.specs.LogQueue.{LogFiles}
use Rattle.raft_log_record_base.specs.Files.{signature_of}
use Rattle.raft_log_record_base.specs.declared.pipe_log.FileBlockHandle.{FileBlockHandle}
use Rattle.raft_log_active_file.specs.Queue.{past_bytes, whole}
use Rattle.raft_log_record_items.specs.declared.entry.EntryIndex.{EntryIndex}
use Rattle.raft_log_record_items.specs.declared.item.LogItem.{LogItem}
use Rattle.raft_log_record_items.specs.Placed.{entries_len, written, written_entry}
use Rattle.raft_log_record_frames.specs.Meaning.{tagged_items}
use Rattle.raft_log_record_frames.specs.Record.{block_bytes, block_of}
use Rattle.raft_log_record_frames.proofs.Public.{block_more}
use Rattle.raft_log_record_batches.specs.Batch.{batch_bytes, block_place}
use Rattle.raft_log_record_batches.specs.Places.{entry_bytes}
use Rattle.raft_log_extents.specs.declared.place.Place.{Place}
use Rattle.raft_log_extents.specs.Entries.{place_of}
use Rattle.raft_log_memtables.specs.Batch.{all_written}
use Rattle.raft_log_model_laws.specs.Item.{Item}
use Rattle.raft_log_model_laws.specs.Item.Item.{Run}
use Rattle.raft_log_model_laws.specs.Groups.{of_group}
use Rattle.raft_log_dual_pipes.specs.State.{LogOnDisk}
use Rattle.raft_log_dual_pipes.specs.Turning.{HasLast}
use Rattle.raft_log_block_cache.specs.Stored.{BlockLiesIn, Each, EntryLiesIn, block_at, entries_at, entry_at, file_bytes, part}
use Rattle.raft_log_block_cache.specs.Written.{IsLaidOver, RunIsStored, RunsAreStored, WrittenEntriesAreStored, placed_items}
use Rattle.raft_log_block_cache.proofs.Parts.{part_front}
use Rattle.raft_log_block_cache.proofs.Keeping.{spelled_append}
use Rattle.raft_log_block_cache.proofs.Laid.{OfRun, items_each, items_say}
use Rattle.raft_log_block_cache.proofs.WholeBlocks.{IsParted, entries_before, record_parts}

-- bytes between others
part_between : (a b c : List ℕ) (offset len : ℕ) → offset ≡ length a → len ≡ length b → part offset len (a ++ (b ++ c)) ≡ b
part_between a b c offset len at long = ap (λ (l : List ℕ). take len l) (drop_at a (b ++ c) offset (sym at)) ∙ take_at b c len (sym long)

module _ {R : Type 0} (s : LogOnDisk R) (said : R) (block : FileBlockHandle) (items : List LogItem) (entries : List ℕ) (spans : s.append.first ≤ s.append.files.last) (laid : IsLaidOver items entries) (sound : IsOk (block_of (block_bytes entries))) (last : HasLast (λ context. batch_bytes (signature_of context) items entries) said block s.append.files) where
  abbrev q : LogFiles R
  q = s.append.files

  abbrev place : FileBlockHandle
  place = block_place block entries

  abbrev front : List ℕ
  front = q.header ++ spelled last.front

  -- the file ends with the record
  file_is : file_bytes q block.id.seq ≡ front ++ batch_bytes (signature_of last.context) items entries
  file_is =
      ap (λ (b : Bool). cond b (whole q) (past_bytes (q.older block.id.seq))) ((Decides-eqb block.id.seq q.last).1 last.number)
      ∙ ap (λ (l : List (Written R)). q.header ++ spelled l) last.records
      ∙ ap (λ (l : List ℕ). q.header ++ l) (spelled_append last.front (last.last ∷ []) ∙ ap (λ (l : List ℕ). spelled last.front ++ l) (append-nil last.last.bytes ∙ last.bytes))
      ∙ sym (append_assoc q.header (spelled last.front) (batch_bytes (signature_of last.context) items entries))

  parts : IsParted (batch_bytes (signature_of last.context) items entries) entries
  parts = record_parts (signature_of last.context) items entries laid.some

  -- its block behind all that stands in front of it
  ends_is : file_bytes q block.id.seq ≡ (front ++ parts.head) ++ (block_bytes entries ++ parts.tail)
  ends_is = file_is ∙ ap (λ (l : List ℕ). front ++ l) parts.is ∙ sym (append_assoc front parts.head (block_bytes entries ++ parts.tail))

  at_is : place.offset ≡ length (front ++ parts.head)
  at_is = (let all = length-append front parts.head in let head = parts.long in let at = last.offset in omega (arith, all, head, at))

  block_is : block_at q place.id.seq place.offset place.len ≡ block_bytes entries
  block_is = ap (part place.offset place.len) ends_is ∙ part_between (front ++ parts.head) (block_bytes entries) parts.tail place.offset place.len at_is refl

  block_lies : BlockLiesIn s.append place.id.seq place.offset place.len
  block_lies =
      let number = last.number in
      let long = ap length ends_is ∙ length-append (front ++ parts.head) (block_bytes entries ++ parts.tail) in
      let rest = length-append (block_bytes entries) parts.tail in
      record { first = omega (arith, spans, number); last = omega (arith, number); inside = omega (arith, long, rest, at_is) }

  agree : (e : EntryIndex) → e.entry_offset + e.entry_len ≤ length entries → entry_at q (place_of (written_entry place e)) ≡ entry_bytes entries e
  agree e inside =
      let more = block_more entries in
      ap (part e.entry_offset e.entry_len) (block_is ∙ more.1) ∙ part_front e.entry_offset e.entry_len entries more.0 inside

  block_whole : IsOk (block_of (block_at q place.id.seq place.offset place.len))
  block_whole = subst (λ (l : List ℕ). IsOk (block_of l)) (sym block_is) sound

  lies : (e : EntryIndex) → e.entry_offset + e.entry_len ≤ length entries → EntryLiesIn s.append (place_of (written_entry place e))
  lies e inside = let before = entries_before entries in record { block = block_lies; whole = block_whole; entry = omega (arith, inside, before) }

  fits : 0 + entries_len items ≤ length entries
  fits = (let adds = laid.adds in omega (arith, adds))

  says : all_written (entries_at s) (placed_items block items entries) ≡ tagged_items (entry_bytes entries) items
  says =
      ap (λ (l : List LogItem). all_written (entries_at s) (tagged_items place_of (written place l))) (sym laid.laid)
      ∙ items_say place entries (entry_at q) agree 0 items fits
      ∙ ap (λ (l : List LogItem). tagged_items (entry_bytes entries) l) laid.laid

  stored : RunsAreStored s (placed_items block items entries)
  stored g =
      of_runs (of_group g (placed_items block items entries))
      (subst (λ (l : List LogItem). Each (OfRun (EntryLiesIn s.append)) (of_group g (tagged_items place_of (written place l)))) laid.laid
      (items_each place (length entries) (EntryLiesIn s.append) lies 0 items fits g))
    where
      of_run : (x : Item Place (List ℕ)) → OfRun (EntryLiesIn s.append) x → RunIsStored s x
      of_run (Run f ps) all = all
      of_run x all = tt

      of_runs : (xs : List (Item Place (List ℕ))) → Each (OfRun (EntryLiesIn s.append)) xs → Each (RunIsStored s) xs
      of_runs [] all = tt
      of_runs (x ∷ xs) (one, all) = (of_run x one, of_runs xs all)

pub written_entries_are_stored : {R : Type 0} → WrittenEntriesAreStored R
written_entries_are_stored s said block items entries spans laid sound last =
    (stored s said block items entries spans laid sound last, says s said block items entries spans laid sound last)

-- The records that were read of a file are those that stand in it, each with its entries where they lie.
use Rattle.std.proofs.Common.{◌≡◌, ℕ, ◌+◌, ◌-◌, ◌≤◌, Bool, Result, List, [], ◌∷◌, ◌++◌, length, take, drop, map, Option, Some, option_map, unwrap_or, inl, inr, refl, sym, ap, ap₂, subst, ◌∙◌, append_assoc, arith}
use Rattle.std.specs.Prelude.{IsOk}
use Rattle.std.proofs.lemmas.List.{drop_at, length-append, take_at}
use Rattle.std.proofs.lemmas.List.{drop-append-le, length-drop, take-append-le}
use Rattle.raft_log_model_laws.specs.Item.{Tagged, items_of}
use Rattle.raft_log_model_laws.specs.Item.Record.{Plain}
use Rattle.raft_log_record_base.specs.Fault.{Fault}
use Rattle.raft_log_record_base.specs.Files.{signature_of}
use Rattle.raft_log_record_base.specs.declared.pipe_log.FileBlockHandle.{FileBlockHandle}
use Rattle.raft_log_record_base.specs.declared.pipe_log.LogFileContext.{LogFileContext}
use Rattle.raft_log_record_base.specs.declared.pipe_log.LogQueue.{LogQueue}
use Rattle.raft_log_record_base.specs.declared.pipe_log.LogQueue.TheVariants.{Append, Rewrite}
use Rattle.raft_log_record_items.specs.declared.entry.EntryIndex.{EntryIndex}
use Rattle.raft_log_record_items.specs.declared.item.LogItem.{LogItem}
use Rattle.raft_log_record_items.specs.Placed.{entries_len, laid_out, placed, written_entry}
use Rattle.raft_log_record_frames.specs.Record.{block_bytes, block_of, IsBlock, IsFrame}
use Rattle.raft_log_record_frames.proofs.Public.{block_again, block_more, header_words}
use Rattle.raft_log_record_frames.specs.declared.marking.Marking.{Marking}
use Rattle.raft_log_record_frames.specs.declared.marking.Marking.TheVariants as markings
use Rattle.raft_log_record_frames.specs.Marking.{marking_of_items}
use Rattle.raft_log_record_frames.specs.Meaning.{marked, tagged_items}
use Rattle.raft_log_record_batches.specs.Places.{entry_bytes}
use Rattle.raft_log_file_writer.specs.LawsChains.{Written, spelled}
use Rattle.raft_log_engine_laws.specs.raft_log_active_file.specs.declared.record.LogRecord.{LogRecord}
use Rattle.raft_log_extents.specs.declared.place.Place.{Place}
use Rattle.raft_log_extents.specs.Entries.{place_of}
use Rattle.raft_log_memtable_index.specs.Bridge.{Located, in_queue}
use Rattle.raft_log_engine_laws.specs.raft_log_memtable.specs.Replays.{in_append}
use Rattle.raft_log_active_file.specs.Bridge.{said as said_all}
use Rattle.raft_log_file_reader.specs.Batches.{block_at}
use Rattle.raft_log_replay_context.specs.Batches.{AreRecordsRead}
use Rattle.raft_log_replay_context.specs.Records.{in_file, record_read, records_of, said_in, taken_as, ReadItem, ReadRecord}
use Rattle.raft_log_replay_context.specs.Noting.{AreWhereRead, ItemsLieIn}
use Rattle.raft_log_replay_context.specs.Opened.{told_record, told_records, told_tagged, AllReadIn}
use Rattle.raft_log_engine_laws.specs.raft_log_block_cache.specs.Stored.{part}
use Rattle.raft_log_recovery_laws.specs.Records.{AreBatchesOf, IsBatchOf}
use Rattle.raft_log_dual_pipes.specs.Pipes.{LogRecordValue}
use Rattle.raft_log_recovery_laws.specs.Entries.{EntriesHave, ItemsHave, RecordsHave}
use Rattle.raft_log_recovery_laws.specs.Reading.{as_counted, batches_in}
use Rattle.raft_log_recovery_laws.proofs.Placed.{items_alike, read_has, read_lies, read_told, same_marking}

-- Bytes.

part_front : (offset len : ℕ) (bytes more : List ℕ) → offset + len ≤ length bytes → part offset len (bytes ++ more) ≡ part offset len bytes
part_front offset len bytes more inside =
    ap (λ (l : List ℕ). take len l) (drop-append-le offset bytes more (omega (arith, inside)))
    ∙ take-append-le len (drop offset bytes) more (omega (arith, inside, length-drop offset bytes))

part_between : (front bytes more : List ℕ) (offset len : ℕ) → length front ≡ offset → length bytes ≡ len → part offset len (front ++ (bytes ++ more)) ≡ bytes
part_between front bytes more offset len at long = ap (λ (l : List ℕ). take len l) (drop_at front (bytes ++ more) offset at) ∙ take_at bytes more len long

-- a block begins with the bytes of its entries, which fill it
block_holds : (block entries : List ℕ) → IsBlock block entries → (more : List ℕ) × (block ≡ entries ++ more)
block_holds block entries (inl (none, nothing)) = ([], none ∙ ap (λ (l : List ℕ). l ++ []) (sym nothing))
block_holds block entries (inr (checksum, spelled, is)) = (checksum, is)

-- the entries end before the block's checksum
ends_before : (block entries : List ℕ) → IsBlock block entries → length entries ≤ length block - 4
ends_before block entries (inl (none, nothing)) = (let long = ap length nothing in omega (arith, long))
ends_before block entries (inr (checksum, spelled, is)) =
    let long = ap length is ∙ length-append entries checksum in
    let four = spelled.size in
    omega (arith, long, four)

entries_fit : (items : List LogItem) (signature : Option ℕ) (bytes block entries : List ℕ) → IsFrame signature bytes items block → IsBlock block entries → entries_len items ≤ length entries
entries_fit items signature bytes block entries frame (inl (none, nothing)) = elim frame.adds_up.1 [
  | inl (len, sum) ↦ omega (arith, sum)
  | inr more ↦ (let long = ap length none in absurd (omega (arith, more, long)))
]
entries_fit items signature bytes block entries frame (inr (checksum, spelled, is)) =
    let long = ap length is ∙ length-append entries checksum in
    let four = spelled.size in
    elim frame.adds_up.1 [
      | inl (len, sum) ↦ omega (arith, sum)
      | inr more ↦ omega (arith, more, long, four)
    ]

-- what a record says that has this mark and these items; a broken mark is none
abbrev pub said_as : Marking → List (Tagged (List ℕ) (List ℕ)) → LogRecordValue
said_as marking xs = unwrap_or (marked marking xs) (Plain xs)

items_said : (marking : Marking) (xs : List (Tagged (List ℕ) (List ℕ))) → items_of (said_as marking xs) ≡ xs
items_said markings.Unmarked xs = refl
items_said (markings.Part id status) xs = refl
items_said markings.Broken xs = refl

-- Records.

module _ (at : Located → List ℕ) (P : Located → Type 0) (n : ℕ) where
  -- the record was read in that file, says this, and its entries lie there
  pub record IsReadAs (r : ReadRecord) (y : LogRecordValue) : Type 0 where
    pub file : r.file ≡ n
    pub says : y ≡ told_record at r.taken
    pub lies : ItemsLieIn r.file (items_of r.taken)
    pub has : ItemsHave (EntriesHave P) (items_of r.taken)

  -- so are these records
  pub record AreReadAs (rs : List ReadRecord) (ys : List LogRecordValue) : Type 0 where
    pub file : AllReadIn n rs
    pub says : ys ≡ told_records at rs
    pub lie : AreWhereRead rs
    pub has : RecordsHave (EntriesHave P) (records_of rs)

  read_as : (marking : Marking) (said : List ReadItem) (xs : List (Tagged (List ℕ) (List ℕ))) → map (told_tagged at) said ≡ xs → ItemsLieIn n said → ItemsHave (EntriesHave P) said
      → (r : ReadRecord) → option_map (in_file n) (taken_as marking said) ≡ Some r → IsReadAs r (said_as marking xs)
  read_as markings.Unmarked said xs says lies has r is =
      let same : in_file n (Plain said) ≡ r = cc in
      subst (λ (x : ReadRecord). IsReadAs x (Plain xs)) same (record { file = refl; says = ap Plain (sym says); lies = lies; has = has })
  read_as (markings.Part id status) said xs says lies has r is =
      let taken = taken_as (markings.Part id status) said in
      let y = said_as (markings.Part id status) xs in
      let z = said_as (markings.Part id status) (map (told_tagged at) said) in
      let one : ReadRecord = in_file n (unwrap_or taken (Plain [])) in
      let same : one ≡ r = cc in
      subst (λ (x : ReadRecord). IsReadAs x y) same (record { file = refl; says = ap (λ l. said_as (markings.Part id status) l) (sym says); lies = lies; has = has })
  read_as markings.Broken said xs says lies has r is = cc

  more_read : (r : ReadRecord) (rs : List ReadRecord) (y : LogRecordValue) (ys : List LogRecordValue) → IsReadAs r y → AreReadAs rs ys → AreReadAs (r ∷ rs) (y ∷ ys)
  more_read r rs y ys one more = record {
    file = (one.file, more.file);
    says = ap₂ (λ (x : LogRecordValue) (l : List LogRecordValue). x ∷ l) one.says more.says;
    lie = (one.lies, more.lie);
    has = (one.has, more.has);
  }

-- A file.
module _ (says : LogRecord → LogRecordValue) (none : FileBlockHandle) (sense : (r : LogRecord) → says r ≡ said_as (marking_of_items (placed none r.items)) (tagged_items (entry_bytes (block_bytes r.entries)) (placed none r.items)))
    (at : Located → List ℕ) (P : Located → Type 0) (queue : LogQueue) (n : ℕ) (content : List ℕ)
    (at_is : (p : Place) → p.file ≡ n → at (in_queue (in_append queue) p) ≡ part p.entry_offset p.entry_len (part p.offset p.len content))
    (lies : (p : Place) → p.file ≡ n → p.offset + p.len ≤ length content → IsOk (block_of (part p.offset p.len content)) → p.entry_offset + p.entry_len ≤ p.len - 4 → P (in_queue (in_append queue) p))
    (context : LogFileContext) (number : context.id.seq ≡ n) where
  abbrev appended : Bool
  appended = in_append queue

  -- one record, at this offset
  module _ (front rest : List ℕ) (offset : ℕ) (w : Written LogRecord) (there : length front ≡ offset) (splits : content ≡ front ++ (w.bytes ++ rest)) (block : List ℕ)
      (frame : IsFrame (signature_of context) w.bytes w.value.items block) (blocked : IsBlock block w.value.entries) where
    abbrev handle : FileBlockHandle
    handle = block_at context offset (length block)

    abbrev entries : List ℕ
    entries = w.value.entries

    header_long : length frame.header ≡ 16
    header_long = (header_words frame.header [] (length w.bytes) (16 + length block) frame.header_spelled).0

    parts : content ≡ (front ++ frame.header) ++ (block ++ (frame.footer ++ rest))
    parts =
        splits
        ∙ ap (λ (l : List ℕ). front ++ (l ++ rest)) frame.joined
        ∙ ap (λ (l : List ℕ). front ++ l) (append_assoc (frame.header ++ block) frame.footer rest ∙ append_assoc frame.header block (frame.footer ++ rest))
        ∙ sym (append_assoc front frame.header (block ++ (frame.footer ++ rest)))

    long : length (front ++ frame.header) ≡ offset + 16
    long = (let all = length-append front frame.header in omega (arith, all, header_long, there))

    block_is : part handle.offset handle.len content ≡ block
    block_is = ap (part handle.offset handle.len) parts ∙ part_between (front ++ frame.header) block (frame.footer ++ rest) (offset + 16) (length block) long refl

    inside : handle.offset + handle.len ≤ length content
    inside =
        let all = ap length parts ∙ length-append (front ++ frame.header) (block ++ (frame.footer ++ rest)) in
        let tail = length-append block (frame.footer ++ rest) in
        omega (arith, all, tail, long)

    more : (more : List ℕ) × (block ≡ entries ++ more)
    more = block_holds block entries blocked

    agree : (e : EntryIndex) → e.entry_offset + e.entry_len ≤ length entries → at (in_queue appended (place_of (written_entry handle e))) ≡ entry_bytes entries e
    agree e within =
        at_is (place_of (written_entry handle e)) number
        ∙ ap (part e.entry_offset e.entry_len) (block_is ∙ more.1)
        ∙ part_front e.entry_offset e.entry_len entries more.0 within

    agree_none : (e : EntryIndex) → e.entry_offset + e.entry_len ≤ length entries → entry_bytes (block_bytes entries) (written_entry none e) ≡ entry_bytes entries e
    agree_none e within =
        let made = block_more entries in
        ap (part e.entry_offset e.entry_len) made.1 ∙ part_front e.entry_offset e.entry_len entries made.0 within

    whole : IsOk (block_of (part handle.offset handle.len content))
    whole = subst (λ (l : List ℕ). IsOk (block_of l)) (sym block_is) (subst (λ (r : Result (List ℕ) Fault). IsOk r) (sym (block_again block entries blocked)) refl)

    has_place : (e : EntryIndex) → e.entry_offset + e.entry_len ≤ length entries → P (in_queue appended (place_of (written_entry handle e)))
    has_place e within =
        let before = ends_before block entries blocked in
        lies (place_of (written_entry handle e)) number inside whole (omega (arith, within, before))

    fit : 0 + entries_len w.value.items ≤ length entries
    fit = (let most = entries_fit w.value.items (signature_of context) w.bytes block entries frame blocked in omega (arith, most))

    told_is : map (told_tagged at) (said_in appended n (placed handle w.value.items)) ≡ tagged_items (entry_bytes (block_bytes entries)) (placed none w.value.items)
    told_is =
        read_told at appended n (placed handle w.value.items)
        ∙ items_alike (λ (e : EntryIndex). at (in_queue appended (place_of e))) (entry_bytes entries) handle (length entries) agree 0 w.value.items fit
        ∙ sym (items_alike (entry_bytes (block_bytes entries)) (entry_bytes entries) none (length entries) agree_none 0 w.value.items fit)

    abbrev xs : List (Tagged (List ℕ) (List ℕ))
    xs = tagged_items (entry_bytes (block_bytes entries)) (placed none w.value.items)

    placed_read : (q : LogQueue) → in_append q ≡ appended → (r : ReadRecord) → record_read q n (placed handle w.value.items) ≡ Some r → IsReadAs at P n r (as_counted appended (says w.value))
    placed_read Append same r is =
        let said = said_in appended n (placed handle w.value.items) in
        let given : option_map (in_file n) (taken_as markings.Unmarked said) ≡ Some r = ap (λ (b : Bool). Some (in_file n (Plain (said_in b n (placed handle w.value.items))))) (sym same) ∙ is in
        let counts : as_counted appended (says w.value) ≡ Plain xs =
        ap (λ (b : Bool). as_counted b (says w.value)) (sym same) ∙ ap Plain (ap items_of (sense w.value) ∙ items_said (marking_of_items (placed none w.value.items)) xs) in
        subst (λ (y : LogRecordValue). IsReadAs at P n r y) (sym counts)
        (read_as at P n markings.Unmarked said xs told_is (read_lies appended n handle number (laid_out 0 w.value.items))
        (read_has P appended n handle (length entries) has_place 0 w.value.items fit) r given)
    placed_read Rewrite same r is =
        let said = said_in appended n (placed handle w.value.items) in
        let marking = marking_of_items (placed none w.value.items) in
        let given : option_map (in_file n) (taken_as marking said) ≡ Some r =
        ap₂ (λ (m : Marking) (b : Bool). option_map (in_file n) (taken_as m (said_in b n (placed handle w.value.items)))) (same_marking none handle w.value.items) (sym same) ∙ is in
        let counts : as_counted appended (says w.value) ≡ said_as marking xs = ap (λ (b : Bool). as_counted b (says w.value)) (sym same) ∙ sense w.value in
        subst (λ (y : LogRecordValue). IsReadAs at P n r y) (sym counts)
        (read_as at P n marking said xs told_is (read_lies appended n handle number (laid_out 0 w.value.items))
        (read_has P appended n handle (length entries) has_place 0 w.value.items fit) r given)

  one_read : (front rest : List ℕ) (offset : ℕ) (w : Written LogRecord) → length front ≡ offset → content ≡ front ++ (w.bytes ++ rest) → (items : List LogItem) → IsBatchOf context offset items w
      → (r : ReadRecord) → record_read queue n items ≡ Some r → IsReadAs at P n r (as_counted appended (says w.value))
  one_read front rest offset w there splits items (block, frame, blocked, is) r read =
      placed_read front rest offset w there splits block frame blocked queue refl r (ap (record_read queue n) (sym is) ∙ read)

  pub all_read : (front rest : List ℕ) (offset : ℕ) (ws : List (Written LogRecord)) → length front ≡ offset → content ≡ front ++ (spelled ws ++ rest) → (items : List (List LogItem))
      → AreBatchesOf context offset items ws → (rs : List ReadRecord) → AreRecordsRead queue (batches_in n items) rs → AreReadAs at P n rs (map (as_counted appended) (said_all says ws))
  all_read front rest offset [] there splits [] are [] read = record { file = tt; says = refl; lie = tt; has = tt }
  all_read front rest offset [] there splits [] are (r ∷ rs) read = absurd read
  all_read front rest offset (w ∷ ws) there splits [] are rs read = absurd are
  all_read front rest offset [] there splits (items ∷ more) are rs read = absurd are
  all_read front rest offset (w ∷ ws) there splits (items ∷ more) are [] read = absurd read
  all_read front rest offset (w ∷ ws) there splits (items ∷ more) (one, others) (r ∷ rs) (first, behind) =
      let here : content ≡ front ++ (w.bytes ++ (spelled ws ++ rest)) = splits ∙ ap (λ (l : List ℕ). front ++ l) (append_assoc w.bytes (spelled ws) rest) in
      let next = length-append front w.bytes in
      more_read at P n r rs (as_counted appended (says w.value)) (map (as_counted appended) (said_all says ws))
      (one_read front (spelled ws ++ rest) offset w there here items one r first)
      (all_read (front ++ w.bytes) rest (offset + length w.bytes) ws (omega (arith, next, there)) (here ∙ sym (append_assoc front w.bytes (spelled ws ++ rest))) more others rs behind)

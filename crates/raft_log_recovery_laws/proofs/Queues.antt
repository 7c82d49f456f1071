-- The records that were read of a queue are held by its numbered files, each in its own.
use Rattle.std.proofs.Common.{◌≡◌, ℕ, zero, suc, ◌+◌, ◌-◌, ◌<◌, ◌≤◌, Bool, false, cond, List, [], ◌∷◌, ◌++◌, length, map, inl, inr, refl, sym, ap, ap₂, subst, ◌∙◌, arith, nat_eq, append_assoc}
use Rattle.std.specs.Prelude.{IsOk}
use Rattle.std.specs.List.{AllZip}
use Rattle.std.proofs.lemmas.Bool.{cases_Bool}
use Rattle.std.proofs.lemmas.Bool.Decides.{Decides-eqb}
use Rattle.std.proofs.lemmas.List.{append-nil, map-append}
use Rattle.raft_log_machine_laws.specs.Files.{FileQueue, LogFile, span}
use Rattle.raft_log_machine_laws.specs.Directory.{IsRising}
use Rattle.raft_log_record_base.specs.declared.pipe_log.FileBlockHandle.{FileBlockHandle}
use Rattle.raft_log_record_base.specs.declared.pipe_log.LogQueue.{LogQueue}
use Rattle.raft_log_record_items.specs.Placed.{placed}
use Rattle.raft_log_record_frames.specs.Record.{block_bytes, block_of}
use Rattle.raft_log_record_frames.specs.Marking.{marking_of_items}
use Rattle.raft_log_record_frames.specs.Meaning.{tagged_items}
use Rattle.raft_log_record_batches.specs.Places.{entry_bytes}
use Rattle.raft_log_fs.specs.Disk.{Disk}
use Rattle.raft_log_file_writer.specs.LawsChains.{Written, spelled}
use Rattle.raft_log_file_writer.specs.LogFormat.{Format}
use Rattle.raft_log_file_writer.specs.LogQueue.{LogFiles, recent}
use Rattle.raft_log_engine_laws.specs.raft_log_active_file.specs.declared.record.LogRecord.{LogRecord}
use Rattle.raft_log_active_file.specs.Queue.{past_bytes, whole}
use Rattle.raft_log_active_file.specs.Bridge.{filed, said as said_all, IsFileQueue}
use Rattle.raft_log_extents.specs.declared.place.Place.{Place}
use Rattle.raft_log_memtable_index.specs.Bridge.{Located, in_queue}
use Rattle.raft_log_engine_laws.specs.raft_log_memtable.specs.Replays.{in_append}
use Rattle.raft_log_replay.specs.Machines.{Batch}
use Rattle.raft_log_dual_pipes.specs.State.{Spanned}
use Rattle.raft_log_replay_context.specs.Batches.{AreRecordsRead}
use Rattle.raft_log_replay_context.specs.Records.{records_of, ReadRecord}
use Rattle.raft_log_replay_context.specs.Noting.{AllReadTo, AreWhereRead}
use Rattle.raft_log_replay_context.specs.Opened.{AllReadIn, FilesHold}
use Rattle.raft_log_replay_context.proofs.Public.{records_append as records_of_both}
use Rattle.raft_log_engine_laws.specs.raft_log_block_cache.specs.Stored.{entries_at, file_bytes, part, queue_in, EntryLiesIn, IsStored}
use Rattle.raft_log_recovery_laws.specs.FileReading.{context_in}
use Rattle.raft_log_dual_pipes.specs.Pipes.{LogRecordValue, State}
use Rattle.raft_log_recovery_laws.specs.Entries.{EntriesHave, RecordsHave}
use Rattle.raft_log_recovery_laws.specs.Reading.{as_counted, counted_file, counted_queue, AreOfFile, AreOfFiles, AreOfQueue}
use Rattle.raft_log_recovery_laws.proofs.Counting.{records_append}
use Rattle.raft_log_recovery_laws.proofs.Files.{all_read, said_as, AreReadAs}

-- Lists.

-- what is so of two lists place by place is so of their parts
split_zip : {A B : Type 0} (R : A → B → Type 0) (xs ys : List A) (zs : List B) → AllZip R (xs ++ ys) zs → (a b : List B) × (zs ≡ a ++ b) × AllZip R xs a × AllZip R ys b
split_zip {A} {B} R [] ys zs all = ([], zs, refl, tt, all)
split_zip {A} {B} R (x ∷ xs) ys [] all = absurd all
split_zip {A} {B} R (x ∷ xs) ys (z ∷ zs) (one, all) =
    let (a, b, is, first, rest) = split_zip R xs ys zs all in
    (z ∷ a, b, ap (λ (l : List B). z ∷ l) is, (one, first), rest)

lie_append : (xs ys : List ReadRecord) → AreWhereRead xs → AreWhereRead ys → AreWhereRead (xs ++ ys)
lie_append [] ys h k = k
lie_append (x ∷ xs) ys h k = (h.0, lie_append xs ys h.1 k)

-- what was read in a file was read up to any later one
upto_append : (n : ℕ) (xs ys : List ReadRecord) → AllReadTo n xs → AllReadTo n ys → AllReadTo n (xs ++ ys)
upto_append n [] ys h k = k
upto_append n (x ∷ xs) ys h k = (h.0, upto_append n xs ys h.1 k)

read_upto : (n m : ℕ) (rs : List ReadRecord) → n ≤ m → AllReadIn n rs → AllReadTo m rs
read_upto n m [] low h = tt
read_upto n m (r ∷ rs) low h = (let file = h.0 in omega (arith, file, low), read_upto n m rs low h.1)

-- which bytes stand in which file
last_bytes : (q : LogFiles LogRecord) → file_bytes q q.last ≡ q.header ++ spelled (recent q)
last_bytes q = ap (λ (b : Bool). cond b (whole q) (past_bytes (q.older q.last))) ((Decides-eqb q.last q.last).1 refl)

past_is : (q : LogFiles LogRecord) (n : ℕ) → n < q.last → file_bytes q n ≡ (q.older n).header ++ spelled (q.older n).records
past_is q n less = ap (λ (b : Bool). cond b (whole q) (past_bytes (q.older n))) not_last
  where
    not_last : nat_eq n q.last ≡ false
    not_last = elim (cases_Bool (nat_eq n q.last)) [
      | inl hit ↦ absurd (let same : n ≡ q.last = (Decides-eqb n q.last).0 hit in omega (arith, less, same))
      | inr miss ↦ miss
    ]

-- A queue of a log.
module _ (says : LogRecord → LogRecordValue) (none : FileBlockHandle) (sense : (r : LogRecord) → says r ≡ said_as (marking_of_items (placed none r.items)) (tagged_items (entry_bytes (block_bytes r.entries)) (placed none r.items)))
    (s : State) (queue : LogQueue) (q : Spanned LogRecord) (is_in : queue_in s (in_append queue) ≡ q) where
  abbrev appended : Bool
  appended = in_append queue

  abbrev at : Located → List ℕ
  at = entries_at s

  abbrev P : Located → Type 0
  P = IsStored s

  file_read : (n : ℕ) (header : List ℕ) (ws : List (Written LogRecord)) (batches : List Batch) → q.first ≤ n → n ≤ q.files.last → file_bytes q.files n ≡ header ++ spelled ws
      → AreOfFile queue n header ws batches → (rs : List ReadRecord) → AreRecordsRead queue batches rs → AreReadAs at P n rs (map (as_counted appended) (said_all says ws))
  file_read n header ws batches from upto bytes are rs read =
      all_read says none sense at P queue n (file_bytes q.files n) at_is lies (context_in (record { queue = queue; seq = n }) are.format) refl header [] (length header) ws refl
      (bytes ∙ ap (λ (l : List ℕ). header ++ l) (sym (append-nil (spelled ws)))) are.items are.are rs (subst (λ (l : List Batch). AreRecordsRead queue l rs) are.is read)
    where
      at_is : (p : Place) → p.file ≡ n → at (in_queue appended p) ≡ part p.entry_offset p.entry_len (part p.offset p.len (file_bytes q.files n))
      at_is p file = ap₂ (λ (x : Spanned LogRecord) (k : ℕ). part p.entry_offset p.entry_len (part p.offset p.len (file_bytes x.files k))) is_in file

      lies : (p : Place) → p.file ≡ n → p.offset + p.len ≤ length (file_bytes q.files n) → IsOk (block_of (part p.offset p.len (file_bytes q.files n))) → p.entry_offset + p.entry_len ≤ p.len - 4
          → P (in_queue appended p)
      lies p file inside whole entry = subst (λ (x : Spanned LogRecord). EntryLiesIn x p) (sym is_in) (record {
        block = record {
          first = omega (arith, from, file);
          last = omega (arith, upto, file);
          inside = subst (λ (k : ℕ). p.offset + p.len ≤ length (file_bytes q.files k)) (sym file) inside;
        };
        whole = subst (λ (k : ℕ). IsOk (block_of (part p.offset p.len (file_bytes q.files k)))) (sym file) whole;
        entry = entry;
      })

  -- the files hold these records, whose entries lie there
  pub record HeldBy (rs : List ReadRecord) (fs : List (LogFile (List ℕ) (List ℕ))) : Type 0 where
    pub holds : FilesHold at rs (map (counted_file appended) fs)
    pub lie : AreWhereRead rs
    pub upto : AllReadTo q.files.last rs
    pub has : RecordsHave (EntriesHave P) (records_of rs)

  more_held : (f : LogFile (List ℕ) (List ℕ)) (fs : List (LogFile (List ℕ) (List ℕ))) (here rest : List ReadRecord) → f.number ≤ q.files.last → AreReadAs at P f.number here (map (as_counted appended) f.records) → HeldBy rest fs
      → HeldBy (here ++ rest) (f ∷ fs)
  more_held f fs here rest low one more = record {
    holds = (here, rest, refl, one.file, one.says, more.holds);
    lie = lie_append here rest one.lie more.lie;
    upto = upto_append q.files.last here rest (read_upto f.number q.files.last here low one.file) more.upto;
    has = subst (RecordsHave (EntriesHave P)) (sym (records_of_both here rest)) (records_append (EntriesHave P) (records_of here) (records_of rest) one.has more.has);
  }

  files_held : (count n : ℕ) (batches : List Batch) → q.first ≤ n → n + count ≡ q.files.last → AreOfFiles queue q.files.older n count batches → (rs : List ReadRecord) → AreRecordsRead queue batches rs
      → (fs : List (LogFile (List ℕ) (List ℕ))) (behind : List ReadRecord) → HeldBy behind fs → HeldBy (rs ++ behind) (filed says q.files.older n count ++ fs)
  files_held zero n batches from upto are rs read fs behind held =
      let nothing : rs ≡ [] = none_read rs (subst (λ (l : List Batch). AreRecordsRead queue l rs) are read) in
      subst (λ (l : List ReadRecord). HeldBy (l ++ behind) fs) (sym nothing) held
    where
      none_read : (zs : List ReadRecord) → AreRecordsRead queue [] zs → zs ≡ []
      none_read [] all = refl
      none_read (z ∷ zs) all = absurd all
  files_held (suc count) n batches from upto (first, more, splits, one, others) rs read fs behind held =
      let (here, rest, is, read_first, read_more) = split_zip _ first more rs (subst (λ (l : List Batch). AreRecordsRead queue l rs) splits read) in
      let there = file_read n (q.files.older n).header (q.files.older n).records first from (omega (arith, upto)) (past_is q.files n (omega (arith, upto))) one here read_first in
      let later = files_held count (suc n) more (omega (arith, from)) (omega (arith, upto)) others rest read_more fs behind held in
      subst (λ (l : List ReadRecord). HeldBy l (filed says q.files.older n (suc count) ++ fs)) (append_assoc_of here rest behind is)
      (more_held (record { number = n; records = said_all says (q.files.older n).records }) (filed says q.files.older (suc n) count ++ fs) here (rest ++ behind) (omega (arith, upto)) there later)
    where
      append_assoc_of : (a b c : List ReadRecord) → rs ≡ a ++ b → a ++ (b ++ c) ≡ rs ++ c
      append_assoc_of a b c e = sym (ap (λ (l : List ReadRecord). l ++ c) e ∙ append_assoc a b c)

  -- all files of its span
  abbrev spanned : ℕ → List (LogFile (List ℕ) (List ℕ))
  spanned count = filed says q.files.older q.first count ++ record { number = q.files.last; records = said_all says (recent q.files) } ∷ []

  all_held : (batches : List Batch) (are : AreOfQueue queue q batches) (rs : List ReadRecord) → AreRecordsRead queue batches rs → HeldBy rs (spanned are.count)
  all_held batches are rs read =
      let (earlier, active, is, read_earlier, read_active) = split_zip _ are.finished are.last rs (subst (λ (l : List Batch). AreRecordsRead queue l rs) are.splits read) in
      let upto = are.reaches in
      let last = file_read q.files.last q.files.header (recent q.files) are.last (omega (arith, upto)) (omega arith) (last_bytes q.files) are.of_last active read_active in
      let none_behind : HeldBy [] [] = record { holds = refl; lie = tt; upto = tt; has = tt } in
      let ending = more_held (record { number = q.files.last; records = said_all says (recent q.files) }) [] active [] (omega arith) last none_behind in
      subst (λ (l : List ReadRecord). HeldBy l (spanned are.count)) (ap (λ (l : List ReadRecord). earlier ++ l) (append-nil active) ∙ sym is)
      (files_held are.count q.first are.finished (omega arith) are.reaches are.of_finished earlier read_earlier (record { number = q.files.last; records = said_all says (recent q.files) } ∷ []) (active ++ []) ending)

  -- they were read up to the last file
  pub queue_upto : (batches : List Batch) → AreOfQueue queue q batches → (rs : List ReadRecord) → AreRecordsRead queue batches rs → AllReadTo q.files.last rs
  queue_upto batches are rs read = (all_held batches are rs read).upto

  -- the numbered files of the queue
  module _ (F : Format LogRecord) (low : ℕ) (d : Disk) (files : FileQueue (List ℕ) (List ℕ)) (numbered : IsFileQueue says F q.files low q.first d files) where
    abbrev counted : FileQueue (List ℕ) (List ℕ)
    counted = counted_queue appended files

    span_is : (count : ℕ) → q.first + count ≡ q.files.last → map (counted_file appended) (spanned count) ≡ span counted counted.pending
    span_is count reaches =
        let above = numbered.above in
        let same : count ≡ numbered.forth = omega (arith, above, reaches) in
        let full : filed says q.files.older q.first count ≡ files.full = ap (filed says q.files.older q.first) same ∙ sym numbered.full in
        let records : map (as_counted appended) (said_all says (recent q.files)) ≡ counted.synced ++ counted.pending =
        ap (map (as_counted appended)) (map-append (λ (w : Written LogRecord). says w.value) q.files.durable q.files.pending)
        ∙ map-append (as_counted appended) (said_all says q.files.durable) (said_all says q.files.pending)
        ∙ ap₂ (λ (a b : List LogRecordValue). map (as_counted appended) a ++ map (as_counted appended) b) (sym numbered.synced) (sym numbered.pending) in
        let number : q.files.last ≡ files.last = sym numbered.last in
        let moved : map (counted_file appended) (filed says q.files.older q.first count) ++ record { number = q.files.last; records = map (as_counted appended) (said_all says (recent q.files)) } ∷ [] ≡ span counted counted.pending =
        λ i. map (counted_file appended) (full i) ++ record { number = number i; records = records i } ∷ [] in
        map-append (counted_file appended) (filed says q.files.older q.first count) (record { number = q.files.last; records = said_all says (recent q.files) } ∷ [])
        ∙ moved

    pub queue_held : (batches : List Batch) → AreOfQueue queue q batches → (rs : List ReadRecord) → AreRecordsRead queue batches rs
        → FilesHold at rs (span counted counted.pending) × AreWhereRead rs × RecordsHave (EntriesHave P) (records_of rs)
    queue_held batches are rs read =
        let held = all_held batches are rs read in
        (subst (FilesHold at rs) (span_is are.count are.reaches) held.holds, held.lie, held.has)

    rising_filed : (count n : ℕ) (f : LogFile (List ℕ) (List ℕ)) → f.number ≡ n + count → IsRising (map (counted_file appended) (filed says q.files.older n count ++ f ∷ []))
    rising_filed zero n f is = tt
    rising_filed (suc zero) n f is = (omega (arith, is), tt)
    rising_filed (suc (suc count)) n f is = (omega arith, rising_filed (suc count) (suc n) f (omega (arith, is)))

    pub queue_rises : IsRising (span counted counted.pending)
    queue_rises =
        let above = numbered.above in
        subst IsRising (span_is numbered.forth above)
        (rising_filed numbered.forth q.first (record { number = q.files.last; records = said_all says (recent q.files) }) (omega (arith, above)))

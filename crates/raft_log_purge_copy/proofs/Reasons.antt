-- Why a part of a purge was refused: of what each call told.
use Rattle.std.proofs.Common.{◌≡◌, ◌⊎◌, ◌↔◌, ◌==◌, ◌+◌, ◌-◌, ◌^◌, ◌<◌, ◌≤◌, ℕ, suc, Bool, true, false, if◌then◌else◌, List, [], ◌∷◌, ◌++◌, Option, Some, None, option_map, inl, inr, refl, sym, ap, subst, ◌∙◌, arith, nat_lt, length, take, drop}
use Rattle.std.specs.Prelude.{IsTrue, Result, Ok, Err, ◌||◌}
use Rattle.std.specs.Cmp.Lexicographic.{slice_cmp}
use Rattle.std.specs.List.Sorted.{IsStrictlySortedBy}
use Rattle.std.specs.Map.{keys_of}
use Rattle.std.specs.Ordering.{nat_cmp}
use Rattle.std.proofs.lemmas.Bool.{false≢true}
use Rattle.raft_log_model_laws.specs.Meaning.Slot.{Key}
use Rattle.raft_log_model_laws.specs.Meaning.Content.{Value}
use Rattle.raft_log_model_laws.specs.Renamed.{renamed_content}
use Rattle.raft_log_model_laws.proofs.Public.{at_bool}
use Rattle.raft_log_machine_laws.specs.Whereabouts.{top}
use Rattle.raft_log_machine_laws.proofs.Public.{no_word}
use Rattle.raft_log_model_laws.specs.Item.Record.{Plain}
use Rattle.std.specs.Int.{from_le_bytes, w32}
use Rattle.raft_log_record_checksum.specs.Checksum.{crc32_of}
use Rattle.raft_log_fs.specs.Causes.{Fails, IsLater}
use Rattle.raft_log_fs.specs.Disk.{Disk}
use Rattle.raft_log_fs.proofs.Public.{fails_after, later_same, later_then}
use Rattle.raft_log_record_base.specs.declared.codec.error.Error.{Error as CodecError}
use Rattle.raft_log_record_base.specs.declared.errors.Error.{Error}
use Rattle.raft_log_record_base.specs.declared.errors.Error.TheVariants as errors
use Rattle.raft_log_record_base.specs.declared.pipe_log.FileBlockHandle.{FileBlockHandle}
use Rattle.raft_log_record_base.specs.declared.pipe_log.LogQueue.TheVariants.{Rewrite}
use Rattle.raft_log_record_base.specs.Fault.{Fault, corrupt, number}
use Rattle.raft_log_record_base.specs.Fault.{FailsOrMemory as FailsToRead}
use Rattle.raft_log_record_frames.specs.Record.{block_mismatch, block_of, block_too_short}
use Rattle.raft_log_record_frames.specs.Made.{IsMemoryOrFull}
use Rattle.raft_log_record_items.specs.declared.entry.EntryIndex.{EntryIndex}
use Rattle.raft_log_record_items.specs.declared.item.LogItem.{LogItem}
use Rattle.raft_log_record_items.specs.Message.{Parses}
use Rattle.raft_log_record_frames.specs.declared.marking.Marking.TheVariants.{Unmarked}
use Rattle.raft_log_file_pipe.specs.Purging.{IsInSpan}
use Rattle.raft_log_file_pipe.specs.Reading.{IsReadRefused}
use Rattle.raft_log_file_pipe.specs.declared.pipe_files.PipeFiles.{PipeFiles}
use Rattle.raft_log_record_batches.specs.Batch.{Batch}
use Rattle.raft_log_record_batches.specs.Entries.{IsEntriesRefusal, IsIndexRun, RisesFrom, entries_items, joined}
use Rattle.raft_log_record_batches.proofs.Public.{joined-length}
use Rattle.raft_log_memtable_index.specs.Shown.{KeyValue}
use Rattle.raft_log_memtable_index.specs.Bridge.{Located, bytes_held}
use Rattle.raft_log_memtable_index.specs.Listing.{ListsAll, asked_bytes, is_asked}
use Rattle.raft_log_block_cache.specs.Signing.{signed_for}
use Rattle.raft_log_machine_laws.specs.Calls.{Which}
use Rattle.raft_log_machine_laws.specs.Calls.Which.{InAppend, InRewrite}
use Rattle.raft_log_dual_pipes.specs.Own.{log_layout}
use Rattle.raft_log_dual_pipes.specs.Queues.{SaysRecord}
use Rattle.raft_log_dual_pipes.specs.State.{pipe_at}
use Rattle.raft_log_block_cache.specs.Stored.{entries_at, part}
use Rattle.raft_log_dual_pipes.specs.Pipes.{LogPipes, LogSense, RunsOn, LogRecordValue, State, files_of, is_failed, which_of}
use Rattle.raft_log_dual_pipes.specs.Calls.{FailsToAppendTo, FailsToPurgeQueue, FailsToRotateQueue, FailsToSyncQueue}
use Rattle.raft_log_dual_pipes.specs.Numbers.{EndsNumbers, EndsNumbersAt, EndsNumbersBelow, HasLastNumber}
use Rattle.raft_log_dual_pipes.specs.PipeCalls.{PipeFailsToAppend}
use Rattle.raft_log_block_cache.specs.declared.block_cache.BlockCache.{BlockCache}
use Rattle.raft_log_block_cache.specs.Blocks.{AreUnread, IsBlockUnread, IsEntryUnread, IsFileUnread, IsNoEntry, IsUnplaced}
use Rattle.raft_log_engine_laws.specs.EngineState.{LogDirectories, LogMap, EngineState, said_by, sense}
use Rattle.raft_log_engine_laws.specs.Holding.{Represents}
use Rattle.raft_log_engine_laws.specs.Fetching.{IsOneUntold, IsUntold}
use Rattle.raft_log_engine_laws.specs.Rewriting.{CountsAlone}
use Rattle.raft_log_engine_laws.proofs.Public.{bytes_of, says_marked}
use Rattle.raft_log_record_items.specs.declared.raw_message.RawMessage.{RawMessage}
use Rattle.raft_log_purge_copy.specs.Entries.{AreEntryBytes, as_bytes}
use Rattle.raft_log_purge_copy.specs.Lengths.{AreOfGroup, AreOnePiece, AreValuesIn, IsOneMark, OwesTooMuch}
use Rattle.raft_log_purge_copy.specs.Owed.{SaysMarks}
use Rattle.raft_log_purge_copy.specs.Reasons.{FailsAtARecord, HasFileReason, HasMarkValue, HasPurgeReason, HasReason, IsOneUnread}
use Rattle.raft_log_purge_copy.specs.Refusals.{AreUnput, HasMark, IsOverlong, IsUnmade, IsUnrecorded}
use Rattle.raft_log_purge_copy.proofs.KeyCopies.{EachOf, each_listed}

-- What came before takes no cause away.

record_after : (error : Error) (s t u : EngineState) → IsLater s.pipes.disk t.pipes.disk → FailsAtARecord error t u → FailsAtARecord error s u
record_after error s t u later (fails, refused) = (
  fails_after s.pipes.disk t.pipes.disk u.pipes.disk later fails,
  record {
    before = refused.before;
    batch = refused.batch;
    earlier = later_then s.pipes.disk t.pipes.disk refused.before.disk later refused.earlier;
    alive = refused.alive;
    call = refused.call;
  },
)

pub reason_after : (home : LogDirectories) (m : LogMap) (error : Error) (s t u : EngineState) → IsLater s.pipes.disk t.pipes.disk → HasReason home m error t u → HasReason home m error s u
reason_after home m (errors.Io kind) s t u later (inl fails) = inl (record_after (errors.Io kind) s t u later fails)
reason_after home m (errors.Io kind) s t u later (inr unread) = inr unread
reason_after home m (errors.TryAgain text) s t u later fails = record_after (errors.TryAgain text) s t u later fails
reason_after home m errors.Failed s t u later fails = fails_after s.pipes.disk t.pipes.disk u.pipes.disk later fails
reason_after home m errors.NumberRange s t u later ends = ends
reason_after home m errors.Full s t u later long = long
reason_after home m (errors.InvalidArgument text) s t u later reason = reason
reason_after home m errors.Memory s t u later reason = reason
reason_after home m _ s t u later never = absurd never

-- of a purge, where no more is owed behind it
pub purge_reason_after : (home : LogDirectories) (m : LogMap) (error : Error) (s t u : EngineState) → IsLater s.pipes.disk t.pipes.disk → (OwesTooMuch t.tables → OwesTooMuch s.tables) → HasPurgeReason home m error t u → HasPurgeReason home m error s u
purge_reason_after home m error s t u later owes (inl reason) = inl (reason_after home m error s t u later reason)
purge_reason_after home m error s t u later owes (inr (full, long)) = inr (full, owes long)

pub overlong_after : (home : LogDirectories) (m : LogMap) (b : Batch) (error : Error) (s t u : EngineState) → IsLater s.pipes.disk t.pipes.disk → IsOverlong b error ⊎ HasReason home m error t u → IsOverlong b error ⊎ HasReason home m error s u
overlong_after home m b error s t u later (inl long) = inl long
overlong_after home m b error s t u later (inr reason) = inr (reason_after home m error s t u later reason)

pub file_reason_after : (error : Error) (s t u : EngineState) → IsLater s.pipes.disk t.pipes.disk → HasFileReason error t u → HasFileReason error s u
file_reason_after errors.Failed s t u later fails = fails_after s.pipes.disk t.pipes.disk u.pipes.disk later fails
file_reason_after errors.NumberRange s t u later ends = ends
file_reason_after errors.Memory s t u later reason = reason
file_reason_after _ s t u later never = absurd never

-- a reason of files is one
pub reason_of_files : (home : LogDirectories) (m : LogMap) (error : Error) (s t : EngineState) → HasFileReason error s t → HasReason home m error s t
reason_of_files home m errors.Failed s t fails = fails
reason_of_files home m errors.NumberRange s t ends = ends
reason_of_files home m errors.Memory s t reason = tt
reason_of_files home m _ s t never = absurd never

-- What isn't made.

-- memory ran out
pub memory_reason : (home : LogDirectories) (m : LogMap) (error : Error) (s t : EngineState) → error ≡ errors.Memory → HasReason home m error s t
memory_reason home m error s t is = subst (λ (e : Error). HasReason home m e s t) (sym is) tt

pub memory_unmade : (error : Error) → error ≡ errors.Memory → IsUnmade error
memory_unmade error is = subst IsUnmade (sym is) tt

pub memory_or_full_unmade : (error : Error) (len : ℕ) → IsMemoryOrFull error len → IsUnmade error
memory_or_full_unmade error len (inl memory) = memory_unmade error memory
memory_or_full_unmade error len (inr full) = subst IsUnmade (sym full.0) tt

pub entries_unmade : (error : Error) (held : ℕ) (indexes : List ℕ) (entries : List (List ℕ)) → IsEntriesRefusal error held indexes entries → IsUnmade error
entries_unmade errors.Memory held indexes entries why = tt
entries_unmade (errors.InvalidArgument text) held indexes entries why = tt
entries_unmade errors.Full held indexes entries why = tt
entries_unmade _ held indexes entries why = absurd why

pub keys_unmade : (error : Error) (g : ℕ) (pairs : List (List ℕ × List ℕ)) → AreUnput g pairs error → IsUnmade error
keys_unmade errors.Memory g pairs why = tt
keys_unmade (errors.InvalidArgument text) g pairs why = tt
keys_unmade _ g pairs why = absurd why

-- a record of what a group has in the map is too long
pub long_reason : (home : LogDirectories) (m : LogMap) (error : Error) (s t : EngineState) (g first : ℕ) (bytes : List (List ℕ)) (pairs : List (List ℕ × List ℕ)) (mark : List LogItem) (b : Batch) → IsOneMark mark
    → AreOfGroup g first bytes pairs mark b.items b.entries → AreOnePiece bytes → AreEntryBytes m g first bytes → AreValuesIn m g pairs → IsStrictlySortedBy (slice_cmp nat_cmp) (keys_of pairs) → IsOverlong b error → HasReason home m error s t
long_reason home m error s t g first bytes pairs mark b one made piece run values once (is, long) =
    subst (λ (e : Error). HasReason home m e s t) (sym is)
    (b.items, b.entries, record { group = g; first = first; bytes = bytes; pairs = pairs; mark = mark; one = one; made = made; piece = piece; run = run; values = values; once = once }, inr long)

-- that of the marks that are owed
pub marks_long_reason : (home : LogDirectories) (m : LogMap) (error : Error) (s t : EngineState) (b : Batch) → SaysMarks s.tables b → IsUnrecorded b error → HasPurgeReason home m error s t
marks_long_reason home m error s t b says (inl memory) = inl (memory_reason home m error s t memory)
marks_long_reason home m error s t b says (inr (is, long)) = inr (is, (b, says, long))

-- a key isn't put
mark_value_of : (m : LogMap) (g : ℕ) (pairs : List (List ℕ × List ℕ)) → AreValuesIn m g pairs → HasMark g pairs → HasMarkValue m
mark_value_of m g [] values mark = absurd mark
mark_value_of m g (e ∷ es) (value, rest) (inl (here, key)) =
    (e.1, subst (λ (k : List ℕ). m 0 (Key k) ≡ Some (Value e.1)) key (subst (λ (h : ℕ). m h (Key e.0) ≡ Some (Value e.1)) here value))
mark_value_of m g (e ∷ es) (value, rest) (inr mark) = mark_value_of m g es rest mark

pub keys_reason : (home : LogDirectories) (m : LogMap) (error : Error) (s t : EngineState) (g : ℕ) (pairs : List (List ℕ × List ℕ)) → AreValuesIn m g pairs → AreUnput g pairs error → HasReason home m error s t
keys_reason home m errors.Memory s t g pairs values why = tt
keys_reason home m (errors.InvalidArgument text) s t g pairs values why = mark_value_of m g pairs values why
keys_reason home m _ s t g pairs values why = absurd why

pub none_twice : IsStrictlySortedBy (slice_cmp nat_cmp) []
unfolding IsStrictlySortedBy
none_twice = tt

-- indexes from one on are a run
index_run : (first : ℕ) (indexes : List ℕ) → RisesFrom first indexes → (0 < length indexes → first + length indexes ≤ top) → IsIndexRun indexes
unfolding top
index_run first [] rise low = tt
index_run first (i ∷ is) (same, rise) low = ((refl, subst (λ (n : ℕ). RisesFrom (n + 1) is) (sym same) rise), (let end = low (omega arith) in omega (arith, same, end)))

-- entries aren't added
pub entries_reason : (home : LogDirectories) (m : LogMap) (error : Error) (s t : EngineState) (g first : ℕ) (indexes : List ℕ) (bytes : List (List ℕ)) → RisesFrom first indexes → (0 < length indexes → first + length indexes ≤ top) → length indexes ≡ length bytes
    → AreOnePiece bytes → AreEntryBytes m g first bytes → IsEntriesRefusal error 0 indexes bytes → HasReason home m error s t
entries_reason home m errors.Memory s t g first indexes bytes rise low same piece run why = tt
entries_reason home m (errors.InvalidArgument text) s t g first indexes bytes rise low same piece run (none, told) = absurd (none (same, index_run first indexes rise low))
entries_reason home m errors.Full s t g first indexes bytes rise low same piece run (is, long) =
    let items : List LogItem = (entries_items g 0 indexes bytes ++ []) ++ [] in
    let joins = joined-length bytes in (
      items,
      joined bytes,
      record {
        group = g;
        first = first;
        bytes = bytes;
        pairs = [];
        mark = [];
        one = inl refl;
        made = record { indexes = indexes; rise = rise; are = refl; joins = refl };
        piece = piece;
        run = run;
        values = tt;
        once = none_twice;
      },
      inl (omega (arith, joins, long)),
    )
entries_reason home m _ s t g first indexes bytes rise low same piece run why = absurd why

-- Values of a group are those of the map.

value_stands : (at : Located → List ℕ) (o : Option (List ℕ)) → option_map (renamed_content at) (option_map Value o) ≡ option_map Value o
value_stands at None = refl
value_stands at (Some w) = refl

value_held : (home : LogDirectories) (m : LogMap) (e : EngineState) → Represents home e m [] → (g : ℕ) (k w : List ℕ) → bytes_held ((e.tables g).held k) ≡ Some w → m g (Key k) ≡ Some (Value w)
value_held home m e h g k w is =
    subst (λ (n : LogMap). n g (Key k) ≡ Some (Value w)) h.at.stands.map
    (sym (h.meant.meant g (Key k)) ∙ value_stands (entries_at h.state) (bytes_held ((e.tables g).held k)) ∙ ap (option_map Value) is)

asked_held : (gate : Option ℕ) (o : Option KeyValue) (w : List ℕ) → asked_bytes gate o ≡ Some w → bytes_held o ≡ Some w
asked_held gate None w is = is
asked_held gate (Some h) w is = at_bool (is_asked gate h) (λ b. (if b then Some h.bytes else None) ≡ Some w → Some h.bytes ≡ Some w) (λ _ e. e) (λ _ e. no_word w e) is

each_value : (home : LogDirectories) (m : LogMap) (e : EngineState) → Represents home e m [] → (g : ℕ) (gate : Option ℕ) (pairs : List (List ℕ × List ℕ)) → EachOf (λ k. asked_bytes gate ((e.tables g).held k)) pairs → AreValuesIn m g pairs
each_value home m e h g gate [] all = tt
each_value home m e h g gate (p ∷ ps) (one, rest) = (value_held home m e h g p.0 p.1 (asked_held gate ((e.tables g).held p.0) p.1 one), each_value home m e h g gate ps rest)

pub values_in : (home : LogDirectories) (m : LogMap) (e : EngineState) → Represents home e m [] → (g : ℕ) (gate : Option ℕ) (pairs : List (List ℕ × List ℕ)) → ListsAll (λ k. asked_bytes gate ((e.tables g).held k)) pairs → AreValuesIn m g pairs
values_in home m e h g gate pairs lists = each_value home m e h g gate pairs (each_listed (λ k. asked_bytes gate ((e.tables g).held k)) pairs lists.rising lists.exact)

-- that isn't told as a failure, and nothing has failed
pub tells_nothing : (error : Error) (w : LogPipes) → is_failed w ≡ false → (error ≡ errors.Failed → ⊥) → IsTrue (is_failed w) ↔ (error ≡ errors.Failed)
tells_nothing error w lives other = (λ hit. absurd (false≢true (sym lives ∙ hit)), λ is. absurd (other is))

pub memory_is_none : (error : Error) → error ≡ errors.Memory → error ≡ errors.Failed → ⊥
memory_is_none error memory failed = (let never : ⊥ = cc in never)

-- What Rewrite and the files refused.

alive_of : (log : LogSense) (v : LogPipes) (s : State) → RunsOn log v s → is_failed v ≡ false
alive_of log v s runs = ap (λ b. b || v.rewrite.failed) runs.append.alive ∙ runs.rewrite.alive

refused_now : (home : LogDirectories) (error : Error) (s t : EngineState) (log : State) (b : Batch) → RunsOn (sense home) s.pipes log → Fails s.pipes.disk t.pipes.disk → PipeFailsToAppend InRewrite (signed_for b) error s.pipes t.pipes
    → FailsAtARecord error s t
refused_now home error s t log b runs fails told = (
  fails,
  record { before = s.pipes; batch = b; earlier = later_same s.pipes.disk; alive = alive_of (sense home) s.pipes log runs; call = told },
)

pub record_reason : (home : LogDirectories) (m : LogMap) (error : Error) (s t : EngineState) (log : State) (y : LogRecordValue) (b : Batch) → RunsOn (sense home) s.pipes log
    → SaysRecord said_by (log_layout Rewrite home.rewrite) Rewrite (signed_for b) y → FailsToAppendTo InRewrite (signed_for b) error s.pipes t.pipes → EndsNumbersAt InRewrite (signed_for b) error s.pipes t.pipes
    → PipeFailsToAppend InRewrite (signed_for b) error s.pipes t.pipes → HasReason home m error s t
record_reason home m (errors.Io kind) s t log y b runs says call ends told = inl (refused_now home (errors.Io kind) s t log b runs (call (sense home) log y runs says).0 told)
record_reason home m (errors.TryAgain text) s t log y b runs says call ends told = refused_now home (errors.TryAgain text) s t log b runs (call (sense home) log y runs says).0 told
record_reason home m errors.NumberRange s t log y b runs says call ends told = (InRewrite, (ends refl (sense home) log y runs says).0)
record_reason home m errors.Memory s t log y b runs says call ends told = tt
record_reason home m errors.Failed s t log y b runs says call ends told = (call (sense home) log y runs says).0
record_reason home m _ s t log y b runs says call ends told = absurd (call (sense home) log y runs says)

-- of a batch that counts by itself
pub alone_reason : (home : LogDirectories) (m : LogMap) (error : Error) (s t : EngineState) (log : State) (b : Batch) → CountsAlone b → RunsOn (sense home) s.pipes log → FailsToAppendTo InRewrite (signed_for b) error s.pipes t.pipes
    → EndsNumbersAt InRewrite (signed_for b) error s.pipes t.pipes → PipeFailsToAppend InRewrite (signed_for b) error s.pipes t.pipes → HasReason home m error s t
alone_reason home m error s t log b alone runs call ends told =
    record_reason home m error s t log (Plain (bytes_of b)) b runs (says_marked home b Unmarked (Plain (bytes_of b)) alone.some alone.plain refl alone.says alone.laid) call ends told

pub sync_reason : (which : Which) (home : LogDirectories) (m : LogMap) (error : Error) (s t : EngineState) (log : State) → RunsOn (sense home) s.pipes log → error ≡ errors.Failed → FailsToSyncQueue which s.pipes t.pipes → HasReason home m error s t
sync_reason which home m error s t log runs is call = subst (λ (e : Error). HasReason home m e s t) (sym is) (call (sense home) log runs).0

-- the last file of a queue is the log's
still_last : (which : Which) (log : LogSense) (v w : LogPipes) (s : State) → RunsOn log v s → RunsOn log w s → HasLastNumber which v → HasLastNumber which w
still_last InAppend log v w s runs still last = subst (λ (n : ℕ). 10 ^ 16 ≤ suc n) (runs.run.append.pipe.number ∙ sym still.run.append.pipe.number) last
still_last InRewrite log v w s runs still last = subst (λ (n : ℕ). 10 ^ 16 ≤ suc n) (runs.run.rewrite.pipe.number ∙ sym still.run.rewrite.pipe.number) last

pub turn_reason : (which : Which) (home : LogDirectories) (error : Error) (s t : EngineState) (log : State) → RunsOn (sense home) s.pipes log → FailsToRotateQueue which error s.pipes t.pipes → EndsNumbers which error s.pipes → HasFileReason error s t
turn_reason which home errors.Memory s t log runs call ends = tt
turn_reason which home errors.NumberRange s t log runs call ends = (which, still_last which (sense home) s.pipes t.pipes log runs (call (sense home) log runs).0 (ends refl (sense home) log runs))
turn_reason which home errors.Failed s t log runs call ends = (call (sense home) log runs).0
turn_reason which home _ s t log runs call ends = absurd (call (sense home) log runs)

-- a file of the span is one
pub purge_reason : (which : Which) (n : ℕ) (home : LogDirectories) (error : Error) (s t : EngineState) (log : State) → RunsOn (sense home) s.pipes log → IsInSpan n (pipe_at which (files_of s.pipes)) → FailsToPurgeQueue which n error s.pipes t.pipes
    → EndsNumbersBelow which error s.pipes → HasFileReason error s t
purge_reason which n home errors.Memory s t log runs within call ends = tt
purge_reason which n home (errors.Other fault) s t log runs within call ends = absurd ((call (sense home) log runs).0 within)
purge_reason which n home errors.NumberRange s t log runs within call ends = absurd ((ends refl).1 (sense home) log runs)
purge_reason which n home errors.Failed s t log runs within call ends = (call (sense home) log runs).0
purge_reason which n home _ s t log runs within call ends = absurd (call (sense home) log runs)

-- What isn't read.

-- the errors of reading a block, and an entry in it
abbrev pub IsOfBlock : Error → Type 0
IsOfBlock (errors.Io kind) = Unit {0}
IsOfBlock (errors.Corruption text) = Unit {0}
IsOfBlock errors.Memory = Unit {0}
IsOfBlock _ = ⊥

-- and of what is to be read
abbrev pub IsOfReading : Error → Type 0
IsOfReading (errors.InvalidArgument text) = Unit {0}
IsOfReading (errors.Io kind) = Unit {0}
IsOfReading (errors.Corruption text) = Unit {0}
IsOfReading errors.Memory = Unit {0}
IsOfReading _ = ⊥

-- a block has no fault of a number
either_is : (b : Bool) (x y : Result (List ℕ) Fault) (c : CodecError) → (x ≡ Err (number c) → ⊥) → (y ≡ Err (number c) → ⊥) → (if b then x else y) ≡ Err (number c) → ⊥
either_is true x y c one other is = one is
either_is false x y c one other is = other is

no_fault : (xs : List ℕ) (c : CodecError) → ◌≡◌ {A = Result (List ℕ) Fault} (Ok xs) (Err (number c)) → ⊥
no_fault xs c is = (let never : ⊥ = cc in never)

other_fault : (text : List ℕ) (c : CodecError) → ◌≡◌ {A = Result (List ℕ) Fault} (Err (corrupt text)) (Err (number c)) → ⊥
other_fault text c is = (let never : ⊥ = cc in never)

no_number : (bytes : List ℕ) (c : CodecError) → block_of bytes ≡ Err (number c) → ⊥
unfolding block_of
no_number bytes c is =
    let entries = take (length bytes - 4) bytes in
    let sums = from_le_bytes w32 (drop (length bytes - 4) bytes) == crc32_of entries in
    let summed : Result (List ℕ) Fault = if sums then Ok entries else Err (corrupt block_mismatch) in
    let short : Result (List ℕ) Fault = Err (corrupt (block_too_short (length bytes))) in
    either_is (length bytes == 0) (Ok []) (if nat_lt (length bytes) 4 then short else summed) c (no_fault [] c)
    (either_is (nat_lt (length bytes) 4) short summed c (other_fault (block_too_short (length bytes)) c) (either_is sums (Ok entries) (Err (corrupt block_mismatch)) c (no_fault entries c) (other_fault block_mismatch c))) is

refused_read : (files : PipeFiles) (block : FileBlockHandle) (d : Disk) (error : Error) → IsReadRefused files block d error → IsOfBlock error
refused_read files block d (errors.Io kind) why = tt
refused_read files block d (errors.Corruption text) why = tt
refused_read files block d errors.Memory why = tt
refused_read files block d _ (inl unlisted) = absurd unlisted
refused_read files block d _ (inr (handle, listed, refused)) = absurd refused

faulty_block : (bytes : List ℕ) (error : Error) → FailsToRead error (block_of bytes) → IsOfBlock error
faulty_block bytes errors.Memory why = tt
faulty_block bytes (errors.Codec c) why = absurd (no_number bytes c why)
faulty_block bytes (errors.Corruption text) why = tt
faulty_block bytes _ why = absurd why

unread_block : (v : LogPipes) (block : FileBlockHandle) (error : Error) → IsBlockUnread v block error → IsOfBlock error
unread_block v block error (inl refused) = refused_read (pipe_at (which_of block.id.queue) (files_of v)) block v.disk error refused
unread_block v block error (inr (bytes, stands, faulty)) = faulty_block bytes error faulty

unparsed : (bytes : List ℕ) (error : Error) → Parses {M = RawMessage} (Err error) (as_bytes bytes) → IsOfBlock error
unparsed bytes errors.Memory why = tt
unparsed bytes (errors.Message text) why = absurd (let never : ⊥ = cc in never)
unparsed bytes _ why = absurd why

of_block : (error : Error) → IsOfBlock error → IsOfReading error
of_block (errors.Io kind) of = tt
of_block (errors.Corruption text) of = tt
of_block errors.Memory of = tt
of_block _ of = absurd of

unplaced : (e : EntryIndex) (error : Error) → IsUnplaced e error → IsOfReading error
unplaced e errors.Memory why = tt
unplaced e (errors.InvalidArgument text) why = tt
unplaced e _ why = absurd why

no_entry : (offset len : ℕ) (cache : BlockCache) (error : Error) → IsNoEntry offset len cache error → IsOfBlock error
no_entry offset len cache errors.Memory why = tt
no_entry offset len cache (errors.Corruption text) why = tt
no_entry offset len cache _ why = absurd why

unread_entry : (v : LogPipes) (e : EntryIndex) (old new : BlockCache) (error : Error) → IsEntryUnread as_bytes v e old new error → IsOfReading error
unread_entry v e old new error (inl (none, same)) = unplaced e error none
unread_entry v e old new error (inr (block, placed, inl (unread, none, apart))) = of_block error (unread_block v block error unread)
unread_entry v e old new error (inr (block, placed, inr (kept, inl none))) = of_block error (no_entry e.entry_offset e.entry_len new error none)
unread_entry v e old new error (inr (block, placed, inr (kept, inr none))) = of_block error (unparsed (part e.entry_offset e.entry_len new.bytes.items) error none)

pub unread_entries : (v : LogPipes) (es : List EntryIndex) (old new : BlockCache) (error : Error) → AreUnread as_bytes v es old new error → IsOfReading error
unread_entries v [] old new error (memory, same) = subst IsOfReading (sym memory) tt
unread_entries v (e ∷ es) old new error (inl (memory, same)) = subst IsOfReading (sym memory) tt
unread_entries v (e ∷ es) old new error (inr (inl unread)) = unread_entry v e old new error unread
unread_entries v (e ∷ es) old new error (inr (inr (next, m, one, rest))) = unread_entries v es next new error rest

-- no refused reading is told as a failure
pub unread_is_none : (v : LogPipes) (es : List EntryIndex) (old new : BlockCache) (error : Error) → AreUnread as_bytes v es old new error → error ≡ errors.Failed → ⊥
unread_is_none v es old new error unread is = subst IsOfReading is (unread_entries v es old new error unread)

-- an entry of the map isn't told: its file wasn't read, or memory ran out
of_untold : (home : LogDirectories) (m : LogMap) (error : Error) (s t : EngineState) (block : FileBlockHandle) (bytes : List ℕ) → IsFileUnread t.pipes block error ⊎ Parses {M = RawMessage} (Err error) (as_bytes bytes) → IsOneUnread home m t error
    → HasReason home m error s t
of_untold home m (errors.Io kind) s t block bytes why unread = inr unread
of_untold home m errors.Memory s t block bytes why unread = tt
of_untold home m (errors.Message text) s t block bytes (inl file) unread = absurd file
of_untold home m (errors.Message text) s t block bytes (inr none) unread = absurd (let never : ⊥ = cc in never)
of_untold home m _ s t block bytes (inl file) unread = absurd file
of_untold home m _ s t block bytes (inr none) unread = absurd none

-- with another block it is so still
with_block : (g i : ℕ) (s : EngineState) (new : BlockCache) (m : LogMap) (error : Error) → IsUntold as_bytes g i s m error → IsUntold as_bytes g i (record s { cache = new }) m error
with_block g i s new m error u = record { entry = u.entry; block = u.block; bytes = u.bytes; stands = u.stands; placed = u.placed; maps = u.maps; why = u.why }

-- of entries of the map one isn't read: nothing was done but that
pub untold_reason : (home : LogDirectories) (m : LogMap) (error : Error) (s : EngineState) (new : BlockCache) → Represents home (record s { cache = new }) m [] → (g begin end : ℕ) → IsOneUntold as_bytes g begin end s m error
    → HasReason home m error s (record s { cache = new })
untold_reason home m error s new h g begin end (inl memory) = memory_reason home m error s (record s { cache = new }) memory
untold_reason home m error s new h g begin end (inr (i, low, high, untold)) =
    of_untold home m error s (record s { cache = new }) untold.block untold.bytes untold.why (h, g, i, with_block g i s new m error untold)

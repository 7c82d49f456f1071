-- A record that is written to Rewrite, or refused there, goes on with an engine's log.
use Rattle.std.proofs.Common.{◌≡◌, ℕ, ◌≤◌, Bool, true, false, if◌then◌else◌, nat_lt, None, List, [], ◌∷◌, ◌++◌, map, inl, inr, refl, sym, ap, subst, ◌∙◌, arith}
use Rattle.std.specs.Prelude.{◌⊎◌, Option, Some, unwrap_or}
use Rattle.raft_log_model_laws.specs.Item.{Item, Tagged}
use Rattle.raft_log_model_laws.specs.Item.Item.{Clean, Compact, Del}
use Rattle.raft_log_model_laws.specs.Item.Record.{Plain}
use Rattle.raft_log_model_laws.specs.Groups.{of_group, taken}
use Rattle.raft_log_model_laws.specs.Renamed.{renamed}
use Rattle.raft_log_model_laws.proofs.Public.{of_group_renamed}
use Rattle.raft_log_file_writer.specs.LogQueue.{LogFiles}
use Rattle.raft_log_record_base.specs.declared.errors.Error.{Error}
use Rattle.raft_log_record_base.specs.declared.errors.Error.TheVariants as errors
use Rattle.raft_log_record_base.specs.declared.pipe_log.LogQueue.TheVariants.{Rewrite}
use Rattle.raft_log_record_base.specs.declared.pipe_log.FileBlockHandle.{FileBlockHandle}
use Rattle.raft_log_record_base.specs.declared.pipe_log.LogFileContext.{LogFileContext}
use Rattle.raft_log_record_items.specs.declared.entry.EntryIndex.{EntryIndex}
use Rattle.raft_log_active_file.specs.declared.record.LogRecord.{LogRecord}
use Rattle.raft_log_machine_laws.specs.Whereabouts.{top}
use Rattle.raft_log_record_frames.specs.declared.marking.Marking.{Marking}
use Rattle.raft_log_record_frames.specs.declared.marking.Marking.TheVariants.{Unmarked}
use Rattle.raft_log_record_frames.specs.Marking.{marking_of_items}
use Rattle.raft_log_record_frames.specs.Meaning.{marked, tagged_items}
use Rattle.raft_log_record_batches.specs.Batch.{Batch}
use Rattle.raft_log_record_batches.specs.Places.{entry_bytes}
use Rattle.raft_log_block_cache.specs.Signing.{SaysItself, signed_for}
use Rattle.raft_log_machine_laws.specs.Calls.{Appends, MayAppend}
use Rattle.raft_log_machine_laws.specs.Calls.Which.{InRewrite}
use Rattle.raft_log_machine_laws.specs.Log.{IsAt, IsLog, View}
use Rattle.raft_log_machine_laws.specs.Tables.{CarriesTo}
use Rattle.raft_log_machine_laws.proofs.Public.{copies_answered, copies_may_be_there, cut_back_settles, rewrite_left_out, rewrite_settles}
use Rattle.raft_log_memtable_index.specs.Shown.{Shown}
use Rattle.raft_log_memtable_index.specs.Bridge.{dels, marks, unmarked, without}
use Rattle.raft_log_block_cache.specs.raft_log_memtables.specs.Owing.{AreOwedAt}
use Rattle.raft_log_block_cache.specs.raft_log_memtables.proofs.Public.{items_renamed, marks_on}
use Rattle.raft_log_block_cache.specs.raft_log_dual_pipes.specs.Crash.{AllowsIn}
use Rattle.raft_log_block_cache.specs.raft_log_dual_pipes.specs.Queues.{SaysRecord}
use Rattle.raft_log_block_cache.specs.raft_log_dual_pipes.specs.Own.{log_layout}
use Rattle.raft_log_block_cache.specs.raft_log_dual_pipes.specs.OpenOrClosed.{both_open, with_open}
use Rattle.raft_log_block_cache.specs.raft_log_dual_pipes.specs.State.{Ties}
use Rattle.raft_log_block_cache.specs.raft_log_dual_pipes.specs.Steps.{next_log}
use Rattle.raft_log_block_cache.specs.raft_log_dual_pipes.specs.Turning.{HasLast, IsCutBack}
use Rattle.raft_log_block_cache.specs.Stored.{AreStored, KeepsBytes, KeepsLog, entries_at}
use Rattle.raft_log_block_cache.proofs.Public.{calls_keep_bytes, calls_keep_log, stored_entries_stay}
use Rattle.raft_log_block_cache.specs.raft_log_memtables.specs.Views.{AreMeant, ViewCarries, view_of}
use Rattle.raft_log_block_cache.specs.raft_log_dual_pipes.specs.Pipes.{LogPipes, RunsOn, LogRecordValue, State, files_of, header_at, spares_at}
use Rattle.raft_log_block_cache.specs.raft_log_dual_pipes.specs.Calls.{AppendsTo, CutsBackOn, FailsToAppendTo, LeavesOutOn}
use Rattle.raft_log_engine_laws.specs.EngineState.{LogDirectories, IsLaidOut, IsWellMarked, KeepsOrForgets, LogMap, EngineState, log_in, said_by, said_of, sense}
use Rattle.raft_log_engine_laws.specs.Holding.{FilesRiseIn, Represents, NotesEndIn}
use Rattle.raft_log_engine_laws.proofs.Keeping.{notes_on, rise_on, stays_cached}
use Rattle.raft_log_engine_laws.proofs.Growing.{read_is_said}
use Rattle.raft_log_engine_laws.specs.Rewriting.{CountsAlone, RewriteLeaves, SaysOwed}
use Rattle.raft_log_engine_laws.specs.Settled.{HoldsSettled, SameTables}
use Rattle.raft_log_engine_laws.proofs.Settling.{held_on, left_whole, settled_on}

-- What a batch that counts by itself says.

-- the items of a batch, each entry told by its bytes
abbrev pub bytes_of : Batch → List (Tagged (List ℕ) (List ℕ))
bytes_of b = tagged_items (entry_bytes b.entries) b.items

-- the record of a batch says what the batch does with its mark, if that isn't broken
pub says_marked : (home : LogDirectories) (b : Batch) (k : Marking) (y : LogRecordValue) → (b.items ≡ [] → ⊥) → marking_of_items b.items ≡ k → marked k (bytes_of b) ≡ Some y → SaysItself (signed_for b) b → IsLaidOut b
    → SaysRecord said_by (log_layout Rewrite home.rewrite) Rewrite (signed_for b) y
says_marked home b k y some mark is says laid =
    subst (λ (x : LogRecordValue). SaysRecord said_by (log_layout Rewrite home.rewrite) Rewrite (signed_for b) x) (read_is_said b whole laid ∙ said) (says some said_by Rewrite home.rewrite)
  where
    whole : IsWellMarked b
    whole broken = (let clash : ◌≡◌ {A = Option LogRecordValue} None (Some y) = ap (λ (j : Marking). marked j (bytes_of b)) (sym broken ∙ mark) ∙ is in let never : ⊥ = cc in never)

    said : said_of b ≡ y
    said = ap (λ (j : Marking). unwrap_or (marked j (bytes_of b)) (Plain [])) mark ∙ ap (λ (o : Option LogRecordValue). unwrap_or o (Plain [])) is

says_alone : (home : LogDirectories) (b : Batch) → CountsAlone b → SaysRecord said_by (log_layout Rewrite home.rewrite) Rewrite (signed_for b) (Plain (bytes_of b))
says_alone home b alone = says_marked home b Unmarked (Plain (bytes_of b)) alone.some alone.plain refl alone.says alone.laid

-- Refused.

-- a record that was left out took nothing away
pub left_out_keeps : (s : State) (v : LogPipes) (files : LogFiles LogRecord)
    → (files ≡ s.rewrite.files) ⊎ IsCutBack (header_at InRewrite v) (spares_at InRewrite v) s.disk s.rewrite.files files → KeepsBytes s.rewrite.files files
left_out_keeps s v files (inl is) = subst (λ (q : LogFiles LogRecord). KeepsBytes s.rewrite.files q) (sym is) ((calls_keep_bytes {R = LogRecord}).same s.rewrite.files)
left_out_keeps s v files (inr cut) = (calls_keep_bytes {R = LogRecord}).cut_back (header_at InRewrite v) (spares_at InRewrite v) s.disk s.rewrite.files files cut

left_out : (home : LogDirectories) (e t : EngineState) (m : LogMap) (h : Represents home e m []) → SameTables e t → LeavesOutOn (sense home) InRewrite h.state e.pipes t.pipes → Represents home t m []
left_out home e t m h same call =
    let s = h.state in
    let (files, left, runs, step) = call in
    held_on home e t InRewrite s h.map h.stored h.rises h.noted h.meant h.cached same files (left_out_keeps s e.pipes files left) runs m []
    (rewrite_left_out (Ties (log_in home)) (AllowsIn (log_in home)) s (next_log InRewrite s files t.pipes.disk) (view_of e.tables h.map) m [] h.at step)

cut_back : (home : LogDirectories) (e t : EngineState) (m : LogMap) (h : Represents home e m []) → SameTables e t → CutsBackOn (sense home) InRewrite h.state e.pipes t.pipes → HoldsSettled home t m
cut_back home e t m h same call =
    let s = h.state in
    let (files, cut, runs, step) = call in
    settled_on home e t InRewrite s h.map h.stored h.rises h.noted h.meant h.cached same files ((calls_keep_bytes {R = LogRecord}).cut_back _ _ _ s.rewrite.files files cut) runs m
    (rewrite_settles (Ties (log_in home)) s (next_log InRewrite s files t.pipes.disk) (view_of e.tables h.map) m
    (cut_back_settles (Ties (log_in home)) s (next_log InRewrite s files t.pipes.disk) InRewrite step) h.at)

-- whatever the record says, if the log is so with it and without it
pub refusal_leaves : (home : LogDirectories) (e t : EngineState) (m : LogMap) (error : Error) (h : Represents home e m []) → SameTables e t → (signed : LogFileContext → List ℕ) (y : LogRecordValue)
    → SaysRecord said_by (log_layout Rewrite home.rewrite) Rewrite signed y
    → ((next : State) → MayAppend (Ties (log_in home)) (Ties (log_in home)) InRewrite y h.state next → IsLog (Ties (log_in home) next) m [])
    → FailsToAppendTo InRewrite signed error e.pipes t.pipes → RewriteLeaves home m t error
refusal_leaves home e t m (errors.Io kind) h same signed y says there call = cut_back home e t m h same (call (sense home) h.state y h.runs says).1
refusal_leaves home e t m (errors.TryAgain text) h same signed y says there call = cut_back home e t m h same (call (sense home) h.state y h.runs says).1
refusal_leaves home e t m errors.NumberRange h same signed y says there call = left_out home e t m h same (call (sense home) h.state y h.runs says)
refusal_leaves home e t m errors.Memory h same signed y says there call = left_out home e t m h same (call (sense home) h.state y h.runs says)
refusal_leaves home e t m errors.Failed h same signed y says there call =
    let (cause, (files, goes, stands, may)) = call (sense home) h.state y h.runs says in
    let next : State = next_log InRewrite h.state files t.pipes.disk in
    left_whole home (with_open InRewrite (both_open (files_of e.pipes)) None) next m [] stands (there next may)
refusal_leaves home e t m _ h same signed y says there call = call (sense home) h.state y h.runs says

pub record_refused : (home : LogDirectories) (e t : EngineState) (b : Batch) (m : LogMap) (error : Error) (h : Represents home e m []) → CountsAlone b → SameTables e t → (u : ℕ → View (List ℕ) (List ℕ))
    → ((n : ℕ) → CarriesTo (bytes_of b) n (view_of e.tables h.map) (u n)) → FailsToAppendTo InRewrite (signed_for b) error e.pipes t.pipes → RewriteLeaves home m t error
record_refused home e t b m error h alone same u carry call =
    refusal_leaves home e t m error h same (signed_for b) (Plain (bytes_of b)) (says_alone home b alone)
    (λ next may. copies_may_be_there (Ties (log_in home)) (Ties (log_in home)) h.state next (view_of e.tables h.map) m u (bytes_of b) may carry h.at) call

-- Written.

-- what is known once Rewrite has taken a record: it is the last one there, and what lay in the log lies there
-- still
pub record IsTaken (home : LogDirectories) (e t : EngineState) (m : LogMap) (h : Represents home e m []) (signed : LogFileContext → List ℕ) (y : LogRecordValue) (block : FileBlockHandle) : Type 0 where
  pub files : LogFiles LogRecord
  pub value : LogRecord
  pub last : HasLast signed value block files
  pub spans : h.state.rewrite.first ≤ files.last
  pub keeps : KeepsLog h.state (next_log InRewrite h.state files t.pipes.disk)
  pub runs : RunsOn (sense home) t.pipes (next_log InRewrite h.state files t.pipes.disk)
  pub step : Appends (Ties (log_in home)) InRewrite y block.id.seq h.state (next_log InRewrite h.state files t.pipes.disk)

pub record_taken : (home : LogDirectories) (e t : EngineState) (m : LogMap) (h : Represents home e m []) (signed : LogFileContext → List ℕ) (y : LogRecordValue) (block : FileBlockHandle)
    → SaysRecord said_by (log_layout Rewrite home.rewrite) Rewrite signed y → AppendsTo InRewrite signed block e.pipes t.pipes → IsTaken home e t m h signed y block
record_taken home e t m h signed y block says call =
    let s = h.state in
    let (files, has, last, runs, step) = (call (sense home) s y h.runs says).1 in
    let keeps = (calls_keep_bytes {R = LogRecord}).taken _ _ _ s.rewrite.files files has in
    let above = h.at.there.rewrite.above in record {
      files = files;
      value = says.value;
      last = last;
      spans = omega (arith, above, keeps.last);
      keeps = calls_keep_log InRewrite s files t.pipes.disk keeps;
      runs = runs;
      step = step;
    }

-- the tables show what the record makes of them
pub held_taken : (home : LogDirectories) (e t : EngineState) (m : LogMap) (h : Represents home e m []) (signed : LogFileContext → List ℕ) (y : LogRecordValue) (block : FileBlockHandle) (k : IsTaken home e t m h signed y block)
    → (u : ℕ → Shown) → t.tables ≡ u → KeepsOrForgets e t → AreStored (next_log InRewrite h.state k.files t.pipes.disk) u → FilesRiseIn (next_log InRewrite h.state k.files t.pipes.disk) u
    → NotesEndIn (next_log InRewrite h.state k.files t.pipes.disk) u
    → AreMeant (entries_at (next_log InRewrite h.state k.files t.pipes.disk)) u h.map → IsAt (Ties (log_in home) (next_log InRewrite h.state k.files t.pipes.disk)) (view_of u h.map) m []
    → Represents home t m []
held_taken home e t m h signed y block k u same kept stored rises noted meant at =
    let next : State = next_log InRewrite h.state k.files t.pipes.disk in record {
      state = next;
      map = h.map;
      runs = k.runs;
      stored = subst (λ v. AreStored next v) (sym same) stored;
      rises = subst (λ v. FilesRiseIn next v) (sym same) rises;
      noted = subst (λ v. NotesEndIn next v) (sym same) noted;
      meant = subst (λ v. AreMeant (entries_at next) v h.map) (sym same) meant;
      cached = stays_cached h.state next k.keeps e.cache t.cache kept h.cached;
      at = subst (λ v. IsAt (Ties (log_in home) next) (view_of v h.map) m []) (sym same) at;
    }

pub record_written : (home : LogDirectories) (e t : EngineState) (b : Batch) (block : FileBlockHandle) (m : LogMap) (h : Represents home e m []) → CountsAlone b → (call : AppendsTo InRewrite (signed_for b) block e.pipes t.pipes)
    → (u : ℕ → Shown) → t.tables ≡ u → KeepsOrForgets e t
    → ((s : State) (r : LogRecord) → HasLast (signed_for b) r block s.rewrite.files → s.rewrite.first ≤ s.rewrite.files.last → AreStored s e.tables → FilesRiseIn s e.tables → NotesEndIn s e.tables → AreMeant (entries_at s) e.tables h.map
    → AreStored s u × FilesRiseIn s u × NotesEndIn s u × ViewCarries (entries_at s) block.id.seq e.tables u h.map (bytes_of b)) → Represents home t m []
record_written home e t b block m h alone call u same kept carry =
    let k = record_taken home e t m h (signed_for b) (Plain (bytes_of b)) block (says_alone home b alone) call in
    let next : State = next_log InRewrite h.state k.files t.pipes.disk in
    let stays = stored_entries_stay h.state next k.keeps e.tables h.stored in
    let (stored, rises, noted, view) =
    carry next k.value k.last k.spans stays.0 (rise_on h.state next k.keeps e.tables h.rises) (notes_on h.state next k.keeps e.tables h.noted) (stays.1 h.map h.meant) in
    held_taken home e t m h (signed_for b) (Plain (bytes_of b)) block k u same kept stored rises noted view.meant
    (copies_answered (Ties (log_in home)) (AllowsIn (log_in home)) h.state next (view_of e.tables h.map) m (view_of u h.map) (bytes_of b) block.id.seq k.step view.carries h.at)

-- Marks.

marks_renamed : {E : Type 0} (f : EntryIndex → E) (v : Shown) (ks : List (List ℕ)) → map (renamed f) (marks v ks) ≡ marks v ks
marks_renamed {E = E} f v ks = clean v.cleaned v.compacted (if nat_lt 0 v.rewritten then v.first else top)
  where
    deletes : (ls : List (List ℕ)) → ◌≡◌ {A = List (Item E (List ℕ))} (map (renamed f) (dels ls)) (dels ls)
    deletes [] = refl
    deletes (l ∷ ls) = ap (λ (xs : List (Item E (List ℕ))). Del l ∷ xs) (deletes ls)

    compact : (b : Bool) (index : ℕ)
        → ◌≡◌ {A = List (Item E (List ℕ))} (map (renamed f) ((if b then Compact index ∷ [] else []) ++ dels ks)) ((if b then Compact index ∷ [] else []) ++ dels ks)
    compact true index = ap (λ (xs : List (Item E (List ℕ))). Compact index ∷ xs) (deletes ks)
    compact false index = deletes ks

    clean : (a b : Bool) (index : ℕ)
        → ◌≡◌ {A = List (Item E (List ℕ))} (map (renamed f) ((if a then Clean ∷ [] else []) ++ ((if b then Compact index ∷ [] else []) ++ dels ks)))
        ((if a then Clean ∷ [] else []) ++ ((if b then Compact index ∷ [] else []) ++ dels ks))
    clean true b index = ap (λ (xs : List (Item E (List ℕ))). Clean ∷ xs) (compact b index)
    clean false b index = compact b index

-- of each group the batch says its marks
marks_said : (b : Batch) (v : ℕ → Shown) (owed : (g : ℕ) → AreOwedAt (v g) (of_group g (tagged_items (λ e. e) b.items))) (g : ℕ) → of_group g (bytes_of b) ≡ marks (v g) (owed g).0
marks_said b v owed g =
    ap (of_group g) (sym (items_renamed (entry_bytes b.entries) b.items))
    ∙ (of_group_renamed (entry_bytes b.entries) g (tagged_items (λ e. e) b.items)
    ∙ (ap (map (renamed (entry_bytes b.entries))) (owed g).2 ∙ marks_renamed (entry_bytes b.entries) (v g) (owed g).0))

marks_carried : (home : LogDirectories) (e : EngineState) (b : Batch) (s : State) (n : ℕ) (map : LogMap) → SaysOwed b e.tables → AreMeant (entries_at s) e.tables map
    → ViewCarries (entries_at s) n e.tables (λ g. unmarked (e.tables g)) map (bytes_of b)
marks_carried home e b s n map says meant =
    marks_on (entries_at s) n e.tables map (λ g. (says.owed g).0) (bytes_of b) meant (λ g. (says.owed g).1.owed) (λ g. (says.owed g).1.all) (marks_said b e.tables says.owed)

-- marks that are carried change no place
marks_rise : (s : State) (v : ℕ → Shown) → FilesRiseIn s v → FilesRiseIn s (λ g. unmarked (v g))
marks_rise s v rises g = record { appended = (rises g).appended; rewritten = (rises g).rewritten; in_append = (rises g).in_append; in_rewrite = (rises g).in_rewrite }

pub marks_written : (home : LogDirectories) (e t : EngineState) (b : Batch) (block : FileBlockHandle) (m : LogMap) → Represents home e m [] → SaysOwed b e.tables → AppendsTo InRewrite (signed_for b) block e.pipes t.pipes
    → t.tables ≡ (λ g. unmarked (e.tables g)) → KeepsOrForgets e t → Represents home t m []
marks_written home e t b block m h says call same kept =
    record_written home e t b block m h says.alone call (λ g. unmarked (e.tables g)) same kept (λ s r last spans stored rises noted meant. (λ g. stored g, marks_rise s e.tables rises, noted, marks_carried home e b s block.id.seq h.map says meant))

pub marks_refused : (home : LogDirectories) (e t : EngineState) (b : Batch) (m : LogMap) (error : Error) → Represents home e m [] → SaysOwed b e.tables → SameTables e t
    → FailsToAppendTo InRewrite (signed_for b) error e.pipes t.pipes → RewriteLeaves home m t error
marks_refused home e t b m error h says same call =
    record_refused home e t b m error h says.alone same (λ n. view_of (λ g. unmarked (e.tables g)) h.map) (λ n. (marks_carried home e b h.state n h.map says h.meant).carries) call

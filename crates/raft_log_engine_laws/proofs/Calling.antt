-- A batch that was written, and a sync, are steps of an engine's log.
use Rattle.std.proofs.Common.{◌≡◌, ℕ, ◌≤◌, Bool, true, false, Some, List, [], ◌∷◌, ◌++◌, refl, sym, ap, subst, ◌∙◌, arith}
use Rattle.std.specs.Prelude.{◌^◌, ◌+◌, ◌<◌}
use Rattle.raft_log_model_laws.specs.Item.{Item, Tagged, items_of}
use Rattle.raft_log_model_laws.specs.Item.Item.{Run, Clean, Compact, Put, Del}
use Rattle.raft_log_model_laws.specs.Groups.{of_group, taken}
use Rattle.raft_log_machine_laws.proofs.Public.{append_answered, append_synced, no_word}
use Rattle.raft_log_fs.specs.Disk.{Disk}
use Rattle.raft_log_file_writer.specs.LogQueue.{LogFiles}
use Rattle.raft_log_record_base.specs.declared.pipe_log.LogQueue.TheVariants.{Append}
use Rattle.raft_log_record_base.specs.declared.pipe_log.FileBlockHandle.{FileBlockHandle}
use Rattle.raft_log_active_file.specs.declared.record.LogRecord.{LogRecord}
use Rattle.raft_log_record_frames.specs.Meaning.{tagged_items}
use Rattle.raft_log_record_batches.specs.Batch.{Batch}
use Rattle.raft_log_block_cache.specs.Signing.{SaysItself, record_said, signed_for}
use Rattle.raft_log_machine_laws.specs.Calls.Which.{InAppend}
use Rattle.raft_log_machine_laws.specs.Log.{IsAt, View}
use Rattle.raft_log_machine_laws.specs.Log.{ViewEndsAt as ViewEnds}
use Rattle.raft_log_extents.specs.declared.place.Place.{Place}
use Rattle.raft_log_memtable_index.specs.declared.group_files.GroupFiles.{GroupFiles}
use Rattle.raft_log_memtable_index.specs.Shown.{IsOrderly, Shown, all_stepped, stepped}
use Rattle.raft_log_memtable_index.specs.Noted.{FilesRise}
use Rattle.raft_log_memtable_index.proofs.Public.{rises_on}
use Rattle.raft_log_block_cache.specs.raft_log_memtables.specs.Batch.{MayFollowAll, all_shown}
use Rattle.raft_log_block_cache.specs.raft_log_dual_pipes.specs.Crash.{AllowsIn}
use Rattle.raft_log_block_cache.specs.raft_log_dual_pipes.specs.Queues.{SaysRecord}
use Rattle.raft_log_block_cache.specs.raft_log_dual_pipes.specs.Own.{log_layout}
use Rattle.raft_log_block_cache.specs.raft_log_dual_pipes.specs.State.{Ties}
use Rattle.raft_log_block_cache.specs.raft_log_dual_pipes.specs.Steps.{next_log}
use Rattle.raft_log_block_cache.specs.Stored.{AreStored, KeepsBytes, entries_at}
use Rattle.raft_log_block_cache.proofs.Public.{batch_whole, calls_keep_bytes, stored_entries_stay, taken_entries_are_stored, written_entries_are_stored}
use Rattle.raft_log_block_cache.specs.raft_log_memtables.specs.Views.{AreMeant, LieIn, view_of}
use Rattle.raft_log_block_cache.specs.raft_log_memtables.proofs.Public.{view_grows, written_in}
use Rattle.raft_log_active_file.specs.Queue.{synced}
use Rattle.raft_log_block_cache.specs.raft_log_dual_pipes.specs.Pipes.{LogPipes, RunsOn, LogRecordValue, State, queue_of}
use Rattle.raft_log_block_cache.specs.raft_log_dual_pipes.specs.Calls.{AppendsTo, SyncsQueue}
use Rattle.raft_log_engine_laws.specs.EngineState.{LogDirectories, KeepsOrForgets, LogMap, EngineState, log_in, said_by, said_of, sense}
use Rattle.raft_log_engine_laws.specs.Holding.{EndsAt, FilesRiseIn, Represents, NotesEndIn, RunsAs, RunsEnding}
use Rattle.raft_log_engine_laws.specs.Writing.{items_at}
use Rattle.raft_log_engine_laws.specs.Laws.{MayBeWritten}
use Rattle.raft_log_engine_laws.proofs.Renaming.{places_follow}
use Rattle.raft_log_engine_laws.proofs.Growing.{batch_grows, items_said, read_is_said}
use Rattle.raft_log_engine_laws.proofs.Keeping.{goes_on, keeps_log, stays_cached}

-- the record of a batch says what the batch says
pub says_batch : (home : LogDirectories) (e : EngineState) (b : Batch) → MayBeWritten e b → SaysRecord said_by (log_layout Append home.append) Append (signed_for b) (said_of b)
says_batch home e b ready =
    subst (λ (y : LogRecordValue). SaysRecord said_by (log_layout Append home.append) Append (signed_for b) y) (read_is_said b ready.marked ready.laid) (ready.says ready.some said_by Append home.append)

-- what goes into the last file of Append lies in no earlier one than all that stands there
taken_rises : (s : State) (files : LogFiles LogRecord) (d : Disk) (n : ℕ) (v : ℕ → Shown) (xs : List (Tagged Place (List ℕ))) → s.append.files.last ≤ files.last → n ≡ files.last
    → ((g : ℕ) → IsOrderly (v g)) → MayFollowAll v xs → LieIn n xs → FilesRiseIn s v → FilesRiseIn (next_log InAppend s files d) (all_shown n v xs)
taken_rises s files d n v xs later number orderly follows lie rises g =
    subst (λ (k : ℕ). FilesRise k s.rewrite.files.last (all_shown n v xs g)) number
    (rises_on s.append.files.last s.rewrite.files.last n (v g) (of_group g xs) (orderly g) (rises g) (omega (arith, later, number)) (follows g) (lie g))

-- nothing is noted in Append, and a Clean forgets what was
noted_before : (n : ℕ) (v : Shown) (xs : List (Item Place (List ℕ))) (files : GroupFiles) → (all_stepped n v xs).noted ≡ Some files → v.noted ≡ Some files
noted_before n v [] files is = is
noted_before n v (x ∷ xs) files is = one x (noted_before n (stepped n v x) xs files is)
  where
    one : (y : Item Place (List ℕ)) → (stepped n v y).noted ≡ Some files → v.noted ≡ Some files
    one (Run f []) e = e
    one (Run f (p ∷ ps)) e = e
    one Clean e = no_word files e
    one (Compact c) e = e
    one (Put k w) e = e
    one (Del k) e = e

taken_noted : (s : State) (files : LogFiles LogRecord) (d : Disk) (n : ℕ) (v : ℕ → Shown) (xs : List (Tagged Place (List ℕ))) → NotesEndIn s v
    → NotesEndIn (next_log InAppend s files d) (all_shown n v xs)
taken_noted s files d n v xs noted g these is = noted g these (noted_before n (v g) (of_group g xs) these is)

module _ (home : LogDirectories) (e : EngineState) (w : LogPipes) (b : Batch) (block : FileBlockHandle) (m : LogMap) (pending : List LogRecordValue) (h : Represents home e m pending) (ready : MayBeWritten e b) (call : AppendsTo InAppend (signed_for b) block e.pipes w) where
  abbrev after : ℕ → Shown
  after = all_shown block.id.seq e.tables (items_at block b)

  answer : (files : LogFiles LogRecord) × KeepsBytes h.state.append.files files × RunsOn (sense home) w (next_log InAppend h.state files w.disk)
      × AreStored (next_log InAppend h.state files w.disk) after
      × FilesRiseIn (next_log InAppend h.state files w.disk) after
      × AreMeant (entries_at (next_log InAppend h.state files w.disk)) after (taken h.map (said_of b ∷ []))
      × ViewEnds (Ties (log_in home) (next_log InAppend h.state files w.disk)) (view_of after (taken h.map (said_of b ∷ []))) m (pending ++ said_of b ∷ [])
  answer =
      let s = h.state in
      let says = says_batch home e b ready in
      let (files, has, last, runs, step) = (call (sense home) s (said_of b) h.runs says).1 in
      let t : State = next_log InAppend s files w.disk in
      let keeps = (calls_keep_bytes {R = LogRecord}).taken _ _ _ s.append.files files has in
      let stays = stored_entries_stay s t (keeps_log s files w.disk keeps) e.tables h.stored in
      let meant = stays.1 h.map h.meant in
      let follows = places_follow _ e.tables b.items ready.follows in
      let grow = batch_grows b block e.tables h.map h.meant.orderly ready.marked ready.follows in
      let ends = append_answered (Ties (log_in home)) (AllowsIn (log_in home)) s t (view_of e.tables h.map) m pending h.at (view_of after (taken h.map (said_of b ∷ []))) (said_of b) block.id.seq step grow in
      let tied = ends.at.there.append in
      let stand = written_entries_are_stored t says.value block b.items b.entries (omega (arith, tied.above)) (record { some = ready.some; laid = ready.laid.laid; adds = ready.laid.adds }) (batch_whole b ready.some ready.says) last in (
        files,
        keeps,
        runs,
        taken_entries_are_stored t block.id.seq e.tables (items_at block b) h.meant.orderly follows stays.0 stand.0,
        taken_rises s files w.disk block.id.seq e.tables (items_at block b) keeps.last last.number h.meant.orderly follows (written_in _ b.items) h.rises,
        (view_grows (entries_at t) block.id.seq e.tables h.map (items_at block b) (said_of b) meant follows (written_in _ b.items) (items_said b ready.marked ∙ sym stand.1)).meant,
        ends,
      )

  -- the batch is pending behind the others
  pub written : (t : EngineState) → t.pipes ≡ w → t.tables ≡ after → KeepsOrForgets e t → EndsAt home t m (pending ++ said_of b ∷ [])
  written t pipes tables kept =
      let (files, keeps, runs, stored, rises, meant, ends) = answer in
      let next : State = next_log InAppend h.state files w.disk in record {
        done = ends.done;
        rest = ends.rest;
        splits = ends.splits;
        holds = record {
          state = next;
          map = taken h.map (said_of b ∷ []);
          runs = subst (λ v. RunsOn (sense home) v next) (sym pipes) runs;
          stored = subst (λ v. AreStored next v) (sym tables) stored;
          rises = subst (λ v. FilesRiseIn next v) (sym tables) rises;
          noted = subst (λ v. NotesEndIn next v) (sym tables) (taken_noted h.state files w.disk block.id.seq e.tables (items_at block b) h.noted);
          meant = subst (λ v. AreMeant (entries_at next) v (taken h.map (said_of b ∷ []))) (sym tables) meant;
          cached = stays_cached h.state next (keeps_log h.state files w.disk keeps) e.cache t.cache kept h.cached;
          at = subst (λ v. IsAt (Ties (log_in home) next) (view_of v (taken h.map (said_of b ∷ []))) (taken m ends.done) ends.rest) (sym tables) ends.at;
        };
      }

-- the log goes on with the batch, whatever is told of its place
pub log_written : (home : LogDirectories) (e : EngineState) (w : LogPipes) (b : Batch) (block : FileBlockHandle) (m : LogMap) (pending : List LogRecordValue) → Represents home e m pending → MayBeWritten e b
    → AppendsTo InAppend (signed_for b) block e.pipes w → RunsEnding home w m (pending ++ said_of b ∷ [])
log_written home e w b block m pending h ready call =
    let s = h.state in
    let (files, has, last, runs, step) = (call (sense home) s (said_of b) h.runs (says_batch home e b ready)).1 in
    let t : State = next_log InAppend s files w.disk in
    let u : View (List ℕ) (List ℕ) = view_of (all_shown block.id.seq e.tables (items_at block b)) (taken h.map (said_of b ∷ [])) in
    let grow = batch_grows b block e.tables h.map h.meant.orderly ready.marked ready.follows in
    let ends = append_answered (Ties (log_in home)) (AllowsIn (log_in home)) s t (view_of e.tables h.map) m pending h.at u (said_of b) block.id.seq step grow in
    record { done = ends.done; rest = ends.rest; splits = ends.splits; runs = record { state = t; view = u; runs = runs; at = ends.at } }

-- A sync puts all batches on the map.
pub synced_all : (home : LogDirectories) (e t : EngineState) (m : LogMap) (pending : List LogRecordValue) → Represents home e m pending → t.tables ≡ e.tables → KeepsOrForgets e t → SyncsQueue InAppend e.pipes t.pipes → Represents home t (taken m pending) []
synced_all home e t m pending h same kept call =
    let s = h.state in
    let files : LogFiles LogRecord = synced s.append.files in
    let (runs, step) = call (sense home) s h.runs in
    let next : State = next_log InAppend s files t.pipes.disk in
    goes_on home e t m pending h same kept files ((calls_keep_bytes {R = LogRecord}).synced s.append.files) runs (taken m pending) []
    (append_synced (Ties (log_in home)) (AllowsIn (log_in home)) s next (view_of e.tables h.map) m pending h.at step)

pub log_synced : (home : LogDirectories) (v w : LogPipes) (m : LogMap) (pending : List LogRecordValue) → RunsAs home v m pending → SyncsQueue InAppend v w → RunsAs home w (taken m pending) []
log_synced home v w m pending h call =
    let s = h.state in
    let (runs, step) = call (sense home) s h.runs in
    let next : State = next_log InAppend s (synced s.append.files) w.disk in
    record { state = next; view = h.view; runs = runs; at = append_synced (Ties (log_in home)) (AllowsIn (log_in home)) s next h.view m pending h.at step }

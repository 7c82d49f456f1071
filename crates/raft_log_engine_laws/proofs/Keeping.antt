-- A call on Append keeps the places that an engine's tables show, and what is read there.
use Rattle.std.proofs.Common.{◌≡◌, ◌⊎◌, ℕ, ◌≤◌, None, List, [], ◌∷◌, ◌++◌, inl, inr, refl, sym, ap, subst, ◌∙◌, arith}
use Rattle.raft_log_fs.specs.Disk.{Disk}
use Rattle.raft_log_file_writer.specs.LogQueue.{LogFiles}
use Rattle.raft_log_active_file.specs.declared.record.LogRecord.{LogRecord}
use Rattle.raft_log_machine_laws.specs.Calls.Which.{InAppend}
use Rattle.raft_log_machine_laws.specs.Log.{IsAt, ViewEndsAt}
use Rattle.raft_log_model_laws.specs.Groups.{taken}
use Rattle.raft_log_block_cache.specs.raft_log_dual_pipes.specs.State.{Ties}
use Rattle.raft_log_block_cache.specs.raft_log_dual_pipes.specs.Steps.{next_log}
use Rattle.raft_log_block_cache.specs.Stored.{AreStored, KeepsBytes, KeepsLog, entries_at}
use Rattle.raft_log_block_cache.proofs.Public.{calls_keep_bytes, kept_blocks_stay, none_kept, stored_entries_stay}
use Rattle.raft_log_memtable_index.specs.Shown.{Shown}
use Rattle.raft_log_memtable_index.specs.Noted.{FilesRise}
use Rattle.raft_log_block_cache.specs.raft_log_memtables.specs.Views.{AreMeant, view_of}
use Rattle.raft_log_block_cache.specs.raft_log_dual_pipes.specs.Pipes.{LogPipes, RunsOn, LogRecordValue, State}
use Rattle.raft_log_block_cache.specs.declared.block_cache.BlockCache.{BlockCache}
use Rattle.raft_log_block_cache.specs.Blocks.{IsOfLog}
use Rattle.raft_log_engine_laws.specs.EngineState.{LogDirectories, KeepsOrForgets, LogMap, EngineState, log_in, sense}
use Rattle.raft_log_engine_laws.specs.Holding.{EndsAt, FilesRiseIn, Represents, NotesEndIn, RunsAs}

-- what Append's files keep the log keeps
pub keeps_log : (s : State) (files : LogFiles LogRecord) (d : Disk) → KeepsBytes s.append.files files → KeepsLog s (next_log InAppend s files d)
keeps_log s files d keeps = record {
  append = keeps;
  rewrite = (calls_keep_bytes {R = LogRecord}).same s.rewrite.files;
  append_first = omega arith;
  rewrite_first = omega arith;
}

-- files that don't fall still don't where the queues have gone on
rise_later : (a b r q : ℕ) (v : Shown) → a ≤ b → r ≤ q → FilesRise a r v → FilesRise b q v
rise_later a b r q v append rewrite rise = record {
  appended = rise.appended;
  rewritten = rise.rewritten;
  in_append = λ i low high. (let up = rise.in_append i low high in omega (arith, up, append));
  in_rewrite = λ i low high. (let up = rise.in_rewrite i low high in omega (arith, up, rewrite));
}

pub rise_on : (s t : State) → KeepsLog s t → (v : ℕ → Shown) → FilesRiseIn s v → FilesRiseIn t v
rise_on s t keeps v rises g =
    rise_later s.append.files.last t.append.files.last s.rewrite.files.last t.rewrite.files.last (v g) keeps.append.last keeps.rewrite.last (rises g)

-- and what was noted up to the last file of Rewrite is noted up to a later one
pub notes_on : (s t : State) → KeepsLog s t → (v : ℕ → Shown) → NotesEndIn s v → NotesEndIn t v
notes_on s t keeps v noted g files is = (let low = noted g files is in let later = keeps.rewrite.last in omega (arith, low, later))

-- an engine whose pipes run is one whose log runs
pub holds_runs : (home : LogDirectories) (e : EngineState) (m : LogMap) (pending : List LogRecordValue) → Represents home e m pending → RunsAs home e.pipes m pending
holds_runs home e m pending h = record { state = h.state; view = view_of e.tables h.map; runs = h.runs; at = h.at }

-- the block that was kept stays what was written at its place; where none is kept there is nothing to say
pub stays_cached : (s t : State) → KeepsLog s t → (old new : BlockCache) → (new ≡ old) ⊎ (new.place ≡ None) → IsOfLog s old → IsOfLog t new
stays_cached s t keeps old new (inl same) is = subst (IsOfLog t) (sym same) (kept_blocks_stay s t keeps old is)
stays_cached s t keeps old new (inr none) is = none_kept t new none

module _ (home : LogDirectories) (e t : EngineState) (m : LogMap) (pending : List LogRecordValue) (h : Represents home e m pending) (same : t.tables ≡ e.tables) (kept : KeepsOrForgets e t) where
  -- the same tables go on with a log that keeps theirs
  pub goes_on : (files : LogFiles LogRecord) → KeepsBytes h.state.append.files files → RunsOn (sense home) t.pipes (next_log InAppend h.state files t.pipes.disk)
      → (k : LogMap) (rest : List LogRecordValue) → IsAt (Ties (log_in home) (next_log InAppend h.state files t.pipes.disk)) (view_of e.tables h.map) k rest → Represents home t k rest
  goes_on files keeps runs k rest at =
      let next : State = next_log InAppend h.state files t.pipes.disk in
      let log = keeps_log h.state files t.pipes.disk keeps in
      let stays = stored_entries_stay h.state next log e.tables h.stored in record {
        state = next;
        map = h.map;
        runs = runs;
        stored = subst (λ v. AreStored next v) (sym same) stays.0;
        rises = subst (λ v. FilesRiseIn next v) (sym same) (rise_on h.state next log e.tables h.rises);
        noted = subst (λ v. NotesEndIn next v) (sym same) (notes_on h.state next log e.tables h.noted);
        meant = subst (λ v. AreMeant (entries_at next) v h.map) (sym same) (stays.1 h.map h.meant);
        cached = stays_cached h.state next log e.cache t.cache kept h.cached;
        at = subst (λ v. IsAt (Ties (log_in home) next) (view_of v h.map) k rest) (sym same) at;
      }

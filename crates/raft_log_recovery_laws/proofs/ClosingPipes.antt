-- A pipe that is closed: what its active file holds then, and what the rest of the close leaves of it.
use Rattle.std.proofs.Common.{◌≡◌, ℕ, ◌<◌, Some, List, [], ◌∷◌, ◌++◌, length, take, drop, reverse, refl, sym, ap, subst, ◌∙◌, arith, append-nil}
use Rattle.std.proofs.lemmas.List.{drop_at, take_at}
use Rattle.raft_log_fs.specs.Disk.{Disk, File, at_rest}
use Rattle.raft_log_fs.specs.Image.{IsSound}
use Rattle.raft_log_fs.specs.Touching.{HasFile, TouchesOnlyNames}
use Rattle.raft_log_fs.specs.declared.handle.Handle.{Handle}
use Rattle.raft_log_fs.proofs.Public.{has_weaker, same_file}
use Rattle.raft_log_file_writer.specs.LawsChains.{Written, spelled}
use Rattle.raft_log_file_writer.specs.LogFormat.{Format, IsFormat}
use Rattle.raft_log_file_writer.specs.LogQueue.{IsLeftover, IsPast, LogFiles, recent}
use Rattle.raft_log_file_writer.specs.Writer.{Closes, IsWritten}
use Rattle.raft_log_file_writer.specs.declared.writer.LogFileWriter.{LogFileWriter}
use Rattle.raft_log_file_writer.proofs.Public.{cut_handle}
use Rattle.raft_log_active_file.specs.Exits.{IsFinished}
use Rattle.raft_log_active_file.specs.LastFile.{IsPastTo}
use Rattle.raft_log_active_file.specs.Layout.{path_of}
use Rattle.raft_log_active_file.specs.Queue.{finished, settled, whole}
use Rattle.raft_log_active_file.proofs.Public.{finishes, is_written}
use Rattle.raft_log_file_pipe.specs.Closing.{AreBelow, IsSettledBy}
use Rattle.raft_log_file_pipe.specs.Files.{IsPipe, Listed}
use Rattle.raft_log_file_pipe.specs.declared.pipe_files.PipeFiles.{PipeFiles}
use Rattle.raft_log_file_pipe.proofs.Public.{finished_is_settled, path_numbered, pipe_below}
use Rattle.raft_log_dual_pipes.specs.Queues.{IsQueueLayout, QueueLayout}
use Rattle.raft_log_recovery_laws.specs.Running.{active_header, own_bytes}
use Rattle.raft_log_recovery_laws.proofs.ClosingCalls.{AreOwn, below_reversed, closes_touch}
use Rattle.raft_log_recovery_laws.proofs.LastCut.{finished_leftover}

-- A finished file.

module _ {R : Type 0} (F : Format R) (lawful : IsFormat F) (q : LogFiles R) where
  -- it has the same records if these count as durable
  pub past_settled : (file : File) → IsPast F q.last (finished q) file → IsPast F (settled q).last (finished (settled q)) file
  past_settled file past = subst (λ (ws : List (Written R)). IsPast F q.last (record { header = q.header; records = ws }) file) (sym (append-nil (recent q))) past

  -- all of it is read, and nothing else
  pub past_leftover : (file : File) → IsPast F q.last (finished q) file → IsLeftover F q file
  past_leftover file past =
      finished_leftover F lawful q q.header file (subst (λ (ws : List (Written R)). IsPast F q.last (record { header = q.header; records = ws }) file) (sym (append-nil (recent q))) past)

-- the queue's file of the last number is this one, and is finished
pub record IsAloneAt {R : Type 0} (F : Format R) (q : LogFiles R) (path : List ℕ) (id : ℕ) (d : Disk) : Type 0 where
  pub named : d.names path ≡ Some id
  pub file : HasFile id (IsPast F q.last (finished q)) d

-- it stays so where other paths change
pub alone_moved : {R : Type 0} (F : Format R) (q : LogFiles R) (path : List ℕ) (id : ℕ) (own : List ℕ → Type 0) (old new : Disk) → (own path → ⊥) → TouchesOnlyNames own old new → IsAloneAt F q path id old → IsAloneAt F q path id new
alone_moved F q path id own old new other only is = record {
  named = only.names path other ∙ is.named;
  file = record { file = is.file.file; is = only.files path id other is.named ∙ is.file.is; has = is.file.has };
}

-- A pipe.

module _ {R : Type 0} (layout : QueueLayout R) (told : IsQueueLayout layout) (files : PipeFiles) (q : LogFiles R) (base old : Disk) (is : IsPipe layout.format layout.own layout.paths base files q old) where
  abbrev pub active_path : List ℕ
  active_path = path_of layout.paths files.active

  pub active_own : layout.own active_path
  active_own = told.lawful.owns q.last active_path is.active.stands.bound is.active.stands.at

  pub active_written : IsWritten files.writer (whole q) old
  active_written = is_written layout.format layout.own told.lawful.format told.lawful.owns base files.writer q active_path old.names old is.active

  -- files that are kept for recycling are at paths with these properties
  all_own : (own : List ℕ → Type 0) → ((m : ℕ) (path : List ℕ) → m < q.last → m < layout.format.limit → layout.format.IsPath m path → own path) → (fs : List Listed) → AreBelow q.last fs → AreOwn layout.paths own fs
  all_own own they [] below = tt
  all_own own they (f ∷ fs) (lower, rest) = (
    λ listed.
        (let below = lower listed in
        let bound = is.active.stands.bound in
        let less : f.seq < layout.format.limit = omega (arith, below, bound) in
        they f.seq (path_of layout.paths f) below less (subst (layout.format.IsPath f.seq) (sym (path_numbered layout.paths f listed)) (told.lawful.numbered f.path_id f.seq less))),
    all_own own they fs rest,
  )

  kept_below : AreBelow q.last (reverse files.recycled.items)
  kept_below = below_reversed q.last files.recycled.items (pipe_below layout.format layout.own layout.paths told.lawful base files q old is)

  -- none is at the path of the active file
  pub kept_apart : AreOwn layout.paths (λ path. path ≡ active_path → ⊥) (reverse files.recycled.items)
  kept_apart = all_own (λ path. path ≡ active_path → ⊥)
      (λ m path below less at same.
      (let number : m ≡ q.last = told.lawful.format.paths m q.last path less is.active.stands.bound at (subst (layout.format.IsPath q.last) (sym same) is.active.stands.at) in
      omega (arith, number, below)))
      (reverse files.recycled.items) kept_below

  pub reserved_apart : (n : ℕ) → layout.paths.reserved 0 n ≡ active_path → ⊥
  reserved_apart n same = told.lawful.apart 0 n q.last is.active.stands.bound (subst (layout.format.IsPath q.last) (sym same) is.active.stands.at)

  -- all are the queue's own
  pub kept_own : (own : List ℕ → Type 0) → ((path : List ℕ) → layout.own path → own path) → AreOwn layout.paths own (reverse files.recycled.items)
  kept_own own they = all_own own (λ m path below less at. they path (told.lawful.owns m path less at)) (reverse files.recycled.items) kept_below

  -- the bytes that the pipe wrote, in the queue's words
  module _ (before : File) (there : old.files files.writer.handle.file ≡ Some before) where
    own_is : own_bytes files before ≡ spelled (recent q)
    own_is =
        let s = is.active.stands in
        let same : s.file.file ≡ before = same_file old files.writer.handle.file s.file.file before s.file.is there in
        let bytes : before.content ≡ whole q ++ drop (length (whole q)) q.stale = ap (λ (x : File). x.content) (sym same) ∙ s.file.has.active.all in
        let written : take files.writer.written before.content ≡ whole q =
        ap (λ (n : ℕ). take n before.content) is.active.written ∙ ap (λ (b : List ℕ). take (length (whole q)) b) bytes ∙ take_at (whole q) (drop (length (whole q)) q.stale) (length (whole q)) refl in
        ap (λ (b : List ℕ). drop (length (active_header files)) b) written ∙ drop_at q.header (spelled (recent q)) (length (active_header files)) (ap length is.header)

    -- a file that is finished ends with them
    pub own_at_rest : (file : File) → IsPast layout.format q.last (finished q) file → file ≡ at_rest (active_header files ++ own_bytes files before)
    own_at_rest file past = past.is ∙ ap (λ (h : List ℕ). at_rest (h ++ spelled (recent q))) is.header ∙ ap (λ (b : List ℕ). at_rest (active_header files ++ b)) (sym own_is)

  -- Its active file is finished.
  module _ (after : LogFileWriter) (new : Disk) (sound : IsSound old) (closes : Closes files.writer after old new) where
    finished_there : IsFinished layout.format layout.own base after q active_path old.names new
    finished_there = finishes layout.format layout.own told.lawful.format told.lawful.owns files.writer after old new sound closes base q active_path old.names is.active

    pub finished_alone : IsAloneAt layout.format q active_path files.writer.handle.file new
    finished_alone =
        let same : after.handle ≡ files.writer.handle = cut_handle files.writer after old closes.between closes.cuts in
        record {
          named = ap (λ (N : List ℕ → _). N active_path) (closes_touch files.writer after old new closes).names ∙ is.active.stands.named;
          file = subst (λ (h : Handle). HasFile h.file (IsPast layout.format q.last (finished q)) new) same
              (has_weaker after.handle.file (IsPastTo layout.format after.capacity q) (IsPast layout.format q.last (finished q)) new (λ file was. was.past) finished_there.stands.file);
        }

-- whatever queue it was that a pipe ran over, a finished active file has all of its records
pub finished_settles : {R : Type 0} (layout : QueueLayout R) (told : IsQueueLayout layout) (files : PipeFiles) (after : LogFileWriter) (old new : Disk) → IsSound old → Closes files.writer after old new
    → IsSettledBy layout.format layout.own layout.paths files old new
finished_settles layout told files after old new sound closes =
    finished_is_settled layout.format layout.own layout.paths told.lawful files after old new
    (finishes layout.format layout.own told.lawful.format told.lawful.owns files.writer after old new sound closes) (closes_touch files.writer after old new closes)

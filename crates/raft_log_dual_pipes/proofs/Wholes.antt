-- How a log begins.
use Rattle.std.proofs.Common.{◌≡◌, ℕ, zero, suc, Some, None, List, [], ◌∷◌, sym, ◌∙◌, ap, subst}
use Rattle.raft_log_model_laws.specs.Item.{Record}
use Rattle.raft_log_machine_laws.specs.Files.{LogFile}
use Rattle.raft_log_fs.specs.Disk.{Disk}
use Rattle.raft_log_fs.specs.Image.{IsImage}
use Rattle.raft_log_file_writer.specs.LogFormat.{Format}
use Rattle.raft_log_file_writer.specs.LogQueue.{Past, Found, IsAbsent}
use Rattle.raft_log_active_file.specs.Bridge.{IsFileQueue}
use Rattle.raft_log_active_file.proofs.Public.{begins_numbered}
use Rattle.raft_log_machine_laws.specs.Files.{fresh_files}
use Rattle.raft_log_active_file.specs.Standing.{Names}
use Rattle.raft_log_machine_laws.specs.DirectoryImages.{empty_file}
use Rattle.raft_log_machine_laws.proofs.Public.{nothing_is_log}
use Rattle.raft_log_dual_pipes.specs.Queues.{TwoQueues}
use Rattle.raft_log_dual_pipes.specs.State.{Spanned}
use Rattle.raft_log_dual_pipes.specs.Crash.{IsReadAs, MayRead, readings_of}
use Rattle.raft_log_dual_pipes.specs.Beginning.{begun_queue, BegunLogIsEmpty, HasNoFile, NoFilesAreNothing}

-- Beginning.

begun_is_fresh : {R E V : Type 0} (says : R → Record E V) (F : Format R) (q : Spanned R) (d : Disk) → ((older : ℕ → Past R) × (header : List ℕ) × (room : ℕ) × (q ≡ begun_queue older header room)) → IsAbsent F 0 d
    → IsFileQueue says F q.files 1 q.first d fresh_files
begun_is_fresh says F q d (older, header, room, is) none = subst (λ (x : Spanned _). IsFileQueue says F x.files 1 x.first d fresh_files) (sym is) (begins_numbered says F older header room d none)

pub begun_log_is_empty : {R E V : Type 0} (log : TwoQueues R E V) → BegunLogIsEmpty log
begun_log_is_empty log append rewrite d append_is rewrite_is append_none rewrite_none = record {
  append = begun_is_fresh log.says log.append.format append d append_is append_none;
  rewrite = begun_is_fresh log.says log.rewrite.format rewrite d rewrite_is rewrite_none;
}

-- where no number has a file, file 1 counts as read, empty
pub no_file_is_read : {R E V : Type 0} (says : R → Record E V) (F : Format R) (first : ℕ) (d image : Disk) → HasNoFile F d → IsImage d image → (s : ℕ) (files : List (LogFile E V)) → MayRead says F first image s files → (s ≡ 1) × (files ≡ empty_file ∷ [])
no_file_is_read says F first d image none is s files (under, found, (zero, (found_is, behind)), read) =
    subst (λ (fs : List (Found _)). IsReadAs says s fs files) found_is read
no_file_is_read says F first d image none is s files (under, found, (suc k, (ws, more, less, reads, others, found_is)), read) =
    let gone : d.names reads.path ≡ None = none s less reads.path reads.at in
    let there : d.names reads.path ≡ Some reads.file.id = ap (λ (f : Names). f reads.path) (sym is.names) ∙ reads.file.named in
    cc (gone, there)

pub no_files_are_nothing : {R E V : Type 0} (log : TwoQueues R E V) → NoFilesAreNothing log
no_files_are_nothing log s append_none rewrite_none = nothing_is_log (readings_of log) s (λ image left. record {
  rewrite = no_file_is_read log.says log.rewrite.format image.rewrite.first s.disk image.disk rewrite_none left.disk;
  append = no_file_is_read log.says log.append.format image.append.first s.disk image.disk append_none left.disk;
})

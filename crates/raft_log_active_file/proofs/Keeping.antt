-- The files of a queue are kept, can be read, and go through a restart.
use Rattle.std.proofs.Common.{◌≡◌, ℕ, ◌<◌, ◌≤◌, Option, Some, List, length, refl, sym, ◌∙◌, ap, subst}
use Rattle.raft_log_fs.specs.Disk.{File, Disk}
use Rattle.raft_log_fs.specs.Image.{IsImage}
use Rattle.raft_log_file_writer.specs.LogFormat.{Format, IsFormat, CanTellFormat}
use Rattle.raft_log_file_writer.specs.LogQueue.{LogFiles, HasLogFiles, HoldsLast, IsLeftover, kept_to, NoChanceInLast, Anything}
use Rattle.raft_log_fs.specs.Touching.{HasFile}
use Rattle.raft_log_file_writer.proofs.Public.{queue_is_kept, queue_is_readable, queue_restarts}
use Rattle.raft_log_fs.proofs.Public.{names_same}
use Rattle.raft_log_active_file.specs.Standing.{Names, Stands}
use Rattle.raft_log_active_file.specs.Laws.{FilesAreKept, FilesAreReadable, FilesRestart}
use Rattle.raft_log_active_file.proofs.Standing.{place_moved}

module _ {R : Type 0} (F : Format R) (own : List ℕ → Type 0) where
  -- a queue that stands has its files
  pub log_files : (base : Disk) (q : LogFiles R) (path : List ℕ) (id : ℕ) (P : File → Type 0) (N : Names) (d : Disk) → Stands F own base q path id P N d → HasLogFiles F q P d
  log_files base q path id P N d s =
      let named : (p : List ℕ) (o : Option ℕ) → N p ≡ o → d.names p ≡ o = λ p o is. ap (λ (f : Names). f p) s.names ∙ is in
      let back : (p : List ℕ) (o : Option ℕ) → d.names p ≡ o → N p ≡ o = λ p o is. ap (λ (f : Names). f p) (sym s.names) ∙ is in
      record {
        bound = s.bound;
        last = record { path = path; at = s.at; file = record { id = id; named = named path (Some id) s.named; file = s.file } };
        alone = λ p j at is. s.alone p j at (back p (Some j) is);
        none = λ m above less p at. named p _ (s.none m p above less at);
        older = λ m j p below at is. s.older m j p below at (back p (Some j) is);
      }

  module _ (lawful : IsFormat F) where
    pub files_are_kept : FilesAreKept F own
    files_are_kept = record {
      holding = λ base q path id N d s. (queue_is_kept F lawful).kept q d (log_files base q path id (HoldsLast F q) N d s) s.headed;
      left_over = λ base q path id N d s. (queue_is_kept F lawful).restarted q d (log_files base q path id (IsLeftover F q) N d s);
    }

    pub files_are_readable : FilesAreReadable F own
    files_are_readable tell base q path id N d sound s = queue_is_readable F lawful tell q d sound (log_files base q path id Anything N d s)

    pub files_restart : FilesRestart F own
    files_restart tell base q path id N d image s is chance =
        let (count, within, files, again) = queue_restarts F lawful tell q d image (log_files base q path id (HoldsLast F q) N d s) s.headed is chance in
        let named : (p : List ℕ) (o : Option ℕ) → N p ≡ o → image.names p ≡ o = λ p o at. ap (λ (f : Names). f p) (is.names ∙ s.names) ∙ at in
        let mine : id ≡ files.last.file.id = files.alone path id s.at (named path (Some id) s.named) in (
          count,
          within,
          record {
            names = is.names ∙ s.names;
            bound = s.bound;
            at = s.at;
            named = s.named;
            alone = s.alone;
            none = s.none;
            headed = s.headed;
            places = λ m p less at. place_moved p d image is.directories (s.places m p less at);
            file = subst (λ (j : ℕ). HasFile j (IsLeftover F (kept_to count q)) image) (sym mine) files.last.file.file;
            older = λ m j p below at there. files.older m j p below at (named p (Some j) there);
            single = s.single;
            others = names_same own image;
          },
        )

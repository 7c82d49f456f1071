-- What a stop leaves of a pipe, found again.
use Rattle.std.proofs.Common.{◌≡◌, ℕ, Option, Some, List, sym, ◌∙◌, ap, subst, arith}
use Rattle.raft_log_fs.specs.Disk.{Disk}
use Rattle.raft_log_fs.specs.Image.{IsSound}
use Rattle.raft_log_file_writer.specs.LogFormat.{Format}
use Rattle.raft_log_file_writer.specs.LogQueue.{LogFiles, IsLeftover, kept_to}
use Rattle.raft_log_fs.proofs.Public.{image_is_sound}
use Rattle.raft_log_active_file.specs.Standing.{Names, Stands}
use Rattle.raft_log_active_file.proofs.Public.{files_restart}
use Rattle.raft_log_active_file.specs.Layout.{FilePaths, IsLayout, path_of}
use Rattle.raft_log_file_pipe.specs.Files.{Listed}
use Rattle.raft_log_file_pipe.specs.Laws.{AreFoundOnDisk, PipesAreFound}
use Rattle.raft_log_file_pipe.specs.Opening.{IsFound}
use Rattle.raft_log_file_pipe.proofs.Lists.{path_numbered}

module _ {R : Type 0} (F : Format R) (own : List ℕ → Type 0) (paths : FilePaths) (lawful : IsLayout F own paths) where
  -- a queue that stands as a stop left it, and was found so
  found_as : (q : LogFiles R) (path : List ℕ) (id : ℕ) (N : Names) (d : Disk) (earlier : List Listed) (last : Listed) (end : Option ℕ) (kept : List Listed) → IsSound d → Stands F own d q path id (IsLeftover F q) N d → AreFoundOnDisk F paths earlier last end kept q.last d
      → IsFound F own paths d earlier last end kept q d
  found_as q path id N d earlier last end kept sound stands scanned =
      let at : F.IsPath q.last (path_of paths last) = subst (λ (n : ℕ). F.IsPath n (path_of paths last)) scanned.number_is
      (subst (F.IsPath last.seq) (sym (path_numbered paths last scanned.listed)) (lawful.numbered last.path_id last.seq (let bound = stands.bound in let number = scanned.number_is in omega (arith, bound, number)))) in
      let named : d.names (path_of paths last) ≡ Some last.handle.file = scanned.opened.is in
      let there : N (path_of paths last) ≡ Some last.handle.file = ap (λ (f : Names). f (path_of paths last)) (sym stands.names) ∙ named in
      let file_is : last.handle.file ≡ id = stands.alone (path_of paths last) last.handle.file at there in
      let here : d.names path ≡ Some id = ap (λ (f : Names). f path) stands.names ∙ stands.named in
      let path_is : path ≡ path_of paths last = sound.one_name path (path_of paths last) id here (named ∙ ap Some file_is) in
      record {
        left = record {
          permitted = scanned.opened.permitted;
          stands = subst (λ (M : Names). Stands F own d q (path_of paths last) last.handle.file (IsLeftover F q) M d) (sym stands.names)
              (subst (λ (p : List ℕ). Stands F own d q p last.handle.file (IsLeftover F q) N d) path_is (subst (λ (n : ℕ). Stands F own d q path n (IsLeftover F q) N d) (sym file_is) stands));
          read = scanned.read;
        };
        number = scanned.number_is;
        listed = scanned.listed;
        headed = scanned.headed;
        span = scanned.span;
        spares = scanned.spares;
      }

  pub pipes_are_found : PipesAreFound F own paths
  pipes_are_found tell base q d image sound left is chance earlier last end kept scanned =
      let (count, within, stands) = files_restart F own lawful.format tell base q left.path left.id left.N d image left.stands is chance in
      (count, within, found_as (kept_to count q) left.path left.id left.N image earlier last end kept (image_is_sound d image sound is) stands scanned)

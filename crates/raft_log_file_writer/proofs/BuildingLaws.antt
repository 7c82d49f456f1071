-- What it leaves to build a writer.
use Rattle.std.specs.Prelude.{◌≡◌, ℕ, Bool, Some, List}
use Rattle.std.specs.declared.io.ErrorKind.{ErrorKind}
use Rattle.std.proofs.Common.{refl, sym, ◌∙◌, ap, subst}
use Rattle.raft_log_record_base.specs.declared.errors.Error.TheVariants as errors
use Rattle.raft_log_file_format.specs.declared.header.LogFileFormat.{LogFileFormat}
use Rattle.raft_log_file_format.specs.Header.{header_bytes}
use Rattle.raft_log_fs.specs.Disk.{Disk}
use Rattle.raft_log_fs.specs.Image.{IsSound}
use Rattle.raft_log_fs.specs.Touching.{TouchesOnly, TouchesOnlyNames}
use Rattle.raft_log_fs.specs.declared.handle.Handle.{Handle}
use Rattle.raft_log_fs.proofs.Public.{creation_leaves, names_file, names_then}
use Rattle.raft_log_file_writer.specs.declared.writer.LogFileWriter.{LogFileWriter}
use Rattle.raft_log_file_writer.specs.Writer.{TakesUp, goes_on, begins, FailsToTakeUp}
use Rattle.raft_log_file_writer.specs.Building.{Finds, is_made, was_there, Builds, FailsToBuild, not_taken_up}

module _ (path : List ℕ) (create : Bool) (handle : Handle) (old between : Disk) where
  -- the file that was found has the path
  found_named : IsSound old → Finds path create handle old between → between.names path ≡ Some handle.file
  found_named sound (is_made made permitted creates) = ap (λ (d : Disk). d.names path) creates.done ∙ (creation_leaves old path sound).named ∙ ap Some (sym creates.number)
  found_named sound (was_there there opened same) = ap (λ (d : Disk). d.names path) same ∙ opened.is

  -- and nothing else is touched by taking it up
  pub build_touches : (new : Disk) → IsSound old → IsSound between → Finds path create handle old between → TouchesOnlyNames (λ other. other ≡ path) old between → TouchesOnly handle.file between new
      → TouchesOnlyNames (λ other. other ≡ path) old new
  build_touches new sound still found names only =
      names_then (λ other. other ≡ path) old between new names (names_file (λ other. other ≡ path) between new path handle.file still refl (found_named sound found) only)

  module _ (header : List ℕ) (new : Disk) where
    taken_handle : (writer : LogFileWriter) → TakesUp handle header create writer between new → writer.handle ≡ handle
    taken_handle writer (goes_on file is needs same at) = at.handle_is
    taken_handle writer (begins file is needs calls at) = at.handle_is

    pub built : (bytes : List ℕ) (writer : LogFileWriter) → bytes ≡ header → Finds path create handle old between → TakesUp handle bytes create writer between new → Builds path header create writer old new
    built bytes writer is found takes_bytes =
        let takes = subst (λ (b : List ℕ). TakesUp handle b create writer between new) is takes_bytes in
        let same = sym (taken_handle writer takes) in
        record {
          between = between;
          finds = subst (λ (h : Handle). Finds path create h old between) same found;
          takes = subst (λ (h : Handle). TakesUp h header create writer between new) same takes;
        }

  pub not_built : (format : LogFileFormat) (new : Disk) (bytes : List ℕ) (kind : ErrorKind) → bytes ≡ header_bytes format → Finds path create handle old between
      → FailsToTakeUp handle bytes create kind between new → FailsToBuild path format create (errors.Io kind) old new
  not_built format new bytes kind is found fails = not_taken_up kind refl handle between found (subst (λ (b : List ℕ). FailsToTakeUp handle b create kind between new) is fails)

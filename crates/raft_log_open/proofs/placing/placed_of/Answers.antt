use Rattle.std.proofs.Common.{List, map, subst, sym}
use Rattle.std.specs.Prelude.{All, length}
use Rattle.std.specs.List.{AllZip}
use Rattle.std.specs.String.{string_bytes}
use Rattle.std.proofs.lemmas.Result.{err_from_is_err_and}
use Rattle.raft_log_fs.specs.Reading.{IsListing}
use Rattle.raft_log_recovery_scan.specs.Found.{AreAmongAll}
use Rattle.raft_log_recovery_scan.specs.declared.file_kind.FileKind.{FileKind}
use Rattle.raft_log_recovery_scan.specs.declared.scanning.found.FoundFile.{FoundFile}
use Rattle.raft_log_recovery_scan.proofs.Public.{fails_to_find, zip_map}
use Rattle.raft_log_offline.proofs.Public.{files_in, names_of, short_find}
use Rattle.raft_log_open.specs.Placing.{IsListed, IsPlaced, kind_of, last_number}
use Rattle.raft_log_open.proofs.Places.{chosen_listed}
use Rattle.raft_log_open.proofs.placing.placed_of.Goals as goal

pub returns-in_err-found-clause-err : goal.returns-in_err-found-clause-err
returns-in_err-found-clause-err g c =
    let gave = err_from_is_err_and c.from_residual.result c.from_residual.ensures.1 in
    let d = g.F.FileSystem.disk c.args._file_system.now in
    let paths = c.args.paths.now in
    let listings = c.args.listings.now in
    rw (gave.1, gave.2) (fails_to_find _ (map string_bytes paths) (map names_of listings) d c.in_err-found.field-0.0
    (zip_map (λ directory listed. IsListing directory d listed) string_bytes names_of paths listings c.requires) c.in_err-found.ensures.err)

pub returns-in_err-chosen-clause-err : goal.returns-in_err-chosen-clause-err
returns-in_err-chosen-clause-err g c =
    let gave = err_from_is_err_and c.from_residual-in_err-chosen.result c.from_residual-in_err-chosen.ensures.1 in
    rw (gave.1, gave.2) (short_find (map string_bytes c.args.paths.now) (g.F.FileSystem.disk c.args._file_system.now) _ c.in_err-chosen.ensures.err)

pub returns-in_err-files-clause-err : goal.returns-in_err-files-clause-err
returns-in_err-files-clause-err g c =
    let gave = err_from_is_err_and c.from_residual-in_err-files.result c.from_residual-in_err-files.ensures.1 in
    rw (gave.1, gave.2) (short_find (map string_bytes c.args.paths.now) (g.F.FileSystem.disk c.args._file_system.now) _ c.in_err-files.ensures.err)

pub place_all-requires : goal.place_all-requires
place_all-requires g c =
    let d = g.F.FileSystem.disk c.args._file_system.now in
    let paths = c.args.paths.now in
    let listings = c.args.listings.now in
    let found = c.in_ok-found.found.items in
    let among = subst (λ (k : FileKind). AreAmongAll k 0 (map names_of listings) found) c.kind_of.ensures c.in_ok-found.ensures.ok in
    subst (All (IsListed (length paths))) (sym c.as_slice.ensures.value)
    (chosen_listed c.args.queue paths d found c.in_ok-chosen.chosen.items (files_in (kind_of c.args.queue) d paths listings found c.requires among) c.in_ok-chosen.ensures.ok)

pub returns-clause-ok : goal.returns-clause-ok
returns-clause-ok g c =
    let d = g.F.FileSystem.disk c.args._file_system.now in
    let paths = c.args.paths.now in
    let listings = c.args.listings.now in
    let found = c.in_ok-found.found.items in
    let among = subst (λ (k : FileKind). AreAmongAll k 0 (map names_of listings) found) c.kind_of.ensures c.in_ok-found.ensures.ok in
    record {
      found = found;
      all = files_in (kind_of c.args.queue) d paths listings found c.requires among;
      chosen = c.in_ok-chosen.chosen.items;
      each = c.in_ok-chosen.ensures.ok;
      placed = subst (λ (l : List FoundFile). AllZip (IsPlaced c.args.queue (map string_bytes paths) (last_number l)) l c.in_ok-files.files.items) c.as_slice.ensures.value c.in_ok-files.ensures.ok;
    }

use Rattle.std.proofs.Common.{List, map, subst, sym, ap, ◌∙◌}
use Rattle.std.specs.Prelude.{All}
use Rattle.std.specs.String.{string_bytes}
use Rattle.std.proofs.lemmas.Result.{err_from_is_err_and}
use Rattle.raft_log_fs.specs.Reading.{IsListing}
use Rattle.raft_log_fs.specs.declared.handle.Permission.TheVariants.{ReadOnly}
use Rattle.raft_log_recovery_scan.specs.Found.{FileLiesIn}
use Rattle.raft_log_recovery_scan.specs.Opened.{AreOpen}
use Rattle.raft_log_offline.specs.Sources.{source_of}
use Rattle.raft_log_recovery_scan.specs.declared.scanning.found.FoundFile.{FoundFile}
use Rattle.raft_log_recovery_scan.proofs.Public.{fails_to_find, fails_to_open, zip_map}
use Rattle.raft_log_offline.proofs.Finding.{chosen_lie, files_in, names_of, short_find, sources_of_kind}
use Rattle.raft_log_offline.proofs.forking.sources_of.Goals as goal

pub returns-in_err-found-clause-err : goal.returns-in_err-found-clause-err
returns-in_err-found-clause-err g c =
    let gave = err_from_is_err_and c.from_residual.result c.from_residual.ensures.1 in
    let d = g.F.FileSystem.disk c.args.file_system.now in
    let paths = c.args.paths.now in
    let listings = c.args.listings.now in
    rw (gave.1, gave.2) (fails_to_find c.args.kind (map string_bytes paths) (map names_of listings) d c.in_err-found.field-0.0
    (zip_map (λ directory listed. IsListing directory d listed) string_bytes names_of paths listings c.requires) c.in_err-found.ensures.err)

pub returns-in_err-chosen-clause-err : goal.returns-in_err-chosen-clause-err
returns-in_err-chosen-clause-err g c =
    let gave = err_from_is_err_and c.from_residual-in_err-chosen.result c.from_residual-in_err-chosen.ensures.1 in
    rw (gave.1, gave.2) (short_find (map string_bytes c.args.paths.now) (g.F.FileSystem.disk c.args.file_system.now) _ c.in_err-chosen.ensures.err)

pub open_files-requires : goal.open_files-requires
open_files-requires g c =
    let d = g.F.FileSystem.disk c.args.file_system.now in
    let paths = c.args.paths.now in
    let found = c.in_ok-found.found.items in
    subst (All (FileLiesIn c.args.kind (map string_bytes paths) d)) (sym c.as_slice.ensures.value)
    (chosen_lie c.args.kind (map string_bytes paths) d found c.in_ok-chosen.chosen.items (files_in c.args.kind d paths c.args.listings.now found c.requires c.in_ok-found.ensures.ok) c.in_ok-chosen.ensures.ok)

pub returns-in_err-files-clause-err : goal.returns-in_err-files-clause-err
returns-in_err-files-clause-err g c =
    let gave = err_from_is_err_and c.from_residual-in_err-files.result c.from_residual-in_err-files.ensures.1 in
    rw (gave.1, gave.2) (fails_to_open (map string_bytes c.args.paths.now) (g.F.FileSystem.disk c.args.file_system.now) c.in_err-files.field-0.0 c.in_err-files.ensures.err)

pub returns-in_err-sources-clause-err : goal.returns-in_err-sources-clause-err
returns-in_err-sources-clause-err g c =
    let gave = err_from_is_err_and c.from_residual-in_err-sources.result c.from_residual-in_err-sources.ensures.1 in
    rw (gave.1, gave.2) (short_find (map string_bytes c.args.paths.now) (g.F.FileSystem.disk c.args.file_system.now) _ c.in_err-sources.ensures.err)

pub returns-clause-ok : goal.returns-clause-ok
returns-clause-ok g c =
    let d = g.F.FileSystem.disk c.args.file_system.now in
    let paths = c.args.paths.now in
    let directories = map string_bytes paths in
    let found = c.in_ok-found.found.items in
    let chosen = c.in_ok-chosen.chosen.items in
    sources_of_kind c.args.kind directories d found chosen c.in_ok-files.files.items c.in_ok-sources.sources.items
    (files_in c.args.kind d paths c.args.listings.now found c.requires c.in_ok-found.ensures.ok) c.in_ok-chosen.ensures.ok
    (subst (λ (l : List FoundFile). AreOpen c.args.kind directories d ReadOnly l c.in_ok-files.files.items) c.as_slice.ensures.value c.in_ok-files.ensures.ok)
    (c.in_ok-sources.ensures.ok ∙ ap (map (source_of c.args.kind)) c.as_slice-2.ensures.value)

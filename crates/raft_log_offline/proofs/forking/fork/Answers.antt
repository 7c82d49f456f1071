use Rattle.std.proofs.Common.{ℕ, List, map, refl, sym, ap, subst, ◌∙◌}
use Rattle.std.specs.String.{string_bytes}
use Rattle.std.proofs.lemmas.Result.{err_from_is_err_and}
use Rattle.raft_log_file_settings.specs.Settings.{settings_of}
use Rattle.raft_log_offline.specs.Copies.{copy_path}
use Rattle.raft_log_offline.specs.Forks.{CopiesAll, FailsToCopyAll, cut_short, refused}
use Rattle.raft_log_offline.specs.Sources.{AreApart, AreSources, AllThere, IsSourceRefusal}
use Rattle.raft_log_offline.specs.declared.source_file.SourceFile.{SourceFile}
use Rattle.raft_log_offline.proofs.CopyingAll.{all_since, made_home, there_since, uncopied_since}
use Rattle.raft_log_offline.proofs.Finding.{unfound}
use Rattle.raft_log_offline.proofs.Names.{sources_apart, sources_there}
use Rattle.raft_log_offline.proofs.forking.fork.Goals as goal

pub returns-in_err-files-clause-err : goal.returns-in_err-files-clause-err
returns-in_err-files-clause-err g c =
    let gave = err_from_is_err_and c.from_residual-in_err-files.result c.from_residual-in_err-files.ensures.1 in
    let old = g.F.FileSystem.disk c.args.file_system.now in
    let s = settings_of c.args.source.now in
    let directories = ap (map string_bytes) c.as_slice-2.ensures.value ∙ c.in_ok-directories.ensures.ok in
    rw (gave.1, gave.2) (refused (unfound s c.args.target.now old _ c.in_ok-permit.ensures.ok
    (subst (λ (l : List (List ℕ)). IsSourceRefusal l old c.in_err-files.field-0.0) directories c.in_err-files.ensures.err)) refl)

pub copy_files-requires-clause-there : goal.copy_files-requires-clause-there
copy_files-requires-clause-there g c =
    let D = g.F.FileSystem.disk in
    let old = D c.args.file_system.now in
    let mid = D c.make_target.new.file_system in
    let files = c.in_ok-files.files.items in
    subst (AllThere mid) (sym c.as_slice-3.ensures.value)
    (there_since c.args.target.now files old mid c.in_ok-make_target.ensures.ok
    (sources_there (map string_bytes c.as_slice-2.result.now) old files (g.met.F.FileSystem.sound c.args.file_system.now) c.in_ok-files.ensures.ok))

pub copy_files-requires-clause-apart : goal.copy_files-requires-clause-apart
copy_files-requires-clause-apart g c =
    let old = g.F.FileSystem.disk c.args.file_system.now in
    subst AreApart (sym c.as_slice-3.ensures.value) (sources_apart (map string_bytes c.as_slice-2.result.now) old c.in_ok-files.files.items c.in_ok-files.ensures.ok)

pub returns-in_err-copied-clause-err : goal.returns-in_err-copied-clause-err
returns-in_err-copied-clause-err g c =
    let gave = err_from_is_err_and c.from_residual-in_err-copied.result c.from_residual-in_err-copied.ensures.1 in
    let D = g.F.FileSystem.disk in
    let old = D c.args.file_system.now in
    let mid = D c.make_target.new.file_system in
    let new = D c.copy_files.new.file_system in
    let target = c.args.target.now in
    let files = c.in_ok-files.files.items in
    let directories = ap (map string_bytes) c.as_slice-2.ensures.value ∙ c.in_ok-directories.ensures.ok in
    let sources = subst (λ (l : List (List ℕ)). AreSources l old files) directories c.in_ok-files.ensures.ok in
    rw (gave.1, gave.2) (cut_short c.in_ok-permit.ensures.ok files sources (uncopied_since target files _ old mid new c.in_ok-make_target.ensures.ok
    (subst (λ (l : List SourceFile). FailsToCopyAll target l c.in_err-copied.field-0.0 mid new) c.as_slice-3.ensures.value c.in_err-copied.ensures.err)))

pub returns-clause-ok : goal.returns-clause-ok
returns-clause-ok g c =
    let D = g.F.FileSystem.disk in
    let old = D c.args.file_system.now in
    let mid = D c.make_target.new.file_system in
    let new = D c.copy_files.new.file_system in
    let target = c.args.target.now in
    let files = c.in_ok-files.files.items in
    let value = c.as_slice-3.ensures.value in
    let directories = ap (map string_bytes) c.as_slice-2.ensures.value ∙ c.in_ok-directories.ensures.ok in
    let copies = subst (λ (l : List SourceFile). CopiesAll target l mid new) value c.in_ok-copied.ensures.ok in
    record {
      allowed = c.in_ok-permit.ensures.ok;
      files = files;
      sources = subst (λ (l : List (List ℕ)). AreSources l old files) directories c.in_ok-files.ensures.ok;
      home = copies.adds.there target (made_home target old mid c.in_ok-make_target.ensures.ok);
      copies = all_since target files old mid new c.in_ok-make_target.ensures.ok copies;
      paths = c.in_ok-copied.ensures.paths ∙ ap (map (copy_path target)) value;
    }

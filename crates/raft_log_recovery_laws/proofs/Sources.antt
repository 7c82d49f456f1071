-- The files that a fork copies, and the paths of their copies.
use Rattle.std.specs.Prelude.{Contains}
use Rattle.std.specs.List.{AllZip}
use Rattle.std.proofs.Common.{◌≡◌, ℕ, ◌<◌, ◌^◌, List, [], ◌∷◌, ◌++◌, refl, sym, ◌∙◌, ap, subst, inl, inr, arith}
use Rattle.std.proofs.lemmas.List.Elements.{Contains-append_cases, Contains-append_left, Contains-append_right}
use Rattle.raft_log_record_base.specs.declared.pipe_log.LogQueue.{LogQueue}
use Rattle.raft_log_record_base.specs.declared.pipe_log.LogQueue.TheVariants as queues
use Rattle.raft_log_fs.specs.Disk.{Disk}
use Rattle.raft_log_file_format.specs.Name.{suffix_of}
use Rattle.raft_log_engine_laws.specs.raft_log_active_file.specs.PathLaws.{numbered_is}
use Rattle.raft_log_engine_laws.specs.raft_log_active_file.specs.Paths.{IsPathWith}
use Rattle.raft_log_file_settings.specs.Settings.{settings_of, directories_of}
use Rattle.raft_log_file_settings.specs.declared.config.Config.{Config}
use Rattle.raft_log_recovery_scan.specs.Found.{FileLiesIn}
use Rattle.raft_log_recovery_scan.specs.Names.{built_name}
use Rattle.raft_log_recovery_scan.specs.declared.file_kind.FileKind.{FileKind}
use Rattle.raft_log_recovery_scan.specs.declared.scanning.found.FoundFile.{FoundFile}
use Rattle.raft_log_recovery_laws.specs.Scanned.{kind_of}
use Rattle.raft_log_recovery.specs.Directories.{paths_of}
use Rattle.raft_log_offline.specs.Copies.{copy_path}
use Rattle.raft_log_offline.specs.Sources.{AreSources, AreSourcesOf, IsSource}
use Rattle.raft_log_offline.specs.declared.source_file.SourceFile.{SourceFile}
use Rattle.raft_log_offline.proofs.Public.{first, first_or_later, in_none, later}

-- Directories.

-- a fork lists the directories that an open does
pub same_directories : (config : Config) → directories_of (settings_of config) ≡ paths_of config
same_directories config = refl

-- what lies in one directory alone
pub in_one : (directory other : List ℕ) → Contains (directory ∷ []) other → directory ≡ other
in_one directory other there = elim (first_or_later directory [] other there) [ inl same ↦ same | inr none ↦ absurd (in_none other none) ]

-- Paths.

-- the path in a directory of a queue's file with this number
abbrev pub path_in : List ℕ → LogQueue → ℕ → List ℕ
path_in target queue n = target ++ 47 ∷ built_name (kind_of queue) n

pub path_is : (target : List ℕ) (queue : LogQueue) (n : ℕ) → n < 10 ^ 16 → IsPathWith (suffix_of queue) (target ∷ []) n (path_in target queue n)
path_is target queues.Append n small = numbered_is queues.Append (target ∷ []) 0 n (omega arith) small
path_is target queues.Rewrite n small = numbered_is queues.Rewrite (target ∷ []) 0 n (omega arith) small

-- Files that are copied.

-- one is of some file that was found
of_found : (kind : FileKind) (directories : List (List ℕ)) (d : Disk) (chosen : List FoundFile) (files : List SourceFile) (file : SourceFile) → AllZip (IsSource kind directories d) chosen files
    → Contains files file → (found : FoundFile) × Contains chosen found × IsSource kind directories d found file
of_found kind directories d [] [] file zip there = absurd (in_none file there)
of_found kind directories d [] (f ∷ fs) file zip there = absurd zip
of_found kind directories d (c ∷ cs) [] file zip there = absurd zip
of_found kind directories d (c ∷ cs) (f ∷ fs) file (is, zip) there = elim (first_or_later f fs file there) [
  | inl same ↦ (c, first c cs, subst (IsSource kind directories d c) same is)
  | inr behind ↦ (let rest = of_found kind directories d cs fs file zip behind in (rest.0, later c cs rest.0 rest.1, rest.2))
]

-- and each that was chosen is one
pub to_source : (kind : FileKind) (directories : List (List ℕ)) (d : Disk) (chosen : List FoundFile) (files : List SourceFile) (found : FoundFile) → AllZip (IsSource kind directories d) chosen files
    → Contains chosen found → (file : SourceFile) × Contains files file × IsSource kind directories d found file
to_source kind directories d [] [] found zip there = absurd (in_none found there)
to_source kind directories d [] (f ∷ fs) found zip there = absurd zip
to_source kind directories d (c ∷ cs) [] found zip there = absurd zip
to_source kind directories d (c ∷ cs) (f ∷ fs) found (is, zip) there = elim (first_or_later c cs found there) [
  | inl same ↦ (f, first f fs, subst (λ (g : FoundFile). IsSource kind directories d g f) same is)
  | inr behind ↦ (let rest = to_source kind directories d cs fs found zip behind in (rest.0, later f fs rest.0 rest.1, rest.2))
]

-- a file that is copied: of which queue, and which of the files found it is
pub record IsOf (directories : List (List ℕ)) (d : Disk) (file : SourceFile) : Type 0 where
  pub queue : LogQueue
  pub found : FoundFile
  pub lies : FileLiesIn (kind_of queue) directories d found
  pub is : IsSource (kind_of queue) directories d found file

of_queue : (queue : LogQueue) (directories : List (List ℕ)) (d : Disk) (files : List SourceFile) (file : SourceFile) → AreSourcesOf (kind_of queue) directories d files → Contains files file → IsOf directories d file
of_queue queue directories d files file are there =
    let from = of_found (kind_of queue) directories d are.chosen files file are.opened there in
    record { queue = queue; found = from.0; lies = are.all.found from.0 (are.each.are from.0 from.1).there; is = from.2 }

pub source_is : (directories : List (List ℕ)) (d : Disk) (files : List SourceFile) (file : SourceFile) → AreSources directories d files → Contains files file → IsOf directories d file
source_is directories d files file are there = elim (Contains-append_cases are.rewrite are.append file (subst (λ (l : List SourceFile). Contains l file) are.both there)) [
  | inl in_rewrite ↦ of_queue queues.Rewrite directories d are.rewrite file are.of_rewrite in_rewrite
  | inr in_append ↦ of_queue queues.Append directories d are.append file are.of_append in_append
]

-- those of a queue are some of them
pub record HasSources (queue : LogQueue) (directories : List (List ℕ)) (d : Disk) (files : List SourceFile) : Type 0 where
  pub some : List SourceFile
  pub are : AreSourcesOf (kind_of queue) directories d some
  pub within : (file : SourceFile) → Contains some file → Contains files file

pub has_sources : (queue : LogQueue) (directories : List (List ℕ)) (d : Disk) (files : List SourceFile) → AreSources directories d files → HasSources queue directories d files
has_sources queues.Append directories d files are = record {
  some = are.append;
  are = are.of_append;
  within = λ file there. subst (λ (l : List SourceFile). Contains l file) (sym are.both) (Contains-append_right are.rewrite are.append file there);
}
has_sources queues.Rewrite directories d files are = record {
  some = are.rewrite;
  are = are.of_rewrite;
  within = λ file there. subst (λ (l : List SourceFile). Contains l file) (sym are.both) (Contains-append_left are.rewrite are.append file there);
}

-- the path of its copy
module _ (directories : List (List ℕ)) (d : Disk) (target : List ℕ) (file : SourceFile) (of : IsOf directories d file) where
  pub copied_to : copy_path target file ≡ path_in target of.queue of.found.seq
  copied_to = ap (λ (k : FileKind). target ++ 47 ∷ built_name k file.seq) of.is.queue ∙ ap (λ (n : ℕ). path_in target of.queue n) of.is.seq

  pub copied_at : IsPathWith (suffix_of of.queue) (target ∷ []) of.found.seq (copy_path target file)
  copied_at = subst (IsPathWith (suffix_of of.queue) (target ∷ []) of.found.seq) (sym copied_to) (path_is target of.queue of.found.seq of.is.small)

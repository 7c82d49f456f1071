-- What a fork adds takes nothing from the log that is copied.
use Rattle.std.specs.Prelude.{Contains, Option, Result, Err}
use Rattle.std.specs.Str.{bytes_eq}
use Rattle.std.specs.declared.io.ErrorKind.{ErrorKind}
use Rattle.std.proofs.Common.{◌≡◌, ℕ, Bool, true, false, cond, Some, None, List, [], ◌∷◌, ◌++◌, refl, sym, ◌∙◌, ap, subst, inl, inr}
use Rattle.std.proofs.lemmas.List.{append_cancel_right}
use Rattle.std.proofs.lemmas.List.Elements.{Contains-append_cases, Contains-append_left, Contains-append_right}
use Rattle.std.proofs.lemmas.Slice.Eq.{bytes_eq-Decides}
use Rattle.raft_log_record_base.specs.declared.errors.Error.{Error}
use Rattle.raft_log_record_base.specs.declared.errors.Error.TheVariants as errors
use Rattle.raft_log_record_base.specs.declared.pipe_log.LogQueue.{LogQueue}
use Rattle.raft_log_record_base.specs.declared.pipe_log.LogQueue.TheVariants.{Append, Rewrite}
use Rattle.raft_log_fs.specs.Arguments.{WrongDirectory}
use Rattle.raft_log_fs.specs.Calls.{with_directory}
use Rattle.raft_log_fs.specs.Disk.{Disk, File}
use Rattle.raft_log_fs.specs.Image.{IsSound}
use Rattle.raft_log_fs.proofs.Public.{kept_directory, IsCalm}
use Rattle.raft_log_file_format.specs.Name.{suffix_of}
use Rattle.raft_log_engine_laws.specs.raft_log_active_file.specs.QueueFiles.{log_format}
use Rattle.raft_log_engine_laws.specs.raft_log_active_file.specs.PathLaws.{one_name}
use Rattle.raft_log_engine_laws.specs.raft_log_active_file.specs.Paths.{IsPathWith}
use Rattle.raft_log_file_settings.specs.Settings.{settings_of, directories_of}
use Rattle.raft_log_file_settings.specs.declared.config.Config.{Config}
use Rattle.raft_log_dual_pipes.specs.OpenOrClosed.{none_open, OpenPipes}
use Rattle.raft_log_dual_pipes.specs.OnDisk.{LogLiesOn}
use Rattle.raft_log_dual_pipes.specs.Queues.{AreTwoQueues}
use Rattle.raft_log_dual_pipes.proofs.Public.{lying_logs_are_logs}
use Rattle.raft_log_dual_pipes.specs.Pipes.{LogRecordValue}
use Rattle.raft_log_engine_laws.specs.EngineState.{log_in, LogMap}
use Rattle.raft_log_recovery.specs.Directories as builder
use Rattle.raft_log_recovery_scan.specs.Found.{found_path}
use Rattle.raft_log_recovery_laws.specs.Bare.{IsBare}
use Rattle.raft_log_recovery_laws.specs.Keeping.{KeepsBothQueues, KeepsNumbered, KeptLogStays}
use Rattle.raft_log_recovery_laws.specs.Scanned.{kind_of}
use Rattle.raft_log_recovery_laws.proofs.Bare.{bare_calm}
use Rattle.raft_log_recovery_laws.proofs.Calls.{keeps_all, keeps_calm}
use Rattle.raft_log_recovery_laws.proofs.Keeping.{kept_logs_stay}
use Rattle.raft_log_recovery_laws.specs.ByCalls.{home_of}
use Rattle.raft_log_recovery_laws.proofs.Finding.{some_directory}
use Rattle.raft_log_recovery_laws.proofs.ByCalls.{two_queues}
use Rattle.raft_log_offline.specs.Copies.{AddsOnly}
use Rattle.raft_log_offline.specs.Forks.{FailsToCopyAll, FailsToMakeTarget, IsCopyPath, LiesInOne}
use Rattle.raft_log_offline.specs.Forks.FailsToFork.{cut_short, homeless, refused as not_begun}
use Rattle.raft_log_offline.specs.Sources.{AreSources}
use Rattle.raft_log_offline.specs.declared.source_file.SourceFile.{SourceFile}
use Rattle.raft_log_offline.proofs.Public.{first, first_or_later, in_none}
use Rattle.raft_log_recovery_laws.specs.ForkLeaving.{EndsFork, ForksLeaveTheSource}
use Rattle.raft_log_recovery_laws.specs.ForkLeaving.EndsFork.{answered, refused}
use Rattle.raft_log_recovery_laws.proofs.Copies.{found_at}
use Rattle.raft_log_recovery_laws.proofs.Sources.{copied_at, in_one, same_directories, source_is}

-- Paths.

-- the path is that of a numbered file in the target
abbrev pub IsNumbered : List ℕ → List ℕ → Type 0
IsNumbered target path = (queue : LogQueue) × (n : ℕ) × IsPathWith (suffix_of queue) (target ∷ []) n path

-- two paths of files are in one directory where they are one
one_directory : (d e x y : List ℕ) → x ≡ y → d ++ 47 ∷ x ≡ e ++ 47 ∷ y → d ≡ e
one_directory d e x y name same = append_cancel_right d e (47 ∷ x) (same ∙ ap (λ (l : List ℕ). e ++ 47 ∷ l) (sym name))

module _ (directories : List (List ℕ)) (target : List ℕ) (outside : LiesInOne directories target → ⊥) (suffix : List ℕ) (m : ℕ) (path : List ℕ) (at : IsPathWith suffix directories m path) where
  -- a file of the log doesn't lie in the target
  pub not_in_target : IsNumbered target path → ⊥
  not_in_target (queue, n, other) =
      let joined : at.directory ++ 47 ∷ at.name ≡ other.directory ++ 47 ∷ other.name = sym at.joined ∙ other.joined in
      let name = one_name at.directory other.directory at.name other.name at.plain other.plain joined in
      let home = one_directory at.directory other.directory at.name other.name name joined in
      outside (at.directory, at.listed, inl (in_one target other.directory other.listed ∙ sym home))

  -- nor has it the target's own path
  not_the_target : path ≡ target → ⊥
  not_the_target same = outside (at.directory, at.listed, inr (at.name, sym same ∙ at.joined))

-- where a directory is made, every other path stands as it did
other_directory : (target path : List ℕ) (d : Disk) → (path ≡ target → ⊥) → (with_directory target d).directories path ≡ d.directories path
other_directory target path d apart = by_eq (bytes_eq target path) refl
  where
    by_eq : (b : Bool) → bytes_eq target path ≡ b → cond b true (d.directories path) ≡ d.directories path
    by_eq true hit = absurd (apart (sym ((bytes_eq-Decides target path).0 hit)))
    by_eq false miss = refl

-- One queue.
module _ (queue : LogQueue) (directories : List (List ℕ)) (target : List ℕ) (outside : LiesInOne directories target → ⊥) (old : Disk) where
  added_keeps : (own : List ℕ → Type 0) (new : Disk) → IsSound old → ((path : List ℕ) → own path → IsNumbered target path) → AddsOnly target own old new
      → KeepsNumbered (log_format queue directories) old new
  added_keeps own new sound numbered adds = record {
    names = λ m path less at. adds.names path (λ is. not_in_target directories target outside (suffix_of queue) m path at (numbered path is));
    files = λ m path id less at named. same_file path id named (old.files id) refl;
    places = λ m path less at place. record {
      apart = adds.directories path (λ same. not_the_target directories target outside (suffix_of queue) m path at same) ∙ place.apart;
      home = record { directory = place.home.directory; inside = place.home.inside; there = adds.there place.home.directory place.home.there };
    };
  }
    where
      same_file : (path : List ℕ) (id : ℕ) → old.names path ≡ Some id → (o : Option File) → old.files id ≡ o → new.files id ≡ old.files id
      same_file path id named None none = absurd (sound.named path id named none)
      same_file path id named (Some file) is = adds.files id file is ∙ sym is

  -- a directory that is made
  made_keeps : KeepsNumbered (log_format queue directories) old (with_directory target old)
  made_keeps = record {
    names = λ m path less at. refl;
    files = λ m path id less at named. refl;
    places = λ m path less at place. record {
      apart = other_directory target path old (λ same. not_the_target directories target outside (suffix_of queue) m path at same) ∙ place.apart;
      home = record { directory = place.home.directory; inside = place.home.inside; there = still (bytes_eq target place.home.directory) (old.directories place.home.directory) place.home.there };
    };
  }
    where
      still : (b c : Bool) → c ≡ true → cond b true c ≡ true
      still true c is = refl
      still false c is = is

-- each path of a copy is one
pub copies_numbered : (directories : List (List ℕ)) (target : List ℕ) (old : Disk) (files some : List SourceFile) → AreSources directories old files → ((file : SourceFile) → Contains some file → Contains files file)
    → (path : List ℕ) → IsCopyPath target some path → IsNumbered target path
copies_numbered directories target old files some are within path (file, there, is) =
    let of = source_is directories old files file are (within file there) in
    (of.queue, of.found.seq, subst (IsPathWith (suffix_of of.queue) (target ∷ []) of.found.seq) (sym is) (copied_at directories old target file of))

-- the target isn't in a directory that an open lists
pub outside_all : (config : Config) (target : List ℕ) → (LiesInOne (directories_of (settings_of config)) target → ⊥) → LiesInOne (builder.paths_of config) target → ⊥
outside_all config target outside inside = outside (subst (λ (l : List (List ℕ)). LiesInOne l target) (sym (same_directories config)) inside)

-- Both.
module _ (config : Config) (target : List ℕ) (outside : LiesInOne (directories_of (settings_of config)) target → ⊥) (old : Disk) where
  apart : LiesInOne (builder.paths_of config) target → ⊥
  apart = outside_all config target outside

  abbrev Keeps : Disk → Type 0
  Keeps new = KeepsBothQueues (log_in (home_of config)) old new

  nothing_keeps : Keeps old
  nothing_keeps = record { append = keeps_all _ old; rewrite = keeps_all _ old }

  log_calm : IsCalm Keeps
  log_calm = record {
    at_count = λ d keeps. record { append = (keeps_calm _ old).at_count d keeps.append; rewrite = (keeps_calm _ old).at_count d keeps.rewrite };
    at_end = λ d keeps. record { append = (keeps_calm _ old).at_end d keeps.append; rewrite = (keeps_calm _ old).at_end d keeps.rewrite };
  }

  copies_keep : (files some : List SourceFile) (new : Disk) → IsSound old → AreSources (directories_of (settings_of config)) old files → ((file : SourceFile) → Contains some file → Contains files file)
      → AddsOnly target (IsCopyPath target some) old new → Keeps new
  copies_keep files some new sound are within adds = record {
    append = added_keeps Append (builder.paths_of config) target apart old (IsCopyPath target some) new sound numbered adds;
    rewrite = added_keeps Rewrite (builder.paths_of config) target apart old (IsCopyPath target some) new sound numbered adds;
  }
    where
      numbered : (path : List ℕ) → IsCopyPath target some path → IsNumbered target path
      numbered = copies_numbered (directories_of (settings_of config)) target old files some are within

  unmade_keeps : (error : Error) (new : Disk) → FailsToMakeTarget target error old new → Keeps new
  unmade_keeps (errors.Io kind) new fails =
      let result : Result (Unit {0}) ErrorKind = Err kind in
      kept_directory Keeps (WrongDirectory target old) result target log_calm nothing_keeps
      (λ free none. record { append = made_keeps Append (builder.paths_of config) target apart old; rewrite = made_keeps Rewrite (builder.paths_of config) target apart old }) tt fails
  unmade_keeps errors.Memory new same = subst Keeps (sym same) nothing_keeps
  unmade_keeps _ new fails = absurd fails

  uncopied_keeps : (files : List SourceFile) (error : Error) (new : Disk) → IsSound old → AreSources (directories_of (settings_of config)) old files → FailsToCopyAll target files error old new → Keeps new
  uncopied_keeps files error new sound are fails = copies_keep files (fails.copied ++ fails.file ∷ []) new sound are within fails.adds
    where
      within : (file : SourceFile) → Contains (fails.copied ++ fails.file ∷ []) file → Contains files file
      within file there = subst (λ (l : List SourceFile). Contains l file) (sym fails.split) (elim (Contains-append_cases fails.copied (fails.file ∷ []) file there) [
        | inl before ↦ Contains-append_left fails.copied (fails.file ∷ fails.behind) file before
        | inr last ↦ Contains-append_right fails.copied (fails.file ∷ fails.behind) file (subst (Contains (fails.file ∷ fails.behind)) (in_last file last) (first fails.file fails.behind))
      ])
        where
          in_last : (file : SourceFile) → Contains (fails.file ∷ []) file → fails.file ≡ file
          in_last file last = elim (first_or_later fails.file [] file last) [ inl same ↦ same | inr none ↦ absurd (in_none file none) ]

-- Directories in which no log began.

-- no file is copied of them
none_copied : (config : Config) (old : Disk) → IsBare config old → (files : List SourceFile) → AreSources (directories_of (settings_of config)) old files → (file : SourceFile) → Contains files file → ⊥
none_copied config old bare files are file there =
    let directories = directories_of (settings_of config) in
    let of = source_is directories old files file are there in
    of.lies.there (bare.numbered of.queue of.found.seq (found_path (kind_of of.queue) directories of.found) (found_at of.queue directories old of.found of.lies)).0

module _ (config : Config) (target : List ℕ) (outside : LiesInOne (directories_of (settings_of config)) target → ⊥) (old : Disk) (bare : IsBare config old) where
  -- where the names are as they were, and the directories, but for the target
  bare_still : (new : Disk) → ((path : List ℕ) → new.names path ≡ old.names path) → ((path : List ℕ) → (path ≡ target → ⊥) → new.directories path ≡ old.directories path) → IsBare config new
  bare_still new names others = record {
    numbered = λ queue n path at.
        let (none, free) = bare.numbered queue n path at in
        (names path ∙ none, others path (λ same. not_the_target (builder.paths_of config) target (outside_all config target outside) (suffix_of queue) n path at same) ∙ free);
    reserved = λ n path at. names path ∙ bare.reserved n path at;
    unnamed = λ path listed. names path ∙ bare.unnamed path listed;
  }

  bare_copied : (files : List SourceFile) (new : Disk) → AreSources (directories_of (settings_of config)) old files → AddsOnly target (IsCopyPath target files) old new → IsBare config new
  bare_copied files new are adds = bare_still new (λ path. adds.names path (λ (file, there, is). none_copied config old bare files are file there)) adds.directories

  bare_unmade : (error : Error) (new : Disk) → FailsToMakeTarget target error old new → IsBare config new
  bare_unmade (errors.Io kind) new fails =
      let result : Result (Unit {0}) ErrorKind = Err kind in
      kept_directory (IsBare config) (WrongDirectory target old) result target (bare_calm config) bare
      (λ free none. bare_still (with_directory target old) (λ path. refl) (λ path other. other_directory target path old other)) tt fails
  bare_unmade errors.Memory new same = subst (IsBare config) (sym same) bare
  bare_unmade _ new fails = absurd fails

  -- a fork of them isn't cut short
  never_cut_short : (files : List SourceFile) (error : Error) (new : Disk) → AreSources (directories_of (settings_of config)) old files → FailsToCopyAll target files error old new → ⊥
  never_cut_short files error new are fails =
      let behind : Contains (fails.copied ++ fails.file ∷ fails.behind) fails.file = Contains-append_right fails.copied (fails.file ∷ fails.behind) fails.file (first fails.file fails.behind) in
      none_copied config old bare files are fails.file (subst (λ (l : List SourceFile). Contains l fails.file) (sym fails.split) behind)

-- Wherever a fork ends.

pub fork_keeps : (config : Config) (target : List ℕ) (old new : Disk) → IsSound old → EndsFork config target old new → KeepsBothQueues (log_in (home_of config)) old new
fork_keeps config target old new sound (answered copied forks) =
    copies_keep config target forks.allowed.0.outside old forks.files forks.files new sound forks.sources (λ file there. there) forks.copies.adds
fork_keeps config target old new sound (refused error (not_begun why same)) =
    subst (KeepsBothQueues (log_in (home_of config)) old) (sym same) (record { append = keeps_all _ old; rewrite = keeps_all _ old })
fork_keeps config target old new sound (refused error (homeless allowed fails)) = unmade_keeps config target allowed.0.outside old error new fails
fork_keeps config target old new sound (refused error (cut_short allowed files are fails)) = uncopied_keeps config target allowed.0.outside old files error new sound are fails

fork_bare : (config : Config) (target : List ℕ) (old new : Disk) → EndsFork config target old new → IsBare config old → IsBare config new
fork_bare config target old new (answered copied forks) bare = bare_copied config target forks.allowed.0.outside old bare forks.files new forks.sources forks.copies.adds
fork_bare config target old new (refused error (not_begun why same)) bare = subst (IsBare config) (sym same) bare
fork_bare config target old new (refused error (homeless allowed fails)) bare = bare_unmade config target allowed.0.outside old bare error new fails
fork_bare config target old new (refused error (cut_short allowed files are fails)) bare = absurd (never_cut_short config target allowed.0.outside old bare files error new are fails)

abbrev pub two : (config : Config) → AreTwoQueues (log_in (home_of config))
two config = two_queues (home_of config) (some_directory config) (some_directory config)

-- what lies there whatever pipe is open, lies there with none
lies_closed : (config : Config) (o : OpenPipes) (d : Disk) (m : LogMap) (pending : List LogRecordValue) → LogLiesOn (log_in (home_of config)) o d m pending → LogLiesOn (log_in (home_of config)) none_open d m pending
lies_closed config o d m pending h =
    record { state = h.state; disk = h.disk; stands = (lying_logs_are_logs (log_in (home_of config)) (two config)).dropped o h.state h.stands; holds = h.holds }

pub forks_leave_the_source : ForksLeaveTheSource
forks_leave_the_source config target old new sound ends =
    let stays : KeptLogStays (log_in (home_of config)) old new = kept_logs_stay (log_in (home_of config)) (two config) old new (fork_keeps config target old new sound ends) in
    record {
      rests = stays.rests;
      left = λ m pending (o, h). (none_open, record { done = h.done; rest = h.rest; splits = h.splits; lies = stays.lies _ h.rest (lies_closed config o old _ h.rest h.lies) });
      bare = fork_bare config target old new ends;
    }

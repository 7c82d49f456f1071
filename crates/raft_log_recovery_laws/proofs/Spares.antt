-- The files that are kept for use by an engine that is opened over a log at rest.
use Rattle.std.specs.Prelude.{codes, max, min, reverse}
use Rattle.std.proofs.Common.{◌≡◌, ℕ, ◌+◌, ◌-◌, ◌^◌, ◌<◌, ◌≤◌, suc, List, [], ◌∷◌, ◌++◌, length, get_or, drop, take, refl, sym, ap, subst, ◌∙◌, Contains, append_assoc, arith}
use Rattle.std.proofs.lemmas.List.Elements.{Contains-append_right}
use Rattle.std.proofs.lemmas.List.Sorted.{Contains-permutation, IsPermutation-sym}
use Rattle.raft_log_record_base.specs.declared.pipe_log.LogQueue.TheVariants.{Append}
use Rattle.raft_log_fs.specs.Disk.{Disk}
use Rattle.raft_log_fs.specs.Image.{IsSound}
use Rattle.raft_log_fs.specs.declared.handle.Permission.TheVariants.{ReadOnly}
use Rattle.raft_log_file_settings.specs.declared.config.Config.{Config}
use Rattle.raft_log_active_file.specs.Layout.{path_of, place_of}
use Rattle.raft_log_active_file.specs.declared.format.File.{File}
use Rattle.raft_log_file_format.specs.Name.{number_text, suffix_of}
use Rattle.raft_log_engine_laws.specs.raft_log_active_file.specs.QueueFiles.{log_format, log_paths}
use Rattle.raft_log_engine_laws.specs.raft_log_active_file.specs.Paths.{numbered_path}
use Rattle.raft_log_file_pipe.specs.Files.{AllKept}
use Rattle.raft_log_file_pipe.proofs.Public.{path_reserved}
use Rattle.raft_log_recovery_scan.specs.Found.{FileLiesIn, found_path}
use Rattle.raft_log_recovery_scan.specs.Opened.{AreOpen, IsOpenFile}
use Rattle.raft_log_recovery_scan.specs.Runs.{FollowsNumber, IsConsecutive}
use Rattle.raft_log_recovery_scan.specs.Scanned.{IsReserveIn}
use Rattle.raft_log_recovery_scan.proofs.Public.{limit_small}
use Rattle.raft_log_recovery_scan.specs.declared.file_kind.FileKind.TheVariants.{Reserved}
use Rattle.raft_log_recovery_scan.specs.declared.scanning.found.FoundFile.{FoundFile}
use Rattle.raft_log_replay_context.specs.declared.context.MemTableRecoverContext.{MemTableRecoverContext}
use Rattle.raft_log_recovery.specs.Readying.{kept_of, next_number, Readies}
use Rattle.raft_log_dual_pipes.specs.OnDisk.{IsDurableAs}
use Rattle.raft_log_engine_laws.specs.EngineState.{log_in, LogMap}
use Rattle.raft_log_recovery.specs.Directories.{paths_of}
use Rattle.raft_log_recovery.specs.Finishing.{SyncsLog}
use Rattle.raft_log_recovery.specs.Recovering.{append_files, rewrite_files}
use Rattle.raft_log_recovery.specs.Reserving.{wanted_files}
use Rattle.raft_log_recovery.specs.Scanning.{ScansLog}
use Rattle.raft_log_recovery.specs.declared.builder.DualPipesBuilder.{DualPipesBuilder}
use Rattle.raft_log_engine_laws.specs.raft_log_block_cache.specs.Stored.{Each}
use Rattle.raft_log_recovery_laws.specs.ByCalls.{home_of, LogIsRecovered, SyncedSparesCanBeUsed}
use Rattle.raft_log_recovery_laws.proofs.Finding.{begun_directories, found_set, some_directory}
use Rattle.raft_log_recovery_laws.proofs.FoundPaths.{numbered_found}
use Rattle.raft_log_recovery_laws.proofs.Parts.{LiesAsSet}
use Rattle.raft_log_recovery_laws.proofs.Readying.{each_append, each_reverse}
use Rattle.raft_log_recovery_laws.proofs.SpareCalls.{cuts_names, drops_keep, made_rise, makes_spares, spare_kept, spares_named, syncs_names, MakesSpares}
use Rattle.raft_log_recovery_laws.proofs.SpareLists.{are_kept, are_small, dropped_above, each_dropped, each_take, each_weaker, paths_apart, rising_made, rising_take, AreRising, IsSpareOn}
use Rattle.raft_log_recovery_laws.proofs.Usable.{synced_usable}

-- The files that a scan found under reserved names.

others_follow : (g : FoundFile) (gs : List FoundFile) → IsConsecutive (g ∷ gs) → IsConsecutive gs
others_follow g gs run k d less =
    let next : suc k + 1 ≡ suc (k + 1) = omega arith in
    subst (λ (n : ℕ). FollowsNumber (get_or gs k d) (get_or (g ∷ gs) n d)) next (run (suc k) d (omega (arith, less)))

module _ (directories : List (List ℕ)) (d : Disk) where
  abbrev AreOpened : List FoundFile → List File → Type 0
  AreOpened kept files = AreOpen Reserved directories d ReadOnly kept files

  found_rise : (n : ℕ) (g : FoundFile) (gs : List FoundFile) (files : List File) → AreOpened (g ∷ gs) files → IsConsecutive (g ∷ gs) → n ≤ g.seq → AreRising n files
  found_rise n g gs [] are run up = absurd are
  found_rise n g [] (f ∷ []) (one, are) run up = (omega (arith, up, one.seq), tt)
  found_rise n g [] (f ∷ h ∷ files) (one, are) run up = absurd are
  found_rise n g (h ∷ gs) (f ∷ files) (one, are) run up =
      let next : suc g.seq ≡ h.seq = run 0 g (omega arith) in
      (omega (arith, up, one.seq), found_rise (suc f.seq) h gs files are (others_follow g (h ∷ gs) run) (omega (arith, next, one.seq)))

  all_rise : (kept : List FoundFile) (files : List File) → AreOpened kept files → IsConsecutive kept → AreRising 0 files
  all_rise [] [] are run = tt
  all_rise [] (f ∷ files) are run = absurd are
  all_rise (g ∷ gs) files are run = found_rise 0 g gs files are run (omega arith)

  -- each lies under its reserved path
  path_found : (g : FoundFile) (f : File) → g.path_id < length directories → g.seq < 10 ^ 16 → IsOpenFile Reserved directories d ReadOnly g f → path_of (log_paths Append directories) f ≡ found_path Reserved directories g
  path_found g f inside small one =
      let capped : min f.seq (10 ^ 16 - 1) ≡ g.seq = omega (arith, small, one.seq) in
      let place : ℕ = place_of (length directories) g.path_id g.signed in
      let home : List ℕ = get_or directories g.path_id [] in
      let text : List ℕ = number_text g.signed g.seq in
      path_reserved (log_paths Append directories) f one.reserved
      ∙ ap (λ (k : ℕ). numbered_path Append directories k (min f.seq (10 ^ 16 - 1)) ++ codes ".reserved") one.path_id
      ∙ ap (λ (n : ℕ). numbered_path Append directories place n ++ codes ".reserved") capped
      ∙ ap (λ (l : List ℕ). l ++ codes ".reserved") (numbered_found Append directories g g.seq inside)
      ∙ append_assoc home (47 ∷ (text ++ suffix_of Append)) (codes ".reserved")
      ∙ ap (λ (l : List ℕ). home ++ 47 ∷ l) (append_assoc text (suffix_of Append) (codes ".reserved"))

  module _ (some : 0 < length directories) where
    one_spare : (g : FoundFile) (f : File) → FileLiesIn Reserved directories d g → IsOpenFile Reserved directories d ReadOnly g f → IsSpareOn directories some d f
    one_spare g f lies one =
        let small = limit_small g.signed g.seq lies.small in
        record { reserved = one.reserved; small = omega (arith, small, one.seq); named = ap d.names (path_found g f lies.listed small one) ∙ one.opened.is }

    each_spare : (kept : List FoundFile) (files : List File) → ((g : FoundFile) → Contains kept g → FileLiesIn Reserved directories d g) → AreOpened kept files → Each (IsSpareOn directories some d) files
    each_spare [] [] lie are = tt
    each_spare [] (f ∷ files) lie are = absurd are
    each_spare (g ∷ gs) [] lie are = absurd are
    each_spare (g ∷ gs) (f ∷ files) lie (one, are) = (
      one_spare g f (lie g (0, omega arith, refl)) one,
      each_spare gs files (λ h (k, less, is). lie h (suc k, omega (arith, less), is)) are,
    )

    pub found_spares : (files : List File) → IsReserveIn directories d files → Each (IsSpareOn directories some d) files × AreRising 0 files
    found_spares files are =
        let run = are.run.run in
        let all = are.run.all in (
          each_spare are.kept files (λ g there. all.found g (Contains-permutation (run.dropped ++ are.kept) are.run.found g (IsPermutation-sym are.run.found (run.dropped ++ are.kept) run.same)
              (Contains-append_right run.dropped are.kept g there))) are.opened,
          all_rise are.kept files are.opened run.consecutive,
        )

each_both : {A : Type 0} (P Q : A → Type 0) (xs : List A) → Each P xs → Each Q xs → Each (λ (x : A). P x × Q x) xs
each_both P Q [] first next = tt
each_both P Q (x ∷ xs) (one, first) (also, next) = ((one, also), each_both P Q xs first next)

module _ {S : Type 0} (disk : S → Disk) (tells : S → List ℕ → ℕ → Type 0) (config : Config) (d : Disk) (m : LogMap) (sound : IsSound d) (h : IsDurableAs (log_in (home_of config)) d m) (append rewrite : MemTableRecoverContext)
    (ready : DualPipesBuilder) (readied synced : Disk) (r : LogIsRecovered disk tells config d append rewrite ready readied) (syncs : SyncsLog ready readied synced) where
  abbrev ds : List (List ℕ)
  ds = paths_of config

  some : 0 < length ds
  some = some_directory config

  abbrev Spare : Disk → File → Type 0
  Spare e f = IsSpareOn ds some e f

  abbrev path_at : File → List ℕ
  path_at f = path_of (log_paths Append ds) f

  set : LiesAsSet (home_of config) r.found
  set = found_set config d m sound h r.found r.scanned r.finds

  -- Found.
  abbrev scans : ScansLog r.finds.begun r.found d r.scanned
  scans = r.finds.scans

  abbrev mid : Disk
  mid = scans.scanned

  reserve : IsReserveIn ds mid scans.found.reserved.items
  reserve = subst (λ (l : List (List ℕ)). IsReserveIn l mid scans.found.reserved.items) (begun_directories config r.finds.begun r.finds.begins) scans.scans.is.reserved

  at_mid : Each (Spare mid) scans.found.reserved.items × AreRising 0 scans.found.reserved.items
  at_mid = found_spares ds mid some scans.found.reserved.items reserve

  same_list : r.read.reserved.items ≡ scans.found.reserved.items
  same_list = ap (λ x. x.items) (r.recovers.same.3 ∙ scans.has.reserved)

  abbrev kept : List File
  kept = r.read.reserved.items

  rising : AreRising 0 kept
  rising = subst (AreRising 0) (sym same_list) at_mid.1

  at_scan : Each (Spare r.scanned) kept
  at_scan = subst (Each (Spare r.scanned)) (sym same_list) (spares_named ds some mid r.scanned scans.found.reserved.items (ap (λ (e : Disk). e.names) scans.cleared.rest) at_mid.0)

  -- Cut.
  at_cut : Each (Spare r.cut) kept
  at_cut = spares_named ds some r.scanned r.cut kept
      (cuts_names (rewrite_files r.found) r.read.rewrite.endings.items r.recovers.between r.cut r.recovers.rewrite_cut ∙ cuts_names (append_files r.found) r.read.append.endings.items r.scanned r.recovers.between r.recovers.append_cut) at_scan

  -- Readied.
  abbrev from : S
  from = r.readies.from

  abbrev to : S
  to = r.readies.to

  at_from : Each (Spare (disk from)) kept
  at_from = subst (λ (e : Disk). Each (Spare e) kept) (sym r.readies.from_is) at_cut

  here : Readies disk tells (log_paths Append ds) r.read.config.target_file_size.0 (wanted_files r.read) kept ready.reserved.items from to
  here = subst (λ (l : List (List ℕ)). Readies disk tells (log_paths Append l) r.read.config.target_file_size.0 (wanted_files r.read) kept ready.reserved.items from to) (ap paths_of r.recovers.same.0 ∙ set.append) r.readies.readies.readies

  abbrev made : List File
  made = here.makes.made

  abbrev between : S
  between = here.between

  makes : MakesSpares ds some disk tells (max 1 (min r.read.config.target_file_size.0 (2 ^ 24))) made from between
  makes = makes_spares ds some disk tells _ r.read.config.target_file_size.0 (next_number kept) made here.full from between here.makes.makes

  abbrev all : List File
  all = here.all

  all_spares : Each (Spare (disk between)) all
  all_spares = subst (Each (Spare (disk between))) (sym here.makes.all_is)
      (each_append (Spare (disk between)) kept made (each_weaker (Spare (disk from)) (Spare (disk between)) kept (λ f is. makes.others f is) at_from) makes.all)

  all_rising : AreRising 0 all
  all_rising = subst (AreRising 0) (sym here.makes.all_is)
      (rising_made kept made rising (are_small ds some (disk from) kept at_from) (made_rise ds some disk tells _ r.read.config.target_file_size.0 (next_number kept) made here.full from between here.makes.makes))

  abbrev count : ℕ
  count = kept_of here.full (wanted_files r.read)

  -- no file that is deleted has the path of one that stays
  none_dropped : (f : File) → Spare (disk between) f → Each (λ (g : File). f.seq < g.seq) (drop count all) → Each (λ (g : File). path_at g ≡ path_at f → ⊥) (reverse (drop count all))
  none_dropped f is higher =
      each_reverse (λ (g : File). path_at g ≡ path_at f → ⊥) (drop count all)
      (each_weaker (λ (g : File). Spare (disk between) g × (f.seq < g.seq)) (λ (g : File). path_at g ≡ path_at f → ⊥) (drop count all) (λ g (also, less). paths_apart ds some f g is.reserved also.reserved is.small also.small less)
      (each_both (Spare (disk between)) (λ (g : File). f.seq < g.seq) (drop count all) (each_dropped (Spare (disk between)) count all all_spares) higher))

  at_to : Each (Spare (disk to)) ready.reserved.items
  at_to = subst (Each (Spare (disk to))) (sym here.kept_is)
      (each_weaker (λ (f : File). Spare (disk between) f × Each (λ (g : File). f.seq < g.seq) (drop count all)) (Spare (disk to)) (take count all)
      (λ f (is, higher). spare_kept ds some (disk between) (disk to) f (drops_keep ds some (path_at f) (reverse (drop count all)) (disk between) (disk to) (none_dropped f is higher) here.drops) is)
      (each_both (Spare (disk between)) (λ (f : File). Each (λ (g : File). f.seq < g.seq) (drop count all)) (take count all) (each_take (Spare (disk between)) count all all_spares) (dropped_above count 0 all all_rising)))

  ready_rising : AreRising 0 ready.reserved.items
  ready_rising = subst (AreRising 0) (sym here.kept_is) (rising_take count 0 all all_rising)

  at_ready : Each (Spare readied) ready.reserved.items
  at_ready = subst (λ (e : Disk). Each (Spare e) ready.reserved.items) r.readies.to_is at_to

  -- Synced.
  at_sync : Each (Spare synced) ready.reserved.items
  at_sync = spares_named ds some readied synced ready.reserved.items
      (syncs_names ready.reserved.items syncs.behind synced syncs.reserved ∙ (syncs_names (rewrite_files ready) syncs.between syncs.behind syncs.rewrite ∙ syncs_names (append_files ready) readied syncs.between syncs.append)) at_ready

  pub spares_kept : (first : ℕ) → AllKept (log_format Append ds) (log_paths Append ds) first synced ready.reserved.items
  spares_kept first = are_kept ds some first 0 synced ready.reserved.items ready_rising at_sync (synced_usable ds ready.reserved.items syncs.behind synced syncs.reserved)

pub synced_spares_can_be_used : {S : Type 0} (disk : S → Disk) (tells : S → List ℕ → ℕ → Type 0) → SyncedSparesCanBeUsed disk tells
synced_spares_can_be_used disk tells config d m sound h append rewrite ready readied synced r syncs first = spares_kept disk tells config d m sound h append rewrite ready readied synced r syncs first

-- An open in place that is refused, before or behind its cuts, leaves the log.
use Rattle.std.specs.declared.io.ErrorKind.{ErrorKind}
use Rattle.std.proofs.Common.{◌≡◌, ◌⊎◌, ℕ, ◌<◌, Bool, List, [], refl, sym, ap, subst, ◌∙◌, inl, inr, arith}
use Rattle.raft_log_record_base.specs.declared.errors.Error.{Error}
use Rattle.raft_log_record_base.specs.declared.pipe_log.LogQueue.TheVariants.{Append, Rewrite}
use Rattle.raft_log_fs.specs.Disk.{Disk}
use Rattle.raft_log_fs.specs.Image.{as_it_stands, IsSound}
use Rattle.raft_log_file_writer.specs.LogFormat.{Format}
use Rattle.raft_log_active_file.specs.Standing.{Names}
use Rattle.raft_log_active_file.specs.declared.format.File.{File}
use Rattle.raft_log_file_settings.specs.declared.config.Config.{Config}
use Rattle.raft_log_engine_laws.specs.raft_log_active_file.specs.QueueFiles.{log_format, log_paths}
use Rattle.raft_log_engine_laws.specs.raft_log_active_file.specs.declared.record.LogRecord.{LogRecord}
use Rattle.raft_log_recovery.specs.Readying.{FailsToReady, Readies}
use Rattle.raft_log_recovery_read.specs.declared.file_ending.FileEnding.{FileEnding}
use Rattle.raft_log_replay_context.specs.declared.context.MemTableRecoverContext.{MemTableRecoverContext}
use Rattle.raft_log_dual_pipes.specs.OpenOrClosed.{none_open, LiesQueue}
use Rattle.raft_log_dual_pipes.specs.OnDisk.{IsDurableAs}
use Rattle.raft_log_dual_pipes.specs.Queues.{AreTwoQueues, IsQueueLayout, QueueLayout}
use Rattle.raft_log_dual_pipes.proofs.Public.{lies}
use Rattle.raft_log_dual_pipes.specs.Pipes.{LogRecordValue, State}
use Rattle.raft_log_engine_laws.specs.EngineState.{log_in, LogDirectories, LogMap}
use Rattle.raft_log_engine_laws.specs.Holding.{IsRecoverableAs}
use Rattle.raft_log_recovery.specs.Cutting.{CutsEach, FailsToCutEach}
use Rattle.raft_log_recovery.specs.Directories.{paths_of}
use Rattle.raft_log_recovery.specs.Finishing.{FailsToSyncLog}
use Rattle.raft_log_recovery.specs.Finishing.FailsToOpenRecovered.{unready, unsynced, unopened as pipes_unopened}
use Rattle.raft_log_recovery.specs.Recovering.{append_config, append_files, rewrite_config, rewrite_files, FailsToRecoverLog, HasReadBoth, RecoversLog}
use Rattle.raft_log_recovery.specs.Recovering.FailsToRecoverLog.{aligned, append_uncut, append_unread, rewrite_uncut, rewrite_unread}
use Rattle.raft_log_recovery.specs.Reserving.{wanted_files, FailsToReadyLog, ReadiesLog}
use Rattle.raft_log_recovery.specs.declared.builder.DualPipesBuilder.{DualPipesBuilder}
use Rattle.raft_log_recovery.specs.Finding.{FindsLog}
use Rattle.raft_log_engine_laws.specs.raft_log_block_cache.specs.Stored.{Each}
use Rattle.raft_log_recovery_laws.specs.Keeping.{KeepsNumbered}
use Rattle.raft_log_recovery_laws.proofs.Calls.{keeps_all, sound_names, AreSoundNames}
use Rattle.raft_log_recovery_laws.proofs.Keeping.{bounded}
use Rattle.raft_log_recovery_laws.specs.Files.{AreQueueFiles}
use Rattle.raft_log_recovery_laws.specs.RefusedByCalls.{declines, FailsToReadyOn, FailsToOpenByCalls}
use Rattle.raft_log_recovery_laws.specs.RefusedByCalls.FailsToOpenByCalls.{given_up, undone, unmerged, unopened, unreadied, unrecovered, unscanned}
use Rattle.raft_log_recovery_laws.specs.ByCalls.{home_of, reads, LogIsRecovered, ReadiesOn}
use Rattle.raft_log_recovery_laws.proofs.Finding.{found_set, scans_find_all_files}
use Rattle.raft_log_recovery_laws.proofs.Parts.{LiesAsSet}
use Rattle.raft_log_recovery_laws.proofs.Readying.{readies_leave, unreadied_leaves, IsReserved}
use Rattle.raft_log_recovery_laws.proofs.Refused.{told_or}
use Rattle.raft_log_recovery_laws.proofs.Scanning.{open_reserved}
use Rattle.raft_log_recovery_laws.specs.InPlace.{StandsWithoutChance}
use Rattle.raft_log_recovery_laws.specs.InPlace.StopsUncut.{unread, undone as stops_undone, unscanned as stops_unscanned}
use Rattle.raft_log_recovery_laws.proofs.InPlace.{lasts, one, standing, standing_sound, synced_in_place, there, two}
use Rattle.raft_log_recovery_laws.proofs.LogCuts.{are_found, are_kept, cut_files, numbered_as, uncut_files, AreFound, IsCutFrom}
use Rattle.raft_log_recovery_laws.proofs.QueueCuts.{lies_sure, steady_kept, steady_left, sure_kept, sure_steady, IsLeftAs, LiesSure}
use Rattle.raft_log_recovery_laws.proofs.InPlaceScans.{has_read, settled_finds}
use Rattle.raft_log_recovery_laws.proofs.Settling.{settled_in}
use Rattle.raft_log_recovery_laws.proofs.InPlaceUncut.{finds_keep, finds_sound, stops_uncut}
use Rattle.raft_log_recovery_laws.proofs.Unsynced.{log_names, log_then, LiesSteady}

-- each path of a number names what it named
abbrev SameNumbers : Format LogRecord → Disk → Disk → Type 0
SameNumbers F old new = (m : ℕ) (path : List ℕ) → m < F.limit → F.IsPath m path → new.names path ≡ old.names path

small : (layout : QueueLayout LogRecord) → IsQueueLayout layout → 1 < layout.format.limit
small layout told = (let limit = told.lawful.limit in omega (arith, limit))

module _ (config : Config) (d : Disk) (m : LogMap) (pending : List LogRecordValue) (sound : IsSound d) (left : IsRecoverableAs (home_of config) d m pending) (chance : StandsWithoutChance (home_of config) left.1.lies.state d) (map : LogMap) (rests : IsDurableAs (log_in (home_of config)) (as_it_stands d) map) where
  abbrev home : LogDirectories
  home = home_of config

  abbrev s : State
  s = left.1.lies.state

  abbrev a : QueueLayout LogRecord
  a = (log_in home).append

  abbrev r : QueueLayout LogRecord
  r = (log_in home).rewrite

  both_queues : AreTwoQueues (log_in home)
  both_queues = two config d m pending sound left map rests

  a_lies : LiesQueue a s.append d
  a_lies = subst (LiesQueue a s.append) left.1.lies.disk (lies a both_queues.append left.0.append s.append s.disk left.1.lies.stands.append)

  r_lies : LiesQueue r s.rewrite d
  r_lies = subst (LiesQueue r s.rewrite) left.1.lies.disk (lies r both_queues.rewrite left.0.rewrite s.rewrite s.disk left.1.lies.stands.rewrite)

  -- both queues lie there with their records
  left_as : (e : Disk) → IsLeftAs a both_queues.append s.append e → IsLeftAs r both_queues.rewrite s.rewrite e → SameNumbers a.format d e → SameNumbers r.format d e → IsRecoverableAs home e m pending
  left_as e one_left other_left names others =
      let l = left.1.lies in
      let f = l.holds.files in
      let a_bound = bounded a d d (keeps_all a.format d) s.append (small a both_queues.append) a_lies in
      let r_bound = bounded r d d (keeps_all r.format d) s.rewrite (small r both_queues.rewrite) r_lies in
      let before : (path : List ℕ) → d.names path ≡ s.disk.names path = λ path. ap (λ (x : Disk). x.names path) (sym l.disk) in (
        none_open,
        record {
          done = left.1.done;
          rest = left.1.rest;
          splits = left.1.splits;
          lies = record {
            state = record {
              append = record { first = s.append.first; files = record s.append.files { header = one_left.header; stale = one_left.stale } };
              rewrite = record { first = s.rewrite.first; files = record s.rewrite.files { header = other_left.header; stale = other_left.stale } };
              disk = e;
            };
            disk = refl;
            stands = record { append = one_left.lies; rewrite = other_left.lies };
            holds = record {
              files = f;
              whereabouts = l.holds.whereabouts;
              failed = l.holds.failed;
              sound = l.holds.sound;
              ends = l.holds.ends;
              there = record {
                append = numbered_as (log_in home).says a.format s.append.files one_left.header one_left.stale f.append_from s.append.first s.disk e f.append a_bound (λ k path less at. names k path less at ∙ before path) l.holds.there.append;
                rewrite = numbered_as (log_in home).says r.format s.rewrite.files other_left.header other_left.stale f.rewrite_from s.rewrite.first s.disk e f.rewrite r_bound (λ k path less at. others k path less at ∙ before path) l.holds.there.rewrite;
              };
            };
          };
        },
      )

  -- both queues lie there, and each last file is at rest, or as it was
  record Steadies (e : Disk) : Type 0 where
    append : LiesSteady a both_queues.append s.append e
    rewrite : LiesSteady r both_queues.rewrite s.rewrite e
    append_names : SameNumbers a.format d e
    rewrite_names : SameNumbers r.format d e

  steadies_left : (e : Disk) → Steadies e → IsRecoverableAs home e m pending
  steadies_left e at = left_as e (steady_left a both_queues.append s.append e at.append) (steady_left r both_queues.rewrite s.rewrite e at.rewrite) at.append_names at.rewrite_names

  steadies_kept : (old new : Disk) → KeepsNumbered a.format old new → KeepsNumbered r.format old new → Steadies old → Steadies new
  steadies_kept old new keeps others at = record {
    append = steady_kept a both_queues.append old new keeps s.append at.append;
    rewrite = steady_kept r both_queues.rewrite old new others s.rewrite at.rewrite;
    append_names = λ k path less is. keeps.names k path less is ∙ at.append_names k path less is;
    rewrite_names = λ k path less is. others.names k path less is ∙ at.rewrite_names k path less is;
  }

  -- Behind the scan.
  module _ (found : DualPipesBuilder) (scanned : Disk) (finds : FindsLog config found d scanned) where
    abbrev E : ℕ → Bool
    E = lasts config d m pending sound left map rests

    keeps : (F : Format LogRecord) → KeepsNumbered F d scanned
    keeps = finds_keep config d m pending left found scanned finds

    sound_scan : IsSound scanned
    sound_scan = finds_sound config d m pending left found scanned finds sound

    a_scan : LiesSure a both_queues.append s.append scanned
    a_scan = sure_kept a both_queues.append d scanned (keeps a.format) s.append (lies_sure a both_queues.append s.append d sound chance.append a_lies)

    r_scan : LiesSure r both_queues.rewrite s.rewrite scanned
    r_scan = sure_kept r both_queues.rewrite d scanned (keeps r.format) s.rewrite (lies_sure r both_queues.rewrite s.rewrite d sound chance.rewrite r_lies)

    settled_found : FindsLog config found (settled_in E d) (settled_in E scanned)
    settled_found = settled_finds E config found d scanned finds

    set : LiesAsSet home found
    set = found_set config (standing config d m pending sound left map rests) map (standing_sound config d m pending sound left map rests) (there config d m pending sound left map rests) found (settled_in E scanned) settled_found

    files_found : AreQueueFiles a (there config d m pending sound left map rests).state.append (settled_in E scanned) (append_files found) × AreQueueFiles r (there config d m pending sound left map rests).state.rewrite (settled_in E scanned) (rewrite_files found)
    files_found = scans_find_all_files config (standing config d m pending sound left map rests) map (standing_sound config d m pending sound left map rests) (there config d m pending sound left map rests) found (settled_in E scanned) settled_found

    reserved : Each IsReserved found.reserved.items
    reserved =
        let scans = finds.scans in
        subst (λ (l : List File). Each IsReserved l) (ap (λ x. x.items) (sym scans.has.reserved)) (open_reserved _ scans.scanned _ scans.scans.is.reserved.kept scans.found.reserved.items scans.scans.is.reserved.opened)

    -- Both queues were read.
    module _ (append rewrite : MemTableRecoverContext) (es fs : List FileEnding) (both : HasReadBoth reads found scanned append rewrite es fs) where
      a_found : AreFound a both_queues.append scanned (append_files found) es
      a_found = are_found a both_queues.append E (there config d m pending sound left map rests).state.append scanned (append_files found) es
          (told_or Append (paths_of config) (one config d m pending sound left map rests) (append_config found) refl (settled_in E scanned) (there config d m pending sound left map rests).state.append (append_files found) es append
          (has_read E reads (append_config found) (append_files found) scanned append es both.append_read) both.append_unaligned files_found.0)

      r_found : AreFound r both_queues.rewrite scanned (rewrite_files found) fs
      r_found = are_found r both_queues.rewrite E (there config d m pending sound left map rests).state.rewrite scanned (rewrite_files found) fs
          (told_or Rewrite (paths_of config) (one config d m pending sound left map rests) (rewrite_config found) refl (settled_in E scanned) (there config d m pending sound left map rests).state.rewrite (rewrite_files found) fs rewrite
          (has_read E reads (rewrite_config found) (rewrite_files found) scanned rewrite fs both.rewrite_read) both.rewrite_unaligned files_found.1)

      append_stays : (kind : ErrorKind) (new : Disk) → FailsToCutEach (append_files found) es kind scanned new → IsRecoverableAs home new m pending
      append_stays kind new fails =
          let u = uncut_files a both_queues.append r both_queues.rewrite both_queues.apart s.append (append_files found) es scanned new sound_scan a_scan kind a_found fails in
          left_as new u.left (steady_left r both_queues.rewrite s.rewrite new (sure_steady r both_queues.rewrite s.rewrite new (sure_kept r both_queues.rewrite scanned new u.others s.rewrite r_scan)))
          (λ k path less is. ap (λ (f : Names). f path) u.names ∙ (keeps a.format).names k path less is) (λ k path less is. u.others.names k path less is ∙ (keeps r.format).names k path less is)

      module _ (between : Disk) (cuts : CutsEach (append_files found) es scanned between) where
        a_cut : IsCutFrom a both_queues.append r s.append scanned between
        a_cut = cut_files a both_queues.append r both_queues.rewrite both_queues.apart s.append (append_files found) es scanned between sound_scan a_scan a_found cuts

        r_sure : LiesSure r both_queues.rewrite s.rewrite between
        r_sure = sure_kept r both_queues.rewrite scanned between a_cut.others s.rewrite r_scan

        r_found_then : AreFound r both_queues.rewrite between (rewrite_files found) fs
        r_found_then = are_kept r both_queues.rewrite scanned between (rewrite_files found) fs a_cut.others r_found

        a_names : SameNumbers a.format d between
        a_names k path less is = ap (λ (f : Names). f path) a_cut.names ∙ (keeps a.format).names k path less is

        r_names : SameNumbers r.format d between
        r_names k path less is = a_cut.others.names k path less is ∙ (keeps r.format).names k path less is

        rewrite_stays : (kind : ErrorKind) (new : Disk) → FailsToCutEach (rewrite_files found) fs kind between new → IsRecoverableAs home new m pending
        rewrite_stays kind new fails =
            let u = uncut_files r both_queues.rewrite a both_queues.append (λ path mine theirs. both_queues.apart path theirs mine) s.rewrite (rewrite_files found) fs between new a_cut.sound r_sure kind r_found_then fails in
            left_as new (steady_left a both_queues.append s.append new (steady_kept a both_queues.append between new u.others s.append a_cut.steady)) u.left
            (λ k path less is. u.others.names k path less is ∙ a_names k path less is) (λ k path less is. ap (λ (f : Names). f path) u.names ∙ r_names k path less is)

        both_cut : (cut : Disk) → CutsEach (rewrite_files found) fs between cut → Steadies cut × IsSound cut
        both_cut cut more =
            let c = cut_files r both_queues.rewrite a both_queues.append (λ path mine theirs. both_queues.apart path theirs mine) s.rewrite (rewrite_files found) fs between cut a_cut.sound r_sure r_found_then more in (
              record {
                append = steady_kept a both_queues.append between cut c.others s.append a_cut.steady;
                rewrite = c.steady;
                append_names = λ k path less is. c.others.names k path less is ∙ a_names k path less is;
                rewrite_names = λ k path less is. ap (λ (f : Names). f path) c.names ∙ r_names k path less is;
              },
              c.sound,
            )

    scanned_stays : (new : Disk) → new ≡ scanned → IsRecoverableAs home new m pending
    scanned_stays new same = stops_uncut config d m pending left new (unread found (subst (FindsLog config found d) (sym same) finds))

    not_recovered : (error : Error) (new : Disk) → FailsToRecoverLog reads declines found error scanned new → IsRecoverableAs home new m pending
    not_recovered error new (append_unread same why) = scanned_stays new same
    not_recovered error new (rewrite_unread append es read same why) = scanned_stays new same
    not_recovered error new (aligned append rewrite es fs read more same some tells) = scanned_stays new same
    not_recovered error new (append_uncut append rewrite es fs kind both is fails) = append_stays append rewrite es fs both kind new fails
    not_recovered error new (rewrite_uncut append rewrite es fs kind between both is cuts fails) = rewrite_stays append rewrite es fs both between cuts kind new fails

    -- Behind the cuts.
    module _ (append rewrite : MemTableRecoverContext) (read : DualPipesBuilder) (cut : Disk) (recovers : RecoversLog reads append rewrite found read scanned cut) where
      at_cut : Steadies cut × IsSound cut
      at_cut = both_cut append rewrite read.append.endings.items read.rewrite.endings.items recovers.read recovers.between recovers.append_cut cut recovers.rewrite_cut

      all_reserved : Each IsReserved read.reserved.items
      all_reserved = subst (λ (l : List File). Each IsReserved l) (ap (λ x. x.items) (sym recovers.same.3)) reserved

      paths_are : paths_of read.config ≡ home.append
      paths_are = ap paths_of recovers.same.0 ∙ set.append

      never_rewrite : (directory n k : ℕ) → k < (log_format Rewrite home.rewrite).limit → (log_format Rewrite home.rewrite).IsPath k ((log_paths Append home.append).reserved directory n) → ⊥
      never_rewrite directory n k less at = both_queues.apart _ (both_queues.append.lawful.kept directory n) (both_queues.rewrite.lawful.owns k _ less at)

      module _ {S : Type 0} (disk : S → Disk) (tells : S → List ℕ → ℕ → Type 0) where
        unready_stays : (error : Error) (from to : S) → Steadies (disk from) → AreSoundNames (disk from) → FailsToReadyLog disk tells read error from to → IsRecoverableAs home (disk to) m pending
        unready_stays error from to at names (inl (memory, same)) = steadies_left (disk to) (subst Steadies (sym same) at)
        unready_stays error from to at names (inr fails) =
            let here = subst (λ (l : List (List ℕ)). FailsToReady disk tells (log_paths Append l) read.config.target_file_size.0 (wanted_files read) read.reserved.items error from to) paths_are fails in
            steadies_left (disk to) (steadies_kept (disk from) (disk to)
            (unreadied_leaves (log_format Append home.append) (log_paths Append home.append) both_queues.append.lawful.apart disk tells _ _ read.reserved.items error from to all_reserved names here).keeps
            (unreadied_leaves (log_format Rewrite home.rewrite) (log_paths Append home.append) never_rewrite disk tells _ _ read.reserved.items error from to all_reserved names here).keeps at)

        not_readied : (error : Error) (new : Disk) → FailsToReadyOn disk tells read error cut new → IsRecoverableAs home new m pending
        not_readied error new f = subst (λ e. IsRecoverableAs home e m pending) f.to_is
            (unready_stays error f.from f.to (subst Steadies (sym f.from_is) at_cut.0) (subst AreSoundNames (sym f.from_is) (sound_names cut at_cut.1)) f.fails)

        ready_steadies : (ready : DualPipesBuilder) (from to : S) → Steadies (disk from) → AreSoundNames (disk from) → ReadiesLog disk tells read ready from to → Steadies (disk to) × AreSoundNames (disk to)
        ready_steadies ready from to at names readies =
            let here = subst (λ (l : List (List ℕ)). Readies disk tells (log_paths Append l) read.config.target_file_size.0 (wanted_files read) read.reserved.items ready.reserved.items from to) paths_are readies.readies in
            let mine = readies_leave (log_format Append home.append) (log_paths Append home.append) both_queues.append.lawful.apart disk tells _ _ read.reserved.items ready.reserved.items from to all_reserved names here in
            let theirs = readies_leave (log_format Rewrite home.rewrite) (log_paths Append home.append) never_rewrite disk tells _ _ read.reserved.items ready.reserved.items from to all_reserved names here in
            (steadies_kept (disk from) (disk to) mine.keeps theirs.keeps at, mine.names)

        readied_steadies : (ready : DualPipesBuilder) (readied : Disk) → ReadiesOn disk tells read ready cut readied → Steadies readied × AreSoundNames readied
        readied_steadies ready readied on =
            let there_is = ready_steadies ready on.from on.to (subst Steadies (sym on.from_is) at_cut.0) (subst AreSoundNames (sym on.from_is) (sound_names cut at_cut.1)) on.readies in
            (subst Steadies on.to_is there_is.0, subst AreSoundNames on.to_is there_is.1)

  -- Behind all of that.
  module _ {S : Type 0} (disk : S → Disk) (tells : S → List ℕ → ℕ → Type 0) where
    recovered_steadies : (append rewrite : MemTableRecoverContext) (ready : DualPipesBuilder) (readied : Disk) → LogIsRecovered disk tells config d append rewrite ready readied → Steadies readied × AreSoundNames readied
    recovered_steadies append rewrite ready readied it = readied_steadies it.found it.scanned it.finds append rewrite it.read it.cut it.recovers disk tells ready readied it.readies

    unsynced_stays : (ready : DualPipesBuilder) (kind : ErrorKind) (old new : Disk) → Steadies old → AreSoundNames old → FailsToSyncLog ready kind old new → IsRecoverableAs home new m pending
    unsynced_stays ready kind old new at names fails =
        let same = log_names ready kind old new fails in
        steadies_left new (record {
          append = log_then a both_queues.append s.append ready kind old new names.one fails at.append;
          rewrite = log_then r both_queues.rewrite s.rewrite ready kind old new names.one fails at.rewrite;
          append_names = λ k path less is. ap (λ (f : Names). f path) same ∙ at.append_names k path less is;
          rewrite_names = λ k path less is. ap (λ (f : Names). f path) same ∙ at.rewrite_names k path less is;
        })

    pub refused_in_place : (new : Disk) → FailsToOpenByCalls disk tells config d new → IsRecoverableAs home new m pending ⊎ IsRecoverableAs home new map []
    refused_in_place new (undone same) = inl (stops_uncut config d m pending left new (stops_undone same))
    refused_in_place new (unscanned b error begun fails) = inl (stops_uncut config d m pending left new (stops_unscanned b error begun fails))
    refused_in_place new (unrecovered found scanned error finds fails) = inl (not_recovered found scanned finds error new fails)
    refused_in_place new (unmerged found read scanned append rewrite finds recovers) = inl (steadies_left new (at_cut found scanned finds append rewrite read new recovers).0)
    refused_in_place new (unreadied found read scanned cut append rewrite error finds recovers fails) = inl (not_readied found scanned finds append rewrite read cut recovers disk tells error new fails)
    refused_in_place new (given_up append rewrite ready it) = inl (steadies_left new (recovered_steadies append rewrite ready new it).0)
    refused_in_place new (unopened append rewrite ready readied error it (unready why same)) = inl (steadies_left new (subst Steadies (sym same) (recovered_steadies append rewrite ready readied it).0))
    refused_in_place new (unopened append rewrite ready readied error it (unsynced kind is read fails)) =
        let at = recovered_steadies append rewrite ready readied it in
        inl (unsynced_stays ready kind readied new at.0 at.1 fails)
    refused_in_place new (unopened append rewrite ready readied error it (pipes_unopened synced one_pipe other_pipe read syncs one_is other_is fails)) =
        inr (synced_in_place config d m pending sound left map rests disk tells new (record {
          append = append;
          rewrite = rewrite;
          ready = ready;
          readied = readied;
          recovered = it;
          read = read;
          synced = synced;
          syncs = syncs;
          append_pipe = one_pipe;
          rewrite_pipe = other_pipe;
          append_is = one_is;
          rewrite_is = other_is;
          error = error;
          fails = fails;
        }))

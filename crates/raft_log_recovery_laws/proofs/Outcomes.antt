-- What an engine has that is opened over a log at rest, and what is left where it isn't.
use Rattle.std.proofs.Common.{ℕ, ◌<◌, List, [], length, take, sym, subst}
use Rattle.raft_log_model_laws.specs.Groups.{taken}
use Rattle.raft_log_fs.specs.Disk.{Disk}
use Rattle.raft_log_fs.specs.Image.{IsSound}
use Rattle.raft_log_file_settings.specs.declared.config.Config.{Config}
use Rattle.raft_log_replay_context.specs.declared.context.MemTableRecoverContext.{MemTableRecoverContext}
use Rattle.raft_log_engine_laws.specs.raft_log_memtables.specs.declared.mem_tables.MemTables.{MemTables}
use Rattle.raft_log_dual_pipes.specs.OnDisk.{IsDurableAs}
use Rattle.raft_log_dual_pipes.specs.Pipes.{LogPipes}
use Rattle.raft_log_engine_laws.specs.EngineState.{log_in, LogDirectories, LogMap}
use Rattle.raft_log_engine_laws.specs.Holding.{IsRecoverableAs}
use Rattle.raft_log_recovery.specs.Directories.{paths_of}
use Rattle.raft_log_recovery.specs.declared.builder.DualPipesBuilder.{DualPipesBuilder}
use Rattle.raft_log_recovery_laws.proofs.Left.{crashed_logs_rest}
use Rattle.raft_log_recovery_laws.specs.Opened.{HoldsFresh}
use Rattle.raft_log_recovery_laws.specs.Outcomes.{CrashedLogsOpenByCalls, OpensByCallsAs, RestingLogsOpenByCalls}
use Rattle.raft_log_recovery_laws.specs.RefusedByCalls.{FailsToOpenByCalls}
use Rattle.raft_log_recovery_laws.specs.RefusedByCalls.FailsToOpenByCalls.{given_up, undone, unmerged, unopened, unreadied, unrecovered, unscanned}
use Rattle.raft_log_recovery_laws.specs.ByCalls.{home_of, LogIsRecovered, OpensByCalls}
use Rattle.raft_log_recovery_laws.proofs.Finding.{begun_directories, finds_all, found_set, some_directory}
use Rattle.raft_log_recovery_laws.proofs.Parts.{IsRecoveredFrom, SparesStay}
use Rattle.raft_log_recovery_laws.proofs.Refused.{cut_stays, not_opened, not_readied, not_recovered, not_scanned, recovered_stays, stays_left, stays_same}
use Rattle.raft_log_recovery_laws.proofs.ByCalls.{recovered_reopens, two_queues}
use Rattle.raft_log_recovery_laws.proofs.Spares.{synced_spares_can_be_used}
use Rattle.raft_log_recovery_laws.proofs.Stays.{stays_first}

module _ {S : Type 0} (disk : S → Disk) (tells : S → List ℕ → ℕ → Type 0) (config : Config) (d : Disk) (m : LogMap) (sound : IsSound d) (h : IsDurableAs (log_in (home_of config)) d m) where
  abbrev home : LogDirectories
  home = home_of config

  one : 0 < length (paths_of config)
  one = some_directory config

  recovered_from : (append rewrite : MemTableRecoverContext) (ready : DualPipesBuilder) (readied : Disk) → LogIsRecovered disk tells config d append rewrite ready readied → IsRecoveredFrom disk tells home h.state d append rewrite ready readied
  recovered_from append rewrite ready readied r = record {
    found = r.found;
    read = r.read;
    scanned = r.scanned;
    cut = r.cut;
    set = found_set config d m sound h r.found r.scanned r.finds;
    finds = finds_all config d m sound h r.found r.scanned r.finds;
    recovers = r.recovers;
    readies = r.readies;
  }

  spares_stay : (append rewrite : MemTableRecoverContext) (ready : DualPipesBuilder) (readied : Disk) → LogIsRecovered disk tells config d append rewrite ready readied → SparesStay home ready readied
  spares_stay append rewrite ready readied r synced syncs first = synced_spares_can_be_used disk tells config d m sound h append rewrite ready readied synced r syncs first

  answered : (v : LogPipes) (tables : MemTables) → OpensByCalls disk tells config d v tables → HoldsFresh home v tables m
  answered v tables r =
      recovered_reopens disk tells home one one d m sound h r.append r.rewrite r.ready r.readied (recovered_from r.append r.rewrite r.ready r.readied r.recovered) v tables r.opens
      (spares_stay r.append r.rewrite r.ready r.readied r.recovered) r.comes

  refused : (new : Disk) → FailsToOpenByCalls disk tells config d new → IsRecoverableAs home new m []
  refused new (undone same) =
      stays_left home one one d m sound h new (stays_same home one one d m sound h d new same (stays_first (log_in home) (two_queues home one one) d m h))
  refused new (unscanned b error begun fails) =
      let set = begun_directories config b begun in
      not_scanned home one one d m sound h b error new (record { append = set; rewrite = set }) fails
  refused new (unrecovered found scanned error finds fails) =
      not_recovered home one one d m sound h found scanned (found_set config d m sound h found scanned finds) (finds_all config d m sound h found scanned finds) error new fails
  refused new (unmerged found read scanned append rewrite finds recovers) =
      stays_left home one one d m sound h new
      (cut_stays home one one d m sound h found scanned (found_set config d m sound h found scanned finds) (finds_all config d m sound h found scanned finds) append rewrite read new recovers).0
  refused new (unreadied found read scanned cut append rewrite error finds recovers fails) =
      not_readied home one one d m sound h found scanned (found_set config d m sound h found scanned finds) (finds_all config d m sound h found scanned finds) append rewrite read cut recovers disk tells error new fails
  refused new (given_up append rewrite ready r) =
      stays_left home one one d m sound h new (recovered_stays home one one d m sound h disk tells append rewrite ready new (recovered_from append rewrite ready new r))
  refused new (unopened append rewrite ready readied error r fails) =
      not_opened home one one d m sound h disk tells append rewrite ready readied error new (recovered_from append rewrite ready readied r) (spares_stay append rewrite ready readied r) fails

  pub reopens_as : OpensByCallsAs disk tells config d m
  reopens_as = record { answered = answered; refused = refused }

pub resting_logs_open_by_calls : {S : Type 0} (disk : S → Disk) (tells : S → List ℕ → ℕ → Type 0) → RestingLogsOpenByCalls disk tells
resting_logs_open_by_calls disk tells config d m sound h = reopens_as disk tells config d m sound h

pub crashed_logs_open_by_calls : {S : Type 0} (disk : S → Disk) (tells : S → List ℕ → ℕ → Type 0) → CrashedLogsOpenByCalls disk tells
crashed_logs_open_by_calls disk tells home one other d image m pending sound left crash =
    let (k, within, rests) = crashed_logs_rest home one other d image m pending left crash in (
      k,
      within,
      rests,
      λ config named.
          reopens_as disk tells config image (taken m (take k pending)) sound (subst (λ (h : LogDirectories). IsDurableAs (log_in h) image (taken m (take k pending))) (sym named) rests),
    )

-- An open of a log's directories is an open of it call by call.
use Rattle.std.proofs.Common.{ℕ, List, take, refl, sym, subst}
use Rattle.raft_log_model_laws.specs.Groups.{taken}
use Rattle.raft_log_record_base.specs.declared.errors.Error.{Error}
use Rattle.raft_log_fs.specs.Disk.{Disk}
use Rattle.raft_log_file_settings.specs.declared.config.Config.{Config}
use Rattle.raft_log_engine_laws.specs.raft_log_memtables.specs.declared.mem_tables.MemTables.{MemTables}
use Rattle.raft_log_dual_pipes.specs.Pipes.{LogPipes}
use Rattle.raft_log_dual_pipes.specs.OnDisk.{IsDurableAs}
use Rattle.raft_log_engine_laws.specs.EngineState.{log_in, LogDirectories, LogMap}
use Rattle.raft_log_recovery.specs.declared.builder.DualPipesBuilder.{DualPipesBuilder}
use Rattle.raft_log_recovery.specs.Finding.{FindsLog}
use Rattle.raft_log_open.specs.Finding.{FindsUnpadded}
use Rattle.raft_log_open.specs.Finding.FindsUnpadded.{as_it_stood, once_unpadded}
use Rattle.raft_log_open.specs.Opening.{FailsToOpenDirectory, OpensDirectory}
use Rattle.raft_log_open.specs.Opening.FailsToOpenDirectory.{ended, unfinished, unfound, unsound, unmerged as tables_unmerged, unread as files_unread, unread_anew, unreadied as spares_unreadied}
use Rattle.raft_log_open.specs.Reading.{ReadsLog}
use Rattle.raft_log_recovery_laws.specs.Directory.{CrashedDirectoriesOpen, OpensAs, RestingDirectoriesOpen}
use Rattle.raft_log_recovery_laws.specs.Outcomes.{OpensByCallsAs}
use Rattle.raft_log_recovery_laws.specs.Padding.{FindsNoPadding}
use Rattle.raft_log_recovery_laws.specs.RefusedByCalls.{FailsToOpenByCalls}
use Rattle.raft_log_recovery_laws.specs.RefusedByCalls.FailsToOpenByCalls.{undone, unmerged, unopened, unreadied, unrecovered, unscanned}
use Rattle.raft_log_recovery_laws.specs.ByCalls.{LogIsRecovered, OpensByCalls}
use Rattle.raft_log_recovery_laws.proofs.Outcomes.{crashed_logs_open_by_calls, resting_logs_open_by_calls}
use Rattle.raft_log_recovery_laws.proofs.Unpadded.{resting_plain}

module _ {S : Type 0} (disk : S → Disk) (tells : S → List ℕ → ℕ → Type 0) (config : Config) (old : S) where
  -- where no padding is found, the files are found as the log stood
  as_found : FindsNoPadding config (disk old) → (b : DualPipesBuilder) (scanned : Disk) → FindsUnpadded config b (disk old) scanned → FindsLog config b (disk old) scanned
  as_found plain b scanned (as_it_stood finds) = finds
  as_found plain b scanned (once_unpadded was padded finds anew) = absurd (plain was padded finds)

  recovered : FindsNoPadding config (disk old) → (tables : MemTables) (b : DualPipesBuilder) (ready : S) (r : ReadsLog disk tells config tables b old ready) → LogIsRecovered disk tells config (disk old) r.append r.rewrite b (disk ready)
  recovered plain tables b ready r =
      let q = r.reads in
      record {
        found = q.found;
        read = r.recovered;
        scanned = q.scanned;
        cut = disk r.between;
        finds = as_found plain q.found q.scanned q.finds;
        recovers = q.recovers;
        readies = record { from = r.between; to = ready; from_is = refl; to_is = refl; readies = r.readies };
      }

  pub call_by_call : FindsNoPadding config (disk old) → (v : LogPipes) (tables : MemTables) → OpensDirectory disk tells config old v tables → OpensByCalls disk tells config (disk old) v tables
  call_by_call plain v tables o = record {
    ready = o.builder;
    readied = disk o.ready;
    append = o.reads.append;
    rewrite = o.reads.rewrite;
    recovered = recovered plain tables o.builder o.ready o.reads;
    opens = o.opens;
    comes = record { over = o.reads.merged.over };
  }

  pub not_opened : FindsNoPadding config (disk old) → (error : Error) (new : S) → FailsToOpenDirectory disk tells config error old new → FailsToOpenByCalls disk tells config (disk old) (disk new)
  not_opened plain error new (ended stops told same) = undone same
  not_opened plain error new (unsound why same) = undone same
  not_opened plain error new (unfound begun begins why) = unscanned begun error begins why
  not_opened plain error new (files_unread found scanned finds why untold) = unrecovered found scanned error finds why
  not_opened plain error new (unread_anew was padded finds why) = absurd (plain was padded finds)
  not_opened plain error new (tables_unmerged append rewrite b reads memory) = unmerged reads.found b reads.scanned append rewrite (as_found plain reads.found reads.scanned reads.finds) reads.recovers
  not_opened plain error new (spares_unreadied append rewrite b between reads why) =
      unreadied reads.found b reads.scanned (disk between) append rewrite error (as_found plain reads.found reads.scanned reads.finds) reads.recovers (record { from = between; to = new; from_is = refl; to_is = refl; fails = why })
  not_opened plain error new (unfinished tables b ready reads why) = unopened reads.append reads.rewrite b (disk ready) error (recovered plain tables b ready reads) why

  opens_as : FindsNoPadding config (disk old) → (m : LogMap) → OpensByCallsAs disk tells config (disk old) m → OpensAs disk tells config old m
  opens_as plain m outcome = record {
    answered = λ v tables o. outcome.answered v tables (call_by_call plain v tables o);
    refused = λ error new why. outcome.refused (disk new) (not_opened plain error new why);
  }

pub resting_directories_open : {S : Type 0} (disk : S → Disk) (tells : S → List ℕ → ℕ → Type 0) → RestingDirectoriesOpen disk tells
resting_directories_open disk tells config old m sound rests = opens_as disk tells config old (resting_plain config (disk old) m sound rests) m (resting_logs_open_by_calls disk tells config (disk old) m sound rests)

pub crashed_directories_open : {S : Type 0} (disk : S → Disk) (tells : S → List ℕ → ℕ → Type 0) → CrashedDirectoriesOpen disk tells
crashed_directories_open disk tells home one other d old m pending sound left crash =
    let (k, within, rests, outcome) = crashed_logs_open_by_calls disk tells home one other d (disk old) m pending sound left crash in
    let now : LogMap = taken m (take k pending) in (
      k,
      within,
      rests,
      λ config named. opens_as disk tells config old
          (resting_plain config (disk old) now sound (subst (λ (h : LogDirectories). IsDurableAs (log_in h) (disk old) now) (sym named) rests)) now (outcome config named),
    )

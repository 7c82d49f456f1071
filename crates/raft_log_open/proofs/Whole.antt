-- Queues that are read are read whole: there is a worker wherever there is a file.
use Rattle.std.proofs.Common.{◌≡◌, ℕ, ◌+◌, ◌≤◌, min, max, zero, suc, List, [], ◌∷◌, length, refl, sym, ap, ◌∙◌, arith}
use Rattle.raft_log_record_base.specs.declared.pipe_log.LogQueue.{LogQueue}
use Rattle.raft_log_fs.specs.Disk.{Disk}
use Rattle.raft_log_file_settings.specs.Settings.{settings_of}
use Rattle.raft_log_file_settings.specs.declared.config.Config.{Config}
use Rattle.raft_log_file_settings.specs.declared.recovery_mode.RecoveryMode.{RecoveryMode}
use Rattle.raft_log_active_file.specs.declared.format.File.{File}
use Rattle.raft_log_recovery_scan.specs.Chunks.{append_share, rewrite_share}
use Rattle.raft_log_memtables.specs.declared.mem_tables.MemTables.{MemTables}
use Rattle.raft_log_replay.specs.Machines.{Batch}
use Rattle.raft_log_replay.specs.Segments.{HasReadSegments, read_by}
use Rattle.raft_log_replay.specs.Sources.{HoldEach}
use Rattle.raft_log_recovery_read.specs.Segments.{HoldsFile}
use Rattle.raft_log_recovery_read.specs.declared.file_ending.FileEnding.{FileEnding}
use Rattle.raft_log_replay_context.specs.Batches.{HasReadBatches}
use Rattle.raft_log_replay_context.specs.Context.{written_to}
use Rattle.raft_log_replay_context.specs.declared.context.MemTableRecoverContext.{MemTableRecoverContext}
use Rattle.raft_log_recovery.specs.Finishing.{IsAllRead}
use Rattle.raft_log_recovery.specs.Recovering.{append_files, rewrite_files, RecoversLog}
use Rattle.raft_log_recovery.specs.Reserving.{ReadiesLog}
use Rattle.raft_log_recovery.specs.declared.builder.DualPipesBuilder.{DualPipesBuilder}
use Rattle.raft_log_recovery.specs.Finding.{FindsLog}
use Rattle.raft_log_open.specs.Finding.{FindsUnpadded}
use Rattle.raft_log_open.specs.Finding.FindsUnpadded.{as_it_stood, once_unpadded}
use Rattle.raft_log_open.specs.Reading.{AreMergedOf, BringsInRewrite, HasReadAll, ReadsLog, ReadsQueues}

one_each : {E : Type 0} (holds : ℕ → List Batch → E → Type 0) (k : ℕ) (bss : List (List Batch)) (es : List E) → HoldEach holds k bss es → length bss ≡ length es
one_each holds k [] [] held = refl
one_each holds k [] (e ∷ es) held = absurd held
one_each holds k (bs ∷ bss) [] held = absurd held
one_each holds k (bs ∷ bss) (e ∷ es) held = ap suc (one_each holds (suc k) bss es held.1)

none_by : (workers : ℕ) → read_by workers 0 ≡ 0
none_by zero = refl
none_by (suc workers) = refl

all_by : (workers count : ℕ) → 1 ≤ workers → read_by workers count ≡ count
all_by zero count some = omega (arith, some)
all_by (suc workers) count some = refl

one_at_least : (n : ℕ) → 1 ≤ max 1 n
one_at_least n = omega arith

append_whole : (all a r : ℕ) → (1 ≤ a + r → 1 ≤ all) → read_by (append_share all a r) a ≡ a
append_whole all zero r some = none_by all
append_whole all (suc a) zero some = all_by all (suc a) (some (omega arith))
append_whole all (suc a) (suc r) some = all_by (max 1 _) (suc a) (one_at_least _)

rewrite_whole : (all a r : ℕ) → (1 ≤ a + r → 1 ≤ all) → read_by (rewrite_share all a r) r ≡ r
rewrite_whole all zero zero some = none_by all
rewrite_whole all zero (suc r) some = all_by all (suc r) (some (omega arith))
rewrite_whole all (suc a) zero some = none_by all
rewrite_whole all (suc a) (suc r) some = all_by (max 1 _) (suc r) (one_at_least _)

read_whole : (queue : LogQueue) (mode : RecoveryMode) (files : List File) (d : Disk) (workers : ℕ) (c : MemTableRecoverContext) (endings : List FileEnding)
    → read_by workers (length files) ≡ length files
    → HasReadSegments (HoldsFile mode queue files d) (HasReadBatches queue) 0 (read_by workers (length files)) c endings
    → HasReadAll queue mode files d c endings
read_whole queue mode files d workers c endings whole read =
    let all = read.all in
    record { segments = read.batches; held = read.held; all = omega (arith, all, whole); read = read.read }

abbrev threads_of : Config → ℕ
threads_of config = (settings_of config).recovery_threads

threads_found : (config : Config) (found : DualPipesBuilder) (old scanned : Disk) → FindsLog config found old scanned → threads_of found.config ≡ max (threads_of config) 1
threads_found config found old scanned finds = ap threads_of finds.scans.same ∙ ap (λ s. s.recovery_threads) finds.begins.whole

threads_are : (config : Config) (found : DualPipesBuilder) (old scanned : Disk) → FindsUnpadded config found old scanned → threads_of found.config ≡ max (threads_of config) 1
threads_are config found old scanned (as_it_stood finds) = threads_found config found old scanned finds
threads_are config found old scanned (once_unpadded was padded finds anew) = ap threads_of anew.scans.same ∙ threads_found config was old padded finds.finds

some_threads : (config : Config) (found : DualPipesBuilder) (old scanned : Disk) → FindsUnpadded config found old scanned → 1 ≤ (settings_of found.config).recovery_threads
some_threads config found old scanned finds = (let same = threads_are config found old scanned finds in omega (arith, same))

-- both queues were read, and all files of each
pub reads_queues : (config : Config) (append rewrite : MemTableRecoverContext) (found b : DualPipesBuilder) (old scanned new : Disk) → FindsUnpadded config found old scanned
    → RecoversLog HasReadBatches append rewrite found b scanned new → ReadsQueues config append rewrite b old new
reads_queues config append rewrite found b old scanned new finds recovers =
    let threads = (settings_of found.config).recovery_threads in
    let a = length (append_files found) in
    let r = length (rewrite_files found) in
    let threads_are : 1 ≤ threads = some_threads config found old scanned finds in
    let some : 1 ≤ a + r → 1 ≤ min threads (a + r) = λ le. omega (arith, le, threads_are) in
    record {
      found = found;
      scanned = scanned;
      finds = finds;
      recovers = recovers;
      append_all = read_whole _ _ (append_files found) scanned (append_share (min threads (a + r)) a r) append b.append.endings.items (append_whole (min threads (a + r)) a r some) recovers.read.append_read;
      rewrite_all = read_whole _ _ (rewrite_files found) scanned (rewrite_share (min threads (a + r)) a r) rewrite b.rewrite.endings.items (rewrite_whole (min threads (a + r)) a r some) recovers.read.rewrite_read;
    }

-- and so something is told of each file
all_told : {F : Type 0} (disk : F → Disk) (tells : F → List ℕ → ℕ → Type 0) (config : Config) (append rewrite : MemTableRecoverContext) (recovered b : DualPipesBuilder) (old between new : F)
    → ReadsQueues config append rewrite recovered (disk old) (disk between) → ReadiesLog disk tells recovered b between new → IsAllRead b
all_told disk tells config append rewrite recovered b old between new reads readies =
    let one = reads.append_all in
    let other = reads.rewrite_all in
    record {
      append = ap (λ q. length q.endings.items) readies.same.1 ∙ sym (one_each _ 0 one.segments _ one.held) ∙ one.all
          ∙ ap (λ v. length v.items) (sym reads.recovers.same.1) ∙ ap (λ q. length q.files.items) (sym readies.same.1);
      rewrite = ap (λ q. length q.endings.items) readies.same.2 ∙ sym (one_each _ 0 other.segments _ other.held) ∙ other.all
          ∙ ap (λ v. length v.items) (sym reads.recovers.same.2) ∙ ap (λ q. length q.files.items) (sym readies.same.2);
    }

-- the tables are made, and the files that are kept for use are readied
pub reads_log : {F : Type 0} (disk : F → Disk) (tells : F → List ℕ → ℕ → Type 0) (config : Config) (append rewrite : MemTableRecoverContext) (recovered b : DualPipesBuilder) (old between new : F) (tables : MemTables)
    → ReadsQueues config append rewrite recovered (disk old) (disk between) → AreMergedOf append rewrite tables → ReadiesLog disk tells recovered b between new
    → ReadsLog disk tells config tables b old new
reads_log disk tells config append rewrite recovered b old between new tables reads merged readies = record {
  append = append;
  rewrite = rewrite;
  recovered = recovered;
  between = between;
  reads = reads;
  merged = merged;
  readies = readies;
  all = all_told disk tells config append rewrite recovered b old between new reads readies;
}

-- what was read of Rewrite was counted
pub brings : (config : Config) (append rewrite : MemTableRecoverContext) (b : DualPipesBuilder) (old new : Disk) (n : ℕ) → ReadsQueues config append rewrite b old new → n ≡ written_to rewrite
    → BringsInRewrite config old n
brings config append rewrite b old new n reads is =
    let all = reads.rewrite_all in
    record {
      found = reads.found;
      scanned = reads.scanned;
      finds = reads.finds;
      segments = all.segments;
      endings = b.rewrite.endings.items;
      held = all.held;
      all = all.all;
      count = is ∙ all.read.written;
    }

-- Queues that are checked are read whole, and what is told is told by their records.
use Rattle.std.proofs.Common.{◌≡◌, ℕ, ◌+◌, ◌≤◌, min, max, zero, suc, List, [], ◌∷◌, length, refl, ap, ap₂, ◌∙◌, arith}
use Rattle.std.specs.Option.{option_and_then, option_or}
use Rattle.raft_log_record_base.specs.declared.pipe_log.LogQueue.{LogQueue}
use Rattle.raft_log_record_base.specs.declared.pipe_log.LogQueue.TheVariants.{Append, Rewrite}
use Rattle.raft_log_fs.specs.Disk.{Disk}
use Rattle.raft_log_file_settings.specs.Settings.{settings_of}
use Rattle.raft_log_file_settings.specs.declared.config.Config.{Config}
use Rattle.raft_log_file_settings.specs.declared.recovery_mode.RecoveryMode.{RecoveryMode}
use Rattle.raft_log_active_file.specs.declared.format.File.{File}
use Rattle.raft_log_recovery_scan.specs.Chunks.{append_share, rewrite_share}
use Rattle.raft_log_replay.specs.Machines.{Batch}
use Rattle.raft_log_replay.specs.Segments.{HasReadSegments, all_batches, read_by}
use Rattle.raft_log_recovery_read.specs.Segments.{HoldsFile}
use Rattle.raft_log_recovery_read.specs.declared.file_ending.FileEnding.{FileEnding}
use Rattle.raft_log_recovery.specs.ForReading.{ReadsLog}
use Rattle.raft_log_recovery.specs.Recovering.{append_files, rewrite_files}
use Rattle.raft_log_recovery.specs.declared.builder.DualPipesBuilder.{DualPipesBuilder}
use Rattle.raft_log_recovery.specs.Finding.{FindsLog}
use Rattle.raft_log_offline.specs.Runs.{Run, finding, runs_of}
use Rattle.raft_log_offline.specs.Kept.{KeepsRuns, kept}
use Rattle.raft_log_offline.specs.Findings.{Lists, finding_in, finding_of, told_by, told_over}
use Rattle.raft_log_offline.specs.Checking.{ChecksLog, HoldAll, ReadsRuns}
use Rattle.raft_log_offline.specs.declared.checker.ConsistencyChecker.{ConsistencyChecker}
use Rattle.raft_log_offline.proofs.Telling.{lists_same}

-- There is a worker wherever there is a file.

none_by : (workers : ℕ) → read_by workers 0 ≡ 0
none_by zero = refl
none_by (suc workers) = refl

all_by : (workers count : ℕ) → 1 ≤ workers → read_by workers count ≡ count
all_by zero count some = omega (arith, some)
all_by (suc workers) count some = refl

one_at_least : (n : ℕ) → 1 ≤ max 1 n
one_at_least n = omega arith

append_whole : (all a r : ℕ) → (1 ≤ a + r → 1 ≤ all) → read_by (append_share all a r) a ≡ a
append_whole all zero r some = none_by all
append_whole all (suc a) zero some = all_by all (suc a) (some (omega arith))
append_whole all (suc a) (suc r) some = all_by (max 1 _) (suc a) (one_at_least _)

rewrite_whole : (all a r : ℕ) → (1 ≤ a + r → 1 ≤ all) → read_by (rewrite_share all a r) r ≡ r
rewrite_whole all zero zero some = none_by all
rewrite_whole all zero (suc r) some = all_by all (suc r) (some (omega arith))
rewrite_whole all (suc a) zero some = none_by all
rewrite_whole all (suc a) (suc r) some = all_by (max 1 _) (suc r) (one_at_least _)

some_threads : (config : Config) (found : DualPipesBuilder) (old scanned : Disk) → FindsLog config found old scanned → 1 ≤ (settings_of found.config).recovery_threads
some_threads config found old scanned finds =
    let same : (settings_of found.config).recovery_threads ≡ max (settings_of config).recovery_threads 1 =
    ap (λ (c : Config). (settings_of c).recovery_threads) finds.scans.same ∙ ap (λ s. s.recovery_threads) finds.begins.whole in
    omega (arith, same)

hold_all : (queue : LogQueue) (mode : RecoveryMode) (files : List File) (d : Disk) (workers : ℕ) (c : ConsistencyChecker) (endings : List FileEnding)
    → read_by workers (length files) ≡ length files
    → (read : HasReadSegments (HoldsFile mode queue files d) (KeepsRuns queue) 0 (read_by workers (length files)) c endings)
    → HoldAll queue mode files d (all_batches read.batches) endings
hold_all queue mode files d workers c endings whole read =
    let all = read.all in
    record { segments = read.batches; held = read.held; all = omega (arith, all, whole); joined = refl }

-- both queues were read, and all files of each
pub reads_runs : (config : Config) (append rewrite : ConsistencyChecker) (found : DualPipesBuilder) (old new : Disk) → FindsLog config found old new
    → ReadsLog KeepsRuns append rewrite found new → ReadsRuns config append rewrite old new
reads_runs config append rewrite found old new finds log =
    let threads = (settings_of found.config).recovery_threads in
    let a = length (append_files found) in
    let r = length (rewrite_files found) in
    let threads_are : 1 ≤ threads = some_threads config found old new finds in
    let some : 1 ≤ a + r → 1 ≤ min threads (a + r) = λ le. omega (arith, le, threads_are) in
    record {
      append_batches = all_batches log.read.append_read.batches;
      rewrite_batches = all_batches log.read.rewrite_read.batches;
      reads = record {
        found = found;
        finds = finds;
        append_endings = log.append_endings;
        rewrite_endings = log.rewrite_endings;
        of_append = hold_all _ _ (append_files found) new (append_share (min threads (a + r)) a r) append log.append_endings (append_whole (min threads (a + r)) a r some)
            log.read.append_read;
        of_rewrite = hold_all _ _ (rewrite_files found) new (rewrite_share (min threads (a + r)) a r) rewrite log.rewrite_endings (rewrite_whole (min threads (a + r)) a r some)
            log.read.rewrite_read;
      };
      append_kept = log.read.append_read.read;
      rewrite_kept = log.read.rewrite_read.read;
    }

told_kept : (runs : List Run) → option_and_then (λ k. k.hole_after) (kept runs) ≡ finding runs
told_kept [] = refl
told_kept (run ∷ runs) = refl

told_is : (queue : LogQueue) (bs : List Batch) (c : ConsistencyChecker) → KeepsRuns queue bs c → (g : ℕ) → told_by c g ≡ finding_in bs g
told_is queue bs c is g = ap (option_and_then (λ k. k.hole_after)) (is g) ∙ told_kept (runs_of g bs)

-- what both checkers tell is told by the records
pub checks_log : (config : Config) (append rewrite : ConsistencyChecker) (findings : List (ℕ × ℕ)) (old new : Disk) → ReadsRuns config append rewrite old new
    → Lists (told_over (told_by rewrite) (told_by append)) findings → ChecksLog config findings old new
checks_log config append rewrite findings old new h lists = record {
  append = h.append_batches;
  rewrite = h.rewrite_batches;
  reads = h.reads;
  lists = lists_same (told_over (told_by rewrite) (told_by append)) (finding_of h.append_batches h.rewrite_batches)
      (λ g. ap₂ option_or (told_is Rewrite h.rewrite_batches rewrite h.rewrite_kept g) (told_is Append h.append_batches append h.append_kept g)) findings lists;
}

-- A log is opened over its files as they were recovered.
use Rattle.std.specs.Prelude.{IfErr, IfOk}
use Rattle.std.specs.String.{string_bytes}
use Rattle.std.proofs.Common.{◌≡◌, [], Result, Ok, Err, map, ap, ◌∙◌}
use Rattle.raft_log_record_base.specs.declared.errors.Error.{Error}
use Rattle.raft_log_record_base.specs.declared.pipe_log.LogQueue.{LogQueue}
use Rattle.raft_log_record_base.specs.declared.pipe_log.LogQueue.TheVariants.{Append, Rewrite}
use Rattle.raft_log_fs.specs.Disk.{Disk}
use Rattle.raft_log_file_settings.specs.declared.config.Config.{Config}
use Rattle.raft_log_dual_pipes.specs.Opening.{FailsToOpenLog, OpensLog}
use Rattle.raft_log_dual_pipes.specs.Pipes.{LogPipes}
use Rattle.raft_log_dual_pipes.specs.declared.opening.FoundPipe.{FoundPipe}
use Rattle.raft_log_recovery.specs.Finishing.{FailsToOpenRecovered, IsPipeRecovered, IsAllRead, IsWantedAs, OpensRecovered, SyncsLog}
use Rattle.raft_log_recovery.specs.Finishing.FailsToOpenRecovered.{unopened}
use Rattle.raft_log_recovery.specs.declared.builder.DualPipesBuilder.{DualPipesBuilder}

-- a pipe is as wanted by where it lies and how it is written
pub wanted_same : (queue : LogQueue) (config : Config) (p q : FoundPipe) → q.layout ≡ p.layout → q.settings ≡ p.settings → IsWantedAs queue config p → IsWantedAs queue config q
wanted_same queue config p q layout settings w = record {
  lies = record {
    named = ap (λ l. l.queue) layout ∙ w.lies.named;
    told = ap (λ s. s.queue) settings ∙ w.lies.told;
    lies = ap (λ l. map string_bytes l.paths.items) layout ∙ w.lies.lies;
  };
  version = ap (λ s. s.new_files.format.version) settings ∙ w.version;
  unaligned = ap (λ s. s.new_files.format.alignment) settings ∙ w.unaligned;
  size = ap (λ s. s.new_files.target_size) settings ∙ w.size;
  capacity = ap (λ s. s.capacity) settings ∙ w.capacity;
}

pub first_of : {A B C : Type 0} → A × B × C → A
first_of (a, b, c) = a

pub second_of : {A B C : Type 0} → A × B × C → B
second_of (a, b, c) = b

pub third_of : {A B C : Type 0} → A × B × C → C
third_of (a, b, c) = c

pub opens_recovered : {T E : Type 0} (r : Result T E) (shown : T → LogPipes) (b : DualPipesBuilder) (old synced : Disk) (append rewrite : FoundPipe) → IsAllRead b → SyncsLog b old synced
    → IsPipeRecovered Append b.config b.append b.reserved.items append → IsPipeRecovered Rewrite b.config b.rewrite [] rewrite
    → IfOk r (λ x. OpensLog append rewrite synced (shown x)) → IfOk r (λ x. OpensRecovered b old (shown x))
opens_recovered (Ok x) shown b old synced append rewrite read syncs one other opens =
    record { read = read; synced = synced; syncs = syncs; append = append; rewrite = rewrite; append_is = one; rewrite_is = other; opens = opens }
opens_recovered (Err e) shown b old synced append rewrite read syncs one other opens = tt

pub recovered_unopened : {T E : Type 0} (r : Result T E) (told : E → Error) (left : E → Disk) (b : DualPipesBuilder) (old synced : Disk) (append rewrite : FoundPipe) → IsAllRead b → SyncsLog b old synced
    → IsPipeRecovered Append b.config b.append b.reserved.items append → IsPipeRecovered Rewrite b.config b.rewrite [] rewrite
    → IfErr r (λ e. FailsToOpenLog append rewrite (told e) synced (left e)) → IfErr r (λ e. FailsToOpenRecovered b (told e) old (left e))
recovered_unopened (Ok x) told left b old synced append rewrite read syncs one other fails = tt
recovered_unopened (Err e) told left b old synced append rewrite read syncs one other fails = unopened synced append rewrite read syncs one other fails

-- Both pipes of a log are opened, one after the other.
use Rattle.std.specs.String.{string_bytes}
use Rattle.std.proofs.Common.{ℕ, ◌<◌, Some, None, List, [], length, map, inl, inr, sym, ◌∙◌, ap, subst}
use Rattle.std.proofs.lemmas.List.{length-map}
use Rattle.raft_log_fs.specs.Disk.{Disk}
use Rattle.raft_log_fs.specs.Image.{IsSound}
use Rattle.raft_log_model_laws.specs.Groups.{Map}
use Rattle.raft_log_record_base.specs.declared.errors.Error.{Error}
use Rattle.raft_log_record_base.specs.declared.pipe_log.LogQueue.{LogQueue}
use Rattle.raft_log_record_base.specs.declared.pipe_log.LogQueue.TheVariants.{Append, Rewrite}
use Rattle.raft_log_active_file.specs.declared.record.LogRecord.{LogRecord}
use Rattle.raft_log_active_file.specs.QueueFilesLaws.{files_are_told, is_layout, queues_are_apart}
use Rattle.raft_log_file_pipe.specs.Opening.{OpensPipe, OpenLeaves}
use Rattle.raft_log_file_pipe.specs.declared.pipe_files.PipeFiles.{PipeFiles}
use Rattle.raft_log_dual_pipes.specs.Own.{log_layout}
use Rattle.raft_log_dual_pipes.specs.Queues.{QueueLayout, AreTwoQueues}
use Rattle.raft_log_dual_pipes.specs.OpenOrClosed.{OpenPipes, none_open}
use Rattle.raft_log_dual_pipes.specs.OnDisk.{LogLiesOn, OpensBoth}
use Rattle.raft_log_dual_pipes.proofs.ClosedQueues.{lying_logs_are_logs}
use Rattle.raft_log_dual_pipes.proofs.OnDiskLaws.{resting_logs_open}
use Rattle.raft_log_dual_pipes.specs.Pipes.{OnePipe, LogPipes, LogSense, IsPipeOf, queues}
use Rattle.raft_log_dual_pipes.specs.Opening.{layout_found, OpensFound, FailsToOpenFound, IsFoundAs, RestsAsFound, RunsAsFound, IsOpenedOf, OpensLog, FailsToOpenLog}
use Rattle.raft_log_dual_pipes.specs.declared.opening.FoundPipe.{FoundPipe}

some_directory : (queue : LogQueue) (directories : List (List ℕ)) (p : FoundPipe) → IsFoundAs queue directories p → 0 < length directories
some_directory queue directories p like = subst (λ (ds : List (List ℕ)). 0 < length ds) like.lies (subst (λ (n : ℕ). 0 < n) (sym (length-map p.layout.paths.items string_bytes)) p.layout.some)

-- what is said of the layout that was found, is said of the queue's
as_log : (queue : LogQueue) (directories : List (List ℕ)) (p : FoundPipe) (P : QueueLayout LogRecord → Type 0) → IsFoundAs queue directories p → P (layout_found p) → P (log_layout queue directories)
as_log queue directories p P like h = subst (λ (ds : List (List ℕ)). P (log_layout queue ds)) like.lies (subst (λ (n : LogQueue). P (log_layout n (map string_bytes p.layout.paths.items))) like.named h)

pipe_of : (queue : LogQueue) (directories : List (List ℕ)) (p : FoundPipe) (o : OnePipe) → IsFoundAs queue directories p → IsOpenedOf p o → IsPipeOf queue directories o
pipe_of queue directories p o like is = record {
  named = is.queue ∙ like.named;
  told = ap (λ settings. settings.queue) is.settings ∙ like.told;
  lies = is.directories ∙ like.lies;
  some = some_directory queue directories p like;
  alive = is.alive;
}

module _ (log : LogSense) (m : Map (List ℕ) (List ℕ)) (append rewrite : FoundPipe) (old : Disk) (sound : IsSound old) (h : RestsAsFound log m append rewrite old) where
  two : AreTwoQueues (queues log)
  two = record {
    append = record { lawful = is_layout Append log.append (some_directory Append log.append append h.append_as); told = files_are_told Append log.append };
    rewrite = record { lawful = is_layout Rewrite log.rewrite (some_directory Rewrite log.rewrite rewrite h.rewrite_as); told = files_are_told Rewrite log.rewrite };
    apart = queues_are_apart log.append log.rewrite;
  }

  both : OpensBoth (queues log) old m h.rests append.found rewrite.found append.settings.new_files rewrite.settings.new_files
  both = resting_logs_open (queues log) two old m h.rests sound append.found rewrite.found append.settings.new_files rewrite.settings.new_files h.append_found h.rewrite_found

  append_there : (files : PipeFiles) (mid : Disk) → OpensFound append files old mid → OpensPipe (queues log).append.format (queues log).append.own (queues log).append.paths append.settings.new_files append.found files old mid
  append_there files mid opens = as_log Append log.append append (λ (l : QueueLayout LogRecord). OpensPipe l.format l.own l.paths append.settings.new_files append.found files old mid) h.append_as opens

  opened : (v : LogPipes) (mid : Disk) → IsSound mid → IsOpenedOf append v.append → IsOpenedOf rewrite v.rewrite → OpensFound append v.append.files old mid → OpensFound rewrite v.rewrite.files mid v.disk → RunsAsFound log m h.rests.state v
  opened v mid mid_sound one other first second =
      let there = as_log Rewrite log.rewrite rewrite (λ (l : QueueLayout LogRecord). OpensPipe l.format l.own l.paths rewrite.settings.new_files rewrite.found v.rewrite.files mid v.disk) h.rewrite_as second in
      let o = both.answered v.append.files v.rewrite.files mid v.disk mid_sound (append_there v.append.files mid first) there in
      record {
        state = o.state;
        runs = record {
          append = pipe_of Append log.append append v.append h.append_as one;
          rewrite = pipe_of Rewrite log.rewrite rewrite v.rewrite h.rewrite_as other;
          disk = o.disk;
          run = o.run;
        };
        append_synced = o.append_synced;
        rewrite_synced = o.rewrite_synced;
        append_goes_on = o.append_goes_on;
        rewrite_goes_on = o.rewrite_goes_on;
        reads = o.reads;
        holds = o.holds;
      }

  first_refused : (error : Error) (new : Disk) → FailsToOpenFound append error old new → LogLiesOn (queues log) none_open new m []
  first_refused error new fails =
      both.first_refused error new (as_log Append log.append append (λ (l : QueueLayout LogRecord). OpenLeaves l.format l.own l.paths append.settings.new_files append.found error old new) h.append_as fails)

  second_refused : (files : PipeFiles) (error : Error) (mid new : Disk) → IsSound mid → OpensFound append files old mid → FailsToOpenFound rewrite error mid new → LogLiesOn (queues log) none_open new m []
  second_refused files error mid new mid_sound first fails =
      let there = as_log Rewrite log.rewrite rewrite (λ (l : QueueLayout LogRecord). OpenLeaves l.format l.own l.paths rewrite.settings.new_files rewrite.found error mid new) h.rewrite_as fails in
      let left = both.second_refused files error mid new mid_sound (append_there files mid first) there in
      let one : OpenPipes = record { append = Some files; rewrite = None } in
      record { state = left.state; disk = left.disk; stands = (lying_logs_are_logs (queues log) two).dropped one left.state left.stands; holds = left.holds }

pub opens_log : (append rewrite : FoundPipe) (old mid : Disk) (v : LogPipes) → IsSound old → IsSound mid → IsOpenedOf append v.append → IsOpenedOf rewrite v.rewrite → OpensFound append v.append.files old mid → OpensFound rewrite v.rewrite.files mid v.disk
    → OpensLog append rewrite old v
opens_log append rewrite old mid v sound mid_sound one other first second = record {
  mid = mid;
  append_is = one;
  rewrite_is = other;
  append_opens = first;
  rewrite_opens = second;
  log = λ log m h. opened log m append rewrite old sound h v mid mid_sound one other first second;
}

pub append_not_opened : (append rewrite : FoundPipe) (error : Error) (old new : Disk) → IsSound old → FailsToOpenFound append error old new → FailsToOpenLog append rewrite error old new
append_not_opened append rewrite error old new sound fails = record { call = inl fails; lies = λ log m h. first_refused log m append rewrite old sound h error new fails }

pub rewrite_not_opened : (append rewrite : FoundPipe) (files : PipeFiles) (error : Error) (old mid new : Disk) → IsSound old → IsSound mid → OpensFound append files old mid → FailsToOpenFound rewrite error mid new → FailsToOpenLog append rewrite error old new
rewrite_not_opened append rewrite files error old mid new sound mid_sound first fails = record {
  call = inr (files, mid, first, fails);
  lies = λ log m h. second_refused log m append rewrite old sound h files error mid new mid_sound first fails;
}

-- Which files a queue's span has, and why none of them went.
use Rattle.std.proofs.Common.{◌≡◌, ◌⊎◌, ◌+◌, ◌≤◌, ℕ, suc, List, [], ◌∷◌, length, inl, inr, refl, sym, subst, ◌∙◌, arith}
use Rattle.raft_log_fs.specs.Disk.{Disk}
use Rattle.raft_log_record_base.specs.declared.errors.Error.{Error}
use Rattle.raft_log_record_base.specs.declared.errors.Error.TheVariants as errors
use Rattle.raft_log_record_base.specs.declared.pipe_log.LogQueue.{LogQueue}
use Rattle.raft_log_active_file.specs.Standing.{Names}
use Rattle.raft_log_active_file.specs.Layout.{FilePaths}
use Rattle.raft_log_file_pipe.specs.Files.{IsSpan, Listed}
use Rattle.raft_log_file_pipe.specs.Purging.{IsInSpan}
use Rattle.raft_log_machine_laws.specs.Calls.{Which}
use Rattle.raft_log_machine_laws.specs.Calls.Which.{InAppend, InRewrite}
use Rattle.raft_log_file_pipe.specs.declared.pipe_files.PipeFiles.{PipeFiles}
use Rattle.raft_log_dual_pipes.specs.Queues.{QueueLayout}
use Rattle.raft_log_dual_pipes.specs.State.{RunsQueue, Spanned, pipe_at}
use Rattle.raft_log_dual_pipes.specs.Pipes.{LogPipes, RunsOn, State, files_of, which_of}
use Rattle.raft_log_dual_pipes.specs.Calls.{FailsToPurgeQueue}
use Rattle.raft_log_dual_pipes.specs.Numbers.{EndsNumbersBelow}
use Rattle.raft_log_engine_laws.specs.EngineState.{LogDirectories, EngineState, log_in, sense}
use Rattle.raft_log_purge_copy.specs.Files.{IsNoLimit}
use Rattle.raft_log_purge_copy.specs.Reasons.{HasFileReason}
use Rattle.raft_log_purge_copy.specs.Stale.{written_file}

-- The files of a span.

span_len : (paths : FilePaths) (N : Names) (first : ℕ) (fs : List Listed) (last : ℕ) → IsSpan paths N first fs last → first + length fs ≡ last
span_len paths N first [] last is = omega (arith, is)
span_len paths N first (f ∷ fs) last (number, listed, named, rest) = (let behind = span_len paths N (suc first) fs last rest in omega (arith, behind))

runs_len : {R : Type 0} (layout : QueueLayout R) (files : PipeFiles) (q : Spanned R) (d : Disk) → RunsQueue layout files q d → files.first_seq + length files.earlier.items ≡ files.active.seq
runs_len layout files q d runs = span_len layout.paths d.names files.first_seq files.earlier.items q.files.last runs.pipe.span ∙ sym runs.pipe.number

span_at : (which : Which) (home : LogDirectories) (v : LogPipes) (s : State) → RunsOn (sense home) v s → (pipe_at which (files_of v)).first_seq + length (pipe_at which (files_of v)).earlier.items ≡ (pipe_at which (files_of v)).active.seq
span_at InAppend home v s runs = runs_len (log_in home).append (files_of v).append s.append s.disk runs.run.append
span_at InRewrite home v s runs = runs_len (log_in home).rewrite (files_of v).rewrite s.rewrite s.disk runs.run.rewrite

-- from the first file to the last
pub within_span : (which : Which) (n : ℕ) (home : LogDirectories) (v : LogPipes) (s : State) → RunsOn (sense home) v s → (pipe_at which (files_of v)).first_seq ≤ n → n ≤ (pipe_at which (files_of v)).active.seq
    → IsInSpan n (pipe_at which (files_of v))
within_span which n home v s runs from to = (let all = span_at which home v s runs in (from, omega (arith, all, to)))

last_within : (which : Which) (home : LogDirectories) (v : LogPipes) (s : State) → RunsOn (sense home) v s → IsInSpan (pipe_at which (files_of v)).active.seq (pipe_at which (files_of v))
last_within which home v s runs = (let all = span_at which home v s runs in (omega (arith, all), omega (arith, all)))

-- Why files don't go: they would up to one of the span, unless the limit is past it.
pub lose_reason : (queue : LogQueue) (limit least : ℕ) (home : LogDirectories) (error : Error) (s t : EngineState) (log : State) → least ≤ limit → (pipe_at (which_of queue) (files_of s.pipes)).first_seq ≤ least → RunsOn (sense home) s.pipes log
    → FailsToPurgeQueue (which_of queue) least error s.pipes t.pipes → EndsNumbersBelow (which_of queue) error s.pipes → HasFileReason error s t ⊎ IsNoLimit queue limit error s
lose_reason queue limit least home errors.Memory s t log low above runs call ends = inl tt
lose_reason queue limit least home (errors.Other fault) s t log low above runs call ends = inr (λ within. let out = (call (sense home) log runs).0 in let last = within.1 in out (above, omega (arith, low, last)))
lose_reason queue limit least home errors.NumberRange s t log low above runs call ends = absurd ((ends refl).1 (sense home) log runs)
lose_reason queue limit least home errors.Failed s t log low above runs call ends = inl (call (sense home) log runs).0
lose_reason queue limit least home _ s t log low above runs call ends = absurd (call (sense home) log runs)

-- where the limit is the last file, it was one
none_off : (queue : LogQueue) (limit : ℕ) (error : Error) (s : EngineState) → IsInSpan limit (pipe_at (which_of queue) (files_of s.pipes)) → IsNoLimit queue limit error s → ⊥
none_off queue limit (errors.Other fault) s within out = out within
none_off queue limit _ s within never = never

pub limited_reason : (queue : LogQueue) (last : ℕ) (home : LogDirectories) (error : Error) (s t : EngineState) (log : State) → RunsOn (sense home) s.pipes log → last ≡ written_file queue s.pipes → HasFileReason error s t ⊎ IsNoLimit queue last error s
    → HasFileReason error s t
limited_reason queue last home error s t log runs is (inl reason) = reason
limited_reason queue last home error s t log runs is (inr out) =
    absurd (none_off queue last error s (subst (λ (n : ℕ). IsInSpan n (pipe_at (which_of queue) (files_of s.pipes))) (sym is) (last_within (which_of queue) home s.pipes log runs)) out)

-- What is said of a log on a disk, through crashes and opens.
use Rattle.std.proofs.Common.{◌≡◌, ℕ, ◌≤◌, false, Some, None, List, [], length, take, refl, sym, subst, inr, arith}
use Rattle.raft_log_model_laws.specs.Item.{Record}
use Rattle.raft_log_model_laws.specs.Groups.{Map, taken}
use Rattle.raft_log_machine_laws.specs.Fresh.{nothing_stands, nowhere}
use Rattle.raft_log_fs.specs.Disk.{Disk}
use Rattle.raft_log_fs.specs.Image.{IsImage, IsSound}
use Rattle.raft_log_file_writer.specs.LogQueue.{Past, LogFiles, NoChanceInLast}
use Rattle.raft_log_record_base.specs.declared.errors.Error.{Error}
use Rattle.raft_log_record_base.specs.declared.errors.Error.TheVariants as errors
use Rattle.raft_log_active_file.specs.Beginning.{IsFresh}
use Rattle.raft_log_file_pipe.specs.Files.{Listed, AllKept}
use Rattle.raft_log_file_pipe.specs.Opening.{OpensPipe, OpenLeaves}
use Rattle.raft_log_file_pipe.specs.declared.found_files.FoundFiles.{FoundFiles}
use Rattle.raft_log_file_pipe.specs.declared.new_files.NewFiles.{NewFiles}
use Rattle.raft_log_file_pipe.specs.declared.pipe_files.PipeFiles.{PipeFiles}
use Rattle.raft_log_machine_laws.specs.Model.{no_files}
use Rattle.raft_log_machine_laws.specs.Log.{View, IsLog}
use Rattle.raft_log_machine_laws.specs.Calls.{Which}
use Rattle.raft_log_machine_laws.specs.Calls.Which.{InAppend, InRewrite}
use Rattle.raft_log_machine_laws.proofs.Public.{fresh_sound, stands_log}
use Rattle.raft_log_dual_pipes.specs.Queues.{TwoQueues, AreTwoQueues}
use Rattle.raft_log_dual_pipes.specs.State.{LogOnDisk, Pipes, Ties}
use Rattle.raft_log_dual_pipes.specs.Beginning.{begun_queue, stopped_log}
use Rattle.raft_log_dual_pipes.specs.Steps.{next_log}
use Rattle.raft_log_dual_pipes.specs.Writing.{IsAtOn}
use Rattle.raft_log_dual_pipes.specs.OpenOrClosed.{OpenPipes, none_open, both_open, with_open, IsOpenOrClosed}
use Rattle.raft_log_dual_pipes.specs.Reopening.{GoesOnFound, ReadsAgain, ReadsBothAgain, RestBoth, IsFoundOf, found_log, LeavesUnopened, OpensBeside, FoundLogIsALog}
use Rattle.raft_log_dual_pipes.specs.Reopening.IsFoundOf.{unbegun}
use Rattle.raft_log_dual_pipes.specs.OnDisk.{LogLiesOn, IsDurableAs, LogsGoOn, LogsGoOnDisks, LogOpenedOn, OpensBoth, RestingLogsOpen}
use Rattle.raft_log_dual_pipes.proofs.Wholes.{begun_log_is_empty}
use Rattle.raft_log_dual_pipes.proofs.ClosedQueues.{back, log_of}
use Rattle.raft_log_dual_pipes.proofs.ReadingAgain.{found_log_is_a_log}
use Rattle.raft_log_dual_pipes.proofs.CrashSteps.{rests_lie, crash_is_a_step}
use Rattle.raft_log_dual_pipes.proofs.OpenSteps.{found_stays, opens_touch, open_is_a_step}

module _ {R E V : Type 0} (log : TwoQueues R E V) (two : AreTwoQueues log) where
  -- what rests lies there
  rest_lies : (s : LogOnDisk R) → RestBoth log s → IsOpenOrClosed log none_open s
  rest_lies s rests = record { append = rests_lie log.append s.append s.disk rests.append; rewrite = rests_lie log.rewrite s.rewrite s.disk rests.rewrite }

  -- nothing stands where no file is

  nothing_before : ℕ → Past R
  nothing_before n = record { header = []; records = [] }

  abbrev fresh_log : Disk → LogOnDisk R
  fresh_log d = record { append = begun_queue nothing_before [] 0; rewrite = begun_queue nothing_before [] 0; disk = d }

  nothing : (d : Disk) → IsFresh log.append.format log.append.own d d → IsFresh log.rewrite.format log.rewrite.own d d → IsDurableAs log d nothing_stands
  nothing d append rewrite =
      let a_limit = two.append.lawful.limit in
      let r_limit = two.rewrite.lawful.limit in
      record {
        state = fresh_log d;
        disk = refl;
        rests = record {
          append = inr (record { fresh = append; is = (nothing_before, [], 0, refl) });
          rewrite = inr (record { fresh = rewrite; is = (nothing_before, [], 0, refl) });
        };
        append_synced = refl;
        rewrite_synced = refl;
        holds = record {
          files = no_files;
          whereabouts = λ g. nowhere;
          failed = false;
          sound = fresh_sound;
          ends = refl;
          there = begun_log_is_empty log (begun_queue nothing_before [] 0) (begun_queue nothing_before [] 0) d (nothing_before, [], 0, refl) (nothing_before, [], 0, refl)
              (append.none 0 (omega (arith, a_limit))) (rewrite.none 0 (omega (arith, r_limit)));
        };
      }

  none_found : (d : Disk) (append : IsFresh log.append.format log.append.own d d) (rewrite : IsFresh log.rewrite.format log.rewrite.own d d) → (found : FoundFiles) → found.files.items ≡ [] → found.recycled.items ≡ []
      → IsFoundOf log.append found (nothing d append rewrite).state.append d × IsFoundOf log.rewrite found (nothing d append rewrite).state.rewrite d
  unfolding nothing
  none_found d append rewrite found none spares = (
    unbegun none (record { fresh = append; is = (nothing_before, [], 0, refl) }) (subst (λ (fs : List Listed). AllKept log.append.format log.append.paths 1 d fs) (sym spares) tt),
    unbegun none (record { fresh = rewrite; is = (nothing_before, [], 0, refl) }) (subst (λ (fs : List Listed). AllKept log.rewrite.format log.rewrite.paths 1 d fs) (sym spares) tt),
  )

  engine : (p : Pipes) (d : Disk) (v : View E V) (m : Map E V) (pending : List (Record E V)) → IsAtOn log p d v m pending → LogLiesOn log (both_open p) d m pending
  engine p d v m pending h = record {
    state = h.state;
    disk = h.disk;
    stands = record { append = h.run.append; rewrite = h.run.rewrite };
    holds = stands_log (Ties log h.state) v h.at.files m pending h.at.stands h.at.there;
  }

  rest : (d : Disk) (m : Map E V) → IsDurableAs log d m → LogLiesOn log none_open d m []
  rest d m h = record { state = h.state; disk = h.disk; stands = rest_lies h.state h.rests; holds = h.holds }

  crashes : (o : OpenPipes) (d image : Disk) (m : Map E V) (pending : List (Record E V)) → (h : LogLiesOn log o d m pending) → IsImage d image
      → NoChanceInLast log.append.format h.state.append.files d image → NoChanceInLast log.rewrite.format h.state.rewrite.files d image → (k : ℕ) × (k ≤ length pending) × IsDurableAs log image (taken m (take k pending))
  crashes o d image m pending h is append_chance rewrite_chance =
      let s = h.state in
      let (a, r, a_within, r_within, rests, stands, reads, left, again) = crash_is_a_step log two o s image h.stands (subst (λ (x : Disk). IsImage x image) (sym h.disk) is)
      (subst (λ (x : Disk). NoChanceInLast log.append.format s.append.files x image) (sym h.disk) append_chance) (subst (λ (x : Disk). NoChanceInLast log.rewrite.format s.rewrite.files x image) (sym h.disk) rewrite_chance) in
      let (k, within, holds) = (found_log_is_a_log log).log_of s (stopped_log s a r image) m pending reads h.holds in
      (k, within, record { state = stopped_log s a r image; disk = refl; rests = rests; append_synced = refl; rewrite_synced = refl; holds = holds })

  pub logs_go_on : LogsGoOn log
  logs_go_on = record {
    nothing = nothing;
    none_found = none_found;
    engine = engine;
    rest = rest;
    means = λ o d m pending h sound. log_of log two o h.state m pending (subst IsSound (sym h.disk) sound) h.stands h.holds;
    crashes = crashes;
  }

  -- OpensPipe.

  laws : FoundLogIsALog log
  laws = found_log_is_a_log log

  -- nothing of it was unsynced, so nothing is lost
  log_then : (s t : LogOnDisk R) (m : Map E V) → ReadsBothAgain (Ties log) s t → IsLog (Ties log s) m [] → IsLog (Ties log t) m []
  log_then s t m reads holds =
      let (n, within, next) = laws.log_of s t m [] reads holds in
      let none : n ≡ 0 = omega (arith, within) in
      subst (λ (k : ℕ). IsLog (Ties log t) (taken m (take k [])) []) none next

  read_then : (which : Which) (s : LogOnDisk R) (first : ℕ) (files : LogFiles R) (new : Disk) (m : Map E V) → s.append.files.pending ≡ [] → s.rewrite.files.pending ≡ []
      → ReadsAgain (Ties log) which s (found_log which s first files new) → IsLog (Ties log s) m [] → IsLog (Ties log (found_log which s first files new)) m []
  read_then InAppend s first files new m a r reads holds =
      let t : LogOnDisk R = found_log InAppend s first files new in
      log_then s t m (laws.append_first s t t reads (laws.still InRewrite t r)) holds
  read_then InRewrite s first files new m a r reads holds =
      let t : LogOnDisk R = found_log InRewrite s first files new in
      log_then s t m (laws.rewrite_first s t t reads (laws.still InAppend t a)) holds

  -- a refused open leaves the log there
  unopened : (which : Which) (o : OpenPipes) (s : LogOnDisk R) (m : Map E V) (error : Error) (new : Disk) → IsOpenOrClosed log (with_open which o None) s → s.append.files.pending ≡ [] → s.rewrite.files.pending ≡ [] → IsLog (Ties log s) m []
      → LeavesUnopened log which o s error new → LogLiesOn log (with_open which o None) new m []
  unopened which o s m errors.Memory new stands a r holds same = record { state = s; disk = sym same; stands = stands; holds = holds }
  unopened which o s m (errors.InvalidArgument text) new stands a r holds same = record { state = s; disk = sym same; stands = stands; holds = holds }
  unopened InAppend o s m (errors.Io kind) new stands a r holds (files, none, there, reads) = record {
    state = next_log InAppend s files new;
    disk = refl;
    stands = there;
    holds = read_then InAppend s s.append.first files new m a r reads holds;
  }
  unopened InRewrite o s m (errors.Io kind) new stands a r holds (files, none, there, reads) = record {
    state = next_log InRewrite s files new;
    disk = refl;
    stands = there;
    holds = read_then InRewrite s s.rewrite.first files new m a r reads holds;
  }
  unopened which o s m _ new stands a r holds leaves = absurd leaves

module _ {R E V : Type 0} (log : TwoQueues R E V) (two : AreTwoQueues log) (d : Disk) (m : Map E V) (h : IsDurableAs log d m) (sound : IsSound d) (append rewrite : FoundFiles) (begin next : NewFiles)
    (append_found : IsFoundOf log.append append h.state.append d) (rewrite_found : IsFoundOf log.rewrite rewrite h.state.rewrite d) where
  abbrev s : LogOnDisk R
  s = h.state

  sound_there : IsSound s.disk
  sound_there = subst IsSound (sym h.disk) sound

  found_there : IsFoundOf log.append append s.append s.disk
  found_there = subst (IsFoundOf log.append append s.append) (sym h.disk) append_found

  first_open : OpensBeside log InAppend none_open begin append s
  first_open = open_is_a_step log two InAppend none_open begin append s sound_there (rest_lies log two s h.rests) found_there

  -- once that of Append is open
  module _ (one : PipeFiles) (mid : Disk) (mid_sound : IsSound mid) (opens : OpensPipe log.append.format log.append.own log.append.paths begin append one d mid) where
    opens_there : OpensPipe log.append.format log.append.own log.append.paths begin append one s.disk mid
    opens_there = subst (λ (x : Disk). OpensPipe log.append.format log.append.own log.append.paths begin append one x mid) (sym h.disk) opens

    abbrev t : LogOnDisk R
    t = found_log InAppend s one.first_seq (first_open.answered one mid opens_there).0 mid

    abbrev one_open : OpenPipes
    one_open = record { append = Some one; rewrite = None }

    t_goes_on : GoesOnFound one s.append.files t.append.files
    t_goes_on = (first_open.answered one mid opens_there).1

    t_synced : t.append.files.pending ≡ []
    t_synced = t_goes_on.pending

    t_stands : IsOpenOrClosed log one_open t
    t_stands = (first_open.answered one mid opens_there).2

    t_reads : ReadsAgain (Ties log) InAppend s t
    t_reads = (first_open.answered one mid opens_there).3

    t_holds : IsLog (Ties log t) m []
    t_holds = read_then log two InAppend s one.first_seq (first_open.answered one mid opens_there).0 mid m h.append_synced h.rewrite_synced t_reads h.holds

    second_open : OpensBeside log InRewrite one_open next rewrite t
    second_open = open_is_a_step log two InRewrite one_open next rewrite t mid_sound t_stands
        (found_stays log.rewrite two.rewrite log.append.own s.disk mid (back log two) (opens_touch log two InAppend none_open begin append s sound_there (rest_lies log two s h.rests) found_there one mid opens_there) rewrite s.rewrite
        (subst (IsFoundOf log.rewrite rewrite s.rewrite) (sym h.disk) rewrite_found))

    not_second : (error : Error) (new : Disk) → OpenLeaves log.rewrite.format log.rewrite.own log.rewrite.paths next rewrite error mid new → LogLiesOn log one_open new m []
    not_second error new leaves = unopened log two InRewrite one_open t m error new t_stands t_synced h.rewrite_synced t_holds (second_open.refused error new leaves)

    both : (other : PipeFiles) (new : Disk) → OpensPipe log.rewrite.format log.rewrite.own log.rewrite.paths next rewrite other mid new → LogOpenedOn log (record { append = one; rewrite = other }) s new m
    both other new calls =
        let (q, goes_on, stands, reads) = second_open.answered other new calls in
        let u : LogOnDisk R = found_log InRewrite t other.first_seq q new in
        record {
          state = u;
          disk = refl;
          run = record { append = stands.append; rewrite = stands.rewrite };
          append_synced = t_synced;
          rewrite_synced = goes_on.pending;
          append_goes_on = t_goes_on;
          rewrite_goes_on = goes_on;
          reads = (found_log_is_a_log log).append_first s t u t_reads reads;
          holds = read_then log two InRewrite t other.first_seq q new m t_synced h.rewrite_synced reads t_holds;
        }

  not_first : (error : Error) (mid : Disk) → OpenLeaves log.append.format log.append.own log.append.paths begin append error d mid → LogLiesOn log none_open mid m []
  not_first error mid leaves =
      unopened log two InAppend none_open s m error mid (rest_lies log two s h.rests) h.append_synced h.rewrite_synced h.holds
      (first_open.refused error mid (subst (λ (x : Disk). OpenLeaves log.append.format log.append.own log.append.paths begin append error x mid) (sym h.disk) leaves))

  opens_both : OpensBoth log d m h append rewrite begin next
  opens_both = record {
    first_refused = not_first;
    second_refused = λ one error mid new mid_sound opens leaves. not_second one mid mid_sound opens error new leaves;
    answered = λ one other mid new mid_sound opens calls. both one mid mid_sound opens other new calls;
  }

pub logs_go_on_disks : {R E V : Type 0} (log : TwoQueues R E V) → LogsGoOnDisks log
logs_go_on_disks log two = logs_go_on log two

pub resting_logs_open : {R E V : Type 0} (log : TwoQueues R E V) → RestingLogsOpen log
resting_logs_open log two d m h sound append rewrite begin next append_found rewrite_found = opens_both log two d m h sound append rewrite begin next append_found rewrite_found

-- What lies in the files of a log that was closed properly: it is at rest, and so asks nothing of chance.
use Rattle.std.proofs.Common.{◌≡◌, ℕ, ◌<◌, false, Some, None, List, [], ◌++◌, refl, sym, ap, subst, ◌∙◌, inl, inr, append-nil}
use Rattle.raft_log_model_laws.specs.Groups.{taken}
use Rattle.raft_log_machine_laws.specs.Log.{IsLog}
use Rattle.raft_log_fs.specs.Disk.{Disk}
use Rattle.raft_log_fs.specs.Image.{IsSound}
use Rattle.raft_log_fs.specs.Touching.{HasFile}
use Rattle.raft_log_fs.proofs.Public.{has_weaker}
use Rattle.raft_log_file_writer.specs.LogQueue.{HoldsLast, IsLeftover, IsPast, LogFiles}
use Rattle.raft_log_active_file.specs.Queue.{finished, settled}
use Rattle.raft_log_active_file.specs.Layout.{path_of}
use Rattle.raft_log_active_file.specs.Standing.{Names, Stands}
use Rattle.raft_log_engine_laws.specs.raft_log_active_file.specs.declared.record.LogRecord.{LogRecord}
use Rattle.raft_log_engine_laws.specs.raft_log_memtables.specs.Views.{view_of}
use Rattle.raft_log_dual_pipes.specs.Closing.{LiesSettled, closed_log}
use Rattle.raft_log_dual_pipes.specs.OnDisk.{IsDurableAs}
use Rattle.raft_log_dual_pipes.specs.OpenOrClosed.{LiesQueue}
use Rattle.raft_log_dual_pipes.specs.Pipes.{LogRecordValue, State}
use Rattle.raft_log_dual_pipes.specs.Queues.{AreTwoQueues, IsQueueLayout, QueueLayout}
use Rattle.raft_log_dual_pipes.specs.State.{HasSpan, IsStopped, Spanned, Ties}
use Rattle.raft_log_dual_pipes.proofs.Public.{none_pending}
use Rattle.raft_log_engine_laws.specs.EngineState.{EngineState, LogDirectories, LogMap, log_in, sense}
use Rattle.raft_log_engine_laws.specs.Holding.{Represents}
use Rattle.raft_log_recovery_laws.specs.Closed.{ClosedEnginesReopen, ClosedFilesMeetThePremise, ClosesProperly, EndsWithOwnBytes, HoldsRecordsAlone, IsClosedAs, IsThatOrItsImage}
use Rattle.raft_log_recovery_laws.proofs.ClosingLog.{append_alone, append_bytes, append_pipe, closed_sound, lies_settled, rewrite_alone, rewrite_bytes, rewrite_pipe, two}
use Rattle.raft_log_recovery_laws.proofs.ClosingPipes.{IsAloneAt, past_leftover, past_settled}
use Rattle.raft_log_recovery_laws.proofs.Directory.{resting_directories_open}
use Rattle.raft_log_recovery_laws.proofs.RestingFiles.{resting_logs_ask_nothing}

-- One queue.

module _ {R : Type 0} (layout : QueueLayout R) (told : IsQueueLayout layout) (q : Spanned R) (path : List ℕ) (id : ℕ) (d : Disk) (bound : q.files.last < layout.format.limit) (at : layout.format.IsPath q.files.last path) (alone : IsAloneAt layout.format q.files path id d) where
  leftover_there : HasFile id (IsLeftover layout.format q.files) d
  leftover_there = has_weaker id (IsPast layout.format q.files.last (finished q.files)) (IsLeftover layout.format q.files) d (past_leftover layout.format told.lawful.format q.files) alone.file

  stopped_as : (other : List ℕ) (j : ℕ) (N : Names) → Stands layout.format layout.own d q.files other j (HoldsLast layout.format q.files) N d → IsStopped layout q.files d
  stopped_as other j N s =
      let same : id ≡ j = s.alone path id at (ap (λ (f : Names). f path) (sym s.names) ∙ alone.named) in
      record {
        path = other;
        id = j;
        N = N;
        stands = record {
          names = s.names;
          bound = s.bound;
          at = s.at;
          named = s.named;
          alone = s.alone;
          none = s.none;
          headed = s.headed;
          places = s.places;
          file = subst (λ (k : ℕ). HasFile k (IsLeftover layout.format q.files) d) same leftover_there;
          older = s.older;
          single = s.single;
          others = s.others;
        };
      }

  -- its files are there as a stop leaves them
  pub stopped_there : LiesQueue layout q d → IsStopped layout q.files d × HasSpan layout.format q d
  stopped_there lies = elim lies [
    | inl (held, span) ↦ (elim held [ inl left ↦ stopped_as left.path left.id left.N left.stands | inr stopped ↦ stopped ], span)
    | inr unbegun ↦ (let none : d.names path ≡ None = unbegun.fresh.none q.files.last bound path at in let there = alone.named in let never : ⊥ = cc in absurd never)
  ]

  -- no other file has its number
  pub only_id : IsStopped layout q.files d → (other : List ℕ) (j : ℕ) → layout.format.IsPath q.files.last other → d.names other ≡ Some j → j ≡ id
  only_id stopped other j there named =
      let s = stopped.stands in
      s.alone other j there (ap (λ (f : Names). f other) (sym s.names) ∙ named) ∙ sym (s.alone path id at (ap (λ (f : Names). f path) (sym s.names) ∙ alone.named))

-- Both queues.

module _ (home : LogDirectories) (e : EngineState) (m : LogMap) (pending : List LogRecordValue) (d : Disk) (sound : IsSound e.pipes.disk) (holds : Represents home e m pending) (c : ClosesProperly e.pipes d) where
  abbrev s : State
  s = holds.state

  log_two : AreTwoQueues (log_in home)
  log_two = two (sense home) e.pipes s d sound holds.runs c

  lies : LiesSettled (log_in home) s d
  lies = lies_settled (sense home) e.pipes s d sound holds.runs c

  abbrev t : State
  t = closed_log s lies.closed.append lies.closed.rewrite d

  -- One queue.

  module _ (layout : QueueLayout LogRecord) (told : IsQueueLayout layout) (was : LogFiles LogRecord) (next : Spanned LogRecord) (is : next.files ≡ settled was) (path : List ℕ) (id : ℕ) (bound : was.last < layout.format.limit) (at : layout.format.IsPath was.last path)
      (alone : IsAloneAt layout.format was path id d) (there : LiesQueue layout next d) where
    alone_then : IsAloneAt layout.format next.files path id d
    alone_then = subst (λ (x : LogFiles LogRecord). IsAloneAt layout.format x path id d) (sym is) (record {
      named = alone.named;
      file = has_weaker id (IsPast layout.format was.last (finished was)) (IsPast layout.format (settled was).last (finished (settled was))) d (past_settled layout.format told.lawful.format was) alone.file;
    })

    same_last : was.last ≡ next.files.last
    same_last = sym (ap (λ (x : LogFiles LogRecord). x.last) is)

    at_then : layout.format.IsPath next.files.last path
    at_then = subst (λ (n : ℕ). layout.format.IsPath n path) same_last at

    queue_rests : IsStopped layout next.files d × HasSpan layout.format next d
    queue_rests = stopped_there layout told next path id d (subst (λ (n : ℕ). n < layout.format.limit) same_last bound) at_then alone_then there

    queue_only : (other : List ℕ) (j : ℕ) → layout.format.IsPath was.last other → d.names other ≡ Some j → j ≡ id
    queue_only other j there named =
        only_id layout told next path id d (subst (λ (n : ℕ). n < layout.format.limit) same_last bound) at_then alone_then queue_rests.0 other j (subst (λ (n : ℕ). layout.format.IsPath n other) same_last there) named

    queue_alone : HoldsRecordsAlone layout next.files d
    queue_alone = record { path = path; at = at_then; file = record { id = id; named = alone_then.named; file = alone_then.file } }

  -- Both queues as the close left them.

  append_is : IsStopped (log_in home).append t.append.files d × HasSpan (log_in home).append.format t.append d
  append_is =
      let p = append_pipe (sense home) e.pipes s d sound holds.runs c in
      queue_rests (log_in home).append log_two.append s.append.files t.append lies.append_is (path_of (log_in home).append.paths e.pipes.append.files.active) e.pipes.append.files.writer.handle.file p.active.stands.bound p.active.stands.at
      (append_alone (sense home) e.pipes s d sound holds.runs c) lies.closed.lies.append

  rewrite_is : IsStopped (log_in home).rewrite t.rewrite.files d × HasSpan (log_in home).rewrite.format t.rewrite d
  rewrite_is =
      let p = rewrite_pipe (sense home) e.pipes s d sound holds.runs c in
      queue_rests (log_in home).rewrite log_two.rewrite s.rewrite.files t.rewrite lies.rewrite_is (path_of (log_in home).rewrite.paths e.pipes.rewrite.files.active) e.pipes.rewrite.files.writer.handle.file p.active.stands.bound p.active.stands.at
      (rewrite_alone (sense home) e.pipes s d sound holds.runs c) lies.closed.lies.rewrite

  append_holds : HoldsRecordsAlone (log_in home).append t.append.files d
  append_holds =
      let p = append_pipe (sense home) e.pipes s d sound holds.runs c in
      queue_alone (log_in home).append log_two.append s.append.files t.append lies.append_is (path_of (log_in home).append.paths e.pipes.append.files.active) e.pipes.append.files.writer.handle.file p.active.stands.bound p.active.stands.at
      (append_alone (sense home) e.pipes s d sound holds.runs c) lies.closed.lies.append

  rewrite_holds : HoldsRecordsAlone (log_in home).rewrite t.rewrite.files d
  rewrite_holds =
      let p = rewrite_pipe (sense home) e.pipes s d sound holds.runs c in
      queue_alone (log_in home).rewrite log_two.rewrite s.rewrite.files t.rewrite lies.rewrite_is (path_of (log_in home).rewrite.paths e.pipes.rewrite.files.active) e.pipes.rewrite.files.writer.handle.file p.active.stands.bound p.active.stands.at
      (rewrite_alone (sense home) e.pipes s d sound holds.runs c) lies.closed.lies.rewrite

  append_ends : EndsWithOwnBytes (log_in home).append.format e.pipes.append.files e.pipes.disk d
  append_ends =
      let p = append_pipe (sense home) e.pipes s d sound holds.runs c in
      record {
        bytes = append_bytes (sense home) e.pipes s d sound holds.runs c;
        alone = λ path id at named.
            queue_only (log_in home).append log_two.append s.append.files t.append lies.append_is (path_of (log_in home).append.paths e.pipes.append.files.active) e.pipes.append.files.writer.handle.file p.active.stands.bound p.active.stands.at
            (append_alone (sense home) e.pipes s d sound holds.runs c) lies.closed.lies.append path id (subst (λ (n : ℕ). (log_in home).append.format.IsPath n path) p.number at) named;
      }

  rewrite_ends : EndsWithOwnBytes (log_in home).rewrite.format e.pipes.rewrite.files e.pipes.disk d
  rewrite_ends =
      let p = rewrite_pipe (sense home) e.pipes s d sound holds.runs c in
      record {
        bytes = rewrite_bytes (sense home) e.pipes s d sound holds.runs c;
        alone = λ path id at named.
            queue_only (log_in home).rewrite log_two.rewrite s.rewrite.files t.rewrite lies.rewrite_is (path_of (log_in home).rewrite.paths e.pipes.rewrite.files.active) e.pipes.rewrite.files.writer.handle.file p.active.stands.bound p.active.stands.at
            (rewrite_alone (sense home) e.pipes s d sound holds.runs c) lies.closed.lies.rewrite path id (subst (λ (n : ℕ). (log_in home).rewrite.format.IsPath n path) p.number at) named;
      }

  -- all batches are in the map
  log_holds : IsLog (Ties (log_in home) t) (taken m pending) []
  log_holds =
      let v = view_of e.tables holds.map in
      let ends = lies.closed.ends v m pending holds.at in
      let some : IsLog (Ties (log_in home) t) (taken m ends.done) ends.rest =
      record { files = ends.at.files; whereabouts = v.whereabouts; failed = false; sound = ends.at.stands.sound; ends = ends.at.stands.ends; there = ends.at.there } in
      let none : ends.rest ≡ [] =
      sym ends.at.stands.ends ∙ none_pending (log_in home).says (log_in home).append.format s.append.first lies.closed.append ends.at.files.append_from d ends.at.files.append (ap (λ (q : LogFiles LogRecord). q.pending) lies.append_is) ends.at.there.append in
      let all : ends.done ≡ pending = sym (append-nil ends.done) ∙ ap (λ (l : List LogRecordValue). ends.done ++ l) (sym none) ∙ ends.splits in
      subst (λ (l : List LogRecordValue). IsLog (Ties (log_in home) t) (taken m l) []) all (subst (λ (l : List LogRecordValue). IsLog (Ties (log_in home) t) (taken m ends.done) l) none some)

  -- the log is at rest
  at_rest_then : IsDurableAs (log_in home) d (taken m pending)
  at_rest_then = record {
    state = t;
    disk = refl;
    rests = record { append = inl append_is; rewrite = inl rewrite_is };
    append_synced = ap (λ (q : LogFiles LogRecord). q.pending) lies.append_is;
    rewrite_synced = ap (λ (q : LogFiles LogRecord). q.pending) lies.rewrite_is;
    holds = log_holds;
  }

  pub closed_as : IsClosedAs home e.pipes d (taken m pending)
  unfolding at_rest_then
  closed_as = record {
    append = append_ends;
    rewrite = rewrite_ends;
    rests = at_rest_then;
    append_alone = append_holds;
    rewrite_alone = rewrite_holds;
    asks = resting_logs_ask_nothing home holds.runs.append.some holds.runs.rewrite.some d (taken m pending) (closed_sound (sense home) e.pipes s d sound holds.runs c) at_rest_then;
  }

pub closed_files_meet_the_premise : ClosedFilesMeetThePremise
closed_files_meet_the_premise home e m pending d sound holds c = closed_as home e m pending d sound holds c

-- what was closed so is at rest, and so is what a crash leaves of it
pub rests_then : (home : LogDirectories) (e : EngineState) (m : LogMap) (pending : List LogRecordValue) (d found : Disk) → IsSound e.pipes.disk → Represents home e m pending → ClosesProperly e.pipes d → IsThatOrItsImage d found
    → IsDurableAs (log_in home) found (taken m pending)
rests_then home e m pending d found sound holds c either =
    let closed = closed_as home e m pending d sound holds c in
    elim either [
      | inl same ↦ subst (λ (x : Disk). IsDurableAs (log_in home) x (taken m pending)) (sym same) closed.rests
      | inr is ↦ closed.asks.rests found is
    ]

pub closed_engines_reopen : {F : Type 0} (disk : F → Disk) (tells : F → List ℕ → ℕ → Type 0) → ClosedEnginesReopen disk tells
closed_engines_reopen disk tells home e m pending d old sound sound_old holds c either config named =
    resting_directories_open disk tells config old (taken m pending) sound_old
    (subst (λ (h : LogDirectories). IsDurableAs (log_in h) (disk old) (taken m pending)) (sym named) (rests_then home e m pending d (disk old) sound holds c either))

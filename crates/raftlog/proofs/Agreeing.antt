-- What explains the engine's events explains the same events with lists of changes.
use Rattle.std.proofs.Common.{◌≡◌, ℕ, Bool, true, List, [], ◌∷◌, Option, subst}
use Rattle.std.specs.Prelude.{◌↔◌, IsTrue, option_map}
use Rattle.std.specs.Global.{Global, Vec}
use Rattle.std.specs.declared.string.String.{String}
use Rattle.raft_log_fs_state.specs.declared.remainder.Remainder.{Remainder}
use Rattle.raft_log_machine_laws.specs.Fresh.{nothing_stands}
use Rattle.raft_log_model_laws.specs.Groups.{taken}
use Rattle.raft_log_model_laws.specs.Meaning.Slot.{Index, Key}
use Rattle.raft_log_model_laws.specs.Meaning.Content.{Entry, Value}
use Rattle.raft_log_record_batches.specs.Batch.{Batch}
use Rattle.raft_log_engine.specs.raft_log_engine_laws.specs.EngineState.{said_of}
use Rattle.raft_log_world.specs.declared.event.Answer.{Answer}
use Rattle.raft_log_world.specs.declared.event.Answer.TheVariants.{Done, Found, At, Entries, Keys, Refused, Failed, Idle}
use Rattle.raft_log_world.specs.declared.event.Call.{Call}
use Rattle.raft_log_world.specs.declared.event.Call.TheVariants.{Write, Sync, Get, GetEntry, FirstIndex, LastIndex, Fetch, Scan, Compact, Purge}
use Rattle.raft_log_world.specs.declared.event.Event.{Event}
use Rattle.raft_log_world.specs.declared.event.Event.TheVariants.{Open, Serve, Close, Fork, Crash, Arm}
use Rattle.raft_log_world.specs.declared.report.LogReport.{LogReport}
use Rattle.raft_log_world.specs.declared.storage.Storage.TheVariants.{Closed}
use Rattle.raft_log_world.specs.Explained.{AllExplained, Explains, NoneCollides}
use Rattle.raft_log_world.specs.Logs.{LogOf, Stands}
use Rattle.raft_log_world.specs.Model.{Adds, Answers, BatchRecord, Compacts, FailsAt, ModelLog, Serves, compacts}
use Rattle.raft_log_world.specs.Model.ModelLog.{resting, left, running, failed}
use Rattle.raft_log_world.specs.Run.{IsLogRun}
use Rattle.raft_log_world.specs.Reads.{Contents, Fetches, IsFirstIndex, IsLastIndex, Scans, all_bytes, bytes_of, pairs_of}
use Rattle.raft_log_judge.specs.declared.change.Change.{Change}
use Rattle.raft_log_judge.specs.Changes.{says_of}
use Rattle.raft_log_judge.specs.Judging.{IsExplained}
use Rattle.raft_log_world_engine.specs.declared.files.ClosedLog.{ClosedLog}
use Rattle.raft_log_world_engine.specs.declared.files.OpenLog.{OpenLog}
use Rattle.raftlog.specs.Same.{SameCall, SameEvent, SameEvents}

-- Calls, by kind.

module _ (m : Contents) (pending : List BatchRecord) (next : ModelLog) where
  write : (changes : List Change) (batch : Batch) (sync flag : Bool) (a : Answer) → said_of batch ≡ says_of changes → flag ≡ sync
      → Serves said_of m pending (Write batch flag) a next → Serves says_of m pending (Write changes sync) a next
  write changes batch sync flag Done says same x = subst (λ (b : Bool). Adds b m pending (says_of changes) next) same (subst (λ (r : BatchRecord). Adds flag m pending r next) says x)
  write changes batch sync flag Refused says same x = x
  write changes batch sync flag Failed says same x = subst (λ (r : BatchRecord). FailsAt m pending r next) says x
  write changes batch sync flag _ says same x = x

  sync : (a : Answer) → Serves said_of m pending Sync a next → Serves says_of m pending Sync a next
  sync Done x = x
  sync _ x = x

  get : (group g : ℕ) (key k : Vec ℕ) (a : Answer) → g ≡ group → k.items ≡ key.items → Serves said_of m pending (Get g k) a next → Serves says_of m pending (Get group key) a next
  get group g key k (Found value) same bytes x =
      (subst (λ (b : List ℕ). taken m pending group (Key b) ≡ option_map Value (bytes_of value)) bytes (subst (λ (n : ℕ). taken m pending n (Key k.items) ≡ option_map Value (bytes_of value)) same x.0), x.1)
  get group g key k _ same bytes x = x

  entry : (group g index i : ℕ) (a : Answer) → g ≡ group → i ≡ index → Serves said_of m pending (GetEntry g i) a next → Serves says_of m pending (GetEntry group index) a next
  entry group g index i (Found value) same at x =
      (subst (λ (j : ℕ). taken m pending group (Index j) ≡ option_map Entry (bytes_of value)) at (subst (λ (n : ℕ). taken m pending n (Index i) ≡ option_map Entry (bytes_of value)) same x.0), x.1)
  entry group g index i _ same at x = x

  first : (group g : ℕ) (a : Answer) → g ≡ group → Serves said_of m pending (FirstIndex g) a next → Serves says_of m pending (FirstIndex group) a next
  first group g (At index) same x = (subst (λ (n : ℕ). IsFirstIndex (taken m pending) n index) same x.0, x.1)
  first group g _ same x = x

  last : (group g : ℕ) (a : Answer) → g ≡ group → Serves said_of m pending (LastIndex g) a next → Serves says_of m pending (LastIndex group) a next
  last group g (At index) same x = (subst (λ (n : ℕ). IsLastIndex (taken m pending) n index) same x.0, x.1)
  last group g _ same x = x

  fetch : (group g begin b end e : ℕ) (max n : Option ℕ) (a : Answer) → g ≡ group → b ≡ begin → e ≡ end → n ≡ max
      → Serves said_of m pending (Fetch g b e n) a next → Serves says_of m pending (Fetch group begin end max) a next
  fetch group g begin b end e max n (Entries entries) same from below most x = (
    subst (λ (o : Option ℕ). Fetches (taken m pending) group begin end o (all_bytes entries.items)) most
        (subst (λ (j : ℕ). Fetches (taken m pending) group begin j n (all_bytes entries.items)) below
        (subst (λ (j : ℕ). Fetches (taken m pending) group j e n (all_bytes entries.items)) from
        (subst (λ (j : ℕ). Fetches (taken m pending) j b e n (all_bytes entries.items)) same x.0))),
    x.1,
  )
  fetch group g begin b end e max n _ same from below most x = x

  scan : (group g : ℕ) (start s end e : Option (Vec ℕ)) (a : Answer) → g ≡ group → bytes_of s ≡ bytes_of start → bytes_of e ≡ bytes_of end
      → Serves said_of m pending (Scan g s e) a next → Serves says_of m pending (Scan group start end) a next
  scan group g start s end e (Keys pairs) same from below x = (
    subst (λ (o : Option (List ℕ)). Scans (taken m pending) group (bytes_of start) o (pairs_of pairs.items)) below
        (subst (λ (o : Option (List ℕ)). Scans (taken m pending) group o (bytes_of e) (pairs_of pairs.items)) from
        (subst (λ (j : ℕ). Scans (taken m pending) j (bytes_of s) (bytes_of e) (pairs_of pairs.items)) same x.0)),
    x.1,
  )
  scan group g start s end e _ same from below x = x

  compact : (group g index i : ℕ) (a : Answer) → g ≡ group → i ≡ index → Serves said_of m pending (Compact g i) a next → Serves says_of m pending (Compact group index) a next
  compact group g index i Done same at x = subst (λ (j : ℕ). Compacts m pending group j next) at (subst (λ (j : ℕ). Compacts m pending j i next) same x)
  compact group g index i Failed same at x =
      subst (λ (j : ℕ). FailsAt m pending (compacts group j) next) at (subst (λ (j : ℕ). FailsAt m pending (compacts j i) next) same x)
  compact group g index i Refused same at x = x
  compact group g index i _ same at x = x

  -- all calls
  call_same : (call : Call (List Change)) (c : Call Batch) (a : Answer) → SameCall call c → Serves said_of m pending c a next → Serves says_of m pending call a next
  call_same (Write changes sync) (Write batch flag) a same x = write changes batch sync flag a same.0 same.1 x
  call_same Sync Sync a same x = sync a x
  call_same (Get group key) (Get g k) a same x = get group g key k a same.0 same.1 x
  call_same (GetEntry group index) (GetEntry g i) a same x = entry group g index i a same.0 same.1 x
  call_same (FirstIndex group) (FirstIndex g) a same x = first group g a same x
  call_same (LastIndex group) (LastIndex g) a same x = last group g a same x
  call_same (Fetch group begin end max) (Fetch g b e n) a same x = fetch group g begin b end e max n a same.0 same.1 same.2 same.3 x
  call_same (Scan group start end) (Scan g s e) a same x = scan group g start s end e a same.0 same.1 same.2 x
  call_same (Compact group index) (Compact g i) a same x = compact group g index i a same.0 same.1 x
  call_same (Purge kind) (Purge k) Done same x = x
  call_same (Purge kind) (Purge k) _ same x = x
  call_same _ _ a same x = absurd same

-- Events, by kind.

open_same : (log next : ModelLog) (workers w : ℕ) (a : Answer) → Answers {C = Remainder} said_of log (Open w) a next → Answers {C = Remainder} says_of log (Open workers) a next
open_same (resting m) next workers w Done x = x
open_same (resting m) next workers w _ x = x
open_same (left m pending) next workers w Done x = x
open_same (left m pending) next workers w _ x = x
open_same (running m pending) next workers w Done x = x
open_same (running m pending) next workers w _ x = x
open_same (failed m pending) next workers w Done x = x
open_same (failed m pending) next workers w _ x = x

serve_same : (log next : ModelLog) (call : Call (List Change)) (c : Call Batch) (a : Answer) → SameCall call c
    → Answers {C = Remainder} said_of log (Serve c) a next → Answers {C = Remainder} says_of log (Serve call) a next
serve_same (resting m) next call c Done same x = x
serve_same (resting m) next call c _ same x = x
serve_same (left m pending) next call c Done same x = x
serve_same (left m pending) next call c _ same x = x
serve_same (running m pending) next call c a same x = call_same m pending next call c a same x
serve_same (failed m pending) next call c Done same x = x
serve_same (failed m pending) next call c _ same x = x

close_same : (log next : ModelLog) (a : Answer) → Answers {C = Remainder} said_of log Close a next → Answers {C = Remainder} says_of log Close a next
close_same (resting m) next Done x = x
close_same (resting m) next _ x = x
close_same (left m pending) next Done x = x
close_same (left m pending) next _ x = x
close_same (running m pending) next Done x = x
close_same (running m pending) next _ x = x
close_same (failed m pending) next Done x = x
close_same (failed m pending) next _ x = x

fork_same : (log next : ModelLog) (target t : String Global) (a : Answer) → Answers {C = Remainder} said_of log (Fork t) a next → Answers {C = Remainder} says_of log (Fork target) a next
fork_same (resting m) next target t Done x = x
fork_same (resting m) next target t _ x = x
fork_same (left m pending) next target t Done x = x
fork_same (left m pending) next target t _ x = x
fork_same (running m pending) next target t Done x = x
fork_same (running m pending) next target t _ x = x
fork_same (failed m pending) next target t Done x = x
fork_same (failed m pending) next target t _ x = x

crash_same : (log next : ModelLog) (what other : Remainder) (a : Answer) → Answers said_of log (Crash other) a next → Answers says_of log (Crash what) a next
crash_same (resting m) next what other Done x = x
crash_same (resting m) next what other _ x = x
crash_same (left m pending) next what other Done x = x
crash_same (left m pending) next what other _ x = x
crash_same (running m pending) next what other Done x = x
crash_same (running m pending) next what other _ x = x
crash_same (failed m pending) next what other Done x = x
crash_same (failed m pending) next what other _ x = x

event_same : (log next : ModelLog) (event : Event (List Change) Remainder) (e : Event Batch Remainder) (a : Answer) → SameEvent event e → Answers said_of log e a next → Answers says_of log event a next
event_same log next (Open workers) (Open w) a same x = open_same log next workers w a x
event_same log next (Serve call) (Serve c) a same x = serve_same log next call c a same x
event_same log next Close Close a same x = close_same log next a x
event_same log next (Fork target) (Fork t) a same x = fork_same log next target t a x
event_same log next (Crash what) (Crash other) a same x = crash_same log next what other a x
event_same (resting m) next (Arm fault) (Arm f) Done same x = x
event_same (resting m) next (Arm fault) (Arm f) _ same x = x
event_same (left m pending) next (Arm fault) (Arm f) Done same x = x
event_same (left m pending) next (Arm fault) (Arm f) _ same x = x
event_same (running m pending) next (Arm fault) (Arm f) Done same x = x
event_same (running m pending) next (Arm fault) (Arm f) _ same x = x
event_same (failed m pending) next (Arm fault) (Arm f) Done same x = x
event_same (failed m pending) next (Arm fault) (Arm f) _ same x = x
event_same log next _ _ a same x = absurd same

-- Runs.

pub explained_same : (log last : ModelLog) (events : List (Event (List Change) Remainder)) (es : List (Event Batch Remainder)) (answers : List Answer) → SameEvents events es
    → Explains said_of log es answers last → Explains says_of log events answers last
explained_same log last [] [] [] same x = x
explained_same log last [] [] (a ∷ answers) same x = x
explained_same log last (event ∷ events) (e ∷ es) [] same x = x
explained_same log last (event ∷ events) (e ∷ es) (a ∷ answers) same x =
    (x.0, event_same log x.0 event e a same.0 x.1, explained_same x.0 last events es answers same.1 x.2)
explained_same log last [] (e ∷ es) answers same x = absurd same
explained_same log last (event ∷ events) [] answers same x = absurd same

-- if no event meets a CRC collision, the verdict is yes
pub is_yes : (l : LogOf OpenLog ClosedLog Batch Remainder) → l.says ≡ said_of → AllExplained l → (files : ClosedLog) (events : List (Event (List Change) Remainder)) (played : List (Event Batch Remainder))
    (report : LogReport OpenLog ClosedLog) (verdict : Bool)
    → SameEvents events played → (ran : IsLogRun l files played report) → Stands l (Closed files) (resting nothing_stands) → (IsTrue verdict ↔ IsExplained events report.answers.items)
    → NoneCollides l (Closed files) ran.moments → verdict ≡ true
is_yes l says all files events played report verdict same ran stands judged spared =
    let (last, explains, ends) = all files played report ran (resting nothing_stands) stands spared in
    judged.1 (
      last,
      explained_same (resting nothing_stands) last events played report.answers.items same
          (subst (λ (s : Batch → BatchRecord). Explains s (resting nothing_stands) played report.answers.items last) says explains),
    )

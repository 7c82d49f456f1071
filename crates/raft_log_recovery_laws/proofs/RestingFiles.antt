-- A log at rest asks nothing of chance: all bytes of its last files are synced, so what is read of them was there before.
use Rattle.std.proofs.Common.{◌≡◌, ℕ, ◌<◌, Option, Some, None, List, [], ◌∷◌, length, take, drop, refl, sym, ap, subst, ◌∙◌, inl, inr, arith}
use Rattle.std.proofs.Math.Seq.{drop-nil, take-nil}
use Rattle.raft_log_model_laws.specs.Groups.{taken}
use Rattle.raft_log_machine_laws.specs.Files.{FileQueue}
use Rattle.raft_log_machine_laws.specs.Log.{IsLog}
use Rattle.raft_log_machine_laws.specs.Model.{Files}
use Rattle.raft_log_fs.specs.Disk.{Disk, File, at_rest}
use Rattle.raft_log_fs.specs.Image.{IsFileImage, IsImage, IsSound, as_it_stands}
use Rattle.raft_log_fs.proofs.Public.{only_at_rest, same_file, stands_is_image}
use Rattle.raft_log_file_writer.specs.LawsChains.{Meets, spelled}
use Rattle.raft_log_file_writer.specs.KeepsSynced.{IsStale}
use Rattle.raft_log_file_writer.specs.KeepsSynced.WasWritten.{synced_there}
use Rattle.raft_log_file_writer.specs.LogFormat.{Format, HasHeader, IsFormat, NoChanceInFile}
use Rattle.raft_log_file_writer.specs.LogQueue.{IsLeftover, LogFiles, NoChanceInLast, recent}
use Rattle.raft_log_file_writer.proofs.Public.{frame_filled, frames_back}
use Rattle.raft_log_active_file.specs.Bridge.{IsFileQueue}
use Rattle.raft_log_active_file.specs.Standing.{Names}
use Rattle.raft_log_engine_laws.specs.raft_log_active_file.specs.declared.record.LogRecord.{LogRecord}
use Rattle.raft_log_dual_pipes.specs.OnDisk.{IsDurableAs}
use Rattle.raft_log_dual_pipes.specs.OpenOrClosed.{IsUnbegun, LiesQueue, none_open}
use Rattle.raft_log_dual_pipes.specs.Pipes.{LogRecordValue, State}
use Rattle.raft_log_dual_pipes.specs.Queues.{AreTwoQueues, IsQueueLayout, QueueLayout, TwoQueues}
use Rattle.raft_log_dual_pipes.specs.Reopening.{RestsQueue}
use Rattle.raft_log_dual_pipes.specs.State.{HasSpan, IsStopped, Spanned, Ties}
use Rattle.raft_log_engine_laws.specs.EngineState.{LogDirectories, LogMap, log_in}
use Rattle.raft_log_engine_laws.specs.Holding.{IsRecoverableAs}
use Rattle.raft_log_recovery_laws.specs.Closed.{AsksNothing, RestingLogsAskNothing}
use Rattle.raft_log_recovery_laws.specs.InPlace.{StandsWithoutChance}
use Rattle.raft_log_recovery_laws.specs.Left.{IsCrashOf}
use Rattle.raft_log_recovery_laws.proofs.ByCalls.{two_queues}
use Rattle.raft_log_recovery_laws.proofs.Left.{crashed_logs_rest}

-- A file at rest.

-- a crash leaves a file that is all synced as it is
image_same : (file after : File) (bytes : List ℕ) → file ≡ at_rest bytes → IsFileImage (Some file) (Some after) → after.content ≡ file.content
image_same file after bytes rests (kept, is, left) =
    ap (λ (x : File). x.content) is
    ∙ only_at_rest file kept (ap (λ (x : File). x.changes) rests) left
    ∙ ap (λ (x : File). x.synced) rests
    ∙ sym (ap (λ (x : File). x.content) rests)

-- where nothing is known to be stale, no record is
none_stale : (at : ℕ) (bytes : List ℕ) → 0 < length bytes → IsStale [] at bytes → ⊥
none_stale at bytes some is =
    let empty : take (length bytes) (drop at []) ≡ [] = ap (λ (b : List ℕ). take (length bytes) b) (drop-nil at) ∙ take-nil (length bytes) in
    let size : length bytes ≡ 0 = ap (λ (b : List ℕ). length b) (sym is ∙ empty) in
    omega (arith, some, size)

-- a header that a file may have: its own, if it has one
record KnownHeader {R : Type 0} (F : Format R) (file : File) : Type 0 where
  pub header : List ℕ
  pub is : F.IsHeader header
  pub only : (other : List ℕ) → HasHeader F other file.content → other ≡ header

module _ {R : Type 0} (F : Format R) (lawful : IsFormat F) (q : LogFiles R) (file : File) (over : IsLeftover F q file) where
  content_is : file.content ≡ over.bytes
  content_is = ap (λ (x : File). x.content) over.is

  known_header : F.IsHeader q.header → KnownHeader F file
  known_header headed = elim over.reads [
    | inl (none, headless) ↦ record { header = q.header; is = headed; only = λ other has. absurd (headless other (subst (HasHeader F other) content_is has)) }
    | inr (header, has, reads) ↦ record {
      header = header;
      is = has.is;
      only = λ other there. lawful.headers other header there.rest has.rest there.is has.is (sym there.splits ∙ content_is ∙ has.splits);
    }
  ]

  -- whatever is read of it was there when it was synced
  spared_by : (header : List ℕ) → ((other : List ℕ) → HasHeader F other file.content → other ≡ header) → (bytes : List ℕ) → bytes ≡ file.content → NoChanceInFile F q.last header [] (spelled (recent q)) file bytes
  spared_by header only bytes same =
      let synced : file.content ≡ file.synced = content_is ∙ sym (ap (λ (x : File). x.synced) over.is) in
      record {
        headers = λ other has. only other (subst (HasHeader F other) same has);
        records = λ at w meets.
            (let frame = (frames_back (F.IsFrame q.last header) meets.before (w ∷ []) meets.begins.frames).0 in
            synced_there (subst (λ (b : List ℕ). Meets (F.IsFrame q.last header) (length header) at w b) (same ∙ synced) meets)
            (none_stale at w.bytes (frame_filled (F.IsFrame q.last header) (lawful.free q.last header) w.bytes w.value frame)));
        plain = λ aligned. over.plain (subst (λ (b : List ℕ). F.IsAligned q.last b) (same ∙ content_is) aligned);
      }

-- A queue at rest.

-- the queue with this header, and no bytes that are known to be stale
abbrev unstale : List ℕ → LogFiles LogRecord → LogFiles LogRecord
unstale header q = record q { header = header; stale = [] }

-- its files lie there as some queue with the same records, whose last file has nothing that was left to chance
record QueueAsksNothing (layout : QueueLayout LogRecord) (q : Spanned LogRecord) (d : Disk) : Type 0 where
  pub next : Spanned LogRecord
  pub lies : LiesQueue layout next d
  pub numbered : (says : LogRecord → LogRecordValue) (low : ℕ) (files : FileQueue (List ℕ) (List ℕ)) → IsFileQueue says layout.format q.files low q.first d files → IsFileQueue says layout.format next.files low next.first d files
  pub spared : (image : Disk) → IsImage d image → NoChanceInLast layout.format next.files d image

module _ (layout : QueueLayout LogRecord) (told : IsQueueLayout layout) (q : Spanned LogRecord) (d : Disk) where
  some_numbers : 1 < layout.format.limit
  some_numbers = (let limit = told.lawful.limit in omega (arith, limit))

  unbegun_asks : IsUnbegun layout q d → QueueAsksNothing layout q d
  unbegun_asks unbegun = record {
    next = q;
    lies = inr unbegun;
    numbered = λ says low files is. is;
    spared = λ image is path id file after at named here now.
        (let bound : q.files.last < layout.format.limit = subst (λ (x : Spanned LogRecord). x.files.last < layout.format.limit) (sym unbegun.is.3) some_numbers in
        let none : d.names path ≡ None = unbegun.fresh.none q.files.last bound path at in
        let never : ⊥ = cc in
        absurd never);
  }

  module _ (left : IsStopped layout q.files d) (span : HasSpan layout.format q d) where
    known : KnownHeader layout.format left.stands.file.file
    known = known_header layout.format told.lawful.format q.files left.stands.file.file left.stands.file.has left.stands.headed

    abbrev now_files : LogFiles LogRecord
    now_files = unstale known.header q.files

    stopped_now : IsStopped layout now_files d
    stopped_now =
        let s = left.stands in
        record {
          path = left.path;
          id = left.id;
          N = left.N;
          stands = record {
            names = s.names;
            bound = s.bound;
            at = s.at;
            named = s.named;
            alone = s.alone;
            none = s.none;
            headed = known.is;
            places = s.places;
            file = record { file = s.file.file; is = s.file.is; has = record { bytes = s.file.has.bytes; is = s.file.has.is; reads = s.file.has.reads; plain = s.file.has.plain } };
            older = s.older;
            single = s.single;
            others = s.others;
          };
        }

    spared_now : (image : Disk) → IsImage d image → NoChanceInLast layout.format now_files d image
    spared_now image is path id file after at named here now =
        let s = left.stands in
        let one : id ≡ left.id = s.alone path id at (ap (λ (f : Names). f path) (sym s.names) ∙ named) in
        let mine : d.files id ≡ Some s.file.file = ap (λ (k : ℕ). d.files k) one ∙ s.file.is in
        let same : s.file.file ≡ file = same_file d id s.file.file file mine here in
        let over : IsLeftover layout.format q.files file = subst (λ (x : File). IsLeftover layout.format q.files x) same s.file.has in
        let both : IsFileImage (Some file) (Some after) = subst (λ (o : Option File). IsFileImage (Some file) o) now (subst (λ (o : Option File). IsFileImage o (image.files id)) here (is.files id)) in
        spared_by layout.format told.lawful.format q.files file over known.header
        (λ other has. known.only other (subst (λ (x : File). HasHeader layout.format other x.content) (sym same) has)) after.content (image_same file after over.bytes over.is both)

    stopped_asks : QueueAsksNothing layout q d
    stopped_asks = record {
      next = record { first = q.first; files = now_files };
      lies = inl (inr stopped_now, span);
      numbered = λ says low files is. record {
        back = is.back;
        forth = is.forth;
        below = is.below;
        above = is.above;
        gone = is.gone;
        full = is.full;
        last = is.last;
        synced = is.synced;
        pending = is.pending;
        behind = is.behind;
        gap = is.gap;
      };
      spared = spared_now;
    }

  queue_asks : RestsQueue layout q d → QueueAsksNothing layout q d
  queue_asks rests = elim rests [ inl (left, span) ↦ stopped_asks left span | inr unbegun ↦ unbegun_asks unbegun ]

-- Both queues.

module _ (home : LogDirectories) (some : 0 < length home.append) (other : 0 < length home.rewrite) (d : Disk) (m : LogMap) (sound : IsSound d) (h : IsDurableAs (log_in home) d m) where
  abbrev log : TwoQueues LogRecord (List ℕ) (List ℕ)
  log = log_in home

  two : AreTwoQueues log
  two = two_queues home some other

  a : QueueAsksNothing log.append h.state.append d
  a = queue_asks log.append two.append h.state.append d (subst (λ (x : Disk). RestsQueue log.append h.state.append x) h.disk h.rests.append)

  r : QueueAsksNothing log.rewrite h.state.rewrite d
  r = queue_asks log.rewrite two.rewrite h.state.rewrite d (subst (λ (x : Disk). RestsQueue log.rewrite h.state.rewrite x) h.disk h.rests.rewrite)

  abbrev now : State
  now = record { append = a.next; rewrite = r.next; disk = d }

  ties_now : (f : Files (List ℕ) (List ℕ)) → Ties log h.state f → Ties log now f
  ties_now f ties = record {
    append = a.numbered log.says f.append_from f.append (subst (λ (x : Disk). IsFileQueue log.says log.append.format h.state.append.files f.append_from h.state.append.first x f.append) h.disk ties.append);
    rewrite = r.numbered log.says f.rewrite_from f.rewrite (subst (λ (x : Disk). IsFileQueue log.says log.rewrite.format h.state.rewrite.files f.rewrite_from h.state.rewrite.first x f.rewrite) h.disk ties.rewrite);
  }

  log_now : IsLog (Ties log now) m []
  log_now = record {
    files = h.holds.files;
    whereabouts = h.holds.whereabouts;
    failed = h.holds.failed;
    sound = h.holds.sound;
    ends = h.holds.ends;
    there = ties_now h.holds.files h.holds.there;
  }

  left_now : IsRecoverableAs home d m []
  left_now = (none_open, record { done = []; rest = []; splits = refl; lies = record { state = now; disk = refl; stands = record { append = a.lies; rewrite = r.lies }; holds = log_now } })

  spared_all : (image : Disk) → IsImage d image → IsCrashOf home left_now.1.lies.state d image
  unfolding left_now
  spared_all image is = record { is = is; append = a.spared image is; rewrite = r.spared image is }

  stands_all : StandsWithoutChance home left_now.1.lies.state d
  stands_all = spared_all (as_it_stands d) (stands_is_image d sound)

  rests_again : (image : Disk) → IsImage d image → IsDurableAs log image m
  rests_again image is =
      let (k, within, at) = crashed_logs_rest home some other d image m [] left_now (spared_all image is) in
      subst (λ (l : List LogRecordValue). IsDurableAs log image (taken m l)) (take-nil k) at

  asks_nothing : AsksNothing home d m
  asks_nothing = record { left = left_now; stands = stands_all; spared = spared_all; rests = rests_again }

pub resting_logs_ask_nothing : RestingLogsAskNothing
resting_logs_ask_nothing home some other d m sound h = asks_nothing home some other d m sound h

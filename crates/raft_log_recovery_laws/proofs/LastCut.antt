-- The last file of a queue at rest is cut behind its records.
use Rattle.std.specs.Prelude.{Result, Ok, Err}
use Rattle.std.specs.declared.io.ErrorKind.{ErrorKind}
use Rattle.std.proofs.Common.{◌+◌, drop, length-append, ◌≡◌, ℕ, Option, Some, None, List, [], ◌∷◌, ◌++◌, length, refl, sym, ap, subst, ◌∙◌, inl, inr, append-nil, unwrap_or}
use Rattle.std.proofs.lemmas.List.{drop_at}
use Rattle.raft_log_fs.specs.Disk.{ShortenedTo, File, Disk, at_rest}
use Rattle.raft_log_fs.specs.Image.{IsSound}
use Rattle.raft_log_fs.specs.Arguments.{WrongHandle, WrongWriter}
use Rattle.raft_log_file_writer.specs.LawsChains.{AreFrames, IsSelfDelimiting, Reads, Refuses, Written, spelled}
use Rattle.raft_log_file_writer.specs.LogFormat.{Format, HasHeader, IsFormat}
use Rattle.raft_log_file_writer.specs.LogQueue.{LogFiles, IsLeftover, IsPast, recent}
use Rattle.raft_log_fs.specs.Touching.{HasFile, TouchesOnly}
use Rattle.raft_log_fs.specs.declared.handle.Handle.{Handle}
use Rattle.raft_log_fs.specs.declared.handle.Permission.TheVariants.{ReadWrite}
use Rattle.raft_log_fs.proofs.Public.{same_file, touches_change, touches_sync, touches_then}
use Rattle.raft_log_active_file.specs.Queue.{finished, whole}
use Rattle.raft_log_active_file.specs.Standing.{Stands}
use Rattle.raft_log_active_file.specs.Reopening.{IsReadTo, reread}
use Rattle.raft_log_active_file.proofs.Public.{fails_to_trim, leftover_end, stands_as, stands_rebased, stands_weaker, trims_leftover}
use Rattle.raft_log_active_file.specs.TakingUp.{HandleBeginsWith, IsHalfOpen, IsLeftBehind, IsTrimmed, TrimMakes, Trims, uncut, unsynced}
use Rattle.raft_log_dual_pipes.specs.Queues.{IsQueueLayout, QueueLayout}
use Rattle.raft_log_dual_pipes.specs.State.{IsStopped}

-- What a cut touches.

pub trims_touch : (handle : Handle) (size : ℕ) (old new : Disk) → Trims handle size old new → TouchesOnly handle.file old new
trims_touch handle size old new trims =
    let done : Result (Unit {0}) ErrorKind = Ok tt in
    touches_then handle.file old trims.cut new (touches_change (WrongWriter handle old) done handle.file (ShortenedTo size) trims.shortens tt)
    (touches_sync (WrongHandle handle trims.cut) done handle.file trims.syncs tt)

pub no_trim_touches : (handle : Handle) (size : ℕ) (error : ErrorKind) (old new : Disk) → TrimMakes handle size error old new → TouchesOnly handle.file old new
no_trim_touches handle size error old new (uncut fails) =
    let refused : Result (Unit {0}) ErrorKind = Err error in
    touches_change (WrongWriter handle old) refused handle.file (ShortenedTo size) tt fails
no_trim_touches handle size error old new (unsynced cut shortens fails) =
    let done : Result (Unit {0}) ErrorKind = Ok tt in
    let refused : Result (Unit {0}) ErrorKind = Err error in
    touches_then handle.file old cut new (touches_change (WrongWriter handle old) done handle.file (ShortenedTo size) shortens tt)
    (touches_sync (WrongHandle handle cut) refused handle.file tt fails)

-- Files.

-- no record begins where no byte is
none_begins : {R : Type 0} (IsFrame : List ℕ → R → Type 0) → IsSelfDelimiting IsFrame → Refuses IsFrame []
none_begins IsFrame lawful w rest frame is = lawful.filled w.value (subst (λ (b : List ℕ). IsFrame b w.value) (empty w.bytes rest is) frame)
  where
    empty : (a b : List ℕ) → [] ≡ a ++ b → a ≡ []
    empty [] b same = refl
    empty (x ∷ a) b same = cc

-- where some bytes have no header, none is of no bytes
empty_header : {R : Type 0} (F : Format R) (content : List ℕ) → ((header : List ℕ) → HasHeader F header content → ⊥) → (header : List ℕ) → HasHeader F header [] → ⊥
empty_header F content headless [] has = headless [] (record { is = has.is; rest = content; splits = refl })
empty_header F content headless (x ∷ header) has = (let never : [] ≡ x ∷ (header ++ has.rest) = has.splits in cc)

module _ {R : Type 0} (F : Format R) (lawful : IsFormat F) (q : LogFiles R) where
  -- a file of its header and its records alone is one of which these are read
  pub finished_leftover : (front : List ℕ) (file : File) → IsPast F q.last (finished (reread front [] q)) file → IsLeftover F q file
  finished_leftover front file past =
      let same : recent q ++ [] ≡ recent q = append-nil (recent q) in
      let bytes : List ℕ = front ++ spelled (recent q) in
      let frames : AreFrames (F.IsFrame q.last front) (recent q) = subst (AreFrames (F.IsFrame q.last front)) same past.frames in
      record {
        bytes = bytes;
        is = past.is ∙ ap (λ (ws : List (Written R)). at_rest (front ++ spelled ws)) same;
        reads = inr (
          front,
          record { is = past.header; rest = spelled (recent q); splits = refl },
          record {
            rest = [];
            splits = drop_at front (spelled (recent q)) (length front) refl ∙ sym (append-nil (spelled (recent q)));
            frames = frames;
            ends = none_begins (F.IsFrame q.last front) (lawful.free q.last front);
          },
        );
        plain = lawful.plain q.last front (spelled (recent q)) past.header;
      }

  -- and so it begins with its header, and is read up to its end
  finished_begins : (front : List ℕ) (file : File) → IsPast F q.last (finished (reread front [] q)) file → HasHeader F front file.content
  finished_begins front file past = record { is = past.header; rest = spelled (recent q ++ []); splits = ap (λ (x : File). x.content) past.is }

  finished_reads : (front : List ℕ) (file : File) → IsPast F q.last (finished (reread front [] q)) file → Reads (F.IsFrame q.last front) (length front) (recent q ++ []) file.content
  finished_reads front file past = record {
    rest = [];
    splits = ap (λ (x : File). drop (length front) x.content) past.is ∙ drop_at front (spelled (recent q ++ [])) (length front) refl ∙ sym (append-nil (spelled (recent q ++ [])));
    frames = past.frames;
    ends = none_begins (F.IsFrame q.last front) (lawful.free q.last front);
  }

  finished_to : (front header : List ℕ) (ws : List (Written R)) (was file : File) (size : ℕ) → HasHeader F front was.content → HasHeader F header was.content → Reads (F.IsFrame q.last header) (length header) ws was.content
      → size ≡ length header + length (spelled ws) → IsLeftover F q was → IsPast F q.last (finished (reread front [] q)) file → IsReadTo F q.last (Some size) file
  finished_to front header ws was file size begins has reads ends left past =
      let one : front ≡ header = lawful.headers front header begins.rest has.rest begins.is has.is (sym begins.splits ∙ has.splits) in
      let long : length header + length (spelled ws) ≡ length (whole (reread header [] q)) = leftover_end F lawful q header ws was has reads left in
      let both : length (whole (reread header [] q)) ≡ length header + length (spelled (recent q ++ [])) = length-append header (spelled (recent q ++ [])) in
      (front, recent q ++ [], finished_begins front file past, finished_reads front file past, ends ∙ long ∙ both ∙ ap (λ (l : List ℕ). length l + length (spelled (recent q ++ []))) (sym one))

  -- so is an empty one, where there are none, and no header is of no bytes
  empty_leftover : recent q ≡ [] → (content : List ℕ) → ((header : List ℕ) → HasHeader F header content → ⊥) → (file : File) → file ≡ at_rest [] → IsLeftover F q file
  empty_leftover none content headless file is = record { bytes = []; is = is; reads = inl (none, empty_header F content headless); plain = lawful.empty q.last }

-- The last file of a queue.
module _ {R : Type 0} (layout : QueueLayout R) (told : IsQueueLayout layout) (handle : Handle) (end : Option ℕ) (q : LogFiles R) (old new : Disk) (sound : IsSound old) (permitted : handle.permission ≡ ReadWrite)
    (left : IsStopped layout q old) (last : handle.file ≡ left.id) (read : HasFile handle.file (IsReadTo layout.format q.last end) old) where
  behind : IsLeftBehind layout.format layout.own old handle end q left.path left.N old
  behind = record {
    permitted = permitted;
    stands = subst (λ (id : ℕ). Stands layout.format layout.own old q left.path id (IsLeftover layout.format q) left.N old) (sym last) left.stands;
    read = read;
  }

  there : (P : File → Type 0) → ((file : File) → P file → IsLeftover layout.format q file) → Stands layout.format layout.own old q left.path handle.file P left.N new → IsStopped layout q new
  there P weaker s = record {
    path = left.path;
    id = handle.file;
    N = left.N;
    stands = stands_rebased layout.format layout.own old q left.path handle.file (IsLeftover layout.format q) left.N new
        (stands_weaker layout.format layout.own old q left.path handle.file P (IsLeftover layout.format q) left.N new weaker s);
  }

  was_left : IsLeftover layout.format q read.file
  was_left = subst (IsLeftover layout.format q) (same_file old handle.file behind.stands.file.file read.file behind.stands.file.is read.is) behind.stands.file.has

  read_by_end : (o : Option ℕ) → o ≡ end → IsTrimmed layout.format layout.own old handle o q left.path left.N old new → HasFile handle.file (IsReadTo layout.format q.last o) new
  read_by_end (Some size) same (front, begins, s) =
      let (header, ws, has, reads, ends) = subst (λ (o : Option ℕ). IsReadTo layout.format q.last o read.file) (sym same) read.has in
      let front_has : HasHeader layout.format front read.file.content =
      subst (λ (f : File). HasHeader layout.format front f.content) (same_file old handle.file begins.file read.file begins.is read.is) begins.has in
      record { file = s.file.file; is = s.file.is; has = finished_to layout.format told.lawful.format q front header ws read.file s.file.file size front_has has reads ends was_left s.file.has }
  read_by_end None same (none, s) =
      let headless = subst (λ (o : Option ℕ). IsReadTo layout.format q.last o read.file) (sym same) read.has in
      record {
        file = s.file.file;
        is = s.file.is;
        has = λ header has. empty_header layout.format read.file.content headless header (subst (λ (f : File). HasHeader layout.format header f.content) s.file.has has);
      }

  header_by_end : (o : Option ℕ) → (size : ℕ) → o ≡ Some size → IsTrimmed layout.format layout.own old handle o q left.path left.N old new → (header : List ℕ) → HandleBeginsWith layout.format handle header old
      → HandleBeginsWith layout.format handle header new
  header_by_end (Some n) size some (front, begins, s) header given =
      let same : begins.file ≡ given.file = same_file old handle.file begins.file given.file begins.is given.is in
      let one : front ≡ header = told.lawful.format.headers front header begins.has.rest given.has.rest begins.has.is given.has.is (sym begins.has.splits ∙ ap (λ (f : File). f.content) same ∙ given.has.splits) in
      record {
        file = s.file.file;
        is = s.file.is;
        has = subst (λ (l : List ℕ). HasHeader layout.format l s.file.file.content) one (finished_begins layout.format told.lawful.format q front s.file.file s.file.has);
      }
  header_by_end None size some trimmed header given = (let never : ⊥ = cc in absurd never)

  by_end : (o : Option ℕ) → o ≡ end → IsTrimmed layout.format layout.own old handle o q left.path left.N old new → IsStopped layout q new
  by_end (Some size) same (front, begins, s) =
      there (IsPast layout.format q.last (finished (reread front [] q))) (finished_leftover layout.format told.lawful.format q front)
      (stands_as layout.format layout.own old (reread front [] q) q left.path handle.file (IsPast layout.format q.last (finished (reread front [] q))) left.N new refl refl left.stands.headed s)
  by_end None same (none, s) =
      let headless = subst (λ (o : Option ℕ). IsReadTo layout.format q.last o read.file) (sym same) read.has in
      there (λ file. file ≡ at_rest []) (empty_leftover layout.format told.lawful.format q none read.file.content headless) s

  module _ (trims : Trims handle (unwrap_or end 0) old new) where
    trimmed : IsTrimmed layout.format layout.own old handle end q left.path left.N old new
    trimmed = trims_leftover layout.format layout.own told.lawful.format told.lawful.owns handle end old new sound trims old q left.path left.N behind

    pub trimmed_rests : IsStopped layout q new
    trimmed_rests = by_end end refl trimmed

    pub trimmed_read : HasFile handle.file (IsReadTo layout.format q.last end) new
    trimmed_read = read_by_end end refl trimmed

    pub trimmed_header : (size : ℕ) → end ≡ Some size → (header : List ℕ) → HandleBeginsWith layout.format handle header old → HandleBeginsWith layout.format handle header new
    trimmed_header size some header given = header_by_end end size some trimmed header given

  pub untrimmed_lies : (kind : ErrorKind) → TrimMakes handle (unwrap_or end 0) kind old new → IsHalfOpen layout.format layout.own old handle end q.header q old new
  untrimmed_lies kind makes = (fails_to_trim layout.format layout.own told.lawful.format told.lawful.owns handle end kind old new sound makes old q left.path left.N behind).1 q.header left.stands.headed

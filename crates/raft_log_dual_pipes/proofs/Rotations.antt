-- Behind the records of a last file, right behind each call of a pipe.
use Rattle.std.proofs.Common.{◌≡◌, ◌∙◌, ℕ, ◌+◌, ◌-◌, ◌<◌, zero, suc, false, Some, List, [], ◌∷◌, ◌++◌, length, drop, refl, sym, ap, subst, arith, length-append}
use Rattle.std.proofs.lemmas.List.{append-nil, append_assoc, drop-drop, drop-replicate, drop_at, replicate-append-replicate}
use Rattle.raft_log_fs.specs.Disk.{Disk, File, grown, zeros}
use Rattle.raft_log_fs.specs.Exits.{Syncs}
use Rattle.raft_log_fs.specs.Touching.{HasFile}
use Rattle.raft_log_fs.proofs.Public.{same_file}
use Rattle.raft_log_record_base.specs.declared.pipe_log.LogQueue.{LogQueue}
use Rattle.raft_log_file_format.specs.Header.{header_bytes}
use Rattle.raft_log_file_writer.specs.LawsChains.{AreFrames, Refuses, Written, spelled}
use Rattle.raft_log_file_writer.specs.LogFormat.{Format, HasHeader}
use Rattle.raft_log_file_writer.specs.LogQueue.{IsPast, LogFiles, Past, recent, rotated}
use Rattle.raft_log_file_writer.proofs.Public.{spelled-append}
use Rattle.raft_log_active_file.specs.QueueFiles.{IsRecordIn, log_format, log_paths}
use Rattle.raft_log_active_file.specs.QueueFilesLaws.{is_layout}
use Rattle.raft_log_active_file.specs.Paths.{IsOwnPath}
use Rattle.raft_log_active_file.specs.declared.record.LogRecord.{LogRecord}
use Rattle.raft_log_file_pipe.specs.Calls.{TurnsBy}
use Rattle.raft_log_file_pipe.specs.Exits.{IsStaleOfNext}
use Rattle.raft_log_file_pipe.specs.Files.{AllKept, IsPipe, Listed}
use Rattle.raft_log_file_pipe.specs.declared.pipe_files.PipeFiles.{PipeFiles}
use Rattle.raft_log_file_pipe.proofs.Public.{path_numbered, span_end}
use Rattle.raft_log_active_file.specs.Beginning.{fresh_queue}
use Rattle.raft_log_active_file.specs.Layout.{FilePaths, path_of}
use Rattle.raft_log_active_file.specs.Queue.{whole, with_more, with_room}
use Rattle.raft_log_active_file.specs.Reopening.{reread}
use Rattle.raft_log_dual_pipes.specs.LastFiles.{CallsLeaveRoom, EndsThere, IsBlankBehind, UsedFilesMeetIt}
use Rattle.raft_log_dual_pipes.specs.OldRecords.{AreApart}
use Rattle.raft_log_dual_pipes.proofs.LastFiles.{behind_is, sync_keeps, synced_stays}
use Rattle.raft_log_dual_pipes.proofs.Signatures.{all_refuse, second_length}

-- Room.

-- room is room still where more of it was made
more_room : (n : ℕ) (bytes : List ℕ) (size room : ℕ) → drop n bytes ≡ zeros size → (left : ℕ) × (drop n (bytes ++ zeros room) ≡ zeros left)
more_room zero bytes size room is = (size + room, ap (λ (l : List ℕ). l ++ zeros room) is ∙ replicate-append-replicate size room 0)
more_room (suc n) [] size room is = (room - suc n, drop-replicate (suc n) room 0)
more_room (suc n) (b ∷ bs) size room is = more_room n bs size room is

-- and where less of it is left
less_room : (n count : ℕ) (bytes : List ℕ) (size : ℕ) → drop n bytes ≡ zeros size → (left : ℕ) × (drop (n + count) bytes ≡ zeros left)
less_room n count bytes size is = (size - count, sym (drop-drop count n bytes) ∙ ap (λ (l : List ℕ). drop count l) is ∙ drop-replicate count size 0)

sum_of : (header before after count old new : ℕ) → new ≡ header + after → old ≡ header + before → after ≡ before + count → new ≡ old + count
sum_of header before after count old new first second third = omega (arith, first, second, third)

module _ (queue : LogQueue) (directories : List (List ℕ)) where
  abbrev F : Format LogRecord
  F = log_format queue directories

  abbrev own : List ℕ → Type 0
  own = IsOwnPath queue directories

  abbrev paths : FilePaths
  paths = log_paths queue directories

  -- a file that held nothing when it got its number has nothing but room behind its records
  fresh_blank : (base : Disk) (files : PipeFiles) (q : LogFiles LogRecord) (room : ℕ) (d : Disk) → IsPipe F own paths base files q d → q.stale ≡ zeros room → IsBlankBehind files d
  fresh_blank base files q room d p none file was =
      let n = length (whole q) in
      (room - n, behind_is F own paths base files q d p file was ∙ ap (λ (l : List ℕ). drop n l) none ∙ drop-replicate n room 0)

  -- a record that is written behind the others leaves less room
  more_blank : (base : Disk) (before after : PipeFiles) (q : LogFiles LogRecord) (w : Written LogRecord) (room : ℕ) (old new : Disk) → IsPipe F own paths base before q old → IsPipe F own paths base after (with_more (w ∷ []) (with_room room q)) new
      → (file : File) → old.files before.writer.handle.file ≡ Some file → (size : ℕ) → drop before.writer.written file.content ≡ zeros size → IsBlankBehind after new
  more_blank base before after q w room old new p next file was size is now stands =
      let n = length (whole q) in
      let count = length (w.bytes ++ []) in
      let blank : drop n q.stale ≡ zeros size = sym (behind_is F own paths base before q old p file was) ∙ is in
      let more = more_room n q.stale size (room - length q.stale) blank in
      let less = less_room n count (grown room q.stale) more.0 more.1 in
      let all : recent (with_more (w ∷ []) (with_room room q)) ≡ recent q ++ w ∷ [] = sym (append_assoc q.durable q.pending (w ∷ [])) in
      let bytes : length (spelled (recent (with_more (w ∷ []) (with_room room q)))) ≡ length (spelled (recent q)) + count =
      ap (λ (ws : List (Written LogRecord)). length (spelled ws)) all ∙ ap (λ (l : List ℕ). length l) (spelled-append (recent q) (w ∷ [])) ∙ length-append (spelled (recent q)) (w.bytes ++ []) in
      let long : length (whole (with_more (w ∷ []) (with_room room q))) ≡ n + count =
      sum_of (length q.header) (length (spelled (recent q))) (length (spelled (recent (with_more (w ∷ []) (with_room room q))))) count n (length (whole (with_more (w ∷ []) (with_room room q))))
      (length-append q.header (spelled (recent (with_more (w ∷ []) (with_room room q))))) (length-append q.header (spelled (recent q))) bytes in
      (less.0, behind_is F own paths base after (with_more (w ∷ []) (with_room room q)) new next now stands ∙ ap (λ (k : ℕ). drop k (grown room q.stale)) long ∙ less.1)

  -- Rotations.

  -- the new last file was synced
  begun_synced : (header : List ℕ) (kept : List Listed) (before after : PipeFiles) (old new : Disk) → TurnsBy paths header kept before.writer after.active after.writer old new → (between : Disk) × Syncs after.writer.handle between new
  begun_synced header [] before after old new calls = (calls.begins.between, calls.begins.syncs)
  begun_synced header (f ∷ fs) before after old new calls = (calls.1.begins.between, calls.1.begins.syncs)

  module _ (some : 0 < length directories) (base : Disk) (before after : PipeFiles) (q : LogFiles LogRecord) (header : List ℕ) (old new : Disk) (p : IsPipe F own paths base before q old) where
    -- a file that is kept for use under a number is as it was finished
    used_is : (oldest : Listed) (others : List Listed) → before.recycled.items ≡ oldest ∷ others → oldest.reserved ≡ false → HasFile oldest.handle.file (IsPast F oldest.seq (q.older oldest.seq)) old
    used_is oldest others kept numbered =
        let (k, alone, rest) = subst (AllKept F paths before.first_seq old) kept p.kept in
        let below = k.below numbered in
        let ends = span_end paths old.names before.first_seq q.last before.earlier.items p.span in
        let at : F.IsPath oldest.seq (path_of paths oldest) = subst (F.IsPath oldest.seq) (sym (path_numbered paths oldest numbered)) ((is_layout queue directories some).numbered oldest.path_id oldest.seq k.small) in
        p.active.stands.older oldest.seq oldest.handle.file (path_of paths oldest) (omega (arith, below, ends)) at k.named

    -- behind the header of the next file stand the records that were there, and room
    past_ends : (room : ℕ) (stale : List ℕ) → IsPipe F own paths base after (with_room room (rotated header stale q)) new → (m : ℕ) (past : Past LogRecord) → stale ≡ past.header ++ spelled past.records → past.header ≡ header
        → AreFrames (IsRecordIn m past.header) past.records → length header ≡ 69 → AreApart m (suc q.last) → EndsThere F after new
    past_ends room stale next m past held same frames long apart file was =
        let size : ℕ = room - length stale in
        let there : grown room stale ≡ header ++ (spelled past.records ++ zeros size) = ap (λ (l : List ℕ). l ++ zeros size) (held ∙ ap (λ (h : List ℕ). h ++ spelled past.records) same) ∙ append_assoc header (spelled past.records) (zeros size) in
        let behind : drop (length (header ++ [])) (grown room stale) ≡ spelled past.records ++ zeros size =
        ap (λ (l : List ℕ). drop (length (header ++ [])) l) there ∙ drop_at header (spelled past.records ++ zeros size) (length (header ++ [])) (ap (λ (l : List ℕ). length l) (sym (append-nil header))) in
        let refuses : Refuses (IsRecordIn (suc q.last) header) (spelled past.records ++ zeros size) = all_refuse m (suc q.last) size header long apart past.records (subst (λ (h : List ℕ). AreFrames (IsRecordIn m h) past.records) same frames) in
        subst (λ (h : List ℕ). Refuses (IsRecordIn after.active.seq h) (drop after.writer.written file.content)) next.header
        (subst (λ (n : ℕ). Refuses (IsRecordIn n header) (drop after.writer.written file.content)) (sym next.number)
        (subst (λ (l : List ℕ). Refuses (IsRecordIn (suc q.last) header) l) (sym (behind_is F own paths base after (with_room room (rotated header stale q)) new next file was ∙ behind)) refuses))

    used_ends : (oldest : Listed) (others : List Listed) → before.recycled.items ≡ oldest ∷ others → oldest.reserved ≡ false → HasFile oldest.handle.file (λ file. HasHeader F header file.content) old → length header ≡ 69 → AreApart oldest.seq (suc q.last)
        → (room : ℕ) (stale : List ℕ) → IsStaleOfNext before.recycled.items old stale → IsPipe F own paths base after (with_room room (rotated header stale q)) new → EndsThere F after new
    used_ends oldest others kept numbered headed long apart room stale holds next =
        let was = used_is oldest others kept numbered in
        let held : HasFile oldest.handle.file (λ file. file.content ≡ stale) old = subst (λ (fs : List Listed). IsStaleOfNext fs old stale) kept holds in
        let one : held.file ≡ was.file = same_file old oldest.handle.file held.file was.file held.is was.is in
        let other : headed.file ≡ was.file = same_file old oldest.handle.file headed.file was.file headed.is was.is in
        let past : Past LogRecord = q.older oldest.seq in
        let bytes : stale ≡ past.header ++ spelled past.records = sym held.has ∙ ap (λ (f : File). f.content) one ∙ ap (λ (f : File). f.content) was.has.is in
        let begins : past.header ++ spelled past.records ≡ header ++ headed.has.rest = sym (ap (λ (f : File). f.content) was.has.is) ∙ sym (ap (λ (f : File). f.content) other) ∙ headed.has.splits in
        let same : past.header ≡ header = (is_layout queue directories some).format.headers past.header header (spelled past.records) headed.has.rest was.has.header headed.has.is begins in
        past_ends room stale next oldest.seq past bytes same was.has.frames long apart

pub calls_leave_room : CallsLeaveRoom
calls_leave_room = record {
  begins = λ queue directories base format kept files old new can begins.
      let older : ℕ → Past LogRecord = λ n. record { header = []; records = [] } in
      let (room, p, absent, calls) = begins base older can in
      fresh_blank queue directories base files (with_room room (fresh_queue older (header_bytes format))) (room - 0) new p refl;
  takes_up = λ queue directories base earlier last end kept q files old new found takes.
      let (room, p, gaps, calls) = takes base q found in
      fresh_blank queue directories base files (with_room room (reread (header_bytes files.active.format) [] q)) (room - 0) new p refl;
  writes = λ queue directories base q before after at w old new p blank framed adds.
      let (room, next) = (adds base q w framed refl p).1 in
      let s = p.active.stands in
      let (size, is) = blank s.file.file s.file.is in
      more_blank queue directories base before after q w room old new p next s.file.file s.file.is size is;
  syncs = λ files old new. sync_keeps (λ (b : List ℕ). (room : ℕ) × (b ≡ zeros room)) files old new;
  rotates = λ queue directories base q header before after old new p none rotates.
      let (room, stale, holds, next, gaps, calls) = rotates base q p in
      let nothing : stale ≡ [] = subst (λ (fs : List Listed). IsStaleOfNext fs old stale) none holds in
      fresh_blank queue directories base after (with_room room (rotated header stale q)) (room - 0) new next (ap (λ (l : List ℕ). grown room l) nothing);
}

pub used_files_meet_the_premise : UsedFilesMeetIt
used_files_meet_the_premise = record {
  ends = λ queue directories some base q format before after old new p u rotates.
      let (room, stale, holds, next, gaps, calls) = rotates base q p in
      used_ends queue directories some base before after q (header_bytes format) old new p u.oldest u.others u.kept u.numbered u.headed (second_length format.version format.alignment u.signed)
      (subst (λ (n : ℕ). AreApart u.oldest.seq (suc n)) p.number u.apart) room stale holds next;
  stands = λ queue directories base q header before after old new p rotates.
      let (room, stale, holds, next, gaps, calls) = rotates base q p in
      let (between, syncs) = begun_synced queue directories header before.recycled.items before after old new calls in
      synced_stays after between new syncs;
}

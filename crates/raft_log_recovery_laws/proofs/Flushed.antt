-- A last file that is synced as it stands holds its records still, all that were pending as pending ones.
use Rattle.std.proofs.Common.{◌≡◌, ℕ, ◌≤◌, List, [], ◌++◌, length, take, drop, sym, ap, subst, ◌∙◌, inl, inr, arith}
use Rattle.std.proofs.lemmas.List.{append_assoc, length-take, take-append-drop}
use Rattle.std.proofs.lemmas.List.Elements.{All-nil}
use Rattle.raft_log_fs.specs.Disk.{File, at_rest}
use Rattle.raft_log_fs.specs.Calls.{flushed}
use Rattle.raft_log_file_writer.specs.LawsChains.{AreFrames, Written, spelled}
use Rattle.raft_log_fs.specs.Image.{IsSoundFile}
use Rattle.raft_log_file_writer.specs.KeepsSynced.{HoldsChain}
use Rattle.raft_log_file_writer.specs.LogFormat.{CanTellFormat, Format, IsFormat, NoChanceInFile}
use Rattle.raft_log_file_writer.specs.LogQueue.{HeaderStands, HoldsLast, LogFiles, recent}
use Rattle.raft_log_file_writer.proofs.Public.{at_least_keeps, frames_back, holds_more, holds_read, left_keeps_part, reads_some}
use Rattle.raft_log_engine_laws.specs.raft_log_active_file.specs.QueueFiles.{log_format}
use Rattle.raft_log_engine_laws.specs.raft_log_active_file.specs.QueueFilesLaws.{files_are_told, is_layout}
use Rattle.raft_log_recovery_laws.specs.InPlace.{SyncedFilesHoldStill}

module _ {R : Type 0} (F : Format R) (lawful : IsFormat F) (tell : CanTellFormat F) (q : LogFiles R) (file : File) (sound : IsSoundFile file) (chance : NoChanceInFile F q.last q.header q.stale (spelled (recent q)) file file.content) where
  abbrev G : List ℕ → R → Type 0
  G = F.IsFrame q.last q.header

  header_stands : HeaderStands q.header file → HeaderStands q.header (flushed file)
  header_stands stands =
      let n = length q.header in
      let long : n ≤ length file.synced = omega (arith, ap length stands.front, length-take n file.synced) in
      record { front = left_keeps_part 0 n file file.content (omega (arith, long)) (λ place from below. stands.spared place (omega (arith, below))) sound.stands ∙ stands.front; spared = λ place below. All-nil _ }

  pub flushed_holds : HoldsLast F q file → HoldsLast F q (flushed file)
  flushed_holds holds =
      let n = length q.header in
      let free = lawful.free q.last q.header in
      let some = reads_some G free (tell.frames q.last q.header) n file.content in
      let ws : List (Written R) = some.0 in
      let kept = at_least_keeps G n q.stale q.durable q.pending file free holds.chain file.content sound.stands chance.records ws some.1 in
      let count : ℕ = kept.0 in
      let rest : List (Written R) = drop count q.pending in
      let c = holds.chain in
      let framed : AreFrames G (recent q) = subst (AreFrames G) (append_assoc q.durable c.more c.rest ∙ ap (λ (l : List (Written R)). q.durable ++ l) (sym c.splits)) c.holds.frames in
      let halves : take count q.pending ++ rest ≡ q.pending = take-append-drop count q.pending in
      let rest_framed : AreFrames G rest = frames_back G (take count q.pending) rest (subst (AreFrames G) (sym halves) (frames_back G q.durable q.pending framed)) in
      let chain : HoldsChain G n q.stale ws rest (at_rest file.content) = holds_more G n q.stale ws [] rest (at_rest file.content) rest_framed (holds_read G n free q.stale ws file.content some.1) in
      record {
        chain = record {
          more = take count q.pending;
          rest = rest;
          splits = sym halves;
          holds = subst (λ (l : List (Written R)). HoldsChain G n q.stale l rest (at_rest file.content)) kept.2 chain;
        };
        headed = elim holds.headed [ inl stands ↦ inl (header_stands stands) | inr none ↦ inr none ];
      }

pub synced_files_hold_still : SyncedFilesHoldStill
synced_files_hold_still queue directories some q file sound chance holds =
    flushed_holds (log_format queue directories) (is_layout queue directories some).format (files_are_told queue directories) q file sound chance holds

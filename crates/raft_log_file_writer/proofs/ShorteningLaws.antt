-- A file is kept through a shortening and the sync behind it.
use Rattle.std.proofs.Common.{◌≡◌, ℕ, List, [], ◌++◌, length, take, drop, sym, ◌∙◌, ap, subst, arith, length-append}
use Rattle.std.proofs.lemmas.List.{append-nil, append_assoc, take-append-drop}
use Rattle.raft_log_fs.specs.Disk.{ShortenedTo, File, at_rest}
use Rattle.raft_log_fs.specs.Calls.{with_change, after_change, flushed}
use Rattle.raft_log_file_writer.specs.LawsChains.{Written, IsSelfDelimiting, spelled, AreFrames, Reads}
use Rattle.raft_log_file_writer.specs.KeepsSynced.{HoldsChain, HoldsAtLeast, kept_records}
use Rattle.raft_log_file_writer.specs.Shortening.{CanShorten, IsShortened, ShortenedIsKept}
use Rattle.raft_log_file_writer.proofs.LawsChainLaws.{spelled-append, frames_back, frames_front, nothing_refuses}
use Rattle.raft_log_file_writer.proofs.KeepsSyncedLaws.{holds_shortened, holds_more, holds_read, holds_at_least}

module _ {R : Type 0} (IsFrame : List ℕ → R → Type 0) (start : ℕ) (stale : List ℕ) where
  -- bytes that are just a chain behind the start are read so
  pub reads_whole : IsSelfDelimiting IsFrame → (ws : List (Written R)) (bytes : List ℕ) → AreFrames IsFrame ws → drop start bytes ≡ spelled ws → Reads IsFrame start ws bytes
  reads_whole free ws bytes frames is = record { rest = []; splits = is ∙ sym (append-nil (spelled ws)); frames = frames; ends = nothing_refuses IsFrame free }

  -- and once synced they are durable, and may go on being counted on for more
  pub settled_at_least : IsSelfDelimiting IsFrame → (durable pending : List (Written R)) (count : ℕ) (bytes : List ℕ) → AreFrames IsFrame (durable ++ pending)
      → drop start bytes ≡ spelled (kept_records durable pending count) → HoldsAtLeast IsFrame start stale durable pending (at_rest bytes)
  settled_at_least free durable pending count bytes frames is =
      let ws = kept_records durable pending count in
      let parts : durable ++ pending ≡ ws ++ drop count pending =
      ap (λ (vs : List (Written R)). durable ++ vs) (sym (take-append-drop count pending)) ∙ sym (append_assoc durable (take count pending) (drop count pending)) in
      let framed = subst (AreFrames IsFrame) parts frames in
      let reads = reads_whole free ws bytes (frames_front IsFrame ws (drop count pending) framed) is in
      record {
        more = take count pending;
        rest = drop count pending;
        splits = sym (take-append-drop count pending);
        holds = holds_more IsFrame start stale ws [] (drop count pending) (at_rest bytes) (frames_back IsFrame ws (drop count pending) framed) (holds_read IsFrame start free stale ws bytes reads);
      }

  module _ (size count : ℕ) (durable pending : List (Written R)) where
    pub can_shorten_kept : (file : File) → CanShorten IsFrame start stale size count durable pending file → HoldsAtLeast IsFrame start stale durable pending file
    can_shorten_kept file can = holds_at_least IsFrame start stale durable pending file can.holds

    -- the shortening spares the durable records
    still_holds : (file : File) (content : List ℕ) → CanShorten IsFrame start stale size count durable pending file
        → HoldsChain IsFrame start stale durable pending (with_change (ShortenedTo size) content file)
    still_holds file content can = holds_shortened IsFrame start stale durable pending size content file
        (omega (arith, can.end, ap length (spelled-append durable (take count pending)), length-append (spelled durable) (spelled (take count pending)))) can.holds

    pub kept_shortened : (file : File) (content : List ℕ) → CanShorten IsFrame start stale size count durable pending file
        → HoldsAtLeast IsFrame start stale durable pending (with_change (ShortenedTo size) content file)
    kept_shortened file content can = holds_at_least IsFrame start stale durable pending (with_change (ShortenedTo size) content file) (still_holds file content can)

    pub is_shortened : (file : File) → CanShorten IsFrame start stale size count durable pending file → IsShortened IsFrame start stale count durable pending (after_change (ShortenedTo size) file)
    is_shortened file can = record { holds = still_holds file (take size file.content) can; all = can.front }

  pub shortened_kept : (count : ℕ) (durable pending : List (Written R)) (file : File) → IsShortened IsFrame start stale count durable pending file → HoldsAtLeast IsFrame start stale durable pending file
  shortened_kept count durable pending file is = holds_at_least IsFrame start stale durable pending file is.holds

  pub shortened_synced : IsSelfDelimiting IsFrame → (count : ℕ) (durable pending : List (Written R)) (file : File) → IsShortened IsFrame start stale count durable pending file
      → HoldsAtLeast IsFrame start stale durable pending (flushed file)
  shortened_synced free count durable pending file is = settled_at_least free durable pending count file.content is.holds.frames is.all

pub shortened_is_kept : {R : Type 0} (IsFrame : List ℕ → R → Type 0) → ShortenedIsKept IsFrame
shortened_is_kept IsFrame free start stale size count durable pending file can =
    let done = is_shortened IsFrame start stale size count durable pending file can in
    record {
      before = can_shorten_kept IsFrame start stale size count durable pending file can;
      tried = λ content. kept_shortened IsFrame start stale size count durable pending file content can;
      done = done;
      synced = shortened_synced IsFrame start stale free count durable pending (after_change (ShortenedTo size) file) done;
    }

-- What a crash leaves of the last files of a store that runs, where it only loses, and where it brings a record.
use Rattle.std.proofs.Common.{◌≡◌, ◌∙◌, ◌⊎◌, ℕ, ◌+◌, ◌<◌, List, [], ◌∷◌, ◌++◌, length, take, drop, refl, sym, ap, subst, inl, inr, arith, length-append}
use Rattle.std.proofs.lemmas.List.{append-nil, append_assoc, drop_at, take-append-drop}
use Rattle.raft_log_model_laws.specs.Groups.{taken}
use Rattle.raft_log_fs.specs.Disk.{Disk, File, zeros}
use Rattle.raft_log_file_writer.specs.LawsChains.{IsSelfDelimiting, LiesIn, Meets, Reads, Refuses, Written, spelled}
use Rattle.raft_log_file_writer.specs.LogFormat.{Format, HasHeader, IsFormat}
use Rattle.raft_log_file_writer.proofs.Public.{frame_filled, frames_append, lies_in_more, reads_further, record_lies, spelled-append, take_over}
use Rattle.raft_log_file_pipe.specs.declared.pipe_files.PipeFiles.{PipeFiles}
use Rattle.raft_log_record_base.specs.declared.pipe_log.LogQueue.{LogQueue}
use Rattle.raft_log_record_base.specs.declared.pipe_log.LogQueue.TheVariants.{Append, Rewrite}
use Rattle.raft_voter_durability_laws.specs.raft_log_engine_laws.specs.raft_log_active_file.specs.declared.record.LogRecord.{LogRecord}
use Rattle.raft_voter_durability_laws.specs.raft_log_engine_laws.specs.raft_log_active_file.specs.QueueFiles.{log_format}
use Rattle.raft_voter_durability_laws.specs.raft_log_engine_laws.specs.raft_log_active_file.specs.QueueFilesLaws.{is_layout, zeros_hold_none}
use Rattle.raft_voter_durability_laws.specs.raft_log_engine_laws.specs.raft_log_dual_pipes.specs.Pipes.{LogRecordValue}
use Rattle.raft_voter_durability_laws.specs.raft_log_engine_laws.specs.raft_log_dual_pipes.specs.Queues.{QueueLayout}
use Rattle.raft_voter_durability_laws.specs.raft_log_engine_laws.specs.raft_log_dual_pipes.specs.State.{RunsQueue, Spanned}
use Rattle.raft_voter_durability_laws.specs.raft_log_engine_laws.specs.EngineState.{LogMap, log_in}
use Rattle.raft_log_recovery_laws.specs.Running.{LeavesOwnAlone, MeetsOwnAlone, active_header, own_bytes}
use Rattle.raft_log_recovery_laws.proofs.Public.{crashed_engines_open}
use Rattle.raft_voter_records.specs.Voters.{Means}
use Rattle.raft_voter_records.proofs.Public.{taken_in_two}
use Rattle.raft_voter_log.proofs.Finding.{crashed_stores_are_found, found_as}
use Rattle.raft_voter_log.specs.Chance.{ForeignRecordsAreChance, HasForeign, IsOwnFrame, IsTorn, IsWhole, LeavesForeign, LosesOwn, LossesAreFound, LossesInRoundsAreFound, LossesLeaveNoChance, ZerosBeginNoRecord}

-- a record that is met lies where it is met
met_lies : {R : Type 0} (IsFrame : List ℕ → R → Type 0) (start at : ℕ) (w : Written R) (bytes : List ℕ) → Meets IsFrame start at w bytes → LiesIn start (drop start bytes) at w.bytes
met_lies IsFrame start at w bytes met = record {
  ahead = spelled met.before;
  behind = met.begins.rest;
  splits = met.begins.splits
      ∙ ap (λ (b : List ℕ). b ++ met.begins.rest) (spelled-append met.before (w ∷ []) ∙ ap (λ (b : List ℕ). spelled met.before ++ b) (append-nil w.bytes))
      ∙ append_assoc (spelled met.before) w.bytes met.begins.rest;
  place = met.place;
}

-- Of the file that a pipe writes to, whose header is one.
module _ (F : Format LogRecord) (form : IsFormat F) (files : PipeFiles) (file : File) (headed : F.IsHeader (active_header files)) where
  free : IsSelfDelimiting (IsOwnFrame F files)
  free = form.free files.active.seq (active_header files)

  -- bytes that begin with the header begin with no other
  one_header : (bytes more : List ℕ) → bytes ≡ active_header files ++ more → (other : List ℕ) → HasHeader F other bytes → other ≡ active_header files
  one_header bytes more is other has = form.headers other (active_header files) has.rest more has.is headed (sym has.splits ∙ is)

  -- nor are they taken for a file with an alignment
  not_aligned : (bytes more : List ℕ) → bytes ≡ active_header files ++ more → F.IsAligned files.active.seq bytes → ⊥
  not_aligned bytes more is other = form.plain files.active.seq (active_header files) more headed (subst (F.IsAligned files.active.seq) is other)

  -- what reading meets behind the header lies in what stands there
  met_behind : (bytes more : List ℕ) → bytes ≡ active_header files ++ more → (at : ℕ) (w : Written LogRecord) → Meets (IsOwnFrame F files) (length (active_header files)) at w bytes
      → LiesIn (length (active_header files)) more at w.bytes
  met_behind bytes more is at w met =
      let behind : drop (length (active_header files)) bytes ≡ more = ap (λ (b : List ℕ). drop (length (active_header files)) b) is ∙ drop_at (active_header files) more (length (active_header files)) refl in
      subst (λ (b : List ℕ). LiesIn (length (active_header files)) b at w.bytes) behind (met_lies (IsOwnFrame F files) (length (active_header files)) at w bytes met)

  torn : (bytes : List ℕ) → IsTorn files file bytes → MeetsOwnAlone F files file bytes
  torn bytes (kept, is) = record {
    headers = one_header bytes (take kept (own_bytes files file)) is;
    records = λ at w met.
        let lies = lies_in_more (length (active_header files)) at (take kept (own_bytes files file)) (drop kept (own_bytes files file)) w.bytes (met_behind bytes (take kept (own_bytes files file)) is at w met) in
        inl (subst (λ (b : List ℕ). LiesIn (length (active_header files)) b at w.bytes) (take-append-drop kept (own_bytes files file)) lies);
    plain = not_aligned bytes (take kept (own_bytes files file)) is;
  }

  whole : (bytes : List ℕ) → IsWhole F files file bytes → MeetsOwnAlone F files file bytes
  whole bytes b = record {
    headers = one_header bytes (spelled b.kept ++ b.behind) b.are;
    records = λ at w met.
        let reads : Reads (IsOwnFrame F files) (length (active_header files)) b.kept bytes = record {
          rest = b.behind;
          splits = ap (λ (x : List ℕ). drop (length (active_header files)) x) b.are ∙ drop_at (active_header files) (spelled b.kept ++ b.behind) (length (active_header files)) refl;
          frames = b.frames;
          ends = b.refuses;
        } in
        let more = reads_further (IsOwnFrame F files) free (length (active_header files)) (met.before ++ w ∷ []) b.kept bytes met.begins reads in
        let lies = record_lies (IsOwnFrame F files) (length (active_header files)) b.kept met.before more.0 w more.1 in
        let there : LiesIn (length (active_header files)) (spelled b.kept) at w.bytes = subst (λ (n : ℕ). LiesIn (length (active_header files)) (spelled b.kept) n w.bytes) (sym met.place) lies in
        inl (subst (λ (x : List ℕ). LiesIn (length (active_header files)) x at w.bytes) (sym b.wrote) (lies_in_more (length (active_header files)) at (spelled b.kept) b.lost w.bytes there));
    plain = not_aligned bytes (spelled b.kept ++ b.behind) b.are;
  }

  loses : (bytes : List ℕ) → IsTorn files file bytes ⊎ IsWhole F files file bytes → MeetsOwnAlone F files file bytes
  loses bytes (inl t) = torn bytes t
  loses bytes (inr b) = whole bytes b

-- a record that was brought is met, and is none of the pipe's
module _ (F : Format LogRecord) (form : IsFormat F) (files : PipeFiles) (file : File) (bytes : List ℕ) (h : HasForeign F files file bytes) where
  brought : Meets (IsOwnFrame F files) (length (active_header files)) (length (active_header files) + length (spelled h.own)) h.foreign bytes
  brought = record {
    before = h.own;
    begins = record {
      rest = h.behind;
      splits = ap (λ (x : List ℕ). drop (length (active_header files)) x) h.are ∙ drop_at (active_header files) (spelled h.own ++ (h.foreign.bytes ++ h.behind)) (length (active_header files)) refl
          ∙ sym (append_assoc (spelled h.own) h.foreign.bytes h.behind)
          ∙ ap (λ (x : List ℕ). x ++ h.behind) (sym (spelled-append h.own (h.foreign ∷ []) ∙ ap (λ (x : List ℕ). spelled h.own ++ x) (append-nil h.foreign.bytes)));
      frames = frames_append (IsOwnFrame F files) h.own (h.foreign ∷ []) h.frames (h.is, tt);
    };
    place = refl;
  }

  outside : LiesIn (length (active_header files)) (own_bytes files file) (length (active_header files) + length (spelled h.own)) h.foreign.bytes → ⊥
  outside lies =
      let some = frame_filled (IsOwnFrame F files) (form.free files.active.seq (active_header files)) h.foreign.bytes h.foreign.value h.is in
      let size = ap (λ (x : List ℕ). length x) (sym h.wrote ∙ lies.splits) ∙ length-append lies.ahead (h.foreign.bytes ++ lies.behind) in
      absurd (omega (arith, some, lies.place, size, length-append h.foreign.bytes lies.behind))

  none_meets : MeetsOwnAlone F files file bytes → ⊥
  none_meets meets = elim (meets.records (length (active_header files) + length (spelled h.own)) h.foreign brought) [
    | inl own ↦ outside own
    | inr handed ↦ h.unhanded handed
  ]

-- Both queues.

-- the header of a file that a pipe writes to is one
active_headed : (layout : QueueLayout LogRecord) (files : PipeFiles) (q : Spanned LogRecord) (d : Disk) → RunsQueue layout files q d → layout.format.IsHeader (active_header files)
active_headed layout files q d runs =
    let p = runs.pipe in
    subst (λ (h : List ℕ). layout.format.IsHeader h) p.header p.active.stands.headed

losing : (queue : LogQueue) (directories : List (List ℕ)) → 0 < length directories → (files : PipeFiles) → (log_format queue directories).IsHeader (active_header files) → (d image : Disk)
    → LosesOwn (log_format queue directories) files d image → LeavesOwnAlone (log_format queue directories) files d image
losing queue directories some files headed d image l file after was is =
    loses (log_format queue directories) (is_layout queue directories some).format files file headed after.content (l file after was is)

pub zeros_begin_no_record : ZerosBeginNoRecord
zeros_begin_no_record queue directories files room w rest is splits = zeros_hold_none files.active.seq room (active_header files) [] w.bytes rest w.value splits is

pub losses_leave_no_chance : LossesLeaveNoChance
losses_leave_no_chance home e m pending h image l =
    let run = h.runs in record {
      append = losing Append home.append run.append.some e.pipes.append.files (active_headed (log_in home).append e.pipes.append.files h.state.append h.state.disk run.run.append) e.pipes.disk image l.append;
      rewrite = losing Rewrite home.rewrite run.rewrite.some e.pipes.rewrite.files (active_headed (log_in home).rewrite e.pipes.rewrite.files h.state.rewrite h.state.disk run.run.rewrite) e.pipes.disk image l.rewrite;
    }

pub losses_are_found : {F : Type 0} (disk : F → Disk) (tells : F → List ℕ → ℕ → Type 0) → LossesAreFound disk tells
losses_are_found disk tells home e W keeps old sound is l =
    crashed_stores_are_found disk tells home e W keeps old sound is (losses_leave_no_chance home e keeps.map [] keeps.holds (disk old) l)

pub losses_in_rounds_are_found : {F : Type 0} (disk : F → Disk) (tells : F → List ℕ → ℕ → Type 0) → LossesInRoundsAreFound disk tells
losses_in_rounds_are_found disk tells home V requests told wrote s t os us keeps are went old sound is l =
    let m = keeps.map in
    let e = went.holds home m [] keeps.holds in
    let chance = losses_leave_no_chance home t (taken m e.done) e.rest e.holds (disk old) l in
    let (k, within, rests, opens) = crashed_engines_open disk tells home t (taken m e.done) e.rest e.holds old sound is chance in
    let sizes : length e.done + length e.rest ≡ length went.said = sym (length-append e.done e.rest) ∙ ap (λ (l : List LogRecordValue). length l) e.splits in
    let (X, passed, means) = went.among m V keeps.means are (length e.done + k) (omega (arith, within, sizes)) in
    let now : LogMap = taken (taken m e.done) (take k e.rest) in
    let same : taken m (take (length e.done + k) went.said) ≡ now =
    ap (λ (l : List LogRecordValue). taken m (take (length e.done + k) l)) (sym e.splits) ∙ ap (λ (l : List LogRecordValue). taken m l) (take_over e.done e.rest k) ∙ taken_in_two m e.done (take k e.rest) in
    (X, passed, λ config named. found_as disk tells config old now X (subst (λ (x : LogMap). Means x X) same means) (opens config named))

bringing : (queue : LogQueue) (directories : List (List ℕ)) → 0 < length directories → (files : PipeFiles) (d image : Disk) → LeavesForeign (log_format queue directories) files d image
    → LeavesOwnAlone (log_format queue directories) files d image → ⊥
bringing queue directories some files d image l alone =
    none_meets (log_format queue directories) (is_layout queue directories some).format files l.file l.after.content l.has (alone l.file l.after l.was l.left)

pub foreign_records_are_chance : ForeignRecordsAreChance
foreign_records_are_chance home e m pending h image (inl l) chance = bringing Append home.append h.runs.append.some e.pipes.append.files e.pipes.disk image l chance.append
foreign_records_are_chance home e m pending h image (inr l) chance = bringing Rewrite home.rewrite h.runs.rewrite.some e.pipes.rewrite.files e.pipes.disk image l chance.rewrite

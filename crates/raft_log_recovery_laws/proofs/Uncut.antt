-- The files of a queue at rest weren't all cut: all that was read is held.
use Rattle.std.specs.declared.io.ErrorKind.{ErrorKind}
use Rattle.std.specs.Prelude.{slice_index_or}
use Rattle.std.proofs.Common.{◌≡◌, ℕ, zero, suc, Bool, true, false, List, [], ◌∷◌, ◌++◌, length, take, sym, ap, subst, ◌∙◌, inl, append-nil, unwrap_or, arith}
use Rattle.raft_log_record_base.specs.declared.pipe_log.Version.TheVariants.{V1}
use Rattle.raft_log_machine_laws.specs.Files.{FileQueue}
use Rattle.raft_log_fs.specs.Disk.{Disk}
use Rattle.raft_log_fs.specs.Image.{IsSound}
use Rattle.raft_log_file_writer.specs.LawsChains.{Written}
use Rattle.raft_log_file_writer.specs.LogQueue.{LogFiles, HoldsLast, recent}
use Rattle.raft_log_fs.specs.declared.handle.Permission.TheVariants.{ReadOnly}
use Rattle.raft_log_active_file.specs.Bridge.{said, IsFileQueue}
use Rattle.raft_log_active_file.specs.Standing.{Names}
use Rattle.raft_log_active_file.specs.Reopening.{reread}
use Rattle.raft_log_active_file.proofs.Public.{stands_rebased}
use Rattle.raft_log_active_file.specs.Layout.{path_of}
use Rattle.raft_log_active_file.specs.TakingUp.{TrimMakes}
use Rattle.raft_log_active_file.specs.declared.format.File.{File}
use Rattle.raft_log_engine_laws.specs.raft_log_active_file.specs.declared.record.LogRecord.{LogRecord}
use Rattle.raft_log_recovery_read.specs.declared.file_ending.FileEnding.{FileEnding}
use Rattle.raft_log_model_laws.specs.Item.{Record}
use Rattle.raft_log_dual_pipes.specs.Queues.{IsQueueLayout, QueueLayout}
use Rattle.raft_log_dual_pipes.specs.State.{HasSpan, Spanned}
use Rattle.raft_log_dual_pipes.specs.OpenOrClosed.{LiesQueue}
use Rattle.raft_log_recovery.specs.Cutting.{CutsEach, CutsIf, FailsToCutEach}
use Rattle.raft_log_recovery_laws.specs.Keeping.{KeepsNumbered}
use Rattle.raft_log_recovery_laws.proofs.Calls.{keeps_touched}
use Rattle.raft_log_recovery_laws.proofs.LastCut.{no_trim_touches, untrimmed_lies}
use Rattle.raft_log_recovery_laws.specs.Files.{AreAll, AreToldOf, ReadsAsTold}
use Rattle.raft_log_recovery_laws.specs.Files.AreToldOf.{none_told, some_told}
use Rattle.raft_log_recovery_laws.proofs.Cutting.{last_is, last_path, AreSound}

-- No file is behind the last one.

abbrev file_numbered : ℕ → File
file_numbered n = record { seq = n; handle = record { file = 0; permission = ReadOnly }; format = record { version = V1; alignment = 0 }; path_id = 0; reserved = false }

pub not_all : (file : File) → ((other : File) → other ≡ file) → ⊥
not_all file all = (let same : 0 ≡ 1 = ap (λ (f : File). f.seq) (all (file_numbered 0) ∙ sym (all (file_numbered 1))) in omega (arith, same))

-- what wasn't cut is the last file, and nothing was done before
pub record IsAtLast (last : File) (ending : FileEnding) (file : File) (its : FileEnding) (old between : Disk) : Type 0 where
  pub file_is : file ≡ last
  pub ending_is : its ≡ ending
  pub same : between ≡ old

pub at_last : (earlier : List File) (last : File) (front : List FileEnding) (ending : FileEnding) (at : ℕ) (file : File) (its : FileEnding) (old between : Disk) → length front ≡ length earlier → AreSound front
    → ((other : File) → slice_index_or (earlier ++ last ∷ []) at other ≡ file) → ((other : FileEnding) → slice_index_or (front ++ ending ∷ []) at other ≡ its) → its.is_damaged ≡ true
    → CutsEach (take at (earlier ++ last ∷ [])) (take at (front ++ ending ∷ [])) old between → IsAtLast last ending file its old between
at_last [] last [] ending zero file its old between long sound is ends damaged cuts = record { file_is = sym (is last); ending_is = sym (ends ending); same = cuts }
at_last [] last [] ending (suc k) file its old between long sound is ends damaged cuts = absurd (not_all file is)
at_last [] last (g ∷ front) ending at file its old between long sound is ends damaged cuts = (let none : suc (length front) ≡ 0 = long in absurd (omega (arith, none)))
at_last (f ∷ earlier) last [] ending at file its old between long sound is ends damaged cuts = (let none : 0 ≡ suc (length earlier) = long in absurd (omega (arith, none)))
at_last (f ∷ earlier) last (g ∷ front) ending zero file its old between long (fine, more) is ends damaged cuts =
    let clash : false ≡ true = sym fine ∙ ap (λ (e : FileEnding). e.is_damaged) (ends g) ∙ damaged in
    (let never : ⊥ = cc in absurd never)
at_last (f ∷ earlier) last (g ∷ front) ending (suc k) file its old between long (fine, more) is ends damaged (mid, one, rest) =
    let same : mid ≡ old = subst (λ (b : Bool). CutsIf b f g old mid) fine one in
    at_last earlier last front ending k file its old between (omega (arith, long)) more is ends damaged (subst (λ (d : Disk). CutsEach (take k (earlier ++ last ∷ [])) (take k (front ++ ending ∷ [])) d between) same rest)

-- What is left of a queue: it lies there with the same records, and nothing of the other one changed.
pub record IsHeld (layout theirs : QueueLayout LogRecord) (q : Spanned LogRecord) (old new : Disk) : Type 0 where
  pub next : LogFiles LogRecord
  pub lies : LiesQueue layout (record { first = q.first; files = next }) new
  pub numbered : (says : LogRecord → Record (List ℕ) (List ℕ)) (low first : ℕ) (f : FileQueue (List ℕ) (List ℕ)) → IsFileQueue says layout.format q.files low first old f → IsFileQueue says layout.format next low first new f
  pub others : KeepsNumbered theirs.format old new

module _ (layout : QueueLayout LogRecord) (lay : IsQueueLayout layout) (theirs : QueueLayout LogRecord) (other : IsQueueLayout theirs) (apart : (path : List ℕ) → layout.own path → theirs.own path → ⊥) (q : Spanned LogRecord)
    (nothing : q.files.pending ≡ []) (files : List File) (endings : List FileEnding) (kind : ErrorKind) (old new : Disk) (sound : IsSound old) (span : HasSpan layout.format q old) where
  held : (earlier : List File) (last : File) (front : List FileEnding) (ending : FileEnding) → files ≡ earlier ++ last ∷ [] → endings ≡ front ++ ending ∷ [] → length front ≡ length earlier → AreSound front
      → AreAll layout q old earlier last → ReadsAsTold layout q old last ending → FailsToCutEach files endings kind old new → IsHeld layout theirs q old new
  held earlier last front ending are also long fine all told fails =
      let a = at_last earlier last front ending fails.at fails.file fails.ending old fails.between long fine (subst (λ (l : List File). (o : File) → slice_index_or l fails.at o ≡ fails.file) are fails.file_is)
      (subst (λ (l : List FileEnding). (o : FileEnding) → slice_index_or l fails.at o ≡ fails.ending) also fails.ending_is) fails.fails.damaged
      (subst (λ (l : List FileEnding). CutsEach (take fails.at (earlier ++ last ∷ [])) (take fails.at l) old fails.between) also (subst (λ (l : List File). CutsEach (take fails.at l) (take fails.at endings) old fails.between) are fails.cuts)) in
      let makes = subst (λ (d : Disk). TrimMakes last.handle (unwrap_or ending.end 0) kind d new) a.same
      (subst (λ (e : FileEnding). TrimMakes last.handle (unwrap_or e.end 0) kind fails.between new) a.ending_is
      (subst (λ (f : File). TrimMakes f.handle (unwrap_or fails.ending.end 0) kind fails.between new) a.file_is fails.fails.makes)) in
      let only = no_trim_touches last.handle _ kind old new makes in
      let mine = last_is layout lay q old earlier last all in
      let (front_bytes, stale, behind, held, left) = untrimmed_lies layout lay last.handle ending.end q.files old new sound all.permitted all.stops mine told.read kind makes in
      let names : new.names ≡ old.names = only.names in
      let next : LogFiles LogRecord = reread front_bytes stale q.files in
      let records : recent q.files ≡ q.files.durable = ap (λ (l : List (Written LogRecord)). q.files.durable ++ l) nothing ∙ append-nil q.files.durable in
      record {
        next = next;
        lies = inl (
          inl (record { path = left.path; id = left.id; N = left.N; stands = stands_rebased layout.format layout.own old next left.path left.id (HoldsLast layout.format next) left.N new left.stands }),
          λ m from below. (let is = span m from below in record { path = is.path; at = is.at; id = is.id; named = ap (λ (f : Names). f is.path) names ∙ is.named }),
        );
        numbered = λ says low first f is. record {
          back = is.back;
          forth = is.forth;
          below = is.below;
          above = is.above;
          gone = is.gone;
          full = is.full;
          last = is.last;
          synced = is.synced ∙ ap (said says) (sym records);
          pending = is.pending ∙ ap (said says) nothing;
          behind = is.behind;
          gap = λ m before path at. ap (λ (n : Names). n path) names ∙ is.gap m before path at;
        };
        others = keeps_touched theirs.format old new last.handle.file only (λ m path less at there.
            (let same : path ≡ path_of layout.paths last = sound.one_name path (path_of layout.paths last) last.handle.file there all.listed.named in
            apart path (subst layout.own (sym same) (lay.lawful.owns q.files.last (path_of layout.paths last) all.stops.stands.bound (last_path layout lay q old earlier last all))) (other.lawful.owns m path less at)));
      }

  none_uncut : FailsToCutEach [] endings kind old new → ⊥
  none_uncut fails = not_all fails.file fails.file_is

  pub uncut_held : AreToldOf layout q old files endings → FailsToCutEach files endings kind old new → IsHeld layout theirs q old new
  uncut_held (none_told are also unbegun) fails = absurd (none_uncut (subst (λ (l : List File). FailsToCutEach l endings kind old new) are fails))
  uncut_held (some_told earlier last front ending are also long fine all told) fails = held earlier last front ending are also long fine all told fails

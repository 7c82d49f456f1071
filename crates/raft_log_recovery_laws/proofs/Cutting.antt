-- The files of a queue at rest are cut behind what was told of them.
use Rattle.std.proofs.Common.{◌≡◌, ℕ, suc, ◌<◌, Bool, true, false, List, [], ◌∷◌, ◌++◌, length, refl, sym, ap, subst, ◌∙◌, arith}
use Rattle.raft_log_fs.specs.Disk.{ShortenedTo, Disk, File as DiskFile}
use Rattle.raft_log_fs.specs.Image.{IsSound}
use Rattle.raft_log_fs.specs.Calls.{after_change, flushed, Changes}
use Rattle.raft_log_fs.specs.Touching.{HasFile}
use Rattle.raft_log_fs.proofs.Public.{sound_after_change, sound_flushed, sound_with_file}
use Rattle.raft_log_file_format.specs.Header.{header_bytes}
use Rattle.raft_log_active_file.specs.Standing.{Names}
use Rattle.raft_log_active_file.specs.Layout.{path_of}
use Rattle.raft_log_active_file.specs.declared.format.File.{File}
use Rattle.raft_log_engine_laws.specs.raft_log_active_file.specs.declared.record.LogRecord.{LogRecord}
use Rattle.raft_log_file_pipe.specs.Opening.{first_number}
use Rattle.raft_log_file_pipe.proofs.Public.{path_numbered, span_end, span_moved}
use Rattle.raft_log_recovery_read.specs.declared.file_ending.FileEnding.{FileEnding}
use Rattle.raft_log_dual_pipes.specs.Queues.{IsQueueLayout, QueueLayout}
use Rattle.raft_log_dual_pipes.specs.State.{IsStopped, Spanned}
use Rattle.raft_log_recovery.specs.Cutting.{CutsEach, CutsIf, CutsOne}
use Rattle.raft_log_recovery_laws.specs.Keeping.{KeepsNumbered}
use Rattle.raft_log_recovery_laws.proofs.Keeping.{stopped_kept, unbegun_kept}
use Rattle.raft_log_recovery_laws.proofs.Calls.{keeps_all, keeps_touched}
use Rattle.raft_log_recovery_laws.proofs.LastCut.{trimmed_header, trimmed_read, trimmed_rests, trims_touch}
use Rattle.raft_log_engine_laws.specs.raft_log_block_cache.specs.Stored.{Each}
use Rattle.raft_log_recovery_laws.specs.Files.{AreAll, AreToldOf, ReadsAsTold}
use Rattle.raft_log_recovery_laws.specs.Files.AreToldOf.{none_told, some_told}

-- Only the last file is cut.

abbrev pub AreSound : List FileEnding → Type 0
AreSound front = Each (λ (e : FileEnding). e.is_damaged ≡ false) front

pub cut_last : (earlier : List File) (last : File) (front : List FileEnding) (ending : FileEnding) (old new : Disk) → length front ≡ length earlier → AreSound front → CutsEach (earlier ++ last ∷ []) (front ++ ending ∷ []) old new → CutsOne last ending old new
cut_last [] last [] ending old new long sound (mid, one, rest) = subst (λ (d : Disk). CutsOne last ending old d) (sym rest) one
cut_last [] last (g ∷ front) ending old new long sound cuts = (let none : suc (length front) ≡ 0 = long in absurd (omega (arith, none)))
cut_last (f ∷ earlier) last [] ending old new long sound cuts = (let none : 0 ≡ suc (length earlier) = long in absurd (omega (arith, none)))
cut_last (f ∷ earlier) last (g ∷ front) ending old new long (fine, more) (mid, one, rest) =
    let same : mid ≡ old = subst (λ (b : Bool). CutsIf b f g old mid) fine one in
    let shorter : length front ≡ length earlier = omega (arith, long) in
    cut_last earlier last front ending old new shorter more (subst (λ (d : Disk). CutsEach (earlier ++ last ∷ []) (front ++ ending ∷ []) d new) same rest)

-- A cut leaves a sound disk.

pub shortened_sound : (id size : ℕ) (old new : Disk) → IsSound old → Changes id (after_change (ShortenedTo size)) old new → IsSound new
shortened_sound id size old new sound changes =
    subst IsSound (sym changes.done) (sound_with_file old id changes.file (after_change (ShortenedTo size) changes.file) sound changes.is (sound_after_change changes.file (ShortenedTo size) (sound.files id changes.file changes.is) (omega arith)))

pub flushed_sound : (id : ℕ) (old new : Disk) → IsSound old → Changes id flushed old new → IsSound new
flushed_sound id old new sound changes =
    subst IsSound (sym changes.done) (sound_with_file old id changes.file (flushed changes.file) sound changes.is (sound_flushed changes.file (sound.files id changes.file changes.is)))

module _ (layout : QueueLayout LogRecord) (lay : IsQueueLayout layout) where
  -- names of numbers are the same
  abbrev SameNames : Disk → Disk → Type 0
  SameNames old new = (m : ℕ) (path : List ℕ) → m < layout.format.limit → layout.format.IsPath m path → new.names path ≡ old.names path

  path_at : (f : File) → f.reserved ≡ false → f.seq < layout.format.limit → layout.format.IsPath f.seq (path_of layout.paths f)
  path_at f listed bound = subst (layout.format.IsPath f.seq) (sym (path_numbered layout.paths f listed)) (lay.lawful.numbered f.path_id f.seq bound)

  module _ (q : Spanned LogRecord) (old : Disk) (earlier : List File) (last : File) (all : AreAll layout q old earlier last) where
    pub last_path : layout.format.IsPath q.files.last (path_of layout.paths last)
    last_path =
        let bound = all.stops.stands.bound in
        let number = all.listed.number_is in
        subst (λ (n : ℕ). layout.format.IsPath n (path_of layout.paths last)) number (path_at last all.listed.listed (omega (arith, bound, number)))

    pub last_is : last.handle.file ≡ all.stops.id
    last_is = all.stops.stands.alone (path_of layout.paths last) last.handle.file last_path (ap (λ (f : Names). f (path_of layout.paths last)) (sym all.stops.stands.names) ∙ all.listed.named)

    pub all_moved : (new : Disk) → SameNames old new → IsStopped layout q.files new → AreAll layout q new earlier last
    all_moved new names stops =
        let bound = all.stops.stands.bound in
        let ends = span_end layout.paths old.names (first_number earlier last) q.files.last earlier all.listed.span in
        record {
          stops = stops;
          listed = record {
            number_is = all.listed.number_is;
            listed = all.listed.listed;
            named = names q.files.last (path_of layout.paths last) bound last_path ∙ all.listed.named;
            span = span_moved layout.paths old.names new.names (first_number earlier last) q.files.last earlier (λ directory n from less.
                (let small : n < layout.format.limit = omega (arith, less, bound) in names n (layout.paths.numbered directory n) small (lay.lawful.numbered directory n small))) all.listed.span;
          };
          permitted = all.permitted;
          begins = λ m next path at. names m path (omega (arith, next, ends, bound)) at ∙ all.begins m next path at;
        }

  -- Where the files of the queue are as they were, they are told so still.
  pub told_kept : (q : Spanned LogRecord) (files : List File) (endings : List FileEnding) (old new : Disk) → KeepsNumbered layout.format old new → AreToldOf layout q old files endings → AreToldOf layout q new files endings
  told_kept q files endings old new keeps (some_told earlier last front ending are also long sound all told) =
      some_told earlier last front ending are also long sound (all_moved q old earlier last all new keeps.names (stopped_kept layout old new keeps q.files all.stops)) (record {
        read = moved told.read;
        headed = λ end is. moved (told.headed end is);
      })
    where
      moved : {P : DiskFile → Type 0} → HasFile last.handle.file P old → HasFile last.handle.file P new
      moved has = record { file = has.file; is = keeps.files q.files.last (path_of layout.paths last) last.handle.file all.stops.stands.bound (last_path q old earlier last all) all.listed.named ∙ has.is; has = has.has }
  told_kept q files endings old new keeps (none_told are also unbegun) = none_told are also (unbegun_kept layout old new keeps q unbegun)

  -- What the cut of a queue leaves.
  pub record IsCutTo (theirs : QueueLayout LogRecord) (q : Spanned LogRecord) (files : List File) (endings : List FileEnding) (old new : Disk) : Type 0 where
    pub told : AreToldOf layout q new files endings
    pub names : new.names ≡ old.names
    pub others : KeepsNumbered theirs.format old new
    pub sound : IsSound new

  module _ (theirs : QueueLayout LogRecord) (other : IsQueueLayout theirs) (apart : (path : List ℕ) → layout.own path → theirs.own path → ⊥) (q : Spanned LogRecord) (files : List File) (endings : List FileEnding) (old new : Disk) (sound : IsSound old) where
    uncut : AreToldOf layout q old files endings → new ≡ old → IsCutTo theirs q files endings old new
    uncut told same = subst (IsCutTo theirs q files endings old) (sym same) (record { told = told; names = refl; others = keeps_all theirs.format old; sound = sound })

    trimmed : (earlier : List File) (last : File) (front : List FileEnding) (ending : FileEnding) → files ≡ earlier ++ last ∷ [] → endings ≡ front ++ ending ∷ [] → length front ≡ length earlier → AreSound front
        → AreAll layout q old earlier last → ReadsAsTold layout q old last ending → CutsIf true last ending old new → IsCutTo theirs q files endings old new
    trimmed earlier last front ending are also long fine all told trims =
        let only = trims_touch last.handle _ old new trims in
        let mine = last_is q old earlier last all in
        let names : new.names ≡ old.names = only.names in
        record {
          told = some_told earlier last front ending are also long fine
              (all_moved q old earlier last all new (λ m path less at. ap (λ (f : Names). f path) names) (trimmed_rests layout lay last.handle ending.end q.files old new sound all.permitted all.stops mine told.read trims)) (record {
                read = trimmed_read layout lay last.handle ending.end q.files old new sound all.permitted all.stops mine told.read trims;
                headed = λ end is. trimmed_header layout lay last.handle ending.end q.files old new sound all.permitted all.stops mine told.read trims end is (header_bytes ending.format) (told.headed end is);
              });
          names = names;
          others = keeps_touched theirs.format old new last.handle.file only (λ m path less at there.
              (let same : path ≡ path_of layout.paths last = sound.one_name path (path_of layout.paths last) last.handle.file there all.listed.named in
              apart path (subst layout.own (sym same) (lay.lawful.owns q.files.last (path_of layout.paths last) all.stops.stands.bound (last_path q old earlier last all))) (other.lawful.owns m path less at)));
          sound = flushed_sound last.handle.file trims.cut new (shortened_sound last.handle.file _ old trims.cut sound trims.shortens) trims.syncs;
        }

    pub cut_queue : AreToldOf layout q old files endings → CutsEach files endings old new → IsCutTo theirs q files endings old new
    cut_queue (none_told are also unbegun) cuts = uncut (none_told are also unbegun) (subst (λ (l : List File). CutsEach l endings old new) are cuts)
    cut_queue (some_told earlier last front ending are also long fine all told) cuts =
        let one : CutsOne last ending old new = cut_last earlier last front ending old new long fine (subst (λ (l : List FileEnding). CutsEach (earlier ++ last ∷ []) l old new) also (subst (λ (l : List File). CutsEach l endings old new) are cuts)) in
        by_damage ending.is_damaged refl one
      where
        by_damage : (b : Bool) → b ≡ ending.is_damaged → CutsIf b last ending old new → IsCutTo theirs q files endings old new
        by_damage false is same = uncut (some_told earlier last front ending are also long fine all told) same
        by_damage true is trims = trimmed earlier last front ending are also long fine all told trims

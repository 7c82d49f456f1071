-- A queue that is read as it stands is cut behind what is read of its last file, or that is refused: it lies
-- there with its records still.
use Rattle.std.specs.declared.io.ErrorKind.{ErrorKind}
use Rattle.std.proofs.Common.{◌≡◌, ◌⊎◌, ℕ, ◌<◌, Option, Some, List, [], ◌++◌, length, sym, ap, subst, ◌∙◌, inl, inr, append-nil, arith, unwrap_or, refl}
use Rattle.std.specs.Option.{option_map}
use Rattle.raft_log_file_writer.specs.LawsChains.{Written}
use Rattle.raft_log_fs.specs.Disk.{File, Disk, at_rest}
use Rattle.raft_log_fs.specs.Image.{as_it_stands, IsSound}
use Rattle.raft_log_fs.specs.Calls.{flushed}
use Rattle.raft_log_file_writer.specs.KeepsSynced.{HoldsChain}
use Rattle.raft_log_file_writer.specs.LogQueue.{HoldsLast, LogFiles, NoChanceInLast, recent}
use Rattle.raft_log_fs.specs.Touching.{HasFile}
use Rattle.raft_log_fs.specs.declared.handle.Handle.{Handle}
use Rattle.raft_log_fs.specs.declared.handle.Permission.TheVariants.{ReadWrite}
use Rattle.raft_log_file_writer.proofs.Public.{all_at_least}
use Rattle.raft_log_fs.proofs.Public.{same_file}
use Rattle.raft_log_active_file.specs.Reopening.{reread, IsReadTo}
use Rattle.raft_log_active_file.specs.Standing.{HaveOneName, Names, Stands}
use Rattle.raft_log_active_file.proofs.Public.{stands_as, stands_rebased, stands_touched, stands_weaker}
use Rattle.raft_log_active_file.specs.TakingUp.{TrimMakes, Trims}
use Rattle.raft_log_engine_laws.specs.raft_log_active_file.specs.declared.record.LogRecord.{LogRecord}
use Rattle.raft_log_dual_pipes.specs.OpenOrClosed.{LiesQueue}
use Rattle.raft_log_dual_pipes.specs.Queues.{IsQueueLayout, QueueLayout}
use Rattle.raft_log_dual_pipes.specs.Reopening.{RestsQueue}
use Rattle.raft_log_dual_pipes.specs.State.{HasSpan, IsStopped, Spanned}
use Rattle.raft_log_recovery_laws.specs.Keeping.{KeepsNumbered}
use Rattle.raft_log_recovery_laws.proofs.Keeping.{rests_kept, stands_kept}
use Rattle.raft_log_recovery_laws.proofs.LastCut.{no_trim_touches, trimmed_rests, trims_touch, untrimmed_lies}
use Rattle.raft_log_recovery_laws.proofs.FileCuts.{back_nil, front_nil, stands_trimmed, stands_untrimmed, IsSure}
use Rattle.raft_log_recovery_laws.proofs.Standing.{last_of, none_last, one_last, IsLast}
use Rattle.raft_log_recovery_laws.proofs.Unsynced.{steady_lies, LiesSteady, StandsSteady, Steady}

module _ (layout : QueueLayout LogRecord) (told : IsQueueLayout layout) where
  -- the files of a queue, of which the last one holds its records, with no checksum met by chance in it
  pub record StandsSure (q : Spanned LogRecord) (d : Disk) : Type 0 where
    pub path : List ℕ
    pub id : ℕ
    pub N : Names
    pub stands : Stands layout.format layout.own d q.files path id (IsSure layout.format q.files) N d
    pub span : HasSpan layout.format q d

  abbrev pub LiesSure : Spanned LogRecord → Disk → Type 0
  LiesSure q d = StandsSure q d ⊎ RestsQueue layout q d

  -- the queue lies there with its records, whatever stands in front of them and behind them
  pub record IsLeftAs (q : Spanned LogRecord) (d : Disk) : Type 0 where
    pub header : List ℕ
    pub stale : List ℕ
    pub lies : LiesQueue layout (record { first = q.first; files = record q.files { header = header; stale = stale } }) d

  pub steady_left : (q : Spanned LogRecord) (d : Disk) → LiesSteady layout told q d → IsLeftAs q d
  steady_left q d steady = record { header = q.files.header; stale = q.files.stale; lies = steady_lies layout told q d steady }

  -- more is known of the last file
  stands_with : (q : LogFiles LogRecord) (path : List ℕ) (id : ℕ) (P Q : File → Type 0) (N : Names) (d : Disk) → HaveOneName N → HasFile id Q d → Stands layout.format layout.own d q path id P N d
      → Stands layout.format layout.own d q path id Q N d
  stands_with q path id P Q N d one has s =
      stands_touched layout.format layout.own d told.lawful.format told.lawful.owns q path id P Q N d d one (record { names = refl; directories = refl; others = λ j apart. refl }) has s

  pub lies_sure : (q : Spanned LogRecord) (d : Disk) → IsSound d → NoChanceInLast layout.format q.files d (as_it_stands d) → LiesQueue layout q d → LiesSure q d
  lies_sure q d sound chance (inr unbegun) = inr (inr unbegun)
  lies_sure q d sound chance (inl (inr stopped, span)) = inr (inl (stopped, span))
  lies_sure q d sound chance (inl (inl left, span)) =
      let s = left.stands in
      let file = s.file.file in
      let here : d.names left.path ≡ Some left.id = ap (λ (f : Names). f left.path) s.names ∙ s.named in
      inl (record {
        path = left.path;
        id = left.id;
        N = left.N;
        stands = stands_with q.files left.path left.id (HoldsLast layout.format q.files) (IsSure layout.format q.files) left.N d (subst HaveOneName s.names sound.one_name) (record {
          file = file;
          is = s.file.is;
          has = record { holds = s.file.has; sound = sound.files left.id file s.file.is; chance = chance left.path left.id file (flushed file) s.at here s.file.is (ap (option_map flushed) s.file.is) };
        }) s;
        span = span;
      })

  pub sure_steady : (q : Spanned LogRecord) (d : Disk) → LiesSure q d → LiesSteady layout told q d
  sure_steady q d (inr rests) = inr rests
  sure_steady q d (inl st) = inl (record {
    path = st.path;
    id = st.id;
    N = st.N;
    stands = stands_weaker layout.format layout.own d q.files st.path st.id (IsSure layout.format q.files) (Steady layout told q.files) st.N d (λ file sure. record { holds = sure.holds; rests = inr (sure.sound, sure.chance) }) st.stands;
    span = st.span;
  })

  -- Where files are as they were, all of it stays.

  module _ (old new : Disk) (keeps : KeepsNumbered layout.format old new) where
    span_kept : (q : Spanned LogRecord) → q.files.last < layout.format.limit → HasSpan layout.format q old → HasSpan layout.format q new
    span_kept q bound span m from below =
        let is = span m from below in
        record { path = is.path; at = is.at; id = is.id; named = keeps.names m is.path (omega (arith, below, bound)) is.at ∙ is.named }

    pub sure_kept : (q : Spanned LogRecord) → LiesSure q old → LiesSure q new
    sure_kept q (inr rests) = inr (rests_kept layout old new keeps q rests)
    sure_kept q (inl st) = inl (record {
      path = st.path;
      id = st.id;
      N = new.names;
      stands = stands_kept layout old new keeps old q.files st.path st.id (IsSure layout.format q.files) st.N st.stands;
      span = span_kept q st.stands.bound st.span;
    })

    pub steady_kept : (q : Spanned LogRecord) → LiesSteady layout told q old → LiesSteady layout told q new
    steady_kept q (inr rests) = inr (rests_kept layout old new keeps q rests)
    steady_kept q (inl st) = inl (record {
      path = st.path;
      id = st.id;
      N = new.names;
      stands = stands_kept layout old new keeps old q.files st.path st.id (Steady layout told q.files) st.N st.stands;
      span = span_kept q st.stands.bound st.span;
    })

  -- The last file.

  -- as it was found: it may be written, and is read so far
  pub record IsFoundLast (d : Disk) (handle : Handle) (end : Option ℕ) : Type 0 where
    pub number : ℕ
    pub only : IsLast layout.format number handle.file d.names
    pub permitted : handle.permission ≡ ReadWrite
    pub read : HasFile handle.file (IsReadTo layout.format number end) d

  pub found_kept : (old new : Disk) (handle : Handle) (end : Option ℕ) → KeepsNumbered layout.format old new → IsFoundLast old handle end → IsFoundLast new handle end
  found_kept old new handle end keeps found =
      let was = found.only in
      record {
        number = found.number;
        only = record {
          bound = was.bound;
          path = was.path;
          at = was.at;
          named = keeps.names found.number was.path was.bound was.at ∙ was.named;
          alone = λ other j at is. was.alone other j at (sym (keeps.names found.number other was.bound at) ∙ is);
          none = λ m other above less at. keeps.names m other less at ∙ was.none m other above less at;
        };
        permitted = found.permitted;
        read = record { file = found.read.file; is = keeps.files found.number was.path handle.file was.bound was.at was.named ∙ found.read.is; has = found.read.has };
      }

  -- what was read again, and all counted as synced, is held with its records that weren't
  reread_holds : (front stale : List ℕ) (q : LogFiles LogRecord) (file : File) → HoldsLast layout.format (reread front stale q) file → HoldsLast layout.format (record q { header = front; stale = stale }) file
  reread_holds front stale q file holds =
      let c = holds.chain in
      let G = layout.format.IsFrame q.last front in
      let none : c.more ++ c.rest ≡ [] = sym c.splits in
      let same : recent q ++ c.more ≡ recent q = ap (λ (l : List (Written LogRecord)). recent q ++ l) (front_nil c.more c.rest none) ∙ append-nil (recent q) in
      let whole : HoldsChain G (length front) stale (recent q) [] file =
      subst (λ (l : List (Written LogRecord)). HoldsChain G (length front) stale (recent q) l file) (back_nil c.more c.rest none)
      (subst (λ (l : List (Written LogRecord)). HoldsChain G (length front) stale l c.rest file) same c.holds) in
      record {
        chain = all_at_least G (length front) stale q.durable q.pending file whole;
        headed = elim holds.headed [ inl stands ↦ inl stands | inr gone ↦ inr (sym (append-nil (recent q)) ∙ gone) ];
      }

  module _ (q : Spanned LogRecord) (handle : Handle) (end : Option ℕ) (old new : Disk) (sound : IsSound old) (found : IsFoundLast old handle end) where
    span_named : new.names ≡ old.names → HasSpan layout.format q old → HasSpan layout.format q new
    span_named names span m from below = (let is = span m from below in record { path = is.path; at = is.at; id = is.id; named = ap (λ (f : Names). f is.path) names ∙ is.named })

    module _ (st : StandsSure q old) where
      mine : (found.number ≡ q.files.last) × (handle.file ≡ st.id)
      mine = one_last layout.format found.number q.files.last handle.file st.id old.names found.only (last_of layout.format layout.own old q.files st.path st.id (IsSure layout.format q.files) st.N old st.stands)

      one : HaveOneName st.N
      one = subst HaveOneName st.stands.names sound.one_name

      its : Stands layout.format layout.own old q.files st.path handle.file (IsSure layout.format q.files) st.N old
      its = subst (λ (id : ℕ). Stands layout.format layout.own old q.files st.path id (IsSure layout.format q.files) st.N old) (sym mine.1) st.stands

      sure_to : Stands layout.format layout.own old q.files st.path handle.file (λ file. IsSure layout.format q.files file × IsReadTo layout.format q.files.last end file) st.N old
      sure_to =
          let same = same_file old handle.file its.file.file found.read.file its.file.is found.read.is in
          stands_with q.files st.path handle.file (IsSure layout.format q.files) (λ file. IsSure layout.format q.files file × IsReadTo layout.format q.files.last end file) st.N old one (record {
            file = found.read.file;
            is = found.read.is;
            has = (subst (IsSure layout.format q.files) same its.file.has, subst (λ (n : ℕ). IsReadTo layout.format n end found.read.file) mine.0 found.read.has);
          }) its

      cut_stands : Trims handle (unwrap_or end 0) old new → StandsSteady layout told q new
      cut_stands trims =
          let s = stands_trimmed layout.format layout.own told.lawful.format told.lawful.owns old q.files st.path st.N handle end one old new trims sure_to in
          record {
            path = st.path;
            id = handle.file;
            N = st.N;
            stands = stands_rebased layout.format layout.own old q.files st.path handle.file (Steady layout told q.files) st.N new
                (stands_weaker layout.format layout.own old q.files st.path handle.file (λ file. HoldsLast layout.format q.files file × (file ≡ at_rest file.content)) (Steady layout told q.files) st.N new
                (λ file was. record { holds = was.0; rests = inl was.1 }) s);
            span = span_named (trims_touch handle (unwrap_or end 0) old new trims).names st.span;
          }

      uncut_left : (kind : ErrorKind) → TrimMakes handle (unwrap_or end 0) kind old new → IsLeftAs q new
      uncut_left kind makes =
          let s = stands_untrimmed layout.format layout.own told.lawful.format told.lawful.owns old q.files st.path st.N handle end one kind old new makes sure_to in
          record {
            header = q.files.header;
            stale = q.files.stale;
            lies = inl (
              inl (record { path = st.path; id = handle.file; N = st.N; stands = stands_rebased layout.format layout.own old q.files st.path handle.file (HoldsLast layout.format q.files) st.N new s }),
              span_named (no_trim_touches handle (unwrap_or end 0) kind old new makes).names st.span,
            );
          }

    module _ (stopped : IsStopped layout q.files old) (span : HasSpan layout.format q old) where
      stopped_mine : (found.number ≡ q.files.last) × (handle.file ≡ stopped.id)
      stopped_mine = one_last layout.format found.number q.files.last handle.file stopped.id old.names found.only (last_of layout.format layout.own old q.files stopped.path stopped.id _ stopped.N old stopped.stands)

      stopped_read : HasFile handle.file (IsReadTo layout.format q.files.last end) old
      stopped_read = subst (λ (n : ℕ). HasFile handle.file (IsReadTo layout.format n end) old) stopped_mine.0 found.read

      stopped_left : (kind : ErrorKind) → TrimMakes handle (unwrap_or end 0) kind old new → IsLeftAs q new
      stopped_left kind makes =
          let (front, stale, behind, held, left) = untrimmed_lies layout told handle end q.files old new sound found.permitted stopped stopped_mine.1 stopped_read kind makes in
          let before = reread front stale q.files in
          let next : LogFiles LogRecord = record q.files { header = front; stale = stale } in
          let s = stands_rebased layout.format layout.own old before left.path left.id (HoldsLast layout.format before) left.N new left.stands in
          let weaker = stands_weaker layout.format layout.own new before left.path left.id (HoldsLast layout.format before) (HoldsLast layout.format next) left.N new (reread_holds front stale q.files) s in
          record {
            header = front;
            stale = stale;
            lies = inl (
              inl (record { path = left.path; id = left.id; N = left.N; stands = stands_as layout.format layout.own new before next left.path left.id (HoldsLast layout.format next) left.N new refl refl left.stands.headed weaker }),
              span_named (no_trim_touches handle (unwrap_or end 0) kind old new makes).names span,
            );
          }

    -- the queue once it was cut
    pub cut_steady : Trims handle (unwrap_or end 0) old new → LiesSure q old → LiesSteady layout told q new
    cut_steady trims (inl st) = inl (cut_stands st trims)
    cut_steady trims (inr (inl (stopped, span))) =
        inr (inl (
          trimmed_rests layout told handle end q.files old new sound found.permitted stopped (stopped_mine stopped span).1 (stopped_read stopped span) trims,
          span_named (trims_touch handle (unwrap_or end 0) old new trims).names span,
        ))
    cut_steady trims (inr (inr unbegun)) = absurd (none_last layout.format found.number handle.file old.names found.only unbegun.fresh.none)

    -- and where that was refused
    pub uncut_lies : (kind : ErrorKind) → TrimMakes handle (unwrap_or end 0) kind old new → LiesSure q old → IsLeftAs q new
    uncut_lies kind makes (inl st) = uncut_left st kind makes
    uncut_lies kind makes (inr (inl (stopped, span))) = stopped_left stopped span kind makes
    uncut_lies kind makes (inr (inr unbegun)) = absurd (none_last layout.format found.number handle.file old.names found.only unbegun.fresh.none)

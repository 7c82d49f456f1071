-- Files of a log that lies are synced as they stand, or one is refused: the log lies there still.
use Rattle.std.specs.Prelude.{Result, Ok, Err, ◌⊎◌}
use Rattle.std.specs.Result.{IfErr, OnOk}
use Rattle.std.specs.declared.io.ErrorKind.{ErrorKind}
use Rattle.std.proofs.Common.{◌≡◌, ℕ, Some, List, [], ◌∷◌, refl, sym, ap, subst, ◌∙◌, inl, inr}
use Rattle.std.specs.Option.{option_map}
use Rattle.std.proofs.lemmas.Bool.{cases_eq}
use Rattle.raft_log_model_laws.specs.Item.{Record}
use Rattle.raft_log_machine_laws.specs.Files.{FileQueue}
use Rattle.raft_log_fs.specs.Arguments.{WrongHandle}
use Rattle.raft_log_fs.specs.Calls.{flushed, Changes, RefusedWhole}
use Rattle.raft_log_fs.specs.Disk.{Disk, at_rest, File as DiskFile}
use Rattle.raft_log_fs.specs.Image.{as_it_stands, IsSound, IsSoundFile}
use Rattle.raft_log_file_writer.specs.LawsChains.{spelled}
use Rattle.raft_log_file_writer.specs.LogFormat.{Format, NoChanceInFile}
use Rattle.raft_log_file_writer.specs.LogQueue.{HoldsLast, LogFiles, NoChanceInLast, recent}
use Rattle.raft_log_fs.specs.Touching.{TouchesOnly}
use Rattle.raft_log_fs.proofs.Public.{file_here, kept_sync, touches_sync, IsCalm}
use Rattle.raft_log_active_file.specs.Bridge.{IsFileQueue}
use Rattle.raft_log_active_file.specs.Standing.{HaveOneName, Names, Stands}
use Rattle.raft_log_active_file.proofs.Public.{place_moved, stands_rebased, stands_synced}
use Rattle.raft_log_active_file.specs.declared.format.File.{File}
use Rattle.raft_log_engine_laws.specs.raft_log_active_file.specs.declared.record.LogRecord.{LogRecord}
use Rattle.raft_log_dual_pipes.specs.OpenOrClosed.{none_open, LiesQueue}
use Rattle.raft_log_dual_pipes.specs.Queues.{AreTwoQueues, IsQueueLayout, QueueLayout}
use Rattle.raft_log_dual_pipes.specs.State.{HasSpan, Spanned}
use Rattle.raft_log_dual_pipes.specs.Reopening.{RestsQueue}
use Rattle.raft_log_dual_pipes.proofs.Public.{lies, rests_lie}
use Rattle.raft_log_dual_pipes.specs.Pipes.{State}
use Rattle.raft_log_engine_laws.specs.EngineState.{log_in}
use Rattle.raft_log_recovery.specs.Finishing.{FailsToSyncLog}
use Rattle.raft_log_recovery.specs.Finishing.FailsToSyncLog.{append_unsynced, reserved_unsynced, rewrite_unsynced}
use Rattle.raft_log_recovery.specs.Recovering.{append_files, rewrite_files}
use Rattle.raft_log_recovery.specs.Syncing.{FailsToSyncEach, SyncsEach}
use Rattle.raft_log_recovery.specs.declared.builder.DualPipesBuilder.{DualPipesBuilder}
use Rattle.raft_log_recovery_laws.specs.Keeping.{KeepsNumbered}
use Rattle.raft_log_recovery_laws.proofs.Calls.{no_sync_keeps, rests_at_rest, sync_keeps}
use Rattle.raft_log_recovery_laws.proofs.Keeping.{rests_kept, stands_kept}
use Rattle.raft_log_recovery_laws.proofs.ByCalls.{two_queues}
use Rattle.raft_log_recovery_laws.specs.InPlace.{UnsyncedLogsStay}
use Rattle.raft_log_recovery_laws.proofs.Flushed.{flushed_holds}
use Rattle.raft_log_recovery_laws.proofs.Standing.{stands_but, RestsBut}

module _ (layout : QueueLayout LogRecord) (told : IsQueueLayout layout) where
  -- The last file holds its records, and it is at rest, or no checksum is met by chance in it as it stands.
  pub record Steady (q : LogFiles LogRecord) (file : DiskFile) : Type 0 where
    pub holds : HoldsLast layout.format q file
    pub rests : (file ≡ at_rest file.content) ⊎ (IsSoundFile file × NoChanceInFile layout.format q.last q.header q.stale (spelled (recent q)) file file.content)

  flushed_steady : (q : LogFiles LogRecord) (file : DiskFile) → Steady q file → Steady q (flushed file)
  flushed_steady q file steady = record {
    holds = elim steady.rests [
      | inl rest ↦ subst (HoldsLast layout.format q) rest steady.holds
      | inr (sound, chance) ↦ flushed_holds layout.format told.lawful.format told.told q file sound chance steady.holds
    ];
    rests = inl refl;
  }

  -- the files of a queue, of which the last one does
  pub record StandsSteady (q : Spanned LogRecord) (d : Disk) : Type 0 where
    pub path : List ℕ
    pub id : ℕ
    pub N : Names
    pub stands : Stands layout.format layout.own d q.files path id (Steady q.files) N d
    pub span : HasSpan layout.format q d

  abbrev pub LiesSteady : Spanned LogRecord → Disk → Type 0
  LiesSteady q d = StandsSteady q d ⊎ RestsQueue layout q d

  pub steady_lies : (q : Spanned LogRecord) (d : Disk) → LiesSteady q d → LiesQueue layout q d
  steady_lies q d (inr rests) = rests_lie layout q d rests
  steady_lies q d (inl st) =
      let s = st.stands in
      inl (
        inl (record {
          path = st.path;
          id = st.id;
          N = st.N;
          stands = record {
            names = s.names;
            bound = s.bound;
            at = s.at;
            named = s.named;
            alone = s.alone;
            none = s.none;
            headed = s.headed;
            places = s.places;
            file = record { file = s.file.file; is = s.file.is; has = s.file.has.holds };
            older = s.older;
            single = s.single;
            others = s.others;
          };
        }),
        st.span,
      )

  lies_steady : (q : Spanned LogRecord) (d : Disk) → IsSound d → NoChanceInLast layout.format q.files d (as_it_stands d) → LiesQueue layout q d → LiesSteady q d
  lies_steady q d sound chance (inr unbegun) = inr (inr unbegun)
  lies_steady q d sound chance (inl (inr stopped, span)) = inr (inl (stopped, span))
  lies_steady q d sound chance (inl (inl left, span)) =
      let s = left.stands in
      let here : d.names left.path ≡ Some left.id = ap (λ (f : Names). f left.path) s.names ∙ s.named in
      inl (record {
        path = left.path;
        id = left.id;
        N = left.N;
        stands = record {
          names = s.names;
          bound = s.bound;
          at = s.at;
          named = s.named;
          alone = s.alone;
          none = s.none;
          headed = s.headed;
          places = s.places;
          file = record {
            file = s.file.file;
            is = s.file.is;
            has = record {
              holds = s.file.has;
              rests = inr (sound.files left.id s.file.file s.file.is, chance left.path left.id s.file.file (flushed s.file.file) s.at here s.file.is (ap (option_map flushed) s.file.is));
            };
          };
          older = s.older;
          single = s.single;
          others = s.others;
        };
        span = span;
      })

  -- A sync, answered or refused.
  module _ (wrong : ErrorKind → Type 0) (result : Result (Unit {0}) ErrorKind) (id : ℕ) (old new : Disk) (ok : OnOk result (Changes id flushed old new)) (err : IfErr result (λ e. RefusedWhole (Changes id flushed old) wrong e old new)) where
    only : TouchesOnly id old new
    only = touches_sync wrong result id ok err

    calm : (j : ℕ) → IsCalm (λ d. d.files j ≡ old.files j)
    calm j = record { at_count = λ d is. is; at_end = λ d is. is }

    -- of a file that was at rest
    same_at_rest : ((file : DiskFile) → old.files id ≡ Some file → file ≡ at_rest file.content) → new.files id ≡ old.files id
    same_at_rest rest =
        kept_sync (λ d. d.files id ≡ old.files id) wrong result id (calm id) refl (λ file is. file_here old.files id (Some (flushed file)) ∙ ap Some (sym (rest file is)) ∙ sym is) ok err

    -- of another file than the last one
    other_keeps : (last : ℕ) → (id ≡ last → ⊥) → RestsBut layout old last → KeepsNumbered layout.format old new
    other_keeps last apart but = record {
      names = λ m path less at. ap (λ (f : Names). f path) only.names;
      files = λ m path j less at there. elim (cases_eq j id) [
        | inr other ↦ only.others j other
        | inl same ↦
            (let still = same_at_rest (λ file is. elim (but.rest m path j file less at there (ap old.files same ∙ is)) [ inl last_one ↦ absurd (apart (sym same ∙ last_one)) | inr rest ↦ rest ]) in
            ap new.files same ∙ still ∙ ap old.files (sym same))
      ];
      places = λ m path less at place. place_moved path old new only.directories place;
    }

    span_then : (q : Spanned LogRecord) → HasSpan layout.format q old → HasSpan layout.format q new
    span_then q span m from below = (let is = span m from below in record { path = is.path; at = is.at; id = is.id; named = ap (λ (f : Names). f is.path) only.names ∙ is.named })

    stands_then : (q : Spanned LogRecord) → HaveOneName old.names → StandsSteady q old → StandsSteady q new
    stands_then q one st = elim (cases_eq id st.id) [
      | inl same ↦
          (let s = subst (λ (k : ℕ). Stands layout.format layout.own old q.files st.path k (Steady q.files) st.N old) (sym same) st.stands in
          record {
            path = st.path;
            id = id;
            N = st.N;
            stands = stands_rebased layout.format layout.own old q.files st.path id (Steady q.files) st.N new
                (stands_synced layout.format layout.own old told.lawful.format told.lawful.owns q.files st.path id (Steady q.files) (Steady q.files) st.N wrong result (subst HaveOneName s.names one) (λ file steady. steady)
                (λ file steady. flushed_steady q.files file steady) ok err s);
            span = span_then q st.span;
          })
      | inr apart ↦
          (let keeps = other_keeps st.id apart (stands_but layout old old q.files st.path st.id (Steady q.files) st.N st.stands) in
          record {
            path = st.path;
            id = st.id;
            N = new.names;
            stands = stands_kept layout old new keeps old q.files st.path st.id (Steady q.files) st.N st.stands;
            span = span_then q st.span;
          })
    ]

  sync_then : (q : Spanned LogRecord) (file : File) (old new : Disk) → HaveOneName old.names → Changes file.handle.file flushed old new → LiesSteady q old → LiesSteady q new
  sync_then q file old new one c (inl st) = (let result : Result (Unit {0}) ErrorKind = Ok tt in inl (stands_then (WrongHandle file.handle old) result file.handle.file old new c tt q one st))
  sync_then q file old new one c (inr rests) = inr (rests_kept layout old new (sync_keeps layout.format old new file.handle.file (rests_at_rest layout old q rests) c) q rests)

  no_sync_then : (q : Spanned LogRecord) (file : File) (kind : ErrorKind) (old new : Disk) → HaveOneName old.names → RefusedWhole (Changes file.handle.file flushed old) (WrongHandle file.handle old) kind old new → LiesSteady q old → LiesSteady q new
  no_sync_then q file kind old new one c (inl st) = (let result : Result (Unit {0}) ErrorKind = Err kind in inl (stands_then (WrongHandle file.handle old) result file.handle.file old new tt c q one st))
  no_sync_then q file kind old new one c (inr rests) = inr (rests_kept layout old new (no_sync_keeps layout.format old new file.handle.file (WrongHandle file.handle old) kind (rests_at_rest layout old q rests) c) q rests)

  pub syncs_then : (q : Spanned LogRecord) (files : List File) (old new : Disk) → HaveOneName old.names → SyncsEach files old new → LiesSteady q old → LiesSteady q new
  syncs_then q [] old new one same steady = subst (LiesSteady q) (sym same) steady
  syncs_then q (file ∷ files) old new one (mid, first, rest) steady =
      let names : mid.names ≡ old.names = ap (λ (d : Disk). d.names) first.done in
      syncs_then q files mid new (subst HaveOneName (sym names) one) rest (sync_then q file old mid one first steady)

-- names stay
syncs_names : (files : List File) (old new : Disk) → SyncsEach files old new → new.names ≡ old.names
syncs_names [] old new same = ap (λ (d : Disk). d.names) same
syncs_names (file ∷ files) old new (mid, one, rest) = syncs_names files mid new rest ∙ ap (λ (d : Disk). d.names) one.done

no_sync_names : (file : File) (kind : ErrorKind) (old new : Disk) → RefusedWhole (Changes file.handle.file flushed old) (WrongHandle file.handle old) kind old new → new.names ≡ old.names
no_sync_names file kind old new c = (let result : Result (Unit {0}) ErrorKind = Err kind in (touches_sync (WrongHandle file.handle old) result file.handle.file tt c).names)

no_syncs_names : (files : List File) (kind : ErrorKind) (old new : Disk) → FailsToSyncEach files kind old new → new.names ≡ old.names
no_syncs_names files kind old new fails = no_sync_names fails.file kind fails.between new fails.fails ∙ syncs_names fails.before old fails.between fails.synced

module _ (layout : QueueLayout LogRecord) (told : IsQueueLayout layout) (q : Spanned LogRecord) where
  no_syncs_then : (files : List File) (kind : ErrorKind) (old new : Disk) → HaveOneName old.names → FailsToSyncEach files kind old new → LiesSteady layout told q old → LiesSteady layout told q new
  no_syncs_then files kind old new one fails steady =
      let names = syncs_names fails.before old fails.between fails.synced in
      no_sync_then layout told q fails.file kind fails.between new (subst HaveOneName (sym names) one) fails.fails (syncs_then layout told q fails.before old fails.between one fails.synced steady)

  pub log_then : (b : DualPipesBuilder) (kind : ErrorKind) (old new : Disk) → HaveOneName old.names → FailsToSyncLog b kind old new → LiesSteady layout told q old → LiesSteady layout told q new
  log_then b kind old new one (append_unsynced fails) steady = no_syncs_then (append_files b) kind old new one fails steady
  log_then b kind old new one (rewrite_unsynced between syncs fails) steady =
      let names = syncs_names (append_files b) old between syncs in
      no_syncs_then (rewrite_files b) kind between new (subst HaveOneName (sym names) one) fails (syncs_then layout told q (append_files b) old between one syncs steady)
  log_then b kind old new one (reserved_unsynced between behind syncs more fails) steady =
      let names = syncs_names (append_files b) old between syncs in
      let one_between = subst HaveOneName (sym names) one in
      let one_behind = subst HaveOneName (sym (syncs_names (rewrite_files b) between behind more)) one_between in
      no_syncs_then b.reserved.items kind behind new one_behind fails (syncs_then layout told q (rewrite_files b) between behind one_between more (syncs_then layout told q (append_files b) old between one syncs steady))

pub log_names : (b : DualPipesBuilder) (kind : ErrorKind) (old new : Disk) → FailsToSyncLog b kind old new → new.names ≡ old.names
log_names b kind old new (append_unsynced fails) = no_syncs_names (append_files b) kind old new fails
log_names b kind old new (rewrite_unsynced between syncs fails) = no_syncs_names (rewrite_files b) kind between new fails ∙ syncs_names (append_files b) old between syncs
log_names b kind old new (reserved_unsynced between behind syncs more fails) = no_syncs_names b.reserved.items kind behind new fails ∙ (syncs_names (rewrite_files b) between behind more ∙ syncs_names (append_files b) old between syncs)

numbered_named : {R E V : Type 0} (says : R → Record E V) (F : Format R) (q : LogFiles R) (low first : ℕ) (old new : Disk) (files : FileQueue E V) → new.names ≡ old.names → IsFileQueue says F q low first old files → IsFileQueue says F q low first new files
numbered_named says F q low first old new files names is = record {
  back = is.back;
  forth = is.forth;
  below = is.below;
  above = is.above;
  gone = is.gone;
  full = is.full;
  last = is.last;
  synced = is.synced;
  pending = is.pending;
  behind = is.behind;
  gap = λ m next path at. ap (λ (f : Names). f path) names ∙ is.gap m next path at;
}

pub unsynced_logs_stay : UnsyncedLogsStay
unsynced_logs_stay home one other d m pending sound left chance b kind new fails =
    let two : AreTwoQueues (log_in home) = two_queues home one other in
    let l = left.1.lies in
    let s : State = l.state in
    let names : new.names ≡ s.disk.names = log_names b kind d new fails ∙ ap (λ (x : Disk). x.names) (sym l.disk) in
    let a_lies : LiesQueue (log_in home).append s.append d = subst (LiesQueue (log_in home).append s.append) l.disk (lies (log_in home).append two.append left.0.append s.append s.disk l.stands.append) in
    let r_lies : LiesQueue (log_in home).rewrite s.rewrite d = subst (LiesQueue (log_in home).rewrite s.rewrite) l.disk (lies (log_in home).rewrite two.rewrite left.0.rewrite s.rewrite s.disk l.stands.rewrite) in
    let a_steady = log_then (log_in home).append two.append s.append b kind d new sound.one_name fails (lies_steady (log_in home).append two.append s.append d sound chance.append a_lies) in
    let r_steady = log_then (log_in home).rewrite two.rewrite s.rewrite b kind d new sound.one_name fails (lies_steady (log_in home).rewrite two.rewrite s.rewrite d sound chance.rewrite r_lies) in
    let f = l.holds.files in (
      none_open,
      record {
        done = left.1.done;
        rest = left.1.rest;
        splits = left.1.splits;
        lies = record {
          state = record s { disk = new };
          disk = refl;
          stands = record {
            append = steady_lies (log_in home).append two.append s.append new a_steady;
            rewrite = steady_lies (log_in home).rewrite two.rewrite s.rewrite new r_steady;
          };
          holds = record {
            files = f;
            whereabouts = l.holds.whereabouts;
            failed = l.holds.failed;
            sound = l.holds.sound;
            ends = l.holds.ends;
            there = record {
              append = numbered_named (log_in home).says (log_in home).append.format s.append.files f.append_from s.append.first s.disk new f.append names l.holds.there.append;
              rewrite = numbered_named (log_in home).says (log_in home).rewrite.format s.rewrite.files f.rewrite_from s.rewrite.first s.disk new f.rewrite names l.holds.there.rewrite;
            };
          };
        };
      },
    )

-- A queue at rest whose files were copied rests where the copies are.
use Rattle.std.proofs.Common.{◌≡◌, ℕ, Some, List, [], ◌∷◌, refl, sym, ◌∙◌, ap, subst, inl, inr}
use Rattle.raft_log_model_laws.specs.Item.{Record}
use Rattle.raft_log_machine_laws.specs.Files.{FileQueue}
use Rattle.raft_log_record_base.specs.declared.pipe_log.LogQueue.{LogQueue}
use Rattle.raft_log_fs.specs.Disk.{Disk, File, at_rest}
use Rattle.raft_log_file_writer.specs.LogFormat.{HasHeader, ReadsFile}
use Rattle.raft_log_file_writer.specs.LogQueue.{IsLeftover, IsPast, LogFiles, Past}
use Rattle.raft_log_file_writer.specs.LawsChains.{Written}
use Rattle.raft_log_fs.proofs.Public.{same_file}
use Rattle.raft_log_active_file.specs.Bridge.{IsFileQueue}
use Rattle.raft_log_active_file.specs.Standing.{Names}
use Rattle.raft_log_engine_laws.specs.raft_log_active_file.specs.QueueFiles.{log_format}
use Rattle.raft_log_engine_laws.specs.raft_log_active_file.specs.declared.record.LogRecord.{LogRecord}
use Rattle.raft_log_dual_pipes.specs.Own.{log_layout}
use Rattle.raft_log_dual_pipes.specs.State.{AreThere, IsStopped, Spanned}
use Rattle.raft_log_dual_pipes.specs.OpenOrClosed.{IsUnbegun}
use Rattle.raft_log_dual_pipes.specs.Reopening.{RestsQueue}
use Rattle.raft_log_recovery_laws.proofs.Sources.{path_in, path_is}
use Rattle.raft_log_recovery_laws.proofs.Copies.{ForksQueue, absent_copied}

-- What is read of a file is so in whatever directories it lies.
module _ (queue : LogQueue) (from to : List (List ℕ)) where
  same_header : (header bytes : List ℕ) → HasHeader (log_format queue from) header bytes → HasHeader (log_format queue to) header bytes
  same_header header bytes has = record { is = has.is; rest = has.rest; splits = has.splits }

module _ (queue : LogQueue) (from to : List (List ℕ)) where
  same_reading : (n : ℕ) (ws : List (Written LogRecord)) (bytes : List ℕ) → ReadsFile (log_format queue from) n ws bytes → ReadsFile (log_format queue to) n ws bytes
  same_reading n ws bytes (inl (none, headless)) = inl (none, λ header has. headless header (same_header queue to from header bytes has))
  same_reading n ws bytes (inr (header, has, reads)) = inr (header, same_header queue from to header bytes has, reads)

  -- a copy of a file at rest is at rest
  leftover : (q : LogFiles LogRecord) (file : File) → IsLeftover (log_format queue from) q file → IsLeftover (log_format queue to) q (at_rest file.content)
  leftover q file is =
      record { bytes = is.bytes; is = ap (λ (f : File). at_rest f.content) is.is; reads = same_reading q.last _ is.bytes is.reads; plain = is.plain }

  past : (n : ℕ) (was : Past LogRecord) (file : File) → IsPast (log_format queue from) n was file → IsPast (log_format queue to) n was (at_rest file.content)
  past n was file is = record { is = ap (λ (f : File). at_rest f.content) is.is; header = is.header; frames = is.frames }

same_some : (i j : ℕ) → Some i ≡ Some j → i ≡ j
same_some i j e = cc

module _ (queue : LogQueue) (directories : List (List ℕ)) (target : List ℕ) (old new : Disk) (forks : ForksQueue queue directories target old new) where
  stopped_copied : (q : LogFiles LogRecord) → IsStopped (log_layout queue directories) q old → IsStopped (log_layout queue (target ∷ [])) q new
  stopped_copied q left =
      let s = left.stands in
      let was : (path : List ℕ) (id : ℕ) → old.names path ≡ Some id → left.N path ≡ Some id = λ path id is. ap (λ (f : Names). f path) (sym s.names) ∙ is in
      let here = path_in target queue q.last in
      let at = path_is target queue q.last s.bound in
      let has = forks.has q.last (record { path = left.path; at = s.at; id = left.id; named = ap (λ (f : Names). f left.path) s.names ∙ s.named }) in
      let last = forks.copied q.last here has.id at has.named in
      let one : last.from ≡ left.id = s.alone last.source last.from last.at (was last.source last.from last.named) in
      let file : s.file.file ≡ last.file = same_file old left.id s.file.file last.file s.file.is (ap (λ (n : ℕ). old.files n) (sym one) ∙ last.is) in
      record {
        path = here;
        id = has.id;
        N = new.names;
        stands = record {
          names = refl;
          bound = s.bound;
          at = at;
          named = has.named;
          alone = λ other j there is. (let c = forks.copied q.last other j there is in same_some j has.id (sym is ∙ ap (λ (p : List ℕ). new.names p) c.here ∙ has.named));
          none = λ m other above less there. absent_copied queue directories target old new forks m (λ path at_path. ap (λ (f : Names). f path) s.names ∙ s.none m path above less at_path) other there;
          headed = s.headed;
          places = λ m other less there. forks.places m other there;
          file = record { file = at_rest last.file.content; is = last.stands; has = leftover queue directories (target ∷ []) q last.file (subst (IsLeftover (log_format queue directories) q) file s.file.has) };
          older = λ m j other below there is.
              (let c = forks.copied m other j there is in
              let before = s.older m c.from c.source below c.at (was c.source c.from c.named) in
              let same : before.file ≡ c.file = same_file old c.from before.file c.file before.is c.is in
              record { file = at_rest c.file.content; is = c.stands; has = past queue directories (target ∷ []) m (q.older m) c.file (subst (IsPast (log_format queue directories) m (q.older m)) same before.has) });
          single = λ m i j a b below at_a at_b is_a is_b.
              (let x = forks.copied m a i at_a is_a in
              let y = forks.copied m b j at_b is_b in
              same_some i j (sym is_a ∙ ap (λ (p : List ℕ). new.names p) (x.here ∙ sym y.here) ∙ is_b));
          others = record { directories = refl; names = λ p other. refl; files = λ p j other is. refl };
        };
      }

  span_copied : (begin end : ℕ) → AreThere (log_format queue directories) begin end old → AreThere (log_format queue (target ∷ [])) begin end new
  span_copied begin end there m from below =
      let has = forks.has m (there m from below) in
      record { path = path_in target queue m; at = path_is target queue m has.small; id = has.id; named = has.named }

  unbegun_copied : (q : Spanned LogRecord) → IsUnbegun (log_layout queue directories) q old → IsUnbegun (log_layout queue (target ∷ [])) q new
  unbegun_copied q is = record {
    fresh = record {
      none = λ m less. absent_copied queue directories target old new forks m (is.fresh.none m less);
      places = λ m path less at. forks.places m path at;
      others = record { directories = refl; names = λ p other. refl; files = λ p j other named. refl };
    };
    is = is.is;
  }

  pub rests_copied : (q : Spanned LogRecord) → RestsQueue (log_layout queue directories) q old → RestsQueue (log_layout queue (target ∷ [])) q new
  rests_copied q (inl (left, span)) = inl (stopped_copied q.files left, span_copied q.first q.files.last span)
  rests_copied q (inr unbegun) = inr (unbegun_copied q unbegun)

  pub numbered_copied : {E V : Type 0} (says : LogRecord → Record E V) (q : LogFiles LogRecord) (low begin : ℕ) (numbered : FileQueue E V) → IsFileQueue says (log_format queue directories) q low begin old numbered
      → IsFileQueue says (log_format queue (target ∷ [])) q low begin new numbered
  numbered_copied says q low begin numbered is = record {
    back = is.back;
    forth = is.forth;
    below = is.below;
    above = is.above;
    gone = is.gone;
    full = is.full;
    last = is.last;
    synced = is.synced;
    pending = is.pending;
    behind = is.behind;
    gap = λ m next. absent_copied queue directories target old new forks m (is.gap m next);
  }

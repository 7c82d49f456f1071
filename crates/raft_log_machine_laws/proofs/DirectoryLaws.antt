-- Over every schedule, the numbered files survive.
use Rattle.std.proofs.Common.{ℕ, ◌≡◌, ◌+◌, List, [], ◌∷◌, ◌++◌, refl, sym, ap, ap₂, ◌∙◌, subst, append_assoc, append-nil, arith}
use Rattle.raft_log_model_laws.specs.Item.{Record}
use Rattle.raft_log_machine_laws.specs.Queue.{Queue, Store, synced, raised, left, reread}
use Rattle.raft_log_machine_laws.specs.Survival.{Survives}
use Rattle.raft_log_machine_laws.specs.Machine.{IsKept}
use Rattle.raft_log_machine_laws.specs.Files.{LogFile, FileQueue, records_of, span, IsNumbered, queue_of, store_of, SurvivesInFiles, NumberedFrom}
use Rattle.raft_log_machine_laws.specs.Directory.{Directory, DirectoryEvent, DirectoryStep, DirectorySteps, fresh_directory, IsRising, ReplaysInFiles, CanBeOpened, OpensInFiles}
use Rattle.raft_log_machine_laws.proofs.FileLaws.{records_of-append, survives_in_files, file_step_numbers, IsEnd, read_split, read_records}
use Rattle.raft_log_machine_laws.proofs.SurvivalSteps.{survives}
use Rattle.raft_log_model_laws.specs.Groups.{appended, rewritten}
use Rattle.raft_log_model_laws.specs.Holes.{nothing, NoHole}
use Rattle.raft_log_machine_laws.specs.Unbroken.{IsUnbroken}
use Rattle.raft_log_machine_laws.specs.Replay.{ReadsThrough, IsReplayable}
use Rattle.raft_log_machine_laws.specs.Images.{HasRuns}
use Rattle.raft_log_machine_laws.proofs.MachineKeeps.{step_keeps}
use Rattle.raft_log_machine_laws.proofs.ReplayLaws.{replays, step_replays, fresh_replays}
use Rattle.raft_log_machine_laws.proofs.FreshKeeps.{fresh_keeps}
use Rattle.raft_log_machine_laws.proofs.RunLaws.{step_runs, fresh_runs}
use Rattle.raft_log_machine_laws.proofs.ImageLaws.{opens}

module _ {E V : Type 0} where
  -- the invariant of the machine on files
  pub record IsKeptDirectory (d : Directory E V) : Type 0 where
    pub machine : IsKept d.machine
    pub store : store_of d.rewrite d.append ≡ d.machine.store
    pub rewrite : IsNumbered d.rewrite_from d.rewrite
    pub append : IsNumbered d.append_from d.append
    pub replay : IsReplayable d.machine
    pub runs : HasRuns d.machine

  directory_step : (e : DirectoryEvent E V) (d n : Directory E V) → DirectoryStep e d n → IsKeptDirectory d → IsKeptDirectory n
  directory_step e d n h k = record {
    machine = step_keeps e.event d.machine n.machine h.step k.machine;
    store = h.store;
    rewrite = subst (λ j. IsNumbered j n.rewrite) (sym h.rewrite_from) (file_step_numbers e.rewrite d.rewrite_from d.rewrite n.rewrite h.rewrite k.rewrite);
    append = subst (λ j. IsNumbered j n.append) (sym h.append_from) (file_step_numbers e.append d.append_from d.append n.append h.append k.append);
    replay = step_replays e.event d.machine n.machine h.step k.machine k.replay;
    runs = step_runs e.event d.machine n.machine h.step k.machine k.runs;
  }

  directory_steps : (es : List (DirectoryEvent E V)) (d n : Directory E V) → DirectorySteps d es n → IsKeptDirectory d → IsKeptDirectory n
  directory_steps [] d n h k = subst (λ x. IsKeptDirectory x) (sym h) k
  directory_steps (e ∷ es) d n h k = directory_steps es h.0 n h.2 (directory_step e d h.0 h.1 k)

  fresh_directory_is_kept : IsKeptDirectory fresh_directory
  fresh_directory_is_kept = record { machine = fresh_keeps; store = refl; rewrite = ((refl, tt), tt); append = ((refl, tt), tt); replay = fresh_replays; runs = fresh_runs }

  pub schedule_survives_in_files : (es : List (DirectoryEvent E V)) (d : Directory E V) → DirectorySteps fresh_directory es d
      → SurvivesInFiles d.rewrite_from d.rewrite d.append_from d.append d.machine.map d.append.pending
  schedule_survives_in_files es d h =
      let k = directory_steps es fresh_directory d h fresh_directory_is_kept in
      survives_in_files d.rewrite_from d.rewrite d.append_from d.append d.machine.map d.append.pending k.rewrite k.append
      (subst (λ q. Survives q d.machine.map q.append.pending) (sym k.store) (survives d.machine.store d.machine.map k.machine.holds))

  -- what changes of files are on the records
  pub rotated_queue : (q : FileQueue E V)
      → queue_of (record q { full = q.full ++ record { number = q.last; records = q.synced ++ q.pending } ∷ []; last = q.last + 1; synced = []; pending = [] }) ≡ synced (queue_of q)
  rotated_queue q = ap (λ l. queue l) (append-nil _ ∙ records_of-append q.full (record { number = q.last; records = q.synced ++ q.pending } ∷ [])
      ∙ ap (λ l. records_of q.full ++ l) (append-nil (q.synced ++ q.pending)) ∙ sym (append_assoc (records_of q.full) q.synced q.pending))
    where
      queue : List (Record E V) → Queue E V
      queue l = record { gone = records_of q.gone; live = l; pending = [] }

  pub synced_queue : (q : FileQueue E V) → queue_of (record q { synced = q.synced ++ q.pending; pending = [] }) ≡ synced (queue_of q)
  synced_queue q = ap (λ l. queue l) (sym (append_assoc (records_of q.full) q.synced q.pending))
    where
      queue : List (Record E V) → Queue E V
      queue l = record { gone = records_of q.gone; live = l; pending = [] }

  pub raised_queue : (q : FileQueue E V) (out stay : List (LogFile E V)) → out ++ stay ≡ q.full
      → (queue_of (record q { gone = q.gone ++ out; full = stay }) ≡ raised (queue_of q) (records_of out) (records_of stay ++ q.synced))
      × (records_of out ++ (records_of stay ++ q.synced) ≡ (queue_of q).live)
  raised_queue q out stay e = (
    ap (λ l. queue l) (records_of-append q.gone out),
    sym (append_assoc (records_of out) (records_of stay) q.synced) ∙ ap (λ l. l ++ q.synced) (sym (records_of-append out stay) ∙ ap records_of e),
  )
    where
      queue : List (Record E V) → Queue E V
      queue l = record { gone = l; live = records_of stay ++ q.synced; pending = q.pending }

  pub lost_queue : (q : FileQueue E V) (before : List (LogFile E V)) (file : LogFile E V) (rest : List (LogFile E V)) → before ++ file ∷ rest ≡ q.gone
      → (queue_of (record q { behind = q.behind ++ before; gone = rest }) ≡ left (queue_of q) (records_of rest))
      × ((records_of before ++ file.records) ++ records_of rest ≡ (queue_of q).gone)
  lost_queue q before file rest e =
      (refl, append_assoc (records_of before) file.records (records_of rest) ∙ sym (records_of-append before (file ∷ rest)) ∙ ap records_of e)

  pub read_queue : (q : FileQueue E V) (below again : List (LogFile E V)) (kept : List (Record E V)) → below ++ again ≡ q.gone
      → (queue_of (record q { gone = below; full = again ++ q.full; synced = q.synced ++ kept; pending = [] })
      ≡ reread (queue_of q) (records_of below) (records_of again) kept)
      × (records_of below ++ records_of again ≡ (queue_of q).gone)
  read_queue q below again kept e = (
    ap (λ l. queue l) (ap (λ l. l ++ (q.synced ++ kept)) (records_of-append again q.full) ∙ append_assoc (records_of again) (records_of q.full) (q.synced ++ kept)
        ∙ ap (λ l. records_of again ++ l) (sym (append_assoc (records_of q.full) q.synced kept))),
    sym (records_of-append below again) ∙ ap records_of e,
  )
    where
      queue : List (Record E V) → Queue E V
      queue l = record { gone = records_of below; live = l; pending = [] }

rising : {E V : Type 0} (s : ℕ) (files : List (LogFile E V)) → NumberedFrom s files → IsRising files
rising s [] h = tt
rising s (f ∷ []) h = tt
rising s (f ∷ g ∷ fs) h = (let here : f.number ≡ s = h.0 in let next : g.number ≡ s + 1 = h.1.0 in omega arith, rising (s + 1) (g ∷ fs) h.1)

module _ {E V : Type 0} where
  pub replays_in_files : (n : ℕ) (r : FileQueue E V) (k : ℕ) (a : FileQueue E V) → IsNumbered n r → IsNumbered k a → ReadsThrough (store_of r a) → ReplaysInFiles n r k a
  replays_in_files n r k a r_numbers a_numbers h = record {
    append = λ kept lost image s files read.
        let of = read_records a kept files (read_split k a kept s files a_numbers read) in
        (rising s files read.numbered, λ g. subst (λ l. NoHole nothing (appended g l)) (sym of.3) (h.append g kept lost of.0 of.1 image of.2));
    rewrite = λ kept lost image s files read.
        let of = read_records r kept files (read_split n r kept s files r_numbers read) in (
          rising s files read.numbered,
          subst (λ l. IsUnbroken l) (sym of.3) (h.groups kept lost of.0 of.1 image of.2),
          λ g. subst (λ l. NoHole nothing (rewritten g l)) (sym of.3) (h.rewrite g kept lost of.0 of.1 image of.2),
        );
  }

  pub schedule_replays_in_files : (es : List (DirectoryEvent E V)) (d : Directory E V) → DirectorySteps fresh_directory es d → ReplaysInFiles d.rewrite_from d.rewrite d.append_from d.append
  schedule_replays_in_files es d h =
      let k = directory_steps es fresh_directory d h fresh_directory_is_kept in
      replays_in_files d.rewrite_from d.rewrite d.append_from d.append k.rewrite k.append
      (subst (λ q. ReadsThrough q) (sym k.store) (replays d.machine k.machine k.replay))

module _ {E V : Type 0} where
  -- the files that were read are the span
  read_span : (q : FileQueue E V) (again : List (LogFile E V)) (kept : List (Record E V))
      → span (record q { full = again ++ q.full; synced = q.synced ++ kept; pending = [] }) [] ≡ again ++ span q kept
  read_span q again kept =
      ap (λ l. (again ++ q.full) ++ record { number = q.last; records = l } ∷ []) (append-nil (q.synced ++ kept))
      ∙ append_assoc again q.full (record { number = q.last; records = q.synced ++ kept } ∷ [])

  opens_of : (d : Directory E V) → IsKeptDirectory d → (r_kept r_lost a_kept a_lost : List (Record E V)) → r_kept ++ r_lost ≡ d.rewrite.pending → a_kept ++ a_lost ≡ d.append.pending
      → (r_files a_files : List (LogFile E V)) → IsEnd d.rewrite r_kept r_files → IsEnd d.append a_kept a_files → CanBeOpened d r_kept r_lost a_kept a_lost r_files a_files
  opens_of d k r_kept r_lost a_kept a_lost r_image a_image r_files a_files r a =
      let r_read = read_queue d.rewrite r.0 r.1 r_kept r.2 in
      let a_read = read_queue d.append a.0 a.1 a_kept a.2 in
      let next = opens d.machine k.machine k.replay k.runs r_kept r_lost (records_of r.0) (records_of r.1) a_kept a_lost (records_of a.0) (records_of a.1)
      (r_image ∙ ap (λ q. q.rewrite.pending) k.store) (r_read.1 ∙ ap (λ q. q.rewrite.gone) k.store)
      (a_image ∙ ap (λ q. q.append.pending) k.store) (a_read.1 ∙ ap (λ q. q.append.gone) k.store) in
      record {
        r_below = r.0;
        r_again = r.1;
        a_below = a.0;
        a_again = a.1;
        opened = record {
          machine = next.0;
          rewrite = record d.rewrite { gone = r.0; full = r.1 ++ d.rewrite.full; synced = d.rewrite.synced ++ r_kept; pending = [] };
          rewrite_from = d.rewrite_from;
          append = record d.append { gone = a.0; full = a.1 ++ d.append.full; synced = d.append.synced ++ a_kept; pending = [] };
          append_from = d.append_from;
        };
        step = record {
          step = next.1;
          rewrite = (r.2, refl);
          append = (a.2, refl);
          store = ap₂ store r_read.0 a_read.0 ∙ ap (λ q. store (reread q.rewrite (records_of r.0) (records_of r.1) r_kept) (reread q.append (records_of a.0) (records_of a.1) a_kept)) k.store
              ∙ sym (ap (λ x. x.store) next.1.4.2);
          rewrite_from = refl;
          append_from = refl;
        };
        rewrite = read_span d.rewrite r.1 r_kept ∙ sym r.3;
        append = read_span d.append a.1 a_kept ∙ sym a.3;
      }
    where
      store : Queue E V → Queue E V → Store E V
      store x y = record { rewrite = x; append = y }

  pub schedule_opens_in_files : (es : List (DirectoryEvent E V)) (d : Directory E V) → DirectorySteps fresh_directory es d → OpensInFiles d
  schedule_opens_in_files es d h r_kept r_lost a_kept a_lost r_image a_image s t r_files a_files r_read a_read =
      let k = directory_steps es fresh_directory d h fresh_directory_is_kept in
      opens_of d k r_kept r_lost a_kept a_lost r_image a_image r_files a_files
      (read_split d.rewrite_from d.rewrite r_kept s r_files k.rewrite r_read) (read_split d.append_from d.append a_kept t a_files k.append a_read)

-- A number without a file gets none by a call that keeps the earlier files, whatever these were: they could
-- have been said to begin with any bytes, and not all bytes are a header.
use Rattle.std.proofs.Common.{◌≡◌, ℕ, ◌<◌, Option, Some, None, List, [], ◌∷◌, length, cond, refl, sym, ◌∙◌, ap, subst, inl, inr, arith, nat_eq}
use Rattle.std.proofs.lemmas.Bool.{cases_Bool}
use Rattle.std.proofs.lemmas.Bool.Decides.{Decides-eqb}
use Rattle.raft_log_fs.specs.Disk.{File, Disk}
use Rattle.raft_log_file_writer.specs.LogFormat.{Format, IsFormat}
use Rattle.raft_log_file_writer.specs.LogQueue.{Past, LogFiles, IsAbsent, IsPast}
use Rattle.raft_log_fs.specs.Touching.{HasFile}
use Rattle.raft_log_active_file.specs.Standing.{Names, Stands}
use Rattle.raft_log_active_file.specs.Bridge.{GapsStay}
use Rattle.raft_log_active_file.specs.LastFile.{IsActiveTo}
use Rattle.raft_log_active_file.specs.Layout.{path_of}
use Rattle.raft_log_active_file.specs.Rotation.{StandsWithRecords}
use Rattle.raft_log_active_file.proofs.Public.{open_left}
use Rattle.raft_log_file_pipe.specs.Files.{IsPipe}
use Rattle.raft_log_file_pipe.specs.declared.pipe_files.PipeFiles.{PipeFiles}
use Rattle.raft_log_dual_pipes.specs.Queues.{QueueLayout, IsQueueLayout}

-- the queue, as if it had that one under a number
abbrev pub with_past : {R : Type 0} → ℕ → List ℕ → LogFiles R → LogFiles R
with_past m bytes q = record q { older = λ n. cond (nat_eq n m) (record { header = bytes; records = [] }) (q.older n) }

pub past_there : {R : Type 0} (m : ℕ) (bytes : List ℕ) (q : LogFiles R) → (with_past m bytes q).older m ≡ record { header = bytes; records = [] }
past_there m bytes q = ap (λ b. cond b (record { header = bytes; records = [] }) (q.older m)) ((Decides-eqb m m).1 refl)

-- not all bytes are a header
not_all : {R : Type 0} (F : Format R) → IsFormat F → ((bytes : List ℕ) → F.IsHeader bytes) → ⊥
not_all F lawful all = (let same = lawful.headers [] (0 ∷ []) (0 ∷ []) [] (all []) (all (0 ∷ [])) refl in omega (arith, ap (λ (xs : List ℕ). length xs) same))

absent : {R : Type 0} (F : Format R) (m : ℕ) (d : Disk) → ((path : List ℕ) (j : ℕ) → F.IsPath m path → d.names path ≡ Some j → ⊥) → IsAbsent F m d
absent F m d none path at = told (d.names path) refl
  where
    told : (o : Option ℕ) → d.names path ≡ o → d.names path ≡ None
    told None is = is
    told (Some j) is = absurd (none path j at is)

module _ {R : Type 0} (layout : QueueLayout R) (told : IsQueueLayout layout) where
  stands_with_past : (base : Disk) (q : LogFiles R) (path : List ℕ) (id : ℕ) (P Q : File → Type 0) (N : Names) (d : Disk) (m : ℕ) (bytes : List ℕ) → IsAbsent layout.format m d → ((file : File) → P file → Q file)
      → Stands layout.format layout.own base q path id P N d → Stands layout.format layout.own base (with_past m bytes q) path id Q N d
  stands_with_past base q path id P Q N d m bytes none weaker s = record {
    names = s.names;
    bound = s.bound;
    at = s.at;
    named = s.named;
    alone = s.alone;
    none = s.none;
    headed = s.headed;
    places = s.places;
    file = record { file = s.file.file; is = s.file.is; has = weaker s.file.file s.file.has };
    older = λ k j other below at named. elim (cases_Bool (nat_eq k m)) [
      | inl hit ↦
          (let same : k ≡ m = (Decides-eqb k m).0 hit in
          let gone : d.names other ≡ None = none other (subst (λ (n : ℕ). layout.format.IsPath n other) same at) in
          let there : d.names other ≡ Some j = ap (λ (f : Names). f other) s.names ∙ named in
          cc (gone, there))
      | inr miss ↦
          subst (λ b. HasFile j (IsPast layout.format k (cond b (record { header = bytes; records = [] }) (q.older k))) d) (sym miss) (s.older k j other below at named)
    ];
    single = s.single;
    others = s.others;
  }

  pub pipe_with_past : (base : Disk) (files : PipeFiles) (q : LogFiles R) (d : Disk) (m : ℕ) (bytes : List ℕ) → IsAbsent layout.format m d
      → IsPipe layout.format layout.own layout.paths base files q d → IsPipe layout.format layout.own layout.paths base files (with_past m bytes q) d
  pipe_with_past base files q d m bytes none is = record {
    active = record {
      permitted = is.active.permitted;
      written = is.active.written;
      stands = stands_with_past base q (path_of layout.paths files.active) files.writer.handle.file (IsActiveTo layout.format files.writer.capacity q) (IsActiveTo layout.format files.writer.capacity (with_past m bytes q)) d.names d m bytes none
          (λ file was. record { active = record { chain = was.active.chain; headed = was.active.headed; all = was.active.all }; ends = was.ends }) is.active.stands;
    };
    number = is.number;
    listed = is.listed;
    header = is.header;
    handle = is.handle;
    span = is.span;
    kept = is.kept;
  }

  pub pipe_left : (base : Disk) (files : PipeFiles) (q : LogFiles R) (d : Disk) → IsPipe layout.format layout.own layout.paths base files q d → StandsWithRecords layout.format layout.own base q d
  pipe_left base files q d is = open_left layout.format layout.own told.lawful.format told.lawful.owns base files.writer q (path_of layout.paths files.active) d.names d is.active

  -- whatever begins the file of a number that is there is a header
  headed : (base : Disk) (p : LogFiles R) (d : Disk) (m : ℕ) (bytes path : List ℕ) (j : ℕ) → p.older m ≡ record { header = bytes; records = [] } → m < p.last → StandsWithRecords layout.format layout.own base p d → layout.format.IsPath m path → d.names path ≡ Some j
      → layout.format.IsHeader bytes
  headed base p d m bytes path j past less left at named =
      let there = left.stands.older m j path less at (ap (λ (f : Names). f path) (sym left.stands.names) ∙ named) in
      subst (λ (x : Past R). layout.format.IsHeader x.header) past there.has.header

  pub gaps_stay : (base : Disk) (files : PipeFiles) (q : LogFiles R) (old new : Disk) → IsPipe layout.format layout.own layout.paths base files q old
      → ((m : ℕ) (bytes : List ℕ) → m < q.last → IsPipe layout.format layout.own layout.paths base files (with_past m bytes q) old
      → (p : LogFiles R) × (p.older m ≡ record { header = bytes; records = [] }) × (m < p.last) × StandsWithRecords layout.format layout.own base p new)
      → GapsStay layout.format q old new
  gaps_stay base files q old new is call m less none = absent layout.format m new (λ path j at named. not_all layout.format told.lawful.format (λ bytes.
      (let (p, past, below, left) = call m bytes less (pipe_with_past base files q old m bytes none is) in headed base p new m bytes path j past below left at named)))

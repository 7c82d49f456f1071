-- The files of a queue through each call on the disk.
use Rattle.std.specs.Prelude.{Result}
use Rattle.std.specs.Result.{IfOk, IfErr, OnOk}
use Rattle.std.specs.Map.{update}
use Rattle.std.specs.Str.{bytes_eq}
use Rattle.std.specs.declared.io.ErrorKind.{ErrorKind}
use Rattle.std.proofs.Common.{◌≡◌, ◌⊎◌, ℕ, ◌<◌, ◌≤◌, suc, Option, Some, None, List, [], cond, refl, sym, ◌∙◌, ap, subst, inl, inr, arith, nat_eq}
use Rattle.std.proofs.lemmas.Bool.{cases_eq, cases_Bool}
use Rattle.std.proofs.lemmas.Bool.Decides.{Decides-eqb}
use Rattle.raft_log_fs.specs.Disk.{Change, File, Disk, HasDirectory, at_rest, with_file}
use Rattle.raft_log_fs.specs.Image.{IsSound}
use Rattle.raft_log_fs.specs.Calls.{with_change, after_change, flushed, created, deleted, renamed, counted, at_stop, InPart, Changes, RefusedChange, RefusedWhole}
use Rattle.raft_log_file_writer.specs.LogFormat.{Format, IsFormat}
use Rattle.raft_log_file_writer.specs.LogQueue.{Past, LogFiles, IsPast, rotated, recent}
use Rattle.raft_log_fs.specs.Touching.{HasFile, TouchesOnly, TouchesOnlyNames}
use Rattle.raft_log_fs.proofs.Public.{creation_leaves, deletion_leaves, file_apart, file_here, has_calm, has_changed, has_done, has_synced, has_weaker, name_apart, name_case, name_here, named_is_used, names_same, names_then, renaming_leaves, same_file, touches_change, touches_sync, IsCalm}
use Rattle.raft_log_active_file.specs.Queue.{finished}
use Rattle.raft_log_active_file.specs.States.{IsNew}
use Rattle.raft_log_active_file.specs.Standing.{Names, HaveOneFile, HaveOneName, IsPlace, OwnsPaths, Stands}
use Rattle.raft_log_active_file.proofs.FileSteps.{new_over}

pub place_moved : (path : List ℕ) (a b : Disk) → b.directories ≡ a.directories → IsPlace path a → IsPlace path b
place_moved path a b same place = record {
  apart = ap (λ (f : List ℕ → _). f path) same ∙ place.apart;
  home = record { directory = place.home.directory; inside = place.home.inside; there = ap (λ (f : List ℕ → _). f place.home.directory) same ∙ place.home.there };
}

-- on a sound disk no file has two paths
pub have_one_name : (d : Disk) (N : Names) → IsSound d → d.names ≡ N → HaveOneName N
have_one_name d N sound names a b id at there = sound.one_name a b id (ap (λ (f : Names). f a) names ∙ at) (ap (λ (f : Names). f b) names ∙ there)

-- a call on a file that has one of the queue's paths
touches_own : (own : List ℕ → Type 0) (old new : Disk) (path : List ℕ) (id : ℕ) → HaveOneName old.names → own path → old.names path ≡ Some id → TouchesOnly id old new → TouchesOnlyNames own old new
touches_own own old new path id one mine at only = record {
  directories = only.directories;
  names = λ q other. ap (λ (f : Names). f q) only.names;
  files = λ q j other there. only.others j (λ same. other (subst own (one path q j (at ∙ ap Some (sym same)) there) mine));
}

module _ {R : Type 0} (F : Format R) (own : List ℕ → Type 0) (base : Disk) where
  pub stands_weaker : (q : LogFiles R) (path : List ℕ) (id : ℕ) (P Q : File → Type 0) (N : Names) (d : Disk) → ((file : File) → P file → Q file) → Stands F own base q path id P N d
      → Stands F own base q path id Q N d
  stands_weaker q path id P Q N d weaker s = record {
    names = s.names;
    bound = s.bound;
    at = s.at;
    named = s.named;
    alone = s.alone;
    none = s.none;
    headed = s.headed;
    places = s.places;
    file = has_weaker id P Q d weaker s.file;
    older = s.older;
    single = s.single;
    others = s.others;
  }

  -- a queue with the same earlier files, number and header stands where the other does
  pub same_files : (q p : LogFiles R) (path : List ℕ) (id : ℕ) (P : File → Type 0) (N : Names) (d : Disk) → p.older ≡ q.older → p.last ≡ q.last → p.header ≡ q.header
      → Stands F own base q path id P N d → Stands F own base p path id P N d
  same_files q p path id P N d older last header s = record {
    names = s.names;
    bound = (let bound = s.bound in omega (arith, bound, last));
    at = subst (λ (n : ℕ). F.IsPath n path) (sym last) s.at;
    named = s.named;
    alone = λ other j at is. s.alone other j (subst (λ (n : ℕ). F.IsPath n other) last at) is;
    none = λ m other above less at. s.none m other (omega (arith, above, last)) less at;
    headed = subst F.IsHeader (sym header) s.headed;
    places = s.places;
    file = s.file;
    older = λ m j other below at is. subst (λ (h : ℕ → Past R). HasFile j (IsPast F m (h m)) d) (sym older) (s.older m j other (omega (arith, below, last)) at is);
    single = λ m i j a b below. s.single m i j a b (omega (arith, below, last));
    others = s.others;
  }

  -- a disk with the same files and names is as good
  stands_same : (q : LogFiles R) (path : List ℕ) (id : ℕ) (P : File → Type 0) (N : Names) (d e : Disk) → e.names ≡ d.names → e.directories ≡ d.directories → e.files ≡ d.files
      → Stands F own base q path id P N d → Stands F own base q path id P N e
  stands_same q path id P N d e names directories files s = record {
    names = names ∙ s.names;
    bound = s.bound;
    at = s.at;
    named = s.named;
    alone = s.alone;
    none = s.none;
    headed = s.headed;
    places = λ m other less at. place_moved other d e directories (s.places m other less at);
    file = moved id P s.file;
    older = λ m j other below at named. moved j (IsPast F m (q.older m)) (s.older m j other below at named);
    single = s.single;
    others = record {
      directories = directories ∙ s.others.directories;
      names = λ p apart. ap (λ (f : Names). f p) names ∙ s.others.names p apart;
      files = λ p j apart named. ap (λ (f : ℕ → Option File). f j) files ∙ s.others.files p j apart named;
    };
  }
    where
      moved : (j : ℕ) (Q : File → Type 0) → HasFile j Q d → HasFile j Q e
      moved j Q has = record { file = has.file; is = ap (λ (f : ℕ → Option File). f j) files ∙ has.is; has = has.has }

  pub stands_calm : (q : LogFiles R) (path : List ℕ) (id : ℕ) (P : File → Type 0) (N : Names) → IsCalm (Stands F own base q path id P N)
  stands_calm q path id P N = record {
    at_count = λ {error} d s. stands_same q path id P N d (counted error d) refl refl refl s;
    at_end = λ d s. stands_same q path id P N d (at_stop d) refl refl refl s;
  }

  -- seen from where it stands now
  pub stands_rebased : (q : LogFiles R) (path : List ℕ) (id : ℕ) (P : File → Type 0) (N : Names) (d : Disk) → Stands F own base q path id P N d → Stands F own d q path id P N d
  stands_rebased q path id P N d s = record {
    names = s.names;
    bound = s.bound;
    at = s.at;
    named = s.named;
    alone = s.alone;
    none = s.none;
    headed = s.headed;
    places = s.places;
    file = s.file;
    older = s.older;
    single = s.single;
    others = names_same own d;
  }

  module _ (lawful : IsFormat F) (owns : OwnsPaths F own) where
    -- Calls on the last file.

    -- another number's path isn't the last file's
    other_path : (q : LogFiles R) (path : List ℕ) (m : ℕ) (other : List ℕ) → q.last < F.limit → m < F.limit → (m ≡ q.last → ⊥) → F.IsPath q.last path → F.IsPath m other → other ≡ path → ⊥
    other_path q path m other bound less apart at there same = apart (lawful.paths m q.last path less bound (subst (F.IsPath m) same there) at)

    pub stands_touched : (q : LogFiles R) (path : List ℕ) (id : ℕ) (P Q : File → Type 0) (N : Names) (old new : Disk) → HaveOneName N → TouchesOnly id old new → HasFile id Q new
        → Stands F own base q path id P N old → Stands F own base q path id Q N new
    stands_touched q path id P Q N old new one only file s =
        let here : old.names path ≡ Some id = ap (λ (f : Names). f path) s.names ∙ s.named in
        record {
          names = only.names ∙ s.names;
          bound = s.bound;
          at = s.at;
          named = s.named;
          alone = s.alone;
          none = s.none;
          headed = s.headed;
          places = λ m other less at. place_moved other old new only.directories (s.places m other less at);
          file = file;
          older = λ m j other below at named.
              (let was = s.older m j other below at named in
              let bound = s.bound in
              let apart : j ≡ id → ⊥ = λ same. other_path q path m other bound (omega (arith, below, bound)) (λ e. omega (arith, below, e)) s.at at (one other path id (named ∙ ap Some same) s.named) in
              record { file = was.file; is = only.others j apart ∙ was.is; has = was.has });
          single = s.single;
          others = names_then own base old new s.others (touches_own own old new path id (subst HaveOneName (sym s.names) one) (owns q.last path s.bound s.at) here only);
        }

    -- a write, a shortening or a growth, answered or refused
    pub stands_changed : {T : Type 0} {old new : Disk} (q : LogFiles R) (path : List ℕ) (id : ℕ) (P Q : File → Type 0) (N : Names) (wrong : ErrorKind → Type 0) (result : Result T ErrorKind) (change : Change) → HaveOneName N
        → ((file : File) → P file → Q file) → ((file : File) (content : List ℕ) → P file → InPart change file.content content → Q (with_change change content file))
        → OnOk result (Changes id (after_change change) old new) → IfErr result (λ e. RefusedChange id change wrong e old new) → Stands F own base q path id P N old → Stands F own base q path id Q N new
    stands_changed {old = old} {new = new} q path id P Q N wrong result change one weaker step ok err s =
        stands_touched q path id P Q N old new one (touches_change wrong result id change ok err) (has_changed P Q wrong result id change s.file weaker step ok err) s

    -- a sync, answered or refused
    pub stands_synced : {T : Type 0} {old new : Disk} (q : LogFiles R) (path : List ℕ) (id : ℕ) (P Q : File → Type 0) (N : Names) (wrong : ErrorKind → Type 0) (result : Result T ErrorKind) → HaveOneName N
        → ((file : File) → P file → Q file) → ((file : File) → P file → Q (flushed file))
        → OnOk result (Changes id flushed old new) → IfErr result (λ e. RefusedWhole (Changes id flushed old) wrong e old new) → Stands F own base q path id P N old → Stands F own base q path id Q N new
    stands_synced {old = old} {new = new} q path id P Q N wrong result one weaker step ok err s =
        stands_touched q path id P Q N old new one (touches_sync wrong result id ok err) (has_synced P Q wrong result id s.file weaker step ok err) s

    -- any call on the last file that was answered
    pub stands_done : (q : LogFiles R) (path : List ℕ) (id : ℕ) (P Q : File → Type 0) (N : Names) (next : File → File) (old new : Disk) → HaveOneName N → Changes id next old new
        → ((file : File) → P file → Q (next file)) → Stands F own base q path id P N old → Stands F own base q path id Q N new
    stands_done q path id P Q N next old new one changes step s =
        let only : TouchesOnly id old new = subst (TouchesOnly id old) (sym changes.done)
        (record { names = refl; directories = refl; others = λ other apart. file_apart old.files id (Some (next changes.file)) other apart }) in
        stands_touched q path id P Q N old new one only (has_done id P Q next old new s.file changes step) s

    -- Calls on names.

    -- a file below the last one is that file as it was finished, also once the last one is finished
    older_rotated : (q : LogFiles R) (header stale : List ℕ) (path : List ℕ) (id : ℕ) (N : Names) (old : Disk) → Stands F own base q path id (IsPast F q.last (finished q)) N old
        → (m j : ℕ) (other : List ℕ) → m < suc q.last → F.IsPath m other → N other ≡ Some j → HasFile j (IsPast F m ((rotated header stale q).older m)) old
    older_rotated q header stale path id N old s m j other below at named = elim (cases_eq m q.last) [
      | inl same ↦
          (let mine : j ≡ id = s.alone other j (subst (λ (n : ℕ). F.IsPath n other) same at) named in
          let is : (rotated header stale q).older m ≡ finished q = subst (λ (n : ℕ). (rotated header stale q).older n ≡ finished q) (sym same) (last_older q header stale) in
          subst (λ (k : ℕ). HasFile k (IsPast F m ((rotated header stale q).older m)) old) (sym mine)
          (has_weaker id (IsPast F q.last (finished q)) (IsPast F m ((rotated header stale q).older m)) old (λ file past.
          subst (λ (p : Past R). IsPast F m p file) (sym is) (subst (λ (n : ℕ). IsPast F n (finished q) file) (sym same) past)) s.file))
      | inr apart ↦
          (let is : (rotated header stale q).older m ≡ q.older m = other_older q header stale m apart in
          has_weaker j (IsPast F m (q.older m)) (IsPast F m ((rotated header stale q).older m)) old (λ file past. subst (λ (p : Past R). IsPast F m p file) (sym is) past)
          (s.older m j other (omega (arith, below, apart)) at named))
    ]
      where
        last_older : (q : LogFiles R) (header stale : List ℕ) → (rotated header stale q).older q.last ≡ finished q
        last_older q header stale = ap (λ b. cond b (finished q) (q.older q.last)) ((Decides-eqb q.last q.last).1 refl)

        other_older : (q : LogFiles R) (header stale : List ℕ) (m : ℕ) → (m ≡ q.last → ⊥) → (rotated header stale q).older m ≡ q.older m
        other_older q header stale m apart = elim (cases_Bool (nat_eq m q.last)) [
          | inl hit ↦ absurd (apart ((Decides-eqb m q.last).0 hit))
          | inr miss ↦ ap (λ b. cond b (finished q) (q.older m)) miss
        ]

    -- no number up to the last one is that of two files
    one_file : (q : LogFiles R) (path : List ℕ) (id : ℕ) (P : File → Type 0) (N : Names) (old : Disk) → Stands F own base q path id P N old → HaveOneFile F (suc q.last) N
    one_file q path id P N old s m i j a b below at_a at_b is_a is_b = elim (cases_eq m q.last) [
      | inl same ↦ s.alone a i (subst (λ (n : ℕ). F.IsPath n a) same at_a) is_a ∙ sym (s.alone b j (subst (λ (n : ℕ). F.IsPath n b) same at_b) is_b)
      | inr apart ↦ s.single m i j a b (omega (arith, below, apart)) at_a at_b is_a is_b
    ]

    -- a new file is made for the next number
    pub stands_created : (q : LogFiles R) (header path to : List ℕ) (id : ℕ) (N : Names) (old : Disk) → IsSound old → suc q.last < F.limit → F.IsHeader header → F.IsPath (suc q.last) to
        → Stands F own base q path id (IsPast F q.last (finished q)) N old
        → Stands F own base (rotated header [] q) to old.unused (IsNew F (rotated header [] q)) (update bytes_eq N to (Some old.unused)) (created to old)
    stands_created q header path to id N old sound bound head at s =
        let leaves = creation_leaves old to sound in
        let next = rotated header [] q in
        let other_number : (m : ℕ) (other : List ℕ) → m < F.limit → (m ≡ suc q.last → ⊥) → F.IsPath m other → other ≡ to → ⊥ = λ m other less apart there.
        other_path next to m other bound less apart at there in
        let before : (other : List ℕ) (o : Option ℕ) → (other ≡ to → ⊥) → update bytes_eq N to (Some old.unused) other ≡ o → N other ≡ o = λ other o apart here. sym (name_apart N to (Some old.unused) other apart) ∙ here in
        record {
          names = ap (λ (f : Names). update bytes_eq f to (Some old.unused)) s.names;
          bound = bound;
          at = at;
          named = name_here N to (Some old.unused);
          alone = λ other j there here. elim (name_case N to (Some old.unused) other (Some j) here) [
            | inl (same, is) ↦ cc is
            | inr (apart, is) ↦ (let gone = s.none (suc q.last) other (omega arith) bound there in cc (gone, is))
          ];
          none = λ m other above less there. name_apart N to (Some old.unused) other (other_number m other less (λ e. omega (arith, above, e)) there) ∙ s.none m other (omega (arith, above)) less there;
          headed = head;
          places = λ m other less there. place_moved other old (created to old) refl (s.places m other less there);
          file = record { file = at_rest []; is = leaves.empty; has = new_over F header [] next };
          older = λ m j other below there here.
              (let apart = other_number m other (omega (arith, below, bound)) (λ e. omega (arith, below, e)) there in
              let was = older_rotated q header [] path id N old s m j other below there (before other (Some j) apart here) in
              record { file = was.file; is = leaves.files j was.file was.is; has = was.has });
          single = λ m i j a b below at_a at_b is_a is_b.
              (let was : (other : List ℕ) (k : ℕ) → F.IsPath m other → update bytes_eq N to (Some old.unused) other ≡ Some k → N other ≡ Some k = λ other k there.
              before other (Some k) (other_number m other (omega (arith, below, bound)) (λ e. omega (arith, below, e)) there) in
              one_file q path id (IsPast F q.last (finished q)) N old s m i j a b below at_a at_b (was a i at_a is_a) (was b j at_b is_b));
          others = names_then own base old (created to old) s.others (record {
            directories = refl;
            names = λ p theirs. leaves.names p (λ same. theirs (subst own (sym same) (owns (suc q.last) to bound at)));
            files = λ p j theirs there. (let below = named_is_used old p j sound there in file_apart old.files old.unused (Some (at_rest [])) j (λ same. omega (arith, below, same)));
          });
        }

    -- A file that the queue keeps for later gets the next number: an earlier one of its own, or one that was
    -- filled ahead of its use. It isn't the last one's path, nor of a higher number.
    pub stands_renamed : (q : LogFiles R) (header stale path from to : List ℕ) (id next : ℕ) (N : Names) (old : Disk) → IsSound old → suc q.last < F.limit → F.IsHeader header → F.IsPath (suc q.last) to
        → own from → ((m : ℕ) → q.last ≤ m → m < F.limit → F.IsPath m from → ⊥) → N from ≡ Some next → HasFile next (IsNew F (rotated header stale q)) old
        → Stands F own base q path id (IsPast F q.last (finished q)) N old
        → Stands F own base (rotated header stale q) to next (IsNew F (rotated header stale q)) (update bytes_eq (update bytes_eq N from None) to (Some next)) (renamed from to next old)
    stands_renamed q header stale path from to id next N old sound bound head at mine kept named_from taken s =
        let leaves = renaming_leaves old from to next in
        let after = rotated header stale q in
        let left : Names = update bytes_eq N from None in
        let free : old.names to ≡ None = ap (λ (f : Names). f to) s.names ∙ s.none (suc q.last) to (omega arith) bound at in
        let there : old.names from ≡ Some next = ap (λ (f : Names). f from) s.names ∙ named_from in
        let unlost : (j : ℕ) → old.names to ≡ Some j → ⊥ = λ j here. cc (free, here) in
        let other_number : (m : ℕ) (other : List ℕ) → m < F.limit → (m ≡ suc q.last → ⊥) → F.IsPath m other → other ≡ to → ⊥ = λ m other less apart is same.
        other_path after to m other bound less apart at is same in
        let above : (m : ℕ) (other : List ℕ) → q.last ≤ m → m < F.limit → F.IsPath m other → other ≡ from → ⊥ = λ m other over less is same. kept m over less (subst (F.IsPath m) same is) in
        let before : (m : ℕ) (other : List ℕ) (j : ℕ) → m < suc q.last → F.IsPath m other → update bytes_eq left to (Some next) other ≡ Some j → N other ≡ Some j = λ m other j below is now.
        (let apart = other_number m other (omega (arith, below, bound)) (λ e. omega (arith, below, e)) is in
        let then_left : left other ≡ Some j = sym (name_apart left to (Some next) other apart) ∙ now in
        elim (name_case N from None other (Some j) then_left) [ inl (same, gone) ↦ cc gone | inr (also, was) ↦ was ]) in
        record {
          names = ap (λ (f : Names). update bytes_eq (update bytes_eq f from None) to (Some next)) s.names;
          bound = bound;
          at = at;
          named = name_here left to (Some next);
          alone = λ other j is here. elim (name_case left to (Some next) other (Some j) here) [
            | inl (same, has) ↦ cc has
            | inr (apart, has) ↦ elim (name_case N from None other (Some j) has) [
              | inl (same, gone) ↦ cc gone
              | inr (also, was) ↦ (let gone = s.none (suc q.last) other (omega arith) bound is in cc (gone, was))
            ]
          ];
          none = λ m other over less is.
              name_apart left to (Some next) other (other_number m other less (λ e. omega (arith, over, e)) is) ∙ name_apart N from None other (above m other (omega (arith, over)) less is)
              ∙ s.none m other (omega (arith, over)) less is;
          headed = head;
          places = λ m other less is. place_moved other old (renamed from to next old) refl (s.places m other less is);
          file = record { file = taken.file; is = leaves.itself ∙ taken.is; has = taken.has };
          older = λ m j other below is here.
              (let was = older_rotated q header stale path id N old s m j other below is (before m other j below is here) in
              record { file = was.file; is = leaves.files j (unlost j) ∙ was.is; has = was.has });
          single = λ m i j a b below at_a at_b is_a is_b.
              one_file q path id (IsPast F q.last (finished q)) N old s m i j a b below at_a at_b (before m a i below at_a is_a) (before m b j below at_b is_b);
          others = names_then own base old (renamed from to next old) s.others (record {
            directories = refl;
            names = λ p theirs. leaves.names p (λ same. theirs (subst own (sym same) mine)) (λ same. theirs (subst own (sym same) (owns (suc q.last) to bound at)));
            files = λ p j theirs is. leaves.files j (unlost j);
          });
        }

    -- an earlier file goes, or one that the queue kept for later
    pub stands_deleted : (q : LogFiles R) (path gone : List ℕ) (id lost : ℕ) (P : File → Type 0) (N : Names) (old : Disk) → IsSound old → own gone
        → ((m : ℕ) → q.last ≤ m → m < F.limit → F.IsPath m gone → ⊥) → N gone ≡ Some lost → Stands F own base q path id P N old
        → Stands F own base q path id P (update bytes_eq N gone None) (deleted gone lost old)
    stands_deleted q path gone id lost P N old sound mine kept named_gone s =
        let leaves = deletion_leaves old gone lost in
        let bound = s.bound in
        let there : old.names gone ≡ Some lost = ap (λ (f : Names). f gone) s.names ∙ named_gone in
        let here : old.names path ≡ Some id = ap (λ (f : Names). f path) s.names ∙ s.named in
        let above : (m : ℕ) (other : List ℕ) → q.last ≤ m → m < F.limit → F.IsPath m other → other ≡ gone → ⊥ = λ m other over less is same. kept m over less (subst (F.IsPath m) same is) in
        let path_stays : path ≡ gone → ⊥ = above q.last path (omega arith) bound s.at in
        let other_file : (other : List ℕ) (j : ℕ) → (other ≡ gone → ⊥) → old.names other ≡ Some j → j ≡ lost → ⊥ = λ other j apart is same. apart (sound.one_name other gone j is (there ∙ ap Some (sym same))) in
        let before : (other : List ℕ) (j : ℕ) → update bytes_eq N gone None other ≡ Some j → (other ≡ gone → ⊥) × (N other ≡ Some j) = λ other j is.
        elim (name_case N gone None other (Some j) is) [ inl (same, none) ↦ cc none | inr (apart, was) ↦ (apart, was) ] in
        record {
          names = ap (λ (f : Names). update bytes_eq f gone None) s.names;
          bound = s.bound;
          at = s.at;
          named = name_apart N gone None path path_stays ∙ s.named;
          alone = λ other j is now. s.alone other j is (before other j now).1;
          none = λ m other over less is. name_apart N gone None other (above m other (omega (arith, over)) less is) ∙ s.none m other over less is;
          headed = s.headed;
          places = λ m other less is. place_moved other old (deleted gone lost old) refl (s.places m other less is);
          file = record { file = s.file.file; is = leaves.files id (other_file path id path_stays here) ∙ s.file.is; has = s.file.has };
          older = λ m j other below is now.
              (let (apart, was_named) = before other j now in
              let was = s.older m j other below is was_named in
              record { file = was.file; is = leaves.files j (other_file other j apart (ap (λ (f : Names). f other) s.names ∙ was_named)) ∙ was.is; has = was.has });
          single = λ m i j a b below at_a at_b is_a is_b. s.single m i j a b below at_a at_b (before a i is_a).1 (before b j is_b).1;
          others = names_then own base old (deleted gone lost old) s.others (record {
            directories = refl;
            names = λ p theirs. leaves.names p (λ same. theirs (subst own (sym same) mine));
            files = λ p j theirs is. leaves.files j (other_file p j (λ same. theirs (subst own (sym same) mine)) is);
          });
        }

  -- Calls on another queue's paths and files leave this one as it was.
  pub stands_elsewhere : OwnsPaths F own → (theirs : List ℕ → Type 0) → ((path : List ℕ) → own path → theirs path → ⊥) → (q : LogFiles R) (path : List ℕ) (id : ℕ) (P : File → Type 0) (N : Names) (old new : Disk)
      → TouchesOnlyNames theirs old new → Stands F own base q path id P N old → Stands F own new q path id P new.names new
  stands_elsewhere owns theirs apart q path id P N old new only s =
      let stays : (m : ℕ) (other : List ℕ) → m < F.limit → F.IsPath m other → new.names other ≡ N other = λ m other less at.
      only.names other (apart other (owns m other less at)) ∙ ap (λ (f : Names). f other) s.names in
      let bound = s.bound in
      let kept : (m j : ℕ) (other : List ℕ) (Q : File → Type 0) → m < F.limit → F.IsPath m other → N other ≡ Some j → HasFile j Q old → HasFile j Q new = λ m j other Q less at named has.
      record { file = has.file; is = only.files other j (apart other (owns m other less at)) (ap (λ (f : Names). f other) s.names ∙ named) ∙ has.is; has = has.has } in
      record {
        names = refl;
        bound = s.bound;
        at = s.at;
        named = stays q.last path bound s.at ∙ s.named;
        alone = λ other j at now. s.alone other j at (sym (stays q.last other bound at) ∙ now);
        none = λ m other over less at. stays m other less at ∙ s.none m other over less at;
        headed = s.headed;
        places = λ m other less at. place_moved other old new only.directories (s.places m other less at);
        file = kept q.last id path P bound s.at s.named s.file;
        older = λ m j other below at now.
            (let named : N other ≡ Some j = sym (stays m other (omega (arith, below, bound)) at) ∙ now in
            kept m j other (IsPast F m (q.older m)) (omega (arith, below, bound)) at named (s.older m j other below at named));
        single = λ m i j a b below at_a at_b is_a is_b.
            (let less : m < F.limit = omega (arith, below, bound) in
            s.single m i j a b below at_a at_b (sym (stays m a less at_a) ∙ is_a) (sym (stays m b less at_b) ∙ is_b));
        others = names_same own new;
      }

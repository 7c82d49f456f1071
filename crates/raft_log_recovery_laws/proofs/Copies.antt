-- Which number a copy has, and what it is a copy of.
use Rattle.std.specs.Prelude.{Contains, ◌⊎◌}
use Rattle.std.specs.Option.{option_map}
use Rattle.std.specs.Str.{bytes_eq}
use Rattle.std.proofs.Common.{◌≡◌, ℕ, ◌<◌, ◌^◌, Bool, true, false, Option, Some, None, List, [], ◌∷◌, ◌++◌, length, get_or, length-append, refl, sym, ◌∙◌, ap, subst, inl, inr, arith}
use Rattle.std.proofs.lemmas.Bool.{cases_Bool, cases_eq, cases_order, false≢true}
use Rattle.std.proofs.lemmas.List.{get_or_default}
use Rattle.std.proofs.lemmas.Slice.Eq.{bytes_eq-Decides}
use Rattle.raft_log_record_base.specs.declared.pipe_log.LogQueue.{LogQueue}
use Rattle.raft_log_record_base.specs.declared.pipe_log.LogQueue.TheVariants as queues
use Rattle.raft_log_fs.specs.Disk.{Disk, File, IsPlain, at_rest}
use Rattle.raft_log_fs.specs.Image.{as_it_stands}
use Rattle.raft_log_fs.specs.Calls.{flushed}
use Rattle.raft_log_file_writer.specs.LogQueue.{IsAbsent, IsThere}
use Rattle.raft_log_active_file.specs.Layout.{place_of}
use Rattle.raft_log_active_file.specs.Standing.{IsPlace}
use Rattle.raft_log_file_format.specs.Name.{IsNamed, suffix_of}
use Rattle.raft_log_engine_laws.specs.raft_log_active_file.specs.QueueFiles.{log_format}
use Rattle.raft_log_engine_laws.specs.raft_log_active_file.specs.QueueFilesLaws.{queues_are_apart}
use Rattle.raft_log_engine_laws.specs.raft_log_active_file.specs.PathLaws.{numbered_is, one_number}
use Rattle.raft_log_engine_laws.specs.raft_log_active_file.specs.Paths.{IsPathWith}
use Rattle.raft_log_file_settings.specs.Sanitized.{IsFileName}
use Rattle.raft_log_recovery_scan.specs.Found.{AreFilesIn, FileLiesIn, found_path}
use Rattle.raft_log_recovery_scan.specs.Names.{built_name, end_of, name_of}
use Rattle.raft_log_recovery_scan.proofs.Public.{limit_small}
use Rattle.raft_log_recovery_scan.specs.declared.file_kind.FileKind.{FileKind}
use Rattle.raft_log_recovery_scan.specs.declared.scanning.found.FoundFile.{FoundFile}
use Rattle.raft_log_recovery_laws.specs.Scanned.{kind_of}
use Rattle.raft_log_offline.specs.Copies.{copy_path}
use Rattle.raft_log_offline.specs.Forks.{CopiesAll, IsCopyPath}
use Rattle.raft_log_offline.specs.Sources.{AreSources, IsLastOf, IsNoLater, IsSource}
use Rattle.raft_log_offline.specs.declared.source_file.SourceFile.{SourceFile}
use Rattle.raft_log_offline.proofs.Public.{first, first_or_later, in_none, itself, later, no_later_then}
use Rattle.raft_log_recovery_laws.proofs.FoundPaths.{path_found}
use Rattle.raft_log_recovery_laws.proofs.Sources.{copied_at, copied_to, has_sources, in_one, path_in, source_is, to_source}

pub none_is_some : (id : ℕ) → None ≡ Some id → ⊥
none_is_some id e = absurd (cc)

-- Files that were found.

one_sign_less : (a b : Bool) → (a ≡ true → b ≡ true) ⊎ (b ≡ true → a ≡ true)
one_sign_less a true = inl (λ is. refl)
one_sign_less a false = inr (λ is. absurd (false≢true is))

one_no_later : (f g : FoundFile) → IsNoLater f g ⊎ IsNoLater g f
one_no_later f g = elim (cases_order f.path_id g.path_id) [
  | inr (inl less) ↦ inl (inl less)
  | inr (inr more) ↦ inr (inl more)
  | inl same ↦ elim (one_sign_less f.signed g.signed) [
    | inl up ↦ inl (inr (same, up))
    | inr down ↦ inr (inr (sym same, down))
  ]
]

-- of files with a number one is the last, or none has it
last_of : (files : List FoundFile) (n : ℕ) → ((f : FoundFile) → Contains files f → f.seq ≡ n → ⊥) ⊎ ((f : FoundFile) × IsLastOf files f × (f.seq ≡ n))
last_of [] n = inl (λ f there is. in_none f there)
last_of (f ∷ fs) n = elim (last_of fs n) [
  | inl none ↦ elim (cases_eq f.seq n) [
    | inl is ↦ inr (
      f,
      record {
        there = first f fs;
        last = λ other there same. elim (first_or_later f fs other there) [
          | inl this ↦ subst (λ (g : FoundFile). IsNoLater g f) this (itself f)
          | inr behind ↦ absurd (none other behind (same ∙ is))
        ];
      },
      is,
    )
    | inr not ↦ inl (λ g there is. elim (first_or_later f fs g there) [
      | inl this ↦ not (ap (λ (h : FoundFile). h.seq) this ∙ is)
      | inr behind ↦ none g behind is
    ])
  ]
  | inr (g, last, is) ↦ elim (cases_eq f.seq n) [
    | inr not ↦ inr (
      g,
      record {
        there = later f fs g last.there;
        last = λ other there same. elim (first_or_later f fs other there) [
          | inl this ↦ absurd (not (ap (λ (h : FoundFile). h.seq) this ∙ same ∙ is))
          | inr behind ↦ last.last other behind same
        ];
      },
      is,
    )
    | inl also ↦ elim (one_no_later f g) [
      | inr down ↦ inr (
        f,
        record {
          there = first f fs;
          last = λ other there same. elim (first_or_later f fs other there) [
            | inl this ↦ subst (λ (h : FoundFile). IsNoLater h f) this (itself f)
            | inr behind ↦ no_later_then other g f (last.last other behind (same ∙ also ∙ sym is)) down
          ];
        },
        also,
      )
      | inl up ↦ inr (
        g,
        record {
          there = later f fs g last.there;
          last = λ other there same. elim (first_or_later f fs other there) [
            | inl this ↦ subst (λ (h : FoundFile). IsNoLater h g) this up
            | inr behind ↦ last.last other behind same
          ];
        },
        is,
      )
    ]
  ]
]

-- the names of a queue's files end as those of their kind
same_end : (queue : LogQueue) → suffix_of queue ≡ end_of (kind_of queue)
same_end queues.Append = refl
same_end queues.Rewrite = refl

module _ (queue : LogQueue) (directories : List (List ℕ)) (d : Disk) where
  -- a file that was found lies under a path of its number
  pub found_at : (f : FoundFile) → FileLiesIn (kind_of queue) directories d f → IsPathWith (suffix_of queue) directories f.seq (found_path (kind_of queue) directories f)
  found_at f lies =
      let listed = lies.listed in
      let small = limit_small f.signed f.seq lies.small in
      subst (IsPathWith (suffix_of queue) directories f.seq) (path_found queue directories f listed)
      (numbered_is queue directories (place_of (length directories) f.path_id f.signed) f.seq (omega (arith, listed)) small)

  -- a file under a path of a number was found
  named_file : (found : List FoundFile) → AreFilesIn (kind_of queue) directories d found → (m : ℕ) (path : List ℕ) → IsPathWith (suffix_of queue) directories m path → (d.names path ≡ None → ⊥)
      → ((f : FoundFile) → Contains found f → f.seq ≡ m → ⊥) → ⊥
  named_file found are m path is there none =
      let kind = kind_of queue in
      let named : IsNamed (end_of kind) is.name m = subst (λ (suffix : List ℕ). IsNamed suffix is.name m) (same_end queue) is.named in
      let has : d.names (is.directory ++ 47 ∷ is.name) ≡ None → ⊥ = subst (λ (p : List ℕ). d.names p ≡ None → ⊥) is.joined there in
      let home : get_or directories is.listed.0 [] ≡ is.directory = get_or_default directories is.listed.0 [] is.directory is.listed.1 ∙ is.listed.2 in
      are.named is.name (record { directory = is.directory; listed = is.listed; plain = is.plain; there = has }) (
        m,
        named,
        λ signed its. (let file : FoundFile = record { seq = m; path_id = is.listed.0; signed = signed } in
            none file (are.all file (record {
              listed = is.listed.1;
              small = its.0;
              there = subst (λ (p : List ℕ). d.names p ≡ None → ⊥) (ap (λ (name : List ℕ). is.directory ++ 47 ∷ name) its.1 ∙ ap (λ (directory : List ℕ). directory ++ 47 ∷ name_of kind signed m) (sym home)) has;
            })) refl),
      )

-- Paths in the target.

own_or_not : (target : List ℕ) (files : List SourceFile) (path : List ℕ) → IsCopyPath target files path ⊎ (IsCopyPath target files path → ⊥)
own_or_not target [] path = inr (λ (file, there, is). in_none file there)
own_or_not target (f ∷ fs) path = elim (cases_Bool (bytes_eq path (copy_path target f))) [
  | inl hit ↦ inl (f, first f fs, (bytes_eq-Decides path (copy_path target f)).0 hit)
  | inr miss ↦ elim (own_or_not target fs path) [
    | inl (g, there, is) ↦ inl (g, later f fs g there, is)
    | inr none ↦ inr (λ (g, there, is). elim (first_or_later f fs g there) [
      | inl same ↦ false≢true (sym miss ∙ (bytes_eq-Decides path (copy_path target f)).1 (is ∙ ap (λ (h : SourceFile). copy_path target h) (sym same)))
      | inr behind ↦ none (g, behind, is)
    ])
  ]
]

one_queue : (target : List ℕ) (p q : LogQueue) (m n : ℕ) (path : List ℕ) → IsPathWith (suffix_of p) (target ∷ []) m path → IsPathWith (suffix_of q) (target ∷ []) n path → p ≡ q
one_queue target queues.Append queues.Append m n path a b = refl
one_queue target queues.Rewrite queues.Rewrite m n path a b = refl
one_queue target queues.Append queues.Rewrite m n path a b = absurd (queues_are_apart (target ∷ []) (target ∷ []) path (m, inl a) (n, inl b))
one_queue target queues.Rewrite queues.Append m n path a b = absurd (queues_are_apart (target ∷ []) (target ∷ []) path (n, inl b) (m, inl a))

pub in_target : (target suffix : List ℕ) (m : ℕ) (path : List ℕ) (at : IsPathWith suffix (target ∷ []) m path) → path ≡ target ++ 47 ∷ at.name
in_target target suffix m path at = at.joined ∙ ap (λ (d : List ℕ). d ++ 47 ∷ at.name) (sym (in_one target at.directory at.listed))

-- The file with a number under a path of the target is a copy, at rest, of a file with that number.
pub record IsCopy (queue : LogQueue) (directories : List (List ℕ)) (target : List ℕ) (old new : Disk) (m : ℕ) (path : List ℕ) (id : ℕ) : Type 0 where
  pub here : path ≡ path_in target queue m
  pub source : List ℕ
  pub at : IsPathWith (suffix_of queue) directories m source
  pub from : ℕ
  pub named : old.names source ≡ Some from
  pub file : File
  pub is : old.files from ≡ Some file
  pub stands : new.files id ≡ Some (at_rest file.content)

-- a number has a copy
pub record HasCopied (queue : LogQueue) (target : List ℕ) (new : Disk) (m : ℕ) : Type 0 where
  pub small : m < 10 ^ 16
  pub id : ℕ
  pub named : new.names (path_in target queue m) ≡ Some id

-- no log file was in the target, and no directory has the path of one
pub record IsFreeOf (target : List ℕ) (d : Disk) : Type 0 where
  pub bare : (name : List ℕ) → IsPlain name → IsFileName name → d.names (target ++ 47 ∷ name) ≡ None
  pub apart : (name : List ℕ) → IsPlain name → IsFileName name → d.directories (target ++ 47 ∷ name) ≡ false

-- The files of a queue were forked: whoever has a number in the target is a copy, each number that has a file
-- has a copy, and any may be made there.
pub record ForksQueue (queue : LogQueue) (directories : List (List ℕ)) (target : List ℕ) (old new : Disk) : Type 0 where
  pub copied : (m : ℕ) (path : List ℕ) (id : ℕ) → IsPathWith (suffix_of queue) (target ∷ []) m path → new.names path ≡ Some id → IsCopy queue directories target old new m path id
  pub has : (m : ℕ) → IsThere (log_format queue directories) m old → HasCopied queue target new m
  pub places : (m : ℕ) (path : List ℕ) → IsPathWith (suffix_of queue) (target ∷ []) m path → IsPlace path new

module _ (queue : LogQueue) (directories : List (List ℕ)) (target : List ℕ) (old new : Disk) (files : List SourceFile) (are : AreSources directories old files) (copies : CopiesAll target files old new) (free : IsFreeOf target old) (home : new.directories target ≡ true) where
  is_copy : (m : ℕ) (path : List ℕ) (id : ℕ) (file : SourceFile) → IsPathWith (suffix_of queue) (target ∷ []) m path → new.names path ≡ Some id → Contains files file → path ≡ copy_path target file
      → IsCopy queue directories target old new m path id
  is_copy m path id file at named there is =
      let of = source_is directories old files file are there in
      let at_copy : IsPathWith (suffix_of of.queue) (target ∷ []) of.found.seq path = subst (IsPathWith (suffix_of of.queue) (target ∷ []) of.found.seq) (sym is) (copied_at directories old target file of) in
      let which : of.queue ≡ queue = one_queue target of.queue queue of.found.seq m path at_copy at in
      let lies : FileLiesIn (kind_of queue) directories old of.found = subst (λ (q : LogQueue). FileLiesIn (kind_of q) directories old of.found) which of.lies in
      let source : IsSource (kind_of queue) directories old of.found file = subst (λ (q : LogQueue). IsSource (kind_of q) directories old of.found file) which of.is in
      let at_here : IsPathWith (suffix_of queue) (target ∷ []) of.found.seq path = subst (λ (q : LogQueue). IsPathWith (suffix_of q) (target ∷ []) of.found.seq path) which at_copy in
      let number : of.found.seq ≡ m = one_number (suffix_of queue) (target ∷ []) of.found.seq m path at_here at in
      let copy = copies.copies file there in
      let there_too : new.names path ≡ Some copy.copy = ap (λ (p : List ℕ). new.names p) is ∙ copy.named in
      let one : id ≡ copy.copy = cc in
      record {
        here = is ∙ copied_to directories old target file of ∙ ap (λ (q : LogQueue). path_in target q of.found.seq) which ∙ ap (λ (n : ℕ). path_in target queue n) number;
        source = found_path (kind_of queue) directories of.found;
        at = subst (λ (n : ℕ). IsPathWith (suffix_of queue) directories n (found_path (kind_of queue) directories of.found)) number (found_at queue directories old of.found lies);
        from = file.handle.file;
        named = source.is;
        file = copy.file;
        is = copy.is;
        stands = ap (λ (n : ℕ). new.files n) one ∙ copy.stands;
      }

  -- whoever has a number in the target is a copy
  copied : (m : ℕ) (path : List ℕ) (id : ℕ) → IsPathWith (suffix_of queue) (target ∷ []) m path → new.names path ≡ Some id → IsCopy queue directories target old new m path id
  copied m path id at named = elim (own_or_not target files path) [
    | inl (file, there, is) ↦ is_copy m path id file at named there is
    | inr none ↦
        let was : old.names path ≡ None = ap (λ (p : List ℕ). old.names p) (in_target target (suffix_of queue) m path at) ∙ free.bare at.name at.plain (m, inl (queue, at.named)) in
        absurd (none_is_some id (sym was ∙ sym (copies.adds.names path none) ∙ named))
  ]

  -- each number that has a file has a copy
  has_copied : (m : ℕ) → IsThere (log_format queue directories) m old → HasCopied queue target new m
  has_copied m there =
      let has = has_sources queue directories old files are in
      elim (last_of has.are.found m) [
        | inl none ↦ absurd (named_file queue directories old has.are.found has.are.all m there.path there.at (λ free. none_is_some there.id (sym free ∙ there.named)) none)
        | inr (f, last, is) ↦
            let (file, among, source) = to_source (kind_of queue) directories old has.are.chosen has.some f has.are.opened (has.are.each.all f last) in
            let copy = copies.copies file (has.within file among) in
            let to : copy_path target file ≡ path_in target queue m = ap (λ (k : FileKind). target ++ 47 ∷ built_name k file.seq) source.queue ∙ ap (λ (n : ℕ). path_in target queue n) (source.seq ∙ is) in
            record { small = subst (λ (n : ℕ). n < 10 ^ 16) is source.small; id = copy.copy; named = ap (λ (p : List ℕ). new.names p) (sym to) ∙ copy.named }
      ]

  -- and it may be made there
  place_copied : (m : ℕ) (path : List ℕ) → IsPathWith (suffix_of queue) (target ∷ []) m path → IsPlace path new
  place_copied m path at =
      let here = in_target target (suffix_of queue) m path at in
      record {
        apart = copies.adds.directories path not_target ∙ ap (λ (p : List ℕ). old.directories p) here ∙ free.apart at.name at.plain (m, inl (queue, at.named));
        home = record { directory = target; inside = record { name = at.name; joined = here; plain = at.plain }; there = home };
      }
    where
      not_target : path ≡ target → ⊥
      not_target same = too_long target at.name (sym same ∙ in_target target (suffix_of queue) m path at)
        where
          too_long : (t name : List ℕ) → t ≡ t ++ 47 ∷ name → ⊥
          too_long t name same = omega (arith, ap length same, length-append t (47 ∷ name))

  pub forks_queue : ForksQueue queue directories target old new
  forks_queue = record { copied = copied; has = has_copied; places = place_copied }

-- a number that has no file has no copy
pub absent_copied : (queue : LogQueue) (directories : List (List ℕ)) (target : List ℕ) (old new : Disk) → ForksQueue queue directories target old new → (m : ℕ) → IsAbsent (log_format queue directories) m old
    → IsAbsent (log_format queue (target ∷ [])) m new
absent_copied queue directories target old new forks m none path at = by_name (new.names path) refl
  where
    by_name : (o : Option ℕ) → new.names path ≡ o → new.names path ≡ None
    by_name None e = e
    by_name (Some id) e = (let c = forks.copied m path id at e in absurd (none_is_some c.from (sym (none c.source c.at) ∙ c.named)))

-- and they were forked of the disk on which everything was kept
pub forks_standing : (queue : LogQueue) (directories : List (List ℕ)) (target : List ℕ) (old new : Disk) → ForksQueue queue directories target old new → ForksQueue queue directories target (as_it_stands old) new
forks_standing queue directories target old new forks = record {
  copied = λ m path id at named.
      let c = forks.copied m path id at named in
      record { here = c.here; source = c.source; at = c.at; from = c.from; named = c.named; file = flushed c.file; is = ap (λ (o : Option File). option_map flushed o) c.is; stands = c.stands };
  has = λ m there. forks.has m (record { path = there.path; at = there.at; id = there.id; named = there.named });
  places = forks.places;
}

-- Several files are copied, one after the other, into a directory that may have been made.
use Rattle.std.specs.Prelude.{Contains}
use Rattle.std.specs.Str.{bytes_eq}
use Rattle.std.proofs.Common.{◌≡◌, ℕ, Bool, true, false, cond, List, [], ◌∷◌, ◌++◌, length, drop, refl, sym, ◌∙◌, ap, subst, inl, inr, arith}
use Rattle.std.proofs.lemmas.List.{length-append, append_cancel_left}
use Rattle.std.proofs.lemmas.List.Elements.{Contains-append_cases, Contains-append_left, Contains-append_right}
use Rattle.raft_log_record_base.specs.declared.errors.Error.{Error}
use Rattle.raft_log_record_base.specs.declared.errors.Error.TheVariants as errors
use Rattle.raft_log_fs.specs.Disk.{Disk}
use Rattle.raft_log_fs.specs.Arguments.{IsTaken}
use Rattle.raft_log_fs.proofs.Public.{fails_after}
use Rattle.raft_log_recovery_scan.specs.Names.{built_name}
use Rattle.raft_log_recovery_scan.specs.Directories.{MakesIfAbsent}
use Rattle.raft_log_recovery_scan.proofs.Public.{has_more, has_none}
use Rattle.raft_log_offline.specs.Copies.{AddsOnly, HasCopy, IsCopyRefusal, IsSourceThere, copy_path}
use Rattle.raft_log_offline.specs.Steps.{CopiesOne, FailsToCopyOne, TellsUncopied}
use Rattle.raft_log_offline.specs.Forks.{CopiesAll, FailsToCopyAll, HaveCopies, IsCopyPath}
use Rattle.raft_log_offline.specs.Sources.{AreApart, AllThere}
use Rattle.raft_log_offline.specs.declared.source_file.SourceFile.{SourceFile}
use Rattle.raft_log_offline.proofs.Adds.{adds_none, adds_then, adds_wider, copy_before, copy_stays}
use Rattle.raft_log_offline.proofs.CopyingLemmas.{short_told}
use Rattle.raft_log_offline.proofs.Lasts.{first, first_or_later, in_none}

-- One file more.

own_before : (target : List ℕ) (before more : List SourceFile) (path : List ℕ) → IsCopyPath target before path → IsCopyPath target (before ++ more) path
own_before target before more path (file, there, is) = (file, Contains-append_left before more file there, is)

own_last : (target : List ℕ) (before : List SourceFile) (file : SourceFile) (path : List ℕ) → path ≡ copy_path target file → IsCopyPath target (before ++ file ∷ []) path
own_last target before file path is = (file, Contains-append_right before (file ∷ []) file (first file []), is)

-- what was added for the first files, and then for one more
adds_more : (target : List ℕ) (before : List SourceFile) (file : SourceFile) (old mid new : Disk) → AddsOnly target (IsCopyPath target before) old mid
    → AddsOnly target (λ other. other ≡ copy_path target file) mid new → AddsOnly target (IsCopyPath target (before ++ file ∷ [])) old new
adds_more target before file old mid new first next = adds_then target (IsCopyPath target (before ++ file ∷ [])) old mid new
    (adds_wider target (IsCopyPath target before) (IsCopyPath target (before ++ file ∷ [])) old mid (λ path own. own_before target before (file ∷ []) path own) first)
    (adds_wider target (λ other. other ≡ copy_path target file) (IsCopyPath target (before ++ file ∷ [])) mid new (λ path own. own_last target before file path own) next)

still_copied : (target : List ℕ) (before : List SourceFile) (file : SourceFile) (old mid new : Disk) → HaveCopies target before old mid → AddsOnly target (λ other. other ≡ copy_path target file) mid new
    → HaveCopies target before old new
still_copied target before file old mid new copies next one there =
    copy_stays target (λ other. other ≡ copy_path target file) one.handle.file (copy_path target one) old mid new next (copies one there)

pub copied_more : (target : List ℕ) (before : List SourceFile) (file : SourceFile) (old mid new : Disk) → IsSourceThere old file → CopiesAll target before old mid → CopiesOne target file mid new
    → CopiesAll target (before ++ file ∷ []) old new
copied_more target before file old mid new there done next = record {
  adds = adds_more target before file old mid new done.adds next.adds;
  copies = λ one inside. elim (Contains-append_cases before (file ∷ []) one inside) [
    | inl ahead ↦ still_copied target before file old mid new done.copies next.adds one ahead
    | inr last ↦ elim (first_or_later file [] one last) [
      | inr none ↦ absurd (in_none one none)
      | inl same ↦ subst (λ (f : SourceFile). HasCopy f.handle.file (copy_path target f) old new) same
          (copy_before target (IsCopyPath target before) file.handle.file (copy_path target file) old mid new there.content done.adds there.is next.copy)
    ]
  ];
}

-- a file that is to be copied is there still
pub there_still : (target : List ℕ) (before : List SourceFile) (file : SourceFile) (old mid : Disk) → IsSourceThere old file → AddsOnly target (IsCopyPath target before) old mid → IsSourceThere mid file
there_still target before file old mid there adds = record { content = there.content; is = adds.files file.handle.file there.content there.is; small = there.small }

-- Refusals.

-- a copy's path isn't the directory's
path_apart : (target : List ℕ) (file : SourceFile) → copy_path target file ≡ target → ⊥
path_apart target file same = omega (arith, ap length same, length-append target (47 ∷ built_name file.kind file.seq))

-- one path is that of one name
one_name : (target : List ℕ) (a b : SourceFile) → copy_path target a ≡ copy_path target b → built_name a.kind a.seq ≡ built_name b.kind b.seq
one_name target a b same = let rest = append_cancel_left target (47 ∷ built_name a.kind a.seq) (47 ∷ built_name b.kind b.seq) same in ap (λ (l : List ℕ). drop 1 l) rest

-- no file before another one has its name
before_apart : (before behind : List SourceFile) (file other : SourceFile) → AreApart (before ++ file ∷ behind) → Contains before other → built_name other.kind other.seq ≡ built_name file.kind file.seq → ⊥
before_apart [] behind file other apart there same = in_none other there
before_apart (f ∷ before) behind file other (lone, apart) there same = elim (first_or_later f before other there) [
  | inl one ↦ lone file (Contains-append_right before (file ∷ behind) file (first file behind)) (subst (λ (x : SourceFile). built_name x.kind x.seq ≡ built_name file.kind file.seq) (sym one) same)
  | inr more ↦ before_apart before behind file other apart more same
]

was_taken : (target : List ℕ) (before behind : List SourceFile) (file : SourceFile) (old mid : Disk) → AreApart (before ++ file ∷ behind) → AddsOnly target (IsCopyPath target before) old mid
    → IsTaken (copy_path target file) mid → IsTaken (copy_path target file) old
was_taken target before behind file old mid apart adds (inl named) =
    let same = adds.names (copy_path target file) (λ own. before_apart before behind file own.0 apart own.1 (sym (one_name target file own.0 own.2))) in
    inl (λ none. named (same ∙ none))
was_taken target before behind file old mid apart adds (inr directory) = inr (sym (adds.directories (copy_path target file) (path_apart target file)) ∙ directory)

refused_one : (target : List ℕ) (before behind : List SourceFile) (file : SourceFile) (error : Error) (old mid new : Disk) → AreApart (before ++ file ∷ behind)
    → AddsOnly target (IsCopyPath target before) old mid → IsCopyRefusal target (file ∷ []) error mid new → IsCopyRefusal target (before ++ file ∷ behind) error old new
refused_one target before behind file (errors.Io kind) old mid new apart adds (inl fails) = inl (fails_after old mid new adds.later fails)
refused_one target before behind file (errors.Io kind) old mid new apart adds (inr (inl (one, there, (place, marked)))) =
    let is : file ≡ one = elim (first_or_later file [] one there) [ inl same ↦ same | inr none ↦ absurd (in_none one none) ] in
    let inside = Contains-append_right before (file ∷ behind) file (first file behind) in
    inr (inl (one, subst (Contains (before ++ file ∷ behind)) is inside, (place, sym (ap (λ (u : ℕ → ℕ → Bool). u one.handle.file place) adds.unreadable) ∙ marked)))
refused_one target before behind file (errors.Io kind) old mid new apart adds (inr (inr (exists, (one, there, taken)))) =
    let is : file ≡ one = elim (first_or_later file [] one there) [ inl same ↦ same | inr none ↦ absurd (in_none one none) ] in
    let inside = Contains-append_right before (file ∷ behind) file (first file behind) in
    let here = subst (λ (f : SourceFile). IsTaken (copy_path target f) mid) (sym is) taken in
    inr (inr (exists, (file, inside, was_taken target before behind file old mid apart adds here)))
refused_one target before behind file errors.Memory old mid new apart adds why = tt
refused_one target before behind file _ old mid new apart adds why = absurd why

pub one_uncopied : (target : List ℕ) (before behind : List SourceFile) (file : SourceFile) (error : Error) (old mid new : Disk) → AreApart (before ++ file ∷ behind)
    → CopiesAll target before old mid → FailsToCopyOne target file error mid new → TellsUncopied target file error mid new → FailsToCopyAll target (before ++ file ∷ behind) error old new
one_uncopied target before behind file error old mid new apart done fails told = record {
  copied = before;
  file = file;
  behind = behind;
  split = refl;
  adds = adds_more target before file old mid new done.adds fails.0;
  copies = still_copied target before file old mid new done.copies fails.0;
  refusal = refused_one target before behind file error old mid new apart done.adds fails.1;
  between = mid;
  first = done;
  told = told;
}

-- want of memory for the path of a copy that was made
pub one_untold : (target : List ℕ) (before behind : List SourceFile) (file : SourceFile) (error : Error) (old mid new : Disk) → error ≡ errors.Memory
    → CopiesAll target before old mid → CopiesOne target file mid new → FailsToCopyAll target (before ++ file ∷ behind) error old new
one_untold target before behind file error old mid new is done next = record {
  copied = before;
  file = file;
  behind = behind;
  split = refl;
  adds = adds_more target before file old mid new done.adds next.adds;
  copies = still_copied target before file old mid new done.copies next.adds;
  refusal = subst (λ (e : Error). IsCopyRefusal target (before ++ file ∷ behind) e old new) (sym is) tt;
  between = mid;
  first = done;
  told = short_told target file mid new error is;
}

-- The target is made first.

stays : (b was : Bool) → was ≡ true → cond b true was ≡ true
stays true was is = refl
stays false was is = is

pub made_home : (target : List ℕ) (old new : Disk) → MakesIfAbsent target old new → new.directories target ≡ true
made_home target old new made = (has_more [] target old old new (has_none old) made).there target (first target [])

pub made_adds : (target : List ℕ) (own : List ℕ → Type 0) (old new : Disk) → MakesIfAbsent target old new → AddsOnly target own old new
made_adds target own old new (inl (there, same)) = subst (AddsOnly target own old) (sym same) (adds_none target own old)
made_adds target own old new (inr made) =
    let has = has_more [] target old old new (has_none old) (inr made) in
    record {
      directories = λ path other. has.others path (λ inside. elim (first_or_later target [] path inside) [ inl same ↦ other (sym same) | inr none ↦ in_none path none ]);
      there = λ path is. ap (λ (d : Disk). d.directories path) made.done ∙ stays (bytes_eq target path) (old.directories path) is;
      names = λ path other. ap (λ (d : Disk). d.names path) made.done;
      named = λ path id is. ap (λ (d : Disk). d.names path) made.done ∙ is;
      files = λ id file is. ap (λ (d : Disk). d.files id) made.done ∙ is;
      unreadable = ap (λ (d : Disk). d.unreadable) made.done;
      later = record {
        failures = let same = ap (λ (d : Disk). d.failures) made.done in omega (arith, same);
        stopped = λ is. ap (λ (d : Disk). d.stopped) made.done ∙ is;
      };
    }

-- the names are those of before
made_names : (target : List ℕ) (old new : Disk) (path : List ℕ) → MakesIfAbsent target old new → new.names path ≡ old.names path
made_names target old new path (inl (there, same)) = ap (λ (d : Disk). d.names path) same
made_names target old new path (inr made) = ap (λ (d : Disk). d.names path) made.done

-- and the files
pub made_files : (target : List ℕ) (old new : Disk) (id : ℕ) → MakesIfAbsent target old new → new.files id ≡ old.files id
made_files target old new id (inl (there, same)) = ap (λ (d : Disk). d.files id) same
made_files target old new id (inr made) = ap (λ (d : Disk). d.files id) made.done

pub there_since : (target : List ℕ) (files : List SourceFile) (old mid : Disk) → MakesIfAbsent target old mid → AllThere old files → AllThere mid files
there_since target files old mid made are file inside =
    let is = are file inside in
    record { content = is.content; is = made_files target old mid file.handle.file made ∙ is.is; small = is.small }

copies_since : (target : List ℕ) (files : List SourceFile) (old mid new : Disk) → MakesIfAbsent target old mid → HaveCopies target files mid new → HaveCopies target files old new
copies_since target files old mid new made copies file inside =
    let has = copies file inside in
    record { file = has.file; is = sym (made_files target old mid file.handle.file made) ∙ has.is; copy = has.copy; named = has.named; stands = has.stands }

pub all_since : (target : List ℕ) (files : List SourceFile) (old mid new : Disk) → MakesIfAbsent target old mid → CopiesAll target files mid new → CopiesAll target files old new
all_since target files old mid new made done = record {
  adds = adds_then target (IsCopyPath target files) old mid new (made_adds target (IsCopyPath target files) old mid made) done.adds;
  copies = copies_since target files old mid new made done.copies;
}

refusal_since : (target : List ℕ) (files : List SourceFile) (error : Error) (old mid new : Disk) → MakesIfAbsent target old mid → IsCopyRefusal target files error mid new → IsCopyRefusal target files error old new
refusal_since target files (errors.Io kind) old mid new made (inl fails) = inl (fails_after old mid new (made_adds target (λ path. ⊥) old mid made).later fails)
refusal_since target files (errors.Io kind) old mid new made (inr (inl (one, there, (place, marked)))) =
    inr (inl (one, there, (place, sym (ap (λ (u : ℕ → ℕ → Bool). u one.handle.file place) (made_adds target (λ path. ⊥) old mid made).unreadable) ∙ marked)))
refusal_since target files (errors.Io kind) old mid new made (inr (inr (exists, (one, there, inl named)))) =
    inr (inr (exists, (one, there, inl (λ none. named (made_names target old mid (copy_path target one) made ∙ none)))))
refusal_since target files (errors.Io kind) old mid new made (inr (inr (exists, (one, there, inr directory)))) =
    inr (inr (exists, (one, there, inr (sym ((made_adds target (λ path. ⊥) old mid made).directories (copy_path target one) (path_apart target one)) ∙ directory))))
refusal_since target files errors.Memory old mid new made why = tt
refusal_since target files _ old mid new made why = absurd why

pub uncopied_since : (target : List ℕ) (files : List SourceFile) (error : Error) (old mid new : Disk) → MakesIfAbsent target old mid → FailsToCopyAll target files error mid new
    → FailsToCopyAll target files error old new
uncopied_since target files error old mid new made fails = record {
  copied = fails.copied;
  file = fails.file;
  behind = fails.behind;
  split = fails.split;
  adds = adds_then target (IsCopyPath target (fails.copied ++ fails.file ∷ [])) old mid new (made_adds target (IsCopyPath target (fails.copied ++ fails.file ∷ [])) old mid made) fails.adds;
  copies = copies_since target fails.copied old mid new made fails.copies;
  refusal = refusal_since target files error old mid new made fails.refusal;
  between = fails.between;
  first = all_since target fails.copied old mid fails.between made fails.first;
  told = fails.told;
}

-- The names of files that are copied are apart.
use Rattle.std.specs.Prelude.{Contains}
use Rattle.std.specs.List.{AllZip}
use Rattle.std.proofs.Common.{◌≡◌, ℕ, ◌<◌, ◌^◌, List, [], ◌∷◌, ◌++◌, Option, Some, None, refl, sym, ◌∙◌, ap, subst, inl, inr, arith}
use Rattle.std.proofs.lemmas.List.Elements.{Contains-append_cases}
use Rattle.raft_log_fs.specs.Disk.{Disk, File}
use Rattle.raft_log_fs.specs.Image.{IsSound}
use Rattle.raft_log_file_format.specs.Name.{IsNamed}
use Rattle.raft_log_file_format.proofs.Public.{one_number, one_queue}
use Rattle.raft_log_recovery_scan.specs.Names.{built_name, end_of}
use Rattle.raft_log_recovery_scan.specs.Found.{found_path}
use Rattle.raft_log_recovery_scan.specs.declared.file_kind.FileKind.{FileKind}
use Rattle.raft_log_recovery_scan.specs.declared.file_kind.FileKind.TheVariants.{Append, Rewrite}
use Rattle.raft_log_recovery_scan.specs.declared.scanning.found.FoundFile.{FoundFile}
use Rattle.raft_log_recovery_scan.proofs.Public.{named_built}
use Rattle.raft_log_offline.specs.Sources.{AreApart, AreRising, AreSources, AreSourcesOf, AllThere, IsSource}
use Rattle.raft_log_offline.specs.declared.source_file.SourceFile.{SourceFile}
use Rattle.raft_log_offline.proofs.Lasts.{first, first_or_later, in_none, later}

-- one name of a kind says one number
one_of_kind : (kind : FileKind) (m n : ℕ) → m < 10 ^ 16 → n < 10 ^ 16 → built_name kind m ≡ built_name kind n → m ≡ n
one_of_kind kind m n small fit same = one_number (built_name kind n) m n (subst (λ (l : List ℕ). IsNamed (end_of kind) l m) same (named_built kind m small)).0 (named_built kind n fit).0

-- and no name is that of a file of both queues
kinds_apart : (m n : ℕ) → m < 10 ^ 16 → n < 10 ^ 16 → built_name Rewrite m ≡ built_name Append n → ⊥
kinds_apart m n small fit same = one_queue (built_name Append n) (named_built Append n fit).1 (subst (λ (l : List ℕ). IsNamed (end_of Rewrite) l m) same (named_built Rewrite m small)).1

-- Files that are open.

-- which of the files that were found one is
of_found : (kind : FileKind) (directories : List (List ℕ)) (d : Disk) (chosen : List FoundFile) (files : List SourceFile) (file : SourceFile) → AllZip (IsSource kind directories d) chosen files
    → Contains files file → (found : FoundFile) × Contains chosen found × IsSource kind directories d found file
of_found kind directories d [] [] file zip there = absurd (in_none file there)
of_found kind directories d [] (f ∷ fs) file zip there = absurd zip
of_found kind directories d (c ∷ cs) [] file zip there = absurd zip
of_found kind directories d (c ∷ cs) (f ∷ fs) file (is, zip) there = elim (first_or_later f fs file there) [
  | inl same ↦ (c, first c cs, subst (IsSource kind directories d c) same is)
  | inr behind ↦ (let rest = of_found kind directories d cs fs file zip behind in (rest.0, later c cs rest.0 rest.1, rest.2))
]

name_of : (kind : FileKind) (directories : List (List ℕ)) (d : Disk) (found : FoundFile) (file : SourceFile) → IsSource kind directories d found file → built_name file.kind file.seq ≡ built_name kind found.seq
name_of kind directories d found file is = ap (λ (k : FileKind). built_name k file.seq) is.queue ∙ ap (λ (n : ℕ). built_name kind n) is.seq

of_kind_apart : (kind : FileKind) (directories : List (List ℕ)) (d : Disk) (chosen : List FoundFile) (files : List SourceFile) → AreRising chosen → AllZip (IsSource kind directories d) chosen files
    → AreApart files
of_kind_apart kind directories d [] [] up zip = tt
of_kind_apart kind directories d [] (f ∷ fs) up zip = absurd zip
of_kind_apart kind directories d (c ∷ cs) [] up zip = absurd zip
of_kind_apart kind directories d (c ∷ cs) (f ∷ fs) (above, up) (is, zip) = (
  (λ other there same.
      let from = of_found kind directories d cs fs other zip there in
      let one = one_of_kind kind c.seq from.0.seq is.small from.2.small (sym (name_of kind directories d c f is) ∙ (same ∙ name_of kind directories d from.0 other from.2)) in
      omega (arith, above from.0 from.1, one)),
  of_kind_apart kind directories d cs fs up zip,
)

apart_both : (xs ys : List SourceFile) → AreApart xs → AreApart ys → ((x y : SourceFile) → Contains xs x → Contains ys y → built_name x.kind x.seq ≡ built_name y.kind y.seq → ⊥) → AreApart (xs ++ ys)
apart_both [] ys a b apart = b
apart_both (x ∷ xs) ys (lone, a) b apart = (
  (λ other there. elim (Contains-append_cases xs ys other there) [ inl before ↦ lone other before | inr behind ↦ apart x other (first x xs) behind ]),
  apart_both xs ys a b (λ z y in_xs in_ys. apart z y (later x xs z in_xs) in_ys),
)

of_both : (directories : List (List ℕ)) (d : Disk) (r : List SourceFile) (a : List SourceFile) → AreSourcesOf Rewrite directories d r → AreSourcesOf Append directories d a → AreApart (r ++ a)
of_both directories d r a rewrite append = apart_both r a
    (of_kind_apart Rewrite directories d rewrite.chosen r rewrite.each.rising rewrite.opened)
    (of_kind_apart Append directories d append.chosen a append.each.rising append.opened)
    (λ x y in_r in_a same.
    let x_is = of_found Rewrite directories d rewrite.chosen r x rewrite.opened in_r in
    let y_is = of_found Append directories d append.chosen a y append.opened in_a in
    kinds_apart x_is.0.seq y_is.0.seq x_is.2.small y_is.2.small (sym (name_of Rewrite directories d x_is.0 x x_is.2) ∙ (same ∙ name_of Append directories d y_is.0 y y_is.2)))

pub sources_apart : (directories : List (List ℕ)) (d : Disk) (files : List SourceFile) → AreSources directories d files → AreApart files
sources_apart directories d files is = subst AreApart (sym is.both) (of_both directories d is.rewrite is.append is.of_rewrite is.of_append)

has_content : (d : Disk) (id : ℕ) (o : Option File) → d.files id ≡ o → (d.files id ≡ None → ⊥) → (file : File) × (d.files id ≡ Some file)
has_content d id (Some file) is some = (file, is)
has_content d id None is some = absurd (some is)

source_there : (kind : FileKind) (directories : List (List ℕ)) (d : Disk) (files : List SourceFile) → IsSound d → AreSourcesOf kind directories d files → AllThere d files
source_there kind directories d files sound are file there =
    let is = of_found kind directories d are.chosen files file are.opened there in
    let has = has_content d file.handle.file (d.files file.handle.file) refl (sound.named (found_path kind directories is.0) file.handle.file is.2.is) in
    record { content = has.0; is = has.1; small = subst (λ (n : ℕ). n < 10 ^ 16) (sym is.2.seq) is.2.small }

pub sources_there : (directories : List (List ℕ)) (d : Disk) (files : List SourceFile) → IsSound d → AreSources directories d files → AllThere d files
sources_there directories d files sound is file there = elim (Contains-append_cases is.rewrite is.append file (subst (λ (l : List SourceFile). Contains l file) is.both there)) [
  | inl r ↦ source_there Rewrite directories d is.rewrite sound is.of_rewrite file r
  | inr a ↦ source_there Append directories d is.append sound is.of_append file a
]

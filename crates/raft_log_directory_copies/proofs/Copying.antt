-- What is gathered and laid out is the same.
use Rattle.std.specs.Prelude.{Contains, ◌⊎◌}
use Rattle.std.proofs.Common.{◌≡◌, ℕ, zero, suc, Option, Some, None, List, [], ◌∷◌, refl, sym, ◌∙◌, ap, subst, inl, inr, arith}
use Rattle.std.proofs.lemmas.List.Elements.{All-contains}
use Rattle.raft_log_fs.specs.Disk.{Disk, File, IsPlain}
use Rattle.raft_log_directory_copies.specs.declared.stored_file.StoredFile.{StoredFile}
use Rattle.raft_log_directory_copies.specs.Copies.{AreGathered, HasContent, HoldsExactly, IsAtRest, name_of, names_of, path_in}
use Rattle.raft_log_directory_copies.specs.Laws.{CopiesHoldTheSame, content_at, content_of, read_of}

first_or_later : {X : Type 0} (x : X) (xs : List X) (y : X) → Contains (x ∷ xs) y → (x ≡ y) ⊎ Contains xs y
first_or_later x xs y (zero, lt, is) = inl is
first_or_later x xs y (suc k, lt, is) = inr (k, omega (arith, lt), is)

-- a file of a name
record FileOf (files : List StoredFile) (name : List ℕ) : Type 0 where
  file : StoredFile
  inside : Contains files file
  is : name_of file ≡ name

file_of : (files : List StoredFile) (name : List ℕ) → Contains (names_of files) name → FileOf files name
file_of [] name (k, lt, is) = absurd (omega (arith, lt))
file_of (file ∷ files) name there = elim (first_or_later (name_of file) (names_of files) name there) [
  | inl is ↦ record { file = file; inside = (0, omega arith, refl); is = is }
  | inr more ↦
      let found = file_of files name more in
      let inside = found.inside in
      record { file = found.file; inside = (suc inside.0, omega (arith, inside.1), inside.2); is = found.is }
]

content_here : (path bytes : List ℕ) (d : Disk) → HasContent path bytes d → content_at d path ≡ Some bytes
content_here path bytes d has = ap (content_of d) has.named ∙ (ap read_of has.file.is ∙ ap (λ (b : List ℕ). Some b) has.file.has)

rest_here : (path bytes : List ℕ) (d : Disk) → IsAtRest path bytes d → content_at d path ≡ Some bytes
rest_here path bytes d has = ap (content_of d) has.named ∙ (ap read_of has.file.is ∙ ap (λ (f : File). Some f.content) has.file.has)

-- both have the file
both : (files : List StoredFile) (from to : List ℕ) (source copy : Disk) (name : List ℕ) → AreGathered files from source → HoldsExactly files to copy → Contains (names_of files) name
    → content_at copy (path_in to name) ≡ content_at source (path_in from name)
both files from to source copy name gathered holds there =
    let found = file_of files name there in
    let file = found.file in
    let read = All-contains (λ (one : StoredFile). HasContent (path_in from (name_of one)) one.bytes.items source) files file gathered.read found.inside in
    let kept = All-contains (λ (one : StoredFile). IsAtRest (path_in to (name_of one)) one.bytes.items copy) files file holds.kept found.inside in
    let same : content_at copy (path_in to (name_of file)) ≡ content_at source (path_in from (name_of file)) =
    rest_here (path_in to (name_of file)) file.bytes.items copy kept ∙ sym (content_here (path_in from (name_of file)) file.bytes.items source read) in
    subst (λ (n : List ℕ). content_at copy (path_in to n) ≡ content_at source (path_in from n)) found.is same

some_is_none : (id : ℕ) (o : Option ℕ) → o ≡ Some id → o ≡ None → ⊥
some_is_none id o some none = cc

in_source : (o : Option ℕ) (files : List StoredFile) (from to : List ℕ) (source copy : Disk) (name : List ℕ) → AreGathered files from source → HoldsExactly files to copy → IsPlain name
    → copy.names (path_in to name) ≡ None → source.names (path_in from name) ≡ o → content_at copy (path_in to name) ≡ content_at source (path_in from name)
in_source None files from to source copy name gathered holds plain none is = ap (content_of copy) none ∙ sym (ap (content_of source) is)
in_source (Some id) files from to source copy name gathered holds plain none is =
    both files from to source copy name gathered holds (gathered.listed.all name plain (some_is_none id (source.names (path_in from name)) is))

in_copy : (o : Option ℕ) (files : List StoredFile) (from to : List ℕ) (source copy : Disk) (name : List ℕ) → AreGathered files from source → HoldsExactly files to copy → IsPlain name
    → copy.names (path_in to name) ≡ o → content_at copy (path_in to name) ≡ content_at source (path_in from name)
in_copy None files from to source copy name gathered holds plain is = in_source (source.names (path_in from name)) files from to source copy name gathered holds plain is refl
in_copy (Some id) files from to source copy name gathered holds plain is =
    both files from to source copy name gathered holds (holds.only name plain (some_is_none id (copy.names (path_in to name)) is))

pub copies_hold_the_same : CopiesHoldTheSame
copies_hold_the_same files from to source copy name gathered holds plain = in_copy (copy.names (path_in to name)) files from to source copy name gathered holds plain refl

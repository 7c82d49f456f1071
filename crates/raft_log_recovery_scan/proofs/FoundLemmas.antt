-- The files that are found among the names of directories are those that lie in them.
use Rattle.std.specs.Prelude.{Contains, ◌⊎◌}
use Rattle.std.specs.List.{AllZip}
use Rattle.std.proofs.Common.{◌≡◌, ℕ, zero, suc, ◌+◌, ◌^◌, ◌<◌, Bool, true, false, List, [], ◌∷◌, ◌++◌, length, get_or, None, refl, sym, ◌∙◌, ap, subst, inl, inr, arith}
use Rattle.std.proofs.lemmas.List.{append-nil, append_assoc, get_or_default}
use Rattle.std.proofs.lemmas.List.Elements.{Contains-append_cases, Contains-append_left, Contains-append_right}
use Rattle.raft_log_record_base.specs.declared.pipe_log.LogQueue.TheVariants as queues
use Rattle.raft_log_fs.specs.Disk.{Disk, IsPlain}
use Rattle.raft_log_fs.specs.Reading.{IsListing}
use Rattle.raft_log_file_format.specs.Name.{IsNamed, name_limit, number_text}
use Rattle.raft_log_file_format.proofs.Public.{one_number, signs_apart, written_text}
use Rattle.raft_log_active_file.specs.PathLaws.{plain_append, reserved_plain, suffix_plain, text_plain}
use Rattle.raft_log_recovery_scan.specs.Names.{end_of, built_name, name_of, IsNameOf, IsOther, IsMisnamed}
use Rattle.raft_log_recovery_scan.specs.Found.{AreAmong, AreAmongAll, AreDistinct, AreFilesIn, FileLiesIn, HasName}
use Rattle.raft_log_recovery_scan.specs.declared.file_kind.FileKind.{FileKind}
use Rattle.raft_log_recovery_scan.specs.declared.file_kind.FileKind.TheVariants.{Append, Rewrite, Reserved}
use Rattle.raft_log_recovery_scan.specs.declared.scanning.found.FoundFile.{FoundFile}

-- Lists.

first_or_later : {X : Type 0} (x : X) (xs : List X) (y : X) → Contains (x ∷ xs) y → (x ≡ y) ⊎ Contains xs y
first_or_later x xs y (zero, lt, is) = inl is
first_or_later x xs y (suc k, lt, is) = inr (k, omega (arith, lt), is)

later : {X : Type 0} (x : X) (xs : List X) (y : X) → Contains xs y → Contains (x ∷ xs) y
later x xs y (k, lt, is) = (suc k, omega (arith, lt), is)

first : {X : Type 0} (x : X) (xs : List X) → Contains (x ∷ xs) x
first x xs = (0, omega arith, refl)

in_none : {X : Type 0} (y : X) → Contains [] y → ⊥
in_none y (k, lt, is) = omega (arith, lt)

distinct_append : {X : Type 0} (xs ys : List X) → AreDistinct xs → AreDistinct ys → ((x : X) → Contains xs x → Contains ys x → ⊥) → AreDistinct (xs ++ ys)
distinct_append [] ys a b apart = b
distinct_append (x ∷ xs) ys (lone, a) b apart = (
  (λ there. elim (Contains-append_cases xs ys x there) [ inl before ↦ lone before | inr behind ↦ apart x (first x xs) behind ]),
  distinct_append xs ys a b (λ y in_xs in_ys. apart y (later x xs y in_xs) in_ys),
)

distinct_names : (names : List (List ℕ)) → ((j k : ℕ) → j < k → k < length names → get_or names j [] ≡ get_or names k [] → ⊥) → AreDistinct names
distinct_names [] once = tt
distinct_names (name ∷ names) once = (
  (λ there. once 0 (suc there.0) (omega arith) (omega (arith, there.1)) (sym (get_or_default names there.0 [] name there.1 ∙ there.2))),
  distinct_names names (λ j k lt below same. once (suc j) (suc k) (omega (arith, lt)) (omega (arith, below)) same),
)

-- Names.

some_end : (kind : FileKind) → 0 < length (end_of kind)
some_end Append = omega arith
some_end Rewrite = omega arith
some_end Reserved = omega arith

-- with a sign there are less numbers
pub limit_small : (signed : Bool) (n : ℕ) → n < name_limit signed → n < 10 ^ 16
limit_small true n room = omega (arith, room)
limit_small false n fit = fit

pub named_of : (kind : FileKind) (signed : Bool) (n : ℕ) → n < 10 ^ 16 → IsNamed (end_of kind) (name_of kind signed n) n
named_of kind signed n fit = (written_text signed (end_of kind) n fit (some_end kind), (number_text signed n, refl))

pub named_built : (kind : FileKind) (n : ℕ) → n < 10 ^ 16 → IsNamed (end_of kind) (built_name kind n) n
named_built kind n fit = named_of kind false n fit

pub name_one : (kind : FileKind) (signed : Bool) (m n : ℕ) (name : List ℕ) → IsNameOf kind signed m name → IsNamed (end_of kind) name n → m ≡ n
name_one kind signed m n name (room, is) named =
    one_number name m n (subst (λ (l : List ℕ). IsNamed (end_of kind) l m) (sym is) (named_of kind signed m (limit_small signed m room))).0 named.0

-- a name that is the number's with a sign, or without one, is so only once
pub sign_one : (kind : FileKind) (a b : Bool) (m n : ℕ) (name : List ℕ) → IsNameOf kind a m name → IsNameOf kind b n name → a ≡ b
sign_one kind a b m n name (room, is) (fit, also) = signs_apart a b (end_of kind) m n room fit (sym is ∙ also)

end_plain : (kind : FileKind) → IsPlain (end_of kind)
end_plain Append = suffix_plain queues.Append
end_plain Rewrite = suffix_plain queues.Rewrite
end_plain Reserved = reserved_plain

pub name_plain : (kind : FileKind) (signed : Bool) (n : ℕ) → n < 10 ^ 16 → IsPlain (name_of kind signed n)
name_plain kind signed n fit = plain_append (number_text signed n) (end_of kind) (text_plain signed n fit) (end_plain kind)

pub built_plain : (kind : FileKind) (n : ℕ) → n < 10 ^ 16 → IsPlain (built_name kind n)
built_plain kind n fit = name_plain kind false n fit

-- One name more.

pub among_other : (kind : FileKind) (place : ℕ) (name : List ℕ) (names : List (List ℕ)) (files : List FoundFile) → AreAmong kind place names files → IsOther kind name
    → AreAmong kind place (names ++ name ∷ []) files
among_other kind place name [] files is other = inl (other, is)
among_other kind place name (n ∷ names) files (inl (skipped, more)) other = inl (skipped, among_other kind place name names files more other)
among_other kind place name (n ∷ names) files (inr (file, rest, built, at, split, more)) other = inr (file, rest, built, at, split, among_other kind place name names rest more other)

pub among_more : (kind : FileKind) (place : ℕ) (name : List ℕ) (names : List (List ℕ)) (files : List FoundFile) (file : FoundFile) → AreAmong kind place names files
    → IsNameOf kind file.signed file.seq name → file.path_id ≡ place → AreAmong kind place (names ++ name ∷ []) (files ++ file ∷ [])
among_more kind place name [] files file is built at = inr (file, [], built, at, ap (λ (l : List FoundFile). l ++ file ∷ []) is, refl)
among_more kind place name (n ∷ names) files file (inl (skipped, more)) built at = inl (skipped, among_more kind place name names files file more built at)
among_more kind place name (n ∷ names) files file (inr (found, rest, is, was, split, more)) built at =
    inr (found, rest ++ file ∷ [], is, was, ap (λ (l : List FoundFile). l ++ file ∷ []) split, among_more kind place name names rest file more built at)

-- and one directory more
pub all_more : (kind : FileKind) (place : ℕ) (listings : List (List (List ℕ))) (names : List (List ℕ)) (files more : List FoundFile) → AreAmongAll kind place listings files
    → AreAmong kind (place + length listings) names more → AreAmongAll kind place (listings ++ names ∷ []) (files ++ more)
all_more kind place [] names files more is among =
    let at : place + 0 ≡ place = omega arith in
    (more, [], subst (λ (p : ℕ). AreAmong kind p names more) at among, refl, ap (λ (l : List FoundFile). l ++ more) is ∙ sym (append-nil more))
all_more kind place (l ∷ listings) names files more (ahead, rest, in_first, in_rest, split) among =
    let at : place + suc (length listings) ≡ suc place + length listings = omega arith in (
      ahead,
      rest ++ more,
      in_first,
      all_more kind (suc place) listings names rest more in_rest (subst (λ (p : ℕ). AreAmong kind p names more) at among),
      ap (λ (l : List FoundFile). l ++ more) split ∙ append_assoc ahead rest more,
    )

-- What is among names.

among_found : (kind : FileKind) (place : ℕ) (names : List (List ℕ)) (files : List FoundFile) (f : FoundFile) → AreAmong kind place names files → Contains files f
    → (f.path_id ≡ place) × (f.seq < name_limit f.signed) × Contains names (name_of kind f.signed f.seq)
among_found kind place [] files f is there = absurd (in_none f (subst (λ (l : List FoundFile). Contains l f) is there))
among_found kind place (name ∷ names) files f (inl (skipped, more)) there =
    let rest = among_found kind place names files f more there in (rest.0, rest.1, later name names (name_of kind f.signed f.seq) rest.2)
among_found kind place (name ∷ names) files f (inr (file, more, built, at, split, is)) there =
    elim (first_or_later file more f (subst (λ (l : List FoundFile). Contains l f) split there)) [
      | inl same ↦ subst (λ (g : FoundFile). (g.path_id ≡ place) × (g.seq < name_limit g.signed) × Contains (name ∷ names) (name_of kind g.signed g.seq)) same
          (at, built.0, subst (Contains (name ∷ names)) built.1 (first name names))
      | inr behind ↦ (let rest = among_found kind place names more f is behind in (rest.0, rest.1, later name names (name_of kind f.signed f.seq) rest.2))
    ]

same_file : (f : FoundFile) (n place : ℕ) (signed : Bool) → f.seq ≡ n → f.path_id ≡ place → f.signed ≡ signed → f ≡ record { seq = n; path_id = place; signed = signed }
same_file f n place signed number at sign = ap (λ (m : ℕ). record f { seq = m }) number
    ∙ ap (λ (p : ℕ). record { seq = n; path_id = p; signed = f.signed }) at ∙ ap (λ (b : Bool). record { seq = n; path_id = place; signed = b }) sign

among_all : (kind : FileKind) (place : ℕ) (names : List (List ℕ)) (files : List FoundFile) (signed : Bool) (n : ℕ) → AreAmong kind place names files → n < name_limit signed
    → Contains names (name_of kind signed n) → Contains files (record { seq = n; path_id = place; signed = signed })
among_all kind place [] files signed n is room there = absurd (in_none (name_of kind signed n) there)
among_all kind place (name ∷ names) files signed n (inl (skipped, more)) room there =
    elim (first_or_later name names (name_of kind signed n) there) [
      | inl same ↦ absurd (skipped n (subst (λ (l : List ℕ). IsNamed (end_of kind) l n) (sym same) (named_of kind signed n (limit_small signed n room))))
      | inr behind ↦ among_all kind place names files signed n more room behind
    ]
among_all kind place (name ∷ names) files signed n (inr (file, more, named, at, split, is)) room there =
    subst (λ (l : List FoundFile). Contains l (record { seq = n; path_id = place; signed = signed })) (sym split)
    (elim (first_or_later name names (name_of kind signed n) there) [
      | inl same ↦ (let number = name_one kind file.signed file.seq n name named (subst (λ (l : List ℕ). IsNamed (end_of kind) l n) (sym same) (named_of kind signed n (limit_small signed n room))) in
          let sign = sign_one kind file.signed signed file.seq n name named (room, same) in
          subst (Contains (file ∷ more)) (same_file file n place signed number at sign) (first file more))
      | inr behind ↦ later file more (record { seq = n; path_id = place; signed = signed }) (among_all kind place names more signed n is room behind)
    ])

among_once : (kind : FileKind) (place : ℕ) (names : List (List ℕ)) (files : List FoundFile) → AreDistinct names → AreAmong kind place names files → AreDistinct files
among_once kind place [] files distinct is = subst AreDistinct (sym is) tt
among_once kind place (name ∷ names) files (lone, distinct) (inl (skipped, more)) = among_once kind place names files distinct more
among_once kind place (name ∷ names) files (lone, distinct) (inr (file, more, built, at, split, is)) =
    subst AreDistinct (sym split) (
      (λ again. lone (subst (Contains names) (sym built.1) (among_found kind place names more file is again).2)),
      among_once kind place names more distinct is,
    )

among_named : (kind : FileKind) (place : ℕ) (names : List (List ℕ)) (files : List FoundFile) (x : List ℕ) → AreAmong kind place names files → Contains names x → IsMisnamed kind x → ⊥
among_named kind place [] files x is there misnamed = in_none x there
among_named kind place (name ∷ names) files x (inl (skipped, more)) there (n, named, other) =
    elim (first_or_later name names x there) [
      | inl same ↦ skipped n (subst (λ (l : List ℕ). IsNamed (end_of kind) l n) (sym same) named)
      | inr behind ↦ among_named kind place names files x more behind (n, named, other)
    ]
among_named kind place (name ∷ names) files x (inr (file, more, is_named, at, split, is)) there (n, named, other) =
    elim (first_or_later name names x there) [
      | inl same ↦ (let its = subst (IsNameOf kind file.signed file.seq) same is_named in
          other file.signed (subst (λ (m : ℕ). IsNameOf kind file.signed m x) (name_one kind file.signed file.seq n x its named) its))
      | inr behind ↦ among_named kind place names more x is behind (n, named, other)
    ]

-- What lies in directories, from a place on.

abbrev LiesFrom : FileKind → ℕ → List (List ℕ) → Disk → FoundFile → Type 0
LiesFrom kind place directories d file = (j : ℕ) × (place + j ≡ file.path_id) × (j < length directories) × (file.seq < name_limit file.signed)
    × (d.names (get_or directories j [] ++ 47 ∷ name_of kind file.signed file.seq) ≡ None → ⊥)

record AreFrom (kind : FileKind) (place : ℕ) (directories : List (List ℕ)) (d : Disk) (files : List FoundFile) : Type 0 where
  found : (file : FoundFile) → Contains files file → LiesFrom kind place directories d file
  all : (file : FoundFile) → LiesFrom kind place directories d file → Contains files file
  once : AreDistinct files
  named : (name : List ℕ) → HasName directories d name → IsMisnamed kind name → ⊥

from_none : (kind : FileKind) (place : ℕ) (d : Disk) → AreFrom kind place [] d []
from_none kind place d = record {
  found = λ file there. absurd (in_none file there);
  all = λ file lies. absurd (omega (arith, lies.2));
  once = tt;
  named = λ name has misnamed. in_none has.directory has.listed;
}

from_more : (kind : FileKind) (place : ℕ) (directory : List ℕ) (directories : List (List ℕ)) (names : List (List ℕ)) (d : Disk) (ahead more : List FoundFile)
    → IsListing directory d names → AreAmong kind place names ahead → AreFrom kind (suc place) directories d more → AreFrom kind place (directory ∷ directories) d (ahead ++ more)
from_more kind place directory directories names d ahead more listing among rest = record {
  found = λ file there. elim (Contains-append_cases ahead more file there) [
    | inl before ↦ (let is = among_found kind place names ahead file among before in
        (0, omega (arith, is.0), omega arith, is.1, (listing.listed (name_of kind file.signed file.seq) is.2).0))
    | inr behind ↦ (let is = rest.found file behind in (suc is.0, omega (arith, is.1), omega (arith, is.2), is.3, is.4))
  ];
  all = all;
  once = distinct_append ahead more (among_once kind place names ahead (distinct_names names listing.once) among) rest.once
      (λ file before behind. let is = among_found kind place names ahead file among before in let lies = rest.found file behind in omega (arith, is.0, lies.1));
  named = λ name has misnamed. elim (first_or_later directory directories has.directory has.listed) [
    | inl same ↦ among_named kind place names ahead name among
        (listing.all name has.plain (subst (λ (l : List ℕ). d.names (l ++ 47 ∷ name) ≡ None → ⊥) (sym same) has.there)) misnamed
    | inr behind ↦ rest.named name (record { directory = has.directory; listed = behind; plain = has.plain; there = has.there }) misnamed
  ];
}
  where
    all : (file : FoundFile) → LiesFrom kind place (directory ∷ directories) d file → Contains (ahead ++ more) file
    all file (zero, at, lt, small, there) =
        let place_is : place ≡ file.path_id = omega (arith, at) in
        let one : record { seq = file.seq; path_id = place; signed = file.signed } ≡ file = ap (λ (p : ℕ). record file { path_id = p }) place_is in
        Contains-append_left ahead more file (subst (Contains ahead) one (among_all kind place names ahead file.signed file.seq among small
        (listing.all (name_of kind file.signed file.seq) (name_plain kind file.signed file.seq (limit_small file.signed file.seq small)) there)))
    all file (suc j, at, lt, small, there) = Contains-append_right ahead more file (rest.all file (j, omega (arith, at), omega (arith, lt), small, there))

from_all : (kind : FileKind) (place : ℕ) (directories : List (List ℕ)) (listings : List (List (List ℕ))) (d : Disk) (files : List FoundFile)
    → AllZip (λ directory names. IsListing directory d names) directories listings → AreAmongAll kind place listings files → AreFrom kind place directories d files
from_all kind place [] [] d files zip is = subst (AreFrom kind place [] d) (sym is) (from_none kind place d)
from_all kind place [] (l ∷ ls) d files zip is = absurd zip
from_all kind place (p ∷ ps) [] d files zip is = absurd zip
from_all kind place (p ∷ ps) (l ∷ ls) d files (listing, zip) (ahead, more, among, in_rest, split) =
    subst (AreFrom kind place (p ∷ ps) d) (sym split) (from_more kind place p ps l d ahead more listing among (from_all kind (suc place) ps ls d more zip in_rest))

pub are_files_in : (kind : FileKind) (directories : List (List ℕ)) (listings : List (List (List ℕ))) (d : Disk) (files : List FoundFile)
    → AllZip (λ directory names. IsListing directory d names) directories listings → AreAmongAll kind 0 listings files → AreFilesIn kind directories d files
are_files_in kind directories listings d files zip is =
    let from = from_all kind 0 directories listings d files zip is in
    record {
      found = λ file there. to (from.found file there);
      all = λ file lies. from.all file (file.path_id, omega arith, lies.listed, lies.small, lies.there);
      once = from.once;
      named = from.named;
    }
  where
    to : {file : FoundFile} → LiesFrom kind 0 directories d file → FileLiesIn kind directories d file
    to {file} (j, at, lt, small, there) =
        let is : j ≡ file.path_id = omega (arith, at) in
        record {
          listed = omega (arith, is, lt);
          small = small;
          there = subst (λ (p : ℕ). d.names (get_or directories p [] ++ 47 ∷ name_of kind file.signed file.seq) ≡ None → ⊥) is there;
        }

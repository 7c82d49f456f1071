-- The space that a directory's files use, entry by entry, and what is told of it.
use Rattle.std.specs.Prelude.{◌≡◌, ℕ, ◌-◌, ◌+◌, ◌++◌, Bool, true, false, Option, Some, None, List, [], ◌∷◌, ◌<◌, length, take, sum_by, Result, Ok, Err}
use Rattle.std.specs.Result.{IfErr, OnOk, OnErr}
use Rattle.std.specs.String.{string_bytes, string_cmp}
use Rattle.std.specs.BTreeMap.{BTreeMap, get_by_text, IsOrdered}
use Rattle.std.specs.declared.io.ErrorKind.{ErrorKind}
use Rattle.std.proofs.Common.{refl, sym, ◌∙◌, ap, subst, arith, inl, inr, Global, String}
use Rattle.std.proofs.lemmas.List.{length-take}
use Rattle.std.proofs.lemmas.List.Sums.{sum_by_push}
use Rattle.raft_log_fs.specs.Disk.{Change, ShortenedTo, Disk, IsPathIn}
use Rattle.raft_log_fs_state.specs.declared.storage.Node.{Node}
use Rattle.raft_log_fs_state.specs.declared.storage.Storage.{Storage}
use Rattle.raft_log_fs_state.specs.Storage.{contents_of, file_named}
use Rattle.raft_log_fs_state.specs.Steps.{GrowsPast, IsRoomFault}
use Rattle.raft_log_fs_state.specs.Listing.{IsChild, ListsNames}
use Rattle.raft_log_fs_state.proofs.Public.{file_node, found_stands, listing, names_more, names_skip, stands_pushed, Stands}
use Rattle.raft_log_fs_memory.specs.declared.memory.MemoryFileSystem.{MemoryFileSystem}
use Rattle.raft_log_fs_memory.specs.Memory.{disk_of}
use Rattle.raft_log_fs_memory.specs.Space.{size_at, ListsFiles, HasUsed, LiesIn, MayGrowBy}
use Rattle.raft_log_fs_memory.specs.Turns.{armed, HasSpaceFor, NoRoomFor}
use Rattle.raft_log_fs_memory.proofs.Once.{grows_once}

-- what is left of a space for those of a directory's files that stand among these entries
pub record LeavesSoFar (directory : List ℕ) (d : Disk) (space : ℕ) (entries : List (String Global × Node)) (left : ℕ) : Type 0 where
  pub names : List (List ℕ)
  pub listed : ListsNames directory entries names
  pub is : left ≡ space - sum_by (λ name. size_at d (directory ++ 47 ∷ name)) names

pub so_far_skip : (directory : List ℕ) (d : Disk) (space : ℕ) (es : List (String Global × Node)) (e : String Global × Node) (left : ℕ) → LeavesSoFar directory d space es left
    → ((name : List ℕ) → IsChild directory (string_bytes e.0) e.1 name → ⊥) → LeavesSoFar directory d space (es ++ e ∷ []) left
so_far_skip directory d space es e left before other = record { names = before.names; listed = names_skip directory es e before.names before.listed other; is = before.is }

pub so_far_more : (directory : List ℕ) (d : Disk) (space : ℕ) (es : List (String Global × Node)) (e : String Global × Node) (name : List ℕ) (left size next : ℕ)
    → LeavesSoFar directory d space es left → IsChild directory (string_bytes e.0) e.1 name → size ≡ size_at d (string_bytes e.0) → next ≡ left - size
    → LeavesSoFar directory d space (es ++ e ∷ []) next
so_far_more directory d space es e name left size next before child has is =
    let f : List ℕ → ℕ = λ n. size_at d (directory ++ 47 ∷ n) in
    let own : size ≡ f name = has ∙ ap (size_at d) child.joined in
    let more : sum_by f (before.names ++ name ∷ []) ≡ sum_by f before.names + f name = sum_by_push f before.names name in
    let was : left ≡ space - sum_by f before.names = before.is in
    record { names = before.names ++ name ∷ []; listed = names_more directory es e before.names name before.listed child; is = omega (arith, own, more, was, is) }

-- the names of a directory's files, made entry by entry
pub files_listed : (directory : List ℕ) (d : Disk) (paths : BTreeMap (String Global) Node) (names : List (List ℕ)) → ((path : List ℕ) → d.names path ≡ file_named (get_by_text paths path))
    → IsOrdered string_cmp paths → ListsNames directory paths.entries names → ListsFiles directory d names
files_listed directory d paths names at sorted is =
    let there : Disk = record d { directories = λ path. true; stopped = false } in
    let all = listing directory there paths names refl refl at sorted is in
    record { listed = all.listed; all = all.all; once = all.once }

-- all entries were gone through
pub so_far_all : (directory : List ℕ) (d : Disk) (space left : ℕ) (paths : BTreeMap (String Global) Node) → ((path : List ℕ) → d.names path ≡ file_named (get_by_text paths path))
    → IsOrdered string_cmp paths → LeavesSoFar directory d space paths.entries left → (used : ℕ) × HasUsed directory d used × (left ≡ space - used)
so_far_all directory d space left paths at sorted all = (
  sum_by (λ name. size_at d (directory ++ 47 ∷ name)) all.names,
  record { names = all.names; listed = files_listed directory d paths all.names at sorted all.listed; sum = refl },
  all.is,
)

-- none of these entries is the path of a file in a directory
abbrev pub NoneLiesIn : List (String Global × Node) → ℕ → List ℕ → Disk → Type 0
NoneLiesIn entries id directory d = (path : List ℕ) (node : Node) → Stands entries path node → d.names path ≡ Some id → IsPathIn directory path → ⊥

pub none_more : (es : List (String Global × Node)) (e : String Global × Node) (id : ℕ) (directory : List ℕ) (d : Disk) → NoneLiesIn es id directory d
    → (d.names (string_bytes e.0) ≡ Some id → IsPathIn directory (string_bytes e.0) → ⊥) → NoneLiesIn (es ++ e ∷ []) id directory d
none_more es e id directory d before other path node stands named inside = elim (stands_pushed es e path node stands) [
  | inl there ↦ before path node there named inside
  | inr last ↦ other (ap d.names last ∙ named) (subst (IsPathIn directory) (sym last) inside)
]

-- so it lies elsewhere
pub lies_elsewhere : (id : ℕ) (directory : List ℕ) (d : Disk) (paths : BTreeMap (String Global) Node) → ((path : List ℕ) → d.names path ≡ file_named (get_by_text paths path))
    → NoneLiesIn paths.entries id directory d → LiesIn id directory d → ⊥
lies_elsewhere id directory d paths at none lies =
    let named : file_named (get_by_text paths lies.path) ≡ Some id = sym (at lies.path) ∙ lies.named in
    let found = file_node (get_by_text paths lies.path) (λ unnamed. let gone : None ≡ Some id = sym unnamed ∙ named in cc) in
    none lies.path found.0 (found_stands paths.entries lies.path found.0 found.1) lies.named lies.inside

-- no space is set for a directory that none of these entries has
pub no_space : (spaces : BTreeMap (String Global) ℕ) (P : List ℕ → Type 0) → ((directory : List ℕ) (space : ℕ) → Stands spaces.entries directory space → P directory → ⊥)
    → (directory : List ℕ) → P directory → get_by_text spaces directory ≡ None
no_space spaces P none directory holds = cases (get_by_text spaces directory) (λ space is. none directory space (found_stands spaces.entries directory space is) holds)
  where
    cases : (o : Option ℕ) → ((space : ℕ) → o ≡ Some space → ⊥) → o ≡ None
    cases None each = refl
    cases (Some space) each = absurd (each space refl)

-- A change that would make its file grow too far, on the disk of a file system as on what it holds.
grows_here : (free id : ℕ) (change : Change) (system : MemoryFileSystem) → GrowsPast free id change (contents_of system.storage) → GrowsPast free id change (disk_of system)
grows_here free id change system grows = record { file = grows.file; is = grows.is; past = grows.past }

grows_there : (free id : ℕ) (change : Change) (system : MemoryFileSystem) → GrowsPast free id change (disk_of system) → GrowsPast free id change (contents_of system.storage)
grows_there free id change system grows = record { file = grows.file; is = grows.is; past = grows.past }

-- why there was no room, as the file system has it
pub room_told : (done : Result (Unit {0}) ErrorKind) (free id : ℕ) (change : Change) (old begun : MemoryFileSystem) → MayGrowBy (armed old).spaces id (disk_of old) free → begun.storage ≡ old.storage
    → IfErr done (IsRoomFault free id change (contents_of begun.storage)) → IfErr done (NoRoomFor id change old)
room_told (Ok v) free id change old begun may same fault = tt
room_told (Err e) free id change old begun may same (inl short) = inl short
room_told (Err e) free id change old begun may same (inr (full, inl long)) = inr (full, inl long)
room_told (Err e) free id change old begun may same (inr (full, inr grows)) =
    inr (full, inr (free, may, grows_here free id change old (subst (λ (s : Storage). GrowsPast free id change (contents_of s)) same grows)))

-- there was space for a change that was made
space_is : (free id : ℕ) (change : Change) (system : MemoryFileSystem) → MayGrowBy (armed system).spaces id (disk_of system) free
    → (GrowsPast free id change (contents_of system.storage) → ⊥) → HasSpaceFor id change system
space_is free id change system may fits (other, may_other, grows) =
    let same : other ≡ free = grows_once (armed system).spaces id (disk_of system) other free system.whole.sound.one_name may_other may in
    fits (grows_there free id change system (subst (λ (n : ℕ). GrowsPast n id change (disk_of system)) same grows))

pub space_had : (done : Result (Unit {0}) ErrorKind) (free id : ℕ) (change : Change) (old begun : MemoryFileSystem) → MayGrowBy (armed old).spaces id (disk_of old) free → begun.storage ≡ old.storage
    → OnOk done (GrowsPast free id change (contents_of begun.storage) → ⊥) → OnOk done (HasSpaceFor id change old)
space_had (Ok v) free id change old begun may same fits =
    space_is free id change old may (subst (λ (s : Storage). GrowsPast free id change (contents_of s) → ⊥) same fits)
space_had (Err e) free id change old begun may same fits = tt

-- and so for one that was answered
pub space_found : {T : Type 0} (result : Result T ErrorKind) (done : Result (Unit {0}) ErrorKind) (stops : Bool) (id : ℕ) (change : Change) (old : MemoryFileSystem) (mid new : Disk)
    → OnOk done (HasSpaceFor id change old) → OnOk result ((stops ≡ false) × OnErr done ⊥ × (new ≡ mid)) → OnOk result (HasSpaceFor id change old)
space_found (Ok w) (Ok v) stops id change old mid new space ok = space
space_found (Ok w) (Err e) stops id change old mid new space ok = absurd (ok.1)
space_found (Err e) done stops id change old mid new space ok = tt

-- a shortening needs none
pub space_to_shorten : (done : Result (Unit {0}) ErrorKind) (id size : ℕ) (old : MemoryFileSystem) → OnOk done (HasSpaceFor id (ShortenedTo size) old)
space_to_shorten (Ok v) id size old = λ lacks.
    let grows = lacks.2 in
    let past : length grows.file.content + lacks.0 < length (take size grows.file.content) = grows.past in
    omega (arith, past, length-take size grows.file.content)
space_to_shorten (Err e) id size old = tt

-- One file after the other is done, one directory after the other cleared.
use Rattle.std.specs.String.{string_bytes}
use Rattle.std.proofs.Common.{◌≡◌, ℕ, ◌+◌, ◌<◌, List, [], ◌∷◌, ◌++◌, String, Global, length, map, take, drop, get_or, refl, sym, ap, subst, inl, inr, ◌∙◌}
use Rattle.std.proofs.lemmas.List.{drop_more, map-append, take-append-drop, take_more}
use Rattle.raft_log_record_base.specs.declared.errors.Error.{Error}
use Rattle.raft_log_record_base.specs.declared.errors.Error.TheVariants as errors
use Rattle.raft_log_record_base.specs.declared.pipe_log.FileId.{FileId}
use Rattle.std.specs.declared.io.ErrorKind.{ErrorKind}
use Rattle.raft_log_fs.specs.Disk.{Disk}
use Rattle.raft_log_open.specs.Replacing.{FailsToReplace}
use Rattle.raft_log_open.specs.Unpadding.{ClearsAll, ClearsOne, FailsToClearAll, FailsToClearOne, FailsToUnpadAll, FailsToUnpadOne, LeavesAlone, UnpadsAll, WritesAnew}
use Rattle.raft_log_open.specs.declared.placed_file.PlacedFile.{PlacedFile}

-- a file behind others that was left alone
pub left_more : (before : List PlacedFile) (file : PlacedFile) (written : List FileId) (old mid new : Disk) → UnpadsAll before written old mid → LeavesAlone file mid new
    → UnpadsAll (before ++ file ∷ []) written old new
left_more [] file written old mid new (none, same) leaves = (new, inl (subst (λ (d : Disk). LeavesAlone file d new) same leaves, (none, refl)))
left_more (f ∷ fs) file written old mid new (next, inl (left, rest)) leaves = (next, inl (left, left_more fs file written next mid new rest leaves))
left_more (f ∷ fs) file written old mid new (next, inr (more, is, wrote, rest)) leaves = (next, inr (more, is, wrote, left_more fs file more next mid new rest leaves))

-- and one that was written anew
pub written_more : (before : List PlacedFile) (file : PlacedFile) (written : List FileId) (old mid new : Disk) → UnpadsAll before written old mid → WritesAnew file mid new
    → UnpadsAll (before ++ file ∷ []) (written ++ file.id ∷ []) old new
written_more [] file written old mid new (none, same) writes =
    (new, inr ([], ap (λ (l : List FileId). l ++ file.id ∷ []) none, subst (λ (d : Disk). WritesAnew file d new) same writes, (refl, refl)))
written_more (f ∷ fs) file written old mid new (next, inl (left, rest)) writes = (next, inl (left, written_more fs file written next mid new rest writes))
written_more (f ∷ fs) file written old mid new (next, inr (more, is, wrote, rest)) writes =
    (next, inr (more ++ file.id ∷ [], ap (λ (l : List FileId). l ++ file.id ∷ []) is, wrote, written_more fs file more next mid new rest writes))

-- a directory behind others
pub clears_more : (before : List (List ℕ)) (directory : List ℕ) (old mid new : Disk) → ClearsAll before old mid → ClearsOne directory mid new → ClearsAll (before ++ directory ∷ []) old new
clears_more [] directory old mid new same clears = (new, subst (λ (d : Disk). ClearsOne directory d new) same clears, refl)
clears_more (d ∷ ds) directory old mid new (next, first, rest) clears = (next, first, clears_more ds directory next mid new rest clears)

-- The same in the order of a list.

so_far : {X : Type 0} (xs : List X) (i : ℕ) (x : X) → i < length xs → x ≡ get_or xs i x → take (i + 1) xs ≡ take i xs ++ x ∷ []
so_far xs i x lt is = take_more xs i x lt ∙ ap (λ y. take i xs ++ y ∷ []) (sym is)

split : {X : Type 0} (xs : List X) (i : ℕ) (x : X) → i < length xs → x ≡ get_or xs i x → xs ≡ take i xs ++ x ∷ drop (i + 1) xs
split xs i x lt is = sym (take-append-drop i xs) ∙ ap (λ l. take i xs ++ l) (drop_more xs i x lt ∙ ap (λ y. y ∷ drop (i + 1) xs) (sym is))

pub left_next : (files : List PlacedFile) (i : ℕ) (file : PlacedFile) (written : List FileId) (old mid new : Disk) → i < length files → file ≡ get_or files i file → UnpadsAll (take i files) written old mid
    → LeavesAlone file mid new → UnpadsAll (take (i + 1) files) written old new
left_next files i file written old mid new lt is done leaves =
    subst (λ (l : List PlacedFile). UnpadsAll l written old new) (sym (so_far files i file lt is)) (left_more (take i files) file written old mid new done leaves)

pub written_next : (files : List PlacedFile) (i : ℕ) (file : PlacedFile) (written : List FileId) (old mid new : Disk) → i < length files → file ≡ get_or files i file → UnpadsAll (take i files) written old mid
    → WritesAnew file mid new → UnpadsAll (take (i + 1) files) (written ++ file.id ∷ []) old new
written_next files i file written old mid new lt is done writes =
    subst (λ (l : List PlacedFile). UnpadsAll l (written ++ file.id ∷ []) old new) (sym (so_far files i file lt is)) (written_more (take i files) file written old mid new done writes)

pub undone : (files : List PlacedFile) (i : ℕ) (file : PlacedFile) (written : List FileId) (error : Error) (old mid new : Disk) → i < length files → file ≡ get_or files i file
    → UnpadsAll (take i files) written old mid → FailsToUnpadOne file error mid new → FailsToUnpadAll files error old new
undone files i file written error old mid new lt is done fails =
    record { before = take i files; file = file; behind = drop (i + 1) files; split = split files i file lt is; written = written; between = mid; first = done; fails = inl fails }

pub untold : (files : List PlacedFile) (i : ℕ) (file : PlacedFile) (written : List FileId) (error : Error) (old mid new : Disk) → i < length files → file ≡ get_or files i file
    → UnpadsAll (take i files) written old mid → WritesAnew file mid new → error ≡ errors.Memory → FailsToUnpadAll files error old new
untold files i file written error old mid new lt is done writes short =
    record { before = take i files; file = file; behind = drop (i + 1) files; split = split files i file lt is; written = written; between = mid; first = done; fails = inr (writes, short) }

pub cleared_next : (paths : List (String Global)) (i : ℕ) (path : String Global) (old mid new : Disk) → i < length paths → path ≡ get_or paths i path → ClearsAll (map string_bytes (take i paths)) old mid
    → ClearsOne (string_bytes path) mid new → ClearsAll (map string_bytes (take (i + 1) paths)) old new
cleared_next paths i path old mid new lt is done clears =
    subst (λ (l : List (List ℕ)). ClearsAll l old new) (sym (ap (map string_bytes) (so_far paths i path lt is) ∙ map-append string_bytes (take i paths) (path ∷ [])))
    (clears_more (map string_bytes (take i paths)) (string_bytes path) old mid new done clears)

pub uncleared_next : (paths : List (String Global)) (i : ℕ) (path : String Global) (error : Error) (old mid new : Disk) → i < length paths → path ≡ get_or paths i path
    → ClearsAll (map string_bytes (take i paths)) old mid → FailsToClearOne (string_bytes path) error mid new → FailsToClearAll (map string_bytes paths) error old new
uncleared_next paths i path error old mid new lt is done fails = record {
  before = map string_bytes (take i paths);
  directory = string_bytes path;
  behind = map string_bytes (drop (i + 1) paths);
  split = ap (map string_bytes) (split paths i path lt is) ∙ map-append string_bytes (take i paths) (path ∷ drop (i + 1) paths);
  between = mid;
  first = done;
  fails = fails;
}

-- the same refusal, by other names of what was asked for
pub fails_at : (t p b temporary path bytes : List ℕ) (kind : ErrorKind) (old new : Disk) → t ≡ temporary → p ≡ path → b ≡ bytes → FailsToReplace t p b kind old new
    → FailsToReplace temporary path bytes kind old new
fails_at t p b temporary path bytes kind old new x y z fails =
    subst (λ (l : List ℕ). FailsToReplace l path bytes kind old new) x (subst (λ (l : List ℕ). FailsToReplace t l bytes kind old new) y (subst (λ (l : List ℕ). FailsToReplace t p l kind old new) z fails))

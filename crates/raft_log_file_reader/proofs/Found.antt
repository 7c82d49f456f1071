-- Log files are found one name after another.
use Rattle.std.proofs.Common.{◌≡◌, ℕ, ◌+◌, ◌<◌, List, [], ◌∷◌, ◌++◌, String, Global, length, map, take, get_or, refl, ap, sym, ◌∙◌, inl, inr}
use Rattle.std.proofs.lemmas.List.{take_more, map-append}
use Rattle.std.specs.String.{string_bytes}
use Rattle.raft_log_record_base.specs.declared.pipe_log.FileId.{FileId}
use Rattle.raft_log_file_reader.specs.Files.{IsNameOf, AreFoundAmong}
use Rattle.raft_log_file_reader.specs.declared.log_file.LogFile.{LogFile}

pub found_other : (directory name : List ℕ) (names : List (List ℕ)) (files : List LogFile) → AreFoundAmong directory names files → ((id : FileId) → IsNameOf id name → ⊥)
    → AreFoundAmong directory (names ++ name ∷ []) files
found_other directory name [] files is other = inl (other, is)
found_other directory name (first ∷ names) files (inl (skipped, more)) other = inl (skipped, found_other directory name names files more other)
found_other directory name (first ∷ names) files (inr (file, rest, named, by, split, more)) other = inr (file, rest, named, by, split, found_other directory name names rest more other)

pub found_more : (directory name : List ℕ) (names : List (List ℕ)) (files : List LogFile) (file : LogFile) → AreFoundAmong directory names files → IsNameOf file.id name
    → string_bytes file.path ≡ directory ++ 47 ∷ name → AreFoundAmong directory (names ++ name ∷ []) (files ++ file ∷ [])
found_more directory name [] files file is named by = inr (file, [], named, by, ap (λ (l : List LogFile). l ++ file ∷ []) is, refl)
found_more directory name (first ∷ names) files file (inl (skipped, more)) named by = inl (skipped, found_more directory name names files file more named by)
found_more directory name (first ∷ names) files file (inr (found, rest, is, at, split, more)) named by =
    inr (found, rest ++ file ∷ [], is, at, ap (λ (l : List LogFile). l ++ file ∷ []) split, found_more directory name names rest file more named by)

pub names_so_far : (names : List (String Global)) (i : ℕ) (name : String Global) → i < length names → name ≡ get_or names i name
    → map string_bytes (take (i + 1) names) ≡ map string_bytes (take i names) ++ string_bytes name ∷ []
names_so_far names i name lt is =
    ap (map string_bytes) (take_more names i name lt) ∙ (map-append string_bytes (take i names) (get_or names i name ∷ [])
    ∙ ap (λ (n : String Global). map string_bytes (take i names) ++ string_bytes n ∷ []) (sym is))

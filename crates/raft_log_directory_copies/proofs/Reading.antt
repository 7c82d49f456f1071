-- Files are gathered, one after the other.
use Rattle.std.specs.List.{All}
use Rattle.std.specs.String.{string_bytes}
use Rattle.std.proofs.Common.{◌≡◌, ℕ, ◌+◌, ◌<◌, List, [], ◌∷◌, ◌++◌, String, Global, length, map, take, get_or, sym, ◌∙◌, ap, subst}
use Rattle.std.proofs.lemmas.List.{take_more, map-append}
use Rattle.std.proofs.lemmas.List.Elements.{All-push}
use Rattle.raft_log_fs.specs.Disk.{Disk}
use Rattle.raft_log_directory_copies.specs.declared.stored_file.StoredFile.{StoredFile}
use Rattle.raft_log_directory_copies.specs.Copies.{HasContent, name_of, names_of, path_in}

-- the files of these names are there, with their bytes
abbrev pub AreRead : List StoredFile → List (List ℕ) → List ℕ → Disk → Type 0
AreRead files names directory d =
    (names_of files ≡ names) × All (λ (file : StoredFile). HasContent (path_in directory (name_of file)) file.bytes.items d) files

pub read_more : (files : List StoredFile) (file : StoredFile) (names : List (List ℕ)) (name directory : List ℕ) (d : Disk) → AreRead files names directory d
    → name_of file ≡ name → HasContent (path_in directory name) file.bytes.items d → AreRead (files ++ file ∷ []) (names ++ name ∷ []) directory d
read_more files file names name directory d (same, read) is has = (
  map-append name_of files (file ∷ []) ∙ (ap (λ (l : List (List ℕ)). l ++ name_of file ∷ []) same ∙ ap (λ (n : List ℕ). names ++ n ∷ []) is),
  All-push (λ (one : StoredFile). HasContent (path_in directory (name_of one)) one.bytes.items d) files file read
      (subst (λ (n : List ℕ). HasContent (path_in directory n) file.bytes.items d) (sym is) has),
)

-- one more in the order of the names
pub read_next : (files new : List StoredFile) (file : StoredFile) (names : List (String Global)) (i : ℕ) (name : String Global) (said directory : List ℕ) (d : Disk)
    → i < length names → name ≡ get_or names i name → said ≡ string_bytes name → name_of file ≡ said → HasContent (path_in directory said) file.bytes.items d → new ≡ files ++ file ∷ []
    → AreRead files (map string_bytes (take i names)) directory d → AreRead new (map string_bytes (take (i + 1) names)) directory d
read_next files new file names i name said directory d lt is same called has pushed read =
    let more : map string_bytes (take (i + 1) names) ≡ map string_bytes (take i names) ++ said ∷ [] =
    ap (map string_bytes) (take_more names i name lt ∙ ap (λ (n : String Global). take i names ++ n ∷ []) (sym is))
    ∙ (map-append string_bytes (take i names) (name ∷ []) ∙ ap (λ (n : List ℕ). map string_bytes (take i names) ++ n ∷ []) (sym same)) in
    subst (λ (l : List StoredFile). AreRead l (map string_bytes (take (i + 1) names)) directory d) (sym pushed)
    (subst (λ (l : List (List ℕ)). AreRead (files ++ file ∷ []) l directory d) (sym more) (read_more files file (map string_bytes (take i names)) said directory d read called has))

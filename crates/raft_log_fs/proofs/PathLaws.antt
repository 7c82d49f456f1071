-- A path lies in one directory.
use Rattle.std.specs.Prelude.{◌≡◌, ℕ, ◌<◌, true, List, [], ◌∷◌, ◌++◌, length}
use Rattle.std.proofs.Common.{refl, sym, ◌∙◌, ap, arith, get_or}
use Rattle.std.proofs.lemmas.List.{length-append}
use Rattle.raft_log_fs.specs.Disk.{Disk, HasDirectory, IsPathIn, IsPlain}

pub slash_in : (directory name : List ℕ) → get_or (directory ++ 47 ∷ name) (length directory) 0 ≡ 47
slash_in [] name = refl
slash_in (b ∷ bs) name = slash_in bs name

-- a name without a slash is no path
pub no_path : (path directory : List ℕ) → ((i : ℕ) → i < length path → get_or path i 0 ≡ 47 → ⊥) → IsPathIn directory path → ⊥
no_path path directory none inside =
    none (length directory) (omega (arith, ap length inside.joined, length-append directory (47 ∷ inside.name)))
    (ap (λ (xs : List ℕ). get_or xs (length directory) 0) inside.joined ∙ slash_in directory inside.name)

one_directory : (a b m n : List ℕ) → IsPlain m → IsPlain n → a ++ 47 ∷ m ≡ b ++ 47 ∷ n → a ≡ b
one_directory [] [] m n plain_m plain_n same = refl
one_directory [] (y ∷ ys) m n plain_m plain_n same =
    let behind : m ≡ ys ++ 47 ∷ n = cc in
    absurd (no_path m ys plain_m (record { name = n; joined = behind; plain = plain_n }))
one_directory (x ∷ xs) [] m n plain_m plain_n same =
    let behind : n ≡ xs ++ 47 ∷ m = cc in
    absurd (no_path n xs plain_n (record { name = m; joined = behind; plain = plain_m }))
one_directory (x ∷ xs) (y ∷ ys) m n plain_m plain_n same =
    let first : x ≡ y = cc in
    let behind : xs ++ 47 ∷ m ≡ ys ++ 47 ∷ n = cc in
    ap (λ (b : ℕ). b ∷ xs) first ∙ ap (λ (q : List ℕ). y ∷ q) (one_directory xs ys m n plain_m plain_n behind)

pub path_directory : (a b path : List ℕ) → IsPathIn a path → IsPathIn b path → a ≡ b
path_directory a b path one other = one_directory a b one.name other.name one.plain other.plain (sym one.joined ∙ other.joined)

-- where a path has its directory, the one that it lies in is there
pub home_there : (directory path : List ℕ) (d : Disk) → HasDirectory path d → IsPathIn directory path → d.directories directory ≡ true
home_there directory path d home inside = ap d.directories (path_directory directory home.directory path inside home.inside) ∙ home.there

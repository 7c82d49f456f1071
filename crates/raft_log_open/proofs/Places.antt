-- The files of a log and their paths.
use Rattle.std.specs.Prelude.{Contains, All, codes, replicate}
use Rattle.std.specs.List.{AllZip}
use Rattle.std.specs.Fmt.{decimal}
use Rattle.std.specs.String.{string_bytes}
use Rattle.std.proofs.Common.{◌≡◌, ℕ, ◌-◌, ◌^◌, ◌≤◌, Bool, true, false, cond, nat_lt, List, [], ◌∷◌, ◌++◌, String, Global, get_or, length, map, refl, sym, ap, subst, inl, inr, ◌∙◌, arith}
use Rattle.std.proofs.lemmas.List.{append_cancel_left, length-append, length-map, length-replicate}
use Rattle.std.proofs.lemmas.List.Elements.{All-weaker, Contains-append_cases}
use Rattle.raft_log_record_base.specs.declared.pipe_log.LogQueue.{LogQueue}
use Rattle.raft_log_record_base.specs.declared.pipe_log.LogQueue.TheVariants.{Append, Rewrite}
use Rattle.raft_log_fs.specs.Disk.{Disk}
use Rattle.raft_log_file_format.specs.Name.{number_text, sixteen_digits, signed_digits}
use Rattle.raft_log_recovery_scan.specs.Names.{name_of, end_of}
use Rattle.raft_log_recovery_scan.specs.Found.{AreFilesIn, FileLiesIn}
use Rattle.raft_log_recovery_scan.specs.declared.scanning.found.FoundFile.{FoundFile}
use Rattle.raft_log_recovery_scan.proofs.Public.{limit_small}
use Rattle.raft_log_offline.specs.Sources.{IsOneEach}
use Rattle.raft_log_offline.proofs.Public.{chosen_lie, first_or_later, in_none}
use Rattle.raft_log_open.specs.Placing.{AreLogFiles, IsListed, IsPlaced, kind_of}
use Rattle.raft_log_open.specs.Unpadding.{AreApart, IsApart}
use Rattle.raft_log_open.specs.declared.placed_file.PlacedFile.{PlacedFile}

-- the files that were chosen lie in one of the directories
pub chosen_listed : (queue : LogQueue) (paths : List (String Global)) (d : Disk) (found chosen : List FoundFile) → AreFilesIn (kind_of queue) (map string_bytes paths) d found → IsOneEach found chosen
    → All (IsListed (length paths)) chosen
chosen_listed queue paths d found chosen all each =
    All-weaker (FileLiesIn (kind_of queue) (map string_bytes paths) d) (IsListed (length paths))
    (λ file lies. record { listed = omega (arith, lies.listed, length-map paths string_bytes); small = limit_small file.signed file.seq lies.small }) chosen
    (chosen_lie (kind_of queue) (map string_bytes paths) d found chosen all each)

end_length : (queue : LogQueue) → length (end_of (kind_of queue)) ≡ 8
end_length Append = refl
end_length Rewrite = refl

digits_length : (n : ℕ) → 16 ≤ length (sixteen_digits n)
digits_length n =
    omega (arith, length-append (replicate (16 - length (decimal n)) 48) (decimal n), length-replicate {A = ℕ} (16 - length (decimal n)) 48)

signed_length : (n : ℕ) → 16 ≤ length (signed_digits n)
signed_length n =
    omega (arith, length-append (replicate (15 - length (decimal n)) 48) (decimal n), length-replicate {A = ℕ} (15 - length (decimal n)) 48)

text_length : (signed : Bool) (n : ℕ) → 16 ≤ length (number_text signed n)
text_length false n = digits_length n
text_length true n = pick (nat_lt n (10 ^ 15))
  where
    pick : (b : Bool) → 16 ≤ length (cond b (signed_digits n) (sixteen_digits n))
    pick true = signed_length n
    pick false = digits_length n

-- no file's name is that of a new file
name_apart : (queue : LogQueue) (signed : Bool) (n : ℕ) → name_of (kind_of queue) signed n ≡ codes "unpadded" → ⊥
name_apart queue signed n same =
    let short : length (codes "unpadded") ≡ 8 = refl in
    omega (arith, ap length same, short, length-append (number_text signed n) (end_of (kind_of queue)), text_length signed n, end_length queue)

placed_apart : (queue : LogQueue) (directories : List (List ℕ)) (last : ℕ) (found : FoundFile) (file : PlacedFile) → IsPlaced queue directories last found file → IsApart file
placed_apart queue directories last found file is same =
    let directory = get_or directories found.path_id [] in
    let built : List ℕ = name_of (kind_of queue) found.signed found.seq in
    let both : directory ++ 47 ∷ built ≡ directory ++ 47 ∷ codes "unpadded" = sym is.path ∙ (same ∙ is.temporary) in
    let rest = append_cancel_left directory (47 ∷ built) (47 ∷ codes "unpadded") both in
    name_apart queue found.signed found.seq (let name : built ≡ codes "unpadded" = cc in name)

all_apart : (queue : LogQueue) (directories : List (List ℕ)) (last : ℕ) (chosen : List FoundFile) (files : List PlacedFile) → AllZip (IsPlaced queue directories last) chosen files → AreApart files
all_apart queue directories last [] [] zip file there = absurd (in_none file there)
all_apart queue directories last [] (f ∷ fs) zip file there = absurd zip
all_apart queue directories last (c ∷ cs) [] zip file there = absurd zip
all_apart queue directories last (c ∷ cs) (f ∷ fs) (is, zip) file there = elim (first_or_later f fs file there) [
  | inl same ↦ subst IsApart same (placed_apart queue directories last c f is)
  | inr behind ↦ all_apart queue directories last cs fs zip file behind
]

-- no file's path is that of a new one
pub log_files_apart : (directories : List (List ℕ)) (d : Disk) (files : List PlacedFile) → AreLogFiles directories d files → AreApart files
log_files_apart directories d files are file there = elim (Contains-append_cases are.rewrite are.append file (subst (λ (l : List PlacedFile). Contains l file) are.both there)) [
  | inl r ↦ all_apart Rewrite directories _ are.of_rewrite.chosen are.rewrite are.of_rewrite.placed file r
  | inr a ↦ all_apart Append directories _ are.of_append.chosen are.append are.of_append.placed file a
]

-- the number of the last file, told by another name
pub renumbered : (queue : LogQueue) (directories : List (List ℕ)) (m n : ℕ) (found : FoundFile) (file : PlacedFile) → m ≡ n → IsPlaced queue directories m found file → IsPlaced queue directories n found file
renumbered queue directories m n found file same is = subst (λ (k : ℕ). IsPlaced queue directories k found file) same is

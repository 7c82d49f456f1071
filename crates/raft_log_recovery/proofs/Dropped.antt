-- Reserved files are deleted one after the other.
use Rattle.std.proofs.Common.{append_assoc, ◌≡◌, ℕ, ◌+◌, ◌-◌, ◌<◌, ◌≤◌, List, [], ◌∷◌, ◌++◌, length, take, drop, reverse, get_or, refl, sym, ap, subst, ◌∙◌, arith, inl, inr}
use Rattle.std.specs.Prelude.{◌⊎◌}
use Rattle.std.proofs.lemmas.List.{drop-drop, drop_more, reverse-append, take-append-drop}
use Rattle.std.proofs.Math.ListN.{drop_of_length-le}
use Rattle.raft_log_record_base.specs.declared.errors.Error.{Error}
use Rattle.raft_log_fs.specs.Disk.{Disk}
use Rattle.raft_log_file_format.specs.Name.{IsNameRefusal}
use Rattle.raft_log_active_file.specs.Layout.{FilePaths}
use Rattle.raft_log_active_file.specs.declared.format.File.{File}
use Rattle.raft_log_recovery.specs.Dropping.{DropsEach, DropsOrNot, FailsToDropEach}

one_more : (paths : FilePaths) (files : List File) (file : File) (a b c : Disk) → DropsEach paths files a b → DropsOrNot paths file b c → DropsEach paths (files ++ file ∷ []) a c
one_more paths [] file a b c same one = (c, subst (λ (d : Disk). DropsOrNot paths file d c) same one, refl)
one_more paths (f ∷ fs) file a b c (mid, first, rest) one = (mid, first, one_more paths fs file mid b c rest one)

-- the files from a place on are deleted
pub record HasDropped (paths : FilePaths) (files : List File) (at left : ℕ) (old new : Disk) : Type 0 where
  pub within : at ≤ length files
  pub more : (left ≤ at) ⊎ (at ≡ length files)
  pub drops : DropsEach paths (reverse (drop at files)) old new

pub dropped_none : (paths : FilePaths) (files : List File) (left : ℕ) (d : Disk) → HasDropped paths files (length files) left d d
dropped_none paths files left d =
    let none : drop (length files) files ≡ [] = drop_of_length-le files (omega arith) in
    record { within = omega arith; more = inr refl; drops = subst (λ (l : List File). DropsEach paths (reverse l) d d) (sym none) refl }

-- one more is
pub dropped_more : (paths : FilePaths) (files : List File) (at left : ℕ) (f : File) (a b c : Disk) → left < at → HasDropped paths files at left a b → DropsOrNot paths (get_or files (at - 1) f) b c → HasDropped paths files (at - 1) left a c
dropped_more paths files at left f a b c less has one =
    let below : at - 1 < length files = omega (arith, has.within, less) in
    let next : at - 1 + 1 ≡ at = omega (arith, less) in
    let split : drop (at - 1) files ≡ get_or files (at - 1) f ∷ drop at files =
    drop_more files (at - 1) f below ∙ ap (λ (n : ℕ). get_or files (at - 1) f ∷ drop n files) next in
    record {
      within = omega (arith, below);
      more = inl (omega (arith, less));
      drops = subst (λ (l : List File). DropsEach paths l a c) (sym (ap reverse split ∙ reverse-append (get_or files (at - 1) f ∷ []) (drop at files))) (one_more paths (reverse (drop at files)) (get_or files (at - 1) f) a b c has.drops one);
    }

-- all that aren't left are
pub dropped_all : (paths : FilePaths) (files : List File) (at left : ℕ) (a b : Disk) → at ≤ left → HasDropped paths files at left a b → DropsEach paths (reverse (drop left files)) a b
dropped_all paths files at left a b less has = elim has.more [
  | inl some ↦ (let same : at ≡ left = omega (arith, less, some) in subst (λ (n : ℕ). DropsEach paths (reverse (drop n files)) a b) same has.drops)
  | inr all ↦
      let none : drop at files ≡ [] = drop_of_length-le files (omega (arith, all)) in
      let none_left : drop left files ≡ [] = drop_of_length-le files (omega (arith, all, less)) in
      subst (λ (l : List File). DropsEach paths (reverse l) a b) (none ∙ sym none_left) has.drops
]

-- the newest of the others has no name
pub dropped_short : (paths : FilePaths) (files : List File) (at left : ℕ) (f : File) (error : Error) (a b : Disk) → left < at → HasDropped paths files at left a b → IsNameRefusal (get_or files (at - 1) f).seq error
    → FailsToDropEach paths (reverse (drop left files)) error a b
dropped_short paths files at left f error a b less has fails =
    let below : at - 1 < length files = omega (arith, has.within, less) in
    let next : at - 1 + 1 ≡ at = omega (arith, less) in
    let apart : left + (at - 1 - left) ≡ at - 1 = omega (arith, less) in
    let file = get_or files (at - 1) f in
    let front = take (at - 1 - left) (drop left files) in
    let split : drop (at - 1) files ≡ file ∷ drop at files = drop_more files (at - 1) f below ∙ ap (λ (n : ℕ). file ∷ drop n files) next in
    let rest : drop (at - 1 - left) (drop left files) ≡ file ∷ drop at files = drop-drop (at - 1 - left) left files ∙ (ap (λ (n : ℕ). drop n files) apart ∙ split) in
    let all : drop left files ≡ front ++ (file ∷ drop at files) = sym (take-append-drop (at - 1 - left) (drop left files)) ∙ ap (λ (l : List File). front ++ l) rest in
    record {
      before = reverse (drop at files);
      file = file;
      behind = reverse front;
      files_are = ap reverse all ∙ (reverse-append front (file ∷ drop at files) ∙ (ap (λ (l : List File). l ++ reverse front) (reverse-append (file ∷ []) (drop at files)) ∙ append_assoc (reverse (drop at files)) (file ∷ []) (reverse front)));
      drops = has.drops;
      unnamed = fails;
    }

-- The lists of a pipe's files, as names and files change.
use Rattle.std.proofs.Common.{◌≡◌, ℕ, ◌+◌, ◌<◌, ◌≤◌, suc, Some, List, [], ◌∷◌, ◌++◌, length, false, true, cond, sym, ◌∙◌, ap, subst, inl, inr, arith}
use Rattle.std.proofs.lemmas.Bool.{cases_Bool}
use Rattle.raft_log_fs.specs.Disk.{Disk}
use Rattle.raft_log_file_writer.specs.LogFormat.{Format}
use Rattle.raft_log_active_file.specs.Standing.{Names}
use Rattle.raft_log_active_file.specs.Layout.{FilePaths, IsLayout, path_of}
use Rattle.raft_log_file_pipe.specs.Files.{Listed, IsSpan, IsKeptForUse, NoneHas, AllKept}

-- the path of a file with a number
pub path_numbered : (paths : FilePaths) (f : Listed) → f.reserved ≡ false → path_of paths f ≡ paths.numbered f.path_id f.seq
path_numbered paths f is = ap (λ b. cond b (paths.reserved f.path_id f.seq) (paths.numbered f.path_id f.seq)) is

pub path_reserved : (paths : FilePaths) (f : Listed) → f.reserved ≡ true → path_of paths f ≡ paths.reserved f.path_id f.seq
path_reserved paths f is = ap (λ b. cond b (paths.reserved f.path_id f.seq) (paths.numbered f.path_id f.seq)) is

-- the span has as many files as numbers
pub span_end : (paths : FilePaths) (N : Names) (first last : ℕ) (fs : List Listed) → IsSpan paths N first fs last → first + length fs ≡ last
span_end paths N first last [] is = omega (arith, is)
span_end paths N first last (f ∷ fs) (number, listed, named, rest) = (let ends = span_end paths N (suc first) last fs rest in omega (arith, ends))

-- the span is there under other names too that are the same for its numbers
pub span_moved : (paths : FilePaths) (N M : Names) (first last : ℕ) (fs : List Listed) → ((directory n : ℕ) → first ≤ n → n < last → M (paths.numbered directory n) ≡ N (paths.numbered directory n)) → IsSpan paths N first fs last → IsSpan paths M first fs last
span_moved paths N M first last [] same is = is
span_moved paths N M first last (f ∷ fs) same (number, listed, named, rest) =
    let ends = span_end paths N (suc first) last fs rest in
    let at = path_numbered paths f listed in (
      number,
      listed,
      ap M at ∙ same f.path_id f.seq (omega (arith, number)) (omega (arith, ends, number)) ∙ ap N (sym at) ∙ named,
      span_moved paths N M (suc first) last fs (λ directory n from less. same directory n (omega (arith, from)) less) rest,
    )

-- one more file behind it
pub span_more : (paths : FilePaths) (N : Names) (first last : ℕ) (fs : List Listed) (f : Listed) → IsSpan paths N first fs last → f.seq ≡ last → f.reserved ≡ false → N (path_of paths f) ≡ Some f.handle.file → IsSpan paths N first (fs ++ f ∷ []) (suc last)
span_more paths N first last [] f is number listed named = (number ∙ sym is, listed, named, ap suc is)
span_more paths N first last (g ∷ fs) f (at, plain, there, rest) number listed named = (at, plain, there, span_more paths N (suc first) last fs f rest number listed named)

module _ {R : Type 0} (F : Format R) where
  -- the files that are kept for use, where each of them goes on to be there
  pub kept_moved : (paths : FilePaths) (first next : ℕ) (d e : Disk) (from : List ℕ) (fs : List Listed) → NoneHas paths from fs
      → ((g : Listed) → (path_of paths g ≡ from → ⊥) → IsKeptForUse F paths first d g → IsKeptForUse F paths next e g) → AllKept F paths first d fs → AllKept F paths next e fs
  kept_moved paths first next d e from [] apart step is = tt
  kept_moved paths first next d e from (f ∷ fs) (here, behind) step (is, others, rest) = (step f here is, others, kept_moved paths first next d e from fs behind step rest)

  pub kept_all : (paths : FilePaths) (first next : ℕ) (d e : Disk) (fs : List Listed) → ((g : Listed) → IsKeptForUse F paths first d g → IsKeptForUse F paths next e g) → AllKept F paths first d fs → AllKept F paths next e fs
  kept_all paths first next d e [] step is = tt
  kept_all paths first next d e (f ∷ fs) step (is, others, rest) = (step f is, others, kept_all paths first next d e fs step rest)

  module _ (own : List ℕ → Type 0) (paths : FilePaths) (lawful : IsLayout F own paths) where
    -- no two numbers share a path
    pub numbers_apart : (a b m n : ℕ) → m < F.limit → n < F.limit → (m ≡ n → ⊥) → paths.numbered a m ≡ paths.numbered b n → ⊥
    numbers_apart a b m n small less apart same = apart (lawful.format.paths m n (paths.numbered b n) small less (subst (F.IsPath m) same (lawful.numbered a m small)) (lawful.numbered b n less))

    -- a file that is kept for use isn't one of a number from the span's first on
    pub kept_is_no_number : (first : ℕ) (d : Disk) (f : Listed) (m : ℕ) → IsKeptForUse F paths first d f → first ≤ m → m < F.limit → F.IsPath m (path_of paths f) → ⊥
    kept_is_no_number first d f m is from less at = elim (cases_Bool f.reserved) [
      | inl hidden ↦ lawful.apart f.path_id f.seq m less (subst (F.IsPath m) (path_reserved paths f hidden) at)
      | inr listed ↦
          (let below = is.below listed in
          let number : m ≡ f.seq = lawful.format.paths m f.seq (path_of paths f) less (omega (arith, below, from, less)) at (subst (F.IsPath f.seq) (sym (path_numbered paths f listed)) (lawful.numbered f.path_id f.seq (omega (arith, below, from, less)))) in
          omega (arith, number, below, from))
    ]

    -- its path is one of the queue's own
    pub kept_is_own : (first : ℕ) (d : Disk) (f : Listed) → IsKeptForUse F paths first d f → first ≤ F.limit → own (path_of paths f)
    kept_is_own first d f is most = elim (cases_Bool f.reserved) [
      | inl hidden ↦ subst own (sym (path_reserved paths f hidden)) (lawful.kept f.path_id f.seq)
      | inr listed ↦
          (let below = is.below listed in
          let less : f.seq < F.limit = omega (arith, below, most) in
          lawful.owns f.seq (path_of paths f) less (subst (F.IsPath f.seq) (sym (path_numbered paths f listed)) (lawful.numbered f.path_id f.seq less)))
    ]

-- One reading of a file's bytes.
use Rattle.std.proofs.Common.{◌≡◌, ℕ, ◌+◌, ◌-◌, ◌*◌, ◌/◌, ◌%◌, ◌<◌, inl, inr, eqb, false, List, [], ◌∷◌, length, drop, Ok, refl, sym, ap, subst, ◌∙◌, arith}
use Rattle.std.proofs.lemmas.Bool.{cases_lt, ne_eqb}
use Rattle.std.proofs.lemmas.List.{drop_all}
use Rattle.std.proofs.Math.Nat.{mod_self, mod-eq_of_lt, mul-add-mod_self_left, mod-lt}
use Rattle.raft_log_record_base.specs.Fault.{Fault}
use Rattle.raft_log_record_base.proofs.Public.{ok_is}
use Rattle.raft_log_record_items.specs.declared.item.LogItem.{LogItem}
use Rattle.raft_log_file_reader.specs.Batches.{padding_len, GoesOnAt, batch_at, context_of, HasBatch, HasBatches}
use Rattle.raft_log_file_reader.specs.Batches.GoesOnAt.{behind_padding, at_once}
use Rattle.raft_log_file_reader.specs.Laws.{EndsBehind, OneReading, OneFault, BatchesGoOn, PaddingAligns}
use Rattle.raft_log_file_reader.specs.declared.open_file.OpenFile.{OpenFile}
use Rattle.raft_log_file_reader.proofs.Extents.{extent_short, batch_broken}

-- reading goes on at one place
pub one_place : (alignment : ℕ) (content : List ℕ) (offset m n : ℕ) → GoesOnAt alignment content offset m → GoesOnAt alignment content offset n → m ≡ n
one_place alignment content offset m n (behind_padding p is) (behind_padding q also) = is ∙ sym also
one_place alignment content offset m n (behind_padding p is) (at_once none also) = absurd (none p)
one_place alignment content offset m n (at_once none is) (behind_padding q also) = absurd (none q)
one_place alignment content offset m n (at_once none is) (at_once other also) = is ∙ sym also

-- at the end of a file no record is read
nothing_at_end : (file : OpenFile) (content : List ℕ) (len : ℕ) (items : List LogItem) → batch_at (context_of file) (length content) content ≡ Ok (len, items) → ⊥
nothing_at_end file content len items e =
    let none : drop (length content) content ≡ [] = drop_all (length content) content (omega arith) in
    let size : length (drop (length content) content) < 16 = omega (arith, ap length none) in
    let broken = batch_broken (context_of file) (length content) content _ (extent_short (drop (length content) content) size) in
    absurd cc

-- one batch comes behind an offset
one_batch : (file : OpenFile) (content : List ℕ) (offset m n : ℕ) (xs ys : List LogItem) → HasBatch file content offset xs m → HasBatch file content offset ys n → (xs ≡ ys) × (m ≡ n)
one_batch file content offset m n xs ys a b =
    let at = one_place file.format.alignment content offset a.at b.at a.goes_on b.goes_on in
    let same : (a.len, xs) ≡ (b.len, ys) = ok_is {E = Fault} (a.len, xs) (b.len, ys)
    (sym a.frame ∙ ap (λ (k : ℕ). batch_at (context_of file) k content) at ∙ b.frame) in
    let len : a.len ≡ b.len = ap (λ (p : ℕ × List LogItem). p.0) same in
    (ap (λ (p : ℕ × List LogItem). p.1) same, omega (arith, a.ends, b.ends, at, len))

-- where a batch comes the reading doesn't end
batch_or_end : (file : OpenFile) (content : List ℕ) (offset n : ℕ) (items : List LogItem) → HasBatch file content offset items n → EndsBehind file content offset → ⊥
batch_or_end file content offset n items a (inl none) =
    let at = one_place file.format.alignment content offset a.at (length content) a.goes_on none.goes_on in
    nothing_at_end file content a.len items (ap (λ (k : ℕ). batch_at (context_of file) k content) (sym at) ∙ a.frame)
batch_or_end file content offset n items a (inr broken) =
    let b = broken.1 in
    let at = one_place file.format.alignment content offset a.at b.at a.goes_on b.goes_on in
    let both = sym a.frame ∙ ap (λ (k : ℕ). batch_at (context_of file) k content) at ∙ b.frame in
    absurd cc

pub one_reading_is : OneReading
one_reading_is file content offset m n [] [] a x b y = (refl, a ∙ sym b)
one_reading_is file content offset m n [] (ys ∷ more) a x b y =
    absurd (batch_or_end file content offset b.0 ys b.1 (subst (EndsBehind file content) a x))
one_reading_is file content offset m n (xs ∷ more) [] a x b y =
    absurd (batch_or_end file content offset a.0 xs a.1 (subst (EndsBehind file content) b y))
one_reading_is file content offset m n (xs ∷ more) (ys ∷ others) a x b y =
    let first = one_batch file content offset a.0 b.0 xs ys a.1 b.1 in
    let rest = one_reading_is file content b.0 m n more others (subst (λ (k : ℕ). HasBatches file content k more m) first.1 a.2) x b.2 y in
    (ap (λ (i : List LogItem). i ∷ more) first.0 ∙ ap (λ (l : List (List LogItem)). ys ∷ l) rest.0, rest.1)

pub one_fault_is : OneFault
one_fault_is file content offset e f a = (
  λ none.
      let at = one_place file.format.alignment content offset a.at (length content) a.goes_on none.goes_on in
      omega (arith, at, a.inside),
  λ b.
      let at = one_place file.format.alignment content offset a.at b.at a.goes_on b.goes_on in
      let both = sym a.frame ∙ ap (λ (k : ℕ). batch_at (context_of file) k content) at ∙ b.frame in
      cc,
)

pub batches_go_on_is : BatchesGoOn
batches_go_on_is file content offset m n [] items a b = (n, subst (λ (k : ℕ). HasBatch file content k items n) a b, refl)
batches_go_on_is file content offset m n (xs ∷ more) items a b = (a.0, a.1, batches_go_on_is file content a.0 m n more items a.2 b)

-- what stands a multiple behind nothing is a multiple
multiple : (a q n : ℕ) → 0 < a → n ≡ a * q → n % a ≡ 0
multiple a q n some is =
    let shown : n ≡ a * q + 0 = omega (arith, is) in
    ap (λ (m : ℕ). m % a) shown ∙ mul-add-mod_self_left a q 0 ∙ mod-eq_of_lt {n = 0} {m = a} some

pub padding_aligns_is : PaddingAligns
padding_aligns_is alignment offset some =
    let there : eqb alignment 0 ≡ false = ne_eqb alignment 0 (λ e. omega (arith, e)) in
    let r = offset % alignment in
    let q = offset / alignment in
    let small : r < alignment = mod-lt offset some in
    let whole : alignment * q + r ≡ offset = omega arith in
    let padding : padding_len alignment offset ≡ (alignment - r) % alignment = rw there refl in
    elim (cases_lt 0 r) [
      | inl over ↦
          let short : alignment - r < alignment = omega (arith, over, small) in
          let left : padding_len alignment offset ≡ alignment - r = padding ∙ mod-eq_of_lt short in
          let next : offset + padding_len alignment offset ≡ alignment * (q + 1) = omega (arith, left, whole, small) in
          (multiple alignment (q + 1) (offset + padding_len alignment offset) some next, omega (arith, left, short))
      | inr none ↦
          let all : alignment - r ≡ alignment = omega (arith, none) in
          let left : padding_len alignment offset ≡ 0 = padding ∙ ap (λ (m : ℕ). m % alignment) all ∙ mod_self alignment in
          let here : offset + padding_len alignment offset ≡ alignment * q = omega (arith, left, whole, none) in
          (multiple alignment q (offset + padding_len alignment offset) some here, omega (arith, left, some))
    ]

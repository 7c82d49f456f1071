-- A header stands in its sixteen bytes: those that are behind it don't matter.
use Rattle.std.proofs.Common.{◌≡◌, ◌↔◌, ℕ, ◌≤◌, List, length, take, drop, Result, Ok, Err, IsOk, IsErr, IsTrue, is_ok, lit≤, refl, sym, ap, ◌∙◌, arith}
use Rattle.std.specs.Int.{w64, from_be_bytes}
use Rattle.std.proofs.lemmas.Bool.{le-ltb}
use Rattle.std.proofs.lemmas.List.{length-take, take-take, drop-take}
use Rattle.raft_log_record_base.proofs.Public.{done, ok_is}
use Rattle.raft_log_record_base.specs.Grammar.{◌>>=◌}
use Rattle.raft_log_record_base.specs.Fault.{Fault, FailsOrMemory, ReadsOrMemory}
use Rattle.raft_log_record_base.specs.declared.errors.Error.{Error}
use Rattle.raft_log_record_base.specs.declared.errors.Error.TheVariants as errors
use Rattle.raft_log_record_items.specs.declared.compression.CompressionType.{CompressionType}
use Rattle.raft_log_record_frames.specs.Record.{header_of, header_at}

-- what a header says
abbrev pub Says : Type 0
Says = ℕ × CompressionType × ℕ

-- what the two words at the front say
abbrev pub says_at : List ℕ → Result Says Fault
says_at bytes = header_of (from_be_bytes w64 (take 8 bytes)) (from_be_bytes w64 (take 8 (drop 8 bytes)))

-- what was said, with the bytes behind it
abbrev pub with_rest : {X Y : Type 0} → Result X Fault → Y → Result (X × Y) Fault
with_rest r rest = r >>= λ x. Ok (x, rest)

-- a header that has its bytes is what its words say
pub header_words_at : (bytes : List ℕ) → 16 ≤ length bytes → header_at bytes ≡ with_rest (says_at bytes) (drop 8 (drop 8 bytes))
unfolding header_at
header_words_at bytes long = rw (le-ltb (length bytes) 16 long) refl

-- the words stand in the first sixteen bytes
pub says-front : (bytes : List ℕ) → says_at (take 16 bytes) ≡ says_at bytes
says-front bytes =
    let first : take 8 (take 16 bytes) ≡ take 8 bytes = take-take 8 16 bytes (lit≤ tt) in
    let second : take 8 (drop 8 (take 16 bytes)) ≡ take 8 (drop 8 bytes) = ap (take 8) (drop-take 8 8 bytes) ∙ take-take 8 8 (drop 8 bytes) (lit≤ tt) in
    rw (first, second) refl

abbrev pub failed : {A : Type 0} → Fault → Result A Fault
failed f = Err f

-- what was said doesn't depend on what is behind
pub rest_free : {X Y Z : Type 0} (r : Result X Fault) (x : X) (a : Y) (b : Z) (y : Y) → with_rest r a ≡ Ok (x, y) → with_rest r b ≡ Ok (x, b)
rest_free {X = X} {Y = Y} (Ok z) x a b y e = ap (λ (w : X). done {E = Fault} (w, b)) (ap (λ (p : X × Y). p.0) (ok_is {E = Fault} (z, a) (x, y) e))
rest_free (Err f) x a b y e = absurd cc

-- nor does a fault
pub rest_fault : {X Y Z : Type 0} (r : Result X Fault) (f : Fault) (a : Y) (b : Z) → with_rest r a ≡ Err f → with_rest r b ≡ Err f
rest_fault (Ok z) f a b e = absurd cc
rest_fault {X = X} {Z = Z} (Err g) f a b e = let same : g ≡ f = cc in ap (λ (h : Fault). failed {A = X × Z} h) same

-- what the sixteen bytes of a header say, all bytes say
pub header_found : (bytes rest : List ℕ) (says : Says) → 16 ≤ length bytes → header_at (take 16 bytes) ≡ Ok (says, rest)
    → header_at bytes ≡ Ok (says, drop 8 (drop 8 bytes))
header_found bytes rest says long e =
    let sixteen : 16 ≤ length (take 16 bytes) = omega (arith, length-take 16 bytes) in
    let words : with_rest (says_at bytes) (drop 8 (drop 8 (take 16 bytes))) ≡ Ok (says, rest) =
    ap (λ r. with_rest r (drop 8 (drop 8 (take 16 bytes)))) (sym (says-front bytes)) ∙ sym (header_words_at (take 16 bytes) sixteen) ∙ e in
    header_words_at bytes long ∙ rest_free (says_at bytes) says (drop 8 (drop 8 (take 16 bytes))) (drop 8 (drop 8 bytes)) rest words

-- and what is wrong with them is wrong with all
pub header_fault : (bytes : List ℕ) (f : Fault) → 16 ≤ length bytes → header_at (take 16 bytes) ≡ Err f → header_at bytes ≡ Err f
header_fault bytes f long e =
    let sixteen : 16 ≤ length (take 16 bytes) = omega (arith, length-take 16 bytes) in
    let words : with_rest (says_at bytes) (drop 8 (drop 8 (take 16 bytes))) ≡ Err f =
    ap (λ r. with_rest r (drop 8 (drop 8 (take 16 bytes)))) (sym (says-front bytes)) ∙ sym (header_words_at (take 16 bytes) sixteen) ∙ e in
    header_words_at bytes long ∙ rest_fault (says_at bytes) f (drop 8 (drop 8 (take 16 bytes))) (drop 8 (drop 8 bytes)) words

pub header_fails : (bytes : List ℕ) (e : Error) → 16 ≤ length bytes → FailsOrMemory e (header_at (take 16 bytes)) → FailsOrMemory e (header_at bytes)
header_fails bytes errors.Memory long h = tt
header_fails bytes (errors.Codec c) long h = header_fault bytes _ long h
header_fails bytes (errors.Corruption text) long h = header_fault bytes _ long h
header_fails bytes _ long h = absurd h

-- so the sixteen bytes tell whether a header is good
pub header_good : (bytes : List ℕ) → 16 ≤ length bytes → IsOk (header_at (take 16 bytes)) → IsOk (header_at bytes)
header_good bytes long good = good_by (header_at (take 16 bytes)) refl good where
  good_by : (r : Result (Says × List ℕ) Fault) → header_at (take 16 bytes) ≡ r → IsOk r → IsOk (header_at bytes)
  good_by (Ok x) e k = rw (header_found bytes x.1 x.0 long e) refl
  good_by (Err f) e k = absurd cc

pub header_bad : (bytes : List ℕ) → 16 ≤ length bytes → (IsOk (header_at (take 16 bytes)) → ⊥) → IsErr (header_at bytes)
header_bad bytes long bad = bad_by (header_at (take 16 bytes)) refl where
  bad_by : (r : Result (Says × List ℕ) Fault) → header_at (take 16 bytes) ≡ r → IsErr (header_at bytes)
  bad_by (Ok x) e = absurd (bad (rw e refl))
  bad_by (Err f) e = rw (header_fault bytes f long e) refl

-- a decoder of headers answers exactly where there is a good one
pub decoded_surely : (result : Result Says Error) (old new : List ℕ) → (IsOk (header_at old) → IsOk result) → ReadsOrMemory result old new (header_at old)
    → IsTrue (is_ok result) ↔ IsOk (header_at old)
decoded_surely (Ok x) old new sure exact = (λ t. rw exact refl, λ k. refl)
decoded_surely (Err e) old new sure exact = (λ t. absurd cc, λ k. (let no = sure k in absurd cc))

-- what is answered isn't refused
pub not_both : {X E : Type 0} (r : Result X E) → IsOk r → IsErr r → ⊥
not_both (Ok x) good bad = absurd cc
not_both (Err e) good bad = absurd cc

-- What a decoder of a fixed number promises, from what it read.
use Rattle.std.proofs.Common.{◌≡◌, ℕ, ◌<◌, ◌≤◌, ltb, List, length, take, drop, Result, Ok, Err, refl, sym, ap, ◌∙◌, ◌↔◌, inl, inr}
use Rattle.std.specs.Int.{Width, byte_len, from_be_bytes, from_le_bytes}
use Rattle.std.proofs.lemmas.Bool.{lt-ltb, le-ltb, cases_lt}
use Rattle.std.specs.declared.io.ErrorKind.TheVariants.{UnexpectedEof}
use Rattle.raft_log_record_base.specs.declared.codec.error.Error.{Error}
use Rattle.raft_log_record_base.specs.declared.codec.error.Error.TheVariants.{Io}
use Rattle.raft_log_record_base.specs.Grammar.{IsReader, mapped_at, ◌>>=◌, ReadsAs, Decodes}
use Rattle.raft_log_record_base.specs.Number.{NumberReader, IsShort, front_at, high_first_at, low_first_at}
use Rattle.raft_log_record_base.proofs.Grammar.{ok_is, chosen, decodes}
use Rattle.raft_log_record_base.proofs.Fixed.{fixed_at}

-- a reader of so many bytes: where fewer are there it refuses as too short, and else it answers
pub record NeedsBytes {X : Type 0} (size : ℕ) (read : NumberReader X) : Type 0 where
  pub short : (bytes : List ℕ) → length bytes < size → read bytes ≡ Err (Io UnexpectedEof)
  pub long : (bytes : List ℕ) → size ≤ length bytes → (y : X × List ℕ) × (read bytes ≡ Ok y)

pub needs_high : (w : Width) → NeedsBytes (byte_len w) (high_first_at w)
needs_high w = record {
  short = λ bytes lt. rw (lt-ltb (length bytes) (byte_len w) lt) refl;
  long = λ bytes le. ((from_be_bytes w (take (byte_len w) bytes), drop (byte_len w) bytes), rw (le-ltb (length bytes) (byte_len w) le) refl);
}

pub needs_low : (w : Width) → NeedsBytes (byte_len w) (low_first_at w)
needs_low w = record {
  short = λ bytes lt. rw (lt-ltb (length bytes) (byte_len w) lt) refl;
  long = λ bytes le. ((from_le_bytes w (take (byte_len w) bytes), drop (byte_len w) bytes), rw (le-ltb (length bytes) (byte_len w) le) refl);
}

pub needs_mapped : {A B : Type 0} {size : ℕ} {read : NumberReader A} (f : A → B) → NeedsBytes size read → NeedsBytes size (mapped_at f read)
needs_mapped {A = A} {B = B} {size = size} {read = read} f need = record {
  short = λ bytes lt. ap (λ (r : Result (A × List ℕ) Error). r >>= λ r. Ok (f r.0, r.1)) (need.short bytes lt);
  long = λ bytes le.
      let y = need.long bytes le in
      ((f y.0.0, y.0.1), ap (λ (r : Result (A × List ℕ) Error). r >>= λ r. Ok (f r.0, r.1)) y.1);
}

-- the clauses of such a decoder
pub record Promised {X : Type 0} (P : List ℕ → X → Type 0) (size : ℕ) (read : NumberReader X)
    (result : Result X Error) (old new : List ℕ) : Type 0 where
  pub decodes : Decodes P result old new
  pub short : IsShort result ↔ (length old < size)
  pub exact : ReadsAs result old new (read old)

short_below : {X : Type 0} {size : ℕ} {read : NumberReader X} → NeedsBytes size read → (result : Result X Error) (old new : List ℕ) → ReadsAs result old new (read old) → IsShort result ↔ (length old < size)
short_below need (Ok x) old new t = (λ e. absurd cc, λ lt. let k = sym t ∙ need.short old lt in absurd cc)
short_below {size = size} need (Err d) old new t = (
  λ e. elim (cases_lt (length old) size) [
    | inl lt ↦ lt
    | inr le ↦ let y = need.long old le in let k = sym t.0 ∙ y.1 in absurd cc
  ],
  λ lt. let k = sym t.0 ∙ need.short old lt in cc,
)

pub promised : {X : Type 0} {P : List ℕ → X → Type 0} {size : ℕ} {read : NumberReader X} → IsReader read P → NeedsBytes size read
    → (result : Result X Error) (old new : List ℕ) → ReadsAs result old new (read old) → Promised P size read result old new
promised is need result old new t = record {
  decodes = decodes result old new is t;
  short = short_below need result old new t;
  exact = t;
}

-- From what was read below.

-- a number is made of the bytes in front
pub front_ok : (size : ℕ) (value : List ℕ → ℕ) (bytes front rest : List ℕ) → front_at size bytes ≡ Ok (front, rest) → fixed_at size value (Io UnexpectedEof) bytes ≡ Ok (value front, rest)
front_ok size value bytes front rest e =
    elim (chosen (ltb (length bytes) size) (Err (Io UnexpectedEof)) (Ok (take size bytes, drop size bytes)) (Ok (front, rest)) e) [
      | inl a ↦ absurd cc
      | inr b ↦ let same = ok_is {E = Error} (take size bytes, drop size bytes) (front, rest) b.1 in rw b.0 (ap (λ (q : List ℕ × List ℕ). Ok (value q.0, q.1)) same)
    ]

-- there are too few
pub front_err : (size : ℕ) (value : List ℕ → ℕ) (bytes : List ℕ) (d : Error) → front_at size bytes ≡ Err d → fixed_at size value (Io UnexpectedEof) bytes ≡ Err d
front_err size value bytes d e =
    elim (chosen (ltb (length bytes) size) (Err (Io UnexpectedEof)) (Ok (take size bytes, drop size bytes)) (Err d) e) [
      | inl a ↦ let same : Io UnexpectedEof ≡ d = cc in rw (a.0, same) refl
      | inr b ↦ absurd cc
    ]

-- a value is made of one that was read
pub mapped_ok : {A B : Type 0} (read : NumberReader A) (f : A → B) (bytes : List ℕ) (x : A) (rest : List ℕ) → read bytes ≡ Ok (x, rest) → mapped_at f read bytes ≡ Ok (f x, rest)
mapped_ok {A = A} read f bytes x rest e = ap (λ (r : Result (A × List ℕ) Error). r >>= λ r. Ok (f r.0, r.1)) e

-- none was read
pub mapped_err : {A B : Type 0} (read : NumberReader A) (f : A → B) (bytes : List ℕ) (d : Error) → read bytes ≡ Err d → mapped_at f read bytes ≡ Err d
mapped_err {A = A} read f bytes d e = ap (λ (r : Result (A × List ℕ) Error). r >>= λ r. Ok (f r.0, r.1)) e

-- Grammars: a grammar relates bytes to the value that they spell. The rules here build a grammar from others. After
-- some rules comes the function that reads such a grammar from the front of a list of bytes.
use Rattle.std.specs.Prelude.{◌≡◌, ℕ, zero, suc, Bool, List, [], ◌∷◌, ◌++◌, Result, Ok, Err, MatchBool, MatchResult, if◌then◌else◌}

-- a function that reads a value from the front of bytes, and returns the value and the remaining bytes, or an error
abbrev pub Reader : Type 0 → Type 0 → Type 0
Reader X E = List ℕ → Result (X × List ℕ) E

-- `read` reads the grammar `P`. If it succeeds, the bytes that it consumes spell the value that it returns. If the
-- bytes begin with a spelling, `read` consumes exactly this spelling and returns its value.
pub record IsReader {X E : Type 0} (read : Reader X E) (P : List ℕ → X → Type 0) : Type 0 where
  pub takes : (bytes : List ℕ) (y : X × List ℕ) → read bytes ≡ Ok y
      → (text : List ℕ) × P text y.0 × (bytes ≡ text ++ y.1)
  pub again : (text rest : List ℕ) (x : X) → P text x → read (text ++ rest) ≡ Ok (x, rest)

-- no spelling is a proper prefix of another one, and no bytes spell two values
abbrev pub IsPrefixFree : {X : Type 0} → (List ℕ → X → Type 0) → Type 0
IsPrefixFree {X = X} P = (a b x y : List ℕ) (m n : X) → P a m → P b n → a ++ x ≡ b ++ y → (a ≡ b) × (m ≡ n)

-- runs a second step of reading with the result of the first; if the first fails, its error is the result
infixl 10 ◌>>=◌
abbrev pub ◌>>=◌ : {A B E : Type 0} → Result A E → (A → Result B E) → Result B E
(Ok x) >>= f = f x
(Err e) >>= f = Err e

-- only the empty list of bytes is a spelling, and it spells `x`
abbrev pub IsKnown : {A : Type 0} → A → List ℕ → A → Type 0
IsKnown x bytes y = (bytes ≡ []) × (y ≡ x)

-- The bytes are a spelling by `P`, and then a spelling of `y` by `Q`. `Q` may depend on the value of the first
-- spelling.
abbrev pub Then : {A B : Type 0} → (List ℕ → A → Type 0) → (A → List ℕ → B → Type 0) → List ℕ → B → Type 0
Then {A = A} P Q bytes y = (x : A) × (front : List ℕ) × (back : List ℕ)
    × P front x × Q x back y × (bytes ≡ front ++ back)

-- the bytes spell a value by `P`, and `y` is the image of this value under `f`
abbrev pub Mapped : {A B : Type 0} → (A → B) → (List ℕ → A → Type 0) → List ℕ → B → Type 0
Mapped {A = A} f P bytes y = (x : A) × P bytes x × (y ≡ f x)

-- reads a value with `read`, and returns its image under `f`
abbrev pub mapped_at : {A B E : Type 0} → (A → B) → Reader A E → Reader B E
mapped_at f read bytes = read bytes >>= λ r. Ok (f r.0, r.1)

-- `n` spellings by `P`, one after another
unfoldable pub Times : {A : Type 0} → (List ℕ → A → Type 0) → ℕ → List ℕ → List A → Type 0
Times P zero = IsKnown []
Times P (suc n) = Then P (λ x. Then (Times P n) (λ xs. IsKnown (x ∷ xs)))

-- reads `n` values with `read`, one after another
unfoldable pub times_at : {A E : Type 0} → Reader A E → ℕ → Reader (List A) E
times_at read zero bytes = Ok ([], bytes)
times_at read (suc n) bytes = do
  x ← read bytes
  xs ← times_at read n x.1
  Ok (x.0 ∷ xs.0, xs.1)

-- a spelling by `P` if `b` is true, else by `Q`
abbrev pub Choice : {A : Type 0} → Bool → (List ℕ → A → Type 0) → (List ℕ → A → Type 0) → List ℕ → A → Type 0
Choice b P Q bytes x = MatchBool b (P bytes x) (Q bytes x)

-- reads with `p` if `b` is true, else with `q`
abbrev pub choice_at : {A E : Type 0} → Bool → Reader A E → Reader A E → Reader A E
choice_at b p q bytes = if b then p bytes else q bytes

-- A decoder has the same result as `reading`. It returned the same value and left the same remaining bytes (`new`), or
-- it failed with the same error. If the decoder fails, it consumes nothing of `old`.
abbrev pub ReadsAs : {X E : Type 0} → Result X E → List ℕ → List ℕ → Result (X × List ℕ) E → Type 0
ReadsAs (Ok x) old new reading = reading ≡ Ok (x, new)
ReadsAs (Err e) old new reading = (reading ≡ Err e) × (new ≡ old)

-- A decoder of the grammar `P` left the bytes `new` of the bytes `old`. If it succeeds, the bytes that it consumed
-- spell the value that it returned. If `old` begins with a spelling, the decoder consumes exactly this spelling and
-- returns its value. If the decoder fails, it consumes nothing.
pub record Decodes {X E : Type 0} (P : List ℕ → X → Type 0)
    (result : Result X E) (old new : List ℕ) : Type 0 where
  pub found : MatchResult result (λ x. (text : List ℕ) × P text x × (old ≡ text ++ new)) (λ e. new ≡ old)
  pub only : (text rest : List ℕ) (x : X) → P text x → old ≡ text ++ rest → (result ≡ Ok x) × (new ≡ rest)

-- Chains of records in a file: records that follow one another from an offset on, and what is read of them. A frame
-- relation (`IsFrame`) says which bytes encode which record. Everything here holds for any frame relation in which no
-- encoding is a prefix of another.
use Rattle.std.specs.Prelude.{◌≡◌, ℕ, ◌+◌, ◌⊎◌, List, [], ◌∷◌, ◌++◌, length, take, drop}

-- a record as it was written: its bytes, and the value that they encode
pub record Written (R : Type 0) : Type 0 where
  pub bytes : List ℕ
  pub value : R

-- If the same bytes begin with the encodings of two records, these are the same record with the same encoding. No
-- encoding is empty.
pub record IsSelfDelimiting {R : Type 0} (IsFrame : List ℕ → R → Type 0) : Type 0 where
  pub apart : (a b x y : List ℕ) (r s : R) → IsFrame a r → IsFrame b s → a ++ x ≡ b ++ y → (a ≡ b) × (r ≡ s)
  pub filled : (r : R) → IsFrame [] r → ⊥

-- the bytes of these records, one after the other
abbrev pub spelled : {R : Type 0} → List (Written R) → List ℕ
spelled [] = []
spelled (w ∷ ws) = w.bytes ++ spelled ws

-- each record's bytes encode it
abbrev pub AreFrames : {R : Type 0} → (List ℕ → R → Type 0) → List (Written R) → Type 0
AreFrames IsFrame [] = Unit {0}
AreFrames IsFrame (w ∷ ws) = IsFrame w.bytes w.value × AreFrames IsFrame ws

-- `bytes` begin with no record
abbrev pub Refuses : {R : Type 0} → (List ℕ → R → Type 0) → List ℕ → Type 0
Refuses {R} IsFrame bytes = (w : Written R) (rest : List ℕ) → IsFrame w.bytes w.value
    → bytes ≡ w.bytes ++ rest → ⊥

-- no part of these bytes is a record
abbrev pub HoldsNoFrame : {R : Type 0} → (List ℕ → R → Type 0) → List ℕ → Type 0
HoldsNoFrame {R} IsFrame bytes = (ahead inside behind : List ℕ) (r : R)
    → bytes ≡ ahead ++ (inside ++ behind) → IsFrame inside r → ⊥

-- from the offset `start` on, `bytes` begin with the records `ws`, without gaps
pub record BeginsWith {R : Type 0} (IsFrame : List ℕ → R → Type 0)
    (start : ℕ) (ws : List (Written R)) (bytes : List ℕ) : Type 0 where
  pub rest : List ℕ
  pub splits : drop start bytes ≡ spelled ws ++ rest
  pub frames : AreFrames IsFrame ws

-- from the offset `start` on, exactly the records `ws` are read of `bytes`: they follow without gaps, and no record
-- begins after them
pub record Reads {R : Type 0} (IsFrame : List ℕ → R → Type 0)
    (start : ℕ) (ws : List (Written R)) (bytes : List ℕ) : Type 0 where
  pub rest : List ℕ
  pub splits : drop start bytes ≡ spelled ws ++ rest
  pub frames : AreFrames IsFrame ws
  pub ends : Refuses IsFrame rest

-- reading `bytes` from `start` on finds the record `w` at the offset `at`: between `start` and `at` there are only
-- whole records
pub record Meets {R : Type 0} (IsFrame : List ℕ → R → Type 0)
    (start at : ℕ) (w : Written R) (bytes : List ℕ) : Type 0 where
  pub before : List (Written R)
  pub begins : BeginsWith IsFrame start (before ++ w ∷ []) bytes
  pub place : at ≡ start + length (spelled before)

-- the bytes `all`, which begin at the offset `from`, contain `bytes` at the offset `at`
pub record LiesIn (from : ℕ) (all : List ℕ) (at : ℕ) (bytes : List ℕ) : Type 0 where
  pub ahead : List ℕ
  pub behind : List ℕ
  pub splits : all ≡ ahead ++ (bytes ++ behind)
  pub place : at ≡ from + length ahead

-- for any bytes it is decidable whether they begin with a record
abbrev pub CanTell : {R : Type 0} → (List ℕ → R → Type 0) → Type 0
CanTell {R} IsFrame = (bytes : List ℕ) → ((w : Written R) × (rest : List ℕ) × IsFrame w.bytes w.value
    × (bytes ≡ w.bytes ++ rest)) ⊎ Refuses IsFrame bytes

-- bytes can be read as records in only one way
abbrev pub ReadsOneWay : {R : Type 0} → (List ℕ → R → Type 0) → Type 0
ReadsOneWay {R} IsFrame = (start : ℕ) (bytes : List ℕ) (vs ws : List (Written R))
    → Reads IsFrame start vs bytes → Reads IsFrame start ws bytes → ws ≡ vs

-- if it is decidable whether bytes begin with a record, then from any offset on some list of records is read
abbrev pub ReadsSome : {R : Type 0} → (List ℕ → R → Type 0) → Type 0
ReadsSome {R} IsFrame = CanTell IsFrame → (start : ℕ) (bytes : List ℕ) → (ws : List (Written R))
    × Reads IsFrame start ws bytes

-- if the bytes `c` have a chain from `start` on, bytes `d` that are the same up to the chain's end have it too
abbrev pub AgreesUpToEnd : {R : Type 0} → (List ℕ → R → Type 0) → Type 0
AgreesUpToEnd {R} IsFrame = (start : ℕ) (ws : List (Written R)) (c d : List ℕ)
    → take (start + length (spelled ws)) d ≡ take (start + length (spelled ws)) c
    → BeginsWith IsFrame start ws c → BeginsWith IsFrame start ws d

-- Two words are read from sixteen bytes.
use Rattle.std.proofs.Common.{◌≡◌, ℕ, ◌+◌, ◌≤◌, List, length, take, ltb, false, Ok, Err, ap, ◌∙◌, arith}
use Rattle.std.specs.Int.{w64, from_be_bytes}
use Rattle.std.proofs.lemmas.Bool.{le-ltb}
use Rattle.std.proofs.lemmas.List.{length-append}
use Rattle.raft_log_record_base.specs.declared.codec.error.Error.{Error}
use Rattle.raft_log_record_base.specs.Number.{high_first_at}
use Rattle.raft_log_record_base.proofs.Public.{fixed_splits}

-- eight bytes are not too few for a word
pub word_there : (bytes : List ℕ) (e : Error) → 8 ≤ length bytes → high_first_at w64 bytes ≡ Err e → ⊥
word_there bytes e long h =
    let test : ltb (length bytes) 8 ≡ false = le-ltb _ _ long in
    let k = rw test at h in
    absurd cc

-- what a word leaves of sixteen bytes
pub word_leaves : (bytes : List ℕ) (word : ℕ) (rest : List ℕ) → 16 ≤ length bytes → high_first_at w64 bytes ≡ Ok (word, rest) → 8 ≤ length rest
word_leaves bytes word rest long h =
    let s = fixed_splits 8 (from_be_bytes w64) _ bytes (word, rest) h in
    let whole : length bytes ≡ length (take 8 bytes) + length rest = ap length s.joined ∙ length-append (take 8 bytes) rest in
    omega (arith, s.front_size)

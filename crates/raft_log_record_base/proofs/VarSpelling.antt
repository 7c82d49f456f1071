-- The spelling that is written is of the grammar, and none is shorter.
use Rattle.std.proofs.Common.{◌≡◌, ℕ, zero, suc, ◌+◌, ◌-◌, ◌*◌, ◌/◌, ◌%◌, ◌^◌, ◌<◌, ◌≤◌, List, [], ◌∷◌, ◌++◌, length, take, set, refl, sym, ap, subst, ◌∙◌, inl, inr, arith, append_assoc}
use Rattle.std.proofs.lemmas.Bool.{lt-ltb, le-ltb, cases_lt}
use Rattle.std.proofs.lemmas.List.{take_more_set}
use Rattle.std.proofs.lemmas.Nat.{and_mask, or_shifted, or_comm, pow-add}
use Rattle.std.specs.Prelude.{bit_and, bit_or}
use Rattle.raft_log_record_base.specs.Number.{IsBase128, IsVarU64, IsShortest, var_bytes_within, var_u64_bytes}
use Rattle.raft_log_record_base.proofs.Var.{goes_on, power_grows}

last_spelling : (left n : ℕ) → n < 128 → var_bytes_within left n ≡ n ∷ []
unfolding var_bytes_within
last_spelling zero n lt = refl
last_spelling (suc left) n lt = rw (lt-ltb n 128 lt) refl

more_spelling : (left n : ℕ) → 128 ≤ n → var_bytes_within (suc left) n ≡ (n % 128 + 128) ∷ var_bytes_within left (n / 128)
unfolding var_bytes_within
more_spelling left n le = rw (le-ltb n 128 le) refl

digits_within : (left n : ℕ) → n < 2 * 128 ^ left → IsBase128 (var_bytes_within left n) n
digits_within zero n lt = rw (last_spelling zero n (omega arith)) (omega arith, refl)
digits_within (suc left) n lt =
    elim (cases_lt n 128) [
      | inl small ↦ rw (last_spelling (suc left) n small) (small, refl)
      | inr large ↦
          let rest : IsBase128 (var_bytes_within left (n / 128)) (n / 128) = digits_within left (n / 128) (omega (arith, power_grows left)) in
          rw (more_spelling left n large) (goes_on (n % 128 + 128) (var_bytes_within left (n / 128)) (n / 128) n (omega arith) (omega arith) rest)
    ]

length_within : (left n : ℕ) → length (var_bytes_within left n) ≤ left + 1
unfolding var_bytes_within
length_within zero n = omega arith
length_within (suc left) n =
    elim (cases_lt n 128) [
      | inl small ↦ rw (last_spelling (suc left) n small) (omega arith)
      | inr large ↦ rw (more_spelling left n large) (omega (arith, length_within left (n / 128)))
    ]

-- each digit is needed
shortest_within : (left n : ℕ) (other : List ℕ) → IsBase128 other n → length (var_bytes_within left n) ≤ length other
unfolding var_bytes_within
shortest_within left n [] h = absurd h
shortest_within zero n (b ∷ bs) h = omega arith
shortest_within (suc left) n (b ∷ []) h = rw (last_spelling (suc left) n (omega (arith, h.0, h.1))) (omega arith)
shortest_within (suc left) n (b ∷ c ∷ cs) h =
    elim (cases_lt n 128) [
      | inl small ↦ rw (last_spelling (suc left) n small) (omega arith)
      | inr large ↦
          let high : h.1 ≡ n / 128 = omega (arith, h.2) in
          let P : ℕ → Type 0 = λ k. IsBase128 (c ∷ cs) k in
          rw (more_spelling left n large) (omega (arith, shortest_within left (n / 128) (c ∷ cs) (subst P high h.3)))
    ]

pub var_u64_shortest : (n : ℕ) → n < 2 ^ 64 → IsShortest IsVarU64 (var_u64_bytes n) n
unfolding var_u64_bytes
var_u64_shortest n lt = record {
  spelled = record { digits = digits_within 9 n lt; short = length_within 9 n; fits = lt };
  shortest = λ other p. shortest_within 9 n other p.digits;
}

pub one_byte : (n : ℕ) → n < 128 → var_u64_bytes n ≡ n ∷ []
unfolding var_u64_bytes
one_byte n lt = last_spelling 9 n lt

-- ---- the loop that writes it

-- room for the digits that are left, of a number that had 64 bits
pub has_room : (len rest : ℕ) → len ≤ 9 → rest < 2 ^ (64 - 7 * len) → 128 ≤ rest → len ≤ 8
has_room len rest le below large =
    elim (cases_lt len 9) [
      | inl lt ↦ omega arith
      | inr ge ↦
          let nine : len ≡ 9 = omega arith in
          let P : ℕ → Type 0 = λ k. rest < 2 ^ (64 - 7 * k) in
          let few : rest < 2 = subst P nine below in
          absurd (omega arith)
    ]

pub rest_below : (len rest : ℕ) → len ≤ 8 → rest < 2 ^ (64 - 7 * len) → rest / 128 < 2 ^ (64 - 7 * (len + 1))
rest_below len rest le below =
    let k : 64 - 7 * len ≡ (64 - 7 * (len + 1)) + 7 = omega arith in
    let grown : 2 ^ (64 - 7 * len) ≡ 2 ^ (64 - 7 * (len + 1)) * 128 = rw k (pow-add 2 (64 - 7 * (len + 1)) 7) in
    omega arith

pub digit_byte : (rest : ℕ) → bit_or (bit_and rest 127) 128 ≡ rest % 128 + 128
digit_byte rest =
    let low : bit_and rest 127 ≡ rest % 128 = and_mask rest 7 in
    let joined : bit_or 128 (rest % 128) ≡ 128 + rest % 128 = or_shifted 1 7 (rest % 128) (omega arith) in
    rw (low, or_comm (rest % 128) 128, joined) (omega arith)

pub spelling_goes_on : (len rest : ℕ) (bytes total : List ℕ) → len ≤ 8 → len < length bytes → 128 ≤ rest → take len bytes ++ var_bytes_within (9 - len) rest ≡ total
    → take (len + 1) (set bytes len (bit_or (bit_and rest 127) 128)) ++ var_bytes_within (9 - (len + 1)) (rest / 128) ≡ total
spelling_goes_on len rest bytes total le room large so_far =
    let k : 9 - len ≡ suc (9 - (len + 1)) = omega arith in
    let one : take len bytes ++ var_bytes_within (9 - len) rest ≡ take len bytes ++ ((rest % 128 + 128) ∷ var_bytes_within (9 - (len + 1)) (rest / 128))
    = rw (k, more_spelling (9 - (len + 1)) rest large) refl in
    let two : take (len + 1) (set bytes len (bit_or (bit_and rest 127) 128)) ≡ take len bytes ++ (rest % 128 + 128) ∷ []
    = rw (take_more_set bytes len (bit_or (bit_and rest 127) 128) room, digit_byte rest) refl in
    rw (two, append_assoc (take len bytes) ((rest % 128 + 128) ∷ []) (var_bytes_within (9 - (len + 1)) (rest / 128))) (sym one ∙ so_far)

pub spelling_ends : (len rest : ℕ) (bytes total : List ℕ) → len < length bytes → rest < 128 → take len bytes ++ var_bytes_within (9 - len) rest ≡ total → take (len + 1) (set bytes len rest) ≡ total
spelling_ends len rest bytes total room small so_far =
    rw (take_more_set bytes len rest room) (ap (λ (l : List ℕ). take len bytes ++ l) (sym (last_spelling (9 - len) rest small)) ∙ so_far)

-- ---- the loop that appends it

pub append_goes_on : (len next rest : ℕ) (front total : List ℕ) → len ≤ 8 → next ≡ len + 1 → 128 ≤ rest → front ++ var_bytes_within (9 - len) rest ≡ total
    → (front ++ bit_or (bit_and rest 127) 128 ∷ []) ++ var_bytes_within (9 - next) (rest / 128) ≡ total
append_goes_on len next rest front total le is large so_far =
    let k : 9 - len ≡ suc (9 - next) = omega arith in
    let one : front ++ var_bytes_within (9 - len) rest ≡ front ++ ((rest % 128 + 128) ∷ var_bytes_within (9 - next) (rest / 128)) = rw (k, more_spelling (9 - next) rest large) refl in
    rw (digit_byte rest, append_assoc front ((rest % 128 + 128) ∷ []) (var_bytes_within (9 - next) (rest / 128))) (sym one ∙ so_far)

pub append_ends : (len rest : ℕ) (front total : List ℕ) → rest < 128 → front ++ var_bytes_within (9 - len) rest ≡ total → front ++ rest ∷ [] ≡ total
append_ends len rest front total small so_far = ap (λ (l : List ℕ). front ++ l) (sym (last_spelling (9 - len) rest small)) ∙ so_far

pub rest_below_next : (len next rest : ℕ) → len ≤ 8 → next ≡ len + 1 → rest < 2 ^ (64 - 7 * len) → rest / 128 < 2 ^ (64 - 7 * next)
rest_below_next len next rest le is below = rw is (rest_below len rest le below)

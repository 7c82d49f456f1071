-- Cases on a test, with what the test answered.
use Rattle.std.proofs.Common.{◌≡◌, ℕ, ◌<◌, ◌≤◌, Bool, true, false, ◌&&◌, Option, Some, None, ◌==◌, nat_lt, nat_le, if◌then◌else◌, refl, arith}
use Rattle.std.proofs.lemmas.Bool.Decides.{nat_tests}

pub at_bool : (b : Bool) (P : Bool → Type 0) → (b ≡ true → P true) → (b ≡ false → P false) → P b
at_bool true P yes_case no_case = yes_case refl
at_bool false P yes_case no_case = no_case refl

pub at_option : {A : Type 0} (o : Option A) (P : Option A → Type 0) → (o ≡ None → P None) → ((x : A) → o ≡ Some x → P (Some x)) → P o
at_option None P none_case some_case = none_case refl
at_option (Some x) P none_case some_case = some_case x refl

pub if_true : {A : Type 0} (b : Bool) (x y : A) → b ≡ true → (if b then x else y) ≡ x
if_true true x y h = refl
if_true false x y h = cc

pub if_false : {A : Type 0} (b : Bool) (x y : A) → b ≡ false → (if b then x else y) ≡ y
if_false true x y h = cc
if_false false x y h = refl

pub lt_true : (a b : ℕ) → a < b → nat_lt a b ≡ true
lt_true a b h = grind (arith, nat_tests)

pub lt_false : (a b : ℕ) → b ≤ a → nat_lt a b ≡ false
lt_false a b h = grind (arith, nat_tests)

pub le_true : (a b : ℕ) → a ≤ b → nat_le a b ≡ true
le_true a b h = grind (arith, nat_tests)

pub le_false : (a b : ℕ) → b < a → nat_le a b ≡ false
le_false a b h = grind (arith, nat_tests)

pub from_lt_true : (a b : ℕ) → nat_lt a b ≡ true → a < b
from_lt_true a b h = grind (arith, nat_tests)

pub from_lt_false : (a b : ℕ) → nat_lt a b ≡ false → b ≤ a
from_lt_false a b h = grind (arith, nat_tests)

pub from_le_true : (a b : ℕ) → nat_le a b ≡ true → a ≤ b
from_le_true a b h = grind (arith, nat_tests)

pub from_le_false : (a b : ℕ) → nat_le a b ≡ false → b < a
from_le_false a b h = grind (arith, nat_tests)

pub eq_true : (a b : ℕ) → a ≡ b → (a == b) ≡ true
eq_true a b h = grind (arith, nat_tests)

pub eq_false : (a b : ℕ) → (a ≡ b → ⊥) → (a == b) ≡ false
eq_false a b h = grind (arith, nat_tests)

pub from_eq_true : (a b : ℕ) → (a == b) ≡ true → a ≡ b
from_eq_true a b h = grind (arith, nat_tests)

pub from_eq_false : (a b : ℕ) → (a == b) ≡ false → a ≡ b → ⊥
from_eq_false a b h e = grind (arith, nat_tests)

pub neither : {A : Type 0} (b : Bool) → ◌≡◌ {A = Option A} (if b then None else None) None
neither true = refl
neither false = refl

pub both : (a b : Bool) → (a && b) ≡ true → (a ≡ true) × (b ≡ true)
both true b h = (refl, h)
both false b h = cc

pub and_true : (b : Bool) → b ≡ (b && true)
and_true true = refl
and_true false = refl

pub none_some : {A : Type 0} (o : Option A) (x : A) → o ≡ None → o ≡ Some x → ⊥
none_some o x h k = cc

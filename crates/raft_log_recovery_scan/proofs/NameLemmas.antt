-- The number that a name says in a queue is the one that it says at all, where it is of that queue.
use Rattle.std.proofs.Common.{◌≡◌, ℕ, ◌^◌, ◌<◌, ◌≤◌, Bool, true, false, eqb, cond, List, ◌++◌, Some, None, length, get_or, take, drop, refl, sym, ◌∙◌, ap, subst, inl, inr, arith}
use Rattle.std.specs.Prelude.{◌↔◌}
use Rattle.std.specs.Str.Parse.{AllDigits, digits_value, without_leading_plus}
use Rattle.std.proofs.lemmas.Bool.{cases_lt, false≢true}
use Rattle.std.proofs.lemmas.List.{length-take, length-drop}
use Rattle.std.proofs.lemmas.Str.Parse.{IsNumeralModel, numerals_by_value, tells_digits, digits_value_short}
use Rattle.std.proofs.lemmas.Option.{same_Some, none-some}
use Rattle.raft_log_record_base.specs.declared.errors.Error.{Error}
use Rattle.raft_log_record_base.specs.declared.errors.Error.TheVariants as errors
use Rattle.raft_log_record_base.specs.declared.pipe_log.FileId.{FileId}
use Rattle.raft_log_record_base.specs.declared.pipe_log.LogQueue.{LogQueue}
use Rattle.raft_log_file_format.specs.Name.{IsNamed, IsNumberText, IsNameRefusal, name_limit, suffix_of}
use Rattle.raft_log_file_format.proofs.Public.{text_signed, text_unsigned}
use Rattle.raft_log_active_file.specs.PathLaws.{no_plus}
use Rattle.raft_log_recovery_scan.specs.Names.{end_of, name_of, IsNameOf, IsMisnamed, FailsToName, TellsMisnamed}
use Rattle.raft_log_recovery_scan.specs.declared.file_kind.FileKind.{FileKind}

pub found_in : (queue : LogQueue) (name : List ℕ) (id : FileId) → ((other : FileId) → (Some id ≡ Some other) ↔ IsNamed (suffix_of other.queue) name other.seq)
    → id.queue ≡ queue → (n : ℕ) → (Some id.seq ≡ Some n) ↔ IsNamed (suffix_of queue) name n
found_in queue name id told same n = (
  (λ is. subst (λ (q : LogQueue). IsNamed (suffix_of q) name n) same
      (subst (λ (m : ℕ). IsNamed (suffix_of id.queue) name m) (same_Some id.seq n is) ((told id).0 refl))),
  (λ named. let other : FileId = record { queue = queue; seq = n } in
      ap Some (ap (λ (f : FileId). f.seq) (same_Some id other ((told other).1 named)))),
)

pub not_in : (queue : LogQueue) (name : List ℕ) (id : FileId) → ((other : FileId) → (Some id ≡ Some other) ↔ IsNamed (suffix_of other.queue) name other.seq)
    → (id.queue ≡ queue → ⊥) → (n : ℕ) → (None ≡ Some n) ↔ IsNamed (suffix_of queue) name n
not_in queue name id told apart n = (
  (λ is. absurd (none-some n is)),
  (λ named. let other : FileId = record { queue = queue; seq = n } in
      absurd (apart (ap (λ (f : FileId). f.queue) (same_Some id other ((told other).1 named))))),
)

pub none_in : (queue : LogQueue) (name : List ℕ) → ((other : FileId) → (None ≡ Some other) ↔ IsNamed (suffix_of other.queue) name other.seq)
    → (n : ℕ) → (None ≡ Some n) ↔ IsNamed (suffix_of queue) name n
none_in queue name told n = (
  (λ is. absurd (none-some n is)),
  (λ named. let other : FileId = record { queue = queue; seq = n } in absurd (none-some other ((told other).1 named))),
)

-- a name that is told is a misnamed one
pub names_not : (kind : FileKind) (name : List ℕ) (error : Error) → IsMisnamed kind name → TellsMisnamed name error → FailsToName kind name error
names_not kind name (errors.Corruption text) is tells = (is, tells)
names_not kind name errors.Memory is tells = tt
names_not kind name _ is tells = absurd tells

own : IsNumeralModel (AllDigits 10) (digits_value 10)
own = numerals_by_value (AllDigits 10) tells_digits

-- sixteen digits say a number below the limit
pub named_small : (name : List ℕ) (n : ℕ) → IsNumberText name n → n < 10 ^ 16
named_small name n is =
    let front = take 16 name in
    let k : ℕ = cond (eqb (get_or front 0 0) 43) 1 0 in
    let long : length (drop k front) ≤ 16 = omega (arith, length-drop k front, length-take 16 name) in
    let short = digits_value_short own (without_leading_plus front) 16 is.digits.1 long in
    omega (arith, short, is.value)

-- so such a name is refused only for want of memory
pub name_refused : (kind : FileKind) (name : List ℕ) (n : ℕ) (error : Error) → IsNamed (end_of kind) name n → IsNameRefusal n error → FailsToName kind name error
name_refused kind name n errors.NumberRange is refusal = let small = named_small name n is.0 in absurd (omega (arith, small, refusal))
name_refused kind name n errors.Memory is refusal = tt
name_refused kind name n _ is refusal = absurd refusal

-- a name with a sign begins with a plus, and no other one does
plus_first : (kind : FileKind) (n : ℕ) (name : List ℕ) → IsNameOf kind true n name → get_or name 0 0 ≡ 43
plus_first kind n name (room, is) = ap (λ (l : List ℕ). get_or l 0 0) (is ∙ ap (λ (l : List ℕ). l ++ end_of kind) (text_signed n room))

digit_first : (kind : FileKind) (n : ℕ) (name : List ℕ) → IsNameOf kind false n name → get_or name 0 0 ≡ 43 → ⊥
digit_first kind n name (fit, is) plus = no_plus (end_of kind) n fit (sym (ap (λ (l : List ℕ). get_or l 0 0) is) ∙ plus)

-- where a plus is written, the number leaves it room
pub named_room : (kind : FileKind) (n : ℕ) (name : List ℕ) (signed : Bool) → n < 10 ^ 16 → name ≡ name_of kind signed n → (signed ≡ true → get_or name 0 0 ≡ 43) → n < name_limit signed
named_room kind n name false fit is seen = fit
named_room kind n name true fit is seen = elim (cases_lt n (10 ^ 15)) [
  | inl room ↦ room
  | inr over ↦ absurd (digit_first kind n name
      (fit, is ∙ ap (λ (l : List ℕ). l ++ end_of kind) (text_unsigned n (λ less. omega (arith, less, over)))) (seen refl))
]

-- a name that isn't the one with the sign that it has is neither
pub named_neither : (kind : FileKind) (n : ℕ) (name : List ℕ) (signed : Bool) → (signed ≡ true → get_or name 0 0 ≡ 43) → (get_or name 0 0 ≡ 43 → signed ≡ true) → (name ≡ name_of kind signed n → ⊥)
    → (b : Bool) → IsNameOf kind b n name → ⊥
named_neither kind n name true seen plus other true is = other is.1
named_neither kind n name false seen plus other false is = other is.1
named_neither kind n name true seen plus other false is = digit_first kind n name is (seen refl)
named_neither kind n name false seen plus other true is = false≢true (plus (plus_first kind n name is))

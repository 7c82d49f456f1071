-- Paths of files: the part after the last slash is the name, and its suffix names the queue. (These lemmas are in
-- `specs` because the law of an impl cites them.)
use Rattle.std.specs.Prelude.{codes, min}
use Rattle.std.specs.Fmt.{decimal}
use Rattle.std.specs.Str.Parse.{AllDigits}
use Rattle.std.proofs.Common.{◌≡◌, ℕ, zero, suc, ◌+◌, ◌-◌, ◌^◌, ◌<◌, Bool, true, false, cond, nat_lt, List, [], ◌∷◌, ◌++◌, length, get_or, drop, replicate, refl, sym, ◌∙◌, ap, subst, inl, inr, arith, nat_eq, length-append}
use Rattle.std.proofs.lemmas.Bool.{cases_lt, cases_Bool, false≢true}
use Rattle.std.proofs.lemmas.Bool.Decides.{Decides-eqb}
use Rattle.std.proofs.lemmas.Fmt.{decimal_is_IsNumeral}
use Rattle.std.proofs.lemmas.List.{append_assoc, drop_at, get_or_append_left, get_or_default, get_or_past, get_or-append_right, get_or-append-add}
use Rattle.std.specs.List.{Contains}
use Rattle.std.proofs.lemmas.List.Elements.{Contains-get_or}
use Rattle.std.proofs.lemmas.Str.Parse.{digit_at}
use Rattle.raft_log_record_base.specs.declared.pipe_log.LogQueue.{LogQueue}
use Rattle.raft_log_record_base.specs.declared.pipe_log.LogQueue.TheVariants.{Append, Rewrite}
use Rattle.raft_log_fs.specs.Disk.{IsPathIn, IsPlain}
use Rattle.raft_log_file_format.specs.Name.{IsNamed, EndsWith, number_text, reserved_suffix, signed_digits, sixteen_digits, suffix_of}
use Rattle.raft_log_file_format.proofs.Public.{written_text}
use Rattle.raft_log_active_file.specs.Layout.{has_sign, plain_place}
use Rattle.raft_log_active_file.specs.PlaceLaws.{plain_first}
use Rattle.raft_log_active_file.specs.Paths.{IsPathWith, reserved_suffix_of, directory_at, numbered_path, reserved_path}

-- The name after the last slash.

-- If `d/x` and `e/y` are the same path and `x` has no slash, `e` isn't longer than `d`. Otherwise the slash after `e`
-- would be in `x`.
no_longer : (d e x y : List ℕ) → IsPlain x → d ++ 47 ∷ x ≡ e ++ 47 ∷ y → length d < length e → ⊥
no_longer d e x y plain same longer =
    let k = length e - suc (length d) in
    let at : length d + suc k ≡ length e = omega (arith, longer) in
    let slash : get_or (d ++ 47 ∷ x) (length d + suc k) 0 ≡ 47 =
    ap (λ (l : List ℕ). get_or l (length d + suc k) 0) same
    ∙ ap (λ (i : ℕ). get_or (e ++ 47 ∷ y) i 0)
    (let there : length d + suc k ≡ length e + 0 = omega (arith, at) in there)
    ∙ get_or-append-add e (47 ∷ y) 0 0 in
    let inside : get_or x k 0 ≡ 47 = sym (get_or-append-add d (47 ∷ x) (suc k) 0) ∙ slash in
    plain k (omega (arith, at, ap length same, length-append d (47 ∷ x), length-append e (47 ∷ y))) inside

-- two names without a slash that end the same path are equal
pub one_name : (d e x y : List ℕ) → IsPlain x → IsPlain y → d ++ 47 ∷ x ≡ e ++ 47 ∷ y → x ≡ y
one_name d e x y plain also same = elim (cases_lt (length d) (length e)) [
  | inl shorter ↦ absurd (no_longer d e x y plain same shorter)
  | inr rest ↦ elim (cases_lt (length e) (length d)) [
    | inl longer ↦ absurd (no_longer e d y x also (sym same) longer)
    | inr other ↦
        (let even : length e ≡ length d = omega (arith, rest, other) in
        let split : 47 ∷ x ≡ 47 ∷ y = sym (drop_at d (47 ∷ x) (length d) refl)
        ∙ ap (λ (l : List ℕ). drop (length d) l) same ∙ drop_at e (47 ∷ y) (length d) even in
        ap (λ (l : List ℕ). drop 1 l) split)
  ]
]

-- a path with this suffix has only one number
pub one_number : (suffix : List ℕ) (directories : List (List ℕ)) (m n : ℕ) (path : List ℕ)
    → IsPathWith suffix directories m path → IsPathWith suffix directories n path → m ≡ n
one_number suffix directories m n path a b =
    let same : a.name ≡ b.name = one_name a.directory b.directory a.name b.name a.plain b.plain
    (sym a.joined ∙ b.joined) in
    let there : IsNamed suffix b.name m = subst (λ (name : List ℕ). IsNamed suffix name m) same a.named in
    there.0.value ∙ sym b.named.0.value

-- Names that are written have no slash.

-- whether bytes have no slash
has_no_slash : List ℕ → Bool
has_no_slash [] = true
has_no_slash (b ∷ bs) = cond (nat_eq b 47) false (has_no_slash bs)

-- bytes that `has_no_slash` accepts have no slash
no_slash : (bytes : List ℕ) → has_no_slash bytes ≡ true → IsPlain bytes
unfolding has_no_slash
no_slash [] none k less is = omega (arith, less)
no_slash (b ∷ bs) none zero less is = elim (cases_Bool (nat_eq b 47)) [
  | inl hit ↦ absurd (false≢true (sym (ap (λ t. cond t false (has_no_slash bs)) hit) ∙ none))
  | inr miss ↦ absurd (false≢true (sym miss ∙ (Decides-eqb b 47).1 is))
]
no_slash (b ∷ bs) none (suc k) less is = elim (cases_Bool (nat_eq b 47)) [
  | inl hit ↦ absurd (false≢true (sym (ap (λ t. cond t false (has_no_slash bs)) hit) ∙ none))
  | inr miss ↦ no_slash bs (sym (ap (λ t. cond t false (has_no_slash bs)) miss) ∙ none) k
      (omega (arith, less)) is
]

-- joining two names without a slash gives one without a slash
pub plain_append : (a b : List ℕ) → IsPlain a → IsPlain b → IsPlain (a ++ b)
plain_append a b first next k less is = elim (cases_lt k (length a)) [
  | inl here ↦ first k here (sym (get_or_append_left a b 0 k here) ∙ is)
  | inr beyond ↦ (let long = length-append a b in next (k - length a) (omega (arith, less, beyond, long))
      (sym (get_or-append_right a b (length a) k 0 refl beyond) ∙ is))
]

-- a number with leading zeros has only digits
padded_digits : (k n : ℕ) → n < 2 ^ 64 → AllDigits 10 (replicate k 48 ++ decimal n)
padded_digits zero n fit = (decimal_is_IsNumeral n fit).0.1
padded_digits (suc k) n fit = (omega arith, padded_digits k n fit)

-- a file's number in digits has no slash
digits_plain : (n : ℕ) → n < 10 ^ 16 → IsPlain (sixteen_digits n)
digits_plain n fit k less is = (let digit = digit_at (sixteen_digits n) k
    (padded_digits (16 - length (decimal n)) n (omega (arith, fit))) less in omega (arith, digit, is))

-- a file's number in digits with a leading plus sign has no slash
signed_plain : (n : ℕ) → n < 10 ^ 16 → IsPlain (signed_digits n)
signed_plain n fit zero less is = omega (arith, is)
signed_plain n fit (suc k) less is =
    (let digit = digit_at (replicate (15 - length (decimal n)) 48 ++ decimal n) k
    (padded_digits (15 - length (decimal n)) n (omega (arith, fit))) (omega (arith, less)) in
    omega (arith, digit, is))

either_plain : (b : Bool) (n : ℕ) → n < 10 ^ 16 → IsPlain (cond b (signed_digits n) (sixteen_digits n))
either_plain true n fit = signed_plain n fit
either_plain false n fit = digits_plain n fit

-- the text of a file's number in a name has no slash
pub text_plain : (signed : Bool) (n : ℕ) → n < 10 ^ 16 → IsPlain (number_text signed n)
text_plain true n fit = either_plain (nat_lt n (10 ^ 15)) n fit
text_plain false n fit = digits_plain n fit

-- the suffix of the names of a queue's files has no slash
pub suffix_plain : (queue : LogQueue) → IsPlain (suffix_of queue)
unfolding has_no_slash
suffix_plain Append = no_slash (codes ".raftlog") refl
suffix_plain Rewrite = no_slash (codes ".rewrite") refl

-- the suffix of Append's reserved names has no slash
pub reserved_plain : IsPlain reserved_suffix
unfolding has_no_slash
reserved_plain = no_slash (codes ".raftlog.reserved") refl

-- a name without a sign doesn't begin with a plus sign
pub no_plus : (suffix : List ℕ) (n : ℕ) → n < 10 ^ 16 → get_or (sixteen_digits n ++ suffix) 0 0 ≡ 43 → ⊥
no_plus suffix n fit plus =
    let k : ℕ = 16 - length (decimal n) in
    let some : 0 < length (sixteen_digits n) =
    omega (arith, (decimal_is_IsNumeral n (omega (arith, fit))).0.0, length-append (replicate k 48) (decimal n)) in
    let digit = digit_at (sixteen_digits n) 0 (padded_digits k n (omega (arith, fit))) some in
    omega (arith, digit, plus, get_or_append_left (sixteen_digits n) suffix 0 0 some)

-- The paths that are built.

-- the directory of each place is one of the list, if the list has any
has_directory : (directories : List (List ℕ)) (place : ℕ) → 0 < length directories
    → Contains directories (get_or directories place (get_or directories 0 []))
has_directory directories place some = elim (cases_lt place (length directories)) [
  | inl there ↦ Contains-get_or directories place (get_or directories 0 []) there
  | inr beyond ↦ subst (Contains directories) (sym (get_or_past directories place
      (get_or directories 0 []) beyond)) (Contains-get_or directories 0 [] some)
]

-- a directory of the list, a slash, a number's digits and a suffix make a path with this number
written_path : (suffix : List ℕ) (directories : List (List ℕ)) (place n : ℕ) → 0 < length directories
    → n < 10 ^ 16 → 0 < length suffix → has_no_slash suffix ≡ true
    → IsPathWith suffix directories n (directory_at directories place
    ++ 47 ∷ (number_text (has_sign (length directories) place) n ++ suffix))
written_path suffix directories place n some fit ended slashless =
    let signed : Bool = has_sign (length directories) place in
    record {
      directory = directory_at directories place;
      listed = has_directory directories (plain_place (length directories) place) some;
      name = number_text signed n ++ suffix;
      named = (written_text signed suffix n fit ended, (number_text signed n, refl));
      plain = plain_append (number_text signed n) suffix (text_plain signed n fit) (no_slash suffix slashless);
      joined = refl;
    }

-- the path that is built for a queue's file is one that this file may have
pub numbered_is : (queue : LogQueue) (directories : List (List ℕ)) (place n : ℕ) → 0 < length directories
    → n < 10 ^ 16 → IsPathWith (suffix_of queue) directories n (numbered_path queue directories place n)
unfolding has_no_slash
numbered_is Append directories place n some fit = written_path (codes ".raftlog") directories place n some fit
    (omega arith) refl
numbered_is Rewrite directories place n some fit = written_path (codes ".rewrite") directories place n some
    fit (omega arith) refl

-- the directory of a place below the number of directories is the one at this position
pub directory_first : (directories : List (List ℕ)) (place : ℕ) → place < length directories
    → directory_at directories place ≡ get_or directories place []
directory_first directories place inside =
    ap (λ (k : ℕ). get_or directories k (get_or directories 0 []))
    (plain_first (length directories) place inside)
    ∙ get_or_default directories place (get_or directories 0 []) [] inside

-- the path that is built for a place below the number of directories is in the directory at this position
pub numbered_lies : (queue : LogQueue) (directories : List (List ℕ)) (place n : ℕ) → 0 < length directories
    → place < length directories → n < 10 ^ 16
    → IsPathIn (get_or directories place []) (numbered_path queue directories place n)
unfolding numbered_is written_path
numbered_lies Append directories place n some inside fit =
    let name : List ℕ = number_text (has_sign (length directories) place) n ++ suffix_of Append in
    record {
      name = name;
      joined = ap (λ (d : List ℕ). d ++ 47 ∷ name) (directory_first directories place inside);
      plain = (numbered_is Append directories place n some fit).plain;
    }
numbered_lies Rewrite directories place n some inside fit =
    let name : List ℕ = number_text (has_sign (length directories) place) n ++ suffix_of Rewrite in
    record {
      name = name;
      joined = ap (λ (d : List ℕ). d ++ 47 ∷ name) (directory_first directories place inside);
      plain = (numbered_is Rewrite directories place n some fit).plain;
    }

-- the reserved path of a file is one with the reserved suffix and the file's number
reserved_written : (queue : LogQueue) (directories : List (List ℕ)) (place n : ℕ) → 0 < length directories
    → n < 10 ^ 16 → 0 < length (reserved_suffix_of queue) → has_no_slash (reserved_suffix_of queue) ≡ true
    → IsPathWith (reserved_suffix_of queue) directories n (numbered_path queue directories place n
    ++ codes ".reserved")
reserved_written queue directories place n some fit ended slashless =
    let kept : List ℕ = codes ".reserved" in
    let text : List ℕ = number_text (has_sign (length directories) place) n in
    let joined : numbered_path queue directories place n ++ kept ≡ directory_at directories place
    ++ 47 ∷ (text ++ reserved_suffix_of queue) =
    append_assoc (directory_at directories place) (47 ∷ (text ++ suffix_of queue)) kept
    ∙ ap (λ (l : List ℕ). directory_at directories place ++ 47 ∷ l)
    (append_assoc text (suffix_of queue) kept) in
    subst (IsPathWith (reserved_suffix_of queue) directories n) (sym joined)
    (written_path (reserved_suffix_of queue) directories place n some fit ended slashless)

-- The reserved path of a file of either queue is one with the reserved suffix and the file's number. A number of more
-- than sixteen digits is replaced by the greatest one.
pub reserved_is : (queue : LogQueue) (directories : List (List ℕ)) (place n : ℕ) → 0 < length directories
    → IsPathWith (reserved_suffix_of queue) directories (min n (10 ^ 16 - 1))
    (reserved_path queue directories place n)
unfolding has_no_slash
reserved_is Append directories place n some = reserved_written Append directories place (min n (10 ^ 16 - 1))
    some (omega arith) (omega arith) refl
reserved_is Rewrite directories place n some = reserved_written Rewrite directories place
    (min n (10 ^ 16 - 1)) some (omega arith) (omega arith) refl

-- The suffix of a name gives the queue, and whether the name is reserved.

-- a name with a suffix has the suffix's byte at the same distance from the end
from_behind : (suffix name : List ℕ) (i j : ℕ) → EndsWith suffix name → i + suc j ≡ length suffix
    → get_or name (length name - suc j) 0 ≡ get_or suffix i 0
from_behind suffix name i j (front, is) all =
    let long : length name ≡ length front + length suffix = ap length is ∙ length-append front suffix in
    let at : length name - suc j ≡ length front + i = omega (arith, long, all) in
    ap (λ (k : ℕ). get_or name k 0) at ∙ ap (λ (l : List ℕ). get_or l (length front + i) 0) is
    ∙ get_or-append-add front suffix i 0

-- a name can't have two suffixes that differ in a byte at the same distance from the end
pub other_end : (s t name : List ℕ) (i k j : ℕ) → i + suc j ≡ length s → k + suc j ≡ length t
    → (get_or s i 0 ≡ get_or t k 0 → ⊥) → EndsWith s name → EndsWith t name → ⊥
other_end s t name i k j here there differ a b =
    differ (sym (from_behind s name i j a here) ∙ from_behind t name k j b there)

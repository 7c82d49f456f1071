-- The last word of lists that are joined.
use Rattle.std.proofs.Common.{◌≡◌, List, [], ◌∷◌, ◌++◌, Option, Some, None, unwrap_or, refl, sym, ap, ◌∙◌}
use Rattle.std.specs.Option.{option_or}
use Rattle.raft_log_model_laws.specs.Item.{Item}
use Rattle.raft_log_model_laws.specs.Meaning.{Slot, Content, last_word, says, holds, directory, after}

pub option_or_none : {B : Type 0} (b : Option B) → option_or b None ≡ b
option_or_none None = refl
option_or_none (Some x) = refl

pub option_or_assoc : {B : Type 0} (a b c : Option B) → option_or (option_or a b) c ≡ option_or a (option_or b c)
option_or_assoc None b c = refl
option_or_assoc (Some x) b c = refl

pub last_word_append : {A B : Type 0} (w : A → Option B) (xs ys : List A)
    → last_word w (xs ++ ys) ≡ option_or (last_word w ys) (last_word w xs)
last_word_append w [] ys = sym (option_or_none (last_word w ys))
last_word_append w (x ∷ xs) ys =
    ap (λ b. option_or b (w x)) (last_word_append w xs ys) ∙ option_or_assoc (last_word w ys) (last_word w xs) (w x)

pub says_append : {E V : Type 0} (s : Slot) (xs ys : List (Item E V))
    → says s (xs ++ ys) ≡ option_or (says s ys) (says s xs)
says_append s xs ys = last_word_append _ xs ys

pub unwrap_or_option_or : {B : Type 0} (a b : Option B) (d : B) → unwrap_or (option_or a b) d ≡ unwrap_or a (unwrap_or b d)
unwrap_or_option_or None b d = refl
unwrap_or_option_or (Some x) b d = refl

-- Rewrite's items may stand before Append's in one list
pub directory_append : {E V : Type 0} (s : Slot) (rewrite append : List (Item E V))
    → directory s rewrite append ≡ holds s (rewrite ++ append)
directory_append s rewrite append =
    sym (ap (λ b. unwrap_or b None) (says_append s rewrite append)
    ∙ unwrap_or_option_or (says s append) (says s rewrite) None)

-- more items, taken one list after the other
pub after_append : {E V : Type 0} (m : Slot → Option (Content E V)) (xs ys : List (Item E V)) (s : Slot)
    → after m (xs ++ ys) s ≡ after (after m xs) ys s
after_append m xs ys s =
    ap (λ b. unwrap_or b (m s)) (says_append s xs ys) ∙ unwrap_or_option_or (says s ys) (says s xs) (m s)

-- more items at the end of Append are more items on the map
pub directory_more : {E V : Type 0} (s : Slot) (rewrite append more : List (Item E V))
    → directory s rewrite (append ++ more) ≡ after (λ t. directory t rewrite append) more s
directory_more s rewrite append more =
    ap (λ b. unwrap_or b (holds s rewrite)) (says_append s append more)
    ∙ unwrap_or_option_or (says s more) (says s append) (holds s rewrite)

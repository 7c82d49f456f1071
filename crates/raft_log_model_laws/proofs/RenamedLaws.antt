-- Meaning doesn't care what stands for an entry: what a log says of entries read otherwise is what it says, read
-- otherwise.
use Rattle.std.proofs.Common.{◌≡◌, ℕ, ◌-◌, List, [], ◌∷◌, ◌++◌, map, Bool, true, false, Option, Some, None, option_map, slice_get, unwrap_or, nat_le, nat_lt, bytes_eq, ◌==◌, if◌then◌else◌, refl, sym, ap, ap₂, ◌∙◌}
use Rattle.std.proofs.lemmas.List.{map-append}
use Rattle.std.proofs.lemmas.Option.{slice_get-map}
use Rattle.std.specs.Option.{option_or}
use Rattle.raft_log_model_laws.specs.Item.{Item, Tagged, Record, items_of}
use Rattle.raft_log_model_laws.specs.Item.Item.{Run, Clean, Compact, Put, Del}
use Rattle.raft_log_model_laws.specs.Item.Record.{Plain, Part}
use Rattle.raft_log_model_laws.specs.Item.Mark.{Begin, Middle, End}
use Rattle.raft_log_model_laws.specs.Meaning.{Slot, Content, write, says, holds, directory}
use Rattle.raft_log_model_laws.specs.Meaning.Slot.{Index, Key}
use Rattle.raft_log_model_laws.specs.Meaning.Content.{Entry, Value}
use Rattle.raft_log_model_laws.specs.Groups.{of_group, contents, Open, none_open, onto, counts, opens, settle, appended, rewritten, Map, directory_meaning, taken}
use Rattle.raft_log_model_laws.specs.Renamed.{renamed, renamed_tagged, renamed_record, renamed_content, renamed_word, renamed_map}

-- cases on options
entry_of : {E F V : Type 0} (f : E → F) (o : Option E)
    → ◌≡◌ {A = Option (Content F V)} (option_map Entry (option_map f o)) (option_map (renamed_content f) (option_map Entry o))
entry_of f None = refl
entry_of f (Some e) = refl

word_if : {E F V : Type 0} (f : E → F) (b : Bool) (v : Option (Content F V)) (w : Option (Content E V))
    → v ≡ option_map (renamed_content f) w
    → (if b then Some v else None) ≡ renamed_word f (if b then Some w else None)
word_if f true v w h = ap Some h
word_if f false v w h = refl

word_or : {E F V : Type 0} (f : E → F) (a b : Option (Option (Content E V)))
    → option_or (renamed_word f a) (renamed_word f b) ≡ renamed_word f (option_or a b)
word_or f None b = refl
word_or f (Some a) b = refl

word_else : {E F V : Type 0} (f : E → F) (a : Option (Option (Content E V))) (d : Option (Content E V))
    → unwrap_or (renamed_word f a) (option_map (renamed_content f) d) ≡ option_map (renamed_content f) (unwrap_or a d)
word_else f None d = refl
word_else f (Some a) d = refl

-- one item
pub write_renamed : {E F V : Type 0} (f : E → F) (s : Slot) (x : Item E V)
    → write s (renamed f x) ≡ renamed_word f (write s x)
write_renamed f (Index i) (Run n []) = refl
write_renamed f (Index i) (Run n (e ∷ es)) =
    word_if f (nat_le n i) _ (option_map Entry (slice_get (e ∷ es) (i - n)))
    (ap (option_map Entry) (slice_get-map f (e ∷ es) (i - n)) ∙ entry_of f (slice_get (e ∷ es) (i - n)))
write_renamed f (Index i) Clean = refl
write_renamed f (Index i) (Compact c) = word_if f (nat_lt i c) None None refl
write_renamed f (Index i) (Put l v) = refl
write_renamed f (Index i) (Del l) = refl
write_renamed f (Key k) (Run n es) = refl
write_renamed f (Key k) Clean = refl
write_renamed f (Key k) (Compact c) = refl
write_renamed f (Key k) (Put l v) = word_if f (bytes_eq l k) (Some (Value v)) (Some (Value v)) refl
write_renamed f (Key k) (Del l) = word_if f (bytes_eq l k) None None refl

pub says_renamed : {E F V : Type 0} (f : E → F) (s : Slot) (xs : List (Item E V))
    → says s (map (renamed f) xs) ≡ renamed_word f (says s xs)
says_renamed f s [] = refl
says_renamed f s (x ∷ xs) =
    ap₂ option_or (says_renamed f s xs) (write_renamed f s x) ∙ word_or f (says s xs) (write s x)

pub holds_renamed : {E F V : Type 0} (f : E → F) (s : Slot) (xs : List (Item E V))
    → holds s (map (renamed f) xs) ≡ option_map (renamed_content f) (holds s xs)
holds_renamed f s xs = ap (λ w. unwrap_or w None) (says_renamed f s xs) ∙ word_else f (says s xs) None

pub directory_renamed : {E F V : Type 0} (f : E → F) (s : Slot) (rewrite append : List (Item E V))
    → directory s (map (renamed f) rewrite) (map (renamed f) append)
    ≡ option_map (renamed_content f) (directory s rewrite append)
directory_renamed f s rewrite append =
    ap₂ unwrap_or (says_renamed f s append) (holds_renamed f s rewrite)
    ∙ word_else f (says s append) (holds s rewrite)

-- many groups
item_if : {E F V : Type 0} (f : E → F) (b : Bool) (x : Item E V) (xs : List (Item E V))
    → (if b then renamed f x ∷ map (renamed f) xs else map (renamed f) xs) ≡ map (renamed f) (if b then x ∷ xs else xs)
item_if f true x xs = refl
item_if f false x xs = refl

pub of_group_renamed : {E F V : Type 0} (f : E → F) (g : ℕ) (xs : List (Tagged E V))
    → of_group g (map (renamed_tagged f) xs) ≡ map (renamed f) (of_group g xs)
of_group_renamed f g [] = refl
of_group_renamed f g (x ∷ xs) =
    ap (λ ys. if x.group == g then renamed f x.item ∷ ys else ys) (of_group_renamed f g xs)
    ∙ item_if f (x.group == g) x.item (of_group g xs)

items_renamed : {E F V : Type 0} (f : E → F) (r : Record E V)
    → items_of (renamed_record f r) ≡ map (renamed_tagged f) (items_of r)
items_renamed f (Plain xs) = refl
items_renamed f (Part m xs) = refl

contents_renamed : {E F V : Type 0} (f : E → F) (rs : List (Record E V))
    → contents (map (renamed_record f) rs) ≡ map (renamed_tagged f) (contents rs)
contents_renamed f [] = refl
contents_renamed f (r ∷ rs) =
    ap₂ (λ xs ys. xs ++ ys) (items_renamed f r) (contents_renamed f rs)
    ∙ sym (map-append (renamed_tagged f) (items_of r) (contents rs))

pub appended_renamed : {E F V : Type 0} (f : E → F) (g : ℕ) (rs : List (Record E V))
    → appended g (map (renamed_record f) rs) ≡ map (renamed f) (appended g rs)
appended_renamed f g rs = ap (of_group g) (contents_renamed f rs) ∙ of_group_renamed f g (contents rs)

-- atomic groups: p has open what o has, renamed
abbrev RenamesOpen : {E F V : Type 0} → (E → F) → Open E V → Open F V → Type 0
RenamesOpen f o p = (n : ℕ) → p n ≡ option_map (map (renamed_tagged f)) (o n)

onto_renamed : {E F V : Type 0} (f : E → F) (xs : Option (List (Tagged E V))) (ys : List (Tagged E V))
    → onto (option_map (map (renamed_tagged f)) xs) (map (renamed_tagged f) ys)
    ≡ option_map (map (renamed_tagged f)) (onto xs ys)
onto_renamed f None ys = refl
onto_renamed f (Some xs) ys = ap Some (sym (map-append (renamed_tagged f) xs ys))

open_if : {E F V : Type 0} (f : E → F) (b : Bool) (v u : Option (List (Tagged F V))) (w o : Option (List (Tagged E V)))
    → v ≡ option_map (map (renamed_tagged f)) w → u ≡ option_map (map (renamed_tagged f)) o
    → (if b then v else u) ≡ option_map (map (renamed_tagged f)) (if b then w else o)
open_if f true v u w o h k = h
open_if f false v u w o h k = k

opens_renamed : {E F V : Type 0} (f : E → F) (o : Open E V) (p : Open F V) (r : Record E V) → RenamesOpen f o p
    → RenamesOpen f (opens o r) (opens p (renamed_record f r))
opens_renamed f o p (Plain xs) h k = h k
opens_renamed f o p (Part (Begin n) xs) h k = open_if f (n == k) _ (p k) (Some xs) (o k) refl (h k)
opens_renamed f o p (Part (Middle n) xs) h k =
    open_if f (n == k) _ (p k) (onto (o n) xs) (o k)
    (ap (λ a. onto a (map (renamed_tagged f) xs)) (h n) ∙ onto_renamed f (o n) xs) (h k)
opens_renamed f o p (Part (End n) xs) h k = open_if f (n == k) None (p k) None (o k) refl (h k)

or_none : {E F V : Type 0} (f : E → F) (o : Option (List (Tagged E V)))
    → unwrap_or (option_map (map (renamed_tagged f)) o) [] ≡ map (renamed_tagged f) (unwrap_or o [])
or_none f None = refl
or_none f (Some xs) = refl

counts_renamed : {E F V : Type 0} (f : E → F) (o : Open E V) (p : Open F V) (r : Record E V) → RenamesOpen f o p
    → counts p (renamed_record f r) ≡ map (renamed_tagged f) (counts o r)
counts_renamed f o p (Plain xs) h = refl
counts_renamed f o p (Part (Begin n) xs) h = refl
counts_renamed f o p (Part (Middle n) xs) h = refl
counts_renamed f o p (Part (End n) xs) h =
    ap (λ a. unwrap_or (onto a (map (renamed_tagged f) xs)) []) (h n)
    ∙ (ap (λ a. unwrap_or a []) (onto_renamed f (o n) xs) ∙ or_none f (onto (o n) xs))

settle_renamed : {E F V : Type 0} (f : E → F) (o : Open E V) (p : Open F V) (rs : List (Record E V)) → RenamesOpen f o p
    → settle p (map (renamed_record f) rs) ≡ map (renamed_tagged f) (settle o rs)
settle_renamed f o p [] h = refl
settle_renamed f o p (r ∷ rs) h =
    ap₂ (λ xs ys. xs ++ ys) (counts_renamed f o p r h)
    (settle_renamed f (opens o r) (opens p (renamed_record f r)) rs (opens_renamed f o p r h))
    ∙ sym (map-append (renamed_tagged f) (counts o r) (settle (opens o r) rs))

pub rewritten_renamed : {E F V : Type 0} (f : E → F) (g : ℕ) (rs : List (Record E V))
    → rewritten g (map (renamed_record f) rs) ≡ map (renamed f) (rewritten g rs)
rewritten_renamed f g rs =
    ap (of_group g) (settle_renamed f none_open none_open rs (λ n. refl)) ∙ of_group_renamed f g (settle none_open rs)

pub directory_meaning_renamed : {E F V : Type 0} (f : E → F) (rewrite append : List (Record E V)) (g : ℕ) (s : Slot)
    → directory_meaning (map (renamed_record f) rewrite) (map (renamed_record f) append) g s
    ≡ renamed_map f (directory_meaning rewrite append) g s
directory_meaning_renamed f rewrite append g s =
    ap₂ (directory s) (rewritten_renamed f g rewrite) (appended_renamed f g append)
    ∙ directory_renamed f s (rewritten g rewrite) (appended g append)

pub taken_renamed : {E F V : Type 0} (f : E → F) (m : Map E V) (rs : List (Record E V)) (g : ℕ) (s : Slot)
    → taken (renamed_map f m) (map (renamed_record f) rs) g s ≡ renamed_map f (taken m rs) g s
taken_renamed f m rs g s =
    ap (λ w. unwrap_or w (renamed_map f m g s))
    (ap (says s) (appended_renamed f g rs) ∙ says_renamed f s (appended g rs))
    ∙ word_else f (says s (appended g rs)) (m g s)

-- read twice
maps_twice : {A B C : Type 0} (f : A → B) (h : B → C) (xs : List A) → map h (map f xs) ≡ map (λ x. h (f x)) xs
maps_twice f h [] = refl
maps_twice f h (x ∷ xs) = ap (λ ys. h (f x) ∷ ys) (maps_twice f h xs)

pub item_twice : {E F H V : Type 0} (f : E → F) (h : F → H) (x : Item E V) → renamed h (renamed f x) ≡ renamed (λ e. h (f e)) x
item_twice f h (Run n es) = ap (Run n) (maps_twice f h es)
item_twice f h Clean = refl
item_twice f h (Compact c) = refl
item_twice f h (Put k v) = refl
item_twice f h (Del k) = refl

tagged_twice : {E F H V : Type 0} (f : E → F) (h : F → H) (xs : List (Tagged E V))
    → map (renamed_tagged h) (map (renamed_tagged f) xs) ≡ map (renamed_tagged (λ e. h (f e))) xs
tagged_twice f h [] = refl
tagged_twice f h (x ∷ xs) =
    ap₂ (λ y ys. record { group = x.group; item = y } ∷ ys) (item_twice f h x.item) (tagged_twice f h xs)

pub record_twice : {E F H V : Type 0} (f : E → F) (h : F → H) (r : Record E V)
    → renamed_record h (renamed_record f r) ≡ renamed_record (λ e. h (f e)) r
record_twice f h (Plain xs) = ap Plain (tagged_twice f h xs)
record_twice f h (Part m xs) = ap (Part m) (tagged_twice f h xs)

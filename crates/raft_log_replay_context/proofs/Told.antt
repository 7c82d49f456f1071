-- What records mean where what is there takes the place of each place and each value.
use Rattle.std.proofs.Common.{◌≡◌, ℕ, ◌==◌, Bool, true, false, List, [], ◌∷◌, ◌++◌, map, Option, Some, None, option_map, unwrap_or, if◌then◌else◌, refl, sym, ap, ap₂, ◌∙◌}
use Rattle.std.proofs.lemmas.List.{map-append}
use Rattle.raft_log_model_laws.specs.Item.{Item, Tagged, Record, items_of}
use Rattle.raft_log_model_laws.specs.Item.Record.{Plain, Part}
use Rattle.raft_log_model_laws.specs.Item.Mark.{Begin, Middle, End}
use Rattle.raft_log_model_laws.specs.Groups.{appended, contents, counts, none_open, of_group, onto, opens, rewritten, settle, Open}
use Rattle.raft_log_memtable_index.specs.Shown.{KeyValue}
use Rattle.raft_log_memtable_index.specs.Bridge.{Located}
use Rattle.raft_log_memtable_index.specs.Replayed.{told}
use Rattle.raft_log_replay_context.specs.Opened.{told_record, told_tagged}

module _ {E : Type 0} (at : Located → E) where
  abbrev Tags : Type 0
  Tags = List (Tagged Located KeyValue)

  item_if : (b : Bool) (x : Item Located KeyValue) (xs : List (Item Located KeyValue))
      → (if b then told at x ∷ map (told at) xs else map (told at) xs) ≡ map (told at) (if b then x ∷ xs else xs)
  item_if true x xs = refl
  item_if false x xs = refl

  pub of_group_told : (g : ℕ) (xs : Tags) → of_group g (map (told_tagged at) xs) ≡ map (told at) (of_group g xs)
  of_group_told g [] = refl
  of_group_told g (x ∷ xs) = ap (λ ys. if x.group == g then told at x.item ∷ ys else ys) (of_group_told g xs) ∙ item_if (x.group == g) x.item (of_group g xs)

  pub items_told : (r : Record Located KeyValue) → items_of (told_record at r) ≡ map (told_tagged at) (items_of r)
  items_told (Plain xs) = refl
  items_told (Part m xs) = refl

  contents_told : (rs : List (Record Located KeyValue)) → contents (map (told_record at) rs) ≡ map (told_tagged at) (contents rs)
  contents_told [] = refl
  contents_told (r ∷ rs) = ap₂ (λ xs ys. xs ++ ys) (items_told r) (contents_told rs) ∙ sym (map-append (told_tagged at) (items_of r) (contents rs))

  pub appended_told : (g : ℕ) (rs : List (Record Located KeyValue)) → appended g (map (told_record at) rs) ≡ map (told at) (appended g rs)
  appended_told g rs = ap (of_group g) (contents_told rs) ∙ of_group_told g (contents rs)

  abbrev TellsOpen : Open Located KeyValue → Open E (List ℕ) → Type 0
  TellsOpen o p = (n : ℕ) → p n ≡ option_map (map (told_tagged at)) (o n)

  onto_told : (xs : Option Tags) (ys : Tags) → onto (option_map (map (told_tagged at)) xs) (map (told_tagged at) ys) ≡ option_map (map (told_tagged at)) (onto xs ys)
  onto_told None ys = refl
  onto_told (Some xs) ys = ap Some (sym (map-append (told_tagged at) xs ys))

  open_if : (b : Bool) (v u : Option (List (Tagged E (List ℕ)))) (w o : Option Tags) → v ≡ option_map (map (told_tagged at)) w → u ≡ option_map (map (told_tagged at)) o
      → (if b then v else u) ≡ option_map (map (told_tagged at)) (if b then w else o)
  open_if true v u w o h k = h
  open_if false v u w o h k = k

  opens_told : (o : Open Located KeyValue) (p : Open E (List ℕ)) (r : Record Located KeyValue) → TellsOpen o p → TellsOpen (opens o r) (opens p (told_record at r))
  opens_told o p (Plain xs) h k = h k
  opens_told o p (Part (Begin n) xs) h k = open_if (n == k) _ (p k) (Some xs) (o k) refl (h k)
  opens_told o p (Part (Middle n) xs) h k =
      open_if (n == k) _ (p k) (onto (o n) xs) (o k) (ap (λ v. onto v (map (told_tagged at) xs)) (h n) ∙ onto_told (o n) xs) (h k)
  opens_told o p (Part (End n) xs) h k = open_if (n == k) None (p k) None (o k) refl (h k)

  else_told : (o : Option Tags) → unwrap_or (option_map (map (told_tagged at)) o) [] ≡ map (told_tagged at) (unwrap_or o [])
  else_told None = refl
  else_told (Some xs) = refl

  counts_told : (o : Open Located KeyValue) (p : Open E (List ℕ)) (r : Record Located KeyValue) → TellsOpen o p → counts p (told_record at r) ≡ map (told_tagged at) (counts o r)
  counts_told o p (Plain xs) h = refl
  counts_told o p (Part (Begin n) xs) h = refl
  counts_told o p (Part (Middle n) xs) h = refl
  counts_told o p (Part (End n) xs) h =
      ap (λ v. unwrap_or (onto v (map (told_tagged at) xs)) []) (h n) ∙ ap (λ v. unwrap_or v []) (onto_told (o n) xs) ∙ else_told (onto (o n) xs)

  settle_told : (o : Open Located KeyValue) (p : Open E (List ℕ)) (rs : List (Record Located KeyValue)) → TellsOpen o p
      → settle p (map (told_record at) rs) ≡ map (told_tagged at) (settle o rs)
  settle_told o p [] h = refl
  settle_told o p (r ∷ rs) h =
      ap₂ (λ xs ys. xs ++ ys) (counts_told o p r h) (settle_told (opens o r) (opens p (told_record at r)) rs (opens_told o p r h))
      ∙ sym (map-append (told_tagged at) (counts o r) (settle (opens o r) rs))

  pub rewritten_told : (g : ℕ) (rs : List (Record Located KeyValue)) → rewritten g (map (told_record at) rs) ≡ map (told at) (rewritten g rs)
  rewritten_told g rs = ap (of_group g) (settle_told none_open none_open rs (λ n. refl)) ∙ of_group_told g (settle none_open rs)

-- What holds of each item of the records holds of each one that counts, and of each entry that they say.
use Rattle.std.proofs.Common.{◌≡◌, ℕ, zero, suc, ◌-◌, ◌==◌, nat_lt, Bool, true, false, if◌then◌else◌, nat_le, List, [], ◌∷◌, ◌++◌, Option, Some, None, option_map, slice_get, unwrap_or, refl, ap, subst, ◌∙◌}
use Rattle.std.specs.Option.{option_or}
use Rattle.raft_log_model_laws.specs.Item.{Item, Record, Tagged, items_of}
use Rattle.raft_log_model_laws.specs.Item.Item.{Run, Clean, Compact, Put, Del}
use Rattle.raft_log_model_laws.specs.Item.Record.{Plain, Part}
use Rattle.raft_log_model_laws.specs.Item.Mark.{Begin, Middle, End}
use Rattle.raft_log_model_laws.specs.Meaning.{says, write, directory, holds, Content}
use Rattle.raft_log_model_laws.specs.Meaning.Slot.{Index}
use Rattle.raft_log_model_laws.specs.Meaning.Content.{Entry}
use Rattle.raft_log_model_laws.specs.Groups.{none_open, of_group, onto, rewritten, set_open, settle, Open}
use Rattle.raft_log_model_laws.proofs.Public.{at_bool, at_option}
use Rattle.raft_log_machine_laws.specs.Machine.{AllFit, Fits, RecordsFit}
use Rattle.raft_log_memtable_index.specs.Shown.{KeyValue}
use Rattle.raft_log_memtable_index.specs.Bridge.{Located}
use Rattle.raft_log_replay_context.specs.Records.{RunsFit}
use Rattle.raft_log_recovery_laws.specs.Entries.{EntriesHave, ItemsHave, RecordsHave}
use Rattle.raft_log_engine_laws.specs.raft_log_block_cache.specs.Stored.{Each}

-- What counts.
module _ {E V : Type 0} (P : Item E V → Type 0) where
  items_append : (xs ys : List (Tagged E V)) → ItemsHave P xs → ItemsHave P ys → ItemsHave P (xs ++ ys)
  items_append [] ys h k = k
  items_append (x ∷ xs) ys h k = (h.0, items_append xs ys h.1 k)

  abbrev OpenHas : Open E V → Type 0
  OpenHas o = (n : ℕ) (xs : List (Tagged E V)) → o n ≡ Some xs → ItemsHave P xs

  set_has : (o : Open E V) (n : ℕ) (v : Option (List (Tagged E V))) → OpenHas o → ((xs : List (Tagged E V)) → v ≡ Some xs → ItemsHave P xs) → OpenHas (set_open o n v)
  set_has o n v h has k xs = at_bool (n == k) (λ b. (if b then v else o k) ≡ Some xs → ItemsHave P xs) (λ e. has xs) (λ e. h k xs)

  onto_has : (old : Option (List (Tagged E V))) (ys : List (Tagged E V)) → ((xs : List (Tagged E V)) → old ≡ Some xs → ItemsHave P xs) → ItemsHave P ys
      → (zs : List (Tagged E V)) → onto old ys ≡ Some zs → ItemsHave P zs
  onto_has None ys h k zs e = cc
  onto_has (Some xs) ys h k zs e = let same : xs ++ ys ≡ zs = cc in subst (λ l. ItemsHave P l) same (items_append xs ys (h xs refl) k)

  ended_has : (old : Option (List (Tagged E V))) (ys : List (Tagged E V)) → ((xs : List (Tagged E V)) → old ≡ Some xs → ItemsHave P xs) → ItemsHave P ys
      → ItemsHave P (unwrap_or (onto old ys) [])
  ended_has None ys h k = tt
  ended_has (Some xs) ys h k = items_append xs ys (h xs refl) k

  settle_has : (o : Open E V) (rs : List (Record E V)) → OpenHas o → RecordsHave P rs → ItemsHave P (settle o rs)
  settle_has o [] h k = tt
  settle_has o (Plain xs ∷ rs) h k = items_append xs (settle o rs) k.0 (settle_has o rs h k.1)
  settle_has o (Part (Begin n) xs ∷ rs) h k =
      settle_has (set_open o n (Some xs)) rs (set_has o n (Some xs) h (λ ys e. let same : xs ≡ ys = cc in subst (λ l. ItemsHave P l) same k.0)) k.1
  settle_has o (Part (Middle n) xs ∷ rs) h k = settle_has (set_open o n (onto (o n) xs)) rs (set_has o n (onto (o n) xs) h (onto_has (o n) xs (h n) k.0)) k.1
  settle_has o (Part (End n) xs ∷ rs) h k =
      items_append (unwrap_or (onto (o n) xs) []) (settle (set_open o n None) rs) (ended_has (o n) xs (h n) k.0)
      (settle_has (set_open o n None) rs (set_has o n None h (λ ys e. cc)) k.1)

  group_has : (g : ℕ) (xs : List (Tagged E V)) → ItemsHave P xs → Each P (of_group g xs)
  group_has g [] h = tt
  group_has g (x ∷ xs) h = at_bool (x.group == g) (λ b. Each P (if b then x.item ∷ of_group g xs else of_group g xs)) (λ e. (h.0, group_has g xs h.1)) (λ e. group_has g xs h.1)

  pub rewritten_has : (g : ℕ) (rs : List (Record E V)) → RecordsHave P rs → Each P (rewritten g rs)
  rewritten_has g rs h = group_has g (settle none_open rs) (settle_has none_open rs (λ n xs e. cc) h)

  pub records_append : (xs ys : List (Record E V)) → RecordsHave P xs → RecordsHave P ys → RecordsHave P (xs ++ ys)
  records_append [] ys h k = k
  records_append (x ∷ xs) ys h k = (h.0, records_append xs ys h.1 k)

-- Runs that fit.
module _ {E V : Type 0} where
  all_fit : (xs : List (Tagged E V)) → AllFit xs → ItemsHave Fits xs
  all_fit [] h = tt
  all_fit (x ∷ xs) h = (h.0, all_fit xs h.1)

  pub records_fit : (rs : List (Record E V)) → RecordsFit rs → RecordsHave Fits rs
  records_fit [] h = tt
  records_fit (r ∷ rs) h = (all_fit (items_of r) h.0, records_fit rs h.1)

  runs_fit : (xs : List (Item E V)) → Each Fits xs → RunsFit xs
  runs_fit [] h = tt
  runs_fit (x ∷ xs) h = (h.0, runs_fit xs h.1)

  -- where all of the records do, what counts does
  pub counted_fit : (g : ℕ) (rs : List (Record E V)) → RecordsFit rs → RunsFit (rewritten g rs)
  counted_fit g rs h = runs_fit (rewritten g rs) (rewritten_has Fits g rs (records_fit rs h))

-- The entry that the items say.
module _ (P : Located → Type 0) where
  place_has : (ls : List Located) (k : ℕ) (l : Located) → Each P ls → slice_get ls k ≡ Some l → P l
  place_has [] k l h e = cc
  place_has (x ∷ ls) zero l h e = let same : x ≡ l = cc in subst P same h.0
  place_has (x ∷ ls) (suc k) l h e = place_has ls k l h.1 e

  abbrev Word : Type 0
  Word = Option (Option (Content Located KeyValue))

  no_word : (l : Located) → ◌≡◌ {A = Word} None (Some (Some (Entry l))) → P l
  no_word l e = cc

  entry_of : (o : Option Located) (l : Located) → (o ≡ Some l → P l) → ◌≡◌ {A = Word} (Some (option_map Entry o)) (Some (Some (Entry l))) → P l
  entry_of None l known e = cc
  entry_of (Some x) l known e = let same : x ≡ l = cc in known (ap Some same)

  item_has : (i : ℕ) (x : Item Located KeyValue) (l : Located) → EntriesHave P x → write (Index i) x ≡ Some (Some (Entry l)) → P l
  item_has i (Run f []) l h e = cc
  item_has i (Run f (x ∷ xs)) l h e =
      at_bool (nat_le f i) (λ (b : Bool). ◌≡◌ {A = Word} (if b then Some (option_map Entry (slice_get (x ∷ xs) (i - f))) else None) (Some (Some (Entry l))) → P l)
      (λ _ said. entry_of (slice_get (x ∷ xs) (i - f)) l (place_has (x ∷ xs) (i - f) l h) said) (λ _ said. no_word l said) e
  item_has i Clean l h e = cc
  item_has i (Compact c) l h e = by_test (nat_lt i c) e
    where
      by_test : (b : Bool) → ◌≡◌ {A = Word} (if b then Some None else None) (Some (Some (Entry l))) → P l
      by_test true h = cc
      by_test false h = cc
  item_has i (Put k v) l h e = cc
  item_has i (Del k) l h e = cc

  pub said_has : (i : ℕ) (xs : List (Item Located KeyValue)) (l : Located) → Each (EntriesHave P) xs → says (Index i) xs ≡ Some (Some (Entry l)) → P l
  said_has i [] l h e = cc
  said_has i (x ∷ xs) l h e =
      at_option (says (Index i) xs) (λ w. option_or w (write (Index i) x) ≡ Some (Some (Entry l)) → says (Index i) xs ≡ w → P l)
      (λ _ now _. item_has i x l h.0 now) (λ w _ now is. said_has i xs l h.1 (is ∙ now)) e refl

  none_held : (l : Located) → ◌≡◌ {A = Option (Content Located KeyValue)} None (Some (Entry l)) → P l
  none_held l e = cc

  -- the one that a directory means
  pub meant_has : (i : ℕ) (rewrite append : List (Item Located KeyValue)) (l : Located) → Each (EntriesHave P) rewrite → Each (EntriesHave P) append
      → directory (Index i) rewrite append ≡ Some (Entry l) → P l
  meant_has i rewrite append l h k e =
      at_option (says (Index i) append) (λ w. unwrap_or w (holds (Index i) rewrite) ≡ Some (Entry l) → says (Index i) append ≡ w → P l)
      (λ _ now _.
      at_option (says (Index i) rewrite) (λ w. unwrap_or w None ≡ Some (Entry l) → says (Index i) rewrite ≡ w → P l)
      (λ _ held _. none_held l held) (λ w _ held is. said_has i rewrite l h (is ∙ ap Some held)) now refl)
      (λ w _ now is. said_has i append l k (is ∙ ap Some now)) e refl

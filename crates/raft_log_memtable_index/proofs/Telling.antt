-- What items say, where what is there takes the place of each place and each value.
use Rattle.std.proofs.Common.{◌≡◌, ℕ, ◌-◌, List, [], ◌∷◌, map, Bool, true, false, ◌||◌, Option, Some, None, option_map, slice_get, unwrap_or, nat_le, nat_lt, bytes_eq, if◌then◌else◌, refl, sym, ap, ap₂, ◌∙◌, inl, inr}
use Rattle.std.proofs.lemmas.Option.{slice_get-map}
use Rattle.std.specs.Option.{option_or}
use Rattle.raft_log_model_laws.specs.Item.{Item}
use Rattle.raft_log_model_laws.specs.Item.Item.{Run, Clean, Compact, Put, Del}
use Rattle.raft_log_model_laws.specs.Meaning.{Slot, Content, write, says, holds, directory}
use Rattle.raft_log_model_laws.specs.Meaning.Slot.{Index, Key}
use Rattle.raft_log_model_laws.specs.Meaning.Content.{Entry, Value}
use Rattle.raft_log_model_laws.specs.Holes.{has_clean, IsSolid}
use Rattle.raft_log_model_laws.specs.Table.{content}
use Rattle.raft_log_model_laws.specs.Renamed.{renamed_content}
use Rattle.raft_log_machine_laws.specs.Recovery.{has_compact, has_del, IsRecovered}
use Rattle.raft_log_machine_laws.specs.Whereabouts.{Whereabouts}
use Rattle.raft_log_memtable_index.specs.Shown.{KeyValue, Shown}
use Rattle.raft_log_memtable_index.specs.Bridge.{Located, bytes_held, table_of}
use Rattle.raft_log_memtable_index.specs.Replayed.{standing, told}

module _ {E : Type 0} (at : Located → E) where
  -- what is there
  abbrev pub there : Content Located KeyValue → Content E (List ℕ)
  there (Entry l) = Entry (at l)
  there (Value h) = Value h.bytes

  abbrev pub told_word : Option (Option (Content Located KeyValue)) → Option (Option (Content E (List ℕ)))
  told_word w = option_map (option_map there) w

  entry_there : (o : Option Located) → ◌≡◌ {A = Option (Content E (List ℕ))} (option_map Entry (option_map at o)) (option_map there (option_map Entry o))
  entry_there None = refl
  entry_there (Some l) = refl

  word_if : (b : Bool) (v : Option (Content E (List ℕ))) (w : Option (Content Located KeyValue)) → v ≡ option_map there w
      → (if b then Some v else None) ≡ told_word (if b then Some w else None)
  word_if true v w h = ap Some h
  word_if false v w h = refl

  word_or : (a b : Option (Option (Content Located KeyValue))) → option_or (told_word a) (told_word b) ≡ told_word (option_or a b)
  word_or None b = refl
  word_or (Some a) b = refl

  word_else : (a : Option (Option (Content Located KeyValue))) (d : Option (Content Located KeyValue))
      → unwrap_or (told_word a) (option_map there d) ≡ option_map there (unwrap_or a d)
  word_else None d = refl
  word_else (Some a) d = refl

  write_told : (s : Slot) (x : Item Located KeyValue) → write s (told at x) ≡ told_word (write s x)
  write_told (Index i) (Run n []) = refl
  write_told (Index i) (Run n (e ∷ es)) =
      word_if (nat_le n i) _ (option_map Entry (slice_get (e ∷ es) (i - n)))
      (ap (option_map Entry) (slice_get-map at (e ∷ es) (i - n)) ∙ entry_there (slice_get (e ∷ es) (i - n)))
  write_told (Index i) Clean = refl
  write_told (Index i) (Compact c) = word_if (nat_lt i c) None None refl
  write_told (Index i) (Put l v) = refl
  write_told (Index i) (Del l) = refl
  write_told (Key k) (Run n es) = refl
  write_told (Key k) Clean = refl
  write_told (Key k) (Compact c) = refl
  write_told (Key k) (Put l v) = word_if (bytes_eq l k) (Some (Value v.bytes)) (Some (Value v)) refl
  write_told (Key k) (Del l) = word_if (bytes_eq l k) None None refl

  pub says_told : (s : Slot) (xs : List (Item Located KeyValue)) → says s (map (told at) xs) ≡ told_word (says s xs)
  says_told s [] = refl
  says_told s (x ∷ xs) = ap₂ option_or (says_told s xs) (write_told s x) ∙ word_or (says s xs) (write s x)

  pub directory_told : (s : Slot) (rewrite append : List (Item Located KeyValue))
      → directory s (map (told at) rewrite) (map (told at) append) ≡ option_map there (directory s rewrite append)
  directory_told s rewrite append =
      ap₂ unwrap_or (says_told s append) (ap (λ w. unwrap_or w None) (says_told s rewrite) ∙ word_else (says s rewrite) None)
      ∙ word_else (says s append) (holds s rewrite)

  clean_told : (xs : List (Item Located KeyValue)) → has_clean (map (told at) xs) ≡ has_clean xs
  clean_told [] = refl
  clean_told (Run n es ∷ xs) = clean_told xs
  clean_told (Clean ∷ xs) = refl
  clean_told (Compact c ∷ xs) = clean_told xs
  clean_told (Put k v ∷ xs) = clean_told xs
  clean_told (Del k ∷ xs) = clean_told xs

  compact_told : (xs : List (Item Located KeyValue)) → has_compact (map (told at) xs) ≡ has_compact xs
  compact_told [] = refl
  compact_told (Run n es ∷ xs) = compact_told xs
  compact_told (Clean ∷ xs) = compact_told xs
  compact_told (Compact c ∷ xs) = refl
  compact_told (Put k v ∷ xs) = compact_told xs
  compact_told (Del k ∷ xs) = compact_told xs

  del_told : (k : List ℕ) (xs : List (Item Located KeyValue)) → has_del k (map (told at) xs) ≡ has_del k xs
  del_told k [] = refl
  del_told k (Run n es ∷ xs) = del_told k xs
  del_told k (Clean ∷ xs) = del_told k xs
  del_told k (Compact c ∷ xs) = del_told k xs
  del_told k (Put l v ∷ xs) = del_told k xs
  del_told k (Del l ∷ xs) = ap (λ b. bytes_eq l k || b) (del_told k xs)

  pub recovered_told : (m : Slot → Option (Content Located KeyValue)) (n : Slot → Option (Content E (List ℕ))) (xs : List (Item Located KeyValue)) (t : Whereabouts)
      → ((s : Slot) → n s ≡ option_map there (m s)) → IsRecovered m xs t → IsRecovered n (map (told at) xs) t
  recovered_told m n xs t same r = record {
    in_order = r.in_order;
    below = λ i h. same (Index i) ∙ ap (option_map there) (r.below i h);
    above = λ i h. same (Index i) ∙ ap (option_map there) (r.above i h);
    rewritten = λ i from high. let it = r.rewritten i from high in
        (says_told (Index i) xs ∙ ap told_word it.0, (there it.1.0, same (Index i) ∙ ap (option_map there) it.1.1));
    newer = λ i from high. let it = r.newer i from high in (there it.0, says_told (Index i) xs ∙ ap told_word it.1);
    key_newer = λ k a. let it = r.key_newer k a in (there it.0, says_told (Key k) xs ∙ ap told_word it.1);
    key_older = λ k a. elim (r.key_older k a) [
      | inl none ↦ inl (same (Key k) ∙ ap (option_map there) none)
      | inr quiet ↦ inr (says_told (Key k) xs ∙ ap told_word quiet)
    ];
    marks = record {
      cleaned = r.marks.cleaned ∙ sym (clean_told xs);
      compacted = λ c h. r.marks.compacted (sym (clean_told xs) ∙ c) (sym (compact_told xs) ∙ h);
      deleted = λ k c h. r.marks.deleted k (sym (clean_told xs) ∙ c) (sym (del_told k xs) ∙ h);
      was_deleted = λ k h. del_told k xs ∙ r.marks.was_deleted k h;
    };
  }

  -- what stands where bytes are told stands
  stands_told : (o : Option (Content Located KeyValue)) (c : Content E (List ℕ)) → option_map there o ≡ Some c → (d : Content Located KeyValue) × (o ≡ Some d)
  stands_told None c h = cc
  stands_told (Some d) c h = (d, refl)

  pub solid_told : (m : ℕ → Option (Content Located KeyValue)) (n : ℕ → Option (Content E (List ℕ))) → ((i : ℕ) → n i ≡ option_map there (m i)) → IsSolid n → IsSolid m
  solid_told m n same solid i j k a b low high from to =
      let it = solid i j k (there a) (there b) low high (same i ∙ ap (option_map there) from) (same k ∙ ap (option_map there) to) in
      stands_told (m j) it.0 (sym (same j) ∙ it.1)

  -- what a table shows, by its bytes
  content_if : (b : Bool) (o : Option Located)
      → ◌≡◌ {A = Option (Content E (List ℕ))} (option_map (renamed_content at) (if b then option_map Entry o else None)) (option_map there (if b then option_map Entry o else None))
  content_if true None = refl
  content_if true (Some l) = refl
  content_if false o = refl

  value_there : (o : Option KeyValue) → option_map (renamed_content at) (option_map Value (bytes_held o)) ≡ option_map there (option_map Value o)
  value_there None = refl
  value_there (Some h) = refl

  pub content_told : (v : Shown) (s : Slot) → option_map (renamed_content at) (content (table_of v) s) ≡ option_map there (content (standing v) s)
  content_told v (Index i) = content_if (nat_le v.first i) (slice_get (standing v).entries (i - v.first))
  content_told v (Key k) = value_there (v.held k)

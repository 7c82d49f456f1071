-- Where all runs end at or below `top`, nothing stands from there on.
use Rattle.std.proofs.Common.{◌≡◌, ℕ, ◌≤◌, if◌then◌else◌, nat_lt, List, [], ◌∷◌, ◌++◌, Option, Some, None, unwrap_or, ◌==◌, refl, sym, ◌∙◌, subst, arith}
use Rattle.std.specs.Option.{option_or}
use Rattle.raft_log_model_laws.specs.Item.{Item, Tagged, Record}
use Rattle.raft_log_model_laws.specs.Item.Item.{Run, Clean, Compact, Put, Del}
use Rattle.raft_log_model_laws.specs.Item.Record.{Plain, Part}
use Rattle.raft_log_model_laws.specs.Item.Mark.{Begin, Middle, End}
use Rattle.raft_log_model_laws.specs.Meaning.{Content, write, says}
use Rattle.raft_log_model_laws.specs.Meaning.Slot.{Index}
use Rattle.raft_log_model_laws.specs.Groups.{of_group, settle, settled, none_open, set_open, onto, Open, rewritten}
use Rattle.raft_log_model_laws.proofs.Public.{at_bool, at_option, run_truncates}
use Rattle.raft_log_machine_laws.specs.Whereabouts.{top}
use Rattle.raft_log_machine_laws.specs.Machine.{Fits, AllFit, RecordsFit}
use Rattle.raft_log_machine_laws.proofs.TruthRaises.{no_word}

module _ {E V : Type 0} where
  AllFit-append : (xs ys : List (Tagged E V)) → AllFit xs → AllFit ys → AllFit (xs ++ ys)
  AllFit-append [] ys h k = k
  AllFit-append (x ∷ xs) ys h k = (h.0, AllFit-append xs ys h.1 k)

  pub RecordsFit-append : (xs ys : List (Record E V)) → RecordsFit xs → RecordsFit ys → RecordsFit (xs ++ ys)
  RecordsFit-append [] ys h k = k
  RecordsFit-append (x ∷ xs) ys h k = (h.0, RecordsFit-append xs ys h.1 k)

  pub RecordsFit-front : (xs ys : List (Record E V)) → RecordsFit (xs ++ ys) → RecordsFit xs
  RecordsFit-front [] ys h = tt
  RecordsFit-front (x ∷ xs) ys h = (h.0, RecordsFit-front xs ys h.1)

  pub RecordsFit-back : (xs ys : List (Record E V)) → RecordsFit (xs ++ ys) → RecordsFit ys
  RecordsFit-back [] ys h = h
  RecordsFit-back (x ∷ xs) ys h = RecordsFit-back xs ys h.1

  -- what is open fits
  abbrev OpenFits : Open E V → Type 0
  OpenFits o = (n : ℕ) (xs : List (Tagged E V)) → o n ≡ Some xs → AllFit xs

  set_fits : (o : Open E V) (n : ℕ) (v : Option (List (Tagged E V))) → OpenFits o → ((xs : List (Tagged E V)) → v ≡ Some xs → AllFit xs) → OpenFits (set_open o n v)
  set_fits o n v h fits k xs = at_bool (n == k) (λ b. (if b then v else o k) ≡ Some xs → AllFit xs) (λ e. fits xs) (λ e. h k xs)

  onto_fits : (old : Option (List (Tagged E V))) (ys : List (Tagged E V)) → ((xs : List (Tagged E V)) → old ≡ Some xs → AllFit xs) → AllFit ys
      → (zs : List (Tagged E V)) → onto old ys ≡ Some zs → AllFit zs
  onto_fits None ys h k zs e = no_word zs e
  onto_fits (Some xs) ys h k zs e =
      let same : xs ++ ys ≡ zs = cc in subst (λ l. AllFit l) same (AllFit-append xs ys (h xs refl) k)

  ended_fits : (old : Option (List (Tagged E V))) (ys : List (Tagged E V)) → ((xs : List (Tagged E V)) → old ≡ Some xs → AllFit xs) → AllFit ys
      → AllFit (unwrap_or (onto old ys) [])
  ended_fits None ys h k = tt
  ended_fits (Some xs) ys h k = AllFit-append xs ys (h xs refl) k

  settle_fits : (o : Open E V) (rs : List (Record E V)) → OpenFits o → RecordsFit rs → AllFit (settle o rs)
  settle_fits o [] h k = tt
  settle_fits o (Plain xs ∷ rs) h k = AllFit-append xs (settle o rs) k.0 (settle_fits o rs h k.1)
  settle_fits o (Part (Begin n) xs ∷ rs) h k =
      settle_fits (set_open o n (Some xs)) rs (set_fits o n (Some xs) h (λ ys e. let same : xs ≡ ys = cc in subst (λ l. AllFit l) same k.0)) k.1
  settle_fits o (Part (Middle n) xs ∷ rs) h k =
      settle_fits (set_open o n (onto (o n) xs)) rs (set_fits o n (onto (o n) xs) h (onto_fits (o n) xs (h n) k.0)) k.1
  settle_fits o (Part (End n) xs ∷ rs) h k =
      AllFit-append (unwrap_or (onto (o n) xs) []) (settle (set_open o n None) rs) (ended_fits (o n) xs (h n) k.0)
      (settle_fits (set_open o n None) rs (set_fits o n None h (λ ys e. no_word ys e)) k.1)

  past_item : (x : Item E V) (i : ℕ) → Fits x → top ≤ i → (w : Option (Content E V)) → write (Index i) x ≡ Some w → w ≡ None
  past_item (Run f []) i fits past w e = no_word w e
  past_item (Run f (e ∷ es)) i fits past w h = let says_it : Some None ≡ Some w = sym (run_truncates i f (e ∷ es) (omega arith) (omega arith)) ∙ h in cc
  past_item Clean i fits past w e = let says_it : Some None ≡ Some w = e in cc
  past_item (Compact c) i fits past w e =
      at_bool (nat_lt i c) (λ b. ◌≡◌ {A = Option (Option (Content E V))} (if b then Some None else None) (Some w) → w ≡ None)
      (λ t h. let says_it : Some None ≡ Some w = h in cc) (λ t h. no_word w h) e
  past_item (Put l v) i fits past w e = no_word w e
  past_item (Del l) i fits past w e = no_word w e

  past_items : (g : ℕ) (xs : List (Tagged E V)) (i : ℕ) → AllFit xs → top ≤ i → (w : Option (Content E V)) → says (Index i) (of_group g xs) ≡ Some w → w ≡ None
  past_items g [] i fits past w e = no_word w e
  past_items g (x ∷ xs) i fits past w e =
      at_bool (x.group == g) (λ b. says (Index i) (if b then x.item ∷ of_group g xs else of_group g xs) ≡ Some w → w ≡ None)
      (λ t h. at_option (says (Index i) (of_group g xs)) (λ o. option_or o (write (Index i) x.item) ≡ Some w → w ≡ None)
      (λ none k. past_item x.item i fits.0 past w k)
      (λ o says_it k. past_items g xs i fits.1 past w (says_it ∙ k)) h)
      (λ t h. past_items g xs i fits.1 past w h) e

  pub nothing_past : (g : ℕ) (rs : List (Record E V)) (i : ℕ) → RecordsFit rs → top ≤ i → unwrap_or (says (Index i) (rewritten g rs)) None ≡ None
  nothing_past g rs i fits past =
      at_option (says (Index i) (rewritten g rs)) (λ o. unwrap_or o None ≡ None) (λ e. refl)
      (λ w e. past_items g (settled rs) i (settle_fits none_open rs (λ n xs h. no_word xs h) fits) past w e)

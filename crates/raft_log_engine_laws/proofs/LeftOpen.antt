-- Groups that are left open count for nothing.
use Rattle.std.proofs.Common.{◌≡◌, ℕ, ◌<◌, ◌≤◌, ◌==◌, Bool, false, if◌then◌else◌, List, [], ◌∷◌, ◌++◌, map, Option, Some, None, unwrap_or, refl, sym, ap, ap₂, ◌∙◌, subst, arith}
use Rattle.std.proofs.lemmas.Bool.Decides.{nat_tests}
use Rattle.raft_log_model_laws.specs.Item.{Record, Tagged}
use Rattle.raft_log_model_laws.specs.Item.Record.{Part, Plain}
use Rattle.raft_log_model_laws.specs.Item.Mark.{Begin, End, Middle}
use Rattle.raft_log_model_laws.specs.Groups.{Open, none_open, onto, opened, set_open, settle, settled}
use Rattle.raft_log_machine_laws.specs.Unbroken.{UnbrokenFrom, begun}
use Rattle.raft_log_machine_laws.proofs.Public.{opened_append, set_open-same, settle_append}
use Rattle.raft_log_engine_laws.specs.LeftOpen.{AreNumberedFrom, GroupsLeftOpenCountNot, NewGroupsEndNoOldOnes}

other_number : (n m k : ℕ) → n ≤ m → k < n → (m == k) ≡ false
other_number n m k from below = grind (arith, nat_tests)

module _ {E V : Type 0} where
  set_alike : (o p : Open E V) (m : ℕ) (v w : Option (List (Tagged E V))) (k : ℕ) → v ≡ w → o k ≡ p k → set_open o m v k ≡ set_open p m w k
  set_alike o p m v w k same rest = ap₂ (λ (x y : Option (List (Tagged E V))). if m == k then x else y) same rest

  -- Behind a group that is left open.

  -- of what is open only the group matters that goes on
  same_counts : (going : Option ℕ) (o p : Open E V) (rs : List (Record E V)) → UnbrokenFrom going rs → ((n : ℕ) → going ≡ Some n → o n ≡ p n) → settle o rs ≡ settle p rs
  same_counts going o p [] h same = refl
  same_counts going o p (Plain xs ∷ rs) h same = ap (λ l. xs ++ l) (same_counts None o p rs h (λ n e. cc))
  same_counts going o p (Part (Begin n) xs ∷ rs) h same =
      same_counts (Some n) (set_open o n (Some xs)) (set_open p n (Some xs)) rs h
      (λ k e. let number : n ≡ k = cc in subst (λ j. set_open o n (Some xs) j ≡ set_open p n (Some xs) j) number (set_open-same o n (Some xs) ∙ sym (set_open-same p n (Some xs))))
  same_counts going o p (Part (Middle n) xs ∷ rs) h same =
      same_counts going (set_open o n (onto (o n) xs)) (set_open p n (onto (p n) xs)) rs h.1
      (λ k e. set_alike o p n (onto (o n) xs) (onto (p n) xs) k (ap (λ v. onto v xs) (same n h.0)) (same k e))
  same_counts going o p (Part (End n) xs ∷ rs) h same =
      ap₂ (λ a b. a ++ b) (ap (λ v. unwrap_or (onto v xs) []) (same n h.0)) (same_counts None (set_open o n None) (set_open p n None) rs h.1 (λ k e. cc))

  middles_count_not : (o : Open E V) (n : ℕ) (more : List (List (Tagged E V))) → settle o (map (λ xs. Part (Middle n) xs) more) ≡ []
  middles_count_not o n [] = refl
  middles_count_not o n (xs ∷ more) = middles_count_not (set_open o n (onto (o n) xs)) n more

  pub left_open_count_not : GroupsLeftOpenCountNot E V
  left_open_count_not front back n first more unbroken =
      let o : Open E V = opened none_open front in
      settle_append none_open front (begun n first more ++ back)
      ∙ ap (λ l. settled front ++ l)
      (settle_append o (begun n first more) back ∙ ap (λ l. l ++ settle (opened o (begun n first more)) back) (middles_count_not (set_open o n (Some first)) n more)
      ∙ same_counts None (opened o (begun n first more)) o back unbroken (λ k e. cc))
      ∙ sym (settle_append none_open front back)

  -- Numbers above those left open.

  alike_above : (n : ℕ) (o p : Open E V) (rs : List (Record E V)) → AreNumberedFrom n rs → ((k : ℕ) → n ≤ k → o k ≡ p k) → settle o rs ≡ settle p rs
  alike_above n o p [] from same = refl
  alike_above n o p (Plain xs ∷ rs) from same = ap (λ l. xs ++ l) (alike_above n o p rs from same)
  alike_above n o p (Part (Begin m) xs ∷ rs) from same =
      alike_above n (set_open o m (Some xs)) (set_open p m (Some xs)) rs from.1 (λ k above. set_alike o p m (Some xs) (Some xs) k refl (same k above))
  alike_above n o p (Part (Middle m) xs ∷ rs) from same =
      alike_above n (set_open o m (onto (o m) xs)) (set_open p m (onto (p m) xs)) rs from.1
      (λ k above. set_alike o p m (onto (o m) xs) (onto (p m) xs) k (ap (λ v. onto v xs) (same m from.0)) (same k above))
  alike_above n o p (Part (End m) xs ∷ rs) from same =
      ap₂ (λ a b. a ++ b) (ap (λ v. unwrap_or (onto v xs) []) (same m from.0))
      (alike_above n (set_open o m None) (set_open p m None) rs from.1 (λ k above. set_alike o p m None None k refl (same k above)))

  stays_open : (o : Open E V) (n m k : ℕ) (v : Option (List (Tagged E V))) → n ≤ m → k < n → set_open o m v k ≡ o k
  stays_open o n m k v from below = ap (λ (b : Bool). if b then v else o k) (other_number n m k from below)

  open_below : (n k : ℕ) (o : Open E V) (rs : List (Record E V)) → AreNumberedFrom n rs → k < n → opened o rs k ≡ o k
  open_below n k o [] from below = refl
  open_below n k o (Plain xs ∷ rs) from below = open_below n k o rs from below
  open_below n k o (Part (Begin m) xs ∷ rs) from below = open_below n k (set_open o m (Some xs)) rs from.1 below ∙ stays_open o n m k (Some xs) from.0 below
  open_below n k o (Part (Middle m) xs ∷ rs) from below =
      open_below n k (set_open o m (onto (o m) xs)) rs from.1 below ∙ stays_open o n m k (onto (o m) xs) from.0 below
  open_below n k o (Part (End m) xs ∷ rs) from below = open_below n k (set_open o m None) rs from.1 below ∙ stays_open o n m k None from.0 below

  pub new_end_no_old : NewGroupsEndNoOldOnes E V
  new_end_no_old old new n below from = (
    settle_append none_open old new ∙ ap (λ l. settled old ++ l) (alike_above n (opened none_open old) none_open new from below),
    λ k low. ap (λ o. o k) (opened_append none_open old new) ∙ open_below n k (opened none_open old) new from low,
  )

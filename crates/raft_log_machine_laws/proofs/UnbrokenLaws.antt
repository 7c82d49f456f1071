-- What counts of an end of unbroken records is an end of what counts of all.
use Rattle.std.proofs.Common.{◌≡◌, ℕ, List, [], ◌∷◌, ◌++◌, map, Option, Some, None, unwrap_or, if◌then◌else◌, refl, sym, ap, ◌∙◌, subst, append_assoc, eq-eqb}
use Rattle.raft_log_model_laws.specs.Item.{Item, Tagged, Record}
use Rattle.raft_log_model_laws.specs.Item.Record.{Plain, Part}
use Rattle.raft_log_model_laws.specs.Item.Mark.{Begin, Middle, End}
use Rattle.raft_log_model_laws.specs.Groups.{of_group, settle, settled, opened, none_open, set_open, onto, Open, rewritten}
use Rattle.raft_log_machine_laws.specs.Unbroken.{going_on, UnbrokenFrom, IsUnbroken, begun, joined}
use Rattle.raft_log_machine_laws.proofs.Words.{settle_append, opened_append, of_group_append}

module _ {E V : Type 0} where
  pub set_open-same : (o : Open E V) (n : ℕ) (v : Option (List (Tagged E V))) → set_open o n v n ≡ v
  set_open-same o n v = ap (λ b. if b then v else o n) (eq-eqb n n refl)

  -- only the group that may go on matters of what is open
  same_settle : (going : Option ℕ) (o p : Open E V) (rs : List (Record E V)) → UnbrokenFrom going rs
      → ((n : ℕ) → going ≡ Some n → o n ≡ p n) → settle o rs ≡ settle p rs
  same_settle going o p [] h same = refl
  same_settle going o p (Plain xs ∷ rs) h same = ap (λ l. xs ++ l) (same_settle None o p rs h (λ n e. cc))
  same_settle going o p (Part (Begin n) xs ∷ rs) h same =
      same_settle (Some n) (set_open o n (Some xs)) (set_open p n (Some xs)) rs h
      (λ k e. let same_number : n ≡ k = cc in subst (λ j. set_open o n (Some xs) j ≡ set_open p n (Some xs) j) same_number
      (set_open-same o n (Some xs) ∙ sym (set_open-same p n (Some xs))))
  same_settle going o p (Part (Middle n) xs ∷ rs) h same =
      same_settle going (set_open o n (onto (o n) xs)) (set_open p n (onto (p n) xs)) rs h.1
      (λ k e. let same_number : n ≡ k = cc (h.0, e) in subst (λ j. set_open o n (onto (o n) xs) j ≡ set_open p n (onto (p n) xs) j) same_number
      (set_open-same o n (onto (o n) xs) ∙ ap (λ v. onto v xs) (same n h.0) ∙ sym (set_open-same p n (onto (p n) xs))))
  same_settle going o p (Part (End n) xs ∷ rs) h same =
      ap (λ v. unwrap_or (onto v xs) [] ++ settle (set_open o n None) rs) (same n h.0)
      ∙ ap (λ l. unwrap_or (onto (p n) xs) [] ++ l) (same_settle None (set_open o n None) (set_open p n None) rs h.1 (λ k e. cc))

  -- what is open before only adds to what counts, in front
  settle_end : (going : Option ℕ) (o p : Open E V) (rs : List (Record E V)) → UnbrokenFrom going rs
      → ((n : ℕ) → going ≡ Some n → p n ≡ None) → (front : List (Tagged E V)) × (front ++ settle p rs ≡ settle o rs)
  settle_end going o p [] h shut = ([], refl)
  settle_end going o p (Plain xs ∷ rs) h shut = ([], ap (λ l. xs ++ l) (same_settle None p o rs h (λ n e. cc)))
  settle_end going o p (Part (Begin n) xs ∷ rs) h shut = (
    [],
    same_settle (Some n) (set_open p n (Some xs)) (set_open o n (Some xs)) rs h
        (λ k e. let same_number : n ≡ k = cc in subst (λ j. set_open p n (Some xs) j ≡ set_open o n (Some xs) j) same_number
        (set_open-same p n (Some xs) ∙ sym (set_open-same o n (Some xs)))),
  )
  settle_end going o p (Part (Middle n) xs ∷ rs) h shut =
      settle_end going (set_open o n (onto (o n) xs)) (set_open p n (onto (p n) xs)) rs h.1
      (λ k e. let same_number : n ≡ k = cc (h.0, e) in subst (λ j. set_open p n (onto (p n) xs) j ≡ None) same_number
      (set_open-same p n (onto (p n) xs) ∙ ap (λ v. onto v xs) (shut n h.0)))
  settle_end going o p (Part (End n) xs ∷ rs) h shut = (
    unwrap_or (onto (o n) xs) [],
    ap (λ v. unwrap_or (onto (o n) xs) [] ++ (unwrap_or (onto v xs) [] ++ settle (set_open p n None) rs)) (shut n h.0)
        ∙ ap (λ l. unwrap_or (onto (o n) xs) [] ++ l) (same_settle None (set_open p n None) (set_open o n None) rs h.1 (λ k e. cc)),
  )

  pub UnbrokenFrom-front : (going : Option ℕ) (xs ys : List (Record E V)) → UnbrokenFrom going (xs ++ ys) → UnbrokenFrom going xs
  UnbrokenFrom-front going [] ys h = tt
  UnbrokenFrom-front going (Plain x ∷ xs) ys h = UnbrokenFrom-front None xs ys h
  UnbrokenFrom-front going (Part (Begin n) x ∷ xs) ys h = UnbrokenFrom-front (Some n) xs ys h
  UnbrokenFrom-front going (Part (Middle n) x ∷ xs) ys h = (h.0, UnbrokenFrom-front going xs ys h.1)
  UnbrokenFrom-front going (Part (End n) x ∷ xs) ys h = (h.0, UnbrokenFrom-front None xs ys h.1)

  pub UnbrokenFrom-back : (going : Option ℕ) (xs ys : List (Record E V)) → UnbrokenFrom going (xs ++ ys) → UnbrokenFrom (going_on going xs) ys
  UnbrokenFrom-back going [] ys h = h
  UnbrokenFrom-back going (Plain x ∷ xs) ys h = UnbrokenFrom-back None xs ys h
  UnbrokenFrom-back going (Part (Begin n) x ∷ xs) ys h = UnbrokenFrom-back (Some n) xs ys h
  UnbrokenFrom-back going (Part (Middle n) x ∷ xs) ys h = UnbrokenFrom-back going xs ys h.1
  UnbrokenFrom-back going (Part (End n) x ∷ xs) ys h = UnbrokenFrom-back None xs ys h.1

  pub UnbrokenFrom-append : (going : Option ℕ) (xs ys : List (Record E V)) → UnbrokenFrom going xs → UnbrokenFrom (going_on going xs) ys → UnbrokenFrom going (xs ++ ys)
  UnbrokenFrom-append going [] ys h k = k
  UnbrokenFrom-append going (Plain x ∷ xs) ys h k = UnbrokenFrom-append None xs ys h k
  UnbrokenFrom-append going (Part (Begin n) x ∷ xs) ys h k = UnbrokenFrom-append (Some n) xs ys h k
  UnbrokenFrom-append going (Part (Middle n) x ∷ xs) ys h k = (h.0, UnbrokenFrom-append going xs ys h.1 k)
  UnbrokenFrom-append going (Part (End n) x ∷ xs) ys h k = (h.0, UnbrokenFrom-append None xs ys h.1 k)

  pub IsUnbroken-front : (xs ys : List (Record E V)) → IsUnbroken (xs ++ ys) → IsUnbroken xs
  IsUnbroken-front xs ys h = (h.0, UnbrokenFrom-front h.0 xs ys h.1)

  pub IsUnbroken-back : (xs ys : List (Record E V)) → IsUnbroken (xs ++ ys) → IsUnbroken ys
  IsUnbroken-back xs ys h = (going_on h.0 xs, UnbrokenFrom-back h.0 xs ys h.1)

  -- the key lemma of all starts of Rewrite
  pub settled_end : (cut back : List (Record E V)) → IsUnbroken (cut ++ back)
      → (front : List (Tagged E V)) × (front ++ settled back ≡ settled (cut ++ back))
  settled_end cut back h =
      let at_back = settle_end (going_on h.0 cut) (opened none_open cut) none_open back (UnbrokenFrom-back h.0 cut back h.1) (λ n e. refl) in (
        settled cut ++ at_back.0,
        append_assoc (settled cut) at_back.0 (settled back) ∙ ap (λ l. settled cut ++ l) at_back.1 ∙ sym (settle_append none_open cut back),
      )

  pub rewritten_end : (g : ℕ) (cut back : List (Record E V)) → IsUnbroken (cut ++ back)
      → (front : List (Item E V)) × (front ++ rewritten g back ≡ rewritten g (cut ++ back))
  rewritten_end g cut back h =
      let all = settled_end cut back h in
      (of_group g all.0, sym (of_group_append g all.0 (settled back)) ∙ ap (of_group g) all.1)

  going_on-middles : (n : ℕ) (more : List (List (Tagged E V))) → going_on (Some n) (map (λ xs. Part (Middle n) xs) more) ≡ Some n
  going_on-middles n [] = refl
  going_on-middles n (xs ∷ more) = going_on-middles n more

  pub going_on-append : (going : Option ℕ) (xs ys : List (Record E V)) → going_on going (xs ++ ys) ≡ going_on (going_on going xs) ys
  going_on-append going [] ys = refl
  going_on-append going (Plain x ∷ xs) ys = going_on-append None xs ys
  going_on-append going (Part (Begin n) x ∷ xs) ys = going_on-append (Some n) xs ys
  going_on-append going (Part (Middle n) x ∷ xs) ys = going_on-append going xs ys
  going_on-append going (Part (End n) x ∷ xs) ys = going_on-append None xs ys

  -- after the records of a group that has not ended, it may go on
  pub going_on-begun : (going : Option ℕ) (front : List (Record E V)) (n : ℕ) (first : List (Tagged E V)) (more : List (List (Tagged E V)))
      → going_on going (front ++ begun n first more) ≡ Some n
  going_on-begun going front n first more = going_on-append going front (begun n first more) ∙ going_on-middles n more

  opened-middles : (o : Open E V) (n : ℕ) (first : List (Tagged E V)) (more : List (List (Tagged E V))) → o n ≡ Some first
      → opened o (map (λ xs. Part (Middle n) xs) more) n ≡ Some (joined first more)
  opened-middles o n first [] e = e
  opened-middles o n first (xs ∷ more) e =
      opened-middles (set_open o n (onto (o n) xs)) n (first ++ xs) more (set_open-same o n (onto (o n) xs) ∙ ap (λ v. onto v xs) e)

  -- and whatever was open before, all its parts are there
  pub opened-begun : (o : Open E V) (front : List (Record E V)) (n : ℕ) (first : List (Tagged E V)) (more : List (List (Tagged E V)))
      → opened o (front ++ begun n first more) n ≡ Some (joined first more)
  opened-begun o front n first more =
      ap (λ p. p n) (opened_append o front (begun n first more))
      ∙ opened-middles (set_open (opened o front) n (Some first)) n first more (set_open-same (opened o front) n (Some first))

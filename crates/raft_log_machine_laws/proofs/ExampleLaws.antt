-- The example's events can happen, one after the other.
use Rattle.std.proofs.Common.{◌≡◌, ℕ, ◌+◌, ◌-◌, ◌<◌, ◌≤◌, ◌⊎◌, true, false, if◌then◌else◌, ◌==◌, bytes_eq, List, [], ◌∷◌, length, Option, Some, None, option_map, slice_get, unwrap_or, refl, sym, ap, ◌∙◌, subst, inl, inr, arith}
use Rattle.std.proofs.lemmas.Bool.{cases_Bool}
use Rattle.std.specs.Option.{option_or}
use Rattle.raft_log_model_laws.specs.Item.{Item}
use Rattle.raft_log_model_laws.specs.Item.Item.{Run, Compact, Put}
use Rattle.raft_log_model_laws.specs.Item.Record.{Plain}
use Rattle.raft_log_model_laws.specs.Meaning.{Slot, Content, says, holds}
use Rattle.raft_log_model_laws.specs.Meaning.Slot.{Index, Key}
use Rattle.raft_log_model_laws.specs.Meaning.Content.{Entry, Value}
use Rattle.raft_log_model_laws.specs.Groups.{of_group, appended, Map, taken}
use Rattle.raft_log_model_laws.proofs.Public.{at_bool, from_eq_true, if_false, one_run_fits, run_sets, Spans}
use Rattle.raft_log_machine_laws.specs.Queue.{takes, synced, raised, reread, with_append, with_rewrite}
use Rattle.raft_log_machine_laws.specs.Whereabouts.{Whereabouts, top, with_key, GrowsBy, CarriesAll, OwesNothing, HasAppended}
use Rattle.raft_log_machine_laws.specs.Recovery.{IsRecovered}
use Rattle.raft_log_machine_laws.specs.Fresh.{nowhere, fresh_machine}
use Rattle.raft_log_machine_laws.specs.Machine.{Machine, Steps}
use Rattle.raft_log_machine_laws.specs.WrongRules.{tagged}
use Rattle.raft_log_machine_laws.specs.Example.{entries, compaction, only, two_purges, purged_twice, read_again}
use Rattle.raft_log_machine_laws.proofs.Words.{says_append, unwrap_or_option_or}
use Rattle.raft_log_machine_laws.proofs.TruthCarries.{differ}
use Rattle.raft_log_machine_laws.proofs.TruthRaises.{no_word}

four_fits : 4 ≤ top
unfolding top
four_fits = omega arith

-- a fact on each group is one on this group, and one on a group that has no items
each : (P : ℕ → Type 0) → P 1 → ((g : ℕ) → (1 == g) ≡ false → P g) → (g : ℕ) → P g
each P here elsewhere g = elim (cases_Bool (1 == g)) [ inl e ↦ subst P (from_eq_true 1 g e) here | inr e ↦ elsewhere g e ]

at_whereabouts : (P : Whereabouts → Type 0) (t : Whereabouts) → P t → P nowhere → (g : ℕ) → P (only t g)
at_whereabouts P t here elsewhere g = at_bool (1 == g) (λ b. P (if b then t else nowhere)) (λ e. here) (λ e. elsewhere)

none_of : (g : ℕ) (xs : List (Item ℕ ℕ)) → (1 == g) ≡ false → of_group g (tagged 1 xs) ≡ []
none_of g [] e = refl
none_of g (x ∷ xs) e = if_false (1 == g) (x ∷ of_group g (tagged 1 xs)) (of_group g (tagged 1 xs)) e ∙ none_of g xs e

other_whereabouts : (t : Whereabouts) (g : ℕ) → (1 == g) ≡ false → only t g ≡ nowhere
other_whereabouts t g e = if_false (1 == g) t nowhere e

all_grow : (t : Whereabouts) (xs : List (Item ℕ ℕ)) (u : Whereabouts) → GrowsBy t (of_group 1 (tagged 1 xs)) u → (g : ℕ) → GrowsBy (only t g) (of_group g (tagged 1 xs)) (only u g)
all_grow t xs u here = each (λ g. GrowsBy (only t g) (of_group g (tagged 1 xs)) (only u g)) here
    (λ g e. subst (λ l. GrowsBy (only t g) l (only u g)) (sym (none_of g xs e)) (other_whereabouts u g e ∙ sym (other_whereabouts t g e)))

first_grow : (xs : List (Item ℕ ℕ)) (u : Whereabouts) → GrowsBy nowhere (of_group 1 (tagged 1 xs)) u → (g : ℕ) → GrowsBy nowhere (of_group g (tagged 1 xs)) (only u g)
first_grow xs u here = each (λ g. GrowsBy nowhere (of_group g (tagged 1 xs)) (only u g)) here
    (λ g e. subst (λ l. GrowsBy nowhere l (only u g)) (sym (none_of g xs e)) (other_whereabouts u g e))

all_carry : (m : Map ℕ ℕ) (t : Whereabouts) (xs : List (Item ℕ ℕ)) (u : Whereabouts) → CarriesAll (m 1) t (of_group 1 (tagged 1 xs)) u
    → (g : ℕ) → CarriesAll (m g) (only t g) (of_group g (tagged 1 xs)) (only u g)
all_carry m t xs u here = each (λ g. CarriesAll (m g) (only t g) (of_group g (tagged 1 xs)) (only u g)) here
    (λ g e. subst (λ l. CarriesAll (m g) (only t g) l (only u g)) (sym (none_of g xs e)) (other_whereabouts u g e ∙ sym (other_whereabouts t g e)))

-- the whereabouts after each event that moves it
abbrev entered : Whereabouts
entered = record nowhere { first = 1; split = 1; end = 4 }

abbrev copied : Whereabouts
copied = record nowhere { first = 1; split = 4; end = 4 }

abbrev compacted_to_3 : Whereabouts
compacted_to_3 = record nowhere { first = 3; split = 4; end = 4; appended = with_key (λ k. false) (5 ∷ []) true; compacted = true }

abbrev marked : Whereabouts
marked = record nowhere { first = 3; split = 4; end = 4; appended = with_key (λ k. false) (5 ∷ []) true }

abbrev key_copied : Whereabouts
key_copied = record nowhere { first = 3; split = 4; end = 4; appended = with_key (with_key (λ k. false) (5 ∷ []) true) (5 ∷ []) false }

abbrev w1 : Machine ℕ ℕ
w1 = record fresh_machine { store = with_append fresh_machine.store (takes fresh_machine.store.append entries); whereabouts = only entered }

abbrev w2 : Machine ℕ ℕ
w2 = record w1 { store = with_append w1.store (synced w1.store.append); map = taken w1.map w1.store.append.pending }

abbrev w3 : Machine ℕ ℕ
w3 = record w2 { store = with_rewrite w2.store (takes w2.store.rewrite (Plain (tagged 1 (Run 1 (11 ∷ 12 ∷ 13 ∷ []) ∷ [])))); whereabouts = only copied }

abbrev w4 : Machine ℕ ℕ
w4 = record w3 { store = with_rewrite w3.store (synced w3.store.rewrite) }

abbrev w5 : Machine ℕ ℕ
w5 = record w4 { store = with_append w4.store (raised w4.store.append (entries ∷ []) []) }

abbrev w6 : Machine ℕ ℕ
w6 = record w5 { store = with_append w5.store (takes w5.store.append compaction); whereabouts = only compacted_to_3 }

abbrev w7 : Machine ℕ ℕ
w7 = record w6 { store = with_append w6.store (synced w6.store.append); map = taken w6.map w6.store.append.pending }

abbrev w8 : Machine ℕ ℕ
w8 = record w7 { store = with_rewrite w7.store (takes w7.store.rewrite (Plain (tagged 1 (Compact 3 ∷ [])))); whereabouts = only marked }

abbrev w9 : Machine ℕ ℕ
w9 = record w8 { store = with_rewrite w8.store (takes w8.store.rewrite (Plain (tagged 1 (Put (5 ∷ []) 50 ∷ [])))); whereabouts = only key_copied }

abbrev w10 : Machine ℕ ℕ
w10 = record w9 { store = with_rewrite w9.store (synced w9.store.rewrite) }

abbrev w11 : Machine ℕ ℕ
w11 = record w10 { store = with_append w10.store (raised w10.store.append (compaction ∷ []) []) }

abbrev w12 : Machine ℕ ℕ
w12 = record {
  store = record { rewrite = reread w11.store.rewrite [] [] []; append = reread w11.store.append [] (entries ∷ compaction ∷ []) [] };
  map = taken w11.map [];
  whereabouts = only read_again;
  failed = false;
}

restated : (i : ℕ) → 1 ≤ i → i < 1 + length {A = ℕ} (11 ∷ 12 ∷ 13 ∷ []) → ◌≡◌ {A = Option (Content ℕ ℕ)} (option_map Entry (slice_get (11 ∷ 12 ∷ 13 ∷ []) (i - 1))) (w2.map 1 (Index i))
restated i low high = sym (ap (λ w. unwrap_or w None) (run_sets i 1 (11 ∷ 12 ∷ 13 ∷ []) low (omega arith)))

nothing_left : (t : Whereabouts) → t.split ≡ t.end → ((k : List ℕ) → t.appended k ≡ true → ⊥) → HasAppended {E = ℕ} {V = ℕ} t []
nothing_left t e none = ((λ i from high. absurd (omega arith)), (λ k h. absurd (none k h)))

no_false : false ≡ true → ⊥
no_false e = cc

none_left : (k : List ℕ) → key_copied.appended k ≡ true → ⊥
none_left k = at_bool (bytes_eq (5 ∷ []) k) (λ b. (if b then false else (if b then true else false)) ≡ true → ⊥) (λ e h. no_false h) (λ e h. no_false h)

-- what Append has of the group when it is read again
abbrev read_items : List (Item ℕ ℕ)
read_items = Run 1 (11 ∷ 12 ∷ 13 ∷ []) ∷ Compact 3 ∷ Put (5 ∷ []) 50 ∷ []

spans : Spans 3 4 (λ i. holds (Index i) read_items)
spans = one_run_fits read_items (refl, (tt, (tt, tt)))

same_map : (s : Slot) → holds s read_items ≡ w11.map 1 s
same_map s =
    ap (λ w. unwrap_or w None) (says_append s (Run 1 (11 ∷ 12 ∷ 13 ∷ []) ∷ []) (Compact 3 ∷ Put (5 ∷ []) 50 ∷ []))
    ∙ unwrap_or_option_or (says s (Compact 3 ∷ Put (5 ∷ []) 50 ∷ [])) (says s (Run 1 (11 ∷ 12 ∷ 13 ∷ []) ∷ [])) None

word : (w : Option (Option (Content ℕ ℕ))) (c : Content ℕ ℕ) → unwrap_or w None ≡ Some c → w ≡ Some (Some c)
word None c e = no_word c e
word (Some v) c e = ap Some e

recovered : IsRecovered (w11.map 1) read_items read_again
recovered = record {
  in_order = (omega arith, omega arith, four_fits);
  below = λ i h. sym (same_map (Index i)) ∙ spans.none_below i h;
  above = λ i h. sym (same_map (Index i)) ∙ spans.none_above i h;
  rewritten = λ i from high. absurd (omega arith);
  newer = λ i from high. let it = spans.stands i from high in (Entry it.0, word (says (Index i) read_items) (Entry it.0) it.1);
  key_newer = λ k. at_bool (bytes_eq (5 ∷ []) k)
      (λ b. (if b then true else false) ≡ true → (value : Content ℕ ℕ)
      × (option_or (option_or (option_or None (if b then Some (Some (Value 50)) else None)) None) None ≡ Some (Some value)))
      (λ e h. (Value 50, refl)) (λ e h. differ (sym h));
  key_older = λ k. at_bool (bytes_eq (5 ∷ []) k)
      (λ b. (if b then true else false) ≡ false
      → (w11.map 1 (Key k) ≡ None) ⊎ (◌≡◌ {A = Option (Option (Content ℕ ℕ))} (option_or (option_or (option_or None (if b then Some (Some (Value 50)) else None)) None) None) None))
      (λ e h. differ h) (λ e h. inr refl);
  marks = record { cleaned = refl; compacted = λ c h. refl; deleted = λ k c h. differ (sym h); was_deleted = λ k h. differ (sym h) };
}

quiet : (g : ℕ) → (1 == g) ≡ false → (s : Slot) → w11.map g s ≡ None
quiet g e s =
    ap (λ l. unwrap_or (says s l) (unwrap_or (says s (of_group g (tagged 1 (Run 1 (11 ∷ 12 ∷ 13 ∷ []) ∷ [])))) None)) (none_of g (Compact 3 ∷ Put (5 ∷ []) 50 ∷ []) e)
    ∙ ap (λ l. unwrap_or (says s l) None) (none_of g (Run 1 (11 ∷ 12 ∷ 13 ∷ []) ∷ []) e)

recovered_elsewhere : (g : ℕ) → (1 == g) ≡ false → IsRecovered (w11.map g) [] nowhere
recovered_elsewhere g e = record {
  in_order = (omega arith, omega arith, omega arith);
  below = λ i h. quiet g e (Index i);
  above = λ i h. quiet g e (Index i);
  rewritten = λ i from high. absurd (omega arith);
  newer = λ i from high. absurd (omega arith);
  key_newer = λ k h. differ (sym h);
  key_older = λ k h. inl (quiet g e (Key k));
  marks = record { cleaned = refl; compacted = λ c h. differ (sym h); deleted = λ k c h. differ (sym h); was_deleted = λ k h. differ (sym h) };
}

all_recovered : (g : ℕ) → IsRecovered (taken w11.map [] g) (appended g (entries ∷ compaction ∷ [])) (only read_again g)
all_recovered = each (λ g. IsRecovered (taken w11.map [] g) (appended g (entries ∷ compaction ∷ [])) (only read_again g)) recovered
    (λ g e. subst (λ l. IsRecovered (taken w11.map [] g) l (only read_again g)) (sym (none_of g read_items e))
    (subst (λ t. IsRecovered (taken w11.map [] g) [] t) (sym (other_whereabouts read_again g e)) (recovered_elsewhere g e)))

pub happens : (v : Machine ℕ ℕ) × Steps fresh_machine two_purges v × (v.store ≡ purged_twice) × (v.whereabouts 1 ≡ read_again)
happens = (
  w12,
  (
    w1,
    (refl, (only entered, first_grow (Run 1 (11 ∷ 12 ∷ 13 ∷ []) ∷ []) entered (entered, (four_fits, inl (inr refl, refl)), refl), refl)),
    (
      w2,
      (refl, refl),
      (
        w3,
        (
          refl,
          refl,
          (four_fits, tt),
          (
            only copied,
            all_carry w2.map entered (Run 1 (11 ∷ 12 ∷ 13 ∷ []) ∷ []) copied (copied, (omega arith, omega arith, omega arith, omega arith, restated, inr (refl, refl), refl), refl),
            refl,
          ),
        ),
        (
          w4,
          (refl, refl),
          (
            w5,
            (
              refl,
              refl,
              refl,
              refl,
              at_whereabouts (λ t. OwesNothing t) copied (refl, refl, λ k. refl) (refl, refl, λ k. refl),
              at_whereabouts (λ t. HasAppended {E = ℕ} {V = ℕ} t []) copied (nothing_left copied refl (λ k. no_false)) (nothing_left nowhere refl (λ k. no_false)),
              refl,
            ),
            (
              w6,
              (
                refl,
                (
                  only compacted_to_3,
                  all_grow copied (Compact 3 ∷ Put (5 ∷ []) 50 ∷ []) compacted_to_3
                      (record copied { first = 3; split = 4; compacted = true }, refl, (compacted_to_3, refl, refl)),
                  refl,
                ),
              ),
              (
                w7,
                (refl, refl),
                (
                  w8,
                  (refl, refl, (tt, tt), (only marked, all_carry w7.map compacted_to_3 (Compact 3 ∷ []) marked (marked, (inl (omega arith, refl), refl), refl), refl)),
                  (
                    w9,
                    (
                      refl,
                      refl,
                      (tt, tt),
                      (
                        only key_copied,
                        all_carry w7.map marked (Put (5 ∷ []) 50 ∷ []) key_copied (key_copied, (refl, (λ h. (refl, refl)), refl), refl),
                        refl,
                      ),
                    ),
                    (
                      w10,
                      (refl, refl),
                      (
                        w11,
                        (
                          refl,
                          refl,
                          refl,
                          refl,
                          at_whereabouts (λ t. OwesNothing t) key_copied (refl, refl, λ k. refl) (refl, refl, λ k. refl),
                          at_whereabouts (λ t. HasAppended {E = ℕ} {V = ℕ} t []) key_copied (nothing_left key_copied refl none_left) (nothing_left nowhere refl (λ k. no_false)),
                          refl,
                        ),
                        (
                          w12,
                          (refl, refl, refl, refl, (only read_again, all_recovered, refl)),
                          refl,
                        ),
                      ),
                    ),
                  ),
                ),
              ),
            ),
          ),
        ),
      ),
    ),
  ),
  refl,
  refl,
)

-- The open groups of a segment, as the code keeps them.
use Rattle.std.proofs.Common.{◌≡◌, ℕ, ◌==◌, Bool, true, false, if◌then◌else◌, List, [], ◌∷◌, ◌++◌, map, Option, Some, None, option_map, unwrap_or, refl, sym, ap, ap₂, subst, ◌∙◌, append_assoc, append-nil}
use Rattle.std.proofs.lemmas.List.{map-append}
use Rattle.raft_log_model_laws.specs.Item.{Record}
use Rattle.raft_log_model_laws.specs.Item.Record.{Part, Plain}
use Rattle.raft_log_model_laws.specs.Item.Mark.{End}
use Rattle.raft_log_model_laws.specs.Groups.{counts, none_open, onto, opened}
use Rattle.raft_log_model_laws.specs.Fragments.{head, more, next_unfinished, unfinished, without, Unfinished}
use Rattle.raft_log_model_laws.proofs.Public.{at_bool, if_false, open_in}
use Rattle.raft_log_memtable_index.specs.Shown.{KeyValue}
use Rattle.raft_log_memtable_index.specs.Bridge.{Located}
use Rattle.raft_log_replay_context.specs.declared.part.GroupPart.{GroupPart}
use Rattle.raft_log_replay_context.specs.OpenGroups.{all_pushed, begun_at, with_part, without_begun, Begun}
use Rattle.raft_log_replay_context.specs.declared.pieces.GroupPieces.{GroupPieces}
use Rattle.raft_log_replay_context.specs.Records.{records_of, ReadItem, ReadRecord}
use Rattle.raft_log_replay_context.specs.Pieces.{as_said, head_at, left_open, part_seen, parts_seen, seen_as, seen_by, unfinished_of, ArePieces, Reading}
use Rattle.raft_log_replay_context.proofs.Fragments.{absent_before, absent_parts, counts_at_end, known_where_open, more_none, unfinished_more, AreDistinct, IsKnown}
use Rattle.raft_log_replay_context.proofs.Parts.{parts_push}

pub records_append : (rs qs : List ReadRecord) → records_of (rs ++ qs) ≡ records_of rs ++ records_of qs
records_append rs qs = map-append (λ r. r.taken) rs qs

pub seen_append : (φ : Reading) (rs qs : List ReadRecord) → seen_by φ (rs ++ qs) ≡ seen_by φ rs ++ seen_by φ qs
seen_append φ rs qs = map-append (λ r. seen_as φ r.file r.taken) rs qs

-- the records with their items as they are
pub seen_said : (rs : List ReadRecord) → seen_by as_said rs ≡ records_of rs
seen_said [] = refl
seen_said (r ∷ rs) = ap₂ (λ a l. a ∷ l) (as_it_is r.taken) (seen_said rs)
  where
    as_it_is : (x : Record Located KeyValue) → seen_as as_said r.file x ≡ x
    as_it_is (Plain xs) = refl
    as_it_is (Part m xs) = refl

-- the pieces with one more record
pub pieces_more : (rs : List ReadRecord) (r : ReadRecord) (p : GroupPieces)
    → ((φ : Reading) (n : ℕ) → head_at φ p n ≡ head n [] (seen_by φ rs ++ seen_as φ r.file r.taken ∷ []))
    → ((φ : Reading) → left_open φ p ≡ next_unfinished (unfinished (seen_by φ rs)) (seen_as φ r.file r.taken)) → ArePieces (rs ++ r ∷ []) p
pieces_more rs r p heads left = record {
  heads = λ φ n. heads φ n ∙ ap (head n []) (sym (seen_append φ rs (r ∷ [])));
  left_open = λ φ.
      left φ ∙ sym (unfinished_more [] (seen_by φ rs) (seen_as φ r.file r.taken)) ∙ ap unfinished (sym (seen_append φ rs (r ∷ [])));
}

abbrev Us : Type 0
Us = List (Unfinished Located KeyValue)

-- Of groups of other numbers nothing goes, and none has more.
pub others_stay : (n : ℕ) (us : List Begun) → begun_at n us ≡ None → without_begun n us ≡ us
others_stay n [] h = refl
others_stay n (u ∷ us) h =
    let parts = absent_parts (u.0 == n) u (begun_at n us) h in
    if_false (u.0 == n) (without_begun n us) (u ∷ without_begun n us) parts.0 ∙ ap (λ l. u ∷ l) (others_stay n us parts.1)

module _ (φ : Reading) where
  -- the groups' numbers and records, as they show
  pub seen_at : (n : ℕ) (us : List Begun) → open_in (map (unfinished_of φ) us) n ≡ option_map (λ (u : Begun). parts_seen φ u.1) (begun_at n us)
  seen_at n [] = refl
  seen_at n (u ∷ us) =
      at_bool (u.0 == n)
      (λ b. (if b then Some (parts_seen φ u.1) else open_in (map (unfinished_of φ) us) n) ≡ option_map (λ (v : Begun). parts_seen φ v.1) (if b then Some u else begun_at n us))
      (λ _. refl) (λ _. seen_at n us)

  pub seen_without : (n : ℕ) (us : List Begun) → map (unfinished_of φ) (without_begun n us) ≡ without n (map (unfinished_of φ) us)
  seen_without n [] = refl
  seen_without n (u ∷ us) =
      at_bool (u.0 == n)
      (λ b. map (unfinished_of φ) (if b then without_begun n us else u ∷ without_begun n us)
      ≡ (if b then without n (map (unfinished_of φ) us) else unfinished_of φ u ∷ without n (map (unfinished_of φ) us)))
      (λ _. seen_without n us) (λ _. ap (λ l. unfinished_of φ u ∷ l) (seen_without n us))

  pub seen_more : (n : ℕ) (p : GroupPart) (us : List Begun) → map (unfinished_of φ) (with_part n p us) ≡ more n (part_seen φ p) (map (unfinished_of φ) us)
  seen_more n p [] = refl
  seen_more n p (u ∷ us) = ap₂ (λ a l. a ∷ l) (one (u.0 == n)) (seen_more n p us)
    where
      one : (b : Bool) → unfinished_of φ (if b then (u.0, u.1 ++ p ∷ []) else u)
          ≡ record { number = u.0; items = if b then parts_seen φ u.1 ++ part_seen φ p else parts_seen φ u.1 }
      one true = ap (λ ys. record { number = u.0; items = ys }) (parts_push φ u.1 p)
      one false = refl

  -- What counts at an end.
  module _ (rs : List ReadRecord) (n : ℕ) (us : List Begun) (all : map (unfinished_of φ) us ≡ unfinished (seen_by φ rs)) where
    pub counts_nothing : (ys : List ReadItem) → begun_at n us ≡ None → counts (opened none_open (seen_by φ rs)) (Part (End n) ys) ≡ []
    counts_nothing ys h =
        counts_at_end (seen_by φ rs) n ys
        ∙ ap (λ o. unwrap_or (onto o ys) []) (ap (λ (l : Us). open_in l n) (sym all) ∙ seen_at n us ∙ ap (option_map (λ (u : Begun). parts_seen φ u.1)) h)

    pub none_more : (ys : List ReadItem) → begun_at n us ≡ None → map (unfinished_of φ) us ≡ more n ys (unfinished (seen_by φ rs))
    none_more ys h =
        sym (more_none n ys (map (unfinished_of φ) us) (seen_at n us ∙ ap (option_map (λ (u : Begun). parts_seen φ u.1)) h)) ∙ ap (more n ys) all

    module _ (u : Begun) (found : begun_at n us ≡ Some u) where
      there : open_in (map (unfinished_of φ) us) n ≡ Some (parts_seen φ u.1)
      there = seen_at n us ∙ ap (option_map (λ (v : Begun). parts_seen φ v.1)) found

      pub known_there : IsKnown (head n [] (seen_by φ rs))
      known_there = known_where_open (seen_by φ rs) n (parts_seen φ u.1) (ap (λ (l : Us). open_in l n) (sym all) ∙ there)

      pub counts_whole : (ys : List ReadItem) → counts (opened none_open (seen_by φ rs)) (Part (End n) ys) ≡ parts_seen φ u.1 ++ ys
      counts_whole ys = counts_at_end (seen_by φ rs) n ys ∙ ap (λ o. unwrap_or (onto o ys) []) (ap (λ (l : Us). open_in l n) (sym all) ∙ there)

  -- the groups of that number are none of these
  pub none_at : (n : ℕ) (us : List Begun) → open_in (map (unfinished_of φ) us) n ≡ None → begun_at n us ≡ None
  none_at n us h = from_map (begun_at n us) (sym (seen_at n us) ∙ h)
    where
      from_map : (o : Option Begun) → option_map (λ (u : Begun). parts_seen φ u.1) o ≡ None → o ≡ None
      from_map None e = refl
      from_map (Some u) e = let never : ⊥ = cc in absurd never

  -- groups of numbers of their own come behind the others as they are
  pub pushed_apart : (us vs : List Begun) → AreDistinct (map (unfinished_of φ) (us ++ vs)) → all_pushed us vs ≡ us ++ vs
  pushed_apart us [] d = sym (append-nil us)
  pushed_apart us (v ∷ vs) d =
      let split = map-append (unfinished_of φ) us (v ∷ vs) in
      let apart = none_at v.0 us (absent_before (map (unfinished_of φ) us) (unfinished_of φ v) (map (unfinished_of φ) vs) (subst AreDistinct split d)) in
      ap (λ l. all_pushed (l ++ v ∷ []) vs) (others_stay v.0 us apart)
      ∙ pushed_apart (us ++ v ∷ []) vs (subst (λ l. AreDistinct (map (unfinished_of φ) l)) (sym (append_assoc us (v ∷ []) vs)) d)
      ∙ append_assoc us (v ∷ []) vs

-- A list of runs whose last run has one more entry that is alone.
use Rattle.std.proofs.Common.{◌≡◌, ℕ, ◌+◌, ◌<◌, ◌≤◌, ◌^◌, List, [], ◌∷◌, ◌++◌, length, take, drop, slice_index_or, slice_set, refl, sym, ap, ap₂, subst₂, ◌∙◌, arith, append_assoc, append-nil, length-append, length-drop, length-take-le}
use Rattle.std.proofs.lemmas.List.{drop-append-le, drop_all, get_or_default, set_at}
use Rattle.raft_log_extents.specs.declared.place.Place.{Place}
use Rattle.raft_log_extents.specs.declared.run.Run.{Run}
use Rattle.raft_log_extents.specs.Runs.{IsSound, expand, one_more, places_of, width, widths}
use Rattle.raft_log_extents.specs.Words.{words_of}
use Rattle.raft_log_extents.proofs.RunLists.{Around, around, counts-append, expand-append, expand-more, expand_around, numbered_both, widths-append}
use Rattle.raft_log_extents.proofs.RunParts.{more_fits, places-push}
use Rattle.raft_log_extents.proofs.RunSpots.{split_there}
use Rattle.raft_log_extents.proofs.RunTurns.{counts_more, counts_take}

module _ (front base len : ℕ) (rs : List Run) (ss : List ℕ) (before : List Run) (r : Run) (p : Place) (sound : IsSound front base len rs ss) (split : rs ≡ before ++ (r ∷ [])) where
  here : Around front base len rs ss before r []
  here = around front base len rs ss before r [] sound split

  long : length (drop (widths before) ss) ≡ width r
  long =
      let all = here.starts in
      let rest = length-drop (widths before) ss in omega (arith, all, rest)

  more_places : expand (before ++ (one_more r ∷ [])) (ss ++ words_of p) ≡ expand rs ss ++ (p ∷ [])
  more_places =
      let all = here.starts in
      let left = drop (widths before) ss in
      expand-append before (one_more r ∷ []) (ss ++ words_of p)
      ∙ ap₂ ◌++◌ (expand-more before ss (words_of p) (omega (arith, all)))
      (append-nil (places_of (one_more r) (drop (widths before) (ss ++ words_of p)))
      ∙ ap (places_of (one_more r)) (drop-append-le (widths before) ss (words_of p) (omega (arith, all)))
      ∙ places-push r left p (sym long))
      ∙ sym (ap (λ l. l ++ (p ∷ [])) (expand_around rs ss before r [] split)
      ∙ ap (λ l. (expand before ss ++ l) ++ (p ∷ [])) (append-nil (places_of r left))
      ∙ append_assoc (expand before ss) (places_of r left) (p ∷ []))

  more_sound : front + (len + 1) < 2 ^ 64 → base + (length ss + 8) < 2 ^ 64 → IsSound front base (len + 1) (before ++ (one_more r ∷ [])) (ss ++ words_of p)
  more_sound fits room =
      let all = here.starts in
      let count = here.count in
      let eight : length (words_of p) ≡ 8 = refl in
      let both = length-append ss (words_of p) in
      record {
        numbered = numbered_both front base r.first r.at before (one_more r ∷ []) here.first here.at here.left (refl, refl, omega arith, more_fits r.even r here.fits, tt);
        count = counts-append before (one_more r ∷ []) ∙ omega (arith, count);
        starts_are = widths-append before (one_more r ∷ []) ∙ omega (arith, all, both, eight);
        fits = fits;
        starts_fit = omega (arith, room, both, eight);
      }

-- the last run
last_split : (rs : List Run) (k : ℕ) (r : Run) → k + 1 ≡ length rs → r ≡ slice_index_or rs k r → rs ≡ take k rs ++ (r ∷ [])
last_split rs k r e is =
    split_there rs k r (omega (arith, e)) is ∙ ap (λ l. take k rs ++ (r ∷ l)) (drop_all (k + 1) rs (omega (arith, e)))

-- which is replaced
pub set_last : (rs : List Run) (k : ℕ) (r d : Run) → k + 1 ≡ length rs → r ≡ slice_index_or rs k r
    → slice_set rs k (one_more r) ≡ take k rs ++ (one_more (slice_index_or rs k d) ∷ [])
set_last rs k r d e is =
    ap (λ l. slice_set l k (one_more r)) (last_split rs k r e is)
    ∙ set_at (take k rs) r [] (one_more r) k (length-take-le k rs (omega (arith, e)))
    ∙ ap (λ x. take k rs ++ (one_more x ∷ [])) (is ∙ get_or_default rs k r d (omega (arith, e)))

pub extended : (front base len k : ℕ) (rs : List Run) (ss : List ℕ) (p : Place) (new : List Run) (left : List ℕ) → IsSound front base len rs ss → k + 1 ≡ length rs
    → front + (len + 1) < 2 ^ 64 → base + (length ss + 8) < 2 ^ 64 → ((d : Run) → new ≡ take k rs ++ (one_more (slice_index_or rs k d) ∷ [])) → left ≡ ss ++ words_of p
    → (expand new left ≡ expand rs ss ++ (p ∷ [])) × IsSound front base (len + 1) new left
extended front base len k [] ss p new left sound e fits room runs starts = absurd (omega (arith, e))
extended front base len k (x ∷ xs) ss p new left sound e fits room runs starts =
    let rs = x ∷ xs in
    let r = slice_index_or rs k x in
    let split = last_split rs k r e (get_or_default rs k x r (omega (arith, e))) in
    subst₂ (λ a b. (expand a b ≡ expand rs ss ++ (p ∷ [])) × IsSound front base (len + 1) a b) (sym (runs x)) (sym starts) (
      more_places front base len rs ss (take k rs) r p sound split,
      more_sound front base len rs ss (take k rs) r p sound split fits room,
    )

-- a run has no more entries than all
pub alone_few : (front base len k : ℕ) (rs : List Run) (ss : List ℕ) (r : Run) → IsSound front base len rs ss → k < length rs → r ≡ slice_index_or rs k r → r.alone ≤ len
alone_few front base len k rs ss r sound low is =
    let next = counts_more rs k r low is in
    let all = counts_take rs (k + 1) in
    let count = sound.count in omega (arith, next, all, count)

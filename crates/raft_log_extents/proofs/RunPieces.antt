-- Runs of pieces that come to the end of others, a piece at a time.
use Rattle.std.proofs.Common.{◌≡◌, ℕ, ◌+◌, ◌<◌, ◌^◌, List, [], ◌∷◌, ◌++◌, length, map, take, drop, refl, sym, ap, subst₂, ◌∙◌, arith, append_assoc, append-nil}
use Rattle.raft_log_record_items.specs.declared.entry.EntryIndex.{EntryIndex}
use Rattle.raft_log_extents.specs.declared.place.Place.{Place}
use Rattle.raft_log_extents.specs.declared.run.Run.{Run}
use Rattle.raft_log_extents.specs.Entries.{place_of}
use Rattle.raft_log_extents.specs.Runs.{AreAdded, IsSound, StartsFit, expand, places_of, starts_for, total, width}
use Rattle.raft_log_extents.proofs.EntryPieces.{push_items}
use Rattle.raft_log_extents.proofs.RunLists.{joined}
use Rattle.raft_log_extents.proofs.RunTurns.{joined_sound, pushed}

pub none_added : (first at : ℕ) (old : List Run) (were : List ℕ) → at < 2 ^ 64 → first < 2 ^ 64 → AreAdded first at 0 [] old old were were [] []
none_added first at old were low fits = record {
  runs = sym (append-nil old);
  starts_are = sym (append-nil were);
  sound = record { numbered = tt; count = refl; starts_are = refl; fits = omega (arith, fits); starts_fit = omega (arith, low) };
  places = refl;
}

-- one piece more
pub piece_added : (first at done count : ℕ) (es rest piece : List EntryIndex) (old now new : List Run) (were had have : List ℕ) (more : List Run) (kept : List ℕ) (run : Run)
    → AreAdded first at done (map place_of (take done es)) old now were had more kept → rest ≡ drop done es → piece ≡ take count rest → first + (done + count) < 2 ^ 64 → at + (length kept + length (starts_for run.even piece)) < 2 ^ 64 → 0 < count
    → run.first ≡ first + done → run.at ≡ at + length kept → total run ≡ count → StartsFit run.even run → places_of run (starts_for run.even piece) ≡ map place_of piece
    → width run ≡ length (starts_for run.even piece) → new ≡ now ++ (run ∷ []) → have ≡ had ++ starts_for run.even piece
    → AreAdded first at (done + count) (map place_of (take (done + count) es)) old new were have (more ++ (run ∷ [])) (kept ++ starts_for run.even piece)
piece_added first at done count es rest piece old now new were had have more kept run a rest_is piece_is last room some first_is at_is count_is fits are wide new_is have_is =
    let starts = starts_for run.even piece in
    let one = pushed first at done count more kept starts run (map place_of piece) (more ++ (run ∷ [])) (kept ++ starts) a.sound first_is at_is count_is some fits are wide last room refl refl in
    record {
      runs = new_is ∙ ap (λ l. l ++ (run ∷ [])) a.runs ∙ append_assoc old more (run ∷ []);
      starts_are = have_is ∙ ap (λ l. l ++ starts) a.starts_are ∙ append_assoc were kept starts;
      sound = one.1;
      places = push_items [] (expand more kept) (expand (more ++ (run ∷ [])) (kept ++ starts)) es rest piece done count rest_is piece_is a.places one.0;
    }

-- a sound list that others came behind
pub added_sound : (front base l n first at : ℕ) (rs new more : List Run) (ss left kept : List ℕ) (ps : List Place) → IsSound front base l rs ss → AreAdded first at n ps rs new ss left more kept
    → first ≡ front + l → at ≡ base + length ss → front + (l + n) < 2 ^ 64 → (expand new left ≡ expand rs ss ++ ps) × IsSound front base (l + n) new left
added_sound front base l n first at rs new more ss left kept ps s a e h fits =
    subst₂ (λ x y. (expand x y ≡ expand rs ss ++ ps) × IsSound front base (l + n) x y) (sym a.runs) (sym a.starts_are) (
      joined rs more ss kept s.starts_are ∙ ap (λ l. expand rs ss ++ l) a.places,
      joined_sound front base l first at n rs more ss kept s a.sound e h fits,
    )

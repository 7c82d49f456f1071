-- The files of a group's entries don't fall as the index rises.
use Rattle.std.proofs.Common.{◌≡◌, ℕ, ◌+◌, ◌-◌, ◌<◌, ◌≤◌, ◌⊎◌, List, [], ◌∷◌, ◌++◌, length, take, drop, ap, ◌∙◌, inl, inr, arith, length-take, length-drop}
use Rattle.std.proofs.lemmas.Bool.{cases_lt}
use Rattle.raft_log_model_laws.specs.Item.{Item}
use Rattle.raft_log_model_laws.specs.Item.Item.{Run, Clean, Compact, Put, Del}
use Rattle.raft_log_model_laws.specs.Meaning.Slot.{Index}
use Rattle.raft_log_model_laws.proofs.Public.{get_back, get_front, get_take}
use Rattle.raft_log_extents.specs.declared.place.Place.{Place}
use Rattle.raft_log_memtable_index.specs.Shown.{Shown, nothing_shown, with_run, stepped, all_stepped, span, IsOrderly, MayFollow, MayAllFollow}
use Rattle.raft_log_memtable_index.specs.Bridge.{Located, Move, moved_run, moved, all_moved, CanMove, CanAllMove}
use Rattle.raft_log_memtable_index.specs.Bridge.Move.{MoveRun, MoveKey}
use Rattle.raft_log_memtable_index.specs.Noted.{place_file, file_at, AllIn, AreInFile, MovesIn, FilesRise}
use Rattle.raft_log_memtable_index.proofs.Spans.{run_ends, orderly_stepped}
use Rattle.raft_log_memtable_index.proofs.Grow.{follow_on}
use Rattle.raft_log_memtable_index.proofs.Moving.{move_orderly, moved_length}
use Rattle.raft_log_memtable_index.proofs.Noting.{file_in, run_above, below_run, in_run, compact_file, are_in, move_shrinks}

pub nothing_rises : (a r : ℕ) → FilesRise a r nothing_shown
nothing_rises a r = record {
  appended = λ i j low between high. absurd (omega arith);
  rewritten = λ i j low between high. absurd (omega arith);
  in_append = λ i low high. absurd (omega arith);
  in_rewrite = λ i low high. absurd (omega arith);
}

-- two files that are what they were
as_before : (a b c d : ℕ) → a ≡ c → b ≡ d → c ≤ d → a ≤ b
as_before a b c d e h k = omega (arith, e, h, k)

-- a run in file n of Append: below it what lay there, and from it on that file
module _ (a r n : ℕ) (v : Shown) (f : ℕ) (p : Place) (ps : List Place) (o : IsOrderly v) (rise : FilesRise a r v) (later : a ≤ n) (h : MayFollow {E = Place} {V = List ℕ} (span v) (Run f (p ∷ ps)))
    (all : AllIn n (p ∷ ps)) where
  run_file : (i : ℕ) → (with_run v f (p ∷ ps)).first + (with_run v f (p ∷ ps)).rewritten ≤ i → i < (with_run v f (p ∷ ps)).first + length (with_run v f (p ∷ ps)).places
      → ((i < f) × (v.first + v.rewritten ≤ i) × (i < v.first + length v.places) × (file_at (with_run v f (p ∷ ps)) (Index i) ≡ file_at v (Index i)))
      ⊎ ((f ≤ i) × (file_at (with_run v f (p ∷ ps)) (Index i) ≡ n))
  run_file i low high = elim (cases_lt i f) [
    | inl under ↦ (let old = below_run v f (p ∷ ps) h.0 i (omega arith) under in let parts = o.parts in
        inl (under, omega (arith, old.0, parts, low), omega (arith, old.1), old.2))
    | inr over ↦ inr (over, in_run v f (p ∷ ps) h.0 n i all over (let ends = run_ends v f (p ∷ ps) h.0 in omega (arith, ends, high)))
  ]

  run_front : (i : ℕ) → (with_run v f (p ∷ ps)).first ≤ i → i < (with_run v f (p ∷ ps)).first + (with_run v f (p ∷ ps)).rewritten
      → (v.first ≤ i) × (i < v.first + v.rewritten) × (file_at (with_run v f (p ∷ ps)) (Index i) ≡ file_at v (Index i))
  run_front i low high =
      let above = run_above v.first (length v.places) f h.0 in let parts = o.parts in
      let old = below_run v f (p ∷ ps) h.0 i low (omega (arith, above, parts, high)) in
      (omega (arith, old.0, low), omega (arith, old.0, high), old.2)

  run_rises : FilesRise n r (with_run v f (p ∷ ps))
  run_rises = record {
    appended = λ i j low between high. elim (run_file j (omega arith) high) [
      | inl old ↦ elim (run_file i low (omega arith)) [
        | inl older ↦ as_before _ _ _ _ older.3 old.3 (rise.appended i j older.1 between old.2)
        | inr new ↦ absurd (let under = old.0 in let over = new.0 in omega arith)
      ]
      | inr new ↦ elim (run_file i low (omega arith)) [
        | inl older ↦ (let up = rise.in_append i older.1 older.2 in let there = older.3 in let here = new.1 in omega (arith, up, later, there, here))
        | inr both ↦ (let there = both.1 in let here = new.1 in omega (arith, there, here))
      ]
    ];
    rewritten = λ i j low between high.
        let x = run_front i low (omega arith) in let y = run_front j (omega arith) high in
        as_before _ _ _ _ x.2 y.2 (rise.rewritten i j x.0 between y.1);
    in_append = λ i low high. elim (run_file i low high) [
      | inl old ↦ (let up = rise.in_append i old.1 old.2 in let there = old.3 in omega (arith, up, later, there))
      | inr new ↦ (let here = new.1 in omega (arith, here))
    ];
    in_rewrite = λ i low high. let x = run_front i low high in let up = rise.in_rewrite i x.0 x.1 in let there = x.2 in omega (arith, up, there);
  }

-- one item
rises_step : (a r n : ℕ) (v : Shown) (x : Item Place (List ℕ)) → IsOrderly v → FilesRise a r v → a ≤ n → MayFollow (span v) x → AreInFile n (x ∷ [])
    → FilesRise n r (stepped n v x)
rises_step a r n v (Run f []) o rise later h all = record {
  appended = rise.appended;
  rewritten = rise.rewritten;
  in_append = λ i low high. let up = rise.in_append i low high in omega (arith, up, later);
  in_rewrite = rise.in_rewrite;
}
rises_step a r n v (Run f (p ∷ ps)) o rise later h all = run_rises a r n v f p ps o rise later h all.0
rises_step a r n v Clean o rise later h all = record {
  appended = λ i j low between high. absurd (omega arith);
  rewritten = λ i j low between high. absurd (omega arith);
  in_append = λ i low high. absurd (omega arith);
  in_rewrite = λ i low high. absurd (omega arith);
}
rises_step a r n v (Compact c) o rise later h all =
    let parts = o.parts in let cut = length-drop (c - v.first) v.places in
    record {
      appended = λ i j low between high.
          as_before _ _ _ _ (compact_file v c i (omega arith) (omega arith)) (compact_file v c j (omega arith) high)
          (rise.appended i j (omega (arith, parts)) between (omega (arith, cut)));
      rewritten = λ i j low between high.
          as_before _ _ _ _ (compact_file v c i low (omega (arith, parts, cut))) (compact_file v c j (omega arith) (omega (arith, parts, cut)))
          (rise.rewritten i j (omega arith) between (omega (arith, parts)));
      in_append = λ i low high.
          let there = compact_file v c i (omega arith) high in let up = rise.in_append i (omega (arith, parts)) (omega (arith, cut)) in omega (arith, there, up, later);
      in_rewrite = λ i low high.
          let there = compact_file v c i low (omega (arith, parts, cut)) in let up = rise.in_rewrite i (omega arith) (omega (arith, parts)) in omega (arith, there, up);
    }
rises_step a r n v (Put k w) o rise later h all = record {
  appended = rise.appended;
  rewritten = rise.rewritten;
  in_append = λ i low high. let up = rise.in_append i low high in omega (arith, up, later);
  in_rewrite = rise.in_rewrite;
}
rises_step a r n v (Del k) o rise later h all = record {
  appended = rise.appended;
  rewritten = rise.rewritten;
  in_append = λ i low high. let up = rise.in_append i low high in omega (arith, up, later);
  in_rewrite = rise.in_rewrite;
}

-- item after item
pub rises_on : (a r n : ℕ) (v : Shown) (xs : List (Item Place (List ℕ))) → IsOrderly v → FilesRise a r v → a ≤ n → MayAllFollow (span v) xs → AreInFile n xs
    → FilesRise n r (all_stepped n v xs)
rises_on a r n v [] o rise later h all = record {
  appended = rise.appended;
  rewritten = rise.rewritten;
  in_append = λ i low high. let up = rise.in_append i low high in omega (arith, up, later);
  in_rewrite = rise.in_rewrite;
}
rises_on a r n v (x ∷ xs) o rise later h all =
    let parts = are_in n x xs all in
    rises_on n r n (stepped n v x) xs (orderly_stepped n v x o h.0) (rises_step a r n v x o rise later h.0 parts.0) (omega arith) (follow_on n v x xs h.0 h.1) parts.1

-- Copies in file n of Rewrite.
module _ {E : Type 0} (at : Located → E) (a r n : ℕ) (later : r ≤ n) where
  copied_file : (v : Shown) (f : ℕ) (ps : List Place) (i : ℕ) → IsOrderly v → CanMove at v (MoveRun f ps) → AllIn n ps → v.first ≤ i → i < f + length ps
      → ((i < f) × (file_at (moved_run v f ps) (Index i) ≡ file_at v (Index i))) ⊎ ((f ≤ i) × (file_at (moved_run v f ps) (Index i) ≡ n))
  copied_file v f ps i o can all low high =
      let parts = o.parts in let from = can.0 in let split = can.1 in
      let cut : length (take (f - v.first) v.places) ≡ f - v.first = length-take (f - v.first) v.places ∙ omega (arith, parts, from, split) in
      let rest = drop ((f - v.first) + length ps) v.places in
      elim (cases_lt i f) [
        | inl under ↦ inl (under, ap place_file (get_front (take (f - v.first) v.places) (ps ++ rest) (i - v.first) (omega (arith, cut)) ∙ get_take (f - v.first) v.places (i - v.first) (omega arith)))
        | inr over ↦ inr (over, ap place_file (get_back (take (f - v.first) v.places) (ps ++ rest) (i - v.first) (i - f) (omega (arith, cut, from)) ∙ get_front ps rest (i - f) (omega arith)) ∙ file_in n ps (i - f) all (omega arith))
      ]

  run_copied : (v : Shown) (f : ℕ) (ps : List Place) → IsOrderly v → FilesRise a r v → CanMove at v (MoveRun f ps) → AllIn n ps → FilesRise a n (moved_run v f ps)
  run_copied v f ps o rise can all =
      let from = can.0 in let split = can.1 in let reach = can.2 in let count = moved_length v f ps can.0 can.3 in
      record {
        appended = λ i j low between high.
            let x = move_shrinks at v (MoveRun f ps) o can (Index i) (low, omega arith) in
            let y = move_shrinks at v (MoveRun f ps) o can (Index j) (omega arith, high) in
            as_before _ _ _ _ x.1 y.1 (rise.appended i j x.0.0 between y.0.1);
        rewritten = λ i j low between high. elim (copied_file v f ps j o can all (omega arith) (omega (arith, from, high))) [
          | inl old ↦ elim (copied_file v f ps i o can all low (omega (arith, from, high))) [
            | inl older ↦ as_before _ _ _ _ older.1 old.1 (rise.rewritten i j low between (let under = old.0 in omega (arith, under, split)))
            | inr new ↦ absurd (let under = old.0 in let over = new.0 in omega arith)
          ]
          | inr new ↦ elim (copied_file v f ps i o can all low (omega (arith, from, high))) [
            | inl older ↦ (let up = rise.in_rewrite i low (let under = older.0 in omega (arith, under, split)) in let there = older.1 in let here = new.1 in omega (arith, up, later, there, here))
            | inr both ↦ (let there = both.1 in let here = new.1 in omega (arith, there, here))
          ]
        ];
        in_append = λ i low high.
            let x = move_shrinks at v (MoveRun f ps) o can (Index i) (low, high) in
            let up = rise.in_append i x.0.0 x.0.1 in let there = x.1 in omega (arith, up, there);
        in_rewrite = λ i low high. elim (copied_file v f ps i o can all low (omega (arith, from, high))) [
          | inl old ↦ (let up = rise.in_rewrite i low (let under = old.0 in omega (arith, under, split)) in let there = old.1 in omega (arith, up, later, there))
          | inr new ↦ (let here = new.1 in omega (arith, here))
        ];
      }

  up_to_later : (v : Shown) → FilesRise a r v → FilesRise a n v
  up_to_later v rise = record {
    appended = rise.appended;
    rewritten = rise.rewritten;
    in_append = rise.in_append;
    in_rewrite = λ i low high. let up = rise.in_rewrite i low high in omega (arith, up, later);
  }

  copied : (v : Shown) (x : Move) → IsOrderly v → FilesRise a r v → CanMove at v x → MovesIn n (x ∷ []) → FilesRise a n (moved v x)
  copied v (MoveRun f ps) o rise can all = run_copied v f ps o rise can all.0
  copied v (MoveKey k file) o rise can all =
      let same = up_to_later v rise in
      record { appended = same.appended; rewritten = same.rewritten; in_append = same.in_append; in_rewrite = same.in_rewrite }

moves_in : (n : ℕ) (x : Move) (xs : List Move) → MovesIn n (x ∷ xs) → MovesIn n (x ∷ []) × MovesIn n xs
moves_in n (MoveRun f ps) xs h = ((h.0, tt), h.1)
moves_in n (MoveKey k file) xs h = (tt, h)

-- copy after copy
pub copies_rise : {E : Type 0} (at : Located → E) (a r n : ℕ) (v : Shown) (xs : List Move) → IsOrderly v → FilesRise a r v → r ≤ n → CanAllMove at v xs → MovesIn n xs
    → FilesRise a n (all_moved v xs)
copies_rise at a r n v [] o rise later can all = up_to_later at a r n later v rise
copies_rise at a r n v (x ∷ xs) o rise later can all =
    let parts = moves_in n x xs all in
    copies_rise at a n n (moved v x) xs (move_orderly at v x o can.0) (copied at a r n later v x o rise can.0 parts.0) (omega arith) can.1 parts.1

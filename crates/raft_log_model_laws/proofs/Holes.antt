-- A list without holes means the same with and without the rule on runs past the end, and so does each end of it.
use Rattle.std.proofs.Common.{◌≡◌, ℕ, ◌≤◌, ◌⊎◌, max, List, [], ◌∷◌, ◌++◌, length, false, ◌&&◌, nat_lt, nat_le, if◌then◌else◌, refl, ap, ap₂, inl, inr, arith}
use Rattle.std.proofs.lemmas.Bool.Decides.{nat_tests}
use Rattle.std.specs.Option.{option_or}
use Rattle.raft_log_model_laws.specs.Item.{Item}
use Rattle.raft_log_model_laws.specs.Item.Item.{Run, Clean, Compact, Put, Del}
use Rattle.raft_log_model_laws.specs.Meaning.{Slot, write, says}
use Rattle.raft_log_model_laws.specs.Meaning.Slot.{Index, Key}
use Rattle.raft_log_model_laws.specs.Holes.{Window, nothing, is_past, next_window, window, write_past, says_past, FitsOn, NoHole}
use Rattle.raft_log_model_laws.proofs.Cases.{if_false}

-- an item that leaves no hole says what it says
pub fits_writes : {E V : Type 0} (w : Window) (s : Slot) (x : Item E V) → FitsOn w x → write_past w s x ≡ write s x
fits_writes w (Index i) (Run f []) h = refl
fits_writes w (Index i) (Run f (e ∷ es)) h = if_false (is_past w f && nat_lt i f) _ _ (ap (λ b. b && nat_lt i f) h)
fits_writes w (Index i) Clean h = refl
fits_writes w (Index i) (Compact c) h = refl
fits_writes w (Index i) (Put k v) h = refl
fits_writes w (Index i) (Del k) h = refl
fits_writes w (Key l) (Run f []) h = refl
fits_writes w (Key l) (Run f (e ∷ es)) h = refl
fits_writes w (Key l) Clean h = refl
fits_writes w (Key l) (Compact c) h = refl
fits_writes w (Key l) (Put k v) h = refl
fits_writes w (Key l) (Del k) h = refl

pub no_hole : {E V : Type 0} (w : Window) (s : Slot) (xs : List (Item E V)) → NoHole w xs → says_past w s xs ≡ says s xs
no_hole w s [] h = refl
no_hole w s (x ∷ xs) h = ap₂ option_or (no_hole (next_window w x) s xs h.1) (fits_writes w s x h.0)

pub no_hole_front : {E V : Type 0} (w : Window) (xs ys : List (Item E V)) → NoHole w (xs ++ ys) → NoHole w xs
no_hole_front w [] ys h = tt
no_hole_front w (x ∷ xs) ys h = (h.0, no_hole_front (next_window w x) xs ys h.1)

pub no_hole_end : {E V : Type 0} (w : Window) (xs ys : List (Item E V)) → NoHole w (xs ++ ys) → NoHole (window w xs) ys
no_hole_end w [] ys h = h
no_hole_end w (x ∷ xs) ys h = no_hole_end (next_window w x) xs ys h.1

pub no_hole_append : {E V : Type 0} (w : Window) (xs ys : List (Item E V)) → NoHole w xs → NoHole (window w xs) ys → NoHole w (xs ++ ys)
no_hole_append w [] ys h k = k
no_hole_append w (x ∷ xs) ys h k = (h.0, no_hole_append (next_window w x) xs ys h.1 k)

pub window_append : {E V : Type 0} (w : Window) (xs ys : List (Item E V)) → window w (xs ++ ys) ≡ window (window w xs) ys
window_append w [] ys = refl
window_append w (x ∷ xs) ys = window_append (next_window w x) xs ys

-- a's run is empty, or the upper part of b's
abbrev pub IsTail : Window → Window → Type 0
IsTail a b = (a.end ≤ a.first) ⊎ ((a.end ≡ b.end) × (b.first ≤ a.first))

tail_fits : (a b : Window) (f : ℕ) → IsTail a b → is_past b f ≡ false → is_past a f ≡ false
tail_fits a b f (inl h) k = grind (arith, nat_tests)
tail_fits a b f (inr h) k = grind (arith, nat_tests)

tail_runs : (a b : Window) (f n : ℕ) → IsTail a b
    → (if nat_lt b.first f && nat_le f b.end then b.first else f) ≤ (if nat_lt a.first f && nat_le f a.end then a.first else f)
tail_runs a b f n (inl h) = grind (arith, nat_tests)
tail_runs a b f n (inr h) = grind (arith, nat_tests)

tail_compacts : (a b : Window) (c : ℕ) → IsTail a b → (a.end ≤ max a.first c) ⊎ ((a.end ≡ b.end) × (max b.first c ≤ max a.first c))
tail_compacts a b c (inl h) = inl (omega arith)
tail_compacts a b c (inr h) = inr (h.0, omega (arith, h.1))

-- what fits after b fits after the upper part of b, which is again the upper part
pub tail_step : {E V : Type 0} (a b : Window) (x : Item E V) → IsTail a b → FitsOn b x → FitsOn a x × IsTail (next_window a x) (next_window b x)
tail_step a b (Run f []) t h = (tt, t)
tail_step a b (Run f (e ∷ es)) t h = (tail_fits a b f t h, inr (refl, tail_runs a b f (length (e ∷ es)) t))
tail_step a b Clean t h = (tt, inl (omega arith))
tail_step a b (Compact c) t h = (tt, tail_compacts a b c t)
tail_step a b (Put k v) t h = (tt, t)
tail_step a b (Del k) t h = (tt, t)

pub tail_no_hole : {E V : Type 0} (a b : Window) (xs : List (Item E V)) → IsTail a b → NoHole b xs → NoHole a xs × IsTail (window a xs) (window b xs)
tail_no_hole a b [] t h = (tt, t)
tail_no_hole a b (x ∷ xs) t h =
    let step : FitsOn a x × IsTail (next_window a x) (next_window b x) = tail_step a b x t h.0 in
    let rest : NoHole (next_window a x) xs × IsTail (window (next_window a x) xs) (window (next_window b x) xs) =
    tail_no_hole (next_window a x) (next_window b x) xs step.1 h.1 in
    ((step.0, rest.0), rest.1)

-- no holes from the start of a list on, then none from any later start
pub no_hole_later : {E V : Type 0} (cut back : List (Item E V)) → NoHole nothing (cut ++ back) → NoHole nothing back
no_hole_later cut back h = (tail_no_hole nothing (window nothing cut) back (inl (omega arith)) (no_hole_end nothing cut back h)).0

-- Steps of the loops over runs.
use Rattle.std.proofs.Common.{◌≡◌, ℕ, ◌+◌, ◌-◌, ◌<◌, ◌≤◌, true, false, List, [], ◌∷◌, ◌++◌, length, take, drop, slice_index_or, slice_set, Option, Some, None, IsSome, option_to_list, sym, ap, ap₂, ◌∙◌, arith, append_assoc, length-append, length-drop, length-take-le}
use Rattle.std.proofs.lemmas.List.{drop_at, get_or_at, set_at, take_at}
use Rattle.raft_log_extents.specs.declared.run.Run.{Run}
use Rattle.raft_log_extents.specs.Runs.{counts, renumbered, widths}
use Rattle.raft_log_extents.proofs.RunLists.{length-renumbered}
use Rattle.raft_log_extents.proofs.RunTurns.{renumbered_more}
use Rattle.raft_log_extents.proofs.Replacing.{drop_at as drop_there}

numbered_long : (n m : ℕ) (old : List Run) (i : ℕ) → i ≤ length old → length (renumbered n m (take i old)) ≡ i
numbered_long n m old i h = length-renumbered n m (take i old) ∙ length-take-le i old h

pub same_run : (n m : ℕ) (old now : List Run) (i : ℕ) (r : Run) → i < length old → now ≡ renumbered n m (take i old) ++ drop i old → r ≡ slice_index_or now i r
    → r ≡ slice_index_or old i r
same_run n m old now i r h e is =
    is ∙ ap (λ l. slice_index_or l i r) (e ∙ ap (λ l. renumbered n m (take i old) ++ l) (drop_there i old r h))
    ∙ get_or_at (renumbered n m (take i old)) (slice_index_or old i r) (drop (i + 1) old) r i (numbered_long n m old i (omega arith))

-- one run more under its new numbers
pub renumber_step : (n m : ℕ) (old now : List Run) (i : ℕ) (r x : Run) (first at : ℕ) → i < length old → now ≡ renumbered n m (take i old) ++ drop i old
    → r ≡ slice_index_or now i r → first ≡ n + counts (take i old) → at ≡ m + widths (take i old) → x ≡ record r { first = first; at = at }
    → slice_set now i x ≡ renumbered n m (take (i + 1) old) ++ drop (i + 1) old
renumber_step n m old now i r x first at h e is f w x_is =
    let r_is = same_run n m old now i r h e is in
    let before = renumbered n m (take i old) in
    ap (λ l. slice_set l i x) (e ∙ ap (λ l. before ++ l) (drop_there i old r h))
    ∙ set_at before (slice_index_or old i r) (drop (i + 1) old) x i (numbered_long n m old i (omega arith))
    ∙ sym (append_assoc before (x ∷ []) (drop (i + 1) old))
    ∙ ap (λ l. l ++ drop (i + 1) old)
    (ap (λ y. before ++ (y ∷ [])) (x_is ∙ ap₂ (λ a b. record r { first = a; at = b }) f w)
    ∙ sym (renumbered_more n m old i r h r_is))

-- one run more behind others
pub move_step : (old now more : List Run) (n m i : ℕ) (r x : Run) (first at : ℕ) → i < length more → now ≡ old ++ renumbered n m (take i more) → r ≡ slice_index_or more i r
    → first ≡ n + counts (take i more) → at ≡ m + widths (take i more) → x ≡ record r { first = first; at = at } → now ++ (x ∷ []) ≡ old ++ renumbered n m (take (i + 1) more)
move_step old now more n m i r x first at h e is f w x_is =
    ap (λ l. l ++ (x ∷ [])) e ∙ append_assoc old (renumbered n m (take i more)) (x ∷ [])
    ∙ ap (λ l. old ++ l)
    (ap (λ y. renumbered n m (take i more) ++ (y ∷ [])) (x_is ∙ ap₂ (λ a b. record r { first = a; at = b }) f w)
    ∙ sym (renumbered_more n m more i r h is))

popped : {A : Type 0} (o : Option A) (x : A) (xs new : List A) → x ∷ xs ≡ option_to_list o ++ new → IsSome o → new ≡ xs
popped None x xs new e h = absurd (let clash : false ≡ true = h in let never : ⊥ = cc in never)
popped (Some y) x xs new e h = sym (ap (drop 1) e)

-- a run that is taken out of a list that was turned, and two in its stead
pub split_list : {A : Type 0} (xs turned rest fronted backed new : List A) (at : ℕ) (o : Option A) (x h t : A) → at < length xs
    → turned ≡ drop at xs ++ take at xs → turned ≡ option_to_list o ++ rest → IsSome o → fronted ≡ t ∷ rest → backed ≡ fronted ++ (h ∷ [])
    → new ≡ drop (length backed - (at + 1)) backed ++ take (length backed - (at + 1)) backed → new ≡ take at xs ++ (h ∷ (t ∷ drop (at + 1) xs))
split_list xs turned rest fronted backed new at o x h t low turned_is rest_is some fronted_is backed_is new_is =
    let first : turned ≡ slice_index_or xs at x ∷ (drop (at + 1) xs ++ take at xs) = turned_is ∙ ap (λ l. l ++ take at xs) (drop_there at xs x low) in
    let left : rest ≡ drop (at + 1) xs ++ take at xs = popped o (slice_index_or xs at x) (drop (at + 1) xs ++ take at xs) rest (sym first ∙ rest_is) some in
    let all : backed ≡ (t ∷ drop (at + 1) xs) ++ (take at xs ++ (h ∷ [])) =
    backed_is ∙ ap (λ l. l ++ (h ∷ [])) (fronted_is ∙ ap (λ l. t ∷ l) left) ∙ append_assoc (t ∷ drop (at + 1) xs) (take at xs) (h ∷ []) in
    let front_long = length-take-le at xs (omega (arith, low)) in
    let back_long = length-drop (at + 1) xs in
    let sum = ap length all ∙ length-append (t ∷ drop (at + 1) xs) (take at xs ++ (h ∷ [])) in
    let part = length-append (take at xs) (h ∷ []) in
    let n : length (t ∷ drop (at + 1) xs) ≡ length backed - (at + 1) = omega (arith, front_long, back_long, sum, part, low) in
    new_is
    ∙ ap (λ l. drop (length backed - (at + 1)) l ++ take (length backed - (at + 1)) l) all
    ∙ ap₂ ◌++◌ (drop_at (t ∷ drop (at + 1) xs) (take at xs ++ (h ∷ [])) (length backed - (at + 1)) n) (take_at (t ∷ drop (at + 1) xs) (take at xs ++ (h ∷ [])) (length backed - (at + 1)) n)
    ∙ append_assoc (take at xs) (h ∷ []) (t ∷ drop (at + 1) xs)

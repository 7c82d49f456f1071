-- A segment of a queue (not a segment file): consecutive records that are read on their own. Its summary is what counts
-- in the segment, and what the segment has of atomic groups that begin before it or end after it.
use Rattle.std.specs.Prelude.{ℕ, ◌≡◌, ◌==◌, List, [], ◌∷◌, ◌++◌, if◌then◌else◌}
use Rattle.raft_log_model_laws.specs.Item.{Tagged, Record}
use Rattle.raft_log_model_laws.specs.Item.Record.{Plain, Part}
use Rattle.raft_log_model_laws.specs.Item.Mark.{Begin, Middle, End}
use Rattle.raft_log_model_laws.specs.Groups.{of_group, settled}

-- what a segment does with an atomic group that may be open before it
pub data Head (E V : Type 0) : Type 0 where
  -- these items are added to the group; in the segment, the group neither ends nor begins anew
  GoesOn : List (Tagged E V) → Head E V
  -- the group ends, and these items are added up to its end
  Ends : List (Tagged E V) → Head E V
  -- another atomic group with the same number begins before this one ends, so this one's items are dropped
  BeginsAnew : Head E V

-- what a segment does with atomic group `n`, if the segment's earlier records added the items `xs` to the group, and
-- the given records follow
abbrev pub head : {E V : Type 0} → ℕ → List (Tagged E V) → List (Record E V) → Head E V
head n xs [] = GoesOn xs
head n xs (Plain ys ∷ rs) = head n xs rs
head n xs (Part (Begin k) ys ∷ rs) = if k == n then BeginsAnew else head n xs rs
head n xs (Part (Middle k) ys ∷ rs) = if k == n then head n (xs ++ ys) rs else head n xs rs
head n xs (Part (End k) ys ∷ rs) = if k == n then Ends (xs ++ ys) else head n xs rs

-- what two consecutive segments together do with an atomic group, given what each of them does
abbrev pub then_head : {E V : Type 0} → Head E V → Head E V → Head E V
then_head (GoesOn xs) (GoesOn ys) = GoesOn (xs ++ ys)
then_head (GoesOn xs) (Ends ys) = Ends (xs ++ ys)
then_head (GoesOn xs) BeginsAnew = BeginsAnew
then_head (Ends xs) h = Ends xs
then_head BeginsAnew h = BeginsAnew

-- an atomic group that has begun and not ended: its number, and its items so far
pub record Unfinished (E V : Type 0) : Type 0 where
  pub number : ℕ
  pub items : List (Tagged E V)

-- these unfinished groups except that of number `n`
abbrev pub without : {E V : Type 0} → ℕ → List (Unfinished E V) → List (Unfinished E V)
without n [] = []
without n (u ∷ us) = if u.number == n then without n us else u ∷ without n us

-- these unfinished groups, with the items `ys` added to that of number `n`
abbrev pub more : {E V : Type 0} → ℕ → List (Tagged E V) → List (Unfinished E V) → List (Unfinished E V)
more n ys [] = []
more n ys (u ∷ us) =
    record { number = u.number; items = if u.number == n then u.items ++ ys else u.items } ∷ more n ys us

-- the unfinished groups after one more record, in the order in which they began
abbrev pub next_unfinished : {E V : Type 0} → List (Unfinished E V) → Record E V → List (Unfinished E V)
next_unfinished us (Plain xs) = us
next_unfinished us (Part (Begin n) xs) = without n us ++ (record { number = n; items = xs } ∷ [])
next_unfinished us (Part (Middle n) xs) = more n xs us
next_unfinished us (Part (End n) xs) = without n us

-- the unfinished groups after these records, if `us` were unfinished before
abbrev pub unfinished_after : {E V : Type 0} → List (Unfinished E V) → List (Record E V)
    → List (Unfinished E V)
unfinished_after us [] = us
unfinished_after us (r ∷ rs) = unfinished_after (next_unfinished us r) rs

-- the atomic groups that begin in these records and don't end
abbrev pub unfinished : {E V : Type 0} → List (Record E V) → List (Unfinished E V)
unfinished rs = unfinished_after [] rs

-- Which items of an unfinished group begin to count in the next segment. `xs` are the group's items so far, and the
-- `Head` says what that segment does with the group.
abbrev pub finish : {E V : Type 0} → List (Tagged E V) → Head E V → List (Tagged E V)
finish xs (GoesOn ys) = []
finish xs (Ends ys) = xs ++ ys
finish xs BeginsAnew = []

-- unfinished group `n` after the next segment, with its items so far; none if the segment ends it or begins it anew
abbrev pub go_on : {E V : Type 0} → ℕ → List (Tagged E V) → Head E V → List (Unfinished E V)
go_on n xs (GoesOn ys) = record { number = n; items = xs ++ ys } ∷ []
go_on n xs (Ends ys) = []
go_on n xs BeginsAnew = []

-- the items of those unfinished groups that the next segment ends
abbrev pub completed : {E V : Type 0} → List (Unfinished E V) → (ℕ → Head E V) → List (Tagged E V)
completed [] heads = []
completed (u ∷ us) heads = finish u.items (heads u.number) ++ completed us heads

-- those of the unfinished groups that are still unfinished after the next segment, with their items so far
abbrev pub carried_on : {E V : Type 0} → List (Unfinished E V) → (ℕ → Head E V) → List (Unfinished E V)
carried_on [] heads = []
carried_on (u ∷ us) heads = go_on u.number u.items (heads u.number) ++ carried_on us heads

-- The summary of a segment:
-- - `counted`: the items that count in it
-- - `heads`: what it does with each atomic group that is open before it
-- - `left_open`: the groups that it leaves unfinished
pub record Segment (E V : Type 0) : Type 0 where
  pub counted : List (Tagged E V)
  pub heads : ℕ → Head E V
  pub left_open : List (Unfinished E V)

-- the summary of a segment that has these records
abbrev pub segment : {E V : Type 0} → List (Record E V) → Segment E V
segment rs = record { counted = settled rs; heads = λ n. head n [] rs; left_open = unfinished rs }

-- The summary of two consecutive segments, `a` and then `b`. These items count, in this order: those of `a`; those of
-- the groups that `a` leaves unfinished and `b` ends; those of `b`.
abbrev pub merge : {E V : Type 0} → Segment E V → Segment E V → Segment E V
merge a b = record {
  counted = a.counted ++ (completed a.left_open b.heads ++ b.counted);
  heads = λ n. then_head (a.heads n) (b.heads n);
  left_open = carried_on a.left_open b.heads ++ b.left_open;
}

-- In both summaries the same items count for each raft group. Both do the same with each atomic group that is open
-- before the segment, and leave the same atomic groups unfinished.
pub record IsSameSegment {E V : Type 0} (a b : Segment E V) : Type 0 where
  pub counted : (g : ℕ) → of_group g a.counted ≡ of_group g b.counted
  pub heads : (n : ℕ) → a.heads n ≡ b.heads n
  pub left_open : a.left_open ≡ b.left_open

-- consecutive segments as a tree, which says which neighbours' summaries are merged first
pub data Bracketing (A : Type 0) : Type 0 where
  One : List A → Bracketing A
  Both : Bracketing A → Bracketing A → Bracketing A

-- all records of these segments, in their order
abbrev pub all_of : {A : Type 0} → Bracketing A → List A
all_of (One rs) = rs
all_of (Both s t) = all_of s ++ all_of t

-- the summary of these segments: each is summarized on its own, and the summaries are merged as the tree says
abbrev pub merge_all : {E V : Type 0} → Bracketing (Record E V) → Segment E V
merge_all (One rs) = segment rs
merge_all (Both s t) = merge (merge_all s) (merge_all t)

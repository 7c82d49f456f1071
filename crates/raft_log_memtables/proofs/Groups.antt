-- The groups that are listed, table by table.
use Rattle.std.proofs.Common.{◌≡◌, ℕ, ◌==◌, Bool, true, false, ◌||◌, List, [], ◌∷◌, ◌++◌, Option, Some, None, is_some, Result, Ok, Err, IfOk, refl, sym, ap, subst, ◌∙◌, arith, append-nil}
use Rattle.std.specs.List.{AllByRecursion, list_any}
use Rattle.std.specs.List.Sorted.{IsStrictlySortedBy}
use Rattle.std.specs.Map.{keys_of}
use Rattle.std.specs.Ordering.{nat_cmp}
use Rattle.std.specs.declared.cmp.Ordering.TheVariants.{Less}
use Rattle.raft_log_memtables.specs.declared.group_table.GroupTable.{GroupTable}
use Rattle.raft_log_memtables.specs.Tables.{counts_in}
use Rattle.raft_log_memtables.specs.Walking.{listed_in, ListsGroups}
use Rattle.raft_log_memtables.proofs.Ready.{by_group, same_or_apart}
use Rattle.raft_log_memtables.proofs.Segments.{AllOnce, found, found_first, found_later}

abbrev pub with_listed : ℕ → Bool → List ℕ → List ℕ
with_listed g true gs = g ∷ gs
with_listed g false gs = gs

-- the groups of these tables that are listed
abbrev pub group_list : Bool → List (ℕ × GroupTable) → List ℕ
group_list all [] = []
group_list all (e ∷ es) = with_listed e.0 (all || e.1.counts) (group_list all es)

above_listed : (all : Bool) (k : ℕ) (es : List (ℕ × GroupTable)) → AllByRecursion (λ j. nat_cmp k j ≡ Less) (keys_of es) → AllByRecursion (λ j. nat_cmp k j ≡ Less) (group_list all es)
above_listed all k [] h = h
above_listed all k (e ∷ es) h = add (all || e.1.counts) (above_listed all k es h.1)
  where
    add : (b : Bool) → AllByRecursion (λ j. nat_cmp k j ≡ Less) (group_list all es) → AllByRecursion (λ j. nat_cmp k j ≡ Less) (with_listed e.0 b (group_list all es))
    add true g = (h.0, g)
    add false g = g

rise_listed : (all : Bool) (es : List (ℕ × GroupTable)) → IsStrictlySortedBy nat_cmp (keys_of es) → IsStrictlySortedBy nat_cmp (group_list all es)
unfolding IsStrictlySortedBy
rise_listed all [] h = h
rise_listed all (e ∷ es) h = add (all || e.1.counts) (above_listed all e.0 es h.0) (rise_listed all es h.1)
  where
    add : (b : Bool) → AllByRecursion (λ j. nat_cmp e.0 j ≡ Less) (group_list all es) → IsStrictlySortedBy nat_cmp (group_list all es)
        → IsStrictlySortedBy nat_cmp (with_listed e.0 b (group_list all es))
    add true g t = (g, t)
    add false g t = t

itself : (n : ℕ) → (n == n) ≡ true
itself n = grind (arith)

-- a group is listed where its own table is, if it isn't listed later
listed_here : (g : ℕ) (gs : List ℕ) → list_any (λ k. k == g) gs ≡ false → (b : Bool) → list_any (λ k. k == g) (with_listed g b gs) ≡ b
listed_here g gs none true = ap (λ (t : Bool). t || list_any (λ k. k == g) gs) (itself g)
listed_here g gs none false = none

listed_there : (g h : ℕ) (gs : List ℕ) → (h == g) ≡ false → (b : Bool) → list_any (λ k. k == g) (with_listed h b gs) ≡ list_any (λ k. k == g) gs
listed_there g h gs apart true = ap (λ (t : Bool). t || list_any (λ k. k == g) gs) apart
listed_there g h gs apart false = refl

listed_exactly : (all : Bool) (es : List (ℕ × GroupTable)) → AllOnce es → (g : ℕ) → list_any (λ k. k == g) (group_list all es) ≡ listed_in all (found es g)
listed_exactly all [] once g = refl
listed_exactly all (e ∷ es) once g =
    by_group e.0 g (same_or_apart e.0 g)
    (λ t is. subst (λ (j : ℕ). list_any (λ k. k == j) (with_listed e.0 (all || e.1.counts) (group_list all es)) ≡ listed_in all (found (e ∷ es) j)) is
    (listed_here e.0 (group_list all es) (listed_exactly all es once.1 e.0 ∙ ap (listed_in all) once.0) (all || e.1.counts) ∙ sym (ap (listed_in all) (found_first e es))))
    (λ apart. listed_there g e.0 (group_list all es) apart (all || e.1.counts) ∙ listed_exactly all es once.1 g ∙ sym (ap (listed_in all) (found_later e es g apart)))

-- a list that was made of all tables
pub all_listed : (all : Bool) (es : List (ℕ × GroupTable)) (front : List ℕ) (rest : List (ℕ × GroupTable)) → rest ≡ [] → front ++ group_list all rest ≡ group_list all es
    → AllOnce es → IsStrictlySortedBy nat_cmp (keys_of es) → ListsGroups (λ g. listed_in all (found es g)) front
all_listed all es front rest none h once sorted =
    subst (ListsGroups (λ g. listed_in all (found es g))) (sym (sym (append-nil front) ∙ ap (λ l. front ++ group_list all l) (sym none) ∙ h))
    (record { rising = rise_listed all es sorted; exact = listed_exactly all es once })

-- the same groups by another test
pub listed_as : {T : Type 0} (items : T → List ℕ) {E : Type 0} (p q : ℕ → Bool) → ((g : ℕ) → p g ≡ q g) → (r : Result T E)
    → IfOk r (λ t. ListsGroups p (items t)) → IfOk r (λ t. ListsGroups q (items t))
listed_as items p q same (Ok t) h = record { rising = h.rising; exact = λ g. h.exact g ∙ same g }
listed_as items p q same (Err e) h = h

-- all tables are listed
pub all_known : (es : List (ℕ × GroupTable)) → AllOnce es → IsStrictlySortedBy nat_cmp (keys_of es) → ListsGroups (λ g. is_some (found es g)) (group_list true es)
all_known es once sorted =
    let listed = all_listed true es (group_list true es) [] refl (append-nil (group_list true es)) once sorted in
    record { rising = listed.rising; exact = λ g. listed.exact g ∙ same (found es g) }
  where
    same : (o : Option GroupTable) → listed_in true o ≡ is_some o
    same None = refl
    same (Some t) = refl

-- No group counts if none is listed.

same_counts : (o : Option GroupTable) → listed_in false o ≡ counts_in o
same_counts None = refl
same_counts (Some t) = refl

pub none_counts : (es : List (ℕ × GroupTable)) → AllOnce es → group_list false es ≡ [] → (g : ℕ) → counts_in (found es g) ≡ false
none_counts es once none g =
    sym (same_counts (found es g)) ∙ sym (listed_exactly false es once g) ∙ ap (λ (gs : List ℕ). list_any (λ k. k == g) gs) none

pub one_counts : (es : List (ℕ × GroupTable)) (k : ℕ) (rest : List ℕ) → AllOnce es → group_list false es ≡ k ∷ rest → counts_in (found es k) ≡ true
one_counts es k rest once is =
    sym (same_counts (found es k)) ∙ sym (listed_exactly false es once k) ∙ ap (λ (gs : List ℕ). list_any (λ j. j == k) gs) is
    ∙ ap (λ (t : Bool). t || list_any (λ j. j == k) rest) (itself k)

-- the first table is of a group that counts
pub counts_first : (es : List (ℕ × GroupTable)) (e : ℕ × GroupTable) (next : List (ℕ × GroupTable)) → e.1.counts ≡ true → group_list false (e ∷ next) ≡ group_list false es → group_list false es ≡ e.0 ∷ group_list false next
counts_first es e next one is = sym is ∙ ap (λ (b : Bool). with_listed e.0 b (group_list false next)) one

-- the first table is of a group that doesn't count
pub counts_later : (es : List (ℕ × GroupTable)) (e : ℕ × GroupTable) (next : List (ℕ × GroupTable)) → e.1.counts ≡ false → group_list false (e ∷ next) ≡ group_list false es → group_list false next ≡ group_list false es
counts_later es e next none is = sym (ap (λ (b : Bool). with_listed e.0 b (group_list false next)) none) ∙ is

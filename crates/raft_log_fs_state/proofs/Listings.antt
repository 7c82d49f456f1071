-- A list of names that was made entry by entry is the directory's listing.
use Rattle.std.specs.Prelude.{◌≡◌, ℕ, ◌<◌, ◌⊎◌, ◌++◌, Bool, true, false, cond, List, [], ◌∷◌, Option, Some, None, length, suc, zero}
use Rattle.std.specs.List.{Contains, AllByRecursion}
use Rattle.std.specs.List.Sorted.{IsStrictlySortedBy}
use Rattle.std.specs.Map.{lookup, keys_of}
use Rattle.std.specs.BTreeMap.{BTreeMap, is_at, get_by_text, IsOrdered}
use Rattle.std.specs.Cmp.Lexicographic.{slice_cmp}
use Rattle.std.specs.Ordering.{nat_cmp, is_eq}
use Rattle.std.specs.String.{string_bytes, string_cmp}
use Rattle.std.proofs.Common.{refl, sym, ◌∙◌, ap, subst, arith, inl, inr, Global, String, get_or, Less}
use Rattle.std.proofs.lemmas.Bool.{cases_Bool, false≢true}
use Rattle.std.proofs.lemmas.List.{append_cancel_left}
use Rattle.std.proofs.lemmas.Map.Text.{is_eq-slice_cmp}
use Rattle.std.proofs.lemmas.Slice.Eq.{bytes_eq-Decides}
use Rattle.raft_log_fs.specs.Disk.{Disk, IsPlain}
use Rattle.raft_log_fs_state.specs.declared.storage.Node.{Node}
use Rattle.raft_log_fs_state.specs.Storage.{file_named}
use Rattle.raft_log_fs_state.specs.Listing.{ListsNames}
use Rattle.raft_log_fs.specs.Reading.{IsListing}

-- an entry of a map by texts, by recursion
abbrev pub Stands : {V : Type 0} → List (String Global × V) → List ℕ → V → Type 0
Stands [] path v = ⊥
Stands (e ∷ es) path v = ((string_bytes e.0 ≡ path) × (e.1 ≡ v)) ⊎ Stands es path v

-- an entry of one more is one of those before, or the last one
pub stands_pushed : {V : Type 0} (es : List (String Global × V)) (e : String Global × V) (path : List ℕ) (v : V) → Stands (es ++ e ∷ []) path v
    → Stands es path v ⊎ (string_bytes e.0 ≡ path)
stands_pushed [] e path v (inl here) = inr here.0
stands_pushed [] e path v (inr none) = absurd none
stands_pushed (f ∷ es) e path v (inl here) = inl (inl here)
stands_pushed (f ∷ es) e path v (inr there) = elim (stands_pushed es e path v there) [
  | inl before ↦ inl (inr before)
  | inr last ↦ inr last
]

same_text : (path : List ℕ) (k : String Global) → is_at (λ (q : String Global). slice_cmp nat_cmp path (string_bytes q)) k ≡ true → string_bytes k ≡ path
same_text path k is = sym ((bytes_eq-Decides path (string_bytes k)).0 (sym (is_eq-slice_cmp path (string_bytes k)) ∙ is))

text_found : (path : List ℕ) (k : String Global) → string_bytes k ≡ path → is_at (λ (q : String Global). slice_cmp nat_cmp path (string_bytes q)) k ≡ true
text_found path k is = is_eq-slice_cmp path (string_bytes k) ∙ (bytes_eq-Decides path (string_bytes k)).1 (sym is)

-- what a look-up finds stands there
pub found_stands : {V : Type 0} (es : List (String Global × V)) (path : List ℕ) (node : V)
    → lookup (is_at (λ (q : String Global). slice_cmp nat_cmp path (string_bytes q))) es ≡ Some node → Stands es path node
found_stands [] path node is = cc
found_stands (e ∷ es) path node is = elim (cases_Bool (is_at (λ (q : String Global). slice_cmp nat_cmp path (string_bytes q)) e.0)) [
  | inl hit ↦ inl (
    same_text path e.0 hit,
    (let there : Some e.1 ≡ Some node = sym (ap (λ (b : Bool). cond b (Some e.1) (lookup (is_at (λ (q : String Global). slice_cmp nat_cmp path (string_bytes q))) es)) hit) ∙ is in cc),
  )
  | inr lost ↦ inr (found_stands es path node
      (sym (ap (λ (b : Bool). cond b (Some e.1) (lookup (is_at (λ (q : String Global). slice_cmp nat_cmp path (string_bytes q))) es)) lost) ∙ is))
]

-- and where something stands a look-up finds something that is like it
pub stands_found : (P : Node → Type 0) (es : List (String Global × Node)) (path : List ℕ) → ((node : Node) → Stands es path node → P node) → (node : Node) → Stands es path node
    → (other : Node) × (lookup (is_at (λ (q : String Global). slice_cmp nat_cmp path (string_bytes q))) es ≡ Some other) × P other
stands_found P [] path each node is = absurd is
stands_found P (e ∷ es) path each node is = elim (cases_Bool (is_at (λ (q : String Global). slice_cmp nat_cmp path (string_bytes q)) e.0)) [
  | inl hit ↦ (e.1, ap (λ (b : Bool). cond b (Some e.1) (lookup (is_at (λ (q : String Global). slice_cmp nat_cmp path (string_bytes q))) es)) hit, each e.1 (inl (same_text path e.0 hit, refl)))
  | inr lost ↦ elim is [
    | inl here ↦ absurd (false≢true (sym lost ∙ text_found path e.0 here.0))
    | inr there ↦ (let rest = stands_found P es path (λ n stands. each n (inr stands)) node there in
        (rest.0, ap (λ (b : Bool). cond b (Some e.1) (lookup (is_at (λ (q : String Global). slice_cmp nat_cmp path (string_bytes q))) es)) lost ∙ rest.1, rest.2))
  ]
]

-- a name is listed exactly if its file stands there
listed_stands : (directory : List ℕ) (es : List (String Global × Node)) (names : List (List ℕ)) (k : ℕ) (d : List ℕ) → ListsNames directory es names → k < length names
    → (node : Node) × Stands es (directory ++ 47 ∷ get_or names k d) node × (file_named (Some node) ≡ None → ⊥) × IsPlain (get_or names k d)
listed_stands directory [] names k d is below = absurd (let none : length names ≡ 0 = ap length is in omega (arith, none, below))
listed_stands directory (e ∷ es) names zero d (inl (name, rest, same, child, more)) below =
    let first : name ≡ get_or names zero d = sym (ap (λ (xs : List (List ℕ)). get_or xs zero d) same) in
    subst (λ (n : List ℕ). (node : Node) × Stands (e ∷ es) (directory ++ 47 ∷ n) node × (file_named (Some node) ≡ None → ⊥) × IsPlain n) first
    (e.1, inl (child.joined, refl), child.file, child.plain)
listed_stands directory (e ∷ es) names (suc k) d (inl (name, rest, same, child, more)) below =
    let later : get_or rest k d ≡ get_or names (suc k) d = sym (ap (λ (xs : List (List ℕ)). get_or xs (suc k) d) same) in
    let inside : k < length rest = omega (arith, ap length same, below) in
    let found = listed_stands directory es rest k d more inside in
    subst (λ (n : List ℕ). (node : Node) × Stands (e ∷ es) (directory ++ 47 ∷ n) node × (file_named (Some node) ≡ None → ⊥) × IsPlain n) later
    (found.0, inr found.1, found.2, found.3)
listed_stands directory (e ∷ es) names k d (inr (other, more)) below =
    let found = listed_stands directory es names k d more below in (found.0, inr found.1, found.2, found.3)

stands_listed : (directory : List ℕ) (es : List (String Global × Node)) (names : List (List ℕ)) (name : List ℕ) (node : Node) → ListsNames directory es names → IsPlain name
    → (file_named (Some node) ≡ None → ⊥) → Stands es (directory ++ 47 ∷ name) node → Contains names name
stands_listed directory [] names name node is plain file stands = absurd stands
stands_listed directory (e ∷ es) names name node (inl (first, rest, same, child, more)) plain file (inl here) =
    let equal : 47 ∷ first ≡ 47 ∷ name = append_cancel_left directory (47 ∷ first) (47 ∷ name) (sym child.joined ∙ here.0) in
    let one : first ≡ name = cc in
    (zero, omega (arith, ap length same), ap (λ (xs : List (List ℕ)). get_or xs zero name) same ∙ one)
stands_listed directory (e ∷ es) names name node (inl (first, rest, same, child, more)) plain file (inr there) =
    let found = stands_listed directory es rest name node more plain file there in
    (suc found.0, omega (arith, ap length same, found.1), ap (λ (xs : List (List ℕ)). get_or xs (suc found.0) name) same ∙ found.2)
stands_listed directory (e ∷ es) names name node (inr (other, more)) plain file (inl here) =
    absurd (other name (record { joined = here.0; plain = plain; file = λ none. file (ap (λ (n : Node). file_named (Some n)) (sym here.1) ∙ none) }))
stands_listed directory (e ∷ es) names name node (inr (other, more)) plain file (inr there) = stands_listed directory es names name node more plain file there

-- two entries with one path: not in a map
stands_below : (path : List ℕ) (e : String Global) (es : List (String Global × Node)) (node : Node) → AllByRecursion (λ (y : String Global). string_cmp e y ≡ Less) (keys_of es)
    → string_bytes e ≡ path → Stands es path node → ⊥
stands_below path e [] node below is stands = stands
stands_below path e (f ∷ es) node below is (inl here) =
    (let equal : is_eq (string_cmp e f.0) ≡ true = is_eq-slice_cmp (string_bytes e) (string_bytes f.0) ∙ (bytes_eq-Decides (string_bytes e) (string_bytes f.0)).1 (is ∙ sym here.0) in
    let less : is_eq (string_cmp e f.0) ≡ false = ap is_eq below.0 in false≢true (sym less ∙ equal))
stands_below path e (f ∷ es) node below is (inr there) = stands_below path e es node below.1 is there

names_once : (directory : List ℕ) (es : List (String Global × Node)) (names : List (List ℕ)) → IsStrictlySortedBy string_cmp (keys_of es) → ListsNames directory es names
    → (j k : ℕ) → j < k → k < length names → get_or names j [] ≡ get_or names k [] → ⊥
unfolding IsStrictlySortedBy
names_once directory [] names sorted is j k before below same = let none : length names ≡ 0 = ap length is in omega (arith, none, below)
names_once directory (e ∷ es) names sorted (inr (other, more)) j k before below same = names_once directory es names sorted.1 more j k before below same
names_once directory (e ∷ es) names sorted (inl (first, rest, same_list, child, more)) j zero before below same = omega (arith, before)
names_once directory (e ∷ es) names sorted (inl (first, rest, same_list, child, more)) (suc j) (suc k) before below same =
    names_once directory es rest sorted.1 more j k (omega (arith, before)) (omega (arith, ap length same_list, below))
    (sym (ap (λ (xs : List (List ℕ)). get_or xs (suc j) []) same_list) ∙ (same ∙ ap (λ (xs : List (List ℕ)). get_or xs (suc k) []) same_list))
names_once directory (e ∷ es) names sorted (inl (first, rest, same_list, child, more)) zero (suc k) before below same =
    let later = listed_stands directory es rest k [] more (omega (arith, ap length same_list, below)) in
    let one : first ≡ get_or rest k [] = sym (ap (λ (xs : List (List ℕ)). get_or xs zero []) same_list) ∙ (same ∙ ap (λ (xs : List (List ℕ)). get_or xs (suc k) []) same_list) in
    stands_below (directory ++ 47 ∷ get_or rest k []) e.0 es later.0 sorted.0 (child.joined ∙ ap (λ (n : List ℕ). directory ++ 47 ∷ n) one) later.1

pub file_node : (o : Option Node) → (file_named o ≡ None → ⊥) → (node : Node) × (o ≡ Some node)
file_node None there = absurd (there refl)
file_node (Some node) there = (node, refl)

one_node : (es : List (String Global × Node)) (path : List ℕ) (a b : Node) → IsStrictlySortedBy string_cmp (keys_of es) → Stands es path a → Stands es path b → a ≡ b
unfolding IsStrictlySortedBy
one_node [] path a b sorted is_a is_b = absurd is_a
one_node (e ∷ es) path a b sorted (inl here_a) (inl here_b) = sym here_a.1 ∙ here_b.1
one_node (e ∷ es) path a b sorted (inl here_a) (inr there_b) = absurd (stands_below path e.0 es b sorted.0 here_a.0 there_b)
one_node (e ∷ es) path a b sorted (inr there_a) (inl here_b) = absurd (stands_below path e.0 es a sorted.0 here_b.0 there_a)
one_node (e ∷ es) path a b sorted (inr there_a) (inr there_b) = one_node es path a b sorted.1 there_a there_b

pub listing : (directory : List ℕ) (d : Disk) (paths : BTreeMap (String Global) Node) (names : List (List ℕ)) → d.stopped ≡ false → d.directories directory ≡ true
    → ((path : List ℕ) → d.names path ≡ file_named (get_by_text paths path)) → IsOrdered string_cmp paths → ListsNames directory paths.entries names → IsListing directory d names
listing directory d paths names runs there at sorted is = record {
  runs = runs;
  there = there;
  listed = λ name has.
      let k = has.0 in
      let found = listed_stands directory paths.entries names k name is has.1 in
      let stands = subst (λ (n : List ℕ). Stands paths.entries (directory ++ 47 ∷ n) found.0) has.2 found.1 in
      let got = stands_found (λ (n : Node). n ≡ found.0) paths.entries (directory ++ 47 ∷ name) (λ n other. one_node paths.entries (directory ++ 47 ∷ name) n found.0 sorted other stands) found.0 stands in (
        λ none. found.2 (sym (ap (λ (n : Node). file_named (Some n)) got.2) ∙ (sym (ap file_named got.1) ∙ (sym (at (directory ++ 47 ∷ name)) ∙ none))),
        subst IsPlain has.2 found.3,
      );
  all = λ name plain named.
      let got = file_node (get_by_text paths (directory ++ 47 ∷ name)) (λ none. named (at (directory ++ 47 ∷ name) ∙ none)) in
      stands_listed directory paths.entries names name got.0 is plain (λ none. named (at (directory ++ 47 ∷ name) ∙ (ap file_named got.1 ∙ none)))
      (found_stands paths.entries (directory ++ 47 ∷ name) got.0 got.1);
  once = names_once directory paths.entries names sorted is;
}

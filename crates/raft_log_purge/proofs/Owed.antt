-- The record of the marks that are owed takes no more than the items that they came of.
use Rattle.std.proofs.Common.{◌≡◌, ◌≤◌, ◌==◌, ◌∙◌, ℕ, Bool, true, false, if◌then◌else◌, nat_lt, bytes_eq, List, [], ◌∷◌, ◌++◌, map, inl, inr, refl, sym, ap, ap₂, subst, arith}
use Rattle.std.specs.List.{Contains, sum_by}
use Rattle.std.proofs.lemmas.Bool.{false≢true}
use Rattle.std.proofs.lemmas.List.Sums.{sum_by-cons}
use Rattle.raft_log_model_laws.specs.Item.{Item}
use Rattle.raft_log_model_laws.specs.Item.Item.{Run, Clean, Compact, Put, Del}
use Rattle.raft_log_model_laws.specs.Groups.{of_group}
use Rattle.raft_log_model_laws.proofs.Public.{at_bool, eq_true, from_eq_true, same_key}
use Rattle.raft_log_machine_laws.specs.Whereabouts.{top}
use Rattle.raft_log_record_items.specs.declared.entry.EntryIndex.{EntryIndex}
use Rattle.raft_log_record_items.specs.declared.item.LogItem.{LogItem}
use Rattle.raft_log_record_frames.specs.Meaning.{tagged_items}
use Rattle.raft_log_record_batches.specs.Batch.{Batch}
use Rattle.raft_log_record_batches.specs.Bounds.{batch_bound, record_bound}
use Rattle.raft_log_memtable_index.specs.Shown.{Shown}
use Rattle.raft_log_memtable_index.specs.Bridge.{AllOwed, dels}
use Rattle.raft_log_purge_copy.specs.Owed.{SaysMarks}
use Rattle.raft_log_purge.specs.Marks.{CameOf, said_in}
use Rattle.raft_log_purge.specs.Laws.{MarksTakeNoMore}
use Rattle.raft_log_purge.proofs.Within.{Among, AreApart, among, among_map, sum_within}
use Rattle.raft_log_purge.proofs.Weights.{Tag, bound_weighs, plain_tagged, tag_weight, tagged_weigh_less, weight}

abbrev LogRecordValue : Type 0
LogRecordValue = Item EntryIndex (List ℕ)

-- what is said, but for the index of a Compact
abbrev kind : LogRecordValue → LogRecordValue
kind (Run first es) = Run first es
kind Clean = Clean
kind (Compact index) = Compact 0
kind (Put key value) = Put key value
kind (Del key) = Del key

abbrev tag_kind : Tag → Tag
tag_kind x = record { group = x.group; item = kind x.item }

same_weight : (x : LogRecordValue) → weight (kind x) ≡ weight x
same_weight (Run first es) = refl
same_weight Clean = refl
same_weight (Compact index) = refl
same_weight (Put key value) = refl
same_weight (Del key) = refl

kinds_weigh : (xs : List Tag) → sum_by tag_weight (map tag_kind xs) ≡ sum_by tag_weight xs
kinds_weigh [] = refl
kinds_weigh (x ∷ xs) = omega (arith, same_weight x.item, sum_by-cons tag_weight x xs, sum_by-cons tag_weight (tag_kind x) (map tag_kind xs), kinds_weigh xs)

-- The deletions.

-- each is owed
each_owed : (deleted : List ℕ → Bool) (ks : List (List ℕ)) (x : LogRecordValue) → AllOwed deleted ks → Among x (map kind (dels ks)) → (k : List ℕ) × (◌≡◌ {A = LogRecordValue} (Del k) x) × (deleted k ≡ true)
each_owed deleted [] x owed never = absurd never
each_owed deleted (j ∷ js) x (owed, rest) (inl same) = (j, same, owed)
each_owed deleted (j ∷ js) x (owed, rest) (inr later) =
    let (k, same, still) = each_owed (λ i. if bytes_eq j i then false else deleted i) js x rest later in
    (k, same, at_bool (bytes_eq j k) (λ b. (if b then false else deleted k) ≡ true → deleted k ≡ true) (λ _ no. absurd (false≢true no)) (λ _ yes. yes) still)

-- and none of them twice
dels_apart : (deleted : List ℕ → Bool) (ks : List (List ℕ)) → AllOwed deleted ks → AreApart (map kind (dels ks))
dels_apart deleted [] owed = tt
dels_apart deleted (k ∷ ks) (owed, rest) = (fresh, dels_apart (λ i. if bytes_eq k i then false else deleted i) ks rest)
  where
    fresh : Among (Del k) (map kind (dels ks)) → ⊥
    fresh there =
        let (j, same, still) = each_owed (λ i. if bytes_eq k i then false else deleted i) ks (Del k) rest there in
        let is : j ≡ k = cc in
        at_bool (bytes_eq k j) (λ b. (if b then false else deleted j) ≡ true → ⊥) (λ _ no. false≢true no) (λ apart _. false≢true (sym apart ∙ same_key k j (sym is))) still

-- The marks of a group.

abbrev listed : ℕ → Bool → Bool → List (List ℕ) → List LogRecordValue
listed index a b ks = (if a then Clean ∷ [] else []) ++ ((if b then Compact index ∷ [] else []) ++ dels ks)

no_del : (deleted : List ℕ → Bool) (ks : List (List ℕ)) (x : LogRecordValue) → ((k : List ℕ) → ◌≡◌ {A = LogRecordValue} (Del k) x → ⊥) → AllOwed deleted ks → Among x (map kind (dels ks)) → ⊥
no_del deleted ks x none owed there = (let (k, same, is) = each_owed deleted ks x owed there in none k same)

module _ (deleted : List ℕ → Bool) (ks : List (List ℕ)) (owed : AllOwed deleted ks) (index : ℕ) where
  compact_apart : (b : Bool) → AreApart (map kind ((if b then Compact index ∷ [] else []) ++ dels ks))
  compact_apart true = (λ there. no_del deleted ks (Compact 0) (λ k same. (let never : ⊥ = cc in never)) owed there, dels_apart deleted ks owed)
  compact_apart false = dels_apart deleted ks owed

  no_clean : (b : Bool) → Among Clean (map kind ((if b then Compact index ∷ [] else []) ++ dels ks)) → ⊥
  no_clean true (inl same) = (let never : ⊥ = cc in never)
  no_clean true (inr there) = no_del deleted ks Clean (λ k same. (let never : ⊥ = cc in never)) owed there
  no_clean false there = no_del deleted ks Clean (λ k same. (let never : ⊥ = cc in never)) owed there

  listed_apart : (a b : Bool) → AreApart (map kind (listed index a b ks))
  listed_apart true b = (no_clean b, compact_apart b)
  listed_apart false b = compact_apart b

  module _ (zs : List LogRecordValue) (x : LogRecordValue) (del_said : (k : List ℕ) → deleted k ≡ true → Contains zs (Del k)) where
    del_known : Among x (map kind (dels ks)) → Among x (map kind zs)
    del_known there =
        let (k, same, is) = each_owed deleted ks x owed there in subst (λ (y : LogRecordValue). Among y (map kind zs)) same (among_map kind (Del k) zs (among zs (Del k) (del_said k is)))

    compact_known : (b : Bool) → (b ≡ true → (i : ℕ) × Contains zs (Compact i)) → Among x (map kind ((if b then Compact index ∷ [] else []) ++ dels ks)) → Among x (map kind zs)
    compact_known true said (inl same) = (let (i, there) = said refl in subst (λ (y : LogRecordValue). Among y (map kind zs)) same (among_map kind (Compact i) zs (among zs (Compact i) there)))
    compact_known true said (inr there) = del_known there
    compact_known false said there = del_known there

    listed_known : (a b : Bool) → (a ≡ true → Contains zs Clean) → (b ≡ true → (i : ℕ) × Contains zs (Compact i)) → Among x (map kind (listed index a b ks)) → Among x (map kind zs)
    listed_known true b clean compact (inl same) = subst (λ (y : LogRecordValue). Among y (map kind zs)) same (among_map kind Clean zs (among zs Clean (clean refl)))
    listed_known true b clean compact (inr there) = compact_known b compact there
    listed_known false b clean compact there = compact_known b compact there

-- Groups.

tagged_group : (g : ℕ) (x : LogRecordValue) (ys : List Tag) → Among (record { group = g; item = x }) (map tag_kind ys) → Among x (map kind (of_group g ys))
tagged_group g x [] never = absurd never
tagged_group g x (y ∷ ys) (inl same) =
    at_bool (y.group == g) (λ b. Among x (map kind (if b then y.item ∷ of_group g ys else of_group g ys))) (λ _. inl (ap (λ (t : Tag). t.item) same))
    (λ apart. absurd (false≢true (sym apart ∙ eq_true y.group g (ap (λ (t : Tag). t.group) same))))
tagged_group g x (y ∷ ys) (inr later) =
    let there = tagged_group g x ys later in
    at_bool (y.group == g) (λ b. Among x (map kind (if b then y.item ∷ of_group g ys else of_group g ys))) (λ _. inr there) (λ _. there)

group_tagged : (g : ℕ) (x : LogRecordValue) (ys : List Tag) → Among x (map kind (of_group g ys)) → Among (record { group = g; item = x }) (map tag_kind ys)
group_tagged g x [] never = absurd never
group_tagged g x (y ∷ ys) there =
    at_bool (y.group == g) (λ b. Among x (map kind (if b then y.item ∷ of_group g ys else of_group g ys)) → Among (record { group = g; item = x }) (map tag_kind (y ∷ ys)))
    (λ same. here (λ later. group_tagged g x ys later) (from_eq_true y.group g same)) (λ _ later. inr (group_tagged g x ys later)) there
  where
    here : (Among x (map kind (of_group g ys)) → Among (record { group = g; item = x }) (map tag_kind ys)) → y.group ≡ g → Among x (kind y.item ∷ map kind (of_group g ys))
        → Among (record { group = g; item = x }) (map tag_kind (y ∷ ys))
    here behind group (inl same) = inl (ap₂ (λ (n : ℕ) (i : LogRecordValue). record { group = n; item = i }) group same)
    here behind group (inr later) = inr (behind later)

apart_tagged : (xs : List Tag) → ((g : ℕ) → AreApart (map kind (of_group g xs))) → AreApart (map tag_kind xs)
apart_tagged [] apart = tt
apart_tagged (x ∷ xs) apart = (λ there. fresh there, apart_tagged xs others)
  where
    others : (g : ℕ) → AreApart (map kind (of_group g xs))
    others g = at_bool (x.group == g) (λ b. AreApart (map kind (if b then x.item ∷ of_group g xs else of_group g xs)) → AreApart (map kind (of_group g xs))) (λ _ both. both.1) (λ _ rest. rest) (apart g)

    own : AreApart (kind x.item ∷ map kind (of_group x.group xs))
    own = subst (λ (b : Bool). AreApart (map kind (if b then x.item ∷ of_group x.group xs else of_group x.group xs))) (eq_true x.group x.group refl) (apart x.group)

    fresh : Among (tag_kind x) (map tag_kind xs) → ⊥
    fresh there = own.0 (tagged_group x.group (kind x.item) xs there)

-- The record.

module _ (items : List LogItem) (v : ℕ → Shown) (b : Batch) (came : CameOf items v) (says : SaysMarks v b) where
  abbrev marked : List Tag
  marked = tagged_items (λ e. e) b.items

  abbrev known : List Tag
  known = tagged_items (λ e. e) items

  abbrev index_of : ℕ → ℕ
  index_of g = if nat_lt 0 (v g).rewritten then (v g).first else top

  group_apart : (g : ℕ) → AreApart (map kind (of_group g marked))
  group_apart g =
      let (ks, lists, is) = says.owed g in
      subst (λ (l : List LogRecordValue). AreApart (map kind l)) (sym is) (listed_apart (v g).deleted ks lists.owed (index_of g) (v g).cleaned (v g).compacted)

  group_known : (g : ℕ) (x : LogRecordValue) → Among x (map kind (of_group g marked)) → Among x (map kind (said_in items g))
  group_known g x there =
      let (ks, lists, is) = says.owed g in
      listed_known (v g).deleted ks lists.owed (index_of g) (said_in items g) x (came.deletions g) (v g).cleaned (v g).compacted (came.cleans g) (came.compacts g) (subst (λ (l : List LogRecordValue). Among x (map kind l)) is there)

  each_known : (t : Tag) → Among t (map tag_kind marked) → Among t (map tag_kind known)
  each_known t there = group_tagged t.group t.item known (group_known t.group t.item (tagged_group t.group t.item marked there))

  pub marks_within : batch_bound b ≤ record_bound items []
  marks_within =
      let few = sum_within tag_weight (map tag_kind marked) (map tag_kind known) (apart_tagged marked group_apart) each_known in
      let bare : batch_bound b ≡ record_bound b.items [] = ap (record_bound b.items) says.none in
      let whole = ap (sum_by tag_weight) (plain_tagged b.items says.plain) in
      omega (arith, few, bare, whole, bound_weighs b.items, bound_weighs items, tagged_weigh_less items, kinds_weigh marked, kinds_weigh known)

pub marks_take_no_more : MarksTakeNoMore
marks_take_no_more items v b came says = marks_within items v b came says

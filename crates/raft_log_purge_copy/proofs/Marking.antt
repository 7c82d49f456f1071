-- Why the batch of the marks that are owed isn't made: none of them is refused.
use Rattle.std.proofs.Common.{◌≡◌, ◌⊎◌, ℕ, ◌<◌, zero, suc, ◌==◌, Bool, true, false, if◌then◌else◌, nat_lt, length, get_or, Option, Some, None, List, [], ◌∷◌, ◌++◌, inl, inr, refl, sym, subst, arith}
use Rattle.raft_log_model_laws.specs.Item.{Item}
use Rattle.raft_log_model_laws.specs.Item.Item.{Run, Clean, Compact, Put, Del}
use Rattle.raft_log_model_laws.specs.Groups.{of_group}
use Rattle.raft_log_model_laws.proofs.Public.{at_bool, eq_true, if_true}
use Rattle.raft_log_record_base.specs.declared.errors.Error.{Error}
use Rattle.raft_log_record_base.specs.declared.errors.Error.TheVariants as errors
use Rattle.raft_log_record_items.specs.declared.entry.EntryIndex.{EntryIndex}
use Rattle.raft_log_record_items.specs.declared.op_type.OpType.{OpType}
use Rattle.raft_log_record_items.specs.declared.op_type.OpType.TheVariants as ops
use Rattle.raft_log_record_items.specs.declared.item.LogItem.{LogItem}
use Rattle.raft_log_record_items.specs.declared.item.LogItemContent.{LogItemContent}
use Rattle.raft_log_record_items.specs.declared.item.LogItemContent.TheVariants as contents
use Rattle.raft_log_record_items.specs.Writing.{value_of}
use Rattle.raft_log_machine_laws.specs.Whereabouts.{top}
use Rattle.raft_log_record_frames.specs.declared.marking.Marking.{Marking}
use Rattle.raft_log_record_frames.specs.declared.marking.Marking.TheVariants.{Unmarked, Part, Broken}
use Rattle.raft_log_record_frames.specs.declared.status.AtomicGroupStatus.{AtomicGroupStatus}
use Rattle.raft_log_record_frames.specs.Marking.{has_mark_key, joined_marking, mark_of, marking_of, marking_of_items, part_or_broken}
use Rattle.raft_log_record_frames.specs.Meaning.{key_meaning, meaning, tagged, tagged_items, unless_mark}
use Rattle.raft_log_memtable_index.specs.Bridge.{dels}
use Rattle.raft_log_memtables.specs.declared.mem_tables.MemTables.{MemTables}
use Rattle.raft_log_memtables.specs.Tables.{shown_of}
use Rattle.raft_log_memtables.specs.Owing.{AreOwed}
use Rattle.raft_log_purge_copy.specs.Owed.{AreNoMarks}
use Rattle.raft_log_purge_copy.specs.Refusals.{AreUnmarked, HasNoMark, IsNoDeletion, IsNoMark}

-- Items that are no part of an atomic group.

joined_none : (a b : Marking) → joined_marking a b ≡ Unmarked → (a ≡ Unmarked) × (b ≡ Unmarked)
joined_none Unmarked b is = (refl, is)
joined_none (Part id status) Unmarked is = absurd (let never : ⊥ = cc in never)
joined_none (Part id status) (Part k other) is = absurd (let never : ⊥ = cc in never)
joined_none (Part id status) Broken is = absurd (let never : ⊥ = cc in never)
joined_none Broken b is = absurd (let never : ⊥ = cc in never)

no_part : (o : Option (ℕ × AtomicGroupStatus)) → part_or_broken o ≡ Unmarked → ⊥
no_part None is = let never : ⊥ = cc in never
no_part (Some x) is = let never : ⊥ = cc in never

no_mark : (x : LogItem) → marking_of x ≡ Unmarked → has_mark_key x ≡ false
unfolding marking_of
no_mark x is =
    at_bool (has_mark_key x) (λ b. (if b then part_or_broken (mark_of x) else Unmarked) ≡ Unmarked → b ≡ false) (λ _ h. absurd (no_part (mark_of x) h)) (λ _ _. refl) is

no_marks : (xs : List LogItem) → marking_of_items xs ≡ Unmarked → AreNoMarks xs
no_marks [] is = tt
no_marks (x ∷ xs) is = (let both = joined_none (marking_of x) (marking_of_items xs) is in (no_mark x both.0, no_marks xs both.1))

-- What such an item says.

-- it says a value, or entries
abbrev SaysNone : Item EntryIndex (List ℕ) → Type 0
SaysNone (Run f es) = Unit {0}
SaysNone Clean = ⊥
SaysNone (Compact c) = ⊥
SaysNone (Put k w) = Unit {0}
SaysNone (Del k) = ⊥

-- one of these does
abbrev AnySaysNone : List (Item EntryIndex (List ℕ)) → Type 0
AnySaysNone [] = ⊥
AnySaysNone (x ∷ xs) = SaysNone x ⊎ AnySaysNone xs

key_says : (op : OpType) (key value : List ℕ) → IsNoDeletion op → SaysNone (key_meaning op key value)
key_says ops.Put key value none = tt
key_says ops.Del key value none = none

content_says : (c : LogItemContent) → IsNoMark c → SaysNone (meaning (λ e. e) c)
content_says (contents.EntryIndexes []) none = tt
content_says (contents.EntryIndexes (e ∷ es)) none = tt
content_says (contents.Command c) none = absurd none
content_says (contents.Kv kv) none = key_says kv.op_type kv.key (value_of kv) none

-- of its group
some_group_says : (xs : List LogItem) → AreNoMarks xs → HasNoMark xs → (g : ℕ) × AnySaysNone (of_group g (tagged_items (λ e. e) xs))
some_group_says [] plain none = absurd none
some_group_says (x ∷ xs) (plain, rest) (inl here) = (
  x.raft_group_id,
  subst (λ (b : Bool). AnySaysNone (of_group x.raft_group_id (unless_mark b (tagged (λ e. e) x) (tagged_items (λ e. e) xs)))) (sym plain)
      (subst AnySaysNone
      (sym (if_true (x.raft_group_id == x.raft_group_id) (meaning (λ e. e) x.content ∷ of_group x.raft_group_id (tagged_items (λ e. e) xs)) (of_group x.raft_group_id (tagged_items (λ e. e) xs)) (eq_true x.raft_group_id x.raft_group_id refl)))
      (inl (content_says x.content here))),
)
some_group_says (x ∷ xs) (plain, rest) (inr there) =
    let behind = some_group_says xs rest there in
    let g = behind.0 in (
      g,
      subst (λ (b : Bool). AnySaysNone (of_group g (unless_mark b (tagged (λ e. e) x) (tagged_items (λ e. e) xs)))) (sym plain)
          (at_bool (x.raft_group_id == g) (λ b. AnySaysNone (if b then meaning (λ e. e) x.content ∷ of_group g (tagged_items (λ e. e) xs) else of_group g (tagged_items (λ e. e) xs)))
          (λ _. inr behind.1) (λ _. behind.1)),
    )

-- The marks of a group.

none_deleted : (ks : List (List ℕ)) → AnySaysNone (dels ks) → ⊥
none_deleted [] none = none
none_deleted (k ∷ ks) (inl none) = none
none_deleted (k ∷ ks) (inr there) = none_deleted ks there

none_behind : (index : ℕ) (b : Bool) (ks : List (List ℕ)) → AnySaysNone ((if b then Compact index ∷ [] else []) ++ dels ks) → ⊥
none_behind index true ks (inl none) = none
none_behind index true ks (inr rest) = none_deleted ks rest
none_behind index false ks rest = none_deleted ks rest

none_listed : (index : ℕ) (a b : Bool) (ks : List (List ℕ)) → AnySaysNone ((if a then Clean ∷ [] else []) ++ ((if b then Compact index ∷ [] else []) ++ dels ks)) → ⊥
none_listed index true b ks (inl none) = none
none_listed index true b ks (inr rest) = none_behind index b ks rest
none_listed index false b ks rest = none_behind index b ks rest

none_owed : (m : MemTables) (items : List LogItem) → AreOwed m items → HasNoMark items → ⊥
none_owed m items owed none =
    let (g, says) = some_group_says items (no_marks items owed.plain) none in
    let v = shown_of m g in
    let (ks, lists, is) = owed.owed g in none_listed (if nat_lt 0 v.rewritten then v.first else top) v.cleaned v.compacted ks (subst AnySaysNone is says)

-- the batch isn't made for want of memory alone
pub marks_unmade : (m : MemTables) (items : List LogItem) (error : Error) → AreOwed m items → AreUnmarked items error → error ≡ errors.Memory
marks_unmade m items errors.Memory owed why = refl
marks_unmade m items (errors.InvalidArgument text) owed why = absurd (none_owed m items owed why)
marks_unmade m items _ owed why = absurd why

-- One item after another.

pub item_for_memory : (items : List LogItem) (error : Error) → error ≡ errors.Memory → AreUnmarked items error
item_for_memory items error is = subst (AreUnmarked items) (sym is) tt

no_mark_at : (items : List LogItem) (i : ℕ) (d : LogItem) → i < length items → IsNoMark (get_or items i d).content → HasNoMark items
no_mark_at [] i d lt none = absurd (omega (arith, lt))
no_mark_at (x ∷ xs) zero d lt none = inl none
no_mark_at (x ∷ xs) (suc i) d lt none = inr (no_mark_at xs i d (omega (arith, lt)) none)

one_of_none : (x : LogItem) → HasNoMark (x ∷ []) → IsNoMark x.content
one_of_none x (inl none) = none
one_of_none x (inr never) = absurd never

-- one of them isn't added
pub item_unmarked : (items : List LogItem) (i : ℕ) (d x : LogItem) (error : Error) → i < length items → x ≡ get_or items i d → AreUnmarked (x ∷ []) error → AreUnmarked items error
item_unmarked items i d x errors.Memory lt is why = tt
item_unmarked items i d x (errors.InvalidArgument text) lt is why = no_mark_at items i d lt (subst (λ (y : LogItem). IsNoMark y.content) is (one_of_none x why))
item_unmarked items i d x _ lt is why = absurd why

-- What a user adds to a batch is no mark.
use Rattle.std.proofs.Common.{◌≡◌, ℕ, Bool, true, false, List, [], ◌∷◌, ◌++◌, cond, refl, sym, ap, ◌∙◌}
use Rattle.std.specs.Prelude.{bytes_eq, ◌&&◌, ◌==◌}
use Rattle.std.specs.Cmp.Lexicographic.{same_text}
use Rattle.raft_log_record_items.specs.declared.op_type.OpType.{OpType}
use Rattle.raft_log_record_items.specs.declared.op_type.OpType.TheVariants as ops
use Rattle.raft_log_record_items.specs.declared.item.LogItemContent.{LogItemContent}
use Rattle.raft_log_record_items.specs.declared.item.LogItemContent.TheVariants as contents
use Rattle.raft_log_record_items.specs.declared.item.LogItem.{LogItem}
use Rattle.raft_log_record_frames.specs.declared.marking.Marking.{Marking}
use Rattle.raft_log_record_frames.specs.declared.marking.Marking.TheVariants.{Unmarked}
use Rattle.raft_log_record_frames.specs.Key.{is_internal}
use Rattle.raft_log_record_frames.specs.Marking.{content_has_mark_key, has_mark_key, joined_marking, mark_key, mark_of, marking_of, marking_of_items, part_or_broken, puts_mark_key}
use Rattle.raft_log_record_frames.specs.Meaning.{IsUsers}

pub false_unless : (b : Bool) → (b ≡ true → ⊥) → b ≡ false
false_unless true never = absurd (never refl)
false_unless false never = refl

own_key : (op : OpType) (key : List ℕ) → is_internal key ≡ false → puts_mark_key op key ≡ false
own_key ops.Del key own = refl
own_key ops.Put key own = false_unless (bytes_eq key mark_key) (λ e.
    let internal : is_internal key ≡ true = ap (λ (l : List ℕ). is_internal l) (same_text key mark_key (sym e)) in
    absurd cc)

no_key : (c : LogItemContent) → IsUsers c → content_has_mark_key c ≡ false
no_key (contents.EntryIndexes es) own = refl
no_key (contents.Command c) own = refl
no_key (contents.Kv kv) own = own_key kv.op_type kv.key own

and_false : (b : Bool) → (b && false) ≡ false
and_false true = refl
and_false false = refl

-- no item of a user has the key of marks
pub no_mark_key : (x : LogItem) → IsUsers x.content → has_mark_key x ≡ false
unfolding has_mark_key
no_mark_key x own = ap (λ (b : Bool). (x.raft_group_id == 0) && b) (no_key x.content own) ∙ and_false (x.raft_group_id == 0)

no_mark : (x : LogItem) → IsUsers x.content → marking_of x ≡ Unmarked
unfolding marking_of
no_mark x own = ap (λ (b : Bool). cond b (part_or_broken (mark_of x)) Unmarked) (no_mark_key x own)

-- a batch without a mark has none after one more item of a user
pub stays_plain : (xs : List LogItem) (x : LogItem) → IsUsers x.content → marking_of_items xs ≡ Unmarked → marking_of_items (xs ++ x ∷ []) ≡ Unmarked
stays_plain xs x own plain = kept xs ∙ plain
  where
    alone : (m : Marking) → m ≡ Unmarked → joined_marking m Unmarked ≡ Unmarked
    alone m is = ap (λ (n : Marking). joined_marking n Unmarked) is

    kept : (ys : List LogItem) → marking_of_items (ys ++ x ∷ []) ≡ marking_of_items ys
    kept [] = alone (marking_of x) (no_mark x own)
    kept (y ∷ ys) = ap (λ (m : Marking). joined_marking (marking_of y) m) (kept ys)

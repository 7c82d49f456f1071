-- What the items of a record take of its bound, by what they say.
use Rattle.std.proofs.Common.{◌≡◌, ◌≤◌, ◌+◌, ◌*◌, ◌∙◌, ℕ, Bool, List, [], ◌∷◌, length, length-append, map, refl, ap, arith}
use Rattle.std.specs.List.{sum_by}
use Rattle.std.proofs.lemmas.List.Sums.{sum_by-cons}
use Rattle.raft_log_model_laws.specs.Item.{Item, Tagged}
use Rattle.raft_log_model_laws.specs.Item.Item.{Run, Clean, Compact, Put, Del}
use Rattle.raft_log_model_laws.proofs.Public.{at_bool}
use Rattle.raft_log_record_items.specs.declared.command.Command.TheVariants as commands
use Rattle.raft_log_record_items.specs.declared.entry.EntryIndex.{EntryIndex}
use Rattle.raft_log_record_items.specs.declared.item.LogItem.{LogItem}
use Rattle.raft_log_record_items.specs.declared.item.LogItemContent.{LogItemContent}
use Rattle.raft_log_record_items.specs.declared.item.LogItemContent.TheVariants as contents
use Rattle.raft_log_record_items.specs.declared.op_type.OpType.{OpType}
use Rattle.raft_log_record_items.specs.declared.op_type.OpType.TheVariants as ops
use Rattle.raft_log_record_items.specs.Writing.{value_of}
use Rattle.raft_log_record_frames.specs.ItemBatch.{all_entries, content_entries}
use Rattle.raft_log_record_frames.specs.Marking.{has_mark_key}
use Rattle.raft_log_record_frames.specs.Meaning.{key_meaning, meaning, tagged, tagged_items, unless_mark}
use Rattle.raft_log_record_batches.specs.Bounds.{key_value_len, operation_len, record_bound}
use Rattle.raft_log_purge_copy.specs.Owed.{AreNoMarks}

abbrev pub Tag : Type 0
Tag = Tagged EntryIndex (List ℕ)

-- what an item takes
abbrev pub weight : Item EntryIndex (List ℕ) → ℕ
weight (Run first es) = 32 + 10 * length es
weight Clean = 32
weight (Compact index) = 32
weight (Put key value) = 32 + (length key + length value)
weight (Del key) = 32 + length key

abbrev pub tag_weight : Tag → ℕ
tag_weight x = weight x.item

-- One item.

same_length : (es : List EntryIndex) → length (map (λ (e : EntryIndex). e) es) ≡ length es
same_length [] = refl
same_length (e ∷ es) = omega (arith, same_length es)

key_weight : (op : OpType) (key value : List ℕ) → weight (key_meaning op key value) ≡ 32 + operation_len op key value
key_weight ops.Put key value = refl
key_weight ops.Del key value = refl

content_weight : (c : LogItemContent) → weight (meaning (λ e. e) c) ≡ 32 + 10 * length (content_entries c) + key_value_len c
content_weight (contents.EntryIndexes []) = refl
content_weight (contents.EntryIndexes (e ∷ es)) = omega (arith, same_length (e ∷ es))
content_weight (contents.Command commands.Clean) = refl
content_weight (contents.Command (commands.Compact index)) = refl
content_weight (contents.Kv kv) = omega (arith, key_weight kv.op_type kv.key (value_of kv))

-- All items.

pub bound_weighs : (items : List LogItem) → record_bound items [] ≡ 34 + sum_by tag_weight (map (tagged (λ e. e)) items)
bound_weighs [] = refl
bound_weighs (x ∷ xs) =
    omega (
      arith,
      content_weight x.content,
      length-append (content_entries x.content) (all_entries xs),
      sum_by-cons (λ (y : LogItem). key_value_len y.content) x xs,
      sum_by-cons tag_weight (tagged (λ e. e) x) (map (tagged (λ e. e)) xs),
      bound_weighs xs,
    )

-- without marks of atomic groups they weigh no more
pub tagged_weigh_less : (items : List LogItem) → sum_by tag_weight (tagged_items (λ e. e) items) ≤ sum_by tag_weight (map (tagged (λ e. e)) items)
tagged_weigh_less [] = omega arith
tagged_weigh_less (x ∷ xs) =
    let t : Tag = tagged (λ e. e) x in
    let some : List Tag = tagged_items (λ e. e) xs in
    let all : List Tag = map (tagged (λ e. e)) xs in
    at_bool (has_mark_key x) (λ b. sum_by tag_weight (unless_mark b t some) ≤ sum_by tag_weight (t ∷ all))
    (λ _. omega (arith, sum_by-cons tag_weight t all, tagged_weigh_less xs))
    (λ _. omega (arith, sum_by-cons tag_weight t some, sum_by-cons tag_weight t all, tagged_weigh_less xs))

-- there are none among these
pub plain_tagged : (items : List LogItem) → AreNoMarks items → ◌≡◌ {A = List Tag} (tagged_items (λ e. e) items) (map (tagged (λ e. e)) items)
plain_tagged [] plain = refl
plain_tagged (x ∷ xs) (plain, rest) =
    ap (λ (b : Bool). unless_mark b (tagged (λ e. e) x) (tagged_items (λ e. e) xs)) plain ∙ ap (λ (l : List Tag). tagged (λ e. e) x ∷ l) (plain_tagged xs rest)

-- The batch of the marks that are owed, mark by mark.
use Rattle.std.proofs.Common.{◌≡◌, ℕ, ◌+◌, ◌<◌, ◌==◌, ◌&&◌, Bool, true, false, if◌then◌else◌, length, take, get_or, List, [], ◌∷◌, ◌++◌, refl, sym, ap, ap₂, subst, ◌∙◌}
use Rattle.std.proofs.lemmas.List.{take_more}
use Rattle.raft_log_model_laws.specs.Item.{Tagged}
use Rattle.raft_log_model_laws.specs.Groups.{of_group}
use Rattle.raft_log_record_items.specs.declared.entry.EntryIndex.{EntryIndex}
use Rattle.raft_log_record_items.specs.declared.command.Command.{Command}
use Rattle.raft_log_record_items.specs.declared.op_type.OpType.{OpType}
use Rattle.raft_log_record_items.specs.declared.op_type.OpType.TheVariants as ops
use Rattle.raft_log_record_items.specs.declared.key_value.KeyValue.{KeyValue}
use Rattle.raft_log_record_items.specs.declared.item.LogItemContent.{LogItemContent}
use Rattle.raft_log_record_items.specs.declared.item.LogItemContent.TheVariants as contents
use Rattle.raft_log_record_items.specs.declared.item.LogItem.{LogItem}
use Rattle.raft_log_record_items.specs.Items.{del_item}
use Rattle.raft_log_record_frames.specs.declared.marking.Marking.{Marking}
use Rattle.raft_log_record_frames.specs.declared.marking.Marking.TheVariants.{Unmarked}
use Rattle.raft_log_record_frames.specs.Marking.{has_mark_key, joined_marking, mark_of, marking_of, marking_of_items, part_or_broken}
use Rattle.raft_log_record_frames.specs.Meaning.{tagged, tagged_items, unless_mark}
use Rattle.raft_log_record_batches.specs.declared.log_batch.BatchState.TheVariants.{Filling}
use Rattle.raft_log_record_frames.specs.ItemBatch.{command_item}
use Rattle.raft_log_record_batches.specs.Batch.{AddsItem, Batch}
use Rattle.raft_log_memtables.specs.declared.mem_tables.MemTables.{MemTables}
use Rattle.raft_log_memtables.specs.Tables.{shown_of}
use Rattle.raft_log_memtables.specs.Owing.{AreOwed, AreOwedAt}
use Rattle.raft_log_purge_copy.specs.Owed.{AddsSame, AreNoMarks, SaysMarks, SaysSame}

never : (b : Bool) → (b && false) ≡ false
never true = refl
never false = refl

-- commands and deletions are no marks of atomic groups
command_counts : (g : ℕ) (c : Command) → has_mark_key (command_item g c) ≡ false
unfolding has_mark_key
command_counts g c = never (g == 0)

delete_counts : (g : ℕ) (k : List ℕ) → has_mark_key (del_item g k) ≡ false
unfolding has_mark_key
delete_counts g k = never (g == 0)

pair_counts : (g : ℕ) (op : OpType) (key : List ℕ) (pair : KeyValue) → op ≡ ops.Del → pair.op_type ≡ op → has_mark_key (record { raft_group_id = g; content = contents.Kv pair }) ≡ false
unfolding has_mark_key
pair_counts g op key pair is same = pair_none (pair.op_type) (same ∙ is)
  where
    pair_none : (o : OpType) → o ≡ ops.Del → has_mark_key (record { raft_group_id = g; content = contents.Kv (record pair { op_type = o }) }) ≡ false
    pair_none o h = subst (λ (x : OpType). has_mark_key (record { raft_group_id = g; content = contents.Kv (record pair { op_type = x }) }) ≡ false) (sym h) (never (g == 0))

-- a command is added
pub command_added : (old new : Batch) (x : LogItem) (c : Command) → old.state ≡ Filling → x.content ≡ contents.Command c → AddsItem old new (command_item x.raft_group_id c) → AddsSame old new x
command_added old new x c state is adds =
    let same : x ≡ command_item x.raft_group_id c = ap (λ (k : LogItemContent). record { raft_group_id = x.raft_group_id; content = k }) is in record {
      added = command_item x.raft_group_id c;
      items = ap (λ (b : Batch). b.items) adds.0;
      entries = ap (λ (b : Batch). b.entries) adds.0;
      state = ap (λ (b : Batch). b.state) adds.0 ∙ state;
      plain = command_counts x.raft_group_id c;
      none = subst (λ (y : LogItem). has_mark_key y ≡ false) (sym same) (command_counts x.raft_group_id c);
      same = ap (λ (y : LogItem). tagged {E = EntryIndex} (λ e. e) y) (sym same);
    }

-- a deletion is added
pub delete_added : (old new : Batch) (x : LogItem) (pair : KeyValue) → old.state ≡ Filling → x.content ≡ contents.Kv pair → pair.op_type ≡ ops.Del → AddsItem old new (del_item x.raft_group_id pair.key) → AddsSame old new x
delete_added old new x pair state is del adds =
    let whole : pair ≡ record pair { op_type = ops.Del } = ap (λ (o : OpType). record pair { op_type = o }) del in
    let same : x ≡ record { raft_group_id = x.raft_group_id; content = contents.Kv (record pair { op_type = ops.Del }) } =
    ap (λ (k : LogItemContent). record { raft_group_id = x.raft_group_id; content = k }) (is ∙ ap contents.Kv whole) in record {
      added = del_item x.raft_group_id pair.key;
      items = ap (λ (b : Batch). b.items) adds.0;
      entries = ap (λ (b : Batch). b.entries) adds.0;
      state = ap (λ (b : Batch). b.state) adds.0 ∙ state;
      plain = delete_counts x.raft_group_id pair.key;
      none = subst (λ (y : LogItem). has_mark_key y ≡ false) (sym same) (pair_counts x.raft_group_id ops.Del pair.key (record pair { op_type = ops.Del }) refl refl);
      same = ap (λ (y : LogItem). tagged {E = EntryIndex} (λ e. e) y) (sym same);
    }

-- Items one after another.

unless_push : {X : Type 0} (b : Bool) (t : X) (xs ys : List X) → unless_mark b t (xs ++ ys) ≡ unless_mark b t xs ++ ys
unless_push true t xs ys = refl
unless_push false t xs ys = refl

tagged_push : (xs : List LogItem) (x : LogItem) → has_mark_key x ≡ false → tagged_items {E = EntryIndex} (λ e. e) (xs ++ x ∷ []) ≡ tagged_items (λ e. e) xs ++ tagged (λ e. e) x ∷ []
tagged_push [] x none = ap (λ b. unless_mark b (tagged {E = EntryIndex} (λ e. e) x) []) none
tagged_push (y ∷ ys) x none =
    ap (λ (l : List (Tagged EntryIndex (List ℕ))). unless_mark (has_mark_key y) (tagged (λ e. e) y) l) (tagged_push ys x none)
    ∙ unless_push (has_mark_key y) (tagged (λ e. e) y) (tagged_items (λ e. e) ys) (tagged (λ e. e) x ∷ [])

no_marks_push : (xs : List LogItem) (x : LogItem) → AreNoMarks xs → has_mark_key x ≡ false → AreNoMarks (xs ++ x ∷ [])
no_marks_push [] x all none = (none, tt)
no_marks_push (y ∷ ys) x all none = (all.0, no_marks_push ys x all.1 none)

unmarked_item : (x : LogItem) → has_mark_key x ≡ false → marking_of x ≡ Unmarked
unfolding marking_of
unmarked_item x h = ap (λ (b : Bool). if b then part_or_broken (mark_of x) else Unmarked) h

-- items that are no marks make no part of an atomic group
pub plain_items : (xs : List LogItem) → AreNoMarks xs → marking_of_items xs ≡ Unmarked
plain_items [] all = refl
plain_items (x ∷ xs) all = ap (λ (m : Marking). joined_marking m (marking_of_items xs)) (unmarked_item x all.0) ∙ plain_items xs all.1

-- one mark more
pub same_more : (items : List LogItem) (i : ℕ) (d x : LogItem) (old new : Batch) → i < length items → x ≡ get_or items i d → SaysSame (take i items) old → AddsSame old new x → SaysSame (take (i + 1) items) new
same_more items i d x old new lt is so_far adds = record {
  state = adds.state;
  plain = subst AreNoMarks (sym adds.items) (no_marks_push old.items adds.added so_far.plain adds.plain);
  said =
      ap (tagged_items {E = EntryIndex} (λ e. e)) adds.items
      ∙ tagged_push old.items adds.added adds.plain
      ∙ ap₂ (λ (l : List (Tagged EntryIndex (List ℕ))) (t : Tagged EntryIndex (List ℕ)). l ++ t ∷ []) so_far.said adds.same
      ∙ sym (tagged_push (take i items) x adds.none)
      ∙ ap (tagged_items {E = EntryIndex} (λ e. e)) (sym (take_more items i d lt ∙ ap (λ (y : LogItem). take i items ++ y ∷ []) (sym is)));
}

pub same_none : (b : Batch) → b.state ≡ Filling → b.items ≡ [] → SaysSame [] b
same_none b state none = record { state = state; plain = subst AreNoMarks (sym none) tt; said = ap (tagged_items {E = EntryIndex} (λ e. e)) none }

-- what says the marks that the tables owe
pub says_marks : (m : MemTables) (items : List LogItem) (b : Batch) → AreOwed m items → SaysSame items b → b.entries ≡ [] → SaysMarks (shown_of m) b
says_marks m items b owed same none = record {
  state = same.state;
  none = none;
  plain = same.plain;
  owed = λ g. subst (λ l. AreOwedAt (shown_of m g) (of_group g l)) (sym same.said) (owed.owed g);
}

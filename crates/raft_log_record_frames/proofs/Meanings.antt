-- What a batch means once a mark is added, and once it is written and read.
use Rattle.std.proofs.lemmas.List.{take_more}
use Rattle.std.proofs.Common.{◌<◌, ◌+◌, length, take, get_or, ◌≡◌, ℕ, suc, arith, cond, eqb, List, [], ◌∷◌, ◌++◌, map, Option, Some, None, refl, sym, ap, ◌∙◌}
use Rattle.std.specs.Prelude.{option_and_then, unwrap_or, bytes_eq, Bool, true, false, ◌&&◌, ◌==◌, All}
use Rattle.std.specs.Cmp.Lexicographic.{same_text}
use Rattle.raft_log_model_laws.specs.Item.{Item, Tagged}
use Rattle.raft_log_model_laws.specs.Item.Item.{Run}
use Rattle.raft_log_model_laws.specs.Item.Record.{Plain}
use Rattle.raft_log_record_items.specs.declared.entry.EntryIndex.{EntryIndex}
use Rattle.raft_log_record_items.specs.declared.op_type.OpType.{OpType}
use Rattle.raft_log_record_items.specs.declared.op_type.OpType.TheVariants as ops
use Rattle.raft_log_record_items.specs.declared.command.Command.TheVariants as commands
use Rattle.raft_log_record_items.specs.declared.item.LogItemContent.{LogItemContent}
use Rattle.raft_log_record_items.specs.declared.item.LogItemContent.TheVariants as contents
use Rattle.raft_log_record_items.specs.declared.item.LogItem.{LogItem}
use Rattle.raft_log_record_items.specs.Run.{unplaced}
use Rattle.raft_log_record_items.specs.Writing.{plain_operation, plain_content, plain_item}
use Rattle.raft_log_record_frames.specs.declared.status.AtomicGroupStatus.{AtomicGroupStatus}
use Rattle.raft_log_record_frames.specs.Marking.{IsMark, mark_key, mark_in, mark_of_value, mark_of_content, mark_of, mark_item, puts_mark_key, content_has_mark_key, has_mark_key, part_or_broken, marking_of, joined_marking, marking_of_items}
use Rattle.raft_log_record_frames.specs.declared.marking.Marking.{Marking}
use Rattle.raft_log_record_frames.specs.declared.marking.Marking.TheVariants.{Unmarked, Part, Broken}
use Rattle.raft_log_record_frames.specs.Key.{is_internal}
use Rattle.raft_log_record_frames.specs.Meaning.{meaning, tagged, unless_mark, tagged_items, marked, record_of, BecomesPart, key_meaning, IsUsers}
use Rattle.raft_log_record_frames.proofs.Marks.{mark_has_key, tells_mark}

-- ---- a mark behind items without one

joined_unmarked : (m : Marking) → joined_marking m Unmarked ≡ m
joined_unmarked Unmarked = refl
joined_unmarked (Part id status) = refl
joined_unmarked Broken = refl

joined_assoc : (a b c : Marking) → joined_marking (joined_marking a b) c ≡ joined_marking a (joined_marking b c)
joined_assoc Unmarked b c = refl
joined_assoc (Part i s) Unmarked c = refl
joined_assoc (Part i s) (Part j t) Unmarked = refl
joined_assoc (Part i s) (Part j t) (Part k u) = refl
joined_assoc (Part i s) (Part j t) Broken = refl
joined_assoc (Part i s) Broken c = refl
joined_assoc Broken b c = refl

-- what items say together with one more
marking_of_items-push : (xs : List LogItem) (x : LogItem) → marking_of_items (xs ++ x ∷ []) ≡ joined_marking (marking_of_items xs) (marking_of x)
marking_of_items-push [] x = joined_unmarked (marking_of x)
marking_of_items-push (y ∷ ys) x = ap (λ (m : Marking). joined_marking (marking_of y) m) (marking_of_items-push ys x) ∙ sym (joined_assoc (marking_of y) (marking_of_items ys) (marking_of x))

pub marking_more : (xs : List LogItem) (i : ℕ) (d x : LogItem) (m : Marking) → i < length xs → x ≡ get_or xs i d → m ≡ marking_of_items (take i xs) → joined_marking m (marking_of x) ≡ marking_of_items (take (i + 1) xs)
marking_more xs i d x m lt is h =
    sym (ap (λ (l : List LogItem). marking_of_items l) (take_more xs i d lt ∙ ap (λ (y : LogItem). take i xs ++ y ∷ []) (sym is)) ∙ marking_of_items-push (take i xs) x
    ∙ ap (λ (n : Marking). joined_marking n (marking_of x)) (sym h))

none_first : (m n : Marking) → joined_marking m n ≡ Unmarked → m ≡ Unmarked
none_first Unmarked n e = refl
none_first (Part id status) Unmarked e = absurd cc
none_first (Part id status) (Part id' status') e = absurd cc
none_first (Part id status) Broken e = absurd cc
none_first Broken n e = absurd cc

none_later : (m n : Marking) → joined_marking m n ≡ Unmarked → n ≡ Unmarked
none_later Unmarked n e = e
none_later (Part id status) Unmarked e = refl
none_later (Part id status) (Part id' status') e = absurd cc
none_later (Part id status) Broken e = absurd cc
none_later Broken n e = absurd cc

last_marking : (xs : List LogItem) (x : LogItem) → marking_of_items xs ≡ Unmarked → marking_of_items (xs ++ x ∷ []) ≡ marking_of x
last_marking [] x e = joined_unmarked (marking_of x)
last_marking (y ∷ ys) x e =
    ap (λ (m : Marking). joined_marking m (marking_of_items (ys ++ x ∷ []))) (none_first (marking_of y) (marking_of_items ys) e)
    ∙ last_marking ys x (none_later (marking_of y) (marking_of_items ys) e)

says_no_more : {E : Type 0} (entry : EntryIndex → E) (xs : List LogItem) (x : LogItem) → has_mark_key x ≡ true → tagged_items entry (xs ++ x ∷ []) ≡ tagged_items entry xs
says_no_more {E = E} entry [] x e = ap (λ (b : Bool). unless_mark b (tagged entry x) []) e
says_no_more {E = E} entry (y ∷ ys) x e = ap (λ (l : List (Tagged E (List ℕ))). unless_mark (has_mark_key y) (tagged entry y) l) (says_no_more entry ys x e)

-- items without a mark become a part of a group by the mark that is added
pub becomes_part : (xs : List LogItem) (id : ℕ) (status : AtomicGroupStatus) → IsMark (mark_item id status) id status → marking_of_items xs ≡ Unmarked → BecomesPart xs (xs ++ mark_item id status ∷ []) id status
becomes_part xs id status h none =
    let entry : EntryIndex → EntryIndex = λ x. x in
    let said = tagged_items entry (xs ++ mark_item id status ∷ []) in
    ap (λ (m : Marking). marked m said) (last_marking xs (mark_item id status) none ∙ (tells_mark (mark_item id status) id status).1 h)
    ∙ ap (λ (l : List (Tagged EntryIndex (List ℕ))). marked (Part id status) l) (says_no_more entry xs (mark_item id status) (mark_has_key (mark_item id status) id status h))

-- ---- written and read

lengths_again : (es : List EntryIndex) → map (λ (e : EntryIndex). e.entry_len) (map unplaced es) ≡ map (λ (e : EntryIndex). e.entry_len) es
lengths_again [] = refl
lengths_again (e ∷ es) = ap (λ (l : List ℕ). e.entry_len ∷ l) (lengths_again es)

put_again : (op : OpType) (key value : List ℕ) → meaning (λ (e : EntryIndex). e.entry_len) (contents.Kv (plain_operation op key value)) ≡ key_meaning op key value
put_again ops.Put key value = refl
put_again ops.Del key value = refl

meaning_again : (c : LogItemContent) → meaning (λ (e : EntryIndex). e.entry_len) (plain_content c) ≡ meaning (λ (e : EntryIndex). e.entry_len) c
meaning_again (contents.EntryIndexes []) = refl
meaning_again (contents.EntryIndexes (e ∷ es)) = ap (λ (l : List ℕ). Run e.index l) (lengths_again (e ∷ es))
meaning_again (contents.Command commands.Clean) = refl
meaning_again (contents.Command (commands.Compact index)) = refl
meaning_again (contents.Kv kv) = put_again kv.op_type kv.key (unwrap_or kv.value [])

empty_value : mark_in [] ≡ None
unfolding mark_in
empty_value = refl

pub value_again : (value : Option (List ℕ)) → option_and_then mark_in (Some (unwrap_or value [])) ≡ option_and_then mark_in value
value_again None = empty_value
value_again (Some v) = refl

mark_of_put_again : (op : OpType) (key : List ℕ) (value : Option (List ℕ)) → mark_of_content (contents.Kv (plain_operation op key (unwrap_or value []))) ≡ mark_of_value op key value
mark_of_put_again ops.Put key value = ap (λ (o : Option (ℕ × AtomicGroupStatus)). cond (bytes_eq key mark_key) o None) (value_again value)
mark_of_put_again ops.Del key value = refl

mark_of_content_again : (c : LogItemContent) → mark_of_content (plain_content c) ≡ mark_of_content c
mark_of_content_again (contents.EntryIndexes es) = refl
mark_of_content_again (contents.Command c) = refl
mark_of_content_again (contents.Kv kv) = mark_of_put_again kv.op_type kv.key kv.value

mark_again : (x : LogItem) → mark_of (plain_item x) ≡ mark_of x
unfolding mark_of
mark_again x = ap (λ (o : Option (ℕ × AtomicGroupStatus)). cond (eqb x.raft_group_id 0) o None) (mark_of_content_again x.content)

key_again_put : (op : OpType) (key value : List ℕ) → content_has_mark_key (contents.Kv (plain_operation op key value)) ≡ puts_mark_key op key
key_again_put ops.Put key value = refl
key_again_put ops.Del key value = refl

key_again_content : (c : LogItemContent) → content_has_mark_key (plain_content c) ≡ content_has_mark_key c
key_again_content (contents.EntryIndexes es) = refl
key_again_content (contents.Command c) = refl
key_again_content (contents.Kv kv) = key_again_put kv.op_type kv.key (unwrap_or kv.value [])

key_again : (x : LogItem) → has_mark_key (plain_item x) ≡ has_mark_key x
unfolding has_mark_key
key_again x = ap (λ (b : Bool). (x.raft_group_id == 0) && b) (key_again_content x.content)

marking_again : (x : LogItem) → marking_of (plain_item x) ≡ marking_of x
unfolding marking_of
marking_again x =
    ap (λ (b : Bool). cond b (part_or_broken (mark_of (plain_item x))) Unmarked) (key_again x)
    ∙ ap (λ (o : Option (ℕ × AtomicGroupStatus)). cond (has_mark_key x) (part_or_broken o) Unmarked) (mark_again x)

markings_again : (xs : List LogItem) → marking_of_items (map plain_item xs) ≡ marking_of_items xs
markings_again [] = refl
markings_again (x ∷ xs) = ap (λ (m : Marking). joined_marking m (marking_of_items (map plain_item xs))) (marking_again x) ∙ ap (λ (m : Marking). joined_marking (marking_of x) m) (markings_again xs)

tagged_again : (xs : List LogItem) → tagged_items (λ (e : EntryIndex). e.entry_len) (map plain_item xs) ≡ tagged_items (λ (e : EntryIndex). e.entry_len) xs
tagged_again [] = refl
tagged_again (x ∷ xs) =
    let len : EntryIndex → ℕ = λ e. e.entry_len in
    ap (λ (b : Bool). unless_mark b (tagged len (plain_item x)) (tagged_items len (map plain_item xs))) (key_again x)
    ∙ ap (λ (i : Item ℕ (List ℕ)). unless_mark (has_mark_key x) (record { group = x.raft_group_id; item = i }) (tagged_items len (map plain_item xs))) (meaning_again x.content)
    ∙ ap (λ (l : List (Tagged ℕ (List ℕ))). unless_mark (has_mark_key x) (tagged len x) l) (tagged_again xs)

pub read_means_written : (items : List LogItem) → record_of (λ e. e.entry_len) (map plain_item items) ≡ record_of (λ e. e.entry_len) items
read_means_written items =
    let len : EntryIndex → ℕ = λ e. e.entry_len in
    ap (λ (m : Marking). marked m (tagged_items len (map plain_item items))) (markings_again items)
    ∙ ap (λ (l : List (Tagged ℕ (List ℕ))). marked (marking_of_items items) l) (tagged_again items)

-- ---- what users add

own_key : (op : OpType) (key : List ℕ) → is_internal key ≡ false → puts_mark_key op key ≡ false
own_key ops.Del key h = refl
own_key ops.Put key h = false_unless (bytes_eq key mark_key) (λ e.
    let own : is_internal key ≡ true = ap (λ (l : List ℕ). is_internal l) (same_text key mark_key (sym e)) in
    absurd cc)
  where
    false_unless : (b : Bool) → (b ≡ true → ⊥) → b ≡ false
    false_unless true h = absurd (h refl)
    false_unless false h = refl

no_key : (c : LogItemContent) → IsUsers c → content_has_mark_key c ≡ false
no_key (contents.EntryIndexes es) h = refl
no_key (contents.Command c) h = refl
no_key (contents.Kv kv) h = own_key kv.op_type kv.key h

and_false : (b : Bool) → (b && false) ≡ false
and_false true = refl
and_false false = refl

pub no_mark_key : (x : LogItem) → IsUsers x.content → has_mark_key x ≡ false
unfolding has_mark_key
no_mark_key x h = ap (λ (b : Bool). (x.raft_group_id == 0) && b) (no_key x.content h) ∙ and_false (x.raft_group_id == 0)

no_mark : (x : LogItem) → IsUsers x.content → marking_of x ≡ Unmarked
unfolding marking_of
no_mark x h = ap (λ (b : Bool). cond b (part_or_broken (mark_of x)) Unmarked) (no_mark_key x h)

joined_later : (m n k : Marking) → n ≡ k → joined_marking m n ≡ joined_marking m k
joined_later m n k e = ap (λ (x : Marking). joined_marking m x) e

pub keeps_mark : (items : List LogItem) (item : LogItem) → IsUsers item.content → marking_of_items (items ++ item ∷ []) ≡ marking_of_items items
keeps_mark [] item h = joined_unmarked (marking_of item) ∙ no_mark item h
keeps_mark (y ∷ ys) item h = joined_later (marking_of y) (marking_of_items (ys ++ item ∷ [])) (marking_of_items ys) (keeps_mark ys item h)

-- the first of them, and the others
first_of : (x : LogItem) (xs : List LogItem) → All (λ y. IsUsers y.content) (x ∷ xs) → IsUsers x.content
first_of x xs h = h 0 x (omega arith)

others : (x : LogItem) (xs : List LogItem) → All (λ y. IsUsers y.content) (x ∷ xs) → All (λ y. IsUsers y.content) xs
others x xs h = λ k d lt. h (suc k) d (omega arith)

no_marks : (xs : List LogItem) → All (λ x. IsUsers x.content) xs → marking_of_items xs ≡ Unmarked
no_marks [] h = refl
no_marks (x ∷ xs) h = ap (λ (m : Marking). joined_marking m (marking_of_items xs)) (no_mark x (first_of x xs h)) ∙ no_marks xs (others x xs h)

all_said : (xs : List LogItem) → All (λ x. IsUsers x.content) xs → tagged_items (λ (e : EntryIndex). e) xs ≡ map (tagged (λ e. e)) xs
all_said [] h = refl
all_said (x ∷ xs) h =
    let entry : EntryIndex → EntryIndex = λ e. e in
    ap (λ (b : Bool). unless_mark b (tagged entry x) (tagged_items entry xs)) (no_mark_key x (first_of x xs h))
    ∙ ap (λ (l : List (Tagged EntryIndex (List ℕ))). tagged entry x ∷ l) (all_said xs (others x xs h))

pub user_batches_are_plain : (items : List LogItem) → All (λ x. IsUsers x.content) items → record_of (λ e. e) items ≡ Some (Plain (map (tagged (λ e. e)) items))
user_batches_are_plain items h =
    let entry : EntryIndex → EntryIndex = λ e. e in
    ap (λ (m : Marking). marked m (tagged_items entry items)) (no_marks items h)
    ∙ ap (λ (l : List (Tagged EntryIndex (List ℕ))). marked Unmarked l) (all_said items h)

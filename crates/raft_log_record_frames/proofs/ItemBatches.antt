-- Lists of items, their entries, and their footers.
use Rattle.std.proofs.Common.{◌≡◌, ℕ, suc, ◌+◌, ◌<◌, List, [], ◌∷◌, ◌++◌, length, take, drop, get_or, slice_get, map, Some, None, Ok, Err, Result, inl, inr, arith, refl, sym, ap, ◌∙◌}
use Rattle.std.specs.Result.{is_ok, OnOk}
use Rattle.std.proofs.Math.Seq.{drop-cons}
use Rattle.std.proofs.lemmas.List.{take-append-drop}
use Rattle.std.proofs.lemmas.Grind.{flat_map-append}
use Rattle.raft_log_record_items.specs.declared.entry.EntryIndex.{EntryIndex}
use Rattle.raft_log_record_items.specs.declared.item.LogItemContent.{LogItemContent}
use Rattle.raft_log_record_items.specs.declared.item.LogItemContent.TheVariants as contents
use Rattle.raft_log_record_items.specs.declared.item.LogItem.{LogItem}
use Rattle.raft_log_record_items.specs.Placed.{placed}
use Rattle.raft_log_record_items.specs.Writing.{plain_item}
use Rattle.raft_log_record_frames.specs.Record.{AddsUp}
use Rattle.raft_log_record_frames.specs.Made.{IsPlainFooter}
use Rattle.raft_log_record_frames.proofs.Written.{plain_len}
use Rattle.raft_log_record_frames.proofs.Footers.{placed_footer_is_read}
use Rattle.raft_log_record_frames.specs.ItemBatch.{content_entries, all_entries, AreRead}

-- a list is what stands in front of a place, what stands there, and what stands behind it
pub split_at : {A : Type 0} (xs : List A) (i : ℕ) (x : A) → i < length xs → x ≡ get_or xs i x → xs ≡ take i xs ++ x ∷ drop (suc i) xs
split_at {A = A} xs i x lt here =
    sym (take-append-drop i xs) ∙ ap (λ (l : List A). take i xs ++ l) (drop-cons xs i x lt) ∙ ap (λ (y : A). take i xs ++ y ∷ drop (suc i) xs) (sym here)

first_at_front : (es rest : List EntryIndex) (e : EntryIndex) → Some e ≡ slice_get es 0 → slice_get (es ++ rest) 0 ≡ Some e
first_at_front [] rest e h = absurd cc
first_at_front (x ∷ xs) rest e h = sym h

-- the first entry after items without entries is the first of all
pub first_of_all : (items : List LogItem) (i : ℕ) (x : LogItem) (es : List EntryIndex) (e : EntryIndex) → i < length items → x ≡ get_or items i x → x.content ≡ contents.EntryIndexes es
    → all_entries (take i items) ≡ [] → Some e ≡ slice_get es 0 → Some e ≡ slice_get (all_entries items) 0
first_of_all items i x es e lt here content none first =
    let more : List EntryIndex = all_entries (drop (suc i) items) in
    let whole : all_entries items ≡ es ++ more =
    ap (λ (l : List LogItem). all_entries l) (split_at items i x lt here)
    ∙ flat_map-append (λ (y : LogItem). content_entries y.content) (take i items) (x ∷ drop (suc i) items)
    ∙ ap (λ (l : List EntryIndex). l ++ (content_entries x.content ++ more)) none
    ∙ ap (λ (c : LogItemContent). content_entries c ++ more) content in
    sym (ap (λ (l : List EntryIndex). slice_get l 0) whole ∙ first_at_front es more e first)

-- a footer of items without their places is read as these, whichever block their entries fill
pub footers_are_read : (bytes : List ℕ) (items : List LogItem) → IsPlainFooter bytes items → AreRead bytes items
footers_are_read bytes items footer = λ block adds.
    let plain : List LogItem = map plain_item items in
    let sum : AddsUp plain block.len = (
      omega (arith, adds.0, plain_len items),
      elim adds.1 [
        | inl a ↦ inl (a.0, plain_len items ∙ a.1)
        | inr b ↦ inr (b ∙ ap (λ (n : ℕ). n + 4) (sym (plain_len items)))
      ],
    ) in
    (placed_footer_is_read None block bytes (placed block plain)).1 (plain, (footer, sum), refl)

-- what is said of an answer is said of one that is an answer exactly if it is
pub on_answer : {A B E P Q : Type 0} (r : Result A E) (mapped done : Result B E) → done ≡ mapped → is_ok mapped ≡ is_ok r → OnOk r P → (P → Q) → OnOk done Q
on_answer (Ok x) mapped (Ok y) e same h f = f h
on_answer r mapped (Err y) e same h f = tt
on_answer (Err x) mapped (Ok y) e same h f = absurd (let k = ap is_ok e ∙ same in cc)

-- Items one after another.
use Rattle.std.proofs.Common.{◌≡◌, ℕ, zero, suc, ◌+◌, ◌<◌, List, [], ◌∷◌, ◌++◌, length, take, drop, map, flat_map, get_or, refl, sym, ap, ◌∙◌, append_assoc, add-one}
use Rattle.std.proofs.Math.Seq.{take-append_seam}
use Rattle.std.proofs.lemmas.List.{append-nil, map-append, take_more, take-append-drop}
use Rattle.std.proofs.lemmas.Grind.{flat_map-append}
use Rattle.raft_log_record_base.specs.Grammar.{Times}
use Rattle.raft_log_record_items.specs.declared.item.LogItem.{LogItem}
use Rattle.raft_log_record_items.specs.Items.{IsItem}
use Rattle.raft_log_record_items.specs.Writing.{item_bytes, plain_item, KeepsFront}

-- what stands in front of more bytes is still there when these are
pub keeps_more : (old more new : List ℕ) → KeepsFront (old ++ more) new → KeepsFront old new
keeps_more old more new h =
    let rest : List ℕ = drop (length (old ++ more)) new in
    let whole : new ≡ old ++ (more ++ rest) = sym (take-append-drop (length (old ++ more)) new) ∙ ap (λ (l : List ℕ). l ++ rest) h ∙ append_assoc old more rest in
    ap (λ (l : List ℕ). take (length old) l) whole ∙ take-append_seam old (more ++ rest)

-- one spelling more at the end
pub times_push : {A : Type 0} (P : List ℕ → A → Type 0) (n : ℕ) (a : List ℕ) (xs : List A) (b : List ℕ) (x : A) → Times P n a xs → P b x → Times P (suc n) (a ++ b) (xs ++ x ∷ [])
unfolding Times
times_push P zero a xs b x h p = rw (h.0, h.1) (x, b, [], p, ([], [], [], (refl, refl), (refl, refl), refl), sym (append-nil b))
times_push P (suc n) a xs b x h p =
    let inner = h.4 in
    let more = times_push P n inner.1 inner.0 b x inner.3 p in
    let bytes : a ≡ h.1 ++ inner.1 = h.5 ∙ ap (λ (l : List ℕ). h.1 ++ l) (inner.5 ∙ ap (λ (l : List ℕ). inner.1 ++ l) inner.4.0 ∙ append-nil inner.1) in
    (h.0, h.1, inner.1 ++ b, h.3, (inner.0 ++ x ∷ [], inner.1 ++ b, [], more, (refl, ap (λ (l : List _). l ++ x ∷ []) inner.4.1), sym (append-nil _)), ap (λ (l : List ℕ). l ++ b) bytes ∙ append_assoc h.1 inner.1 b)

one_more : (items : List LogItem) (i : ℕ) (x : LogItem) → i < length items → x ≡ get_or items i x → take (i + 1) items ≡ take i items ++ x ∷ []
one_more items i x lt is = take_more items i x lt ∙ ap (λ (y : LogItem). take i items ++ y ∷ []) (sym is)

pub each_more : (old : List ℕ) (items : List LogItem) (i : ℕ) (x : LogItem) (before after : List ℕ) → i < length items → x ≡ get_or items i x
    → before ≡ old ++ flat_map item_bytes (take i items) → after ≡ before ++ item_bytes x → after ≡ old ++ flat_map item_bytes (take (i + 1) items)
each_more old items i x before after lt is h e =
    let so_far : List ℕ = flat_map item_bytes (take i items) in
    let more : flat_map item_bytes (take (i + 1) items) ≡ so_far ++ item_bytes x =
    ap (λ (l : List LogItem). flat_map item_bytes l) (one_more items i x lt is) ∙ flat_map-append item_bytes (take i items) (x ∷ []) ∙ ap (λ (l : List ℕ). so_far ++ l) (append-nil (item_bytes x)) in
    e ∙ ap (λ (l : List ℕ). l ++ item_bytes x) h ∙ append_assoc old so_far (item_bytes x) ∙ ap (λ (l : List ℕ). old ++ l) (sym more)

pub each_spelled : (items : List LogItem) (i : ℕ) (x : LogItem) → i < length items → x ≡ get_or items i x
    → Times IsItem i (flat_map item_bytes (take i items)) (map plain_item (take i items)) → IsItem (item_bytes x) (plain_item x)
    → Times IsItem (i + 1) (flat_map item_bytes (take (i + 1) items)) (map plain_item (take (i + 1) items))
each_spelled items i x lt is h p =
    let so_far : List ℕ = flat_map item_bytes (take i items) in
    let more : flat_map item_bytes (take (i + 1) items) ≡ so_far ++ item_bytes x =
    ap (λ (l : List LogItem). flat_map item_bytes l) (one_more items i x lt is) ∙ flat_map-append item_bytes (take i items) (x ∷ []) ∙ ap (λ (l : List ℕ). so_far ++ l) (append-nil (item_bytes x)) in
    let values : map plain_item (take (i + 1) items) ≡ map plain_item (take i items) ++ plain_item x ∷ [] =
    ap (λ (l : List LogItem). map plain_item l) (one_more items i x lt is) ∙ map-append plain_item (take i items) (x ∷ []) in
    rw (more, values, add-one) (times_push IsItem i so_far (map plain_item (take i items)) (item_bytes x) (plain_item x) h p)

pub no_times : Times IsItem 0 [] []
unfolding Times
no_times = (refl, refl)

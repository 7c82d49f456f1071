-- Reading a mark is what a mark is.
use Rattle.std.proofs.Common.{◌≡◌, ◌↔◌, ℕ, ◌≤◌, Bool, true, false, cond, ltb, eqb, List, [], ◌∷◌, ◌++◌, length, take, drop, Option, Some, None, inl, inr, refl, sym, ap, ◌∙◌, arith}
use Rattle.std.specs.Prelude.{bytes_eq, option_map, option_and_then}
use Rattle.std.specs.Cmp.Lexicographic.{same_text}
use Rattle.std.specs.Int.{w64, from_be_bytes}
use Rattle.std.proofs.lemmas.Bool.{le-ltb, ltb-false, eqb-true}
use Rattle.std.proofs.lemmas.List.{take_at, drop_at, take-append-drop, length-append, length-take-le}
use Rattle.raft_log_record_base.specs.Number.{IsU64, u64_bytes}
use Rattle.raft_log_record_base.proofs.Public.{chosen}
use Rattle.raft_log_record_items.specs.declared.op_type.OpType.{OpType}
use Rattle.raft_log_record_items.specs.declared.op_type.OpType.TheVariants.{Put, Del}
use Rattle.raft_log_record_items.specs.declared.item.LogItemContent.{LogItemContent}
use Rattle.raft_log_record_items.specs.declared.item.LogItemContent.TheVariants as contents
use Rattle.raft_log_record_items.specs.declared.item.LogItem.{LogItem}
use Rattle.raft_log_record_frames.specs.declared.status.AtomicGroupStatus.{AtomicGroupStatus}
use Rattle.raft_log_record_frames.specs.declared.status.AtomicGroupStatus.TheVariants.{Begin, Middle, End}
use Rattle.raft_log_record_frames.specs.Marking.{mark_key, status_number, IsMark, mark_value, mark_item, status_of, status_at, mark_in, mark_of_value, mark_of_content, mark_of, puts_mark_key, content_has_mark_key, has_mark_key, part_or_broken, marking_of}
use Rattle.raft_log_record_frames.specs.declared.marking.Marking.TheVariants.{Unmarked, Part}

-- ---- what is a mark is read as one

status_again : (s : AtomicGroupStatus) → status_of (status_number s) ≡ Some s
status_again Begin = refl
status_again Middle = refl
status_again End = refl

value_again : (number : List ℕ) (id : ℕ) (status : AtomicGroupStatus) → IsU64 number id → mark_in (number ++ status_number status ∷ []) ≡ Some (id, status)
unfolding mark_in
value_again number id status spelled =
    let tail : List ℕ = status_number status ∷ [] in
    let long : 8 ≤ length (number ++ tail) = omega (arith, length-append number tail, spelled.size) in
    let test : ltb (length (number ++ tail)) 8 ≡ false = le-ltb _ _ long in
    rw (test, take_at number tail 8 spelled.size, drop_at number tail 8 spelled.size, sym spelled.value) (ap (λ (o : Option AtomicGroupStatus). option_map (λ s. (id, s)) o) (status_again status))

pub mark_again : (item : LogItem) (id : ℕ) (status : AtomicGroupStatus) → IsMark item id status → mark_of item ≡ Some (id, status)
unfolding mark_of
mark_again item id status h =
    let kv = h.key_value in
    let value : List ℕ = h.number ++ status_number status ∷ [] in
    let in_group : mark_of item ≡ mark_of_content item.content = rw h.group refl in
    in_group ∙ ap (λ (c : LogItemContent). mark_of_content c) h.content
    ∙ ap (λ (o : OpType). mark_of_value o kv.key kv.value) h.put
    ∙ ap (λ (k : List ℕ). mark_of_value Put k kv.value) h.key
    ∙ ap (λ (v : Option (List ℕ)). mark_of_value Put mark_key v) h.value
    ∙ value_again h.number id status h.spelled

-- the mark that is written is one
pub written_mark : (id : ℕ) (status : AtomicGroupStatus) → IsU64 (u64_bytes id) id → IsMark (mark_item id status) id status
unfolding mark_value
written_mark id status spelled = record { group = refl; key_value = _; content = refl; put = refl; key = refl; number = u64_bytes id; spelled = spelled; value = refl }

-- ---- what is read as a mark is one

some_is : {A : Type 0} (x y : A) → Some x ≡ Some y → x ≡ y
some_is x y e = cc

mapped : {A B : Type 0} (f : A → B) (o : Option A) (y : B) → option_map f o ≡ Some y → (x : A) × (o ≡ Some x) × (f x ≡ y)
mapped f None y e = absurd cc
mapped f (Some x) y e = (x, refl, some_is (f x) y e)

status_found : (b : ℕ) (s : AtomicGroupStatus) → status_of b ≡ Some s → b ≡ status_number s
status_found b s e =
    elim (chosen (eqb b 0) (Some Begin) (cond (eqb b 1) (Some Middle) (cond (eqb b 2) (Some End) None)) (Some s) e) [
      | inl p ↦ eqb-true b 0 p.0 ∙ ap (λ (t : AtomicGroupStatus). status_number t) (some_is Begin s p.1)
      | inr q ↦ elim (chosen (eqb b 1) (Some Middle) (cond (eqb b 2) (Some End) None) (Some s) q.1) [
        | inl p ↦ eqb-true b 1 p.0 ∙ ap (λ (t : AtomicGroupStatus). status_number t) (some_is Middle s p.1)
        | inr r ↦ elim (chosen (eqb b 2) (Some End) None (Some s) r.1) [
          | inl p ↦ eqb-true b 2 p.0 ∙ ap (λ (t : AtomicGroupStatus). status_number t) (some_is End s p.1)
          | inr t ↦ absurd cc
        ]
      ]
    ]

tail_found : (rest : List ℕ) (s : AtomicGroupStatus) → status_at rest ≡ Some s → rest ≡ status_number s ∷ []
tail_found [] s e = absurd cc
tail_found (b ∷ []) s e = ap (λ (n : ℕ). n ∷ []) (status_found b s e)
tail_found (b ∷ c ∷ bs) s e = absurd cc

value_found : (bytes : List ℕ) (m : ℕ × AtomicGroupStatus) → mark_in bytes ≡ Some m → (number : List ℕ) × IsU64 number m.0 × (bytes ≡ number ++ status_number m.1 ∷ [])
unfolding mark_in
value_found bytes m e =
    let number : ℕ = from_be_bytes w64 (take 8 bytes) in
    elim (chosen (ltb (length bytes) 8) None (option_map (λ s. (number, s)) (status_at (drop 8 bytes))) (Some m) e) [
      | inl p ↦ absurd cc
      | inr q ↦
          let long : 8 ≤ length bytes = ltb-false _ _ q.0 in
          let s = mapped (λ (t : AtomicGroupStatus). (number, t)) (status_at (drop 8 bytes)) m q.1 in
          let tail : drop 8 bytes ≡ status_number m.1 ∷ [] = tail_found (drop 8 bytes) s.0 s.1 ∙ ap (λ (p : ℕ × AtomicGroupStatus). status_number p.1 ∷ []) s.2 in (
            take 8 bytes,
            record { size = length-take-le 8 bytes long; value = sym (ap (λ (p : ℕ × AtomicGroupStatus). p.0) s.2) },
            sym (take-append-drop 8 bytes) ∙ ap (λ (l : List ℕ). take 8 bytes ++ l) tail,
          )
    ]

option_found : (value : Option (List ℕ)) (m : ℕ × AtomicGroupStatus) → option_and_then mark_in value ≡ Some m
    → (number : List ℕ) × IsU64 number m.0 × (value ≡ Some (number ++ status_number m.1 ∷ []))
option_found None m e = absurd cc
option_found (Some bytes) m e = let v = value_found bytes m e in (v.0, v.1, ap (λ (l : List ℕ). Some l) v.2)

put_found : (op : OpType) (key : List ℕ) (value : Option (List ℕ)) (m : ℕ × AtomicGroupStatus) → mark_of_value op key value ≡ Some m
    → (op ≡ Put) × (key ≡ mark_key) × ((number : List ℕ) × IsU64 number m.0 × (value ≡ Some (number ++ status_number m.1 ∷ [])))
put_found Del key value m e = absurd cc
put_found Put key value m e =
    elim (chosen (bytes_eq key mark_key) (option_and_then mark_in value) None (Some m) e) [
      | inl p ↦ (refl, same_text key mark_key (sym p.0), option_found value m p.1)
      | inr q ↦ absurd cc
    ]

content_found : (item : LogItem) (c : LogItemContent) (m : ℕ × AtomicGroupStatus) → item.raft_group_id ≡ 0 → item.content ≡ c → mark_of_content c ≡ Some m → IsMark item m.0 m.1
content_found item (contents.EntryIndexes es) m group is e = absurd cc
content_found item (contents.Command c) m group is e = absurd cc
content_found item (contents.Kv kv) m group is e =
    let f = put_found kv.op_type kv.key kv.value m e in
    record { group = group; key_value = kv; content = is; put = f.0; key = f.1; number = f.2.0; spelled = f.2.1; value = f.2.2 }

pub mark_found : (item : LogItem) (m : ℕ × AtomicGroupStatus) → mark_of item ≡ Some m → IsMark item m.0 m.1
unfolding mark_of
mark_found item m e =
    elim (chosen (eqb item.raft_group_id 0) (mark_of_content item.content) None (Some m) e) [
      | inl p ↦ content_found item item.content m (eqb-true _ _ p.0) refl p.1
      | inr q ↦ absurd cc
    ]

-- ---- items with the key of marks

-- a mark has that key
pub mark_has_key : (item : LogItem) (id : ℕ) (status : AtomicGroupStatus) → IsMark item id status → has_mark_key item ≡ true
unfolding has_mark_key
mark_has_key item id status h =
    let kv = h.key_value in
    let in_group : has_mark_key item ≡ content_has_mark_key item.content = rw h.group refl in
    in_group ∙ ap (λ (c : LogItemContent). content_has_mark_key c) h.content
    ∙ ap (λ (o : OpType). puts_mark_key o kv.key) h.put ∙ ap (λ (k : List ℕ). puts_mark_key Put k) h.key

part_is : (m : ℕ × AtomicGroupStatus) (id : ℕ) (status : AtomicGroupStatus) → Part m.0 m.1 ≡ Part id status → (m.0 ≡ id) × (m.1 ≡ status)
part_is m id status e = (cc, cc)

part_told : (o : Option (ℕ × AtomicGroupStatus)) (id : ℕ) (status : AtomicGroupStatus) → part_or_broken o ≡ Part id status → o ≡ Some (id, status)
part_told None id status e = absurd cc
part_told (Some m) id status e =
    let p = part_is m id status e in
    ap (λ (n : ℕ). Some (n, m.1)) p.0 ∙ ap (λ (t : AtomicGroupStatus). Some (id, t)) p.1

-- what is told as a part is a mark, and a mark is told so
pub tells_mark : (item : LogItem) (id : ℕ) (status : AtomicGroupStatus) → ((marking_of item ≡ Part id status) ↔ IsMark item id status)
unfolding marking_of
tells_mark item id status = (
  λ e. elim (chosen (has_mark_key item) (part_or_broken (mark_of item)) Unmarked (Part id status) e) [
    | inl p ↦ mark_found item (id, status) (part_told (mark_of item) id status p.1)
    | inr q ↦ absurd cc
  ],
  λ h. ap (λ (b : Bool). cond b (part_or_broken (mark_of item)) Unmarked) (mark_has_key item id status h) ∙ ap (λ (o : Option (ℕ × AtomicGroupStatus)). part_or_broken o) (mark_again item id status h),
)

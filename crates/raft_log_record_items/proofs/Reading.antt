-- Each reader of items reads its grammar.
use Rattle.std.proofs.Common.{◌≡◌, ℕ, zero, suc, ◌+◌, ◌≤◌, Bool, false, cond, List, [], ◌++◌, length, take, drop, Ok, Err, refl, sym, ap, ◌∙◌, inl, inr, arith, ltb, eqb, IsTrue}
use Rattle.std.proofs.lemmas.Bool.{ltb-false, le-ltb}
use Rattle.std.proofs.lemmas.List.{take_at, drop_at, take-append-drop, length-take, length-append}
use Rattle.raft_log_record_base.specs.Grammar.{Reader, IsReader}
use Rattle.raft_log_record_base.specs.Number.{IsVarU64, IsByte}
use Rattle.raft_log_record_base.specs.declared.codec.error.Error.TheVariants.{Io}
use Rattle.std.specs.declared.io.ErrorKind.TheVariants.{UnexpectedEof}
use Rattle.raft_log_record_base.proofs.Public.{bind_ok, chosen, done, is_byte, is_choice, is_known, is_lifted, is_then, is_times, is_var_u64, ok_is}
use Rattle.raft_log_record_base.specs.Fault.{Fault}
use Rattle.raft_log_record_base.specs.Fault.Fault.{number, corrupt}
use Rattle.raft_log_record_items.specs.Items.{Never, never_at, Passing, passing_at, number_at, kind_at, IsBytesOf, IsBytes, is_entry_len, IsEntryLen, AreEntriesFrom, is_first_of, IsEntriesOf, IsEntries, IsCommandOf, IsCommand, IsKeyValueOf, IsKeyValue, IsContentOf, IsItem, AreItems}
use Rattle.raft_log_record_items.specs.Reading.{bytes_of_at, bytes_at, entry_len_at, entries_from_at, first_index_at, entries_of_at, entries_at, command_of_at, command_at, key_value_of_at, key_value_at, content_of_at, item_at, items_at, unknown_command, unknown_operation, unknown_content, index_past_limit, length_past_limit}

-- ---- rules

pub is_never : {A : Type 0} (text : List ℕ) → IsReader {X = A} (never_at text) Never
is_never text = record {
  takes = λ bytes y e. absurd cc;
  again = λ text rest x p. absurd p;
}

passed : {A : Type 0} (test : A → Bool) (text : List ℕ) (r y : A × List ℕ) → cond (test r.0) (done {E = Fault} r) (Err (corrupt text)) ≡ Ok y → (r ≡ y) × IsTrue (test y.0)
passed {A = A} test text r y e =
    elim (chosen (test r.0) (done {E = Fault} r) (Err (corrupt text)) (Ok y) e) [
      | inl p ↦ let same : r ≡ y = ok_is {E = Fault} r y p.1 in (same, ap (λ (z : A × List ℕ). test z.0) (sym same) ∙ p.0)
      | inr p ↦ absurd (let k = p.1 in cc)
    ]

pub is_passing : {A : Type 0} {read : Reader A Fault} {P : List ℕ → A → Type 0} (test : A → Bool) (text : List ℕ) → IsReader read P → IsReader (passing_at test text read) (Passing test P)
is_passing {A = A} {read = read} test text h = record {
  takes = λ bytes y e.
      let a = bind_ok (read bytes) (λ (r : A × List ℕ). cond (test r.0) (Ok r) (Err (corrupt text))) y e in
      let p = passed test text a.0 y a.2 in
      let t = h.takes bytes y (a.1 ∙ ap (λ (z : A × List ℕ). Ok z) p.0) in
      (t.0, (t.1, p.1), t.2);
  again = λ spelling rest x p. rw (h.again spelling rest x p.0, p.1) refl;
}

-- ---- numbers and bytes

pub is_number : IsReader number_at IsVarU64
is_number = is_lifted is_var_u64

pub is_kind : IsReader kind_at IsByte
is_kind = is_lifted is_byte

bytes_of_takes : (n : ℕ) (bytes : List ℕ) (y : List ℕ × List ℕ) → bytes_of_at n bytes ≡ Ok y → (text : List ℕ) × IsBytesOf n text y.0 × (bytes ≡ text ++ y.1)
bytes_of_takes n bytes y h =
    elim (chosen (ltb (length bytes) n) (Err (number (Io UnexpectedEof))) (Ok (take n bytes, drop n bytes)) (Ok y) h) [
      | inl a ↦ absurd (let k = a.1 in cc)
      | inr b ↦
          let long : n ≤ length bytes = ltb-false _ _ b.0 in
          let same = ok_is {E = Fault} (take n bytes, drop n bytes) y b.1 in
          let len : length (take n bytes) ≡ n = omega (arith, length-take n bytes) in (
            take n bytes,
            (len, sym (ap (λ (q : List ℕ × List ℕ). q.0) same)),
            sym (take-append-drop n bytes) ∙ ap (λ (q : List ℕ × List ℕ). take n bytes ++ q.1) same,
          )
    ]

is_bytes_of : (n : ℕ) → IsReader (bytes_of_at n) (IsBytesOf n)
is_bytes_of n = record {
  takes = bytes_of_takes n;
  again = λ text rest x p.
      let long : n ≤ length (text ++ rest) = omega (arith, length-append text rest, p.0) in
      let test : ltb (length (text ++ rest)) n ≡ false = le-ltb _ _ long in
      let front : take n (text ++ rest) ≡ text = take_at text rest n p.0 in
      let back : drop n (text ++ rest) ≡ rest = drop_at text rest n p.0 in
      rw (test, front, back, p.1) refl;
}

pub is_bytes : IsReader bytes_at IsBytes
unfolding bytes_at
is_bytes = is_then is_number is_bytes_of

-- ---- entries

pub is_entry_length : IsReader entry_len_at IsEntryLen
unfolding entry_len_at
is_entry_length = is_passing is_entry_len length_past_limit is_number

pub are_entries_from : (n index : ℕ) → IsReader (entries_from_at index n) (AreEntriesFrom index n)
unfolding entries_from_at AreEntriesFrom
are_entries_from zero index = is_known []
are_entries_from (suc n) index = is_then is_entry_length (λ len. is_then (are_entries_from n (index + 1)) (λ es. is_known _))

pub is_first_index : (count : ℕ) → IsReader (first_index_at count) (Passing (is_first_of count) IsVarU64)
unfolding first_index_at
is_first_index count = is_passing (is_first_of count) index_past_limit is_number

pub is_entries_of : (count : ℕ) → IsReader (entries_of_at count) (IsEntriesOf count)
unfolding entries_of_at
is_entries_of count = is_choice (eqb count 0) (is_known []) (is_then (is_first_index count) (are_entries_from count))

pub is_entries : IsReader entries_at IsEntries
unfolding entries_at
is_entries = is_then is_number is_entries_of

-- ---- commands

pub is_command_of : (kind : ℕ) → IsReader (command_of_at kind) (IsCommandOf kind)
unfolding command_of_at
is_command_of kind =
    is_choice (eqb kind 1) (is_known _) (is_choice (eqb kind 2) (is_then is_number (λ index. is_known _)) (is_never (unknown_command kind)))

pub is_command : IsReader command_at IsCommand
unfolding command_at
is_command = is_then is_kind is_command_of

-- ---- keys

pub is_key_value_of : (op : ℕ) → IsReader (key_value_of_at op) (IsKeyValueOf op)
unfolding key_value_of_at
is_key_value_of op =
    is_choice (eqb op 1) (is_then is_bytes (λ key. is_then is_bytes (λ value. is_known _)))
    (is_choice (eqb op 2) (is_then is_bytes (λ key. is_known _)) (is_never (unknown_operation op)))

pub is_key_value : IsReader key_value_at IsKeyValue
unfolding key_value_at
is_key_value = is_then is_kind is_key_value_of

-- ---- items

pub is_content_of : (kind : ℕ) → IsReader (content_of_at kind) (IsContentOf kind)
unfolding content_of_at
is_content_of kind =
    is_choice (eqb kind 1) (is_then is_entries (λ es. is_known _))
    (is_choice (eqb kind 2) (is_then is_command (λ c. is_known _))
    (is_choice (eqb kind 3) (is_then is_key_value (λ kv. is_known _)) (is_never (unknown_content kind))))

pub is_item : IsReader item_at IsItem
unfolding item_at
is_item = is_then is_number (λ group. is_then is_kind (λ kind. is_then (is_content_of kind) (λ content. is_known _)))

pub are_items : IsReader items_at AreItems
unfolding items_at
are_items = is_then is_number (is_times is_item)

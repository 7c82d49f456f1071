-- What is written is in the grammar.
use Rattle.std.proofs.Common.{◌≡◌, ℕ, ◌+◌, ◌<◌, ◌^◌, List, [], ◌∷◌, ◌++◌, length, map, refl, sym, ap, subst, append_assoc, arith, Bool, true, false, eqb}
use Rattle.raft_log_record_base.specs.Grammar.{Then, Choice, IsKnown}
use Rattle.std.proofs.lemmas.Bool.{lt-ltb, ne_eqb}
use Rattle.std.proofs.lemmas.List.{append-nil}
use Rattle.raft_log_record_base.specs.Number.{IsVarU64, var_u64_bytes}
use Rattle.raft_log_record_base.proofs.Public.{var_u64_shortest}
use Rattle.raft_log_record_items.specs.declared.entry.EntryIndex.{EntryIndex}
use Rattle.raft_log_record_items.specs.Run.{FollowsFrom, IsRun, unplaced, unplaced_entry}
use Rattle.raft_log_record_items.specs.Items.{IsEntries, AreEntriesFrom, IsEntryLen, is_first_of, Passing, IsBytes, IsCommand, IsKeyValue, put_of, del_of}
use Rattle.raft_log_record_items.specs.declared.op_type.OpType.TheVariants.{Put, Del}
use Rattle.raft_log_record_items.specs.declared.command.Command.{Command}
use Rattle.raft_log_record_items.specs.declared.command.Command.TheVariants.{Compact}
use Rattle.raft_log_record_items.specs.declared.key_value.KeyValue.{KeyValue}
use Rattle.raft_log_record_items.specs.declared.item.LogItemContent.TheVariants as contents
use Rattle.raft_log_record_items.specs.Writing.{bytes_bytes, lengths_bytes, entries_bytes, command_bytes, operation_bytes, key_value_bytes, content_bytes, value_of, plain_operation, plain_key_value, IsSpelledContent}

pub number_spelled : (n : ℕ) → n < 2 ^ 64 → IsVarU64 (var_u64_bytes n) n
number_spelled n fits = (var_u64_shortest n fits).spelled

length_spelled : (n : ℕ) → n < 2 ^ 32 → IsEntryLen (var_u64_bytes n) n
length_spelled n fits = (number_spelled n (omega arith), lt-ltb _ _ fits)

pub lengths_spelled : (i : ℕ) (es : List EntryIndex) → FollowsFrom i es → AreEntriesFrom i (length es) (lengths_bytes es) (map unplaced es)
unfolding AreEntriesFrom
lengths_spelled i [] h = (refl, refl)
lengths_spelled i (e ∷ es) h = (
  e.entry_len,
  var_u64_bytes e.entry_len,
  lengths_bytes es,
  length_spelled e.entry_len h.1,
  (map unplaced es, lengths_bytes es, [], lengths_spelled (i + 1) es h.2, (refl, ap (λ (j : ℕ). unplaced_entry j e.entry_len ∷ map unplaced es) h.0), sym (append-nil (lengths_bytes es))),
  refl,
)

entries_after : (e : EntryIndex) (es : List EntryIndex) → IsRun (e ∷ es) → Then (Passing (is_first_of (length (e ∷ es))) IsVarU64) (λ first. AreEntriesFrom first (length (e ∷ es))) (var_u64_bytes e.index ++ lengths_bytes (e ∷ es)) (map unplaced (e ∷ es))
entries_after e es run =
    (e.index, var_u64_bytes e.index, lengths_bytes (e ∷ es), (number_spelled e.index (omega (arith, run.1)), lt-ltb _ _ run.1), lengths_spelled e.index (e ∷ es) run.0, refl)

-- the second kind where the test fails
pub second : {A : Type 0} (b : Bool) (P Q : List ℕ → A → Type 0) (bytes : List ℕ) (x : A) → b ≡ false → Q bytes x → Choice b P Q bytes x
second true P Q bytes x e q = absurd cc
second false P Q bytes x e q = q

pub entries_spelled : (es : List EntryIndex) → IsRun es → length es < 2 ^ 64 → IsEntries (entries_bytes es) (map unplaced es)
unfolding entries_bytes
entries_spelled [] run fits = (0, var_u64_bytes 0, [], number_spelled 0 (omega arith), (refl, refl), sym (append-nil _))
entries_spelled (e ∷ es) run fits = (
  length (e ∷ es),
  var_u64_bytes (length (e ∷ es)),
  var_u64_bytes e.index ++ lengths_bytes (e ∷ es),
  number_spelled _ fits,
  second {A = List EntryIndex} (eqb (length (e ∷ es)) 0) (IsKnown []) (Then (Passing (is_first_of (length (e ∷ es))) IsVarU64) (λ first. AreEntriesFrom first (length (e ∷ es)))) (var_u64_bytes e.index ++ lengths_bytes (e ∷ es)) (map unplaced (e ∷ es)) (ne_eqb _ _ (omega arith)) (entries_after e es run),
  append_assoc (var_u64_bytes (length (e ∷ es))) (var_u64_bytes e.index) (lengths_bytes (e ∷ es)),
)

-- ---- commands and keys

pub compact_spelled : (index : ℕ) → index < 2 ^ 64 → IsCommand (command_bytes (Compact index)) (Compact index)
unfolding command_bytes
compact_spelled index fits = (2, 2 ∷ [], var_u64_bytes index, record { only = refl }, (index, var_u64_bytes index, [], number_spelled index fits, (refl, refl), sym (append-nil _)), refl)

pub put_spelled : (key value : List ℕ) → IsBytes (bytes_bytes key) key → IsBytes (bytes_bytes value) value → IsKeyValue (operation_bytes Put key value) (put_of key value)
unfolding operation_bytes
put_spelled key value k v = (
  1,
  1 ∷ [],
  bytes_bytes key ++ bytes_bytes value,
  record { only = refl },
  (key, bytes_bytes key, bytes_bytes value, k, (value, bytes_bytes value, [], v, (refl, refl), sym (append-nil _)), refl),
  refl,
)

pub del_spelled : (key value : List ℕ) → IsBytes (bytes_bytes key) key → IsKeyValue (operation_bytes Del key value) (del_of key)
unfolding operation_bytes
del_spelled key value k = (2, 2 ∷ [], bytes_bytes key, record { only = refl }, (key, bytes_bytes key, [], k, (refl, refl), sym (append-nil _)), refl)

-- ---- contents and items

pub entries_content : (es : List EntryIndex) → IsEntries (entries_bytes es) (map unplaced es) → IsSpelledContent (contents.EntryIndexes es)
unfolding content_bytes
entries_content es h = (1, 1 ∷ [], entries_bytes es, record { only = refl }, (map unplaced es, entries_bytes es, [], h, (refl, refl), sym (append-nil _)), refl)

pub command_content : (c : Command) → IsCommand (command_bytes c) c → IsSpelledContent (contents.Command c)
unfolding content_bytes
command_content c h = (2, 2 ∷ [], command_bytes c, record { only = refl }, (c, command_bytes c, [], h, (refl, refl), sym (append-nil _)), refl)

pub key_value_content : (kv : KeyValue) → IsKeyValue (key_value_bytes kv) (plain_key_value kv) → IsSpelledContent (contents.Kv kv)
unfolding content_bytes
key_value_content kv h = (3, 3 ∷ [], key_value_bytes kv, record { only = refl }, (plain_key_value kv, key_value_bytes kv, [], h, (refl, refl), sym (append-nil _)), refl)

-- the bytes of a key by its parts
pub key_value_spelled : (kv : KeyValue) (key value : List ℕ) → key ≡ kv.key → value ≡ value_of kv
    → IsKeyValue (operation_bytes kv.op_type key value) (plain_operation kv.op_type key value) → IsKeyValue (key_value_bytes kv) (plain_key_value kv)
unfolding key_value_bytes
key_value_spelled kv key value k v h =
    let P : List ℕ → List ℕ → Type 0 = λ a b. IsKeyValue (operation_bytes kv.op_type a b) (plain_operation kv.op_type a b) in
    subst (λ (b : List ℕ). P kv.key b) v (subst (λ (a : List ℕ). P a value) k h)

-- Entries that lie in a log stay there with their bytes, and what the tables show means the same.
use Rattle.std.proofs.Common.{◌≡◌, ℕ, zero, suc, ◌-◌, ◌≤◌, Bool, true, false, List, [], ◌∷◌, length, refl, sym, ap, subst, ◌∙◌, arith, if◌then◌else◌, Option, Some, None}
use Rattle.std.specs.Prelude.{option_map, slice_get, nat_le, IsOk}
use Rattle.std.proofs.lemmas.List.{length-append}
use Rattle.raft_log_model_laws.specs.Groups.{Map}
use Rattle.raft_log_model_laws.specs.Meaning.{Slot}
use Rattle.raft_log_model_laws.specs.Meaning.Slot.{Index, Key}
use Rattle.raft_log_model_laws.specs.Meaning.Content.{Entry, Value}
use Rattle.raft_log_model_laws.specs.Renamed.{renamed_content}
use Rattle.raft_log_model_laws.specs.Table.{content}
use Rattle.raft_log_record_frames.specs.Record.{block_of}
use Rattle.raft_log_extents.specs.declared.place.Place.{Place}
use Rattle.raft_log_memtable_index.specs.Shown.{Shown}
use Rattle.raft_log_memtable_index.specs.Bridge.{Located, located, table_of}
use Rattle.raft_log_dual_pipes.specs.State.{LogOnDisk, Spanned}
use Rattle.raft_log_memtables.specs.Views.{AreMeant}
use Rattle.raft_log_block_cache.specs.Stored.{BlockLiesIn, Each, EntryLiesIn, IsStored, KeepsBytes, KeepsLog, StoredEntriesStay, block_at, entries_at, entry_at, file_bytes, part, queue_in}
use Rattle.raft_log_block_cache.proofs.Parts.{part_front}

-- a block that lies in the one queue lies in the other, with its bytes
module _ {R : Type 0} (q p : Spanned R) (keeps : KeepsBytes q.files p.files) (first : p.first ≤ q.first) where
  pub block_stays : (n offset len : ℕ) → BlockLiesIn q n offset len
      → BlockLiesIn p n offset len × (block_at p.files n offset len ≡ block_at q.files n offset len)
  block_stays n offset len lies =
      let (more, is) = keeps.files n lies.last in
      let long = ap length is ∙ length-append (file_bytes q.files n) more in (
        record { first = omega (arith, first, lies.first); last = omega (arith, lies.last, keeps.last); inside = omega (arith, lies.inside, long) },
        ap (part offset len) is ∙ part_front offset len (file_bytes q.files n) more lies.inside,
      )

  entry_stays : (l : Place) → EntryLiesIn q l → EntryLiesIn p l × (entry_at p.files l ≡ entry_at q.files l)
  entry_stays l lies =
      let (block, is) = block_stays l.file l.offset l.len lies.block in
      (record { block = block; whole = subst (λ (b : List ℕ). IsOk (block_of b)) (sym is) lies.whole; entry = lies.entry }, ap (part l.entry_offset l.entry_len) is)

stored_stays_in : {R : Type 0} (s t : LogOnDisk R) (keeps : KeepsLog s t) (b : Bool) (l : Place) → EntryLiesIn (queue_in s b) l
    → EntryLiesIn (queue_in t b) l × (entry_at (queue_in t b).files l ≡ entry_at (queue_in s b).files l)
stored_stays_in s t keeps true l lies = entry_stays s.append t.append keeps.append keeps.append_first l lies
stored_stays_in s t keeps false l lies = entry_stays s.rewrite t.rewrite keeps.rewrite keeps.rewrite_first l lies

-- so it is of a list of places
all_stay : {R : Type 0} (s t : LogOnDisk R) → KeepsLog s t → (ls : List Located) → Each (IsStored s) ls
    → Each (IsStored t) ls × Each (λ l. entries_at t l ≡ entries_at s l) ls
all_stay s t keeps [] lie = (tt, tt)
all_stay s t keeps (l ∷ ls) (first, rest) =
    let (lies, is) = stored_stays_in s t keeps l.appended l.place first in
    let (others, are) = all_stay s t keeps ls rest in
    ((lies, others), (is, are))

-- what is read of a list by two functions that agree on it
got_alike : {E : Type 0} (at to : Located → E) (ls : List Located) (i : ℕ) → Each (λ l. to l ≡ at l) ls
    → option_map (renamed_content {V = List ℕ} to) (option_map Entry (slice_get ls i)) ≡ option_map (renamed_content at) (option_map Entry (slice_get ls i))
got_alike at to [] i are = refl
got_alike at to (l ∷ ls) zero (is, are) = ap (λ e. Some (Entry e)) is
got_alike at to (l ∷ ls) (suc i) (is, are) = got_alike at to ls i are

at_index : {E : Type 0} (at to : Located → E) (ls : List Located) (i : ℕ) (b : Bool) → Each (λ l. to l ≡ at l) ls
    → option_map (renamed_content {V = List ℕ} to) (if b then option_map Entry (slice_get ls i) else None) ≡ option_map (renamed_content at) (if b then option_map Entry (slice_get ls i) else None)
at_index at to ls i true are = got_alike at to ls i are
at_index at to ls i false are = refl

at_key : {E : Type 0} (at to : Located → E) (o : Option (List ℕ)) → option_map (renamed_content to) (option_map Value o) ≡ option_map (renamed_content at) (option_map Value o)
at_key at to None = refl
at_key at to (Some v) = refl

pub same_content : {E : Type 0} (at to : Located → E) (v : Shown) (s : Slot) → Each (λ l. to l ≡ at l) (located v.rewritten v.places)
    → option_map (renamed_content to) (content (table_of v) s) ≡ option_map (renamed_content at) (content (table_of v) s)
same_content at to v (Index i) are = at_index at to (located v.rewritten v.places) (i - v.first) (nat_le v.first i) are
same_content at to v (Key k) are = at_key at to ((table_of v).values k)

pub means_alike : {E : Type 0} (at to : Located → E) (v : ℕ → Shown) (m : Map E (List ℕ)) → ((g : ℕ) → Each (λ l. to l ≡ at l) (located (v g).rewritten (v g).places))
    → AreMeant at v m → AreMeant to v m
means_alike at to v m are meant = record { orderly = meant.orderly; meant = λ g s. same_content at to (v g) s (are g) ∙ meant.meant g s }

pub stored_entries_stay : {R : Type 0} → StoredEntriesStay R
stored_entries_stay s t keeps v stored = (
  λ g. (all_stay s t keeps (located (v g).rewritten (v g).places) (stored g)).0,
  λ m meant. means_alike (entries_at s) (entries_at t) v m (λ g. (all_stay s t keeps (located (v g).rewritten (v g).places) (stored g)).1) meant,
)

-- What is noted of atomic groups ends in the files that were read.
use Rattle.std.proofs.Common.{◌≡◌, ℕ, ◌≤◌, max, Bool, true, false, if◌then◌else◌, List, [], ◌∷◌, ◌++◌, length, Option, Some, None, refl, sym, ap, ap₂, subst, inl, inr, arith}
use Rattle.std.specs.Global.{Vec}
use Rattle.raft_log_model_laws.specs.Item.{Item, Tagged}
use Rattle.raft_log_model_laws.specs.Item.Item.{Run, Clean, Compact, Put, Del}
use Rattle.raft_log_model_laws.specs.Groups.{of_group}
use Rattle.raft_log_model_laws.specs.Holes.{is_past}
use Rattle.raft_log_model_laws.specs.Summary.{lesser}
use Rattle.raft_log_model_laws.proofs.Public.{at_bool}
use Rattle.raft_log_record_frames.specs.Meaning.{tagged_items}
use Rattle.raft_log_extents.specs.declared.place.Place.{Place}
use Rattle.raft_log_extents.specs.Entries.{place_of}
use Rattle.raft_log_memtable_index.specs.declared.group_files.GroupFiles.{GroupFiles}
use Rattle.raft_log_memtable_index.specs.Shown.{span, with_run, Shown}
use Rattle.raft_log_memtable_index.specs.Replayed.{both_noted, joined, merged, replay_step, replayed, run_over, with_newer, Replayed}
use Rattle.raft_log_memtables.specs.declared.mem_tables.MemTables.{MemTables}
use Rattle.raft_log_memtables.specs.Replaying.{all_replayed, ReadsAll}
use Rattle.raft_log_memtables.specs.Joining.{JoinsAll}
use Rattle.raft_log_memtables.specs.Tables.{replayed_of}
use Rattle.raft_log_replay_context.specs.declared.part.GroupPart.{GroupPart}
use Rattle.raft_log_replay_context.specs.Records.{ReadRecord}
use Rattle.raft_log_replay_context.specs.Pieces.{as_file, parts_seen, with_file, AllGroups, IsCompleted}
use Rattle.raft_log_replay_context.specs.Noting.{files_after, files_of, parts_mention, AllReadTo, IsNotedTo, NotesAll, NotesAt, ReadsParts, SettlesAll, SettlesGroup}
use Rattle.raft_log_replay_context.proofs.Begins.{all_seen}
use Rattle.raft_log_replay_context.proofs.Counting.{same_compact, same_cons}
use Rattle.raft_log_replay_context.proofs.Notes.{parts_are, records, records_upto}

-- What is so of nothing, and of two files together where it is of both, stays so of what is noted.
module _ (P : Option GroupFiles → Type 0) (none : P None) (both : (a b : Option GroupFiles) → P a → P b → P (both_noted a b)) where
  of_either : (b : Bool) (t u : Shown) → P t.noted → P u.noted → P (if b then t else u).noted
  of_either true t u h k = h
  of_either false t u h k = k

  of_step : (q : Bool) (n : ℕ) (v : Shown) (x : Item Place (List ℕ)) → P v.noted → P (replay_step q n v x).noted
  of_step q n v (Run f []) h = h
  of_step q n v (Run f (p ∷ ps)) h =
      of_either q (with_run v f (p ∷ ps)) (run_over v f (p ∷ ps) (length (p ∷ ps))) h (of_either (is_past (span v) f) _ _ h h)
  of_step q n v Clean h = none
  of_step q n v (Compact c) h = h
  of_step q n v (Put k w) h = h
  of_step q n v (Del k) h = h

  of_items : (q : Bool) (n : ℕ) (z : Replayed) (xs : List (Item Place (List ℕ))) → P z.table.noted → P (all_replayed q n z xs).table.noted
  of_items q n z [] h = h
  of_items q n z (x ∷ xs) h = of_items q n (replayed q n z x) xs (of_step q n z.table x h)

  pub of_reads : (q : Bool) (n : ℕ) (old new : MemTables) (xs : List (Tagged Place (List ℕ))) → ReadsAll q n old new xs → (g : ℕ)
      → P (replayed_of old g).table.noted → P (replayed_of new g).table.noted
  of_reads q n old new xs reads g h = subst (λ z. P z.table.noted) (sym (reads.read g)) (of_items q n (replayed_of old g) (of_group g xs) h)

  of_parts : (ps : List GroupPart) (old new : MemTables) → ReadsParts ps old new → (g : ℕ) → P (replayed_of old g).table.noted → P (replayed_of new g).table.noted
  of_parts [] old new same g h = subst (λ m. P (replayed_of m g).table.noted) (sym same) h
  of_parts (p ∷ ps) old new reads g h = of_parts ps reads.0 new reads.2 g (of_reads false p.file old reads.0 (tagged_items place_of p.items.items) reads.1 g h)

  of_noting_at : (files : GroupFiles) (a b : Replayed) → P (Some files) → NotesAt files a b → P a.table.noted → P b.table.noted
  of_noting_at files a b new (inl is) h = subst (λ z. P z.table.noted) (sym is) (both a.table.noted (Some files) h new)
  of_noting_at files a b new (inr nothing) h = subst (λ z. P z.table.noted) (sym nothing.1) none

  of_noting : (o : Option GroupFiles) (test : ℕ → Bool) (a b : ℕ → Replayed) → P o → NotesAll o test a b → (g : ℕ) → P (a g).table.noted → P (b g).table.noted
  of_noting None test a b new notes g h = subst (λ z. P z.table.noted) (sym (notes g)) h
  of_noting (Some files) test a b new notes g h =
      at_bool (test g) (λ t. test g ≡ t → P (b g).table.noted) (λ _ t. of_noting_at files (a g) (b g) new ((notes g).0 t) h)
      (λ _ t. subst (λ z. P z.table.noted) (sym ((notes g).1 t)) h) refl

  pub of_group_read : (ps : List GroupPart) (old new : MemTables) → SettlesGroup ps old new → P (files_of ps) → (g : ℕ)
      → P (replayed_of old g).table.noted → P (replayed_of new g).table.noted
  of_group_read ps old new s files g h =
      of_noting (files_of ps) (λ k. parts_mention k ps) (replayed_of s.between) (replayed_of new) files s.notes g (of_parts ps old s.between s.reads g h)

  pub of_groups_read : (pss : List (Vec GroupPart)) (old new : MemTables) → SettlesAll pss old new → AllGroups (λ ps. P (files_of ps)) pss → (g : ℕ)
      → P (replayed_of old g).table.noted → P (replayed_of new g).table.noted
  of_groups_read [] old new same files g h = subst (λ m. P (replayed_of m g).table.noted) (sym same) h
  of_groups_read (ps ∷ pss) old new s files g h = of_groups_read pss s.0 new s.2 files.1 g (of_group_read ps.items old s.0 s.1 files.0 g h)

  of_joined : (a z : Replayed) → P a.table.noted → P z.table.noted → P (joined a z).table.noted
  of_joined a z h k = at_table z.table.cleaned
    where
      at_table : (b : Bool) → P (if b then z else record { table = with_newer a.table z; low = max z.low a.low; high = lesser z.high a.high }).table.noted
      at_table true = k
      at_table false = both a.table.noted z.table.noted h k

  pub of_joins : (old later new : MemTables) → JoinsAll old later new → (g : ℕ) → P (replayed_of old g).table.noted → P (replayed_of later g).table.noted
      → P (replayed_of new g).table.noted
  of_joins old later new joins g h k = subst (λ z. P z.table.noted) (sym (joins g).read) (of_joined (replayed_of old g) (replayed_of later g) h k)

  pub of_merged : (v : Shown) (z : Replayed) → P v.noted → P z.table.noted → P (merged v z).noted
  of_merged v z h k = at_table z.table.cleaned
    where
      at_table : (b : Bool) → P (if b then z.table else with_newer (record v { cleaned = false; compacted = false; deleted = λ k. false }) z).noted
      at_table true = k
      at_table false = both v.noted z.table.noted h k

-- So it is of nothing being noted, and of a file up to which all is.
pub both_none : (a b : Option GroupFiles) → a ≡ None → b ≡ None → both_noted a b ≡ None
both_none a b h k = ap₂ both_noted h k

pub both_to : (n : ℕ) (a b : Option GroupFiles) → IsNotedTo n a → IsNotedTo n b → IsNotedTo n (both_noted a b)
both_to n None b h k = k
both_to n (Some a) None h k = h
both_to n (Some a) (Some b) h k = omega (arith, h, k)

with_to : (n : ℕ) (o : Option GroupFiles) (k : ℕ) → k ≤ n → IsNotedTo n o → (with_file o k).to ≤ n
with_to n None k low h = low
with_to n (Some f) k low h = omega (arith, low, h)

files_to : (n : ℕ) (o : Option GroupFiles) (ps : List GroupPart) (rs : List ReadRecord) → parts_seen as_file ps ≡ all_seen as_file rs → AllReadTo n rs
    → IsNotedTo n o → IsNotedTo n (files_after o ps)
files_to n o [] rs same upto h = h
files_to n o (p ∷ ps) [] same upto h = absurd (let clash : ⊥ = cc in clash)
files_to n o (p ∷ ps) (r ∷ rs) same upto h =
    let parts = same_cons (record { group = 0; item = Compact p.file }) (record { group = 0; item = Compact r.file }) (parts_seen as_file ps) (all_seen as_file rs) same in
    let file = same_compact p.file r.file (ap (λ x. x.item) parts.0) in
    let first = upto.0 in
    files_to n (Some (with_file o p.file)) ps rs parts.1 upto.1 (with_to n o p.file (omega (arith, file, first)) h)

-- a group without records has no files
pub no_files_to : (n : ℕ) (ps : List GroupPart) → parts_seen as_file ps ≡ [] → IsNotedTo n (files_of ps)
no_files_to n ps none = files_to n None ps [] none tt tt

-- a group that is completed
pub completed_to : (xs ys : List ReadRecord) (ps : List GroupPart) → IsCompleted xs ys ps → (n : ℕ) → AllReadTo n (xs ++ ys) → IsNotedTo n (files_of ps)
completed_to xs ys ps whole n upto =
    files_to n None ps (records xs ys ps whole) (parts_are xs ys ps whole as_file) (records_upto xs ys ps whole n upto) tt

-- Copies that are written to Rewrite, or refused there.
use Rattle.std.proofs.Common.{◌≡◌, ℕ, zero, suc, ◌+◌, ◌-◌, ◌≤◌, ◌&&◌, Bool, true, false, not, if◌then◌else◌, Option, List, [], ◌∷◌, ◌++◌, length, map, take, drop, nat_eq, inl, inr, refl, sym, ap, subst, ◌∙◌, arith}
use Rattle.std.specs.Prelude.{nat_le}
use Rattle.std.proofs.lemmas.Bool.Decides.{Decides-eqb, leb_tells}
use Rattle.std.proofs.lemmas.List.{length-take}
use std.Path.{fun_ext}
use Rattle.raft_log_model_laws.specs.Item.{Item}
use Rattle.raft_log_model_laws.specs.Item.Item.{Run, Clean, Compact, Put, Del}
use Rattle.raft_log_model_laws.specs.Groups.{of_group}
use Rattle.raft_log_model_laws.proofs.Public.{of_group_renamed}
use Rattle.raft_log_record_base.specs.declared.errors.Error.{Error}
use Rattle.raft_log_record_base.specs.declared.pipe_log.LogQueue.TheVariants.{Rewrite}
use Rattle.raft_log_record_base.specs.declared.pipe_log.FileBlockHandle.{FileBlockHandle}
use Rattle.raft_log_record_items.specs.declared.entry.EntryIndex.{EntryIndex}
use Rattle.raft_log_record_items.specs.Placed.{written_entry}
use Rattle.raft_log_active_file.specs.declared.record.LogRecord.{LogRecord}
use Rattle.raft_log_record_batches.specs.Batch.{Batch, block_place}
use Rattle.raft_log_record_batches.specs.Places.{entry_bytes}
use Rattle.raft_log_extents.specs.Entries.{place_of}
use Rattle.raft_log_block_cache.specs.Signing.{SaysItself, signed_for}
use Rattle.raft_log_machine_laws.specs.Calls.Which.{InRewrite}
use Rattle.raft_log_machine_laws.specs.Tables.{CarriesTo}
use Rattle.raft_log_extents.specs.declared.place.Place.{Place}
use Rattle.raft_log_memtable_index.specs.Shown.{Shown, IsOrderly}
use Rattle.raft_log_memtable_index.specs.Bridge.{CanAllMove, CanMove, Located, Move, all_moved, in_queue, items_of as copies_of, located, moved}
use Rattle.raft_log_memtable_index.specs.Bridge.Move.{MoveKey, MoveRun}
use Rattle.raft_log_memtable_index.proofs.Public.{copies_rise, move_orderly}
use Rattle.raft_log_memtable_index.specs.Noted.{AllIn, AllUpTo, AreInFile, AreUpTo, FilesRise, MovesIn}
use Rattle.raft_log_block_cache.specs.raft_log_memtables.specs.Rewriting.{AreCopies, copied_items, moves_of}
use Rattle.raft_log_block_cache.specs.raft_log_memtables.proofs.Public.{copies_move, copies_on, written_in}
use Rattle.raft_log_block_cache.specs.raft_log_dual_pipes.specs.Turning.{HasLast}
use Rattle.raft_log_block_cache.specs.Stored.{AreStored, Each, IsStored, entries_at, file_bytes}
use Rattle.raft_log_block_cache.specs.Written.{IsLaidOver, RunIsStored}
use Rattle.raft_log_block_cache.proofs.Public.{batch_whole, means_alike, written_entries_are_stored}
use Rattle.raft_log_block_cache.specs.raft_log_memtables.specs.Views.{AreMeant, ViewCarries, view_of}
use Rattle.raft_log_block_cache.specs.raft_log_dual_pipes.specs.Pipes.{State}
use Rattle.raft_log_block_cache.specs.raft_log_dual_pipes.specs.Calls.{AppendsTo, FailsToAppendTo}
use Rattle.raft_log_engine_laws.specs.EngineState.{LogDirectories, IsLaidOut, KeepsOrForgets, LogMap, EngineState}
use Rattle.raft_log_engine_laws.specs.Settled.{SameTables}
use Rattle.raft_log_engine_laws.specs.Holding.{FilesRiseIn, Represents, NotesEndIn}
use Rattle.raft_log_engine_laws.specs.Writing.{items_at}
use Rattle.raft_log_engine_laws.proofs.Renaming.{places_say}
use Rattle.raft_log_engine_laws.specs.Rewriting.{CountsAlone, HasCopies, RewriteLeaves, SaysAt, moved_to}
use Rattle.raft_log_engine_laws.proofs.Rewriting.{bytes_of, record_refused, record_written}

-- The view goes on by the copies.

up_to_in : (n : ℕ) (ps : List Place) → AllIn n ps → AllUpTo n ps
up_to_in n [] all = tt
up_to_in n (p ∷ ps) (first, rest) = (omega (arith, first), up_to_in n ps rest)

moves_up_to : (n : ℕ) (xs : List (Item Place (List ℕ))) → AreInFile n xs → AreUpTo n (moves_of n xs)
moves_up_to n [] lie = tt
moves_up_to n (Run f ps ∷ xs) (first, rest) = (up_to_in n ps first, moves_up_to n xs rest)
moves_up_to n (Put k w ∷ xs) lie = (omega arith, moves_up_to n xs lie)
moves_up_to n (Clean ∷ xs) lie = moves_up_to n xs lie
moves_up_to n (Compact c ∷ xs) lie = moves_up_to n xs lie
moves_up_to n (Del k ∷ xs) lie = moves_up_to n xs lie

moves_in : (n : ℕ) (xs : List (Item Place (List ℕ))) → AreInFile n xs → MovesIn n (moves_of n xs)
moves_in n [] lie = tt
moves_in n (Run f ps ∷ xs) (first, rest) = (first, moves_in n xs rest)
moves_in n (Put k w ∷ xs) lie = moves_in n xs lie
moves_in n (Clean ∷ xs) lie = moves_in n xs lie
moves_in n (Compact c ∷ xs) lie = moves_in n xs lie
moves_in n (Del k ∷ xs) lie = moves_in n xs lie

-- of each group the batch says its copies
pub copies_said : (at : Located → List ℕ) (block : FileBlockHandle) (b : Batch) → SaysAt at block b → (g : ℕ) → of_group g (bytes_of b) ≡ copied_items at (of_group g (items_at block b))
copies_said at block b says g = ap (of_group g) (sym says) ∙ of_group_renamed (λ p. at (in_queue false p)) g (items_at block b)

-- so many moves of each group
abbrev moves_at : FileBlockHandle → Batch → ℕ → List Move
moves_at block b g = moves_of block.id.seq (of_group g (items_at block b))

module _ (at : Located → List ℕ) (gate : Option ℕ) (block : FileBlockHandle) (b : Batch) (v : ℕ → Shown) (m : LogMap) (meant : AreMeant at v m) (says : SaysAt at block b) (copies : HasCopies gate b v m) where
  these : (g : ℕ) → AreCopies at gate block.id.seq (v g) (of_group g (items_at block b))
  these = copies block at meant says

  each_moved : (g : ℕ) → (moved_to gate block b v g ≡ all_moved (v g) (moves_at block b g)) × CanAllMove at (v g) (moves_at block b g)
      × (copies_of at (v g) (moves_at block b g) ≡ copied_items at (of_group g (items_at block b)))
  each_moved g = copies_move at gate block.id.seq (v g) (of_group g (items_at block b)) (meant.orderly g) (these g)

  pub all_are_moved : moved_to gate block b v ≡ (λ g. all_moved (v g) (moves_at block b g))
  all_are_moved = fun_ext (λ g. (each_moved g).0)

  moved_carries : ViewCarries at block.id.seq v (λ g. all_moved (v g) (moves_at block b g)) m (bytes_of b)
  moved_carries =
      copies_on at block.id.seq v m (moves_at block b) (bytes_of b) meant (λ g. (each_moved g).1) (λ g. moves_up_to block.id.seq (of_group g (items_at block b)) (lie g))
      (λ g. copies_said at block b says g ∙ sym (each_moved g).2)
    where
      lie : (g : ℕ) → AreInFile block.id.seq (of_group g (items_at block b))
      lie g = written_in (block_place block b.entries) b.items g

  pub copies_carry : ViewCarries at block.id.seq v (moved_to gate block b v) m (bytes_of b)
  copies_carry = subst (λ u. ViewCarries at block.id.seq v u m (bytes_of b)) (sym all_are_moved) moved_carries

-- Entries that moved lie in the log.

module _ (P : Located → Type 0) where
  fewer : (r k : ℕ) (ps : List Place) → k ≤ r → Each P (located r ps) → Each P (located k (take k ps))
  fewer r zero ps less all = tt
  fewer zero (suc k) ps less all = absurd (omega (arith, less))
  fewer (suc r) (suc k) [] less all = tt
  fewer (suc r) (suc k) (p ∷ ps) less (first, rest) = (first, fewer r k ps (omega (arith, less)) rest)

  behind : (r k : ℕ) (ps : List Place) → r ≤ k → Each P (located r ps) → Each P (located 0 (drop k ps))
  behind zero zero ps less all = all
  behind zero (suc k) [] less all = tt
  behind zero (suc k) (p ∷ ps) less (first, rest) = behind zero k ps (omega arith) rest
  behind (suc r) zero ps less all = absurd (omega (arith, less))
  behind (suc r) (suc k) [] less all = tt
  behind (suc r) (suc k) (p ∷ ps) less (first, rest) = behind r k ps (omega (arith, less)) rest

  -- new places in Rewrite, and others behind them in Append
  put_on : (ps rest : List Place) → Each (λ p. P (in_queue false p)) ps → Each P (located 0 rest) → Each P (located (length ps) (ps ++ rest))
  put_on [] rest all others = others
  put_on (p ∷ ps) rest (first, all) others = (first, put_on ps rest all others)

  put_behind : (k : ℕ) (front ps rest : List Place) → length front ≡ k → Each P (located k front) → Each (λ p. P (in_queue false p)) ps → Each P (located 0 rest)
      → Each P (located (k + length ps) (front ++ (ps ++ rest)))
  put_behind zero [] ps rest long before all others = let same : length ps ≡ 0 + length ps = omega arith in subst (λ (n : ℕ). Each P (located n (ps ++ rest))) same (put_on ps rest all others)
  put_behind zero (q ∷ front) ps rest long before all others = absurd (omega (arith, long))
  put_behind (suc k) [] ps rest long before all others = absurd (omega (arith, long))
  put_behind (suc k) (q ∷ front) ps rest long (first, before) all others =
      let same : suc (k + length ps) ≡ suc k + length ps = omega arith in
      subst (λ (n : ℕ). Each P (located n (q ∷ (front ++ (ps ++ rest))))) same (first, put_behind k front ps rest (omega (arith, long)) before all others)

  -- the places of a move
  abbrev pub OfMove : Move → Type 0
  OfMove (MoveRun f ps) = Each (λ p. P (in_queue false p)) ps
  OfMove (MoveKey k n) = Unit {0}

  pub moved_lies : (at : Located → List ℕ) (v : Shown) (x : Move) → IsOrderly v → CanMove at v x → OfMove x → Each P (located v.rewritten v.places)
      → Each P (located (moved v x).rewritten (moved v x).places)
  moved_lies at v (MoveRun f ps) orderly can lie all =
      let k = f - v.first in
      let low : k ≤ v.rewritten = omega (arith, can.0, can.1) in
      let high : v.rewritten ≤ k + length ps = omega (arith, can.0, can.2) in
      let long : length (take k v.places) ≡ k = omega (arith, length-take k v.places, low, orderly.parts) in
      put_behind k (take k v.places) ps (drop (k + length ps) v.places) long (fewer v.rewritten k v.places low all) lie (behind v.rewritten (k + length ps) v.places high all)
  moved_lies at v (MoveKey key n) orderly can lie all = all

-- The batch's entries lie where they were written.

-- the log with its queues told the other way round
abbrev pub turned_round : State → State
turned_round s = record { append = s.rewrite; rewrite = s.append; disk = s.disk }

module _ (s : State) (r : LogRecord) (block : FileBlockHandle) (b : Batch) (spans : s.rewrite.first ≤ s.rewrite.files.last) (some : b.items ≡ [] → ⊥) (laid : IsLaidOut b) (says : SaysItself (signed_for b) b) (last : HasLast (signed_for b) r block s.rewrite.files) where
  over : IsLaidOver b.items b.entries
  over = record { some = some; laid = laid.laid; adds = laid.adds }

  pub says_there : SaysAt (entries_at s) block b
  says_there = (written_entries_are_stored (turned_round s) r block b.items b.entries spans over (batch_whole b some says) last).1

  pub runs_there : (g : ℕ) → Each (RunIsStored (turned_round s)) (of_group g (items_at block b))
  runs_there g = (written_entries_are_stored (turned_round s) r block b.items b.entries spans over (batch_whole b some says) last).0 g

module _ (s : State) (at : Located → List ℕ) (n : ℕ) where
  all_lie : (v : Shown) (xs : List (Item Place (List ℕ))) → IsOrderly v → CanAllMove at v (moves_of n xs) → Each (RunIsStored (turned_round s)) xs → Each (IsStored s) (located v.rewritten v.places)
      → Each (IsStored s) (located (all_moved v (moves_of n xs)).rewritten (all_moved v (moves_of n xs)).places)
  all_lie v [] orderly can lie all = all
  all_lie v (Run f ps ∷ xs) orderly can lie all =
      all_lie (moved v (MoveRun f ps)) xs (move_orderly at v (MoveRun f ps) orderly can.0) can.1 lie.1 (moved_lies (IsStored s) at v (MoveRun f ps) orderly can.0 lie.0 all)
  all_lie v (Put k w ∷ xs) orderly can lie all = all_lie (moved v (MoveKey k n)) xs (move_orderly at v (MoveKey k n) orderly can.0) can.1 lie.1 all
  all_lie v (Clean ∷ xs) orderly can lie all = all_lie v xs orderly can lie.1 all
  all_lie v (Compact c ∷ xs) orderly can lie all = all_lie v xs orderly can lie.1 all
  all_lie v (Del k ∷ xs) orderly can lie all = all_lie v xs orderly can lie.1 all

copies_stored : (s : State) (gate : Option ℕ) (block : FileBlockHandle) (b : Batch) (v : ℕ → Shown) (m : LogMap) → AreMeant (entries_at s) v m → SaysAt (entries_at s) block b → HasCopies gate b v m
    → ((g : ℕ) → Each (RunIsStored (turned_round s)) (of_group g (items_at block b))) → AreStored s v → AreStored s (moved_to gate block b v)
copies_stored s gate block b v m meant says copies lie stored =
    subst (λ u. AreStored s u) (sym (all_are_moved (entries_at s) gate block b v m meant says copies))
    (λ g. all_lie s (entries_at s) block.id.seq (v g) (of_group g (items_at block b)) (meant.orderly g) (each_moved (entries_at s) gate block b v m meant says copies g).1 (lie g) (stored g))

-- They lie in the last file of Rewrite, and so in no earlier one than all that stands there.
moved_rises : (s : State) (gate : Option ℕ) (block : FileBlockHandle) (b : Batch) (v : ℕ → Shown) (m : LogMap) → block.id.seq ≡ s.rewrite.files.last → AreMeant (entries_at s) v m → SaysAt (entries_at s) block b
    → HasCopies gate b v m → FilesRiseIn s v → FilesRiseIn s (moved_to gate block b v)
moved_rises s gate block b v m number meant says copies rises =
    subst (λ u. FilesRiseIn s u) (sym (all_are_moved (entries_at s) gate block b v m meant says copies)) each
  where
    lie : (g : ℕ) → AreInFile block.id.seq (of_group g (items_at block b))
    lie g = written_in (block_place block b.entries) b.items g

    each : FilesRiseIn s (λ g. all_moved (v g) (moves_at block b g))
    each g =
        subst (λ (n : ℕ). FilesRise s.append.files.last n (all_moved (v g) (moves_at block b g))) number
        (copies_rise (entries_at s) s.append.files.last s.rewrite.files.last block.id.seq (v g) (moves_at block b g) (meant.orderly g) (rises g) (omega (arith, number))
        (each_moved (entries_at s) gate block b v m meant says copies g).1 (moves_in block.id.seq (of_group g (items_at block b)) (lie g)))

-- Copies change nothing of what is noted.
pub moved_noted : (v : Shown) (xs : List Move) → (all_moved v xs).noted ≡ v.noted
moved_noted v [] = refl
moved_noted v (MoveRun f ps ∷ xs) = moved_noted (moved v (MoveRun f ps)) xs
moved_noted v (MoveKey k n ∷ xs) = moved_noted (moved v (MoveKey k n)) xs

copies_noted : (s : State) (gate : Option ℕ) (block : FileBlockHandle) (b : Batch) (v : ℕ → Shown) (m : LogMap) → AreMeant (entries_at s) v m → SaysAt (entries_at s) block b
    → HasCopies gate b v m → NotesEndIn s v → NotesEndIn s (moved_to gate block b v)
copies_noted s gate block b v m meant says copies noted =
    subst (λ u. NotesEndIn s u) (sym (all_are_moved (entries_at s) gate block b v m meant says copies))
    (λ g files is. noted g files (sym (moved_noted (v g) (moves_at block b g)) ∙ is))

-- A batch that may be there or not: told as if it were written behind all that stands.

-- behind all that stands in that file of Rewrite
abbrev pub behind_all : State → ℕ → ℕ
behind_all s n = suc (length (file_bytes s.rewrite.files n))

abbrev pub block_behind : State → ℕ → FileBlockHandle
block_behind s n = record { id = record { queue = Rewrite; seq = n }; offset = behind_all s n; len = 0 }

-- the place is there
abbrev pub is_behind : State → ℕ → Located → Bool
is_behind s n l = not l.appended && (nat_eq l.place.file n && nat_le (behind_all s n) l.place.offset)

-- there are the batch's bytes, elsewhere what stood there
abbrev pub bytes_behind : State → ℕ → Batch → Located → List ℕ
bytes_behind s n b l = if is_behind s n l then take l.place.entry_len (drop l.place.entry_offset b.entries) else entries_at s l

here : (s : State) (n : ℕ) (b : Batch) (e : EntryIndex) → bytes_behind s n b (in_queue false (place_of (written_entry (block_place (block_behind s n) b.entries) e))) ≡ entry_bytes b.entries e
here s n b e =
    let same : nat_eq n n ≡ true = (Decides-eqb n n).1 refl in
    let high : nat_le (behind_all s n) (behind_all s n + 16) ≡ true = elim (leb_tells (behind_all s n) (behind_all s n + 16)) [ inl is ↦ is.0 | inr not ↦ absurd (omega (arith, not.1)) ] in
    ap (λ (t : Bool). if (t && nat_le (behind_all s n) (behind_all s n + 16)) then entry_bytes b.entries e else entries_at s (in_queue false (place_of (written_entry (block_place (block_behind s n) b.entries) e)))) same
    ∙ ap (λ (t : Bool). if t then entry_bytes b.entries e else entries_at s (in_queue false (place_of (written_entry (block_place (block_behind s n) b.entries) e)))) high

pub says_behind : (s : State) (n : ℕ) (b : Batch) → SaysAt (bytes_behind s n b) (block_behind s n) b
says_behind s n b = places_say (λ l. bytes_behind s n b (in_queue false l.place)) (entry_bytes b.entries) (block_place (block_behind s n) b.entries) b.items (here s n b)

-- what stood there isn't behind it
pub not_behind : (s : State) (n : ℕ) (l : Located) → IsStored s l → is_behind s n l ≡ false
not_behind s n l lies = in_queue_of l.appended refl
  where
    high : nat_eq l.place.file n ≡ true → IsStored s (in_queue false l.place) → nat_le (behind_all s n) l.place.offset ≡ false
    high same there =
        let file : l.place.file ≡ n = (Decides-eqb l.place.file n).0 same in
        let inside = there.block.inside in
        let long : length (file_bytes s.rewrite.files l.place.file) ≡ length (file_bytes s.rewrite.files n) = ap (λ (k : ℕ). length (file_bytes s.rewrite.files k)) file in
        elim (leb_tells (behind_all s n) l.place.offset) [ inl is ↦ absurd (omega (arith, is.1, inside, long)) | inr is ↦ is.0 ]

    in_file : (t : Bool) → nat_eq l.place.file n ≡ t → IsStored s (in_queue false l.place) → (t && nat_le (behind_all s n) l.place.offset) ≡ false
    in_file true same there = high same there
    in_file false other there = refl

    in_queue_of : (q : Bool) → l.appended ≡ q → (not q && (nat_eq l.place.file n && nat_le (behind_all s n) l.place.offset)) ≡ false
    in_queue_of true is = refl
    in_queue_of false is = in_file (nat_eq l.place.file n) refl (subst (λ (t : Bool). IsStored s (in_queue t l.place)) is lies)

elsewhere : (s : State) (n : ℕ) (b : Batch) (ls : List Located) → Each (IsStored s) ls → Each (λ l. bytes_behind s n b l ≡ entries_at s l) ls
elsewhere s n b [] all = tt
elsewhere s n b (l ∷ ls) (first, rest) =
    (ap (λ (t : Bool). if t then take l.place.entry_len (drop l.place.entry_offset b.entries) else entries_at s l) (not_behind s n l first), elsewhere s n b ls rest)

pub meant_behind : (s : State) (n : ℕ) (b : Batch) (v : ℕ → Shown) (m : LogMap) → AreStored s v → AreMeant (entries_at s) v m → AreMeant (bytes_behind s n b) v m
meant_behind s n b v m stored meant = means_alike (entries_at s) (bytes_behind s n b) v m (λ g. elsewhere s n b (located (v g).rewritten (v g).places) (stored g)) meant

may_carry : (s : State) (n : ℕ) (gate : Option ℕ) (b : Batch) (v : ℕ → Shown) (m : LogMap) → AreStored s v → AreMeant (entries_at s) v m → HasCopies gate b v m
    → CarriesTo (bytes_of b) n (view_of v m) (view_of (moved_to gate (block_behind s n) b v) m)
may_carry s n gate b v m stored meant copies =
    (copies_carry (bytes_behind s n b) gate (block_behind s n) b v m (meant_behind s n b v m stored meant) (says_behind s n b) copies).carries

-- The laws.

-- the map that is held is the one that was told
pub held_map : (home : LogDirectories) (e : EngineState) (m : LogMap) (h : Represents home e m []) → m ≡ h.map
held_map home e m h = sym h.at.stands.map

pub copies_written : (home : LogDirectories) (e t : EngineState) (gate : Option ℕ) (b : Batch) (block : FileBlockHandle) (m : LogMap) → Represents home e m [] → CountsAlone b → HasCopies gate b e.tables m
    → AppendsTo InRewrite (signed_for b) block e.pipes t.pipes → t.tables ≡ moved_to gate block b e.tables → KeepsOrForgets e t → Represents home t m []
copies_written home e t gate b block m h alone copies call same kept =
    let these : HasCopies gate b e.tables h.map = subst (λ k. HasCopies gate b e.tables k) (held_map home e m h) copies in
    record_written home e t b block m h alone call (moved_to gate block b e.tables) same kept
    (λ s r last spans stored rises noted meant.
    let says = says_there s r block b spans alone.some alone.laid alone.says last in (
      copies_stored s gate block b e.tables h.map meant says these (runs_there s r block b spans alone.some alone.laid alone.says last) stored,
      moved_rises s gate block b e.tables h.map last.number meant says these rises,
      copies_noted s gate block b e.tables h.map meant says these noted,
      copies_carry (entries_at s) gate block b e.tables h.map meant says these,
    ))

pub copies_refused : (home : LogDirectories) (e t : EngineState) (gate : Option ℕ) (b : Batch) (m : LogMap) (error : Error) → Represents home e m [] → CountsAlone b → HasCopies gate b e.tables m → SameTables e t
    → FailsToAppendTo InRewrite (signed_for b) error e.pipes t.pipes → RewriteLeaves home m t error
copies_refused home e t gate b m error h alone copies same call =
    let these : HasCopies gate b e.tables h.map = subst (λ k. HasCopies gate b e.tables k) (held_map home e m h) copies in
    record_refused home e t b m error h alone same (λ n. view_of (moved_to gate (block_behind h.state n) b e.tables) h.map)
    (λ n. may_carry h.state n gate b e.tables h.map h.stored h.meant these) call

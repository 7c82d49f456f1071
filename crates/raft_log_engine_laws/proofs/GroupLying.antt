-- The parts of a group lie where they were written, and say what they said.
use Rattle.std.proofs.Common.{◌≡◌, ℕ, ◌≤◌, Bool, false, if◌then◌else◌, List, [], ◌∷◌, ◌++◌, map, take, drop, refl, sym, ap, subst, ◌∙◌, arith}
use Rattle.std.specs.Prelude.{IsOk}
use Rattle.raft_log_model_laws.specs.Item.{Item}
use Rattle.raft_log_model_laws.specs.Item.Item.{Clean, Compact, Del, Put, Run}
use Rattle.raft_log_model_laws.specs.Groups.{of_group}
use Rattle.raft_log_model_laws.specs.Renamed.{renamed}
use Rattle.raft_log_record_base.specs.declared.pipe_log.FileBlockHandle.{FileBlockHandle}
use Rattle.raft_log_record_frames.specs.Record.{block_of}
use Rattle.raft_log_active_file.specs.declared.record.LogRecord.{LogRecord}
use Rattle.raft_log_record_batches.specs.Batch.{Batch}
use Rattle.raft_log_block_cache.specs.Signing.{SaysItself, signed_for}
use Rattle.raft_log_block_cache.specs.raft_log_dual_pipes.specs.Turning.{HasLast}
use Rattle.raft_log_extents.specs.declared.place.Place.{Place}
use Rattle.raft_log_memtable_index.specs.Bridge.{Located, in_queue}
use Rattle.raft_log_block_cache.specs.raft_log_memtables.specs.Rewriting.{copied_items}
use Rattle.raft_log_block_cache.specs.Stored.{Each, EntryLiesIn, KeepsLog, entries_at, part}
use Rattle.raft_log_block_cache.specs.Written.{RunIsStored}
use Rattle.raft_log_block_cache.proofs.Public.{block_stays}
use Rattle.raft_log_block_cache.specs.raft_log_dual_pipes.specs.Pipes.{State}
use Rattle.raft_log_engine_laws.specs.EngineState.{IsLaidOut}
use Rattle.raft_log_engine_laws.specs.Writing.{items_at}
use Rattle.raft_log_engine_laws.proofs.Copying.{block_behind, bytes_behind, copies_said, not_behind, runs_there, says_behind, says_there, turned_round}
use Rattle.raft_log_engine_laws.specs.Parts.{FilesGoUp, LiesInRewrite, OfEntries, SaysPart, WrittenPart}

pub each_on : {A : Type 0} (P Q : A → Type 0) (xs : List A) → ((x : A) → P x → Q x) → Each P xs → Each Q xs
each_on P Q [] on all = tt
each_on P Q (x ∷ xs) on (first, rest) = (on x first, each_on P Q xs on rest)

pub entries_on : (P Q : Place → Type 0) → ((p : Place) → P p → Q p) → (x : Item Place (List ℕ)) → OfEntries P x → OfEntries Q x
entries_on P Q on (Run f ps) all = each_on P Q ps on all
entries_on P Q on Clean all = tt
entries_on P Q on (Compact c) all = tt
entries_on P Q on (Put k w) all = tt
entries_on P Q on (Del k) all = tt

pub items_on : (P Q : Place → Type 0) → ((p : Place) → P p → Q p) → (xs : List (Item Place (List ℕ))) → Each (OfEntries P) xs → Each (OfEntries Q) xs
items_on P Q on xs all = each_on (OfEntries P) (OfEntries Q) xs (entries_on P Q on) all

-- What is read by two functions that agree on the places.
module _ (at to : Located → List ℕ) where
  abbrev Agrees : Place → Type 0
  Agrees p = to (in_queue false p) ≡ at (in_queue false p)

  places_alike : (ps : List Place) → Each Agrees ps → map (λ p. to (in_queue false p)) ps ≡ map (λ p. at (in_queue false p)) ps
  places_alike [] all = refl
  places_alike (p ∷ ps) (first, rest) =
      ap (λ b. b ∷ map (λ q. to (in_queue false q)) ps) first ∙ ap (λ l. at (in_queue false p) ∷ l) (places_alike ps rest)

  item_alike : (x : Item Place (List ℕ)) → OfEntries Agrees x → renamed {V = List ℕ} (λ p. to (in_queue false p)) x ≡ renamed (λ p. at (in_queue false p)) x
  item_alike (Run f ps) all = ap (λ l. Run f l) (places_alike ps all)
  item_alike Clean all = refl
  item_alike (Compact c) all = refl
  item_alike (Put k w) all = refl
  item_alike (Del k) all = refl

  copies_alike : (xs : List (Item Place (List ℕ))) → Each (OfEntries Agrees) xs → copied_items to xs ≡ copied_items at xs
  copies_alike [] all = refl
  copies_alike (x ∷ xs) (first, rest) =
      ap (λ y. y ∷ copied_items to xs) (item_alike x first) ∙ ap (λ l. renamed (λ p. at (in_queue false p)) x ∷ l) (copies_alike xs rest)

  says_alike : (P : Place → Type 0) (p : WrittenPart) → ((q : Place) → P q → Agrees q) → ((g : ℕ) → Each (OfEntries P) (of_group g (items_at p.block p.batch))) → SaysPart at p → SaysPart to p
  says_alike P p agree all says g = copies_alike (of_group g (items_at p.block p.batch)) (items_on P Agrees agree (of_group g (items_at p.block p.batch)) (all g)) ∙ says g

-- In a log that keeps what it has the parts lie still.
module _ (s t : State) (keeps : KeepsLog s t) where
  entry_stays : (p : Place) → EntryLiesIn s.rewrite p → EntryLiesIn t.rewrite p × (entries_at t (in_queue false p) ≡ entries_at s (in_queue false p))
  entry_stays p lies =
      let (block, is) = block_stays s.rewrite t.rewrite keeps.rewrite keeps.rewrite_first p.file p.offset p.len lies.block in
      (record { block = block; whole = subst (λ (l : List ℕ). IsOk (block_of l)) (sym is) lies.whole; entry = lies.entry }, ap (part p.entry_offset p.entry_len) is)

  part_stays : (p : WrittenPart) → LiesInRewrite s p → LiesInRewrite t p
  part_stays p lies = record {
    entries = λ g. items_on (EntryLiesIn s.rewrite) (EntryLiesIn t.rewrite) (λ q there. (entry_stays q there).0) (of_group g (items_at p.block p.batch)) (lies.entries g);
    says = says_alike (entries_at s) (entries_at t) (EntryLiesIn s.rewrite) p (λ q there. (entry_stays q there).1) lies.entries lies.says;
  }

  pub parts_stay : (ps : List WrittenPart) → Each (LiesInRewrite s) ps → Each (LiesInRewrite t) ps
  parts_stay ps all = each_on (LiesInRewrite s) (LiesInRewrite t) ps part_stays all

-- One more part is the last record of Rewrite.
run_lies : (s : State) (x : Item Place (List ℕ)) → RunIsStored (turned_round s) x → OfEntries (EntryLiesIn s.rewrite) x
run_lies s (Run f ps) all = all
run_lies s Clean all = tt
run_lies s (Compact c) all = tt
run_lies s (Put k w) all = tt
run_lies s (Del k) all = tt

pub part_lies : (s : State) (r : LogRecord) (block : FileBlockHandle) (b : Batch) → s.rewrite.first ≤ s.rewrite.files.last → (b.items ≡ [] → ⊥) → IsLaidOut b → SaysItself (signed_for b) b
    → HasLast (signed_for b) r block s.rewrite.files → LiesInRewrite s (record { block = block; batch = b })
part_lies s r block b spans some laid says last = record {
  entries = λ g. each_on (RunIsStored (turned_round s)) (OfEntries (EntryLiesIn s.rewrite)) (of_group g (items_at block b)) (run_lies s) (runs_there s r block b spans some laid says last g);
  says = λ g. sym (copies_said (entries_at s) block b (says_there s r block b spans some laid says last) g);
}

-- One more part that may be there or not: told as if it were behind all that stands.
part_behind : (s : State) (n : ℕ) (b : Batch) (p : WrittenPart) → LiesInRewrite s p → SaysPart (bytes_behind s n b) p
part_behind s n b p lies =
    says_alike (entries_at s) (bytes_behind s n b) (EntryLiesIn s.rewrite) p
    (λ q there. ap (λ (t : Bool). if t then take q.entry_len (drop q.entry_offset b.entries) else entries_at s (in_queue false q)) (not_behind s n (in_queue false q) there)) lies.entries lies.says

pub parts_behind : (s : State) (n : ℕ) (b : Batch) (ps : List WrittenPart) → Each (LiesInRewrite s) ps → Each (SaysPart (bytes_behind s n b)) ps
parts_behind s n b ps all = each_on (LiesInRewrite s) (SaysPart (bytes_behind s n b)) ps (part_behind s n b) all

pub new_part_behind : (s : State) (n : ℕ) (b : Batch) → SaysPart (bytes_behind s n b) (record { block = block_behind s n; batch = b })
new_part_behind s n b g = sym (copies_said (bytes_behind s n b) (block_behind s n) b (says_behind s n b) g)

pub each_more : {A : Type 0} (P : A → Type 0) (xs : List A) (x : A) → Each P xs → P x → Each P (xs ++ x ∷ [])
each_more P [] x all one = (one, tt)
each_more P (y ∷ ys) x (first, rest) one = (first, each_more P ys x rest one)

-- files of parts
pub one_more_file : (low high n : ℕ) (ps : List WrittenPart) (p : WrittenPart) → high ≤ n → p.block.id.seq ≡ n → FilesGoUp low high ps → FilesGoUp low n (ps ++ p ∷ [])
one_more_file low high n [] p up is all = (omega (arith, up, is, all), omega (arith, is))
one_more_file low high n (q ∷ ps) p up is (first, rest) = (first, one_more_file q.block.id.seq high n ps p up is rest)

pub later_file : (low high n : ℕ) (ps : List WrittenPart) → high ≤ n → FilesGoUp low high ps → FilesGoUp low n ps
later_file low high n [] up all = omega (arith, up, all)
later_file low high n (q ∷ ps) up (first, rest) = (first, later_file q.block.id.seq high n ps up rest)

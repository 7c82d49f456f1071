-- The part that ends an atomic group.
use Rattle.std.proofs.Common.{◌≡◌, ℕ, ◌≤◌, min, max, nat_le, Bool, true, false, if◌then◌else◌, List, [], ◌∷◌, ◌++◌, length, map, Option, None, Some, ◌+◌, refl, sym, ap, ap₂, subst, ◌∙◌, arith, append_assoc, append-nil}
use Rattle.std.proofs.lemmas.Bool.{false≢true}
use Rattle.std.proofs.lemmas.List.{map-append}
use std.Path.{fun_ext}
use Rattle.raft_log_model_laws.specs.Item.{Item, Tagged}
use Rattle.raft_log_model_laws.specs.Item.Item.{Clean, Compact, Del, Put, Run}
use Rattle.raft_log_model_laws.specs.Item.Mark.{End}
use Rattle.raft_log_model_laws.specs.Item.Record.{Part}
use Rattle.raft_log_model_laws.specs.Groups.{of_group}
use Rattle.raft_log_model_laws.specs.Renamed.{renamed}
use Rattle.raft_log_machine_laws.specs.Machine.{IsJoined}
use Rattle.raft_log_machine_laws.specs.Unbroken.{joined}
use Rattle.raft_log_machine_laws.proofs.Public.{end_answered, end_may_be_there, of_group_append}
use Rattle.raft_log_record_base.specs.declared.errors.Error.{Error}
use Rattle.raft_log_record_base.specs.declared.pipe_log.FileBlockHandle.{FileBlockHandle}
use Rattle.raft_log_record_frames.specs.declared.status.AtomicGroupStatus.TheVariants as statuses
use Rattle.raft_log_record_batches.specs.Batch.{Batch}
use Rattle.raft_log_block_cache.specs.Signing.{signed_for}
use Rattle.raft_log_machine_laws.specs.Calls.Which.{InRewrite}
use Rattle.raft_log_block_cache.specs.raft_log_dual_pipes.specs.Crash.{AllowsIn}
use Rattle.raft_log_block_cache.specs.raft_log_dual_pipes.specs.State.{Ties}
use Rattle.raft_log_block_cache.specs.raft_log_dual_pipes.specs.Steps.{next_log}
use Rattle.raft_log_extents.specs.declared.place.Place.{Place}
use Rattle.raft_log_memtable_index.specs.declared.group_files.GroupFiles.{GroupFiles}
use Rattle.raft_log_memtable_index.specs.Shown.{IsOrderly, Shown}
use Rattle.raft_log_memtable_index.specs.Bridge.{CanAllMove, Located, all_moved, in_queue, items_of as copies_of, located, moved_key, moved_run}
use Rattle.raft_log_memtable_index.specs.Bridge.Move.{MoveKey, MoveRun}
use Rattle.raft_log_memtable_index.specs.Noted.{FilesRise, IsLeastInRewrite, noting, with_note}
use Rattle.raft_log_memtable_index.proofs.Public.{move_orderly}
use Rattle.raft_log_memtable.proofs.Public.{front_is_least, noted_by_least}
use Rattle.raft_log_memtable.specs.Table.{shown}
use Rattle.raft_log_block_cache.specs.raft_log_memtables.specs.Rewriting.{copied_items}
use Rattle.raft_log_block_cache.specs.Stored.{AreStored, Each, EntryLiesIn, IsStored, entries_at}
use Rattle.raft_log_block_cache.proofs.Public.{stored_entries_stay}
use Rattle.raft_log_block_cache.specs.raft_log_memtables.specs.Views.{AreMeant, ended, view_of}
use Rattle.raft_log_block_cache.specs.raft_log_memtables.proofs.Public.{group_ends}
use Rattle.raft_log_block_cache.specs.raft_log_dual_pipes.specs.Calls.{AppendsTo, FailsToAppendTo}
use Rattle.raft_log_block_cache.specs.raft_log_dual_pipes.specs.Pipes.{State}
use Rattle.raft_log_engine_laws.specs.EngineState.{LogDirectories, KeepsOrForgets, LogMap, EngineState, log_in}
use Rattle.raft_log_engine_laws.specs.Holding.{FilesRiseIn, Represents, NotesEndIn}
use Rattle.raft_log_engine_laws.specs.Writing.{items_at}
use Rattle.raft_log_engine_laws.proofs.Keeping.{notes_on, rise_on}
use Rattle.raft_log_engine_laws.specs.Rewriting.{RewriteLeaves}
use Rattle.raft_log_engine_laws.specs.Settled.{SameTables}
use Rattle.raft_log_engine_laws.proofs.Copying.{block_behind, bytes_behind, held_map, meant_behind, moved_lies, moved_noted}
use Rattle.raft_log_engine_laws.proofs.Rewriting.{IsTaken, held_taken, record_taken, refusal_leaves}
use Rattle.raft_log_engine_laws.specs.Parts.{FilesGoUp, HoldsInGroup, IsGroupPart, LiesInRewrite, OfEntries, SaysPart, UnendedGroup, WrittenPart, parts_of, said_items}
use Rattle.raft_log_engine_laws.specs.Whole.{Filed, HasWhole, IsWholeCopy, RunPiece, all_places, batches_of, filed_in, filed_copies, filed_items, filed_moves, in_one, in_pieces, parts_moved, whole_moves}
use Rattle.raft_log_engine_laws.specs.Ending.{ShowsWhole, TakesWhole, WholeGroupsAreNoted, WholeGroupsMayEnd, files_of_group, whole_end}
use Rattle.raft_log_engine_laws.proofs.GroupLying.{each_more, each_on, new_part_behind, one_more_file, part_lies, parts_behind, parts_stay}
use Rattle.raft_log_engine_laws.proofs.Whole.{whole_moved}
use Rattle.raft_log_engine_laws.proofs.Rising.{moved_rise, whole_up_to}
use Rattle.raft_log_engine_laws.proofs.Writing.{in_group, said_more, says_part}

-- The tables may take it.

no_items : {E : Type 0} (at : Located → E) (xs : List Filed) → xs ≡ [] → filed_copies at xs ≡ []
no_items at xs none = ap (filed_copies at) none

pub whole_may_end : {E : Type 0} → WholeGroupsMayEnd E
whole_may_end at gate ps v files items k w orderly up said = record {
  about = λ g is.
      let whole = whole_moved at gate (v g) g ps (orderly g) (w g) in
      record {
        can = whole.1;
        lie = whole_up_to at gate files.from files.to (v g) g ps up (w g);
        least = subst (λ u. IsLeastInRewrite u (k.least g)) whole.0 (k.lowest g is);
        taken_as = subst (λ l. IsJoined l (copies_of at (v g) (whole_moves (w g)))) (sym (said g)) whole.2;
      };
  others = λ g is. said g ∙ no_items at (filed_items g ps) (k.others g is);
}

pub whole_noted : WholeGroupsAreNoted
whole_noted t files a r orderly rise =
    let (least, low, is) = noted_by_least t files orderly.parts (front_is_least a r (shown t) rise) in
    (least, low, ap (λ n. record (shown t) { noted = Some n }) is)

-- The parts say the items of the group.

-- what lists of items have of a group
abbrev pub each_of_group : {E : Type 0} → ℕ → List (List (Tagged E (List ℕ))) → List (Item E (List ℕ))
each_of_group g [] = []
each_of_group g (xs ∷ more) = of_group g xs ++ each_of_group g more

joined_items : {E : Type 0} (g : ℕ) (first : List (Tagged E (List ℕ))) (more : List (List (Tagged E (List ℕ)))) → of_group g (joined first more) ≡ of_group g first ++ each_of_group g more
joined_items g first [] = sym (append-nil (of_group g first))
joined_items g first (xs ∷ more) =
    joined_items g (first ++ xs) more ∙ ap (λ l. l ++ each_of_group g more) (of_group_append g first xs) ∙ append_assoc (of_group g first) (of_group g xs) (each_of_group g more)

filed_said : {E : Type 0} (at : Located → E) (n : ℕ) (xs : List (Item Place (List ℕ))) (ys : List Filed) → filed_copies at (filed_in n xs ++ ys) ≡ copied_items at xs ++ filed_copies at ys
filed_said at n [] ys = refl
filed_said at n (x ∷ xs) ys = ap (λ l. renamed (λ p. at (in_queue false p)) x ∷ l) (filed_said at n xs ys)

pub parts_said : (at : Located → List ℕ) (g : ℕ) (ps : List WrittenPart) → Each (SaysPart at) ps → each_of_group g (map (λ p. said_items p.batch) ps) ≡ filed_copies at (filed_items g ps)
parts_said at g [] says = refl
parts_said at g (p ∷ ps) (first, rest) =
    ap₂ (λ a b. a ++ b) (sym (first g)) (parts_said at g ps rest) ∙ sym (filed_said at p.block.id.seq (of_group g (items_at p.block p.batch)) (filed_items g ps))

one_more_list : {E : Type 0} (g : ℕ) (more : List (List (Tagged E (List ℕ)))) (xs : List (Tagged E (List ℕ))) → each_of_group g (more ++ xs ∷ []) ≡ each_of_group g more ++ of_group g xs
one_more_list g [] xs = append-nil (of_group g xs)
one_more_list g (ys ∷ more) xs = ap (λ l. of_group g ys ++ l) (one_more_list g more xs) ∙ sym (append_assoc (of_group g ys) (each_of_group g more) (of_group g xs))

-- with the last part behind the others
group_said : (at : Located → List ℕ) (g : ℕ) (o : UnendedGroup) (p : WrittenPart) → Each (SaysPart at) (parts_of o ++ p ∷ [])
    → of_group g (joined (said_items o.first.batch) (said_more o) ++ said_items p.batch) ≡ filed_copies at (filed_items g (parts_of o ++ p ∷ []))
group_said at g o p says =
    of_group_append g (joined (said_items o.first.batch) (said_more o)) (said_items p.batch)
    ∙ ap (λ l. l ++ of_group g (said_items p.batch)) (joined_items g (said_items o.first.batch) (said_more o))
    ∙ append_assoc (of_group g (said_items o.first.batch)) (each_of_group g (said_more o)) (of_group g (said_items p.batch))
    ∙ ap (λ l. of_group g (said_items o.first.batch) ++ l)
    (sym (one_more_list g (said_more o) (said_items p.batch)) ∙ ap (each_of_group g) (sym (map-append (λ q. said_items q.batch) o.more (p ∷ []))))
    ∙ parts_said at g (parts_of o ++ p ∷ []) says

-- What moved lies in the log.

module _ (s : State) (at : Located → List ℕ) where
  abbrev Lies : Filed → Type 0
  Lies x = OfEntries (EntryLiesIn s.rewrite) x.item

  one_lies : (n : ℕ) (xs : List (Item Place (List ℕ))) (ys : List Filed) → Each (OfEntries (EntryLiesIn s.rewrite)) xs → Each Lies ys → Each Lies (filed_in n xs ++ ys)
  one_lies n [] ys here rest = rest
  one_lies n (x ∷ xs) ys (first, here) rest = (first, one_lies n xs ys here rest)

  parts_lie : (g : ℕ) (ps : List WrittenPart) → Each (LiesInRewrite s) ps → Each Lies (filed_items g ps)
  parts_lie g [] all = tt
  parts_lie g (p ∷ ps) (first, rest) = one_lies p.block.id.seq (of_group g (items_at p.block p.batch)) (filed_items g ps) (first.entries g) (parts_lie g ps rest)

  both_lie : (ps qs : List Place) → Each (EntryLiesIn s.rewrite) ps → Each (EntryLiesIn s.rewrite) qs → Each (EntryLiesIn s.rewrite) (ps ++ qs)
  both_lie [] qs here rest = rest
  both_lie (p ∷ ps) qs (first, here) rest = (first, both_lie ps qs here rest)

  pieces_lie : (f : ℕ) (ps : List RunPiece) (rest : List Filed) → Each Lies (in_pieces f ps ++ rest) → Each (EntryLiesIn s.rewrite) (all_places ps) × Each Lies rest
  pieces_lie f [] rest all = (tt, all)
  pieces_lie f (p ∷ ps) rest (first, others) = (let on = pieces_lie (f + length p.places) ps rest others in (both_lie p.places (all_places ps) first on.0, on.1))

  abbrev AllStored : Shown → Type 0
  AllStored v = Each (IsStored s) (located v.rewritten v.places)

  one_stored : (v : Shown) (n : ℕ) (x : Item Place (List ℕ)) (xs : List Filed) → IsOrderly v → CanAllMove at v (filed_moves (record { file = n; item = x } ∷ xs)) → OfEntries (EntryLiesIn s.rewrite) x
      → ((u : Shown) → IsOrderly u → CanAllMove at u (filed_moves xs) → AllStored u → AllStored (all_moved u (filed_moves xs))) → AllStored v
      → AllStored (all_moved v (filed_moves (record { file = n; item = x } ∷ xs)))
  one_stored v n (Run f ps) xs o can lie again all =
      again (moved_run v f ps) (move_orderly at v (MoveRun f ps) o can.0) can.1 (moved_lies (IsStored s) at v (MoveRun f ps) o can.0 lie all)
  one_stored v n (Put k w) xs o can lie again all = again (moved_key v k n) (move_orderly at v (MoveKey k n) o can.0) can.1 all
  one_stored v n Clean xs o can lie again all = again v o can all
  one_stored v n (Compact c) xs o can lie again all = again v o can all
  one_stored v n (Del k) xs o can lie again all = again v o can all

  filed_stored : (v : Shown) (xs : List Filed) → IsOrderly v → CanAllMove at v (filed_moves xs) → Each Lies xs → AllStored v → AllStored (all_moved v (filed_moves xs))
  filed_stored v [] o can lie all = all
  filed_stored v (x ∷ xs) o can lie all = one_stored v x.file x.item xs o can lie.0 (λ u p c here. filed_stored u xs p c lie.1 here) all

  in_one_stored : (v : Shown) (f : ℕ) (ps : List RunPiece) (rest : List Filed) → IsOrderly v → CanAllMove at v (filed_moves (in_one f ps ++ rest)) → Each Lies (in_pieces f ps ++ rest) → AllStored v
      → AllStored (all_moved v (filed_moves (in_one f ps ++ rest)))
  in_one_stored v f [] rest o can lie all = filed_stored v rest o can lie all
  in_one_stored v f (p ∷ ps) rest o can lie all =
      let (run, others) = pieces_lie f (p ∷ ps) rest lie in
      filed_stored (moved_run v f (all_places (p ∷ ps))) rest (move_orderly at v (MoveRun f (all_places (p ∷ ps))) o can.0) can.1 others
      (moved_lies (IsStored s) at v (MoveRun f (all_places (p ∷ ps))) o can.0 run all)

  whole_stored : (gate : Option ℕ) (v : Shown) (g : ℕ) (ps : List WrittenPart) (w : IsWholeCopy at gate v (filed_items g ps)) → IsOrderly v → Each (LiesInRewrite s) ps → AllStored v → AllStored (parts_moved gate g ps v)
  whole_stored gate v g ps w o lie all =
      let whole = whole_moved at gate v g ps o w in
      subst AllStored (sym whole.0) (in_one_stored v w.first w.pieces w.rest o whole.1 (subst (λ xs. Each Lies xs) w.items (parts_lie g ps lie)) all)

-- Refused: told as if it were behind all that stands.

pub batches_more : (ps : List WrittenPart) (p : WrittenPart) → batches_of (ps ++ p ∷ []) ≡ batches_of ps ++ p.batch ∷ []
batches_more ps p = map-append (λ q. q.batch) ps (p ∷ [])

pub end_refused : (home : LogDirectories) (e t : EngineState) (gate : Option ℕ) (o : UnendedGroup) (b : Batch) (m : LogMap) (error : Error) → HoldsInGroup home e m o → IsGroupPart o.number statuses.End b
    → HasWhole gate (batches_of (parts_of o) ++ b ∷ []) e.tables m → SameTables e t → FailsToAppendTo InRewrite (signed_for b) error e.pipes t.pipes → RewriteLeaves home m t error
end_refused home e t gate o b m error h is has same call =
    let s = h.holds.state in
    let n : ℕ = s.rewrite.files.last in
    let p : WrittenPart = record { block = block_behind s n; batch = b } in
    let ps : List WrittenPart = parts_of o ++ p ∷ [] in
    let at : Located → List ℕ = bytes_behind s n b in
    let files : GroupFiles = record { from = o.first.block.id.seq; to = n } in
    let meant : AreMeant at e.tables h.holds.map = meant_behind s n b e.tables h.holds.map h.holds.stored h.holds.meant in
    let says : Each (SaysPart at) ps = each_more (SaysPart at) (parts_of o) p (parts_behind s n b (parts_of o) h.parts) (new_part_behind s n b) in
    let w = has ps at (batches_more (parts_of o) p) (subst (λ k. AreMeant at e.tables k) (sym (held_map home e m h.holds)) meant) says in
    let took : TakesWhole gate ps e.tables = record { about = λ g. true; least = λ g. 0; lowest = λ g any. (λ i low high. omega arith, λ k x held there. omega arith); others = λ g never. absurd (false≢true (sym never)) } in
    let up : FilesGoUp files.from files.to ps = one_more_file o.first.block.id.seq n n (parts_of o) p (omega arith) refl h.files in
    let may = whole_may_end at gate ps e.tables files (joined (said_items o.first.batch) (said_more o) ++ said_items b) took w meant.orderly up (λ g. group_said at g o p says) in
    let ends = group_ends at (whole_end files took w) e.tables h.holds.map (said_items o.first.batch) (said_more o) (said_items b) meant may is.fits in
    refusal_leaves home e t m error h.holds same (signed_for b) (Part (End o.number) (said_items b)) (says_part home o.number statuses.End b is)
    (λ next may_be. end_may_be_there (Ties (log_in home)) (Ties (log_in home)) s next (view_of e.tables h.holds.map) m files.from o.number (said_items o.first.batch) (said_more o)
    (view_of (ended (whole_end files took w) e.tables) h.holds.map) (said_items b) may_be ends.ends (in_group home e m o h)) call

-- Written.

noted_rises : (a r : ℕ) (v : Shown) (least : ℕ) (files : GroupFiles) → FilesRise a r v → FilesRise a r (with_note v least files)
noted_rises a r v least files rise = record { appended = rise.appended; rewritten = rise.rewritten; in_append = rise.in_append; in_rewrite = rise.in_rewrite }

-- what is noted ends with the group, or where it ended before
noting_to : (n least : ℕ) (o : Option GroupFiles) (new : GroupFiles) → ((old : GroupFiles) → o ≡ Some old → old.to ≤ n) → new.to ≤ n → (noting least o new).to ≤ n
noting_to n least None new was high = high
noting_to n least (Some old) new was high = by (nat_le least old.to)
  where
    before : old.to ≤ n
    before = was old refl

    by : (b : Bool) → (if b then (record { from = min old.from new.from; to = max old.to new.to }) else new).to ≤ n
    by true = omega (arith, before, high)
    by false = high

same_files : (a b : GroupFiles) → ◌≡◌ {A = Option GroupFiles} (Some a) (Some b) → a ≡ b
same_files a b h = cc

noted_ends : (n : ℕ) (v : Shown) (least : ℕ) (new : GroupFiles) → new.to ≤ n → ((old : GroupFiles) → v.noted ≡ Some old → old.to ≤ n) → (files : GroupFiles)
    → (with_note v least new).noted ≡ Some files → files.to ≤ n
noted_ends n v least new high was files is = subst (λ (x : GroupFiles). x.to ≤ n) (same_files (noting least v.noted new) files is) (noting_to n least v.noted new was high)

-- what is true of each table once it took the group or stayed
took_each : (P : ℕ → Shown → Type 0) (gate : Option ℕ) (ps : List WrittenPart) (files : GroupFiles) (v u : ℕ → Shown) (k : ShowsWhole gate ps files v u)
    → ((g : ℕ) → P g (with_note (parts_moved gate g ps (v g)) (k.took.least g) files)) → ((g : ℕ) → P g (v g)) → (g : ℕ) → P g (u g)
took_each P gate ps files v u k moved stayed g = by_about (k.took.about g) refl
  where
    by_about : (b : Bool) → k.took.about g ≡ b → P g (u g)
    by_about true is = subst (P g) (sym (k.about g is)) (moved g)
    by_about false is = subst (P g) (sym (k.others g is)) (stayed g)

-- it is the end of the group
shows_end : (at : Located → List ℕ) (gate : Option ℕ) (ps : List WrittenPart) (files : GroupFiles) (v u : ℕ → Shown) (k : ShowsWhole gate ps files v u) (orderly : (g : ℕ) → IsOrderly (v g))
    (w : (g : ℕ) → IsWholeCopy at gate (v g) (filed_items g ps)) → u ≡ ended (whole_end files k.took w) v
shows_end at gate ps files v u k orderly w = fun_ext (λ g. by_about g (k.took.about g) refl)
  where
    by_about : (g : ℕ) (b : Bool) → k.took.about g ≡ b → u g ≡ (if b then with_note (all_moved (v g) (whole_moves (w g))) (k.took.least g) files else v g)
    by_about g true is = k.about g is ∙ ap (λ x. with_note x (k.took.least g) files) (whole_moved at gate (v g) g ps (orderly g) (w g)).0
    by_about g false is = k.others g is

-- what is known once Rewrite has taken the end
pub record EndIsTaken (home : LogDirectories) (e t : EngineState) (gate : Option ℕ) (o : UnendedGroup) (b : Batch) (block : FileBlockHandle) (m : LogMap) (h : HoldsInGroup home e m o) (k : IsTaken home e t m h.holds (signed_for b) (Part (End o.number) (said_items b)) block)
    (ps : List WrittenPart) : Type 0 where
  pub lie : Each (LiesInRewrite (next_log InRewrite h.holds.state k.files t.pipes.disk)) ps
  pub says : Each (SaysPart (entries_at (next_log InRewrite h.holds.state k.files t.pipes.disk))) ps
  pub meant : AreMeant (entries_at (next_log InRewrite h.holds.state k.files t.pipes.disk)) e.tables h.holds.map
  pub whole : (g : ℕ) → IsWholeCopy (entries_at (next_log InRewrite h.holds.state k.files t.pipes.disk)) gate (e.tables g) (filed_items g ps)
  pub up : FilesGoUp o.first.block.id.seq block.id.seq ps

abbrev pub with_end : UnendedGroup → FileBlockHandle → Batch → List WrittenPart
with_end o block b = parts_of o ++ record { block = block; batch = b } ∷ []

pub end_taken : (home : LogDirectories) (e t : EngineState) (o : UnendedGroup) (b : Batch) (block : FileBlockHandle) (m : LogMap) (h : HoldsInGroup home e m o) → IsGroupPart o.number statuses.End b
    → AppendsTo InRewrite (signed_for b) block e.pipes t.pipes → IsTaken home e t m h.holds (signed_for b) (Part (End o.number) (said_items b)) block
end_taken home e t o b block m h is call = record_taken home e t m h.holds (signed_for b) (Part (End o.number) (said_items b)) block (says_part home o.number statuses.End b is) call

pub end_is_taken : (home : LogDirectories) (e t : EngineState) (gate : Option ℕ) (o : UnendedGroup) (b : Batch) (block : FileBlockHandle) (m : LogMap) (h : HoldsInGroup home e m o) (k : IsTaken home e t m h.holds (signed_for b) (Part (End o.number) (said_items b)) block)
    → IsGroupPart o.number statuses.End b → HasWhole gate (batches_of (parts_of o) ++ b ∷ []) e.tables m → EndIsTaken home e t gate o b block m h k (with_end o block b)
end_is_taken home e t gate o b block m h k is has =
    let s = h.holds.state in
    let next : State = next_log InRewrite s k.files t.pipes.disk in
    let p : WrittenPart = record { block = block; batch = b } in
    let ps : List WrittenPart = with_end o block b in
    let at : Located → List ℕ = entries_at next in
    let meant : AreMeant at e.tables h.holds.map = (stored_entries_stay s next k.keeps e.tables h.holds.stored).1 h.holds.map h.holds.meant in
    let lie : Each (LiesInRewrite next) ps = each_more (LiesInRewrite next) (parts_of o) p (parts_stay s next k.keeps (parts_of o) h.parts) (part_lies next k.value block b k.spans is.some is.laid is.says k.last) in
    let says : Each (SaysPart at) ps = each_on (LiesInRewrite next) (SaysPart at) ps (λ q there. there.says) lie in
    let last = k.last.number in let later = k.keeps.rewrite.last in
    record {
      lie = lie;
      says = says;
      meant = meant;
      whole = has ps at (batches_more (parts_of o) p) (subst (λ x. AreMeant at e.tables x) (sym (held_map home e m h.holds)) meant) says;
      up = one_more_file o.first.block.id.seq s.rewrite.files.last block.id.seq (parts_of o) p (omega (arith, last, later)) refl h.files;
    }

-- and the tables show the whole group
pub end_shown : (home : LogDirectories) (e t : EngineState) (gate : Option ℕ) (o : UnendedGroup) (b : Batch) (block : FileBlockHandle) (m : LogMap) (h : HoldsInGroup home e m o) (k : IsTaken home e t m h.holds (signed_for b) (Part (End o.number) (said_items b)) block)
    → IsGroupPart o.number statuses.End b → EndIsTaken home e t gate o b block m h k (with_end o block b)
    → ShowsWhole gate (with_end o block b) (files_of_group o block) e.tables t.tables → KeepsOrForgets e t → Represents home t m []
end_shown home e t gate o b block m h k is f took kept =
    let s = h.holds.state in
    let next : State = next_log InRewrite s k.files t.pipes.disk in
    let ps : List WrittenPart = with_end o block b in
    let at : Located → List ℕ = entries_at next in
    let files : GroupFiles = files_of_group o block in
    let stored = (stored_entries_stay s next k.keeps e.tables h.holds.stored).0 in
    let last = k.last.number in
    let may = whole_may_end at gate ps e.tables files (joined (said_items o.first.batch) (said_more o) ++ said_items b) took.took f.whole f.meant.orderly f.up (λ g. group_said at g o (record { block = block; batch = b }) f.says) in
    let ends = group_ends at (whole_end files took.took f.whole) e.tables h.holds.map (said_items o.first.batch) (said_more o) (said_items b) f.meant may is.fits in
    let u : ℕ → Shown = ended (whole_end files took.took f.whole) e.tables in
    let shows : t.tables ≡ u = shows_end at gate ps files e.tables t.tables took f.meant.orderly f.whole in
    held_taken home e t m h.holds (signed_for b) (Part (End o.number) (said_items b)) block k u shows kept
    (subst (λ v. AreStored next v) shows
    (took_each (λ g v. Each (IsStored next) (located v.rewritten v.places)) gate ps files e.tables t.tables took (λ g. whole_stored next at gate (e.tables g) g ps (f.whole g) (f.meant.orderly g) f.lie (stored g)) stored))
    (subst (λ v. FilesRiseIn next v) shows
    (took_each (λ g v. FilesRise next.append.files.last next.rewrite.files.last v) gate ps files e.tables t.tables took
    (λ g. subst (λ n. FilesRise next.append.files.last n (with_note (parts_moved gate g ps (e.tables g)) (took.took.least g) files)) last
    (noted_rises next.append.files.last block.id.seq (parts_moved gate g ps (e.tables g)) (took.took.least g) files
    (moved_rise at gate s.append.files.last o.first.block.id.seq block.id.seq (e.tables g) g ps (f.meant.orderly g) (h.rises g) f.up (f.whole g))))
    (rise_on s next k.keeps e.tables h.holds.rises)))
    (subst (λ v. NotesEndIn next v) shows
    (took_each (λ g v. (these : GroupFiles) → v.noted ≡ Some these → these.to ≤ next.rewrite.files.last) gate ps files e.tables t.tables took
    (λ g.
    let same = ap (λ (v : Shown). v.noted) (whole_moved at gate (e.tables g) g ps (f.meant.orderly g) (f.whole g)).0 ∙ moved_noted (e.tables g) (whole_moves (f.whole g)) in
    noted_ends next.rewrite.files.last (parts_moved gate g ps (e.tables g)) (took.took.least g) files (omega (arith, last)) (λ old there. notes_on s next k.keeps e.tables h.holds.noted g old (sym same ∙ there)))
    (notes_on s next k.keeps e.tables h.holds.noted)))
    ends.meant
    (end_answered (Ties (log_in home)) (AllowsIn (log_in home)) s next (view_of e.tables h.holds.map) m files.from o.number (said_items o.first.batch) (said_more o)
    (view_of u h.holds.map) block.id.seq (said_items b) k.step ends.ends (in_group home e m o h))

pub end_written : (home : LogDirectories) (e t : EngineState) (gate : Option ℕ) (o : UnendedGroup) (b : Batch) (block : FileBlockHandle) (m : LogMap) → HoldsInGroup home e m o → IsGroupPart o.number statuses.End b
    → HasWhole gate (batches_of (parts_of o) ++ b ∷ []) e.tables m → AppendsTo InRewrite (signed_for b) block e.pipes t.pipes
    → ShowsWhole gate (parts_of o ++ record { block = block; batch = b } ∷ []) (files_of_group o block) e.tables t.tables → KeepsOrForgets e t → Represents home t m []
end_written home e t gate o b block m h is has call took kept =
    let k = end_taken home e t o b block m h is call in
    end_shown home e t gate o b block m h k is (end_is_taken home e t gate o b block m h k is has) took kept

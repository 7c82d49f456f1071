-- The tables of all groups take a whole group.
use Rattle.std.proofs.Common.{◌≡◌, ◌==◌, ℕ, true, false, List, [], ◌∷◌, ◌++◌, Option, Some, None, is_some, option_map, refl, sym, ap, subst, ◌∙◌}
use Rattle.std.specs.BTreeMap.{get}
use Rattle.std.specs.Ordering.{nat_cmp}
use Rattle.std.proofs.lemmas.Bool.{false≢true}
use Rattle.raft_log_model_laws.specs.Groups.{of_group}
use Rattle.raft_log_model_laws.proofs.Public.{from_eq_true}
use Rattle.raft_log_record_base.specs.declared.pipe_log.FileBlockHandle.{FileBlockHandle}
use Rattle.raft_log_record_batches.specs.Batch.{Batch}
use Rattle.raft_log_memtable_index.specs.declared.group_files.GroupFiles.{GroupFiles}
use Rattle.raft_log_memtable_index.specs.Shown.{IsOrderly, Shown}
use Rattle.raft_log_memtable_index.specs.Noted.{FilesRise, IsLeastInRewrite, with_note}
use Rattle.raft_log_memtable_index.specs.Replayed.{Replayed}
use Rattle.raft_log_memtable_index.proofs.Public.{moves_orderly}
use Rattle.raft_log_block_cache.specs.raft_log_memtables.specs.declared.group_table.GroupTable.{GroupTable}
use Rattle.raft_log_block_cache.specs.raft_log_memtables.specs.Joining.{noted_in}
use Rattle.raft_log_block_cache.specs.raft_log_memtables.specs.Rewriting.{all_rewritten}
use Rattle.raft_log_block_cache.specs.raft_log_memtables.specs.Tables.{replayed_in, replayed_of, shown_in, shown_of}
use Rattle.raft_log_machine_laws.specs.Calls.Which.{InRewrite}
use Rattle.raft_log_block_cache.specs.raft_log_dual_pipes.specs.Steps.{next_log}
use Rattle.raft_log_memtable_index.specs.Bridge.{Located}
use Rattle.raft_log_block_cache.specs.Stored.{entries_at}
use Rattle.raft_log_engine_laws.specs.EngineState.{EngineState, shows}
use Rattle.raft_log_engine_laws.specs.Writing.{items_at}
use Rattle.raft_log_engine_laws.specs.Parts.{WrittenPart, parts_of}
use Rattle.raft_log_engine_laws.specs.Ending.{files_of_group}
use Rattle.raft_log_engine_laws.specs.Whole.{Filed, batches_of, filed_copies, filed_items, parts_moved, whole_moves}
use Rattle.raft_log_engine_laws.specs.Restating.{said_of_group}
use Rattle.raft_log_engine_laws.specs.Taking.{EndsOverTables, MovesOnePart, TablesTakeWholeGroups}
use Rattle.raft_log_engine_laws.proofs.Restating.{batches_say, restated_whole}
use Rattle.raft_log_engine_laws.proofs.Whole.{all_filed, all_parts, whole_moved}
use Rattle.raft_log_engine_laws.proofs.Rising.{moved_rise}
use Rattle.raft_log_engine_laws.proofs.Ending.{batches_more, end_is_taken, end_shown, end_taken, parts_said, whole_noted, with_end}

parts_more : (gate : Option ℕ) (g : ℕ) (ps : List WrittenPart) (block : FileBlockHandle) (b : Batch) (v : Shown)
    → parts_moved gate g (ps ++ record { block = block; batch = b } ∷ []) v ≡ all_rewritten gate block.id.seq (parts_moved gate g ps v) (of_group g (items_at block b))
parts_more gate g [] block b v = refl
parts_more gate g (p ∷ ps) block b v = parts_more gate g ps block b (all_rewritten gate p.block.id.seq v (of_group g (items_at p.block p.batch)))

pub one_part_moves : MovesOnePart
one_part_moves gate ps block b old m new moved one g =
    one.shows g ∙ ap (λ v. all_rewritten gate block.id.seq v (of_group g (items_at block b))) (moved g) ∙ sym (parts_more gate g ps block b (shown_of old g))

-- the table of a group, as it was read
pub shows_read : (o : Option GroupTable) → (replayed_in o).table ≡ shown_in o
shows_read None = refl
shows_read (Some t) = refl

note_in_table : (files : GroupFiles) (a r : ℕ) (o : Option GroupTable) (z : Replayed) → is_some o ≡ true → IsOrderly (shown_in o) → FilesRise a r (shown_in o) → z ≡ noted_in files (option_map (λ t. t.table) o)
    → (least : ℕ) × IsLeastInRewrite (shown_in o) least × (z.table ≡ with_note (shown_in o) least files)
note_in_table files a r None z there orderly rise is = absurd (false≢true there)
note_in_table files a r (Some t) z there orderly rise is = (let (least, low, same) = whole_noted t.table files a r orderly rise in (least, low, ap (λ x. x.table) is ∙ same))

-- of a group of which they say nothing the parts move nothing
pub nothing_moved : (gate : Option ℕ) (g : ℕ) (ps : List WrittenPart) (v : Shown) → filed_items g ps ≡ [] → parts_moved gate g ps v ≡ v
nothing_moved gate g ps v none = all_parts gate g ps v ∙ ap (all_filed gate v) none

pub tables_take : {E : Type 0} → TablesTakeWholeGroups E
tables_take at gate a ps files group old m new orderly rise up w alone there moved notes =
    let whole = whole_moved at gate (shown_of old group) group ps (orderly group) (w group) in
    let now : IsOrderly (shown_of m group) = subst IsOrderly (sym (moved group ∙ whole.0)) (moves_orderly at (shown_of old group) (whole_moves (w group)) (orderly group) whole.1) in
    let rises : FilesRise a files.to (shown_of m group) =
    subst (λ v. FilesRise a files.to v) (sym (moved group)) (moved_rise at gate a files.from files.to (shown_of old group) group ps (orderly group) (rise group) up (w group)) in
    let (least, low, is) = note_in_table files a files.to (get nat_cmp m.groups group) (replayed_of new group) there now rises notes.noted in
    record {
      took = record {
        about = λ g. group == g;
        least = λ g. least;
        lowest = λ g same. subst (λ k. IsLeastInRewrite (parts_moved gate k ps (shown_of old k)) least) (from_eq_true group g same) (subst (λ v. IsLeastInRewrite v least) (moved group) low);
        others = alone;
      };
      about = λ g same.
          subst (λ k. shown_of new k ≡ with_note (parts_moved gate k ps (shown_of old k)) least files) (from_eq_true group g same)
          (sym (shows_read (get nat_cmp new.groups group)) ∙ is ∙ ap (λ v. with_note v least files) (moved group));
      others = λ g other.
          sym (shows_read (get nat_cmp new.groups g)) ∙ ap (λ (z : Replayed). z.table) (notes.others g other) ∙ shows_read (get nat_cmp m.groups g)
          ∙ moved g ∙ nothing_moved gate g ps (shown_of old g) (alone g other);
    }

-- parts that say nothing of a group have no items of it
none_filed : (at : Located → List ℕ) (xs : List Filed) → filed_copies at xs ≡ [] → xs ≡ []
none_filed at [] none = refl
none_filed at (x ∷ xs) none = absurd (let never : ⊥ = cc in never)

pub end_over_tables : EndsOverTables
end_over_tables home v w old m new cache after gate o b block map group h is all alone call there moved notes kept =
    let e : EngineState = shows v old cache in
    let t : EngineState = shows w new after in
    let bs : List Batch = batches_of (parts_of o) ++ b ∷ [] in
    let ps : List WrittenPart = with_end o block b in
    let k = end_taken home e t o b block map h is call in
    let at : Located → List ℕ = entries_at (next_log InRewrite h.holds.state k.files t.pipes.disk) in
    let f = end_is_taken home e t gate o b block map h k is (restated_whole gate bs (shown_of old) map all) in
    let are : batches_of ps ≡ bs = batches_more (parts_of o) (record { block = block; batch = b }) in
    let took = tables_take at gate h.holds.state.append.files.last ps (files_of_group o block) group old m new f.meant.orderly h.rises f.up f.whole
    (λ g other. none_filed at (filed_items g ps) (sym (parts_said at g ps f.says) ∙ batches_say g ps ∙ ap (said_of_group g) are ∙ alone g other)) there moved notes in
    end_shown home e t gate o b block map h k is f took kept

-- A table that made room for entries can take them once they are written.
use Rattle.std.proofs.Common.{◌≡◌, List, [], ◌∷◌, map, Option, Some, None, refl, sym, ap, ap₂, subst}
use Rattle.raft_log_record_base.specs.declared.pipe_log.FileBlockHandle.{FileBlockHandle}
use Rattle.raft_log_record_items.specs.declared.entry.EntryIndex.{EntryIndex}
use Rattle.raft_log_record_items.specs.Placed.{written_entry}
use Rattle.raft_log_model_laws.specs.Item.Item.{Run}
use Rattle.raft_log_model_laws.specs.Renamed.{renamed}
use Rattle.raft_log_extents.specs.declared.place.Place.{Place}
use Rattle.raft_log_extents.specs.Entries.{place_in, place_of, run_of}
use Rattle.raft_log_memtable_index.specs.Shown.{span, MayFollow, Shown}
use Rattle.raft_log_memtable.specs.Room.{promised, CanTake, IsReady, Promise}
use Rattle.raft_log_memtable.proofs.Public.{ready_can, ready_more, ready_none, ready_renamed}

-- the place in this block
in_block : FileBlockHandle → Place → Place
in_block block p =
    record { file = block.id.seq; offset = block.offset; len = block.len; entry_offset = p.entry_offset; entry_len = p.entry_len }

one_written : (block : FileBlockHandle) (o : Option FileBlockHandle) (e : EntryIndex) → in_block block (place_in o e) ≡ place_in (Some block) e
unfolding in_block
one_written block None e = refl
one_written block (Some b) e = refl

all_written : (block : FileBlockHandle) (es : List EntryIndex) → map (in_block block) (map place_of es) ≡ map place_of (map (written_entry block) es)
all_written block [] = refl
all_written block (e ∷ es) = ap₂ (λ p ps. p ∷ ps) (one_written block e.entries e) (all_written block es)

run_written : (block : FileBlockHandle) (es : List EntryIndex) → renamed (in_block block) (run_of es) ≡ run_of (map (written_entry block) es)
run_written block [] = refl
run_written block (e ∷ es) = ap (Run e.index) (all_written block (e ∷ es))

pub takes_written : (v now : Shown) (q next : Promise) (block : FileBlockHandle) (es : List EntryIndex) → now ≡ v → q.ends ≡ span v → MayFollow q.ends (run_of es)
    → next ≡ promised q (run_of es) → CanTake now next (run_of (map (written_entry block) es))
takes_written v now q next block es shows ends follows room =
    let ready : IsReady v (promised q (run_of es)) (run_of es ∷ []) = ready_more v q [] (run_of es) (ready_none v q ends) follows in
    subst (CanTake now next) (run_written block es)
    (ready_can now next (renamed (in_block block) (run_of es)) []
    (ready_renamed (in_block block) now next (run_of es ∷ [])
    (subst (λ n. IsReady now n (run_of es ∷ [])) (sym room) (subst (λ w. IsReady w (promised q (run_of es)) (run_of es ∷ [])) (sym shows) ready))))

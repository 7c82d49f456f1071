-- The entries of a written batch lie in its file.
use Rattle.std.proofs.Common.{ℕ, List, [], ◌∷◌, map, Bool, true, false, refl, if◌then◌else◌, ◌==◌}
use Rattle.raft_log_record_base.specs.declared.pipe_log.FileBlockHandle.{FileBlockHandle}
use Rattle.raft_log_record_items.specs.declared.op_type.OpType.TheVariants as ops
use Rattle.raft_log_record_items.specs.declared.command.Command.TheVariants as commands
use Rattle.raft_log_record_items.specs.declared.item.LogItemContent.TheVariants as contents
use Rattle.raft_log_record_items.specs.declared.item.LogItemContent.{LogItemContent}
use Rattle.raft_log_record_items.specs.declared.item.LogItem.{LogItem}
use Rattle.raft_log_record_items.specs.declared.entry.EntryIndex.{EntryIndex}
use Rattle.raft_log_record_items.specs.declared.op_type.OpType.{OpType}
use Rattle.raft_log_record_items.specs.Placed.{written, written_content, written_entry, written_item}
use Rattle.raft_log_model_laws.specs.Item.{Item, Tagged}
use Rattle.raft_log_model_laws.specs.Groups.{of_group}
use Rattle.raft_log_record_frames.specs.Marking.{has_mark_key}
use Rattle.raft_log_record_frames.specs.Meaning.{key_meaning, meaning, tagged, tagged_items, unless_mark}
use Rattle.raft_log_extents.specs.Entries.{place_of}
use Rattle.raft_log_extents.specs.declared.place.Place.{Place}
use Rattle.raft_log_memtable_index.specs.Noted.{AllIn, AreInFile}
use Rattle.raft_log_memtables.specs.Views.{LieIn}

entries_in : (handle : FileBlockHandle) (es : List EntryIndex) → AllIn handle.id.seq (map place_of (map (written_entry handle) es))
entries_in handle [] = tt
entries_in handle (e ∷ es) = (refl, entries_in handle es)

-- an item in front of others that lie there
key_in : (n : ℕ) (op : OpType) (key value : List ℕ) (xs : List (Item Place (List ℕ))) → AreInFile n xs → AreInFile n (key_meaning op key value ∷ xs)
key_in n ops.Put key value xs lie = lie
key_in n ops.Del key value xs lie = lie

item_in : (handle : FileBlockHandle) (c : LogItemContent) (xs : List (Item Place (List ℕ))) → AreInFile handle.id.seq xs
    → AreInFile handle.id.seq (meaning place_of (written_content handle c) ∷ xs)
item_in handle (contents.EntryIndexes []) xs lie = (tt, lie)
item_in handle (contents.EntryIndexes (e ∷ es)) xs lie = (entries_in handle (e ∷ es), lie)
item_in handle (contents.Command commands.Clean) xs lie = lie
item_in handle (contents.Command (commands.Compact index)) xs lie = lie
item_in handle (contents.Kv kv) xs lie = key_in handle.id.seq kv.op_type _ _ xs lie

-- an item that may be of another group
grouped_in : (n : ℕ) (x : Tagged Place (List ℕ)) (xs : List (Tagged Place (List ℕ))) (g : ℕ) (b : Bool)
    → ((ys : List (Item Place (List ℕ))) → AreInFile n ys → AreInFile n (x.item ∷ ys)) → AreInFile n (of_group g xs)
    → AreInFile n (if b then x.item ∷ of_group g xs else of_group g xs)
grouped_in n x xs g true first lie = first (of_group g xs) lie
grouped_in n x xs g false first lie = lie

marked_in : (n : ℕ) (x : Tagged Place (List ℕ)) (xs : List (Tagged Place (List ℕ))) (b : Bool)
    → ((ys : List (Item Place (List ℕ))) → AreInFile n ys → AreInFile n (x.item ∷ ys)) → LieIn n xs
    → LieIn n (unless_mark b x xs)
marked_in n x xs true first lie = lie
marked_in n x xs false first lie = λ g. grouped_in n x xs g (x.group == g) first (lie g)

pub written_in : (handle : FileBlockHandle) (items : List LogItem) → LieIn handle.id.seq (tagged_items place_of (written handle items))
written_in handle [] = λ g. tt
written_in handle (x ∷ xs) =
    marked_in handle.id.seq (tagged place_of (written_item handle x)) (tagged_items place_of (written handle xs)) (has_mark_key (written_item handle x))
    (item_in handle x.content) (written_in handle xs)

-- A reader at work behind a file's header.
use Rattle.std.proofs.Common.{◌≡◌, ℕ, inl, inr, Option, Some, None, List, [], ◌∷◌, ◌++◌, refl, sym, subst, ◌∙◌, arith}
use Rattle.raft_log_record_base.specs.Fault.{Fault}
use Rattle.raft_log_record_items.specs.declared.item.LogItem.{LogItem}
use Rattle.raft_log_fs.specs.Disk.{Disk}
use Rattle.raft_log_file_reader.specs.Batches.{HasBatches}
use Rattle.raft_log_file_reader.specs.Foreign.{IsOffsetInside}
use Rattle.raft_log_file_reader.specs.Laws.{EndsBehind}
use Rattle.raft_log_file_reader.proofs.Public.{batches_go_on_is}
use Rattle.raft_log_file_reader.specs.Reader.{IsReading, file_of, end_of}
use Rattle.raft_log_file_reader.specs.declared.open_file.OpenFile.{OpenFile}
use Rattle.raft_log_file_reader.specs.declared.reader.LogItemBatchFileReader.{LogItemBatchFileReader}
use Rattle.raft_log_recovery_read.specs.Records.{HasRecord, HasRecords, StopsGood}
use Rattle.raft_log_recovery_read.specs.Behind.{LiesInside, StandsAtLast, with_noted}
use Rattle.raft_log_recovery_read.specs.declared.behind.LastRecord.{LastRecord}

-- a record behind others makes one more
pub records_go_on : (file : OpenFile) (content : List ℕ) (offset m n : ℕ) (xs : List (List LogItem)) (items : List LogItem) → HasRecords file content offset xs m → HasRecord file content m items n
    → HasRecords file content offset (xs ++ items ∷ []) n
records_go_on file content offset m n [] items a b = (n, subst (λ (k : ℕ). HasRecord file content k items n) a b, refl)
records_go_on file content offset m n (xs ∷ more) items a b = (a.0, a.1, records_go_on file content a.0 m n more items a.2 b)

-- a list with one more at its end isn't empty
pub one_at_least : {X : Type 0} (xs : List X) (x : X) → xs ++ x ∷ [] ≡ [] → ⊥
one_at_least [] x e = absurd cc
one_at_least (y ∷ xs) x e = absurd cc

-- the offset of a reader is inside the file that another reader has open, too
pub end_inside : (d : Disk) (old new : LogItemBatchFileReader) (end : ℕ) → IsReading d old → file_of new ≡ file_of old → end ≡ end_of old → IsOffsetInside end new
end_inside d old new end reading same is = λ file opened. omega (arith, (reading file (sym same ∙ opened)).within, is)

-- an offset inside a file stays inside it
pub still_inside : (old new : LogItemBatchFileReader) (offset : ℕ) → file_of new ≡ file_of old → IsOffsetInside offset old → IsOffsetInside offset new
still_inside old new offset same inside = λ file opened. inside file (sym same ∙ opened)

-- where the batches stop no batch comes
pub stops_there : (file : OpenFile) (content : List ℕ) (end : ℕ) (fault : Option Fault) → StopsGood file content end fault → EndsBehind file content end
stops_there file content end None none = inl none
stops_there file content end (Some f) broken = inr (f, broken)

-- the batches up to the one that is noted, and it, are batches
pub all_batches : (file : OpenFile) (content : List ℕ) (offset end : ℕ) (before : List (List LogItem)) (last : Option LastRecord) → StandsAtLast file content offset before last end
    → HasBatches file content offset (with_noted before last) end
all_batches file content offset end before None h = subst (λ (l : List (List LogItem)). HasBatches file content offset l end) (sym h.0) h.1
all_batches file content offset end before (Some last) h = batches_go_on_is file content offset last.start end before last.items.items h.0 h.1

-- what is noted lies inside the file, as long as the same file is open
pub lies_still : (last : Option LastRecord) (old new : LogItemBatchFileReader) → file_of new ≡ file_of old → LiesInside last old → LiesInside last new
lies_still None old new same inside = tt
lies_still (Some last) old new same inside = ((λ file opened. inside.0 file (sym same ∙ opened)), still_inside old new last.start same inside.1)

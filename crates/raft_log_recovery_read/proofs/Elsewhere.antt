-- What a file's bytes read as doesn't depend on where they are read from.
use Rattle.std.proofs.Common.{◌≡◌, ℕ, Bool, true, false, inl, inr, Option, Some, None, List, [], ◌∷◌, sym, ap, subst, ◌∙◌}
use Rattle.raft_log_record_base.specs.Fault.{Fault}
use Rattle.raft_log_record_base.specs.declared.pipe_log.FileId.{FileId}
use Rattle.raft_log_record_items.specs.declared.item.LogItem.{LogItem}
use Rattle.raft_log_file_format.specs.declared.header.LogFileFormat.{LogFileFormat}
use Rattle.raft_log_file_reader.specs.Batches.{HasBatch, HasBatches, HasNoMore, IsBroken}
use Rattle.raft_log_file_reader.specs.Laws.{EndsBehind}
use Rattle.raft_log_file_reader.specs.declared.open_file.OpenFile.{OpenFile}
use Rattle.raft_log_file_reader.specs.declared.source.Source.{Source}
use Rattle.raft_log_recovery_read.specs.Records.{EndsWhole, HasRecord, HasRecords, IsRecordTorn, ReadsBehind, ReadsEarlier, StopsGood, StopsWhole}
use Rattle.raft_log_recovery_read.specs.Records.ReadsEarlier.{none, good, torn}

-- the file, read from elsewhere
abbrev pub read_from : OpenFile → Source → OpenFile
read_from file source = record { id = file.id; source = source; format = file.format }

batch_from : (file : OpenFile) (s : Source) (content : List ℕ) (offset n : ℕ) (items : List LogItem) → HasBatch (read_from file s) content offset items n → HasBatch file content offset items n
batch_from file s content offset n items h = record { at = h.at; goes_on = h.goes_on; len = h.len; frame = h.frame; ends = h.ends }

batches_from : (file : OpenFile) (s : Source) (content : List ℕ) (offset n : ℕ) (xs : List (List LogItem)) → HasBatches (read_from file s) content offset xs n → HasBatches file content offset xs n
batches_from file s content offset n [] h = h
batches_from file s content offset n (x ∷ xs) h = (h.0, batch_from file s content offset h.0 x h.1, batches_from file s content h.0 n xs h.2)

none_from : (file : OpenFile) (s : Source) (content : List ℕ) (offset : ℕ) → HasNoMore (read_from file s) content offset → HasNoMore file content offset
none_from file s content offset h = record { goes_on = h.goes_on }

broken_from : (file : OpenFile) (s : Source) (content : List ℕ) (offset : ℕ) (f : Fault) → IsBroken (read_from file s) content offset f → IsBroken file content offset f
broken_from file s content offset f h = record { at = h.at; goes_on = h.goes_on; inside = h.inside; frame = h.frame }

torn_from : (file : OpenFile) (s : Source) (content : List ℕ) (offset : ℕ) (f : Fault) → IsRecordTorn (read_from file s) content offset f → IsRecordTorn file content offset f
torn_from file s content offset f h = record { at = h.at; goes_on = h.goes_on; inside = h.inside; wrong = h.wrong }

record_from : (file : OpenFile) (s : Source) (content : List ℕ) (offset n : ℕ) (items : List LogItem) → HasRecord (read_from file s) content offset items n → HasRecord file content offset items n
record_from file s content offset n items h = record {
  batch = batch_from file s content offset n items h.batch;
  whole = record { at = h.whole.at; goes_on = h.whole.goes_on; record_there = h.whole.record_there };
}

records_from : (file : OpenFile) (s : Source) (content : List ℕ) (offset n : ℕ) (xs : List (List LogItem)) → HasRecords (read_from file s) content offset xs n → HasRecords file content offset xs n
records_from file s content offset n [] h = h
records_from file s content offset n (x ∷ xs) h = (h.0, record_from file s content offset h.0 x h.1, records_from file s content h.0 n xs h.2)

stop_from : (file : OpenFile) (s : Source) (content : List ℕ) (end : ℕ) (e : Option Fault) → StopsWhole (read_from file s) content end e → StopsWhole file content end e
stop_from file s content end None h = none_from file s content end h
stop_from file s content end (Some f) h = torn_from file s content end f h

good_from : (file : OpenFile) (s : Source) (content : List ℕ) (end : ℕ) (e : Option Fault) → StopsGood (read_from file s) content end e → StopsGood file content end e
good_from file s content end None h = none_from file s content end h
good_from file s content end (Some f) h = broken_from file s content end f h

ends_from : (file : OpenFile) (s : Source) (content : List ℕ) (end : ℕ) → EndsBehind (read_from file s) content end → EndsBehind file content end
ends_from file s content end (inl h) = inl (none_from file s content end h)
ends_from file s content end (inr h) = inr (h.0, broken_from file s content end h.0 h.1)

whole_from : (file : OpenFile) (s : Source) (content : List ℕ) (offset end : ℕ) (xs : List (List LogItem)) → EndsWhole (read_from file s) content offset xs end → EndsWhole file content offset xs end
whole_from file s content offset end xs h = record {
  before = h.before;
  last = h.last;
  between = h.between;
  split = h.split;
  first = batches_from file s content offset h.between h.before h.first;
  record_last = record_from file s content h.between end h.last h.record_last;
}

earlier_from : (file : OpenFile) (s : Source) (content : List ℕ) (offset end : ℕ) (xs : List (List LogItem)) (e : Option Fault)
    → ReadsEarlier (read_from file s) content offset xs end e → ReadsEarlier file content offset xs end e
earlier_from file s content offset end xs e (none is at x) = none is at (good_from file s content end e x)
earlier_from file s content offset end xs e (good h x) = good (whole_from file s content offset end xs h) (good_from file s content end e x)
earlier_from file s content offset end xs e (torn items next f h more x t told) =
    torn items next f (batches_from file s content offset end xs h) (batch_from file s content end next items more) (ends_from file s content next x) (torn_from file s content end f t) told

behind_from : (last : Bool) (file : OpenFile) (s : Source) (content : List ℕ) (offset end : ℕ) (xs : List (List LogItem)) (e : Option Fault)
    → ReadsBehind last (read_from file s) content offset xs end e → ReadsBehind last file content offset xs end e
behind_from true file s content offset end xs e h = (records_from file s content offset end xs h.0, stop_from file s content end e h.1)
behind_from false file s content offset end xs e h = earlier_from file s content offset end xs e h

-- of files with the same number and header the bytes read as the same
pub same_behind : (last : Bool) (f g : OpenFile) (content : List ℕ) (offset end : ℕ) (xs : List (List LogItem)) (e : Option Fault) → f.id ≡ g.id → f.format ≡ g.format
    → ReadsBehind last g content offset xs end e → ReadsBehind last f content offset xs end e
same_behind last f g content offset end xs e id format h =
    let same : g ≡ read_from f g.source = ap (λ (i : FileId). record { id = i; source = g.source; format = g.format }) (sym id)
    ∙ ap (λ (m : LogFileFormat). record { id = f.id; source = g.source; format = m }) (sym format) in
    behind_from last f g.source content offset end xs e (subst (λ (o : OpenFile). ReadsBehind last o content offset xs end e) same h)

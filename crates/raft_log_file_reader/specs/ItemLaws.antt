-- A law on all calls of `next` of a `LogItemReader`.
use Rattle.std.specs.Prelude.{List}
use Rattle.std.specs.Iterator.{Drains}
use Rattle.raft_log_fs.specs.Disk.{Disk}
use Rattle.raft_log_file_reader.specs.Answers.{Answer}
use Rattle.raft_log_file_reader.specs.ItemReader.{StillGives, GivesFirst}
use Rattle.raft_log_file_reader.specs.declared.item_reader.LogItemReader.{LogItemReader}

-- If a reader is called until it returns nothing, the results of all calls together are what it had still to return.
abbrev pub CallsGiveAll : {F : Type 0} → (F → Disk) → Type 0
CallsGiveAll {F} disk = (reader : LogItemReader F) (answers : List Answer)
    → Drains (GivesFirst disk) reader answers → StillGives disk reader answers

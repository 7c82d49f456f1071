-- Receipts of reads: how the receipt of several reads follows from the receipt of each read. A receipt is honest if all
-- reads that it covers returned what the disk holds.
use Rattle.std.specs.Prelude.{Bool, IsTrue}

-- A receipt collected further reads. `old` says whether it was honest before them, `new` whether it is honest now. If
-- it is honest now, it was honest before. If every read of the file system is honest (`truth`), an honest receipt stays
-- honest.
pub record Collects (truth : Type 0) (old new : Bool) : Type 0 where
  pub falls : IsTrue new → IsTrue old
  pub stays : truth → IsTrue old → IsTrue new

-- Batches as lists of changes, and the model's records of them.
use Rattle.std.specs.Prelude.{ℕ, List, map}
use Rattle.raft_log_model_laws.specs.Item.{Item, Tagged}
use Rattle.raft_log_model_laws.specs.Item.Item.{Run, Clean as CleanItem, Compact as CompactItem, Put as PutItem, Del}
use Rattle.raft_log_model_laws.specs.Item.Record.{Plain}
use Rattle.raft_log_world.specs.Model.{BatchRecord}
use Rattle.raft_log_judge.specs.declared.change.Change.{Change}
use Rattle.raft_log_judge.specs.declared.change.ChangeKind.{ChangeKind}
use Rattle.raft_log_judge.specs.declared.change.ChangeKind.TheVariants.{Clean, Compact, Delete, Entries, Put}

-- the log's item for a change of this kind
abbrev pub item_of : ChangeKind → Item (List ℕ) (List ℕ)
item_of (Entries first entries) = Run first entries
item_of Clean = CleanItem
item_of (Compact index) = CompactItem index
item_of (Put key value) = PutItem key value
item_of (Delete key) = Del key

-- the item of a change, with its group
abbrev pub tagged : Change → Tagged (List ℕ) (List ℕ)
tagged change = record { group = change.group; item = item_of change.kind }

-- the record of a batch of these changes
abbrev pub says_of : List Change → BatchRecord
says_of changes = Plain (map tagged changes)

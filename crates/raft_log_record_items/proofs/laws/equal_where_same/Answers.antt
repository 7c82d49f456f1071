use Rattle.std.proofs.Common.{◌≡◌, ◌↔◌, List, IsTrue, rules}
use Rattle.std.specs.Cmp.Lexicographic.{pointwise_decides}
use Rattle.raft_log_record_items.specs.declared.entry.EntryIndex.{EntryIndex}
use Rattle.raft_log_record_items.specs.declared.item.LogItemContent.{LogItemContent}
use Rattle.raft_log_record_items.specs.declared.item.LogItemContent.TheVariants as contents
use Rattle.raft_log_record_items.specs.contracts.entry_indexes.EntryIndexesPartialEq.TheImpl.{ghosts as of_runs}
use Rattle.raft_log_record_items.specs.contracts.item.LogItemContentPartialEq.TheImpl.{ghosts as of_contents}
use Rattle.raft_log_record_items.proofs.laws.equal_where_same.Goals as goal

same_run : (a b : List EntryIndex) → IsTrue (of_runs.eq a b) ↔ (a ≡ b)
same_run = pointwise_decides (λ a b. search rules)

same_content : (a b : LogItemContent) → IsTrue (of_contents.eq a b) ↔ (a ≡ b)
same_content (contents.EntryIndexes x) (contents.EntryIndexes y) = let same = same_run x y in search rules
same_content (contents.EntryIndexes x) (contents.Command y) = search rules
same_content (contents.EntryIndexes x) (contents.Kv y) = search rules
same_content (contents.Command x) (contents.EntryIndexes y) = search rules
same_content (contents.Command x) (contents.Command y) = search rules
same_content (contents.Command x) (contents.Kv y) = search rules
same_content (contents.Kv x) (contents.EntryIndexes y) = search rules
same_content (contents.Kv x) (contents.Command y) = search rules
same_content (contents.Kv x) (contents.Kv y) = search rules

pub returns-clause-runs : goal.returns-clause-runs
returns-clause-runs c = same_run

pub returns-clause-items : goal.returns-clause-items
returns-clause-items c = λ a b. let same = same_content a.content b.content in search rules

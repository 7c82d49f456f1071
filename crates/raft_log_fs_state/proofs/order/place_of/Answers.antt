use Rattle.std.proofs.Common.{rules, sym, nat_lt}
use Rattle.std.proofs.lemmas.List.Sorted.{IsPartitionPoint-from_clause, IsPartitionedBy-ltb}
use Rattle.raft_log_fs_state.proofs.CountLaws.{count_first}
use Rattle.raft_log_fs_state.proofs.order.place_of.Goals as goal

pub returns : goal.returns
returns c =
    let parted = IsPartitionedBy-ltb (λ other. other) c.args.stamps.now c.args.stamp c.requires in
    let point = IsPartitionPoint-from_clause (λ other. nat_lt other c.args.stamp) c.args.stamps.now c.partition_point.result c.partition_point.ensures.partitioned parted (λ a r f k. search rules) in
    sym (count_first (λ other. nat_lt other c.args.stamp) c.args.stamps.now c.partition_point.result c.partition_point.ensures.bound point)

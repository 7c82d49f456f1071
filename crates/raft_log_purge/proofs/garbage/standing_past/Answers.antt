use Rattle.std.proofs.Common.{Some, inl, inr, refl, sym}
use Rattle.std.specs.BTreeMap.{get}
use Rattle.std.specs.Ordering.{nat_cmp}
use Rattle.raft_log_purge.proofs.StandingPast.{known_past}
use Rattle.raft_log_purge.proofs.garbage.standing_past.Goals as goal

pub returns-then-least-file : goal.returns-then-least-file
returns-then-least-file c =
    known_past c.args.file c.standing_count.result (get nat_cmp c.args.tables.now.groups c.args.group) c.in-Some.table.now (Some c.in-Some-min_file_seq.least) (sym c.in-Some.ensures) c.in-Some-min_file_seq.ensures.exact (inl (c.if-least-file.true, c.standing_count.ensures))

pub returns-else-least-file : goal.returns-else-least-file
returns-else-least-file c =
    known_past c.args.file 0 (get nat_cmp c.args.tables.now.groups c.args.group) c.in-Some.table.now (Some c.in-Some-min_file_seq.least) (sym c.in-Some.ensures) c.in-Some-min_file_seq.ensures.exact (inr (c.if-least-file.false, refl))

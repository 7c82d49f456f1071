use Rattle.std.proofs.Common.{◌∙◌, ap, sym}
use Rattle.raft_log_memtables.proofs.Items.{is_marking, marking_is}
use Rattle.raft_log_memtables.proofs.mem_tables.is_mark.Goals as goal

pub returns-in-Unmarked : goal.returns-in-Unmarked
returns-in-Unmarked c = ap is_marking (sym c.in-Unmarked.is) ∙ marking_is c.args.item.now c.parse.result c.parse.ensures

pub returns-in-Part : goal.returns-in-Part
returns-in-Part c = ap is_marking (sym c.in-Part.is) ∙ marking_is c.args.item.now c.parse.result c.parse.ensures

pub returns-in-Broken : goal.returns-in-Broken
returns-in-Broken c = ap is_marking (sym c.in-Broken.is) ∙ marking_is c.args.item.now c.parse.result c.parse.ensures

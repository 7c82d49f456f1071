use Rattle.raft_crash_examples.proofs.purging.purge_all.Goals as goal

pub loop-which-init : goal.loop-which-init
loop-which-init g c home m has = has

pub loop-which-preserved : goal.loop-which-preserved
loop-which-preserved g c home m has = c.purge_once-answered.ensures home m (c.loop-which.invariant home m has)

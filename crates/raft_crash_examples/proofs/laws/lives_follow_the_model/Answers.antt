use Rattle.raft_crash_examples.proofs.laws.lives_follow_the_model.Goals as goal

pub returns : goal.returns
returns g c = record { opens = c.opens_follow_the_model.ensures; crashes = c.crashes_follow_the_model.ensures.engine; closes = c.closed_files_meet_the_premise.ensures }

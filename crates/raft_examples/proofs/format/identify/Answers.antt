use Rattle.raft_examples.proofs.format.identify.Goals as goal

-- src/format.rt:11:1
pub returns-clause-name : goal.returns-clause-name
returns-clause-name c = (c.parse_file_name.ensures c.in-Some.id).0 c.in-Some.is

use Rattle.raft_log_fs_os.proofs.Resting.{rest_either}
use Rattle.raft_log_fs_os.proofs.load.Found.add_directory.Goals as goal

pub invariant_of-self : goal.invariant_of-self
invariant_of-self g c = record {
  whole = c.add_directory.ensures.whole;
  rest = rest_either c.args.path.now c.args.self.now.storage c.add_directory.new.self c.add_directory.result c.add_directory.ensures.ok c.add_directory.ensures.err c.args.self.now.rest;
}

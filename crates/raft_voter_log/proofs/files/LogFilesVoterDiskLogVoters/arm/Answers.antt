use Rattle.std.proofs.Common.{◌∙◌, ap, inl, refl, subst}
use Rattle.raft_log_fs.specs.Exits.{Arms}
use Rattle.raft_log_fs.specs.declared.handle.Fault.{Fault}
use Rattle.raft_log_fs_memory.specs.Memory.{disk_of}
use Rattle.raft_log_fs_memory.specs.Turns.{armed, armed_with}
use Rattle.raft_voter_log.proofs.Crashes.{armed_leaves}
use Rattle.raft_voter_log.proofs.files.LogFilesVoterDiskLogVoters.arm.Goals as goal

pub returns-in-Ok-clause-arms : goal.returns-in-Ok-clause-arms
returns-in-Ok-clause-arms g c = (
  inl (
    subst (λ (f : Fault). Arms f (disk_of c.args.self.now.files) (disk_of c.arm.new.self)) c.fault_of.ensures c.in-Ok.ensures.ok,
    c.in-Ok.ensures.armed ∙ ap (λ (f : Fault). armed_with f (armed c.args.self.now.files)) c.fault_of.ensures,
  ),
  refl,
)

pub returns-in-Ok-clause-stands : goal.returns-in-Ok-clause-stands
returns-in-Ok-clause-stands g c = λ cut known.
    armed_leaves c.args.self.now.config c.args.fault.now (disk_of c.args.self.now.files) (disk_of c.arm.new.self) cut
    (subst (λ (f : Fault). Arms f (disk_of c.args.self.now.files) (disk_of c.arm.new.self)) c.fault_of.ensures c.in-Ok.ensures.ok) known

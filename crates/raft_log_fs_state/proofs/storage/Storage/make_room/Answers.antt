use Rattle.std.proofs.Common.{refl}
use Rattle.raft_log_fs_state.proofs.Whole.{whole_same}
use Rattle.raft_log_fs_state.proofs.storage.Storage.make_room.Goals as goal

pub returns-in-Ok-clause-whole : goal.returns-in-Ok-clause-whole
returns-in-Ok-clause-whole c = whole_same c.args.self.now _ c.requires (λ q. refl) c.reserve.ensures.same refl c.reserve.ensures.len

pub returns-in-Err-clause-whole : goal.returns-in-Err-clause-whole
returns-in-Err-clause-whole c = whole_same c.args.self.now _ c.requires (λ q. refl) c.reserve.ensures.same refl c.reserve.ensures.len

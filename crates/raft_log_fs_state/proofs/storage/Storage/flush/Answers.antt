use Rattle.std.proofs.Common.{refl}
use Rattle.raft_log_fs_state.specs.declared.storage.Storage.{Storage}
use Rattle.raft_log_fs_state.proofs.Whole.{syncs, whole_syncs}
use Rattle.raft_log_fs_state.proofs.storage.Storage.flush.Goals as goal

abbrev after : goal.After-flush_file → Storage
after c = record { alloc = c.args.self.now.alloc; paths = c.args.self.now.paths; files = c.flush_file.new.files; made = c.args.self.now.made }

pub returns-clause-ok : goal.returns-clause-ok
returns-clause-ok c =
    syncs c.args.self.now (after c) c.args.id (λ q. refl) c.requires.there c.flush_file.ensures.done refl c.flush_file.ensures.len

pub returns-clause-whole : goal.returns-clause-whole
returns-clause-whole c =
    whole_syncs c.args.self.now (after c) c.args.id c.requires.whole c.requires.there (returns-clause-ok c) c.flush_file.ensures.done refl

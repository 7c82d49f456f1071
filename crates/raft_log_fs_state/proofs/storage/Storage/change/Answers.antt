use Rattle.std.proofs.Common.{refl, arith, ◌≡◌, ◌+◌}
use Rattle.std.specs.Prelude.{suc}
use Rattle.raft_log_fs_state.specs.Changes.{change_of, rest_of}
use Rattle.raft_log_fs_state.proofs.Exits.{on_err}
use Rattle.raft_log_fs_state.proofs.Whole.{is_same, whole_same, makes, whole_makes}
use Rattle.raft_log_fs_state.proofs.storage.Storage.change.Goals as goal

pub returns-in_err-change_file-clause-err : goal.returns-in_err-change_file-clause-err
returns-in_err-change_file-clause-err c = on_err c.from_residual.result _
    (is_same c.args.self.now _ (λ q. refl) c.in_err-change_file.ensures.err refl c.change_file.ensures.len)

pub returns-in_err-change_file-clause-whole : goal.returns-in_err-change_file-clause-whole
returns-in_err-change_file-clause-whole c = whole_same c.args.self.now _ c.requires.whole (λ q. refl) c.in_err-change_file.ensures.err refl c.change_file.ensures.len

pub returns-clause-ok : goal.returns-clause-ok
returns-clause-ok c =
    makes c.args.self.now _ c.args.id (change_of c.args.change c.args.bytes.now) (rest_of c.args.change) c.requires.whole c.requires.there (λ q. refl) c.in_ok-change_file.ensures.ok
    (let next : c.args.self.now.made + 1 ≡ suc c.args.self.now.made = omega arith in next) c.change_file.ensures.len

pub returns-clause-whole : goal.returns-clause-whole
returns-clause-whole c =
    whole_makes c.args.self.now _ c.args.id (change_of c.args.change c.args.bytes.now) (rest_of c.args.change) c.requires.whole c.requires.there c.requires.short (returns-clause-ok c) c.in_ok-change_file.ensures.ok
    (let next : c.args.self.now.made + 1 ≡ suc c.args.self.now.made = omega arith in next)

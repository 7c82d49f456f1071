use Rattle.std.proofs.Common.{ap}
use Rattle.std.specs.Prelude.{vec_len}
use Rattle.raft_log_fs_state.specs.Held.{held_of}
use Rattle.raft_log_fs_state.proofs.Exits.{on_err}
use Rattle.raft_log_fs_state.proofs.Whole.{is_same, whole_same, adds_directory, whole_adds_directory}
use Rattle.raft_log_fs_state.proofs.storage.Storage.add_directory.Goals as goal

pub returns-in_err-name-clause-err : goal.returns-in_err-name-clause-err
returns-in_err-name-clause-err c = on_err c.from_residual.result _
    (is_same c.args.self.now c.name.new.self c.in_err-name.ensures.err (λ q. ap (λ v. held_of v.items q) c.name.ensures.files) c.name.ensures.made (ap vec_len c.name.ensures.files))

pub returns-in_err-name-clause-whole : goal.returns-in_err-name-clause-whole
returns-in_err-name-clause-whole c =
    whole_same c.args.self.now c.name.new.self c.requires.whole c.in_err-name.ensures.err (λ q. ap (λ v. held_of v.items q) c.name.ensures.files) c.name.ensures.made (ap vec_len c.name.ensures.files)

pub returns-clause-ok : goal.returns-clause-ok
returns-clause-ok c =
    adds_directory c.args.self.now c.name.new.self c.args.path.now c.requires.free c.in_ok-name.ensures.ok
    (λ q. ap (λ v. held_of v.items q) c.name.ensures.files) c.name.ensures.made (ap vec_len c.name.ensures.files)

pub returns-clause-whole : goal.returns-clause-whole
returns-clause-whole c =
    whole_adds_directory c.args.self.now c.name.new.self c.args.path.now c.requires.whole c.requires.free (returns-clause-ok c)
    (λ q. ap (λ v. held_of v.items q) c.name.ensures.files) c.name.ensures.made

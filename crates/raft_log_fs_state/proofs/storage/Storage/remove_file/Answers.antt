use Rattle.std.proofs.Common.{ap, subst, ◌≡◌, ◌∙◌, ℕ, None, nat_eq}
use Rattle.std.specs.Prelude.{vec_len}
use Rattle.std.specs.Map.{update}
use Rattle.raft_log_fs_state.specs.Held.{held_of}
use Rattle.raft_log_fs_state.proofs.Whole.{drops, whole_drops}
use Rattle.raft_log_fs_state.proofs.storage.Storage.remove_file.Goals as goal

files_of : (c : goal.After-drop_file) → (q : ℕ) → held_of c.drop_file.new.self.files.items q ≡ update nat_eq (held_of c.args.self.now.files.items) c.args.id None q
files_of c q = subst (λ v. held_of c.drop_file.new.self.files.items q ≡ update nat_eq (held_of v.items) c.args.id None q) c.unname.ensures.files (c.drop_file.ensures.files q)

pub returns-clause-ok : goal.returns-clause-ok
returns-clause-ok c =
    drops c.args.self.now c.drop_file.new.self c.args.path.now c.args.id c.requires.is (λ q. c.drop_file.ensures.nodes q ∙ c.unname.ensures.nodes q)
    (files_of c) (c.drop_file.ensures.made ∙ c.unname.ensures.made) (c.drop_file.ensures.len ∙ ap vec_len c.unname.ensures.files)

pub returns-clause-whole : goal.returns-clause-whole
returns-clause-whole c =
    whole_drops c.args.self.now c.drop_file.new.self c.args.path.now c.args.id c.requires.whole c.requires.is (returns-clause-ok c)
    (files_of c) (c.drop_file.ensures.made ∙ c.unname.ensures.made)

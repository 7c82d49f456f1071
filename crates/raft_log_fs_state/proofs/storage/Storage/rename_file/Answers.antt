use Rattle.std.proofs.Common.{rules, ap, sym, subst, ◌≡◌, ◌∙◌, ℕ, List, Option, Some, None, nat_eq}
use std.Path.{fun_ext}
use Rattle.std.specs.Prelude.{vec_len}
use Rattle.std.specs.Str.{bytes_eq}
use Rattle.std.specs.Map.{update}
use Rattle.raft_log_fs_state.specs.declared.storage.Node.{Node}
use Rattle.raft_log_fs_state.specs.declared.storage.Node.TheVariants as node
use Rattle.raft_log_fs_state.specs.Held.{held_of}
use Rattle.raft_log_fs_state.specs.Storage.{node_at}
use Rattle.raft_log_fs_state.proofs.Exits.{on_err}
use Rattle.raft_log_fs_state.proofs.Whole.{is_same, whole_same, stamped_kept, moves, moves_over, whole_moves, whole_moves_over, named_file}
use Rattle.raft_log_fs_state.proofs.storage.Storage.rename_file.Goals as goal

pub returns-in_err-name-clause-err : goal.returns-in_err-name-clause-err
returns-in_err-name-clause-err c = on_err c.from_residual.result _
    (is_same c.args.self.now c.name.new.self c.in_err-name.ensures.err (λ q. ap (λ v. held_of v.items q) c.name.ensures.files) c.name.ensures.made (ap vec_len c.name.ensures.files))

pub returns-in_err-name-clause-whole : goal.returns-in_err-name-clause-whole
returns-in_err-name-clause-whole c =
    whole_same c.args.self.now c.name.new.self c.requires.whole c.in_err-name.ensures.err (λ q. ap (λ v. held_of v.items q) c.name.ensures.files) c.name.ensures.made (ap vec_len c.name.ensures.files)

files_of_some : (c : goal.After-drop_file) → (q : ℕ) → held_of c.drop_file.new.self.files.items q ≡ update nat_eq (held_of c.args.self.now.files.items) c.in-Some.gone None q
files_of_some c q = subst (λ v. held_of c.drop_file.new.self.files.items q ≡ update nat_eq (held_of v.items) c.in-Some.gone None q) (c.unname.ensures.files ∙ c.name.ensures.files) (c.drop_file.ensures.files q)

pub returns-in-Some-clause-ok : goal.returns-in-Some-clause-ok
returns-in-Some-clause-ok c =
    let old = c.args.self.now in
    let apart : c.args.from.now ≡ c.args.to.now → ⊥ = search rules in
    let nodes : (q : List ℕ) → node_at c.drop_file.new.self q ≡ update bytes_eq (update bytes_eq (node_at old) c.args.to.now (Some (node.File c.args.id))) c.args.from.now None q =
    λ q. c.drop_file.ensures.nodes q ∙ (c.unname.ensures.nodes q
    ∙ ap (λ (F : List ℕ → Option Node). update bytes_eq F c.args.from.now None q) (fun_ext c.in_ok-name.ensures.ok)) in
    moves_over old c.drop_file.new.self c.args.from.now c.args.to.now c.args.id c.in-Some.gone c.requires.whole apart c.requires.is
    (named_file (node_at old c.args.to.now) c.in-Some.gone (sym c.in-Some.ensures)) nodes (files_of_some c)
    (c.drop_file.ensures.made ∙ (c.unname.ensures.made ∙ c.name.ensures.made))
    (c.drop_file.ensures.len ∙ (ap vec_len c.unname.ensures.files ∙ ap vec_len c.name.ensures.files))

pub returns-in-Some-clause-whole : goal.returns-in-Some-clause-whole
returns-in-Some-clause-whole c =
    whole_moves_over c.args.self.now c.drop_file.new.self c.args.from.now c.args.to.now c.args.id c.in-Some.gone c.requires.whole c.requires.is c.requires.apart
    c.requires.home (returns-in-Some-clause-ok c) (files_of_some c) (c.drop_file.ensures.made ∙ (c.unname.ensures.made ∙ c.name.ensures.made))

files_of_none : (c : goal.In-None) → (q : ℕ) → held_of c.unname.new.self.files.items q ≡ held_of c.args.self.now.files.items q
files_of_none c q = ap (λ v. held_of v.items q) (c.unname.ensures.files ∙ c.name.ensures.files)

pub returns-in-None-clause-ok : goal.returns-in-None-clause-ok
returns-in-None-clause-ok c =
    let old = c.args.self.now in
    let apart : c.args.from.now ≡ c.args.to.now → ⊥ = search rules in
    let nodes : (q : List ℕ) → node_at c.unname.new.self q ≡ update bytes_eq (update bytes_eq (node_at old) c.args.to.now (Some (node.File c.args.id))) c.args.from.now None q =
    λ q. c.unname.ensures.nodes q
    ∙ ap (λ (F : List ℕ → Option Node). update bytes_eq F c.args.from.now None q) (fun_ext c.in_ok-name.ensures.ok) in
    moves old c.unname.new.self c.args.from.now c.args.to.now c.args.id apart c.requires.is c.requires.apart nodes (sym c.in-None.ensures)
    (files_of_none c) (c.unname.ensures.made ∙ c.name.ensures.made) (ap vec_len (c.unname.ensures.files ∙ c.name.ensures.files))

pub returns-in-None-clause-whole : goal.returns-in-None-clause-whole
returns-in-None-clause-whole c =
    whole_moves c.args.self.now c.unname.new.self c.args.from.now c.args.to.now c.args.id c.requires.whole c.requires.is c.requires.apart c.requires.home (returns-in-None-clause-ok c)
    (stamped_kept c.args.self.now c.unname.new.self (files_of_none c) (c.unname.ensures.made ∙ c.name.ensures.made) c.requires.whole.stamped)

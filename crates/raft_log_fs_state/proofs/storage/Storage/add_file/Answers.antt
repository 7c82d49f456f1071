use Rattle.std.proofs.Common.{rules, ap, subst, arith, ◌≡◌, ◌∙◌, ◌+◌, ℕ, List, Option, Some, ◌++◌, ◌∷◌, [], nat_eq}
use Rattle.std.specs.Prelude.{vec_len, suc}
use Rattle.std.specs.Map.{update}
use Rattle.std.specs.Str.{bytes_eq}
use Rattle.raft_log_fs_state.specs.declared.files.Stored.{Stored}
use Rattle.raft_log_fs_state.specs.declared.storage.Storage.{Storage}
use Rattle.raft_log_fs_state.specs.declared.storage.Node.TheVariants as node
use Rattle.raft_log_fs_state.specs.Held.{Held, held_of, resting}
use Rattle.raft_log_fs_state.specs.Storage.{node_at}
use Rattle.raft_log_fs_state.proofs.StorageLaws.{held_pushed}
use Rattle.raft_log_fs_state.proofs.Exits.{on_err}
use Rattle.raft_log_fs_state.proofs.Whole.{is_same, whole_same, adds_file, whole_adds_file}
use Rattle.raft_log_fs_state.proofs.storage.Storage.add_file.Goals as goal
use Rattle.std.proofs.Common.{refl}

pub returns-in_err-reserve-clause-err : goal.returns-in_err-reserve-clause-err
returns-in_err-reserve-clause-err c = on_err c.from_residual.result _
    (is_same c.args.self.now _ (λ q. refl) (λ q. ap (λ xs. held_of xs q) c.reserve.ensures.items) refl c.reserve.ensures.len)

pub returns-in_err-reserve-clause-whole : goal.returns-in_err-reserve-clause-whole
returns-in_err-reserve-clause-whole c = whole_same c.args.self.now _ c.requires.whole (λ q. refl) (λ q. ap (λ xs. held_of xs q) c.reserve.ensures.items) refl c.reserve.ensures.len

pub returns-in_err-name-clause-err : goal.returns-in_err-name-clause-err
returns-in_err-name-clause-err c = on_err c.from_residual-in_err-name.result _
    (is_same c.args.self.now c.name.new.self c.in_err-name.ensures.err
    (λ q. ap (λ v. held_of v.items q) c.name.ensures.files ∙ ap (λ xs. held_of xs q) c.reserve.ensures.items)
    c.name.ensures.made (ap vec_len c.name.ensures.files ∙ c.reserve.ensures.len))

pub returns-in_err-name-clause-whole : goal.returns-in_err-name-clause-whole
returns-in_err-name-clause-whole c =
    whole_same c.args.self.now c.name.new.self c.requires.whole c.in_err-name.ensures.err
    (λ q. ap (λ v. held_of v.items q) c.name.ensures.files ∙ ap (λ xs. held_of xs q) c.reserve.ensures.items)
    c.name.ensures.made (ap vec_len c.name.ensures.files ∙ c.reserve.ensures.len)

files_of_ok : (c : goal.After-unwrap) → (q : ℕ) → held_of c.push.new.self.items q ≡ update nat_eq (held_of c.args.self.now.files.items) (vec_len c.args.self.now.files) (Some (resting [])) q
files_of_ok c q =
    let old = c.args.self.now.files in
    let before : c.name.new.self.files.items ≡ old.items = ap (λ v. v.items) c.name.ensures.files ∙ c.reserve.ensures.items in
    let pushed : c.push.new.self.items ≡ c.name.new.self.files.items ++ Some c.at_rest-empty.result ∷ [] = search rules in
    ap (λ xs. held_of xs q) (pushed ∙ ap (λ (xs : List (Option Stored)). xs ++ Some c.at_rest-empty.result ∷ []) before)
    ∙ (held_pushed old.items c.at_rest-empty.result (vec_len old) old.ok.0 q
    ∙ ap (λ (h : Held). update nat_eq (held_of old.items) (vec_len old) (Some h) q) (c.at_rest-empty.ensures ∙ ap resting (c.from_vec.ensures ∙ c.new.ensures.items)))

abbrev after : goal.After-unwrap → Storage
after c = record { alloc = c.name.new.self.alloc; paths = c.name.new.self.paths; files = c.push.new.self; made = c.name.new.self.made }

pub returns-clause-ok : goal.returns-clause-ok
returns-clause-ok c =
    let old = c.args.self.now in
    let number : c.len-id.result ≡ vec_len old.files = search rules in
    let longer : vec_len c.push.new.self ≡ suc (vec_len old.files) =
    (let before : vec_len c.name.new.self.files ≡ vec_len old.files = ap vec_len c.name.ensures.files ∙ c.reserve.ensures.len in
    let after : vec_len c.push.new.self ≡ vec_len c.name.new.self.files + 1 = search rules in omega (arith, before, after)) in
    adds_file old (after c) c.args.path.now c.requires.whole c.requires.free
    (subst (λ (n : ℕ). (q : List ℕ) → node_at c.name.new.self q ≡ update bytes_eq (node_at old) c.args.path.now (Some (node.File n)) q) number c.in_ok-name.ensures.ok)
    (files_of_ok c) c.name.ensures.made longer

pub returns-clause-whole : goal.returns-clause-whole
returns-clause-whole c =
    whole_adds_file c.args.self.now (after c) c.args.path.now c.requires.whole c.requires.free c.requires.home (returns-clause-ok c) (files_of_ok c) c.name.ensures.made

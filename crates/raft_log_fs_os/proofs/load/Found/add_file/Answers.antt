use Rattle.std.specs.Option.{option_map}
use Rattle.std.proofs.Common.{ap, sym, subst, ◌≡◌, ℕ, None}
use Rattle.raft_log_fs_state.specs.Held.{file_of, held_of}
use Rattle.raft_log_fs_state.proofs.Public.{some_file_held}
use Rattle.raft_log_fs_os.proofs.Filling.{is_added}
use Rattle.raft_log_fs_os.proofs.Resting.{rest_added, rest_alike, rest_filled}
use Rattle.raft_log_fs_os.proofs.load.Found.add_file.Goals as goal

pub fill-requires-clause-there : goal.fill-requires-clause-there
fill-requires-clause-there c =
    subst (λ (n : ℕ). held_of c.add_file.new.self.files.items n ≡ None → ⊥) (sym c.len-file.ensures)
    (is_added c.args.self.now.storage c.add_file.new.self c.args.path.now c.in_ok-add_file.ensures.ok.contents)

pub invariant_of-self : goal.invariant_of-self
invariant_of-self c = record {
  whole = c.add_file.ensures.whole;
  rest = rest_alike c.args.self.now.storage c.add_file.new.self c.in_err-add_file.ensures.err.contents c.args.self.now.rest;
}

pub invariant_of-self-2 : goal.invariant_of-self-2
invariant_of-self-2 c =
    let added = rest_added c.args.path.now c.args.self.now.storage c.add_file.new.self c.in_ok-add_file.ensures.ok.contents c.args.self.now.rest in
    let there = subst (λ (n : ℕ). held_of c.add_file.new.self.files.items n ≡ None → ⊥) (sym c.len-file.ensures)
    (is_added c.args.self.now.storage c.add_file.new.self c.args.path.now c.in_ok-add_file.ensures.ok.contents) in
    let file = some_file_held (held_of c.add_file.new.self.files.items c.len-file.result) there in
    record {
      whole = c.fill.ensures.whole;
      rest = rest_filled c.len-file.result c.args.content.items c.add_file.new.self c.fill.new.storage (file_of file.0) (ap (option_map file_of) file.1) c.fill.ensures.filled added;
    }

use Rattle.std.proofs.Common.{refl, ap, ◌∙◌, Option, subst, arith, false, true, ℕ, List, ◌≡◌, length}
use Rattle.std.specs.Option.{option_map}
use Rattle.raft_log_fs.specs.Reading.{unreadable}
use Rattle.raft_log_fs_state.specs.Held.{Held, held_of, file_of}
use Rattle.raft_log_fs_state.specs.Steps.{size_of}
use Rattle.raft_log_fs_memory.specs.Memory.{is_denied}
use Rattle.raft_log_fs_memory.proofs.Calls.{held_there}
use Rattle.raft_log_fs_memory.proofs.memory.calls.MemoryFileSystemFileSystem.read_at.Goals as goal

pub returns-then-denies-clause-err : goal.returns-then-denies-clause-err
returns-then-denies-clause-err c =
    let got = held_there (held_of c.args.self.now.storage.files.items c.args.handle.file) c.in_ok-check_handle.ensures.ok.1 in
    let size : c.size-size.result ≡ length got.0.content = c.size-size.ensures ∙ ap (λ (o : Option Held). size_of (option_map file_of o)) got.1 in
    let within = c.if-denies.ensures.denied refl in
    unreadable (file_of got.0) within.place (ap (option_map file_of) got.1) within.from
    (omega (arith, within.below, c.min-count.ensures)) (omega (arith, within.from, within.below, c.min-count.ensures, c.saturating_sub.ensures, size))
    (subst (λ (ms : List (ℕ × ℕ)). is_denied ms c.args.handle.file within.place ≡ true) c.deref.ensures.value within.denied) refl

pub returns-clause-within : goal.returns-clause-within
returns-clause-within c =
    let got = held_there (held_of c.args.self.now.storage.files.items c.args.handle.file) c.in_ok-check_handle.ensures.ok.1 in
    omega (arith, c.read-count.ensures.number got.0 got.1)

pub returns-clause-ok : goal.returns-clause-ok
returns-clause-ok c =
    let got = held_there (held_of c.args.self.now.storage.files.items c.args.handle.file) c.in_ok-check_handle.ensures.ok.1 in (
      λ honest. record {
        runs = c.in_ok-check_handle.ensures.ok.0;
        file = file_of got.0;
        is = ap (option_map file_of) got.1;
        number = c.read-count.ensures.number got.0 got.1;
        bytes = c.read-count.ensures.bytes got.0 got.1;
      },
      λ fills. c.none-receipt.ensures,
    )

pub returns-clause-readable : goal.returns-clause-readable
returns-clause-readable c = λ place from below.
    let got = held_there (held_of c.args.self.now.storage.files.items c.args.handle.file) c.in_ok-check_handle.ensures.ok.1 in
    let size : c.size-size.result ≡ length got.0.content = c.size-size.ensures ∙ ap (λ (o : Option Held). size_of (option_map file_of o)) got.1 in
    subst (λ (ms : List (ℕ × ℕ)). is_denied ms c.args.handle.file place ≡ false) c.deref.ensures.value
    (c.if-denies.ensures.free refl place from (omega (arith, below, c.read-count.ensures.number got.0 got.1, c.min-count.ensures, c.saturating_sub.ensures, size)))

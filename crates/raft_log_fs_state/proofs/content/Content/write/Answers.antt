use Rattle.std.proofs.Common.{refl, sym, arith, ap, subst, ◌≡◌, ◌∙◌, ℕ, List, length, take}
use Rattle.std.specs.Prelude.{◌+◌, ◌≤◌, max, min, vec_len}
use Rattle.std.proofs.lemmas.List.{length-take}
use Rattle.raft_log_fs.specs.Disk.{grown, overwritten}
use Rattle.raft_log_fs.proofs.Public.{overwritten_torn}
use Rattle.raft_log_fs_state.specs.Zeros.{HasZerosBehind}
use Rattle.raft_log_fs_state.proofs.Behind.{front_grown, written_behind}
use Rattle.raft_log_fs_state.proofs.Exits.{ok_then}
use Rattle.raft_log_fs_state.proofs.Zeros.{written_front, zeros_written}
use Rattle.raft_log_fs_state.proofs.content.Content.write.Goals as goal

pub invariant_of-self-2 : goal.invariant_of-self-2
invariant_of-self-2 c =
    let at = c.args.offset in
    let over = c.args.over.now in
    let old = c.self.inside in
    let new = c.overwrite.new.bytes in
    let now : List ℕ = overwritten at over old.front.items in
    let items : new.items ≡ now = c.in_ok-overwrite.ensures.ok in
    let count : vec_len new ≡ length now = new.ok.0 ∙ ap length items in
    let longer : length old.front.items ≤ length now = (overwritten_torn at over old.front.items).longer in
    let reached : ℕ = max old.written (min (at + length over) (length now)) in
    let is_reached : reached ≡ c.max-self-inside.result = omega (arith, c.max-self-inside.ensures, c.min.ensures, c.len.ensures, count) in
    let has : HasZerosBehind reached now = written_behind old.written at over old.front.items (length now) refl longer c.self.invariant.1.1 in (
      omega (arith, c.max-self-inside-2.ensures, c.len-2.ensures),
      (
        omega (arith, c.max-self-inside-2.ensures, c.len-2.ensures, c.self.invariant.1.0, new.ok, new.small),
        subst (λ (xs : List ℕ). HasZerosBehind c.max-self-inside.result xs) (sym items) (subst (λ (n : ℕ). HasZerosBehind n now) is_reached has),
      ),
    )

pub returns-clause-ok : goal.returns-clause-ok
returns-clause-ok c =
    let at = c.args.offset in
    let over = c.args.over.now in
    let old = c.self.inside in
    let now : List ℕ = overwritten at over old.front.items in
    let items : c.overwrite.new.bytes.items ≡ now = c.in_ok-overwrite.ensures.ok in
    let count : vec_len c.overwrite.new.bytes ≡ length now = c.overwrite.new.bytes.ok.0 ∙ ap length items in
    let size : c.max-self-inside-2.result ≡ max old.size (length now) = omega (arith, c.max-self-inside-2.ensures, c.len-2.ensures, count) in
    ap (λ (n : ℕ). grown n c.overwrite.new.bytes.items) size
    ∙ (ap (grown (max old.size (length now))) items
    ∙ (written_front at over old.size (length now) old.front.items refl ∙ ap (overwritten at over) c.self.view_is))

pub returns-then-are_zeros-clause-ok : goal.returns-then-are_zeros-clause-ok
returns-then-are_zeros-clause-ok c =
    let at = c.args.offset in
    let over = c.args.over.now in
    let old = c.self.inside in
    let first : List ℕ = take old.written old.front.items in
    let behind : length first ≤ at = omega (arith, length-take old.written old.front.items, c.if-self-offset.true) in
    let within : length old.front.items ≤ old.size = omega (arith, c.self.invariant.0, old.front.ok) in
    let is_now : grown old.size first ≡ c.args.self.now = sym (front_grown old.written old.size old.front.items within c.self.invariant.1.1) ∙ c.self.view_is in
    let same = zeros_written at over old.size first behind (c.if-are_zeros.ensures.some refl) (c.if-are_zeros.ensures.zeros refl) in
    let is : grown (at + length over) c.args.self.now ≡ overwritten at over c.args.self.now =
    ap (grown (at + length over)) (sym is_now) ∙ (same ∙ ap (overwritten at over) is_now) in
    ok_then c.fill.result (λ grew. grew ∙ is) c.fill.ensures.ok

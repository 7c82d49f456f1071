use Rattle.std.proofs.Common.{ℕ, ◌<◌, length, arith, rules}
use Rattle.std.proofs.lemmas.Bool.Decides.{nat_tests}
use Rattle.raft_voter.specs.State.{State}
use Rattle.raft_voter_plain.proofs.Damage.{all_left, handed_on, nothing_held, one_less}
use Rattle.raft_voter_plain.proofs.Records.{shorter}
use Rattle.raft_voter_plain.proofs.Worlds.{read_on}
use Rattle.raft_voter_plain.proofs.store.read_voters.Goals as goal

pub loop-left-init : goal.loop-left-init
loop-left-init c = (search rules, all_left c.args.bytes.now, omega arith)

pub loop-left-smaller : goal.loop-left-smaller
loop-left-smaller c = shorter _ _ (c.in_ok-group.group, c.in_ok-group.voter) c.in_ok-group.ensures.ok.text

pub loop-left-preserved : goal.loop-left-preserved
loop-left-preserved c =
    let r : ℕ × State = (c.in_ok-group.group, c.in_ok-group.voter) in
    let found = c.in_ok-group.ensures.ok in
    let before = c.loop-left.invariant in
    let less = shorter _ _ r found.text in
    (read_on _ _ _ _ _ r before.0 found c.in_ok-set_voter.ensures, one_less _ _ _ r before.1 found, omega (arith, less, before.2))

pub returns-in_err-group-clause-err : goal.returns-in_err-group-clause-err
returns-in_err-group-clause-err c =
    let more : 0 < length c.loop-left.left.now = grind (arith, nat_tests, c.is_empty.ensures) in
    handed_on c.from_residual.result _ _ c.in_err-group.field-0.0 c.from_residual.ensures.1 c.in_err-group.ensures.err (nothing_held _ _ c.loop-left.invariant.1 more)

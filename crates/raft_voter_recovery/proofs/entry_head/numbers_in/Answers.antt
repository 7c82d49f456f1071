use Rattle.std.proofs.Common.{◌≡◌, ◌∷◌, ◌≤◌, length, sym, arith, rules}
use Rattle.raft_voter_recovery.proofs.Numbers.{numbers_are}
use Rattle.raft_voter_recovery.proofs.entry_head.numbers_in.Goals as goal

pub returns : goal.returns
returns c =
    let bytes = c.args.bytes.now in
    let form = c.in-Some.form.now in
    let body = c.in-Some.body.now in
    let whole : bytes ≡ form ∷ body = search rules in
    let one : form ≡ 1 = omega arith in
    let long : 16 ≤ length body = omega arith in
    let short : length body ≤ 65551 = omega arith in
    sym (numbers_are bytes body c.split_number-index.result.1.now c.split_number-term.result.1.now form c.split_number-index.result.0 c.split_number-term.result.0 whole one long short c.split_number-index.ensures.text
    c.split_number-term.ensures.text c.split_number-index.ensures.small c.split_number-term.ensures.small)

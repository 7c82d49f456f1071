use Rattle.std.proofs.Common.{◌≡◌, ◌∙◌, ap, refl, ◌<◌, ◌^◌, ◌+◌, length, true, arith, rules}
use Rattle.std.specs.List.{list_all}
use Rattle.std.proofs.lemmas.List.{length-map}
use Rattle.std.proofs.lemmas.Bool.Decides.{nat_tests}
use Rattle.raft_voter_outline.specs.Restoring.{are_in_order, with_log}
use Rattle.raft_voter_outline.specs.Outlines.{without_bytes}
use Rattle.raft_voter_messages.specs.StoredForms.{stored_entry_fits}
use Rattle.raft_voter_outline.proofs.Public.{last_in_range}
use Rattle.raft_voter.proofs.voter.Voter.restore.Goals as goal

pub restore-requires-clause-small : goal.restore-requires-clause-small
restore-requires-clause-small c =
    let es = c.args.entries in
    let fit : list_all stored_entry_fits es ≡ true = search rules in
    let order : are_in_order (c.args.state.base_index + 1) es ≡ true = search rules in
    let small : c.args.state.base_index < 2 ^ 63 = grind (arith, nat_tests) in
    let size : length c.in-Ok.log.items ≡ length es = grind (arith, length-map) in
    rw c.as_slice-3.ensures.value (omega (arith, size, last_in_range es c.args.state.base_index fit order small))

pub invariant_of-result : goal.invariant_of-result
invariant_of-result c =
    let es = c.args.entries in
    let log = c.in-Ok.log.items in
    let fit : list_all stored_entry_fits es ≡ true = search rules in
    let order : are_in_order (c.args.state.base_index + 1) es ≡ true = search rules in
    let small : c.args.state.base_index < 2 ^ 63 = grind (arith, nat_tests) in
    let size : length log ≡ length es = grind (arith, length-map) in
    let is : c.in-Ok-restore.outline.voter ≡ without_bytes (with_log c.args.state log) =
    c.in-Ok-restore.ensures.ok ∙ ap (λ l. without_bytes (with_log c.args.state l)) c.as_slice-3.ensures.value in
    rw is (record { bared = refl; small = omega (arith, size, last_in_range es c.args.state.base_index fit order small) })

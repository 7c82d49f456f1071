use Rattle.std.proofs.Common.{◌∙◌, List, sym, subst}
use Rattle.std.specs.Prelude.{Option}
use Rattle.raft_log_shared.specs.Receipts.{AreIn, Stamp}
use Rattle.raft_log_shared_examples.specs.Sharing.{IsAnswered}
use Rattle.raft_log_shared_examples.proofs.Kept.{answered, came_back, confirmed}
use Rattle.raft_log_shared_examples.proofs.sharing.write_durably.Goals as goal

pub returns-clause-answered : goal.returns-clause-answered
returns-clause-answered g c =
    let written = c.write-written.result in
    let told = c.write-written.ensures in
    let same = c.confirm.ensures.same ∙ c.as_mut_slice.ensures.value in
    subst (λ (r : Option Stamp). IsAnswered c.args.batch written.result r)
    (sym (came_back written.receipt c.confirm.new.receipts same))
    (answered c.args.batch written.result written.receipt told.stamped told.none)

pub returns-clause-confirmed : goal.returns-clause-confirmed
returns-clause-confirmed g c =
    let written = c.write-written.result in
    let told = c.write-written.ensures in
    confirmed c.synced_writes_are_durable.ensures g.L.Opening.began c.args.batch written.result written.receipt
    (answered c.args.batch written.result written.receipt told.stamped told.none)
    (subst (λ (all : List Stamp). AreIn g.L.Opening.began all) c.as_mut_slice.ensures.value c.confirm.ensures.found)

use Rattle.std.proofs.Common.{◌∙◌, sym}
use Rattle.std.proofs.Math.Logic.{∥∥₁_map}
use Rattle.raft_voter_rounds.specs.Journal.{reached}
use Rattle.raft_voter_shared.specs.Standing.{standing}
use Rattle.raft_voter_shared.proofs.Failing.{still_fails}
use Rattle.raft_voter_shared.proofs.Seeing.{seen_err, seen_ok}
use Rattle.raft_voter_shared.proofs.desk.Desk.voters.Goals as goal

-- the voters are the same
pub invariant_of-self : goal.invariant_of-self
invariant_of-self g c =
    let v = g.S.RoundService.service in
    let old = c.args.self.now in
    let rounds = old.journal.history in
    let stays = c.voters.ensures.keeps in
    record {
      counted = old.counted;
      fewer = old.fewer;
      legal = old.legal;
      serves = λ W s alive. ∥∥₁_map (old.serves W s (sym stays.failed ∙ alive)) (stays.served (reached W rounds));
      left = λ W s. ∥∥₁_map (old.left W s) (stays.left (standing W rounds old.failure));
      alive = λ alive. old.alive (sym stays.failed ∙ alive);
      last = old.last;
      cause = λ dead lived. old.cause (sym stays.failed ∙ dead) lived;
      why = λ W s. still_fails v old.store c.voters.new.self (standing W rounds old.failure) old.failure stays.left (old.why W s);
    }

pub returns-clause-ok : goal.returns-clause-ok
returns-clause-ok g c =
    let desk = c.args.self.now in
    seen_ok g.S.RoundService.service g.L.Opening.served desk.store desk.journal.history desk.failure desk.legal desk.last desk.alive desk.serves desk.left c.voters.result (λ voters. g.S.Listing.lists voters.items) c.voters.ensures.ok

pub returns-clause-err : goal.returns-clause-err
returns-clause-err g c =
    let desk = c.args.self.now in
    seen_err g.S.RoundService.service g.L.Opening.served desk.store desk.journal.history desk.failure desk.legal desk.last desk.alive desk.serves desk.left c.voters.result g.S.Listing.hides c.voters.ensures.err

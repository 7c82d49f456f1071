use Rattle.raft_voter_plain.specs.Content.{whole}
use Rattle.std.proofs.Common.{◌≡◌, rules, subst}
use Rattle.raft_voter_plain.specs.declared.record.OpenFault.{OpenFault}
use Rattle.raft_voter_plain.specs.declared.record.OpenFault.TheVariants.{Damaged}
use Rattle.raft_voter_plain.specs.Damage.{StandsForNothing, TellsDamage}
use Rattle.raft_voter_plain.proofs.Worlds.{opened_at}
use Rattle.raft_voter_plain.proofs.store.PlainFileStoreFilesPlainVoters.open.Goals as goal

pub returns-in-Ok-clause-finds : goal.returns-in-Ok-clause-finds
returns-in-Ok-clause-finds g c = opened_at c.args.self c.in-Ok.store c.in-Ok.ensures.synced c.in-Ok.ensures.voters c.in-Ok.ensures.alive

pub returns-in-Err-Damaged-clause-readable : goal.returns-in-Err-Damaged-clause-readable
returns-in-Err-Damaged-clause-readable g c = λ cut stands.
    let damaged : c.in-Err-Damaged.field-0.fault ≡ Damaged = search rules in
    let P : OpenFault → Type 0 = λ fault. TellsDamage (StandsForNothing (whole c.args.self)) fault in
    let none : StandsForNothing (whole c.args.self) = subst P damaged c.in-Err-Damaged.ensures.err in
    absurd (none stands.read.world stands.read.stands)

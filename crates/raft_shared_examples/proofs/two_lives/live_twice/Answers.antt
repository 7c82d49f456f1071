use Rattle.std.proofs.Common.{inl, refl}
use Rattle.raft_shared_examples.proofs.Living.{second_life}
use Rattle.raft_shared_examples.proofs.two_lives.live_twice.Goals as goal

pub returns-clause-kept : goal.returns-clause-kept
returns-clause-kept g c =
    let sound = (g.met.F.FileSystem g.world.𝓛 g.world.𝓜 g.world.𝓡 ((λ s x. x), (λ x. x), (λ x. x), λ x. x)).sound in
    let shared = c.in_ok-config.field-0 in
    second_life g.F.FileSystem.disk g.F.FileSystem.tells_space _ c.first_opens_are_fresh.ensures c.closed_stores_are_found.ensures c.kept_voters_are_told.ensures c.openings_lead.ensures c.each_group_keeps_its_voter.ensures sound
    c.args.config c.args.files shared.files shared c.in_ok-voters.voters.items c.in_ok-config.ensures.ok (inl refl) c.in_ok-voters.ensures

use Rattle.std.proofs.Common.{inr}
use Rattle.raft_log_engine.specs.raft_log_fs_memory.specs.Memory.{disk_of}
use Rattle.raft_shared_examples.proofs.Living.{memory_sound, second_life}
use Rattle.raft_shared_examples.proofs.two_lives.live_across_a_crash.Goals as goal

pub returns-clause-kept : goal.returns-clause-kept
returns-clause-kept g c =
    let shared = c.in_ok-config.field-0 in
    second_life disk_of _ _ c.first_opens_are_fresh.ensures c.closed_stores_are_found.ensures c.kept_voters_are_told.ensures c.openings_lead.ensures c.each_group_keeps_its_voter.ensures memory_sound
    c.args.config c.args.files c.in_ok-left.left shared c.in_ok-voters.voters.items c.in_ok-config.ensures.ok (inr c.in_ok-left.ensures.image) c.in_ok-voters.ensures

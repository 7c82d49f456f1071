-- The two halves of the headline.
use Rattle.raft_voter.specs.Rounds.{Leads, fresh_world}
use Rattle.raft_voter.specs.Service.{Service, uncut}
use Rattle.raft_voter_world.specs.declared.storage.Storage.TheVariants.{Closed}
use Rattle.raft_voter_world.specs.Cuts.{cuts_in}
use Rattle.raft_voter_world.specs.History.{rounds_in}
use Rattle.raft_voter_world.specs.Run.{AllExplained, AllTransparent, EndsWell}
use Rattle.raft_voter_world.specs.Stores.{Disk, Upkeep}
use Rattle.raft_voter_world.proofs.Explaining.{explain}
use Rattle.raft_voter_world.proofs.Going.{goes}

pub all_explained : {S F : Type 0} (v : Service S) (u : Upkeep S) (d : Disk S F) → AllExplained v u d
all_explained v u d files ms h l s n =
    let e = explain v u d (Closed files) (uncut fresh_world) ms h l s n tt in
    e.1.leads.explained

pub all_transparent : {S F : Type 0} (v : Service S) (u : Upkeep S) (d : Disk S F) → AllTransparent v u d
all_transparent v u d files ms h l known =
    goes v u d (EndsWell v d ms) (λ place X. Leads fresh_world (rounds_in ms) (cuts_in place ms) X)
    (λ storage cut left found some. record { left = left; explained = some.1.explained; found = found })
    (Closed files) (uncut fresh_world) known (uncut fresh_world) ms h l (λ X f. f) tt (λ place X leads. leads.leads)

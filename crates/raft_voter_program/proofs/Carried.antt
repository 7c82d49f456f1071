-- What the program does for its arguments, from what it calls.
use Rattle.std.proofs.Common.{◌≡◌, ℕ, List, Option, Some, None, Result, Ok, Err, IfOk, IfSome, String, sym, subst}
use Rattle.std.specs.declared.alloc.Global.{Global}
use Rattle.raft_voter.specs.Service.{Service}
use Rattle.raft_voter_world.specs.Stores.{Disk, Upkeep}
use Rattle.raft_voter_log.specs.declared.files.LogFiles.{LogFiles}
use Rattle.raft_voter_program.specs.Carrying.{CarriesOut}
use Rattle.raft_voter_program.specs.Loading.{Loads}
use Rattle.raft_voter_program.specs.StoreSetup.{Setup}
use Rattle.raft_voter_program.specs.declared.arguments.Arguments.{Arguments}
use Rattle.raft_voter_program.specs.declared.arguments.Arguments.TheVariants.{Load}

-- a log was loaded, whatever the reader has
pub loads_for : {S E : Type 0} (v : Service S) (u : Upkeep S) (d : Disk S LogFiles) (s : Setup LogFiles) (arguments : Arguments) (directory : String Global) (remaining old new : Option (List ℕ)) (r : Result ℕ E)
    → arguments ≡ Load directory → IfOk r (Loads v d old new) → IfOk r (λ status. IfSome remaining (λ input. CarriesOut v u d s arguments input old new status))
loads_for v u d s arguments directory None old new (Ok status) is loads = tt
loads_for v u d s arguments directory (Some input) old new (Ok status) is loads = subst (λ (a : Arguments). CarriesOut v u d s a input old new status) (sym is) loads
loads_for v u d s arguments directory remaining old new (Err e) is loads = tt

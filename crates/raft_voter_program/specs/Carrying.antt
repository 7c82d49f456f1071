-- What the program does for its arguments. `old` and `new` are the bytes that the writer has before and after, `None`
-- if they aren't known. `input` are the bytes that the reader has. The arguments `v`, `u`, `d` and `s` say what the
-- store promises: of its rounds, of its purges and armed faults, of its files, and of its settings.
use Rattle.std.specs.Prelude.{◌≡◌, ◌⊎◌, ℕ, true, false, List, Option}
use Rattle.std.specs.Io.KnownBytes.{Appends, Keeps}
use Rattle.raft_voter.specs.Service.{Service}
use Rattle.raft_voter_world.specs.Stores.{Disk, Upkeep}
use Rattle.raft_voter_log.specs.declared.files.LogFiles.{LogFiles}
use Rattle.raft_voter_program.specs.Keeping.{EndsKept}
use Rattle.raft_voter_program.specs.Leaving.{WritesLeaving}
use Rattle.raft_voter_program.specs.Loading.{Loads, LoadsEarly}
use Rattle.raft_voter_program.specs.Run.{Ends, EndsEarly, WritesSession}
use Rattle.raft_voter_program.specs.StoreSetup.{Setup}
use Rattle.raft_voter_program.specs.Writing.{StopsWithin}
use Rattle.raft_voter_program.specs.declared.arguments.Arguments.{Arguments}
use Rattle.raft_voter_program.specs.declared.arguments.Arguments.TheVariants.{Nothing, Help, Load, Save, Others}
use Rattle.raft_voter_program.specs.declared.arguments.TheConstants.{USAGE}

-- the usage text
abbrev pub usage_text : List ℕ
usage_text = USAGE.now

-- What the program did for its arguments, which ended with this exit status:
-- - `Nothing`: it ran the session `input`
-- - `Help`: it wrote the usage text
-- - `Load`: it listed the voters of a log that it loaded
-- - `Save`: it ran the session `input`, and kept the files of its log
-- - `Others`: it rejected the arguments
abbrev pub CarriesOut :
    {S : Type 0} → Service S → Upkeep S → Disk S LogFiles → Setup LogFiles
    → Arguments → List ℕ → Option (List ℕ) → Option (List ℕ) → ℕ → Type 0
CarriesOut v u d s Nothing input old new status = Ends (WritesSession v u d s) false input old new status
CarriesOut v u d s Help input old new status = Appends old new usage_text × (status ≡ 0)
CarriesOut v u d s (Load directory) input old new status = Loads v d old new status
CarriesOut v u d s (Save directory) input old new status = EndsKept (WritesLeaving v u d s) input old new status
CarriesOut v u d s Others input old new status = Ends (WritesSession v u d s) true input old new status

-- The program ended early for its arguments, without an exit status of its own. The writer got nothing, or a prefix of
-- a text that it may write, but not all of it.
abbrev pub StopsEarly :
    {S : Type 0} → Service S → Upkeep S → Disk S LogFiles → Setup LogFiles
    → Arguments → List ℕ → Option (List ℕ) → Option (List ℕ) → Type 0
StopsEarly v u d s Nothing input old new = EndsEarly (WritesSession v u d s) false input old new
StopsEarly v u d s Help input old new = StopsWithin old new usage_text
StopsEarly v u d s (Load directory) input old new = LoadsEarly v d old new
StopsEarly v u d s (Save directory) input old new = EndsEarly (WritesSession v u d s) false input old new
StopsEarly v u d s Others input old new = EndsEarly (WritesSession v u d s) true input old new

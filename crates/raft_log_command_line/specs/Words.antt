-- The command lines of the program `raft_log_ctl`.
use Rattle.std.specs.Prelude.{◌≡◌, ◌≢◌, ◌<◌, ◌^◌, ℕ, Bool, false, true, List, [], ◌∷◌, ◌++◌, Option, None, Some, String, codes, decimal, string_bytes}
use Rattle.std.specs.declared.alloc.Global.{Global}
use Rattle.raft_log_command_line.specs.declared.command.Command.{Command}
use Rattle.raft_log_command_line.specs.declared.command.Command.TheVariants.{Help, On, Purge}
use Rattle.raft_log_command_line.specs.declared.command.Task.{Task}
use Rattle.raft_log_command_line.specs.declared.command.Task.TheVariants.{Check, Dump, Fork, Stat, Unpad}
use Rattle.raft_log_command_line.specs.declared.place.Place.{Place}

-- the arguments that name a log's second directory, for spilled files; none if it has no second one
abbrev pub spill_words : Option (String Global) → List (List ℕ)
spill_words None = []
spill_words (Some directory) = codes "--spill-dir" ∷ string_bytes directory ∷ []

-- the arguments that name the directories of a log
abbrev pub place_words : Place → List (List ℕ)
place_words place = string_bytes place.directory ∷ spill_words place.spill_directory

-- the arguments that name a group; none if the task is for all groups
abbrev pub group_words : Option ℕ → List (List ℕ)
group_words None = []
group_words (Some group) = codes "--group" ∷ decimal group ∷ []

-- the arguments of a dump: the log to list, and the group
abbrev pub dump_words : Place → Option ℕ → List (List ℕ)
dump_words place group = string_bytes place.directory ∷ group_words group ++ spill_words place.spill_directory

-- the arguments that name the directories of a log and the target of its copy
abbrev pub fork_words : Place → String Global → List (List ℕ)
fork_words place target = string_bytes place.directory ∷ string_bytes target ∷ spill_words place.spill_directory

-- the arguments that request a purge by force; none if it isn't by force
abbrev pub force_words : Bool → List (List ℕ)
force_words false = []
force_words true = codes "--force" ∷ []

-- the arguments of a purge: the log to purge, and `--force` if the purge is by force
abbrev pub purge_words : Place → Bool → List (List ℕ)
purge_words place force = string_bytes place.directory ∷ force_words force ++ spill_words place.spill_directory

-- the arguments that request a task on a log
abbrev pub task_words : Place → Task → List (List ℕ)
task_words place (Dump group) = codes "dump" ∷ dump_words place group
task_words place Check = codes "check" ∷ place_words place
task_words place Stat = codes "stat" ∷ place_words place
task_words place (Fork target) = codes "fork" ∷ fork_words place target
task_words place Unpad = codes "unpad" ∷ place_words place

-- the arguments for a command, after the program's name
abbrev pub words_of : Command → List (List ℕ)
words_of Help = codes "--help" ∷ []
words_of (On place task) = task_words place task
words_of (Purge place force) = codes "purge" ∷ purge_words place force

-- this word isn't the decimal number of any group
abbrev pub NamesNoGroup : List ℕ → Type 0
NamesNoGroup word = (group : ℕ) → group < 2 ^ 64 → word ≢ decimal group

-- the arguments after `dump` name a group by `word`, which isn't the number of a group
abbrev pub MisnamesGroup : List (List ℕ) → List ℕ → Type 0
MisnamesGroup words word = (directory : List ℕ) × (rest : List (List ℕ))
    × (words ≡ directory ∷ codes "--group" ∷ word ∷ rest) × NamesNoGroup word

-- these arguments request a dump and name a group by `word`, which isn't the number of a group
abbrev pub MisnamesDumpedGroup : List (List ℕ) → List ℕ → Type 0
MisnamesDumpedGroup words word =
    (rest : List (List ℕ)) × (words ≡ codes "dump" ∷ rest) × MisnamesGroup rest word

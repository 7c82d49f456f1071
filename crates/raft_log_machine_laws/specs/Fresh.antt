-- An engine on a directory in which nothing was ever written.
use Rattle.std.specs.Prelude.{[], false, None}
use Rattle.raft_log_model_laws.specs.Groups.{Map}
use Rattle.raft_log_machine_laws.specs.Queue.{Queue}
use Rattle.raft_log_machine_laws.specs.Whereabouts.{Whereabouts}
use Rattle.raft_log_machine_laws.specs.Machine.{Machine}

-- a queue that has no records
abbrev pub empty_queue : {E V : Type 0} → Queue E V
empty_queue = record { gone = []; live = []; pending = [] }

-- the whereabouts of a raft group without entries and keys, for which no tombstone is owed
abbrev pub nowhere : Whereabouts
nowhere = record {
  first = 0;
  split = 0;
  end = 0;
  appended = λ k. false;
  cleaned = false;
  compacted = false;
  deleted = λ k. false;
}

-- the map without any entry or value
abbrev pub nothing_stands : {E V : Type 0} → Map E V
nothing_stands g s = None

-- an engine on a directory whose queues have no records
abbrev pub fresh_machine : {E V : Type 0} → Machine E V
fresh_machine = record {
  store = record { rewrite = empty_queue; append = empty_queue };
  map = nothing_stands;
  whereabouts = λ g. nowhere;
  failed = false;
}

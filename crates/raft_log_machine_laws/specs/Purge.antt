-- The events that a purge may consist of, and what may be read of both queues after it.
use Rattle.std.specs.Prelude.{◌≡◌, List, [], ◌∷◌, ◌++◌}
use Rattle.raft_log_model_laws.specs.Item.{Record}
use Rattle.raft_log_model_laws.specs.Groups.{Map, directory_meaning}
use Rattle.raft_log_machine_laws.specs.Queue.{Store}
use Rattle.raft_log_machine_laws.specs.Machine.{Event}
use Rattle.raft_log_machine_laws.specs.Machine.Event.{Take, Reopen}

-- the event is the engine's own: neither a batch that Append takes, nor a crash or a close with the open after it
abbrev pub IsOwn : {E V : Type 0} → Event E V → Type 0
IsOwn (Take y) = ⊥
IsOwn (Reopen r_kept r_lost r_cut r_back a_kept a_lost a_cut a_back) = ⊥
IsOwn _ = Unit {0}

-- all these events are the engine's own, as those of a purge are
abbrev pub AllOwn : {E V : Type 0} → List (Event E V) → Type 0
AllOwn [] = Unit {0}
AllOwn (e ∷ es) = IsOwn e × AllOwn es

-- a reading of both queues, each from some start to its end; the pending records are read too
pub record Reading {E V : Type 0} (q : Store E V) : Type 0 where
  pub r_cut : List (Record E V)
  pub r_back : List (Record E V)
  pub a_cut : List (Record E V)
  pub a_back : List (Record E V)
  pub r_start : r_cut ++ r_back ≡ q.rewrite.gone
  pub a_start : a_cut ++ a_back ≡ q.append.gone

-- the map that this reading gets
abbrev pub meaning_there : {E V : Type 0} → (q : Store E V) → Reading q → Map E V
meaning_there q r =
    directory_meaning (r.r_back ++ (q.rewrite.live ++ q.rewrite.pending))
    (r.a_back ++ (q.append.live ++ q.append.pending))

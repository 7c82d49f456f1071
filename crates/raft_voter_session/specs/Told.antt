-- Sessions and events as their lines encode them, with names and settings as bytes.
use Rattle.std.specs.Prelude.{ℕ, List, map, Option, string_bytes}
use Rattle.std.specs.Option.{option_map}
use Rattle.raft_voter_world.specs.declared.event.Event.{Event}
use Rattle.raft_voter_world.specs.declared.event.Event.TheVariants.{Fork}
use Rattle.raft_voter_session.specs.declared.session.Session.{Session}

-- an event as its lines encode it: a copy has the bytes of its directory's name, and any other event is itself
pub data Told : Type 0 where
  alone : Event → Told
  copy : List ℕ → Told

-- this event, as its lines encode it
abbrev pub told : Event → Told
told (Fork target) = copy (string_bytes target)
told event = alone event

-- the content of a session: the bytes of its settings, if it has any, and its events
pub record SessionContent : Type 0 where
  pub settings : Option (List ℕ)
  pub events : List Told

-- the content of this session
abbrev pub said : Session → SessionContent
said session = record { settings = option_map string_bytes session.settings; events = map told session.events.items }

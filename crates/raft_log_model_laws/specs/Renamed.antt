-- The same log, with something else in place of each entry. A table has the location of an entry, and a writer its
-- bytes.
use Rattle.std.specs.Prelude.{map, Option, option_map}
use Rattle.raft_log_model_laws.specs.Item.{Item, Tagged, Record}
use Rattle.raft_log_model_laws.specs.Item.Item.{Run, Clean, Compact, Put, Del}
use Rattle.raft_log_model_laws.specs.Item.Record.{Plain, Part}
use Rattle.raft_log_model_laws.specs.Meaning.{Content}
use Rattle.raft_log_model_laws.specs.Meaning.Content.{Entry, Value}
use Rattle.raft_log_model_laws.specs.Groups.{Map}

-- the item with `f` applied to each entry
abbrev pub renamed : {E F V : Type 0} → (E → F) → Item E V → Item F V
renamed f (Run first es) = Run first (map f es)
renamed f Clean = Clean
renamed f (Compact c) = Compact c
renamed f (Put k v) = Put k v
renamed f (Del k) = Del k

-- the item of a raft group with `f` applied to each entry
abbrev pub renamed_tagged : {E F V : Type 0} → (E → F) → Tagged E V → Tagged F V
renamed_tagged f x = record { group = x.group; item = renamed f x.item }

-- the record with `f` applied to each entry
abbrev pub renamed_record : {E F V : Type 0} → (E → F) → Record E V → Record F V
renamed_record f (Plain xs) = Plain (map (renamed_tagged f) xs)
renamed_record f (Part m xs) = Part m (map (renamed_tagged f) xs)

-- what is in a slot, with `f` applied if it is an entry
abbrev pub renamed_content : {E F V : Type 0} → (E → F) → Content E V → Content F V
renamed_content f (Entry e) = Entry (f e)
renamed_content f (Value v) = Value v

-- what items do to a slot, with `f` applied if they put an entry there
abbrev pub renamed_word : {E F V : Type 0} → (E → F) → Option (Option (Content E V))
    → Option (Option (Content F V))
renamed_word f word = option_map (option_map (renamed_content f)) word

-- the map with `f` applied to each entry
abbrev pub renamed_map : {E F V : Type 0} → (E → F) → Map E V → Map F V
renamed_map f m g s = option_map (renamed_content f) (m g s)

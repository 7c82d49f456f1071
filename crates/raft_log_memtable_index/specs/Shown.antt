-- What callers see of one group's table: where each entry and value is stored, and how each item changes this.
use Rattle.std.specs.Prelude.{ℕ, ◌+◌, ◌-◌, ◌≤◌, min, Bool, true, false, ◌&&◌, List, [], ◌∷◌, ◌++◌, length, take, drop, Option, Some, None, if◌then◌else◌, nat_lt, bytes_eq}
use Rattle.raft_log_model_laws.specs.Item.{Item}
use Rattle.raft_log_model_laws.specs.Item.Item.{Run, Clean, Compact, Put, Del}
use Rattle.raft_log_model_laws.specs.Holes.{Window, FitsOn}
use Rattle.raft_log_machine_laws.specs.Whereabouts.{Whereabouts, top}
use Rattle.raft_log_machine_laws.specs.Machine.{Fits}
use Rattle.raft_log_extents.specs.declared.place.Place.{Place}
use Rattle.raft_log_memtable_index.specs.declared.group_files.GroupFiles.{GroupFiles}

-- A key's value: its bytes, its queue (Append if `appended` is true, else Rewrite), and its file number.
pub record KeyValue : Type 0 where
  pub bytes : List ℕ
  pub appended : Bool
  pub file : ℕ

-- A group's table. Its entries have the indexes from `first` on, and are at `places`. The first `rewritten` entries are
-- in Rewrite, the others in Append. `held` gives the value of each key. `cleaned`, `compacted` and `deleted` say
-- whether a Clean, a Compact or the Del of a key is owed to Rewrite. `noted` is the range of files of the atomic groups
-- in Rewrite that may still be needed.
pub record Shown : Type 0 where
  pub first : ℕ
  pub places : List Place
  pub rewritten : ℕ
  pub held : List ℕ → Option KeyValue
  pub deleted : List ℕ → Bool
  pub cleaned : Bool
  pub compacted : Bool
  pub noted : Option GroupFiles

-- the table without entries, values or tombstones
abbrev pub nothing_shown : Shown
nothing_shown = record {
  first = 0;
  places = [];
  rewritten = 0;
  held = λ k. None;
  deleted = λ k. false;
  cleaned = false;
  compacted = false;
  noted = None;
}

-- the values with that of one key replaced
abbrev pub with_held : (List ℕ → Option KeyValue) → List ℕ → Option KeyValue → List ℕ → Option KeyValue
with_held held key value k = if bytes_eq key k then value else held k

-- The table after a run in Append from index `f` on: it replaces all entries from `f` on.
abbrev pub with_run : Shown → ℕ → List Place → Shown
with_run v f ps = record v {
  first = if nat_lt v.first f && nat_lt 0 (length v.places) then v.first else f;
  places = take (f - v.first) v.places ++ ps;
  rewritten = min v.rewritten (f - v.first);
}

-- The table after a Clean: no entry and no value remain, and a Clean is owed. A Compact is no longer owed.
abbrev pub with_clean : Shown → Shown
with_clean v = record v {
  first = 0;
  places = [];
  rewritten = 0;
  held = λ k. None;
  cleaned = true;
  compacted = false;
  noted = None;
}

-- the table after a Compact: no entry below index `c` remains, and a Compact is owed
abbrev pub with_compact : Shown → ℕ → Shown
with_compact v c = record v {
  first = v.first + min (c - v.first) (length v.places);
  places = drop (c - v.first) v.places;
  rewritten = v.rewritten - (c - v.first);
  compacted = true;
}

-- the table after a put of `value` under `key` in file `n` of Append
abbrev pub with_put : ℕ → Shown → List ℕ → List ℕ → Shown
with_put n v key value =
    record v { held = with_held v.held key (Some (record { bytes = value; appended = true; file = n })) }

-- the table after a Del of `key`: the key has no value, and its Del is owed, even if the key had no value before
abbrev pub with_del : Shown → List ℕ → Shown
with_del v key = record v {
  held = with_held v.held key None;
  deleted = λ k. if bytes_eq key k then true else v.deleted k;
}

-- the table after an item was written to file `n` of Append
abbrev pub stepped : ℕ → Shown → Item Place (List ℕ) → Shown
stepped n v (Run f []) = v
stepped n v (Run f (p ∷ ps)) = with_run v f (p ∷ ps)
stepped n v Clean = with_clean v
stepped n v (Compact c) = with_compact v c
stepped n v (Put k w) = with_put n v k w
stepped n v (Del k) = with_del v k

-- the table after these items were written to file `n` of Append
abbrev pub all_stepped : ℕ → Shown → List (Item Place (List ℕ)) → Shown
all_stepped n v [] = v
all_stepped n v (x ∷ xs) = all_stepped n (stepped n v x) xs

-- whether there is a value, and it is in Append
abbrev pub is_in_append : Option KeyValue → Bool
is_in_append None = false
is_in_append (Some h) = h.appended

-- in which queue each entry and value is, and which tombstones are owed
abbrev pub whereabouts : Shown → Whereabouts
whereabouts v = record {
  first = v.first;
  split = v.first + v.rewritten;
  end = v.first + length v.places;
  appended = λ k. is_in_append (v.held k);
  cleaned = v.cleaned;
  compacted = v.compacted;
  deleted = v.deleted;
}

-- the range of the entries' indexes: the first index, and the one after the last
abbrev pub span : Shown → Window
span v = record { first = v.first; end = v.first + length v.places }

-- at most as many entries are in Rewrite as there are entries, and every index is below 2 ^ 64 - 1
pub record IsOrderly (v : Shown) : Type 0 where
  pub parts : v.rewritten ≤ length v.places
  pub end : v.first + length v.places ≤ top

-- the range of the entries' indexes after an item that leaves no hole
abbrev pub next_span : {E V : Type 0} → Window → Item E V → Window
next_span w (Run f []) = w
next_span w (Run f (e ∷ es)) = record {
  first = if nat_lt w.first f && nat_lt w.first w.end then w.first else f;
  end = f + length (e ∷ es);
}
next_span w Clean = record { first = 0; end = 0 }
next_span w (Compact c) = record { first = w.first + min (c - w.first) (w.end - w.first); end = w.end }
next_span w (Put k v) = w
next_span w (Del k) = w

-- The item can be applied to entries with this range: its run leaves no hole, and its indexes are below 2 ^ 64 - 1.
abbrev pub MayFollow : {E V : Type 0} → Window → Item E V → Type 0
MayFollow w x = FitsOn w x × Fits x

-- the items can be applied to entries with this range, one after another
abbrev pub MayAllFollow : {E V : Type 0} → Window → List (Item E V) → Type 0
MayAllFollow w [] = Unit {0}
MayAllFollow w (x ∷ xs) = MayFollow w x × MayAllFollow (next_span w x) xs

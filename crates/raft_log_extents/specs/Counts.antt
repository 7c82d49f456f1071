-- Counts of places at the front of a list: those in files up to a number, and those whose total length is within a
-- limit. Also how many bytes places take in memory.
use Rattle.std.specs.Prelude.{ℕ, suc, ◌+◌, ◌-◌, ◌*◌, ◌==◌, ◌&&◌, nat_lt, List, [], ◌∷◌, Option, Some, None, if◌then◌else◌, nat_le, length}
use Rattle.raft_log_extents.specs.declared.place.Place.{Place}
use Rattle.raft_log_extents.specs.Blocks.{pieces}

-- how many places at the front are in files with numbers up to `gate`
abbrev pub passing : ℕ → List Place → ℕ
passing gate [] = 0
passing gate (p ∷ ps) = if nat_le p.file gate then suc (passing gate ps) else 0

-- how many entries at the front have lengths that add up to at most `left` bytes
abbrev pub fitting : ℕ → List Place → ℕ
fitting left [] = 0
fitting left (p ∷ ps) = if nat_le p.entry_len left then suc (fitting (left - p.entry_len) ps) else 0

-- How many entries a read returns. With a limit `max`, it returns the first entry, if there is one. It returns further
-- entries as long as the total length is at most `max`. Without a limit, it returns all entries.
abbrev pub sized : Option ℕ → List Place → ℕ
sized None ps = length ps
sized (Some max) [] = 0
sized (Some max) (p ∷ ps) = if nat_le p.entry_len max then suc (fitting (max - p.entry_len) ps) else 1

-- An upper bound of the bytes that the places `ps` take in memory, if they are added to `count` others. One place takes
-- 32 bytes, if `count` is above 0 and below 2^32 - 1. In all other cases, each piece takes 64 bytes, and each place
-- four more.
abbrev pub bytes_for : ℕ → List Place → ℕ
bytes_for count ps =
    if (length ps == 1) && (nat_lt 0 count && nat_lt count 4294967295) then 32 else pieces ps * 64 + length ps * 4

-- The rules by which a purge of Append asks for a group to be compacted, or rewrites it.
use Rattle.std.specs.Prelude.{ℕ, ◌+◌, ◌-◌, ◌^◌, min, Bool, false, not, ◌&&◌, ◌||◌, nat_lt, nat_le, Option, None, Some, if◌then◌else◌}
use Rattle.raft_log_record_base.specs.declared.pipe_log.LogQueue.TheVariants.{Append}
use Rattle.raft_log_memtable.specs.Files.{min_file}
use Rattle.raft_log_memtable.specs.Reads.{has_before}
use Rattle.raft_log_memtable.specs.Table.{Raw, shown}
use Rattle.raft_log_purge_policy.specs.declared.watermarks.Watermarks.{Watermarks}

-- whether `least`, the lowest file of Append in which a group has an entry or value, is below `file`; false without one
abbrev pub is_below : ℕ → Option ℕ → Bool
is_below file None = false
is_below file (Some least) = nat_lt least file

-- the group has an entry or value in a file of Append below the watermark `compact`, or an entry in Rewrite
abbrev pub is_old : Watermarks → Raw → Bool
is_old marks t = is_below marks.compact (min_file Append t) || nat_lt 0 (shown t).rewritten

-- the group has at least 32 entries in total in Rewrite and in files of Append up to the watermark `rewrite`
abbrev pub is_heavy : Watermarks → Raw → Bool
is_heavy marks t = has_before (shown t) (record { queue = Append; seq = marks.rewrite }) 32

-- the group has fewer than 32 entries in files of Append up to the watermark `rewrite`
abbrev pub is_light : Watermarks → Raw → Bool
is_light marks t = not (has_before (shown t) (record { queue = Append; seq = marks.rewrite })
    (min ((shown t).rewritten + 32) (2 ^ 64 - 1)))

-- the group has an entry or value in a file of Append up to the watermark `rewrite`
abbrev pub has_to_rewrite : Watermarks → Raw → Bool
has_to_rewrite marks t = is_below (marks.rewrite + 1) (min_file Append t)

-- the caller is asked to compact the group: it is old and heavy
abbrev pub asks : Watermarks → Raw → Bool
asks marks t = is_old marks t && is_heavy marks t

-- The group is rewritten if it has an entry or value in Append up to the watermark `rewrite`, and meets one of two
-- conditions:
-- - The caller is asked to compact it, and nine purges in a row asked before.
-- - The caller isn't asked to compact it, and it is light.
abbrev pub rewrites : Watermarks → ℕ → Raw → Bool
rewrites marks rounds t =
    (if asks marks t then nat_le 9 rounds else is_light marks t) && has_to_rewrite marks t

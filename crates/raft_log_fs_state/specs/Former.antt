-- Undoing a change: the content before it, computed from the content after it and what the change replaced.
use Rattle.std.specs.Prelude.{◌≡◌, ℕ, ◌+◌, ◌-◌, min, length, take, drop, List}
use Rattle.raft_log_fs.specs.Disk.{Wrote, ShortenedTo, GrewTo, grown, overwritten, changed}
use Rattle.raft_log_fs.specs.Disk as disk
use Rattle.raft_log_fs_state.specs.declared.former.Former.{Former}

-- The content before a change. The first `former.front` bytes of `after` remain, the replaced bytes are put back at
-- their offset, and zeros fill up to the old size.
abbrev pub restored : Former → List ℕ → List ℕ
restored former after =
    grown former.size (overwritten former.place former.bytes.items (take former.front after))

-- `former` can restore the bytes from `start` up to `end` of a content. That content has `count` bytes: `bytes` first,
-- and zeros after them.
pub record Keeps (count : ℕ) (bytes : List ℕ) (start end : ℕ) (former : Former) : Type 0 where
  pub size : former.size ≡ count
  pub front : former.front ≡ length bytes
  pub place : former.place ≡ start
  pub kept : former.bytes.items ≡ take (end - start) (drop start bytes)

-- The range of offsets whose bytes a change replaces; its end is excluded. `size` is the size of the content, or the
-- offset at which the zeros at the content's end begin. Offsets from `size` on aren't in the range.
abbrev pub replaced : disk.Change → ℕ → ℕ × ℕ
replaced (Wrote at bytes) size = (min size at, min size (at + length bytes))
replaced (ShortenedTo left) size = (min size left, size)
replaced (GrewTo more) size = (size, size)

-- after `change` was made to `content`, `former` restores `content`
abbrev pub Restores : disk.Change → List ℕ → Former → Type 0
Restores change content former = restored former (changed change content) ≡ content

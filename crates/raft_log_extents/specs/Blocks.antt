-- A place says where the bytes of an entry are. It has the file's number, and the offset and length of a block in the
-- file. It also has the entry's offset and length in the block. A piece is a list of places that are adjacent in one
-- block.
use Rattle.std.specs.Prelude.{◌≡◌, ℕ, zero, suc, ◌+◌, ◌-◌, Bool, true, ◌&&◌, List, [], ◌∷◌, if◌then◌else◌, ◌==◌}
use Rattle.raft_log_extents.specs.declared.place.Place.{Place}

-- `q` begins where `p` ends, in the same block
abbrev pub follows : Place → Place → Bool
follows p q =
    (((p.file == q.file) && (p.offset == q.offset)) && (p.len == q.len))
    && (p.entry_offset + p.entry_len == q.entry_offset)

-- how many of the places `ps` don't follow the place before them (`follows`); `p` is the place before the first of `ps`
abbrev pub gaps : Place → List Place → ℕ
gaps p [] = 0
gaps p (q ∷ ps) = if follows p q then gaps q ps else suc (gaps q ps)

-- how many pieces the list splits into, if each piece is as long as possible
abbrev pub pieces : List Place → ℕ
pieces [] = 0
pieces (p ∷ ps) = suc (gaps p ps)

-- the list is one piece: each place follows the place before it (`follows`)
abbrev pub AreOnePiece : List Place → Type 0
AreOnePiece [] = Unit {0}
AreOnePiece (p ∷ []) = Unit {0}
AreOnePiece (p ∷ (q ∷ ps)) = (follows p q ≡ true) × AreOnePiece (q ∷ ps)

-- the place in the block of `b` with this offset and length
abbrev pub in_block : Place → ℕ → ℕ → Place
in_block b offset len = record b { entry_offset = offset; entry_len = len }

-- `n` adjacent places in the block of `b`: each has the length `size`, and the first is at `offset`
abbrev pub even_places : Place → ℕ → ℕ → ℕ → List Place
even_places b size offset zero = []
even_places b size offset (suc n) = in_block b offset size ∷ even_places b size (offset + size) n

-- Adjacent places in the block of `b`, at these offsets. Each place ends at the offset of the next one. The last place
-- has the length `size`.
abbrev pub uneven_places : Place → ℕ → List ℕ → List Place
uneven_places b size [] = []
uneven_places b size (o ∷ []) = in_block b o size ∷ []
uneven_places b size (o ∷ (p ∷ os)) = in_block b o (p - o) ∷ uneven_places b size (p ∷ os)

-- `n` numbers: the first is `x`, and each is `s` more than the number before it
abbrev pub rising : ℕ → ℕ → ℕ → List ℕ
rising x s zero = []
rising x s (suc n) = x ∷ rising (x + s) s n

-- adjacent places in the block of `b`: each begins at one of these offsets, and ends at the next one
abbrev pub between : Place → List ℕ → List Place
between b [] = []
between b (x ∷ []) = []
between b (x ∷ (y ∷ ys)) = in_block b x (y - x) ∷ between b (y ∷ ys)

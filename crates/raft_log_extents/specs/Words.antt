-- Places of entries that are alone in a block. Each place is encoded as eight numbers below 2 ^ 32.
use Rattle.std.specs.Prelude.{ℕ, zero, suc, ◌+◌, ◌*◌, ◌/◌, ◌%◌, ◌^◌, List, [], ◌∷◌, drop, slice_index_or}
use Rattle.raft_log_extents.specs.declared.place.Place.{Place}

-- the 64-bit number whose low 32 bits are at position `i` of `ws`, and whose high 32 bits are at the next position
abbrev pub number_at : List ℕ → ℕ → ℕ
number_at ws i = slice_index_or ws i 0 + slice_index_or ws (i + 1) 0 * 2 ^ 32

-- the place that the first eight numbers encode
abbrev pub place_from : List ℕ → Place
place_from ws = record {
  file = number_at ws 0;
  offset = number_at ws 2;
  len = number_at ws 4;
  entry_offset = slice_index_or ws 6 0;
  entry_len = slice_index_or ws 7 0;
}

-- the eight numbers that encode place `p`
abbrev pub words_of : Place → List ℕ
words_of p =
    p.file % 2 ^ 32 ∷ (p.file / 2 ^ 32 ∷ (p.offset % 2 ^ 32 ∷ (p.offset / 2 ^ 32
    ∷ (p.len % 2 ^ 32 ∷ (p.len / 2 ^ 32 ∷ (p.entry_offset ∷ (p.entry_len ∷ [])))))))

-- the `n` places that the first `8 * n` numbers encode
abbrev pub whole_places : ℕ → List ℕ → List Place
whole_places zero ws = []
whole_places (suc n) ws = place_from ws ∷ whole_places n (drop 8 ws)

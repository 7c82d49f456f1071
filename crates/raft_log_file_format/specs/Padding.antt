-- What a reader takes for padding between records.
use Rattle.std.specs.Prelude.{◌≡◌, ℕ, ◌-◌, List, length, ◌⊎◌, slice_index}

-- there are no bytes, or the first and the last one are 0; the bytes between them may have any value
abbrev pub IsZeroPadded : List ℕ → Type 0
IsZeroPadded bytes =
    (length bytes ≡ 0) ⊎ ((slice_index bytes 0 ≡ 0) × (slice_index bytes (length bytes - 1) ≡ 0))

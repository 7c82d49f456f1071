-- CRC-32 (the reflected polynomial 0xEDB88320), computed one bit at a time.
use Rattle.std.specs.Prelude.{ℕ, zero, suc, ◌/◌, ◌%◌, List, [], ◌∷◌, ◌==◌, if◌then◌else◌, bit_xor}

-- One step of the register: it shifts right by one bit. If the bit shifted out was 1, the result is xored with the
-- polynomial.
abbrev pub crc_bit : ℕ → ℕ
crc_bit register = if register % 2 == 1 then bit_xor (register / 2) 0xEDB88320 else register / 2

-- the register after `n` steps (`crc_bit`)
unfoldable pub crc_bits : ℕ → ℕ → ℕ
crc_bits zero register = register
crc_bits (suc n) register = crc_bits n (crc_bit register)

-- The register after these bytes. Each byte is xored into the low eight bits, then the register makes eight steps.
unfoldable pub crc_after : ℕ → List ℕ → ℕ
crc_after register [] = register
crc_after register (b ∷ bs) = crc_after (crc_bits 8 (bit_xor register b)) bs

-- The CRC-32 of `bytes`: the register starts with all 32 bits set, and all bits are flipped at the end.
unfoldable pub crc32_of : List ℕ → ℕ
crc32_of bytes = bit_xor (crc_after 0xFFFFFFFF bytes) 0xFFFFFFFF

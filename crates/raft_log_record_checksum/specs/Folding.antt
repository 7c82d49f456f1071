-- Folding computes a CRC faster: it removes a byte from the input, and xors it into later bytes instead. These are the
-- bytes 145, 183, 211 and 300 bytes after it.
use Rattle.std.specs.Prelude.{ℕ, ◌-◌, List, length, drop, bit_xor}
use Rattle.raft_log_record_checksum.specs.Checksum.{crc_bits, crc_after}

-- the last `n` elements of `xs`, or all of them if there are fewer
abbrev pub ending : ℕ → List ℕ → List ℕ
ending n xs = drop (length xs - n) xs

-- What `folded`, the bytes folded so far, still contribute to the register 300 bytes later. It is the xor of four
-- registers that start at 0. They take the last 145, 183, 211 and 300 bytes of `folded`. The first three registers then
-- make the steps of 155, 117 and 89 more bytes. So each register has made the steps of 300 bytes.
unfoldable pub owed : List ℕ → ℕ
owed folded =
    bit_xor (bit_xor (crc_bits 1240 (crc_after 0 (ending 145 folded))) (crc_bits 936 (crc_after 0 (ending 183 folded))))
    (bit_xor (crc_bits 712 (crc_after 0 (ending 211 folded))) (crc_after 0 (ending 300 folded)))

-- How numbers are encoded: the grammars, the bytes that writers write, and the functions that read numbers from the
-- front of a list.
use Rattle.std.specs.Prelude.{◌≡◌, ℕ, ℤ, pos, negsuc, zero, suc, ◌+◌, ◌-◌, ◌*◌, ◌/◌, ◌%◌, ◌^◌, ◌<◌, ◌≤◌, ◌-ℤ◌, List, [], ◌∷◌, ◌++◌, length, take, drop, Option, Result, Ok, Err, OnOk, nat_lt, ◌==◌, if◌then◌else◌}
use Rattle.std.specs.Io.KnownBytes.{Appends}
use Rattle.std.specs.Int.{Width, w16, w32, w64, byte_len, from_be_bytes, from_le_bytes, to_be_bytes, to_le_bytes, bit_not, cast_signed, cast_unsigned}
use Rattle.std.specs.declared.io.ErrorKind.{ErrorKind}
use Rattle.std.specs.declared.io.ErrorKind.TheVariants.{UnexpectedEof, InvalidData}
use Rattle.raft_log_record_base.specs.declared.codec.error.Error.{Error}
use Rattle.raft_log_record_base.specs.declared.codec.error.Error.TheVariants.{Io}
use Rattle.raft_log_record_base.specs.Grammar.{Reader, Mapped, mapped_at, ◌>>=◌}

-- Numbers of fixed width.

-- `bytes` is `n` in big-endian order, with the width `w`
pub record IsHighFirst (w : Width) (bytes : List ℕ) (n : ℕ) : Type 0 where
  pub size : length bytes ≡ byte_len w
  pub value : n ≡ from_be_bytes w bytes

-- `bytes` is `n` in little-endian order, with the width `w`
pub record IsLowFirst (w : Width) (bytes : List ℕ) (n : ℕ) : Type 0 where
  pub size : length bytes ≡ byte_len w
  pub value : n ≡ from_le_bytes w bytes

-- `bytes` is the one byte `n`
pub record IsByte (bytes : List ℕ) (n : ℕ) : Type 0 where
  pub only : bytes ≡ n ∷ []

-- a number of 64 bits, big-endian
abbrev pub IsU64 : List ℕ → ℕ → Type 0
IsU64 = IsHighFirst w64

-- a number of 32 bits, big-endian
abbrev pub IsU32 : List ℕ → ℕ → Type 0
IsU32 = IsHighFirst w32

-- a number of 16 bits, big-endian
abbrev pub IsU16 : List ℕ → ℕ → Type 0
IsU16 = IsHighFirst w16

-- a number of 64 bits, little-endian
abbrev pub IsU64Le : List ℕ → ℕ → Type 0
IsU64Le = IsLowFirst w64

-- a number of 32 bits, little-endian
abbrev pub IsU32Le : List ℕ → ℕ → Type 0
IsU32Le = IsLowFirst w32

-- a number of 16 bits, little-endian
abbrev pub IsU16Le : List ℕ → ℕ → Type 0
IsU16Le = IsLowFirst w16

-- a big-endian number of 64 bits with every bit flipped, so that greater numbers come first in byte order
abbrev pub IsU64Desc : List ℕ → ℕ → Type 0
IsU64Desc = Mapped (bit_not w64) IsU64

-- the signed number `n` - 2 ^ 63
abbrev pub above_least : ℕ → ℤ
above_least n = pos n -ℤ pos (2 ^ 63)

-- the sum of 2 ^ 63 and a signed number of 64 bits
abbrev pub steps_above_least : ℤ → ℕ
steps_above_least (pos n) = 2 ^ 63 + n
steps_above_least (negsuc n) = 2 ^ 63 - (n + 1)

-- A signed number of 64 bits. 2 ^ 63 is added before it is stored, big-endian, so byte order is the order of the
-- numbers.
abbrev pub IsI64 : List ℕ → ℤ → Type 0
IsI64 = Mapped above_least IsU64

-- A signed number of 64 bits. 2 ^ 63 is added and every bit is flipped before it is stored, big-endian, so greater
-- numbers come first in byte order.
abbrev pub IsI64Desc : List ℕ → ℤ → Type 0
IsI64Desc = Mapped above_least IsU64Desc

-- a signed number of 64 bits in two's complement, little-endian
abbrev pub IsI64Le : List ℕ → ℤ → Type 0
IsI64Le = Mapped (cast_signed w64) IsU64Le

-- a signed number of 32 bits in two's complement, little-endian
abbrev pub IsI32Le : List ℕ → ℤ → Type 0
IsI32Le = Mapped (cast_signed w32) IsU32Le

-- Numbers of variable length.

-- Base 128: each byte has seven bits of the number, the lowest first. Each byte but the last is 128 or more; the last
-- is below 128.
abbrev pub IsBase128 : List ℕ → ℕ → Type 0
IsBase128 [] n = ⊥
IsBase128 (b ∷ []) n = (b < 128) × (n ≡ b)
IsBase128 (b ∷ c ∷ bs) n = (128 ≤ b) × (high : ℕ) × (n ≡ b % 128 + 128 * high) × IsBase128 (c ∷ bs) high

-- A varint of at most ten bytes, for a number below 2 ^ 64. It may be longer than necessary.
pub record IsVarU64 (bytes : List ℕ) (n : ℕ) : Type 0 where
  pub digits : IsBase128 bytes n
  pub short : length bytes ≤ 10
  pub fits : n < 2 ^ 64

-- the zigzag code of a signed number v: 2v if v is at least 0, else -2v - 1
abbrev pub zigzag : ℤ → ℕ
zigzag (pos n) = 2 * n
zigzag (negsuc n) = 2 * n + 1

-- the signed number with the zigzag code `n`
abbrev pub from_zigzag : ℕ → ℤ
from_zigzag n = if n % 2 == 0 then pos (n / 2) else negsuc (n / 2)

-- a varint of the zigzag code of `v`
abbrev pub IsVarI64 : List ℕ → ℤ → Type 0
IsVarI64 bytes v = IsVarU64 bytes (zigzag v)

-- The bytes that writers write.

-- `n` as 64 bits, big-endian
unfoldable pub u64_bytes : ℕ → List ℕ
u64_bytes n = to_be_bytes w64 n

-- `n` as 32 bits, big-endian
unfoldable pub u32_bytes : ℕ → List ℕ
u32_bytes n = to_be_bytes w32 n

-- `n` as 16 bits, big-endian
unfoldable pub u16_bytes : ℕ → List ℕ
u16_bytes n = to_be_bytes w16 n

-- `n` as 64 bits, little-endian
unfoldable pub u64_le_bytes : ℕ → List ℕ
u64_le_bytes n = to_le_bytes w64 n

-- `n` as 32 bits, little-endian
unfoldable pub u32_le_bytes : ℕ → List ℕ
u32_le_bytes n = to_le_bytes w32 n

-- `n` as 16 bits, little-endian
unfoldable pub u16_le_bytes : ℕ → List ℕ
u16_le_bytes n = to_le_bytes w16 n

-- `n` with every bit flipped, as 64 bits, big-endian
abbrev pub u64_desc_bytes : ℕ → List ℕ
u64_desc_bytes n = u64_bytes (bit_not w64 n)

-- the sum of `v` and 2 ^ 63, as 64 bits, big-endian
abbrev pub i64_bytes : ℤ → List ℕ
i64_bytes v = u64_bytes (steps_above_least v)

-- the sum of `v` and 2 ^ 63, then every bit flipped, as 64 bits, big-endian
abbrev pub i64_desc_bytes : ℤ → List ℕ
i64_desc_bytes v = u64_desc_bytes (steps_above_least v)

-- `v` as 64 bits in two's complement, little-endian
abbrev pub i64_le_bytes : ℤ → List ℕ
i64_le_bytes v = u64_le_bytes (cast_unsigned w64 v)

-- `v` as 32 bits in two's complement, little-endian
abbrev pub i32_le_bytes : ℤ → List ℕ
i32_le_bytes v = u32_le_bytes (cast_unsigned w32 v)

-- The shortest varint of `n`, if it has at most `k` bytes after the first one. `k` is the first argument. If `n` needs
-- more bytes, the result is no varint of `n`.
unfoldable pub var_bytes_within : ℕ → ℕ → List ℕ
var_bytes_within zero n = n ∷ []
var_bytes_within (suc left) n =
    if nat_lt n 128 then n ∷ [] else (n % 128 + 128) ∷ var_bytes_within left (n / 128)

-- the shortest varint of a number below 2 ^ 64, which has at most ten bytes
unfoldable pub var_u64_bytes : ℕ → List ℕ
var_u64_bytes n = var_bytes_within 9 n

-- the shortest varint of the zigzag code of `v`
abbrev pub var_i64_bytes : ℤ → List ℕ
var_i64_bytes v = var_u64_bytes (zigzag v)

-- `bytes` spells `x` by `P`, and no spelling of `x` is shorter
pub record IsShortest {X : Type 0} (P : List ℕ → X → Type 0) (bytes : List ℕ) (x : X) : Type 0 where
  pub spelled : P bytes x
  pub shortest : (other : List ℕ) → P other x → length bytes ≤ length other

-- Functions that read a number from the front of bytes.

-- reads a number, or fails with an error of the codec
abbrev pub NumberReader : Type 0 → Type 0
NumberReader X = Reader X Error

-- reads `size` bytes; if there are fewer, the error is `UnexpectedEof`
abbrev pub front_at : ℕ → NumberReader (List ℕ)
front_at size bytes =
    if nat_lt (length bytes) size then Err (Io UnexpectedEof) else Ok (take size bytes, drop size bytes)

-- reads a big-endian number of the width `w`
abbrev pub high_first_at : Width → NumberReader ℕ
high_first_at w bytes =
    if nat_lt (length bytes) (byte_len w) then Err (Io UnexpectedEof)
    else Ok (from_be_bytes w (take (byte_len w) bytes), drop (byte_len w) bytes)

-- reads a little-endian number of the width `w`
abbrev pub low_first_at : Width → NumberReader ℕ
low_first_at w bytes =
    if nat_lt (length bytes) (byte_len w) then Err (Io UnexpectedEof)
    else Ok (from_le_bytes w (take (byte_len w) bytes), drop (byte_len w) bytes)

-- reads one byte
abbrev pub byte_at_front : NumberReader ℕ
byte_at_front [] = Err (Io UnexpectedEof)
byte_at_front (b ∷ bs) = Ok (b, bs)

-- reads a big-endian number of 64 bits with every bit flipped
abbrev pub u64_desc_at : NumberReader ℕ
u64_desc_at = mapped_at (bit_not w64) (high_first_at w64)

-- reads a big-endian number of 64 bits, and returns it minus 2 ^ 63
abbrev pub i64_at : NumberReader ℤ
i64_at = mapped_at above_least (high_first_at w64)

-- reads a big-endian number of 64 bits, flips every bit, and returns it minus 2 ^ 63
abbrev pub i64_desc_at : NumberReader ℤ
i64_desc_at = mapped_at above_least u64_desc_at

-- reads a signed number of 64 bits in two's complement, little-endian
abbrev pub i64_le_at : NumberReader ℤ
i64_le_at = mapped_at (cast_signed w64) (low_first_at w64)

-- reads a signed number of 32 bits in two's complement, little-endian
abbrev pub i32_le_at : NumberReader ℤ
i32_le_at = mapped_at (cast_signed w32) (low_first_at w32)

-- Reads a varint with at most `left` bytes after the first one. If a varint has exactly `left` bytes after the first,
-- its last byte must be below 2. Otherwise the error is `InvalidData`. (The tenth byte of a 64-bit number has only bit
-- 63.)
unfoldable pub var_within : ℕ → NumberReader ℕ
var_within left [] = Err (Io UnexpectedEof)
var_within zero (b ∷ bs) = if nat_lt b 2 then Ok (b, bs) else Err (Io InvalidData)
var_within (suc left) (b ∷ bs) =
    if nat_lt b 128 then Ok (b, bs) else (var_within left bs >>= λ x. Ok (b % 128 + 128 * x.0, x.1))

-- reads a varint of at most ten bytes, for a number below 2 ^ 64
unfoldable pub var_u64_at : NumberReader ℕ
var_u64_at bytes = var_within 9 bytes

-- reads a varint, and returns the signed number whose zigzag code it is
unfoldable pub var_i64_at : NumberReader ℤ
var_i64_at = mapped_at from_zigzag var_u64_at

-- If the call succeeds, and the writer's contents `old` before it are known, then the contents `new` are `old` with
-- `bytes` appended.
abbrev pub AddsTheseBytes : {X E : Type 0} → Result X E → Option (List ℕ) → Option (List ℕ) → List ℕ → Type 0
AddsTheseBytes result old new bytes = OnOk result (Appends old new bytes)

-- A call returned the number that `reading` reads at the front of `bytes`, and how many bytes this number takes. If
-- `reading` fails, the call fails with the same error.
abbrev pub FindsNumber : {X : Type 0} → Result (X × ℕ) Error → List ℕ → Result (X × List ℕ) Error → Type 0
FindsNumber (Ok x) bytes reading = (reading ≡ Ok (x.0, drop x.1 bytes)) × (x.1 ≤ length bytes)
FindsNumber (Err e) bytes reading = reading ≡ Err e

-- Errors.

-- the error is an I/O error of the writer, of some kind
abbrev pub IsWriteFault : Error → Type 0
IsWriteFault e = (kind : ErrorKind) × (e ≡ Io kind)

-- the call fails with `UnexpectedEof`, the error for bytes that end too early
abbrev pub IsShort : {X : Type 0} → Result X Error → Type 0
IsShort result = result ≡ Err (Io UnexpectedEof)

-- the call fails with `InvalidData`, the error for a varint of more than ten bytes, or a number of 2 ^ 64 or more
abbrev pub IsInvalid : {X : Type 0} → Result X Error → Type 0
IsInvalid result = result ≡ Err (Io InvalidData)

-- every byte is 128 or more; in a varint, another byte follows each such byte
abbrev pub AllGoOn : List ℕ → Type 0
AllGoOn [] = Unit {0}
AllGoOn (b ∷ bs) = (128 ≤ b) × AllGoOn bs

-- at most nine bytes, all 128 or more: the bytes end inside a varint
abbrev pub EndsFirst : List ℕ → Type 0
EndsFirst bytes = AllGoOn bytes × (length bytes ≤ 9)

-- `bytes` begin with nine bytes of 128 or more, and then a tenth byte above 1. This is a varint of more than ten bytes,
-- or its number is 2 ^ 64 or more.
abbrev pub RunsOver : List ℕ → Type 0
RunsOver bytes = (front : List ℕ) × (tenth : ℕ) × (rest : List ℕ)
    × (bytes ≡ front ++ tenth ∷ rest) × (length front ≡ 9) × AllGoOn front × (1 < tenth)

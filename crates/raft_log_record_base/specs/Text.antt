-- The texts of errors.
use Rattle.std.specs.Prelude.{ℕ, List, Option, Some, None, codes}
use Rattle.raft_log_record_base.specs.declared.codec.error.Error.{Error}
use Rattle.raft_log_record_base.specs.declared.codec.error.Error.TheVariants.{Io, KeyLength, KeyPadding, KeyNotFound}
use Rattle.raft_log_record_base.specs.declared.size.ParseSizeError.{ParseSizeError}
use Rattle.raft_log_record_base.specs.declared.size.ParseSizeError.TheVariants.{NoNumber, UnknownUnit, TooLarge}

-- The text of an error of the codec. An I/O error has no text here, because no contract says how its kind is printed.
abbrev pub codec_fault_text : Error → Option (List ℕ)
codec_fault_text (Io kind) = None
codec_fault_text KeyLength = Some (codes "wrong length of a key")
codec_fault_text KeyPadding = Some (codes "wrong padding of a key")
codec_fault_text KeyNotFound = Some (codes "key not found")

-- the text of an error of parsing a size; every such error has one
abbrev pub size_fault_text : ParseSizeError → Option (List ℕ)
size_fault_text NoNumber = Some (codes "a size begins with a whole number")
size_fault_text UnknownUnit = Some (codes "the unit of a size is B, KiB, MiB, GiB, TiB or PiB")
size_fault_text TooLarge = Some (codes "a size fits 64 bits")

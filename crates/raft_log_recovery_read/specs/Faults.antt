-- Which errors report damaged bytes, and the fault that each describes.
use Rattle.std.specs.Prelude.{◌≡◌, Option, Some, None}
use Rattle.std.specs.String.{string_bytes}
use Rattle.raft_log_record_base.specs.Fault.{Fault}
use Rattle.raft_log_record_base.specs.Fault.Fault.{number, corrupt}
use Rattle.raft_log_record_base.specs.declared.errors.Error.{Error}
use Rattle.raft_log_record_base.specs.declared.errors.Error.TheVariants as errors

-- the error reports that bytes that were read are damaged: `Codec` or `Corruption`
abbrev pub IsDamage : Error → Type 0
IsDamage (errors.Codec fault) = Unit {0}
IsDamage (errors.Corruption text) = Unit {0}
IsDamage _ = ⊥

-- the error describes this fault
abbrev pub TellsFault : Error → Fault → Type 0
TellsFault (errors.Codec c) fault = fault ≡ number c
TellsFault (errors.Corruption text) fault = fault ≡ corrupt (string_bytes text)
TellsFault _ fault = ⊥

-- the error describes this fault; or there is neither an error nor a fault
abbrev pub TellsIfAny : Option Error → Option Fault → Type 0
TellsIfAny None fault = fault ≡ None
TellsIfAny (Some error) fault = (f : Fault) × (fault ≡ Some f) × TellsFault error f

-- The error texts for faults of settings.
use Rattle.std.specs.Prelude.{ℕ, List, codes}
use Rattle.raft_log_file_settings.specs.declared.fault.ConfigFault.{ConfigFault}
use Rattle.raft_log_file_settings.specs.declared.fault.ConfigFault.TheVariants as faults

-- the error text for a fault
abbrev pub fault_text : ConfigFault → List ℕ
fault_text faults.PurgeBelowTarget = codes "purge-threshold < target-file-size"
fault_text faults.NoTargetSize = codes "target-file-size is 0"
fault_text faults.DirectoriesClash = codes "spill-dir is dir, or one of the two is a log file of the other"
fault_text faults.RecycleUnsigned = codes "format version 1 doesn't support log recycle, use 2 or above"
fault_text faults.PrefillWithoutRecycle = codes "prefill is not allowed when log recycle is disabled"
fault_text faults.TooManyPrefilled =
    codes "prefill would make over 65536 files: raise target-file-size or lower purge-threshold or prefill-limit"

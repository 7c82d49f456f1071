-- Why a session has no settings.
use Rattle.std.proofs.Common.{◌≡◌, inl, inr, List, ℕ, Option, Some, Result, Err, Global, subst, sym}
use Rattle.std.specs.Option.{option_map}
use Rattle.std.specs.String.{string_bytes}
use Rattle.std.specs.declared.string.String.{String}
use Rattle.raft_log_record_base.specs.declared.errors.Error.{Error}
use Rattle.raft_log_record_base.specs.declared.errors.Error.TheVariants as errors
use Rattle.raft_log_file_settings.specs.Reading.{GivesSettingsOf}
use Rattle.raft_log_file_settings.specs.declared.config.Config.{Config}
use Rattle.raft_voter_program.specs.declared.store_setup.NoFiles.{NoFiles}
use Rattle.raft_voter_program.specs.Setup.{IsUnset, refusal_of}

-- a text that gives no settings tells none, or memory ran out
by_error : (text : List ℕ) (e : Error) → GivesSettingsOf (Err e) text → IsUnset (Some text) (refusal_of e)
by_error text errors.Memory g = tt
by_error text (errors.InvalidArgument why) (inl none) = inl none.0
by_error text (errors.InvalidArgument why) (inr wrong) = inr (wrong.0, wrong.1)
by_error text (errors.Other why) g = absurd g
by_error text (errors.Corruption t) g = absurd g
by_error text (errors.Io kind) g = absurd g
by_error text (errors.Codec fault) g = absurd g
by_error text (errors.Message t) g = absurd g
by_error text (errors.TryAgain t) g = absurd g
by_error text errors.EntryCompacted g = absurd g
by_error text errors.EntryNotFound g = absurd g
by_error text errors.Full g = absurd g
by_error text errors.Failed g = absurd g
by_error text errors.Hole g = absurd g
by_error text errors.NumberRange g = absurd g

pub unset_for : (settings : Option (String Global)) (text : String Global) (bytes : List ℕ) (given : Result Config Error) (error : Error) (cause : NoFiles) → settings ≡ Some text → bytes ≡ string_bytes text → given ≡ Err error
    → GivesSettingsOf given bytes → cause ≡ refusal_of error → IsUnset (option_map string_bytes settings) cause
unset_for settings text bytes given error cause is same refused gives told =
    let here : GivesSettingsOf (Err error) (string_bytes text) = subst (λ (r : Result Config Error). GivesSettingsOf r (string_bytes text)) refused (subst (λ (t : List ℕ). GivesSettingsOf given t) same gives) in
    subst (λ (n : NoFiles). IsUnset (option_map string_bytes settings) n) (sym told)
    (subst (λ (s : Option (String Global)). IsUnset (option_map string_bytes s) (refusal_of error)) (sym is) (by_error (string_bytes text) error here))

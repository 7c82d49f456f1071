-- Bytes that are text, and those that aren't.
use Rattle.std.proofs.Common.{◌≡◌, ℕ, Bool, true, false, List, Some, None, refl}
use Rattle.std.proofs.lemmas.Str.{is_utf8-from_IsUtf8, IsUtf8-from_is_utf8}
use Rattle.std.specs.Str.{IsUtf8, is_utf8}
use Rattle.raft_voter_session.specs.Words.{text_of}

pub text_known : (bytes text : List ℕ) → (text ≡ bytes) × IsUtf8 bytes → Some text ≡ text_of bytes
text_known bytes text h = rw (is_utf8-from_IsUtf8 bytes h.1, h.0) refl

no_text : (bytes : List ℕ) (b : Bool) → is_utf8 bytes ≡ b → (IsUtf8 bytes → ⊥) → None ≡ text_of bytes
no_text bytes true e h = absurd (h (IsUtf8-from_is_utf8 bytes e))
no_text bytes false e h = rw e refl

pub text_unknown : (bytes : List ℕ) → (IsUtf8 bytes → ⊥) → None ≡ text_of bytes
text_unknown bytes h = no_text bytes (is_utf8 bytes) refl h

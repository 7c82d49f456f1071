-- A header that is read of bytes is the one that its format is written with.
use Rattle.std.proofs.Common.{◌≡◌, ℕ, ◌<◌, List, [], ◌∷◌, ◌++◌, get_or, zero, suc, sym, ap, subst, ◌∙◌, arith}
use Rattle.std.proofs.lemmas.Nat.{be_bytes_8}
use Rattle.raft_log_record_base.specs.Files.{version_number}
use Rattle.raft_log_record_base.specs.Number.{IsU64, u64_bytes}
use Rattle.raft_log_record_base.specs.declared.pipe_log.Version.{Version}
use Rattle.raft_log_record_base.specs.declared.pipe_log.Version.TheVariants.{V1, V2}
use Rattle.raft_log_file_format.specs.Header.{IsFileHeader, IsPayload, magic, header_bytes, payload_bytes}
use Rattle.raft_log_file_format.specs.declared.header.LogFileFormat.{LogFileFormat}
use Rattle.raft_log_record_frames.specs.Written.{AreBytes}

pub front_bytes : (a b : List ℕ) → AreBytes (a ++ b) → AreBytes a
front_bytes [] b are = tt
front_bytes (x ∷ a) b are = (are.0, front_bytes a b are.1)

back_bytes : (a b : List ℕ) → AreBytes (a ++ b) → AreBytes b
back_bytes [] b are = are
back_bytes (x ∷ a) b are = back_bytes a b are.1

each_byte : (a : List ℕ) → AreBytes a → (i : ℕ) → get_or a i 0 < 256
each_byte [] are i = omega arith
each_byte (x ∷ a) are zero = are.0
each_byte (x ∷ a) are (suc i) = each_byte a are.1 i

-- a number of eight bytes is written with these
word_is : (bytes : List ℕ) (n : ℕ) → AreBytes bytes → IsU64 bytes n → u64_bytes n ≡ bytes
unfolding u64_bytes
word_is bytes n are is = be_bytes_8 bytes n is.size (each_byte bytes are) is.value

payload_is : (v : Version) (bytes : List ℕ) (format : LogFileFormat) → AreBytes bytes → IsPayload v bytes format → (format.version ≡ v) × (payload_bytes v format.alignment ≡ bytes)
payload_is V1 bytes format are is = (ap (λ (f : LogFileFormat). f.version) is.1, sym is.0)
payload_is V2 bytes format are (n, spelled, made) = (
  ap (λ (f : LogFileFormat). f.version) made,
  ap (λ (f : LogFileFormat). u64_bytes f.alignment) made ∙ word_is bytes n are spelled,
)

pub written_in : (header : List ℕ) (format : LogFileFormat) → AreBytes header → IsFileHeader header format → header ≡ header_bytes format
unfolding header_bytes
written_in header format are (x, front, back, is_magic, (version, f, b, numbered, payload, split), joined) =
    let behind : AreBytes (f ++ b) = subst AreBytes split (back_bytes front back (subst AreBytes joined are)) in
    let number = word_is f (version_number version) (front_bytes f b behind) numbered.spelled in
    let rest = payload_is version b format (back_bytes f b behind) payload in
    let named : u64_bytes (version_number format.version) ++ payload_bytes format.version format.alignment ≡ u64_bytes (version_number version) ++ payload_bytes version format.alignment =
    ap (λ (v : Version). u64_bytes (version_number v) ++ payload_bytes v format.alignment) rest.0 in
    sym (ap (λ (l : List ℕ). magic ++ l) (named ∙ ap (λ (l : List ℕ). l ++ payload_bytes version format.alignment) number ∙ ap (λ (l : List ℕ). f ++ l) rest.1 ∙ sym split)
    ∙ ap (λ (l : List ℕ). l ++ back) (sym is_magic) ∙ sym joined)

-- Reading a header is its grammar, and what is written is of it.
use Rattle.std.proofs.Common.{◌≡◌, ℕ, ◌≤◌, true, false, cond, eqb, ltb, List, [], ◌++◌, length, take, drop, Result, Ok, Err, inl, inr, refl, sym, ap, subst, ◌∙◌, arith}
use Rattle.std.specs.Prelude.{nat_eq, OnOk}
use Rattle.std.specs.List.{starts_with}
use Rattle.std.specs.Int.{w64, from_be_bytes}
use Rattle.std.proofs.lemmas.Bool.{eqb-true, ltb-false, le-ltb}
use Rattle.std.proofs.lemmas.Bool.Decides.{Decides-eqb}
use Rattle.std.proofs.lemmas.Slice.Eq.{starts_is}
use Rattle.std.proofs.lemmas.List.{take_at, drop_at, take-append-drop, length-take-le, length-append}
use Rattle.raft_log_record_base.specs.declared.pipe_log.Version.{Version}
use Rattle.raft_log_record_base.specs.declared.pipe_log.Version.TheVariants.{V1, V2}
use Rattle.raft_log_record_base.specs.Grammar.{IsReader, Then, ◌>>=◌}
use Rattle.raft_log_record_base.specs.Number.{IsU64, high_first_at, u64_bytes}
use Rattle.raft_log_record_base.specs.Files.{version_number}
use Rattle.raft_log_record_base.proofs.Public.{bind_ok, chosen, is_high_first, is_known, is_lifted, is_then, ok_is}
use Rattle.raft_log_record_base.specs.Fault.{Fault, lifted, lifted_at}
use Rattle.raft_log_record_base.specs.Fault.Fault.{corrupt}
use Rattle.raft_log_file_format.specs.declared.header.LogFileFormat.{LogFileFormat}
use Rattle.raft_log_file_format.specs.Header.{magic, magic_mismatch, IsMagic, IsVersion, IsPayload, IsFileHeader, magic_at, version_of, version_at, unknown_version, missing_payload, payload_at, payload_bytes, header_at, header_bytes, HasWrittenHeader}

-- these bytes at the front are taken off
is_literal : (p : List ℕ) (e : Fault) → IsReader {X = Unit {0}} (λ bytes. cond (starts_with nat_eq bytes p) (Ok (tt, drop (length p) bytes)) (Err e)) (λ bytes _. bytes ≡ p)
is_literal p e = record {
  takes = λ bytes y read. elim (chosen (starts_with nat_eq bytes p) (Ok (tt, drop (length p) bytes)) (Err e) (Ok y) read) [
    | inl a ↦
        let same = ok_is {E = Fault} (tt, drop (length p) bytes) y a.1 in
        let starts = starts_is Decides-eqb bytes p (starts_with nat_eq bytes p) refl in
        (p, refl, starts.0 a.0 ∙ ap (λ (q : Unit {0} × List ℕ). p ++ q.1) same)
    | inr b ↦ absurd (let k = b.1 in cc)
  ];
  again = λ text rest x is.
      let starts = starts_is Decides-eqb (text ++ rest) p (starts_with nat_eq (text ++ rest) p) refl in
      let found : starts_with nat_eq (text ++ rest) p ≡ true = starts.1 rest (ap (λ (l : List ℕ). l ++ rest) is) in
      let behind : drop (length p) (text ++ rest) ≡ rest = drop_at text rest (length p) (ap length is) in
      rw (found, behind) refl;
}

is_magic : IsReader magic_at IsMagic
unfolding magic_at
is_magic = is_literal magic (corrupt magic_mismatch)

-- a number is a version's exactly where it is found
version_found : (n : ℕ) (v : Version) → version_of n ≡ Ok v → n ≡ version_number v
version_found n v e =
    let second : Result Version Fault = cond (eqb n 2) (Ok V2) (Err (corrupt (unknown_version n))) in
    elim (chosen (eqb n 1) (Ok V1) second (Ok v) e) [
      | inl a ↦ eqb-true n 1 a.0 ∙ ap version_number (ok_is {E = Fault} V1 v a.1)
      | inr b ↦ elim (chosen (eqb n 2) (Ok V2) (Err (corrupt (unknown_version n))) (Ok v) b.1) [
        | inl c ↦ eqb-true n 2 c.0 ∙ ap version_number (ok_is {E = Fault} V2 v c.1)
        | inr d ↦ absurd (let k = d.1 in cc)
      ]
    ]

version_known : (v : Version) → version_of (version_number v) ≡ Ok v
version_known V1 = refl
version_known V2 = refl

word : IsReader (lifted_at (high_first_at w64)) IsU64
word = is_lifted (is_high_first w64)

is_version : IsReader version_at IsVersion
unfolding version_at
is_version = record {
  takes = λ bytes y e.
      let a = bind_ok (lifted (high_first_at w64 bytes)) (λ (r : ℕ × List ℕ). version_of r.0 >>= λ v. Ok (v, r.1)) y e in
      let b = bind_ok (version_of a.0.0) (λ (v : Version). Ok (v, a.0.1)) y a.2 in
      let one = word.takes bytes a.0 a.1 in
      let same = ok_is {E = Fault} (b.0, a.0.1) y b.2 in
      let number : a.0.0 ≡ version_number y.0 = version_found a.0.0 b.0 b.1 ∙ ap (λ (q : Version × List ℕ). version_number q.0) same in
      (one.0, record { spelled = subst (λ (n : ℕ). IsU64 one.0 n) number one.1 }, one.2 ∙ ap (λ (q : Version × List ℕ). one.0 ++ q.1) same);
  again = λ text rest v h.
      ap (λ (r : Result (ℕ × List ℕ) Fault). r >>= λ r. version_of r.0 >>= λ v. Ok (v, r.1)) (word.again text rest (version_number v) h.spelled)
      ∙ ap (λ (r : Result Version Fault). r >>= λ v. Ok (v, rest)) (version_known v);
}

is_payload : (v : Version) → IsReader (payload_at v) (IsPayload v)
unfolding payload_at
is_payload V1 = is_known _
is_payload V2 = record {
  takes = λ bytes y e.
      let format : ℕ → LogFileFormat = λ n. record { version = V2; alignment = n } in
      elim (chosen (ltb (length bytes) 8) (Err (corrupt missing_payload)) (Ok (format (from_be_bytes w64 (take 8 bytes)), drop 8 bytes)) (Ok y) e) [
        | inl a ↦ absurd (let k = a.1 in cc)
        | inr b ↦
            let long : 8 ≤ length bytes = ltb-false _ _ b.0 in
            let same = ok_is {E = Fault} (format (from_be_bytes w64 (take 8 bytes)), drop 8 bytes) y b.1 in
            let spelled : IsU64 (take 8 bytes) (from_be_bytes w64 (take 8 bytes)) = record { size = length-take-le 8 bytes long; value = refl } in (
              take 8 bytes,
              (from_be_bytes w64 (take 8 bytes), spelled, sym (ap (λ (q : LogFileFormat × List ℕ). q.0) same)),
              sym (take-append-drop 8 bytes) ∙ ap (λ (q : LogFileFormat × List ℕ). take 8 bytes ++ q.1) same,
            )
      ];
  again = λ text rest y h.
      let long : 8 ≤ length (text ++ rest) = omega (arith, length-append text rest, h.1.size) in
      let test : ltb (length (text ++ rest)) 8 ≡ false = le-ltb _ _ long in
      rw (test, take_at text rest 8 h.1.size, drop_at text rest 8 h.1.size, h.2, h.1.value) refl;
}

pub is_header : IsReader header_at IsFileHeader
unfolding header_at
is_header = is_then {p = magic_at} {P = IsMagic} {q = λ _ bytes. version_at bytes >>= λ y. payload_at y.0 y.1} {Q = λ _. Then IsVersion IsPayload} is_magic (λ _. is_then {p = version_at} {P = IsVersion} {q = payload_at} {Q = IsPayload} is_version is_payload)

-- ---- what is written

word_length : (n : ℕ) → length (u64_bytes n) ≡ 8
unfolding u64_bytes
word_length n = refl

magic_length : length magic ≡ 53
unfolding magic
magic_length = refl

header_is : (format : LogFileFormat) → header_bytes format ≡ magic ++ (u64_bytes (version_number format.version) ++ payload_bytes format.version format.alignment)
unfolding header_bytes
header_is format = refl

pub header_length : (v : Version) (a len : ℕ) → (v ≡ V1 → len ≡ 61) → (v ≡ V2 → len ≡ 69) → length (header_bytes (record { version = v; alignment = a })) ≡ len
header_length V1 a len one two =
    let whole = ap length (header_is (record { version = V1; alignment = a })) ∙ length-append magic (u64_bytes 1 ++ []) in
    omega (arith, whole, one refl, magic_length, word_length 1, length-append (u64_bytes 1) [])
header_length V2 a len one two =
    let whole = ap length (header_is (record { version = V2; alignment = a })) ∙ length-append magic (u64_bytes 2 ++ u64_bytes a) in
    omega (arith, whole, two refl, magic_length, word_length 2, word_length a, length-append (u64_bytes 2) (u64_bytes a))

pub written_header : (format : LogFileFormat) → IsU64 (u64_bytes (version_number format.version)) (version_number format.version)
    → (format.version ≡ V2 → IsU64 (u64_bytes format.alignment) format.alignment) → HasWrittenHeader format → IsFileHeader (header_bytes format) format
written_header format version alignment has = (
  tt,
  magic,
  u64_bytes (version_number format.version) ++ payload_bytes format.version format.alignment,
  refl,
  (format.version, u64_bytes (version_number format.version), payload_bytes format.version format.alignment, record { spelled = version }, payload format.version format.alignment has alignment, refl),
  header_is format,
)
  where
    payload : (v : Version) (a : ℕ) → (v ≡ V1 → a ≡ 0) → (v ≡ V2 → IsU64 (u64_bytes a) a) → IsPayload v (payload_bytes v a) (record { version = v; alignment = a })
    payload V1 a none spelled = (refl, ap (λ (n : ℕ). record { version = V1; alignment = n }) (none refl))
    payload V2 a none spelled = (a, spelled refl, refl)

pub on_ok : {T E P : Type 0} (r : Result T E) → P → OnOk r P
on_ok (Ok x) p = p
on_ok (Err e) p = tt

-- A file's header tells its version, and a record is signed by that.
use Rattle.std.proofs.Common.{◌≡◌, ℕ, ◌<◌, ◌^◌, List, ◌++◌, map, refl, sym, ◌∙◌, ap, subst, arith, unwrap_or}
use Rattle.std.specs.Int.{w64}
use Rattle.std.proofs.lemmas.List.{append_cancel_left}
use Rattle.raft_log_record_base.proofs.Public.{is_high_first, prefix_free}
use Rattle.raft_log_record_base.specs.Files.{signature, version_number}
use Rattle.raft_log_record_base.specs.Number.{IsU64, u64_bytes}
use Rattle.raft_log_record_base.specs.declared.pipe_log.Version.{Version}
use Rattle.raft_log_record_base.specs.declared.pipe_log.Version.TheVariants.{V1, V2}
use Rattle.raft_log_record_items.specs.Writing.{plain_item}
use Rattle.raft_log_file_format.specs.Header.{IsFileHeader, IsPayload, header_bytes, magic, payload_bytes}
use Rattle.raft_log_file_format.specs.declared.header.LogFileFormat.{LogFileFormat}
use Rattle.raft_log_record_frames.specs.Record.{IsRecord}
use Rattle.raft_log_record_batches.specs.Batch.{Batch, IsReadyForEach, batch_bytes}
use Rattle.raft_log_block_cache.specs.Signing.{SaysItself, record_said, signed_for}

one_version : (a b : Version) → version_number a ≡ version_number b → a ≡ b
one_version V1 V1 same = refl
one_version V1 V2 same = absurd (omega (arith, same))
one_version V2 V1 same = absurd (omega (arith, same))
one_version V2 V2 same = refl

word_of : (v : Version) → IsU64 (u64_bytes (version_number v)) (version_number v)
unfolding u64_bytes
word_of V1 = record { size = refl; value = refl }
word_of V2 = record { size = refl; value = refl }

payload_version : (v : Version) (bytes : List ℕ) (f : LogFileFormat) → IsPayload v bytes f → f.version ≡ v
payload_version V1 bytes f (none, same) = ap (λ (x : LogFileFormat). x.version) same
payload_version V2 bytes f (n, spelled, same) = ap (λ (x : LogFileFormat). x.version) same

-- the version that a header tells
same_version : (format f : LogFileFormat) → IsFileHeader (header_bytes format) f → f.version ≡ format.version
unfolding header_bytes
same_version format f (x, front, back, is_magic, (v, word, rest, number, payload, is_back), is) =
    let mine = u64_bytes (version_number format.version) in
    let others = payload_bytes format.version format.alignment in
    let after : mine ++ others ≡ back = append_cancel_left magic (mine ++ others) back (is ∙ ap (λ (l : List ℕ). l ++ back) is_magic) in
    let one = prefix_free (is_high_first w64) mine word others rest (version_number format.version) (version_number v) (word_of format.version) number.spelled (after ∙ is_back) in
    payload_version v rest f payload ∙ sym (one_version format.version v one.1)

small : (v : Version) (n : ℕ) → unwrap_or (signature v n) 0 < 2 ^ 32
small V1 n = omega arith
small V2 n = omega arith

pub says_itself : (b : Batch) (len : ℕ) → IsReadyForEach len b.items b.entries → SaysItself (signed_for b) b
says_itself b len ready some says queue directories = record {
  value = record_said b;
  said = refl;
  framed = λ n format less header.
      (let mine = signature format.version n in
      let whole = ready.whole mine (small format.version n) some in
      record {
        format = header.0;
        says = header.1;
        is = subst (λ (v : Version). IsRecord (signature v n) (batch_bytes mine b.items b.entries) (map plain_item b.items) b.entries) (sym (same_version format header.0 header.1)) whole;
      });
}

-- What is read of a file's front, and its header.
use Rattle.std.proofs.Common.{◌≡◌, ℕ, ◌-◌, ◌≤◌, Bool, IsTrue, inl, inr, List, ◌++◌, length, take, drop, min, Some, Result, Ok, Err, sym, ap, subst, ◌∙◌, arith}
use Rattle.std.specs.Result.{IfOk, IfErr}
use Rattle.std.proofs.lemmas.List.{append_assoc, take-append-drop, take_at, take_all, length-take-le, length-drop}
use Rattle.std.proofs.lemmas.Bool.{cases_lt}
use Rattle.std.proofs.Math.Nat.{min-eq_left, min-eq_right, min-le_right}
use Rattle.raft_log_record_base.specs.declared.errors.Error.{Error}
use Rattle.raft_log_record_base.specs.declared.errors.Error.TheVariants as errors
use Rattle.raft_log_record_base.specs.Fault.{FailsOrMemory, DecodesOrMemory, ReadsOrMemory}
use Rattle.raft_log_file_format.specs.declared.header.LogFileFormat.{LogFileFormat}
use Rattle.raft_log_file_format.specs.Header.{IsFileHeader, header_at}
use Rattle.raft_log_fs.specs.Disk.{File, Disk}
use Rattle.raft_log_fs.specs.Touching.{HasFile}
use Rattle.raft_log_fs.specs.declared.handle.Handle.{Handle}
use Rattle.raft_log_file_writer.specs.Reader.{BeginsWithHeader, GivesFormat, IsFormatRefusal}

-- what was read into a room, and no more of it, is what stands there
pub filled : (at count : ℕ) (before after content : List ℕ) → count ≡ min (length before) (length content - at) → after ≡ take count (drop at content) ++ drop count before
    → take count after ≡ take (length before) (drop at content)
filled at count before after content number bytes =
    let all = drop at content in
    let within : count ≤ length all = omega (arith, number, length-drop at content, min-le_right (length before) (length content - at)) in
    let front : take count after ≡ take count all = ap (λ (b : List ℕ). take count b) bytes ∙ take_at (take count all) (drop count before) count (length-take-le count all within) in
    elim (cases_lt (length all) (length before)) [
      | inl short ↦
          let whole : count ≡ length all = number ∙ min-eq_right (omega (arith, short, length-drop at content)) ∙ sym (length-drop at content) in
          front ∙ take_all count all (omega (arith, whole)) ∙ sym (take_all (length before) all (omega (arith, short)))
      | inr room ↦
          let full : count ≡ length before = number ∙ min-eq_left (omega (arith, room, length-drop at content)) in
          front ∙ ap (λ (n : ℕ). take n all) full
    ]

-- `source` is the front of the file, as long as the longest header
pub record IsFront (handle : Handle) (d : Disk) (source : List ℕ) : Type 0 where
  pub file : File
  pub is : d.files handle.file ≡ Some file
  pub front : source ≡ take 69 file.content

module _ (handle : Handle) (d : Disk) (source left : List ℕ) (honest : Bool) (read : IsTrue honest → IsFront handle d source) where
  -- a header read off the front of a file is the file's
  pub begins_with_header : (result : Result LogFileFormat Error) → DecodesOrMemory IsFileHeader result source left
      → IfOk result (λ format. IsTrue honest → HasFile handle.file (BeginsWithHeader format) d)
  begins_with_header (Ok format) decodes = λ told.
      let (text, spelled, splits) = decodes.found in
      let it = read told in
      record {
        file = it.file;
        is = it.is;
        has = record {
          header = text;
          rest = left ++ drop 69 it.file.content;
          is = spelled;
          splits = sym (take-append-drop 69 it.file.content) ∙ ap (λ (b : List ℕ). b ++ drop 69 it.file.content) (sym it.front ∙ splits)
              ∙ append_assoc text left (drop 69 it.file.content);
        };
      }
  begins_with_header (Err error) decodes = tt

  pub gives_format : (result : Result LogFileFormat Error) → ReadsOrMemory result source left (header_at source)
      → IfOk result (λ format. IsTrue honest → HasFile handle.file (GivesFormat format) d)
  gives_format (Ok format) reads = λ told.
      let it = read told in record { file = it.file; is = it.is; has = (left, ap header_at (sym it.front) ∙ reads) }
  gives_format (Err error) reads = tt

  pub format_refused : (result : Result LogFileFormat Error) → ReadsOrMemory result source left (header_at source)
      → IfErr result (λ error. IsFormatRefusal honest handle d error)
  format_refused (Ok format) reads = tt
  format_refused (Err errors.Memory) reads = tt
  format_refused (Err (errors.Io kind)) reads = absurd reads.0
  format_refused (Err error) reads = λ told.
      let it = read told in
      record { file = it.file; is = it.is; has = subst (λ (b : List ℕ). FailsOrMemory error (header_at b)) it.front reads.0 }

-- A file of a queue holds one list of batches, and one thing is to be done with it.
use Rattle.std.proofs.Common.{◌≡◌, ℕ, ◌+◌, ◌-◌, ◌≤◌, Bool, Option, Some, None, is_some, List, ◌++◌, length, take, Err, refl, sym, ap, subst, ◌∙◌, arith}
use Rattle.std.proofs.lemmas.List.{length-append}
use Rattle.std.proofs.Math.Seq.{take-append-add}
use Rattle.raft_log_record_base.specs.Fault.{Fault}
use Rattle.raft_log_record_base.specs.Fault.Fault.{corrupt}
use Rattle.raft_log_record_base.specs.declared.errors.Error.{Error}
use Rattle.raft_log_record_base.specs.declared.pipe_log.FileId.{FileId}
use Rattle.raft_log_record_base.specs.declared.pipe_log.LogQueue.{LogQueue}
use Rattle.raft_log_record_base.specs.declared.pipe_log.Version.{Version}
use Rattle.raft_log_record_base.specs.declared.pipe_log.Version.TheVariants.{V1, V2}
use Rattle.raft_log_record_base.proofs.Public.{prefix_free}
use Rattle.raft_log_record_items.specs.declared.item.LogItem.{LogItem}
use Rattle.raft_log_fs.specs.Disk.{Disk}
use Rattle.raft_log_file_settings.specs.declared.recovery_mode.RecoveryMode.{RecoveryMode}
use Rattle.raft_log_file_format.specs.Header.{magic, header_at, IsFileHeader, IsPayload}
use Rattle.raft_log_file_format.specs.declared.header.LogFileFormat.{LogFileFormat}
use Rattle.raft_log_file_format.proofs.Public.{is_header}
use Rattle.raft_log_active_file.specs.declared.format.File.{File}
use Rattle.raft_log_file_reader.specs.Opening.{SaysFormat}
use Rattle.raft_log_file_reader.specs.declared.open_file.OpenFile.{OpenFile}
use Rattle.raft_log_replay.specs.Segments.{HoldsOne}
use Rattle.raft_log_recovery_read.specs.Faults.{TellsIfAny}
use Rattle.raft_log_recovery_read.specs.Reading.{FileReading, IsTornHeader, ReadsBytes, ReadsFileAs, torn_header}
use Rattle.raft_log_recovery_read.specs.Records.{ReadsBehind}
use Rattle.raft_log_recovery_read.specs.Reading.ReadsBytes.{headless, headed, torn}
use Rattle.raft_log_recovery_read.specs.Batches.{said}
use Rattle.raft_log_recovery_read.specs.Segments.{id_of, is_at_end, HoldsFile}
use Rattle.raft_log_recovery_read.specs.declared.file_ending.FileEnding.{FileEnding}
use Rattle.raft_log_recovery_read.proofs.OneReading.{one_behind}
use Rattle.raft_log_recovery_read.proofs.Elsewhere.{same_behind}

-- ---- headers

magic_length : length magic ≡ 53
unfolding magic
magic_length = refl

payload_short : (v : Version) (bytes : List ℕ) (format : LogFileFormat) → IsPayload v bytes format → length bytes ≤ 8
payload_short V1 bytes format h = omega (arith, ap length h.0)
payload_short V2 bytes format h = omega (arith, h.1.size)

-- a header has no more than 69 bytes
header_short : (header : List ℕ) (format : LogFileFormat) → IsFileHeader header format → length header ≤ 69
header_short header format (u, front, back, is_magic, (v, number, payload, is_version, is_payload, second), first) =
    let one : length header ≡ length front + length back = ap length first ∙ length-append front back in
    let two : length back ≡ length number + length payload = ap length second ∙ length-append number payload in
    let size : length front ≡ 53 = ap length is_magic ∙ magic_length in
    omega (arith, one, two, size, is_version.spelled.size, payload_short v payload format is_payload)

-- where bytes begin with a header, their first 69 do
pub header_found : (content : List ℕ) (format : LogFileFormat) (start : ℕ) (fault : Fault) → SaysFormat content format start → header_at (take 69 content) ≡ Err fault → ⊥
header_found content format start fault h e =
    let short = header_short h.header format h.says in
    let size : 69 ≡ length h.header + (69 - length h.header) = omega (arith, short) in
    let front : take 69 content ≡ h.header ++ take (69 - length h.header) h.rest =
    ap (λ (l : List ℕ). take 69 l) h.splits ∙ ap (λ (n : ℕ). take n (h.header ++ h.rest)) size ∙ take-append-add h.header h.rest (69 - length h.header) in
    let found = is_header.again h.header (take (69 - length h.header) h.rest) format h.says in
    let both = sym e ∙ ap header_at front ∙ found in
    absurd cc

-- bytes begin with one header
pub one_header : (content : List ℕ) (f g : LogFileFormat) (m n : ℕ) → SaysFormat content f m → SaysFormat content g n → (f ≡ g) × (m ≡ n)
one_header content f g m n a b =
    let same = prefix_free is_header a.header b.header a.rest b.rest f g a.says b.says (sym a.splits ∙ b.splits) in
    (same.1, a.ends ∙ ap length same.0 ∙ sym b.ends)

-- ---- what a file reads as

-- what two readings of a file have in common
record AreSame (a b : FileReading) : Type 0 where
  batches : a.batches ≡ b.batches
  format : a.format ≡ b.format
  end : a.end ≡ b.end
  damaged : is_some a.fault ≡ is_some b.fault

told_some : (told : Option Error) (fault : Option Fault) → TellsIfAny told fault → is_some told ≡ is_some fault
told_some None fault h = sym (ap is_some h)
told_some (Some e) fault h = sym (ap is_some h.1)

-- two readings behind the header of a file are alike
read_alike : (last : Bool) (content : List ℕ) (a b : FileReading) (file other : OpenFile) (start from m n : ℕ) (e f : Option Fault) → file.id ≡ other.id → SaysFormat content file.format start → SaysFormat content other.format from
    → ReadsBehind last file content start a.batches m e → ReadsBehind last other content from b.batches n f
    → (file.format ≡ other.format) × (a.batches ≡ b.batches) × (m ≡ n) × (is_some e ≡ is_some f)
read_alike last content a b file other start from m n e f same header front behind after =
    let one = one_header content file.format other.format start from header front in
    let there = subst (λ (k : ℕ). ReadsBehind last other content k b.batches n f) (sym one.1) after in
    let here = same_behind last file other content start n b.batches f same one.0 there in
    let both = one_behind last file content start m n a.batches b.batches e f behind here in
    (one.0, both.0, both.1, both.2)

-- where one reading finds the header torn, so it is for the other
also_torn : (last : Bool) (id : FileId) (content : List ℕ) (a b : FileReading) (file other : OpenFile) (start from m n : ℕ) (e f : Option Fault) → file.id ≡ other.id → SaysFormat content file.format start → SaysFormat content other.format from
    → ReadsBehind last file content start a.batches m e → ReadsBehind last other content from b.batches n f
    → IsTornHeader last file.format a.batches → IsTornHeader last other.format b.batches
also_torn last id content a b file other start from m n e f same header front behind after (at_end, aligned, none) =
    let read = read_alike last content a b file other start from m n e f same header front behind after in (
      at_end,
      λ free. aligned (ap (λ (k : LogFileFormat). k.alignment) read.0 ∙ free),
      sym read.1 ∙ none,
    )

same_bytes : (last : Bool) (id : FileId) (content : List ℕ) (a b : FileReading) → ReadsBytes last id content a → ReadsBytes last id content b → AreSame a b
same_bytes last id content a b (headless e wrong tells none end first) (headless f bad told nothing at format) = record {
  batches = none ∙ sym nothing;
  format = first ∙ sym format;
  end = end ∙ sym at;
  damaged = told_some a.fault (Some e) tells ∙ sym (told_some b.fault (Some f) told);
}
same_bytes last id content a b (headless e wrong tells none end first) (headed file start n f is header behind whole told at format) =
    absurd (header_found content file.format start e header wrong)
same_bytes last id content a b (headless e wrong tells none end first) (torn file start n f is header behind bad told at format) =
    absurd (header_found content file.format start e header wrong)
same_bytes last id content a b (headed file start n f is header behind whole told at format) (headless e wrong tells none end first) =
    absurd (header_found content file.format start e header wrong)
same_bytes last id content a b (torn file start n f is header behind bad told at format) (headless e wrong tells none end first) =
    absurd (header_found content file.format start e header wrong)
same_bytes last id content a b (torn file start m e is header behind bad tells end first) (torn other from n f also front after worse told at format) = record {
  batches = bad.2 ∙ sym worse.2;
  format = first ∙ sym format;
  end = end ∙ sym at;
  damaged = told_some a.fault (Some (corrupt torn_header)) tells ∙ sym (told_some b.fault (Some (corrupt torn_header)) told);
}
same_bytes last id content a b (torn file start m e is header behind bad tells end first) (headed other from n f also front after whole told at format) =
    absurd (whole (also_torn last id content a b file other start from m n e f (is ∙ sym also) header front behind after bad))
same_bytes last id content a b (headed file start m e is header behind whole tells end first) (torn other from n f also front after bad told at format) =
    absurd (whole (also_torn last id content b a other file from start n m f e (also ∙ sym is) front header after behind bad))
same_bytes last id content a b (headed file start m e is header behind whole tells end first) (headed other from n f also front after sound told at format) =
    let read = read_alike last content a b file other start from m n e f (is ∙ sym also) header front behind after in
    record {
      batches = read.1;
      format = first ∙ read.0 ∙ sym format;
      end = end ∙ ap (λ (k : ℕ). Some k) read.2 ∙ sym at;
      damaged = told_some a.fault e tells ∙ read.3 ∙ sym (told_some b.fault f told);
    }

-- ---- what a queue holds

same_ending : (e f : FileEnding) → e.format ≡ f.format → e.end ≡ f.end → e.is_damaged ≡ f.is_damaged → e ≡ f
same_ending e f format end damaged = ap (λ (m : LogFileFormat). record { format = m; end = e.end; is_damaged = e.is_damaged }) format
    ∙ ap (λ (n : Option ℕ). record { format = f.format; end = n; is_damaged = e.is_damaged }) end
    ∙ ap (λ (b : Bool). record { format = f.format; end = f.end; is_damaged = b }) damaged

pub holds_one : (mode : RecoveryMode) (queue : LogQueue) (files : List File) (d : Disk) → HoldsOne (HoldsFile mode queue files d)
holds_one mode queue files d k xs ys e f a b =
    let file : b.file ≡ a.file = b.reads.is a.file ∙ sym (a.reads.is a.file) in
    let there = subst (λ (o : File). ReadsFileAs (is_at_end files k) (id_of queue o) o.handle d b.read) file b.reads.reads.reads in
    let same = same_bytes (is_at_end files k) (id_of queue a.file) _ a.read b.read a.reads.reads.reads there in
    let batches : xs ≡ ys = a.holds ∙ ap (λ (l : List (List LogItem)). said (id_of queue a.file) l) same.batches
    ∙ ap (λ (o : File). said (id_of queue o) b.read.batches) (sym file) ∙ sym b.holds in (
      batches,
      same_ending e f (a.ends.format ∙ same.format ∙ sym b.ends.format) (a.ends.end ∙ same.end ∙ sym b.ends.end) (a.ends.damaged ∙ same.damaged ∙ sym b.ends.damaged),
    )

-- Reading a record in two steps: first where its footer begins and how long it is, then its footer.
use Rattle.std.specs.Prelude.{slice_range}
use Rattle.std.proofs.Common.{◌≡◌, ℕ, ◌+◌, ◌-◌, ◌<◌, ◌≤◌, ltb, cond, inl, inr, List, length, take, drop, Option, Result, Ok, Err, refl, sym, ap, ◌∙◌, arith}
use Rattle.std.proofs.lemmas.Bool.{le-ltb, lt-ltb, ltb-false}
use Rattle.std.proofs.lemmas.List.{length-take, length-drop, drop-drop}
use Rattle.raft_log_record_base.specs.Grammar.{◌>>=◌}
use Rattle.raft_log_record_base.specs.Fault.{Fault, FailsOrMemory}
use Rattle.raft_log_record_base.specs.Fault.Fault.{corrupt}
use Rattle.raft_log_record_base.specs.Files.{signature_of}
use Rattle.raft_log_record_base.specs.declared.errors.Error.{Error}
use Rattle.raft_log_record_base.specs.declared.errors.Error.TheVariants as errors
use Rattle.raft_log_record_base.specs.declared.pipe_log.LogFileContext.{LogFileContext}
use Rattle.raft_log_record_base.specs.declared.pipe_log.FileId.{FileId}
use Rattle.raft_log_record_base.specs.declared.pipe_log.Version.{Version}
use Rattle.raft_log_record_base.proofs.Public.{bind_ok, chosen, done, ok_is}
use Rattle.raft_log_record_items.specs.declared.item.LogItem.{LogItem}
use Rattle.raft_log_record_items.specs.Placed.{placed}
use Rattle.raft_log_record_items.specs.declared.compression.CompressionType.{CompressionType}
use Rattle.raft_log_record_frames.specs.Record.{Front, header_at, header_too_short, footer_of, frame_of, frame_at, past_input, placed_footer_of}
use Rattle.raft_log_record_frames.proofs.Public.{is_sound_header}
use Rattle.raft_log_fs.specs.Disk.{Disk}
use Rattle.raft_log_file_reader.specs.Source.{CannotRead}
use Rattle.raft_log_file_reader.specs.Batches.{extent_at, batch_at, block_at, context_of}
use Rattle.raft_log_file_reader.specs.Refused.{FailsAt}
use Rattle.raft_log_file_reader.specs.declared.source.Source.{Source}
use Rattle.raft_log_file_reader.specs.declared.open_file.OpenFile.{OpenFile}
use Rattle.raft_log_file_reader.proofs.Headers.{Says, failed}

-- A record that ends within the bytes: its header, and where its footer lies.
pub record HasExtent (bytes : List ℕ) (footer len : ℕ) : Type 0 where
  pub kind : CompressionType
  pub behind : List ℕ
  pub header : header_at bytes ≡ Ok ((footer, kind, len), behind)
  pub from : 16 ≤ footer
  pub to : footer ≤ len
  pub inside : len ≤ length bytes

pub has_extent : (bytes : List ℕ) (footer len : ℕ) → extent_at bytes ≡ Ok (footer, len) → HasExtent bytes footer len
unfolding extent_at
has_extent bytes footer len e =
    let ends = λ (r : Says × List ℕ). cond (ltb (length bytes) r.0.2) (failed {A = ℕ × ℕ} (corrupt (past_input r.0.2))) (Ok (r.0.0, r.0.2)) in
    let h = bind_ok (header_at bytes) ends (footer, len) e in
    let text = is_sound_header.takes bytes h.0 h.1 in
    elim (chosen (ltb (length bytes) h.0.0.2) (failed {A = ℕ × ℕ} (corrupt (past_input h.0.0.2))) (Ok (h.0.0.0, h.0.0.2)) (Ok (footer, len)) h.2) [
      | inl p ↦ absurd cc
      | inr q ↦
          let is : (h.0.0.0, h.0.0.2) ≡ (footer, len) = ok_is {E = Fault} (h.0.0.0, h.0.0.2) (footer, len) q.1 in
          let first : h.0.0.0 ≡ footer = ap (λ (x : ℕ × ℕ). x.0) is in
          let second : h.0.0.2 ≡ len = ap (λ (x : ℕ × ℕ). x.1) is in
          let fits = ltb-false (length bytes) h.0.0.2 q.0 in
          record {
            kind = h.0.0.1;
            behind = h.0.1;
            header = h.1 ∙ ap (λ (x : ℕ × ℕ). done {E = Fault} ((x.0, h.0.0.1, x.1), h.0.1)) is;
            from = omega (arith, text.1.behind, first);
            to = omega (arith, text.1.inside, first, second);
            inside = omega (arith, fits, second);
          }
    ]

-- Where reading the extent stops.

pub extent_header : (bytes : List ℕ) (f : Fault) → header_at bytes ≡ Err f → extent_at bytes ≡ Err f
unfolding extent_at
extent_header bytes f e = rw e refl

pub extent_short : (bytes : List ℕ) → length bytes < 16 → extent_at bytes ≡ Err (corrupt (header_too_short (length bytes)))
unfolding extent_at header_at
extent_short bytes short = rw (lt-ltb (length bytes) 16 short) refl

pub extent_past : (bytes behind : List ℕ) (says : Says) → header_at bytes ≡ Ok (says, behind) → length bytes < says.2 → extent_at bytes ≡ Err (corrupt (past_input says.2))
unfolding extent_at
extent_past bytes behind says e past = rw (e, lt-ltb (length bytes) says.2 past) refl

pub extent_good : (bytes behind : List ℕ) (says : Says) → header_at bytes ≡ Ok (says, behind) → says.2 ≤ length bytes → extent_at bytes ≡ Ok (says.0, says.2)
unfolding extent_at
extent_good bytes behind says e fits = rw (e, le-ltb (length bytes) says.2 fits) refl

-- the frame of a footer's items, and its items with their places
abbrev pub front_of : ℕ → List ℕ → List LogItem → Result Front Fault
front_of len block items = Ok (record { len = len; items = items; bytes = block })

abbrev pub placed_front : LogFileContext → ℕ → Front → Result (ℕ × List LogItem) Fault
placed_front context at front = Ok (front.len, placed (block_at context at (length front.bytes)) front.items)

-- what was read of a footer, as a frame's items with their places
placed_bind : (r : Result (List LogItem) Fault) (context : LogFileContext) (at len n : ℕ) (block : List ℕ) → length block ≡ n
    → ((r >>= front_of len block) >>= placed_front context at)
    ≡ ((r >>= λ items. done {E = Fault} (placed (block_at context at n) items)) >>= λ items. done {E = Fault} (len, items))
placed_bind (Ok items) context at len n block size = ap (λ m. done {E = Fault} (len, placed (block_at context at m) items)) size
placed_bind (Err f) context at len n block size = refl

-- what the footer says of a record whose extent is known, the whole record says
pub batch_found : (context : LogFileContext) (at : ℕ) (content : List ℕ) (footer len : ℕ) → HasExtent (drop at content) footer len
    → batch_at context at content ≡ (placed_footer_of (signature_of context) (block_at context at (footer - 16)) (slice_range (drop at content) footer len) >>= λ items. Ok (len, items))
unfolding batch_at frame_at frame_of placed_footer_of
batch_found context at content footer len h =
    let bytes = drop at content in
    let size : length (slice_range bytes 16 footer) ≡ footer - 16 =
    omega (arith, length-take (footer - 16) (drop 16 bytes), length-drop 16 bytes, h.to, h.inside) in
    rw (h.header, le-ltb (length bytes) len h.inside)
    (placed_bind (footer_of (signature_of context) (footer - 16) (slice_range bytes footer len)) context at len (footer - 16) (slice_range bytes 16 footer) size)

-- and what is wrong with the extent is wrong with the record
pub batch_broken : (context : LogFileContext) (at : ℕ) (content : List ℕ) (f : Fault) → extent_at (drop at content) ≡ Err f → batch_at context at content ≡ Err f
unfolding extent_at batch_at frame_at frame_of
batch_broken context at content f e = by_header (header_at (drop at content)) refl where
  by_header : (r : Result (Says × List ℕ) Fault) → header_at (drop at content) ≡ r → batch_at context at content ≡ Err f
  by_header (Ok x) is =
      let past : cond (ltb (length (drop at content)) x.0.2) (failed {A = ℕ × ℕ} (corrupt (past_input x.0.2))) (Ok (x.0.0, x.0.2)) ≡ Err f = rw is at e in
      elim (chosen (ltb (length (drop at content)) x.0.2) (failed {A = ℕ × ℕ} (corrupt (past_input x.0.2))) (Ok (x.0.0, x.0.2)) (Err f) past) [
        | inl p ↦ let same : corrupt (past_input x.0.2) ≡ f = cc in rw (is, p.0, same) refl
        | inr q ↦ absurd cc
      ]
  by_header (Err g) is =
      let same : failed {A = ℕ × ℕ} g ≡ Err f = rw is at e in
      let fault : g ≡ f = cc in
      rw (is, fault) refl

-- bytes that couldn't be read are why the reading of earlier ones fails
pub cannot_fails : {Y : Type 0} (source : Source) (d : Disk) (early late : ℕ) (e : Error) (reading : Result Y Fault) → early ≤ late
    → CannotRead source late d e → FailsAt source d early e reading
cannot_fails source d early late (errors.Io kind) reading le h =
    record { at = h.at; count = h.count; behind = omega (arith, h.behind); inside = h.inside; unread = h.unread }
cannot_fails source d early late errors.Memory reading le h = tt
cannot_fails source d early late _ reading le h = absurd h

-- a fault of the bytes is why the reading of them fails
pub fault_fails : {Y : Type 0} (source : Source) (d : Disk) (at : ℕ) (e : Error) (reading : Result Y Fault) → FailsOrMemory e reading → FailsAt source d at e reading
fault_fails source d at (errors.Io kind) reading h = absurd h
fault_fails source d at _ reading h = h

-- where one reading stops at the fault at which another stops, it fails for the same reason
pub fails_as : {X Y : Type 0} (source : Source) (d : Disk) (at : ℕ) (e : Error) (a : Result X Fault) (b : Result Y Fault)
    → ((f : Fault) → a ≡ Err f → b ≡ Err f) → FailsAt source d at e a → FailsAt source d at e b
fails_as source d at (errors.Io kind) a b same h = h
fails_as source d at errors.Memory a b same h = tt
fails_as source d at (errors.Codec c) a b same h = same _ h
fails_as source d at (errors.Corruption text) a b same h = same _ h
fails_as source d at _ a b same h = absurd h

-- what stands between two places of a record
footer-slice : (at footer len : ℕ) (content : List ℕ) → slice_range (drop at content) footer len ≡ take (len - footer) (drop (at + footer) content)
footer-slice at footer len content = ap (take (len - footer)) (drop-drop footer at content)

-- what is read of the footer of a record whose extent is known
abbrev pub placed_at : LogFileContext → ℕ → List ℕ → ℕ → ℕ → Result (List LogItem) Fault
placed_at context at content footer len = placed_footer_of (signature_of context) (block_at context at (footer - 16)) (take (len - footer) (drop (at + footer) content))

batch-placed : (context : LogFileContext) (at : ℕ) (content : List ℕ) (footer len : ℕ) → HasExtent (drop at content) footer len
    → batch_at context at content ≡ (placed_at context at content footer len >>= λ items. done {E = Fault} (len, items))
batch-placed context at content footer len h = batch_found context at content footer len h
    ∙ ap (λ (l : List ℕ). placed_footer_of (signature_of context) (block_at context at (footer - 16)) l >>= λ items. done {E = Fault} (len, items)) (footer-slice at footer len content)

pub batch_good : (context : LogFileContext) (at : ℕ) (content : List ℕ) (footer len : ℕ) (items : List LogItem) → HasExtent (drop at content) footer len
    → placed_at context at content footer len ≡ Ok items → batch_at context at content ≡ Ok (len, items)
batch_good context at content footer len items h e = batch-placed context at content footer len h ∙ ap (λ r. r >>= λ items. done {E = Fault} (len, items)) e

pub batch_fault : (context : LogFileContext) (at : ℕ) (content : List ℕ) (footer len : ℕ) → HasExtent (drop at content) footer len
    → (f : Fault) → placed_at context at content footer len ≡ Err f → batch_at context at content ≡ Err f
batch_fault context at content footer len h f e = batch-placed context at content footer len h ∙ ap (λ r. r >>= λ items. done {E = Fault} (len, items)) e

abbrev context_with : FileId → Version → LogFileContext
context_with id version = record { id = id; version = version }

-- a context is its two fields
pub context_is : (context : LogFileContext) (file : OpenFile) → context.id ≡ file.id → context.version ≡ file.format.version → context ≡ context_of file
context_is context file id version =
    let first : context ≡ context_with file.id context.version = ap (λ (i : FileId). context_with i context.version) id in
    first ∙ ap (λ (v : Version). context_with file.id v) version

-- the block of a frame whose extent is known
pub frame_extent : (signature : Option ℕ) (bytes : List ℕ) (footer len : ℕ) (front : Front) → HasExtent bytes footer len → frame_at signature bytes ≡ Ok front → length front.bytes ≡ footer - 16
unfolding frame_at frame_of
frame_extent signature bytes footer len front h e =
    let block = slice_range bytes 16 footer in
    let size : length block ≡ footer - 16 = omega (arith, length-take (footer - 16) (drop 16 bytes), length-drop 16 bytes, h.to, h.inside) in
    let read : (footer_of signature (footer - 16) (slice_range bytes footer len) >>= front_of len block) ≡ Ok front = rw (h.header, le-ltb (length bytes) len h.inside) at e in
    let found = bind_ok (footer_of signature (footer - 16) (slice_range bytes footer len)) (front_of len block) front read in
    let is = ok_is {E = Fault} (record { len = len; items = found.0; bytes = block }) front found.2 in
    sym (ap (λ (f : Front). length f.bytes) is) ∙ size

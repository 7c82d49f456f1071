-- What each call on a queue's last file makes of what is known of it.
use Rattle.std.specs.List.{All}
use Rattle.std.proofs.Common.{◌≡◌, ◌⊎◌, ℕ, ◌+◌, ◌-◌, ◌<◌, ◌≤◌, List, [], ◌∷◌, ◌++◌, length, take, drop, get_or, refl, sym, ◌∙◌, ap, subst, inl, inr, arith, length-append}
use Rattle.std.proofs.Math.Seq.{drop-nil, drop-append-add}
use Rattle.std.proofs.lemmas.List.{append-nil, append_assoc, drop-drop, drop_at, drop_all, nil_from_length, take_at, length-take, length-take-le, length-drop, length-replicate, drop-replicate, drop-append-le, take-append-le, take-take, get_or-append_right, get_or-drop, get_or-take, ext_get_or}
use Rattle.std.proofs.lemmas.List.Elements.{All-nil, All-push}
use Rattle.std.proofs.lemmas.Bool.{cases_lt}
use Rattle.raft_log_fs.specs.Disk.{Change, Wrote, ShortenedTo, GrewTo, File, at_rest, zeros, grown, overwritten}
use Rattle.raft_log_fs.specs.Image.{Spares}
use Rattle.raft_log_fs.specs.Calls.{with_change, after_change, flushed, InPart, IsTorn}
use Rattle.raft_log_file_writer.specs.LawsChains.{Written, AreFrames, spelled}
use Rattle.raft_log_file_writer.specs.KeepsSynced.{HoldsChain, HoldsAtLeast, IsStale, StandsBehind, kept_records}
use Rattle.raft_log_file_writer.specs.LogFormat.{Format, IsFormat}
use Rattle.raft_log_file_writer.specs.LogQueue.{LogFiles, recent, HeaderStands, HoldsLast, IsPast}
use Rattle.raft_log_file_writer.proofs.Public.{all_at_least, frame_filled, frames_front, holds_at_least, holds_grown, holds_in_front, holds_more, holds_read, holds_shortened, holds_synced, holds_used_again, holds_written, reads_whole, settled_at_least, spelled-append}
use Rattle.raft_log_active_file.specs.Queue.{whole, finished, with_more, synced, settled, with_room, begun}
use Rattle.raft_log_active_file.specs.States.{HoldsMore, IsActive, IsFront, IsCut, IsNew, IsHeaded}

-- a header stands through a change that leaves it alone
header_changed : (header : List ℕ) (change : Change) (content : List ℕ) (file : File) → ((place : ℕ) → place < length header → Spares place change) → HeaderStands header file
    → HeaderStands header (with_change change content file)
header_changed header change content file apart stands = record {
  front = stands.front;
  spared = λ place less. All-push (Spares place) file.changes change (stands.spared place less) (apart place less);
}

-- one that begins the content stands once that is synced
header_flushed : (header : List ℕ) (content : List ℕ) → take (length header) content ≡ header → HeaderStands header (at_rest content)
header_flushed header content is = record { front = is; spared = λ place less. All-nil (Spares place) }

-- what stands behind a write at the end of what is written
tail_of : (k : ℕ) (front stale : List ℕ) → drop (length front + k) (grown (length front + k) (front ++ drop (length front) stale)) ≡ drop (length front + k) stale
tail_of k front stale =
    let n = length front in
    let back : List ℕ = drop n stale in
    let gap : List ℕ = zeros (n + k - length (front ++ back)) in
    let size = length-append front back in
    let gap_size : length gap ≡ n + k - length (front ++ back) = length-replicate {A = ℕ} (n + k - length (front ++ back)) 0 in
    let first : drop (n + k) ((front ++ back) ++ gap) ≡ drop k (back ++ gap) =
    sym (drop-drop k n ((front ++ back) ++ gap)) ∙ ap (λ (xs : List ℕ). drop k (drop n xs)) (append_assoc front back gap) ∙ ap (λ (xs : List ℕ). drop k xs) (drop_at front (back ++ gap) n refl) in
    first ∙ elim (cases_lt (length back) k) [
      | inl short ↦ drop_all k (back ++ gap) (omega (arith, length-append back gap, gap_size, size, short)) ∙ sym (sym (drop-drop k n stale) ∙ drop_all k back (omega (arith, short)))
      | inr long ↦
          (let none : gap ≡ [] = nil_from_length gap (omega (arith, gap_size, size, long)) in
          ap (λ (xs : List ℕ). drop k (back ++ xs)) none ∙ ap (λ (xs : List ℕ). drop k xs) (append-nil back) ∙ drop-drop k n stale)
    ]

-- a write at the end of what is written, over what stood there
pub over : (front bytes stale : List ℕ) → 0 < length bytes → overwritten (length front) bytes (front ++ drop (length front) stale) ≡ (front ++ bytes) ++ drop (length (front ++ bytes)) stale
over front [] stale some = absurd (omega arith)
over front (b ∷ bs) stale some =
    let bytes : List ℕ = b ∷ bs in
    let n = length front in
    let end = n + length bytes in
    let old : List ℕ = front ++ drop n stale in
    let room : List ℕ = grown end old in
    let head : take n room ≡ front = ap (λ (xs : List ℕ). take n xs) (append_assoc front (drop n stale) (zeros (end - length old))) ∙ take_at front (drop n stale ++ zeros (end - length old)) n refl in
    ap (λ (xs : List ℕ). xs ++ (bytes ++ drop end room)) head
    ∙ ap (λ (xs : List ℕ). front ++ (bytes ++ xs)) (tail_of (length bytes) front stale)
    ∙ sym (append_assoc front bytes (drop end stale))
    ∙ ap (λ (k : ℕ). (front ++ bytes) ++ drop k stale) (sym (length-append front bytes))

-- growing a file that reads as a front and what stood behind it
over_grown : (front stale : List ℕ) (size : ℕ) → grown size (front ++ drop (length front) stale) ≡ front ++ drop (length front) (grown size stale)
over_grown front stale size =
    let n = length front in
    let back : List ℕ = drop n stale in
    let a = size - length (front ++ back) in
    let b = size - length stale in
    append_assoc front back (zeros a) ∙ ap (λ (xs : List ℕ). front ++ xs) (elim (cases_lt (length stale) n) [
      | inl short ↦
          (let none : back ≡ [] = drop_all n stale (omega (arith, short)) in
          let behind : drop n (stale ++ zeros b) ≡ zeros (b - (n - length stale)) =
          ap (λ (k : ℕ). drop k (stale ++ zeros b)) (let same : n ≡ length stale + (n - length stale) = omega (arith, short) in same) ∙ drop-append-add stale (zeros b) (n - length stale) ∙ drop-replicate (n - length stale) b 0 in
          let sizes : a ≡ b - (n - length stale) = omega (arith, short, length-append front back, ap length none) in
          ap (λ (xs : List ℕ). xs ++ zeros a) none ∙ ap zeros sizes ∙ sym behind)
      | inr long ↦
          (let sizes : a ≡ b = omega (arith, long, length-append front back, length-drop n stale) in
          ap (λ (k : ℕ). back ++ zeros k) sizes ∙ sym (drop-append-le n stale (zeros b) (omega (arith, long))))
    ])

-- what stands behind a front is what stood there
over_stands : (front stale : List ℕ) → StandsBehind (length front) stale (front ++ drop (length front) stale)
over_stands front stale place from less =
    let n = length front in
    let inside : place < length stale = omega (arith, from, less, length-append front (drop n stale), length-drop n stale) in
    let k = place - n in
    let there : n + k ≡ place = omega (arith, from) in
    (inside, get_or-append_right front (drop n stale) n place 0 refl from ∙ get_or-drop n stale k 0 ∙ ap (λ (i : ℕ). get_or stale i 0) there)

-- what was stale is stale among more bytes
stale_longer : (stale more bytes : List ℕ) (at : ℕ) → IsStale stale at bytes → IsStale (stale ++ more) at bytes
stale_longer stale more bytes at is =
    let k = length bytes in
    let long : length (take k (drop at stale)) ≡ k = ap length is in
    elim (cases_lt 0 k) [
      | inl some ↦
          (let inside : at + k ≤ length stale = omega (arith, some, long, length-take k (drop at stale), length-drop at stale) in
          ap (λ (xs : List ℕ). take k xs) (drop-append-le at stale more (omega (arith, inside))) ∙ take-append-le k (drop at stale) more (omega (arith, inside, length-drop at stale)) ∙ is)
      | inr none ↦
          (let empty : bytes ≡ [] = nil_from_length bytes (omega (arith, none)) in
          nil_from_length (take k (drop at (stale ++ more))) (omega (arith, none, length-take k (drop at (stale ++ more)))) ∙ sym empty)
    ]

-- a write that was refused leaves what stands before its place
torn_front : (at : ℕ) (bytes old new : List ℕ) → at ≤ length old → IsTorn at bytes old new → take at new ≡ take at old
torn_front at bytes old new below torn =
    let longer = torn.longer in
    let a = length-take-le at new (omega (arith, below, longer)) in
    let b = length-take-le at old below in
    ext_get_or 0 (take at new) (take at old) (a ∙ sym b) (λ i less.
    (let under : i < at = omega (arith, less, a) in
    get_or-take at new i 0 under ∙ torn.outside i (omega (arith, under, below)) (inl under) ∙ sym (get_or-take at old i 0 under)))

module _ {R : Type 0} (F : Format R) where
  -- what is written grows by the records
  pub whole_more : (q : LogFiles R) (ws : List (Written R)) → whole (with_more ws q) ≡ whole q ++ spelled ws
  whole_more q ws =
      ap (λ (vs : List (Written R)). q.header ++ spelled vs) (sym (append_assoc q.durable q.pending ws)) ∙ ap (λ (b : List ℕ). q.header ++ b) (spelled-append (recent q) ws)
      ∙ sym (append_assoc q.header (spelled (recent q)) (spelled ws))

  whole_long : (q : LogFiles R) → length (whole q) ≡ length q.header + length (spelled (recent q))
  whole_long q = length-append q.header (spelled (recent q))

  -- a change behind the records leaves the header
  spares_header : (q : LogFiles R) (bytes : List ℕ) (place : ℕ) → place < length q.header → Spares place (Wrote (length (whole q)) bytes)
  spares_header q bytes place less (from, to) = omega (arith, less, from, whole_long q)

  -- Each state is one in which the file holds its records.

  pub active_holds : (q : LogFiles R) (file : File) → IsActive F q file → HoldsLast F q file
  active_holds q file is = record { chain = holds_at_least (F.IsFrame q.last q.header) (length q.header) q.stale q.durable q.pending file is.chain; headed = inl is.headed }

  pub front_holds : (q : LogFiles R) (more : List (Written R)) (file : File) → IsFront F q more file → HoldsLast F (with_more more q) file
  front_holds q more file is = record { chain = holds_at_least (F.IsFrame q.last q.header) (length q.header) q.stale q.durable (q.pending ++ more) file is.chain; headed = inl is.headed }

  pub cut_holds : (q : LogFiles R) (more : List (Written R)) (file : File) → IsCut F q more file → HoldsLast F (with_more more q) file
  cut_holds q more file is = record { chain = holds_at_least (F.IsFrame q.last q.header) (length q.header) q.stale q.durable (q.pending ++ more) file is.chain; headed = inl is.headed }

  pub new_holds : (header stale : List ℕ) (q : LogFiles R) (file : File) → IsNew F (begun header stale q) file → HoldsLast F (begun header stale q) file
  new_holds header stale q file is = record { chain = holds_at_least (F.IsFrame q.last header) (length header) stale [] [] file is.chain; headed = inr refl }

  pub headed_holds : (header stale : List ℕ) (q : LogFiles R) (file : File) → IsHeaded F (begun header stale q) file → HoldsLast F (begun header stale q) file
  headed_holds header stale q file is = record { chain = holds_at_least (F.IsFrame q.last header) (length header) stale [] [] file is.chain; headed = inr refl }

  -- A record is written, or is to be.

  pub active_front : (q : LogFiles R) (more : List (Written R)) (file : File) → AreFrames (F.IsFrame q.last q.header) more → IsActive F q file → IsFront F q more file
  active_front q more file framed is = record {
    chain = holds_more (F.IsFrame q.last q.header) (length q.header) q.stale q.durable q.pending more file framed is.chain;
    headed = is.headed;
    front = ap (λ (b : List ℕ). take (length (whole q)) b) is.all ∙ take_at (whole q) (drop (length (whole q)) q.stale) (length (whole q)) refl;
  }

  chain_written : (q : LogFiles R) (w : Written R) (content : List ℕ) (file : File) → F.IsFrame q.last q.header w.bytes w.value → IsActive F q file
      → HoldsMore F q (w ∷ []) (with_change (Wrote (length (whole q)) w.bytes) content file)
  chain_written q w content file framed is =
      subst (λ (n : ℕ). HoldsMore F q (w ∷ []) (with_change (Wrote n w.bytes) content file)) (sym (whole_long q))
      (holds_written (F.IsFrame q.last q.header) (length q.header) q.stale q.durable q.pending w content file framed is.chain)

  -- the content as long as what is written at least
  content_long : (q : LogFiles R) (file : File) → IsActive F q file → length (whole q) ≤ length file.content
  content_long q file is = omega (arith, ap length is.all, length-append (whole q) (drop (length (whole q)) q.stale))

  pub front_written : (q : LogFiles R) (w : Written R) (content : List ℕ) (file : File) → F.IsFrame q.last q.header w.bytes w.value → IsActive F q file
      → InPart (Wrote (length (whole q)) w.bytes) file.content content → IsFront F q (w ∷ []) (with_change (Wrote (length (whole q)) w.bytes) content file)
  front_written q w content file framed is torn =
      let n = length (whole q) in
      record {
        chain = chain_written q w content file framed is;
        headed = header_changed q.header (Wrote n w.bytes) content file (spares_header q w.bytes) is.headed;
        front = torn_front n w.bytes file.content content (content_long q file is) torn ∙ (active_front q [] file tt is).front;
      }

  -- It is cut behind its records.

  behind_durable : (q : LogFiles R) → length q.header + length (spelled q.durable) ≤ length (whole q)
  behind_durable q = omega (arith, whole_long q, ap length (spelled-append q.durable q.pending), length-append (spelled q.durable) (spelled q.pending))

  spares_shortened : (q : LogFiles R) (place : ℕ) → place < length q.header → Spares place (ShortenedTo (length (whole q)))
  spares_shortened q place less from = omega (arith, less, from, whole_long q)

  chain_shortened : (q : LogFiles R) (more : List (Written R)) (content : List ℕ) (file : File) → HoldsMore F q more file → HoldsMore F q more (with_change (ShortenedTo (length (whole q))) content file)
  chain_shortened q more content file chain = holds_shortened (F.IsFrame q.last q.header) (length q.header) q.stale q.durable (q.pending ++ more) (length (whole q)) content file (behind_durable q) chain

  pub front_cut : (q : LogFiles R) (more : List (Written R)) (file : File) → IsFront F q more file → IsCut F q more (after_change (ShortenedTo (length (whole q))) file)
  front_cut q more file is =
      let n = length (whole q) in
      record {
        chain = chain_shortened q more (take n file.content) file is.chain;
        headed = header_changed q.header (ShortenedTo n) (take n file.content) file (spares_shortened q) is.headed;
        is = is.front;
      }

  pub front_tried : (q : LogFiles R) (more : List (Written R)) (content : List ℕ) (file : File) → IsFront F q more file → InPart (ShortenedTo (length (whole q))) file.content content
      → IsFront F q more (with_change (ShortenedTo (length (whole q))) content file)
  front_tried q more content file is part =
      let n = length (whole q) in
      record {
        chain = chain_shortened q more content file is.chain;
        headed = header_changed q.header (ShortenedTo n) content file (spares_shortened q) is.headed;
        front = elim part [
          | inl same ↦ ap (λ (b : List ℕ). take n b) same ∙ is.front
          | inr less ↦ ap (λ (b : List ℕ). take n b) less ∙ take-take n n file.content (omega arith) ∙ is.front
        ];
      }

  -- Its header is written.

  headed_content : (header stale : List ℕ) → overwritten 0 header stale ≡ header ++ drop (length header) stale
  headed_content [] stale = refl
  headed_content (b ∷ bs) stale = over [] (b ∷ bs) stale (omega arith)

  chain_headed : (header stale : List ℕ) (q : LogFiles R) (content : List ℕ) (file : File) → HoldsChain (F.IsFrame q.last header) (length header) stale [] [] file
      → HoldsChain (F.IsFrame q.last header) (length header) stale [] [] (with_change (Wrote 0 header) content file)
  chain_headed header stale q content file chain = holds_in_front (F.IsFrame q.last header) (length header) stale [] [] 0 header content file (omega arith) chain

  pub new_headed : (header stale : List ℕ) (q : LogFiles R) (file : File) → IsNew F (begun header stale q) file → IsHeaded F (begun header stale q) (after_change (Wrote 0 header) file)
  new_headed header stale q file is = record {
    chain = chain_headed header stale q (overwritten 0 header file.content) file is.chain;
    is = ap (λ (b : List ℕ). overwritten 0 header b) is.is ∙ headed_content header stale;
  }

  pub new_tried : (header stale : List ℕ) (q : LogFiles R) (content : List ℕ) (file : File) → IsNew F (begun header stale q) file → HoldsLast F (begun header stale q) (with_change (Wrote 0 header) content file)
  new_tried header stale q content file is = record {
    chain = holds_at_least (F.IsFrame q.last header) (length header) stale [] [] (with_change (Wrote 0 header) content file) (chain_headed header stale q content file is.chain);
    headed = inr refl;
  }

  -- a file that gets the next number, with whatever it holds
  pub new_over : (header stale : List ℕ) (q : LogFiles R) → IsNew F (begun header stale q) (at_rest stale)
  new_over header stale q = record { chain = holds_used_again (F.IsFrame q.last header) (length header) stale; is = refl }

  -- Room is made ahead.

  chain_longer : (n start : ℕ) (header stale more : List ℕ) (durable pending : List (Written R)) (file : File) → HoldsChain (F.IsFrame n header) start stale durable pending file
      → HoldsChain (F.IsFrame n header) start (stale ++ more) durable pending file
  chain_longer n start header stale more durable pending file chain = record {
    frames = chain.frames;
    synced = chain.synced;
    others = λ at w meets. elim (chain.others at w meets) [ inl old ↦ inl (stale_longer stale more w.bytes at old) | inr inside ↦ inr inside ];
    spared = chain.spared;
    handed = chain.handed;
  }

  pub new_grown : (header stale : List ℕ) (q : LogFiles R) (size room : ℕ) (content : List ℕ) (file : File) → IsNew F (begun header stale q) file → content ≡ grown room file.content
      → IsNew F (begun header (grown room stale) q) (with_change (GrewTo size) content file)
  new_grown header stale q size room content file is grew = record {
    chain = holds_grown (F.IsFrame q.last header) (length header) (grown room stale) [] [] size content file (chain_longer q.last (length header) header stale (zeros (room - length stale)) [] [] file is.chain);
    is = grew ∙ ap (λ (b : List ℕ). grown room b) is.is;
  }

  pub active_grown : (q : LogFiles R) (size room : ℕ) (content : List ℕ) (file : File) → IsActive F q file → content ≡ grown room file.content → IsActive F (with_room room q) (with_change (GrewTo size) content file)
  active_grown q size room content file is grew =
      let n = length (whole q) in
      record {
        chain = holds_grown (F.IsFrame q.last q.header) (length q.header) (grown room q.stale) q.durable q.pending size content file
            (chain_longer q.last (length q.header) q.header q.stale (zeros (room - length q.stale)) q.durable q.pending file is.chain);
        headed = header_changed q.header (GrewTo size) content file (λ place less touched. touched) is.headed;
        all = grew ∙ ap (λ (b : List ℕ). grown room b) is.all ∙ over_grown (whole q) q.stale room;
      }

  module _ (lawful : IsFormat F) where
    pub active_written : (q : LogFiles R) (w : Written R) (file : File) → F.IsFrame q.last q.header w.bytes w.value → IsActive F q file
        → IsActive F (with_more (w ∷ []) q) (after_change (Wrote (length (whole q)) w.bytes) file)
    active_written q w file framed is =
        let n = length (whole q) in
        let some = frame_filled (F.IsFrame q.last q.header) (lawful.free q.last q.header) w.bytes w.value framed in
        let grew : whole (with_more (w ∷ []) q) ≡ whole q ++ w.bytes = whole_more q (w ∷ []) ∙ ap (λ (b : List ℕ). whole q ++ b) (append-nil w.bytes) in
        record {
          chain = chain_written q w (overwritten n w.bytes file.content) file framed is;
          headed = header_changed q.header (Wrote n w.bytes) (overwritten n w.bytes file.content) file (spares_header q w.bytes) is.headed;
          all = ap (λ (b : List ℕ). overwritten n w.bytes b) is.all ∙ over (whole q) w.bytes q.stale some ∙ ap (λ (b : List ℕ). b ++ drop (length b) q.stale) (sym grew);
        }

    -- behind its header a file that is just a header and records has these
    behind_header : (header bytes : List ℕ) → drop (length header) (header ++ bytes) ≡ bytes
    behind_header header bytes = drop_at header bytes (length header) refl

    -- It is synced.

    pub cut_past : (q : LogFiles R) (more : List (Written R)) (file : File) → F.IsHeader q.header → IsCut F q more file → IsPast F q.last (finished q) (flushed file)
    cut_past q more file header is = record {
      is = ap at_rest is.is;
      header = header;
      frames = frames_front (F.IsFrame q.last q.header) (recent q) more (subst (AreFrames (F.IsFrame q.last q.header)) (sym (append_assoc q.durable q.pending more)) is.chain.frames);
    }

    pub cut_flushed_holds : (q : LogFiles R) (more : List (Written R)) (file : File) → IsCut F q more file → HoldsLast F (with_more more q) (flushed file)
    cut_flushed_holds q more file is =
        let count = length q.pending in
        let kept : kept_records q.durable (q.pending ++ more) count ≡ recent q = ap (λ (ws : List (Written R)). q.durable ++ ws) (take_at q.pending more count refl) in
        let all : drop (length q.header) file.content ≡ spelled (recent q) = ap (λ (b : List ℕ). drop (length q.header) b) is.is ∙ behind_header q.header (spelled (recent q)) in
        record {
          chain = settled_at_least (F.IsFrame q.last q.header) (length q.header) q.stale (lawful.free q.last q.header) q.durable (q.pending ++ more) count file.content is.chain.frames (all ∙ ap spelled (sym kept));
          headed = inl (header_flushed q.header file.content (ap (λ (b : List ℕ). take (length q.header) b) is.is ∙ take_at q.header (spelled (recent q)) (length q.header) refl));
        }

    pub past_settled : (q : LogFiles R) (file : File) → IsPast F q.last (finished q) file → IsActive F (settled q) file
    past_settled q file is =
        let ws = recent q in
        let bytes : List ℕ = q.header ++ spelled ws in
        let same : recent (settled q) ≡ ws = append-nil ws in
        let reads = reads_whole (F.IsFrame q.last q.header) (length q.header) [] (lawful.free q.last q.header) ws bytes is.frames (behind_header q.header (spelled ws)) in
        let content : file.content ≡ bytes = ap (λ (f : File). f.content) is.is in
        record {
          chain = subst (HoldsChain (F.IsFrame q.last q.header) (length q.header) [] ws []) (sym is.is) (holds_read (F.IsFrame q.last q.header) (length q.header) (lawful.free q.last q.header) [] ws bytes reads);
          headed = subst (HeaderStands q.header) (sym is.is) (header_flushed q.header bytes (take_at q.header (spelled ws) (length q.header) refl));
          all = content ∙ sym (ap (λ (vs : List (Written R)). q.header ++ spelled vs) same) ∙ sym (ap (λ (b : List ℕ). whole (settled q) ++ b) (drop-nil (length (whole (settled q)))) ∙ append-nil (whole (settled q)));
        }

    -- a finished file holds its records, whichever of them were durable before
    pub past_holds : (q : LogFiles R) (file : File) → IsPast F q.last (finished q) file → HoldsLast F q file
    past_holds q file is =
        let ws = recent q in
        let bytes : List ℕ = q.header ++ spelled ws in
        let reads = reads_whole (F.IsFrame q.last q.header) (length q.header) q.stale (lawful.free q.last q.header) ws bytes is.frames (behind_header q.header (spelled ws)) in
        record {
          chain = subst (HoldsAtLeast (F.IsFrame q.last q.header) (length q.header) q.stale q.durable q.pending) (sym is.is)
              (all_at_least (F.IsFrame q.last q.header) (length q.header) q.stale q.durable q.pending (at_rest bytes) (holds_read (F.IsFrame q.last q.header) (length q.header) (lawful.free q.last q.header) q.stale ws bytes reads));
          headed = inl (subst (HeaderStands q.header) (sym is.is) (header_flushed q.header bytes (take_at q.header (spelled ws) (length q.header) refl)));
        }

    pub active_flushed : (q : LogFiles R) (file : File) → IsActive F q file → HoldsChain (F.IsFrame q.last q.header) (length q.header) q.stale (recent q) [] (flushed file)
    active_flushed q file is =
        let ws = recent q in
        let n = length (whole q) in
        let back : List ℕ = drop n q.stale in
        let splits : drop (length q.header) file.content ≡ spelled ws ++ back =
        ap (λ (b : List ℕ). drop (length q.header) b) (is.all ∙ append_assoc q.header (spelled ws) back) ∙ behind_header q.header (spelled ws ++ back) in
        let stands : StandsBehind (length q.header + length (spelled ws)) q.stale file.content =
        subst (λ (k : ℕ). StandsBehind k q.stale file.content) (whole_long q) (subst (StandsBehind n q.stale) (sym is.all) (over_stands (whole q) q.stale)) in
        holds_synced (F.IsFrame q.last q.header) (length q.header) (lawful.free q.last q.header) q.stale ws file.content (record { rest = back; splits = splits; frames = is.chain.frames }) stands

    active_header : (q : LogFiles R) (file : File) → IsActive F q file → HeaderStands q.header (flushed file)
    active_header q file is =
        header_flushed q.header file.content (ap (λ (b : List ℕ). take (length q.header) b) (is.all ∙ append_assoc q.header (spelled (recent q)) (drop (length (whole q)) q.stale)) ∙ take_at q.header (spelled (recent q) ++ drop (length (whole q)) q.stale) (length q.header) refl)

    pub active_synced : (q : LogFiles R) (file : File) → IsActive F q file → IsActive F (synced q) (flushed file)
    active_synced q file is =
        let same : whole (synced q) ≡ whole q = ap (λ (vs : List (Written R)). q.header ++ spelled vs) (append-nil (recent q)) in
        record {
          chain = active_flushed q file is;
          headed = active_header q file is;
          all = is.all ∙ ap (λ (b : List ℕ). b ++ drop (length b) q.stale) (sym same);
        }

    pub active_flushed_holds : (q : LogFiles R) (file : File) → IsActive F q file → HoldsLast F q (flushed file)
    active_flushed_holds q file is = record {
      chain = all_at_least (F.IsFrame q.last q.header) (length q.header) q.stale q.durable q.pending (flushed file) (active_flushed q file is);
      headed = inl (active_header q file is);
    }

    pub headed_synced : (header stale : List ℕ) (q : LogFiles R) (file : File) → IsHeaded F (begun header stale q) file → IsActive F (begun header stale q) (flushed file)
    headed_synced header stale q file is =
        let n = length header in
        let back : List ℕ = drop n stale in
        let same : header ++ [] ≡ header = append-nil header in
        record {
          chain = holds_synced (F.IsFrame q.last header) n (lawful.free q.last header) stale [] file.content (record { rest = drop n file.content; splits = refl; frames = tt })
              (subst (λ (k : ℕ). StandsBehind k stale file.content) (let long : n ≡ n + 0 = omega arith in long) (subst (StandsBehind n stale) (sym is.is) (over_stands header stale)));
          headed = header_flushed header file.content (ap (λ (b : List ℕ). take n b) is.is ∙ take_at header back n refl);
          all = is.is ∙ ap (λ (b : List ℕ). b ++ drop (length b) stale) (sym same);
        }

    pub headed_flushed_holds : (header stale : List ℕ) (q : LogFiles R) (file : File) → IsHeaded F (begun header stale q) file → HoldsLast F (begun header stale q) (flushed file)
    headed_flushed_holds header stale q file is = active_holds (begun header stale q) (flushed file) (headed_synced header stale q file is)

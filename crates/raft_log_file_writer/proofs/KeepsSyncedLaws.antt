-- How a file keeps its chain of records through calls, and what follows for what a stop leaves.
use Rattle.std.specs.List.{All, Contains}
use Rattle.std.proofs.Common.{Option, Some, ◌≡◌, ◌⊎◌, ℕ, ◌+◌, ◌-◌, ◌<◌, ◌≤◌, List, [], ◌∷◌, ◌++◌, length, take, drop, get_or, refl, sym, ◌∙◌, ap, subst, inl, inr, arith, length-append, length-drop}
use Rattle.std.proofs.Math.Seq.{take-nil, drop-nil}
use Rattle.std.proofs.lemmas.List.{append-nil, append_assoc, drop-drop, drop-take, drop_at, ext_get_or, get_or-drop, get_or-take, length-take-le, nil_from_length, take-append-drop, take-take, take_at}
use Rattle.std.proofs.lemmas.Bool.{cases_lt}
use Rattle.std.proofs.lemmas.List.Prefix.{at_from_reads, at_reads}
use Rattle.std.proofs.lemmas.List.Elements.{All-nil, All-push, Contains-push_cases}
use Rattle.raft_log_fs.specs.Disk.{Change, Disk, Wrote, ShortenedTo, GrewTo, File, at_rest}
use Rattle.raft_log_fs.specs.Image.{IsFileImage, IsImage, IsLeft, Spares}
use Rattle.raft_log_fs.specs.Calls.{with_change}
use Rattle.raft_log_file_writer.specs.LawsChains.{Written, IsSelfDelimiting, spelled, AreFrames, BeginsWith, Reads, Meets, LiesIn, HoldsNoFrame}
use Rattle.raft_log_file_writer.proofs.LawsChainLaws.{follows_chain, same_head, frame_filled, frames_append, frames_back, frames_front, lies_in_more, lies_within, reads_begin, reads_further, spelled-append}
use Rattle.raft_log_file_writer.specs.KeepsSynced.WasWritten.{handed_in, own_record, synced_there}
use Rattle.raft_log_file_writer.specs.KeepsSynced.{IsStale, HoldsAtLeast, NoChanceMatch, HoldsChain, KeepsSynced, StandsBehind, ChainGoesOn, ChainAtRest}

-- what is left of a file, by the image of the disk
pub left_of_image : (d image : Disk) (id : ℕ) (file after : File) → IsImage d image → d.files id ≡ Some file → image.files id ≡ Some after → (bytes : List ℕ) × (after ≡ at_rest bytes) × IsLeft file bytes
left_of_image d image id file after is here there = subst (λ (o : Option File). IsFileImage (Some file) o) there (subst (λ (o : Option File). IsFileImage o (image.files id)) here (is.files id))

-- the front of two lists, beyond the first
pub take_over : {X : Type 0} (xs ys : List X) (n : ℕ) → take (length xs + n) (xs ++ ys) ≡ xs ++ take n ys
take_over {X} xs ys n =
    let m = length xs in
    let front : take m (take (m + n) (xs ++ ys)) ≡ xs = take-take m (m + n) (xs ++ ys) (omega arith) ∙ take_at xs ys m refl in
    let back : drop m (take (m + n) (xs ++ ys)) ≡ take n ys = drop-take m n (xs ++ ys) ∙ ap (λ (zs : List X). take n zs) (drop_at xs ys m refl) in
    sym (take-append-drop m (take (m + n) (xs ++ ys))) ∙ ap (λ (zs : List X). zs ++ drop m (take (m + n) (xs ++ ys))) front ∙ ap (λ (zs : List X). xs ++ zs) back

-- a part of the synced bytes that no change touches stays
pub left_keeps_part : (from size : ℕ) (file : File) (bytes : List ℕ) → from + size ≤ length file.synced → ((place : ℕ) → from ≤ place → place < from + size → All (Spares place) file.changes)
    → IsLeft file bytes → take size (drop from bytes) ≡ take size (drop from file.synced)
left_keeps_part from size file bytes inside spared left =
    let s = file.synced in
    let kept : (i : ℕ) → i < size → (from + i < length bytes) × (get_or bytes (from + i) 0 ≡ get_or s (from + i) 0) = λ i less.
    left.kept (from + i) (omega arith) (spared (from + i) (omega arith) (omega arith)) in
    let room : size ≤ length (drop from bytes) = elim (cases_lt 0 size) [
      | inl some ↦ (let last = kept (size - 1) (omega arith) in omega (arith, last.0, length-drop from bytes))
      | inr none ↦ omega arith
    ] in
    let room_s : size ≤ length (drop from s) = omega (arith, length-drop from s) in
    let long = length-take-le size (drop from bytes) room in
    let long_s = length-take-le size (drop from s) room_s in
    ext_get_or 0 (take size (drop from bytes)) (take size (drop from s)) (long ∙ sym long_s) (λ i less.
    (let below : i < size = omega arith in
    get_or-take size (drop from bytes) i 0 below ∙ get_or-drop from bytes i 0 ∙ (kept i below).1 ∙ sym (get_or-drop from s i 0) ∙ sym (get_or-take size (drop from s) i 0 below)))

-- what reading meets stands at its place
pub met_stands : {R : Type 0} (IsFrame : List ℕ → R → Type 0) (start at : ℕ) (w : Written R) (bytes : List ℕ) → Meets IsFrame start at w bytes → IsStale bytes at w.bytes
met_stands IsFrame start at w bytes meets =
    let before = spelled meets.before in
    let rest = meets.begins.rest in
    let tail : drop start bytes ≡ before ++ (w.bytes ++ rest) =
    meets.begins.splits ∙ ap (λ (b : List ℕ). b ++ rest) (spelled-append meets.before (w ∷ []) ∙ ap (λ (b : List ℕ). before ++ b) (append-nil w.bytes)) ∙ append_assoc before w.bytes rest in
    let here : drop at bytes ≡ w.bytes ++ rest =
    ap (λ (n : ℕ). drop n bytes) meets.place ∙ sym (drop-drop (length before) start bytes) ∙ ap (λ (b : List ℕ). drop (length before) b) tail ∙ drop_at before (w.bytes ++ rest) (length before) refl in
    ap (λ (b : List ℕ). take (length w.bytes) b) here ∙ take_at w.bytes rest (length w.bytes) refl

-- of no bytes nothing is stale that has bytes
pub none_stale : (at : ℕ) (bytes : List ℕ) → 0 < length bytes → IsStale [] at bytes → ⊥
none_stale at bytes some stale =
    let none : bytes ≡ [] = sym stale ∙ ap (λ (b : List ℕ). take (length bytes) b) (drop-nil at) ∙ take-nil (length bytes) in
    omega (arith, ap length none, some)

module _ {R : Type 0} (IsFrame : List ℕ → R → Type 0) (start : ℕ) where
  -- a record that is in the chain lies there
  pub record_lies : (all before more : List (Written R)) (w : Written R) → all ≡ (before ++ w ∷ []) ++ more → LiesIn start (spelled all) (start + length (spelled before)) w.bytes
  record_lies all before more w e = record {
    ahead = spelled before;
    behind = spelled more;
    splits = ap spelled e ∙ spelled-append (before ++ w ∷ []) more ∙ ap (λ (b : List ℕ). b ++ spelled more) (spelled-append before (w ∷ []) ∙ ap (λ (b : List ℕ). spelled before ++ b) (append-nil w.bytes))
        ∙ append_assoc (spelled before) w.bytes (spelled more);
    place = refl;
  }

  -- what lies in a part of the chain lies in it
  lies_longer : (vs ws : List (Written R)) (all : List (Written R)) (at : ℕ) (bytes : List ℕ) → vs ++ ws ≡ all → LiesIn start (spelled vs) at bytes → LiesIn start (spelled all) at bytes
  lies_longer vs ws all at bytes is inside =
      subst (λ (x : List ℕ). LiesIn start x at bytes) (sym (spelled-append vs ws) ∙ ap spelled is) (lies_in_more start at (spelled vs) (spelled ws) bytes inside)

  -- whatever a stop leaves begins with the durable records
  pub left_begins : (stale : List ℕ) (durable pending : List (Written R)) (file : File) (bytes : List ℕ) → HoldsChain IsFrame start stale durable pending file → IsLeft file bytes
      → BeginsWith IsFrame start durable bytes
  left_begins stale durable pending file bytes holds left =
      let p = spelled durable in
      let s = file.synced in
      let synced = holds.synced in
      let frames = frames_front IsFrame durable pending holds.frames in
      let long : (i : ℕ) → i < length p → start + i < length s = λ i less.
      omega (arith, ap length synced.splits, length-append p synced.rest, length-drop start s) in
      let kept : (i : ℕ) → i < length p → (start + i < length bytes) × (get_or bytes (start + i) 0 ≡ get_or s (start + i) 0) = λ i less.
      left.kept (start + i) (long i less) (holds.spared (start + i) (omega arith) (omega arith)) in
      let reads : (i : ℕ) → i < length p → get_or bytes (start + i) 0 ≡ get_or p i 0 = λ i less.
      (kept i less).1 ∙ at_reads 0 s p start synced.rest synced.splits i less in
      elim (cases_lt 0 (length p)) [
        | inl some ↦
            (let fits : start + length p ≤ length bytes = omega (arith, (kept (length p - 1) (omega arith)).0) in
            record { rest = drop (start + length p) bytes; splits = at_from_reads 0 bytes p start fits reads; frames = frames })
        | inr none ↦ record { rest = drop start bytes; splits = sym (ap (λ (b : List ℕ). b ++ drop start bytes) (nil_from_length p (omega arith))); frames = frames }
      ]

  -- a record met in front of what follows a chain is one of it, or lies behind it
  met_or_behind : IsSelfDelimiting IsFrame → (ws before : List (Written R)) (w : Written R) (x y : List ℕ) → AreFrames IsFrame ws → AreFrames IsFrame before → IsFrame w.bytes w.value
      → spelled before ++ (w.bytes ++ x) ≡ spelled ws ++ y → ((more : List (Written R)) × (ws ≡ (before ++ w ∷ []) ++ more)) ⊎ (length (spelled ws) ≤ length (spelled before))
  met_or_behind free [] before w x y g h framed e = inr (omega arith)
  met_or_behind free (v ∷ vs) [] w x y g h framed e =
      let head = same_head IsFrame free w v x (spelled vs ++ y) framed g.0 (e ∙ append_assoc v.bytes (spelled vs) y) in
      inl (vs, ap (λ (u : Written R). u ∷ vs) (sym head.0))
  met_or_behind free (v ∷ vs) (b ∷ bs) w x y g h framed e =
      let head = same_head IsFrame free b v (spelled bs ++ (w.bytes ++ x)) (spelled vs ++ y) h.0 g.0
      (sym (append_assoc b.bytes (spelled bs) (w.bytes ++ x)) ∙ e ∙ append_assoc v.bytes (spelled vs) y) in
      elim (met_or_behind free vs bs w x y g.1 h.1 framed head.1) [
        | inl (more, is) ↦ inl (more, (λ i. (sym head.0) i ∷ is i))
        | inr less ↦ inr (omega (arith, less, ap (λ (u : Written R). length u.bytes) head.0, length-append v.bytes (spelled vs), length-append b.bytes (spelled bs)))
      ]

  module _ (free : IsSelfDelimiting IsFrame) (stale : List ℕ) (durable pending : List (Written R)) (file : File) where
    -- what reading meets lies in the chain, if no checksum is met by chance
    met_in_chain : (bytes : List ℕ) → HoldsChain IsFrame start stale durable pending file → NoChanceMatch IsFrame start stale (spelled (durable ++ pending)) file bytes
        → (at : ℕ) (w : Written R) → Meets IsFrame start at w bytes → LiesIn start (spelled (durable ++ pending)) at w.bytes
    met_in_chain bytes holds chance at w meets =
        let framed = frames_back IsFrame meets.before (w ∷ []) meets.begins.frames in
        let filled = frame_filled IsFrame free w.bytes w.value framed.0 in
        elim (chance at w meets) [
          | own_record inside ↦ inside
          | synced_there there fresh ↦ elim (holds.others at w there) [
            | inl old ↦ absurd (fresh old)
            | inr inside ↦ lies_longer durable pending (durable ++ pending) at w.bytes refl inside
          ]
          | handed_in handed ↦
              (let inside = handed.inside in
              let sizes = ap length inside.splits in
              elim (holds.handed handed.from handed.all handed.is) [
                | inl front ↦ absurd (omega (arith, front, inside.place, meets.place, length-append inside.ahead (w.bytes ++ inside.behind), length-append w.bytes inside.behind))
                | inr (inl part) ↦ lies_within start handed.from at (spelled (durable ++ pending)) handed.all w.bytes part inside
                | inr (inr blank) ↦ absurd (blank inside.ahead w.bytes inside.behind w.value inside.splits framed.0)
              ])
        ]

    -- synced records are kept
    pub keeps_synced : HoldsChain IsFrame start stale durable pending file → KeepsSynced IsFrame start stale durable pending file
    keeps_synced holds bytes left chance ws reads =
        let begins = left_begins stale durable pending file bytes holds left in
        let more = reads_further IsFrame free start durable ws bytes begins reads in
        let all = subst (λ (vs : List (Written R)). BeginsWith IsFrame start vs bytes) more.1 (reads_begin IsFrame start ws bytes reads) in
        let kept = follows_chain IsFrame free (durable ++ pending) durable pending more.0 start bytes holds.frames refl all (met_in_chain bytes holds chance) in
        (kept.0, kept.1, more.1 ∙ ap (λ (vs : List (Written R)). durable ++ vs) kept.2)

    -- and also those that are durable beyond the ones that are claimed
    pub keeps_more : (more rest : List (Written R)) → pending ≡ more ++ rest → KeepsSynced IsFrame start stale (durable ++ more) rest file → KeepsSynced IsFrame start stale durable pending file
    keeps_more more rest splits keeps bytes left chance ws reads =
        let all : durable ++ pending ≡ (durable ++ more) ++ rest = ap (λ (vs : List (Written R)). durable ++ vs) splits ∙ sym (append_assoc durable more rest) in
        let kept = keeps bytes left (subst (λ (vs : List (Written R)). NoChanceMatch IsFrame start stale (spelled vs) file bytes) all chance) ws reads in
        let count = length more + kept.0 in
        let front : take count pending ≡ more ++ take kept.0 rest = ap (λ (vs : List (Written R)). take count vs) splits ∙ take_over more rest kept.0 in
        (count, omega (arith, kept.1, ap length splits, length-append more rest), kept.2 ∙ append_assoc durable more (take kept.0 rest) ∙ ap (λ (vs : List (Written R)). durable ++ vs) (sym front))

  -- the same, of a file that holds at least these
  pub at_least_keeps : (stale : List ℕ) (durable pending : List (Written R)) (file : File) → IsSelfDelimiting IsFrame → HoldsAtLeast IsFrame start stale durable pending file
      → KeepsSynced IsFrame start stale durable pending file
  at_least_keeps stale durable pending file free least =
      keeps_more free stale durable pending file least.more least.rest least.splits (keeps_synced free stale (durable ++ least.more) least.rest file least.holds)

  -- the durable records are read first, with no premise
  pub durable_is_read : (stale : List ℕ) (durable pending : List (Written R)) (file : File) (bytes : List ℕ) → IsSelfDelimiting IsFrame → HoldsAtLeast IsFrame start stale durable pending file
      → IsLeft file bytes → (ws : List (Written R)) → Reads IsFrame start ws bytes → (more : List (Written R)) × (ws ≡ durable ++ more)
  durable_is_read stale durable pending file bytes free least left ws reads =
      let begins = left_begins stale (durable ++ least.more) least.rest file bytes least.holds left in
      let (more, same) = reads_further IsFrame free start (durable ++ least.more) ws bytes begins reads in
      (least.more ++ more, same ∙ append_assoc durable least.more more)

  -- just these are at least these
  pub holds_at_least : (stale : List ℕ) (durable pending : List (Written R)) (file : File) → HoldsChain IsFrame start stale durable pending file → HoldsAtLeast IsFrame start stale durable pending file
  holds_at_least stale durable pending file holds = record {
    more = [];
    rest = pending;
    splits = refl;
    holds = subst (λ (vs : List (Written R)). HoldsChain IsFrame start stale vs pending file) (sym (append-nil durable)) holds;
  }

  -- and so are all of them
  pub all_at_least : (stale : List ℕ) (durable pending : List (Written R)) (file : File) → HoldsChain IsFrame start stale (durable ++ pending) [] file → HoldsAtLeast IsFrame start stale durable pending file
  all_at_least stale durable pending file holds = record { more = pending; rest = []; splits = sym (append-nil pending); holds = holds }

  -- a change that spares the durable records, and of which a write writes what belongs there
  pub holds_changed : (stale : List ℕ) (durable pending more next : List (Written R)) (change : Change) (content : List ℕ) (file : File) → AreFrames IsFrame more → pending ++ more ≡ next
      → ((place : ℕ) → start ≤ place → place < start + length (spelled durable) → Spares place change)
      → ((at : ℕ) (bytes : List ℕ) → change ≡ Wrote at bytes → (at + length bytes ≤ start) ⊎ (LiesIn start (spelled (durable ++ next)) at bytes ⊎ HoldsNoFrame IsFrame bytes))
      → HoldsChain IsFrame start stale durable pending file → HoldsChain IsFrame start stale durable next (with_change change content file)
  holds_changed stale durable pending more next change content file framed is spares belongs holds =
      let step : (durable ++ pending) ++ more ≡ durable ++ next = append_assoc durable pending more ∙ ap (λ (vs : List (Written R)). durable ++ vs) is in
      record {
        frames = subst (AreFrames IsFrame) step (frames_append IsFrame (durable ++ pending) more holds.frames framed);
        synced = holds.synced;
        others = holds.others;
        spared = λ place from less. All-push (Spares place) file.changes change (holds.spared place from less) (spares place from less);
        handed = λ n bs within. elim (Contains-push_cases file.changes change (Wrote n bs) within) [
          | inl old ↦ elim (holds.handed n bs old) [
            | inl front ↦ inl front
            | inr (inl part) ↦ inr (inl (lies_longer (durable ++ pending) more (durable ++ next) n bs step part))
            | inr (inr blank) ↦ inr (inr blank)
          ]
          | inr new ↦ belongs n bs new
        ];
      }

  -- a record written behind the chain is the last pending one, whatever of it landed
  pub holds_written : (stale : List ℕ) (durable pending : List (Written R)) (w : Written R) (content : List ℕ) (file : File) → IsFrame w.bytes w.value → HoldsChain IsFrame start stale durable pending file
      → HoldsChain IsFrame start stale durable (pending ++ w ∷ []) (with_change (Wrote (start + length (spelled (durable ++ pending))) w.bytes) content file)
  holds_written stale durable pending w content file framed holds =
      let all = durable ++ pending in
      let at = start + length (spelled all) in
      let last : LiesIn start (spelled (durable ++ (pending ++ w ∷ []))) at w.bytes =
      record_lies (durable ++ (pending ++ w ∷ [])) all [] w (sym (append_assoc durable pending (w ∷ [])) ∙ sym (append-nil (all ++ w ∷ []))) in
      holds_changed stale durable pending (w ∷ []) (pending ++ w ∷ []) (Wrote at w.bytes) content file (framed, tt) refl
      (λ place from less touched. omega (arith, touched.0, ap length (spelled-append durable pending), length-append (spelled durable) (spelled pending)))
      (λ n bs new.
      (let place : at ≡ n = cc in
      let same : w.bytes ≡ bs = cc in
      inr (inl (subst (λ (k : ℕ). LiesIn start (spelled (durable ++ (pending ++ w ∷ []))) k bs) place (subst (λ (b : List ℕ). LiesIn start (spelled (durable ++ (pending ++ w ∷ []))) at b) same last)))))
      holds

  -- records may be counted as pending before they are written
  pub holds_more : (stale : List ℕ) (durable pending more : List (Written R)) (file : File) → AreFrames IsFrame more → HoldsChain IsFrame start stale durable pending file
      → HoldsChain IsFrame start stale durable (pending ++ more) file
  holds_more stale durable pending more file framed holds =
      let step : (durable ++ pending) ++ more ≡ durable ++ (pending ++ more) = append_assoc durable pending more in
      record {
        frames = subst (AreFrames IsFrame) step (frames_append IsFrame (durable ++ pending) more holds.frames framed);
        synced = holds.synced;
        others = holds.others;
        spared = holds.spared;
        handed = λ n bs within. elim (holds.handed n bs within) [
          | inl front ↦ inl front
          | inr (inl part) ↦ inr (inl (lies_longer (durable ++ pending) more (durable ++ (pending ++ more)) n bs step part))
          | inr (inr blank) ↦ inr (inr blank)
        ];
      }

  -- shortening behind the durable records touches none of them
  pub holds_shortened : (stale : List ℕ) (durable pending : List (Written R)) (size : ℕ) (content : List ℕ) (file : File) → start + length (spelled durable) ≤ size → HoldsChain IsFrame start stale durable pending file
      → HoldsChain IsFrame start stale durable pending (with_change (ShortenedTo size) content file)
  holds_shortened stale durable pending size content file behind =
      holds_changed stale durable pending [] pending (ShortenedTo size) content file tt (append-nil pending) (λ place from less touched. omega (arith, touched, behind)) (λ n bs new. cc)

  -- nor does a growth
  pub holds_grown : (stale : List ℕ) (durable pending : List (Written R)) (size : ℕ) (content : List ℕ) (file : File) → HoldsChain IsFrame start stale durable pending file
      → HoldsChain IsFrame start stale durable pending (with_change (GrewTo size) content file)
  holds_grown stale durable pending size content file =
      holds_changed stale durable pending [] pending (GrewTo size) content file tt (append-nil pending) (λ place from less touched. touched) (λ n bs new. cc)

  -- nor does a write that lies in front of the chain
  pub holds_in_front : (stale : List ℕ) (durable pending : List (Written R)) (at : ℕ) (bytes content : List ℕ) (file : File) → at + length bytes ≤ start → HoldsChain IsFrame start stale durable pending file
      → HoldsChain IsFrame start stale durable pending (with_change (Wrote at bytes) content file)
  holds_in_front stale durable pending at bytes content file front =
      holds_changed stale durable pending [] pending (Wrote at bytes) content file tt (append-nil pending) (λ place from less touched. omega (arith, touched.1, front))
      (λ n bs new.
      (let place : at ≡ n = cc in
      let same : bytes ≡ bs = cc in
      inl (omega (arith, ap length same))))

  -- nor does one that holds no record
  pub holds_blank : (stale : List ℕ) (durable pending : List (Written R)) (at : ℕ) (bytes content : List ℕ) (file : File) → start + length (spelled durable) ≤ at → HoldsNoFrame IsFrame bytes
      → HoldsChain IsFrame start stale durable pending file → HoldsChain IsFrame start stale durable pending (with_change (Wrote at bytes) content file)
  holds_blank stale durable pending at bytes content file behind blank =
      holds_changed stale durable pending [] pending (Wrote at bytes) content file tt (append-nil pending) (λ place from less touched. omega (arith, touched.0, behind))
      (λ n bs new. (let same : bytes ≡ bs = cc in inr (inr (subst (HoldsNoFrame IsFrame) same blank))))

  -- a file at rest holds the records that it begins with, where all else that reading it meets is stale
  at_rest_holds : (stale : List ℕ) (ws : List (Written R)) (bytes : List ℕ) → BeginsWith IsFrame start ws bytes
      → ((at : ℕ) (w : Written R) → Meets IsFrame start at w bytes → IsStale stale at w.bytes ⊎ LiesIn start (spelled ws) at w.bytes) → HoldsChain IsFrame start stale ws [] (at_rest bytes)
  at_rest_holds stale ws bytes begins others = record {
    frames = subst (AreFrames IsFrame) (sym (append-nil ws)) begins.frames;
    synced = begins;
    others = others;
    spared = λ place _ _. All-nil (Spares place);
    handed = λ n bs within. absurd (omega (arith, within.1));
  }

  -- of a file that is used again nothing was written under its new number
  pub holds_used_again : (bytes : List ℕ) → HoldsChain IsFrame start bytes [] [] (at_rest bytes)
  holds_used_again bytes = at_rest_holds bytes [] bytes (record { rest = drop start bytes; splits = refl; frames = tt }) (λ at w meets. inl (met_stands IsFrame start at w bytes meets))

  -- a file in which no record stands, synced or not
  pub holds_prefilled : (stale : List ℕ) (file : File) → HoldsNoFrame IsFrame file.synced → ((at : ℕ) (bytes : List ℕ) → Contains file.changes (Wrote at bytes) → HoldsNoFrame IsFrame bytes)
      → HoldsChain IsFrame start stale [] [] file
  holds_prefilled stale file blank writes = record {
    frames = tt;
    synced = record { rest = drop start file.synced; splits = refl; frames = tt };
    others = λ at w meets.
        (let front = take start file.synced in
        let before = spelled meets.before in
        let rest = meets.begins.rest in
        let tail : drop start file.synced ≡ before ++ (w.bytes ++ rest) =
        meets.begins.splits ∙ ap (λ (b : List ℕ). b ++ rest) (spelled-append meets.before (w ∷ []) ∙ ap (λ (b : List ℕ). before ++ b) (append-nil w.bytes)) ∙ append_assoc before w.bytes rest in
        let whole : file.synced ≡ (front ++ before) ++ (w.bytes ++ rest) =
        sym (take-append-drop start file.synced) ∙ ap (λ (b : List ℕ). front ++ b) tail ∙ sym (append_assoc front before (w.bytes ++ rest)) in
        absurd (blank (front ++ before) w.bytes rest w.value whole (frames_back IsFrame meets.before (w ∷ []) meets.begins.frames).0));
    spared = λ place from less. absurd (omega (arith, from, less));
    handed = λ at bytes is. inr (inr (writes at bytes is));
  }

  module _ (free : IsSelfDelimiting IsFrame) where
    -- a file at rest holds what is read of it, after a sync or a restart
    pub holds_read : (stale : List ℕ) (ws : List (Written R)) (bytes : List ℕ) → Reads IsFrame start ws bytes → HoldsChain IsFrame start stale ws [] (at_rest bytes)
    holds_read stale ws bytes reads = at_rest_holds stale ws bytes (reads_begin IsFrame start ws bytes reads) (λ at w meets.
        (let more = reads_further IsFrame free start (meets.before ++ w ∷ []) ws bytes meets.begins reads in
        inr (subst (λ (n : ℕ). LiesIn start (spelled ws) n w.bytes) (sym meets.place) (record_lies ws meets.before more.0 w more.1))))

    -- what stands behind a place, and stood there before, is stale
    behind_stale : (stale : List ℕ) (from at : ℕ) (w bytes : List ℕ) → from ≤ at → at + length w ≤ length bytes → StandsBehind from stale bytes → IsStale bytes at w → IsStale stale at w
    behind_stale stale from at w bytes below fits stands is =
        let here : (i : ℕ) → i < length w → get_or w i 0 ≡ get_or bytes (at + i) 0 = λ i less.
        ap (λ (b : List ℕ). get_or b i 0) (sym is) ∙ get_or-take (length w) (drop at bytes) i 0 less ∙ get_or-drop at bytes i 0 in
        let same : (i : ℕ) → i < length w → (at + i < length stale) × (get_or bytes (at + i) 0 ≡ get_or stale (at + i) 0) = λ i less. stands (at + i) (omega arith) (omega arith) in
        let room : length w ≤ length (drop at stale) = elim (cases_lt 0 (length w)) [
          | inl some ↦ (let last = same (length w - 1) (omega arith) in omega (arith, last.0, length-drop at stale))
          | inr none ↦ omega arith
        ] in
        let long = length-take-le (length w) (drop at stale) room in
        ext_get_or 0 (take (length w) (drop at stale)) w long (λ i less.
        (let under : i < length w = omega (arith, less, long) in
        get_or-take (length w) (drop at stale) i 0 under ∙ get_or-drop at stale i 0 ∙ sym (same i under).1 ∙ sym (here i under)))

    -- a chain that was written over stale bytes, and synced
    pub holds_synced : (stale : List ℕ) (ws : List (Written R)) (bytes : List ℕ) → BeginsWith IsFrame start ws bytes → StandsBehind (start + length (spelled ws)) stale bytes
        → HoldsChain IsFrame start stale ws [] (at_rest bytes)
    holds_synced stale ws bytes begins stands = at_rest_holds stale ws bytes begins (λ at w meets.
        (let before = meets.before in
        let framed = frames_back IsFrame before (w ∷ []) meets.begins.frames in
        let whole : spelled (before ++ w ∷ []) ≡ spelled before ++ w.bytes = spelled-append before (w ∷ []) ∙ ap (λ (b : List ℕ). spelled before ++ b) (append-nil w.bytes) in
        let splits : drop start bytes ≡ spelled before ++ (w.bytes ++ meets.begins.rest) =
        meets.begins.splits ∙ ap (λ (b : List ℕ). b ++ meets.begins.rest) whole ∙ append_assoc (spelled before) w.bytes meets.begins.rest in
        let filled = frame_filled IsFrame free w.bytes w.value framed.0 in
        let fits : at + length w.bytes ≤ length bytes =
        omega (arith, meets.place, filled, ap length splits, length-drop start bytes, length-append (spelled before) (w.bytes ++ meets.begins.rest), length-append w.bytes meets.begins.rest) in
        elim (met_or_behind free ws before w meets.begins.rest begins.rest begins.frames (frames_front IsFrame before (w ∷ []) meets.begins.frames) framed.0 (sym splits ∙ begins.splits)) [
          | inl (more, is) ↦ inr (subst (λ (n : ℕ). LiesIn start (spelled ws) n w.bytes) (sym meets.place) (record_lies ws before more w is))
          | inr less ↦ inl (behind_stale stale (start + length (spelled ws)) at w.bytes bytes (omega (arith, meets.place, less)) fits stands (met_stands IsFrame start at w bytes meets))
        ]))

module _ {R : Type 0} (IsFrame : List ℕ → R → Type 0) where
  pub chain_goes_on : ChainGoesOn IsFrame
  chain_goes_on start stale durable pending file content holds = record {
    written = λ w framed. holds_written IsFrame start stale durable pending w content file framed holds;
    to_be_written = λ more framed. holds_more IsFrame start stale durable pending more file framed holds;
    shortened = λ size behind. holds_shortened IsFrame start stale durable pending size content file behind holds;
    grown = λ size. holds_grown IsFrame start stale durable pending size content file holds;
    in_front = λ at bytes front. holds_in_front IsFrame start stale durable pending at bytes content file front holds;
    blank = λ at bytes behind none. holds_blank IsFrame start stale durable pending at bytes content file behind none holds;
  }

  pub chain_at_rest : IsSelfDelimiting IsFrame → (start : ℕ) → ChainAtRest IsFrame start
  chain_at_rest free start = record { used_again = holds_used_again IsFrame start; read = holds_read IsFrame start free; synced = holds_synced IsFrame start free; prefilled = holds_prefilled IsFrame start }

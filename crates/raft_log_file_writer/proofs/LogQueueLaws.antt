-- A log of several files keeps its synced records, and goes through a restart.
use Rattle.std.proofs.Common.{◌≡◌, ℕ, ◌+◌, ◌-◌, ◌<◌, ◌≤◌, zero, suc, Option, Some, None, List, [], ◌∷◌, ◌++◌, length, take, drop, refl, sym, ◌∙◌, ap, subst, inl, inr, arith}
use Rattle.std.proofs.lemmas.List.{append-nil, drop_at, take-append-drop, take_all, length-take}
use Rattle.raft_log_fs.specs.Disk.{File, Disk, at_rest}
use Rattle.raft_log_fs.specs.Image.{IsLeft, IsFileImage, IsImage, IsSound}
use Rattle.raft_log_file_writer.specs.LawsChains.{Written, spelled, Reads}
use Rattle.raft_log_file_writer.specs.KeepsSynced.{kept_records, AreKept}
use Rattle.raft_log_file_writer.specs.LogFormat.{Format, IsFormat, CanTellFormat, HasHeader, ReadsFile, NoChanceInFile}
use Rattle.raft_log_file_writer.specs.LogQueue.{Past, LogFiles, recent, kept_to, HeaderStands, HoldsLast, IsPast, IsLeftover, HasNumbered, IsThere, IsAbsent, HasLogFiles, Found, ReadsNamed, ReadsFiles, past_from, NoChanceInLast, KeepsLast, KeepsQueue, EndsInOnePlace, QueueIsKept, QueueIsReadable, QueueRestarts, RotatedHoldsNothing, Anything}
use Rattle.raft_log_fs.specs.Touching.{HasFile}
use Rattle.raft_log_fs.proofs.Public.{image_is_sound, left_at_rest, only_at_rest, same_file, some_file}
use Rattle.raft_log_file_writer.proofs.LawsChainLaws.{reads_unique, reads_some}
use Rattle.raft_log_file_writer.proofs.KeepsSyncedLaws.{left_of_image, left_keeps_part, at_least_keeps, holds_at_least, holds_used_again}
use Rattle.raft_log_file_writer.proofs.CrashExampleLaws.{synced_file_has_no_chance}
use Rattle.raft_log_file_writer.proofs.ShorteningLaws.{reads_whole}

front_nil : {X : Type 0} (xs ys : List X) → xs ++ ys ≡ [] → xs ≡ []
front_nil [] ys e = refl
front_nil (x ∷ xs) ys e = cc e

-- two lists that are one end in one element
last_of : {X : Type 0} (xs ys : List X) (x y : X) → xs ++ x ∷ [] ≡ ys ++ y ∷ [] → x ≡ y
last_of [] [] x y e = cc e
last_of [] (b ∷ []) x y e = cc e
last_of [] (b ∷ (c ∷ ys)) x y e = cc e
last_of (a ∷ []) [] x y e = cc e
last_of (a ∷ (c ∷ xs)) [] x y e = cc e
last_of (a ∷ xs) (b ∷ ys) x y e = last_of xs ys x y (cc e)

-- a file that is there is there in an image
there : (file : File) (o : Option File) → IsFileImage (Some file) o → (after : File) × (o ≡ Some after)
there file None none = absurd none
there file (Some after) left = (after, refl)

pub image_there : (d image : Disk) (id : ℕ) (file : File) → IsImage d image → d.files id ≡ Some file → (after : File) × (image.files id ≡ Some after)
image_there d image id file is here = there file (image.files id) (subst (λ (o : Option File). IsFileImage o (image.files id)) here (is.files id))

-- and one that is at rest is as it was
rest_image : (d image : Disk) (id : ℕ) (bytes : List ℕ) → IsImage d image → d.files id ≡ Some (at_rest bytes) → image.files id ≡ Some (at_rest bytes)
rest_image d image id bytes is here =
    let (after, at) = image_there d image id (at_rest bytes) is here in
    let (left, same, stands) = left_of_image d image id (at_rest bytes) after is here at in
    at ∙ ap Some (same ∙ ap at_rest (only_at_rest (at_rest bytes) left refl stands))

module _ {R : Type 0} (F : Format R) (lawful : IsFormat F) where
  one_header : (a b bytes : List ℕ) → HasHeader F a bytes → HasHeader F b bytes → a ≡ b
  one_header a b bytes x y = lawful.headers a b x.rest y.rest x.is y.is (sym x.splits ∙ y.splits)

  -- what is read behind a header
  reads_behind : (n : ℕ) (header : List ℕ) (ws : List (Written R)) (bytes : List ℕ) → HasHeader F header bytes → ReadsFile F n ws bytes → Reads (F.IsFrame n header) (length header) ws bytes
  reads_behind n header ws bytes has (inl (none, no_header)) = absurd (no_header header has)
  reads_behind n header ws bytes has (inr (other, has_other, reads)) = subst (λ (h : List ℕ). Reads (F.IsFrame n h) (length h) ws bytes) (one_header other header bytes has_other has) reads

  -- a file is read in one way
  reads_once : (n : ℕ) (vs ws : List (Written R)) (bytes : List ℕ) → ReadsFile F n vs bytes → ReadsFile F n ws bytes → ws ≡ vs
  reads_once n vs ws bytes (inl (none, no_header)) (inl (none_too, nor_header)) = none_too ∙ sym none
  reads_once n vs ws bytes (inl (none, no_header)) (inr (header, has, reads)) = absurd (no_header header has)
  reads_once n vs ws bytes (inr (header, has, reads)) other = reads_unique (F.IsFrame n header) (lawful.free n header) (length header) vs ws bytes reads (reads_behind n header ws bytes has other)

  -- and can be read
  reads_some_file : CanTellFormat F → (n : ℕ) (bytes : List ℕ) → (ws : List (Written R)) × ReadsFile F n ws bytes
  reads_some_file tell n bytes = elim (tell.headers bytes) [
    | inl (header, has) ↦ (let some = reads_some (F.IsFrame n header) (lawful.free n header) (tell.frames n header) (length header) bytes in (some.0, inr (header, has, some.1)))
    | inr none ↦ ([], inl (refl, none))
  ]

  -- a header that stands is there after a stop
  header_left : (header : List ℕ) (file : File) (bytes : List ℕ) → F.IsHeader header → HeaderStands header file → IsLeft file bytes → HasHeader F header bytes
  header_left header file bytes is stands left =
      let n = length header in
      let long : n ≤ length file.synced = omega (arith, ap length stands.front, length-take n file.synced) in
      let same : take n bytes ≡ header = left_keeps_part 0 n file bytes (omega (arith, long)) (λ place from below. stands.spared place (omega (arith, below))) left ∙ stands.front in
      record { is = is; rest = drop n bytes; splits = sym (take-append-drop n bytes) ∙ ap (λ (b : List ℕ). b ++ drop n bytes) same }

  holds_keeps : (q : LogFiles R) → F.IsHeader q.header → KeepsLast F q (HoldsLast F q)
  holds_keeps q is file holds bytes left chance ws reads =
      let keeps : HasHeader F q.header bytes → AreKept q.durable q.pending ws = λ has.
      at_least_keeps (F.IsFrame q.last q.header) (length q.header) q.stale q.durable q.pending file (lawful.free q.last q.header) holds.chain bytes left chance.records ws (reads_behind q.last q.header ws bytes has reads) in
      elim holds.headed [
        | inl stands ↦ keeps (header_left q.header file bytes is stands left)
        | inr empty ↦ elim reads [
          | inl (none, no_header) ↦ (0, omega arith, none ∙ sym (append-nil q.durable ∙ front_nil q.durable q.pending empty))
          | inr (other, has, more) ↦ keeps (subst (λ (h : List ℕ). HasHeader F h bytes) (chance.headers other has) has)
        ]
      ]

  leftover_keeps : (q : LogFiles R) → KeepsLast F q (IsLeftover F q)
  leftover_keeps q file over bytes left chance ws reads =
      let same : bytes ≡ over.bytes = only_at_rest (at_rest over.bytes) bytes refl (subst (λ (f : File). IsLeft f bytes) over.is left) in
      let all = reads_once q.last (recent q) ws over.bytes over.reads (subst (ReadsFile F q.last ws) same reads) in
      (length q.pending, omega arith, all ∙ ap (λ (vs : List (Written R)). q.durable ++ vs) (sym (take_all (length q.pending) q.pending (omega arith))))

  -- of a file before the last one its records are read, whatever a stop leaves
  past_reads : (n : ℕ) (past : Past R) (ws : List (Written R)) → F.IsHeader past.header → IsPast F n past (at_rest (past.header ++ spelled past.records))
      → ReadsFile F n ws (past.header ++ spelled past.records) → ws ≡ past.records
  past_reads n past ws is whole reads =
      let bytes = past.header ++ spelled past.records in
      let has : HasHeader F past.header bytes = record { is = is; rest = spelled past.records; splits = refl } in
      let all = reads_whole (F.IsFrame n past.header) (length past.header) [] (lawful.free n past.header) past.records bytes whole.frames (drop_at past.header (spelled past.records) (length past.header) refl) in
      reads_unique (F.IsFrame n past.header) (lawful.free n past.header) (length past.header) past.records ws bytes all (reads_behind n past.header ws bytes has reads)

  -- a file before the last one, in an image
  past_image : (q : LogFiles R) (P : File → Type 0) (d image : Disk) → HasLogFiles F q P d → IsImage d image → (m id : ℕ) (path : List ℕ) → m < q.last → F.IsPath m path
      → image.names path ≡ Some id → HasFile id (IsPast F m (q.older m)) image
  past_image q P d image files is m id path below at named =
      let old = files.older m id path below at (ap (λ (f : List ℕ → Option ℕ). f path) (sym is.names) ∙ named) in
      let rests = old.is ∙ ap Some old.has.is in
      let bytes = (q.older m).header ++ spelled (q.older m).records in
      record { file = at_rest bytes; is = rest_image d image id bytes is rests; has = record { is = refl; header = old.has.header; frames = old.has.frames } }

  module _ (q : LogFiles R) (P : File → Type 0) (d image : Disk) (files : HasLogFiles F q P d) (is : IsImage d image) where
    name_of : (path : List ℕ) (o : Option ℕ) → d.names path ≡ o → image.names path ≡ o
    name_of path o at = ap (λ (f : List ℕ → Option ℕ). f path) is.names ∙ at

    absent : (n : ℕ) → IsAbsent F n d → IsAbsent F n image
    absent n none path at = name_of path None (none path at)

    last_named : IsAbsent F q.last image → ⊥
    last_named none =
        let gone = none files.last.path files.last.at in
        let some = name_of files.last.path (Some files.last.file.id) files.last.file.named in cc (gone, some)

    -- what is read of the last file
    last_read : KeepsLast F q P → NoChanceInLast F q d image → (ws : List (Written R)) → ReadsNamed F image q.last ws → AreKept q.durable q.pending ws
    last_read keeps chance ws reads =
        let here = reads.file in
        let there : d.names reads.path ≡ Some here.id = ap (λ (f : List ℕ → Option ℕ). f reads.path) (sym is.names) ∙ here.named in
        let id = files.last.file.id in
        let same : here.id ≡ id = files.alone reads.path here.id reads.at there in
        let at = ap image.files (sym same) ∙ here.file.is in
        let old = files.last.file.file in
        let (bytes, after, left) = left_of_image d image id old.file here.file.file is old.is at in
        let content : here.file.file.content ≡ bytes = ap (λ (f : File). f.content) after in
        let named : d.names reads.path ≡ Some id = there ∙ ap Some same in
        keeps old.file old.has here.file.file.content (subst (IsLeft old.file) (sym content) left)
        (chance reads.path id old.file here.file.file reads.at named old.is at) ws here.file.has

    older_read : (s : ℕ) (ws : List (Written R)) → s < q.last → ReadsNamed F image s ws → ws ≡ (q.older s).records
    older_read s ws below reads =
        let here = reads.file in
        let past = past_image q P d image files is s here.id reads.path below reads.at here.named in
        let same = same_file image here.id here.file.file past.file here.file.is past.is in
        let content : here.file.file.content ≡ (q.older s).header ++ spelled (q.older s).records = ap (λ (f : File). f.content) (same ∙ past.has.is) in
        past_reads s (q.older s) ws past.has.header (record { is = refl; header = past.has.header; frames = past.has.frames }) (subst (ReadsFile F s ws) content here.file.has)

    files_read : KeepsLast F q P → NoChanceInLast F q d image → (c s k : ℕ) (found : List (Found R)) → s + c ≡ q.last → ReadsFiles F image s k found
        → (count : ℕ) × (count ≤ length q.pending) × (found ≡ past_from q.older s c ++ (record { number = q.last; records = kept_records q.durable q.pending count } ∷ []))
    files_read keeps chance c s zero found at (none, behind) = absurd (last_named (behind q.last (omega (arith, at)) files.bound))
    files_read keeps chance zero s (suc zero) found at (ws, more, below, reads, (none, behind), is_found) =
        let here : s ≡ q.last = omega (arith, at) in
        let (count, within, same) = last_read keeps chance ws (subst (λ (n : ℕ). ReadsNamed F image n ws) here reads) in
        let one : record { number = s; records = ws } ≡ record { number = q.last; records = kept_records q.durable q.pending count } = λ i. record { number = here i; records = same i } in
        (count, within, is_found ∙ (λ i. one i ∷ none i))
    files_read keeps chance zero s (suc (suc k)) found at (ws, more, below, reads, (vs, rest, next_below, next, others, is_more), is_found) =
        let here : s ≡ q.last = omega (arith, at) in
        let gone = absent (suc s) (files.none (suc s) (omega (arith, here)) next_below) next.path next.at in
        let named = next.file.named in
        absurd (cc (gone, named))
    files_read keeps chance (suc c) s (suc k) found at (ws, more, below, reads, others, is_found) =
        let first = older_read s ws (omega (arith, at)) reads in
        let (count, within, rest) = files_read keeps chance c (suc s) k more (omega (arith, at)) others in
        (count, within, is_found ∙ (λ i. record { number = s; records = first i } ∷ rest i))

    -- a numbered file of a sound image, and some reading of it
    some_named : CanTellFormat F → IsSound image → (s : ℕ) → IsThere F s image → (ws : List (Written R)) × ReadsNamed F image s ws
    some_named tell sound s there_is =
        let (file, at) = some_file (image.files there_is.id) (sound.named there_is.path there_is.id there_is.named) in
        let (ws, reads) = reads_some_file tell s file.content in
        (ws, record { path = there_is.path; at = there_is.at; file = record { id = there_is.id; named = there_is.named; file = record { file = file; is = at; has = reads } } })

    some_files : CanTellFormat F → IsSound image → (c s : ℕ) → s + c ≡ q.last → ((n : ℕ) → s ≤ n → n ≤ q.last → IsThere F n image)
        → (found : List (Found R)) × ReadsFiles F image s (suc c) found
    some_files tell sound zero s at all =
        let (ws, reads) = some_named tell sound s (all s (omega arith) (omega (arith, at))) in
        let bound = files.bound in
        let behind : (m : ℕ) → suc s ≤ m → m < F.limit → IsAbsent F m image = λ m above less. absent m (files.none m (omega (arith, at, above)) less) in
        (record { number = s; records = ws } ∷ [], (ws, [], omega (arith, bound, at), reads, (refl, behind), refl))
    some_files tell sound (suc c) s at all =
        let (ws, reads) = some_named tell sound s (all s (omega arith) (omega (arith, at))) in
        let (more, rest) = some_files tell sound c (suc s) (omega (arith, at)) (λ n above below. all n (omega (arith, above)) below) in
        let bound = files.bound in
        (record { number = s; records = ws } ∷ more, (ws, more, omega (arith, bound, at), reads, rest, refl))

  queue_kept : (q : LogFiles R) (P : File → Type 0) (d : Disk) → KeepsLast F q P → HasLogFiles F q P d → KeepsQueue F q d
  queue_kept q P d keeps files image is chance s below found (k, reads) = files_read q P d image files is keeps chance (q.last - s) s k found (omega (arith, below)) reads

  -- From whatever start it is read, the last file is read, and in one way.

  module _ (q : LogFiles R) (P : File → Type 0) (d image : Disk) (files : HasLogFiles F q P d) (is : IsImage d image) where
    last_once : (vs ws : List (Written R)) → ReadsNamed F image q.last vs → ReadsNamed F image q.last ws → vs ≡ ws
    last_once vs ws one two =
        let before : (p : List ℕ) (j : ℕ) → image.names p ≡ Some j → d.names p ≡ Some j = λ p j here. ap (λ (f : List ℕ → Option ℕ). f p) (sym is.names) ∙ here in
        let same : one.file.id ≡ two.file.id =
        files.alone one.path one.file.id one.at (before one.path one.file.id one.file.named) ∙ sym (files.alone two.path two.file.id two.at (before two.path two.file.id two.file.named)) in
        let file : two.file.file.file ≡ one.file.file.file = same_file image one.file.id two.file.file.file one.file.file.file (ap image.files same ∙ two.file.file.is) one.file.file.is in
        reads_once q.last ws vs one.file.file.file.content (subst (λ (f : File). ReadsFile F q.last ws f.content) file two.file.file.has) one.file.file.has

    -- what is read last
    read_last : (c s k : ℕ) (found : List (Found R)) → s + c ≡ q.last → ReadsFiles F image s k found
        → (ahead : List (Found R)) × (ws : List (Written R)) × ReadsNamed F image q.last ws × (found ≡ ahead ++ record { number = q.last; records = ws } ∷ [])
    read_last c s zero found at (none, behind) = absurd (last_named q P d image files is (behind q.last (omega (arith, at)) files.bound))
    read_last zero s (suc zero) found at (ws, more, below, reads, (none, behind), is_found) =
        let here : s ≡ q.last = omega (arith, at) in
        ([], ws, subst (λ (n : ℕ). ReadsNamed F image n ws) here reads, is_found ∙ (λ i. record { number = here i; records = ws } ∷ none i))
    read_last zero s (suc (suc k)) found at (ws, more, below, reads, (vs, rest, next_below, next, others, is_more), is_found) =
        let here : s ≡ q.last = omega (arith, at) in
        let gone = absent q P d image files is (suc s) (files.none (suc s) (omega (arith, here)) next_below) next.path next.at in
        let named = next.file.named in
        absurd (cc (gone, named))
    read_last (suc c) s (suc k) found at (ws, more, below, reads, others, is_found) =
        let (ahead, vs, last, rest) = read_last c (suc s) k more (omega (arith, at)) others in
        (record { number = s; records = ws } ∷ ahead, vs, last, is_found ∙ ap (λ (fs : List (Found R)). record { number = s; records = ws } ∷ fs) rest)

  queue_ends : CanTellFormat F → (q : LogFiles R) (P : File → Type 0) (d : Disk) → IsSound d → HasLogFiles F q P d → KeepsLast F q P → EndsInOnePlace F q d
  queue_ends tell q P d sound files keeps image is chance =
      let old = files.last in
      let there : IsThere F q.last image = record { path = old.path; at = old.at; id = old.file.id; named = name_of q P d image files is old.path (Some old.file.id) old.file.named } in
      let (ws, reads) = some_named q P d image files is tell (image_is_sound d image sound is) q.last there in
      let (count, within, same) = last_read q P d image files is keeps chance ws reads in (
        count,
        within,
        λ s below found reading.
            (let k = reading.0 in
            let all = reading.1 in
            let (other, other_within, whole) = queue_kept q P d keeps files image is chance s below found reading in
            let (ahead, vs, last, ends) = read_last q P d image files is (q.last - s) s k found (omega (arith, below)) all in
            let one : record { number = q.last; records = vs } ≡ record { number = q.last; records = kept_records q.durable q.pending other } =
            last_of ahead (past_from q.older s (q.last - s)) (record { number = q.last; records = vs }) (record { number = q.last; records = kept_records q.durable q.pending other }) (sym ends ∙ whole) in
            let records : kept_records q.durable q.pending other ≡ kept_records q.durable q.pending count =
            ap (λ (f : Found R). f.records) (sym one) ∙ last_once q P d image files is vs ws last reads ∙ same in
            whole ∙ ap (λ (r : List (Written R)). past_from q.older s (q.last - s) ++ record { number = q.last; records = r } ∷ []) records),
      )

  pub queue_is_kept : QueueIsKept F
  queue_is_kept = record {
    holding = holds_keeps;
    left_over = leftover_keeps;
    kept = λ q d files is. queue_kept q (HoldsLast F q) d (holds_keeps q is) files;
    restarted = λ q d files. queue_kept q (IsLeftover F q) d (leftover_keeps q) files;
    ends = λ tell q d sound either is. elim either [
      | inl files ↦ queue_ends tell q (HoldsLast F q) d sound files (holds_keeps q is)
      | inr files ↦ queue_ends tell q (IsLeftover F q) d sound files (leftover_keeps q)
    ];
  }

  pub queue_is_readable : QueueIsReadable F
  queue_is_readable tell q d sound files image is s below no_gap =
      let old = files.last in
      let last : IsThere F q.last image = record { path = old.path; at = old.at; id = old.file.id; named = name_of q Anything d image files is old.path (Some old.file.id) old.file.named } in
      let bound = files.bound in
      let (found, reads) = some_files q Anything d image files is tell (image_is_sound d image sound is) (q.last - s) s (omega (arith, below))
      (λ n above under. no_gap n q.last above under bound last) in
      (found, (suc (q.last - s), reads))

  pub queue_restarts : QueueRestarts F
  queue_restarts tell q d image files header is chance =
      let path = files.last.path in
      let id = files.last.file.id in
      let old = files.last.file.file in
      let named = name_of q (HoldsLast F q) d image files is path (Some id) files.last.file.named in
      let (after, at) = image_there d image id old.file is old.is in
      let (bytes, same, left) = left_of_image d image id old.file after is old.is at in
      let rests : image.files id ≡ Some (at_rest bytes) = at ∙ ap Some same in
      let (ws, reads) = reads_some_file tell q.last bytes in
      let meets = subst (NoChanceInFile F q.last q.header q.stale (spelled (recent q)) old.file) (ap (λ (f : File). f.content) same) (chance path id old.file after files.last.at files.last.file.named old.is at) in
      let (count, within, kept) = holds_keeps q header old.file old.has bytes left meets ws reads in
      let next = kept_to count q in
      let whole : ws ≡ recent next = kept ∙ sym (append-nil (kept_records q.durable q.pending count)) in
      let over : IsLeftover F next (at_rest bytes) = record { bytes = bytes; is = refl; reads = subst (λ (vs : List (Written R)). ReadsFile F q.last vs bytes) whole reads; plain = meets.plain } in
      let last : HasNumbered F q.last (IsLeftover F next) image =
      record { path = path; at = files.last.at; file = record { id = id; named = named; file = record { file = at_rest bytes; is = rests; has = over } } } in
      let before : (p : List ℕ) (j : ℕ) → image.names p ≡ Some j → d.names p ≡ Some j = λ p j here. ap (λ (f : List ℕ → Option ℕ). f p) (sym is.names) ∙ here in
      let now : HasLogFiles F next (IsLeftover F next) image = record {
        bound = files.bound;
        last = last;
        alone = λ p j at_p here. files.alone p j at_p (before p j here);
        none = λ m above less. absent q (HoldsLast F q) d image files is m (files.none m above less);
        older = λ m j p below at_p here. past_image q (HoldsLast F q) d image files is m j p below at_p here;
      } in (
        count,
        within,
        now,
        λ later is_later p other file next_file at_p at_last here there_now.
            (let one : other ≡ id = files.alone p other at_p (before p other at_last) in
            let here_id : image.files id ≡ Some file = ap image.files (sym one) ∙ here in
            let rest : file ≡ at_rest bytes = same_file image id file (at_rest bytes) here_id rests in
            let again = rest_image image later id bytes is_later rests in
            let then_rest : next_file ≡ at_rest bytes = same_file later id next_file (at_rest bytes) (ap later.files (sym one) ∙ there_now) again in
            subst (λ (f : File). NoChanceInFile F q.last q.header [] (spelled (recent next)) f next_file.content) (sym rest)
            (subst (λ (f : File). NoChanceInFile F q.last q.header [] (spelled (recent next)) (at_rest bytes) f.content) (sym then_rest)
            (record {
              headers = λ x has. meets.headers x has;
              records = synced_file_has_no_chance (F.IsFrame q.last q.header) (lawful.free q.last q.header) (length q.header) (at_rest bytes) bytes refl (left_at_rest bytes) (spelled (recent next));
              plain = meets.plain;
            }))),
      )

pub rotated_holds_nothing : {R : Type 0} (F : Format R) → RotatedHoldsNothing F
rotated_holds_nothing F q header stale = record {
  chain = holds_at_least (F.IsFrame (suc q.last) header) (length header) stale [] [] (at_rest stale) (holds_used_again (F.IsFrame (suc q.last) header) (length header) stale);
  headed = inr refl;
}

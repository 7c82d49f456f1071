-- What an open reads behind a header, with padding and without.
use Rattle.std.proofs.Common.{◌≡◌, ℕ, Bool, true, false, ◌+◌, ◌<◌, ◌≤◌, inl, inr, Option, Some, None, is_some, List, [], ◌∷◌, ◌++◌, length, take, drop, Result, Ok, Err, IsOk, refl, sym, ap, subst, ◌∙◌, append_assoc, arith}
use Rattle.std.specs.List.{AllZip}
use Rattle.std.proofs.lemmas.Bool.{cases_lt}
use Rattle.std.proofs.lemmas.List.{drop_all}
use Rattle.raft_log_record_base.specs.Fault.{Fault}
use Rattle.raft_log_record_base.specs.Files.{signature_of}
use Rattle.raft_log_record_base.specs.declared.pipe_log.LogFileContext.{LogFileContext}
use Rattle.raft_log_record_base.proofs.Public.{ok_is}
use Rattle.raft_log_record_items.specs.declared.item.LogItem.{LogItem}
use Rattle.raft_log_record_frames.specs.Record.{Front, frame_at, record_at}
use Rattle.raft_log_file_reader.specs.Batches.{GoesOnAt, HasBatch, HasBatches, HasNoMore, IsBroken, batch_at, context_of}
use Rattle.raft_log_file_reader.specs.Laws.{EndsBehind}
use Rattle.raft_log_file_reader.specs.declared.open_file.OpenFile.{OpenFile}
use Rattle.raft_log_file_reader.proofs.Public.{batch_broken, extent_short, one_fault_is, one_place, placed_front}
use Rattle.raft_log_recovery_read.specs.Records.{EndsWhole, HasRecords, IsRecordTorn, IsWhole, ReadsBehind, StopsGood, StopsWhole}
use Rattle.raft_log_recovery_read.specs.Records.ReadsEarlier.{none, good, torn}
use Rattle.raft_log_open.specs.Content.{HasAllBytes, IsRest, joined}
use Rattle.raft_log_open.specs.Laws.{AreMoved}
use Rattle.raft_log_open.proofs.Moving.{IsUnpaddedOf, behind_next, ended, goes_at_once, inside_next, next_batch, stands, still_broken}

-- What is left behind an offset of the old bytes stands behind one of the new ones.
pub record Follows (file : OpenFile) (content new : List ℕ) (offset there : ℕ) : Type 0 where
  pub records : List (List ℕ)
  pub end : ℕ
  pub are : HasAllBytes file content offset records end
  pub rest : List ℕ
  pub left : IsRest file content end rest
  pub behind : drop there new ≡ joined records ++ rest
  pub inside : there ≤ length new

-- past the end of a file no record is read
nothing_past : (context : LogFileContext) (at : ℕ) (content : List ℕ) (len : ℕ) (items : List LogItem) → length content ≤ at → batch_at context at content ≡ Ok (len, items) → ⊥
nothing_past context at content len items past e =
    let none : drop at content ≡ [] = drop_all at content past in
    let size : length (drop at content) < 16 = omega (arith, ap length none) in
    let broken = batch_broken context at content _ (extent_short (drop at content) size) in
    absurd cc

-- where a batch comes the reading doesn't end
batch_or_end : (file : OpenFile) (content : List ℕ) (offset n : ℕ) (items : List LogItem) → HasBatch file content offset items n → EndsBehind file content offset → ⊥
batch_or_end file content offset n items a (inl over) =
    let at = one_place file.format.alignment content offset a.at (length content) a.goes_on over.goes_on in
    nothing_past (context_of file) a.at content a.len items (omega (arith, at)) a.frame
batch_or_end file content offset n items a (inr broken) =
    let b = broken.1 in
    let at = one_place file.format.alignment content offset a.at b.at a.goes_on b.goes_on in
    let both = sym a.frame ∙ ap (λ (k : ℕ). batch_at (context_of file) k content) at ∙ b.frame in
    absurd cc

rest_ends : (file : OpenFile) (content : List ℕ) (end : ℕ) (rest : List ℕ) → IsRest file content end rest → EndsBehind file content end
rest_ends file content end rest (inl over) = inl over.0
rest_ends file content end rest (inr (f, broken, is)) = inr (f, broken)

-- One record.

-- The next record of the old bytes is the next one of the new ones.
record Next (file other : OpenFile) (content new : List ℕ) (offset there : ℕ) (items : List LogItem) (next : ℕ) : Type 0 where
  others : List LogItem
  after : ℕ
  batch : HasBatch other new there others after
  moved : AreMoved content new items others
  at : ℕ
  goes_on : GoesOnAt file.format.alignment content offset at
  whole : record_at (signature_of (context_of file)) (drop at content) ≡ record_at (signature_of (context_of other)) (drop there new)
  further : Follows file content new next after

go_on : (file other : OpenFile) (content new : List ℕ) (offset there next : ℕ) (items : List LogItem) → IsUnpaddedOf file other → HasBatch file content offset items next → Follows file content new offset there
    → Next file other content new offset there items next
go_on file other content new offset there next items is a f = by_records f.records f.are f.behind
  where
    by_records : (records : List (List ℕ)) → HasAllBytes file content offset records f.end → drop there new ≡ joined records ++ f.rest → Next file other content new offset there items next
    by_records [] are behind = absurd (batch_or_end file content offset next items a (subst (EndsBehind file content) are (rest_ends file content f.end f.rest f.left)))
    by_records (bytes ∷ more) (after, has, later) behind =
        let b = has.batch in
        let at = one_place file.format.alignment content offset a.at b.at a.goes_on b.goes_on in
        let same : (a.len, items) ≡ (b.len, has.items) = ok_is {E = Fault} (a.len, items) (b.len, has.items)
        (sym a.frame ∙ ap (λ (k : ℕ). batch_at (context_of file) k content) at ∙ b.frame) in
        let len : a.len ≡ b.len = ap (λ (p : ℕ × List LogItem). p.0) same in
        let end : after ≡ next = omega (arith, a.ends, b.ends, at, len) in
        let taken : bytes ≡ take a.len (drop a.at content) =
        has.are ∙ ap (λ (n : ℕ). take n (drop b.at content)) (sym len) ∙ ap (λ (n : ℕ). take a.len (drop n content)) (sym at) in
        let front : drop there new ≡ bytes ++ (joined more ++ f.rest) = behind ∙ append_assoc bytes (joined more) f.rest in
        let s = stands file other content new (joined more ++ f.rest) a.at there a.len items bytes is a.frame taken front in record {
          others = s.others;
          after = there + length bytes;
          batch = next_batch file other content new a.at there a.len items bytes is s;
          moved = s.moved;
          at = a.at;
          goes_on = a.goes_on;
          whole = s.whole;
          further = record {
            records = more;
            end = f.end;
            are = subst (λ (k : ℕ). HasAllBytes file content k more f.end) end later;
            rest = f.rest;
            left = f.left;
            behind = behind_next new bytes (joined more ++ f.rest) there front;
            inside = inside_next new bytes (joined more ++ f.rest) there front f.inside;
          };
        }

-- a record that is whole there is whole here
go_on_whole : (file other : OpenFile) (content new : List ℕ) (offset there next : ℕ) (items : List LogItem) → IsUnpaddedOf file other → IsWhole file content offset → (n : Next file other content new offset there items next)
    → IsWhole other new there
go_on_whole file other content new offset there next items is w n =
    let at = one_place file.format.alignment content offset w.at n.at w.goes_on n.goes_on in
    let same = ap (λ (k : ℕ). record_at (signature_of (context_of file)) (drop k content)) at ∙ n.whole in
    record { at = there; goes_on = goes_at_once file other new there is; record_there = subst (λ (r : Result Front Fault). IsOk r) same w.record_there }

-- Where the reading stops.

-- where nothing follows, nothing follows here
pub stays_ended : (file other : OpenFile) (content new : List ℕ) (offset there : ℕ) → IsUnpaddedOf file other → HasNoMore file content offset → Follows file content new offset there → HasNoMore other new there
stays_ended file other content new offset there is over f = by_records f.records f.are f.behind
  where
    by_rest : (rest : List ℕ) → IsRest file content offset rest → drop there new ≡ rest → HasNoMore other new there
    by_rest rest (inl (none_left, empty)) behind = ended file other new there is (behind ∙ empty) f.inside
    by_rest rest (inr (fault, broken, same)) behind = absurd ((one_fault_is file content offset fault fault broken).0 over)

    by_records : (records : List (List ℕ)) → HasAllBytes file content offset records f.end → drop there new ≡ joined records ++ f.rest → HasNoMore other new there
    by_records [] are behind = by_rest f.rest (subst (λ (k : ℕ). IsRest file content k f.rest) are f.left) behind
    by_records (bytes ∷ more) (after, has, later) behind = absurd (batch_or_end file content offset after has.items has.batch (inl over))

-- where a frame is broken, one is broken here
pub stays_broken : (file other : OpenFile) (content new : List ℕ) (offset there : ℕ) (fault : Fault) → IsUnpaddedOf file other → IsBroken file content offset fault → Follows file content new offset there
    → (f : Fault) × IsBroken other new there f
stays_broken file other content new offset there fault is broken f = by_records f.records f.are f.behind
  where
    by_rest : (rest : List ℕ) → IsRest file content offset rest → drop there new ≡ rest → (f : Fault) × IsBroken other new there f
    by_rest rest (inl (over, empty)) behind = absurd ((one_fault_is file content offset fault fault broken).0 over)
    by_rest rest (inr (g, also, same)) behind = still_broken file other content new offset there g is also (behind ∙ same)

    by_records : (records : List (List ℕ)) → HasAllBytes file content offset records f.end → drop there new ≡ joined records ++ f.rest → (f : Fault) × IsBroken other new there f
    by_records [] are behind = by_rest f.rest (subst (λ (k : ℕ). IsRest file content k f.rest) are f.left) behind
    by_records (bytes ∷ more) (after, has, later) behind = absurd (batch_or_end file content offset after has.items has.batch (inr (fault, broken)))

-- where a frame is broken its record is
record_of_broken : (signature : Option ℕ) (bytes : List ℕ) (f : Fault) → frame_at signature bytes ≡ Err f → record_at signature bytes ≡ Err f
unfolding record_at
record_of_broken signature bytes f e = rw e refl

frame_of_broken : (context : LogFileContext) (at : ℕ) (content : List ℕ) (f : Fault) → batch_at context at content ≡ Err f → frame_at (signature_of context) (drop at content) ≡ Err f
unfolding batch_at
frame_of_broken context at content f e = by_frame (frame_at (signature_of context) (drop at content)) refl where
  by_frame : (r : Result Front Fault) → frame_at (signature_of context) (drop at content) ≡ r → frame_at (signature_of context) (drop at content) ≡ Err f
  by_frame (Ok front) is =
      let good : placed_front context at front ≡ Err f = rw is at e in
      absurd cc
  by_frame (Err g) is =
      let old : Err g ≡ Err f = rw is at e in
      let one : g ≡ f = cc in
      is ∙ ap (λ (x : Fault). Err x) one

torn_if_broken : (file : OpenFile) (content : List ℕ) (offset : ℕ) (f : Fault) → IsBroken file content offset f → IsRecordTorn file content offset f
torn_if_broken file content offset f b = record {
  at = b.at;
  goes_on = b.goes_on;
  inside = b.inside;
  wrong = record_of_broken (signature_of (context_of file)) (drop b.at content) f (frame_of_broken (context_of file) b.at content f b.frame);
}

-- where the next record stands the file holds more
holds_more : (file other : OpenFile) (content new : List ℕ) (offset there next : ℕ) (items : List LogItem) → IsUnpaddedOf file other → Next file other content new offset there items next → there < length new
holds_more file other content new offset there next items is n = elim (cases_lt there (length new)) [
  | inl less ↦ less
  | inr past ↦
      let here = one_place other.format.alignment new there n.batch.at there n.batch.goes_on (goes_at_once file other new there is) in
      absurd (nothing_past (context_of other) n.batch.at new n.batch.len n.others (omega (arith, here, past)) n.batch.frame)
]

-- where a record is torn, one is torn here
stays_torn : (file other : OpenFile) (content new : List ℕ) (offset there : ℕ) (fault : Fault) → IsUnpaddedOf file other → IsRecordTorn file content offset fault → Follows file content new offset there
    → (f : Fault) × IsRecordTorn other new there f
stays_torn file other content new offset there fault is t f = by_records f.records f.are f.behind
  where
    by_rest : (rest : List ℕ) → IsRest file content offset rest → drop there new ≡ rest → (f : Fault) × IsRecordTorn other new there f
    by_rest rest (inl (over, empty)) behind =
        let at = one_place file.format.alignment content offset t.at (length content) t.goes_on over.goes_on in
        absurd (omega (arith, at, t.inside))
    by_rest rest (inr (g, broken, same)) behind =
        let found = still_broken file other content new offset there g is broken (behind ∙ same) in
        (found.0, torn_if_broken other new there found.0 found.1)

    by_records : (records : List (List ℕ)) → HasAllBytes file content offset records f.end → drop there new ≡ joined records ++ f.rest → (f : Fault) × IsRecordTorn other new there f
    by_records [] are behind = by_rest f.rest (subst (λ (k : ℕ). IsRest file content k f.rest) are f.left) behind
    by_records (bytes ∷ more) (after, has, later) behind =
        let n = go_on file other content new offset there after has.items is has.batch f in
        let at = one_place file.format.alignment content offset t.at n.at t.goes_on n.goes_on in
        let wrong = sym n.whole ∙ ap (λ (k : ℕ). record_at (signature_of (context_of file)) (drop k content)) (sym at) ∙ t.wrong in
        (fault, record { at = there; goes_on = goes_at_once file other new there is; inside = holds_more file other content new offset there after has.items is n; wrong = wrong })

-- the same fault or another one, or none where there is none
abbrev IsAlike : Option Fault → Option Fault → Type 0
IsAlike e f = is_some f ≡ is_some e

stops_whole : (file other : OpenFile) (content new : List ℕ) (offset there : ℕ) (e : Option Fault) → IsUnpaddedOf file other → StopsWhole file content offset e → Follows file content new offset there
    → (f : Option Fault) × StopsWhole other new there f × IsAlike e f
stops_whole file other content new offset there None is s f = (None, stays_ended file other content new offset there is s f, refl)
stops_whole file other content new offset there (Some e) is s f =
    let t = stays_torn file other content new offset there e is s f in
    (Some t.0, t.1, refl)

stops_good : (file other : OpenFile) (content new : List ℕ) (offset there : ℕ) (e : Option Fault) → IsUnpaddedOf file other → StopsGood file content offset e → Follows file content new offset there
    → (f : Option Fault) × StopsGood other new there f × IsAlike e f
stops_good file other content new offset there None is s f = (None, stays_ended file other content new offset there is s f, refl)
stops_good file other content new offset there (Some e) is s f =
    let b = stays_broken file other content new offset there e is s f in
    (Some b.0, b.1, refl)

stays_behind : (file other : OpenFile) (content new : List ℕ) (offset there : ℕ) → IsUnpaddedOf file other → EndsBehind file content offset → Follows file content new offset there → EndsBehind other new there
stays_behind file other content new offset there is (inl over) f = inl (stays_ended file other content new offset there is over f)
stays_behind file other content new offset there is (inr (e, broken)) f = inr (stays_broken file other content new offset there e is broken f)

-- Many records.

-- The records behind an offset, read on in the new bytes.
record Moved (Has : List (List LogItem) → ℕ → Type 0) (file : OpenFile) (content new : List ℕ) (batches : List (List LogItem)) (end : ℕ) : Type 0 where
  others : List (List LogItem)
  after : ℕ
  has : Has others after
  moved : AllZip (AreMoved content new) batches others
  further : Follows file content new end after

records_on : (file other : OpenFile) (content new : List ℕ) (offset there end : ℕ) (xs : List (List LogItem)) → IsUnpaddedOf file other → HasRecords file content offset xs end → Follows file content new offset there
    → Moved (HasRecords other new there) file content new xs end
records_on file other content new offset there end [] is has f =
    record { others = []; after = there; has = refl; moved = tt; further = subst (λ (k : ℕ). Follows file content new k there) (sym has) f }
records_on file other content new offset there end (items ∷ xs) is (next, first, later) f =
    let n = go_on file other content new offset there next items is first.batch f in
    let whole = go_on_whole file other content new offset there next items is first.whole n in
    let rest = records_on file other content new next n.after end xs is later n.further in record {
      others = n.others ∷ rest.others;
      after = rest.after;
      has = (n.after, record { batch = n.batch; whole = whole }, rest.has);
      moved = (n.moved, rest.moved);
      further = rest.further;
    }

batches_on : (file other : OpenFile) (content new : List ℕ) (offset there end : ℕ) (xs : List (List LogItem)) → IsUnpaddedOf file other → HasBatches file content offset xs end → Follows file content new offset there
    → Moved (HasBatches other new there) file content new xs end
batches_on file other content new offset there end [] is has f =
    record { others = []; after = there; has = refl; moved = tt; further = subst (λ (k : ℕ). Follows file content new k there) (sym has) f }
batches_on file other content new offset there end (items ∷ xs) is (next, first, later) f =
    let n = go_on file other content new offset there next items is first f in
    let rest = batches_on file other content new next n.after end xs is later n.further in record {
      others = n.others ∷ rest.others;
      after = rest.after;
      has = (n.after, n.batch, rest.has);
      moved = (n.moved, rest.moved);
      further = rest.further;
    }

one_more : (content new : List ℕ) (xs ys : List (List LogItem)) (x y : List LogItem) → AllZip (AreMoved content new) xs ys → AreMoved content new x y → AllZip (AreMoved content new) (xs ++ x ∷ []) (ys ++ y ∷ [])
one_more content new [] [] x y zip one = (one, tt)
one_more content new [] (b ∷ ys) x y zip one = absurd zip
one_more content new (a ∷ xs) [] x y zip one = absurd zip
one_more content new (a ∷ xs) (b ∷ ys) x y (first, zip) one = (first, one_more content new xs ys x y zip one)

whole_end_on : (file other : OpenFile) (content new : List ℕ) (offset there end : ℕ) (xs : List (List LogItem)) → IsUnpaddedOf file other → EndsWhole file content offset xs end → Follows file content new offset there
    → Moved (EndsWhole other new there) file content new xs end
whole_end_on file other content new offset there end xs is w f =
    let front = batches_on file other content new offset there w.between w.before is w.first f in
    let n = go_on file other content new w.between front.after end w.last is w.record_last.batch front.further in
    let whole = go_on_whole file other content new w.between front.after end w.last is w.record_last.whole n in record {
      others = front.others ++ n.others ∷ [];
      after = n.after;
      has = record { before = front.others; last = n.others; between = front.after; split = refl; first = front.has; record_last = record { batch = n.batch; whole = whole } };
      moved = subst (λ (l : List (List LogItem)). AllZip (AreMoved content new) l (front.others ++ n.others ∷ [])) (sym w.split)
          (one_more content new w.before front.others w.last n.others front.moved n.moved);
      further = n.further;
    }

-- All that an open reads behind a header.

-- the same is read in the new bytes, with other places
pub record RereadsBehind (last : Bool) (other : OpenFile) (content new : List ℕ) (there : ℕ) (batches : List (List LogItem)) (fault : Option Fault) : Type 0 where
  pub others : List (List LogItem)
  pub after : ℕ
  pub told : Option Fault
  pub reads : ReadsBehind last other new there others after told
  pub moved : AllZip (AreMoved content new) batches others
  pub alike : IsAlike fault told

pub reread : (last : Bool) (file other : OpenFile) (content new : List ℕ) (offset there end : ℕ) (batches : List (List LogItem)) (fault : Option Fault) → IsUnpaddedOf file other
    → ReadsBehind last file content offset batches end fault → Follows file content new offset there → RereadsBehind last other content new there batches fault
reread true file other content new offset there end batches fault is (has, stops) f =
    let m = records_on file other content new offset there end batches is has f in
    let s = stops_whole file other content new end m.after fault is stops m.further in
    record { others = m.others; after = m.after; told = s.0; reads = (m.has, s.1); moved = m.moved; alike = s.2 }
reread false file other content new offset there end batches fault is (none empty at stops) f =
    let s = stops_good file other content new offset there fault is (subst (λ (k : ℕ). StopsGood file content k fault) at stops) f in record {
      others = [];
      after = there;
      told = s.0;
      reads = none refl refl s.1;
      moved = subst (λ (l : List (List LogItem)). AllZip (AreMoved content new) l []) (sym empty) tt;
      alike = s.2;
    }
reread false file other content new offset there end batches fault is (good whole stops) f =
    let m = whole_end_on file other content new offset there end batches is whole f in
    let s = stops_good file other content new end m.after fault is stops m.further in
    record { others = m.others; after = m.after; told = s.0; reads = good m.has s.1; moved = m.moved; alike = s.2 }
reread false file other content new offset there end batches fault is (torn items next g has one over wrong told) f =
    let m = batches_on file other content new offset there end batches is has f in
    let n = go_on file other content new end m.after next items is one m.further in
    let t = stays_torn file other content new end m.after g is wrong m.further in record {
      others = m.others;
      after = m.after;
      told = Some t.0;
      reads = torn n.others n.after t.0 m.has n.batch (stays_behind file other content new next n.after is over n.further) t.1 refl;
      moved = m.moved;
      alike = ap is_some (sym told);
    }

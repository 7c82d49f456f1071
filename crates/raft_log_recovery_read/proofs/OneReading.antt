-- What stands behind an offset of a file is read in one way, with and without the entry blocks.
use Rattle.std.proofs.Common.{◌≡◌, ℕ, Bool, true, false, inl, inr, Option, Some, None, is_some, List, [], ◌∷◌, ◌++◌, ◌<◌, length, drop, Result, Ok, Err, IsOk, refl, sym, ap, subst, ◌∙◌, arith}
use Rattle.std.proofs.lemmas.List.{drop_all}
use Rattle.raft_log_record_base.specs.Fault.{Fault}
use Rattle.raft_log_record_base.specs.Files.{signature_of}
use Rattle.raft_log_record_base.proofs.Public.{ok_is}
use Rattle.raft_log_record_items.specs.declared.item.LogItem.{LogItem}
use Rattle.raft_log_record_frames.specs.Record.{record_at}
use Rattle.raft_log_file_reader.specs.Batches.{batch_at, context_of, HasBatch, HasBatches, HasNoMore}
use Rattle.raft_log_file_reader.specs.Laws.{EndsBehind}
use Rattle.raft_log_file_reader.specs.declared.open_file.OpenFile.{OpenFile}
use Rattle.raft_log_file_reader.proofs.Public.{batch_broken, batches_go_on_is, extent_short, one_fault_is, one_place, one_reading_is}
use Rattle.raft_log_recovery_read.specs.Records.{EndsWhole, HasRecord, HasRecords, IsRecordTorn, IsWhole, ReadsBehind, ReadsEarlier, StopsGood, StopsWhole}
use Rattle.raft_log_recovery_read.specs.Records.ReadsEarlier.{none, good, torn}

ok_or_err : {X E : Type 0} (r : Result X E) (e : E) → IsOk r → r ≡ Err e → ⊥
ok_or_err (Ok x) e right wrong = absurd cc
ok_or_err (Err f) e right wrong = absurd cc

-- at the end of a file no record is read
nothing_at_end : (file : OpenFile) (content : List ℕ) (len : ℕ) (items : List LogItem) → batch_at (context_of file) (length content) content ≡ Ok (len, items) → ⊥
nothing_at_end file content len items e =
    let empty : drop (length content) content ≡ [] = drop_all (length content) content (omega arith) in
    let size : length (drop (length content) content) < 16 = omega (arith, ap length empty) in
    let broken = batch_broken (context_of file) (length content) content _ (extent_short (drop (length content) content) size) in
    absurd cc

-- where a batch comes the file holds more
batch_or_none : (file : OpenFile) (content : List ℕ) (offset n : ℕ) (items : List LogItem) → HasBatch file content offset items n → HasNoMore file content offset → ⊥
batch_or_none file content offset n items a over =
    let at = one_place file.format.alignment content offset a.at (length content) a.goes_on over.goes_on in
    nothing_at_end file content a.len items (ap (λ (k : ℕ). batch_at (context_of file) k content) (sym at) ∙ a.frame)

-- one batch comes behind an offset
one_batch : (file : OpenFile) (content : List ℕ) (offset m n : ℕ) (xs ys : List LogItem) → HasBatch file content offset xs m → HasBatch file content offset ys n → (xs ≡ ys) × (m ≡ n)
one_batch file content offset m n xs ys a b =
    let at = one_place file.format.alignment content offset a.at b.at a.goes_on b.goes_on in
    let same : (a.len, xs) ≡ (b.len, ys) = ok_is {E = Fault} (a.len, xs) (b.len, ys)
    (sym a.frame ∙ ap (λ (k : ℕ). batch_at (context_of file) k content) at ∙ b.frame) in
    let len : a.len ≡ b.len = ap (λ (p : ℕ × List LogItem). p.0) same in
    (ap (λ (p : ℕ × List LogItem). p.1) same, omega (arith, a.ends, b.ends, at, len))

-- the same batches end at one place
one_end : (file : OpenFile) (content : List ℕ) (offset m n : ℕ) (xs : List (List LogItem)) → HasBatches file content offset xs m → HasBatches file content offset xs n → m ≡ n
one_end file content offset m n [] a b = a ∙ sym b
one_end file content offset m n (x ∷ xs) a b =
    let first = one_batch file content offset a.0 b.0 x x a.1 b.1 in
    one_end file content b.0 m n xs (subst (λ (k : ℕ). HasBatches file content k xs m) first.1 a.2) b.2

-- a whole record isn't torn
whole_or_torn : (file : OpenFile) (content : List ℕ) (offset : ℕ) (f : Fault) → IsWhole file content offset → IsRecordTorn file content offset f → ⊥
whole_or_torn file content offset f w t =
    let at = one_place file.format.alignment content offset w.at t.at w.goes_on t.goes_on in
    ok_or_err (record_at (signature_of (context_of file)) (drop w.at content)) f w.record_there
    (ap (λ (k : ℕ). record_at (signature_of (context_of file)) (drop k content)) at ∙ t.wrong)

-- where the file holds no more nothing is torn
none_or_torn : (file : OpenFile) (content : List ℕ) (offset : ℕ) (f : Fault) → HasNoMore file content offset → IsRecordTorn file content offset f → ⊥
none_or_torn file content offset f over t =
    let at = one_place file.format.alignment content offset t.at (length content) t.goes_on over.goes_on in
    omega (arith, at, t.inside)

-- ---- the last file of a queue

-- where a record comes the reading doesn't stop
record_or_stop : (file : OpenFile) (content : List ℕ) (offset n : ℕ) (items : List LogItem) (e : Option Fault) → HasRecord file content offset items n → StopsWhole file content offset e → ⊥
record_or_stop file content offset n items None a s = batch_or_none file content offset n items a.batch s
record_or_stop file content offset n items (Some f) a s = whole_or_torn file content offset f a.whole s

one_stop : (file : OpenFile) (content : List ℕ) (offset : ℕ) (e f : Option Fault) → StopsWhole file content offset e → StopsWhole file content offset f → is_some e ≡ is_some f
one_stop file content offset None None x y = refl
one_stop file content offset None (Some f) x y = absurd (none_or_torn file content offset f x y)
one_stop file content offset (Some e) None x y = absurd (none_or_torn file content offset e y x)
one_stop file content offset (Some e) (Some f) x y = refl

-- what two readings have in common: the batches, where they end, and whether something is wrong there
abbrev pub AreOne : List (List LogItem) → ℕ → Option Fault → List (List LogItem) → ℕ → Option Fault → Type 0
AreOne xs m e ys n f = (xs ≡ ys) × (m ≡ n) × (is_some e ≡ is_some f)

one_last : (file : OpenFile) (content : List ℕ) (offset m n : ℕ) (xs ys : List (List LogItem)) (e f : Option Fault)
    → HasRecords file content offset xs m → StopsWhole file content m e → HasRecords file content offset ys n → StopsWhole file content n f → AreOne xs m e ys n f
one_last file content offset m n [] [] e f a x b y =
    (refl, a ∙ sym b, one_stop file content offset e f (subst (λ (k : ℕ). StopsWhole file content k e) a x) (subst (λ (k : ℕ). StopsWhole file content k f) b y))
one_last file content offset m n [] (z ∷ ys) e f a x b y =
    absurd (record_or_stop file content offset b.0 z e b.1 (subst (λ (k : ℕ). StopsWhole file content k e) a x))
one_last file content offset m n (z ∷ xs) [] e f a x b y =
    absurd (record_or_stop file content offset a.0 z f a.1 (subst (λ (k : ℕ). StopsWhole file content k f) b y))
one_last file content offset m n (w ∷ xs) (z ∷ ys) e f a x b y =
    let first = one_batch file content offset a.0 b.0 w z a.1.batch b.1.batch in
    let rest = one_last file content b.0 m n xs ys e f (subst (λ (k : ℕ). HasRecords file content k xs m) first.1 a.2) x b.2 y in
    (ap (λ (i : List LogItem). i ∷ xs) first.0 ∙ ap (λ (l : List (List LogItem)). z ∷ l) rest.0, rest.1, rest.2)

-- ---- an earlier file

ends_good : (file : OpenFile) (content : List ℕ) (end : ℕ) (e : Option Fault) → StopsGood file content end e → EndsBehind file content end
ends_good file content end None s = inl s
ends_good file content end (Some f) s = inr (f, s)

one_good : (file : OpenFile) (content : List ℕ) (offset : ℕ) (e f : Option Fault) → StopsGood file content offset e → StopsGood file content offset f → is_some e ≡ is_some f
one_good file content offset None None x y = refl
one_good file content offset None (Some f) x y = absurd ((one_fault_is file content offset f f y).0 x)
one_good file content offset (Some e) None x y = absurd ((one_fault_is file content offset e e x).0 y)
one_good file content offset (Some e) (Some f) x y = refl

plain_batches : (file : OpenFile) (content : List ℕ) (offset m : ℕ) (xs : List (List LogItem)) → EndsWhole file content offset xs m → HasBatches file content offset xs m
plain_batches file content offset m xs h = subst (λ (l : List (List LogItem)). HasBatches file content offset l m) (sym h.split)
    (batches_go_on_is file content offset h.between m h.before h.last h.first h.record_last.batch)

no_batches : (file : OpenFile) (content : List ℕ) (offset m : ℕ) (xs : List (List LogItem)) → xs ≡ [] → m ≡ offset → HasBatches file content offset xs m
no_batches file content offset m xs is end = subst (λ (l : List (List LogItem)). HasBatches file content offset l m) (sym is) end

one_plain : (file : OpenFile) (content : List ℕ) (offset m n : ℕ) (xs ys : List (List LogItem)) (e f : Option Fault)
    → HasBatches file content offset xs m → StopsGood file content m e → HasBatches file content offset ys n → StopsGood file content n f → AreOne xs m e ys n f
one_plain file content offset m n xs ys e f a x b y =
    let one = one_reading_is file content offset m n xs ys a (ends_good file content m e x) b (ends_good file content n f y) in
    (one.0, one.1, one_good file content n e f (subst (λ (k : ℕ). StopsGood file content k e) one.1 x) y)

-- lists with one more item at the end are the same without it
before_last : {X : Type 0} (xs ys : List X) (x y : X) → xs ++ x ∷ [] ≡ ys ++ y ∷ [] → xs ≡ ys
before_last [] [] x y e = refl
before_last [] (z ∷ []) x y e = absurd cc
before_last [] (z ∷ w ∷ ys) x y e = absurd cc
before_last (z ∷ []) [] x y e = absurd cc
before_last (z ∷ w ∷ xs) [] x y e = absurd cc
before_last {X} (z ∷ xs) (w ∷ ys) x y e =
    let first : z ≡ w = cc in
    let rest : xs ++ x ∷ [] ≡ ys ++ y ∷ [] = cc in
    ap (λ (i : X). i ∷ xs) first ∙ ap (λ (l : List X). w ∷ l) (before_last xs ys x y rest)

not_none : {X : Type 0} (xs : List X) (x : X) → [] ≡ xs ++ x ∷ [] → ⊥
not_none [] x e = absurd cc
not_none (z ∷ xs) x e = absurd cc

none_and_torn : (file : OpenFile) (content : List ℕ) (offset m n next : ℕ) (xs ys : List (List LogItem)) (items : List LogItem) (e : Option Fault)
    → xs ≡ [] → m ≡ offset → StopsGood file content m e → HasBatches file content offset ys n → HasBatch file content n items next → EndsBehind file content next → ⊥
none_and_torn file content offset m n next xs ys items e is end x b more y =
    let one = one_reading_is file content offset m next xs (ys ++ items ∷ []) (no_batches file content offset m xs is end) (ends_good file content m e x)
    (batches_go_on_is file content offset n next ys items b more) y in
    not_none ys items (sym is ∙ one.0)

good_and_torn : (file : OpenFile) (content : List ℕ) (offset m n next : ℕ) (xs ys : List (List LogItem)) (items : List LogItem) (e : Option Fault) (f : Fault)
    → EndsWhole file content offset xs m → StopsGood file content m e → HasBatches file content offset ys n → HasBatch file content n items next → EndsBehind file content next
    → IsRecordTorn file content n f → ⊥
good_and_torn file content offset m n next xs ys items e f a x b more y t =
    let one = one_reading_is file content offset m next xs (ys ++ items ∷ []) (plain_batches file content offset m xs a) (ends_good file content m e x)
    (batches_go_on_is file content offset n next ys items b more) y in
    let same : a.before ≡ ys = before_last a.before ys a.last items (sym a.split ∙ one.0) in
    let at : a.between ≡ n = one_end file content offset a.between n ys (subst (λ (l : List (List LogItem)). HasBatches file content offset l a.between) same a.first) b in
    whole_or_torn file content n f (subst (λ (k : ℕ). IsWhole file content k) at a.record_last.whole) t

one_earlier : (file : OpenFile) (content : List ℕ) (offset m n : ℕ) (xs ys : List (List LogItem)) (e f : Option Fault)
    → ReadsEarlier file content offset xs m e → ReadsEarlier file content offset ys n f → AreOne xs m e ys n f
one_earlier file content offset m n xs ys e f (none is end x) (none also there y) =
    one_plain file content offset m n xs ys e f (no_batches file content offset m xs is end) x (no_batches file content offset n ys also there) y
one_earlier file content offset m n xs ys e f (none is end x) (good b y) =
    one_plain file content offset m n xs ys e f (no_batches file content offset m xs is end) x (plain_batches file content offset n ys b) y
one_earlier file content offset m n xs ys e f (good a x) (none also there y) =
    one_plain file content offset m n xs ys e f (plain_batches file content offset m xs a) x (no_batches file content offset n ys also there) y
one_earlier file content offset m n xs ys e f (good a x) (good b y) =
    one_plain file content offset m n xs ys e f (plain_batches file content offset m xs a) x (plain_batches file content offset n ys b) y
one_earlier file content offset m n xs ys e f (none is end x) (torn items next g b more y t told) =
    absurd (none_and_torn file content offset m n next xs ys items e is end x b more y)
one_earlier file content offset m n xs ys e f (good a x) (torn items next g b more y t told) =
    absurd (good_and_torn file content offset m n next xs ys items e g a x b more y t)
one_earlier file content offset m n xs ys e f (torn items next g a more x t told) (none is end y) =
    absurd (none_and_torn file content offset n m next ys xs items f is end y a more x)
one_earlier file content offset m n xs ys e f (torn items next g a more x t told) (good b y) =
    absurd (good_and_torn file content offset n m next ys xs items f g b y a more x t)
one_earlier file content offset m n xs ys e f (torn items next g a more x t told) (torn others after h b again y u also) =
    let one = one_reading_is file content offset next after (xs ++ items ∷ []) (ys ++ others ∷ [])
    (batches_go_on_is file content offset m next xs items a more) x (batches_go_on_is file content offset n after ys others b again) y in
    let same : xs ≡ ys = before_last xs ys items others one.0 in
    (same, one_end file content offset m n ys (subst (λ (l : List (List LogItem)). HasBatches file content offset l m) same a) b, rw (told, also) refl)

-- behind an offset of a file one thing is read
pub one_behind : (last : Bool) (file : OpenFile) (content : List ℕ) (offset m n : ℕ) (xs ys : List (List LogItem)) (e f : Option Fault)
    → ReadsBehind last file content offset xs m e → ReadsBehind last file content offset ys n f → AreOne xs m e ys n f
one_behind true file content offset m n xs ys e f a b = one_last file content offset m n xs ys e f a.0 a.1 b.0 b.1
one_behind false file content offset m n xs ys e f a b = one_earlier file content offset m n xs ys e f a b

-- Entries that are added by the index of the first one.
use Rattle.std.proofs.Common.{◌≡◌, ℕ, zero, suc, ◌+◌, ◌<◌, ◌≤◌, ◌^◌, List, [], ◌∷◌, ◌++◌, length, length-append, take, get_or, Some, append-nil, append_assoc, inl, inr, Result, Ok, Err, IfErr, refl, sym, ap, subst, ◌∙◌, arith}
use Rattle.std.specs.Prelude.{IsErrAnd, slice_get}
use Rattle.std.proofs.lemmas.List.{take_more, length-take-le}
use Rattle.std.proofs.lemmas.List.Concat.{flat_map-append}
use Rattle.std.proofs.lemmas.Option.{get_or_from_slice_get, slice_get_within}
use Rattle.std.proofs.lemmas.List.Sums.{sum_by-take-le}
use Rattle.raft_log_record_items.specs.declared.entry.EntryIndex.{EntryIndex}
use Rattle.raft_log_record_items.specs.Run.{unplaced_entry}
use Rattle.raft_log_record_base.specs.declared.errors.Error.{Error}
use Rattle.raft_log_record_batches.specs.Batch.{max_entries_len}
use Rattle.raft_log_record_batches.specs.Entries.{IsIndexRun, IsRoomRefusal, RisesFrom, bytes_len, entries_of, joined}
use Rattle.raft_log_record_batches.specs.EntriesFrom.{AppendsText, IsRefusalFrom, indexes_at, indexes_from}
use Rattle.raft_log_record_batches.proofs.Entries.{entries_of-push, joined-length}

-- Indexes.

pub length-indexes_from : (first n : ℕ) → length (indexes_from first n) ≡ n
length-indexes_from first zero = refl
length-indexes_from first (suc n) = ap (λ (k : ℕ). suc k) (length-indexes_from (first + 1) n)

rises : (first n : ℕ) → RisesFrom first (indexes_from first n)
rises first zero = tt
rises first (suc n) = (refl, rises (first + 1) n)

pub indexes_from-push : (first n : ℕ) → indexes_from first (n + 1) ≡ indexes_from first n ++ (first + n) ∷ []
indexes_from-push first zero = ap (λ (k : ℕ). k ∷ []) (omega arith)
indexes_from-push first (suc n) =
    let more : first + 1 + n ≡ first + suc n = omega arith in
    let next : suc n + 1 ≡ suc (n + 1) = omega arith in
    rw next (ap (λ (l : List ℕ). first ∷ l) (indexes_from-push (first + 1) n ∙ ap (λ (k : ℕ). indexes_from (first + 1) n ++ k ∷ []) more))

-- where the last one is below 2 ^ 64 - 1, or there is none, they are those of a run
pub run_from : (first n : ℕ) → first + n < 2 ^ 64 → IsIndexRun (indexes_from first n)
run_from first zero fits = tt
run_from first (suc n) fits = ((refl, rises (first + 1) n), omega (arith, length-indexes_from first (suc n)))

-- and else, where there is one, they aren't
pub no_run_from : (first n count : ℕ) → 0 < n → 2 ^ 64 ≤ first + n → ((length (indexes_from first n) ≡ count) × IsIndexRun (indexes_from first n)) → ⊥
no_run_from first zero count some far h = omega arith
no_run_from first (suc n) count some far h = omega (arith, h.1.1, length-indexes_from first (suc n))

pub run_end : (first n : ℕ) → 0 < n → IsIndexRun (indexes_from first n) → first + n < 2 ^ 64
run_end first zero some h = absurd (omega arith)
run_end first (suc n) some h = omega (arith, h.1, length-indexes_from first (suc n))

-- One text more.

pub take_text : (texts : List (List ℕ)) (i : ℕ) (text : List ℕ) → slice_get texts i ≡ Some text → take (i + 1) texts ≡ take i texts ++ text ∷ []
take_text texts i text found =
    take_more texts i [] (slice_get_within texts i text found) ∙ ap (λ (x : List ℕ). take i texts ++ x ∷ []) (get_or_from_slice_get texts i text [] found)

pub text_more : (texts : List (List ℕ)) (i : ℕ) (old before after : List ℕ) → before ≡ old ++ joined (take i texts) → AppendsText texts i before after → after ≡ old ++ joined (take (i + 1) texts)
text_more texts i old before after h one =
    let so_far : List ℕ = joined (take i texts) in
    let more : joined (take (i + 1) texts) ≡ so_far ++ one.text =
    ap (λ (l : List (List ℕ)). joined l) (take_text texts i one.text one.found) ∙ flat_map-append (λ (x : List ℕ). x) (take i texts) (one.text ∷ []) ∙ ap (λ (l : List ℕ). so_far ++ l) (append-nil one.text) in
    one.appended ∙ ap (λ (l : List ℕ). l ++ one.text) h ∙ append_assoc old so_far one.text ∙ ap (λ (l : List ℕ). old ++ l) (sym more)

-- the entries of the first texts
abbrev pub entries_to : ℕ → List (List ℕ) → ℕ → List EntryIndex
entries_to first texts i = entries_of (indexes_from first i) (take i texts)

pub entry_more : (first : ℕ) (texts : List (List ℕ)) (i : ℕ) (placed now : List EntryIndex) (before after : List ℕ) (item : EntryIndex) (index len : ℕ) → placed ≡ entries_to first texts i
    → AppendsText texts i before after → i < length texts → now ≡ placed ++ item ∷ [] → item ≡ unplaced_entry index len → index ≡ first + i → length after ≡ length before + len → now ≡ entries_to first texts (i + 1)
entry_more first texts i placed now before after item index len h one lt push is at grown =
    let same : length (indexes_from first i) ≡ length (take i texts) = length-indexes_from first i ∙ sym (length-take-le i texts (omega arith)) in
    let size : len ≡ length one.text = omega (arith, grown, ap (λ (l : List ℕ). length l) one.appended, length-append before one.text) in
    let whole : entries_to first texts (i + 1) ≡ entries_to first texts i ++ unplaced_entry (first + i) (length one.text) ∷ [] =
    ap (λ (l : List ℕ). entries_of l (take (i + 1) texts)) (indexes_from-push first i)
    ∙ ap (λ (l : List (List ℕ)). entries_of (indexes_from first i ++ (first + i) ∷ []) l) (take_text texts i one.text one.found)
    ∙ entries_of-push (indexes_from first i) (take i texts) (first + i) one.text same in
    push ∙ ap (λ (l : List EntryIndex). l ++ item ∷ []) h
    ∙ ap (λ (x : EntryIndex). entries_to first texts i ++ x ∷ []) (is ∙ ap (λ (k : ℕ). unplaced_entry k len) at ∙ ap (λ (k : ℕ). unplaced_entry (first + i) k) size)
    ∙ sym whole

pub texts_len : (old out : List ℕ) (texts : List (List ℕ)) → out ≡ old ++ joined texts → length out ≡ length old + bytes_len texts
texts_len old out texts e = ap (λ (l : List ℕ). length l) e ∙ length-append old (joined texts) ∙ ap (λ (n : ℕ). length old + n) (joined-length texts)

pub texts_part : (texts : List (List ℕ)) (i : ℕ) → bytes_len (take i texts) ≤ bytes_len texts
texts_part texts i = sum_by-take-le (λ (x : List ℕ). length x) texts i

-- Refusals.

-- an error that is handed on
pub handed_on : {T E : Type 0} (r : Result T E) (P : E → Type 0) (e : E) → IsErrAnd r (λ x. x ≡ e) → P e → IfErr r P
handed_on (Ok v) P e same h = absurd same
handed_on (Err x) P e same h = subst P (sym same) h

-- what is said of a refusal is so of its error
pub on_refused : {T E : Type 0} (P : E → Type 0) (r : Result T E) (e : E) → Err e ≡ r → IfErr r P → P e
on_refused {T} {E} P r e is h = let Q : Result T E → Type 0 = λ x. IfErr x P in subst Q (sym is) h

-- where a buffer with a header has no room for these bytes, they don't fit into a batch
pub room_refused : (e : Error) (old held first : ℕ) (texts : List (List ℕ)) → IsIndexRun (indexes_at first texts) → old ≡ 16 + held
    → IsRoomRefusal e (16 + max_entries_len) (old + bytes_len texts) → IsRefusalFrom e held first texts
room_refused e old held first texts run header (inl is) = subst (λ (x : Error). IsRefusalFrom x held first texts) (sym is) tt
room_refused e old held first texts run header (inr (is, more)) =
    subst (λ (x : Error). IsRefusalFrom x held first texts) (sym is) ((length-indexes_from first (length texts), run), omega (arith, header, more))

-- Entries that are changed in place, one after another.
use Rattle.std.proofs.Common.{◌≡◌, ℕ, suc, ◌+◌, ◌<◌, ◌≤◌, List, [], ◌∷◌, ◌++◌, length, take, drop, map, get_or, refl, sym, ap, ◌∙◌, append_assoc, add-one, arith}
use Rattle.std.proofs.Math.ListN.{set}
use Rattle.std.proofs.Math.Seq.{drop-cons, set-append_seam, get_or-append_seam}
use Rattle.std.proofs.lemmas.List.{take_more, map-append, length-take-le, length-map, take-append-drop}
use Rattle.std.proofs.lemmas.List.Sums.{sum_by-append}
use Rattle.raft_log_record_base.specs.declared.pipe_log.FileBlockHandle.{FileBlockHandle}
use Rattle.raft_log_record_items.specs.declared.entry.EntryIndex.{EntryIndex}
use Rattle.raft_log_record_items.specs.Run.{FollowsFrom, IsRun}
use Rattle.raft_log_record_items.specs.Placed.{run_len, laid_run, written_entry}

-- ---- a list of which the front was changed

pub inner_get : {A : Type 0} (front old : List A) (i : ℕ) (d : A) → length front ≡ i → i < length old → get_or (front ++ drop i old) i d ≡ get_or old i d
inner_get {A = A} front old i d len lt =
    ap (λ (l : List A). get_or (front ++ l) i d) (drop-cons old i d lt) ∙ ap (λ (j : ℕ). get_or (front ++ get_or old i d ∷ drop (suc i) old) j d) (sym len)
    ∙ get_or-append_seam front (get_or old i d) (drop (suc i) old) d

pub inner_set : {A : Type 0} (front old : List A) (i : ℕ) (d x : A) → length front ≡ i → i < length old → set (front ++ drop i old) i x ≡ (front ++ x ∷ []) ++ drop (i + 1) old
inner_set {A = A} front old i d x len lt =
    let cut : set (front ++ drop i old) i x ≡ front ++ x ∷ drop (suc i) old =
    ap (λ (l : List A). set (front ++ l) i x) (drop-cons old i d lt) ∙ ap (λ (j : ℕ). set (front ++ get_or old i d ∷ drop (suc i) old) j x) (sym len)
    ∙ set-append_seam front (get_or old i d) (drop (suc i) old) x in
    cut ∙ ap (λ (j : ℕ). front ++ x ∷ drop j old) (sym (add-one i)) ∙ sym (append_assoc front (x ∷ []) (drop (i + 1) old))

-- ---- laying out

pub length-laid_run : (offset : ℕ) (es : List EntryIndex) → length (laid_run offset es) ≡ length es
length-laid_run offset [] = refl
length-laid_run offset (e ∷ es) = ap (λ (n : ℕ). suc n) (length-laid_run (offset + e.entry_len) es)

pub laid_run-append : (offset : ℕ) (a b : List EntryIndex) → laid_run offset (a ++ b) ≡ laid_run offset a ++ laid_run (offset + run_len a) b
laid_run-append offset [] b = ap (λ (o : ℕ). laid_run o b) (omega arith)
laid_run-append offset (e ∷ es) b =
    let whole : run_len (e ∷ es) ≡ run_len (e ∷ []) + run_len es = sum_by-append (λ (x : EntryIndex). x.entry_len) (e ∷ []) es in
    let next : offset + e.entry_len + run_len es ≡ offset + run_len (e ∷ es) = omega (arith, whole) in
    ap (λ (l : List EntryIndex). record e { entry_offset = offset } ∷ l) (laid_run-append (offset + e.entry_len) es b ∙ ap (λ (o : ℕ). laid_run (offset + e.entry_len) es ++ laid_run o b) next)

front_len : (offset : ℕ) (old : List EntryIndex) (i : ℕ) → i < length old → length (laid_run offset (take i old)) ≡ i
front_len offset old i lt = length-laid_run offset (take i old) ∙ length-take-le i old (omega arith)

pub laid_step : (offset next : ℕ) (old xs : List EntryIndex) (i : ℕ) (d : EntryIndex) → i < length old → xs ≡ laid_run offset (take i old) ++ drop i old → next ≡ offset + run_len (take i old)
    → set xs i (record (get_or xs i d) { entry_offset = next }) ≡ laid_run offset (take (i + 1) old) ++ drop (i + 1) old
laid_step offset next old xs i d lt h n =
    let front : List EntryIndex = laid_run offset (take i old) in
    let x : EntryIndex = get_or old i d in
    let here : get_or xs i d ≡ x = ap (λ (l : List EntryIndex). get_or l i d) h ∙ inner_get front old i d (front_len offset old i lt) lt in
    let laid : laid_run offset (take (i + 1) old) ≡ front ++ record x { entry_offset = next } ∷ [] =
    ap (λ (l : List EntryIndex). laid_run offset l) (take_more old i d lt) ∙ laid_run-append offset (take i old) (x ∷ [])
    ∙ ap (λ (o : ℕ). front ++ record x { entry_offset = o } ∷ []) (sym n) in
    ap (λ (y : EntryIndex). set xs i (record y { entry_offset = next })) here
    ∙ ap (λ (l : List EntryIndex). set l i (record x { entry_offset = next })) h
    ∙ inner_set front old i d (record x { entry_offset = next }) (front_len offset old i lt) lt
    ∙ ap (λ (l : List EntryIndex). l ++ drop (i + 1) old) (sym laid)

pub laid_next : (offset next : ℕ) (old xs : List EntryIndex) (i : ℕ) (d : EntryIndex) → i < length old → xs ≡ laid_run offset (take i old) ++ drop i old → next ≡ offset + run_len (take i old)
    → next + (get_or xs i d).entry_len ≡ offset + run_len (take (i + 1) old)
laid_next offset next old xs i d lt h n =
    let here : get_or xs i d ≡ get_or old i d = ap (λ (l : List EntryIndex). get_or l i d) h ∙ inner_get (laid_run offset (take i old)) old i d (front_len offset old i lt) lt in
    let len : (get_or xs i d).entry_len ≡ (get_or old i d).entry_len = ap (λ (y : EntryIndex). y.entry_len) here in
    let more : run_len (take (i + 1) old) ≡ run_len (take i old) + (get_or old i d).entry_len =
    ap (λ (l : List EntryIndex). run_len l) (take_more old i d lt) ∙ sum_by-append (λ (e : EntryIndex). e.entry_len) (take i old) (get_or old i d ∷ []) ∙ omega arith in
    omega (arith, n, len, more)

-- the entries up to here have no more bytes than all of them
pub run_len-take : (i : ℕ) (es : List EntryIndex) → run_len (take i es) ≤ run_len es
run_len-take i es =
    let whole : run_len es ≡ run_len (take i es) + run_len (drop i es) =
    ap (λ (l : List EntryIndex). run_len l) (sym (take-append-drop i es)) ∙ sum_by-append (λ (e : EntryIndex). e.entry_len) (take i es) (drop i es) in
    omega (arith, whole)

-- ---- written entries

pub written_step : (handle : FileBlockHandle) (old xs : List EntryIndex) (i : ℕ) (d : EntryIndex) → i < length old → xs ≡ map (written_entry handle) (take i old) ++ drop i old
    → set xs i (written_entry handle (get_or xs i d)) ≡ map (written_entry handle) (take (i + 1) old) ++ drop (i + 1) old
written_step handle old xs i d lt h =
    let f : EntryIndex → EntryIndex = written_entry handle in
    let front : List EntryIndex = map f (take i old) in
    let x : EntryIndex = get_or old i d in
    let len : length front ≡ i = length-map (take i old) f ∙ length-take-le i old (omega arith) in
    let here : get_or xs i d ≡ x = ap (λ (l : List EntryIndex). get_or l i d) h ∙ inner_get front old i d len lt in
    let more : map f (take (i + 1) old) ≡ front ++ f x ∷ [] = ap (λ (l : List EntryIndex). map f l) (take_more old i d lt) ∙ map-append f (take i old) (x ∷ []) in
    ap (λ (y : EntryIndex). set xs i (f y)) here
    ∙ ap (λ (l : List EntryIndex). set l i (f x)) h
    ∙ inner_set front old i d (f x) len lt
    ∙ ap (λ (l : List EntryIndex). l ++ drop (i + 1) old) (sym more)

-- ---- runs stay runs

pub follows-laid : (i offset : ℕ) (es : List EntryIndex) → FollowsFrom i es → FollowsFrom i (laid_run offset es)
follows-laid i offset [] h = tt
follows-laid i offset (e ∷ es) h = (h.0, h.1, follows-laid (i + 1) (offset + e.entry_len) es h.2)

pub run-laid : (offset : ℕ) (es : List EntryIndex) → IsRun es → IsRun (laid_run offset es)
run-laid offset [] h = tt
run-laid offset (e ∷ es) h = (follows-laid e.index offset (e ∷ es) h.0, omega (arith, h.1, length-laid_run offset (e ∷ es)))

pub follows-written : (i : ℕ) (handle : FileBlockHandle) (es : List EntryIndex) → FollowsFrom i es → FollowsFrom i (map (written_entry handle) es)
follows-written i handle [] h = tt
follows-written i handle (e ∷ es) h = (h.0, h.1, follows-written (i + 1) handle es h.2)

pub run-written : (handle : FileBlockHandle) (es : List EntryIndex) → IsRun es → IsRun (map (written_entry handle) es)
run-written handle [] h = tt
run-written handle (e ∷ es) h = (follows-written e.index handle (e ∷ es) h.0, omega (arith, h.1, length-map (e ∷ es) (written_entry handle)))

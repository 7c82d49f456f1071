-- Reading entries one after another, and runs that grow at the end.
use Rattle.std.proofs.Common.{◌≡◌, ℕ, zero, suc, ◌+◌, ◌-◌, ◌<◌, ◌^◌, List, [], ◌∷◌, ◌++◌, length, Result, Ok, Err, refl, sym, subst, ◌∙◌, append_assoc, arith}
use Rattle.std.proofs.lemmas.List.{append-nil}
use Rattle.raft_log_record_base.specs.Grammar.{◌>>=◌}
use Rattle.raft_log_record_base.proofs.Public.{with_front}
use Rattle.raft_log_record_items.specs.declared.entry.EntryIndex.{EntryIndex}
use Rattle.raft_log_record_base.specs.Fault.{Fault}
use Rattle.raft_log_record_items.specs.Reading.{entry_len_at, entries_from_at}
use Rattle.raft_log_record_items.specs.Run.{FollowsFrom, IsRun, unplaced_entry}

regroup : (front : List EntryIndex) (e : EntryIndex) (read : Result (List EntryIndex × List ℕ) Fault) → with_front front (read >>= λ x. Ok (e ∷ x.0, x.1)) ≡ with_front (front ++ e ∷ []) read
regroup front e (Ok x) = let same : front ++ (e ∷ x.0) ≡ (front ++ e ∷ []) ++ x.0 = simp append_assoc in rw same refl
regroup front e (Err f) = refl

-- one more entry is read
pub entries_go_on : (first : ℕ) (front : List EntryIndex) (count i : ℕ) (bytes : List ℕ) (len : ℕ) (after : List ℕ) (total : Result (List EntryIndex × List ℕ) Fault) → i < count → entry_len_at bytes ≡ Ok (len, after)
    → with_front front (entries_from_at (first + i) (count - i) bytes) ≡ total → with_front (front ++ unplaced_entry (first + i) len ∷ []) (entries_from_at (first + (i + 1)) (count - (i + 1)) after) ≡ total
unfolding entries_from_at
entries_go_on first front count i bytes len after total lt h so_far =
    let k : count - i ≡ suc (count - (i + 1)) = omega arith in
    let next : first + i + 1 ≡ first + (i + 1) = omega arith in
    let one : with_front front (entries_from_at (first + i) (count - i) bytes) ≡ with_front (front ++ unplaced_entry (first + i) len ∷ []) (entries_from_at (first + (i + 1)) (count - (i + 1)) after) = rw (k, h, next) (regroup front (unplaced_entry (first + i) len) (entries_from_at (first + (i + 1)) (count - (i + 1)) after)) in
    sym one ∙ so_far

-- an entry is refused
pub entries_fail : (first : ℕ) (front : List EntryIndex) (count i : ℕ) (bytes : List ℕ) (e : Fault) (total : Result (List EntryIndex × List ℕ) Fault) → i < count → entry_len_at bytes ≡ Err e
    → with_front front (entries_from_at (first + i) (count - i) bytes) ≡ total → total ≡ Err e
unfolding entries_from_at
entries_fail first front count i bytes e total lt h so_far =
    let k : count - i ≡ suc (count - (i + 1)) = omega arith in
    let one : with_front front (entries_from_at (first + i) (count - i) bytes) ≡ Err e = rw (k, h) refl in
    sym so_far ∙ one

-- all entries are read
pub entries_done : (first : ℕ) (front : List EntryIndex) (count i : ℕ) (bytes : List ℕ) (total : Result (List EntryIndex × List ℕ) Fault) → count ≡ i
    → with_front front (entries_from_at (first + i) (count - i) bytes) ≡ total → total ≡ Ok (front, bytes)
unfolding entries_from_at
entries_done first front count i bytes total le so_far =
    let k : count - i ≡ zero = omega arith in
    let one : with_front front (entries_from_at (first + i) (count - i) bytes) ≡ Ok (front, bytes) = rw k (simp append-nil) in
    sym so_far ∙ one

-- ---- runs

-- an entry with the next index at the end
pub follows-push : (i : ℕ) (es : List EntryIndex) (e : EntryIndex) → FollowsFrom i es → e.index ≡ i + length es → e.entry_len < 2 ^ 32 → FollowsFrom i (es ++ e ∷ [])
follows-push i [] e h is fits = (omega arith, fits, tt)
follows-push i (x ∷ xs) e h is fits = (h.0, h.1, follows-push (i + 1) xs e h.2 (omega arith) fits)

-- so many entries from an index on, where none of their indexes is 2 ^ 64 - 1
pub run_of : (first count : ℕ) (es : List EntryIndex) → FollowsFrom first es → length es ≡ count → first + count < 2 ^ 64 → IsRun es
run_of first count [] h len fits = tt
run_of first count (e ∷ es) h len fits = ((refl, h.1, subst (λ (i : ℕ). FollowsFrom (i + 1) es) (sym h.0) h.2), omega (arith, h.0))

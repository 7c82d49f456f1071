-- What is written of a change is never too much for a batch.
use Rattle.std.proofs.Common.{◌≡◌, ◌≢◌, ℕ, zero, suc, ◌+◌, ◌-◌, ◌*◌, ◌<◌, ◌≤◌, ◌^◌, ◌∙◌, true, false, if◌then◌else◌, List, [], ◌∷◌, length, drop, length-drop, Some, Result, Ok, Err, IfErr, refl, sym, ap, subst, arith}
use Rattle.std.specs.Prelude.{slice_get}
use Rattle.std.proofs.lemmas.Bool.Decides.{nat_tests}
use Rattle.std.proofs.lemmas.List.Sums.{sum_by-cons}
use Rattle.raft_log_record_base.specs.declared.errors.Error.{Error}
use Rattle.raft_log_record_base.specs.declared.errors.Error.TheVariants as errors
use Rattle.raft_log_record_items.specs.Items.{put_item}
use Rattle.raft_log_record_batches.specs.Batch.{Batch, Becomes, max_entries_len, with_item}
use Rattle.raft_log_record_batches.specs.Entries.{IsEntriesRefusal, bytes_len}
use Rattle.raft_log_record_batches.specs.EntriesFrom.{FailsToAddFrom, IsRefusalFrom, indexes_at}
use Rattle.raft_log_record_batches.proofs.Public.{length-indexes_from, run_from}
use Rattle.raft_voter_messages.specs.declared.request.Request.{Request}
use Rattle.raft_voter_messages.specs.declared.request.Request.TheVariants.{Vote, Append, Compact, Install, Read, Status, Retire}
use Rattle.raft_voter_messages.specs.Ranges.{in_range, total_bytes}
use Rattle.raft_voter_messages.specs.declared.reply.VoterState.{VoterState}
use Rattle.raft_voter_messages.specs.StoredForms.{entry_text, state_text}
use Rattle.raft_voter_messages.proofs.Public.{length-entry_text}
use Rattle.raft_voter_outline.specs.declared.outline.decision.Change.{Change}
use Rattle.raft_voter_outline.specs.declared.outline.decision.Write.{Write}
use Rattle.raft_voter_outline.specs.declared.outline.decision.Write.TheVariants.{StateAlone, Entries, CompactTo, Clean}
use Rattle.raft_voter_outline.specs.Decisions.{entries_in}
use Rattle.raft_voter_outline.specs.Outlines.{CanWrite, ChangesEach, sent_of, without_bytes}
use Rattle.raft_voter_outline.specs.Rules.{next, next_in_range, numbered}
use Rattle.raft_voter_outline.specs.State.{State}
use Rattle.raft_voter_records.specs.Changes.{IsFresh, voter_key, with_state}
use Rattle.raft_voter_records.specs.Entries.{entry_texts}

pub length-entry_texts : (index : ℕ) (es : List (ℕ × List ℕ)) → length (entry_texts index es) ≡ length es
length-entry_texts index [] = refl
length-entry_texts index (e ∷ es) = ap (λ (n : ℕ). suc n) (length-entry_texts (index + 1) es)

-- the text at a place is that of the entry there
pub text_at : (index : ℕ) (es : List (ℕ × List ℕ)) (place at : ℕ) (e : ℕ × List ℕ) → slice_get es place ≡ Some e → at ≡ index + place
    → slice_get (entry_texts index es) place ≡ Some (entry_text (record { index = at; term = e.0; bytes = e.1 }))
text_at index [] place at e found is = absurd cc
text_at index (x ∷ xs) zero at e found is =
    let here : at ≡ index = omega arith in
    let same : x ≡ e = cc in
    rw (here, same) refl
text_at index (x ∷ xs) (suc place) at e found is = text_at (index + 1) xs place at e found (omega arith)

pub bytes_len-entry_texts : (index : ℕ) (es : List (ℕ × List ℕ)) → bytes_len (entry_texts index es) ≡ 17 * length es + total_bytes es
bytes_len-entry_texts index [] = refl
bytes_len-entry_texts index (e ∷ es) =
    let own = length-entry_text (record { index = index; term = e.0; bytes = e.1 }) in
    let texts = sum_by-cons (λ (t : List ℕ). length t) (entry_text (record { index = index; term = e.0; bytes = e.1 })) (entry_texts (index + 1) es) in
    let bytes = sum_by-cons (λ (x : ℕ × List ℕ). length x.1) e es in
    let more = bytes_len-entry_texts (index + 1) es in
    omega (arith, own, texts, bytes, more)

pub total_bytes-drop : (n : ℕ) (es : List (ℕ × List ℕ)) → total_bytes (drop n es) ≤ total_bytes es
total_bytes-drop zero es = omega arith
total_bytes-drop (suc n) [] = omega arith
total_bytes-drop (suc n) (e ∷ es) = omega (arith, sum_by-cons (λ (x : ℕ × List ℕ). length x.1) e es, total_bytes-drop n es)

-- a request that changes a voter is in range
pub changes_in_range : (v : State) (q : Request) → next v q ≢ v → in_range q ≡ true
changes_in_range v q moves =
    elim (in_range q) as (λ b. ((if b then next_in_range v q else v) ≡ v → ⊥) → b ≡ true) [ true ↦ λ other. refl | false ↦ λ other. absurd (other refl) ] moves

-- what a request in range brings isn't too much
pub brought_small : (q : Request) → in_range q ≡ true → (length (sent_of q) ≤ 1024) × (total_bytes (sent_of q) ≤ 1048576)
brought_small (Append term prev prev_term commit sent) fit = grind (arith, nat_tests)
brought_small (Vote term candidate index last) fit = (omega arith, omega arith)
brought_small (Compact index) fit = (omega arith, omega arith)
brought_small (Install term index entry_term) fit = (omega arith, omega arith)
brought_small (Read from to) fit = (omega arith, omega arith)
brought_small Status fit = (omega arith, omega arith)
brought_small Retire fit = (omega arith, omega arith)

-- so that memory alone can be refused where its entries are added to a batch that has none
pub memory_alone : (e : Error) (v : State) (q : Request) (skipped index : ℕ) → next v q ≢ v → index + (length (sent_of q) - skipped) ≤ 2 ^ 63
    → IsRefusalFrom e 0 index (entry_texts index (drop skipped (sent_of q))) → e ≡ errors.Memory
memory_alone errors.Memory v q skipped index moves fits h = refl
memory_alone (errors.InvalidArgument text) v q skipped index moves fits h =
    let texts = entry_texts index (drop skipped (sent_of q)) in
    let count = length-entry_texts index (drop skipped (sent_of q)) ∙ length-drop skipped (sent_of q) in
    absurd (h.0 (length-indexes_from index (length texts), run_from index (length texts) (omega (arith, count))))
memory_alone errors.Full v q skipped index moves fits h =
    let small = brought_small q (changes_in_range v q moves) in
    let count = length-drop skipped (sent_of q) in
    absurd (omega (arith, h.1, bytes_len-entry_texts index (drop skipped (sent_of q)), total_bytes-drop skipped (sent_of q), small.0, small.1, count))
memory_alone e v q skipped index moves fits h = absurd h

-- so it is of what is told of an addition
pub memory_only : {T : Type 0} (r : Result T Error) (b : Batch) (o : State) (q : Request) (c : Change) (skipped index first : ℕ) (es given : List (ℕ × List ℕ)) → ChangesEach o q c → without_bytes o ≡ o
    → c.write ≡ Entries skipped index → IsFresh b → first ≡ index → es ≡ given → given ≡ entries_in c.write q → IfErr r (λ e. FailsToAddFrom e b index (entry_texts first es)) → IfErr r (λ e. e ≡ errors.Memory)
memory_only (Ok v) b o q c skipped index first es given changes own is fresh f g h refused = tt
memory_only (Err e) b o q c skipped index first es given changes own is fresh f g h refused =
    let change = changes o own in
    let W : Write → Type 0 = λ w. CanWrite w q o in
    let can : CanWrite (Entries skipped index) q o = subst W is change.can in
    let brought : es ≡ drop skipped (sent_of q) = g ∙ h ∙ ap (λ (w : Write). entries_in w q) is in
    let none : length b.entries ≡ 0 = ap (λ (x : Batch). length x.entries) fresh in
    let A : ℕ → Type 0 = λ held. IsRefusalFrom e held index (entry_texts first es) in
    let B : ℕ → Type 0 = λ i. IsRefusalFrom e 0 index (entry_texts i es) in
    let C : List (ℕ × List ℕ) → Type 0 = λ xs. IsRefusalFrom e 0 index (entry_texts index xs) in
    memory_alone e o q skipped index change.moves can.3 (subst C brought (subst B f (subst A none refused)))

-- the new state behind what is done to the log
pub then_state : (w mid new : Batch) (group : ℕ) (write : Write) (state : VoterState) → Becomes w mid → Becomes (with_state mid group write state) new → Becomes (with_state w group write state) new
then_state w mid new group Clean state one more = (more.0 ∙ ap (λ (b : Batch). record b { capacity = new.capacity; buffer = new.buffer }) one.0, omega (arith, one.1, more.1))
then_state w mid new group StateAlone state one more =
    (more.0 ∙ ap (λ (b : Batch). record (with_item b (put_item group voter_key (state_text state))) { capacity = new.capacity; buffer = new.buffer }) one.0, omega (arith, one.1, more.1))
then_state w mid new group (Entries skipped index) state one more =
    (more.0 ∙ ap (λ (b : Batch). record (with_item b (put_item group voter_key (state_text state))) { capacity = new.capacity; buffer = new.buffer }) one.0, omega (arith, one.1, more.1))
then_state w mid new group (CompactTo index) state one more =
    (more.0 ∙ ap (λ (b : Batch). record (with_item b (put_item group voter_key (state_text state))) { capacity = new.capacity; buffer = new.buffer }) one.0, omega (arith, one.1, more.1))

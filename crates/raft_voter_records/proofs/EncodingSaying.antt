-- The batch of a change says what was decided.
use Rattle.std.proofs.Common.{◌≡◌, ℕ, ◌+◌, ◌<◌, ◌++◌, ◌∙◌, Bool, false, if◌then◌else◌, List, [], ◌∷◌, length, map, drop, length-drop, append-nil, Some, refl, sym, ap, subst, arith}
use Rattle.raft_log_model_laws.specs.Item.Item.{Clean as CleanItem, Compact as CompactItem, Put, Run}
use Rattle.raft_log_model_laws.specs.Item.Record.{Plain}
use Rattle.raft_log_record_items.specs.declared.command.Command.TheVariants as commands
use Rattle.raft_log_record_items.specs.declared.entry.EntryIndex.{EntryIndex}
use Rattle.raft_log_record_items.specs.declared.item.LogItem.{LogItem}
use Rattle.raft_log_record_items.specs.Items.{put_item}
use Rattle.raft_log_record_items.specs.Placed.{laid_run}
use Rattle.raft_log_record_frames.specs.declared.marking.Marking.{Marking}
use Rattle.raft_log_record_frames.specs.Marking.{has_mark_key}
use Rattle.raft_log_record_frames.specs.Meaning.{IsUsers, marked, record_of, tagged, tagged_items, unless_mark}
use Rattle.raft_log_record_frames.proofs.Public.{keeps_mark, no_mark_key}
use Rattle.raft_log_record_batches.specs.Batch.{Batch, empty_batch}
use Rattle.raft_log_record_batches.specs.Entries.{entries_item, entries_of, joined, with_entries}
use Rattle.raft_log_record_frames.specs.ItemBatch.{command_item}
use Rattle.raft_log_record_batches.specs.Places.{entry_bytes}
use Rattle.raft_log_record_batches.proofs.Public.{added_bytes, length-indexes_from}
use Rattle.raft_voter_messages.specs.declared.reply.VoterState.{VoterState}
use Rattle.raft_voter_messages.specs.declared.request.Request.{Request}
use Rattle.raft_voter_messages.specs.declared.request.Request.TheVariants.{Vote, Append, Compact, Install, Read, Status, Retire}
use Rattle.raft_voter_messages.specs.StoredForms.{entry_text, state_text}
use Rattle.raft_voter_outline.specs.declared.outline.decision.Change.{Change}
use Rattle.raft_voter_outline.specs.declared.outline.decision.Write.{Write}
use Rattle.raft_voter_outline.specs.declared.outline.decision.Write.TheVariants as writes
use Rattle.raft_voter_outline.specs.Outlines.{CanWrite, IsChangeOf, sent_of, write_of}
use Rattle.raft_voter_outline.specs.Rules.{is_retire}
use Rattle.raft_voter_outline.specs.State.{State}
use Rattle.raft_voter_records.specs.MeaningChanges.{Words, decided_items, record_in, run_items, write_items}
use Rattle.raft_voter_records.specs.Changes.{IsFresh, voter_key, with_change, with_state, with_write}
use Rattle.raft_log_record_batches.specs.EntriesFrom.{indexes_at}
use Rattle.raft_voter_records.specs.Entries.{entry_texts}
use Rattle.raft_voter_records.specs.EncodingLaws.{ChangesAreSaid}

-- Batches of one item, and of two.

one : {E : Type 0} (entry : EntryIndex → E) (x : LogItem) → IsUsers x.content → record_of entry (x ∷ []) ≡ Some (Plain (tagged entry x ∷ []))
one entry x u =
    ap (λ (m : Marking). marked m (tagged_items entry (x ∷ []))) (keeps_mark [] x u)
    ∙ ap (λ (b : Bool). Some (Plain (unless_mark b (tagged entry x) []))) (no_mark_key x u)

two : {E : Type 0} (entry : EntryIndex → E) (x y : LogItem) → IsUsers x.content → IsUsers y.content → record_of entry (x ∷ y ∷ []) ≡ Some (Plain (tagged entry x ∷ tagged entry y ∷ []))
two entry x y u w =
    ap (λ (m : Marking). marked m (tagged_items entry (x ∷ y ∷ []))) (keeps_mark (x ∷ []) y w ∙ keeps_mark [] x u)
    ∙ ap (λ (b : Bool). Some (Plain (unless_mark b (tagged entry x) (unless_mark (has_mark_key y) (tagged entry y) [])))) (no_mark_key x u)
    ∙ ap (λ (b : Bool). Some (Plain (tagged entry x ∷ unless_mark b (tagged entry y) []))) (no_mark_key y w)

-- what stands in a batch says these items of a group
abbrev pub Says : ℕ → Batch → List Words → Type 0
Says g b xs = record_of (entry_bytes b.entries) b.items ≡ Some (record_in g xs)

-- an empty batch that is filled with what is done to a log, and the new state
abbrev pub filled : ℕ → ℕ → ℕ → Write → VoterState → List (ℕ × List ℕ) → Batch
filled n k g w s sent = with_state (with_write (empty_batch n k) g w sent) g w s

-- the state, unless the request retires the voter
abbrev pub state_unless : Bool → VoterState → List Words
state_unless b s = if b then [] else Put voter_key (state_text s) ∷ []

-- Entries.

-- the entries of a batch that has no others are read as the texts that were added
run_bytes : (g index : ℕ) (t : List ℕ) (ts : List (List ℕ))
    → map (entry_bytes (joined (t ∷ ts))) (laid_run 0 (entries_of (indexes_at index (t ∷ ts)) (t ∷ ts))) ≡ t ∷ ts
run_bytes g index t ts =
    let texts : List (List ℕ) = t ∷ ts in
    let old : Batch = empty_batch 0 0 in
    let run : List EntryIndex = laid_run 0 (entries_of (indexes_at index texts) texts) in
    ap (λ (es : List EntryIndex). map (entry_bytes (joined texts)) es) (sym (append-nil run))
    ∙ added_bytes old (with_entries old g (indexes_at index texts) texts) g (indexes_at index texts) texts refl refl (length-indexes_from index (length texts)) (refl, omega arith)

-- a request that isn't written as Clean isn't Retire
not_retire : (v : State) (q : Request) (w : Write) → w ≡ write_of v q → (w ≡ writes.Clean → ⊥) → is_retire q ≡ false
not_retire v Retire w is other = absurd (other is)
not_retire v (Vote term candidate index last) w is other = refl
not_retire v (Append term prev prev_term commit sent) w is other = refl
not_retire v (Compact index) w is other = refl
not_retire v (Install term index entry_term) w is other = refl
not_retire v (Read from to) w is other = refl
not_retire v Status w is other = refl

-- the entries that are written, and behind them the state
entries_say : (g n k index : ℕ) (s : VoterState) (es : List (ℕ × List ℕ)) → 0 < length es
    → Says g (with_state (with_entries (empty_batch n k) g (indexes_at index (entry_texts index es)) (entry_texts index es)) g writes.StateAlone s)
    (run_items index es ++ state_unless false s)
entries_say g n k index s [] some = absurd (omega arith)
entries_say g n k index s (e ∷ es) some =
    let t : List ℕ = entry_text (record { index = index; term = e.0; bytes = e.1 }) in
    let ts : List (List ℕ) = entry_texts (index + 1) es in
    let texts : List (List ℕ) = t ∷ ts in
    two (entry_bytes (joined texts)) (entries_item g 0 (indexes_at index texts) texts) (put_item g voter_key (state_text s)) tt refl
    ∙ ap (λ (bs : List (List ℕ)). Some (record_in g (Run index bs ∷ Put voter_key (state_text s) ∷ []))) (run_bytes g index t ts)

-- By what is done to the log.

write_says : (g n k : ℕ) (w : Write) (s : VoterState) (q : Request) (v : State) → CanWrite w q v → w ≡ write_of v q
    → Says g (filled n k g w s (sent_of q)) (write_items w (sent_of q) ++ state_unless (is_retire q) s)
write_says g n k writes.StateAlone s q v can is =
    one (entry_bytes []) (put_item g voter_key (state_text s)) refl
    ∙ ap (λ (b : Bool). Some (record_in g (state_unless b s))) (sym can)
write_says g n k (writes.Entries skipped index) s q v can is =
    let kept : is_retire q ≡ false = not_retire v q (writes.Entries skipped index) is (λ e. cc) in
    let es : List (ℕ × List ℕ) = drop skipped (sent_of q) in
    entries_say g n k index s es (omega (arith, can.2, length-drop skipped (sent_of q)))
    ∙ ap (λ (b : Bool). Some (record_in g (run_items index es ++ state_unless b s))) (sym kept)
write_says g n k (writes.CompactTo index) s q v can is =
    let kept : is_retire q ≡ false = not_retire v q (writes.CompactTo index) is (λ e. cc) in
    two (entry_bytes []) (command_item g (commands.Compact (index + 1))) (put_item g voter_key (state_text s)) tt refl
    ∙ ap (λ (b : Bool). Some (record_in g (CompactItem (index + 1) ∷ state_unless b s))) (sym kept)
write_says g n k writes.Clean s q v can is =
    one (entry_bytes []) (command_item g commands.Clean) tt
    ∙ ap (λ (b : Bool). Some (record_in g (CleanItem ∷ state_unless b s))) (sym can)

-- The law.

fresh_says : (old : Batch) (g : ℕ) (c : Change) (q : Request) (v : State) → IsFresh old → IsChangeOf v q c → Says g (with_change old g c q) (decided_items c q)
fresh_says old g c q v fresh h =
    subst (λ (b : Batch). Says g (with_change b g c q) (decided_items c q)) (sym fresh) (write_says g old.capacity old.buffer c.write c.state q v h.can h.write_is)

pub changes_are_said : ChangesAreSaid
changes_are_said old new g c q v fresh h becomes =
    let wanted : Batch = with_change old g c q in
    let items : new.items ≡ wanted.items = ap (λ (b : Batch). b.items) becomes.0 in
    let entries : new.entries ≡ wanted.entries = ap (λ (b : Batch). b.entries) becomes.0 in
    ap (λ (xs : List LogItem). record_of (entry_bytes new.entries) xs) items ∙ ap (λ (bytes : List ℕ). record_of (entry_bytes bytes) wanted.items) entries
    ∙ fresh_says old g c q v fresh h

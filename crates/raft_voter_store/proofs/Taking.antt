-- One request: each exit is a call of one law.
use Rattle.std.proofs.Common.{◌≡◌, ℕ, ◌<◌, ◌^◌, ◌==◌, true, false, if◌then◌else◌, List, [], length, map, Option, Some, None, refl, sym, ap, subst, inl, inr, ◌∙◌, arith}
use Rattle.std.proofs.Math.Path.{fun_ext}
use Rattle.std.specs.Prelude.{◌⊎◌, OnSome}
use Rattle.std.specs.Borrow.{MutBor}
use Rattle.std.proofs.lemmas.Bool.{cases_Bool, false≢true}
use Rattle.raft_log_record_base.specs.declared.errors.Error.{Error}
use Rattle.raft_log_record_base.specs.declared.errors.Error.TheVariants as errors
use Rattle.raft_log_record_items.specs.declared.raw_message.RawMessage.{RawMessage}
use Rattle.raft_log_record_frames.specs.Record.{record_len}
use Rattle.raft_log_record_batches.specs.Batch.{Batch}
use Rattle.raft_log_engine.specs.raft_log_engine_laws.specs.Fetching.{FailsToFetch, FetchesTo, HadFailed, StaysButBlock}
use Rattle.raft_log_engine.specs.raft_log_engine_laws.specs.EngineState.{EngineState, has_failed}
use Rattle.raft_log_engine.specs.raft_log_engine_laws.specs.Writing.{NotWritten, WritesBytes}
use Rattle.raft_voter_messages.specs.declared.reply.Entry.{Entry}
use Rattle.raft_voter_messages.specs.declared.reply.Reply.{Reply}
use Rattle.raft_voter_messages.specs.declared.reply.Reply.TheVariants as replies
use Rattle.raft_voter_messages.specs.declared.request.Request.{Request}
use Rattle.raft_voter_messages.specs.declared.request.Request.TheVariants.{Read}
use Rattle.raft_voter_messages.specs.declared.request.Request.TheVariants as requests
use Rattle.raft_voter_messages.specs.Ranges.{in_range}
use Rattle.raft_voter_outline.specs.declared.outline.decision.Answer.TheVariants as answers
use Rattle.raft_voter_outline.specs.declared.outline.decision.Change.{Change}
use Rattle.raft_voter_outline.specs.Decisions.{OutlineBecomes}
use Rattle.raft_voter_outline.specs.Outlines.{ChangesEach, IsReplyOfEach, LeavesEach, Outlined}
use Rattle.raft_voter_outline.specs.Rules.{is_retire, next, next_in_range}
use Rattle.raft_voter_outline.specs.State.{State, fresh}
use Rattle.raft_voter_outline.specs.declared.outlines.Outlines.{Outlines}
use Rattle.raft_voter_outline.specs.Kept.{kept_of, kept_or_fresh, outlines_in}
use Rattle.raft_voter_outline.specs.Lending.{HasOutline}
use Rattle.raft_voter.specs.Laws.{AreReadAs}
use Rattle.raft_voter_durability_laws.specs.Laws.{IsBare}
use Rattle.raft_voter_durability_laws.specs.Reads.{IsCounted, IsRaw}
use Rattle.raft_voter_durability_laws.specs.Requests.{SaysChange, Served, StepsOutlines, TurnedDown}
use Rattle.raft_voter_durability_laws.specs.Requests.WasTurnedDown.{no_memory}
use Rattle.raft_voter_durability_laws.proofs.Public.{fetched_entries_are_read, read_requests_are_served, unfetched_entries_are_unread, unmade_requests_are_turned_down, unread_requests_are_turned_down, unwritten_requests, written_requests_are_served}
use Rattle.raft_voter_recovery.proofs.Public.{stays_at_first}
use Rattle.raft_voter_store.specs.Reading.{FailsToReadEntries, FetchesRaw, ReadsEntriesTo, raw_message}
use Rattle.raft_voter_store.specs.Reading.FailsToReadEntries.{failed, unfetched, unread}
use Rattle.raft_voter_store.specs.Taking.{FailsToTake}
use Rattle.raft_voter_store.specs.Writing.{FailsToWriteChange}
use Rattle.raft_voter_store.specs.Writing.FailsToWriteChange.{unsaid, unwritten}

-- Changes.

pub write_served : (q : ℕ × Request) (a : Reply) (c : Change) (b : Batch) (len : ℕ) (s t : EngineState) (os ws us : ℕ → State) → ((g : ℕ) → ws g ≡ os g) → IsBare (os q.0) → IsReplyOfEach (os q.0) q.1 (answers.Told a)
    → ChangesEach (os q.0) q.1 c → SaysChange q.0 q.1 c b → StepsOutlines q ws us → WritesBytes b false len s t → Served q a true s t os us
write_served q a c b len s t os ws us same bare told changes says steps writes =
    written_requests_are_served q a c b len s t os us bare told changes says (subst (λ (o : ℕ → State). StepsOutlines q o us) (fun_ext same) steps) writes

-- what was served is served in an equal state, with equal outlines
pub served_on : (q : ℕ × Request) (a : Reply) (s t u : EngineState) (os us vs : ℕ → State) → u ≡ t → ((g : ℕ) → vs g ≡ us g) → Served q a true s t os us → Served q a true s u os vs
served_on q a s t u os us vs engine voters served =
    subst (λ (e : EngineState). Served q a true s e os vs) (sym engine) (subst (λ (o : ℕ → State). Served q a true s t os o) (sym (fun_ext voters)) served)

-- the outline of a group that was retired is fresh
pub retired_fresh : (g : ℕ) (r : Request) (os us : ℕ → State) → IsBare (os g) → StepsOutlines (g, r) os us → is_retire r ≡ true → us g ≡ fresh
retired_fresh g requests.Retire os us bare steps is = sym (steps.own (os g) bare)
retired_fresh g (requests.Vote a b c d) os us bare steps is = absurd (false≢true is)
retired_fresh g (requests.Append a b c d e) os us bare steps is = absurd (false≢true is)
retired_fresh g (requests.Compact a) os us bare steps is = absurd (false≢true is)
retired_fresh g (requests.Install a b c) os us bare steps is = absurd (false≢true is)
retired_fresh g (requests.Read a b) os us bare steps is = absurd (false≢true is)
retired_fresh g requests.Status os us bare steps is = absurd (false≢true is)

pub write_failed : (q : ℕ × Request) (c : Change) (b : Batch) (error : Error) (s t : EngineState) (os ws : ℕ → State) → ((g : ℕ) → ws g ≡ os g) → has_failed s ≡ false → ChangesEach (os q.0) q.1 c → SaysChange q.0 q.1 c b
    → record_len b.items b.entries < 2 ^ 56 → NotWritten b error s t → FailsToTake q error s t os ws
write_failed q c b error s t os ws same alive changes says short refused = (fun_ext same, unwritten_requests q c b error s t os alive changes says short refused)

pub unmade : (q : ℕ × Request) (error : Error) (s : EngineState) (os ws : ℕ → State) → error ≡ errors.Memory → ((g : ℕ) → ws g ≡ os g) → has_failed s ≡ false → FailsToTake q error s s os ws
unmade q error s os ws is same alive =
    (fun_ext same, inl (subst (λ (e : Error). TurnedDown q e s s os) (sym is) (unmade_requests_are_turned_down q s os alive)))

pub unwritten_fails : (q : ℕ × Request) (c : Change) (error : Error) (s t : EngineState) (os ws : ℕ → State) → ((g : ℕ) → ws g ≡ os g) → has_failed s ≡ false → ChangesEach (os q.0) q.1 c → FailsToWriteChange q c error s t
    → FailsToTake q error s t os ws
unwritten_fails q c error s t os ws same alive changes (unsaid is stays) = subst (λ (x : EngineState). FailsToTake q error s x os ws) (sym stays) (unmade q error s os ws is same alive)
unwritten_fails q c error s t os ws same alive changes (unwritten b says short refused) = write_failed q c b error s t os ws same alive changes says short refused

-- Outlines that are lent.

-- the outline that is kept is that of the group's voter
pub kept_is : (outlines : Outlines) (g : ℕ) (o : Outlined) → kept_of outlines g ≡ Some o → o.voter ≡ outlines_in outlines g
kept_is outlines g o is = sym (ap kept_or_fresh is)

-- an outline was lent
pub has_lent : (r : Option (MutBor Outlined)) (o : MutBor Outlined) {P : Type 0} → r ≡ Some o → OnSome r P → P
has_lent r o {P} is has = subst (λ (x : Option (MutBor Outlined)). OnSome x P) is has

pub steps_lent : (q : ℕ × Request) (old new : Outlines) (o w : Outlined) → kept_of old q.0 ≡ Some o → HasOutline q.0 old new w → OutlineBecomes o.voter q.1 w.voter
    → StepsOutlines q (outlines_in old) (outlines_in new)
steps_lent q old new o w is has becomes = record {
  own = subst (λ (v : State). OutlineBecomes v q.1 (outlines_in new q.0)) (kept_is old q.0 o is) (subst (λ (v : State). OutlineBecomes o.voter q.1 v) (sym has.own) becomes);
  others = has.others;
}

equal_if : (a b : ℕ) → (a == b) ≡ true → a ≡ b
equal_if a b h = grind (arith, h)

-- where the voters were as they were before, they step from those
pub steps_over : (q : ℕ × Request) (os us ws : ℕ → State) → ((g : ℕ) → us g ≡ os g) → StepsOutlines q us ws → StepsOutlines q os ws
steps_over q os us ws same steps = record {
  own = subst (λ (v : State). OutlineBecomes v q.1 (ws q.0)) (same q.0) steps.own;
  others = λ g f. steps.others g f ∙ same g;
}

pub same_lent : (group : ℕ) (old new : Outlines) (o w : Outlined) → kept_of old group ≡ Some o → HasOutline group old new w → w.voter ≡ o.voter → (g : ℕ) → outlines_in new g ≡ outlines_in old g
same_lent group old new o w is has same g =
    elim (cases_Bool (g == group)) [
      | inl t ↦ subst (λ (j : ℕ). outlines_in new j ≡ outlines_in old j) (sym (equal_if g group t)) (has.own ∙ same ∙ kept_is old group o is)
      | inr f ↦ has.others g f
    ]

-- the voter of a group of which no outline is kept is a fresh one
pub fresh_unkept : (outlines : Outlines) (group : ℕ) → kept_of outlines group ≡ None → outlines_in outlines group ≡ fresh
fresh_unkept outlines group none = ap kept_or_fresh none

-- a fresh outline was kept as that of a fresh voter
pub same_put : (group : ℕ) (old new : Outlines) (put : State) → outlines_in old group ≡ fresh → put ≡ fresh → outlines_in new group ≡ put → ((g : ℕ) → (g == group) ≡ false → outlines_in new g ≡ outlines_in old g)
    → (g : ℕ) → outlines_in new g ≡ outlines_in old g
same_put group old new put was is own others g =
    elim (cases_Bool (g == group)) [
      | inl t ↦ subst (λ (j : ℕ). outlines_in new j ≡ outlines_in old j) (sym (equal_if g group t)) (own ∙ is ∙ sym was)
      | inr f ↦ others g f
    ]

-- Entries.

-- the bytes of a message
abbrev pub text_of : RawMessage → List ℕ
text_of m = m.bytes

raw : IsRaw text_of raw_message
raw bytes = (record { bytes = bytes }, refl, refl)

read_leaves : (v : State) (from to : ℕ) → next v (Read from to) ≡ v
read_leaves v from to =
    elim (in_range (Read from to)) as (λ b. (if b then next_in_range v (Read from to) else v) ≡ v) [ true ↦ refl | false ↦ refl ]

leaves : (o : State) (q : Request) (from to : ℕ) → IsReplyOfEach o q (answers.Entries from to) → LeavesEach o q
leaves o q from to told v is =
    subst (λ (r : Request). next v r ≡ v) (sym (told v is).1.0) (read_leaves v from to)

pub read_served : (q : ℕ × Request) (from to : ℕ) (s t : EngineState) (os : ℕ → State) (es : List Entry) → IsReplyOfEach (os q.0) q.1 (answers.Entries from to) → IsCounted s
    → ReadsEntriesTo q.0 from to None s t es → Served q (replies.Entries es) false s t os os
read_served q from to s t os es told counted r =
    read_requests_are_served q from to es s t os told (leaves (os q.0) q.1 from to told)
    (fetched_entries_are_read text_of raw_message raw q from to (length r.messages) s t os r.messages es counted told r.fetches r.read)

pub read_failed : (q : ℕ × Request) (from to : ℕ) (error : Error) (s t : EngineState) (os : ℕ → State) → has_failed s ≡ false → IsReplyOfEach (os q.0) q.1 (answers.Entries from to)
    → FailsToReadEntries q.0 from to None s t error → FailsToTake q error s t os os
read_failed q from to error s t os alive told (failed had) = absurd cc
read_failed q from to error s t os alive told (unfetched f) =
    (refl, inl (unread_requests_are_turned_down q error s t os (unfetched_entries_are_unread text_of raw_message raw q from to error s t os told f)))
read_failed q from to error s t os alive told (unread is messages f) =
    (refl, inl (unread_requests_are_turned_down q error s t os (record { alive = f.lived; stays = f.stays; why = λ home m pending W holds means outlines. no_memory is })))

-- By the list that a read begins with.

pub fetches_raw : (g low high count : ℕ) (max : Option ℕ) (s t : EngineState) (old ms : List RawMessage) → old ≡ [] → FetchesTo raw_message g low high max s t old ms count → FetchesRaw g low high max s t ms
fetches_raw g low high count max s t old ms none f =
    let from : FetchesTo raw_message g low high max s t [] ms count = subst (λ (l : List RawMessage). FetchesTo raw_message g low high max s t l ms count) none f in
    let adds : ms ≡ from.messages = from.adds in
    subst (λ (n : ℕ). FetchesTo raw_message g low high max s t [] ms n) (from.counts.0 ∙ ap length (sym adds)) from

pub reads_some : (g low high count : ℕ) (max : Option ℕ) (s t : EngineState) (old ms slice : List RawMessage) (es : List Entry) → old ≡ [] → slice ≡ ms → FetchesTo raw_message g low high max s t old ms count
    → AreReadAs low (map text_of slice) es → ReadsEntriesTo g low high max s t es
reads_some g low high count max s t old ms slice es none same f read =
    record { messages = ms; fetches = fetches_raw g low high count max s t old ms none f; read = subst (λ (l : List RawMessage). AreReadAs low (map text_of l) es) same read }

-- a fetch that failed
pub not_fetched : (g low high : ℕ) (max : Option ℕ) (s t : EngineState) (error : Error) → HadFailed s t error ⊎ FailsToFetch raw_message g low high s t error → FailsToReadEntries g low high max s t error
not_fetched g low high max s t error (inl had) = failed had
not_fetched g low high max s t error (inr f) = unfetched f

pub unfetched_stays : (g low high : ℕ) (s t : EngineState) (error : Error) → HadFailed s t error ⊎ FailsToFetch raw_message g low high s t error → StaysButBlock s t
unfetched_stays g low high s t error (inl had) = subst (λ (x : EngineState). StaysButBlock s x) (sym had.2) (stays_at_first s)
unfetched_stays g low high s t error (inr f) = f.stays

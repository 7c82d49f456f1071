-- An entry that a matched Append brought, as a later Read returns it.
use Rattle.std.proofs.Common.{◌≡◌, ℕ, ◌+◌, ◌-◌, ◌≤◌, ◌<◌, ◌⊎◌, List, [], ◌∷◌, ◌++◌, length, drop, Option, None, Some, refl, sym, ap, ◌∙◌, inl, inr, arith}
use Rattle.std.specs.Prelude.{nat_lt, slice_get}
use Rattle.std.proofs.lemmas.Bool.{cases_Bool, cases_lt, ltb-true}
use Rattle.std.proofs.lemmas.Option.{slice_get_within}
use Rattle.raft_voter_messages.specs.declared.reply.Entry.{Entry}
use Rattle.raft_voter_messages.specs.declared.reply.Reply.{Reply}
use Rattle.raft_voter_messages.specs.declared.reply.Reply.TheVariants.{Entries, Matched}
use Rattle.raft_voter_messages.specs.declared.request.Request.{Request}
use Rattle.raft_voter_messages.specs.declared.request.Request.TheVariants.{Append, Read}
use Rattle.raft_voter_outline.specs.State.{State, entry_at, fresh}
use Rattle.raft_voter_outline.specs.Rules.{matching, next, reply}
use Rattle.raft_voter.specs.Accounts.{voter_after, voter_from}
use Rattle.raft_voter.specs.Laws.{AllSpare, EntriesAreTheLog, sent_at}
use Rattle.raft_voter.proofs.Public.{entry_all_spared, entry_brought, entry_kept, group_runs, matched_there, matches_of, runs_append, voter_from-append, Matches}
use Rattle.raft_voter_outline.proofs.Public.{Pair}
use Rattle.raft_voter_group_laws.specs.Laws.{AppendedEntryIsRead}
use Rattle.raft_voter_group_laws.proofs.OfAccounts.{account_lists_taken_calls}

-- an entry that an Append brought is one of those sent
brought_within :
    (p i : ℕ) (sent : List Pair) (e : Pair) → sent_at p sent i ≡ Some e → (p < i) × (i - p - 1 < length sent)
brought_within p i sent e here = elim (cases_Bool (nat_lt p i)) [
  | inr out ↦ let none : None ≡ Some e = rw out at here in absurd (cc)
  | inl inside ↦
      let there : slice_get sent (i - p - 1) ≡ Some e = rw inside at here in
      (ltb-true p i inside, slice_get_within sent (i - p - 1) e there)
]

-- a matched entry is there, with the bytes sent or those that were there before
matched_or_there :
    (v : State) (t p u commit last i : ℕ) (sent : List Pair) (e : Pair) → Matches v t p u commit last sent
    → sent_at p sent i ≡ Some e
    → (bytes : List ℕ) × (entry_at (next v (Append t p u commit sent)) i ≡ Some (e.0, bytes))
    × ((bytes ≡ e.1) ⊎ (entry_at v i ≡ Some (e.0, bytes)))
matched_or_there v t p u commit last i sent e m here =
    let same = matching (drop (p - v.base_index) v.log) sent in
    elim (cases_lt i (p + 1 + same)) [
      | inl before ↦
          let there = matched_there v t p u commit last i sent e m here in
          (there.0, there.1, inr (sym (entry_kept v t p u commit last i sent m before) ∙ there.1))
      | inr past ↦
          let inside = brought_within p i sent e here in
          let less : same < length sent = omega (arith, inside.0, inside.1, past) in
          (e.1, entry_brought v t p u commit last i sent m less past ∙ here, inl refl)
    ]

-- an entry is known by its three values
same_entry :
    (x : Entry) (i term : ℕ) (bytes : List ℕ) → x.index ≡ i → ◌≡◌ {A = Option Pair} (Some (x.term, x.bytes)) (Some (term, bytes))
    → Some x ≡ Some (record { index = i; term = term; bytes = bytes })
same_entry x i term bytes index both =
    let pair : ◌≡◌ {A = Pair} (x.term, x.bytes) (term, bytes) = cc in
    let terms : x.term ≡ term = ap (λ (e : Pair). e.0) pair in
    let texts : x.bytes ≡ bytes = ap (λ (e : Pair). e.1) pair in
    ap (λ (n : ℕ). let made : Option Entry = Some (record { index = n; term = x.term; bytes = x.bytes }) in made) index
    ∙ ap (λ (n : ℕ). let made : Option Entry = Some (record { index = i; term = n; bytes = x.bytes }) in made) terms
    ∙ ap (λ (bs : List ℕ). let made : Option Entry = Some (record { index = i; term = term; bytes = bs }) in made) texts

-- a Read that returns entries returns the voter's entry at each index of its range
read_returns :
    (w : State) (from to i term : ℕ) (bytes : List ℕ) (entries : List Entry) → EntriesAreTheLog
    → reply w (Read from to) ≡ Entries entries → entry_at w i ≡ Some (term, bytes) → from ≤ i → i < to
    → slice_get entries (i - from) ≡ Some (record { index = i; term = term; bytes = bytes })
read_returns w from to i term bytes entries law is there above below =
    let listed = law w from to entries is in
    let found = listed.1 (i - from) (omega (arith, above, below, listed.0)) in
    let index : from + (i - from) ≡ i = omega (arith, above) in
    let own = rw index at found.3 in
    found.1 ∙ same_entry found.0 i term bytes (found.2 ∙ index) (sym own ∙ there)

pub appended_entry_is_read : EntriesAreTheLog → AppendedEntryIsRead
appended_entry_is_read law rounds cuts g ex before between later t p u commit last i from to sent e entries is brought above below spares =
    let q = Append t p u commit sent in
    let x : Request × Option Reply = (q, Some (Matched last)) in
    let y : Request × Option Reply = (Read from to, Some (Entries entries)) in
    let v = voter_after before in
    let listed = account_lists_taken_calls rounds cuts ex g ∙ is in
    let runs = rw listed at (group_runs rounds cuts g ex) in
    let first = runs_append (before ++ x ∷ between) (y ∷ later) fresh runs in
    let start = runs_append before (x ∷ between) fresh first.0 in
    let m = matches_of v t p u commit last sent (sym start.1.0) in
    let there = matched_or_there v t p u commit last i sent e m brought in
    let right_after : voter_after (before ++ x ∷ []) ≡ next v q = voter_from-append before (x ∷ []) fresh in
    let w = voter_after (before ++ x ∷ between) in
    let reached : w ≡ voter_from (next v q) between = voter_from-append before (x ∷ between) fresh in
    let spared : AllSpare (next v q) i between = rw right_after at spares in
    let now : entry_at w i ≡ Some (e.0, there.0) =
    ap (λ (z : State). entry_at z i) reached ∙ entry_all_spared between (next v q) i spared ∙ there.1 in (
      there.0,
      read_returns w from to i e.0 there.0 entries law (sym first.1.0) now above below,
      there.2,
    )

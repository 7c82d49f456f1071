use Rattle.std.proofs.Common.{◌≡◌, ◌≤◌, ◌+◌, ◌-◌, ◌++◌, ◌∙◌, List, ap, sym, inl, inr, arith, drop, length, take}
use Rattle.std.specs.Prelude.{None}
use Rattle.std.proofs.lemmas.List.{drop_all}
use Rattle.raft_voter_outline.specs.Outlines.{CanWrite, RestsOn, sent_of}
use Rattle.raft_voter_outline.specs.Decisions.{entries_in}
use Rattle.raft_voter_outline.specs.Runs.{bare, runs_behind, top_term}
use Rattle.raft_voter_outline.specs.declared.outline.decision.Write.TheVariants.{CompactTo, Entries}
use Rattle.raft_voter_outline.proofs.Bareness.{bare-append, bare-drop, bare-take, length-bare}
use Rattle.raft_voter_outline.proofs.Indexes.{Pair}
use Rattle.raft_voter_outline.proofs.Unrolling.{runs_behind-none}
use Rattle.raft_voter_outline.proofs.outline.term_runs.TermRuns.change.Goals as goal

pub extend-requires-clause-room : goal.extend-requires-clause-room
extend-requires-clause-room c =
    let es = entries_in c.args.change.now.write c.args.request.now in
    let room : runs_behind None es ≤ c.args.self.now.room = c.requires.room in
    rw c.brought.ensures (omega (arith, room, c.keep_to.ensures.room, runs_behind-none es (top_term c.keep_to.new.self.log)))

pub returns-in-Entries-clause-room : goal.returns-in-Entries-clause-room
returns-in-Entries-clause-room c =
    let es = entries_in c.args.change.now.write c.args.request.now in
    let kept = c.keep_to.new.self in
    let spent : c.extend.new.self.room + runs_behind (top_term kept.log) es ≡ kept.room = rw c.brought.ensures at c.extend.ensures.room in
    omega (arith, spent, c.keep_to.ensures.room, runs_behind-none es (top_term kept.log))

pub compact_to-requires-clause-within : goal.compact_to-requires-clause-within
compact_to-requires-clause-within c =
    let u = c.requires.can.voter in
    let can : CanWrite (CompactTo c.in-CompactTo.index) c.args.request.now u = rw c.in-CompactTo.is at c.requires.can.can in
    let size = ap length c.requires.can.terms_of.log_is ∙ length-bare u.log in
    omega (arith, can.1, size, c.requires.can.terms_of.base_is)

pub rest_on-requires-in-CompactTo-clause-rests : goal.rest_on-requires-in-CompactTo-clause-rests
rest_on-requires-in-CompactTo-clause-rests c =
    let u = c.requires.can.voter in
    let rests : RestsOn (CompactTo c.in-CompactTo.index) u c.args.change.now.state.base_index = rw c.in-CompactTo.is at c.requires.can.rests in
    let size = ap length c.requires.can.terms_of.log_is ∙ length-bare u.log in
    elim rests [
      | inl here ↦ inl (here ∙ sym c.compact_to.ensures.base)
      | inr end ↦
          let all : length c.args.self.now.log ≤ c.in-CompactTo.index - c.args.self.now.base = omega (arith, end, size, c.requires.can.terms_of.base_is) in
          inr (c.compact_to.ensures.log ∙ drop_all (c.in-CompactTo.index - c.args.self.now.base) c.args.self.now.log all)
    ]

pub returns-in-Entries-clause-terms : goal.returns-in-Entries-clause-terms
returns-in-Entries-clause-terms c =
    let u = c.requires.can.voter in
    let i = c.in-Entries.index in
    let es = drop c.in-Entries.skipped (sent_of c.args.request.now) in
    let rests : RestsOn (Entries c.in-Entries.skipped i) u c.args.change.now.state.base_index = rw c.in-Entries.is at c.requires.can.rests in (
      c.extend.ensures.base ∙ c.keep_to.ensures.base ∙ c.requires.can.terms_of.base_is ∙ sym rests,
      λ v of.
          let n = i - v.base_index - 1 in
          let place : i - 1 - c.args.self.now.base ≡ n = omega (arith, of.base_is) in
          let kept : c.keep_to.new.self.log ≡ take n (bare v.log) =
          c.keep_to.ensures.log ∙ ap (λ k. take k c.args.self.now.log) place ∙ ap (λ (l : List Pair). take n l) of.log_is in
          let brought : c.brought.result.now ≡ es = c.brought.ensures ∙ ap (λ w. entries_in w c.args.request.now) c.in-Entries.is in
          rw c.in-Entries.is (c.extend.ensures.log ∙ ap (λ (l : List Pair). l ++ bare c.brought.result.now) kept
          ∙ ap (λ (l : List Pair). take n (bare v.log) ++ bare l) brought
          ∙ sym (bare-append (take n v.log) es ∙ ap (λ (l : List Pair). l ++ bare es) (bare-take n v.log))),
    )

pub returns-in-CompactTo-clause-terms : goal.returns-in-CompactTo-clause-terms
returns-in-CompactTo-clause-terms c =
    let i = c.in-CompactTo.index in (
      c.rest_on-in-CompactTo.ensures.base,
      λ v of.
          let place : i - c.args.self.now.base ≡ i - v.base_index = ap (λ b. i - b) of.base_is in
          rw c.in-CompactTo.is (c.rest_on-in-CompactTo.ensures.log ∙ c.compact_to.ensures.log ∙ ap (λ k. drop k c.args.self.now.log) place
          ∙ ap (λ (l : List Pair). drop (i - v.base_index) l) of.log_is ∙ sym (bare-drop (i - v.base_index) v.log)),
    )

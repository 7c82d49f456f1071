-- Rounds that change no voter, step by step.
use Rattle.std.proofs.Common.{◌≡◌, ℕ, ◌<◌, Bool, true, false, List, length, get_or, refl, sym, subst, ◌∙◌}
use Rattle.std.specs.Prelude.{All}
use Rattle.std.proofs.lemmas.List.Elements.{All-get_or}
use Rattle.raft_log_engine.specs.raft_log_engine_laws.specs.EngineState.{EngineState}
use Rattle.raft_voter_messages.specs.declared.request.Request.{Request}
use Rattle.raft_voter_outline.specs.declared.outlines.Outlines.{Outlines}
use Rattle.raft_voter_outline.specs.Kept.{outlines_in}
use Rattle.raft_voter.specs.Rounds.{World}
use Rattle.raft_voter_recovery.proofs.Public.{stays_at_first, stays_on}
use Rattle.raft_voter_durability_laws.specs.Standing.{AreOutlines}
use Rattle.raft_voter_store.specs.Silence.{AsksForNone, IfVotersStay, IfVoterStays, LeavesVoter, ReadsAlone}

-- nothing was done
pub reads_none : (s : EngineState) (outlines : Outlines) → ReadsAlone s s outlines outlines
reads_none s outlines = (stays_at_first s, refl)

-- A round, one request more.

-- what was written isn't unwritten
pub never : {P : Type 0} (wrote : Bool) → wrote ≡ true → wrote ≡ false → P
never true is none = absurd cc
never false is none = absurd cc

leaves_at : (V : World) (qs : List (ℕ × Request)) (i : ℕ) (q : ℕ × Request) → i < length qs → q ≡ get_or qs i q → All (LeavesVoter V) qs → LeavesVoter V q
leaves_at V qs i q lt is all = subst (λ (x : ℕ × Request). LeavesVoter V x) (sym is) (All-get_or (LeavesVoter V) qs i q lt all)

outlines_at : (V : World) (a b : Outlines) → b ≡ a → AreOutlines (outlines_in a) V → AreOutlines (outlines_in b) V
outlines_at V a b same are = subst (λ (o : Outlines). AreOutlines (outlines_in o) V) (sym same) are

pub reads_more : (qs : List (ℕ × Request)) (i : ℕ) (q : ℕ × Request) (s t u : EngineState) (a b c : Outlines) → i < length qs → q ≡ get_or qs i q → IfVotersStay (outlines_in a) qs (ReadsAlone s t a b)
    → IfVoterStays (outlines_in b) q (ReadsAlone t u b c) → IfVotersStay (outlines_in a) qs (ReadsAlone s u a c)
reads_more qs i q s t u a b c lt is before next V are all =
    let so = before V are all in
    let now = next V (outlines_at V a b so.1 are) (leaves_at V qs i q lt is all) in
    (stays_on s t u so.0 now.0, now.1 ∙ so.1)

pub unwritten_more : (qs : List (ℕ × Request)) (i : ℕ) (q : ℕ × Request) (wrote more : Bool) (s t : EngineState) (a b : Outlines) → i < length qs → q ≡ get_or qs i q → IfVotersStay (outlines_in a) qs (wrote ≡ false)
    → IfVotersStay (outlines_in a) qs (ReadsAlone s t a b) → IfVoterStays (outlines_in b) q (more ≡ wrote) → IfVotersStay (outlines_in a) qs (more ≡ false)
unwritten_more qs i q wrote more s t a b lt is before quiet next V are all =
    next V (outlines_at V a b (quiet V are all).1 are) (leaves_at V qs i q lt is all) ∙ before V are all

module _ {S : Type 0} (outlines : S → Outlines) where
  pub idle_more : (qs : List (ℕ × Request)) (i : ℕ) (q : ℕ × Request) (a b c : S) → i < length qs → q ≡ get_or qs i q → (All AsksForNone qs → IfVotersStay (outlines_in (outlines a)) qs (b ≡ a))
      → (AsksForNone q → IfVoterStays (outlines_in (outlines b)) q (c ≡ b)) → All AsksForNone qs → IfVotersStay (outlines_in (outlines a)) qs (c ≡ a)
  idle_more qs i q a b c lt is before next none V are all =
      let so = before none V are all in
      let mine : AreOutlines (outlines_in (outlines b)) V = subst (λ (x : S). AreOutlines (outlines_in (outlines x)) V) (sym so) are in
      next (subst (λ (x : ℕ × Request). AsksForNone x) (sym is) (All-get_or AsksForNone qs i q lt none)) V mine (leaves_at V qs i q lt is all) ∙ so

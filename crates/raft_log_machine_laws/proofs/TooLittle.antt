-- A directory whose meaning is kept, which can be read, and can't be opened.
use Rattle.std.proofs.Common.{ℕ, ◌≤◌, ◌<◌, if◌then◌else◌, ◌==◌, [], ◌∷◌, Some, None, refl, sym, inl, inr, arith}
use Rattle.std.proofs.lemmas.Bool.{cases_lt}
use Rattle.raft_log_model_laws.specs.Item.{Item}
use Rattle.raft_log_model_laws.specs.Item.Item.{Run}
use Rattle.raft_log_model_laws.specs.Meaning.Content.{Entry}
use Rattle.raft_log_model_laws.specs.Groups.{appended, directory_meaning}
use Rattle.raft_log_model_laws.specs.Holes.{nothing, NoHole}
use Rattle.raft_log_model_laws.proofs.Public.{at_bool}
use Rattle.raft_log_machine_laws.specs.Whereabouts.{Whereabouts, top}
use Rattle.raft_log_machine_laws.specs.Recovery.{IsRecovered}
use Rattle.raft_log_machine_laws.specs.Replay.{IsReplayable}
use Rattle.raft_log_machine_laws.specs.Machine.{Machine, Step, IsKept}
use Rattle.raft_log_machine_laws.specs.Machine.Event.{Reopen}
use Rattle.raft_log_machine_laws.specs.WrongRules.{failed_on, entry_1, entry_3}
use Rattle.raft_log_machine_laws.proofs.TruthCarries.{differ}
use Rattle.raft_log_machine_laws.proofs.TruthRaises.{no_word}
use Rattle.raft_log_machine_laws.proofs.WrongRuleLaws.{lone_holds}

low_fits : 2 ≤ top
unfolding top
low_fits = omega arith

pub gap_kept : IsKept (failed_on (entry_1 ∷ []) (entry_3 ∷ []))
gap_kept = record { holds = lone_holds (entry_1 ∷ []) (entry_3 ∷ []) []; unbroken = (None, tt); fits = ((low_fits, tt), tt); whereabouts = λ alive. differ alive }

no_hole_in : (g : ℕ) (x : Item ℕ ℕ) → NoHole nothing (x ∷ []) → NoHole nothing (if 1 == g then x ∷ [] else [])
no_hole_in g x h = at_bool (1 == g) (λ b. NoHole nothing (if b then x ∷ [] else [])) (λ e. h) (λ e. tt)

pub gap_replays : IsReplayable (failed_on (entry_1 ∷ []) (entry_3 ∷ []))
gap_replays = record {
  append_whole = λ g. no_hole_in g (Run 3 (13 ∷ [])) (refl, tt);
  rewrite_whole = λ g. no_hole_in g (Run 1 (11 ∷ [])) (refl, tt);
  top_part = λ alive. differ alive;
}

between : (t : Whereabouts) → IsRecovered (directory_meaning (entry_1 ∷ []) (entry_3 ∷ []) 1) (appended 1 (entry_3 ∷ [])) t → ⊥
between t r =
    let from : t.first ≤ 1 = elim (cases_lt 1 t.first) [ inl after ↦ no_word (Entry 11) (sym (r.below 1 after)) | inr low ↦ low ] in
    let to : 3 < t.end = elim (cases_lt 3 t.end) [ inl high ↦ high | inr before ↦ no_word (Entry 13) (sym (r.above 3 before)) ] in
    elim (cases_lt 2 t.split) [
      | inl rewritten ↦ (let it = (r.rewritten 2 (omega arith) rewritten).1 in no_word it.0 it.1)
      | inr newer ↦ (let it = r.newer 2 newer (omega arith) in no_word (Some it.0) it.1)
    ]

pub gap_closed : (v : Machine ℕ ℕ) → Step (Reopen [] [] [] [] [] [] [] []) (failed_on (entry_1 ∷ []) (entry_3 ∷ [])) v → ⊥
gap_closed v step = between (step.4.0 1) (step.4.1 1)

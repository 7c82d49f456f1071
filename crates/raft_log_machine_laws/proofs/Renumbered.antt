-- A group without entries may be noted at any number.
use Rattle.std.proofs.Common.{◌≡◌, ℕ, true, false, List, ap, subst, inl, inr, arith}
use Rattle.raft_log_model_laws.specs.Item.{Record}
use Rattle.raft_log_model_laws.specs.Meaning.{Slot}
use Rattle.raft_log_model_laws.specs.Meaning.Slot.{Index, Key}
use Rattle.raft_log_model_laws.specs.Groups.{Map}
use Rattle.raft_log_machine_laws.specs.Whereabouts.{Whereabouts, IsRenumbered}
use Rattle.raft_log_machine_laws.proofs.RenumberLaws.{renumbered_kept, renumbered_replays, renumbered_runs}
use Rattle.raft_log_machine_laws.specs.Model.{Files, running, machine_of, IsModelSound}
use Rattle.raft_log_machine_laws.specs.Notes.{IsAppended, IsInRewrite}
use Rattle.raft_log_machine_laws.specs.Log.{View, Stands}

pub renumbered_sound : {E V : Type 0} (f : Files E V) (m : Map E V) (ws next : ℕ → Whereabouts) → ((g : ℕ) → IsRenumbered (ws g) (next g))
    → IsModelSound (running f m ws) → IsModelSound (running f m next)
renumbered_sound f m ws next any k = record {
  kept = renumbered_kept (machine_of (running f m ws)) next any k.kept;
  replay = renumbered_replays (machine_of (running f m ws)) next any k.kept k.replay;
  runs = renumbered_runs (machine_of (running f m ws)) next any k.runs;
  rewrite_numbers = k.rewrite_numbers;
  append_numbers = k.append_numbers;
}

still_appended : (t u : Whereabouts) (s : Slot) → IsRenumbered t u → IsAppended u s → IsAppended t s
still_appended t u s (inl e) at = subst (λ x. IsAppended x s) e at
still_appended t u (Index i) (inr e) at =
    let low : u.split ≡ e.1.0 = ap (λ x. x.split) e.1.2 in
    let high : u.end ≡ e.1.0 = ap (λ x. x.end) e.1.2 in absurd (omega (arith, at.0, at.1, low, high))
still_appended t u (Key k) (inr e) at = subst (λ b. b ≡ true) (ap (λ x. x.appended k) e.1.2) at

still_in_rewrite : (t u : Whereabouts) (s : Slot) → IsRenumbered t u → IsInRewrite u s → IsInRewrite t s
still_in_rewrite t u s (inl e) at = subst (λ x. IsInRewrite x s) e at
still_in_rewrite t u (Index i) (inr e) at =
    let low : u.first ≡ e.1.0 = ap (λ x. x.first) e.1.2 in
    let high : u.split ≡ e.1.0 = ap (λ x. x.split) e.1.2 in absurd (omega (arith, at.0, at.1, low, high))
still_in_rewrite t u (Key k) (inr e) at = subst (λ b. b ≡ false) (ap (λ x. x.appended k) e.1.2) at

-- and so a view may be
pub renumbered_stands : {E V : Type 0} (v : View E V) (f : Files E V) (m : Map E V) (pending : List (Record E V)) (next : ℕ → Whereabouts)
    → ((g : ℕ) → IsRenumbered (v.whereabouts g) (next g)) → Stands v f m pending → Stands (record v { whereabouts = next }) f m pending
renumbered_stands v f m pending next any h = record {
  sound = renumbered_sound f m v.whereabouts next any h.sound;
  ends = h.ends;
  map = h.map;
  noted = λ g s at. h.noted g s (still_appended (v.whereabouts g) (next g) s (any g) at);
  noted_in_rewrite = λ g s at. h.noted_in_rewrite g s (still_in_rewrite (v.whereabouts g) (next g) s (any g) at);
}

-- Moments behind moments.
use Rattle.std.proofs.Common.{◌≡◌, ℕ, List, [], ◌∷◌, ◌++◌, Some, None, append_assoc, ap, refl, sym, subst, ◌∙◌}
use Rattle.std.proofs.lemmas.Grind.{flat_map-append}
use Rattle.raft_voter.specs.Service.{Service}
use Rattle.raft_voter_messages.specs.declared.round.Round.{Round}
use Rattle.raft_voter_world.specs.declared.notes.Notes.{Notes}
use Rattle.raft_voter_world.specs.declared.storage.Storage.{Storage}
use Rattle.raft_voter_world.specs.declared.world.World.{World}
use Rattle.raft_voter_world.specs.Cuts.{AreLeast, cuts_in, lost_at, next_place}
use Rattle.raft_voter_world.specs.History.{Happen, Moment, behind, behind_all, rounds_in, rounds_of}
use Rattle.raft_voter_world.specs.History.Moment.{opened, unread, fell, unopened, crashed, kept, answered, cut_off, idle}
use Rattle.raft_voter_world.specs.Notes.{all_cuts, all_rounds, cut_of}
use Rattle.raft_voter_world.specs.Steps.{Grows, Moves}
use Rattle.raft_voter_world.specs.Stores.{Disk, Upkeep}

pub lost_more : {S F : Type 0} (event : ℕ) (ms ns : List (Moment S F)) → lost_at event (ms ++ ns) ≡ lost_at event ms ++ lost_at event ns
lost_more event [] ns = refl
lost_more event (opened workers store voters (Some place) now ∷ ms) ns = lost_more event ms ns
lost_more event (opened workers store voters None now ∷ ms) ns = ap (λ ls. event ∷ ls) (lost_more event ms ns)
lost_more event (unread workers store now files ∷ ms) ns = lost_more event ms ns
lost_more event (fell workers store gone files ∷ ms) ns = lost_more event ms ns
lost_more event (unopened workers cause files ∷ ms) ns = lost_more event ms ns
lost_more event (crashed gone files ∷ ms) ns = lost_more event ms ns
lost_more event (kept change now ∷ ms) ns = lost_more event ms ns
lost_more event (answered round now ∷ ms) ns = lost_more event ms ns
lost_more event (cut_off round cause now ∷ ms) ns = lost_more event ms ns
lost_more event (idle round files ∷ ms) ns = lost_more event ms ns

pub behind_more : {S F : Type 0} (storage : Storage S F) (ms ns : List (Moment S F)) → behind_all storage (ms ++ ns) ≡ behind_all (behind_all storage ms) ns
behind_more storage [] ns = refl
behind_more storage (m ∷ ms) ns = behind_more (behind m) ms ns

pub happen_more : {S F : Type 0} (v : Service S) (u : Upkeep S) (d : Disk S F) (storage : Storage S F) (ms ns : List (Moment S F)) → Happen v u d storage ms → Happen v u d (behind_all storage ms) ns → Happen v u d storage (ms ++ ns)
happen_more v u d storage [] ns h k = k
happen_more v u d storage (m ∷ ms) ns h k = (h.0, happen_more v u d (behind m) ms ns h.1 k)

pub grows_more : {S F : Type 0} (event : ℕ) (old mid new : Notes) (ms ns : List (Moment S F)) → Grows event old ms mid → Grows event mid ns new → Grows event old (ms ++ ns) new
grows_more {S} {F} event old mid new ms ns a b = record {
  rounds = b.rounds ∙ ap (λ rs. rs ++ rounds_in ns) a.rounds ∙ append_assoc (all_rounds old) (rounds_in ms) (rounds_in ns) ∙ ap (λ (rs : List Round). all_rounds old ++ rs) (sym (flat_map-append rounds_of ms ns));
  cuts = λ last rest.
      subst (λ (xs : List (Moment S F)). all_cuts old (next_place last xs) ++ cuts_in last xs ≡ all_cuts new (next_place last rest) ++ cuts_in last rest)
      (sym (append_assoc ms ns rest)) (a.cuts last (ns ++ rest) ∙ b.cuts last rest);
  least = λ rest l. subst (λ (xs : List (Moment S F)). AreLeast (cut_of old) xs) (sym (append_assoc ms ns rest)) (a.least (ns ++ rest) (b.least rest l));
  lost = b.lost ∙ ap (λ ls. ls ++ lost_at event ns) a.lost ∙ append_assoc old.lost.items (lost_at event ms) (lost_at event ns) ∙ ap (λ (ls : List ℕ). old.lost.items ++ ls) (sym (lost_more event ms ns));
}

pub moves_more : {S F : Type 0} (v : Service S) (u : Upkeep S) (d : Disk S F) (event : ℕ) (old mid new : World S F) (ms ns : List (Moment S F)) → Moves v u d event old ms mid → Moves v u d event mid ns new → Moves v u d event old (ms ++ ns) new
moves_more {S} {F} v u d event old mid new ms ns a b = record {
  happened = happen_more v u d old.storage ms ns a.happened (subst (λ (x : Storage S F). Happen v u d x ns) a.now b.happened);
  now = b.now ∙ ap (λ (x : Storage S F). behind_all x ns) a.now ∙ sym (behind_more old.storage ms ns);
  noted = grows_more event old.notes mid.notes new.notes ms ns a.noted b.noted;
  ready = λ r. b.ready (a.ready r);
}

-- Events after events, and what the model says of all.
use Rattle.std.proofs.Common.{List, [], ◌∷◌, ◌++◌, map, append_assoc, append-nil, ap, refl, sym, subst, ◌∙◌}
use Rattle.raft_log_world.specs.declared.event.Answer.{Answer}
use Rattle.raft_log_world.specs.declared.event.Event.{Event}
use Rattle.raft_log_world.specs.declared.storage.Storage.{Storage}
use Rattle.raft_log_world.specs.declared.storage.Storage.TheVariants.{Closed}
use Rattle.raft_log_world.specs.declared.world.World.{World}
use Rattle.raft_log_world.specs.Explained.{AllExplained, AllGoOn, Explains, Goes, NoneCollides}
use Rattle.raft_log_world.specs.Model.{ModelLog}
use Rattle.raft_log_world.specs.Logs.{LogOf, Stands}
use Rattle.raft_log_world.specs.Run.{FollowAll, Moment, behind}
use Rattle.raft_log_world.specs.Steps.{HasPlayed, IsStep}

module _ {S F B C : Type 0} (l : LogOf S F B C) where
  -- no event
  pub none_played : (world : World S F) → HasPlayed l world [] world
  none_played world = record { moments = []; played = refl; noted = sym (append-nil world.answers.items); now = refl; follow = tt }

  -- one event, and then others
  pub one_more : (old mid new : World S F) (event : Event B C) (events : List (Event B C)) → IsStep l old event mid → HasPlayed l mid events new → HasPlayed l old (event ∷ events) new
  one_more old mid new event events s p = record {
    moments = record { event = event; answer = s.answer; now = mid.storage } ∷ p.moments;
    played = ap (λ (es : List (Event B C)). event ∷ es) p.played;
    noted = p.noted ∙ ap (λ (told : List Answer). told ++ map (λ m. m.answer) p.moments) s.noted ∙ append_assoc old.answers.items (s.answer ∷ []) (map (λ m. m.answer) p.moments);
    now = p.now;
    follow = (s.follows, p.follow);
  }

  -- where the model explains each moment, it goes on through all
  going : (ms : List (Moment S F B C)) (at : Storage S F) → FollowAll l at ms → (log : ModelLog) (known : Stands l at log) → Goes l at log known ms
  going [] at f log known = tt
  going (m ∷ ms) at f log known = λ asks.
      let (next, answers, still) = f.0 log known asks in
      (next, answers, (still, going ms m.now f.1 next still))

  -- where nothing collides, the answers are those of the model
  explained : (ms : List (Moment S F B C)) (at : Storage S F) (log : ModelLog) (known : Stands l at log) → Goes l at log known ms → NoneCollides l at ms
      → (last : ModelLog) × Explains l.says log (map (λ m. m.event) ms) (map (λ m. m.answer) ms) last × Stands l (behind at ms) last
  explained [] at log known goes none = (log, refl, known)
  explained (m ∷ ms) at log known goes none =
      let (next, answers, more) = goes (none.0 log known.1) in
      let (last, rest, stands) = explained ms m.now next more.0 more.1 none.1 in
      (last, (next, answers, rest), stands)

  pub all_go_on : AllGoOn l
  all_go_on files events report run log known = going run.moments (Closed files) run.explained log known

  pub all_explained : AllExplained l
  all_explained files events report run log known none =
      let (last, rest, stands) = explained run.moments (Closed files) log known (going run.moments (Closed files) run.explained log known) none in (
        last,
        subst (λ (told : List Answer). Explains l.says log events told last) run.told
            (subst (λ (es : List (Event B C)). Explains l.says log es (map (λ m. m.answer) run.moments) last) run.played rest),
        subst (λ (at : Storage S F). Stands l at last) run.ended stands,
      )

-- A round begins, and goes on place by place.
use Rattle.std.proofs.Common.{◌≡◌, ◌∙◌, ℕ, ◌||◌, Bool, true, false, MatchBool, List, [], ◌∷◌, ◌++◌, length, slice_get, Some, refl, sym, ap, subst, inl, inr, arith, append-nil, append_assoc}
use Rattle.std.proofs.lemmas.Bool.{cases_Bool}
use Rattle.raft_log_model_laws.specs.Groups.{taken}
use Rattle.raft_log_record_base.specs.declared.errors.Error.{Error}
use Rattle.raft_log_engine_laws.specs.EngineState.{LogDirectories, LogMap, EngineState, has_failed}
use Rattle.raft_log_engine_laws.specs.Holding.{EndsAt, Represents}
use Rattle.raft_log_engine_laws.specs.raft_log_dual_pipes.specs.Pipes.{LogRecordValue}
use Rattle.raft_voter_messages.specs.declared.reply.Reply.{Reply}
use Rattle.raft_voter_messages.specs.declared.reply.Reply.TheVariants.{Refused}
use Rattle.raft_voter_messages.specs.declared.request.Request.{Request}
use Rattle.raft_voter_outline.specs.Rules.{reply}
use Rattle.raft_voter_outline.specs.State.{State}
use Rattle.raft_voter.specs.Rounds.{World, after, after_one}
use Rattle.raft_voter.specs.Service.{is_refused}
use Rattle.raft_voter_records.specs.Voters.{Means}
use Rattle.raft_voter_records.specs.Among.{MeansAmong}
use Rattle.raft_voter_records.proofs.Public.{among_more, among_none, among_wider, taken_in_two}
use Rattle.raft_voter_durability_laws.specs.Standing.{AreOutlines}
use Rattle.raft_voter_durability_laws.specs.Rounds.{AreTold, IsPassed, took}
use Rattle.raft_voter_durability_laws.specs.Requests.{Served, TurnedDown}
use Rattle.raft_voter_durability_laws.specs.Ends.{Went}
use Rattle.raft_voter_durability_laws.specs.Laws.{RoundsGoOn}
use Rattle.raft_voter_durability_laws.proofs.Composing.{ends_more, ends_same, ends_still, ends_whole, later_same, later_twice}
use Rattle.raft_voter_durability_laws.proofs.Refusing.{out_stays}
use Rattle.raft_voter_durability_laws.proofs.Told.{Requests, after-append, passed_all, passed_more, told_more, took_none, took_refused, took_served}

-- A round that begins.

began : (qs : Requests) (s : EngineState) (os : ℕ → State) → has_failed s ≡ false → Went qs [] false s s os os
began qs s os alive = record {
  said = [];
  silent = λ _. refl;
  alive = alive;
  later = later_same s.pipes.disk;
  holds = λ home m pending h. subst (λ (l : List LogRecordValue). EndsAt home s m l) (sym (append-nil pending)) (ends_same home s m pending h);
  leads = λ m W means outlines. subst (λ (X : World). Means m X) (same W) means;
  among = λ m W means outlines. among_none (IsPassed W qs []) m W (0, omega arith, same W) means;
  outlines = λ W outlines. subst (λ (X : World). AreOutlines os X) (same W) outlines;
  tells = λ home m W h means outlines. tt;
}
  where
    same : (W : World) → W ≡ after W (took qs [])
    same W = ap (after W) (sym (took_none qs))

-- The voters behind one request more.

behind : (W : World) (qs : Requests) (told : List Reply) (q : ℕ × Request) (a : Reply) → slice_get qs (length told) ≡ Some q
    → ((is_refused a ≡ true) → after_one (after W (took qs told)) q ≡ after W (took qs told))
    → after_one (after W (took qs told)) q ≡ after W (took qs (told ++ a ∷ []))
behind W qs told q a at stays = elim (cases_Bool (is_refused a)) [
  | inl is ↦ stays is ∙ ap (after W) (sym (took_refused qs told a is))
  | inr not ↦ sym (after-append W (took qs told) (q ∷ [])) ∙ ap (after W) (sym (took_served qs told q a at not))
]

-- neither was written
neither : (a b : Bool) → (a || b) ≡ false → (a ≡ false) × (b ≡ false)
neither true b h = cc
neither false b h = (refl, h)

-- A request that was served.

module _ (qs : Requests) (told : List Reply) (q : ℕ × Request) (a : Reply) (wrote more : Bool) (s t u : EngineState) (os us ws : ℕ → State)
    (w : Went qs told wrote s t os us) (at : slice_get qs (length told) ≡ Some q) (v : Served q a more t u us ws) where
  served_world : (W : World) → after_one (after W (took qs told)) q ≡ after W (took qs (told ++ a ∷ []))
  served_world W = behind W qs told q a at (λ is. out_stays (after W (took qs told)) q (v.refuses is))

  served_leads : (m : LogMap) (W : World) → Means m W → AreOutlines os W → Means (taken m (w.said ++ v.said)) (after_one (after W (took qs told)) q)
  served_leads m W means outlines =
      subst (λ (n : LogMap). Means n (after_one (after W (took qs told)) q)) (sym (taken_in_two m w.said v.said))
      (v.leads (taken m w.said) (after W (took qs told)) (w.leads m W means outlines) (w.outlines W outlines))

  served_among : (m : LogMap) (W : World) → Means m W → AreOutlines os W → MeansAmong (IsPassed W qs (told ++ a ∷ [])) m (w.said ++ v.said)
  served_among m W means outlines =
      among_more (IsPassed W qs (told ++ a ∷ [])) m w.said v.said (after_one (after W (took qs told)) q) v.short
      (among_wider (IsPassed W qs told) (IsPassed W qs (told ++ a ∷ [])) m w.said (passed_more W qs told a) (w.among m W means outlines))
      (subst (λ (X : World). IsPassed W qs (told ++ a ∷ []) X) (sym (served_world W)) (passed_all W qs (told ++ a ∷ [])))
      (served_leads m W means outlines)

  served_tells : (home : LogDirectories) (m : LogMap) (W : World) → Represents home s m [] → Means m W → AreOutlines os W → AreTold W qs (told ++ a ∷ [])
  served_tells home m W h means outlines =
      let e = w.holds home m [] h in
      let whole = ends_whole home t m ([] ++ w.said) e in
      let X : World = after W (took qs told) in
      let there : Means (taken (taken m e.done) e.rest) (after W (took qs told)) = subst (λ (n : LogMap). Means n (after W (took qs told))) (sym whole) (w.leads m W means outlines) in
      let own = v.answers home (taken m e.done) e.rest (after W (took qs told)) e.holds there (w.outlines W outlines) in
      told_more W qs told q a (w.tells home m W h means outlines) at (by_reply own)
    where
      by_reply : a ≡ reply (after W (took qs told) q.0) q.1 → MatchBool (is_refused a) (Unit {0}) (a ≡ reply (after W (took qs told) q.0) q.1)
      by_reply own = elim (cases_Bool (is_refused a)) [
        | inl is ↦ rw is tt
        | inr not ↦ rw not own
      ]

  served_on : Went qs (told ++ a ∷ []) (wrote || more) s u os ws
  served_on = record {
    said = w.said ++ v.said;
    silent = silent;
    alive = v.alive;
    later = later_twice s.pipes.disk t.pipes.disk u.pipes.disk w.later v.later;
    holds = λ home m pending h.
        subst (λ (l : List LogRecordValue). EndsAt home u m l) (append_assoc pending w.said v.said)
        (ends_more home t u m (pending ++ w.said) v.said (w.holds home m pending h) (λ n rest k. v.holds home n rest k));
    leads = λ m W means outlines. subst (λ (X : World). Means (taken m (w.said ++ v.said)) X) (served_world W) (served_leads m W means outlines);
    among = served_among;
    outlines = λ W outlines. subst (λ (X : World). AreOutlines ws X) (served_world W) (v.outlines (after W (took qs told)) (w.outlines W outlines));
    tells = served_tells;
  }
    where
      silent : (wrote || more) ≡ false → w.said ++ v.said ≡ []
      silent none =
          let each = neither wrote more none in
          ap (λ (l : List LogRecordValue). l ++ v.said) (w.silent each.0) ∙ v.silent each.1

-- One that was turned down.

module _ (qs : Requests) (told : List Reply) (q : ℕ × Request) (error : Error) (wrote : Bool) (s t u : EngineState) (os us : ℕ → State)
    (w : Went qs told wrote s t os us) (at : slice_get qs (length told) ≡ Some q) (v : TurnedDown q error t u us) where
  down_world : (W : World) → after W (took qs told) ≡ after W (took qs (told ++ Refused ∷ []))
  down_world W = ap (after W) (sym (took_refused qs told Refused refl))

  down_on : Went qs (told ++ Refused ∷ []) wrote s u os us
  down_on = record {
    said = w.said;
    silent = w.silent;
    alive = v.alive;
    later = later_twice s.pipes.disk t.pipes.disk u.pipes.disk w.later v.later;
    holds = λ home m pending h. ends_still home t u m (pending ++ w.said) (w.holds home m pending h) (λ n rest k. v.holds home n rest k);
    leads = λ m W means outlines. subst (λ (X : World). Means (taken m w.said) X) (down_world W) (w.leads m W means outlines);
    among = λ m W means outlines.
        among_wider (IsPassed W qs told) (IsPassed W qs (told ++ Refused ∷ [])) m w.said (passed_more W qs told Refused) (w.among m W means outlines);
    outlines = λ W outlines. subst (λ (X : World). AreOutlines us X) (down_world W) (w.outlines W outlines);
    tells = λ home m W h means outlines. told_more W qs told q Refused (w.tells home m W h means outlines) at tt;
  }

pub rounds_go_on : RoundsGoOn
rounds_go_on = record { begins = began; served = served_on; turned_down = down_on }

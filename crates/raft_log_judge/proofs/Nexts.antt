-- What a candidate comes to by an event, as the judge steps.
use Rattle.std.proofs.Common.{◌≡◌, ◌↔◌, Bool, true, false, List, [], ◌∷◌, ◌++◌, ◌==◌, length, map, not, inl, arith, ap, refl, sym, subst, ◌∙◌}
use Rattle.raft_log_model_laws.specs.Groups.{taken}
use Rattle.raft_log_model_laws.proofs.Public.{eq_false}
use Rattle.raft_log_world.specs.declared.event.Answer.{Answer}
use Rattle.raft_log_world.specs.declared.event.Event.{Event}
use Rattle.raft_log_world.specs.Model.{BatchRecord, ModelLog}
use Rattle.raft_log_world.specs.Model.ModelLog.{running}
use Rattle.raft_log_world.specs.Reads.{Contents}
use Rattle.raft_log_judge.specs.declared.candidate.Candidate.{Candidate}
use Rattle.raft_log_judge.specs.declared.change.Change.{Change}
use Rattle.raft_log_judge.specs.declared.outcome.Outcome.{Outcome}
use Rattle.raft_log_judge.specs.declared.outcome.Outcome.TheVariants.{Adds, Opens, Reads, Turns}
use Rattle.raft_log_judge.specs.declared.outcome.Standing.{Standing}
use Rattle.raft_log_judge.specs.declared.outcome.Standing.TheVariants.{Broken, Closed, Running}
use Rattle.raft_log_judge.specs.Candidates.{contents_of, durable_of, log_of, opened_logs, pending_of, standing_log, turned}
use Rattle.raft_log_judge.specs.Changes.{says_of}
use Rattle.raft_log_judge.specs.Views.{AnyGoes, IsRead, LeadTo, batch_of, outcome, seen}
use Rattle.raft_log_judge.proofs.Held.{whole_contents}
use Rattle.raft_log_judge.proofs.Leading.{Allowed, adds, adds_settled, allowed, lead, of_sees, opens, reads, reads_not, settles, turns}
use Rattle.raft_log_judge.proofs.Supporting.{to_not}
use Rattle.raft_log_judge.proofs.Viewing.{all_reached, sees}

module _ {C : Type 0} (event : Event (List Change) C) (answer : Answer) where
  abbrev Leads : ModelLog → List ModelLog → Type 0
  Leads log nexts = LeadTo says_of (log ∷ []) event answer nexts

  -- by the standing

  module _ (m : Contents) (pending : List BatchRecord) where
    reads_at : (standing : Standing) → outcome standing event answer ≡ Reads → standing ≡ Running → IsRead (taken m pending) event answer → Leads (standing_log standing m pending) (standing_log standing m pending ∷ [])
    reads_at Running come is read = lead says_of m pending event answer Running Reads (running m pending ∷ []) come (reads says_of m pending event answer read)
    reads_at Closed come is read = absurd (let never : ⊥ = cc in never)
    reads_at Broken come is read = absurd (let never : ⊥ = cc in never)

    reads_not_at : (standing : Standing) → outcome standing event answer ≡ Reads → standing ≡ Running → (IsRead (taken m pending) event answer → ⊥) → Leads (standing_log standing m pending) []
    reads_not_at Running come is not = lead says_of m pending event answer Running Reads [] come (reads_not says_of m pending event answer not)
    reads_not_at Closed come is not = absurd (let never : ⊥ = cc in never)
    reads_not_at Broken come is not = absurd (let never : ⊥ = cc in never)

    settles_at : (standing to : Standing) → outcome standing event answer ≡ Turns to true → standing ≡ Running → Leads (standing_log standing m pending) (standing_log to (taken m pending) [] ∷ [])
    settles_at Running to come is = lead says_of m pending event answer Running (Turns to true) (standing_log to (taken m pending) [] ∷ []) come (settles says_of m pending event answer to)
    settles_at Closed to come is = absurd (let never : ⊥ = cc in never)
    settles_at Broken to come is = absurd (let never : ⊥ = cc in never)

    abbrev grown : List BatchRecord
    grown = pending ++ batch_of says_of event ∷ []

    adds_at : (standing to : Standing) → outcome standing event answer ≡ Adds to false → standing ≡ Running → Leads (standing_log standing m pending) (standing_log to m grown ∷ [])
    adds_at Running to come is = lead says_of m pending event answer Running (Adds to false) (standing_log to m grown ∷ []) come (adds says_of m pending event answer to)
    adds_at Closed to come is = absurd (let never : ⊥ = cc in never)
    adds_at Broken to come is = absurd (let never : ⊥ = cc in never)

    adds_settled_at : (standing to : Standing) → outcome standing event answer ≡ Adds to true → standing ≡ Running → Leads (standing_log standing m pending) (standing_log to (taken m grown) [] ∷ [])
    adds_settled_at Running to come is = lead says_of m pending event answer Running (Adds to true) (standing_log to (taken m grown) [] ∷ []) come (adds_settled says_of m pending event answer to)
    adds_settled_at Closed to come is = absurd (let never : ⊥ = cc in never)
    adds_settled_at Broken to come is = absurd (let never : ⊥ = cc in never)

    opens_at : (standing : Standing) → outcome standing event answer ≡ Opens → standing ≡ Closed → Leads (standing_log standing m pending) (opened_logs m pending)
    opens_at Closed come is = lead says_of m pending event answer Closed Opens (opened_logs m pending) come (opens says_of m pending event answer)
    opens_at Running come is = absurd (let never : ⊥ = cc in never)
    opens_at Broken come is = absurd (let never : ⊥ = cc in never)

  -- candidates

  module _ (c : Candidate) where
    -- the standing is one that the outcome is for
    fitting : (come : Outcome) → outcome c.standing event answer ≡ come → Allowed c.standing come
    fitting come is = subst (Allowed c.standing) is (allowed c.standing event answer)

    whole : taken (durable_of c) (pending_of c) ≡ contents_of c
    whole = whole_contents c.batches c.durable

    pub reads_lead : outcome c.standing event answer ≡ Reads → IsRead (contents_of c) event answer → Leads (log_of c) (log_of c ∷ [])
    reads_lead come read = reads_at (durable_of c) (pending_of c) c.standing come (fitting Reads come) (subst (λ (n : Contents). IsRead n event answer) (sym whole) read)

    pub reads_not_lead : outcome c.standing event answer ≡ Reads → (IsRead (contents_of c) event answer → ⊥) → Leads (log_of c) []
    reads_not_lead come not = reads_not_at (durable_of c) (pending_of c) c.standing come (fitting Reads come) (λ read. not (subst (λ (n : Contents). IsRead n event answer) whole read))

    pub turns_lead : (to : Standing) (settled : Bool) → outcome c.standing event answer ≡ Turns to settled → Leads (log_of c) (turned to settled c ∷ [])
    turns_lead to false come = lead says_of (durable_of c) (pending_of c) event answer c.standing (Turns to false) (turned to false c ∷ []) come (turns says_of (durable_of c) (pending_of c) event answer c.standing to (fitting (Turns to false) come))
    turns_lead to true come = settles_at (durable_of c) (pending_of c) c.standing to come (fitting (Turns to true) come)

    pub opens_lead : outcome c.standing event answer ≡ Opens → Leads (log_of c) (opened_logs (durable_of c) (pending_of c))
    opens_lead come = opens_at (durable_of c) (pending_of c) c.standing come (fitting Opens come)

    module _ (more : Candidate) (batch : List Change) (durable : durable_of more ≡ durable_of c) (pending : pending_of more ≡ pending_of c ++ says_of batch ∷ []) (is : says_of batch ≡ batch_of says_of event) where
      grows : pending_of more ≡ pending_of c ++ batch_of says_of event ∷ []
      grows = pending ∙ ap (λ (b : BatchRecord). pending_of c ++ b ∷ []) is

      pub adds_lead : (to : Standing) (settled : Bool) → outcome c.standing event answer ≡ Adds to settled → Leads (log_of c) (turned to settled more ∷ [])
      adds_lead to false come =
          let same : standing_log to (durable_of c) (grown (durable_of c) (pending_of c)) ≡ turned to false more =
          ap (λ (n : Contents). standing_log to n (grown (durable_of c) (pending_of c))) (sym durable) ∙ ap (λ (xs : List BatchRecord). standing_log to (durable_of more) xs) (sym grows) in
          subst (λ (log : ModelLog). Leads (log_of c) (log ∷ [])) same (adds_at (durable_of c) (pending_of c) c.standing to come (fitting (Adds to false) come))
      adds_lead to true come =
          let same : standing_log to (taken (durable_of c) (grown (durable_of c) (pending_of c))) [] ≡ turned to true more =
          ap (λ (n : Contents). standing_log to (taken n (grown (durable_of c) (pending_of c))) []) (sym durable) ∙ ap (λ (xs : List BatchRecord). standing_log to (taken (durable_of more) xs) []) (sym grows) in
          subst (λ (log : ModelLog). Leads (log_of c) (log ∷ [])) same (adds_settled_at (durable_of c) (pending_of c) c.standing to come (fitting (Adds to true) come))

-- At the end.

-- with no event left, some candidate and no answer must be left
pub ends : (C : Type 0) (cs : List Candidate) (answers : List Answer) → AnyGoes {C = C} says_of (map log_of cs) [] answers ↔ ((answers ≡ []) × (cs ≡ [] → ⊥))
ends C [] [] = (λ found. absurd found.1, λ both. absurd (both.1 refl))
ends C (c ∷ cs) [] = (
  λ found. (refl, λ is. let never : ⊥ = cc in never),
  λ both. (seen c.standing (taken (durable_of c) (pending_of c)) (taken (durable_of c) (pending_of c)), inl (of_sees c.standing (durable_of c) (pending_of c) _ (sees c.standing (durable_of c) (pending_of c) (taken (durable_of c) (pending_of c)) (all_reached (durable_of c) (pending_of c)))), tt),
)
ends C cs (a ∷ answers) = (λ found. absurd found.2, λ both. absurd (let is = both.0 in let never : ⊥ = cc in never))

-- no answer is left, and the test says whether a candidate is
pub none_left : (answers : List Answer) (cs : List Candidate) (result none empty : Bool) → none ≡ (length answers == 0) → none ≡ true → result ≡ not empty → empty ≡ (length cs == 0) → (result ≡ true) ↔ ((answers ≡ []) × (cs ≡ [] → ⊥))
none_left (a ∷ answers) cs result none empty was is so are = absurd (to_not none (was ∙ eq_false (length (a ∷ answers)) 0 (λ is. omega (arith, is))) is)
none_left [] [] result none empty was is so are = (λ yes. absurd (to_not result (so ∙ ap not are) yes), λ both. absurd (both.1 refl))
none_left [] (c ∷ cs) result none empty was is so are = (
  λ yes. (refl, λ same. let never : ⊥ = cc in never),
  λ both. so ∙ ap not (are ∙ eq_false (length (c ∷ cs)) 0 (λ is. omega (arith, is))),
)

-- an answer is left
pub some_left : (answers : List Answer) (cs : List Candidate) (result none : Bool) → none ≡ (length answers == 0) → none ≡ false → result ≡ false → (result ≡ true) ↔ ((answers ≡ []) × (cs ≡ [] → ⊥))
some_left [] cs result none was is so = absurd (to_not none is was)
some_left (a ∷ answers) cs result none was is so = (λ yes. absurd (to_not result so yes), λ both. absurd (let same = both.0 in let never : ⊥ = cc in never))

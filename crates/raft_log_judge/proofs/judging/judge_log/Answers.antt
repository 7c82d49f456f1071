use Rattle.std.proofs.Common.{◌≡◌, ◌↔◌, ◌∷◌, ◌∙◌, ◌+◌, ◌==◌, [], ℕ, List, true, ap, drop, map, subst, sym, rules}
use Rattle.std.proofs.lemmas.List.{drop_all}
use Rattle.raft_log_world.specs.declared.event.Answer.{Answer}
use Rattle.raft_log_world.specs.declared.event.Event.{Event}
use Rattle.raft_log_world.specs.Model.{ModelLog}
use Rattle.raft_log_world.specs.Model.ModelLog.{left, resting}
use Rattle.raft_log_judge.specs.declared.change.Change.{Change}
use Rattle.raft_log_judge.specs.Candidates.{log_of}
use Rattle.raft_log_judge.specs.Changes.{says_of}
use Rattle.raft_log_judge.specs.Judging.{IsExplained, no_contents}
use Rattle.raft_log_judge.specs.Views.{AnyGoes}
use Rattle.raft_log_judge.proofs.Leading.{explained_as, goes_on}
use Rattle.raft_log_judge.proofs.Nexts.{ends, none_left, some_left}
use Rattle.raft_log_judge.proofs.Supporting.{first_left}
use Rattle.raft_log_judge.proofs.judging.judge_log.Goals.{then-is_empty, else-is_empty}
use Rattle.raft_log_judge.proofs.judging.judge_log.Goals as goal

pub loop-event-init : goal.loop-event-init
loop-event-init g c =
    let events = c.args.events.now in
    let answers = c.args.answers.now in
    let pushed : c.push_back.new.self.items ≡ c.empty.result ∷ [] = search rules in
    let one : map log_of c.push_back.new.self.items ≡ left no_contents [] ∷ [] = ap (map log_of) pushed ∙ ap (λ (log : ModelLog). log ∷ []) c.empty.ensures in
    subst (λ (logs : List ModelLog). AnyGoes says_of logs events answers ↔ IsExplained events answers) (sym one) (explained_as (resting no_contents) events answers)

pub loop-event-preserved : goal.loop-event-preserved
loop-event-preserved g c =
    let events = c.args.events.now in
    let event = c.event-item.result in
    let answer = c.in-Some.answer.now in
    let later = c.in-Some.later.now in
    let i = c.loop-event.event-index in
    let logs = map log_of c.loop-event.candidates.items in
    let split = first_left events i event event c.loop-event-test.true c.event-item.is in
    let front : c.loop-event.rest.now ≡ answer ∷ later = search rules in
    let step = goes_on says_of logs (map log_of c.in_ok-candidates.candidates.items) event answer (drop (i + 1) events) later c.in_ok-candidates.ensures in
    let by_events = λ (es : List (Event (List Change) g.row.C.Denot)). AnyGoes says_of logs es c.loop-event.rest.now in
    let by_answers = λ (told : List Answer). AnyGoes says_of logs (event ∷ drop (i + 1) events) told in (
      λ goes. c.loop-event.invariant.0 (subst by_events (sym split) (subst by_answers (sym front) (step.0 goes))),
      λ explained. step.1 (subst by_answers front (subst by_events split (c.loop-event.invariant.1 explained))),
    )

pub returns : goal.returns
returns g c =
    let events = c.args.events.now in
    let rest = c.loop-event.rest.now in
    let cs = c.loop-event.candidates.items in
    let done = drop_all c.loop-event.event-index events c.loop-event-test.false in
    let ended = ends g.row.C.Denot cs rest in
    let by_events = λ (es : List (Event (List Change) g.row.C.Denot)). AnyGoes says_of (map log_of cs) es rest in
    let decides : (c.if-is_empty.result ≡ true) ↔ ((rest ≡ []) × (cs ≡ [] → ⊥)) = elim c.if-is_empty.branch [
      | then-is_empty w ↦ none_left rest cs c.if-is_empty.result c.is_empty.result w.is_empty-then-is_empty.result c.is_empty.ensures w.if-is_empty.true w.result-is (w.is_empty-then-is_empty.ensures ∙ ap (λ (n : ℕ). n == 0) c.loop-event.candidates.ok.0)
      | else-is_empty w ↦ some_left rest cs c.if-is_empty.result c.is_empty.result c.is_empty.ensures w.if-is_empty.false (w.result-is ∙ w.if-is_empty.false)
    ] in (
      λ yes. c.loop-event.invariant.0 (subst by_events (sym done) (ended.1 (decides.0 yes))),
      λ explained. decides.1 (ended.0 (subst by_events done (c.loop-event.invariant.1 explained))),
    )

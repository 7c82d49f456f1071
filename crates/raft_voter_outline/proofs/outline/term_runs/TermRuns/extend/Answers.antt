use Rattle.std.proofs.Common.{◌≡◌, ◌+◌, ◌≤◌, ◌++◌, ◌∷◌, [], ◌∙◌, Some, ap, sym, arith, drop, length}
use Rattle.std.proofs.lemmas.List.{append_assoc, drop_more, length-append}
use Rattle.raft_voter_outline.specs.Runs.{bare, runs_behind, top_term}
use Rattle.raft_voter_outline.proofs.Unrolling.{runs_behind-first, top-push}
use Rattle.raft_voter_outline.proofs.outline.term_runs.TermRuns.extend.Goals as goal

pub loop-term-preserved : goal.loop-term-preserved
loop-term-preserved c =
    let i = c.loop-term.term-index in
    let es = c.args.entries.now in
    let e = c.loop-term-item.result in
    let log = c.loop-term.self.log in
    let left = drop (i + 1) es in
    let inv = c.loop-term.invariant in
    let more : drop i es ≡ e ∷ left = drop_more es i e c.loop-term-test.true ∙ ap (λ x. x ∷ left) (sym c.loop-term-item.is) in
    let grown : c.push.new.self.log ≡ log ++ (e.0, []) ∷ [] = c.push.ensures.log in
    let longer : length c.push.new.self.log ≡ length log + 1 = ap length grown ∙ length-append log ((e.0, []) ∷ []) in
    let lefts : length (drop i es) ≡ length left + 1 = ap length more ∙ omega arith in
    let top : top_term c.push.new.self.log ≡ Some e.0 = ap top_term grown ∙ top-push log (e.0, []) in
    let room : runs_behind (top_term log) (e ∷ left) ≤ c.loop-term.self.room = rw more at inv.room in
    let parts : runs_behind (top_term log) (e ∷ left) ≡ runs_behind (top_term log) ((e.0, []) ∷ []) + runs_behind (Some e.0) left =
    runs_behind-first (top_term log) e.0 e.1 left in
    let spent : c.loop-term.self.room + runs_behind (top_term c.args.self.now.log) es ≡ c.args.self.now.room + runs_behind (top_term log) (e ∷ left) = rw more at inv.spent in
    let rest : log ++ (e.0, []) ∷ bare left ≡ c.args.self.now.log ++ bare es = rw more at inv.rest in
    record {
      base = c.push.ensures.base ∙ inv.base;
      size = omega (arith, c.push.ensures.base, longer, lefts, inv.size);
      room = rw top (omega (arith, room, parts, c.push.ensures.room));
      spent = rw top (omega (arith, spent, parts, c.push.ensures.room));
      rest = rw grown (append_assoc log ((e.0, []) ∷ []) (bare left) ∙ rest);
    }

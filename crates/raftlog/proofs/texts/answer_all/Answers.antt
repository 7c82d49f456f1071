use Rattle.std.proofs.Common.{◌≡◌, ◌∙◌, ◌++◌, ℕ, Bool, false, true, List, [], ◌∷◌, ap, subst, sym, string_bytes}
use Rattle.std.specs.Prelude.{IsTrue}
use Rattle.raft_log_world_engine.specs.contracts.files.ClosedLogLogFilesOpenLogLogBatchRemainder.TheImpl.{ghosts as of_files}
use Rattle.raftlog.specs.Playing.{IsSomeTranscript, between}
use Rattle.raftlog.proofs.Sequences.{one_more_text, one_more_transcript}
use Rattle.raftlog.proofs.texts.answer_all.Goals.{then-good, else-good, then-good-2, else-good-2}
use Rattle.raftlog.proofs.texts.answer_all.Goals as goal

pub loop-session-preserved : goal.loop-session-preserved
loop-session-preserved g c good = elim c.if-good.branch [
  | then-good w ↦ (
      let log = (of_files g.row.R g.R.Log g.R.Log-dict).log in
      let (texts, all, told) = c.loop-session.invariant w.if-good.true in
      let lines = c.in_ok-lines.lines in
      let yes : IsTrue c.in_ok-lines.yes = sym w.good-is ∙ good in
      let one = subst (λ (verdict : Bool). IsSomeTranscript log (string_bytes lines) verdict) yes (c.in_ok-lines.ensures yes) in
      let text = c.in_ok-push_str-2.ensures.bytes
      ∙ ap (λ (front : List ℕ). front ++ between) (c.in_ok-push_str.ensures.bytes ∙ ap (λ (b : List ℕ). string_bytes c.loop-session.told ++ b) c.as_str.ensures.value)
      ∙ one_more_text (string_bytes c.loop-session.told) (string_bytes lines) texts told in
      (texts ++ string_bytes lines ∷ [], one_more_transcript log texts (string_bytes lines) all one, text))
  | else-good w ↦ (let clash : false ≡ true = sym w.if-good.false ∙ (sym w.good-is ∙ good) in cc)
]

pub returns : goal.returns
returns g c = elim c.if-good-2.branch [
  | then-good-2 w ↦ (λ good.
      let log = (of_files g.row.R g.R.Log g.R.Log-dict).log in
      let (texts, all, told) = c.loop-session.invariant w.if-good-2.true in
      let lines = c.in_ok-lines-2.lines in
      let yes : IsTrue c.in_ok-lines-2.yes = sym w.result-is ∙ good in
      let last = subst (λ (verdict : Bool). IsSomeTranscript log (string_bytes lines) verdict) yes (c.in_ok-lines-2.ensures yes) in
      let text = c.in_ok-push_str-3.ensures.bytes ∙ ap (λ (b : List ℕ). string_bytes c.loop-session.told ++ b) c.as_str-2.ensures.value in
      (texts, string_bytes lines, all, last, text ∙ ap (λ (front : List ℕ). front ++ string_bytes lines) told))
  | else-good-2 w ↦ (λ good. let clash : false ≡ true = sym w.if-good-2.false ∙ (sym w.result-is ∙ good) in cc)
]

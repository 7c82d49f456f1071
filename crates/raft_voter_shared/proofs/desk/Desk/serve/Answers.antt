use Rattle.std.proofs.Common.{◌≡◌, ◌≤◌, ℕ, true, is_some, List, ◌++◌, length, length-append, map, sum, take, Option, None, refl, sym, ap, subst, ◌∙◌, arith}
use Rattle.std.proofs.Math.Logic.{∥∥₁_map}
use Rattle.std.proofs.lemmas.Bool.{false≢true}
use Rattle.std.proofs.lemmas.List.{length-map}
use Rattle.std.proofs.lemmas.List.Sums.{sum-map}
use Rattle.std.specs.List.{AllZip}
use Rattle.raft_voter_messages.specs.declared.reply.Reply.{Reply}
use Rattle.raft_voter_messages.specs.declared.request.Request.{Request}
use Rattle.raft_voter_messages.specs.declared.round.Round.{Round}
use Rattle.raft_voter.specs.Rounds.{World}
use Rattle.raft_voter.specs.Service.{AnswersRound, CutsOff, FailsAs, IsOpenAt, refused_from}
use Rattle.raft_voter_rounds.specs.Handing.{HandsOut}
use Rattle.raft_voter_rounds.specs.Journal.{IsLegal, reached}
use Rattle.raft_voter_rounds.specs.Noting.{answered_each, cut_each, told_each}
use Rattle.raft_voter_shared.specs.declared.failure.Failure.{Failure}
use Rattle.raft_voter_shared.specs.Failing.{CameToFailAs}
use Rattle.raft_voter_shared.specs.Standing.{failure_behind, is_last, standing}
use Rattle.raft_voter_shared.proofs.Cutting.{each_is_cut}
use Rattle.raft_voter_shared.proofs.Failing.{cut_why}
use Rattle.raft_voter_shared.proofs.Handing.{handed_round}
use Rattle.raft_voter_shared.proofs.Splitting.{length-answered_each}
use Rattle.raft_voter_shared.proofs.Steps.{answered_legal, answered_opens, cut_alive, cut_cause, cut_last, cut_leaves, cut_legal, cut_opens, cut_rising}
use Rattle.raft_voter_shared.proofs.desk.Desk.serve.Goals as goal

pub invariant_of-self-in-Ok-serve : goal.invariant_of-self-in-Ok-serve
invariant_of-self-in-Ok-serve g c =
    let v = g.S.RoundService.service in
    let old = c.args.self.now in
    let now = c.serve.new.self in
    let rounds = old.journal.history in
    let asked = c.args.merged.asked.items in
    let counts : List ℕ = map (λ part. part.ticket.count) c.args.merged.parts.items in
    let all : sum counts ≡ length asked = sum-map (λ part. part.ticket.count) c.args.merged.parts.items ∙ c.args.merged.counted in
    let told = c.in-Ok-serve.replies in
    let handed : List Reply = c.hand_out-noted.result.0.items in
    let lives = c.in-Ok-serve.ensures.lives in
    let many : c.len-in-Ok-serve.result ≡ length asked = omega (arith, c.len-in-Ok-serve.ensures, c.args.merged.asked.ok) in
    let zip : AllZip HandsOut (take (length asked) told) handed = subst (λ (l : List Reply). AllZip HandsOut l handed)
    (c.truncate.ensures.items ∙ ap (λ (n : ℕ). take n c.into_vec-told.result.items) many ∙ ap (λ (l : List Reply). take (length asked) l) c.into_vec-told.ensures) c.hand_out-noted.ensures.replies in
    let replied = subst (λ (qs : List (ℕ × Request)). AnswersRound v qs told old.store now) c.as_slice.ensures.value c.in-Ok-serve.ensures.ok in
    let answers = handed_round v asked told handed old.store now replied zip in
    let noted : c.note_answers.new.journal.history ≡ rounds ++ answered_each counts asked handed =
    c.note_answers.ensures.journal ∙ ap (λ (rs : List Round). rs ++ answered_each counts asked handed) c.reserve.ensures.history in
    let none : old.failure ≡ None = old.alive lives.0 in
    let opens : (W : World) → g.L.Opening.served W → ∥ IsOpenAt v now (reached W c.note_answers.new.journal.history) ∥₁ = λ W s. subst (λ (rs : List Round). ∥ IsOpenAt v now (reached W rs) ∥₁) (sym noted)
    (answered_opens v old.store now rounds asked counts handed all answers W (old.serves W s lives.0)) in
    record {
      counted = c.note_answers.ensures.counted;
      fewer = omega (arith, old.fewer, ap length noted, length-append rounds (answered_each counts asked handed), length-answered_each counts asked handed, length-map c.args.merged.parts.items (λ part. part.ticket.count), c.requires.some);
      legal = λ W s. subst (λ (rs : List Round). IsLegal W rs) (sym noted)
          (answered_legal v old.store now rounds asked counts handed all answers W (old.serves W s lives.0) (old.legal W s));
      serves = λ W s alive. opens W s;
      left = λ W s. subst (λ (f : Option Failure). ∥ v.leaves now (standing W c.note_answers.new.journal.history f) ∥₁) (sym none)
          (∥∥₁_map (opens W s) (λ o. o.left));
      alive = λ alive. none;
      last = subst (λ (f : Option Failure). is_last f c.note_answers.new.journal.history ≡ true) (sym none) refl;
      cause = λ dead lived. absurd (false≢true (sym lives.1 ∙ dead));
      why = λ W s. subst (λ (f : Option Failure). CameToFailAs v f (standing W c.note_answers.new.journal.history f) now) (sym none)
          (λ is. absurd (false≢true is));
    }

pub returns-in-Ok-serve-clause-ok : goal.returns-in-Ok-serve-clause-ok
returns-in-Ok-serve-clause-ok g c =
    let v = g.S.RoundService.service in
    let old = c.args.self.now in
    let now = c.serve.new.self in
    let rounds = old.journal.history in
    let asked = c.args.merged.asked.items in
    let counts : List ℕ = map (λ part. part.ticket.count) c.args.merged.parts.items in
    let told = c.in-Ok-serve.replies in
    let handed : List Reply = c.hand_out-noted.result.0.items in
    let many : c.len-in-Ok-serve.result ≡ length asked = omega (arith, c.len-in-Ok-serve.ensures, c.args.merged.asked.ok) in
    let zip : AllZip HandsOut (take (length asked) told) handed = subst (λ (l : List Reply). AllZip HandsOut l handed)
    (c.truncate.ensures.items ∙ ap (λ (n : ℕ). take n c.into_vec-told.result.items) many ∙ ap (λ (l : List Reply). take (length asked) l) c.into_vec-told.ensures) c.hand_out-noted.ensures.replies in
    let replied = subst (λ (qs : List (ℕ × Request)). AnswersRound v qs told old.store now) c.as_slice.ensures.value c.in-Ok-serve.ensures.ok in
    record {
      replies = handed;
      noted = c.note_answers.ensures.journal ∙ ap (λ (rs : List Round). rs ++ answered_each counts asked handed) c.reserve.ensures.history;
      own = c.note_answers.ensures.answers ∙ ap (λ (rs : List Round). told_each (length rs) counts handed) c.reserve.ensures.history;
      replied = handed_round v asked told handed old.store now replied zip;
      told = told;
      handed = zip;
      may_refuse = subst (λ (qs : List (ℕ × Request)). v.may_refuse old.store now qs (refused_from 0 told)) c.as_slice.ensures.value c.in-Ok-serve.ensures.refused;
      short = subst (λ (qs : List (ℕ × Request)). length qs ≤ 4096) c.as_slice.ensures.value c.in-Ok-serve.ensures.short;
      alive = c.in-Ok-serve.ensures.lives;
    }

pub invariant_of-self-in-Err : goal.invariant_of-self-in-Err
invariant_of-self-in-Err g c =
    let v = g.S.RoundService.service in
    let old = c.args.self.now in
    let now = c.serve.new.self in
    let rounds = old.journal.history in
    let asked = c.args.merged.asked.items in
    let parts = c.args.merged.parts.items in
    let counts : List ℕ = map (λ part. part.ticket.count) parts in
    let all : sum counts ≡ length asked = sum-map (λ part. part.ticket.count) parts ∙ c.args.merged.counted in
    let many : length counts ≡ length parts = length-map parts (λ part. part.ticket.count) in
    let cause = c.in-Err.fault.cause in
    let refused = c.in-Err.fault.refused in
    let cuts = subst (λ (qs : List (ℕ × Request)). CutsOff v cause refused qs old.store now) c.as_slice.ensures.value c.in-Err.ensures.err in
    let fails = subst (λ (qs : List (ℕ × Request)). FailsAs cause (length qs) (v.is_failed old.store) (v.is_failed now)) c.as_slice.ensures.value c.in-Err.ensures.errors in
    let cut : List Round = cut_each 0 counts asked refused in
    let are = each_is_cut counts asked refused (omega (arith, many, c.requires.some)) all (cut_rising v old.store now rounds asked cause refused cuts) in
    let noted : c.note_cuts.new.journal.history ≡ rounds ++ cut =
    c.note_cuts.ensures.journal ∙ ap (λ (ps : List ℕ). c.reserve.new.self.history ++ cut_each 0 counts asked ps) c.as_slice-in-Err.ensures
    ∙ ap (λ (rs : List Round). rs ++ cut) c.reserve.ensures.history in
    let first : c.len-first.result ≡ length rounds = c.len-first.ensures ∙ ap length c.reserve.ensures.history in
    let end : c.len-in-Err.result ≡ length (rounds ++ cut) = c.len-in-Err.ensures ∙ ap length noted in
    let failed : c.failure_behind.result ≡ failure_behind cause (length rounds) (length (rounds ++ cut)) old.failure =
    c.failure_behind.ensures ∙ ap (λ (n : ℕ). failure_behind cause n c.len-in-Err.result old.failure) first
    ∙ ap (λ (n : ℕ). failure_behind cause (length rounds) n old.failure) end in
    record {
      counted = c.note_cuts.ensures.counted;
      fewer = omega (arith, old.fewer, ap length noted, length-append rounds cut, are.some);
      legal = λ W s. subst (λ (rs : List Round). IsLegal W rs) (sym noted) (cut_legal v old.store now rounds asked refused cut are W (old.legal W s));
      serves = λ W s alive. subst (λ (rs : List Round). ∥ IsOpenAt v now (reached W rs) ∥₁) (sym noted)
          (cut_opens v old.store now rounds asked cause refused cut are cuts fails W (old.serves W s) alive);
      left = λ W s. subst (λ (rs : List Round). ∥ v.leaves now (standing W rs c.failure_behind.result) ∥₁) (sym noted)
          (subst (λ (f : Option Failure). ∥ v.leaves now (standing W (rounds ++ cut) f) ∥₁) (sym failed)
          (cut_leaves v old.store now rounds asked cause refused cut old.failure are cuts fails old.last W (old.serves W s) (old.left W s)));
      alive = λ alive. failed ∙ cut_alive cause (length asked) (length rounds) (length (rounds ++ cut)) old.failure (v.is_failed old.store) (v.is_failed now) fails old.alive alive;
      last = subst (λ (rs : List Round). is_last c.failure_behind.result rs ≡ true) (sym noted)
          (subst (λ (f : Option Failure). is_last f (rounds ++ cut) ≡ true) (sym failed)
          (cut_last cause rounds asked refused cut old.failure are old.last));
      cause = λ dead lived. ap is_some failed
          ∙ cut_cause cause (length asked) (length rounds) (length (rounds ++ cut)) old.failure (v.is_failed old.store) (v.is_failed now) g.L.Opening.had_failed fails old.cause dead lived;
      why = λ W s. subst (λ (rs : List Round). CameToFailAs v c.failure_behind.result (standing W rs c.failure_behind.result) now) (sym noted)
          (subst (λ (f : Option Failure). CameToFailAs v f (standing W (rounds ++ cut) f) now) (sym failed)
          (cut_why v old.store now rounds asked cause refused cut old.failure are cuts fails old.last W (old.serves W s) (old.why W s)));
    }

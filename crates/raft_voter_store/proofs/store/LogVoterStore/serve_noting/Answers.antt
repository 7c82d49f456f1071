use Rattle.std.proofs.Common.{◌≡◌, Bool, true, List, refl, sym, ap, arith, length, subst, ◌∙◌}
use Rattle.raft_log_engine.specs.raft_log_engine_core.specs.Reads.{shows_of}
use Rattle.raft_log_engine.specs.raft_log_engine_laws.specs.EngineState.{has_failed}
use Rattle.raft_voter.specs.Service.{refused_from}
use Rattle.raft_voter_outline.specs.Kept.{outlines_in}
use Rattle.raft_voter_store.specs.Counting.{with_round}
use Rattle.raft_voter_store.specs.Refusals.{AppendsRefusals}
use Rattle.raft_voter_store.specs.declared.refusals.Refusal.{Refusal}
use Rattle.raft_voter_store.specs.declared.counters.WorkCounters.{WorkCounters}
use Rattle.raft_voter_store.specs.declared.store.LogVoterStore.{LogVoterStore}
use Rattle.raft_voter_store.proofs.Counting.{counts_round, ends_synced, ends_unwritten}
use Rattle.raft_voter_store.proofs.Noting.{noted_synced, noted_unsynced}
use Rattle.raft_voter_store.proofs.Rounds.{answered_synced, answered_unwritten, cut_at, cut_unsynced, excused_synced}
use Rattle.raft_voter_store.proofs.Silence.{never}
use Rattle.raft_voter_store.proofs.store.LogVoterStore.serve_noting.Goals.{then-wrote+in-Ok-sync, else-wrote}
use Rattle.raft_voter_store.proofs.store.LogVoterStore.serve_noting.Goals as goal

pub returns-in_default-take_all-clause-cut : goal.returns-in_default-take_all-clause-cut
returns-in_default-take_all-clause-cut g c = λ cause.
    let shown = g.P.PipeLog.shown in
    cut_at c.args.requests.now c.take_all.new.replies.items c.cut_off.result.refused (shows_of shown c.args.self.now.engine) (shows_of shown c.take_all.new.self.engine) (outlines_in c.args.self.now.outlines) (c.in_default-take_all.ensures.broke refl) c.take_all.ensures.few
    (ap (λ fault. fault.refused) c.cut_off.ensures ∙ ap (λ l. refused_from 0 l) c.as_slice.ensures.value)

pub returns-in_default-sync-clause-cut : goal.returns-in_default-sync-clause-cut
returns-in_default-sync-clause-cut g c = λ cause.
    let shown = g.P.PipeLog.shown in
    cut_unsynced c.args.requests.now c.take_all.new.replies.items c.cut_off-in_default-sync.result.refused c.in-Some.wrote c.in_default-sync.field-0 (shows_of shown c.args.self.now.engine) (shows_of shown c.take_all.new.self.engine) (shows_of shown c.sync.new.self)
    (outlines_in c.args.self.now.outlines) (outlines_in c.take_all.new.self.outlines) c.in-Some.ensures.went c.in_default-sync.ensures.err c.take_all.ensures.few
    (ap (λ fault. fault.refused) c.cut_off-in_default-sync.ensures ∙ ap (λ l. refused_from 0 l) c.as_slice-in_default-sync.ensures.value)

pub returns-clause-ok : goal.returns-clause-ok
returns-clause-ok g c =
    let shown = g.P.PipeLog.shown in
    let s = shows_of shown c.args.self.now.engine in
    let t = shows_of shown c.take_all.new.self.engine in
    let os = outlines_in c.args.self.now.outlines in
    let us = outlines_in c.take_all.new.self.outlines in
    elim c.if-wrote.branch [
      | then-wrote+in-Ok-sync w ↦ rw (c.from_vec.ensures, w.self-is) (answered_synced c.args.requests.now c.take_all.new.replies.items c.in-Some.wrote s t (shows_of shown w.sync.new.self) os us c.in-Some.ensures.went w.in-Ok-sync.ensures.ok)
      | else-wrote w ↦ rw (c.from_vec.ensures, w.self-is) (answered_unwritten c.args.requests.now c.take_all.new.replies.items c.in-Some.wrote s t os us c.in-Some.ensures.went w.if-wrote.false)
    ]

pub returns-clause-excused : goal.returns-clause-excused
returns-clause-excused g c =
    let shown = g.P.PipeLog.shown in
    let s = shows_of shown c.args.self.now.engine in
    let t = shows_of shown c.take_all.new.self.engine in
    let os = outlines_in c.args.self.now.outlines in
    elim c.if-wrote.branch [
      | then-wrote+in-Ok-sync w ↦ rw (c.from_vec.ensures, w.self-is) (excused_synced c.args.requests.now c.take_all.new.replies.items s t (shows_of shown w.sync.new.self) os w.in-Ok-sync.ensures.ok c.in-Some.ensures.went.excused)
      | else-wrote w ↦ rw (c.from_vec.ensures, w.self-is) c.in-Some.ensures.went.excused
    ]

pub returns-clause-all : goal.returns-clause-all
returns-clause-all g c = ap (λ told. length told) c.from_vec.ensures ∙ c.in-Some.ensures.all

pub returns-in_default-sync-clause-quiet : goal.returns-in_default-sync-clause-quiet
returns-in_default-sync-clause-quiet g c = λ V are all. never c.in-Some.wrote c.if-wrote.true (c.in-Some.ensures.unwritten V are all)

pub returns-in_default-take_all-clause-unmoved : goal.returns-in_default-take_all-clause-unmoved
returns-in_default-take_all-clause-unmoved g c = λ none V are all.
    let shown = g.P.PipeLog.shown in
    let same = c.take_all.ensures.idle none V are all in
    let failed : has_failed (shows_of shown c.take_all.new.self.engine) ≡ true = (c.in_default-take_all.ensures.broke refl).broke.failed in
    never _ failed (ap (λ store. has_failed (shows_of shown store.engine)) same ∙ sym c.is_failed.ensures ∙ c.if-is_failed.false)

pub returns-in_default-sync-clause-unmoved : goal.returns-in_default-sync-clause-unmoved
returns-in_default-sync-clause-unmoved g c = λ none V are all. never c.in-Some.wrote c.if-wrote.true (c.in-Some.ensures.unwritten V are all)

pub returns-clause-quiet : goal.returns-clause-quiet
returns-clause-quiet g c = λ V are all. elim c.if-wrote.branch [
  | then-wrote+in-Ok-sync w ↦ never c.in-Some.wrote w.if-wrote.true (c.in-Some.ensures.unwritten V are all)
  | else-wrote w ↦ rw (w.self-is) (c.take_all.ensures.quiet V are all)
]

pub returns-clause-idle : goal.returns-clause-idle
returns-clause-idle g c = λ none V are all. elim c.if-wrote.branch [
  | then-wrote+in-Ok-sync w ↦ never c.in-Some.wrote w.if-wrote.true (c.in-Some.ensures.unwritten V are all)
  | else-wrote w ↦
      let same = c.take_all.ensures.idle none V are all in
      let silent = c.in-Some.ensures.unwritten V are all in
      ap (λ (store : LogVoterStore _). record store { work = c.with_round-self-2.result }) (w.self-is ∙ same)
      ∙ ap (λ (work : WorkCounters). record c.args.self.now { work = work }) (c.with_round-self-2.ensures ∙ ap (λ (b : Bool). with_round c.args.self.now.work (length c.args.requests.now) b) silent)
]

pub returns-clause-counted : goal.returns-clause-counted
returns-clause-counted g c =
    let shown = g.P.PipeLog.shown in
    let s = shows_of shown c.args.self.now.engine in
    let t = shows_of shown c.take_all.new.self.engine in
    let os = outlines_in c.args.self.now.outlines in
    let us = outlines_in c.take_all.new.self.outlines in
    let qs = c.args.requests.now in
    let told = c.take_all.new.replies.items in
    let wrote = c.in-Some.wrote in
    let old = c.args.self.now.work in
    elim c.if-wrote.branch [
      | then-wrote+in-Ok-sync w ↦ rw (c.from_vec.ensures, w.self-is)
          (counts_round qs told wrote s t (shows_of shown w.sync.new.self) os us old c.with_round-self-2.result c.in-Some.ensures.went (ends_synced wrote t _ w.if-wrote.true w.in-Ok-sync.ensures.ok) c.with_round-self-2.ensures)
      | else-wrote w ↦ rw (c.from_vec.ensures, w.self-is)
          (counts_round qs told wrote s t t os us old c.with_round-self-2.result c.in-Some.ensures.went (ends_unwritten wrote t w.if-wrote.false) c.with_round-self-2.ensures)
    ]

pub returns-in_default-take_all-clause-cut_causes : goal.returns-in_default-take_all-clause-cut_causes
returns-in_default-take_all-clause-cut_causes g c = λ cause enough.
    let shown = g.P.PipeLog.shown in
    let s = shows_of shown c.args.self.now.engine in
    let t = shows_of shown c.take_all.new.self.engine in
    let os = outlines_in c.args.self.now.outlines in
    let told = c.take_all.new.replies.items in (
      told,
      ap (λ fault. fault.refused) c.cut_off.ensures ∙ ap (λ l. refused_from 0 l) c.as_slice.ensures.value,
      subst (λ (l : List Refusal). AppendsRefusals c.args.requests.now told l c.take_all.new.refusals.items s t os) c.in-Ok.ensures.items (c.take_all.ensures.noted (omega (arith, enough, c.in-Ok.ensures.ok))),
    )

pub returns-in_default-sync-clause-cut_causes : goal.returns-in_default-sync-clause-cut_causes
returns-in_default-sync-clause-cut_causes g c = λ cause enough.
    let shown = g.P.PipeLog.shown in
    let s = shows_of shown c.args.self.now.engine in
    let t = shows_of shown c.take_all.new.self.engine in
    let os = outlines_in c.args.self.now.outlines in
    let told = c.take_all.new.replies.items in
    let noted = subst (λ (l : List Refusal). AppendsRefusals c.args.requests.now told l c.take_all.new.refusals.items s t os) c.in-Ok.ensures.items (c.take_all.ensures.noted (omega (arith, enough, c.in-Ok.ensures.ok))) in (
      told,
      ap (λ fault. fault.refused) c.cut_off-in_default-sync.ensures ∙ ap (λ l. refused_from 0 l) c.as_slice-in_default-sync.ensures.value,
      noted_unsynced c.args.requests.now told c.args.refusals.now.items c.take_all.new.refusals.items c.in_default-sync.field-0 s t (shows_of shown c.sync.new.self) os c.in_default-sync.ensures.err noted,
    )

pub returns-clause-causes : goal.returns-clause-causes
returns-clause-causes g c = λ enough.
    let shown = g.P.PipeLog.shown in
    let s = shows_of shown c.args.self.now.engine in
    let t = shows_of shown c.take_all.new.self.engine in
    let os = outlines_in c.args.self.now.outlines in
    let told = c.take_all.new.replies.items in
    let noted = subst (λ (l : List Refusal). AppendsRefusals c.args.requests.now told l c.take_all.new.refusals.items s t os) c.in-Ok.ensures.items (c.take_all.ensures.noted (omega (arith, enough, c.in-Ok.ensures.ok))) in
    elim c.if-wrote.branch [
      | then-wrote+in-Ok-sync w ↦ rw (c.from_vec.ensures, w.self-is) (noted_synced c.args.requests.now told c.args.refusals.now.items c.take_all.new.refusals.items s t (shows_of shown w.sync.new.self) os w.in-Ok-sync.ensures.ok noted)
      | else-wrote w ↦ rw (c.from_vec.ensures, w.self-is) noted
    ]

use Rattle.std.proofs.Common.{◌+◌, ◌-◌, ◌++◌, [], ◌∷◌, ap, arith, refl, sym, take, take_all, ◌∙◌}
use Rattle.raft_log_extents.specs.Runs.{expand, total}
use Rattle.raft_log_extents.proofs.RunParts.{total-head}
use Rattle.raft_log_extents.proofs.RunReplacing.{sound_length}
use Rattle.raft_log_extents.proofs.RunSpots.{ends_kept, truncated}
use Rattle.raft_log_extents.proofs.runs.Runs.truncate.Goals as goal

pub returns-then-count-self-clause-items : goal.returns-then-count-self-clause-items
returns-then-count-self-clause-items c =
    let r = c.args.self.now in
    let long = sound_length r.front r.base r.len r.runs.items r.starts.items r.sound in
    let count = r.sound.count in
    sym (take_all c.args.count (expand r.runs.items r.starts.items) (omega (arith, long, count, c.if-count-self.true)))

pub invariant_of-self : goal.invariant_of-self
invariant_of-self c =
    let r = c.args.self.now in
    let s = c.spot-spot.result in
    let h = c.head-head.result in
    record {
      sound = (truncated r.front r.base r.len (c.args.count - 1) r.runs.items r.starts.items s r.sound c.spot-spot.ensures c.args.count c.place_in-last.result h
          c.push_back_reserved.new.self.items c.truncate-2.new.self.items refl (omega (arith, c.if-count-eq0.false)) c.place_in-last.ensures c.head-head.ensures
          (c.push_back_reserved.ensures.items ∙ ap (λ l. l ++ (h ∷ [])) c.truncate.ensures.items)
          (c.truncate-2.ensures.items ∙ ap (λ n. take (s.from + n) r.starts.items) c.width.ensures)).1;
    }

pub returns-clause-items : goal.returns-clause-items
returns-clause-items c =
    let r = c.args.self.now in
    let s = c.spot-spot.result in
    let h = c.head-head.result in
    (truncated r.front r.base r.len (c.args.count - 1) r.runs.items r.starts.items s r.sound c.spot-spot.ensures c.args.count c.place_in-last.result h
    c.push_back_reserved.new.self.items c.truncate-2.new.self.items refl (omega (arith, c.if-count-eq0.false)) c.place_in-last.ensures c.head-head.ensures
    (c.push_back_reserved.ensures.items ∙ ap (λ l. l ++ (h ∷ [])) c.truncate.ensures.items)
    (c.truncate-2.ensures.items ∙ ap (λ n. take (s.from + n) r.starts.items) c.width.ensures)).0

pub returns-clause-ends : goal.returns-clause-ends
returns-clause-ends c = λ k low few.
    let r = c.args.self.now in
    let s = c.spot-spot.result in
    let h = c.head-head.result in
    let len = r.runs.ok.0 in
    let kept = ends_kept r.front r.base r.len (c.args.count - 1) c.args.count k r.runs.items r.starts.items s h c.push_back_reserved.new.self.items r.sound c.spot-spot.ensures
    refl (omega (arith, c.if-count-eq0.false)) (ap (λ x. total x) c.head-head.ensures ∙ total-head s.run (s.within + 1) c.place_in-last.result.entry_len (omega (arith, c.spot-spot.ensures.within)))
    (c.push_back_reserved.ensures.items ∙ ap (λ l. l ++ (h ∷ [])) c.truncate.ensures.items) (omega (arith, low, len)) few in
    let now = c.push_back_reserved.new.self.ok.0 in
    let within = kept.0 in
    (omega (arith, within, now), kept.1)

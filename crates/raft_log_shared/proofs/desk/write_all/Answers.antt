use Rattle.std.proofs.Common.{◌≡◌, ◌+◌, false, [], ◌∷◌, ◌++◌, length, length-append, map, refl, sym, ap, ◌∙◌, arith}
use Rattle.std.specs.Prelude.{option_to_list}
use Rattle.std.proofs.lemmas.List.{map_push}
use Rattle.raft_log_world.specs.declared.event.Call.TheVariants.{Write}
use Rattle.raft_log_shared.specs.Calls.{answer_of, wrote}
use Rattle.raft_log_shared.proofs.Ending.{before_more, one_more}
use Rattle.raft_log_shared.proofs.desk.write_all.Goals as goal

pub loop-job-preserved : goal.loop-job-preserved
loop-job-preserved g c =
    let before = c.loop-job in
    let so_far = before.invariant in
    let job = c.in-Some.job in
    let rest = c.pop_front.new.self.items in
    let popped : before.jobs.items ≡ job ∷ rest = c.pop_front.ensures.items ∙ ap (λ r. option_to_list r ++ rest) c.in-Some.is in
    let made = c.write_job.ensures in
    let part = c.write_job.result in
    let pushed = c.push_reserved.ensures.items in
    let history = before.engine.keeper in
    let history' = c.write_job.new.engine.keeper in
    let longer : length history' ≡ length history + 1 = omega (arith, ap length made.noted, length-append history (wrote job.ask.batch (answer_of part.result) ∷ [])) in
    record {
      whose = one_more (map (λ part. part.ask) before.parts.items) (map (λ part. part.ask) c.push_reserved.new.self.items) part.ask job.ask
          (map (λ job. job.ask) rest) _
          (ap (λ ps. map (λ part. part.ask) ps) pushed ∙ map_push (λ part. part.ask) before.parts.items part) made.ask
          (sym (ap (λ js. map (λ part. part.ask) before.parts.items ++ map (λ job. job.ask) js) popped) ∙ so_far.whose);
      len = omega (arith, so_far.len, ap length popped, ap length pushed, length-append before.parts.items (part ∷ []));
      before = before_more (λ part. part.claim.0) before.parts.items c.push_reserved.new.self.items part (length history) (length history') pushed longer made.at so_far.before;
      calls = one_more (map (λ s. s.call) history) (map (λ s. s.call) history') (Write job.ask.batch false) (Write job.ask.batch false)
          (map (λ job. Write job.ask.batch false) rest) _
          (ap (λ ss. map (λ s. s.call) ss) made.noted ∙ map_push (λ s. s.call) history (wrote job.ask.batch (answer_of part.result))) refl
          (sym (ap (λ js. map (λ s. s.call) history ++ map (λ job. Write job.ask.batch false) js) popped) ∙ so_far.calls);
      room = omega (arith, so_far.room, ap length popped, c.push_reserved.ensures.len, c.push_reserved.ensures.capacity);
    }

use Rattle.std.proofs.Common.{◌≡◌, ◌+◌, ◌++◌, ◌∙◌, append-nil, arith, drop, refl, subst, sym, take}
use Rattle.raft_log_extents.specs.Entries.{entries_of}
use Rattle.raft_log_extents.specs.RunLists.{places}
use Rattle.raft_log_extents.proofs.RunCopies.{Has, copied_more, first_is, found_has}
use Rattle.raft_log_extents.proofs.RunReplacing.{sound_length}
use Rattle.raft_log_extents.proofs.RunTurns.{counts_take}
use Rattle.raft_log_extents.proofs.runs.Runs.copy_entries.Goals as goal

pub overflow_add-number : goal.overflow_add-number
overflow_add-number c =
    let r = c.args.self.now in
    let long = sound_length r.front r.base r.len r.runs.items r.starts.items r.sound in
    omega (arith, long, r.sound.count, r.sound.fits, c.requires.within)

pub loop-done-init : goal.loop-done-init
loop-done-init c =
    let r = c.args.self.now in
    let long = sound_length r.front r.base r.len r.runs.items r.starts.items r.sound in
    let here : c.args.position ≡ c.args.position + 0 = omega arith in
    let there = c.find-at.ensures.within in
    let first = first_is r.front r.base r.len c.find-at.result r.runs.items r.starts.items c.index.result.now r.sound there c.index.ensures in
    record {
      items = sym (append-nil c.args.entries.now.items);
      len = omega arith;
      capacity = refl;
      within = omega arith;
      has = λ some. subst (λ n. Has r.runs.items c.find-at.result n) here
          (found_has r.front r.base r.len c.args.position c.find-at.result r.runs.items r.starts.items r.sound
          (omega (arith, long, r.sound.count, c.requires.within, some)) c.find-at.ensures);
      here = λ some.
          let has = found_has r.front r.base r.len c.args.position c.find-at.result r.runs.items r.starts.items r.sound
          (omega (arith, long, r.sound.count, c.requires.within, some)) c.find-at.ensures in
          let low = has.low in omega (arith, low, first);
    }

pub overflow_add-within : goal.overflow_add-within
overflow_add-within c =
    let r = c.args.self.now in
    let all = counts_take r.runs.items (c.loop-done.at + 1) in
    omega (arith, all, c.copy_run-more.ensures.end, r.sound.count, r.sound.fits)

pub loop-done-preserved : goal.loop-done-preserved
loop-done-preserved c =
    let r = c.args.self.now in
    let i = c.loop-done.invariant in
    let n = c.copy_run-more.result in
    let more = c.copy_run-more.ensures in
    let done = c.loop-done.done in
    let long = sound_length r.front r.base r.len r.runs.items r.starts.items r.sound in
    let len = i.len in
    let added = more.len in
    let few = more.count in
    let within = i.within in
    let here = i.here c.loop-done-test.true in
    let same = c.next_place.ensures.same in
    let ok = r.runs.ok.0 in
    record {
      items = copied_more c.args.queue c.args.index c.args.position done n (places r) c.args.entries.now.items c.loop-done.entries.items c.copy_run-more.new.entries.items
          (omega (arith, c.requires.within, within)) i.items
          (subst (λ p. c.copy_run-more.new.entries.items ≡ c.loop-done.entries.items ++ entries_of c.args.queue (c.args.index + done) (take n (drop p (places r)))) here more.items);
      len = omega (arith, len, added);
      capacity = more.capacity ∙ i.capacity;
      within = omega (arith, few, within);
      has = λ rest.
          let there = c.next_place.ensures.there (omega (arith, here, long, r.sound.count, c.requires.within, rest)) in
          record { there = omega (arith, there.0, ok); low = omega (arith, same, here); high = omega (arith, there.1, same, here) };
      here = λ rest. omega (arith, same, here);
    }

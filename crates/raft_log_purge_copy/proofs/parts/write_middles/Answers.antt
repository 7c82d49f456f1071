use Rattle.std.proofs.Common.{◌≡◌, ◌+◌, ◌-◌, ◌∙◌, ◌<◌, ◌≤◌, ℕ, List, [], ◌∷◌, ◌++◌, length, take, drop, refl, sym, subst, arith, length-drop}
use Rattle.std.proofs.lemmas.List.{length-take, take_all}
use Rattle.std.proofs.lemmas.Result.{err_from_is_err_and}
use Rattle.raft_log_record_items.specs.declared.entry.EntryIndex.{EntryIndex}
use Rattle.raft_log_engine_laws.specs.EngineState.{shows}
use Rattle.raft_log_purge_copy.specs.declared.parts.RestatedPart.{RestatedPart}
use Rattle.raft_log_purge_copy.specs.GroupParts.{HasParts}
use Rattle.raft_log_purge_copy.specs.Pieces.{MakeOnePiece, piece_count}
use Rattle.raft_log_purge_copy.proofs.Opening.{given_up}
use Rattle.raft_log_purge_copy.proofs.Handing.{handed_on, none_handed}
use Rattle.raft_log_purge_copy.proofs.parts.write_middles.Goals as goal

-- how many entries are left
left : (done : ℕ) (all : List EntryIndex) → done < length all → 0 < length (take (length all - done) (drop done all))
left done all within = (let cut = length-take (length all - done) (drop done all) in let rest = length-drop done all in omega (arith, cut, rest, within))

-- all that is left is handed on
rest_is : (done : ℕ) (all : List EntryIndex) → take (length all - done) (drop done all) ≡ drop done all
rest_is done all = take_all (length all - done) (drop done all) (omega (arith, length-drop done all))

-- of what is handed on so many make one piece
piece_is : (done count : ℕ) (all : List EntryIndex) → MakeOnePiece (take count (take (length all - done) (drop done all))) → MakeOnePiece (take count (drop done all))
piece_is done count all is = subst (λ (es : List EntryIndex). MakeOnePiece (take count es)) (rest_is done all) is

-- and as many as make the next one
most_is : (done count : ℕ) (all : List EntryIndex) → count ≡ piece_count (take (length all - done) (drop done all)) → count ≡ piece_count (drop done all)
most_is done count all is = subst (λ (es : List EntryIndex). count ≡ piece_count es) (rest_is done all) is

pub loop-count-init : goal.loop-count-init
loop-count-init g c = record {
  goes = λ m s is has. has;
  within = c.requires.within;
  some = c.piece_len-count.ensures.some (left c.args.begin c.args.entries.now c.requires.within);
  piece = piece_is c.args.begin c.piece_len-count.result c.args.entries.now c.piece_len-count.ensures.piece;
  most = most_is c.args.begin c.piece_len-count.result c.args.entries.now c.piece_len-count.ensures.most;
  begun = c.requires.open;
  same = refl;
  handed = none_handed c.args.unsynced.now (g.P.PipeLog.shown c.args.pipes.now);
}

pub loop-count-preserved : goal.loop-count-preserved
loop-count-preserved g c =
    let all = c.args.entries.now in
    let l = c.loop-count in
    let n = c.args.builder.now.id in
    let less = c.loop-count-test.true in
    let within : l.done + l.count < length all = omega (arith, less) in
    let w = g.P.PipeLog.shown c.write_middle.new.pipes in
    let part = c.in_ok-part.part in record {
      goes = λ m s is has.
          (let so_far = l.invariant.goes m s is has in
          let here = subst (λ (k : ℕ). HasParts c.args.group k l.done l.parts.items s (shows (g.P.PipeLog.shown l.pipes) m l.cache)) (sym l.invariant.same) so_far in
          let more = c.in_ok-part.ensures.ok l.parts.items m s is here in
          subst (λ (items : List RestatedPart). HasParts c.args.group n (l.done + l.count) items s (shows w m c.write_middle.new.cache)) (sym c.in_ok-push.ensures.items)
          (subst (λ (k : ℕ). HasParts c.args.group k (l.done + l.count) (l.parts.items ++ part ∷ []) s (shows w m c.write_middle.new.cache)) l.invariant.same more));
      within = within;
      some = c.piece_len-count-in-loop-count.ensures.some (left (l.done + l.count) all within);
      piece = piece_is (l.done + l.count) c.piece_len-count-in-loop-count.result all c.piece_len-count-in-loop-count.ensures.piece;
      most = most_is (l.done + l.count) c.piece_len-count-in-loop-count.result all c.piece_len-count-in-loop-count.ensures.most;
      begun = c.in_ok-part.ensures.begun;
      same = c.in_ok-part.ensures.same ∙ l.invariant.same;
      handed = handed_on c.args.unsynced.now l.unsynced c.write_middle.new.unsynced (g.P.PipeLog.shown c.args.pipes.now) (g.P.PipeLog.shown l.pipes) w l.invariant.handed (c.in_ok-part.ensures.handed l.invariant.most);
    }

pub returns-in_err-part-clause-err : goal.returns-in_err-part-clause-err
returns-in_err-part-clause-err g c =
    let l = c.loop-count in
    let p = err_from_is_err_and c.from_residual.result c.from_residual.ensures.1 in
    rw (p.1, p.2)
    (λ m s is has.
    c.in_err-part.ensures.err l.parts.items m s is
    (subst (λ (k : ℕ). HasParts c.args.group k l.done l.parts.items s (shows (g.P.PipeLog.shown l.pipes) m l.cache)) (sym l.invariant.same) (l.invariant.goes m s is has)))

pub returns-in_err-push-clause-err : goal.returns-in_err-push-clause-err
returns-in_err-push-clause-err g c =
    let l = c.loop-count in
    let p = err_from_is_err_and c.from_residual-in_err-push.result c.from_residual-in_err-push.ensures.1 in
    rw p.1
    (λ m s is has.
    given_up c.args.group l.builder.id (l.done + l.count) (l.parts.items ++ c.in_ok-part.part ∷ []) s (shows (g.P.PipeLog.shown c.write_middle.new.pipes) m c.write_middle.new.cache)
    (c.in_ok-part.ensures.ok l.parts.items m s is
    (subst (λ (k : ℕ). HasParts c.args.group k l.done l.parts.items s (shows (g.P.PipeLog.shown l.pipes) m l.cache)) (sym l.invariant.same) (l.invariant.goes m s is has)))
    p.0 p.2)

pub returns-clause-ok : goal.returns-clause-ok
returns-clause-ok g c = c.loop-count.invariant.goes

pub returns-clause-last : goal.returns-clause-last
returns-clause-last g c =
    let l = c.loop-count in
    let long : length (drop l.done c.args.entries.now) ≤ l.count = omega (arith, c.loop-count-test.false, length-drop l.done c.args.entries.now) in
    subst MakeOnePiece (take_all l.count (drop l.done c.args.entries.now) long) l.invariant.piece

pub returns-clause-handed : goal.returns-clause-handed
returns-clause-handed g c = c.loop-count.invariant.handed

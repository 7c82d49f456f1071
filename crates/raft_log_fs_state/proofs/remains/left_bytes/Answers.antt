use Rattle.std.proofs.Common.{sym, ◌∙◌, ap, subst, ◌≡◌, ◌<◌, ◌+◌, ◌++◌, ◌∷◌, [], ℕ, List, Option, length, get_or, drop, Vec, Global}
use Rattle.std.specs.Option.{option_to_list}
use Rattle.raft_log_fs.specs.Disk.{file_limit}
use Rattle.raft_log_fs.specs.Image.{end_of}
use Rattle.raft_log_fs_state.specs.declared.change.Stamped.{Stamped}
use Rattle.raft_log_fs_state.specs.Changes.{change_of}
use Rattle.raft_log_fs_state.specs.Held.{written}
use Rattle.raft_log_fs_state.specs.Left.{left_by}
use Rattle.raft_log_fs_state.specs.Stamps.{place_in}
use Rattle.raft_log_fs_state.proofs.TakingBack.{next_piece, next_ends, next_left}
use Rattle.raft_log_fs_state.proofs.remains.left_bytes.Goals as goal

pub carry_out-requires : goal.carry_out-requires
carry_out-requires c =
    let us = c.args.stored.now.changes.items in
    let i = c.loop-stamped.stamped-index in
    let u = c.stamped-item.result in
    let start = c.args.stored.now.content in
    let rest = c.pop.new.self.items in
    let here : (i < length us) × (u ≡ get_or us i u) =
    subst (λ (vs : List Stamped). (i < length vs) × (u ≡ get_or vs i u)) c.deref-stamped-items.ensures.value (c.loop-stamped-test.true, c.stamped-item.is) in
    let popped : c.loop-stamped.pieces.items ≡ rest ++ c.unwrap-piece.result ∷ [] =
    c.pop.ensures.items ∙ ap (λ (o : Option (Vec ℕ Global)). rest ++ option_to_list o) c.unwrap-piece.ensures in
    let next = next_piece us i u start c.loop-stamped.pieces.items rest c.unwrap-piece.result here.0 here.1 c.loop-stamped.invariant.pieces popped in
    let bytes : c.deref-in-loop-stamped.result.now ≡ written u (drop (i + 1) us) start = c.deref-in-loop-stamped.ensures.value ∙ next.1 in
    subst (λ (xs : List ℕ). end_of (change_of u.change xs) < file_limit) (sym bytes) (next_ends us i u start here.0 here.1 c.loop-stamped.invariant.ends).0

pub loop-stamped-preserved : goal.loop-stamped-preserved
loop-stamped-preserved c =
    let what = c.args.what.now in
    let place = place_in c.args.stamps.now in
    let us = c.args.stored.now.changes.items in
    let i = c.loop-stamped.stamped-index in
    let u = c.stamped-item.result in
    let start = c.args.stored.now.content in
    let old = c.loop-stamped.content in
    let rest = c.pop.new.self.items in
    let here : (i < length us) × (u ≡ get_or us i u) =
    subst (λ (vs : List Stamped). (i < length vs) × (u ≡ get_or vs i u)) c.deref-stamped-items.ensures.value (c.loop-stamped-test.true, c.stamped-item.is) in
    let popped : c.loop-stamped.pieces.items ≡ rest ++ c.unwrap-piece.result ∷ [] =
    c.pop.ensures.items ∙ ap (λ (o : Option (Vec ℕ Global)). rest ++ option_to_list o) c.unwrap-piece.ensures in
    let next = next_piece us i u start c.loop-stamped.pieces.items rest c.unwrap-piece.result here.0 here.1 c.loop-stamped.invariant.pieces popped in
    let bytes : c.deref-in-loop-stamped.result.now ≡ written u (drop (i + 1) us) start = c.deref-in-loop-stamped.ensures.value ∙ next.1 in
    let made : c.carry_out.new.content ≡ left_by what c.place_of-place.result (change_of u.change (written u (drop (i + 1) us) start)) old =
    c.in_ok-carry_out.ensures ∙ ap (λ (xs : List ℕ). left_by what c.place_of-place.result (change_of u.change xs) old) bytes in
    record {
      same = next_left what place us i u start old c.carry_out.new.content c.place_of-place.result here.0 here.1 c.place_of-place.ensures made ∙ c.loop-stamped.invariant.same;
      pieces = next.0;
      ends = (next_ends us i u start here.0 here.1 c.loop-stamped.invariant.ends).1;
    }

use Rattle.std.proofs.Common.{◌≡◌, None, Some, option_map, ap, sym, ◌∙◌, ◌++◌, ◌∷◌, [], map, ◌==◌, if◌then◌else◌}
use Rattle.raft_log_model_laws.specs.Fragments.{then_head, without}
use Rattle.raft_log_model_laws.specs.Item.Mark.{End}
use Rattle.raft_log_model_laws.specs.Fragments.Head.{Ends}
use Rattle.raft_log_replay_context.specs.OpenGroups.{begun_at, begun_of}
use Rattle.raft_log_replay_context.specs.Pieces.{head_at, part_read, part_seen, parts_seen, seen_by, unfinished_of, Reading}
use Rattle.raft_log_replay_context.proofs.Parts.{parts_one, parts_push}
use Rattle.raft_log_replay_context.proofs.Fragments.{head_ends, head_stays_ended}
use Rattle.raft_log_replay_context.proofs.OpenGroups.{counts_nothing, counts_whole, known_there, pieces_more, seen_without}
use Rattle.raft_log_replay_context.proofs.pieces.GroupPieces.end.Goals as goal

pub returns-in_default : goal.returns-in_default
returns-in_default c = λ rs p.
    let n = c.args.number in
    let us = c.args.self.now.left_open in
    let part = c.args.part in
    let none : begun_at n us ≡ None = sym c.take.ensures.group ∙ ap (option_map begun_of) c.in_default.is in
    let items = λ (φ : Reading). ap (parts_seen φ) (c.in_ok-push.ensures.items ∙ ap (λ l. l ++ part ∷ []) c.new-parts.ensures.items) ∙ parts_one φ part in (
      pieces_more rs (part_read (End n) part) c.add_head.new.self
          (λ φ k. c.in_ok-add_head.ensures.heads φ k
          ∙ ap (λ ys. if n == k then then_head (head_at φ c.args.self.now k) (Ends ys) else head_at φ c.args.self.now k) (items φ)
          ∙ head_ends k n (part_seen φ part) (head_at φ c.args.self.now k) (seen_by φ rs) (p.heads φ k))
          (λ φ. ap (map (unfinished_of φ)) (c.in_ok-add_head.ensures.others ∙ c.take.ensures.rest) ∙ seen_without φ n us ∙ ap (without n) (p.left_open φ)),
      λ φ. sym (counts_nothing φ rs n us (p.left_open φ) (part_seen φ part) none),
    )

pub returns : goal.returns
returns c = λ rs p.
    let us = c.args.self.now.left_open in
    let n = c.args.number in
    let part = c.args.part in
    let group = c.in-Some.group in
    let found : begun_at n us ≡ Some (begun_of group) = sym c.take.ensures.group ∙ ap (option_map begun_of) c.in-Some.is in (
      pieces_more rs (part_read (End n) part) _
          (λ φ k. p.heads φ k ∙ head_stays_ended k n (part_seen φ part) (seen_by φ rs) (known_there φ rs n us (p.left_open φ) (begun_of group) found))
          (λ φ. ap (map (unfinished_of φ)) c.take.ensures.rest ∙ seen_without φ n us ∙ ap (without n) (p.left_open φ)),
      λ φ. ap (parts_seen φ) c.in_ok-push-2.ensures.items ∙ parts_push φ group.parts.items part
          ∙ sym (counts_whole φ rs n us (p.left_open φ) (begun_of group) found (part_seen φ part)),
    )

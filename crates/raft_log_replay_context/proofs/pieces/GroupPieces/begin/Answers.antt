use Rattle.std.proofs.Common.{ap, ap₂, ◌∙◌, ◌++◌, ◌∷◌, [], map}
use Rattle.std.proofs.lemmas.List.{map-append}
use Rattle.raft_log_model_laws.specs.Fragments.{without}
use Rattle.raft_log_model_laws.specs.Item.Mark.{Begin}
use Rattle.raft_log_replay_context.specs.OpenGroups.{without_begun}
use Rattle.raft_log_replay_context.specs.Pieces.{head_at, part_read, part_seen, parts_seen, seen_by, unfinished_of, Reading}
use Rattle.raft_log_replay_context.proofs.Parts.{parts_one}
use Rattle.raft_log_replay_context.proofs.Fragments.{head_begins}
use Rattle.raft_log_replay_context.proofs.OpenGroups.{pieces_more, seen_without}
use Rattle.raft_log_replay_context.proofs.Outcomes.{on_ok_from}
use Rattle.raft_log_replay_context.proofs.pieces.GroupPieces.begin.Goals as goal

pub returns : goal.returns
returns c =
    let n = c.args.number in
    let part = c.args.part in
    let items = λ (φ : Reading). ap (parts_seen φ) (c.in_ok-push.ensures.items ∙ ap (λ l. l ++ part ∷ []) c.new-parts.ensures.items) ∙ parts_one φ part in
    on_ok_from c.add_head.result c.add_head.ensures.heads (λ heads rs p.
    pieces_more rs (part_read (Begin n) part) c.add_head.new.self
    (λ φ k. heads φ k
    ∙ head_begins k n (part_seen φ part) (head_at φ c.args.self.now k) (seen_by φ rs) (p.heads φ k))
    (λ φ. ap (map (unfinished_of φ)) c.add_head.ensures.others
    ∙ ap (map (unfinished_of φ)) c.in_ok-push-2.ensures
    ∙ map-append (unfinished_of φ) (without_begun n c.args.self.now.left_open) _
    ∙ ap₂ (λ l ys. l ++ record { number = n; items = ys } ∷ []) (seen_without φ n c.args.self.now.left_open ∙ ap (without n) (p.left_open φ)) (items φ)))

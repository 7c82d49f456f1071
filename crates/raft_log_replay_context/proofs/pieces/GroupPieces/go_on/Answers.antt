use Rattle.std.proofs.Common.{ap, subst, ◌∙◌, ◌++◌, ◌∷◌, [], map, ◌==◌, if◌then◌else◌}
use Rattle.raft_log_model_laws.specs.Fragments.{more, then_head}
use Rattle.raft_log_model_laws.specs.Item.Mark.{Middle}
use Rattle.raft_log_model_laws.specs.Fragments.Head.{GoesOn}
use Rattle.raft_log_replay_context.specs.OpenGroups.{GoesOnAmong}
use Rattle.raft_log_replay_context.specs.Pieces.{head_at, part_read, part_seen, parts_seen, seen_by, unfinished_of, Reading}
use Rattle.raft_log_replay_context.proofs.Parts.{parts_one}
use Rattle.raft_log_replay_context.proofs.Fragments.{head_goes_on, head_stays_on}
use Rattle.raft_log_replay_context.proofs.OpenGroups.{known_there, none_more, pieces_more, seen_more}
use Rattle.raft_log_replay_context.proofs.Outcomes.{on_ok_from}
use Rattle.raft_log_replay_context.proofs.pieces.GroupPieces.go_on.Goals as goal

pub returns-in_default : goal.returns-in_default
returns-in_default c = λ rs p.
    let us = c.args.self.now.left_open in
    let n = c.args.number in
    let part = c.args.part in
    let gone_on = subst (GoesOnAmong n part us c.go_on.new.self) c.in_default.is c.in_ok-part.ensures in
    pieces_more rs (part_read (Middle n) part) _
    (λ φ k. p.heads φ k ∙ head_stays_on k n (part_seen φ part) (seen_by φ rs) (known_there φ rs n us (p.left_open φ) gone_on.0.0 gone_on.0.1))
    (λ φ. ap (map (unfinished_of φ)) gone_on.1 ∙ seen_more φ n part us ∙ ap (more n (part_seen φ part)) (p.left_open φ))

pub returns : goal.returns
returns c =
    let n = c.args.number in
    let us = c.args.self.now.left_open in
    let part = c.in-Some.part in
    let gone_on = subst (GoesOnAmong n c.args.part us c.go_on.new.self) c.in-Some.is c.in_ok-part.ensures in
    let items = λ (φ : Reading). ap (parts_seen φ) (c.in_ok-push.ensures.items ∙ ap (λ l. l ++ part ∷ []) c.new-parts.ensures.items) ∙ parts_one φ part in
    on_ok_from c.add_head.result c.add_head.ensures.heads (λ heads rs p.
    pieces_more rs (part_read (Middle n) c.args.part) c.add_head.new.self
    (λ φ k. heads φ k
    ∙ ap (λ ys. if n == k then then_head (head_at φ c.args.self.now k) (GoesOn ys) else head_at φ c.args.self.now k) (items φ ∙ ap (part_seen φ) gone_on.2)
    ∙ head_goes_on k n (part_seen φ c.args.part) (head_at φ c.args.self.now k) (seen_by φ rs) (p.heads φ k))
    (λ φ. ap (map (unfinished_of φ)) (c.add_head.ensures.others ∙ gone_on.1) ∙ none_more φ rs n us (p.left_open φ) (part_seen φ c.args.part) gone_on.0))

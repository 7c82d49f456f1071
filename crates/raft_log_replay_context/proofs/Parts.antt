-- What is made of the records of a group, one after another.
use Rattle.std.proofs.Common.{◌≡◌, List, [], ◌∷◌, ◌++◌, refl, sym, ap, ◌∙◌, append_assoc, append-nil}
use Rattle.std.specs.Global.{Vec}
use Rattle.raft_log_replay_context.specs.declared.part.GroupPart.{GroupPart}
use Rattle.raft_log_replay_context.specs.Pieces.{groups_seen, part_seen, parts_seen, Reading}

module _ (φ : Reading) where
  pub parts_append : (ps qs : List GroupPart) → parts_seen φ (ps ++ qs) ≡ parts_seen φ ps ++ parts_seen φ qs
  parts_append [] qs = refl
  parts_append (p ∷ ps) qs = ap (λ xs. part_seen φ p ++ xs) (parts_append ps qs) ∙ sym (append_assoc (part_seen φ p) (parts_seen φ ps) (parts_seen φ qs))

  pub parts_one : (p : GroupPart) → parts_seen φ (p ∷ []) ≡ part_seen φ p
  parts_one p = append-nil (part_seen φ p)

  pub parts_push : (ps : List GroupPart) (p : GroupPart) → parts_seen φ (ps ++ p ∷ []) ≡ parts_seen φ ps ++ part_seen φ p
  parts_push ps p = parts_append ps (p ∷ []) ∙ ap (λ xs. parts_seen φ ps ++ xs) (parts_one p)

  -- one more whole group
  pub groups_push : (pss : List (Vec GroupPart)) (ps : Vec GroupPart) → groups_seen φ (pss ++ ps ∷ []) ≡ groups_seen φ pss ++ parts_seen φ ps.items
  groups_push [] ps = append-nil (parts_seen φ ps.items)
  groups_push (qs ∷ pss) ps =
      ap (λ l. parts_seen φ qs.items ++ l) (groups_push pss ps) ∙ sym (append_assoc (parts_seen φ qs.items) (groups_seen φ pss) (parts_seen φ ps.items))

use Rattle.std.proofs.Common.{sym, ap, subst, ◌∙◌, ◌≡◌, ◌++◌, ◌∷◌, [], List, ℕ, map, Global, String}
use Rattle.std.specs.String.{string_bytes}
use Rattle.std.specs.Map.Iter.{deref_pair}
use Rattle.std.proofs.lemmas.List.{map-append}
use Rattle.raft_log_fs_state.specs.declared.storage.Node.{Node}
use Rattle.raft_log_fs_state.specs.Listing.{ListsNames, IsChild}
use Rattle.raft_log_fs_state.proofs.Names.{names_more, names_skip}
use Rattle.raft_log_fs_state.proofs.storage.Storage.list.Goals as goal

pub loop-path-preserved : goal.loop-path-preserved
loop-path-preserved c =
    let so_far = map deref_pair c.loop-path.yielded in
    let e : String Global × Node = (c.in-Some.path.now, c.in-Some.node.now) in
    subst (λ (es : List (String Global × Node)). ListsNames c.args.directory.now es (map string_bytes c.loop-path.names.items))
    (sym (map-append deref_pair c.loop-path.yielded ((c.in-Some.path, c.in-Some.node) ∷ [])))
    (names_skip c.args.directory.now so_far e (map string_bytes c.loop-path.names.items) c.loop-path.invariant
    (subst (λ (path : List ℕ). (name : List ℕ) → IsChild c.args.directory.now path c.in-Some.node.now name → ⊥) c.deref.ensures c.in_default.ensures))

pub loop-path-preserved-in_ok-push : goal.loop-path-preserved-in_ok-push
loop-path-preserved-in_ok-push c =
    let so_far = map deref_pair c.loop-path.yielded in
    let e : String Global × Node = (c.in-Some.path.now, c.in-Some.node.now) in
    let names = map string_bytes c.loop-path.names.items in
    let pushed : map string_bytes c.push.new.self.items ≡ names ++ c.in-Some-child.name.now ∷ [] =
    ap (map string_bytes) c.in_ok-push.ensures.items ∙ (map-append string_bytes c.loop-path.names.items (c.in_ok-from_str.field-0 ∷ [])
    ∙ ap (λ (xs : List ℕ). names ++ xs ∷ []) c.in_ok-from_str.ensures.ok) in
    subst (λ (es : List (String Global × Node)). ListsNames c.args.directory.now es (map string_bytes c.push.new.self.items))
    (sym (map-append deref_pair c.loop-path.yielded ((c.in-Some.path, c.in-Some.node) ∷ [])))
    (subst (ListsNames c.args.directory.now (so_far ++ e ∷ [])) (sym pushed)
    (names_more c.args.directory.now so_far e names c.in-Some-child.name.now c.loop-path.invariant
    (subst (λ (path : List ℕ). IsChild c.args.directory.now path c.in-Some.node.now c.in-Some-child.name.now) c.deref.ensures c.in-Some-child.ensures)))

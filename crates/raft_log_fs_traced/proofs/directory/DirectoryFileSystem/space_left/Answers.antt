use Rattle.std.proofs.Common.{rules, sym, ◌∙◌, ap, subst, refl, ◌≡◌, ◌∷◌, [], List, ℕ, map, Global, String}
use Rattle.std.specs.Map.Iter.{deref_pair}
use Rattle.std.proofs.lemmas.List.{map-append}
use Rattle.std.proofs.lemmas.Map.Iter.{iter_end}
use Rattle.raft_log_fs_state.specs.declared.storage.Node.{Node}
use Rattle.raft_log_fs_state.specs.Listing.{IsChild}
use Rattle.raft_log_fs_state.specs.Storage.{contents_of}
use Rattle.raft_log_fs_memory.specs.Space.{size_at}
use Rattle.raft_log_fs_memory.proofs.Public.{so_far_all, so_far_more, so_far_skip, LeavesSoFar}
use Rattle.raft_log_fs_traced.proofs.directory.DirectoryFileSystem.space_left.Goals as goal

pub loop-path-preserved-in-Some-child : goal.loop-path-preserved-in-Some-child
loop-path-preserved-in-Some-child g c =
    let d = contents_of c.args.self.now.storage in
    let so_far = map deref_pair c.loop-path.yielded in
    let e : String Global × Node = (c.in-Some.path.now, c.in-Some.node.now) in
    subst (λ (es : List (String Global × Node)). LeavesSoFar c.args.directory.now d c.args.space es c.saturating_sub-left.result)
    (sym (map-append deref_pair c.loop-path.yielded ((c.in-Some.path, c.in-Some.node) ∷ [])))
    (so_far_more c.args.directory.now d c.args.space so_far e c.in-Some-child._name.now c.loop-path.left c.size_at.result c.saturating_sub-left.result c.loop-path.invariant
    (subst (λ (path : List ℕ). IsChild c.args.directory.now path c.in-Some.node.now c.in-Some-child._name.now) c.deref.ensures c.in-Some-child.ensures)
    (c.size_at.ensures ∙ ap (size_at d) c.deref-in-Some-child.ensures) c.saturating_sub-left.ensures)

pub loop-path-preserved : goal.loop-path-preserved
loop-path-preserved g c =
    let d = contents_of c.args.self.now.storage in
    let so_far = map deref_pair c.loop-path.yielded in
    let e : String Global × Node = (c.in-Some.path.now, c.in-Some.node.now) in
    subst (λ (es : List (String Global × Node)). LeavesSoFar c.args.directory.now d c.args.space es c.loop-path.left)
    (sym (map-append deref_pair c.loop-path.yielded ((c.in-Some.path, c.in-Some.node) ∷ [])))
    (so_far_skip c.args.directory.now d c.args.space so_far e c.loop-path.left c.loop-path.invariant
    (subst (λ (path : List ℕ). (name : List ℕ) → IsChild c.args.directory.now path c.in-Some.node.now name → ⊥) c.deref.ensures c.in_default.ensures))

pub returns : goal.returns
returns g c =
    let paths = c.args.self.now.storage.paths in
    let all : map deref_pair c.loop-path.yielded ≡ paths.entries = search (rules, iter_end) in
    so_far_all c.args.directory.now (contents_of c.args.self.now.storage) c.args.space c.loop-path.left paths (λ path. refl) c.iter-path-items.ensures.ordered
    (subst (λ (es : List (String Global × Node)). LeavesSoFar c.args.directory.now (contents_of c.args.self.now.storage) c.args.space es c.loop-path.left) all c.loop-path.invariant)

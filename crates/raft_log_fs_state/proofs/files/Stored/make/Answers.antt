use Rattle.std.proofs.Common.{rules, refl, ap, ◌∙◌, ◌≡◌, ◌++◌, ◌∷◌, [], List, length}
use Rattle.raft_log_fs.specs.Disk.{changed}
use Rattle.raft_log_fs_state.specs.declared.change.Stamped.{Stamped}
use Rattle.raft_log_fs_state.specs.Changes.{change_of, rest_of}
use Rattle.raft_log_fs_state.specs.Former.{Restores}
use Rattle.raft_log_fs_state.proofs.Fronts.{front_short}
use Rattle.raft_log_fs_state.proofs.Keeping.{held_by, held_more}
use Rattle.raft_log_fs_state.proofs.files.Stored.make.Goals as goal

pub carry_out-requires : goal.carry_out-requires
carry_out-requires c = front_short (change_of c.args.change c.args.bytes.now) (rest_of c.args.change) c.requires

pub returns-clause-ok : goal.returns-clause-ok
returns-clause-ok c =
    let us = c.args.self.now.changes.items in
    let old = c.args.self.now.content in
    let change = change_of c.args.change c.args.bytes.now in
    let former = c.in_ok-former.former in
    let u : Stamped = record { stamp = c.args.stamp; change = c.args.change; length = length c.args.bytes.now; former = former } in
    let pushed : c.push.new.self.items ≡ c.reserve.new.self.items ++ u ∷ [] = search rules in
    let items : c.push.new.self.items ≡ us ++ u ∷ [] = pushed ∙ ap (λ (xs : List Stamped). xs ++ u ∷ []) c.reserve.ensures.items in
    let content : c.carry_out.new.content ≡ changed change old = c.in_ok-carry_out.ensures.ok in
    let back : Restores change old former = c.in_ok-former.ensures in
    ap (λ (xs : List Stamped). held_by xs c.carry_out.new.content) items
    ∙ (ap (held_by (us ++ u ∷ [])) content ∙ held_more us u c.args.bytes.now old refl back)

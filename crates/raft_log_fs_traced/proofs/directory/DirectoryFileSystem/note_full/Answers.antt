use Rattle.std.proofs.Common.{arith, rules, subst, ap, ◌∙◌, ◌≡◌, ◌-◌, ℕ, List, Some}
use Rattle.std.specs.Prelude.{min}
use Rattle.std.specs.Result.{OnErr}
use Rattle.std.specs.String.{string_bytes}
use Rattle.std.specs.BTreeMap.{get_by_text}
use Rattle.std.specs.Map.{update}
use Rattle.std.specs.Str.{bytes_eq}
use Rattle.std.proofs.lemmas.Map.Text.{btree_map_updates_text}
use std.Path.{fun_ext}
use Rattle.raft_log_fs_state.specs.Storage.{contents_of}
use Rattle.raft_log_fs_memory.specs.Space.{HasUsed, unlimited}
use Rattle.raft_log_fs_traced.specs.Space.{full_of}
use Rattle.raft_log_fs_traced.proofs.Lacking.{done_or_not}
use Rattle.raft_log_fs_traced.proofs.directory.DirectoryFileSystem.note_full.Goals as goal

pub returns-clause-full : goal.returns-clause-full
returns-clause-full g c =
    let system = c.args.self.now in
    let directory = string_bytes c.in-Some.directory in
    let left = c.space_left-left.result in
    let used = c.space_left-left.ensures.0 in
    let number : unlimited - left ≡ min used unlimited = omega (arith, c.space_left-left.ensures.2) in
    let none : OnErr c.insert.result (get_by_text c.insert.new.self ≡ get_by_text system.full) = search rules in
    done_or_not c.insert.result (λ updates. record {
      directory = directory;
      inside = c.in-Some.ensures;
      used = used;
      has = subst (λ (d : List ℕ). HasUsed d (contents_of system.storage) used) c.as_str.ensures.value c.space_left-left.ensures.1;
      noted = fun_ext (λ q. btree_map_updates_text directory system.full c.insert.new.self (Some (unlimited - left)) updates q)
          ∙ ap (λ (n : ℕ). update bytes_eq (full_of g.D.Device system) directory (Some n)) number;
    }) c.insert.ensures.updates none

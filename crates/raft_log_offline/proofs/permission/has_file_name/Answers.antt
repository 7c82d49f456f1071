use Rattle.std.proofs.Common.{◌<◌, ◌≤◌, ℕ, List, String, Global, length, map, take, sym, subst, ◌∙◌, arith}
use Rattle.std.specs.String.{string_bytes}
use Rattle.std.proofs.lemmas.Bool.{false≢true}
use Rattle.std.proofs.lemmas.List.{take_all}
use Rattle.raft_log_recovery_scan.proofs.Public.{so_far}
use Rattle.raft_log_file_settings.specs.Sanitized.{IsFileName}
use Rattle.raft_log_offline.specs.Telling.{HasFileName}
use Rattle.raft_log_offline.proofs.Permitting.{no_name_more}
use Rattle.raft_log_offline.proofs.permission.has_file_name.Goals as goal

pub loop-name-preserved : goal.loop-name-preserved
loop-name-preserved c =
    let names = c.args.names.now in
    let i = c.loop-name.name-index in
    let name = string_bytes c.name-item.result in
    let lt : i < length names = omega arith in
    subst (λ (l : List (List ℕ)). HasFileName l → ⊥) (sym (so_far string_bytes names i c.name-item.result lt c.name-item.is))
    (no_name_more (map string_bytes (take i names)) name c.loop-name.invariant
    (λ is. false≢true (sym c.if-is_file_name.false ∙ c.is_file_name.ensures.1 (subst IsFileName (sym c.as_str.ensures.value) is))))

pub returns : goal.returns
returns c =
    let names = c.args.names.now in
    let i = c.loop-name.name-index in
    let all : length names ≤ i = omega arith in (
      (λ t. absurd (false≢true t)),
      λ has. absurd (c.loop-name.invariant (subst (λ (l : List (String Global)). HasFileName (map string_bytes l)) (sym (take_all i names all)) has)),
    )

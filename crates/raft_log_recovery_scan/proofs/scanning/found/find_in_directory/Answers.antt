use Rattle.std.proofs.Common.{◌<◌, ◌++◌, ◌∷◌, [], List, ℕ, Option, map, take, length, subst, sym, ◌∙◌, ap, arith, refl}
use Rattle.std.specs.Prelude.{MatchOption}
use Rattle.std.specs.String.{string_bytes}
use Rattle.std.proofs.lemmas.Result.{err_from_is_err_and}
use Rattle.raft_log_recovery_scan.specs.Names.{IsNameOf, IsOther, FailsToName}
use Rattle.raft_log_recovery_scan.specs.Found.{AreAmong}
use Rattle.raft_log_recovery_scan.specs.declared.file_kind.FileName.{FileName}
use Rattle.raft_log_recovery_scan.specs.declared.scanning.found.FoundFile.{FoundFile}
use Rattle.raft_log_recovery_scan.proofs.FoundLemmas.{among_more, among_other}
use Rattle.raft_log_recovery_scan.proofs.Steps.{so_far, mapped, fails_among}
use Rattle.raft_log_recovery_scan.proofs.scanning.found.find_in_directory.Goals as goal
use Rattle.raft_log_recovery_scan.proofs.scanning.found.find_in_directory.Goals.{in-Some+in_ok-push, in_default}

pub returns-in_err-found-clause-err : goal.returns-in_err-found-clause-err
returns-in_err-found-clause-err c =
    let gave = err_from_is_err_and c.from_residual.result c.from_residual.ensures.1 in
    let name = c.name-item.result in
    let lt : c.loop-name.name-index < length c.args.names.now = omega arith in
    rw (gave.1, gave.2) (fails_among c.args.kind (map string_bytes c.args.names.now) (string_bytes name) c.in_err-found.field-0.0
    (mapped string_bytes c.args.names.now c.loop-name.name-index name lt c.name-item.is)
    (subst (λ (l : List ℕ). FailsToName c.args.kind l c.in_err-found.field-0.0) c.as_str.ensures.value c.in_err-found.ensures.err))

pub loop-name-preserved : goal.loop-name-preserved
loop-name-preserved c =
    let names = c.args.names.now in
    let kind = c.args.kind in
    let place = c.args.path_id in
    let i = c.loop-name.name-index in
    let name = string_bytes c.name-item.result in
    let before = map string_bytes (take i names) in
    let lt : i < length names = omega arith in
    let told : MatchOption c.in_ok-found.found (IsOther kind name) (λ said. IsNameOf kind said.signed said.seq name) =
    subst (λ (l : List ℕ). MatchOption c.in_ok-found.found (IsOther kind l) (λ said. IsNameOf kind said.signed said.seq l)) c.as_str.ensures.value c.in_ok-found.ensures.ok in
    subst (λ (l : List (List ℕ)). AreAmong kind place l c.match-found.files.items) (sym (so_far string_bytes names i c.name-item.result lt c.name-item.is))
    (elim c.match-found.branch [
      | in-Some+in_ok-push w ↦
          let file : FoundFile = record { seq = w.in-Some.said.seq; path_id = place; signed = w.in-Some.said.signed } in
          subst (AreAmong kind place (before ++ name ∷ [])) (sym (ap (λ v. v.items) w.files-is ∙ w.in_ok-push.ensures.items))
          (among_more kind place name before c.loop-name.files.items file c.loop-name.invariant
          (subst (λ (o : Option FileName). MatchOption o (IsOther kind name) (λ said. IsNameOf kind said.signed said.seq name)) w.in-Some.is told) refl)
      | in_default w ↦
          subst (λ (l : List FoundFile). AreAmong kind place (before ++ name ∷ []) l) (sym (ap (λ v. v.items) w.files-is))
          (among_other kind place name before c.loop-name.files.items c.loop-name.invariant
          (subst (λ (o : Option FileName). MatchOption o (IsOther kind name) (λ said. IsNameOf kind said.signed said.seq name)) w.in_default.is told))
    ])

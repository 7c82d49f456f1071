use Rattle.std.proofs.Common.{◌≡◌, ◌<◌, ◌++◌, ◌∷◌, [], List, ℕ, map, take, length, subst, sym, ◌∙◌, ap, arith, rules}
use Rattle.std.specs.String.{string_bytes}
use Rattle.raft_log_file_reader.specs.Files.{AreFoundAmong, IsNameOf}
use Rattle.raft_log_file_reader.specs.declared.log_file.LogFile.{LogFile}
use Rattle.raft_log_file_reader.proofs.Found.{found_more, found_other, names_so_far}
use Rattle.raft_log_file_reader.proofs.files.log_files.Goals as goal
use Rattle.raft_log_file_reader.proofs.files.log_files.Goals.{in-Some+in_ok-path+in_ok-push, in_default}

pub loop-name-preserved : goal.loop-name-preserved
loop-name-preserved c =
    let names = c.args.names.now in
    let i = c.loop-name.name-index in
    let name = string_bytes c.name-item.result in
    let before = map string_bytes (take i names) in
    let lt : i < length names = omega arith in
    let so_far = names_so_far names i c.name-item.result lt c.name-item.is in
    subst (λ (l : List (List ℕ)). AreFoundAmong c.args.directory.now l c.match-parse_file_name.files.items) (sym so_far)
    (elim c.match-parse_file_name.branch [
      | in-Some+in_ok-path+in_ok-push w ↦
          let file : LogFile = record { id = w.in-Some.id; path = w.in_ok-path.path } in
          let text : string_bytes w.in_ok-path.path ≡ c.args.directory.now ++ 47 ∷ name = search rules in
          let named : IsNameOf w.in-Some.id name = subst (IsNameOf w.in-Some.id) c.as_str.ensures.value ((c.parse_file_name.ensures w.in-Some.id).0 w.in-Some.is) in
          subst (AreFoundAmong c.args.directory.now (before ++ name ∷ [])) (sym (ap (λ v. v.items) w.files-is ∙ w.in_ok-push.ensures.items))
          (found_more c.args.directory.now name before c.loop-name.files.items file c.loop-name.invariant named text)
      | in_default w ↦
          subst (λ (l : List LogFile). AreFoundAmong c.args.directory.now (before ++ name ∷ []) l) (sym (ap (λ v. v.items) w.files-is))
          (found_other c.args.directory.now name before c.loop-name.files.items c.loop-name.invariant
          (λ id named. let told = (c.parse_file_name.ensures id).1 (subst (IsNameOf id) (sym c.as_str.ensures.value) named) in let none = w.in_default.is in absurd cc))
    ])

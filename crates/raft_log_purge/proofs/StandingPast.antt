-- What stands past a file of Rewrite, group by group.
use Rattle.std.proofs.Common.{◌≡◌, ◌+◌, ◌<◌, ℕ, List, [], ◌∷◌, ◌++◌, length, take, get_or, Option, Some, None, option_map, refl, sym, subst, arith}
use Rattle.std.proofs.lemmas.List.{take_more}
use Rattle.raft_log_machine_laws.proofs.Public.{no_word}
use Rattle.raft_log_record_base.specs.declared.pipe_log.LogQueue.TheVariants.{Rewrite}
use Rattle.raft_log_memtable_index.specs.Shown.{Shown}
use Rattle.raft_log_memtable.specs.Files.{IsMinFile}
use Rattle.raft_log_memtable.specs.Stats.{plus}
use Rattle.raft_log_memtable.specs.Table.{Raw, shown}
use Rattle.raft_log_memtables.specs.Tables.{shown_in}
use Rattle.raft_log_memtables.specs.declared.group_table.GroupTable.{GroupTable}
use Rattle.raft_log_purge.specs.Garbage.{CountsFrom, CountsPast, StandsPast}

-- of a group that has a table
pub known_past : (file n : ℕ) (o : Option GroupTable) (t : Raw) (least : Option ℕ) → option_map (λ t. t.table) o ≡ Some t → IsMinFile Rewrite (shown t) least → CountsFrom file least (shown t) n → StandsPast file (shown_in o) n
known_past file n None t least is from counts = no_word t is
known_past file n (Some x) t least is from counts =
    let same : x.table ≡ t = cc in
    subst (λ (r : Raw). StandsPast file (shown r) n) (sym same) (least, from, counts)

-- of one group more
counts_more : (file : ℕ) (v : ℕ → Shown) (gs : List ℕ) (g count one : ℕ) → CountsPast file v gs count → StandsPast file (v g) one → CountsPast file v (gs ++ g ∷ []) (plus count one)
counts_more file v [] g count one none stands = (one, 0, stands, refl, omega (arith, none))
counts_more file v (x ∷ gs) g count one (first, rest, there, others, sum) stands =
    (first, plus rest one, there, counts_more file v gs g rest one others stands, omega (arith, sum))

pub first_more : (file : ℕ) (v : ℕ → Shown) (xs : List ℕ) (i d count one new : ℕ) → i < length xs → CountsPast file v (take i xs) count → StandsPast file (v (get_or xs i d)) one → new ≡ plus count one → CountsPast file v (take (i + 1) xs) new
first_more file v xs i d count one new lt so_far stands is =
    subst (λ (l : List ℕ). CountsPast file v l new) (sym (take_more xs i d lt))
    (subst (CountsPast file v (take i xs ++ get_or xs i d ∷ [])) (sym is) (counts_more file v (take i xs) (get_or xs i d) count one so_far stands))

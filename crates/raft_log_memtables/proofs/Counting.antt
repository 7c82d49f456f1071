-- How much stands in Rewrite, table by table.
use Rattle.std.proofs.Common.{◌≡◌, ◌+◌, ◌-◌, ◌^◌, ℕ, true, List, [], ◌∷◌, ◌++◌, Some, None, sym, ap, subst, ◌∙◌, arith, append_assoc, append-nil}
use Rattle.std.specs.Prelude.{min, sum_by}
use Rattle.std.specs.List.{AllByRecursion}
use Rattle.std.proofs.lemmas.List.Sums.{sum_by_push}
use Rattle.raft_log_memtable.specs.Reads.{StandIn}
use Rattle.raft_log_memtables.specs.declared.group_table.GroupTable.{GroupTable}
use Rattle.raft_log_memtables.specs.Tables.{shown_in}
use Rattle.raft_log_memtables.specs.Walking.{StandInEach}
use Rattle.raft_log_memtables.proofs.Groups.{group_list}
use Rattle.raft_log_memtables.proofs.Ready.{by_group, same_or_apart}
use Rattle.raft_log_memtables.proofs.Segments.{AllOnce, found, found_first, found_later}

-- so much stands of each of these tables
abbrev pub StandInTables : List (ℕ × GroupTable) → List ℕ → Type 0
StandInTables [] [] = Unit {0}
StandInTables (e ∷ es) (n ∷ ns) = StandIn (shown_in (Some e.1)) n × StandInTables es ns
StandInTables es ns = ⊥

tables_more : (es : List (ℕ × GroupTable)) (ns : List ℕ) (e : ℕ × GroupTable) (n : ℕ) → StandInTables es ns → StandIn (shown_in (Some e.1)) n → StandInTables (es ++ e ∷ []) (ns ++ n ∷ [])
tables_more [] [] e n none one = (one, tt)
tables_more (x ∷ es) (k ∷ ns) e n (first, rest) one = (first, tables_more es ns e n rest one)
tables_more [] (k ∷ ns) e n h one = absurd h
tables_more (x ∷ es) [] e n h one = absurd h

-- so much was counted of the tables up to those that are left
pub record HasCounted (all rest : List (ℕ × GroupTable)) (count : ℕ) : Type 0 where
  pub done : List (ℕ × GroupTable)
  pub front : done ++ rest ≡ all
  pub ns : List ℕ
  pub each : StandInTables done ns
  pub sum : count ≡ min (sum_by (λ k. k) ns) (2 ^ 64 - 1)

-- before the first table nothing was counted
pub counts_none : (all rest : List (ℕ × GroupTable)) → rest ≡ all → HasCounted all rest 0
counts_none all rest is = record { done = []; front = is; ns = []; each = tt; sum = omega arith }

pub counts_one_more : (all rest next : List (ℕ × GroupTable)) (count more new : ℕ) (e : ℕ × GroupTable) → rest ≡ e ∷ next → StandIn (shown_in (Some e.1)) more
    → new ≡ min (count + more) (2 ^ 64 - 1) → HasCounted all rest count → HasCounted all next new
counts_one_more all rest next count more new e is one sum h =
    let all_of = sum_by_push (λ k. k) h.ns more in
    record {
      done = h.done ++ e ∷ [];
      front = append_assoc h.done (e ∷ []) next ∙ ap (λ l. h.done ++ l) (sym is) ∙ h.front;
      ns = h.ns ++ more ∷ [];
      each = tables_more h.done h.ns e more h.each one;
      sum = omega (arith, h.sum, sum, all_of);
    }

-- each of these tables is the one that is found for its group
abbrev pub AreFound : List (ℕ × GroupTable) → List (ℕ × GroupTable) → Type 0
AreFound all es = AllByRecursion (λ (e : ℕ × GroupTable). found all e.0 ≡ Some e.1) es

found_behind : (e : ℕ × GroupTable) (es sub : List (ℕ × GroupTable)) → found es e.0 ≡ None → AreFound es sub → AreFound (e ∷ es) sub
found_behind e es [] none h = tt
found_behind e es (x ∷ sub) none h = (
  by_group e.0 x.0 (same_or_apart e.0 x.0)
      (λ t is. absurd (never (sym none ∙ ap (found es) is ∙ h.0)))
      (λ apart. found_later e es x.0 apart ∙ h.0),
  found_behind e es sub none h.1,
)
  where
    never : None ≡ Some x.1 → ⊥
    never p = cc p

pub all_found : (es : List (ℕ × GroupTable)) → AllOnce es → AreFound es es
all_found [] once = tt
all_found (e ∷ es) once = (found_first e es, found_behind e es es once.0 (all_found es once.1))

each_of : (all es : List (ℕ × GroupTable)) (ns : List ℕ) → AreFound all es → StandInTables es ns → StandInEach (λ g. shown_in (found all g)) (group_list true es) ns
each_of all [] [] h none = tt
each_of all (e ∷ es) (n ∷ ns) h (first, rest) = (subst (λ t. StandIn (shown_in t) n) (sym h.0) first, each_of all es ns h.1 rest)
each_of all [] (n ∷ ns) h none = absurd none
each_of all (e ∷ es) [] h none = absurd none

-- where none is left, so much was counted of all groups
pub each_counted : (es : List (ℕ × GroupTable)) (rest : List (ℕ × GroupTable)) (count : ℕ) → rest ≡ [] → AllOnce es → HasCounted es rest count
    → (ns : List ℕ) × StandInEach (λ g. shown_in (found es g)) (group_list true es) ns × (count ≡ min (sum_by (λ k. k) ns) (2 ^ 64 - 1))
each_counted es rest count none once h =
    let whole : h.done ≡ es = sym (append-nil h.done) ∙ ap (λ l. h.done ++ l) (sym none) ∙ h.front in
    (h.ns, each_of es es h.ns (all_found es once) (subst (λ l. StandInTables l h.ns) whole h.each), h.sum)

-- The least file of a queue in use, table by table.
use Rattle.std.proofs.Common.{◌≡◌, ◌⊎◌, ◌≤◌, ◌==◌, ℕ, true, List, [], ◌∷◌, Option, Some, None, option_map, inl, inr, refl, sym, ap, subst, ◌∙◌, arith}
use Rattle.raft_log_record_base.specs.declared.pipe_log.LogQueue.{LogQueue}
use Rattle.raft_log_memtable.specs.Files.{IsMinFile, min_file}
use Rattle.raft_log_memtables.specs.declared.group_table.GroupTable.{GroupTable}
use Rattle.raft_log_memtables.specs.declared.mem_tables.MemTables.{MemTables}
use Rattle.raft_log_memtables.specs.Tables.{raw_of, shown_in}
use Rattle.raft_log_memtables.specs.Walking.{least_in, IsLeastIn, IsLeastInTable, IsLeastOf}
use Rattle.raft_log_memtables.proofs.Counting.{AreFound}
use Rattle.raft_log_memtables.proofs.Ready.{by_group, same_or_apart}
use Rattle.raft_log_memtables.proofs.Segments.{found, found_first, found_later}

-- a group's table is still to come, or no file of it is below the least
abbrev pub IsLeastYet : LogQueue → MemTables → List (ℕ × GroupTable) → ℕ → ℕ → Type 0
IsLeastYet queue m rest least g = (found rest g ≡ found m.groups.entries g) ⊎ ((n : ℕ) → least_in queue (raw_of m g) ≡ Some n → least ≤ n)

-- this is the least file of the tables up to those that are left
pub record HasLeast (queue : LogQueue) (limit : ℕ) (m : MemTables) (rest : List (ℕ × GroupTable)) (least : ℕ) : Type 0 where
  pub here : AreFound m.groups.entries rest
  pub limited : least ≤ limit
  pub below : (g : ℕ) → IsLeastYet queue m rest least g
  pub exact : (least ≡ limit) ⊎ ((g : ℕ) × IsLeastIn queue m g least)

no_file : {A : Type 0} (queue : LogQueue) (o : Option GroupTable) (n : ℕ) → o ≡ None → least_in queue (option_map (λ t. t.table) o) ≡ Some n → A
no_file queue o n none some = absurd (let clash : None ≡ Some n = sym (ap (λ p. least_in queue (option_map (λ t. t.table) p)) none) ∙ some in let never : ⊥ = cc in never)

-- so it is before the first table
pub least_first : (queue : LogQueue) (limit : ℕ) (m : MemTables) (rest : List (ℕ × GroupTable)) → rest ≡ m.groups.entries → AreFound m.groups.entries m.groups.entries → HasLeast queue limit m rest limit
least_first queue limit m rest is here = record {
  here = subst (AreFound m.groups.entries) (sym is) here;
  limited = omega arith;
  below = λ g. inl (ap (λ l. found l g) is);
  exact = inl refl;
}

module _ (queue : LogQueue) (limit : ℕ) (m : MemTables) where
  table_least : (e : ℕ × GroupTable) (n : ℕ) → found m.groups.entries e.0 ≡ Some e.1 → IsLeastInTable queue e.1.table n → IsLeastIn queue m e.0 n
  table_least e n is h = (
    ap (λ o. least_in queue (option_map (λ t. t.table) o)) is ∙ h.0,
    subst (λ o. IsMinFile queue (shown_in o) (Some n)) (sym is) h.1,
  )

  exact_more : (least new : ℕ) (e : ℕ × GroupTable) → found m.groups.entries e.0 ≡ Some e.1 → (least ≡ limit) ⊎ ((g : ℕ) × IsLeastIn queue m g least) → (new ≡ least) ⊎ IsLeastInTable queue e.1.table new
      → (new ≡ limit) ⊎ ((g : ℕ) × IsLeastIn queue m g new)
  exact_more least new e is so_far (inr one) = inr (e.0, table_least e new is one)
  exact_more least new e is (inl all) (inl same) = inl (same ∙ all)
  exact_more least new e is (inr there) (inl same) = inr (there.0, subst (IsLeastIn queue m there.0) (sym same) there.1)

  -- one table more
  pub least_more : (rest next : List (ℕ × GroupTable)) (least new : ℕ) (e : ℕ × GroupTable) → rest ≡ e ∷ next → new ≤ least → ((n : ℕ) → min_file queue e.1.table ≡ Some n → new ≤ n)
      → (new ≡ least) ⊎ IsLeastInTable queue e.1.table new → HasLeast queue limit m rest least → HasLeast queue limit m next new
  least_more rest next least new e split low below exact h =
      let here = subst (AreFound m.groups.entries) split h.here in
      record {
        here = here.1;
        limited = (let a = h.limited in omega (arith, a, low));
        below = λ g.
            by_group e.0 g (same_or_apart e.0 g)
            (λ t is. subst (IsLeastYet queue m next new) is
            (inr (λ n some. below n (sym (ap (λ o. least_in queue (option_map (λ t. t.table) o)) here.0) ∙ some))))
            (λ apart. elim (h.below g) [
              | inl left ↦ inl (sym (found_later e next g apart) ∙ ap (λ l. found l g) (sym split) ∙ left)
              | inr done ↦ inr (λ n some. let a = done n some in omega (arith, a, low))
            ]);
        exact = exact_more least new e here.0 h.exact exact;
      }

  -- where none is left, it is the least of all
  pub least_of_all : (rest : List (ℕ × GroupTable)) (least : ℕ) → rest ≡ [] → HasLeast queue limit m rest least → IsLeastOf queue limit m least
  least_of_all rest least none h = record {
    limited = h.limited;
    below = λ g n some. elim (h.below g) [
      | inl left ↦ no_file queue (found m.groups.entries g) n (sym left ∙ ap (λ l. found l g) none) some
      | inr done ↦ done n some
    ];
    exact = h.exact;
  }

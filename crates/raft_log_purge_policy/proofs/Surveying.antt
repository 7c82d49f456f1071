-- What was seen of the groups, table by table.
use Rattle.std.proofs.Common.{◌≡◌, ◌+◌, ◌-◌, ◌^◌, ℕ, Bool, true, if◌then◌else◌, List, [], ◌∷◌, ◌++◌, Some, option_map, refl, sym, ap, subst, ◌∙◌, append_assoc, append-nil}
use Rattle.std.specs.Prelude.{min}
use Rattle.std.specs.List.{filter}
use Rattle.std.specs.List.Sorted.{IsStrictlySortedBy}
use Rattle.std.specs.Map.{keys_of}
use Rattle.std.specs.Ordering.{nat_cmp}
use Rattle.std.proofs.lemmas.List.Elements.{filter-append}
use Rattle.raft_log_record_items.specs.declared.item.LogItem.{LogItem}
use Rattle.raft_log_memtable.specs.Reads.{StandIn}
use Rattle.raft_log_memtable.specs.Table.{shown}
use Rattle.raft_log_memtables.specs.declared.group_table.GroupTable.{GroupTable}
use Rattle.raft_log_memtables.specs.declared.mem_tables.MemTables.{MemTables}
use Rattle.raft_log_memtables.specs.Owing.{AddsOwed}
use Rattle.raft_log_memtables.specs.Tables.{raw_of}
use Rattle.raft_log_memtables.proofs.Public.{all_found, all_known, all_owed, counts_none, counts_one_more, each_counted, group_list, owes_more, AllOnce, AreFound, HasCounted, OwesAll}
use Rattle.raft_log_purge_policy.specs.declared.picking.GroupLists.{GroupLists}
use Rattle.raft_log_purge_policy.specs.declared.survey.Survey.{Survey}
use Rattle.raft_log_purge_policy.specs.declared.watermarks.Watermarks.{Watermarks}
use Rattle.raft_log_purge_policy.specs.Picking.{answers_at, answers_in, asks_at, asks_in, rewrites_at, rewrites_in, PicksOf}
use Rattle.raft_log_purge_policy.specs.Surveying.{Surveys}
use Rattle.raft_log_purge_policy.proofs.Listing.{all_are_picked}

-- what was seen of the tables up to those that are left
pub record HasSurveyed (marks : Watermarks) (counts : ℕ → ℕ) (restated : Bool) (m : MemTables) (rest : List (ℕ × GroupTable)) (picked : GroupLists) (items : List LogItem) (standing : ℕ) : Type 0 where
  pub here : AreFound m.groups.entries rest
  pub done : List (ℕ × GroupTable)
  pub front : done ++ rest ≡ m.groups.entries
  pub picks : PicksOf marks counts restated m (group_list true done) picked
  pub owed : (ys : List LogItem) → OwesAll rest ys → OwesAll m.groups.entries (items ++ ys)
  pub counted : HasCounted m.groups.entries rest standing

list_push : (done : List (ℕ × GroupTable)) (e : ℕ × GroupTable) → group_list true (done ++ e ∷ []) ≡ group_list true done ++ e.0 ∷ []
list_push [] e = refl
list_push (x ∷ done) e = ap (λ (l : List ℕ). x.0 ∷ l) (list_push done e)

-- one group more of those that pass a test
picked_push : (p : ℕ → Bool) (done : List (ℕ × GroupTable)) (e : ℕ × GroupTable) (old new : List ℕ) (b : Bool) → old ≡ filter p (group_list true done) → b ≡ p e.0
    → new ≡ old ++ (if b then e.0 ∷ [] else []) → new ≡ filter p (group_list true (done ++ e ∷ []))
picked_push p done e old new b so_far test pushed =
    pushed
    ∙ (ap (λ (l : List ℕ). l ++ (if b then e.0 ∷ [] else [])) so_far
    ∙ (ap (λ (c : Bool). filter p (group_list true done) ++ (if c then e.0 ∷ [] else [])) test
    ∙ (sym (filter-append p (group_list true done) (e.0 ∷ [])) ∙ ap (filter p) (sym (list_push done e)))))

module _ (marks : Watermarks) (counts : ℕ → ℕ) (restated : Bool) (m : MemTables) where
  -- so it is before the first table
  pub surveyed_none : (rest : List (ℕ × GroupTable)) (picked : GroupLists) (items : List LogItem) → rest ≡ m.groups.entries → AllOnce m.groups.entries
      → picked.asked.items ≡ [] → picked.rewritten.items ≡ [] → picked.answered.items ≡ [] → items ≡ [] → HasSurveyed marks counts restated m rest picked items 0
  surveyed_none rest picked items is once asked rewritten answered none = record {
    here = subst (AreFound m.groups.entries) (sym is) (all_found m.groups.entries once);
    done = [];
    front = is;
    picks = record { asked = asked; rewritten = rewritten; answered = answered };
    owed = λ ys h. subst (λ (l : List LogItem). OwesAll m.groups.entries (l ++ ys)) (sym none) (subst (λ (l : List (ℕ × GroupTable)). OwesAll l ys) is h);
    counted = counts_none m.groups.entries rest is;
  }

  -- one table more
  pub surveyed_more : (rest next : List (ℕ × GroupTable)) (old new : GroupLists) (items added : List LogItem) (standing more total : ℕ) (e : ℕ × GroupTable) → rest ≡ e ∷ next
      → new.asked.items ≡ old.asked.items ++ (if asks_in marks (Some e.1.table) then e.0 ∷ [] else [])
      → new.rewritten.items ≡ old.rewritten.items ++ (if rewrites_in marks (counts e.0) (Some e.1.table) then e.0 ∷ [] else [])
      → new.answered.items ≡ old.answered.items ++ (if answers_in (Some marks) restated (Some e.1.table) then e.0 ∷ [] else [])
      → AddsOwed e.0 (shown e.1.table) items added → StandIn (shown e.1.table) more → total ≡ min (standing + more) (2 ^ 64 - 1)
      → HasSurveyed marks counts restated m rest old items standing → HasSurveyed marks counts restated m next new added total
  surveyed_more rest next old new items added standing more total e split asked rewritten answered owed stands sum h =
      let here = subst (AreFound m.groups.entries) split h.here in
      let raw : raw_of m e.0 ≡ Some e.1.table = ap (option_map (λ t. t.table)) here.0 in
      record {
        here = here.1;
        done = h.done ++ e ∷ [];
        front = append_assoc h.done (e ∷ []) next ∙ ap (λ l. h.done ++ l) (sym split) ∙ h.front;
        picks = record {
          asked = picked_push (asks_at marks m) h.done e old.asked.items new.asked.items (asks_in marks (Some e.1.table)) h.picks.asked (ap (asks_in marks) (sym raw)) asked;
          rewritten =
              picked_push (rewrites_at marks counts m) h.done e old.rewritten.items new.rewritten.items (rewrites_in marks (counts e.0) (Some e.1.table)) h.picks.rewritten
              (ap (rewrites_in marks (counts e.0)) (sym raw)) rewritten;
          answered =
              picked_push (answers_at (Some marks) restated m) h.done e old.answered.items new.answered.items (answers_in (Some marks) restated (Some e.1.table)) h.picks.answered
              (ap (answers_in (Some marks) restated) (sym raw)) answered;
        };
        owed = owes_more m.groups.entries next e items added (subst (λ (l : List (ℕ × GroupTable)). (ys : List LogItem) → OwesAll l ys → OwesAll m.groups.entries (items ++ ys)) split h.owed) owed;
        counted = counts_one_more m.groups.entries rest next standing more total e split stands sum h.counted;
      }

  -- where none is left, this was seen of all groups
  pub all_surveyed : (rest : List (ℕ × GroupTable)) (seen : Survey) → rest ≡ [] → AllOnce m.groups.entries → IsStrictlySortedBy nat_cmp (keys_of m.groups.entries)
      → seen.watermarks ≡ marks → HasSurveyed marks counts restated m rest seen.picked seen.marks.items seen.standing → Surveys marks counts restated m seen
  all_surveyed rest seen none once sorted upto h =
      let es = m.groups.entries in
      let whole : h.done ≡ es = sym (append-nil h.done) ∙ ap (λ l. h.done ++ l) (sym none) ∙ h.front in
      let picks = subst (λ (l : List (ℕ × GroupTable)). PicksOf marks counts restated m (group_list true l) seen.picked) whole h.picks in
      record {
        upto = upto;
        picks = all_are_picked marks counts restated m (group_list true es) seen.picked (all_known es once sorted) picks;
        owed = all_owed m seen.marks.items rest none once h.owed;
        stands = (group_list true es, all_known es once sorted, each_counted es rest seen.standing none once h.counted);
      }

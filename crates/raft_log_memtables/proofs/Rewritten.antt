-- Items that were written to Rewrite, one after another.
use Rattle.std.proofs.Common.{◌≡◌, ℕ, List, [], ◌∷◌, ◌++◌, Option, refl, sym, ap, subst, ◌∙◌}
use Rattle.raft_log_model_laws.specs.Item.{Item, Tagged}
use Rattle.raft_log_model_laws.specs.Groups.{of_group}
use Rattle.raft_log_extents.specs.declared.place.Place.{Place}
use Rattle.raft_log_memtable_index.specs.Shown.{Shown}
use Rattle.raft_log_memtable_index.proofs.Public.{shows}
use Rattle.raft_log_memtables.specs.declared.mem_tables.MemTables.{MemTables}
use Rattle.raft_log_memtables.specs.Tables.{shown_of}
use Rattle.raft_log_memtables.specs.Rewriting.{all_rewritten, rewritten_item, RewritesOne}
use Rattle.raft_log_memtables.proofs.Ready.{by_group, same_or_apart}
use Rattle.raft_log_memtables.proofs.Rereading.{of_group_here, of_group_there}

rewritten_more : (gate : Option ℕ) (n : ℕ) (v : Shown) (xs : List (Item Place (List ℕ))) (x : Item Place (List ℕ))
    → all_rewritten gate n v (xs ++ x ∷ []) ≡ rewritten_item gate n (all_rewritten gate n v xs) x
rewritten_more gate n v [] x = refl
rewritten_more gate n v (y ∷ ys) x = rewritten_more gate n (rewritten_item gate n v y) ys x

-- some first items, and one more
pub rewrites_more : (gate : Option ℕ) (n : ℕ) (old m k : MemTables) (xs : List (Tagged Place (List ℕ))) (x : Tagged Place (List ℕ))
    → ((g : ℕ) → shown_of m g ≡ all_rewritten gate n (shown_of old g) (of_group g xs)) → RewritesOne gate n m k x
    → (g : ℕ) → shown_of k g ≡ all_rewritten gate n (shown_of old g) (of_group g (xs ++ x ∷ []))
rewrites_more gate n old m k xs x all one g =
    by_group x.group g (same_or_apart x.group g)
    (λ t is. subst (λ (j : ℕ). shown_of k j ≡ rewritten_item gate n (shown_of m j) x.item) is one.shows ∙ ap (λ v. rewritten_item gate n v x.item) (all g)
    ∙ sym (rewritten_more gate n (shown_of old g) (of_group g xs) x.item) ∙ sym (ap (all_rewritten gate n (shown_of old g)) (of_group_here xs x g t)))
    (λ t. (one.others g t).0 ∙ all g ∙ sym (ap (all_rewritten gate n (shown_of old g)) (of_group_there xs x g t)))

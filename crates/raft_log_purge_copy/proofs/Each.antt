-- Groups that are restated, one after another.
use Rattle.std.proofs.Common.{◌≡◌, ℕ, zero, suc, ◌+◌, ◌<◌, ◌≤◌, ◌==◌, ◌||◌, Bool, true, false, List, [], ◌∷◌, ◌++◌, length, take, get_or, inl, inr, refl, sym, ap, subst, ◌∙◌, arith}
use Rattle.std.proofs.lemmas.Bool.{false≢true}
use Rattle.std.proofs.lemmas.List.{take_all, take_more}
use Rattle.raft_log_model_laws.proofs.Public.{at_bool, eq_true}
use Rattle.raft_log_record_base.specs.declared.errors.Error.{Error}
use Rattle.raft_log_extents.specs.declared.place.Place.{Place}
use Rattle.raft_log_memtable_index.specs.Shown.{Shown}
use Rattle.raft_log_engine_laws.specs.EngineState.{LogDirectories, LogMap, EngineState}
use Rattle.raft_log_engine_laws.specs.Holding.{Represents}
use Rattle.raft_log_purge_copy.proofs.Grouping.{among}
use Rattle.raft_log_purge_copy.proofs.Leasts.{among_more}
use Rattle.raft_log_purge_copy.proofs.PartExits.{later_on, same_later}
use Rattle.raft_log_purge_copy.proofs.Reasons.{reason_after}
use Rattle.raft_log_purge_copy.specs.Restated.{FailsToRestate, IsRestatedFrom, LieFrom, Restates, RestatesEach, RestatesOne, StopsRestating, last_file}

-- Files.

all_lower : (n m : ℕ) (ps : List Place) → n ≤ m → LieFrom m ps → LieFrom n ps
all_lower n m [] low all = tt
all_lower n m (p ∷ ps) low (first, rest) = (omega (arith, low, first), all_lower n m ps low rest)

-- what lies from a later file on lies from there on
pub from_lower : (n m : ℕ) (v w : Shown) → n ≤ m → IsRestatedFrom m v w → IsRestatedFrom n v w
from_lower n m v w low is = record {
  entries = all_lower n m (take w.rewritten w.places) low is.entries;
  values = λ k h held rewritten. (let one = is.values k h held rewritten in omega (arith, one, low));
  noted = λ k few from. is.noted k (omega (arith, few, low)) from;
  past = λ k few past. is.past k (omega (arith, few, low)) past;
  owes = is.owes;
}

-- restated twice
from_twice : (n m : ℕ) (v u w : Shown) → n ≤ m → IsRestatedFrom n v u → IsRestatedFrom m u w → IsRestatedFrom n v w
from_twice n m v u w low one two =
    let late = from_lower n m u w low two in
    record {
      entries = late.entries;
      values = late.values;
      noted = λ k few from. late.noted k few (one.noted k few from);
      past = λ k few past. late.past k few (one.past k few past);
      owes = record { cleaned = two.owes.cleaned ∙ one.owes.cleaned; compact = two.owes.compact ∙ one.owes.compact; deleted = two.owes.deleted ∙ one.owes.deleted };
    }

-- Groups.

-- none of the groups that are more is none of the first, nor the last
among_none : (g : ℕ) (xs : List ℕ) (i d x : ℕ) → i < length xs → x ≡ get_or xs i d → among (take (i + 1) xs) g ≡ false → (among (take i xs) g ≡ false) × ((x == g) ≡ false)
among_none g xs i d x lt is none = by (take i xs) (ap (λ l. among l g) (sym (take_more xs i d lt ∙ ap (λ (y : ℕ). take i xs ++ y ∷ []) (sym is))) ∙ none)
  where
    by : (ys : List ℕ) → among (ys ++ x ∷ []) g ≡ false → (among ys g ≡ false) × ((x == g) ≡ false)
    by [] h = (refl, at_bool (x == g) (λ b. (b || false) ≡ false → b ≡ false) (λ _ e. e) (λ _ e. refl) h)
    by (y ∷ ys) h = at_bool (y == g) (λ b. (b || among (ys ++ x ∷ []) g) ≡ false → ((b || among ys g) ≡ false) × ((x == g) ≡ false)) (λ _ e. absurd (false≢true (sym e))) (λ _ e. by ys e) h

pub none_restated : (s : EngineState) → Restates (among []) s s
none_restated s = record {
  others = λ g apart. refl;
  counts = refl;
  alive = λ lived. lived;
  later = same_later s.pipes.disk;
  holds = λ home m h. h;
  rises = λ home m h. omega arith;
  from = λ home m h g none. absurd (false≢true none);
}

module _ (groups : List ℕ) (i d x : ℕ) (s t u : EngineState) (lt : i < length groups) (is : x ≡ get_or groups i d) (so_far : Restates (among (take i groups)) s t) where
  pub one_more_restated : RestatesOne x t u → Restates (among (take (i + 1) groups)) s u
  one_more_restated one = record {
    others = λ g apart. (let none = among_none g groups i d x lt is apart in one.others g none.1 ∙ so_far.others g none.0);
    counts = one.counts ∙ so_far.counts;
    alive = λ lived. one.alive (so_far.alive lived);
    later = later_on s.pipes.disk t.pipes.disk u.pipes.disk so_far.later one.later;
    holds = λ home m h. one.holds home m (so_far.holds home m h);
    rises = λ home m h. (let before = so_far.rises home m h in let now = one.rises home m (so_far.holds home m h) in omega (arith, before, now));
    from = λ home m h g these. restated home m h g (x == g) refl (among (take i groups) g) refl these;
  }
    where
      restated : (home : LogDirectories) (m : LogMap) → Represents home s m [] → (g : ℕ) (b : Bool) → (x == g) ≡ b → (c : Bool) → among (take i groups) g ≡ c → among (take (i + 1) groups) g ≡ true
          → IsRestatedFrom (last_file s) (s.tables g) (u.tables g)
      restated home m h g true here true before these =
          from_twice (last_file s) (last_file t) (s.tables g) (t.tables g) (u.tables g) (so_far.rises home m h) (so_far.from home m h g before) (one.from home m (so_far.holds home m h) g here)
      restated home m h g true here false before these =
          subst (λ (v : Shown). IsRestatedFrom (last_file s) v (u.tables g)) (so_far.others g before)
          (from_lower (last_file s) (last_file t) (t.tables g) (u.tables g) (so_far.rises home m h) (one.from home m (so_far.holds home m h) g here))
      restated home m h g false here true before these = subst (IsRestatedFrom (last_file s) (s.tables g)) (sym (one.others g here)) (so_far.from home m h g before)
      restated home m h g false here false before these = elim (among_more g groups i d x lt is these) [
        | inl there ↦ absurd (false≢true (sym before ∙ there))
        | inr same ↦ absurd (false≢true (sym here ∙ eq_true x g same))
      ]

  pub one_stopped : (error : Error) → FailsToRestate error t u → StopsRestating groups error s u
  one_stopped error fails = record {
    others = λ g apart. ap (λ (e : EngineState). e.tables g) fails.same ∙ so_far.others g (none_of_first g apart);
    counts = ap (λ (e : EngineState). e.counts) fails.same ∙ so_far.counts;
    tells = λ lived. fails.tells (so_far.alive lived);
    later = later_on s.pipes.disk t.pipes.disk u.pipes.disk so_far.later fails.later;
    remains = λ home m h. fails.remains home m (so_far.holds home m h);
    cause = λ home m h. reason_after home m error s t u so_far.later (fails.cause home m (so_far.holds home m h));
  }
    where
      none_of : (xs : List ℕ) (j g : ℕ) → among xs g ≡ false → among (take j xs) g ≡ false
      none_of xs zero g h = refl
      none_of [] (suc j) g h = refl
      none_of (y ∷ ys) (suc j) g h =
          at_bool (y == g) (λ b. (b || among ys g) ≡ false → (b || among (take j ys) g) ≡ false) (λ _ e. absurd (false≢true (sym e))) (λ _ e. none_of ys j g e) h

      none_of_first : (g : ℕ) → among groups g ≡ false → among (take i groups) g ≡ false
      none_of_first g h = none_of groups i g h

pub all_restated : (groups : List ℕ) (i : ℕ) (s t : EngineState) → length groups ≤ i → Restates (among (take i groups)) s t → RestatesEach groups s t
all_restated groups i s t all done = subst (λ (l : List ℕ). Restates (among l) s t) (take_all i groups all) done

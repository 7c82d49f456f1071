-- What a run keeps.
use Rattle.std.proofs.Common.{◌≡◌, List, [], ◌∷◌, ◌++◌, inl, inr, append_assoc, ap, refl, sym, subst, ◌∙◌}
use Rattle.raft_log_model_laws.specs.Groups.{taken}
use Rattle.raft_log_world.specs.declared.event.Answer.{Answer}
use Rattle.raft_log_world.specs.declared.event.Event.{Event}
use Rattle.raft_log_world.specs.Explained.{Explains}
use Rattle.raft_log_world.specs.Kept.{GrowsBy, IsPart, KeepsDurable, durable, pending_in, written_in}
use Rattle.raft_log_world.specs.Model.{BatchRecord, ModelLog}
use Rattle.raft_log_world.specs.Reads.{Contents}
use Rattle.raft_log_world.proofs.Stepping.{Steps, stepped, taken_twice, written_first}

-- Parts of lists.

module _ {A : Type 0} where
  whole : (xs : List A) → IsPart xs xs
  whole [] = tt
  whole (x ∷ xs) = inl (refl, whole xs)

  skips : (xs ys : List A) (y : A) → IsPart xs ys → IsPart xs (y ∷ ys)
  skips [] ys y p = tt
  skips (x ∷ xs) ys y p = inr p

  suffix : (xs ys : List A) → IsPart ys (xs ++ ys)
  suffix [] ys = whole ys
  suffix (x ∷ xs) ys = skips ys (xs ++ ys) x (suffix xs ys)

  within : (xs ys zs : List A) → IsPart xs ys → IsPart ys zs → IsPart xs zs
  within [] ys zs p q = tt
  within (x ∷ xs) [] zs p q = absurd p
  within (x ∷ xs) (y ∷ ys) [] p q = absurd q
  within (x ∷ xs) (y ∷ ys) (z ∷ zs) (inl p) (inl q) = inl (p.0 ∙ q.0, within xs ys zs p.1 q.1)
  within (x ∷ xs) (y ∷ ys) (z ∷ zs) (inr p) (inl q) = inr (within (x ∷ xs) ys zs p q.1)
  within (x ∷ xs) (y ∷ ys) (z ∷ zs) p (inr q) = inr (within (x ∷ xs) (y ∷ ys) zs p q)

  -- the same at the front, and at the end
  fronted : (front xs ys : List A) → IsPart xs ys → IsPart (front ++ xs) (front ++ ys)
  fronted [] xs ys p = p
  fronted (f ∷ front) xs ys p = inl (refl, fronted front xs ys p)

  ended : (xs ys end : List A) → IsPart xs ys → IsPart (xs ++ end) (ys ++ end)
  ended [] ys end p = suffix ys end
  ended (x ∷ xs) [] end p = absurd p
  ended (x ∷ xs) (y ∷ ys) end (inl p) = inl (p.0, ended xs ys end p.1)
  ended (x ∷ xs) (y ∷ ys) end (inr p) = inr (ended (x ∷ xs) ys end p)

  prefix : (xs ys : List A) → IsPart xs (xs ++ ys)
  prefix [] ys = tt
  prefix (x ∷ xs) ys = inl (refl, prefix xs ys)

-- One event, and none.

of_step : (log next : ModelLog) (batches : List BatchRecord) → Steps log batches next → GrowsBy log batches next
of_step log next batches s = record {
  done = s.done;
  contents = s.contents;
  part = subst (λ (xs : List BatchRecord). IsPart (s.done ++ pending_in next) xs) (append_assoc s.done (pending_in next) s.lost ∙ s.splits) (prefix (s.done ++ pending_in next) s.lost);
}

unchanged : (log last : ModelLog) → last ≡ log → GrowsBy log (pending_in log ++ []) last
unchanged log last is = subst (λ (x : ModelLog). GrowsBy log (pending_in log ++ []) x) (sym is) (record { done = []; contents = refl; part = prefix (pending_in log) [] })

module _ {B C : Type 0} (says : B → BatchRecord) where
  -- Events after events.

  joined : (log next last : ModelLog) (event : Event B C) (events : List (Event B C)) → GrowsBy log (pending_in log ++ written_in says (event ∷ [])) next → GrowsBy next (pending_in next ++ written_in says events) last
      → GrowsBy log (pending_in log ++ written_in says (event ∷ events)) last
  joined log next last event events g h =
      let first = written_in says (event ∷ []) in
      let rest = written_in says events in
      let inner : IsPart (g.done ++ (h.done ++ pending_in last)) (g.done ++ (pending_in next ++ rest)) = fronted g.done (h.done ++ pending_in last) (pending_in next ++ rest) h.part in
      let outer : IsPart ((g.done ++ pending_in next) ++ rest) ((pending_in log ++ first) ++ rest) = ended (g.done ++ pending_in next) (pending_in log ++ first) rest g.part in
      record {
        done = g.done ++ h.done;
        contents = h.contents ∙ ap (λ (m : Contents). taken m h.done) g.contents ∙ taken_twice (durable log) g.done h.done;
        part = subst (λ (xs : List BatchRecord). IsPart xs (pending_in log ++ written_in says (event ∷ events))) (sym (append_assoc g.done h.done (pending_in last)))
            (subst (λ (xs : List BatchRecord). IsPart (g.done ++ (h.done ++ pending_in last)) xs) (append_assoc (pending_in log) first rest ∙ ap (λ (xs : List BatchRecord). pending_in log ++ xs) (sym (written_first says event events)))
            (within (g.done ++ (h.done ++ pending_in last)) (g.done ++ (pending_in next ++ rest)) ((pending_in log ++ first) ++ rest) inner
            (subst (λ (xs : List BatchRecord). IsPart xs ((pending_in log ++ first) ++ rest)) (append_assoc g.done (pending_in next) rest) outer)));
      }

  pub grows : (events : List (Event B C)) (answers : List Answer) (log last : ModelLog) → Explains says log events answers last → GrowsBy log (pending_in log ++ written_in says events) last
  grows [] [] log last is = unchanged log last is
  grows (event ∷ events) (answer ∷ answers) log last (next, answers_it, rest) = joined log next last event events (of_step log next (pending_in log ++ written_in says (event ∷ [])) (stepped says log event answer next answers_it)) (grows events answers next last rest)
  grows [] (answer ∷ answers) log last is = absurd is
  grows (event ∷ events) [] log last is = absurd is

pub keeps_durable : (B C : Type 0) → KeepsDurable B C
keeps_durable B C says log last events answers is = grows {C = C} says events answers log last is

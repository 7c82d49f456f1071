-- What the judge's candidates come to by an event.
use Rattle.std.proofs.Common.{◌≡◌, ◌⊎◌, ◌↔◌, true, false, List, [], ◌∷◌, ◌++◌, inl, inr, ap, refl, sym, subst, ◌∙◌}
use Rattle.raft_log_model_laws.specs.Groups.{taken}
use Rattle.raft_log_world.specs.declared.event.Answer.{Answer}
use Rattle.raft_log_world.specs.declared.event.Answer.TheVariants.{Done, Found, At, Entries, Keys, Refused, Failed, Idle}
use Rattle.raft_log_world.specs.declared.event.Call.{Call}
use Rattle.raft_log_world.specs.declared.event.Call.TheVariants.{Write, Sync, Get, GetEntry, FirstIndex, LastIndex, Fetch, Scan, Compact, Purge}
use Rattle.raft_log_world.specs.declared.event.Event.{Event}
use Rattle.raft_log_world.specs.declared.event.Event.TheVariants.{Open, Serve, Close, Fork, Crash, Arm}
use Rattle.raft_log_world.specs.Model.{BatchRecord, ModelLog}
use Rattle.raft_log_world.specs.Model.ModelLog.{running}
use Rattle.raft_log_world.specs.Explained.{Explains}
use Rattle.raft_log_world.specs.Reads.{Contents}
use Rattle.raft_log_judge.specs.declared.change.Change.{Change}
use Rattle.raft_log_judge.specs.declared.outcome.Outcome.{Outcome}
use Rattle.raft_log_judge.specs.declared.outcome.Outcome.TheVariants.{Adds, Never, Opens, Reads, Turns}
use Rattle.raft_log_judge.specs.declared.outcome.Standing.{Standing}
use Rattle.raft_log_judge.specs.declared.outcome.Standing.TheVariants.{Broken, Closed, Running}
use Rattle.raft_log_judge.specs.Candidates.{opened_logs, standing_log}
use Rattle.raft_log_judge.specs.Changes.{says_of}
use Rattle.raft_log_judge.specs.Views.{AnyFits, AnyGoes, Fits, IsRead, LeadTo, Moves, Reaches, Sees, Turned, View, batch_of, call_outcome, outcome, seen}
use Rattle.raft_log_judge.proofs.Viewing.{Turning, all_reached, durable_view, explained_goes, goes_explained, grown, grown_view, moving, one_more, only_reached, settled, sees, taken_twice, turning, whole}

-- Which standings an outcome is for.

abbrev pub Allowed : Standing → Outcome → Type 0
Allowed standing (Turns to false) = (now kept : Contents) → seen to (seen standing now kept).now (seen standing now kept).kept ≡ seen to now kept
Allowed standing (Turns to true) = standing ≡ Running
Allowed standing (Adds to settles) = standing ≡ Running
Allowed standing Reads = standing ≡ Running
Allowed standing Opens = standing ≡ Closed
Allowed standing Never = Unit {0}

stays : (standing : Standing) → Allowed standing (Turns standing false)
stays Closed = λ now kept. refl
stays Running = λ now kept. refl
stays Broken = λ now kept. refl

allowed_call : {B : Type 0} (call : Call B) (answer : Answer) → Allowed Running (call_outcome call answer)
allowed_call (Write batch sync) Done = refl
allowed_call (Write batch sync) Refused = λ now kept. refl
allowed_call (Write batch sync) Failed = refl
allowed_call Sync Done = refl
allowed_call Sync Failed = λ now kept. refl
allowed_call (Get group key) (Found value) = refl
allowed_call (Get group key) Refused = λ now kept. refl
allowed_call (GetEntry group index) (Found entry) = refl
allowed_call (GetEntry group index) Refused = λ now kept. refl
allowed_call (FirstIndex group) (At index) = refl
allowed_call (LastIndex group) (At index) = refl
allowed_call (Fetch group begin end max) (Entries entries) = refl
allowed_call (Fetch group begin end max) Refused = λ now kept. refl
allowed_call (Scan group start end) (Keys pairs) = refl
allowed_call (Scan group start end) Refused = λ now kept. refl
allowed_call (Compact group index) Done = refl
allowed_call (Compact group index) Refused = λ now kept. refl
allowed_call (Compact group index) Failed = refl
allowed_call (Purge kind) Done = refl
allowed_call (Purge kind) Refused = refl
allowed_call (Purge kind) Failed = λ now kept. refl
allowed_call call answer = tt

pub allowed : {B C : Type 0} (standing : Standing) (event : Event B C) (answer : Answer) → Allowed standing (outcome standing event answer)
allowed standing (Arm fault) Done = stays standing
allowed standing (Arm fault) Refused = stays standing
allowed Closed (Open workers) Done = refl
allowed Closed (Open workers) Refused = λ now kept. refl
allowed Closed (Fork target) Done = λ now kept. refl
allowed Closed (Fork target) Refused = λ now kept. refl
allowed Closed (Crash what) Done = λ now kept. refl
allowed Closed (Serve call) Idle = λ now kept. refl
allowed Closed Close Idle = λ now kept. refl
allowed Running (Open workers) Idle = λ now kept. refl
allowed Running (Serve call) answer = allowed_call call answer
allowed Running Close Done = refl
allowed Running Close Refused = λ now kept. refl
allowed Running (Fork target) Idle = λ now kept. refl
allowed Running (Crash what) Done = λ now kept. refl
allowed Broken (Open workers) Idle = λ now kept. refl
allowed Broken (Serve call) Failed = λ now kept. refl
allowed Broken Close Failed = λ now kept. refl
allowed Broken (Fork target) Idle = λ now kept. refl
allowed Broken (Crash what) Done = λ now kept. refl
allowed standing event answer = tt

-- Views of a log by its standing.

to_sees : (standing : Standing) (m : Contents) (pending : List BatchRecord) (view : View) → Fits (standing_log standing m pending) view → Sees standing m pending view
to_sees Closed m pending view f = f
to_sees Running m pending view f = f
to_sees Broken m pending view f = f

pub of_sees : (standing : Standing) (m : Contents) (pending : List BatchRecord) (view : View) → Sees standing m pending view → Fits (standing_log standing m pending) view
of_sees Closed m pending view s = s
of_sees Running m pending view s = s
of_sees Broken m pending view s = s

only : (log : ModelLog) (view : View) → AnyFits (log ∷ []) view → Fits log view
only log view (inl f) = f
only log view (inr none) = absurd none

-- the logs that an open may find
opened_any : (m : Contents) (pending : List BatchRecord) (next : View) → AnyFits (opened_logs m pending) next → (kept : Contents) × Reaches m pending kept × (next ≡ seen Running kept kept)
opened_any m [] next (inl s) = (m, all_reached m [], s.is ∙ ap (λ (k : Contents). seen Running m k) (only_reached m s.kept s.reaches))
opened_any m [] next (inr none) = absurd none
opened_any m (batch ∷ pending) next (inl s) = (m, record { front = []; rest = batch ∷ pending; splits = refl; is = refl }, s.is ∙ ap (λ (k : Contents). seen Running m k) (only_reached m s.kept s.reaches))
opened_any m (batch ∷ pending) next (inr any) =
    let found = opened_any (taken m (batch ∷ [])) pending next any in
    let r = found.1 in
    (found.0, record { front = batch ∷ r.front; rest = r.rest; splits = ap (λ (xs : List BatchRecord). batch ∷ xs) r.splits; is = r.is ∙ taken_twice m (batch ∷ []) r.front }, found.2)

any_opened : (m : Contents) (pending front rest : List BatchRecord) (next : View) → front ++ rest ≡ pending → next ≡ seen Running (taken m front) (taken m front) → AnyFits (opened_logs m pending) next
any_opened m [] [] rest next splits is = inl (durable_view m [] Running m next is)
any_opened m (batch ∷ pending) [] rest next splits is = inl (durable_view m [] Running m next is)
any_opened m [] (x ∷ front) rest next splits is = absurd (let never : ⊥ = cc in never)
any_opened m (batch ∷ pending) (x ∷ front) rest next splits is =
    let same : x ≡ batch = cc in
    let later : front ++ rest ≡ pending = cc in
    let whole_is : taken m (x ∷ front) ≡ taken (taken m (batch ∷ [])) front = sym (taken_twice m (x ∷ []) front) ∙ ap (λ (b : BatchRecord). taken (taken m (b ∷ [])) front) same in
    inr (any_opened (taken m (batch ∷ [])) pending front rest next later (is ∙ ap (λ (k : Contents). seen Running k k) whole_is))

-- Outcomes.

module _ {B C : Type 0} (says : B → BatchRecord) (m : Contents) (pending : List BatchRecord) (event : Event B C) (answer : Answer) where
  -- what the nexts of a log are, by what the event comes to
  abbrev pub Nexts : Standing → Outcome → List ModelLog → Type 0
  Nexts standing come nexts = (next : View) → AnyFits nexts next ↔ Turning says standing m pending event answer come next

  pub lead : (standing : Standing) (come : Outcome) (nexts : List ModelLog) → outcome standing event answer ≡ come → Nexts standing come nexts → LeadTo says (standing_log standing m pending ∷ []) event answer nexts
  lead standing come nexts is h next = (
    λ any. (let found = moving says standing m pending event answer come next is ((h next).0 any) in (found.0, inl (of_sees standing m pending found.0 found.1), found.2)),
    λ found. (h next).1 (turning says standing m pending event answer come next is (found.0, to_sees standing m pending found.0 (only (standing_log standing m pending) found.0 found.1), found.2)),
  )

  pub never : (standing : Standing) → Nexts standing Never []
  never standing next = (λ any. absurd any, λ found. absurd found.2)

  pub turns : (standing to : Standing) → Allowed standing (Turns to false) → Nexts standing (Turns to false) (standing_log to m pending ∷ [])
  turns standing to ok next = (
    λ any. (
        let s = to_sees to m pending next (only (standing_log to m pending) next any) in
        (seen standing (taken m pending) s.kept, sees standing m pending s.kept s.reaches, s.is ∙ sym (ok (taken m pending) s.kept))
        ),
    λ found. (
        let s = found.1 in
        inl (of_sees to m pending next (record { kept = s.kept; reaches = s.reaches; is = found.2 ∙ ap (λ (v : View). seen to v.now v.kept) s.is ∙ ok (taken m pending) s.kept }))
        ),
  )

  pub settles : (to : Standing) → Nexts Running (Turns to true) (standing_log to (taken m pending) [] ∷ [])
  settles to next = (
    λ any. (
        let s = to_sees to (taken m pending) [] next (only (standing_log to (taken m pending) []) next any) in
        (seen Running (taken m pending) (taken m pending), whole m pending, settled m pending to next s)
        ),
    λ found. (
        let s = found.1 in
        inl (of_sees to (taken m pending) [] next (durable_view m pending to (taken m pending) next (found.2 ∙ ap (λ (v : View). seen to v.now v.now) s.is)))
        ),
  )

  pub adds : (to : Standing) → Nexts Running (Adds to false) (standing_log to m (pending ++ batch_of says event ∷ []) ∷ [])
  adds to next = (
    λ any. (
        let s = to_sees to m (pending ++ batch_of says event ∷ []) next (only (standing_log to m (pending ++ batch_of says event ∷ [])) next any) in
        grown m pending (batch_of says event) to next s
        ),
    λ found. (
        let s = found.1 in
        let t = subst (λ (v : View). Turned (Adds to false) (batch_of says event) (IsRead v.now event answer) v next) s.is found.2 in
        inl (of_sees to m (pending ++ batch_of says event ∷ []) next (grown_view m pending (batch_of says event) s.kept s.reaches to next t))
        ),
  )

  pub adds_settled : (to : Standing) → Nexts Running (Adds to true) (standing_log to (taken m (pending ++ batch_of says event ∷ [])) [] ∷ [])
  adds_settled to next = (
    λ any. (
        let all = taken m (pending ++ batch_of says event ∷ []) in
        let s = to_sees to all [] next (only (standing_log to all []) next any) in (
          seen Running (taken m pending) (taken m pending),
          whole m pending,
          s.is ∙ ap (λ (k : Contents). seen to all k) (only_reached all s.kept s.reaches) ∙ ap (λ (k : Contents). seen to k k) (sym (one_more m pending (batch_of says event))),
        )
        ),
    λ found. (
        let s = found.1 in
        let all = taken m (pending ++ batch_of says event ∷ []) in
        inl (of_sees to all [] next (durable_view m pending to all next (
        found.2 ∙ ap (λ (v : View). seen to (taken v.now (batch_of says event ∷ [])) (taken v.now (batch_of says event ∷ []))) s.is ∙ ap (λ (k : Contents). seen to k k) (one_more m pending (batch_of says event))
        )))
        ),
  )

  pub reads : IsRead (taken m pending) event answer → Nexts Running Reads (running m pending ∷ [])
  reads is next = (
    λ any. (
        let s = only (running m pending) next any in
        (next, s, (subst (λ (v : View). IsRead v.now event answer) (sym s.is) is, refl))
        ),
    λ found. inl (subst (λ (v : View). Sees Running m pending v) (sym found.2.1) found.1),
  )

  pub reads_not : (IsRead (taken m pending) event answer → ⊥) → Nexts Running Reads []
  reads_not not next = (
    λ any. absurd any,
    λ found. absurd (not (subst (λ (v : View). IsRead v.now event answer) found.1.is found.2.0)),
  )

  pub opens : Nexts Closed Opens (opened_logs m pending)
  opens next = (
    λ any. (
        let found = opened_any m pending next any in
        (seen Closed (taken m pending) found.0, sees Closed m pending found.0 found.1, found.2)
        ),
    λ found. (
        let s = found.1 in
        let r = s.reaches in
        any_opened m pending r.front r.rest next r.splits (found.2 ∙ ap (λ (v : View). seen Running v.kept v.kept) s.is ∙ ap (λ (k : Contents). seen Running k k) r.is)
        ),
  )

-- Candidates one after another.

any_front : (xs ys : List ModelLog) (view : View) → AnyFits xs view → AnyFits (xs ++ ys) view
any_front [] ys view any = absurd any
any_front (x ∷ xs) ys view (inl f) = inl f
any_front (x ∷ xs) ys view (inr any) = inr (any_front xs ys view any)

any_back : (xs ys : List ModelLog) (view : View) → AnyFits ys view → AnyFits (xs ++ ys) view
any_back [] ys view any = any
any_back (x ∷ xs) ys view any = inr (any_back xs ys view any)

any_either : (xs ys : List ModelLog) (view : View) → AnyFits (xs ++ ys) view → AnyFits xs view ⊎ AnyFits ys view
any_either [] ys view any = inr any
any_either (x ∷ xs) ys view (inl f) = inl (inl f)
any_either (x ∷ xs) ys view (inr any) = elim (any_either xs ys view any) [
  | inl front ↦ inl (inr front)
  | inr back ↦ inr back
]

-- where these logs lead to, and those after them
pub both_lead : {B C : Type 0} (says : B → BatchRecord) (log : ModelLog) (logs nexts more : List ModelLog) (event : Event B C) (answer : Answer) → LeadTo says (log ∷ []) event answer nexts → LeadTo says logs event answer more
    → LeadTo says (log ∷ logs) event answer (nexts ++ more)
both_lead says log logs nexts more event answer one rest next = (
  λ any. elim (any_either nexts more next any) [
    | inl front ↦ (let found = (one next).0 front in (found.0, inl (only log found.0 found.1), found.2))
    | inr back ↦ (let found = (rest next).0 back in (found.0, inr found.1, found.2))
  ],
  λ found. by found.0 found.1 found.2,
)
  where
    by : (view : View) → AnyFits (log ∷ logs) view → Moves says view event answer next → AnyFits (nexts ++ more) next
    by view (inl f) moves = any_front nexts more next ((one next).1 (view, inl f, moves))
    by view (inr any) moves = any_back nexts more next ((rest next).1 (view, any, moves))

pub none_lead : {B C : Type 0} (says : B → BatchRecord) (event : Event B C) (answer : Answer) → LeadTo says [] event answer []
none_lead says event answer next = (λ any. absurd any, λ found. absurd found.1)

-- One event of several.

pub goes_on : {B C : Type 0} (says : B → BatchRecord) (logs nexts : List ModelLog) (event : Event B C) (answer : Answer) (events : List (Event B C)) (answers : List Answer) → LeadTo says logs event answer nexts
    → AnyGoes says nexts events answers ↔ AnyGoes says logs (event ∷ events) (answer ∷ answers)
goes_on says logs nexts event answer events answers lead_to = (
  λ found. (let from = (lead_to found.0).0 found.1 in (from.0, from.1, (found.0, from.2, found.2))),
  λ found. (let step = found.2 in (step.0, (lead_to step.0).1 (found.0, found.1, step.1), step.2)),
)

pub explained_as : {C : Type 0} (log : ModelLog) (events : List (Event (List Change) C)) (answers : List Answer) → AnyGoes says_of (log ∷ []) events answers ↔ ((last : ModelLog) × Explains says_of log events answers last)
explained_as log events answers = (
  λ found. goes_explained says_of log found.0 events answers (only log found.0 found.1) found.2,
  λ found. (let from = explained_goes says_of log events answers found.0 found.1 in (from.0, inl from.1, from.2)),
)

-- A request that is served, at each exit.
use Rattle.std.proofs.Common.{◌≡◌, ◌∙◌, ℕ, ◌==◌, true, false, List, [], ◌∷◌, ◌++◌, Some, unwrap_or, refl, sym, ap, subst, inl, inr, arith, append-nil}
use Rattle.std.proofs.lemmas.Bool.{cases_Bool}
use Rattle.raft_log_fs.specs.Causes.{IsLater}
use Rattle.raft_log_model_laws.specs.Item.{Tagged}
use Rattle.raft_log_model_laws.specs.Item.Item.{Clean}
use Rattle.raft_log_model_laws.specs.Item.Record.{Plain}
use Rattle.raft_log_model_laws.specs.Groups.{taken}
use Rattle.raft_log_model_laws.proofs.Public.{from_eq_true, if_false, if_true}
use Rattle.raft_log_record_frames.specs.declared.marking.Marking.{Marking}
use Rattle.raft_log_record_frames.specs.declared.marking.Marking.TheVariants as markings
use Rattle.raft_log_record_frames.specs.Marking.{marking_of_items}
use Rattle.raft_log_record_frames.specs.Meaning.{marked, tagged_items}
use Rattle.raft_log_record_batches.specs.Batch.{Batch}
use Rattle.raft_log_record_batches.specs.Places.{entry_bytes}
use Rattle.raft_log_engine_laws.specs.EngineState.{IsWellMarked, LogMap, EngineState, has_failed, said_of}
use Rattle.raft_log_engine_laws.specs.Holding.{EndsAt}
use Rattle.raft_log_engine_laws.specs.Writing.{Writes}
use Rattle.raft_log_engine_laws.specs.raft_log_dual_pipes.specs.Pipes.{LogRecordValue}
use Rattle.raft_voter_messages.specs.declared.reply.Reply.{Reply}
use Rattle.raft_voter_messages.specs.declared.reply.Reply.TheVariants as replies
use Rattle.raft_voter_messages.specs.declared.request.Request.{Request}
use Rattle.raft_voter_messages.specs.Ranges.{in_range}
use Rattle.raft_voter_outline.specs.declared.outline.decision.Answer.TheVariants as answers
use Rattle.raft_voter_outline.specs.declared.outline.decision.Change.{Change}
use Rattle.raft_voter_outline.specs.declared.outline.decision.Write.{Write}
use Rattle.raft_voter_outline.specs.declared.outline.decision.Write.TheVariants as writes
use Rattle.raft_voter_outline.specs.Outlines.{ChangesEach, IsChangeOf, IsReplyOfEach, LeavesEach, sent_of, without_bytes}
use Rattle.raft_voter_outline.specs.Rules.{is_retire, next, reply}
use Rattle.raft_voter_outline.specs.State.{State}
use Rattle.raft_voter.specs.Rounds.{World, after_one}
use Rattle.raft_voter.specs.Service.{is_refused}
use Rattle.raft_voter_records.specs.Voters.{Means}
use Rattle.raft_voter_records.specs.MeaningChanges.{Words, decided_items, record_in, tagged_with, write_items}
use Rattle.raft_voter_records.proofs.Public.{decided, put_of, put_unless, records_lead, retire_writes}
use Rattle.raft_voter_durability_laws.specs.Standing.{AreOutlines}
use Rattle.raft_voter_durability_laws.specs.Requests.{SaysChange, Served, StepsOutlines}
use Rattle.raft_voter_durability_laws.specs.Laws.{IsBare, ReadRequestsAreServed, ToldRequestsAreServed, WrittenRequestsAreServed}
use Rattle.raft_voter_durability_laws.proofs.Composing.{ends_same, later_same}
use Rattle.raft_voter_durability_laws.proofs.Refusing.{kept_stays, refused_is_out}

-- What a batch says.

-- a record that is a plain one is of items without a mark
plain_marking : {E : Type 0} (marking : Marking) (xs ys : List (Tagged E (List ℕ))) → marked marking xs ≡ Some (Plain ys) → (marking ≡ markings.Unmarked) × (xs ≡ ys)
plain_marking markings.Unmarked xs ys h = (refl, cc)
plain_marking (markings.Part id status) xs ys h = cc
plain_marking markings.Broken xs ys h = cc

pub says_unmarked : (g : ℕ) (q : Request) (c : Change) (b : Batch) → SaysChange g q c b → marking_of_items b.items ≡ markings.Unmarked
says_unmarked g q c b h = (plain_marking (marking_of_items b.items) (tagged_items (entry_bytes b.entries) b.items) (tagged_with g (decided_items c q)) h.says).0

pub says_items : (g : ℕ) (q : Request) (c : Change) (b : Batch) → SaysChange g q c b → tagged_items (entry_bytes b.entries) b.items ≡ tagged_with g (decided_items c q)
says_items g q c b h = (plain_marking (marking_of_items b.items) (tagged_items (entry_bytes b.entries) b.items) (tagged_with g (decided_items c q)) h.says).1

pub says_well : (g : ℕ) (q : Request) (c : Change) (b : Batch) → SaysChange g q c b → IsWellMarked b
says_well g q c b h broken = let none = says_unmarked g q c b h in cc

pub says_record : (g : ℕ) (q : Request) (c : Change) (b : Batch) → SaysChange g q c b → said_of b ≡ record_in g (decided_items c q)
says_record g q c b h = ap (λ o. unwrap_or o (Plain [])) h.says

-- it says something
some_behind : (xs : List Words) (y : Words) → xs ++ y ∷ [] ≡ [] → ⊥
some_behind [] y h = cc
some_behind (x ∷ xs) y h = cc

decided_some : (v : State) (q : Request) (c : Change) → IsChangeOf v q c → decided_items c q ≡ [] → ⊥
decided_some v q c h none = elim (cases_Bool (is_retire q)) [
  | inl is ↦
      let clean : c.write ≡ writes.Clean = h.write_is ∙ retire_writes v q is in
      some_first _ (ap (λ (w : Write). write_items w (sent_of q) ++ put_unless q c.state) (sym clean) ∙ none)
  | inr kept ↦
      some_behind (write_items c.write (sent_of q)) _
      (ap (λ (l : List Words). write_items c.write (sent_of q) ++ l) (sym (if_false (is_retire q) [] (put_of c.state) kept)) ∙ none)
]
  where
    some_first : (ys : List Words) → Clean ∷ [] ++ ys ≡ [] → ⊥
    some_first ys e = cc

untagged : (g : ℕ) (xs : List Words) → tagged_with g xs ≡ [] → xs ≡ []
untagged g [] h = refl
untagged g (x ∷ xs) h = cc

pub says_some : (v : State) (g : ℕ) (q : Request) (c : Change) (b : Batch) → IsChangeOf v q c → SaysChange g q c b → b.items ≡ [] → ⊥
says_some v g q c b h says none =
    let items : tagged_items (entry_bytes b.entries) b.items ≡ tagged_with g (decided_items c q) = says_items g q c b says in
    let empty : tagged_items (entry_bytes b.entries) b.items ≡ [] = ap (tagged_items (entry_bytes b.entries)) none in
    decided_some v q c h (untagged g (decided_items c q) (sym items ∙ empty))

-- Voters and outlines.

-- the outline of a voter
own_outline : (os : ℕ → State) (W : World) (g : ℕ) → AreOutlines os W → without_bytes (W g) ≡ os g
own_outline os W g h = sym (h g)

-- what the change's record leads to
pub leads_by : (q : ℕ × Request) (c : Change) (os : ℕ → State) → ChangesEach (os q.0) q.1 c → (m : LogMap) (W : World) → Means m W → AreOutlines os W
    → Means (taken m (record_in q.0 (decided_items c q.1) ∷ [])) (after_one W q)
leads_by q c os each m W means outlines =
    let same = decided (W q.0) q.1 c (each (W q.0) (own_outline os W q.0 outlines)) in
    subst (λ (xs : List Words). Means (taken m (record_in q.0 xs ∷ [])) (after_one W q)) same (records_lead m W q means)

-- outlines step as their voters do
pub outlines_step : (q : ℕ × Request) (os us : ℕ → State) → StepsOutlines q os us → (W : World) → AreOutlines os W → AreOutlines us (after_one W q)
outlines_step q os us steps W outlines g = elim (cases_Bool (g == q.0)) [
  | inl same ↦
      let is : g ≡ q.0 = from_eq_true g q.0 same in
      ap us is ∙ sym (steps.own (W q.0) (own_outline os W q.0 outlines))
      ∙ ap without_bytes (sym (if_true (g == q.0) (next (W q.0) q.1) (W g) same))
  | inr other ↦
      steps.others g other ∙ outlines g ∙ ap without_bytes (sym (if_false (g == q.0) (next (W q.0) q.1) (W g) other))
]

-- a reply that is told is refused out of range alone
told_refuses : (q : ℕ × Request) (a : Reply) (os : ℕ → State) → IsBare (os q.0) → IsReplyOfEach (os q.0) q.1 (answers.Told a)
    → is_refused a ≡ true → in_range q.1 ≡ false
told_refuses q a os own told refused =
    let is : reply (os q.0) q.1 ≡ a = (told (os q.0) own).0 in
    refused_is_out (os q.0) q.1 (ap is_refused is ∙ refused)

-- a request that leaves its voter leaves all
leaves_all : (q : ℕ × Request) (os : ℕ → State) → LeavesEach (os q.0) q.1 → (W : World) → AreOutlines os W → after_one W q ≡ W
leaves_all q os leaves W outlines = kept_stays W q (leaves (W q.0) (own_outline os W q.0 outlines))

-- Exits.

pub told_requests_are_served : ToldRequestsAreServed
told_requests_are_served q a s os alive own told leaves = record {
  said = [];
  short = omega arith;
  silent = λ _. refl;
  alive = alive;
  later = later_same s.pipes.disk;
  holds = λ home m pending h. subst (λ (l : List LogRecordValue). EndsAt home s m l) (sym (append-nil pending)) (ends_same home s m pending h);
  leads = λ m W means outlines. subst (λ (X : World). Means m X) (sym (leaves_all q os leaves W outlines)) means;
  outlines = λ W outlines. subst (λ (X : World). AreOutlines os X) (sym (leaves_all q os leaves W outlines)) outlines;
  answers = λ home m pending W h means outlines. sym (told (W q.0) (own_outline os W q.0 outlines)).0;
  refuses = told_refuses q a os own told;
}

written_served : (q : ℕ × Request) (a : Reply) (c : Change) (b : Batch) (s t : EngineState) (os us : ℕ → State) → IsBare (os q.0)
    → IsReplyOfEach (os q.0) q.1 (answers.Told a) → ChangesEach (os q.0) q.1 c → SaysChange q.0 q.1 c b → StepsOutlines q os us → Writes b false s t
    → Served q a true s t os us
written_served q a c b s t os us own told each says steps done = record {
  said = said_of b ∷ [];
  short = omega arith;
  silent = λ h. absurd (cc);
  alive = done.alive;
  later = done.later;
  holds = done.holds;
  leads = λ m W means outlines.
      subst (λ (r : LogRecordValue). Means (taken m (r ∷ [])) (after_one W q)) (sym (says_record q.0 q.1 c b says)) (leads_by q c os each m W means outlines);
  outlines = outlines_step q os us steps;
  answers = λ home m pending W h means outlines. sym (told (W q.0) (own_outline os W q.0 outlines)).0;
  refuses = told_refuses q a os own told;
}

pub written_requests_are_served : WrittenRequestsAreServed
written_requests_are_served q a c b len s t os us own told each says steps (inl none) = absurd (says_some (os q.0) q.0 q.1 c b (each (os q.0) own) says none.0)
written_requests_are_served q a c b len s t os us own told each says steps (inr done) = written_served q a c b s t os us own told each says steps done.1

pub read_requests_are_served : ReadRequestsAreServed
read_requests_are_served q from to es s t os told leaves reads = record {
  said = [];
  short = omega arith;
  silent = λ _. refl;
  alive = ap (λ (x : EngineState). has_failed x) reads.stays.same ∙ reads.alive;
  later = subst (λ (x : EngineState). IsLater s.pipes.disk x.pipes.disk) (sym reads.stays.same) (later_same s.pipes.disk);
  holds = λ home m pending h.
      subst (λ (l : List LogRecordValue). EndsAt home t m l) (sym (append-nil pending)) (ends_same home t m pending (reads.stays.holds home m pending h));
  leads = λ m W means outlines. subst (λ (X : World). Means m X) (sym (leaves_all q os leaves W outlines)) means;
  outlines = λ W outlines. subst (λ (X : World). AreOutlines os X) (sym (leaves_all q os leaves W outlines)) outlines;
  answers = λ home m pending W h means outlines.
      ap replies.Entries (reads.exact home m pending W h means outlines) ∙ sym (told (W q.0) (own_outline os W q.0 outlines)).0;
  refuses = λ h. absurd (cc);
}

use Rattle.std.proofs.Common.{◌≡◌, ℕ, ◌+◌, ◌<◌, ◌≤◌, ◌^◌, List, [], ◌∷◌, ◌++◌, length, length-append, append-nil, take, drop, Option, Some, None, true, false, inl, inr, ◌⊎◌, lit<, refl, sym, ap, ◌∙◌, arith}
use Rattle.std.specs.Int.{from_be_bytes, w64}
use Rattle.std.proofs.lemmas.Nat.{from_be_bytes-to_be_bytes_8}
use Rattle.std.proofs.lemmas.List.{take_at, drop_at}
use Rattle.std.proofs.lemmas.Bool.{false≢true}
use Rattle.std.proofs.lemmas.Bool.Decides.{nat_tests}
use Rattle.std.specs.List.{list_all}
use Rattle.raft_voter_messages.specs.declared.reply.Entry.{Entry}
use Rattle.raft_voter_messages.specs.declared.reply.VoterState.{VoterState}
use Rattle.raft_voter_messages.specs.declared.stored.StoredFault.{StoredFault}
use Rattle.raft_voter_messages.specs.declared.stored.StoredFault.TheVariants.{Length, Form, Range, Index, Order, Memory}
use Rattle.raft_voter_messages.specs.Ranges.{fits}
use Rattle.raft_voter_messages.specs.StoredForms.{EntryFault, IsEntryForm1, IsState, IsStateForm1, StateFault, entry_form_1, entry_text, head_text, number_text, state_fits, state_form_2, state_text, stored_entry_fits, vote_fits, vote_text}
use Rattle.raft_voter_messages.specs.StateHeads.{HasHead, head_bytes, IsNoState}
use Rattle.raft_voter_messages.specs.declared.stored.head.StateHead.{StateHead}

pub length-number_text : (n : ℕ) → length (number_text n) ≡ 8
unfolding number_text
length-number_text n = refl

-- two lists that begin with parts of one length have equal parts
pub split_same :
    (a b x y : List ℕ) (n : ℕ) → length a ≡ n → length b ≡ n → a ++ x ≡ b ++ y → (a ≡ b) × (x ≡ y)
split_same a b x y n la lb same = (
  sym (take_at a x n la) ∙ ap (take n) same ∙ take_at b y n lb,
  sym (drop_at a x n la) ∙ ap (drop n) same ∙ drop_at b y n lb,
)

pub number_text-same :
    (m n : ℕ) → m < 2 ^ 64 → n < 2 ^ 64 → number_text m ≡ number_text n → m ≡ n
unfolding number_text
number_text-same m n fm fn same =
    sym (from_be_bytes-to_be_bytes_8 m fm) ∙ ap (from_be_bytes w64) same ∙ from_be_bytes-to_be_bytes_8 n fn

-- a number that begins a list is known by it, and so is the rest
pub number_first :
    (m n : ℕ) (x y : List ℕ) → m < 2 ^ 64 → n < 2 ^ 64 → number_text m ++ x ≡ number_text n ++ y → (m ≡ n) × (x ≡ y)
number_first m n x y fm fn same =
    let parts = split_same (number_text m) (number_text n) x y 8 (length-number_text m) (length-number_text n) same in
    (number_text-same m n fm fn parts.0, parts.1)

-- so are the parts of a head
head_text-same :
    (t t' b b' u u' : ℕ) (v v' : List ℕ) → t < 2 ^ 64 → t' < 2 ^ 64 → b < 2 ^ 64 → b' < 2 ^ 64 → u < 2 ^ 64 → u' < 2 ^ 64
    → length v ≡ 9 → length v' ≡ 9 → head_text t v b u ≡ head_text t' v' b' u'
    → (t ≡ t') × (v ≡ v') × (b ≡ b') × (u ≡ u')
head_text-same t t' b b' u u' v v' ft ft' fb fb' fu fu' lv lv' same =
    let first = number_first t t' (v ++ (number_text b ++ number_text u)) (v' ++ (number_text b' ++ number_text u')) ft ft' same in
    let second = split_same v v' (number_text b ++ number_text u) (number_text b' ++ number_text u') 9 lv lv' first.1 in
    let third = number_first b b' (number_text u) (number_text u') fb fb' second.1 in
    (first.0, second.0, third.0, number_text-same u u' fu fu' third.1)

pub length-head_text : (t b u : ℕ) (v : List ℕ) → length v ≡ 9 → length (head_text t v b u) ≡ 33
length-head_text t b u v lv =
    omega (
      arith,
      length-append (number_text t) (v ++ (number_text b ++ number_text u)),
      length-append v (number_text b ++ number_text u),
      length-append (number_text b) (number_text u),
      length-number_text t,
      length-number_text b,
      length-number_text u,
    )

pub length-vote_text : (v : Option ℕ) → length (vote_text v) ≡ 9
length-vote_text None = omega (arith, length-number_text 0)
length-vote_text (Some c) = omega (arith, length-number_text c)

pub length-vote_bytes : (f c : ℕ) → length (f ∷ number_text c) ≡ 9
length-vote_bytes f c = omega (arith, length-number_text c)

pub fits-below : (n : ℕ) → fits n ≡ true → n < 2 ^ 64
fits-below n fit = grind (arith, nat_tests)

pub vote_fits-below : (v : Option ℕ) (w : ℕ) → vote_fits v ≡ true → v ≡ Some w → w < 2 ^ 64
vote_fits-below None w fit is = absurd (cc)
vote_fits-below (Some c) w fit is = let same : c ≡ w = cc in grind (arith, nat_tests)

-- votes are known by their bytes
pub vote_text-same :
    (v w : Option ℕ) → vote_fits v ≡ true → ((c : ℕ) → w ≡ Some c → c < 2 ^ 64) → vote_text v ≡ vote_text w → v ≡ w
vote_text-same None None fv fw same = refl
vote_text-same None (Some d) fv fw same = absurd (cc)
vote_text-same (Some c) None fv fw same = absurd (cc)
vote_text-same (Some c) (Some d) fv fw same =
    let numbers : number_text c ≡ number_text d = cc in
    ap Some (number_text-same c d (fits-below c fv) (fw d refl) numbers)

-- no other bytes are those of a vote
pub vote_text-known :
    (v : Option ℕ) (f c : ℕ) → vote_fits v ≡ true → c < 2 ^ 64 → vote_text v ≡ f ∷ number_text c
    → ((f ≡ 0) × (c ≡ 0)) ⊎ (f ≡ 1)
vote_text-known None f c fv fc same =
    let zero : 0 ≡ f = cc in
    let none : number_text 0 ≡ number_text c = cc in
    inl (sym zero, sym (number_text-same 0 c (lit< tt) fc none))
vote_text-known (Some d) f c fv fc same = let one : 1 ≡ f = cc in inr (sym one)

-- the numbers of an entry are known by its bytes, so where one is out of range no entry in range has them
pub entry_numbers :
    (body own : List ℕ) (i t : ℕ) (e : Entry) → body ≡ number_text i ++ (number_text t ++ own) → i < 2 ^ 64
    → t < 2 ^ 64 → stored_entry_fits e ≡ true → body ≡ entry_form_1 e → (i ≡ e.index) × (t ≡ e.term) × (own ≡ e.bytes)
entry_numbers body own i t e is fi ft fit same =
    let bounds : (e.index < 2 ^ 64) × (e.term < 2 ^ 64) = grind (arith, nat_tests) in
    let first = number_first i e.index (number_text t ++ own) (number_text e.term ++ e.bytes) fi bounds.0 (sym is ∙ same) in
    let second = number_first t e.term own e.bytes ft bounds.1 first.1 in
    (first.0, second.0, second.1)

pub entry_out_of_range :
    (body own : List ℕ) (i t : ℕ) → body ≡ number_text i ++ (number_text t ++ own) → i < 2 ^ 64 → t < 2 ^ 64
    → list_all fits (i ∷ t ∷ []) ≡ false → (e : Entry) → IsEntryForm1 body e → ⊥
entry_out_of_range body own i t is fi ft out e one =
    let fit : stored_entry_fits e ≡ true = one.in_range in
    let numbers = entry_numbers body own i t e is fi ft fit one.text in
    let own_fit : (fits e.index ≡ true) × (fits e.term ≡ true) = grind (arith, nat_tests) in
    let index_fit : fits i ≡ true = ap fits numbers.0 ∙ own_fit.0 in
    let term_fit : fits t ≡ true = ap fits numbers.1 ∙ own_fit.1 in
    grind (arith, nat_tests)

pub length-entry :
    (body own : List ℕ) (i t : ℕ) → body ≡ number_text i ++ (number_text t ++ own) → length body ≡ 16 + length own
length-entry body own i t is =
    rw is (omega (arith, length-number_text i, length-number_text t, length-append (number_text i) (number_text t ++ own), length-append (number_text t) own))

pub entry_in_range :
    (i t : ℕ) (own : List ℕ) → list_all fits (i ∷ t ∷ []) ≡ true → length own ≤ 65535
    → stored_entry_fits (record { index = i; term = t; bytes = own }) ≡ true
entry_in_range i t own fit short = grind (arith, nat_tests)

-- Heads of states.

pub vote_in_range : (s : VoterState) → state_fits s ≡ true → vote_fits s.vote ≡ true
vote_in_range s fit = grind (arith, nat_tests)

pub state_numbers_small :
    (s : VoterState) → state_fits s ≡ true
    → (s.term < 2 ^ 64) × (s.base_index < 2 ^ 64) × (s.base_term < 2 ^ 64) × (s.commit < 2 ^ 64)
state_numbers_small s fit = grind (arith, nat_tests)

-- the head of a state in range that begins a list is known by it, and so is the rest
pub head_first :
    (t b u : ℕ) (v x y : List ℕ) (s : VoterState) → t < 2 ^ 64 → b < 2 ^ 64 → u < 2 ^ 64 → length v ≡ 9
    → state_fits s ≡ true → head_text t v b u ++ x ≡ head_text s.term (vote_text s.vote) s.base_index s.base_term ++ y
    → (t ≡ s.term) × (v ≡ vote_text s.vote) × (b ≡ s.base_index) × (u ≡ s.base_term) × (x ≡ y)
head_first t b u v x y s ft fb fu lv fit same =
    let bounds = state_numbers_small s fit in
    let w = vote_text s.vote in
    let lw = length-vote_text s.vote in
    let parts = split_same (head_text t v b u) (head_text s.term w s.base_index s.base_term) x y 33 (length-head_text t b u v lv)
    (length-head_text s.term s.base_index s.base_term w lw) same in
    let heads = head_text-same t s.term b s.base_index u s.base_term v w ft bounds.0 fb bounds.1 fu bounds.2 lv lw parts.0 in
    (heads.0, heads.1, heads.2, heads.3, parts.1)

-- a state has the head that was read where its own begins the same list
pub has_head :
    (h : StateHead) (s : VoterState) (body x y : List ℕ) → body ≡ head_bytes h ++ x → state_fits s ≡ true
    → body ≡ head_text s.term (vote_text s.vote) s.base_index s.base_term ++ y → HasHead s h × (x ≡ y)
has_head h s body x y read fit own =
    let known = head_first h.term h.base_index h.base_term (h.vote_byte ∷ number_text h.candidate) x y s h.small.0 h.small.2 h.small.3
    (length-vote_bytes h.vote_byte h.candidate) fit (sym read ∙ own) in (
      record { term = sym known.0; vote = sym known.1; base_index = sym known.2; base_term = sym known.3 },
      known.4,
    )

-- where the numbers that were read make a state out of range, no state in range has them
pub no_state :
    (h : StateHead) (vote : Option ℕ) (commit l m : ℕ) → vote_text vote ≡ h.vote_byte ∷ number_text h.candidate
    → ((c : ℕ) → vote ≡ Some c → c < 2 ^ 64)
    → state_fits (record { term = h.term; vote = vote; base_index = h.base_index; base_term = h.base_term; last_index = l; last_term = m; commit = commit }) ≡ false
    → IsNoState h commit
no_state h vote commit l m spelled small out s fit has at =
    let votes : s.vote ≡ vote = vote_text-same s.vote vote (vote_in_range s fit) small (has.vote ∙ sym spelled) in
    let again : state_fits (record { term = h.term; vote = vote; base_index = h.base_index; base_term = h.base_term; last_index = l; last_term = m; commit = commit }) ≡ true =
    rw (← has.term, ← votes, ← has.base_index, ← has.base_term, ← at) fit in
    false≢true (sym out ∙ again)

-- so no bytes of form 1 that begin with them are those of a state
pub no_form_1 :
    (h : StateHead) (commit : ℕ) (body rest : List ℕ) → commit ≡ h.base_index → body ≡ head_bytes h ++ rest
    → IsNoState h commit → (s : VoterState) → state_fits s ≡ true → IsStateForm1 body s → ⊥
no_form_1 h commit body rest base read none s fit is =
    let has = (has_head h s body rest [] read fit (is.text ∙ sym (append-nil _))).0 in
    none s fit has (is.commit ∙ has.base_index ∙ sym base)

-- and of form 2 with this commit
pub no_form_2 :
    (h : StateHead) (commit : ℕ) (body rest behind : List ℕ) → body ≡ head_bytes h ++ rest → rest ≡ number_text commit ++ behind
    → commit < 2 ^ 64 → IsNoState h commit → (s : VoterState) → state_fits s ≡ true → body ≡ state_form_2 s → ⊥
no_form_2 h commit body rest behind read next small none s fit same =
    let has = has_head h s body rest (number_text s.commit) read fit same in
    let numbers = number_first commit s.commit behind [] small (state_numbers_small s fit).3 (sym next ∙ has.1 ∙ sym (append-nil _)) in
    none s fit has.0 (sym numbers.0)

-- What was written is read again.

pub length-state_text : (s : VoterState) → length (state_text s) ≡ 42
length-state_text s =
    let head = length-head_text s.term s.base_index s.base_term (vote_text s.vote) (length-vote_text s.vote) in
    omega (
      arith,
      head,
      length-append (head_text s.term (vote_text s.vote) s.base_index s.base_term) (number_text s.commit),
      length-number_text s.commit,
    )

-- a state in range is known by what is written of it, but for what is known of its log
pub state_form_2-same :
    (s r : VoterState) → state_fits s ≡ true → state_fits r ≡ true → state_form_2 s ≡ state_form_2 r
    → (s.term ≡ r.term) × (s.vote ≡ r.vote) × (s.base_index ≡ r.base_index) × (s.base_term ≡ r.base_term) × (s.commit ≡ r.commit)
state_form_2-same s r fit own same =
    let small = state_numbers_small s fit in
    let known = head_first s.term s.base_index s.base_term (vote_text s.vote) (number_text s.commit) (number_text r.commit) r small.0 small.1 small.2
    (length-vote_text s.vote) own same in
    let votes = vote_text-same s.vote r.vote (vote_in_range s fit) (λ c here. vote_fits-below r.vote c (vote_in_range r own) here) known.1 in
    (known.0, votes, known.2, known.3, number_text-same s.commit r.commit small.3 (state_numbers_small r own).3 known.4)

-- the bytes of a state in range have no fault
pub state_no_fault : (fault : StoredFault) (s : VoterState) → state_fits s ≡ true → StateFault fault (state_text s) → ⊥
state_no_fault fault s fit (inl first) = absurd (omega (arith, first.0))
state_no_fault Length s fit (inr (inl second)) = absurd (omega (arith, second.1, length-state_text s))
state_no_fault Range s fit (inr (inl second)) = second.1.1 s fit refl
state_no_fault Form s fit (inr (inl second)) = second.1
state_no_fault Index s fit (inr (inl second)) = second.1
state_no_fault Order s fit (inr (inl second)) = second.1
state_no_fault Memory s fit (inr (inl second)) = second.1
state_no_fault fault s fit (inr (inr other)) = other.1 refl

-- a state that is read from the bytes of one in range has its term, its vote, its base and its commit
pub state_read_back :
    (s r : VoterState) → state_fits s ≡ true → IsState (state_text s) r
    → (r.term ≡ s.term) × (r.vote ≡ s.vote) × (r.base_index ≡ s.base_index) × (r.base_term ≡ s.base_term) × (r.commit ≡ s.commit)
state_read_back s r fit (inl first, bare) = absurd (omega (arith, first.0))
state_read_back s r fit (inr second, bare) = state_form_2-same r s bare.in_range fit (sym second.1)

pub length-entry_text : (e : Entry) → length (entry_text e) ≡ 17 + length e.bytes
length-entry_text e = omega (arith, length-entry (entry_form_1 e) e.bytes e.index e.term refl)

-- the bytes of an entry in range have no fault at its index, but memory may run out
pub entry_no_fault :
    (fault : StoredFault) (e : Entry) → stored_entry_fits e ≡ true → EntryFault fault (entry_text e) e.index
    → fault ≡ Memory
entry_no_fault Length e fit (inl (form, inl short)) = absurd (omega (arith, short, length-entry_text e))
entry_no_fault Length e fit (inl (form, inr long)) =
    let small : length e.bytes ≤ 65535 = grind (arith, nat_tests) in absurd (omega (arith, small, long, length-entry_text e))
entry_no_fault Range e fit (inl other) = absurd (other.1.2 e (record { text = refl; in_range = fit }))
entry_no_fault Index e fit (inl (form, other)) =
    let bounds : (e.index < 2 ^ 64) × (e.term < 2 ^ 64) = grind (arith, nat_tests) in
    let one = other.1 in
    let numbers = entry_numbers (entry_form_1 e) e.bytes e.index e.term other.0 refl bounds.0 bounds.1 one.in_range one.text in
    absurd (other.2 (sym numbers.0))
entry_no_fault Memory e fit other = refl
entry_no_fault Form e fit (inl other) = absurd other.1
entry_no_fault Order e fit (inl other) = absurd other.1
entry_no_fault fault e fit (inr other) = absurd (other.0 refl)

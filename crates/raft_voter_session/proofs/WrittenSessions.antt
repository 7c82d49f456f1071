-- The lines of a written session are read again.
use Rattle.std.proofs.Common.{◌≡◌, ℕ, ◌+◌, ◌∙◌, ◌&&◌, Bool, true, false, not, nat_lt, nat_le, List, [], ◌∷◌, ◌++◌, length, map, take, drop, Option, Some, None, Ok, codes, append-nil, append_assoc, refl, sym, ap, subst, if◌then◌else◌, arith}
use Rattle.std.proofs.lemmas.Bool.{and_parts}
use Rattle.std.proofs.lemmas.Bool.Decides.{nat_tests}
use Rattle.std.proofs.lemmas.List.{take_all}
use Rattle.std.proofs.lemmas.List.Folds.{list_all-append}
use Rattle.std.proofs.lemmas.List.Splits.{slice_split_at}
use Rattle.std.proofs.lemmas.List.Sums.{AllPass-from_list_all}
use Rattle.std.specs.List.{All, before_first, flat_map, list_all, slice_split}
use Rattle.std.specs.Option.{option_map}
use Rattle.std.specs.Str.{bytes_eq, is_utf8}
use Rattle.raft_voter_messages.specs.declared.request.Request.{Request}
use Rattle.raft_voter_messages.specs.declared.request.Request.TheVariants.{Vote, Append, Compact, Install, Read, Status, Retire}
use Rattle.raft_voter_world.specs.declared.event.Event.{Event}
use Rattle.raft_voter_world.specs.declared.event.Event.TheVariants.{Close, Crash, CrashAt, Fork, Maintain, Open, Refuse, RewriteAppend, RewriteRewrite, Round}
use Rattle.raft_voter_world.specs.declared.event.Left.{Left}
use Rattle.raft_voter_world.specs.declared.event.Left.TheVariants.{All as AllLeft, First, Last}
use Rattle.raft_voter_session.specs.Told.{Told, alone, copy}
use Rattle.raft_voter_session.specs.Words.{◌>>=◌, count_at, ends, is_line_feed, is_space, number_at, text_of, word_at}
use Rattle.raft_voter_session.specs.Requests.{append_at, compact_at, install_at, read_at, request_at, request_of, retire_at, status_at, vote_at}
use Rattle.raft_voter_session.specs.Events.{crash_at, event_at, event_of, fork_at, left_at, open_at, refuse_at, stop_at}
use Rattle.raft_voter_session.specs.Session.{Progress, after_asked, after_line, after_part, after_setting, is_last, no_progress, nothing, read_from, round, session_of, settings as settings_part}
use Rattle.raft_voter_session.specs.SessionText.{alone_lines, are_settings, event_lines, is_asked, is_count, is_left, is_name, is_number, is_sent, is_setting, is_told, is_told_alone, is_within_word, left_text, lines_text, request_entries, request_line, request_numbers, request_word, sent_text, session_lines, session_text, settings_lines}
use Rattle.raft_voter_session.specs.Text.{spaced, spaced_all}
use Rattle.raft_voter_session.specs.Laws.{SessionsAreReadBack}
use Rattle.raft_voter_session.proofs.WrittenWords.{at_numbers, at_sent, before_first-append, behind_first-append, bind, commit_read, first_read, has_none, has_none-append, is_at, no_line_feed_in_numbers, no_line_feed_in_sent, others_fit, sent_read, word_read}

-- Requests.

-- the numbers and entries of a request, as they stand behind its first word
abbrev request_rest : ℕ × Request → List ℕ
request_rest q = spaced_all (request_numbers q.0 q.1) ++ flat_map sent_text (request_entries q.1)

vote_read : (g t c i u : ℕ) → list_all is_number (g ∷ t ∷ c ∷ i ∷ u ∷ []) ≡ true → vote_at (spaced_all (g ∷ t ∷ c ∷ i ∷ u ∷ []) ++ []) ≡ Some (g, Vote t c i u)
unfolding vote_at
vote_read g t c i u h =
    let h1 = others_fit g (t ∷ c ∷ i ∷ u ∷ []) h in
    let h2 = others_fit t (c ∷ i ∷ u ∷ []) h1 in
    let h3 = others_fit c (i ∷ u ∷ []) h2 in
    let h4 = others_fit i (u ∷ []) h3 in
    let e0 = first_read g (t ∷ c ∷ i ∷ u ∷ []) [] h refl in
    let e1 = first_read t (c ∷ i ∷ u ∷ []) [] h1 refl in
    let e2 = first_read c (i ∷ u ∷ []) [] h2 refl in
    let e3 = first_read i (u ∷ []) [] h3 refl in
    let e4 = first_read u [] [] h4 refl in
    rw (e0, e1, e2, e3, e4) refl

append_read : (g t p u c : ℕ) (sent : List (ℕ × List ℕ)) → list_all is_number (g ∷ t ∷ p ∷ u ∷ c ∷ []) ≡ true → list_all is_sent sent ≡ true
    → append_at (spaced_all (g ∷ t ∷ p ∷ u ∷ c ∷ []) ++ flat_map sent_text sent) ≡ Some (g, Append t p u c sent)
unfolding append_at
append_read g t p u c sent h k =
    let rest = flat_map sent_text sent in
    let at = at_sent sent in
    let h1 = others_fit g (t ∷ p ∷ u ∷ c ∷ []) h in
    let h2 = others_fit t (p ∷ u ∷ c ∷ []) h1 in
    let h3 = others_fit p (u ∷ c ∷ []) h2 in
    let h4 = others_fit u (c ∷ []) h3 in
    let e0 = first_read g (t ∷ p ∷ u ∷ c ∷ []) rest h at in
    let e1 = first_read t (p ∷ u ∷ c ∷ []) rest h1 at in
    let e2 = first_read p (u ∷ c ∷ []) rest h2 at in
    let e3 = first_read u (c ∷ []) rest h3 at in
    let e4 = commit_read c rest (and_parts (is_number c) true h4).0 at in
    rw (e0, e1, e2, e3, e4, sent_read sent k) refl

compact_read : (g i : ℕ) → list_all is_number (g ∷ i ∷ []) ≡ true → compact_at (spaced_all (g ∷ i ∷ []) ++ []) ≡ Some (g, Compact i)
unfolding compact_at
compact_read g i h =
    let e0 = first_read g (i ∷ []) [] h refl in
    let e1 = first_read i [] [] (others_fit g (i ∷ []) h) refl in
    rw (e0, e1) refl

install_read : (g t i u : ℕ) → list_all is_number (g ∷ t ∷ i ∷ u ∷ []) ≡ true → install_at (spaced_all (g ∷ t ∷ i ∷ u ∷ []) ++ []) ≡ Some (g, Install t i u)
unfolding install_at
install_read g t i u h =
    let h1 = others_fit g (t ∷ i ∷ u ∷ []) h in
    let h2 = others_fit t (i ∷ u ∷ []) h1 in
    let h3 = others_fit i (u ∷ []) h2 in
    let e0 = first_read g (t ∷ i ∷ u ∷ []) [] h refl in
    let e1 = first_read t (i ∷ u ∷ []) [] h1 refl in
    let e2 = first_read i (u ∷ []) [] h2 refl in
    let e3 = first_read u [] [] h3 refl in
    rw (e0, e1, e2, e3) refl

read_read : (g a b : ℕ) → list_all is_number (g ∷ a ∷ b ∷ []) ≡ true → read_at (spaced_all (g ∷ a ∷ b ∷ []) ++ []) ≡ Some (g, Read a b)
unfolding read_at
read_read g a b h =
    let h1 = others_fit g (a ∷ b ∷ []) h in
    let h2 = others_fit a (b ∷ []) h1 in
    let e0 = first_read g (a ∷ b ∷ []) [] h refl in
    let e1 = first_read a (b ∷ []) [] h1 refl in
    let e2 = first_read b [] [] h2 refl in
    rw (e0, e1, e2) refl

status_read : (g : ℕ) → list_all is_number (g ∷ []) ≡ true → status_at (spaced_all (g ∷ []) ++ []) ≡ Some (g, Status)
unfolding status_at
status_read g h = let e0 = first_read g [] [] h refl in rw e0 refl

retire_read : (g : ℕ) → list_all is_number (g ∷ []) ≡ true → retire_at (spaced_all (g ∷ []) ++ []) ≡ Some (g, Retire)
unfolding retire_at
retire_read g h = let e0 = first_read g [] [] h refl in rw e0 refl

request_read : (q : ℕ × Request) → is_asked q ≡ true → request_at (request_word q.1) (request_rest q) ≡ Some q
unfolding request_at
request_read (g, Vote t c i u) h = vote_read g t c i u (and_parts (list_all is_number (g ∷ t ∷ c ∷ i ∷ u ∷ [])) true h).0
request_read (g, Append t p u c sent) h =
    let parts = and_parts (list_all is_number (g ∷ t ∷ p ∷ u ∷ c ∷ [])) (list_all is_sent sent) h in
    append_read g t p u c sent parts.0 parts.1
request_read (g, Compact i) h = compact_read g i (and_parts (list_all is_number (g ∷ i ∷ [])) true h).0
request_read (g, Install t i u) h = install_read g t i u (and_parts (list_all is_number (g ∷ t ∷ i ∷ u ∷ [])) true h).0
request_read (g, Read a b) h = read_read g a b (and_parts (list_all is_number (g ∷ a ∷ b ∷ [])) true h).0
request_read (g, Status) h = status_read g (and_parts (list_all is_number (g ∷ [])) true h).0
request_read (g, Retire) h = retire_read g (and_parts (list_all is_number (g ∷ [])) true h).0

-- Lines.

-- a line by its first word
abbrev by_word : {A : Type 0} → (List ℕ → List ℕ → Option A) → List ℕ → Option A
by_word f line = f (before_first is_space line) (drop (length (before_first is_space line)) line)

by_word-append : {A : Type 0} (f : List ℕ → List ℕ → Option A) (word rest : List ℕ) → has_none is_space word ≡ true → is_at is_space rest ≡ true → by_word f (word ++ rest) ≡ f word rest
by_word-append f word rest h at = rw (behind_first-append is_space word rest h at, before_first-append is_space word rest h at) refl

one_word : (r : Request) → has_none is_space (request_word r) ≡ true
one_word (Vote t c i u) = refl
one_word (Append t p u c sent) = refl
one_word (Compact i) = refl
one_word (Install t i u) = refl
one_word (Read a b) = refl
one_word Status = refl
one_word Retire = refl

plain_word : (r : Request) → has_none is_line_feed (request_word r) ≡ true
plain_word (Vote t c i u) = refl
plain_word (Append t p u c sent) = refl
plain_word (Compact i) = refl
plain_word (Install t i u) = refl
plain_word (Read a b) = refl
plain_word Status = refl
plain_word Retire = refl

-- the line of a request isn't the one that ends a round
ends_no_round : (r : Request) (rest : List ℕ) → bytes_eq (request_word r ++ rest) (codes "end") ≡ false
ends_no_round (Vote t c i u) rest = refl
ends_no_round (Append t p u c sent) rest = refl
ends_no_round (Compact i) rest = refl
ends_no_round (Install t i u) rest = refl
ends_no_round (Read a b) rest = refl
ends_no_round Status rest = refl
ends_no_round Retire rest = refl

request_line-parts : (q : ℕ × Request) → request_line q ≡ request_word q.1 ++ request_rest q
request_line-parts q = append_assoc (request_word q.1) (spaced_all (request_numbers q.0 q.1)) (flat_map sent_text (request_entries q.1))

asked_line : (q : ℕ × Request) → is_asked q ≡ true → request_of (request_line q) ≡ Some q
asked_line q h =
    let at = at_numbers (request_numbers q.0 q.1) (flat_map sent_text (request_entries q.1)) (at_sent (request_entries q.1)) in
    ap request_of (request_line-parts q) ∙ by_word-append request_at (request_word q.1) (request_rest q) (one_word q.1) at ∙ request_read q h

-- Events.

at_alone : (ns : List ℕ) → is_at is_space (spaced_all ns) ≡ true
unfolding spaced
at_alone [] = refl
at_alone (n ∷ ns) = refl

first_alone : (n : ℕ) (ns : List ℕ) → list_all is_number (n ∷ ns) ≡ true → number_at (spaced_all (n ∷ ns)) ≡ Some (n, spaced_all ns)
first_alone n ns h =
    ap number_at (sym (append-nil (spaced_all (n ∷ ns)))) ∙ first_read n ns [] h refl
    ∙ ap (λ (rest : List ℕ). Some (n, rest)) (append-nil (spaced_all ns))

count_is_number : (n : ℕ) → is_count n ≡ true → list_all is_number (n ∷ []) ≡ true
count_is_number n h = rw (and_parts (nat_lt 0 n) (is_number n) h).1 refl

count_read : (n : ℕ) (rest : List ℕ) → is_count n ≡ true → is_at is_space rest ≡ true → count_at (spaced_all (n ∷ []) ++ rest) ≡ Some (n, rest)
unfolding count_at
count_read n rest h at =
    bind (number_at (spaced_all (n ∷ []) ++ rest)) (n, rest) (λ (count : ℕ × List ℕ). if nat_lt 0 count.0 then Some count else None) (first_read n [] rest (count_is_number n h) at)
    ∙ rw (and_parts (nat_lt 0 n) (is_number n) h).0 refl

count_alone : (n : ℕ) → is_count n ≡ true → count_at (spaced_all (n ∷ [])) ≡ Some (n, [])
count_alone n h = ap count_at (sym (append-nil (spaced_all (n ∷ [])))) ∙ count_read n [] h refl

left_read : (l : Left) → is_left l ≡ true → left_at (left_text l) ≡ Some l
unfolding left_at
left_read Last h = refl
left_read AllLeft h = refl
left_read (First p b) h =
    let parts = and_parts (is_number p) (is_number b) h in
    let all : list_all is_number (p ∷ b ∷ []) ≡ true = rw (parts.0, parts.1) refl in
    let e0 = first_alone p (b ∷ []) all in
    let e1 = first_alone b [] (others_fit p (b ∷ []) all) in
    let numbers = spaced_all (p ∷ b ∷ []) in
    bind (word_at (32 ∷ (codes "first" ++ numbers))) (codes "first", numbers)
    (λ word. if bytes_eq word.0 (codes "first") then (number_at word.1 >>= (λ pieces. number_at pieces.1 >>= (λ bytes. ends bytes.1 (First pieces.0 bytes.0)))) else None)
    (word_read (codes "first") numbers refl (at_alone (p ∷ b ∷ [])))
    ∙ rw (e0, e1) refl

at_left : (l : Left) → is_at is_space (left_text l) ≡ true
at_left Last = refl
at_left AllLeft = refl
at_left (First p b) = refl

-- a line of words tells what its first word says
said_by : (word rest : List ℕ) (e : Told) → event_of (word ++ rest) ≡ by_word event_at (word ++ rest) → has_none is_space word ≡ true → is_at is_space rest ≡ true
    → event_at word rest ≡ Some e → event_of (word ++ rest) ≡ Some e
said_by word rest e first h at k = first ∙ by_word-append event_at word rest h at ∙ k

open_line : (w : ℕ) → is_count w ≡ true → event_of (codes "open" ++ spaced_all (w ∷ [])) ≡ Some (alone (Open w))
unfolding event_of event_at open_at
open_line w h = said_by (codes "open") (spaced_all (w ∷ [])) (alone (Open w)) refl refl (at_alone (w ∷ []))
    (bind (count_at (spaced_all (w ∷ []))) (w, []) (λ (c : ℕ × List ℕ). ends c.1 (alone (Open c.0))) (count_alone w h))

refuse_line : (n : ℕ) → is_count n ≡ true → event_of (codes "refuse" ++ spaced_all (n ∷ [])) ≡ Some (alone (Refuse n))
unfolding event_of event_at refuse_at
refuse_line n h = said_by (codes "refuse") (spaced_all (n ∷ [])) (alone (Refuse n)) refl refl (at_alone (n ∷ []))
    (bind (count_at (spaced_all (n ∷ []))) (n, []) (λ (c : ℕ × List ℕ). ends c.1 (alone (Refuse c.0))) (count_alone n h))

crash_line : (l : Left) → is_left l ≡ true → event_of (codes "crash" ++ left_text l) ≡ Some (alone (Crash l))
unfolding event_of event_at crash_at
crash_line l h = said_by (codes "crash") (left_text l) (alone (Crash l)) refl refl (at_left l)
    (bind (left_at (left_text l)) l (λ left. Some (alone (Crash left))) (left_read l h))

stop_line : (n : ℕ) (l : Left) → is_count n ≡ true → is_left l ≡ true → event_of (codes "crash-at" ++ (spaced_all (n ∷ []) ++ left_text l)) ≡ Some (alone (CrashAt n l))
unfolding event_of event_at stop_at
stop_line n l h k = said_by (codes "crash-at") (spaced_all (n ∷ []) ++ left_text l) (alone (CrashAt n l)) refl refl (at_numbers (n ∷ []) (left_text l) (at_left l))
    (bind (count_at (spaced_all (n ∷ []) ++ left_text l)) (n, left_text l) (λ (c : ℕ × List ℕ). left_at c.1 >>= (λ left. Some (alone (CrashAt c.0 left)))) (count_read n (left_text l) h (at_left l))
    ∙ bind (left_at (left_text l)) l (λ left. Some (alone (CrashAt n left))) (left_read l k))

within_words : (name : List ℕ) → list_all is_within_word name ≡ true → (has_none is_space name ≡ true) × (has_none is_line_feed name ≡ true)
within_words [] h = (refl, refl)
within_words (b ∷ name) h =
    let parts = and_parts (is_within_word b) (list_all is_within_word name) h in
    let own = and_parts (not (is_space b)) (not (is_line_feed b)) parts.0 in
    let more = within_words name parts.1 in
    (rw (own.0, more.0) refl, rw (own.1, more.1) refl)

fork_line : (name : List ℕ) → is_name name ≡ true → event_of (codes "fork " ++ name) ≡ Some (copy name)
unfolding event_of event_at fork_at
fork_line name h =
    let parts = and_parts (nat_lt 0 (length name) && is_utf8 name) (list_all is_within_word name) h in
    let both = and_parts (nat_lt 0 (length name)) (is_utf8 name) parts.0 in
    let word : word_at (32 ∷ name) ≡ Some (name, []) = ap (λ (text : List ℕ). word_at (32 ∷ text)) (sym (append-nil name)) ∙ word_read name [] (within_words name parts.1).0 refl in
    said_by (codes "fork") (32 ∷ name) (copy name) refl refl refl
    (bind (word_at (32 ∷ name)) (name, []) (λ (w : List ℕ × List ℕ). if nat_lt 0 (length w.0) then (text_of w.0 >>= (λ n. ends w.1 (copy n))) else None) word
    ∙ rw (both.0, both.1) refl)

-- Lines that lead on.

abbrev is_short : List ℕ → Bool
is_short line = nat_le (length line) 4194304

short_line : (line : List ℕ) (p : Progress) → is_short line ≡ true → after_line line p ≡ after_part p.begun line p.session
short_line line p h = let e : nat_lt 4194304 (length line) ≡ false = grind (arith, nat_tests) in rw e refl

-- lines tell this behind what was told
abbrev Tell : List (List ℕ) → Progress → Progress → Type 0
Tell [] p q = p ≡ q
Tell (line ∷ lines) p q = (r : Progress) × (after_line line p ≡ Some r) × Tell lines r q

Tell-append : (a b : List (List ℕ)) (p q r : Progress) → Tell a p q → Tell b q r → Tell (a ++ b) p r
Tell-append [] b p q r e k = let P : Progress → Type 0 = λ x. Tell b x r in subst P (sym e) k
Tell-append (line ∷ a) b p q r h k = (h.0, h.1, Tell-append a b h.0 q r h.2 k)

-- before any round, within the settings, and within a round
abbrev outside : Option (List ℕ) → List Told → Progress
outside settings events = record { session = record { settings = settings; events = events }; begun = nothing }

abbrev in_settings : List ℕ → Progress
in_settings told = record { session = record { settings = None; events = [] }; begun = settings_part told }

abbrev in_round : Option (List ℕ) → List Told → List (ℕ × Request) → Progress
in_round settings events asked = record { session = record { settings = settings; events = events }; begun = round asked }

tells : (line : List ℕ) (p r : Progress) → is_short line ≡ true → after_part p.begun line p.session ≡ Some r → Tell (line ∷ []) p r
tells line p r short h = (r, short_line line p short ∙ h, refl)

requests_tell : (s : Option (List ℕ)) (events : List Told) (asked qs : List (ℕ × Request)) → list_all is_asked qs ≡ true → list_all is_short (map request_line qs) ≡ true
    → Tell (map request_line qs) (in_round s events asked) (in_round s events (asked ++ qs))
requests_tell s events asked [] h short = ap (in_round s events) (sym (append-nil asked))
requests_tell s events asked (q ∷ qs) h short =
    let fit = and_parts (is_asked q) (list_all is_asked qs) h in
    let few = and_parts (is_short (request_line q)) (list_all is_short (map request_line qs)) short in
    let next = in_round s events (asked ++ q ∷ []) in
    let more = requests_tell s events (asked ++ q ∷ []) qs fit.1 few.1 in
    let P : List (ℕ × Request) → Type 0 = λ all. Tell (map request_line qs) next (in_round s events all) in
    let other : bytes_eq (request_line q) (codes "end") ≡ false = ap (λ (line : List ℕ). bytes_eq line (codes "end")) (request_line-parts q) ∙ ends_no_round q.1 (request_rest q) in
    let one : after_asked (request_line q) (record { settings = s; events = events }) asked ≡ Some next = rw (other, asked_line q fit.0) refl in
    (next, short_line (request_line q) (in_round s events asked) few.0 ∙ one, subst P (append_assoc asked (q ∷ []) qs) more)

-- a line that tells an event, and begins neither settings nor a round
event_line_tells : (s : Option (List ℕ)) (events : List Told) (line : List ℕ) (e : Told) → is_short line ≡ true
    → bytes_eq line (codes "config") ≡ false → bytes_eq line (codes "round") ≡ false → event_of line ≡ Some e
    → Tell (line ∷ []) (outside s events) (outside s (events ++ e ∷ []))
event_line_tells s events line e short c r h =
    tells line (outside s events) (outside s (events ++ e ∷ [])) short (rw (c, r, h) refl)

alone_tells : (s : Option (List ℕ)) (events : List Told) (e : Event) → is_told_alone e ≡ true → list_all is_short (alone_lines e) ≡ true
    → Tell (alone_lines e) (outside s events) (outside s (events ++ alone e ∷ []))
unfolding event_of
alone_tells s events (Open w) h short = event_line_tells s events (codes "open" ++ spaced_all (w ∷ [])) (alone (Open w)) (and_parts (is_short (codes "open" ++ spaced_all (w ∷ []))) true short).0 refl refl (open_line w h)
alone_tells s events Close h short = event_line_tells s events (codes "close") (alone Close) refl refl refl refl
alone_tells s events Maintain h short = event_line_tells s events (codes "purge") (alone Maintain) refl refl refl refl
alone_tells s events RewriteAppend h short = event_line_tells s events (codes "rewrite-append") (alone RewriteAppend) refl refl refl refl
alone_tells s events RewriteRewrite h short = event_line_tells s events (codes "rewrite-rewrite") (alone RewriteRewrite) refl refl refl refl
alone_tells s events (Crash l) h short = event_line_tells s events (codes "crash" ++ left_text l) (alone (Crash l)) (and_parts (is_short (codes "crash" ++ left_text l)) true short).0 refl refl (crash_line l h)
alone_tells s events (CrashAt n l) h short =
    let parts = and_parts (is_count n) (is_left l) h in
    event_line_tells s events (codes "crash-at" ++ (spaced_all (n ∷ []) ++ left_text l)) (alone (CrashAt n l)) (and_parts (is_short (codes "crash-at" ++ (spaced_all (n ∷ []) ++ left_text l))) true short).0 refl refl (stop_line n l parts.0 parts.1)
alone_tells s events (Refuse n) h short = event_line_tells s events (codes "refuse" ++ spaced_all (n ∷ [])) (alone (Refuse n)) (and_parts (is_short (codes "refuse" ++ spaced_all (n ∷ []))) true short).0 refl refl (refuse_line n h)
alone_tells s events (Round qs) h short =
    let parts = and_parts (list_all is_short (map request_line qs)) true (sym (list_all-append is_short (map request_line qs) (codes "end" ∷ [])) ∙ short) in
    Tell-append (codes "round" ∷ map request_line qs) (codes "end" ∷ []) (outside s events) (in_round s events qs) (outside s (events ++ alone (Round qs) ∷ []))
    (in_round s events [], short_line (codes "round") (outside s events) refl, requests_tell s events [] qs h parts.0)
    (tells (codes "end") (in_round s events qs) (outside s (events ++ alone (Round qs) ∷ [])) refl refl)
alone_tells s events (Fork target) h short = cc

event_tells : (s : Option (List ℕ)) (events : List Told) (e : Told) → is_told e ≡ true → list_all is_short (event_lines e) ≡ true
    → Tell (event_lines e) (outside s events) (outside s (events ++ e ∷ []))
event_tells s events (alone e) h short = alone_tells s events e h short
event_tells s events (copy name) h short = event_line_tells s events (codes "fork " ++ name) (copy name) (and_parts (is_short (codes "fork " ++ name)) true short).0 refl refl (fork_line name h)

events_tell : (s : Option (List ℕ)) (done events : List Told) → list_all is_told events ≡ true → list_all is_short (flat_map event_lines events) ≡ true
    → Tell (flat_map event_lines events) (outside s done) (outside s (done ++ events))
events_tell s done [] h short = ap (outside s) (sym (append-nil done))
events_tell s done (e ∷ events) h short =
    let fit = and_parts (is_told e) (list_all is_told events) h in
    let few = and_parts (list_all is_short (event_lines e)) (list_all is_short (flat_map event_lines events)) (sym (list_all-append is_short (event_lines e) (flat_map event_lines events)) ∙ short) in
    let more = events_tell s (done ++ e ∷ []) events fit.1 few.1 in
    let P : List Told → Type 0 = λ all. Tell (flat_map event_lines events) (outside s (done ++ e ∷ [])) (outside s all) in
    Tell-append (event_lines e) (flat_map event_lines events) (outside s done) (outside s (done ++ e ∷ [])) (outside s (done ++ (e ∷ events)))
    (event_tells s done e fit.0 few.0) (subst P (append_assoc done (e ∷ []) events) more)

-- Settings.

is_false : (b : Bool) → not b ≡ true → b ≡ false
is_false false h = refl
is_false true h = cc

-- what a line of settings is, part by part
setting_parts : (line : List ℕ) → is_setting line ≡ true → (bytes_eq line (codes "end") ≡ false) × (is_utf8 line ≡ true) × (has_none is_line_feed line ≡ true)
setting_parts line h =
    let parts = and_parts (not (bytes_eq line (codes "end")) && is_utf8 line) (has_none is_line_feed line) h in
    let own = and_parts (not (bytes_eq line (codes "end"))) (is_utf8 line) parts.0 in
    (is_false (bytes_eq line (codes "end")) own.0, own.1, parts.1)

regroup : (told line end rest : List ℕ) → told ++ line ++ end ++ rest ≡ told ++ (line ++ end ++ rest)
regroup told line end rest =
    append_assoc (told ++ line) end rest ∙ append_assoc told line (end ++ rest) ∙ ap (λ (more : List ℕ). told ++ more) (sym (append_assoc line end rest))

settings_tell : (told : List ℕ) (lines : List (List ℕ)) → list_all is_setting lines ≡ true → list_all is_short lines ≡ true
    → Tell lines (in_settings told) (in_settings (told ++ lines_text lines))
settings_tell told [] h short = ap in_settings (sym (append-nil told))
settings_tell told (line ∷ lines) h short =
    let fit = and_parts (is_setting line) (list_all is_setting lines) h in
    let few = and_parts (is_short line) (list_all is_short lines) short in
    let own = setting_parts line fit.0 in
    let next = told ++ line ++ codes "\n" in
    let more = settings_tell next lines fit.1 few.1 in
    let P : List ℕ → Type 0 = λ all. Tell lines (in_settings next) (in_settings all) in
    let one : after_setting line (record { settings = None; events = [] }) told ≡ Some (in_settings next) = rw (own.0, own.1) refl in
    (in_settings next, short_line line (in_settings told) few.0 ∙ one, subst P (regroup told line (codes "\n") (lines_text lines)) more)

begun_tell : (settings : Option (List (List ℕ))) → are_settings settings ≡ true → list_all is_short (settings_lines settings) ≡ true
    → Tell (settings_lines settings) no_progress (outside (option_map lines_text settings) [])
begun_tell None h short = refl
begun_tell (Some lines) h short =
    let parts = and_parts (list_all is_short lines) true (sym (list_all-append is_short lines (codes "end" ∷ [])) ∙ short) in
    let told = lines_text lines in
    Tell-append (codes "config" ∷ lines) (codes "end" ∷ []) no_progress (in_settings told) (outside (Some told) [])
    (in_settings [], short_line (codes "config") no_progress refl, settings_tell [] lines h parts.0)
    (tells (codes "end") (in_settings told) (outside (Some told) []) refl refl)

-- Sessions.

not_last : (lines : List (List ℕ)) → is_last (lines ++ [] ∷ []) ≡ false
not_last [] = refl
not_last (line ∷ lines) = refl

-- lines, and nothing behind the last line feed
all_told : (lines : List (List ℕ)) (n : ℕ) (p : Progress) (s : Option (List ℕ)) (events : List Told) → Tell lines p (outside s events)
    → read_from (lines ++ [] ∷ []) n true p ≡ Ok (record { settings = s; events = events })
all_told [] n p s events h = rw h refl
all_told (line ∷ lines) n p s events h = rw (not_last lines, h.1) (all_told lines (n + 1) h.0 s events h.2)

no_line_feed_in_request : (q : ℕ × Request) → is_asked q ≡ true → has_none is_line_feed (request_line q) ≡ true
no_line_feed_in_request q h =
    let parts = and_parts (list_all is_number (request_numbers q.0 q.1)) (list_all is_sent (request_entries q.1)) h in
    has_none-append is_line_feed (request_word q.1 ++ spaced_all (request_numbers q.0 q.1)) (flat_map sent_text (request_entries q.1))
    (has_none-append is_line_feed (request_word q.1) (spaced_all (request_numbers q.0 q.1)) (plain_word q.1) (no_line_feed_in_numbers (request_numbers q.0 q.1) parts.0))
    (no_line_feed_in_sent (request_entries q.1) parts.1)

no_line_feed_in_requests : (qs : List (ℕ × Request)) → list_all is_asked qs ≡ true → list_all (has_none is_line_feed) (map request_line qs) ≡ true
no_line_feed_in_requests [] h = refl
no_line_feed_in_requests (q ∷ qs) h =
    let parts = and_parts (is_asked q) (list_all is_asked qs) h in
    rw (no_line_feed_in_request q parts.0, no_line_feed_in_requests qs parts.1) refl

no_line_feed_in_left : (l : Left) → is_left l ≡ true → has_none is_line_feed (left_text l) ≡ true
no_line_feed_in_left Last h = refl
no_line_feed_in_left AllLeft h = refl
no_line_feed_in_left (First p b) h =
    let parts = and_parts (is_number p) (is_number b) h in
    let all : list_all is_number (p ∷ b ∷ []) ≡ true = rw (parts.0, parts.1) refl in
    has_none-append is_line_feed (codes " first") (spaced_all (p ∷ b ∷ [])) refl (no_line_feed_in_numbers (p ∷ b ∷ []) all)

no_line_feed_in_count : (word : List ℕ) (n : ℕ) → has_none is_line_feed word ≡ true → is_count n ≡ true → has_none is_line_feed (word ++ spaced_all (n ∷ [])) ≡ true
no_line_feed_in_count word n h k = has_none-append is_line_feed word (spaced_all (n ∷ [])) h (no_line_feed_in_numbers (n ∷ []) (count_is_number n k))

-- one line without a line feed
one_line : (line : List ℕ) → has_none is_line_feed line ≡ true → list_all (has_none is_line_feed) (line ∷ []) ≡ true
one_line line h = rw h refl

no_line_feed_alone : (e : Event) → is_told_alone e ≡ true → list_all (has_none is_line_feed) (alone_lines e) ≡ true
no_line_feed_alone (Open w) h = one_line (codes "open" ++ spaced_all (w ∷ [])) (no_line_feed_in_count (codes "open") w refl h)
no_line_feed_alone Close h = refl
no_line_feed_alone Maintain h = refl
no_line_feed_alone RewriteAppend h = refl
no_line_feed_alone RewriteRewrite h = refl
no_line_feed_alone (Crash l) h = one_line (codes "crash" ++ left_text l) (has_none-append is_line_feed (codes "crash") (left_text l) refl (no_line_feed_in_left l h))
no_line_feed_alone (CrashAt n l) h =
    let parts = and_parts (is_count n) (is_left l) h in
    one_line (codes "crash-at" ++ (spaced_all (n ∷ []) ++ left_text l)) (has_none-append is_line_feed (codes "crash-at") (spaced_all (n ∷ []) ++ left_text l) refl
    (has_none-append is_line_feed (spaced_all (n ∷ [])) (left_text l) (no_line_feed_in_numbers (n ∷ []) (count_is_number n parts.0)) (no_line_feed_in_left l parts.1)))
no_line_feed_alone (Refuse n) h = one_line (codes "refuse" ++ spaced_all (n ∷ [])) (no_line_feed_in_count (codes "refuse") n refl h)
no_line_feed_alone (Round qs) h =
    list_all-append (has_none is_line_feed) (codes "round" ∷ map request_line qs) (codes "end" ∷ []) ∙ rw (no_line_feed_in_requests qs h) refl
no_line_feed_alone (Fork target) h = refl

no_line_feed_in_event : (e : Told) → is_told e ≡ true → list_all (has_none is_line_feed) (event_lines e) ≡ true
no_line_feed_in_event (alone e) h = no_line_feed_alone e h
no_line_feed_in_event (copy name) h =
    let parts = and_parts (nat_lt 0 (length name) && is_utf8 name) (list_all is_within_word name) h in
    one_line (codes "fork " ++ name) (has_none-append is_line_feed (codes "fork ") name refl (within_words name parts.1).1)

no_line_feed_in_events : (events : List Told) → list_all is_told events ≡ true → list_all (has_none is_line_feed) (flat_map event_lines events) ≡ true
no_line_feed_in_events [] h = refl
no_line_feed_in_events (e ∷ events) h =
    let parts = and_parts (is_told e) (list_all is_told events) h in
    list_all-append (has_none is_line_feed) (event_lines e) (flat_map event_lines events) ∙ rw (no_line_feed_in_event e parts.0, no_line_feed_in_events events parts.1) refl

no_line_feed_in_settings : (lines : List (List ℕ)) → list_all is_setting lines ≡ true → list_all (has_none is_line_feed) lines ≡ true
no_line_feed_in_settings [] h = refl
no_line_feed_in_settings (line ∷ lines) h =
    let parts = and_parts (is_setting line) (list_all is_setting lines) h in
    rw ((setting_parts line parts.0).2, no_line_feed_in_settings lines parts.1) refl

no_line_feed_begun : (settings : Option (List (List ℕ))) → are_settings settings ≡ true → list_all (has_none is_line_feed) (settings_lines settings) ≡ true
no_line_feed_begun None h = refl
no_line_feed_begun (Some lines) h =
    list_all-append (has_none is_line_feed) (codes "config" ∷ lines) (codes "end" ∷ []) ∙ rw (no_line_feed_in_settings lines h) refl

-- a text of lines that end in a line feed is split into these
lines_split : (lines : List (List ℕ)) → list_all (has_none is_line_feed) lines ≡ true → slice_split is_line_feed (lines_text lines) ≡ lines ++ [] ∷ []
lines_split [] h = refl
lines_split (line ∷ lines) h =
    let parts = and_parts (has_none is_line_feed line) (list_all (has_none is_line_feed) lines) h in
    let text = lines_text lines in
    let none : All (λ b. is_line_feed b ≡ false) line = λ k d below. is_false _ (AllPass-from_list_all (λ b. not (is_line_feed b)) line parts.0 k d below) in
    ap (slice_split is_line_feed) (append_assoc line (codes "\n") text) ∙ slice_split_at is_line_feed line 10 text none refl
    ∙ ap (λ (pieces : List (List ℕ)). line ∷ pieces) (lines_split lines parts.1)

pub sessions_are_read_back : SessionsAreReadBack
unfolding session_of
sessions_are_read_back settings events can =
    let text = session_text settings events in
    let lines = session_lines settings events in
    let all : take 268435456 text ≡ text = take_all 268435456 text can.text_fits in
    let whole : nat_le (length text) 268435456 ≡ true = let fits = can.text_fits in grind (arith, nat_tests) in
    let plain : list_all (has_none is_line_feed) lines ≡ true =
    list_all-append (has_none is_line_feed) (settings_lines settings) (flat_map event_lines events)
    ∙ rw (no_line_feed_begun settings can.settings_fit, no_line_feed_in_events events can.events_fit) refl in
    let few = and_parts (list_all is_short (settings_lines settings)) (list_all is_short (flat_map event_lines events))
    (sym (list_all-append is_short (settings_lines settings) (flat_map event_lines events)) ∙ can.lines_fit) in
    let told = Tell-append (settings_lines settings) (flat_map event_lines events) no_progress (outside (option_map lines_text settings) []) (outside (option_map lines_text settings) events)
    (begun_tell settings can.settings_fit few.0) (events_tell (option_map lines_text settings) [] events can.events_fit few.1) in
    rw (all, whole, lines_split lines plain) (all_told lines 1 no_progress (option_map lines_text settings) events told)

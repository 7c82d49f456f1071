use Rattle.std.proofs.Common.{◌≡◌, ◌++◌, string_bytes, subst}
use Rattle.raft_voter_timeline.specs.Picture.{class_text, end_text, happened_text, line_text, outcome_text, top_of, top_text, use_text}
use Rattle.raft_voter_timeline.proofs.Gaining.{six_gained}
use Rattle.raft_voter_timeline.proofs.picture.push_line.Goals as goal

pub returns : goal.returns
unfolding line_text
returns c =
    let t0 = string_bytes c.args.text.now in
    let t1 = string_bytes c.push_class.new.text in
    let t2 = string_bytes c.push_top.new.text in
    let t3 = string_bytes c.push_use.new.text in
    let t4 = string_bytes c.push_happened.new.text in
    let t5 = string_bytes c.push_outcome.new.text in
    let t6 = string_bytes c.push_end.new.text in
    let mark = c.args.line.now.mark in
    let happened = string_bytes c.args.line.now.text in
    let outcome = string_bytes c.args.line.now.outcome in
    let p2 : t2 ≡ t1 ++ top_text (top_of c.args.number) = subst (λ n. t2 ≡ t1 ++ top_text n) c.top_of.ensures c.in_ok-push_top.ensures in
    let p4 : t4 ≡ t3 ++ happened_text happened = subst (λ words. t4 ≡ t3 ++ happened_text words) c.as_str.ensures.value c.in_ok-push_happened.ensures in
    let p5 : t5 ≡ t4 ++ outcome_text outcome = subst (λ words. t5 ≡ t4 ++ outcome_text words) c.as_str-2.ensures.value c.in_ok-push_outcome.ensures in
    six_gained t0 t1 t2 t3 t4 t5 t6 (class_text mark) (top_text (top_of c.args.number)) (use_text mark) (happened_text happened) (outcome_text outcome) end_text
    c.in_ok-push_class.ensures p2 c.in_ok-push_use.ensures p4 p5 c.in_ok-push_end.ensures

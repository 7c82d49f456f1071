-- A text that gains one part behind another gains all of them.
use Rattle.std.proofs.Common.{◌≡◌, ℕ, List, ◌++◌, append_assoc, ap, ◌∙◌}

pub two_gained : (old new more a b : List ℕ) → new ≡ old ++ a → more ≡ new ++ b → more ≡ old ++ (a ++ b)
two_gained old new more a b first second = second ∙ ap (λ text. text ++ b) first ∙ append_assoc old a b

pub six_gained : (t0 t1 t2 t3 t4 t5 t6 a b c d e f : List ℕ)
    → t1 ≡ t0 ++ a → t2 ≡ t1 ++ b → t3 ≡ t2 ++ c → t4 ≡ t3 ++ d → t5 ≡ t4 ++ e → t6 ≡ t5 ++ f
    → t6 ≡ t0 ++ (a ++ b ++ c ++ d ++ e ++ f)
six_gained t0 t1 t2 t3 t4 t5 t6 a b c d e f p1 p2 p3 p4 p5 p6 =
    let g2 = two_gained t0 t1 t2 a b p1 p2 in
    let g3 = two_gained t0 t2 t3 (a ++ b) c g2 p3 in
    let g4 = two_gained t0 t3 t4 (a ++ b ++ c) d g3 p4 in
    let g5 = two_gained t0 t4 t5 (a ++ b ++ c ++ d) e g4 p5 in
    two_gained t0 t5 t6 (a ++ b ++ c ++ d ++ e) f g5 p6

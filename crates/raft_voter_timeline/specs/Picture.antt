-- The picture as SVG: a head with a heading, then an SVG group (`<g>`) for each line.
use Rattle.std.specs.Prelude.{◌≡◌, ℕ, ◌+◌, ◌*◌, List, [], ◌∷◌, ◌++◌, chars, codes, flat_map, string_bytes}
use Rattle.std.specs.Fmt.{decimal}
use Rattle.raft_voter_timeline.specs.declared.line.Line.{Line}
use Rattle.raft_voter_timeline.specs.declared.line.Mark.{Mark}
use Rattle.raft_voter_timeline.specs.Escape.{escaped}
use Rattle.raft_voter_timeline.specs.Marks.{mark_name}

-- how far below the top of the picture the line with this number is; the first line has number 0
abbrev pub top_of : ℕ → ℕ
top_of number = 122 + 22 * number

-- the beginning of a line's SVG group, with the name of the line's mark
unfoldable pub class_text : Mark → List ℕ
class_text mark = codes "<g class='" ++ mark_name mark

-- the attribute with the line's distance from the top
unfoldable pub top_text : ℕ → List ℕ
top_text top = codes "' transform='translate(0 " ++ decimal top

-- what is drawn in a line: a reference to the shape that the head defines under the mark's name
unfoldable pub use_text : Mark → List ℕ
use_text mark = codes ")'><use href='#" ++ mark_name mark

-- the line's text on what happened, escaped
unfoldable pub happened_text : List ℕ → List ℕ
happened_text words = codes "'/><text x='84'>" ++ flat_map escaped (chars words)

-- the line's text on the result, escaped
unfoldable pub outcome_text : List ℕ → List ℕ
outcome_text words = codes "</text><text x='600'>" ++ flat_map escaped (chars words)

-- the end of a line's SVG group
unfoldable pub end_text : List ℕ
end_text = codes "</text></g>\n"

-- the line with this number: its mark, its position and its two texts
unfoldable pub line_text : ℕ → Line → List ℕ
line_text number line =
    class_text line.mark ++ top_text (top_of number) ++ use_text line.mark
    ++ happened_text (string_bytes line.text) ++ outcome_text (string_bytes line.outcome) ++ end_text

-- these lines, one below another, numbered from `number` on
abbrev pub lines_text : ℕ → List Line → List ℕ
lines_text number [] = []
lines_text number (line ∷ lines) = line_text number line ++ lines_text (number + 1) lines

-- the heading's text, escaped
unfoldable pub heading_text : List ℕ → List ℕ
heading_text words =
    codes "<text class=\"heading\" x=\"16\" y=\"30\">" ++ flat_map escaped (chars words) ++ codes "</text>\n"

-- a picture's head shows this heading; something is before it, and something after it
abbrev pub ShowsHeading : List ℕ → List ℕ → Type 0
ShowsHeading words head = (before after : List ℕ) × (head ≡ before ++ heading_text words ++ after)

-- the picture is a head with this heading, then exactly these lines, then the end of the SVG
abbrev pub ShowsLines : List ℕ → List Line → List ℕ → Type 0
ShowsLines heading lines picture = (head : List ℕ) × ShowsHeading heading head
    × (picture ≡ head ++ lines_text 0 lines ++ codes "</svg>\n")

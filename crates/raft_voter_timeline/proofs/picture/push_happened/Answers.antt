use Rattle.std.proofs.Common.{◌≡◌, ◌++◌, chars, codes, flat_map, string_bytes}
use Rattle.raft_voter_timeline.specs.Escape.{escaped}
use Rattle.raft_voter_timeline.specs.Picture.{happened_text}
use Rattle.raft_voter_timeline.proofs.Gaining.{two_gained}
use Rattle.raft_voter_timeline.proofs.picture.push_happened.Goals as goal

pub returns : goal.returns
unfolding happened_text
returns c =
    let first : string_bytes c.push_str.new.self ≡ string_bytes c.args.text.now ++ codes "'/><text x='84'>" = c.in_ok-push_str.ensures.bytes in
    two_gained (string_bytes c.args.text.now) (string_bytes c.push_str.new.self) (string_bytes c.push_escaped.new.text) (codes "'/><text x='84'>") (flat_map escaped (chars c.args.words.now)) first
    c.in_ok-push_escaped.ensures

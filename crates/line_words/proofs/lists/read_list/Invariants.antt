use Rattle.std.proofs.Common.{◌≡◌, ◌==◌, true, length}
use Rattle.std.specs.List.{slice_split}
use Rattle.line_words.specs.Forms.{are_distinct, list_of}
use Rattle.line_words.proofs.ListFacts.{list_from}
use Rattle.line_words.proofs.lists.read_list.Given as goal

abbrev pub invariant-parts : goal.invariant-parts
invariant-parts g l =
    let T = g.T.Listed in
    record {
      left : list_from T.alike T.read_of l.found (slice_split (λ b. b == 44) l.rest) ≡ list_of T.alike T.read_of l.text;
      count : length l.found ≡ l.counter;
      distinct : are_distinct T.alike l.found ≡ true;
    }

-- The number of the letters from the place on.
use Rattle.std.proofs.Common.{◌≡◌, ◌+◌, ◌-◌, ◌*◌, ◌^◌, ◌<◌, ◌≤◌, drop, length, true}
use Rattle.std.specs.List.{list_all}
use Rattle.gq_desk.specs.Names.{is_letter}
use Rattle.gq_desk.specs.NameNumbers.{word_number}
use Rattle.gq_desk.proofs.names.word_number.Given as goal

abbrev pub invariant-letters : goal.invariant-letters
invariant-letters l = record {
  within : l.place ≤ length l.word;
  number : l.number ≡ word_number (drop l.place l.word);
  letters : list_all is_letter (drop l.place l.word) ≡ true;
}

abbrev pub decreases-letters : goal.decreases-letters
decreases-letters l = l.place

-- Worked cases, computed: so the laws speak of runs in which something is told, of sweeps in which something is forgotten, of contents that
-- are replaced, and of pages that split.
use Rattle.std.specs.Prelude.{◌≡◌, ℕ, List, [], ◌∷◌, ◌++◌, Bool, true, false, ◌==◌, Some, None}
use Rattle.std.specs.List.{list_any}
use Rattle.gq_tag.specs.declared.Tag.{Tag}
use Rattle.gq_tag.specs.Tag.{first_copy}
use Rattle.gq_laws.specs.declared.ops.Kind.TheVariants.{Write as Writes, Read as Reads}
use Rattle.gq_tag.specs.declared.StoredCopy.{StoredCopy}
use Rattle.gq_names.specs.Names.{Setting, World, Step, Enters, PageLate, Begins, Tidies, Sees, Chooses, ClientWrites, Asks, Finds, Tells, new_page, shown, world_after, operations_of}
use Rattle.gq_names.specs.Contents.{Contents, Deed, Does, Keeps, Forgets, AllMay, new_state, state_after}
use Rattle.gq_names.specs.Sweeping.{Turn, AreTurns, IsRound, after_turns}
use Rattle.gq_names.specs.SplitContents.{SplitDeed, SplitState, DoesStep, KeepsContent, ForgetsContent, AllSplitMay, first_state, split_state_after}
use Rattle.gq_names.specs.Splitting.{Levels, SplitWorld, SplitStep, StartsAnew, EntersLevel, LevelJournalLate, LevelPageLate, Puts, SeesLevel, ChoosesLine, HandWrites, Signs, Clears, ClearingWrites, AsksFor, FindsLevel, TellsOf, counts, shows_signpost, split_world_after, split_operations_of}

-- two sessions; the name 7 is watched
abbrev pub two : Setting
two = record { sessions = 2; name = 7 }

abbrev pub no_one : ℕ → Bool
no_one = λ n. false

abbrev pub all_of_them : ℕ → Bool
all_of_them = λ n. true

abbrev pub steps_worked : List Step
steps_worked =
    -- session 0 puts 65 under the name, and announces it; it writes its page, gets no answer, and dies
    Begins 0 7 (65 ∷ []) ∷ Sees 0 1 ∷ Chooses 0 0 no_one no_one ∷ ClientWrites 0 true ∷ ClientWrites 0 false ∷ Enters 0
    -- somebody begins to get the name and looks at page 0; the page takes effect late; he looks at page 1, and tells that nothing is there
    ∷ Asks 4 ∷ Finds 4 0 ∷ PageLate 0 0 ∷ Finds 4 1 ∷ Tells 4
    -- another one finds 65
    ∷ Asks 5 ∷ Finds 5 0 ∷ Finds 5 1 ∷ Tells 5
    -- session 1 takes the name away
    ∷ Begins 1 7 [] ∷ Sees 1 0 ∷ Chooses 1 0 no_one no_one ∷ ClientWrites 1 true ∷ ClientWrites 1 true
    -- session 0 puts another name: it sees a greater line of the name 7, so its own goes
    ∷ Begins 0 8 (66 ∷ []) ∷ Sees 0 1 ∷ Chooses 0 0 all_of_them all_of_them ∷ ClientWrites 0 true ∷ ClientWrites 0 true
    -- somebody gets the name: nothing is there
    ∷ Asks 5 ∷ Finds 5 1 ∷ Finds 5 0 ∷ Tells 5
    -- session 1 changes its page: that of session 0 was made beside one that had the removal, and shows nothing of the name. So the removal is forgotten
    ∷ Begins 1 9 [] ∷ Sees 1 0 ∷ Chooses 1 0 all_of_them all_of_them ∷ ClientWrites 1 true ∷ ClientWrites 1 true
    -- somebody gets the name: nothing is there. Session 0 puts 67 under it
    ∷ Asks 6 ∷ Finds 6 0 ∷ Finds 6 1 ∷ Tells 6
    ∷ Begins 0 7 (67 ∷ []) ∷ Sees 0 1 ∷ Chooses 0 0 no_one no_one ∷ ClientWrites 0 true ∷ ClientWrites 0 false ∷ []

abbrev pub world_worked : World
world_worked = world_after two steps_worked

abbrev pub version : (number session : ℕ) → Tag
version number session = record { number = number; session = session }

pub record IsWorked : Type 0 where
  -- the put has not ended, and its version is known, since a get told it; the first get tells nothing, with the version of a name never written
  pub told : operations_of world_worked ≡
      record { kind = Writes (65 ∷ []); session = 0; op = 0; begin = 0; end = None; tag = Some (version 1 0) }
      ∷ record { kind = Reads (Some []); session = 4; op = 1; begin = 6; end = Some 10; tag = Some (version 0 0) }
      ∷ record { kind = Reads (Some (65 ∷ [])); session = 5; op = 2; begin = 11; end = Some 14; tag = Some (version 1 0) }
      ∷ record { kind = Writes []; session = 1; op = 3; begin = 15; end = Some 19; tag = Some (version 2 1) }
      ∷ record { kind = Reads (Some []); session = 5; op = 4; begin = 25; end = Some 28; tag = Some (version 2 1) }
      ∷ record { kind = Reads (Some []); session = 6; op = 5; begin = 34; end = Some 37; tag = Some (version 2 1) }
      ∷ record { kind = Writes (67 ∷ []); session = 0; op = 6; begin = 38; end = None; tag = Some (version 5 0) }
      ∷ []
  -- the line that went is seen no more, and its page asks for the other one
  pub gone : shown (world_worked.session 0).page 7 ≡ first_copy
  pub asks : (world_worked.session 0).page.after 1 ≡ 2
  -- nor is the removal, which was forgotten, and its page asks for that of session 0 as it was then
  pub forgotten : shown (world_worked.session 1).page 7 ≡ first_copy
  pub minds : (world_worked.session 1).page.after 0 ≡ 3

-- ---- a sweep

abbrev pub steps_removed : List Step
steps_removed =
    -- session 0 puts 65 under the name, and session 1 takes it away
    Begins 0 7 (65 ∷ []) ∷ Sees 0 1 ∷ Chooses 0 0 no_one no_one ∷ ClientWrites 0 true ∷ ClientWrites 0 true
    ∷ Begins 1 7 [] ∷ Sees 1 0 ∷ Chooses 1 0 no_one no_one ∷ ClientWrites 1 true ∷ ClientWrites 1 true ∷ []

abbrev pub removal : StoredCopy
removal = record { tag = version 2 1; bytes = [] }

-- a client of the session looks at the other page, and changes nothing
abbrev pub looks_alone : (s t : ℕ) → Turn
looks_alone s t = record { session = s; before = Enters s ∷ []; looking = Tidies s ∷ Sees s t ∷ []; choice = None }

-- with its change goes its line of the name 7, and it asks for the other page. Amid it somebody looks at the page that will be changed
abbrev pub tidies_seven : (s t : ℕ) → Turn
tidies_seven s t = record {
  session = s;
  before = Enters s ∷ Asks 4 ∷ [];
  looking = Tidies s ∷ Sees s t ∷ Finds 4 s ∷ [];
  choice = Some (record { more = 0; goes = λ name. name == 7; asks = λ i. i == t; announcing = Finds 4 t ∷ []; carrying = Tells 4 ∷ [] });
}

-- session 1 has nothing to do as long as page 0 shows the older line, which goes then. So the removal can go
abbrev pub first_round : List Turn
first_round = looks_alone 1 0 ∷ tidies_seven 0 1 ∷ []

abbrev pub second_round : List Turn
second_round = tidies_seven 1 0 ∷ looks_alone 0 1 ∷ []

pub record IsSweepWorked : Type 0 where
  pub first : IsRound two first_round
  pub second : IsRound two second_round
  pub turns : AreTurns two (world_after two steps_removed) (first_round ++ second_round)
  -- what page 1 shows of the name before it, after one round, and after both
  pub before : shown ((world_after two steps_removed).session 1).page 7 ≡ removal
  pub between : shown ((after_turns two (world_after two steps_removed) first_round).session 1).page 7 ≡ removal
  pub after : shown ((after_turns two (world_after two steps_removed) (first_round ++ second_round)).session 1).page 7 ≡ first_copy
  -- and page 0
  pub older : shown ((world_after two steps_removed).session 0).page 7 ≡ record { tag = version 1 0; bytes = 65 ∷ [] }
  pub gone : shown ((after_turns two (world_after two steps_removed) first_round).session 0).page 7 ≡ first_copy

-- ---- contents that are replaced

-- a byte is the number of a content, and session 0 puts all
abbrev pub by_number : Contents
by_number = record { names = λ bytes content. list_any (λ b. b == content) bytes; owner = λ content. 0; nothing = λ content i. false }

-- session 0 puts a content under the name, and carries it
abbrev pub puts : (content : ℕ) → List Deed
puts content = Keeps content ∷ Does (Begins 0 7 (content ∷ [])) ∷ Does (Sees 0 1) ∷ Does (Chooses 0 0 no_one no_one) ∷ Does (ClientWrites 0 true) ∷ Does (ClientWrites 0 true) ∷ []

-- a content is put and replaced by another one; then it is forgotten, and somebody gets the other one
abbrev pub deeds_worked : List Deed
deeds_worked = puts 65 ++ (puts 66 ++ Forgets 65 ∷ Does (Asks 5) ∷ Does (Finds 5 0) ∷ Does (Finds 5 1) ∷ Does (Tells 5) ∷ [])

pub record AreContentsWorked : Type 0 where
  -- all keep the rules
  pub may : AllMay two by_number new_state deeds_worked
  pub told : ((state_after two new_state deeds_worked).world.op 2).kind ≡ Reads (Some (66 ∷ []))
  pub forgotten : (state_after two new_state deeds_worked).forgotten 65 ≡ true

-- ---- a page that splits twice

abbrev pub seven_alone : Levels
seven_alone = λ level n. n == 7

abbrev pub steps_split : List SplitStep
steps_split =
    -- session 0 puts 65 under the name
    EntersLevel 0 ∷ Puts 0 7 (65 ∷ []) ∷ SeesLevel 0 1 0 0 ∷ ChoosesLine 0 0 no_one no_one ∷ HandWrites 0 true ∷ HandWrites 0 true
    -- it is to split its page, gets no answer, and dies; its journal takes effect late. The next client writes it once more, and then the page, of which it
    -- gets no answer either
    ∷ Signs 0 ∷ HandWrites 0 false ∷ StartsAnew 0 ∷ LevelJournalLate 0 0 0 ∷ EntersLevel 0 ∷ Signs 0 ∷ HandWrites 0 true ∷ HandWrites 0 false ∷ LevelPageLate 0 0 0
    -- one more sees the signpost there, and goes on to level 1
    ∷ StartsAnew 0 ∷ EntersLevel 0 ∷ Signs 0 ∷ EntersLevel 0
    -- two look at the old page. One finds no new page, and tells 65
    ∷ AsksFor 4 ∷ FindsLevel 4 0 0 0 ∷ AsksFor 5 ∷ FindsLevel 5 0 0 0 ∷ FindsLevel 5 0 1 0 ∷ FindsLevel 5 1 0 0 ∷ TellsOf 5
    -- session 0 puts 66: its page of level 1 begins with the old line. It takes that out of the old page
    ∷ Puts 0 7 (66 ∷ []) ∷ SeesLevel 0 1 0 0 ∷ ChoosesLine 0 0 no_one no_one ∷ HandWrites 0 true ∷ HandWrites 0 true ∷ Clears 0 0 all_of_them ∷ ClearingWrites 0 0 true ∷ ClearingWrites 0 0 true
    -- it splits that page too, gets no answer when it writes it, and dies; the page takes effect late. The next client comes to level 2, step by step
    ∷ Signs 0 ∷ HandWrites 0 true ∷ HandWrites 0 false ∷ StartsAnew 0 ∷ LevelPageLate 0 1 0 ∷ EntersLevel 0 ∷ Signs 0 ∷ EntersLevel 0 ∷ Signs 0 ∷ EntersLevel 0
    -- the other one, who has seen the first signpost alone, finds the second one, and no page of level 2. So he tells 66
    ∷ FindsLevel 4 0 1 0 ∷ FindsLevel 4 0 2 0 ∷ FindsLevel 4 1 0 0 ∷ TellsOf 4
    -- session 0 puts 67 at level 2. As long as its page is pending somebody finds 66, and once that took effect another one finds 67
    ∷ Puts 0 7 (67 ∷ []) ∷ SeesLevel 0 1 0 0 ∷ ChoosesLine 0 0 no_one no_one ∷ HandWrites 0 true ∷ HandWrites 0 false ∷ AsksFor 5 ∷ FindsLevel 5 0 2 0 ∷ LevelPageLate 0 2 0 ∷ FindsLevel 5 1 0 0 ∷ TellsOf 5 ∷ AsksFor 6 ∷ FindsLevel 6 0 2 0 ∷ FindsLevel 6 1 0 0 ∷ TellsOf 6
    -- it takes its lines out of the page of level 1
    ∷ Clears 0 1 all_of_them ∷ ClearingWrites 0 1 true ∷ ClearingWrites 0 1 true
    -- session 1, whose page has not split, takes the name away; and somebody finds nothing
    ∷ EntersLevel 1 ∷ Puts 1 7 [] ∷ SeesLevel 1 0 2 0 ∷ ChoosesLine 1 0 no_one no_one ∷ HandWrites 1 true ∷ HandWrites 1 true ∷ AsksFor 5 ∷ FindsLevel 5 0 2 0 ∷ FindsLevel 5 1 0 0 ∷ TellsOf 5 ∷ []

abbrev pub world_split : SplitWorld
world_split = split_world_after two seven_alone steps_split

pub record IsSplitWorked : Type 0 where
  -- the last put has not ended, and its version is known, since a get told it
  pub told : split_operations_of world_split ≡
      record { kind = Writes (65 ∷ []); session = 0; op = 0; begin = 1; end = Some 5; tag = Some (version 1 0) }
      ∷ record { kind = Reads (Some (66 ∷ [])); session = 4; op = 1; begin = 19; end = Some 47; tag = Some (version 2 0) }
      ∷ record { kind = Reads (Some (65 ∷ [])); session = 5; op = 2; begin = 21; end = Some 25; tag = Some (version 1 0) }
      ∷ record { kind = Writes (66 ∷ []); session = 0; op = 3; begin = 26; end = Some 30; tag = Some (version 2 0) }
      ∷ record { kind = Writes (67 ∷ []); session = 0; op = 4; begin = 48; end = None; tag = Some (version 3 0) }
      ∷ record { kind = Reads (Some (66 ∷ [])); session = 5; op = 5; begin = 53; end = Some 57; tag = Some (version 2 0) }
      ∷ record { kind = Reads (Some (67 ∷ [])); session = 6; op = 6; begin = 58; end = Some 61; tag = Some (version 3 0) }
      ∷ record { kind = Writes []; session = 1; op = 7; begin = 66; end = Some 70; tag = Some (version 4 1) }
      ∷ record { kind = Reads (Some []); session = 5; op = 8; begin = 71; end = Some 74; tag = Some (version 4 1) }
      ∷ []
  -- both old pages have the signpost, and no line of the name any more
  pub signed : shows_signpost ((world_split.session 0).level 0).page ≡ true
  pub signed_again : shows_signpost ((world_split.session 0).level 1).page ≡ true
  pub cleared : (counts (seven_alone 0) ((world_split.session 0).level 0).page new_page).line 7 ≡ first_copy
  pub cleared_again : (counts (seven_alone 1) ((world_split.session 0).level 1).page new_page).line 7 ≡ first_copy

-- session 0 puts a content under the name, at the level that it has come to
abbrev pub puts_split : (content : ℕ) → List SplitDeed
puts_split content = KeepsContent content ∷ DoesStep (Puts 0 7 (content ∷ [])) ∷ DoesStep (SeesLevel 0 1 0 0) ∷ DoesStep (ChoosesLine 0 0 no_one no_one) ∷ DoesStep (HandWrites 0 true) ∷ DoesStep (HandWrites 0 true) ∷ []

-- it splits its page there, and comes to the next level
abbrev pub goes_on_split : List SplitDeed
goes_on_split = DoesStep (Signs 0) ∷ DoesStep (HandWrites 0 true) ∷ DoesStep (HandWrites 0 true) ∷ DoesStep (Signs 0) ∷ DoesStep (EntersLevel 0) ∷ []

-- It puts a content, splits its page twice, and puts another one at level 2. Then the first one is forgotten, though both old pages still show it; and somebody
-- gets the other one
abbrev pub deeds_split : List SplitDeed
deeds_split =
    DoesStep (EntersLevel 0) ∷ (puts_split 65 ++ (goes_on_split ++ (goes_on_split ++ (puts_split 66
    ++ ForgetsContent 65 ∷ DoesStep (AsksFor 5) ∷ DoesStep (FindsLevel 5 0 0 0) ∷ DoesStep (FindsLevel 5 0 1 0) ∷ DoesStep (FindsLevel 5 0 2 0) ∷ DoesStep (FindsLevel 5 1 0 0) ∷ DoesStep (TellsOf 5) ∷ []))))

abbrev pub state_split : SplitState
state_split = split_state_after two seven_alone first_state deeds_split

pub record AreSplitContentsWorked : Type 0 where
  -- all keep the rules
  pub may : AllSplitMay two by_number seven_alone first_state deeds_split
  pub told : (state_split.world.op 2).kind ≡ Reads (Some (66 ∷ []))
  pub forgotten : state_split.forgotten 65 ≡ true
  pub shows : (shown (counts (seven_alone 0) ((state_split.world.session 0).level 0).page new_page) 7).bytes ≡ 65 ∷ []
  pub shows_too : (shown (counts (seven_alone 1) ((state_split.world.session 0).level 1).page new_page) 7).bytes ≡ 65 ∷ []

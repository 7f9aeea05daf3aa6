-- The values that the words of the reference's command line give.
use Rattle.std.specs.Prelude.{◌≡◌, ℕ, List, codes}
use Rattle.clap.specs.Walk.{Row, Text}
use Rattle.gq_words.specs.Given.{IsNumberGiven, text_given}
use Rattle.gq_script_words.specs.declared.words.Request.{Request}
use Rattle.gq_script_words.specs.declared.words.Request.TheVariants.{Run, Step, Order, History, Picture, Finish, Live}

-- the name, the volume and the file are those that are given
abbrev pub HasFile : List Row → Text → ℕ → ℕ → Type 0
HasFile rows name volume file =
    (name ≡ text_given rows (codes "NAME")) × IsNumberGiven rows (codes "VOLUME") 0 volume × IsNumberGiven rows (codes "FILE") 0 file

-- what is asked for has the values that are given
abbrev pub HasValues : List Row → Request → Type 0
HasValues rows (Run jobs) = IsNumberGiven rows (codes "JOBS") 1 jobs
HasValues rows Step = Unit {0}
HasValues rows (Order name volume file) = HasFile rows name.now volume file
HasValues rows (History name volume file) = HasFile rows name.now volume file
HasValues rows (Picture name volume file) = HasFile rows name.now volume file
HasValues rows (Finish name session) = (name.now ≡ text_given rows (codes "NAME")) × IsNumberGiven rows (codes "SESSION") 0 session
HasValues rows Live = Unit {0}

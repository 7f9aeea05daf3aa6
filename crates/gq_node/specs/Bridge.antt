-- What a node does by a line, a letter or a tick is, in the tenant's part, an act of the law of clusters or nothing.
use Rattle.std.specs.Prelude.{◌≡◌, ℕ, List, [], Bool, not, ◌==◌, true, false, ◌&&◌, Option, Some, None, is_some, if◌then◌else◌}
use Rattle.gq_tag.specs.Tag.{OwnMessage, to_server, is_less}
use Rattle.gq_phase.specs.Phase.{is_collect}
use Rattle.gq_model.specs.declared.events.Line.{Line}
use Rattle.gq_model.specs.declared.events.Line.TheVariants.{Retry}
use Rattle.gq_model.specs.Told.{Told}
use Rattle.gq_model.specs.Trace.{operation, limit_at}
use Rattle.gq_cluster.specs.Cluster.{Setting, Act, Asks, Comes, everyone, step_of, part_after, session_named}
use Rattle.gq_node.specs.declared.output.Answer.{Answer}
use Rattle.gq_node.specs.declared.output.Answer.TheVariants.{Has, Bad as IsBad}
use Rattle.gq_node.specs.declared.output.Admission.{Admission}
use Rattle.gq_node.specs.declared.output.Admission.TheVariants.{Tells, Passes, Goes}
use Rattle.gq_node.specs.Local.{Local, Doing, part_in, state_of, state_for, aim_at, aim_behind, tries_next, answer_of, asker, begins, admission_in, asks, holding, tells_holding, receives, ticks, letter_fits, has_above, of_round}
use Rattle.gq_node.specs.Looked.{look_answer, tells_look}
use Rattle.gq_node.specs.declared.shorts.ShortBody.{ShortBody}
use Rattle.gq_node.specs.declared.shorts.ShortBody.TheVariants.{AskAbove, Tagged, Confirm, Want}
use Rattle.gq_node.specs.Shorts.{OwnShort, letter_with, copy_of, takes_tag, store_in, column_of}
use Rattle.gq_node.specs.Sites.{Site, has_session}

-- the tenant's run, as the law has it
abbrev pub setting_in : Site → Local → Setting
setting_in site local = record { grid = site.grid; row = site.row; home = site.home; volumes = local.volumes }

-- only sessions whose home is here have an operation
abbrev pub AtHome : Site → Local → Type 0
AtHome site local = (k : ℕ) → is_some (local.residents k).session.current ≡ true → (has_session site k ≡ true) × (site.home k ≡ site.here)

-- ---- the acts

-- a request is an act where its number lets it go: it begins an operation, gives it up, or is refused by the model
abbrev pub request_act : (op : ℕ) → Line → Site → Local → Option Act
request_act op line site local = by (asker line)
  where
    of_admission : ℕ → Admission → Option Act
    of_admission k (Tells answer) = None
    of_admission k Passes = None
    of_admission k Goes = Some (Asks line (aim_at site.grid (local.residents k)))

    by : Option ℕ → Option Act
    by None = None
    by (Some k) = of_admission k (admission_in site local k op (begins line))

-- else this is told
abbrev pub request_answer : (op : ℕ) → Line → Site → Local → Option Answer
request_answer op line site local = by (asker line)
  where
    of_admission : Admission → Option Answer
    of_admission (Tells answer) = Some answer
    of_admission Passes = None
    of_admission Goes = None

    by : Option ℕ → Option Answer
    by None = Some IsBad
    by (Some k) = of_admission (admission_in site local k op (begins line))

-- a letter is an act where it fits, and goes to the server, which has the file, or is heard by its session
abbrev pub letter_act : (from : ℕ) → OwnMessage → Site → Local → Option Act
letter_act from m site local = by (letter_fits site (limit_at (state_of everyone local) m.file.volume m.file.place) from m)
  where
    heard : Bool → Option Act
    heard false = None
    heard true = Some (Comes m (aim_behind site local m))

    to_its_end : Bool → Option Act
    to_its_end true = if local.lacks m.file then None else Some (Comes m everyone)
    to_its_end false = heard (has_above (local.residents m.session).session.floor && of_round (operation (state_for site local m.session) m.session) m.file)

    by : Bool → Option Act
    by false = None
    by true = to_its_end (to_server m.body)

-- a session hears the letter, unless no number is above its own last one, or the letter is of another file than the round
abbrev pub hear_act : Site → Local → OwnMessage → Option Act
hear_act site local m =
    if has_above (local.residents m.session).session.floor && of_round (operation (state_for site local m.session) m.session) m.file then Some (Comes m (aim_behind site local m)) else None

-- a store that goes out once more is a retry at the column of that server
abbrev pub again_act : Site → Local → OwnMessage → Option Act
again_act site local m = by (store_in (operation (state_for site local m.session) m.session) m)
  where
    by : Option OwnMessage → Option Act
    by None = None
    by (Some letter) = Some (Asks (Retry m.session) (column_of site.grid m.server))

-- a short letter is the act that the whole one is, whatever content its copy has, where it is not passed over; or such a retry
abbrev pub short_act : (from : ℕ) → OwnShort → List ℕ → Site → Local → Option Act
short_act from s bytes site local = by (letter_fits site (limit_at (state_of everyone local) s.file.volume s.file.place) from (letter_with [] s))
  where
    m : OwnMessage
    m = letter_with bytes s

    has : Bool → Option Act
    has true = Some (Comes m everyone)
    has false = if site.home m.session == site.here then again_act site local m else None

    of_body : ShortBody → Option Act
    of_body (AskAbove bound) = if local.lacks m.file then None else Some (Comes m everyone)
    of_body (Tagged tag) = if takes_tag (operation (state_for site local m.session) m.session) tag then hear_act site local m else None
    of_body (Confirm tag) = if local.lacks m.file then None else has (not (is_less (copy_of local m.file).tag tag))
    of_body Want = again_act site local m

    by : Bool → Option Act
    by false = None
    by true = of_body s.body

-- what the tenant is told where the law tells its session this: the tag of a copy alone comes to a session's operation
abbrev pub short_tell : ShortBody → (k op : ℕ) → Told → Option Answer
short_tell (Tagged tag) k op told = answer_of k op op told
short_tell _ k op told = None

-- a tick is a retry, in a session that has an operation and has waited
abbrev pub waited_act : Site → Local → ℕ → Bool → Option Act
waited_act site local k false = None
waited_act site local k true = Some (Asks (Retry k) (aim_at site.grid (tries_next site.grid (is_collect (local.residents k).session.round) (local.residents k))))

abbrev pub tick_act : ℕ → Site → Local → Option Act
tick_act k site local = by (is_some (local.residents k).session.current)
  where
    by : Bool → Option Act
    by false = None
    by true = waited_act site local k (local.residents k).waited

-- ---- what is done

-- nothing is changed in the part, and nothing is sent; this is told
pub record DoesNothing (local : Local) (answer : Option Answer) (doing : Doing) : Type 0 where
  pub part : part_in doing.local ≡ part_in local
  pub letters : doing.letters ≡ []
  pub told : doing.answer ≡ answer

-- a letter to a server comes to the node at its place, and all else to the home of its session
abbrev pub IsHere : Site → Act → Type 0
IsHere site (Asks line aim) = site.home (session_named line) ≡ site.here
IsHere site (Comes letter aim) = by (to_server letter.body)
  where
    by : Bool → Type 0
    by true = letter.server ≡ site.place
    by false = site.home letter.session ≡ site.here

-- the act is done here: the part is what it leaves, its messages are sent, and what is told is told of it
pub record DoesAct (site : Site) (local : Local) (tell : Told → Option Answer) (doing : Doing) (act : Act) : Type 0 where
  pub here : IsHere site act
  pub part : part_in doing.local ≡ part_after (setting_in site local) site.place (part_in local) act
  pub letters : doing.letters ≡ (step_of (setting_in site local) (part_in local) act).new
  pub told : doing.answer ≡ tell (step_of (setting_in site local) (part_in local) act).told

abbrev pub Does : Site → Local → Option Act → Option Answer → (Told → Option Answer) → Doing → Type 0
Does site local None answer tell doing = DoesNothing local answer doing
Does site local (Some act) answer tell doing = DoesAct site local tell doing act

pub record Bridges (site : Site) (local : Local) (act : Option Act) (answer : Option Answer) (tell : Told → Option Answer) (doing : Doing) : Type 0 where
  pub does : Does site local act answer tell doing
  pub volumes : doing.local.volumes ≡ local.volumes
  pub transfer : doing.transfer ≡ None
  pub home : AtHome site doing.local

-- each line, letter and tick is an act or nothing; that a tenant asks what it has is none
abbrev pub AllRequestsAct : Type 0
AllRequestsAct = (op : ℕ) (line : Line) (site : Site) (local : Local) → AtHome site local →
    Bridges site local (request_act op line site local) (request_answer op line site local) (answer_of (session_named line) op (local.residents (session_named line)).session.op) (asks op line site local)

abbrev pub AllQuestionsTell : Type 0
AllQuestionsTell = (site : Site) (local : Local) → AtHome site local → Bridges site local None (Some (Has (holding site local.volumes))) (λ told. None) (tells_holding site local)

-- nor is it one that it asks what the server has of a volume
abbrev pub AllLooksTell : Type 0
AllLooksTell = (mark volume : ℕ) (site : Site) (local : Local) → AtHome site local → Bridges site local None (Some (look_answer mark volume site local)) (λ told. None) (tells_look mark volume site local)

abbrev pub AllLettersAct : Type 0
AllLettersAct = (from : ℕ) (m : OwnMessage) (site : Site) (local : Local) → AtHome site local →
    Bridges site local (letter_act from m site local) None (answer_of m.session (local.residents m.session).session.op (local.residents m.session).session.op) (receives from m site local)

abbrev pub AllTicksAct : Type 0
AllTicksAct = (k : ℕ) (site : Site) (local : Local) → AtHome site local → Bridges site local (tick_act k site local) None (λ told. None) (ticks k site local)

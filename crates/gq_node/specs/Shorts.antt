-- Letters in short forms, with a tag in place of a copy: what a short letter stands for, and what a tenant's part does by one.
--
-- A short letter does not say the content of its copy. So a step is said for each content: nothing that is told, sent or kept depends on it.
--
-- An ask with a tag may go to a node that can't read it: what was heard of forms is in no table, and nothing that is written
-- for a tenant may hang on it. So each first ask of a round has a tag, and what a tick sends again goes whole.
use Rattle.std.specs.Prelude.{ℕ, ◌/◌, ◌%◌, List, [], ◌∷◌, Bool, true, false, ◌==◌, ◌&&◌, ◌||◌, not, Option, Some, None, is_some, option_map, if◌then◌else◌}
use Rattle.gq_grid.specs.Grid.{Grid, Servers, column_servers}
use Rattle.gq_tag.specs.declared.Tag.{Tag}
use Rattle.gq_tag.specs.declared.StoredCopy.{StoredCopy}
use Rattle.gq_tag.specs.declared.Body.{Body}
use Rattle.gq_tag.specs.declared.Body.TheVariants.{Ask, Copy, Store, Stored}
use Rattle.gq_tag.specs.Tag.{File, is_file, OwnMessage, file_place, file_of, is_less, equal_tags, first_tag, first_copy, latest, greatest}
use Rattle.gq_phase.specs.Best.{tag_in}
use Rattle.gq_phase.specs.Phase.{Task, Writing, Reading, Listing, Operation, is_collect, round_file, stored_copy, heard_servers, heard_copies}
use Rattle.gq_model.specs.Trace.{operation, limit_at}
use Rattle.gq_model.specs.Lone.{retry_step}
use Rattle.gq_cluster.specs.Cluster.{everyone}
use Rattle.gq_cluster.specs.Facts.{greatest_number}
use Rattle.gq_node.specs.declared.shorts.Short.{Short}
use Rattle.gq_node.specs.declared.shorts.ShortBody.{ShortBody}
use Rattle.gq_node.specs.declared.shorts.ShortBody.TheVariants.{AskAbove, Tagged, Confirm, Want}
use Rattle.gq_node.specs.Columns.{asks_to_confirm}
use Rattle.gq_node.specs.Local.{Local, Doing, silently, state_of, state_for, serves, hears, letter_fits}
use Rattle.gq_node.specs.Sites.{Site, has_session}

-- ---- short letters

-- a short letter of one tenant, which does not name the tenant
pub record OwnShort : Type 0 where
  pub session : ℕ
  pub op : ℕ
  pub round : ℕ
  pub server : ℕ
  pub file : File
  pub body : ShortBody

abbrev pub own_short : Short → OwnShort
own_short s = record { session = s.session; op = s.op; round = s.round; server = s.server; file = file_place s.file; body = s.body }

abbrev pub short_with : ℕ → OwnShort → Short
short_with tenant s = record { tenant = tenant; session = s.session; op = s.op; round = s.round; server = s.server; file = file_of tenant s.file; body = s.body }

-- what it stands for, where its copy has this content. That a server wants a store stands for none: it goes as a reply to one does
abbrev pub body_with : List ℕ → ShortBody → Body
body_with bytes (AskAbove tag) = Ask
body_with bytes (Tagged tag) = Copy (record { tag = tag; bytes = bytes })
body_with bytes (Confirm tag) = Store (record { tag = tag; bytes = bytes })
body_with bytes Want = Stored

abbrev pub letter_as : OwnShort → Body → OwnMessage
letter_as s body = record { session = s.session; op = s.op; round = s.round; server = s.server; file = s.file; body = body }

abbrev pub letter_with : List ℕ → OwnShort → OwnMessage
letter_with bytes s = letter_as s (body_with bytes s.body)

-- a short one with the head of the letter
abbrev pub short_as : OwnMessage → ShortBody → OwnShort
short_as m body = record { session = m.session; op = m.op; round = m.round; server = m.server; file = m.file; body = body }

-- ---- what is done by one

-- what the part does, as the law has it, where it is said to write the doing's letters; which letters go out whole, and whether one goes out in short form
pub record ShortDoing : Type 0 where
  pub doing : Doing
  pub whole : List OwnMessage
  pub short : Option OwnShort

-- all go out whole
abbrev pub wholly : Doing → ShortDoing
wholly doing = record { doing = doing; whole = doing.letters; short = None }

-- the server's copy of the file
abbrev pub copy_of : Local → File → StoredCopy
copy_of local file = greatest (first_copy ∷ local.brought file)

-- whether the tag goes in place of the copy: nothing above the bound is asked for, and a first copy goes whole
abbrev pub goes_short : (bound tag : Tag) → Bool
goes_short bound tag = not (is_less bound tag) && not (equal_tags tag first_tag)

-- an ask: the copy is told where its tag is above the bound, else its tag
abbrev pub asks_above : Tag → Site → Local → OwnMessage → ShortDoing
asks_above bound site local m = if local.lacks m.file then wholly (silently local) else by (goes_short bound (copy_of local m.file).tag)
  where
    by : Bool → ShortDoing
    by true = record { doing = serves site local m; whole = []; short = Some (short_as m (Tagged (copy_of local m.file).tag)) }
    by false = wholly (serves site local m)

-- whether a tag says as much as its copy to an operation that collects, where this is the greatest copy that it heard: to a write always, else where that has
-- this tag or a greater one
abbrev pub says_as_much : Task → Option StoredCopy → Tag → Bool
says_as_much (Writing file bytes) best tag = true
says_as_much (Reading file) None tag = false
says_as_much (Reading file) (Some best) tag = not (is_less best.tag tag)
says_as_much (Listing volume files) None tag = false
says_as_much (Listing volume files) (Some best) tag = not (is_less best.tag tag)

abbrev pub takes_tag : Option Operation → Tag → Bool
takes_tag None tag = false
takes_tag (Some o) tag = is_collect o.round && says_as_much o.task (latest (heard_copies o.heard)) tag

-- a tag comes to the session: it hears the copy, whatever its content is, or the tag is lost
abbrev pub hears_tag : Tag → Site → Local → OwnMessage → ShortDoing
hears_tag tag site local m = if takes_tag (operation (state_for site local m.session) m.session) tag then wholly (hears site local m) else wholly (silently local)

-- the store of the round of the letter, to its server, where the operation is in this round, and did not hear the server in it
abbrev pub is_of_store : Operation → OwnMessage → Bool
is_of_store o m = not (is_collect o.round) && ((m.op == o.op) && ((m.round == o.round) && is_file m.file (round_file o.task o.round)))

abbrev pub store_in : Option Operation → OwnMessage → Option OwnMessage
store_in None m = None
store_in (Some o) m = if heard_servers o.heard m.server then None else if is_of_store o m then Some (record m { body = Store (stored_copy o.collected) }) else None

-- the column of that server
abbrev pub column_of : Grid → ℕ → Servers
column_of grid server = column_servers grid (server % grid.cols)

-- It goes out whole once more: for the law a retry at the column of that server, of which all other letters are lost.
abbrev pub stores_again : Site → Local → OwnMessage → ShortDoing
stores_again site local m = by (store_in (operation (state_for site local m.session) m.session) m)
  where
    retry : List OwnMessage
    retry = (retry_step site.grid (state_of (column_of site.grid m.server) local) (operation (state_for site local m.session) m.session)).new

    by : Option OwnMessage → ShortDoing
    by None = wholly (silently local)
    by (Some letter) = record { doing = record (silently local) { letters = retry }; whole = letter ∷ []; short = None }

-- a store comes without its content: where the server has that tag or a greater one it does what it does by the store, whatever the content is; else it wants
-- the store whole, or has it from the session, where this node is its home
abbrev pub confirms : Tag → Site → Local → OwnMessage → ShortDoing
confirms tag site local m = if local.lacks m.file then wholly (silently local) else has (not (is_less (copy_of local m.file).tag tag))
  where
    has : Bool → ShortDoing
    has true = wholly (serves site local m)
    has false = if site.home m.session == site.here then stores_again site local m else record { doing = silently local; whole = []; short = Some (short_as m Want) }

-- a short letter that came from that node, where the copy that it stands for has this content
abbrev pub takes_short : (from : ℕ) → OwnShort → List ℕ → Site → Local → ShortDoing
takes_short from s bytes site local = by (letter_fits site (limit_at (state_of everyone local) s.file.volume s.file.place) from (letter_with [] s))
  where
    of_body : ShortBody → ShortDoing
    of_body (AskAbove bound) = asks_above bound site local (letter_with bytes s)
    of_body (Tagged tag) = hears_tag tag site local (letter_with bytes s)
    of_body (Confirm tag) = confirms tag site local (letter_with bytes s)
    of_body Want = stores_again site local (letter_with bytes s)

    by : Bool → ShortDoing
    by false = wholly (silently local)
    by true = of_body s.body

-- ---- which form a letter has

-- the greatest tag that there may be
abbrev pub any_tag : Tag
any_tag = record { number = greatest_number; session = 255 }

-- the tag, if it is not that of a first copy
abbrev pub above_first : Tag → Option Tag
above_first tag = if equal_tags tag first_tag then None else Some tag

-- the tag up to which an operation has no use for contents: a write has for none, a read or a listing for none that is not above the greatest that it heard
abbrev pub bound_by : Option Operation → Option Tag
bound_by None = None
bound_by (Some o) = by o.task
  where
    by : Task → Option Tag
    by (Writing file bytes) = Some any_tag
    by (Reading file) = tag_in (latest (heard_copies o.heard))
    by (Listing volume files) = tag_in (latest (heard_copies o.heard))

-- whether the node's own server is another one of the row of the letter's, and has a copy of the file
abbrev pub is_beside : Site → Local → OwnMessage → Bool
is_beside site local m =
    is_some (limit_at (state_of everyone local) m.file.volume m.file.place)
    && (not (local.lacks m.file) && (not (site.place == m.server) && site.place / site.grid.cols == m.server / site.grid.cols))

-- The tag up to which the sender of an ask has no use for contents: what its operation says, else that of the node's own server, where the round asks that too.
abbrev pub bound_from : Option Tag → (beside : Bool) → (own : Tag) → Option Tag
bound_from (Some tag) beside own = above_first tag
bound_from None beside own = if beside then above_first own else None

abbrev pub bound_for : Site → Local → OwnMessage → Option Tag
bound_for site local m = bound_from (bound_by (operation (state_for site local m.session) m.session)) (is_beside site local m) (copy_of local m.file).tag

-- An ask goes with that tag, a store without its content or whole. All else goes whole.
abbrev pub body_from : Body → Option Tag → (without : Bool) → Option ShortBody
body_from Ask bound without = option_map AskAbove bound
body_from (Store copy) bound without = if without then Some (Confirm copy.tag) else None
body_from _ bound without = None

-- whether a store goes without its content: to the node's own server, which has it from the session, and to others where these are asked to confirm it
abbrev pub goes_without : Site → Local → OwnMessage → Bool
goes_without site local m = (site.node_at m.server == site.here) || asks_to_confirm (local.residents m.session).stays (operation (state_for site local m.session) m.session)

abbrev pub short_body : Site → Local → OwnMessage → Option ShortBody
short_body site local m = body_from m.body (bound_for site local m) (goes_without site local m)

-- of a letter that the part writes
abbrev pub short_form : Site → Local → OwnMessage → Option OwnShort
short_form site local m = if has_session site m.session then option_map (short_as m) (short_body site local m) else None

-- What a node takes of its own within one line: the letters that a tenant's part writes to its own node, all but stores to a column of more servers.
--
-- A node is a session's home and a server at once. A letter from the one to the other goes by no line: the part takes it in the same step, behind
-- the letters that it wrote to its own node before. Those that a hop of letters gives are the next hop. After the most hops what is left goes by
-- lines, as letters to other nodes do; so one line is never more work than so many hops. Where a column has more servers than one, a store goes by a
-- line, also to the node itself: so it leaves with the stores to other nodes, and all of them sync it at the same time.
use Rattle.std.specs.Prelude.{ℕ, zero, suc, List, [], ◌∷◌, ◌++◌, Bool, true, false, ◌==◌, ◌&&◌, nat_lt, not, map, filter, Option, None, if◌then◌else◌}
use Rattle.std.specs.List.{flat_map}
use Rattle.gq_grid.specs.Grid.{Grid}
use Rattle.gq_tag.specs.declared.Body.{Body}
use Rattle.gq_tag.specs.declared.Body.TheVariants.{Store}
use Rattle.gq_tag.specs.Tag.{OwnMessage, to_server}
use Rattle.gq_node.specs.declared.shorts.ShortBody.{ShortBody}
use Rattle.gq_node.specs.declared.shorts.ShortBody.TheVariants.{Confirm, Want}
use Rattle.gq_node.specs.Inputs.{Input, Brought, Shortened, Ticked, does, after_one, after_all, doings}
use Rattle.gq_node.specs.Local.{Local, Doing}
use Rattle.gq_node.specs.Shorts.{OwnShort, takes_short}
use Rattle.gq_node.specs.Sites.{Site}
use Rattle.gq_parts.specs.declared.laws.TheConstants.{MOST_HOPS}

-- ---- the letters that are taken within

-- the node that the letter goes to
abbrev pub address_in : Site → OwnMessage → ℕ
address_in site m = if to_server m.body then site.node_at m.server else site.home m.session

abbrev pub is_store : Body → Bool
is_store (Store copy) = true
is_store _ = false

-- it is a store, which other servers of the column have to sync too
abbrev pub is_shared_store : Grid → Body → Bool
is_shared_store grid body = is_store body && nat_lt 1 grid.rows

-- whether it is taken within: it goes to the node that writes it, and is no such store
abbrev pub is_own : Site → OwnMessage → Bool
is_own site m = not (is_shared_store site.grid m.body) && address_in site m == site.here

-- Whether what the input gives goes out once more: a store that a server wants whole, and all that a tick sends again. That goes whole, so it is read by a
-- node of any program; and the node takes its own within.
abbrev pub is_once_more : ShortBody → Bool
is_once_more (Confirm tag) = true
is_once_more Want = true
is_once_more _ = false

abbrev pub gives_again : Input → Bool
gives_again (Shortened from short bytes) = is_once_more short.body
gives_again (Ticked session) = true
gives_again _ = false

-- the letters that go out, each whole or in its form; and the short letter that goes out in place of one
abbrev pub letters_by : Site → Local → Input → List OwnMessage
letters_by site local (Shortened from short bytes) = (takes_short from short bytes site local).whole
letters_by site local input = (does input site local).letters

abbrev pub reply_by : Site → Local → Input → Option OwnShort
reply_by site local (Shortened from short bytes) = (takes_short from short bytes site local).short
reply_by site local _ = None

-- of these those that are taken within, and the others
abbrev pub is_own_by : (again : Bool) → Site → OwnMessage → Bool
is_own_by true site m = address_in site m == site.here
is_own_by false site m = is_own site m

abbrev pub own_by : (again : Bool) → Site → List OwnMessage → List OwnMessage
own_by again site letters = filter (λ m. is_own_by again site m) letters

abbrev pub others_by : (again : Bool) → Site → List OwnMessage → List OwnMessage
others_by again site letters = filter (λ m. not (is_own_by again site m)) letters

-- those of the input that are taken within
abbrev pub first_own : Site → Local → Input → List OwnMessage
first_own site local input = own_by (gives_again input) site (letters_by site local input)

-- of letters that do not go out once more, those that are taken within
abbrev pub own_of : Site → List OwnMessage → List OwnMessage
own_of site letters = own_by false site letters

-- those taken within of all these doings, in the order in which they were written
abbrev pub own_letters : Site → List Doing → List OwnMessage
own_letters site ds = flat_map (λ doing. own_of site doing.letters) ds

-- as they come to it
abbrev pub brought : Site → List OwnMessage → List Input
brought site letters = map (λ m. Brought site.here m) letters

-- ---- hop by hop

-- the part takes these letters, then those that they give, and so on, for so many hops
unfoldable pub hops : (many : ℕ) → Site → Local → (letters : List OwnMessage) → List Input
hops zero site local letters = []
hops (suc n) site local letters =
    brought site letters ++ hops n site (after_all site local (brought site letters)) (own_letters site (doings site local (brought site letters)))

-- what is left behind so many hops
unfoldable pub left_behind : (many : ℕ) → Site → Local → (letters : List OwnMessage) → List OwnMessage
left_behind zero site local letters = letters
left_behind (suc n) site local letters = left_behind n site (after_all site local (brought site letters)) (own_letters site (doings site local (brought site letters)))

-- ---- by what comes from outside

-- it, and what is taken within behind it
unfoldable pub within : Site → Local → Input → List Input
within site local input = input ∷ hops MOST_HOPS site (after_one site local input) (first_own site local input)

-- what of that goes by lines, since it is left
unfoldable pub left : Site → Local → Input → List OwnMessage
left site local input = left_behind MOST_HOPS site (after_one site local input) (first_own site local input)

-- all that the part takes where these inputs come from outside, one behind the other
abbrev pub taken : Site → Local → List Input → List Input
taken site local [] = []
taken site local (input ∷ rest) = within site local input ++ taken site (after_all site local (within site local input)) rest

-- the part behind it
abbrev pub after_taken : Site → Local → List Input → Local
after_taken site local inputs = after_all site local (taken site local inputs)

-- What a server answers, over the code's types.
use Rattle.std.specs.Prelude.{ℕ, List}
use Rattle.gq_tag.specs.declared.Body.{Body}
use Rattle.gq_tag.specs.declared.Body.TheVariants.{Copy, Stored}
use Rattle.gq_world.specs.declared.replies.Response.{Response}
use Rattle.gq_world.specs.declared.replies.Response.TheVariants as says

-- what is answered, of that content where it is a copy
abbrev pub body_in : List ℕ → Response → Body
body_in content (says.Stored put) = Stored
body_in content (says.Copy tag) = Copy (record { tag = tag; bytes = content })

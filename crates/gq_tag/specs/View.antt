-- A message whose copy is lent: what it says.
use Rattle.gq_tag.specs.declared.Body.{Body}
use Rattle.gq_tag.specs.declared.Body.TheVariants.{Ask, Copy, Store, Stored}
use Rattle.gq_tag.specs.declared.BodyView.{BodyView}
use Rattle.gq_tag.specs.declared.BodyView.TheVariants as lent

-- what a body says whose copy is lent
abbrev pub body_of : BodyView → Body
body_of lent.Ask = Ask
body_of (lent.Copy copy) = Copy copy.now
body_of (lent.Store copy) = Store copy.now
body_of lent.Stored = Stored

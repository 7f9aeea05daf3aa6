-- How a subcommand is put together.
use Rattle.std.proofs.Common.{refl, ◌≡◌, ◌∙◌, ◌||◌, Bool, false}
use Rattle.clap.specs.Simple.{App, Shape}

-- neither part is global
pub neither : (a b new : Bool) → new ≡ (a || b) → a ≡ false → b ≡ false → new ≡ false
neither a b new is x y = is ∙ rw (x, y) refl

abbrev pub top_of : App → Shape
top_of a = a.top

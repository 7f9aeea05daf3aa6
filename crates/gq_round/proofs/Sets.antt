-- Sets without nobody, and nobody without a set.
use Rattle.std.proofs.Common.{◌≡◌, ◌∙◌, ap, ap₂, ◌*◌, ℕ, Bool, true, false, refl, [], ◌∷◌, List}
use Rattle.std.specs.Prelude.{◌&&◌, filter, map}
use Rattle.std.specs.List.{range_with_len}
use Rattle.gq_grid.specs.Grid.{Grid, Servers, no_servers, rising}
use Rattle.gq_grid.proofs.Same.{same_servers}
use Rattle.gq_round.specs.Round.{apart, addressed}
use Rattle.gq_round.specs.declared.RoundMessage.{RoundMessage}

and-true : (b : Bool) → (b && true) ≡ b
and-true true = refl
and-true false = refl

pub all_but_nobody : (set : Servers) → apart set no_servers ≡ set
all_but_nobody set = same_servers (apart set no_servers) set (λ server. and-true (set server))

pub nobody : (servers : List ℕ) → filter (apart no_servers no_servers) servers ≡ []
nobody [] = refl
nobody (server ∷ servers) = nobody servers

pub sent_to_all : (grid : Grid) (m : RoundMessage) (to except : Servers) → except ≡ no_servers → map (addressed m) (rising grid (apart to except)) ≡ map (addressed m) (rising grid to)
sent_to_all grid m to except none = ap (λ but. map (addressed m) (rising grid (apart to but))) none ∙ ap (λ set. map (addressed m) (rising grid set)) (all_but_nobody to)

pub sent_to_nobody : (grid : Grid) (m : RoundMessage) (to except : Servers) → to ≡ no_servers → except ≡ no_servers → map (addressed m) (rising grid (apart to except)) ≡ []
sent_to_nobody grid m to except empty none =
    ap₂ (λ set but. map (addressed m) (rising grid (apart set but))) empty none ∙ ap (map (addressed m)) (nobody (range_with_len 0 (grid.rows * grid.cols)))

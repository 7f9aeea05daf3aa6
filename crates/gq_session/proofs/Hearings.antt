-- What a session with an operation hears.
use Rattle.std.proofs.Common.{◌≡◌, List, Option, Some, sym, subst}
use Rattle.gq_grid.specs.Grid.{Servers}
use Rattle.gq_tag.specs.declared.Message.{Message}
use Rattle.gq_phase.specs.declared.operation.Operation.{Operation}
use Rattle.gq_model.specs.declared.said.Said.{Said}
use Rattle.gq_session.specs.Works.{Work, OperationHears, HearsIn}

pub hears-some : (had : Option Operation) (o : Operation) (old new : Work) (up : Servers) (message : Message) (said : Said) (messages : List Message) →
    had ≡ Some o → OperationHears o old new up message said messages → HearsIn had old new up message said messages
hears-some had o old new up message said messages is hears =
    subst (λ (now : Option Operation). HearsIn now old new up message said messages) (sym is) hears

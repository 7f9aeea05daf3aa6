-- The session at the place is one of the plan, so that a fact of it fits.
use Rattle.std.proofs.Common.{◌≡◌, ◌∙◌, ℕ, true, sym, subst}
use Rattle.gq_node.specs.Shape.{IsShaped}
use Rattle.gq_node.specs.Sites.{site_of, home_place, has_session, session_at}
use Rattle.gq_node.specs.Tables.{Tables}
use Rattle.gq_node.proofs.Bereaving.{reserves, reserves_not}
use Rattle.gq_node.proofs.Placing.{has_placed}
use Rattle.gq_node.proofs.tables.Core.reserve_at.Goals as goal

pub returns-then-not-is_home : goal.returns-then-not-is_home
returns-then-not-is_home c = reserves_not c.args.self.now c.args.tenant c.args.place c.args.number c.session_at-session.result c.session_at-session.ensures (sym c.is_home.ensures ∙ c.if-not-is_home.true)

pub returns : goal.returns
returns c =
    let w : Tables = c.args.self.now in
    let t : ℕ = c.args.tenant in
    let k : ℕ = c.session_at-session.result in
    let shaped : IsShaped w = subst IsShaped c.self.view_is c.self.invariant in
    let placed : has_session (site_of w.plan w.here t) (session_at w.plan w.here t c.args.place) ≡ true =
    has_placed w t c.args.place c.requires.place (shaped.sessions t c.requires.tenant) (shaped.few (home_place w.plan t c.args.place)) in
    let has : has_session (site_of w.plan w.here t) k ≡ true = subst (λ n. has_session (site_of w.plan w.here t) n ≡ true) (sym c.session_at-session.ensures) placed in
    reserves w c.recall-fits.new.self t c.args.place c.args.number k c.session_at-session.ensures (sym c.is_home.ensures ∙ c.if-not-is_home.false) has c.recall-fits.ensures.leads c.recall-fits.ensures.desk

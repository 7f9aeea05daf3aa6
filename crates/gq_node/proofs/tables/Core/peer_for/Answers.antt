-- The peer that was asked last, and at the first lane the next one.
use Rattle.std.proofs.Common.{◌≡◌, ◌≢◌, ◌∙◌, ℕ, ◌<◌, length, refl, sym, ap, subst}
use Rattle.std.specs.Prelude.{slice_index_or}
use Rattle.std.proofs.lemmas.Bool.{ne_eqb}
use Rattle.std.proofs.lemmas.List.{get_or_read_under}
use Rattle.gq_node.specs.Joining.{next_peer, peer_for}
use Rattle.gq_node.specs.Shape.{IsShaped}
use Rattle.gq_node.specs.Sites.{Site, site_of}
use Rattle.gq_node.specs.Tables.{Tables, peer_at}
use Rattle.gq_node.proofs.tables.Core.peer_for.Goals as goal

at_first : (site : Site) (lane place : ℕ) → lane ≡ 0 → next_peer site place ≡ peer_for site lane place
at_first site lane place is = ap (λ n. peer_for site n place) (sym is)

behind : (site : Site) (lane place : ℕ) → lane ≢ 0 → place ≡ peer_for site lane place
behind site lane place other = rw (ne_eqb lane 0 other) refl

pub returns-then-lane-eq0-clause-peer : goal.returns-then-lane-eq0-clause-peer
returns-then-lane-eq0-clause-peer c t =
    let w : Tables = c.args.self.now in
    let shaped : IsShaped w = subst IsShaped c.self.view_is c.self.invariant in
    let there : c.args.tenant < length w.peers = subst (λ n. c.args.tenant < n) (sym shaped.peers) c.requires in
    let within : c.from.result < length c.self.inside.peers.items = subst (λ n. n < length c.self.inside.peers.items) (sym c.from.ensures) (subst (λ (x : Tables). c.args.tenant < length x.peers) (sym c.self.view_is) there) in
    let last : c.from-last.result ≡ peer_at w c.args.tenant =
    c.from-last.ensures
    ∙ get_or_read_under c.self.inside.peers.items c.from.result (length c.self.inside.peers.items) c.index.result.now 0 c.index.ensures within refl
    ∙ ap (λ n. slice_index_or c.self.inside.peers.items n 0) c.from.ensures
    ∙ ap (λ (x : Tables). peer_at x c.args.tenant) c.self.view_is in
    let site : Site = site_of w.plan w.here t in
    c.next_peer.ensures.next t ∙ ap (next_peer site) last ∙ at_first site c.args.lane (peer_at w c.args.tenant) c.if-lane-eq0.true

pub returns-else-lane-eq0-clause-peer : goal.returns-else-lane-eq0-clause-peer
returns-else-lane-eq0-clause-peer c t =
    let w : Tables = c.args.self.now in
    let shaped : IsShaped w = subst IsShaped c.self.view_is c.self.invariant in
    let there : c.args.tenant < length w.peers = subst (λ n. c.args.tenant < n) (sym shaped.peers) c.requires in
    let within : c.from.result < length c.self.inside.peers.items = subst (λ n. n < length c.self.inside.peers.items) (sym c.from.ensures) (subst (λ (x : Tables). c.args.tenant < length x.peers) (sym c.self.view_is) there) in
    let last : c.from-last.result ≡ peer_at w c.args.tenant =
    c.from-last.ensures
    ∙ get_or_read_under c.self.inside.peers.items c.from.result (length c.self.inside.peers.items) c.index.result.now 0 c.index.ensures within refl
    ∙ ap (λ n. slice_index_or c.self.inside.peers.items n 0) c.from.ensures
    ∙ ap (λ (x : Tables). peer_at x c.args.tenant) c.self.view_is in
    last ∙ behind (site_of w.plan w.here t) c.args.lane (peer_at w c.args.tenant) c.if-lane-eq0.false

-- A letter that came, and a line that is no request.
use Rattle.std.proofs.Common.{◌≡◌, ◌∙◌, ℕ, ◌*◌, ◌<◌, Bool, true, false, refl, sym, ap, subst, Option, Some, None, arith}
use Rattle.std.specs.Prelude.{nat_lt, ◌&&◌, ◌==◌}
use Rattle.std.proofs.lemmas.Bool.{and_parts, eqb-true, ltb-true}
use Rattle.gq_tag.specs.declared.Body.{Body}
use Rattle.gq_tag.specs.declared.Body.TheVariants.{Ask, Copy, Store, Stored}
use Rattle.gq_tag.specs.declared.Message.{Message}
use Rattle.gq_tag.specs.Tag.{OwnMessage, own_message, file_place, to_server}
use Rattle.gq_desk.specs.Volumes.{limit_of}
use Rattle.gq_phase.specs.Best.{copied_number}
use Rattle.gq_model.specs.Trace.{limit_at}
use Rattle.gq_node.specs.declared.output.Output.{Output}
use Rattle.gq_node.specs.Sites.{Site, site_of, has_session}
use Rattle.gq_cluster.specs.Cluster.{everyone}
use Rattle.gq_node.specs.Local.{Local, Doing, state_of, silently, receives, serves, at_server, hears, letter_fits, goes_between, file_fits, has_above}
use Rattle.gq_node.specs.SessionStates.{GivesNothing}
use Rattle.gq_node.specs.Tables.{Tables, Agrees, Acts, Gives, lacks_at}
use Rattle.gq_node.proofs.Placing.{same_leads}
use Rattle.gq_node.proofs.Serving.{limit_is}

-- what the one step does the other does
acts_as : (w new : Tables) (t : ℕ) (step other : Site → Local → Doing) (out : Output) → ((local : Local) → Agrees w t local → step (site_of w.plan w.here t) local ≡ other (site_of w.plan w.here t) local) → Acts w t other out new → Acts w t step out new
acts_as w new t step other out same acts = record {
  leads = record {
    plan = acts.leads.plan;
    here = acts.leads.here;
    own = λ local agrees. subst (λ (d : Doing). Agrees new t d.local) (sym (same local agrees)) (acts.leads.own local agrees);
    others = acts.leads.others;
  };
  gives = λ local agrees. subst (λ (d : Doing). Gives t d out) (sym (same local agrees)) (acts.gives local agrees);
}

-- whether the letter fits
abbrev pub fits_in : Tables → ℕ → Message → Bool
fits_in w from m = letter_fits (site_of w.plan w.here m.tenant) (limit_of w.desk m.file) from (own_message m)

fits_as : (w : Tables) (from : ℕ) (m : Message) (b : Bool) (local : Local) → m.file.tenant ≡ m.tenant → fits_in w from m ≡ b → Agrees w m.tenant local →
    letter_fits (site_of w.plan w.here m.tenant) (limit_at (state_of everyone local) m.file.volume m.file.file) from (own_message m) ≡ b
fits_as w from m b local own is agrees = ap (λ limit. letter_fits (site_of w.plan w.here m.tenant) limit from (own_message m)) (sym (limit_is w m.tenant m.file local own agrees)) ∙ is

passed : (from : ℕ) (m : OwnMessage) (site : Site) (local : Local) → letter_fits site (limit_at (state_of everyone local) m.file.volume m.file.place) from m ≡ false → receives from m site local ≡ silently local
passed from m site local is = rw is refl

pub to_the_server : (from : ℕ) (m : OwnMessage) (site : Site) (local : Local) → letter_fits site (limit_at (state_of everyone local) m.file.volume m.file.place) from m ≡ true → to_server m.body ≡ true → receives from m site local ≡ at_server site local m
to_the_server from m site local is goes = rw (is, goes) refl

-- the server has the file, or lacks it
pub has_it : (site : Site) (local : Local) (m : OwnMessage) → local.lacks m.file ≡ false → at_server site local m ≡ serves site local m
has_it site local m has = rw has refl

pub lacks_it : (site : Site) (local : Local) (m : OwnMessage) → local.lacks m.file ≡ true → at_server site local m ≡ silently local
lacks_it site local m lacks = rw lacks refl

pub to_a_session : (from : ℕ) (m : OwnMessage) (site : Site) (local : Local) → letter_fits site (limit_at (state_of everyone local) m.file.volume m.file.place) from m ≡ true → to_server m.body ≡ false → receives from m site local ≡ hears site local m
to_a_session from m site local is goes = rw (is, goes) refl

pub passed_acts : (w : Tables) (from : ℕ) (m : Message) (out : Output) → m.file.tenant ≡ m.tenant → fits_in w from m ≡ false → GivesNothing out → Acts w m.tenant (receives from (own_message m)) out w
passed_acts w from m out own is none =
    let same : (local : Local) → Agrees w m.tenant local → receives from (own_message m) (site_of w.plan w.here m.tenant) local ≡ silently local =
    λ local agrees. passed from (own_message m) (site_of w.plan w.here m.tenant) local (fits_as w from m false local own is agrees) in
    record {
      leads = same_leads w m.tenant (receives from (own_message m)) (λ local agrees. ap (λ (d : Doing). d.local) (same local agrees));
      gives = λ local agrees. subst (λ (d : Doing). Gives m.tenant d out) (sym (same local agrees)) (record { answer = none.answer; letters = none.letters; transfer = none.transfer; fact = none.fact });
    }

pub server_acts : (w new : Tables) (from : ℕ) (m : Message) (out : Output) → m.file.tenant ≡ m.tenant → fits_in w from m ≡ true → to_server m.body ≡ true →
    Acts w m.tenant (λ site local. at_server site local (own_message m)) out new → Acts w m.tenant (receives from (own_message m)) out new
server_acts w new from m out own is goes acts =
    acts_as w new m.tenant (receives from (own_message m)) (λ site local. at_server site local (own_message m)) out
    (λ local agrees. to_the_server from (own_message m) (site_of w.plan w.here m.tenant) local (fits_as w from m true local own is agrees) goes) acts

pub has_acts : (w new : Tables) (m : Message) (out : Output) → lacks_at w m.tenant (file_place m.file) ≡ false → Acts w m.tenant (λ site local. serves site local (own_message m)) out new → Acts w m.tenant (λ site local. at_server site local (own_message m)) out new
has_acts w new m out has acts =
    acts_as w new m.tenant (λ site local. at_server site local (own_message m)) (λ site local. serves site local (own_message m)) out
    (λ local agrees. has_it (site_of w.plan w.here m.tenant) local (own_message m) (sym (agrees.lacks (file_place m.file)) ∙ has)) acts

pub lacks_acts : (w : Tables) (m : Message) (out : Output) → lacks_at w m.tenant (file_place m.file) ≡ true → GivesNothing out → Acts w m.tenant (λ site local. at_server site local (own_message m)) out w
lacks_acts w m out lacks none =
    let step = λ (site : Site) (local : Local). at_server site local (own_message m) in
    let same : (local : Local) → Agrees w m.tenant local → step (site_of w.plan w.here m.tenant) local ≡ silently local =
    λ local agrees. lacks_it (site_of w.plan w.here m.tenant) local (own_message m) (sym (agrees.lacks (file_place m.file)) ∙ lacks) in
    record {
      leads = same_leads w m.tenant step (λ local agrees. ap (λ (d : Doing). d.local) (same local agrees));
      gives = λ local agrees. subst (λ (d : Doing). Gives m.tenant d out) (sym (same local agrees)) (record { answer = none.answer; letters = none.letters; transfer = none.transfer; fact = none.fact });
    }

pub session_acts : (w new : Tables) (from : ℕ) (m : Message) (out : Output) → m.file.tenant ≡ m.tenant → fits_in w from m ≡ true → to_server m.body ≡ false →
    Acts w m.tenant (λ site local. hears site local (own_message m)) out new → Acts w m.tenant (receives from (own_message m)) out new
session_acts w new from m out own is goes acts =
    acts_as w new m.tenant (receives from (own_message m)) (λ site local. hears site local (own_message m)) out
    (λ local agrees. to_a_session from (own_message m) (site_of w.plan w.here m.tenant) local (fits_as w from m true local own is agrees) goes) acts

-- ---- what fits

-- a letter to a session comes to its home
pub session_here : (site : Site) (from : ℕ) (m : OwnMessage) → to_server m.body ≡ false → goes_between site from m ≡ true → (site.home m.session == site.here) ≡ true
session_here site from m goes is =
    let h : (site.home m.session == site.here && site.node_at m.server == from) ≡ true = rw goes at is in
    (and_parts (site.home m.session == site.here) (site.node_at m.server == from) h).0

pub record Parts (site : Site) (limit : Option ℕ) (from : ℕ) (m : OwnMessage) : Type 0 where
  pub session : has_session site m.session ≡ true
  pub server : m.server < site.grid.rows * site.grid.cols
  pub between : goes_between site from m ≡ true
  pub file : file_fits limit m.body ≡ true

pub parts : (site : Site) (limit : Option ℕ) (from : ℕ) (m : OwnMessage) → letter_fits site limit from m ≡ true → Parts site limit from m
parts site limit from m is =
    let a = and_parts ((has_session site m.session && nat_lt m.server (site.grid.rows * site.grid.cols)) && goes_between site from m) (file_fits limit m.body) is in
    let b = and_parts (has_session site m.session && nat_lt m.server (site.grid.rows * site.grid.cols)) (goes_between site from m) a.0 in
    let c = and_parts (has_session site m.session) (nat_lt m.server (site.grid.rows * site.grid.cols)) b.0 in
    record { session = c.0; server = ltb-true m.server (site.grid.rows * site.grid.cols) c.1; between = b.1; file = a.1 }

pub its_server : (site : Site) (from : ℕ) (m : OwnMessage) → to_server m.body ≡ true → goes_between site from m ≡ true → m.server ≡ site.place
its_server site from m goes is =
    let h : (m.server == site.place && site.home m.session == from) ≡ true = rw goes at is in
    eqb-true m.server site.place (and_parts (m.server == site.place) (site.home m.session == from) h).0

pub its_number : (limit : Option ℕ) (body : Body) → file_fits limit body ≡ true → copied_number body < 18446744073709551615
its_number None body fits = absurd (cc)
its_number (Some limit) Ask fits = omega arith
its_number (Some limit) Stored fits = omega arith
its_number (Some limit) (Store copy) fits = omega arith
its_number (Some limit) (Copy copy) fits = ltb-true copy.tag.number 18446744073709551615 (and_parts _ (has_above copy.tag.number) fits).1

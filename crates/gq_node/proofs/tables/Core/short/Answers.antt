-- A short letter that fits goes to the server, or to its session.
use Rattle.std.proofs.Common.{◌≡◌, ◌∙◌, ℕ, ◌*◌, ◌<◌, ◌≤◌, true, false, List, [], refl, ap, sym, subst, arith}
use Rattle.std.proofs.lemmas.Result.{IfOk-weaker}
use Rattle.gq_grid.specs.declared.TheConstants.{MOST_SERVERS}
use Rattle.gq_tag.specs.declared.Body.{Body}
use Rattle.gq_tag.specs.declared.Body.TheVariants.{Ask, Copy, Store, Stored}
use Rattle.gq_tag.specs.declared.Message.{Message}
use Rattle.gq_tag.specs.Tag.{own_message}
use Rattle.gq_desk.specs.Volumes.{limit_of}
use Rattle.gq_node.specs.declared.shorts.Short.{Short}
use Rattle.gq_node.specs.declared.shorts.ShortOutput.{ShortOutput}
use Rattle.gq_node.specs.Local.{Local, letter_fits}
use Rattle.gq_node.specs.declared.shorts.ShortBody.{ShortBody}
use Rattle.gq_node.specs.declared.shorts.ShortBody.TheVariants.{AskAbove, Tagged, Confirm, Want}
use Rattle.gq_node.specs.Shorts.{ShortDoing, own_short, letter_as, body_with, asks_above, hears_tag, confirms, stores_again, takes_short}
use Rattle.gq_node.specs.ShortSteps.{ActsShortly}
use Rattle.gq_node.specs.Shape.{IsShaped}
use Rattle.gq_node.specs.Sites.{Site, site_of}
use Rattle.gq_node.specs.Tables.{Tables}
use Rattle.gq_node.proofs.Receiving.{Parts, parts, its_server, its_number}
use Rattle.gq_node.proofs.Shortly.{plain_fits, short_passed, short_by, by_ask, by_tag, by_confirm, by_want}
use Rattle.gq_node.proofs.tables.Core.short.Goals as goal

abbrev Step : Tables → ℕ → Short → ShortOutput → Tables → Type 0
Step w from s given new = (bytes : List ℕ) → ActsShortly w s.tenant (takes_short from (own_short s) bytes) given new

pub returns-then-not-fits : goal.returns-then-not-fits
returns-then-not-fits c =
    let w : Tables = c.args.self.now in
    let s : Short = c.args.short.now in
    let fits : plain_fits w c.args.from s (body_with [] s.body) ≡ false =
    ap (λ (m : Message). letter_fits (site_of w.plan w.here m.tenant) (limit_of w.desk m.file) c.args.from (own_message m)) (sym c.plain-plain.ensures) ∙ sym c.fits.ensures ∙ c.if-not-fits.true in
    record {
      acts = λ bytes. short_passed w c.args.from s bytes c.nothing.result c.requires.own fits
          (record { answer = c.nothing.ensures.answer; letters = c.nothing.ensures.letters; transfer = c.nothing.ensures.transfer; fact = c.nothing.ensures.fact }) c.nothing.ensures.short;
    }

pub returns-in-AskAbove : goal.returns-in-AskAbove
returns-in-AskAbove c =
    let w : Tables = c.args.self.now in
    let new : Tables = c.ask_above.new.self in
    let s : Short = c.args.short.now in
    let bound = c.in-AskAbove.bound in
    let fits : plain_fits w c.args.from s (body_with [] s.body) ≡ true =
    ap (λ (m : Message). letter_fits (site_of w.plan w.here m.tenant) (limit_of w.desk m.file) c.args.from (own_message m)) (sym c.plain-plain.ensures) ∙ sym c.fits.ensures ∙ c.if-not-fits.false in
    record {
      acts = IfOk-weaker c.ask_above.result (λ given. ActsShortly w s.tenant (λ site local. asks_above bound site local (letter_as (own_short s) Ask)) given new) (λ given. Step w c.args.from s given new)
          (λ given acts bytes. short_by w new c.args.from s (AskAbove bound) bytes (λ site local. asks_above bound site local (letter_as (own_short s) Ask)) given c.requires.own c.in-AskAbove.is fits
          (λ site local is. by_ask c.args.from (own_short s) bound bytes site local is) acts) c.ask_above.ensures.acts;
    }

pub returns-in-Tagged : goal.returns-in-Tagged
returns-in-Tagged c =
    let w : Tables = c.args.self.now in
    let new : Tables = c.tagged.new.self in
    let s : Short = c.args.short.now in
    let tag = c.in-Tagged.tag in
    let step : List ℕ → Site → Local → ShortDoing = λ bytes site local. hears_tag tag site local (letter_as (own_short s) (Copy (record { tag = tag; bytes = bytes }))) in
    let fits : plain_fits w c.args.from s (body_with [] s.body) ≡ true =
    ap (λ (m : Message). letter_fits (site_of w.plan w.here m.tenant) (limit_of w.desk m.file) c.args.from (own_message m)) (sym c.plain-plain.ensures) ∙ sym c.fits.ensures ∙ c.if-not-fits.false in
    record {
      acts = IfOk-weaker c.tagged.result (λ given. (bytes : List ℕ) → ActsShortly w s.tenant (step bytes) given new) (λ given. Step w c.args.from s given new)
          (λ given acts bytes. short_by w new c.args.from s (Tagged tag) bytes (step bytes) given c.requires.own c.in-Tagged.is fits
          (λ site local is. by_tag c.args.from (own_short s) tag bytes site local is) (acts bytes)) c.tagged.ensures.acts;
    }

pub returns-in-Confirm : goal.returns-in-Confirm
returns-in-Confirm c =
    let w : Tables = c.args.self.now in
    let s : Short = c.args.short.now in
    let tag = c.in-Confirm.tag in
    let step : List ℕ → Site → Local → ShortDoing = λ bytes site local. confirms tag site local (letter_as (own_short s) (Store (record { tag = tag; bytes = bytes }))) in
    let fits : plain_fits w c.args.from s (body_with [] s.body) ≡ true =
    ap (λ (m : Message). letter_fits (site_of w.plan w.here m.tenant) (limit_of w.desk m.file) c.args.from (own_message m)) (sym c.plain-plain.ensures) ∙ sym c.fits.ensures ∙ c.if-not-fits.false in
    record {
      acts = IfOk-weaker c.confirm.result (λ given. (bytes : List ℕ) → ActsShortly w s.tenant (step bytes) given w) (λ given. Step w c.args.from s given w)
          (λ given acts bytes. short_by w w c.args.from s (Confirm tag) bytes (step bytes) given c.requires.own c.in-Confirm.is fits
          (λ site local is. by_confirm c.args.from (own_short s) tag bytes site local is) (acts bytes)) c.confirm.ensures.acts;
    }

pub returns : goal.returns
returns c =
    let w : Tables = c.args.self.now in
    let s : Short = c.args.short.now in
    let fits : plain_fits w c.args.from s (body_with [] s.body) ≡ true =
    ap (λ (m : Message). letter_fits (site_of w.plan w.here m.tenant) (limit_of w.desk m.file) c.args.from (own_message m)) (sym c.plain-plain.ensures) ∙ sym c.fits.ensures ∙ c.if-not-fits.false in
    record {
      acts = IfOk-weaker c.store_again.result (λ given. ActsShortly w s.tenant (λ site local. stores_again site local (letter_as (own_short s) Stored)) given w) (λ given. Step w c.args.from s given w)
          (λ given acts bytes. short_by w w c.args.from s Want bytes (λ site local. stores_again site local (letter_as (own_short s) Stored)) given c.requires.own c.in-Want.is fits
          (λ site local is. by_want c.args.from (own_short s) bytes site local is) acts) c.store_again.ensures.acts;
    }

-- what is known of a short letter of this body that fits
abbrev Its : Tables → ℕ → Short → Body → Type 0
Its w from s body = Parts (site_of w.plan w.here s.tenant) (limit_of w.desk s.file) from (letter_as (own_short s) body)

its : (w : Tables) (from : ℕ) (s : Short) (body : ShortBody) → s.body ≡ body → plain_fits w from s (body_with [] s.body) ≡ true → Its w from s (body_with [] body)
its w from s body is fits = parts (site_of w.plan w.here s.tenant) (limit_of w.desk s.file) from (letter_as (own_short s) (body_with [] body)) (ap (λ b. plain_fits w from s (body_with [] b)) (sym is) ∙ fits)

below : (w : Tables) (server : ℕ) → IsShaped w → server < w.plan.grid.rows * w.plan.grid.cols → server < MOST_SERVERS
below w server shaped low = let small : w.plan.grid.rows * w.plan.grid.cols ≤ MOST_SERVERS = shaped.grid in omega (arith, small, low)

pub ask_above-requires : goal.ask_above-requires
ask_above-requires c =
    let w : Tables = c.args.self.now in
    let s : Short = c.args.short.now in
    let fits : plain_fits w c.args.from s (body_with [] s.body) ≡ true =
    ap (λ (m : Message). letter_fits (site_of w.plan w.here m.tenant) (limit_of w.desk m.file) c.args.from (own_message m)) (sym c.plain-plain.ensures) ∙ sym c.fits.ensures ∙ c.if-not-fits.false in
    let p : Its w c.args.from s Ask = its w c.args.from s (AskAbove c.in-AskAbove.bound) c.in-AskAbove.is fits in
    record { tenant = c.requires.tenant; own = c.requires.own; server = its_server (site_of w.plan w.here s.tenant) c.args.from (letter_as (own_short s) Ask) refl p.between; fits = p.file }

pub tagged-requires : goal.tagged-requires
tagged-requires c =
    let w : Tables = c.args.self.now in
    let s : Short = c.args.short.now in
    let tag = c.in-Tagged.tag in
    let fits : plain_fits w c.args.from s (body_with [] s.body) ≡ true =
    ap (λ (m : Message). letter_fits (site_of w.plan w.here m.tenant) (limit_of w.desk m.file) c.args.from (own_message m)) (sym c.plain-plain.ensures) ∙ sym c.fits.ensures ∙ c.if-not-fits.false in
    let p : Its w c.args.from s (Copy (record { tag = tag; bytes = [] })) = its w c.args.from s (Tagged tag) c.in-Tagged.is fits in
    record { tenant = c.requires.tenant; has = p.session; server = below w s.server (subst IsShaped c.self.view_is c.self.invariant) p.server; number = its_number (limit_of w.desk s.file) (Copy (record { tag = tag; bytes = [] })) p.file }

pub confirm-requires : goal.confirm-requires
confirm-requires c =
    let w : Tables = c.args.self.now in
    let s : Short = c.args.short.now in
    let tag = c.in-Confirm.tag in
    let body : Body = Store (record { tag = tag; bytes = [] }) in
    let fits : plain_fits w c.args.from s (body_with [] s.body) ≡ true =
    ap (λ (m : Message). letter_fits (site_of w.plan w.here m.tenant) (limit_of w.desk m.file) c.args.from (own_message m)) (sym c.plain-plain.ensures) ∙ sym c.fits.ensures ∙ c.if-not-fits.false in
    let p : Its w c.args.from s body = its w c.args.from s (Confirm tag) c.in-Confirm.is fits in
    record { tenant = c.requires.tenant; own = c.requires.own; has = p.session; server = its_server (site_of w.plan w.here s.tenant) c.args.from (letter_as (own_short s) body) refl p.between; fits = p.file }

pub store_again-requires : goal.store_again-requires
store_again-requires c =
    let w : Tables = c.args.self.now in
    let s : Short = c.args.short.now in
    let fits : plain_fits w c.args.from s (body_with [] s.body) ≡ true =
    ap (λ (m : Message). letter_fits (site_of w.plan w.here m.tenant) (limit_of w.desk m.file) c.args.from (own_message m)) (sym c.plain-plain.ensures) ∙ sym c.fits.ensures ∙ c.if-not-fits.false in
    let p : Its w c.args.from s Stored = its w c.args.from s Want c.in-Want.is fits in
    record { tenant = c.requires.tenant; own = c.requires.own; has = p.session; server = below w s.server (subst IsShaped c.self.view_is c.self.invariant) p.server }

-- What the start reads is recalled, where it fits.
use Rattle.std.proofs.Common.{◌∙◌, ℕ, ◌<◌, length, ap, sym, subst, inl, inr}
use Rattle.std.proofs.lemmas.Bool.{cases_Bool}
use Rattle.gq_node.specs.declared.output.Fact.{Fact}
use Rattle.gq_cluster.specs.Facts.{Begun, Numbered}
use Rattle.gq_node.specs.Local.{recalls}
use Rattle.gq_node.specs.Recalling.{tenant_of, own_fact, fits_in}
use Rattle.gq_node.specs.Shape.{IsShaped}
use Rattle.gq_node.specs.Tables.{Tables, Leads}
use Rattle.gq_node.proofs.Recalling.{begun_leads, no_begun_leads, number_leads, no_number_leads}
use Rattle.gq_node.proofs.tables.Core.recall.Goals as goal

pub returns-in-Began : goal.returns-in-Began
returns-in-Began c =
    let w : Tables = c.args.self.now in
    let t : ℕ = c.in-Began.tenant in
    let k : ℕ = c.in-Began.session in
    let op : ℕ = c.in-Began.op in
    let shaped : IsShaped w = subst IsShaped c.self.view_is c.self.invariant in
    let within : t < length w.plan.rows = subst (λ (f : Fact). tenant_of f < length w.plan.rows) c.in-Began.is c.requires in
    let P : Tables → Type 0 = λ x. Leads w t (recalls (Begun k op)) x in
    let F : Fact → Type 0 = λ f. Leads w (tenant_of f) (recalls (own_fact f)) c.recall_session.new.self in
    let leads' : P c.recall_session.new.self = elim (cases_Bool c.recall_session.result) [
      | inl is ↦ (subst P (sym (c.recall_session.ensures.recalled is)) (begun_leads w t k op shaped within (sym c.recall_session.ensures.fits ∙ is)))
      | inr is ↦ (subst P (sym (c.recall_session.ensures.none is)) (no_begun_leads w t k op (sym c.recall_session.ensures.fits ∙ is)))
    ] in
    record { leads = subst F (sym c.in-Began.is) leads'; fits = c.recall_session.ensures.fits ∙ ap (fits_in w) (sym c.in-Began.is); none = c.recall_session.ensures.none; desk = c.recall_session.ensures.desk }

pub returns-in-Numbered : goal.returns-in-Numbered
returns-in-Numbered c =
    let w : Tables = c.args.self.now in
    let t : ℕ = c.in-Numbered.tenant in
    let k : ℕ = c.in-Numbered.session in
    let number : ℕ = c.in-Numbered.number in
    let shaped : IsShaped w = subst IsShaped c.self.view_is c.self.invariant in
    let within : t < length w.plan.rows = subst (λ (f : Fact). tenant_of f < length w.plan.rows) c.in-Numbered.is c.requires in
    let P : Tables → Type 0 = λ x. Leads w t (recalls (Numbered k number)) x in
    let F : Fact → Type 0 = λ f. Leads w (tenant_of f) (recalls (own_fact f)) c.recall_session-in-Numbered.new.self in
    let leads' : P c.recall_session-in-Numbered.new.self = elim (cases_Bool c.recall_session-in-Numbered.result) [
      | inl is ↦ (subst P (sym (c.recall_session-in-Numbered.ensures.recalled is)) (number_leads w t k number shaped within (sym c.recall_session-in-Numbered.ensures.fits ∙ is)))
      | inr is ↦ (subst P (sym (c.recall_session-in-Numbered.ensures.none is)) (no_number_leads w t k number (sym c.recall_session-in-Numbered.ensures.fits ∙ is)))
    ] in
    record { leads = subst F (sym c.in-Numbered.is) leads'; fits = c.recall_session-in-Numbered.ensures.fits ∙ ap (fits_in w) (sym c.in-Numbered.is); none = c.recall_session-in-Numbered.ensures.none; desk = c.recall_session-in-Numbered.ensures.desk }

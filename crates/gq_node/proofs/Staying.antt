-- A line, a letter or a tick leaves a part its volumes, and the nodes that have joined.
use Rattle.std.proofs.Common.{◌≡◌, ◌∙◌, ℕ, List, Bool, true, false, Some, refl, sym, subst, inl, inr}
use Rattle.std.specs.Prelude.{is_some, ◌&&◌}
use Rattle.std.proofs.lemmas.Bool.{cases_Bool}
use Rattle.gq_grid.specs.Grid.{Servers}
use Rattle.gq_tag.specs.Tag.{OwnMessage, to_server}
use Rattle.gq_desk.specs.declared.volumes.VolumeRow.{VolumeRow}
use Rattle.gq_model.specs.declared.events.Line.{Line}
use Rattle.gq_model.specs.declared.events.Line.TheVariants.{Write, Read, List as ListFiles, Abandon}
use Rattle.gq_model.specs.Trace.{operation, limit_at}
use Rattle.gq_model.specs.Lone.{Step, is_refusal, asked_step}
use Rattle.gq_cluster.specs.Cluster.{everyone}
use Rattle.gq_node.specs.declared.output.Admission.{Admission}
use Rattle.gq_node.specs.declared.output.Admission.TheVariants.{Tells, Passes, Goes}
use Rattle.gq_node.specs.Local.{Local, Doing, state_of, state_for, asker, begins, admission_in, asks, asked_by, receives, hears, ticks, waits_on, letter_fits, has_above, of_round}
use Rattle.gq_node.specs.Shorts.{OwnShort, letter_with, takes_short}
use Rattle.gq_node.specs.Sites.{Site}
use Rattle.gq_node.proofs.Ticking.{busy_is}
use Rattle.gq_node.proofs.Receiving.{to_a_session, to_the_server, has_it, lacks_it}
use Rattle.gq_node.proofs.Shortening.{by_arms}

abbrev pub view : Local → List VolumeRow × Servers
view local = (local.volumes, local.joined)

abbrev pub SameView : Local → Doing → Type 0
SameView local doing = view doing.local ≡ view local

request_view : (op : ℕ) (line : Line) (k : ℕ) (site : Site) (local : Local) → asker line ≡ Some k → SameView local (asks op line site local)
request_view op line k site local its = by (admission_in site local k op (begins line)) refl
  where
    step : Step
    step = asked_step site.grid site.row (state_for site local k) line

    said : (b : Bool) → is_refusal step.told ≡ b → SameView local (asked_by local k op (state_for site local k) line step)
    said true is = rw is refl
    said false is = rw is refl

    by : (g : Admission) → admission_in site local k op (begins line) ≡ g → SameView local (asks op line site local)
    by (Tells answer) is = rw (its, is) refl
    by Passes is = rw (its, is) refl
    by Goes is =
        let e : asks op line site local ≡ asked_by local k op (state_for site local k) line step = rw (its, is) refl in
        subst (SameView local) (sym e) (said (is_refusal step.told) refl)

pub asks_view : (op : ℕ) (line : Line) (site : Site) (local : Local) → SameView local (asks op line site local)
asks_view op (Write k v f bytes) site local = request_view op (Write k v f bytes) k site local refl
asks_view op (Read k v f) site local = request_view op (Read k v f) k site local refl
asks_view op (ListFiles k v) site local = request_view op (ListFiles k v) k site local refl
asks_view op (Abandon k) site local = request_view op (Abandon k) k site local refl
asks_view op line site local = refl

hears_view : (site : Site) (local : Local) (m : OwnMessage) → SameView local (hears site local m)
hears_view site local m = by (has_above (local.residents m.session).session.floor && of_round (operation (state_for site local m.session) m.session) m.file) refl
  where
    by : (b : Bool) → (has_above (local.residents m.session).session.floor && of_round (operation (state_for site local m.session) m.session) m.file) ≡ b → SameView local (hears site local m)
    by true is = rw is refl
    by false is = rw is refl

pub receives_view : (from : ℕ) (m : OwnMessage) (site : Site) (local : Local) → SameView local (receives from m site local)
receives_view from m site local = elim (cases_Bool (letter_fits site (limit_at (state_of everyone local) m.file.volume m.file.place) from m)) [
  | inr not ↦ (rw not refl)
  | inl fits ↦ (elim (cases_Bool (to_server m.body)) [
    | inl goes ↦ (elim (cases_Bool (local.lacks m.file)) [
      | inl lacks ↦ (subst (SameView local) (sym (to_the_server from m site local fits goes ∙ lacks_it site local m lacks)) refl)
      | inr has ↦ (subst (SameView local) (sym (to_the_server from m site local fits goes ∙ has_it site local m has)) refl)
    ])
    | inr goes ↦ (subst (SameView local) (sym (to_a_session from m site local fits goes)) (hears_view site local m))
  ])
]

pub shorts_view : (from : ℕ) (s : OwnShort) (bytes : List ℕ) (site : Site) (local : Local) → SameView local (takes_short from s bytes site local).doing
shorts_view from s bytes site local =
    by_arms (λ act doing. SameView local doing) from s bytes site local (record { passed = refl; served = λ h. refl; heard = λ h. hears_view site local (letter_with bytes s); again = λ h. refl })

pub ticks_view : (k : ℕ) (site : Site) (local : Local) → SameView local (ticks k site local)
ticks_view k site local = elim (cases_Bool (is_some (local.residents k).session.current)) [
  | inr idle ↦ (rw idle refl)
  | inl busy ↦ (subst (SameView local) (sym (busy_is k site local busy)) (by (local.residents k).waited))
]
  where
    by : (b : Bool) → SameView local (waits_on site local k b)
    by false = refl
    by true = refl

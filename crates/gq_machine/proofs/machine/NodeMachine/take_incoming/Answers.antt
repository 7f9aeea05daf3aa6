-- One arm for each thing that a line may bring.
use Rattle.std.proofs.Common.{◌≡◌, ◌<◌, ◌∷◌, [], length, refl, sym, ap, subst}
use Rattle.gq_tag.specs.Tag.{own_message, file_place}
use Rattle.gq_model.specs.declared.events.Line.TheVariants.{Bad as NoLine}
use Rattle.gq_node.specs.Inputs.{Asked, AskedPlan, AskedLook, Brought, Joined as HeardJoined, Fetching, Fetched as WasFetched}
use Rattle.gq_wire.specs.Incoming.{FitsPlan}
use Rattle.gq_wire.specs.declared.incoming.Incoming.{Incoming}
use Rattle.gq_wire.specs.declared.incoming.Incoming.TheVariants.{Request, Plan as AsksPlan, Look as AsksLook, Bad, Letter, ShortLetter, Joined, Speaks, Fetch, Fetched, Nothing}
use Rattle.gq_node.specs.Tables.{Tables}
use Rattle.gq_node.specs.declared.node.Node.{Node}
use Rattle.gq_parts.specs.Texts.{joined_text, greeting_text}
use Rattle.gq_parts.specs.Steps.{TookAll, TookIncoming}
use Rattle.gq_parts.proofs.Taking.{on_ok, none_took_all, took_alone, all_took, short_took_all, leads_took, joined_silent}
use Rattle.gq_machine.proofs.machine.NodeMachine.take_incoming.Goals as goal

pub returns-in-Request : goal.returns-in-Request
returns-in-Request c =
    let w = c.args.self.now.node.tables in
    let within : c.in-Request.tenant < length w.plan.rows = subst (λ (i : Incoming). FitsPlan w.plan i) c.in-Request.is c.requires in
    let P : Incoming → Type 0 = λ i. TookIncoming w i c.args.facts.now.items c.request.new.facts.items c.args.told.now.items c.request.new.told.items c.request.new.self.node.tables in
    on_ok c.request.result (λ one. subst P (sym c.in-Request.is) (all_took w c.request.new.self.node.tables (Request c.in-Request.tenant c.in-Request.op c.in-Request.line) _ _ _ _ (took_alone w c.request.new.self.node.tables c.in-Request.tenant (Asked c.in-Request.op c.in-Request.line ∷ []) _ _ _ _ within one) tt (λ parts. refl))) c.request.ensures

pub returns-in-Plan : goal.returns-in-Plan
returns-in-Plan c =
    let w = c.args.self.now.node.tables in
    let within : c.in-Plan.tenant < length w.plan.rows = subst (λ (i : Incoming). FitsPlan w.plan i) c.in-Plan.is c.requires in
    let P : Incoming → Type 0 = λ i. TookIncoming w i c.args.facts.now.items c.question.new.facts.items c.args.told.now.items c.question.new.told.items c.question.new.self.node.tables in
    on_ok c.question.result (λ one. subst P (sym c.in-Plan.is) (all_took w c.question.new.self.node.tables (AsksPlan c.in-Plan.tenant) _ _ _ _ (took_alone w c.question.new.self.node.tables c.in-Plan.tenant (AskedPlan ∷ []) _ _ _ _ within one) tt (λ parts. refl))) c.question.ensures

pub returns-in-Look : goal.returns-in-Look
returns-in-Look c =
    let w = c.args.self.now.node.tables in
    let within : c.in-Look.tenant < length w.plan.rows = subst (λ (i : Incoming). FitsPlan w.plan i) c.in-Look.is c.requires in
    let P : Incoming → Type 0 = λ i. TookIncoming w i c.args.facts.now.items c.look_at.new.facts.items c.args.told.now.items c.look_at.new.told.items c.look_at.new.self.node.tables in
    on_ok c.look_at.result (λ one. subst P (sym c.in-Look.is) (all_took w c.look_at.new.self.node.tables (AsksLook c.in-Look.tenant c.in-Look.mark c.in-Look.volume) _ _ _ _ (took_alone w c.look_at.new.self.node.tables c.in-Look.tenant (AskedLook c.in-Look.mark c.in-Look.volume ∷ []) _ _ _ _ within one) tt (λ parts. refl))) c.look_at.ensures

pub returns-in-Bad : goal.returns-in-Bad
returns-in-Bad c =
    let w = c.args.self.now.node.tables in
    let within : c.in-Bad.tenant < length w.plan.rows = subst (λ (i : Incoming). FitsPlan w.plan i) c.in-Bad.is c.requires in
    let P : Incoming → Type 0 = λ i. TookIncoming w i c.args.facts.now.items c.request-in-Bad.new.facts.items c.args.told.now.items c.request-in-Bad.new.told.items c.request-in-Bad.new.self.node.tables in
    on_ok c.request-in-Bad.result (λ one. subst P (sym c.in-Bad.is) (all_took w c.request-in-Bad.new.self.node.tables (Bad c.in-Bad.tenant) _ _ _ _ (took_alone w c.request-in-Bad.new.self.node.tables c.in-Bad.tenant (Asked 0 NoLine ∷ []) _ _ _ _ within one) tt (λ parts. refl))) c.request-in-Bad.ensures

pub returns-in-Letter : goal.returns-in-Letter
returns-in-Letter c =
    let w = c.args.self.now.node.tables in
    let m = c.in-Letter.message in
    let fits : FitsPlan w.plan (Letter c.in-Letter.from m) = subst (λ (i : Incoming). FitsPlan w.plan i) c.in-Letter.is c.requires in
    let P : Incoming → Type 0 = λ i. TookIncoming w i c.args.facts.now.items c.letter.new.facts.items c.args.told.now.items c.letter.new.told.items c.letter.new.self.node.tables in
    on_ok c.letter.result (λ one. subst P (sym c.in-Letter.is) (all_took w c.letter.new.self.node.tables (Letter c.in-Letter.from m) _ _ _ _ (took_alone w c.letter.new.self.node.tables m.tenant (Brought c.in-Letter.from (own_message m) ∷ []) _ _ _ _ fits.0 one) tt (λ parts. refl))) c.letter.ensures

pub returns-in-Tick : goal.returns-in-Tick
returns-in-Tick c =
    let w = c.args.self.now.node.tables in
    let P : Incoming → Type 0 = λ i. TookIncoming w i c.args.facts.now.items c.tick.new.facts.items c.args.told.now.items c.tick.new.told.items c.tick.new.self.node.tables in
    on_ok c.tick.result (λ all. subst P (sym c.in-Tick.is) all) c.tick.ensures

pub returns-in-ShortLetter : goal.returns-in-ShortLetter
returns-in-ShortLetter c =
    let w = c.args.self.now.node.tables in
    let s = c.in-ShortLetter.short in
    let fits : FitsPlan w.plan (ShortLetter c.in-ShortLetter.from s) = subst (λ (i : Incoming). FitsPlan w.plan i) c.in-ShortLetter.is c.requires in
    let P : Incoming → Type 0 = λ i. TookIncoming w i c.args.facts.now.items c.short.new.facts.items c.args.told.now.items c.short.new.told.items c.short.new.self.node.tables in
    on_ok c.short.result (λ one. subst P (sym c.in-ShortLetter.is) (short_took_all w c.short.new.self.node.tables c.in-ShortLetter.from s _ _ _ _ fits.0 one)) c.short.ensures

pub returns-in-Nothing : goal.returns-in-Nothing
returns-in-Nothing c =
    let w = c.args.self.now.node.tables in
    let P : Incoming → Type 0 = λ i. TookIncoming w i c.args.facts.now.items c.args.facts.now.items c.args.told.now.items c.args.told.now.items w in
    subst P (sym c.in-Nothing.is) (all_took w w Nothing _ _ _ _ (none_took_all w c.args.facts.now.items c.args.told.now.items) tt (λ parts. refl))

pub returns-in-Joins : goal.returns-in-Joins
returns-in-Joins c =
    let w = c.args.self.now.node.tables in
    let P : Incoming → Type 0 = λ i. TookIncoming w i c.args.facts.now.items c.args.facts.now.items c.args.told.now.items c.asked_to_join.new.told.items w in
    let none : TookAll w (λ t. []) c.args.facts.now.items c.args.facts.now.items c.args.told.now.items c.args.told.now.items w = none_took_all w c.args.facts.now.items c.args.told.now.items in
    on_ok c.asked_to_join.result (λ told. subst P (sym c.in-Joins.is) (record {
      facts = none.facts;
      told = none.told;
      takes = λ bytes. none.takes;
      between = c.args.told.now.items;
      appended = none.appended;
      own = joined_text w.plan w.here c.in-Joins.from c.in-Joins.losses;
      told_is = told;
      own_is = λ parts agree. refl;
    })) c.asked_to_join.ensures

pub returns-in-Joined : goal.returns-in-Joined
returns-in-Joined c =
    let w = c.args.self.now.node.tables in
    let new = c.joined.new.self.node.tables in
    let P : Incoming → Type 0 = λ i. TookIncoming w i c.args.facts.now.items c.args.facts.now.items c.args.told.now.items c.args.told.now.items new in
    on_ok c.joined.result (λ leads. subst P (sym c.in-Joined.is) (all_took w new (Joined c.in-Joined.from c.in-Joined.losses) _ _ _ _
    (leads_took w new (HeardJoined c.in-Joined.from c.in-Joined.losses) c.args.facts.now.items c.args.told.now.items leads (λ site local. (refl, refl)) (joined_silent c.in-Joined.from c.in-Joined.losses)) tt (λ parts. refl))) c.joined.ensures

pub returns-in-Speaks : goal.returns-in-Speaks
returns-in-Speaks c =
    let w : Tables = c.args.self.now.node.tables in
    let new : Tables = c.speaks.new.self.node.tables in
    let same : new ≡ w = ap (λ (node : Node). node.tables) c.speaks.ensures.node in
    let P : Incoming → Tables → Type 0 = λ i last. TookIncoming w i c.args.facts.now.items c.args.facts.now.items c.args.told.now.items c.args.told.now.items last in
    subst (λ i. P i new) (sym c.in-Speaks.is) (subst (P (Speaks c.in-Speaks.from c.in-Speaks.form)) (sym same) (all_took w w (Speaks c.in-Speaks.from c.in-Speaks.form) _ _ _ _ (none_took_all w c.args.facts.now.items c.args.told.now.items) tt (λ parts. refl)))

pub returns-in-Greet : goal.returns-in-Greet
returns-in-Greet c =
    let w : Tables = c.args.self.now.node.tables in
    let P : Incoming → Type 0 = λ i. TookIncoming w i c.args.facts.now.items c.args.facts.now.items c.args.told.now.items c.greet.new.told.items w in
    let none : TookAll w (λ t. []) c.args.facts.now.items c.args.facts.now.items c.args.told.now.items c.args.told.now.items w = none_took_all w c.args.facts.now.items c.args.told.now.items in
    on_ok c.greet.result (λ told. subst P (sym c.in-Greet.is) (record {
      facts = none.facts;
      told = none.told;
      takes = λ bytes. none.takes;
      between = c.args.told.now.items;
      appended = none.appended;
      own = greeting_text w.plan w.here;
      told_is = told;
      own_is = λ parts agree. refl;
    })) c.greet.ensures

pub returns-in-Fetch : goal.returns-in-Fetch
returns-in-Fetch c =
    let w = c.args.self.now.node.tables in
    let within : c.in-Fetch.file.tenant < length w.plan.rows = subst (λ (i : Incoming). FitsPlan w.plan i) c.in-Fetch.is c.requires in
    let P : Incoming → Type 0 = λ i. TookIncoming w i c.args.facts.now.items c.fetch.new.facts.items c.args.told.now.items c.fetch.new.told.items c.fetch.new.self.node.tables in
    on_ok c.fetch.result (λ one. subst P (sym c.in-Fetch.is) (all_took w c.fetch.new.self.node.tables (Fetch c.in-Fetch.from c.in-Fetch.file) _ _ _ _
    (took_alone w c.fetch.new.self.node.tables c.in-Fetch.file.tenant (Fetching c.in-Fetch.from (file_place c.in-Fetch.file) ∷ []) _ _ _ _ within one) tt (λ parts. refl))) c.fetch.ensures

pub returns-in-Fetched : goal.returns-in-Fetched
returns-in-Fetched c =
    let w = c.args.self.now.node.tables in
    let within : c.in-Fetched.file.tenant < length w.plan.rows = subst (λ (i : Incoming). FitsPlan w.plan i) c.in-Fetched.is c.requires in
    let P : Incoming → Type 0 = λ i. TookIncoming w i c.args.facts.now.items c.fetched.new.facts.items c.args.told.now.items c.fetched.new.told.items c.fetched.new.self.node.tables in
    on_ok c.fetched.result (λ one. subst P (sym c.in-Fetched.is) (all_took w c.fetched.new.self.node.tables (Fetched c.in-Fetched.from c.in-Fetched.file c.in-Fetched.copy) _ _ _ _
    (took_alone w c.fetched.new.self.node.tables c.in-Fetched.file.tenant (WasFetched c.in-Fetched.from (file_place c.in-Fetched.file) c.in-Fetched.copy ∷ []) _ _ _ _ within one) tt (λ parts. refl))) c.fetched.ensures

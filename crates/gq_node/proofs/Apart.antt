-- What a node gives for a tenant is what the tenant's part does, whatever comes for others between.
use Rattle.std.proofs.Common.{◌≡◌, ◌∙◌, ℕ, Bool, true, false, List, [], ◌∷◌, refl, sym, ap, subst}
use Rattle.std.specs.Prelude.{◌==◌, if◌then◌else◌}
use Rattle.std.proofs.lemmas.Bool.{eqb-true, eqb-false}
use Rattle.gq_node.specs.declared.shorts.ShortOutput.{ShortOutput}
use Rattle.gq_node.specs.Apart.{Call, does_shortly, inputs_for, outputs_for, all_shortly, AllGive, GoesByPart, AllCallsAct, AllCallsByParts, AllGiveTheSame, AllTenantsApart}
use Rattle.gq_node.specs.Inputs.{Input, Asked, AskedPlan, AskedLook, Brought, Shortened, Ticked, Looked, Joined, Fetching, Fetched, does, after_one}
use Rattle.gq_node.specs.Local.{Local}
use Rattle.gq_node.specs.Shorts.{ShortDoing}
use Rattle.gq_node.specs.ShortSteps.{ActsShortly}
use Rattle.gq_node.specs.Sites.{Site, site_of}
use Rattle.gq_node.specs.Tables.{Tables, Agrees}
use Rattle.gq_node.proofs.Shortly.{wholly_shortly}

-- the node as the tenant sees it stays
same_site : (old next : Tables) (t : ℕ) → next.plan ≡ old.plan → next.here ≡ old.here → site_of next.plan next.here t ≡ site_of old.plan old.here t
same_site old next t plan here = ap (λ p. site_of p next.here t) plan ∙ ap (λ x. site_of old.plan x t) here

-- the part goes on as by the input
same_local : (input : Input) (site : Site) (local : Local) → (does_shortly input site local).doing.local ≡ (does input site local).local
same_local (Asked op line) site local = refl
same_local AskedPlan site local = refl
same_local (AskedLook mark volume) site local = refl
same_local (Brought from letter) site local = refl
same_local (Shortened from short bytes) site local = refl
same_local (Ticked session) site local = refl
same_local (Looked lane) site local = refl
same_local (Joined from losses) site local = refl
same_local (Fetching from file) site local = refl
same_local (Fetched from file copy) site local = refl

-- one call more before those that are so
one_call : (old next new : Tables) (call : Call) (rest : List Call) (t : ℕ) (local : Local) → ActsShortly old call.tenant (does_shortly call.input) call.given next → Agrees old t local →
    ((after : Local) → Agrees next t after → GoesByPart (site_of next.plan next.here t) new t after (inputs_for t rest) (outputs_for t rest)) →
    GoesByPart (site_of old.plan old.here t) new t local (inputs_for t (call ∷ rest)) (outputs_for t (call ∷ rest))
one_call old next new call rest t local acts agrees later = by (call.tenant == t) refl
  where
    site : Site
    site = site_of old.plan old.here t

    from_next : (after : Local) → Agrees next t after → GoesByPart site new t after (inputs_for t rest) (outputs_for t rest)
    from_next after there =
        subst (λ (s : Site). GoesByPart s new t after (inputs_for t rest) (outputs_for t rest)) (same_site old next t acts.leads.plan acts.leads.here) (later after there)

    by : (b : Bool) → (call.tenant == t) ≡ b →
        GoesByPart site new t local (if b then call.input ∷ inputs_for t rest else inputs_for t rest) (if b then call.given ∷ outputs_for t rest else outputs_for t rest)
    by true is =
        let own : ActsShortly old t (does_shortly call.input) call.given next = subst (λ u. ActsShortly old u (does_shortly call.input) call.given next) (eqb-true call.tenant t is) acts in
        let behind : GoesByPart site new t (after_one site local call.input) (inputs_for t rest) (outputs_for t rest) = from_next (after_one site local call.input) (subst (λ (l : Local). Agrees next t l) (same_local call.input site local) (own.leads.own local agrees)) in
        record { gives = (own.gives local agrees, behind.gives); agrees = behind.agrees }
    by false is = from_next local (acts.leads.others t (λ e. eqb-false call.tenant t is (sym e)) local agrees)

pub calls_by_parts : AllCallsByParts
calls_by_parts old new [] t local calls agrees = record { gives = tt; agrees = subst (λ (w : Tables). Agrees w t local) (sym calls) agrees }
calls_by_parts old new (call ∷ rest) t local calls agrees =
    one_call old calls.0 new call rest t local calls.1 agrees (λ after there. calls_by_parts calls.0 new rest t after calls.2 there)

-- ---- two runs

same_given : (t : ℕ) (doings : List ShortDoing) (ones twos : List ShortOutput) → AllGive t doings ones → AllGive t doings twos → AllGiveTheSame ones twos
same_given t [] [] [] one two = tt
same_given t [] [] (b ∷ twos) one two = absurd two
same_given t [] (a ∷ ones) twos one two = absurd one
same_given t (doing ∷ doings) [] twos one two = absurd one
same_given t (doing ∷ doings) (a ∷ ones) [] one two = absurd two
same_given t (doing ∷ doings) (a ∷ ones) (b ∷ twos) one two = (
  record {
    answer = one.0.gives.answer ∙ sym two.0.gives.answer;
    letters = one.0.gives.letters ∙ sym two.0.gives.letters;
    transfer = one.0.gives.transfer ∙ sym two.0.gives.transfer;
    fact = one.0.gives.fact ∙ sym two.0.gives.fact;
    short = one.0.short ∙ sym two.0.short;
  },
  same_given t doings ones twos one.1 two.1,
)

pub tenants_apart : AllTenantsApart
tenants_apart one two one_new two_new ones twos t local one_calls two_calls site one_agrees two_agrees came =
    let first = calls_by_parts one one_new ones t local one_calls one_agrees in
    let second = calls_by_parts two two_new twos t local two_calls two_agrees in
    let P : Site → List Input → Type 0 = λ s came. AllGive t (all_shortly s local came) (outputs_for t twos) in
    same_given t (all_shortly (site_of one.plan one.here t) local (inputs_for t ones)) (outputs_for t ones) (outputs_for t twos) first.gives
    (subst (P (site_of one.plan one.here t)) (sym came) (subst (λ s. P s (inputs_for t twos)) (sym site) second.gives))

-- ---- calls that no short letter makes

pub all_calls_act : AllCallsAct
all_calls_act old new t (Asked op line) given whole acts none = wholly_shortly old new t (does_shortly (Asked op line)) (does (Asked op line)) given (λ local agrees. refl) acts none
all_calls_act old new t AskedPlan given whole acts none = wholly_shortly old new t (does_shortly AskedPlan) (does AskedPlan) given (λ local agrees. refl) acts none
all_calls_act old new t (AskedLook mark volume) given whole acts none = wholly_shortly old new t (does_shortly (AskedLook mark volume)) (does (AskedLook mark volume)) given (λ local agrees. refl) acts none
all_calls_act old new t (Brought from letter) given whole acts none = wholly_shortly old new t (does_shortly (Brought from letter)) (does (Brought from letter)) given (λ local agrees. refl) acts none
all_calls_act old new t (Ticked session) given whole acts none = wholly_shortly old new t (does_shortly (Ticked session)) (does (Ticked session)) given (λ local agrees. refl) acts none
all_calls_act old new t (Looked lane) given whole acts none = wholly_shortly old new t (does_shortly (Looked lane)) (does (Looked lane)) given (λ local agrees. refl) acts none
all_calls_act old new t (Joined from losses) given whole acts none = wholly_shortly old new t (does_shortly (Joined from losses)) (does (Joined from losses)) given (λ local agrees. refl) acts none
all_calls_act old new t (Fetching from file) given whole acts none = wholly_shortly old new t (does_shortly (Fetching from file)) (does (Fetching from file)) given (λ local agrees. refl) acts none
all_calls_act old new t (Fetched from file copy) given whole acts none = wholly_shortly old new t (does_shortly (Fetched from file copy)) (does (Fetched from file copy)) given (λ local agrees. refl) acts none
all_calls_act old new t (Shortened from short bytes) given whole acts none = absurd whole

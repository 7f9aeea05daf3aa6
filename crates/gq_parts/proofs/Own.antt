-- What the code does with letters that are taken within: one letter more, one hop more, and the end.
use Rattle.std.proofs.Common.{◌≡◌, ◌≢◌, ◌∙◌, ℕ, suc, Bool, false, None, ◌+◌, ◌<◌, List, [], ◌∷◌, ◌++◌, length, get_or, take, map, refl, sym, ap, subst, arith, append_assoc, append-nil, add-one}
use Rattle.std.specs.Prelude.{All, not}
use Rattle.std.specs.Option.{option_to_list}
use Rattle.std.proofs.lemmas.List.{map-append, take_more}
use Rattle.std.proofs.lemmas.List.Concat.{flat_map-append}
use Rattle.std.proofs.lemmas.List.Elements.{All-append, All-filter, All-nil, filter-append}
use Rattle.gq_tag.specs.declared.Message.{Message}
use Rattle.gq_tag.specs.Tag.{OwnMessage, message_of, own_message}
use Rattle.gq_desk.specs.CheckedPlan.{CheckedPlan}
use Rattle.gq_model.specs.declared.events.Line.TheVariants.{Bad as NoLine}
use Rattle.gq_node.specs.declared.output.Output.{Output}
use Rattle.gq_node.specs.declared.output.Fact.{Fact}
use Rattle.gq_node.specs.Inputs.{Input, Brought, does, after_all, doings}
use Rattle.gq_node.specs.Local.{Local, Doing}
use Rattle.gq_node.specs.Sites.{Here, Site, site_of}
use Rattle.gq_node.specs.Tables.{Tables, Agrees, Acts, fact_of}
use Rattle.gq_facts.specs.Laws.{FitsFact}
use Rattle.gq_parts.specs.declared.laws.TheConstants.{MOST_HOPS}
use Rattle.gq_parts.specs.Within.{own_of, own_letters, brought, hops, left_behind}
use Rattle.gq_parts.specs.Texts.{step_text, doing_text, steps_text, own_facts}
use Rattle.gq_parts.specs.Steps.{IsOfTenant, Appended, goes_home, going_home, going_by_lines, table_line, table_lines, told_letters, TakesHop, TookHop, TookOwn}
use Rattle.gq_parts.proofs.Taking.{after_more, own_more, steps_more, doings_more, map_option, gave_plain, text_is, formed_is, home_is, appended_more, appended_none}
use Rattle.gq_parts.proofs.Hops.{hops_more, left_more}

-- ---- letters one by one

-- one element more of a list, by a function that goes over lists piece by piece
pub one_piece : {A B : Type 0} (g : List A → List B) → ((a b : List A) → g (a ++ b) ≡ g a ++ g b) → (old mid new : List B) (xs : List A) (i : ℕ) (x : A) → i < length xs → x ≡ get_or xs i x →
    mid ≡ old ++ g (take i xs) → new ≡ mid ++ g (x ∷ []) → new ≡ old ++ g (take (i + 1) xs)
one_piece g pieces old mid new xs i x within is before now =
    let one : take (i + 1) xs ≡ take i xs ++ x ∷ [] = take_more xs i x within ∙ ap (λ y. take i xs ++ y ∷ []) (sym is) in
    now ∙ ap (λ z. z ++ g (x ∷ [])) before ∙ append_assoc old (g (take i xs)) (g (x ∷ [])) ∙ ap (λ z. old ++ z) (sym (ap g one ∙ pieces (take i xs) (x ∷ [])))

pub lines_pieces : (again : Bool) (plan : CheckedPlan) (here : Here) (w : Tables) (a b : List Message) →
    told_letters again plan here w (a ++ b) ≡ told_letters again plan here w a ++ told_letters again plan here w b
lines_pieces again plan here w a b =
    ap (table_lines again plan here w) (filter-append (λ m. not (goes_home again plan here m)) a b) ∙ flat_map-append (table_line again plan here w) (going_by_lines again plan here a) (going_by_lines again plan here b)

pub own_pieces : (again : Bool) (plan : CheckedPlan) (here : Here) (a b : List Message) → going_home again plan here (a ++ b) ≡ going_home again plan here a ++ going_home again plan here b
own_pieces again plan here a b = filter-append (goes_home again plan here) a b

-- letters of one tenant, without it and with it again
letters_back : (t : ℕ) (ms : List Message) → All (IsOfTenant t) ms → map (message_of t) (map own_message ms) ≡ ms
letters_back t [] theirs = refl
letters_back t (m ∷ ms) theirs =
    let its : IsOfTenant t m = theirs 0 m (omega arith) in
    let of : ℕ → ℕ → Message = λ u v.
    record { tenant = u; session = m.session; op = m.op; round = m.round; server = m.server; file = record { tenant = v; volume = m.file.volume; file = m.file.file }; body = m.body } in
    ap (λ u. of u t ∷ map (message_of t) (map own_message ms)) (sym its.0)
    ∙ ap (λ v. of m.tenant v ∷ map (message_of t) (map own_message ms)) (sym its.1)
    ∙ ap (λ z. m ∷ z) (letters_back t ms (λ i d below. theirs (suc i) d (omega arith)))

-- ---- a hop

-- one letter alone
hop_alone : (old new : Tables) (t : ℕ) (letter : OwnMessage) (out : Output) → Acts old t (does (Brought old.here.node letter)) out new → All (IsOfTenant t) out.letters.items → All (FitsFact old.plan) (option_to_list out.fact) →
    TakesHop old t (letter ∷ []) (option_to_list out.fact) (step_text old.plan old.here t NoLine out.answer (told_letters false old.plan old.here new out.letters.items) out.transfer) (going_home false old.plan old.here out.letters.items) new
hop_alone old new t letter out acts theirs fit = record {
  plan = acts.leads.plan;
  here = acts.leads.here;
  part = λ local agrees. acts.leads.own local agrees;
  others = λ u other local agrees. acts.leads.others u other local agrees;
  gives = λ local agrees. (
      let doing : Doing = does one site local in
      ap option_to_list (acts.gives local agrees).fact ∙ map_option (fact_of t) doing.fact ∙ ap (map (fact_of t)) (sym (append-nil (option_to_list doing.fact))));
  tells = λ local agrees. text_is old t one out None new local (gave_plain old t one out new (λ site local. (refl, refl)) acts) agrees ∙ sym (append-nil (doing_text old.plan old.here t local one));
  writes = λ local agrees. (
      let doing : Doing = does one site local in
      ap (λ z. map own_message (going_home false old.plan old.here z)) (acts.gives local agrees).letters ∙ home_is false old.plan old.here t doing.letters ∙ sym (append-nil (own_of site doing.letters)));
  theirs = All-filter (goes_home false old.plan old.here) (IsOfTenant t) out.letters.items theirs;
  fit = fit;
}
  where
    site : Site
    site = site_of old.plan old.here t

    one : Input
    one = Brought old.here.node letter

-- and what that appends
pub took_letter : (old new : Tables) (t : ℕ) (letter : OwnMessage) (out : Output) (o0 o1 : List Message) (f0 f1 t0 t1 : List ℕ) → Acts old t (does (Brought old.here.node letter)) out new → All (IsOfTenant t) out.letters.items →
    All (FitsFact new.plan) (option_to_list out.fact) → Appended new.plan (option_to_list out.fact) (step_text new.plan new.here t NoLine out.answer (told_letters false new.plan new.here new out.letters.items) out.transfer) f0 f1 t0 t1 →
    o1 ≡ o0 ++ going_home false new.plan new.here out.letters.items → TookHop old t (letter ∷ []) o0 o1 f0 f1 t0 t1 new
took_letter old new t letter out o0 o1 f0 f1 t0 t1 acts theirs fit appended own =
    let P : CheckedPlan → Here → Type 0 = λ p s.
    All (FitsFact p) (option_to_list out.fact)
    × Appended p (option_to_list out.fact) (step_text p s t NoLine out.answer (told_letters false p s new out.letters.items) out.transfer) f0 f1 t0 t1
    × (o1 ≡ o0 ++ going_home false p s out.letters.items) in
    let h : P old.plan old.here = subst (λ p. P p old.here) acts.leads.plan (subst (λ s. P new.plan s) acts.leads.here (fit, appended, own)) in
    record {
      facts = option_to_list out.fact;
      told = step_text old.plan old.here t NoLine out.answer (told_letters false old.plan old.here new out.letters.items) out.transfer;
      own = going_home false old.plan old.here out.letters.items;
      takes = hop_alone old new t letter out acts theirs h.0;
      appended = h.1;
      own_is = h.2;
    }

-- no letter
pub took_no_letter : (w : Tables) (t : ℕ) (own : List Message) (f told : List ℕ) → TookHop w t [] own own f f told told w
took_no_letter w t own f told = record {
  facts = [];
  told = [];
  own = [];
  takes = record {
    plan = refl;
    here = refl;
    part = λ local agrees. agrees;
    others = λ u other local agrees. agrees;
    gives = λ local agrees. refl;
    tells = λ local agrees. refl;
    writes = λ local agrees. refl;
    theirs = All-nil (IsOfTenant t);
    fit = All-nil (FitsFact w.plan);
  };
  appended = appended_none w.plan f told;
  own_is = sym (append-nil own);
}

-- what the second of two calls did, by the plan and the number that the first had
record HopThen (plan : CheckedPlan) (here : Here) (m : Tables) (t : ℕ) (letters : List OwnMessage) (b : List Fact) (y : List ℕ) (own : List Message) (new : Tables) : Type 0 where
  part : (local : Local) → Agrees m t local → Agrees new t (after_all (site_of plan here t) local (brought (site_of plan here t) letters))
  gives : (local : Local) → Agrees m t local → b ≡ map (fact_of t) (own_facts (site_of plan here t) local (brought (site_of plan here t) letters))
  tells : (local : Local) → Agrees m t local → y ≡ steps_text plan here t local (brought (site_of plan here t) letters)
  writes : (local : Local) → Agrees m t local → map own_message own ≡ own_letters (site_of plan here t) (doings (site_of plan here t) local (brought (site_of plan here t) letters))
  fit : All (FitsFact plan) b

hop_then : (old m new : Tables) (t : ℕ) (letters : List OwnMessage) (b : List Fact) (y : List ℕ) (own : List Message) → m.plan ≡ old.plan → m.here ≡ old.here → TakesHop m t letters b y own new →
    HopThen old.plan old.here m t letters b y own new
hop_then old m new t letters b y own plan here q =
    subst (λ p. HopThen p old.here m t letters b y own new) plan
    (subst (λ h. HopThen m.plan h m t letters b y own new) here (record { part = q.part; gives = q.gives; tells = q.tells; writes = q.writes; fit = q.fit }))

-- more letters
hop_goes_on : (old m new : Tables) (t : ℕ) (xs ys : List OwnMessage) (a b : List Fact) (x y : List ℕ) (mine more : List Message) → TakesHop old t xs a x mine m → TakesHop m t ys b y more new →
    TakesHop old t (xs ++ ys) (a ++ b) (x ++ y) (mine ++ more) new
hop_goes_on old m new t xs ys a b x y mine more p q = record {
  plan = q.plan ∙ p.plan;
  here = q.here ∙ p.here;
  part = λ local agrees. subst (Agrees new t) (sym (ap (after_all site local) all ∙ after_more site local first rest)) (h.part (after_all site local first) (p.part local agrees));
  others = λ u other local agrees. q.others u other local (p.others u other local agrees);
  gives = λ local agrees. (
      let next : Local = after_all site local first in
      ap (λ z. z ++ b) (p.gives local agrees)
      ∙ ap (λ z. map (fact_of t) (own_facts site local first) ++ z) (h.gives next (p.part local agrees))
      ∙ sym (map-append (fact_of t) (own_facts site local first) (own_facts site next rest))
      ∙ ap (map (fact_of t)) (sym (own_more site local first rest))
      ∙ ap (λ is. map (fact_of t) (own_facts site local is)) (sym all));
  tells = λ local agrees. (
      let next : Local = after_all site local first in
      ap (λ z. z ++ y) (p.tells local agrees)
      ∙ ap (λ z. steps_text old.plan old.here t local first ++ z) (h.tells next (p.part local agrees))
      ∙ sym (steps_more old.plan old.here t local first rest)
      ∙ ap (steps_text old.plan old.here t local) (sym all));
  writes = λ local agrees. (
      let next : Local = after_all site local first in
      map-append own_message mine more
      ∙ ap (λ z. z ++ map own_message more) (p.writes local agrees)
      ∙ ap (λ z. own_letters site (doings site local first) ++ z) (h.writes next (p.part local agrees))
      ∙ sym (flat_map-append (λ (d : Doing). own_of site d.letters) (doings site local first) (doings site next rest))
      ∙ ap (own_letters site) (sym (doings_more site local first rest))
      ∙ ap (λ is. own_letters site (doings site local is)) (sym all));
  theirs = All-append (IsOfTenant t) mine more p.theirs q.theirs;
  fit = All-append (FitsFact old.plan) a b p.fit h.fit;
}
  where
    site : Site
    site = site_of old.plan old.here t

    first : List Input
    first = brought site xs

    rest : List Input
    rest = brought site ys

    all : brought site (xs ++ ys) ≡ first ++ rest
    all = map-append (λ m. Brought site.here m) xs ys

    h : HopThen old.plan old.here m t ys b y more new
    h = hop_then old m new t ys b y more p.plan p.here q

pub took_letters : (old m new : Tables) (t : ℕ) (xs ys : List OwnMessage) (o0 o1 o2 : List Message) (f0 f1 f2 t0 t1 t2 : List ℕ) → TookHop old t xs o0 o1 f0 f1 t0 t1 m → TookHop m t ys o1 o2 f1 f2 t1 t2 new →
    TookHop old t (xs ++ ys) o0 o2 f0 f2 t0 t2 new
took_letters old m new t xs ys o0 o1 o2 f0 f1 f2 t0 t1 t2 p q = record {
  facts = p.facts ++ q.facts;
  told = p.told ++ q.told;
  own = p.own ++ q.own;
  takes = hop_goes_on old m new t xs ys p.facts q.facts p.told q.told p.own q.own p.takes q.takes;
  appended = appended_more old.plan p.facts q.facts p.told q.told f0 f1 f2 t0 t1 t2 p.appended (subst (λ z. Appended z q.facts q.told f1 f2 t1 t2) p.takes.plan q.appended);
  own_is = q.own_is ∙ ap (λ z. z ++ q.own) p.own_is ∙ append_assoc o0 p.own q.own;
}

-- ---- several hops

-- the node took these letters and those that they give, for so many hops, and `own` are left
record TakesHops (many : ℕ) (old : Tables) (t : ℕ) (letters : List OwnMessage) (facts : List Fact) (told : List ℕ) (own : List Message) (new : Tables) : Type 0 where
  plan : new.plan ≡ old.plan
  here : new.here ≡ old.here
  part : (local : Local) → Agrees old t local → Agrees new t (after_all (site_of old.plan old.here t) local (hops many (site_of old.plan old.here t) local letters))
  others : (u : ℕ) → u ≢ t → (local : Local) → Agrees old u local → Agrees new u local
  gives : (local : Local) → Agrees old t local → facts ≡ map (fact_of t) (own_facts (site_of old.plan old.here t) local (hops many (site_of old.plan old.here t) local letters))
  tells : (local : Local) → Agrees old t local → told ≡ steps_text old.plan old.here t local (hops many (site_of old.plan old.here t) local letters)
  left : (local : Local) → Agrees old t local → map own_message own ≡ left_behind many (site_of old.plan old.here t) local letters
  fit : All (FitsFact old.plan) facts

pub record TookHops (many : ℕ) (old : Tables) (t : ℕ) (letters : List OwnMessage) (own : List Message) (f0 f1 t0 t1 : List ℕ) (new : Tables) : Type 0 where
  facts : List Fact
  told : List ℕ
  takes : TakesHops many old t letters facts told own new
  pub theirs : All (IsOfTenant t) own
  pub same_plan : new.plan ≡ old.plan
  appended : Appended old.plan facts told f0 f1 t0 t1

pub took_no_hop : (w : Tables) (t : ℕ) (first : List Message) (f told : List ℕ) → All (IsOfTenant t) first → TookHops 0 w t (map own_message first) first f f told told w
unfolding hops left_behind
took_no_hop w t first f told theirs = record {
  facts = [];
  told = [];
  takes = record {
    plan = refl;
    here = refl;
    part = λ local agrees. agrees;
    others = λ u other local agrees. agrees;
    gives = λ local agrees. refl;
    tells = λ local agrees. refl;
    left = λ local agrees. refl;
    fit = All-nil (FitsFact w.plan);
  };
  theirs = theirs;
  same_plan = refl;
  appended = appended_none w.plan f told;
}

-- one hop more
hops_go_on : (n : ℕ) (old m new : Tables) (t : ℕ) (letters : List OwnMessage) (a b : List Fact) (x y : List ℕ) (own next : List Message) → TakesHops n old t letters a x own m → TakesHop m t (map own_message own) b y next new →
    TakesHops (suc n) old t letters (a ++ b) (x ++ y) next new
hops_go_on n old m new t letters a b x y own next p q = record {
  plan = q.plan ∙ p.plan;
  here = q.here ∙ p.here;
  part = λ local agrees.
      subst (λ is. Agrees new t (after_all site local is)) (sym (hops_more n site local letters))
      (subst (Agrees new t) (sym (after_more site local (before local) (hop local)))
      (subst (λ ms. Agrees new t (after_all site (then local) (brought site ms))) (p.left local agrees) (h.part (then local) (p.part local agrees))));
  others = λ u other local agrees. q.others u other local (p.others u other local agrees);
  gives = λ local agrees.
      ap (λ z. z ++ b) (p.gives local agrees)
      ∙ ap (λ z. map (fact_of t) (own_facts site local (before local)) ++ z) (h.gives (then local) (p.part local agrees) ∙ ap (λ ms. map (fact_of t) (own_facts site (then local) (brought site ms))) (p.left local agrees))
      ∙ sym (map-append (fact_of t) (own_facts site local (before local)) (own_facts site (then local) (hop local)))
      ∙ ap (map (fact_of t)) (sym (own_more site local (before local) (hop local)))
      ∙ ap (λ is. map (fact_of t) (own_facts site local is)) (sym (hops_more n site local letters));
  tells = λ local agrees.
      ap (λ z. z ++ y) (p.tells local agrees)
      ∙ ap (λ z. steps_text old.plan old.here t local (before local) ++ z) (h.tells (then local) (p.part local agrees) ∙ ap (λ ms. steps_text old.plan old.here t (then local) (brought site ms)) (p.left local agrees))
      ∙ sym (steps_more old.plan old.here t local (before local) (hop local))
      ∙ ap (steps_text old.plan old.here t local) (sym (hops_more n site local letters));
  left = λ local agrees.
      h.writes (then local) (p.part local agrees)
      ∙ ap (λ ms. own_letters site (doings site (then local) (brought site ms))) (p.left local agrees)
      ∙ sym (left_more n site local letters);
  fit = All-append (FitsFact old.plan) a b p.fit h.fit;
}
  where
    site : Site
    site = site_of old.plan old.here t

    before : Local → List Input
    before local = hops n site local letters

    then : Local → Local
    then local = after_all site local (before local)

    hop : Local → List Input
    hop local = brought site (left_behind n site local letters)

    h : HopThen old.plan old.here m t (map own_message own) b y next new
    h = hop_then old m new t (map own_message own) b y next p.plan p.here q

pub took_hop : (n : ℕ) (old m new : Tables) (t : ℕ) (letters : List OwnMessage) (own next : List Message) (f0 f1 f2 t0 t1 t2 : List ℕ) → TookHops n old t letters own f0 f1 t0 t1 m →
    TookHop m t (map own_message own) [] next f1 f2 t1 t2 new → TookHops (n + 1) old t letters next f0 f2 t0 t2 new
took_hop n old m new t letters own next f0 f1 f2 t0 t1 t2 p q =
    let takes : TakesHop m t (map own_message own) q.facts q.told next new = subst (λ ms. TakesHop m t (map own_message own) q.facts q.told ms new) (sym q.own_is) q.takes in
    record {
      facts = p.facts ++ q.facts;
      told = p.told ++ q.told;
      takes = rw add-one (hops_go_on n old m new t letters p.facts q.facts p.told q.told own next p.takes takes);
      theirs = takes.theirs;
      same_plan = takes.plan ∙ p.same_plan;
      appended = appended_more old.plan p.facts q.facts p.told q.told f0 f1 f2 t0 t1 t2 p.appended (subst (λ z. Appended z q.facts q.told f1 f2 t1 t2) p.same_plan q.appended);
    }

-- behind the most hops what is left goes by lines
pub took_own : (old new : Tables) (t : ℕ) (letters : List OwnMessage) (own : List Message) (f0 f1 t0 t1 t2 : List ℕ) → TookHops MOST_HOPS old t letters own f0 f1 t0 t1 new →
    t2 ≡ t1 ++ table_lines false new.plan new.here new own → TookOwn MOST_HOPS old t letters f0 f1 t0 t2 new
took_own old new t letters own f0 f1 t0 t1 t2 p lines =
    let its : TakesHops MOST_HOPS old t letters p.facts p.told own new = p.takes in
    let site : Site = site_of old.plan old.here t in
    let P : CheckedPlan → Here → Type 0 = λ plan here. t2 ≡ t1 ++ table_lines false plan here new own in
    let left : P old.plan old.here = subst (λ plan. P plan old.here) its.plan (subst (λ here. P new.plan here) its.here lines) in
    let gone : List ℕ = table_lines false old.plan old.here new own in
    record {
      facts = p.facts;
      told = p.told ++ gone;
      takes = record {
        plan = its.plan;
        here = its.here;
        own = its.part;
        others = its.others;
        gives = its.gives;
        tells = λ local agrees. (
            let behind : List OwnMessage = left_behind MOST_HOPS site local letters in
            ap (λ z. z ++ gone) (its.tells local agrees)
            ∙ ap (λ ms. steps_text old.plan old.here t local (hops MOST_HOPS site local letters) ++ table_lines false old.plan old.here new ms) (sym (letters_back t own p.theirs) ∙ ap (map (message_of t)) (its.left local agrees))
            ∙ ap (λ z. steps_text old.plan old.here t local (hops MOST_HOPS site local letters) ++ z)
            (formed_is false old.plan old.here new t (after_all site local (hops MOST_HOPS site local letters)) behind its.plan its.here (its.part local agrees)));
        fit = its.fit;
      };
      appended = record { facts_are = p.appended.facts_are; told_is = left ∙ ap (λ z. z ++ gone) p.appended.told_is ∙ append_assoc t0 p.told gone };
    }

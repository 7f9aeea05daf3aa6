-- The worked case in tables: what a start makes of a journal.
use Rattle.std.proofs.Common.{◌≡◌, ◌≢◌, ◌∙◌, ℕ, zero, suc, ◌<◌, true, false, List, [], ◌∷◌, map, refl, sym, ap, subst, arith, None}
use Rattle.std.specs.Prelude.{⊤, ◌&&◌, not}
use Rattle.gq_grid.specs.Sets.{servers}
use Rattle.gq_tag.specs.declared.StoredCopy.{StoredCopy}
use Rattle.gq_tag.specs.declared.Body.TheVariants.{Store}
use Rattle.gq_tag.specs.Tag.{is_file, first_copy, greatest, newer_of}
use Rattle.gq_desk.specs.declared.volumes.VolumeRow.{VolumeRow}
use Rattle.gq_laws.proofs.Holding.{greatest-push}
use Rattle.gq_model.specs.Trace.{limit_at}
use Rattle.gq_cluster.specs.Cluster.{everyone}
use Rattle.gq_cluster.specs.Facts.{OwnFact, Begun, Numbered, Kept, Had}
use Rattle.gq_facts.specs.Facts.{fact_line, fact_of_line}
use Rattle.gq_facts.specs.Laws.{FitsOwn}
use Rattle.gq_facts.proofs.FactsBack.{facts_read_back}
use Rattle.gq_keeper.specs.Starting.{RecallsAll}
use Rattle.gq_node.specs.Lacks.{lacks_in}
use Rattle.gq_node.specs.Local.{Local, state_of, recalls, with_copy, file_fits, copy_fits}
use Rattle.gq_node.specs.Recalling.{own_fact, fits_in}
use Rattle.gq_node.specs.Resting.{recall_all}
use Rattle.gq_node.specs.Tables.{Tables, Agrees, Leads, fact_of}
use Rattle.gq_parts.specs.Recalls.{RecallsFact, RecallsTo, IsRecalled}
use Rattle.gq_parts.specs.Steps.{fact_lines}
use Rattle.gq_parts.specs.Worked.{grid_worked}
use Rattle.gq_parts.proofs.Reading.{its_fact}
use Rattle.gq_parts.proofs.Replacing.{is_plan}
use Rattle.gq_parts.proofs.Taking.{its_tenant}
use Rattle.gq_parts.proofs.WorkedSteps.{is_of_plan, given_all}
use Rattle.gq_parts.proofs.WorkedTables.{file, site, View, tables_of, Sees, agrees_of, sees_of}

-- what a start makes of a fact: session 1 rests behind the numbers that are reserved for it; the server has one copy more
abbrev pub recalled_view : OwnFact → View → View
recalled_view (Begun k op) v = record v {
  one = record { op = op; floor = v.one.reserved_floor; reserved_op = op; reserved_floor = v.one.reserved_floor; operation = None; outcome = None; row = v.one.row; column = v.one.column; waited = false; stays = 0 };
}
recalled_view (Numbered k number) v = record v {
  one = record { op = v.one.reserved_op; floor = number; reserved_op = v.one.reserved_op; reserved_floor = number; operation = None; outcome = None; row = v.one.row; column = v.one.column; waited = false; stays = 0 };
}
recalled_view (Kept f copy) v = record v { copy = newer_of v.copy copy }
recalled_view (Had f copy) v = record v { copy = newer_of v.copy copy; given = (true ∷ []) ∷ [] }

abbrev pub all_recalled_view : List OwnFact → View → View
all_recalled_view [] v = v
all_recalled_view (own ∷ facts) v = all_recalled_view facts (recalled_view own v)

-- a node with such tables reads the fact
pub record Reads (n p : ℕ) (v : View) (own : OwnFact) : Type 0 where
  pub said : FitsOwn own
  pub fits : fits_in (tables_of n p v) (fact_of 0 own) ≡ true
  pub leads : (local : Local) → Sees n p v local → Sees n p (recalled_view own v) (recalls own (site n p) local).local

abbrev pub AllRead : (n p : ℕ) → View → List OwnFact → Type 0
AllRead n p v [] = ⊤
AllRead n p v (own ∷ facts) = Reads n p v own × AllRead n p (recalled_view own v) facts

-- other tenants are not there
still_none : (n p t : ℕ) (v w : View) (local : Local) → v.joined ≡ w.joined → Agrees (tables_of n p v) (suc t) local → Agrees (tables_of n p w) (suc t) local
still_none n p t v w local same agrees = record {
  account = agrees.account;
  copies = agrees.copies;
  lacks = agrees.lacks;
  joined = ap servers (sym same) ∙ agrees.joined;
  peer = agrees.peer;
  session_states = agrees.session_states;
}

same_joined : (own : OwnFact) (v : View) → v.joined ≡ (recalled_view own v).joined
same_joined (Begun k op) v = refl
same_joined (Numbered k number) v = refl
same_joined (Kept f copy) v = refl
same_joined (Had f copy) v = refl

is_recalled : (n p : ℕ) (v : View) (own : OwnFact) → Reads n p v own → IsRecalled (tables_of n p v) (fact_of 0 own) (tables_of n p (recalled_view own v))
is_recalled n p v own reads = record {
  within = subst (λ t. t < 1) (sym (its_tenant 0 own)) (omega arith);
  fits = reads.fits;
  leads = subst (λ t. Leads old t (recalls (own_fact (fact_of 0 own))) new) (sym (its_tenant 0 own)) (subst (λ x. Leads old 0 (recalls x) new) (sym (its_fact 0 own)) leads);
  desk = refl;
}
  where
    old : Tables
    old = tables_of n p v

    new : Tables
    new = tables_of n p (recalled_view own v)

    other : (u : ℕ) → u ≢ 0 → (local : Local) → Agrees old u local → Agrees new u local
    other zero apart local agrees = absurd (apart refl)
    other (suc u) apart local agrees = still_none n p u v (recalled_view own v) local (same_joined own v) agrees

    leads : Leads old 0 (recalls own) new
    leads = record {
      plan = refl;
      here = refl;
      own = λ local agrees. agrees_of n p (recalled_view own v) (recalls own (site n p) local).local (reads.leads local (sees_of n p v local agrees));
      others = other;
    }

-- of the lines of facts that are read, all are
pub all_read : (n p : ℕ) (facts : List OwnFact) (v : View) → AllRead n p v facts → RecallsAll RecallsTo (tables_of n p v) (fact_lines grid_worked.plan (map (fact_of 0) facts)) (tables_of n p (all_recalled_view facts v))
all_read n p [] v reads = refl
all_read n p (own ∷ facts) v reads =
    let next : Tables = tables_of n p (recalled_view own v) in
    let said : fact_of_line grid_worked.plan (fact_line grid_worked.plan (fact_of 0 own)) ≡ _ = facts_read_back grid_worked.plan (fact_of 0 own) is_plan (is_of_plan own reads.0.said) in
    (next, subst (λ o. RecallsFact (tables_of n p v) o next) (sym said) (is_recalled n p v own reads.0), all_read n p facts (recalled_view own v) reads.1)

pub all_seen : (n p : ℕ) (facts : List OwnFact) (v : View) (local : Local) → AllRead n p v facts → Sees n p v local → Sees n p (all_recalled_view facts v) (recall_all (site n p) local facts)
all_seen n p [] v local reads sees = sees
all_seen n p (own ∷ facts) v local reads sees = all_seen n p facts (recalled_view own v) (recalls own (site n p) local).local reads.1 (reads.0.leads local sees)

-- ---- the facts of the case

-- one copy more
with_sees : (n p : ℕ) (v : View) (copy : StoredCopy) (local : Local) → Sees n p v local → Sees n p (record v { copy = newer_of v.copy copy }) (with_copy file copy local)
with_sees n p v copy local sees = record {
  volumes = sees.volumes;
  copy = ap (λ c. newer_of c copy) sees.copy ∙ sym (greatest-push first_copy copy (local.brought file));
  others = λ f other. (let same : (with_copy file copy local).brought f ≡ local.brought f = rw other refl in sees.others f other ∙ ap (λ cs. greatest (first_copy ∷ cs)) (sym same));
  lacks = sees.lacks;
  joined = sees.joined;
  peer = sees.peer;
  one = sees.one;
  two = sees.two;
}

-- it is one that the file may have
copy_is_right : (n p : ℕ) (v : View) (copy : StoredCopy) (local : Local) → copy_fits 64 copy ≡ true → Sees n p v local → file_fits (limit_at (state_of everyone local) 0 0) (Store copy) ≡ true
copy_is_right n p v copy local fits sees = ap (λ (vs : List VolumeRow). file_fits (limit_at (state_of everyone (record local { volumes = vs })) 0 0) (Store copy)) (sym sees.volumes) ∙ fits

pub kept_reads : (n p : ℕ) (v : View) (copy : StoredCopy) → FitsOwn (Kept file copy) → copy_fits 64 copy ≡ true → lacks_in v.given file ≡ false → Reads n p v (Kept file copy)
kept_reads n p v copy said fits has = record {
  said = said;
  fits = fits;
  leads = λ local sees. (
      let there : local.lacks file ≡ false = sym (sees.lacks file) ∙ has in
      let right : file_fits (limit_at (state_of everyone local) 0 0) (Store copy) ≡ true = copy_is_right n p v copy local fits sees in
      rw (there, right) (with_sees n p v copy local sees));
}

pub had_reads : (n p : ℕ) (v : View) (copy : StoredCopy) → FitsOwn (Had file copy) → copy_fits 64 copy ≡ true → v.given ≡ [] ∷ [] → Reads n p v (Had file copy)
had_reads n p v copy said fits lacks = record {
  said = said;
  fits = fits;
  leads = λ local sees. (
      let right : file_fits (limit_at (state_of everyone local) 0 0) (Store copy) ≡ true = copy_is_right n p v copy local fits sees in
      let with : Sees n p (record v { copy = newer_of v.copy copy }) (with_copy file copy local) = with_sees n p v copy local sees in
      rw right (record {
        volumes = with.volumes;
        copy = with.copy;
        others = with.others;
        lacks = λ f. given_all f.volume f.place ∙ ap (λ l. l && not (is_file file f)) (ap (λ g. lacks_in g f) (sym lacks) ∙ sees.lacks f);
        joined = with.joined;
        peer = with.peer;
        one = with.one;
        two = with.two;
      }));
}

-- the numbers that are reserved at the home
pub begun_reads : (op : ℕ) (v : View) → FitsOwn (Begun 1 op) → Reads 0 3 v (Begun 1 op)
begun_reads op v said = record {
  said = said;
  fits = refl;
  leads = λ local sees. record {
    volumes = sees.volumes;
    copy = sees.copy;
    others = sees.others;
    lacks = sees.lacks;
    joined = sees.joined;
    peer = sees.peer;
    one = record { op = refl; reserved_op = refl; reserved_floor = sees.one.reserved_floor; sits = sees.one.reserved_floor; outcome = refl; row = sees.one.row; column = sees.one.column; waited = refl; stays = refl };
    two = sees.two;
  };
}

pub numbered_reads : (number : ℕ) (v : View) → FitsOwn (Numbered 1 number) → Reads 0 3 v (Numbered 1 number)
numbered_reads number v said = record {
  said = said;
  fits = refl;
  leads = λ local sees. record {
    volumes = sees.volumes;
    copy = sees.copy;
    others = sees.others;
    lacks = sees.lacks;
    joined = sees.joined;
    peer = sees.peer;
    one = record { op = sees.one.reserved_op; reserved_op = sees.one.reserved_op; reserved_floor = refl; sits = refl; outcome = refl; row = sees.one.row; column = sees.one.column; waited = refl; stays = refl };
    two = sees.two;
  };
}

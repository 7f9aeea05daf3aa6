-- What a node takes of its journal where tenants went.
use Rattle.std.proofs.Common.{◌≡◌, ◌∙◌, ℕ, List, [], length, Bool, true, false, refl, sym, ap, subst, arith}
use Rattle.std.specs.Prelude.{Ok, Err, IsErr, Option, Some, None}
use Rattle.std.proofs.lemmas.Bool.{le-ltb}
use Rattle.gq_journal.specs.Batches.{batches_of, lines_text}
use Rattle.gq_keeper.specs.Plans.{first_plan, last_plan}
use Rattle.gq_setup.specs.Leaving.{without}
use Rattle.gq_setup.specs.Setups.{Setup, SetupReading}
use Rattle.gq_setup.specs.Texts.{setup_of_node_text}
use Rattle.gq_lines.specs.Words.{Word}
use Rattle.gq_service.specs.Both.{setup_read}
use Rattle.gq_service.specs.Gone.{IsRead, first_taken, more_gone, read_left, read_without, somebody_went}

-- ---- whether some went

-- by a setup by which nobody is gone nobody went
nobody_more : (reading : SetupReading Setup) (setup : Setup) → length setup.gone ≡ 0 → more_gone reading setup ≡ false
nobody_more (Ok old) setup none = le-ltb (length old.gone) (length setup.gone) (omega (arith, none))
nobody_more (Err fault) setup none = refl

pub nobody_went : (setup : Setup) (journal : List ℕ) → length setup.gone ≡ 0 → false ≡ somebody_went setup journal
nobody_went setup journal none = sym (nobody_more (setup_of_node_text (lines_text (last_plan [] (batches_of journal)))) setup none)

-- as the last plan was read
pub went_by : (setup : Setup) (journal last : List ℕ) (reading : SetupReading Setup) → last ≡ lines_text (last_plan [] (batches_of journal)) → setup_of_node_text last ≡ reading → somebody_went setup journal ≡ more_gone reading setup
went_by setup journal last reading is read = sym (ap (λ (t : List ℕ). more_gone (setup_of_node_text t) setup) is) ∙ ap (λ (r : SetupReading Setup). more_gone r setup) read

none_by : (reading : SetupReading Setup) (setup : Setup) → IsErr reading → more_gone reading setup ≡ false
none_by (Ok old) setup is = absurd (let e = is in cc)
none_by (Err fault) setup is = refl

-- nobody went where it was no plan
pub none_went : (setup : Setup) (journal last : List ℕ) → last ≡ lines_text (last_plan [] (batches_of journal)) → IsErr (setup_of_node_text last) → false ≡ somebody_went setup journal
none_went setup journal last is fault = sym (went_by setup journal last (setup_of_node_text last) is refl ∙ none_by (setup_of_node_text last) setup fault)

-- ---- what was read

pub as_read : (reading : SetupReading Setup) (read : Option Setup) → IsRead reading read → setup_read reading ≡ read
as_read (Ok setup) None is = absurd (let e = is in cc)
as_read (Err fault) None is = refl
as_read reading (Some setup) is = ap setup_read is

pub nothing_left : (gone : List Word) (reading : SetupReading Setup) → IsErr reading → IsErr (read_without gone reading)
nothing_left gone (Ok setup) is = is
nothing_left gone (Err fault) is = is

pub left_of : (gone : List Word) (reading : SetupReading Setup) (begun : Setup) (left : Option Setup) → reading ≡ Ok begun → left ≡ Some (without gone begun) → IsRead (read_without gone reading) left
left_of gone reading begun left read is = subst (λ (o : Option Setup). IsRead (read_without gone reading) o) (sym is) (ap (read_without gone) read)

pub left_went : (went : Bool) (setup : Setup) (reading : SetupReading Setup) (left : Option Setup) → went ≡ true → IsRead (read_without setup.gone reading) left → IsRead (read_left went setup reading) left
left_went went setup reading left is read = subst (λ b. IsRead (read_left b setup reading) left) (sym is) read

pub left_whole : (went : Bool) (setup : Setup) (reading : SetupReading Setup) (left : Option Setup) → went ≡ false → IsRead reading left → IsRead (read_left went setup reading) left
left_whole went setup reading left is read = subst (λ b. IsRead (read_left b setup reading) left) (sym is) read

-- ---- what a start begins with

-- the node's own plan, where a journal is to be begun
pub own_as_read : (setup told : Setup) (text first : List ℕ) (went : Bool) (before : Option Setup) → went ≡ false → first ≡ text → setup_of_node_text text ≡ Ok setup → IsRead (read_left went told (setup_of_node_text first)) before → IsRead (Ok setup) before
own_as_read setup told text first went before none is back read =
    subst (λ (reading : SetupReading Setup). IsRead reading before) back
    (subst (λ (t : List ℕ). IsRead (setup_of_node_text t) before) is (subst (λ b. IsRead (read_left b told (setup_of_node_text first)) before) none read))

-- the plan with which the journal begins
pub taken_as_read : (setup told : Setup) (seen first : List ℕ) (went : Bool) (before : Option Setup) → told ≡ setup → went ≡ somebody_went setup seen → first ≡ lines_text (first_plan (batches_of seen)) →
    IsRead (read_left went told (setup_of_node_text first)) before → IsRead (first_taken setup seen) before
taken_as_read setup told seen first went before says same is read =
    subst (λ b. IsRead (read_left b setup (setup_of_node_text (lines_text (first_plan (batches_of seen))))) before) same
    (subst (λ (s : Setup). IsRead (read_left went s (setup_of_node_text (lines_text (first_plan (batches_of seen))))) before) says
    (subst (λ (t : List ℕ). IsRead (read_left went told (setup_of_node_text t)) before) is read))

-- as it is, where nobody went
pub whole_as_read : (told : Setup) (seen first : List ℕ) (went : Bool) (before : Option Setup) → went ≡ false → first ≡ lines_text (first_plan (batches_of seen)) → IsRead (read_left went told (setup_of_node_text first)) before →
    IsRead (setup_of_node_text (lines_text (first_plan (batches_of seen)))) before
whole_as_read told seen first went before none is read =
    subst (λ (t : List ℕ). IsRead (setup_of_node_text t) before) is (subst (λ b. IsRead (read_left b told (setup_of_node_text first)) before) none read)

-- The lines of an order, which are those of the tenant's run by itself.
use Rattle.std.proofs.Common.{◌≡◌, ◌∙◌, ℕ, List, [], ◌∷◌, ◌++◌, Option, Some, None, map, refl, sym, ap, codes}
use Rattle.std.specs.Prelude.{slice_get}
use Rattle.gq_tag.specs.Tag.{File}
use Rattle.std.specs.List.{flat_map}
use Rattle.gq_desk.specs.CheckedPlan.{CheckedPlan, row_at}
use Rattle.gq_model.specs.declared.events.Event.{Event}
use Rattle.gq_model.specs.Events.{own}
use Rattle.gq_laws.specs.declared.ops.Op.{Op}
use Rattle.gq_laws.specs.Operations.{ops_at}
use Rattle.gq_laws.specs.Orders.{order}
use Rattle.gq_laws.specs.Laws.{IsRising, lone_operations}
use Rattle.gq_laws.specs.Tenants.{tenant_operations}
use Rattle.gq_laws.proofs.OtherPlaces.{moved_op}
use Rattle.gq_laws.proofs.OtherOrders.{order_same, ops_at_same}
use Rattle.gq_laws.proofs.AllTenants.{operations_alone, place_in_all, place_rises}
use Rattle.gq_text.specs.Input.{event_of}
use Rattle.gq_lines.specs.Lines.{joined}
use Rattle.gq_script.specs.Out.{output_lines}
use Rattle.gq_script.specs.Linearizable.{operations_of}
use Rattle.gq_files.specs.Orders.{operation_line_at, op_line, op_lines, ordered}
use Rattle.gq_script.specs.Seeing.{seen_events}
use Rattle.gq_script.proofs.Answering.{own_seen}

-- what is written of the operations does not tell their places
line_moved : (f : ℕ → ℕ) (a : Op) → op_line (moved_op f a) ≡ op_line a
line_moved f a = refl

lines_moved : (f : ℕ → ℕ) (ops : List Op) → joined (map op_line (map (moved_op f) ops)) ≡ joined (map op_line ops)
lines_moved f [] = refl
lines_moved f (a ∷ ops) = ap (λ more. op_line a ++ more) (lines_moved f ops)

ordered_moved : (f : ℕ → ℕ) → IsRising f → (ops : List Op) → ordered (map (moved_op f) ops) ≡ ordered ops
ordered_moved f rises ops =
    ap (λ text. text ++ codes "legal" ++ 10 ∷ [])
    (ap (op_lines (map (moved_op f) ops)) (order_same f rises ops)
    ∙ (ap (λ all. joined (map op_line all)) (ops_at_same f ops (order ops)) ∙ lines_moved f (ops_at ops (order ops))))

-- the order is that of the tenant's run by itself, and so that of what the tenant sees
ordered_alone : (plan : CheckedPlan) (t : ℕ) (events : List Event) (file : File) → ordered (tenant_operations plan events t file) ≡ ordered (lone_operations plan.grid (row_at plan t) (own t events) file)
ordered_alone plan t events file = ap ordered (operations_alone plan events t file) ∙ ordered_moved (place_in_all t 0 events) (place_rises t 0 events) (lone_operations plan.grid (row_at plan t) (own t events) file)

ordered_seen : (plan : CheckedPlan) (t : ℕ) (events : List Event) (file : File) → ordered (tenant_operations plan (seen_events (Some t) events) t file) ≡ ordered (tenant_operations plan events t file)
ordered_seen plan t events file =
    ordered_alone plan t (seen_events (Some t) events) file
    ∙ (ap (λ turns. ordered (lone_operations plan.grid (row_at plan t) turns file)) (own_seen t events) ∙ sym (ordered_alone plan t events file))

-- what is written behind the answers, where the operations are read off what the tenant sees
pub order_written : (plan world_plan : CheckedPlan) (t : ℕ) (file : File) (lines : List (List ℕ)) (kept : List Event) (text out : List ℕ) → world_plan ≡ plan → kept ≡ seen_events (Some t) (map (event_of plan) lines) → text ≡ joined (output_lines plan lines)
    → out ≡ text ++ ordered (tenant_operations world_plan kept t file) → out ≡ joined (output_lines plan lines) ++ ordered (operations_of plan lines t file)
order_written plan world_plan t file lines kept text out is seen told written =
    written
    ∙ (ap (λ z. z ++ ordered (tenant_operations world_plan kept t file)) told
    ∙ ap (λ z. joined (output_lines plan lines) ++ z)
    (ap (λ p. ordered (tenant_operations p kept t file)) is ∙ (ap (λ events. ordered (tenant_operations plan events t file)) seen ∙ ordered_seen plan t (map (event_of plan) lines) file)))

-- the lines of the operations at the places, each by itself
pub lines_at : (ops : List Op) (places : List ℕ) → flat_map (operation_line_at ops) places ≡ op_lines ops places
lines_at ops [] = refl
lines_at ops (i ∷ places) = by (slice_get ops i) refl (lines_at ops places)
  where
    by : (o : Option Op) → slice_get ops i ≡ o → flat_map (operation_line_at ops) places ≡ op_lines ops places → flat_map (operation_line_at ops) (i ∷ places) ≡ op_lines ops (i ∷ places)
    by None is later = rw is later
    by (Some a) is later = rw is (ap (λ more. op_line a ++ more) later)

-- Registers and chunks of a node are blank, and of its plan.
use Rattle.std.proofs.Common.{List, ℕ, sym, subst}
use Rattle.gq_journal.specs.Batches.{whole_lines, lines_text}
use Rattle.gq_machine.specs.Machines.{tables_of, MachineIsOf}
use Rattle.gq_setup.specs.Laws.{here_of}
use Rattle.gq_setup.specs.Setups.{Setup}
use Rattle.gq_setup.specs.Texts.{setup_of_node_text, first_read}
use Rattle.gq_service.specs.Serving.{IsOwnText, first_of_read, volumes_in}
use Rattle.gq_service.proofs.NewBoth.{blank_as_read, new_as_read, of_by_text}
use Rattle.gq_service.proofs.NewNodes.{own_text, read_is, same_lost}
use Rattle.gq_service.proofs.NewRegisters.{new_is_blank, new_is_of}
use Rattle.gq_service.proofs.both.WithChunksMakerPairNodeMachineChunkMachineFileShelfByVerb.make.Goals as goal

pub returns-clause-new : goal.returns-clause-new
returns-clause-new g c = λ reading is.
    let setup : Setup = c.args.node.now.plan.setup in (
      same_lost setup.plan (here_of c.args.node.now.number setup) (λ t. volumes_in t setup.openings) (first_of_read c.args.before.now) (first_read reading) (tables_of c.in_ok-registers.registers)
          (read_is reading c.args.before.now is) c.in_ok-registers.ensures,
      new_as_read setup c.args.node.now.number c.args.before.now reading _ is c.in_ok-chunks.ensures,
    )

pub returns-clause-blank : goal.returns-clause-blank
returns-clause-blank g c = λ lines is.
    let setup : Setup = c.args.node.now.plan.setup in
    let number : ℕ = c.args.node.now.number in (
      new_is_blank setup number lines c.in_ok-registers.registers
          (same_lost setup.plan (here_of number setup) (λ t. volumes_in t setup.openings) (first_of_read c.args.before.now) (first_read (setup_of_node_text (lines_text lines))) (tables_of c.in_ok-registers.registers)
          (read_is (setup_of_node_text (lines_text lines)) c.args.before.now is) c.in_ok-registers.ensures),
      blank_as_read setup number c.args.before.now lines _ is c.in_ok-chunks.ensures,
    )

pub returns-clause-of_plan : goal.returns-clause-of_plan
returns-clause-of_plan g c =
    let setup : Setup = c.args.node.now.plan.setup in
    let number : ℕ = c.args.node.now.number in
    let own : IsOwnText setup number = own_text setup number c.args.node.now.plan.text.items c.args.node.now.text c.args.node.now.is_plan c.args.node.now.back c.args.node.now.volumes in (
      subst (λ (t : List ℕ). MachineIsOf (whole_lines t) c.in_ok-registers.registers) (sym c.args.node.now.text) (new_is_of setup number (first_of_read c.args.before.now) c.in_ok-registers.registers own c.in_ok-registers.ensures),
      of_by_text setup number c.args.node.now.plan.text.items c.args.before.now _ c.args.node.now.text own c.in_ok-chunks.ensures,
    )

-- How what a step of a run tells is told of the run.
use Rattle.gq_text.specs.declared.plan_text.PlanText.{PlanText}
use Rattle.gq_text.specs.declared.plan_text.PlanText.TheVariants.{Fault as PlanFault, Memory as PlanMemory}
use Rattle.gq_script.specs.declared.script.ReadFault.{ReadFault}
use Rattle.gq_script.specs.declared.script.ReadFault.TheVariants.{Read as NotRead, TooBig as ReadTooMuch, Memory as ReadMemory}
use Rattle.gq_script.specs.declared.script.RunFault.{RunFault}
use Rattle.gq_script.specs.declared.script.RunFault.TheVariants.{Read, TooBig, Plan, Memory}

-- that the input was not read whole
abbrev pub of_reading : ReadFault → RunFault
of_reading NotRead = Read
of_reading ReadTooMuch = TooBig
of_reading (ReadMemory refused) = Memory refused

-- that the text gives no plan
abbrev pub of_plan : PlanText → RunFault
of_plan (PlanFault line fault) = Plan line fault
of_plan (PlanMemory refused) = Memory refused

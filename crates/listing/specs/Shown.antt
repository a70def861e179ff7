-- What a file is read as, of the plan that was accepted.
use Rattle.std.specs.Prelude.{Result, Ok, Err}
use Rattle.refusal.specs.Number.{number_of}
use Rattle.refusal.specs.declared.Refusal.{Refusal}
use Rattle.plan.specs.Held.{no_plan}
use Rattle.plan.specs.declared.accepted.AcceptedPlan.{AcceptedPlan}
use Rattle.planfile.specs.Answers.{ReadAnswer}

abbrev pub accepted_shown : Result AcceptedPlan Refusal → ReadAnswer
accepted_shown (Ok accepted) = record { refusal = 0; plan = accepted.plan.now }
accepted_shown (Err refusal) = record { refusal = number_of refusal; plan = no_plan }

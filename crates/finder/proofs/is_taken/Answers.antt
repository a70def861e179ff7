-- `finder::is_taken` looks the number up.
use mathlib.Core.Path.{◌∙◌}
use Rattle.finder.specs.Find.{parts_taken}
use Rattle.finder.proofs.Parts.{any_among}
use Rattle.finder.proofs.is_taken.Goals as goal

pub returns : goal.returns
unfolding parts_taken
returns c = c.contains.ensures.value ∙ any_among parts_taken c.args.parts

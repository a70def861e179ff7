-- What is no kind has no body.
use mathlib.Core.Path.{sym}
use borrow.Author.Rules.{rules}
use Rattle.planfile.proofs.Bodies.{size_none}
use Rattle.planfile.proofs.shaped.Shaped.size_of.Goals as goal

pub returns-in-None : goal.returns-in-None
returns-in-None c = sym (size_none c.args.self.now.shape (search rules) c.args.number c.in-None.ensures)

-- `becketgrape::planner_fund` puts down what the call on the file answers.
use mathlib.Core.Path.{refl, sym, subst}
use mir.Syntax.{w64}
use mir.Val.{SFits}
use Rattle.std.proofs.Common.{rules}
use Rattle.whole.proofs.Range.{back}
use Rattle.reckoning.specs.Answers.{fund_shown}
use Rattle.reckoning.proofs.Level.{level_every_year}
use Rattle.planner.specs.Calls.{no_fund, fund_answer}
use Rattle.planner.specs.Demand3.{FundNear}
use Rattle.becketgrape.specs.Calls.{fund_of_file}
use Rattle.becketgrape.specs.Level.{LevelOfFile}
use Rattle.becketgrape.proofs.OnFile.{file_answered, fund_put, fund_near, level_of_file}
use Rattle.becketgrape.proofs.planner_fund.Goals as goal

pub returns : goal.returns
unfolding fund_of_file
returns c =
    let a = c.on_file-answer.ensures in
    let t = c.args.pattern in
    let shown = file_answered no_fund fund_shown (λ e. refl) c.args.file.now (λ P. fund_answer P t) c.on_file-answer.result a.refused a.called (λ plan k. search rules) in
    let e = fund_put c.on_file-answer.result c.number_in.ensures c.unwrap_or.ensures shown in
    let z : SFits w64 c.unwrap_or.result = search rules in
    record {
      is = simp (back, z) e;
      near = simp (back, z) (subst (FundNear _ _) (sym e) (fund_near _ _));
      level = simp (back, z) (subst (LevelOfFile _ _) (sym e) (level_of_file _ _));
      theorem = level_every_year;
    }

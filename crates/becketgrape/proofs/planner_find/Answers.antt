-- `becketgrape::planner_find` puts down what the call on the file answers.
use mathlib.Core.Path.{refl, sym, ap, ◌∙◌, subst}
use mathlib.Core.Bool.{Bool, true, false}
use Prim.Native.Nat.{ℕ, ◌≤◌}
use native.Mathlib.Omega.{arith}
use mir.Val.{bool_byte}
use Rattle.std.proofs.Common.{rules}
use mathlib.Core.List.{List}
use lib.ListN.{replicate}
use Rattle.std.specs.Prelude.{Option, is_some, unwrap_or}
use Rattle.finder.specs.Claims.{FindTrue}
use Rattle.finder.specs.Find.{not_found, find_answer}
use Rattle.finder.specs.Shown.{find_shown}
use Rattle.finder.specs.Answers.{FindAnswer}
use Rattle.finder.proofs.Alike.{find_alike}
use Rattle.becketgrape.specs.Calls.{find_of_file}
use Rattle.becketgrape.proofs.OnFile.{file_answered, find_put, find_true_of, find_11_of}
use Rattle.becketgrape.proofs.planner_find.Goals as goal

bit : (b : Bool) → bool_byte b ≤ 1
bit true = omega arith
bit false = omega arith

pub returns : goal.returns
unfolding find_of_file
returns c =
    let a = c.on_file-answer.ensures in
    let D = c.args.parts in
    let shown = file_answered not_found find_shown (λ e. refl) c.args.file.now (λ P. find_answer P D) c.on_file-answer.result a.refused a.called (λ plan k. search rules) in
    let one = c.unwrap_or-allocation.ensures in
    let found = c.from.ensures ∙ ap bool_byte (c.is_some.ensures ∙ ap is_some one) in
    let shares = c.unwrap_or.ensures ∙ ap (λ (x : Option (List ℕ)). unwrap_or x (replicate 16 0)) one in
    let e = find_put c.on_file-answer.result c.number_in.ensures found shares shown in
    record {
      is = e;
      bit = subst (λ (n : ℕ). n ≤ 1) (sym found) (bit _);
      says = subst (FindTrue _ _) (sym e) (find_true_of _ _);
      never = λ h. find_11_of _ _ (ap (λ (s : FindAnswer). s.refusal) (sym e) ∙ h);
      alike = find_alike _ _;
    }

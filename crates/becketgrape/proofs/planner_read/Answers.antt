-- `becketgrape::planner_read` puts down what the file was read as.
use mathlib.Core.Path.{◌≡◌, sym, ap, ◌∙◌}
use denote.Ref.{Bor}
use Rattle.std.specs.Prelude.{Result, Ok, Err}
use Rattle.std.specs.Result.{result_copied, result_unwrap_or}
use Rattle.refusal.specs.declared.Refusal.{Refusal}
use Rattle.plan.specs.declared.Plan.{Plan}
use Rattle.plan.specs.Held.{no_plan}
use Rattle.planfile.specs.Answers.{ReadAnswer}
use Rattle.planfile.specs.Demand2.{OneFile}
use Rattle.arrays.specs.Arrays.{all_counts, all_amounts, all_shares, all_rates}
use Rattle.becketgrape.proofs.OnFile.{read_put, kept_put}
use Rattle.becketgrape.proofs.Join.{arrays_kept}
use Rattle.becketgrape.proofs.planner_read.Goals as goal

-- the plan that is lent: that which was read, or the empty one
lent : (r : Result (Bor Plan) (Bor Refusal)) (none : Bor Plan) {plan : Bor Plan} {found : Result Plan Refusal} → plan ≡ result_unwrap_or r none → result_copied r ≡ found → none.now ≡ no_plan
    → plan.now ≡ result_unwrap_or found no_plan
lent (Ok plan) none e f g = rw (e, ← f)
lent (Err refusal) none e f g = rw (e, ← f) g

pub returns : goal.returns
returns c =
    let found = c.read-found.result in
    let plan = lent c.as_ref.result _ c.unwrap_or-plan.ensures c.as_ref.ensures.value c.empty-empty.ensures in
    let e = read_put found c.number_in.ensures plan c.read-found.ensures.is in
    let s = c.args.file.now in
    let kept = kept_put (OneFile s) no_plan found c.read-found.ensures.kept in
    record {
      value = ap (λ (a : ReadAnswer). a.refusal) e;
      counts_after = c.put_counts.ensures ∙ ap (λ (a : ReadAnswer). all_counts a.plan) e;
      amounts_after = c.put_amounts.ensures ∙ ap (λ (a : ReadAnswer). all_amounts a.plan) e;
      shares_after = c.put_shares.ensures ∙ ap (λ (a : ReadAnswer). all_shares a.plan) e;
      rates_after = c.put_rates.ensures ∙ ap (λ (a : ReadAnswer). all_rates a.plan) e;
      kept = arrays_kept e (λ h. rw plan (kept (sym c.number_in.ensures ∙ h))) c.put_counts.ensures c.put_amounts.ensures c.put_shares.ensures c.put_rates.ensures;
    }

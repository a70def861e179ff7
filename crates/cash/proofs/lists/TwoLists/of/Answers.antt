-- `cash::lists::TwoLists::of` is check 5.
use Rattle.cash.proofs.ListLaws.{lengths_first, lengths_second, lengths_none}
use Rattle.cash.proofs.lists.TwoLists.of.Goals as goal
use Rattle.cash.proofs.lists.TwoLists.of.Goals.{then-lending-years-via-then-lending-years, then-lending-years-via-else-lending-years+then-borrowing-years}

pub returns-then-lending-years-clause-is : goal.returns-then-lending-years-clause-is
returns-then-lending-years-clause-is c =
    elim c.then-lending-years.branch [
      | then-lending-years-via-then-lending-years w ↦ lengths_first _ _ _ w.if-lending-years.true
      | then-lending-years-via-else-lending-years+then-borrowing-years w ↦ lengths_second _ _ _ w.if-borrowing-years.true
    ]

pub returns-clause-is : goal.returns-clause-is
returns-clause-is c = lengths_none _ _ _ c.if-lending-years.false c.if-borrowing-years.false

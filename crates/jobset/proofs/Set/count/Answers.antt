-- `jobset::Set::count` meets its contract: the iterator gives the members, and they are as many as the size. Assumes nothing.
use Rattle.std.proofs.Common.{rules, arith, inl, ◌≡◌, ◌≤◌, ap, length}
use Rattle.std.proofs.lemmas.Iterator.Consumers.{count_from_yields_List, YieldsList-from_first}
use Rattle.jobset.specs.Sets.{members}
use Rattle.jobset.specs.Size.{size-members, size-most}
use Rattle.jobset.proofs.Set.count.Goals as goal
use Rattle.jobset.proofs.Set.count.Goals.{After-into_iter, After-count, at-After-count}

-- the iterator has all members
all : (c : After-into_iter) → members c.into_iter.result.rest ≡ members c.args.self
all c = ap members c.into_iter.ensures

-- they are few
few : (c : After-into_iter) → length (members c.args.self) ≤ 64
few c = size-most c.args.self (search rules)

-- so many were counted
counted : (c : After-count) → c.count.result ≡ length (members c.args.self)
counted c = count_from_yields_List _ _ c.count.ensures.ran (YieldsList-from_first (λ x. x) (λ s. members s.rest) _ (all (at-After-count c).After-into_iter))

pub count-requires-clause-fits : goal.count-requires-clause-fits
count-requires-clause-fits c = inl (let d = (goal.at.count-requires-clause-fits c).After-into_iter in rw (all d) (omega (arith, few d)))

pub overflow_cast-result : goal.overflow_cast-result
overflow_cast-result c = let d = goal.at.overflow_cast-result c in omega (arith, counted d.After-count, few (at-After-count d.After-count).After-into_iter)

pub returns : goal.returns
returns c =
    let d = (goal.at.returns c).After-count in
    omega (arith, counted d, few (at-After-count d).After-into_iter, size-members c.args.self (search rules))

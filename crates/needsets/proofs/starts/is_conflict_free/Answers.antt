-- `needsets::starts::is_conflict_free` meets its contract. Assumes nothing.
use Rattle.std.proofs.Common.{◌≡◌, ℕ, ◌*◌, Bool, true, false, not, refl, arith, rules}
use borrow.Author.Tests.{tests}
use Rattle.std.proofs.lemmas.Iterator.{cases_from_all, YieldsList-from_range}
use Rattle.needsets.specs.Starts.{conflicts, conflict_free}
use Rattle.needsets.proofs.Runs.{all-below}
use Rattle.needsets.proofs.starts.is_conflict_free.Goals as goal

pub returns : goal.returns
unfolding conflict_free
returns c =
    let a = c.args in
    let places = a.jobs * a.jobs in
    let free : ℕ → Bool = λ e. not (conflicts a.jobs a.number a.starts.now a.place e) in
    all-below free places c.all.result
    (cases_from_all _ _ _ (λ e. free e ≡ true) (λ e. free e ≡ false) c.all.ensures.ran (YieldsList-from_range 0 places places refl (omega arith))
    (λ x q k. search (rules, tests)) (λ x q k. search (rules, tests)))

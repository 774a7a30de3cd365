-- `implied::put_row` meets its contract: before each turn the pairs of the takers that are left are to come. Assumes nothing.
use Rattle.std.proofs.Common.{◌≡◌, ℕ, ◌<◌, Bool, true, false, List, [], ◌∷◌, ◌++◌, refl, sym, ◌∙◌, arith}
use mathlib.Core.List.Memᴰ
use Rattle.rules.specs.Sizes.{max_jobs}
use Rattle.rules.specs.Basics.{choose, filter}
use Rattle.rules.specs.Implied.{pair_numbers}
use Rattle.releases.specs.Peels.{left}
use Rattle.implied.specs.Beyond.{in_row}
use Rattle.implied.specs.Listing.{pairs_of, Few}
use Rattle.implied.specs.Writing.{come-room, come-put, come-size, come-end}
use Rattle.implied.proofs.put_row.Goals as goal
use Rattle.implied.proofs.put_row.Goals.{In-Some}

-- the pairs of g with the takers that pass, where the first does, and where it does not
pairs-yes : (p : ℕ → Bool) (g k : ℕ) (ks xs : List ℕ) → xs ≡ k ∷ ks → p k ≡ true
    → pairs_of g (filter p xs) ≡ pair_numbers ((g, k) ∷ []) ++ pairs_of g (filter p ks)
unfolding filter choose pair_numbers
pairs-yes p g k ks xs e t = rw (e, t) refl

pairs-no : (p : ℕ → Bool) (g k : ℕ) (ks xs : List ℕ) → xs ≡ k ∷ ks → p k ≡ false
    → pairs_of g (filter p xs) ≡ pairs_of g (filter p ks)
unfolding filter choose pair_numbers
pairs-no p g k ks xs e t = rw (e, t) refl

pairs-none : (p : ℕ → Bool) (g : ℕ) (xs : List ℕ) → xs ≡ [] → pairs_of g (filter p xs) ≡ []
unfolding filter pair_numbers
pairs-none p g xs e = rw e refl

-- the takers that are left are jobs of a file, the next one first
few : (c : In-Some) → Few (c.in-Some.taker ∷ left c.next.new.self)
few c = rw c.in-Some.ensures.steps at c.loop-taker.invariant.0

-- the next taker is a job of a file
taker-few : (c : In-Some) → c.in-Some.taker < max_jobs
taker-few c = few c c.in-Some.taker (Memᴰ.head refl)

pub marked-requires : goal.marked-requires
marked-requires c =
    let r = c.requires.0 in
    omega (arith, r.room, c.requires.1, taker-few (goal.at.marked-requires c).In-Some)

pub overflow_add-giver : goal.overflow_add-giver
overflow_add-giver c = omega (arith, taker-few (goal.at.overflow_add-giver c).In-Some)

pub put_pair-requires : goal.put_pair-requires
unfolding pair_numbers
put_pair-requires c =
    let g = c.args.giver in
    let p = c.requires in
    let e = pairs-yes (in_row c.args.beyond.now g) g _ _ _ c.in-Some.ensures.steps (sym c.marked.ensures ∙ c.if-marked.true) in (
      omega (arith, p.1, p.0.rows_of.jobs-few),
      taker-few (goal.at.put_pair-requires c).In-Some,
      come-room c.loop-taker.invariant.1 (pair_numbers ((g, c.in-Some.taker) ∷ [])) _ e p.2,
    )

pub loop-taker-preserved-then-marked : goal.loop-taker-preserved-then-marked
unfolding pair_numbers
loop-taker-preserved-then-marked c =
    let g = c.args.giver in
    let e = pairs-yes (in_row c.args.beyond.now g) g _ _ _ c.in-Some.ensures.steps (sym c.marked.ensures ∙ c.if-marked.true) in (
      λ k m. few (goal.at.loop-taker-preserved-then-marked c).In-Some k (Memᴰ.tail m),
      come-put c.loop-taker.invariant.1 (pair_numbers ((g, c.in-Some.taker) ∷ [])) _ e _ _ refl c.put_pair.ensures,
    )

pub loop-taker-preserved : goal.loop-taker-preserved
loop-taker-preserved c =
    let g = c.args.giver in
    let e = pairs-no (in_row c.args.beyond.now g) g _ _ _ c.in-Some.ensures.steps (sym c.marked.ensures ∙ c.if-marked.false) in
    (λ k m. few (goal.at.loop-taker-preserved c).In-Some k (Memᴰ.tail m), rw e at c.loop-taker.invariant.1)

pub returns : goal.returns
returns c =
    let w = c.loop-taker.invariant.1 in
    let z = pairs-none _ _ _ c.in-None.ensures.steps.0 in
    record { size = come-size w z; entries = come-end w z }

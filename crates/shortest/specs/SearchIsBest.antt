-- One length of the search over places, where no list is below it: it gives exactly the best start list of the rules, or none is so short.
-- Assumes nothing.
use Rattle.std.specs.Prelude.{◌≡◌, true, false, List, ℕ, suc, ◌≤◌, ◌<◌, length, replicate}
use Rattle.std.proofs.Common.{inl, inr, arith}
use Rattle.std.proofs.Math.Option.{Option, none, some}
use Rattle.std.proofs.Math.Decide.{dec_lt}
use Rattle.rules.specs.Basics.{at, tabulate}
use Rattle.rules.specs.Needs.{Need}
use Rattle.rules.specs.Program.{slots, Fits}
use Rattle.rules.specs.Boards.{Runs, runsb}
use Rattle.rules.specs.Preference.{best}
use Rattle.laws.specs.Program.{slots-fits, fits-slots}
use Rattle.laws.specs.Preference.{Best}
use Rattle.laws.specs.Best.{NoWorse, BestWithin-unique, best-is}
use Rattle.dominance.specs.Count.{AtLeast, at-least-next}
use Rattle.places.specs.Windows.{Windows, Seats, Leads}
use Rattle.places.specs.Tables.{Tables}
use Rattle.places.specs.Model.{placed, list_of}
use Rattle.shortest.specs.Given.{Bounds, Ready}
use Rattle.shortest.specs.Find.{list-yes, list-no, start-best}
use Rattle.shortest.specs.Starts.{plan_of, written, plan-starts}

-- the start list of the plan of C slots; `unplaced` is an entry beyond every slot
unfoldable pub run : Windows → (ℕ → ℕ) → ℕ → Tables → ℕ → ℕ → Option (List ℕ)
run W π unplaced A cap C = list_of W π 0 (replicate W.n unplaced) (plan_of A cap C)

-- ---- one length

-- where no length is left there is no list within the limit
pub no_length : (n : ℕ) (needs : List Need) (cap limit : ℕ) → 0 < limit → (C : ℕ) → limit < C → AtLeast n (Runs n needs cap) C
    → best n (runsb n needs cap) limit ≡ none
no_length n needs cap limit pos C h low =
    BestWithin-unique n limit (Runs n needs cap) (best n (runsb n needs cap) limit) none (best-is n needs cap limit)
    (λ u k f. omega (arith, low u k f.len, fits-slots n limit u pos f))

module _ (W : Windows) (Z : Seats W) (limit : ℕ) (leads : Leads W) (bounds : Bounds W limit) (cap : ℕ) where
  -- the lists that keep the rules and the cap, and the best of those within the limit
  abbrev Keeps : List ℕ → Type 0
  Keeps u = Runs W.n W.needs cap u

  abbrev best_list : Option (List ℕ)
  best_list = best W.n (runsb W.n W.needs cap) limit

  module _ (A : Tables) (C : ℕ) (in-limit : C ≤ limit) (ready : Ready W Z C A) where
    -- the search gives the best of all lists that keep the rules and the cap, and fit
    pub run-best : Best W.n (λ u. Runs W.n W.needs cap u × Fits W.n C u) (run W Z.place limit A cap C)
    unfolding run
    run-best = start-best (record { W = W; Z = Z; cap = cap; C = C; limit = limit; A = A; in-limit = in-limit; leads = leads; bounds = bounds; ready = ready })

    -- the list of the plan
    abbrev list : List ℕ
    list = placed W Z.place 0 (plan_of A cap C).sets (replicate W.n limit)

    run-yes : (plan_of A cap C).ok ≡ true → run W Z.place limit A cap C ≡ some list
    unfolding run
    run-yes e = list-yes W Z.place 0 (replicate W.n limit) (plan_of A cap C) e

    run-no : (plan_of A cap C).ok ≡ false → run W Z.place limit A cap C ≡ none
    unfolding run
    run-no e = list-no W Z.place 0 (replicate W.n limit) (plan_of A cap C) e

    module _ (low : AtLeast W.n (Runs W.n W.needs cap) C) where
      -- without a plan no list has so few slots
      pub plan-none : (plan_of A cap C).ok ≡ false → AtLeast W.n (Runs W.n W.needs cap) (suc C)
      plan-none e = at-least-next W.n Keeps C low (rw (run-no e) at run-best)

      module _ (pos : 0 < C) (e : (plan_of A cap C).ok ≡ true) where
        found : Best W.n (λ u. Keeps u × Fits W.n C u) (some list)
        found = rw (run-yes e) at run-best

        -- with one, its list has C slots
        pub plan-slots : slots (placed W Z.place 0 (plan_of A cap C).sets (replicate W.n limit)) ≡ C
        plan-slots = omega (arith, low list found.0.0 found.0.1.len, fits-slots W.n C list pos found.0.1)

        -- it is the best list within the limit
        pub plan-best : best W.n (runsb W.n W.needs cap) limit ≡ some (placed W Z.place 0 (plan_of A cap C).sets (replicate W.n limit))
        plan-best = BestWithin-unique W.n limit Keeps best_list (some list) (best-is W.n W.needs cap limit) (
          found.0.0,
          record { len = found.0.1.len; below = λ i h. omega (arith, found.0.1.below i h) },
          λ u k f. no-worse u k f.len (dec_lt C (slots u)),
        )
          where
            no-worse : (u : List ℕ) → Keeps u → length u ≡ W.n → Dec (C < slots u) → NoWorse W.n list u
            no-worse u k l (yes q) = inl (omega (arith, plan-slots))
            no-worse u k l (no q) = inr (omega (arith, plan-slots, low u k l), found.1 u (k, slots-fits W.n C u l (omega arith)))

        -- and the sets of the plan, written into an array of m zeros, are its starts
        pub plan-written : (m : ℕ) → W.n ≤ m
            → written A 0 (plan_of A cap C).sets (replicate m 0) ≡ tabulate (at (placed W Z.place 0 (plan_of A cap C).sets (replicate W.n limit))) m 0
        plan-written m h = plan-starts W Z C A ready.shows cap limit m h in-limit found.0.1

-- State numbers (document 02, request 11), by computing: of tables of document 01's cases, and with two limits. Assumes nothing.
use Rattle.std.specs.Prelude.{◌≡◌, refl, List, [], ◌∷◌, ℕ, replicate}
use Rattle.rules.specs.Basics.{tabulate}
use Rattle.rules.specs.Needs.{Need}
use Rattle.rules.specs.States.{state_digit, held_jobs, state_digits, base_three, state_number}
use Rattle.cases.specs.Computed.{width_question}

-- what is computed with: the numbers of so many slots, of n jobs with these needs, the limit and the start list
unfoldable pub numbers_of : ℕ → List Need → ℕ → List ℕ → ℕ → List ℕ
unfolding width_question state_digit held_jobs state_digits base_three
numbers_of n needs L t slots = tabulate (state_number n needs L t) slots 0

-- needs 1-3, 2-3, limit 3, starts 0 0 2: jobs 1 and 2 are running (2 + 2 * 3), then done (1 + 1 * 3), then job 3 is running
pub two-givers : numbers_of 3 ((0, 2) ∷ (1, 2) ∷ []) 3 (0 ∷ 0 ∷ 2 ∷ []) 3 ≡ 8 ∷ 4 ∷ 2 ∷ []
unfolding numbers_of
two-givers = refl

-- Figure 1 (1-3, 1-4, 1-5, 2-5, 3-6, 4-6, 5-7, 5-8)
abbrev figure1 : List Need
figure1 = (0, 2) ∷ (0, 3) ∷ (0, 4) ∷ (1, 4) ∷ (2, 5) ∷ (3, 5) ∷ (4, 6) ∷ (4, 7) ∷ []

-- its table of five slots, with limit 6: in slot 2 the windows of jobs 1 to 5 are open, and 1 2 3 are done, 4 5 are running
pub figure1-states : numbers_of 8 figure1 6 (0 ∷ 0 ∷ 1 ∷ 2 ∷ 2 ∷ 3 ∷ 3 ∷ 4 ∷ []) 5 ≡ 8 ∷ 22 ∷ 229 ∷ 229 ∷ 202 ∷ []
unfolding numbers_of
figure1-states = refl

-- the same table with limit 5, its own slots: other windows, and other numbers
pub figure1-of-slots : numbers_of 8 figure1 5 (0 ∷ 0 ∷ 1 ∷ 2 ∷ 2 ∷ 3 ∷ 3 ∷ 4 ∷ []) 5 ≡ 8 ∷ 22 ∷ 25 ∷ 76 ∷ 22 ∷ []
unfolding numbers_of
figure1-of-slots = refl

-- eight jobs without needs, limit 1: all are running, the greatest number there is
pub all-running : numbers_of 8 [] 1 (replicate 8 0) 1 ≡ 6560 ∷ []
unfolding numbers_of
all-running = refl

-- What document 01, "Preference and boards", says of the boards, in its own words and without an order of work: "A job with a giver in the slot before
-- takes that giver's board. The others, in rising number, take the lowest boards left in that slot." Assumes nothing.
use Rattle.std.specs.Prelude.{◌≡◌, ◌⊎◌, List, ℕ, ◌+◌, ◌≤◌, ◌<◌, length}
use Rattle.std.proofs.Common.{sym, ◌∙◌, arith}
use Rattle.std.proofs.Math.Option.{Option}
use Rattle.rules.specs.Basics.{at}
use Rattle.rules.specs.Needs.{Need, Gives}
use Rattle.rules.specs.Boards.{giver_before}
use Rattle.laws.specs.BoardRules.{GiverBefore, nobody, giver, giver-before}

-- "A job with a giver in the slot before": some giver of job i runs in the slot right before it
abbrev pub Inherits : List Need → List ℕ → ℕ → Type 0
Inherits needs t i = (g : ℕ) × Gives needs g i × (at t g + 1 ≡ at t i)

-- job j gets its board before job i of the same slot, one of "the others, in rising number": it has a giver in the slot before, or the lower number
abbrev pub TakesFirst : List Need → List ℕ → ℕ → ℕ → Type 0
TakesFirst needs t j i = Inherits needs t j ⊎ (j < i)

-- board c is taken when job i comes to choose: a job of its slot that takes first has it
pub record Taken (n : ℕ) (needs : List Need) (t b : List ℕ) (i c : ℕ) : Type 0 where
  pub job : ℕ
  pub in-file : job < n
  pub beside : at t job ≡ at t i
  pub first : TakesFirst needs t job i
  pub has-it : at b job ≡ c

-- board c is "left in that slot" when job i comes to choose; boards count from 1
pub record Left (n : ℕ) (needs : List Need) (t b : List ℕ) (i c : ℕ) : Type 0 where
  pub from-1 : 1 ≤ c
  pub not_taken : ¬ Taken n needs t b i c

-- board c is the lowest of these
pub record LowestLeft (n : ℕ) (needs : List Need) (t b : List ℕ) (i c : ℕ) : Type 0 where
  pub left : Left n needs t b i c
  pub lowest : (d : ℕ) → Left n needs t b i d → c ≤ d

-- the boards b are given to the n jobs as the two sentences say
pub record GivenBoards (n : ℕ) (needs : List Need) (t b : List ℕ) : Type 0 where
  pub len : length b ≡ n
  pub handed-on : (g k : ℕ) → Gives needs g k → at t g + 1 ≡ at t k → at b k ≡ at b g
  pub others : (i : ℕ) → i < n → ¬ Inherits needs t i → LowestLeft n needs t b i (at b i)

-- whether a job has a giver in the slot before can be told
pub dec-inherits : (needs : List Need) (t : List ℕ) (i : ℕ) → Dec (Inherits needs t i)
dec-inherits needs t i = go (giver_before needs t i) (giver-before needs t i)
  where
    go : (o : Option ℕ) → GiverBefore needs t i o → Dec (Inherits needs t i)
    go _ (nobody k) = no (λ w. k w.0 w.1 w.2)
    go _ (giver g a e) = yes (g, a, e)

module _ (n : ℕ) (needs : List Need) (t : List ℕ) where
  -- two lists of boards agree on the jobs that take first before job i
  abbrev pub SameFirst : List ℕ → List ℕ → ℕ → Type 0
  SameFirst b d i = (j : ℕ) → j < n → at t j ≡ at t i → TakesFirst needs t j i → at b j ≡ at d j

  -- then the same boards are left
  left-same : (b d : List ℕ) (i c : ℕ) → SameFirst b d i → Left n needs t b i c → Left n needs t d i c
  left-same b d i c same k = record {
    from-1 = k.from-1;
    not_taken = λ w. k.not_taken (record {
      job = w.job;
      in-file = w.in-file;
      beside = w.beside;
      first = w.first;
      has-it = same w.job w.in-file w.beside w.first ∙ w.has-it;
    });
  }

  -- and the same is the lowest
  pub lowest-same : (b d : List ℕ) (i c : ℕ) → SameFirst b d i → LowestLeft n needs t b i c → LowestLeft n needs t d i c
  lowest-same b d i c same k = record {
    left = left-same b d i c same k.left;
    lowest = λ a w. k.lowest a (left-same d b i a (λ j l e f. sym (same j l e f)) w);
  }

  -- only one board is the lowest
  pub lowest-one : (b : List ℕ) (i c d : ℕ) → LowestLeft n needs t b i c → LowestLeft n needs t b i d → c ≡ d
  lowest-one b i c d h k = omega (arith, h.lowest d k.left, k.lowest c h.left)

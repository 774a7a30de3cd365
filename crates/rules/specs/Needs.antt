-- Needs and circles (document 01, "The rules a table keeps", question 11). Jobs are counted from 0 here. Assumes nothing.
use Rattle.std.specs.Prelude.{Bool, false, ◌&&◌, ℕ, zero, suc, ◌<◌, get_or, replicate, eqb}
use mathlib.Core.List.{List, [], ◌∷◌, ◌++◌, Memᴰ}
use Rattle.rules.specs.Basics.{choose, imp, all, any, range, tabulate}

-- a need, (giver, taker): an arc of the precedence graph, predecessor and successor
abbrev pub Need : Type 0
Need = ℕ × ℕ

-- job g gives to job k
abbrev pub Gives : List Need → ℕ → ℕ → Type 0
Gives needs g k = Memᴰ (g, k) needs

-- the same as a test
unfoldable pub givesb : List Need → ℕ → ℕ → Bool
givesb needs g k = any (λ d. eqb d.0 g && eqb d.1 k) needs

-- "A repeated need counts once": d goes behind the needs, unless it is among them (document 02, request 6)
unfoldable pub insert_need : List Need → Need → List Need
insert_need needs d = choose (givesb needs d.0 d.1) needs (needs ++ d ∷ [])

-- the needs are between the n jobs
abbrev pub NeedsIn : ℕ → List Need → Type 0
NeedsIn n needs = (g k : ℕ) → Gives needs g k → (g < n) × (k < n)

-- a chain of needs, giver to taker, from a to b: a path of the precedence graph
pub data Chain (needs : List Need) : ℕ → ℕ → Type 0 where
  one : (a b : ℕ) → Gives needs a b → Chain needs a b
  more : (a b c : ℕ) → Gives needs a b → Chain needs b c → Chain needs a c

-- "A circle is a chain of needs, giver to taker, that leads from a job back to it": a cycle
abbrev pub Circle : List Need → Type 0
Circle needs = (a : ℕ) × Chain needs a a

-- the test for circles: n rounds, each marks the jobs whose givers were all marked before (law `circle-free`: true exactly where there is no circle)
abbrev pub marked : List Bool → ℕ → Bool
marked q i = get_or q i false

unfoldable pub givers_marked : List Need → List Bool → ℕ → Bool
givers_marked needs q i = all (λ d. imp (eqb d.1 i) (marked q d.0)) needs

unfoldable pub rounds : ℕ → List Need → ℕ → List Bool
rounds n needs zero = replicate n false
rounds n needs (suc f) = let q = rounds n needs f in tabulate (givers_marked needs q) n 0

-- "Are the needs free of circles?" (question 11)
unfoldable pub circle_free : ℕ → List Need → Bool
circle_free n needs = let q = rounds n needs n in all (marked q) (range n 0)

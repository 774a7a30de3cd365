-- Needs that follow from others: the transitive arcs of the precedence graph (document 02, request 5). Jobs are counted from 0 here. Assumes nothing.
use Rattle.std.specs.Prelude.{Bool, false, not, ◌&&◌, ◌||◌, List, [], ◌∷◌, ◌++◌, map, ℕ, zero, suc, length, drop, replicate, leb, eqb}
use Rattle.rules.specs.Sizes.{pairs_size}
use Rattle.rules.specs.Basics.{choose, at, any, filter, range, tabulate}
use Rattle.rules.specs.Fields.{Answer, refused, got, ask, after, value, fields_but}
use Rattle.rules.specs.Needs.{Need, Gives, givesb, Chain, marked, circle_free}
use Rattle.rules.specs.JobFile.{is_need, need_of, read_file}

-- ---- which needs follow

-- the needs other than d
unfoldable pub others : Need → List Need → List Need
others d needs = filter (λ e. not (eqb e.0 d.0 && eqb e.1 d.1)) needs

-- the need of k for g is one of "those whose giver reaches the taker by a path of two or more other needs": one from g to the job `next`, then a chain to k
pub record Implied (needs : List Need) (g k : ℕ) : Type 0 where
  pub need : Gives needs g k
  pub next : ℕ
  pub first : Gives (others (g, k) needs) g next
  pub rest : Chain (others (g, k) needs) next k

-- ---- the same as a test, for n jobs without a circle (law `implied-is`)

-- the jobs that a chain leads to from job a are found in n rounds: each marks the takers of a and of what was marked before
unfoldable pub reached_by : List Need → ℕ → List Bool → ℕ → Bool
reached_by needs a q i = any (λ d. eqb d.1 i && (eqb d.0 a || marked q d.0)) needs

-- after so many rounds
unfoldable pub reached : ℕ → List Need → ℕ → ℕ → List Bool
reached n needs a zero = replicate n false
reached n needs a (suc f) = let q = reached n needs a f in tabulate (reached_by needs a q) n 0

-- a chain leads from a to b
unfoldable pub reachesb : ℕ → List Need → ℕ → ℕ → Bool
reachesb n needs a b = marked (reached n needs a n) b

-- a taker of the giver of d reaches the taker of d
unfoldable pub impliedb : ℕ → List Need → Need → Bool
impliedb n needs d = any (λ e. eqb e.0 d.0 && reachesb n needs e.1 d.1) needs

-- ---- the list: "in rising order of giver, then taker"

-- the takers of g whose need for it follows
unfoldable pub implied_takers : ℕ → List Need → ℕ → List ℕ
implied_takers n needs g = filter (λ k. givesb needs g k && impliedb n needs (g, k)) (range n 0)

-- those of c givers from g up
unfoldable pub implied_from : ℕ → List Need → ℕ → ℕ → List Need
implied_from n needs zero g = []
implied_from n needs (suc c) g = map (λ k. (g, k)) (implied_takers n needs g) ++ implied_from n needs c (suc g)

-- those of all n jobs
unfoldable pub implied_needs : ℕ → List Need → List Need
implied_needs n needs = implied_from n needs n 0

-- "a file that the questions up to 11 refuse prints that refusal instead"
unfoldable pub implied_in : List ℕ → Answer (List Need)
implied_in file =
    after (read_file file) (λ f.
    let n = length f.jobs in
    ask (circle_free n f.needs) 11 (got (implied_needs n f.needs)))

-- ---- what is given and left: how many pairs, or the refusal, and every entry of the lent list

pub record Listing : Type 0 where
  pub answer : Answer ℕ
  pub list : List ℕ

-- "giver and taker", as the file numbers them, one pair behind the other
unfoldable pub pair_numbers : List Need → List ℕ
pair_numbers [] = []
pair_numbers (d ∷ ds) = suc d.0 ∷ suc d.1 ∷ pair_numbers ds

-- a refusal leaves the list as it was; behind the pairs it is as it was
unfoldable pub listed : Answer (List Need) → List ℕ → Listing
listed (refused q) list = record { answer = refused q; list = list }
listed (got ds) list = let ns = pair_numbers ds in record { answer = got (length ds); list = ns ++ drop (length ns) list }

-- has the list room for the pairs of every file? (1); then 2 to 11 and 21
unfoldable pub list_implied : List ℕ → List ℕ → Listing
list_implied file list =
    choose (leb pairs_size (length list))
    (listed (implied_in file) list)
    (record { answer = refused 1; list = list })

-- ---- "Striking all of them from a file"

-- the needs but those of ds
unfoldable pub struck : List Need → List Need → List Need
struck ds needs = filter (λ d. not (givesb ds d.0 d.1)) needs

-- the field at offset a is one of the needs ds
unfoldable pub need_at : List Need → List ℕ → ℕ → Bool
need_at ds bs a = let d = need_of (at bs a) (value bs a) in is_need (at bs a) && givesb ds d.0 d.1

-- the bytes of a file without the fields of the needs ds
unfoldable pub strike : List Need → List ℕ → List ℕ
strike ds bs = fields_but (need_at ds bs) (length bs) bs 0

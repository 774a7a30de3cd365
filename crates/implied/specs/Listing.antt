-- What the functions that write the list give. Assumes nothing.
use mathlib.Core.List.{List, [], ◌++◌, map, Memᴰ}
use Rattle.std.specs.Prelude.{ℕ, zero, suc, ◌-◌, ◌<◌, Result}
use Rattle.rules.specs.Sizes.{max_jobs}
use Rattle.rules.specs.Basics.{filter}
use Rattle.rules.specs.Needs.{Need}
use Rattle.rules.specs.Implied.{Listing, pair_numbers}
use Rattle.jobset.specs.declared.Set.{Set}
use Rattle.jobset.specs.Sets.{intersection}
use Rattle.needrows.specs.Rows.{word_at, takers_behind}
use Rattle.refusals.specs.declared.Refusal.{Refusal}
use Rattle.refusals.specs.Refusals.{answer_of, refusal_number}
use Rattle.implied.specs.Beyond.{in_row}

-- the numbers of the pairs of giver g with the takers ks
abbrev pub pairs_of : ℕ → List ℕ → List ℕ
pairs_of g ks = pair_numbers (map (λ k. (g, k)) ks)

-- these are jobs of a file
abbrev pub Few : List ℕ → Type 0
Few ks = (k : ℕ) → Memᴰ k ks → k < max_jobs

-- the takers in word w of the row of g that stand beyond it too
abbrev pub both_at : List ℕ → List ℕ → ℕ → ℕ → Set
both_at takers beyond g w = intersection (word_at takers g w) (word_at beyond g w)

-- the takers of g from word w on, among n jobs, that stand beyond it too
abbrev pub follows_behind : List ℕ → List ℕ → ℕ → ℕ → ℕ → List ℕ
follows_behind takers beyond n g w = filter (in_row beyond g) (takers_behind takers n g w)

-- all of them
abbrev pub follows_of : List ℕ → List ℕ → ℕ → ℕ → List ℕ
follows_of takers beyond n g = follows_behind takers beyond n g 0

-- the numbers of their pairs with g
abbrev pub row_from : List ℕ → List ℕ → ℕ → ℕ → ℕ → List ℕ
row_from takers beyond n g w = pairs_of g (follows_behind takers beyond n g w)

-- the needs of c givers from g up for such takers
unfoldable pub follows_from : List ℕ → List ℕ → ℕ → ℕ → ℕ → List Need
follows_from takers beyond n zero g = []
follows_from takers beyond n (suc c) g = map (λ k. (g, k)) (follows_of takers beyond n g) ++ follows_from takers beyond n c (suc g)

-- the numbers of those of all n givers from g up
abbrev pub rows_from : List ℕ → List ℕ → ℕ → ℕ → List ℕ
rows_from takers beyond n g = pair_numbers (follows_from takers beyond n (n - g) g)

-- an answer, with the list that it leaves
unfoldable pub listing_of : Result ℕ Refusal → List ℕ → Listing
listing_of r list = record { answer = answer_of r; list = list }

-- the number of each answer: 0 for a list
unfoldable pub listed_number : Result ℕ Refusal → ℕ
listed_number r = refusal_number r

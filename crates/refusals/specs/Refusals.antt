-- The numbers of the refusals (document 01, "The questions"; 21: document 02, CR 13), and a result as an answer of the rules. Assumes nothing.
use Rattle.std.specs.Prelude.{◌≡◌, ℕ, ◌≤◌, Result, Ok, Err}
use Rattle.std.proofs.Common.{arith, refl}
use Rattle.rules.specs.Fields.{Answer, refused, got, number_of}
use Rattle.refusals.specs.declared.Refusal.{Refusal}
use Rattle.refusals.specs.declared.Refusal.TheVariants.{ShortBuffer, LongFile, CutField, UnknownTag, MisplacedTag, BadValue, TooManyJobs, BadNeed, Incomplete}
use Rattle.refusals.specs.declared.Refusal.TheVariants.{Circle, TooWide, NoPlan, BadTable, BadLabel, BadSize, SharedCell, BrokenNeed, BoardsTwice}

-- the number of the question that said no
abbrev pub number : Refusal → ℕ
number ShortBuffer = 1
number LongFile = 2
number CutField = 3
number UnknownTag = 4
number MisplacedTag = 5
number BadValue = 6
number TooManyJobs = 7
number BadNeed = 8
number Incomplete = 10
number Circle = 11
number TooWide = 12
number NoPlan = 13
number BadTable = 14
number BadLabel = 15
number BadSize = 16
number SharedCell = 17
number BrokenNeed = 18
number BoardsTwice = 21

-- a result as an answer: what was got, or the number
abbrev pub answer_of : {A : Type 0} → Result A Refusal → Answer A
answer_of (Ok a) = got a
answer_of (Err r) = refused (number r)

-- the number of a result: 0 where nothing was refused
abbrev pub refusal_number : {A : Type 0} → Result A Refusal → ℕ
refusal_number (Ok a) = 0
refusal_number (Err r) = number r

-- no question has the number 0
pub positive : (q : Refusal) → 1 ≤ number q
positive ShortBuffer = omega arith
positive LongFile = omega arith
positive CutField = omega arith
positive UnknownTag = omega arith
positive MisplacedTag = omega arith
positive BadValue = omega arith
positive TooManyJobs = omega arith
positive BadNeed = omega arith
positive Incomplete = omega arith
positive Circle = omega arith
positive TooWide = omega arith
positive NoPlan = omega arith
positive BadTable = omega arith
positive BadLabel = omega arith
positive BadSize = omega arith
positive SharedCell = omega arith
positive BrokenNeed = omega arith
positive BoardsTwice = omega arith

pub no-zero : (q : Refusal) → number q ≡ 0 → ⊥
no-zero q e = omega (arith, positive q)

-- the number of a result is that of its answer
pub number-answered : {A : Type 0} (r : Result A Refusal) → refusal_number r ≡ number_of (answer_of r)
unfolding number_of
number-answered (Ok a) = refl
number-answered (Err q) = refl
